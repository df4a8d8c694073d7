-- What stands at the mark, by what it tells.
use Rattle.std.proofs.Common.{◌≡◌, ◌⊎◌, ℕ, ◌<◌, ◌&&◌, Bool, true, false, if◌then◌else◌, cond, List, [], length, codes, nat_eq, nat_lt, bytes_eq, ◌==◌, Option, None, Some, is_some, Result, Ok, Err, IfOk, MatchResult, refl, ap, sym, ◌∙◌, subst, inl, inr, true≢false, arith}
use Rattle.std.proofs.lemmas.Bool.Decides.{nat_tests}
use Rattle.std.specs.Cmp.Lexicographic.{bytes_decides, pointwise}
use Rattle.std.specs.FinMap.{get, remove}
use Rattle.std.specs.List.{starts_with}
use Rattle.std.specs.Prelude.{option_map}
use Rattle.cluster_tree.specs.Causes.{given, unless}
use Rattle.cluster_tree.specs.Contents.{Contents, Entry, FileEntry, FolderEntry, IsTree, LinkEntry, entry_at, is_file, is_folder, or_root}
use Rattle.cluster_tree.specs.Marks.{is_there, marks_of}
use Rattle.cluster_tree.specs.PathValue.{PathValue}
use Rattle.cluster_tree.specs.Tree.{bytes_in, file_of}
use Rattle.clusters.specs.Marks.{unfinished, with_mark}
use Rattle.clusters.specs.WholeFile.{all_of}
use Rattle.clusters.specs.declared.fault.ClusterFault.{ClusterFault}
use Rattle.file_edits.proofs.LawLemmas.{rootless}
use Rattle.gated_marks.specs.Gates.{IsComplete}
use Rattle.replay_copies.specs.Ended.{HasMark}
use Rattle.replay_copies.specs.Laid.{IsShut, mark_head, mark_of, whole_gate}
use Rattle.replay_copies.specs.Left.{HasFile}
use Rattle.replay_copies.proofs.BeginLemmas.{parent_is}
use Rattle.replay_copies.proofs.ListLemmas.{mark-size}
use Rattle.replay_list.specs.Mark.{is_complete, is_open, mark_told}
use Rattle.replay_list.specs.declared.listed.Listed.{Listed}
use Rattle.replay_list.specs.declared.mark.ReplayMark.TheVariants as mark
use Rattle.replay_restore.specs.Loose.{loose_line}
use Rattle.stored_replay.specs.Faults.{told_by}
use Rattle.stored_replay.specs.Marks.{is_old_file, marks_seen, own_bytes}
use Rattle.stored_replay.specs.Shadows.{first_lost}
use Rattle.stored_replay.specs.Stored.{IsTold, Told, told, NotBegun, Begun, HadEnded, list_in, told_as, told_in, told_of, with_copies}
use Rattle.stored_replay.specs.declared.fault.StoredReplayFault.{StoredReplayFault}
use Rattle.stored_replay.specs.declared.fault.StoredReplayFault.TheVariants as fault
use Rattle.without_file.specs.Without.{without_file}
use Rattle.stored_replay.specs.declared.stored.StoredReplay.{StoredReplay}
use Rattle.stored_replay.specs.declared.stored.StoredReplay.TheVariants as stored
use Rattle.replay_restore.proofs.LooseLemmas.{unloose_closed}
use Rattle.replay_restart.specs.Meant.{CanGoOn, or_loose, taken_of, taken_up}
use Rattle.replay_restart.specs.declared.fault.RestartFault.{RestartFault}
use Rattle.replay_restart.proofs.OverLemmas.{has-there}

-- ---- what is taken up was told

loose-begun : (root : PathValue) (listed : List Listed) (told : Told) (o : Option ℕ) → or_loose root listed o ≡ Ok told → told ≡ Begun listed
loose-begun root listed told None e = let same : Begun listed ≡ told = cc in sym same
loose-begun root listed told (Some n) e = absurd cc

by-told : (root : PathValue) (told : Told) (r : Result Told StoredReplayFault) → taken_up root r ≡ Ok told → r ≡ Ok told
by-told root told (Ok NotBegun) e = let same : NotBegun ≡ told = cc in ap (λ t. Ok t) same
by-told root told (Ok (Begun listed)) e = ap (λ t. Ok t) (sym (loose-begun root listed told (loose_line root listed) e))
by-told root told (Ok HadEnded) e = let same : HadEnded ≡ told = cc in ap (λ t. Ok t) same
by-told root told (Err f) e = absurd cc

pub taken-told : (c : Contents) (root : PathValue) (told : Told) → taken_of c root ≡ Ok told → told_of c root ≡ Ok told
taken-told c root told is = by-told root told (told_of c root) is

-- ---- told, by the bytes at the mark

-- the marks are looked at first
pub record ByMark (c : Contents) (root : PathValue) (meant : Told) : Type 0 where
  pub seen : unfinished (marks_seen c root) root ≡ None
  pub told : told_in c root (own_bytes c root) ≡ Ok meant

pub by-mark : (c : Contents) (root : PathValue) (told : Told) → told_of c root ≡ Ok told → ByMark c root told
by-mark c root told is = by (unfinished (marks_seen c root) root) refl is
  where
    by : (o : Option ClusterFault) → unfinished (marks_seen c root) root ≡ o → given (told_by (unless o (Ok (own_bytes c root)))) (told_in c root) ≡ Ok told → ByMark c root told
    by None seen e = record { seen = seen; told = e }
    by (Some f) seen e = absurd cc

none_by : (root : PathValue) (a b d : Bool) → with_mark (marks_of root) (cond a (Some 0) (cond b (Some 1) (cond d (Some 2) None))) ≡ None → b ≡ false
none_by root true b d h = absurd cc
none_by root false true d h = absurd cc
none_by root false false d h = refl

none-there : (c : Contents) (root : PathValue) → unfinished c root ≡ None → is_there c (mark_of root) ≡ false
unfolding unfinished
none-there c root none = none_by root (is_there c (marks_of root).rewind) (is_there c (marks_of root).replay) (is_there c (marks_of root).reset) none

-- a file stands there, or nothing
at-mark : (c : Contents) (root : PathValue) → unfinished (marks_seen c root) root ≡ None → (is_file (entry_at c (mark_of root)) ≡ true) ⊎ (entry_at c (mark_of root) ≡ None)
at-mark c root none = by (entry_at c (mark_of root)) refl
  where
    unseen : (o : Option Entry) → entry_at c (mark_of root) ≡ o → is_old_file (all_of (file_of o)) ≡ false → is_file o ≡ false → is_there c (mark_of root) ≡ false
    unseen o e old off =
        none-there c root (ap (λ x. unfinished x root) (sym (ap (λ p. cond (is_old_file (all_of (file_of p))) c (without_file c (mark_of root))) e ∙ ap (λ b. cond b c (without_file c (mark_of root))) old
        ∙ ap (λ p. cond (is_file p) (remove c (mark_of root)) c) e ∙ ap (λ b. cond b (remove c (mark_of root)) c) off)) ∙ none)

    by : (o : Option Entry) → entry_at c (mark_of root) ≡ o → (is_file (entry_at c (mark_of root)) ≡ true) ⊎ (entry_at c (mark_of root) ≡ None)
    by None e = inr e
    by (Some (FileEntry bytes)) e = inl (ap is_file e)
    by (Some (FolderEntry bad)) e = absurd (true≢false (sym (ap is_some e) ∙ unseen (Some (FolderEntry bad)) e refl refl))
    by (Some LinkEntry) e = absurd (true≢false (sym (ap is_some e) ∙ unseen (Some LinkEntry) e refl refl))

-- ---- the bytes of a file there

complete-told : (bytes : List ℕ) → IsComplete mark_head whole_gate bytes → is_complete bytes ≡ true
complete-told bytes whole =
    let long : nat_lt 18 (length bytes) ≡ true = (let more : 18 < length bytes = omega (arith, whole.longer) in grind (arith, nat_tests)) in
    ap (λ b. b && starts_with nat_eq bytes (codes "pg_walreplay 2\n") && is_open 15 bytes) long
    ∙ ap (λ l. pointwise nat_eq (codes "pg_walreplay 2\n") l && is_open 15 bytes) whole.front
    ∙ ap (λ n. n == 43) whole.is_open

-- what is told of a list that was read isn't that none was begun
listed-begun : (c : Contents) (root : PathValue) (r : Result (List Listed) StoredReplayFault) → given r (with_copies c root) ≡ Ok NotBegun → ⊥
listed-begun c root (Ok listed) e = by (first_lost c root 0 listed) e
  where
    by : (o : Option PathValue) → unless (option_map fault.ShadowDiffers o) (Ok (Begun listed)) ≡ Ok NotBegun → ⊥
    by None e = cc
    by (Some p) e = cc
listed-begun c root (Err f) e = cc

ended-begun : (r : Result (List Listed) StoredReplayFault) → given r (λ listed. Ok HadEnded) ≡ Ok NotBegun → ⊥
ended-begun (Ok listed) e = cc
ended-begun (Err f) e = cc

not-begun : (c : Contents) (root : PathValue) (bytes : List ℕ) (old whole ended : Bool)
    → told_as c root bytes (if old then mark.Version1 else if whole && ended then mark.Ended else if whole then mark.Complete else mark.NotComplete) ≡ Ok NotBegun → (old ≡ true) ⊎ (whole ≡ false)
not-begun c root bytes true whole ended e = inl refl
not-begun c root bytes false true true e = absurd (ended-begun (list_in root bytes) e)
not-begun c root bytes false true false e = absurd (listed-begun c root (list_in root bytes) e)
not-begun c root bytes false false ended e = inr refl

old-short : (bytes : List ℕ) → bytes_eq bytes (codes "pg_walreplay 1\n") ≡ true → length mark_head < length bytes → ⊥
old-short bytes old longer =
    let same : bytes ≡ codes "pg_walreplay 1\n" = (bytes_decides bytes (codes "pg_walreplay 1\n")).0 old in
    omega (arith, longer, ap length same)

shut-bytes : (c : Contents) (root : PathValue) (bytes : List ℕ) → told_as c root bytes (mark_told bytes) ≡ Ok NotBegun → IsShut bytes
shut-bytes c root bytes e whole = by (not-begun c root bytes (bytes_eq bytes (codes "pg_walreplay 1\n")) (is_complete bytes) (is_open 16 bytes) e)
  where
    by : (bytes_eq bytes (codes "pg_walreplay 1\n") ≡ true) ⊎ (is_complete bytes ≡ false) → ⊥
    by (inl old) = old-short bytes old whole.longer
    by (inr off) = true≢false (sym (complete-told bytes whole) ∙ off)

-- no replay was begun: nothing stands at the mark, or a file that holds no whole list
pub record IsUnbegun (c : Contents) (root : PathValue) : Type 0 where
  pub mark : (is_file (entry_at c (mark_of root)) ≡ true) ⊎ (entry_at c (mark_of root) ≡ None)
  pub shut : IsShut (bytes_in (entry_at c (mark_of root)))

none-shut : IsShut []
none-shut whole = omega (arith, whole.longer)

pub unbegun : (c : Contents) (root : PathValue) → taken_of c root ≡ Ok NotBegun → IsUnbegun c root
unbegun c root taken =
    let by = by-mark c root NotBegun (taken-told c root NotBegun taken) in
    record { mark = at-mark c root by.seen; shut = shut (entry_at c (mark_of root)) by.told }
  where
    shut : (o : Option Entry) → told_in c root (all_of (file_of o)) ≡ Ok NotBegun → IsShut (bytes_in o)
    shut None e = none-shut
    shut (Some (FolderEntry bad)) e = none-shut
    shut (Some (FileEntry bytes)) e = shut-bytes c root bytes e
    shut (Some LinkEntry) e = none-shut

-- ---- a replay was begun, or had ended

-- its list was read, no copy is lost, and the mark is longer than its head
pub record WasBegun (c : Contents) (root : PathValue) (listed : List Listed) : Type 0 where
  pub has : HasMark root c
  pub copies : first_lost c root 0 listed ≡ None

begun-copies : (c : Contents) (root : PathValue) (listed : List Listed) (r : Result (List Listed) StoredReplayFault) → given r (with_copies c root) ≡ Ok (Begun listed) → first_lost c root 0 listed ≡ None
begun-copies c root listed (Ok found) e = by (first_lost c root 0 found) refl e
  where
    by : (o : Option PathValue) → first_lost c root 0 found ≡ o → unless (option_map fault.ShadowDiffers o) (Ok (Begun found)) ≡ Ok (Begun listed) → first_lost c root 0 listed ≡ None
    by None none e = let same : found ≡ listed = cc in subst (λ l. first_lost c root 0 l ≡ None) same none
    by (Some p) none e = absurd cc
begun-copies c root listed (Err f) e = absurd cc

ended-not : (listed : List Listed) (r : Result (List Listed) StoredReplayFault) → given r (λ found. Ok HadEnded) ≡ Ok (Begun listed) → ⊥
ended-not listed (Ok found) e = cc
ended-not listed (Err f) e = cc

long-mark : (bytes : List ℕ) → is_complete bytes ≡ true → length mark_head < length bytes
long-mark bytes whole = long (nat_lt 18 (length bytes)) refl whole
  where
    long : (b : Bool) → nat_lt 18 (length bytes) ≡ b → (b && starts_with nat_eq bytes (codes "pg_walreplay 2\n") && is_open 15 bytes) ≡ true → length mark_head < length bytes
    long true is e = let more : 18 < length bytes = grind (arith, nat_tests) in omega (arith, more)
    long false is e = absurd (true≢false (sym e))

was-begun : (c : Contents) (root : PathValue) (bytes : List ℕ) (listed : List Listed) (old whole ended : Bool) → is_complete bytes ≡ whole
    → told_as c root bytes (if old then mark.Version1 else if whole && ended then mark.Ended else if whole then mark.Complete else mark.NotComplete) ≡ Ok (Begun listed)
    → (length mark_head < length bytes) × (first_lost c root 0 listed ≡ None)
was-begun c root bytes listed true whole ended is e = absurd cc
was-begun c root bytes listed false true true is e = absurd (ended-not listed (list_in root bytes) e)
was-begun c root bytes listed false true false is e = (long-mark bytes is, begun-copies c root listed (list_in root bytes) e)
was-begun c root bytes listed false false ended is e = absurd cc

pub begun-in : (c : Contents) (root : PathValue) (listed : List Listed) → told_in c root (own_bytes c root) ≡ Ok (Begun listed) → WasBegun c root listed
begun-in c root listed told = by (entry_at c (mark_of root)) refl told
  where
    by : (o : Option Entry) → entry_at c (mark_of root) ≡ o → told_in c root (all_of (file_of o)) ≡ Ok (Begun listed) → WasBegun c root listed
    by None e is = absurd cc
    by (Some (FolderEntry bad)) e is = absurd cc
    by (Some (FileEntry bytes)) e is =
        let two = was-begun c root bytes listed (bytes_eq bytes (codes "pg_walreplay 1\n")) (is_complete bytes) (is_open 16 bytes) refl is in
        record { has = subst (λ o. length mark_head < length (bytes_in o)) (sym e) two.0; copies = two.1 }
    by (Some LinkEntry) e is = absurd cc

pub begun-was : (c : Contents) (root : PathValue) (listed : List Listed) → told_of c root ≡ Ok (Begun listed) → WasBegun c root listed
begun-was c root listed told = begun-in c root listed (by-mark c root (Begun listed) told).told

pub ended-file : (c : Contents) (root : PathValue) → taken_of c root ≡ Ok HadEnded → HasFile root c
ended-file c root taken = by (entry_at c (mark_of root)) refl (by-mark c root HadEnded (taken-told c root HadEnded taken)).told
  where
    by : (o : Option Entry) → entry_at c (mark_of root) ≡ o → told_in c root (all_of (file_of o)) ≡ Ok HadEnded → is_file (entry_at c (mark_of root)) ≡ true
    by None e is = absurd cc
    by (Some (FolderEntry bad)) e is = absurd cc
    by (Some (FileEntry bytes)) e is = ap is_file e
    by (Some LinkEntry) e is = absurd cc

-- ---- the root

some-got : (root : PathValue) (c : Contents) → is_some (entry_at c (mark_of root)) ≡ true → is_some (get c (mark_of root)) ≡ true
some-got root c is = by (get c (mark_of root)) is
  where
    by : (o : Option Entry) → is_some (or_root (mark_of root).parts o) ≡ true → is_some o ≡ true
    by None e = absurd (true≢false (sym e ∙ ap is_some (rootless (mark_of root).parts (omega (arith, mark-size root)))))
    by (Some entry) e = refl

pub root-folder : (root : PathValue) (c : Contents) → IsTree c → is_some (entry_at c (mark_of root)) ≡ true → is_folder (entry_at c root) ≡ true
root-folder root c tree there = subst (λ p. is_folder (entry_at c p) ≡ true) (parent_is root) (tree (mark_of root) (some-got root c there))

-- ---- what was begun can be brought back

-- each line of its list is at its place
abbrev NotLoose : PathValue → StoredReplay → Type 0
NotLoose root stored.NotBegun = Unit {0}
NotLoose root (stored.Begun listed) = loose_line root listed.items ≡ None
NotLoose root stored.HadEnded = Unit {0}

can-go : (c : Contents) (root : PathValue) (t : StoredReplay) → IsTree c → told_of c root ≡ Ok (told t) → IsTold root t → NotLoose root t → CanGoOn root c t
can-go c root stored.NotBegun tree is list taken = tt
can-go c root (stored.Begun listed) tree is list taken =
    let was = begun-was c root listed.items is in
    let closed = unloose_closed root listed.items taken in
    record {
      list = list;
      closed = closed.0;
      label = closed.1;
      copies = was.copies;
      rooted = root-folder root c tree (has-there root c was.has);
    }
can-go c root stored.HadEnded tree is list taken = tt

pub can-go_on : (Q : RestartFault → Type 0) (c : Contents) (root : PathValue) (t : StoredReplay) (r : Result StoredReplay RestartFault) → IsTree c → told_of c root ≡ Ok (told t) → IsTold root t
    → MatchResult r (λ taken. (taken ≡ t) × NotLoose root t) Q → IfOk r (CanGoOn root c)
can-go_on Q c root t (Ok taken) tree is list value = subst (CanGoOn root c) (sym value.0) (can-go c root t tree is list value.1)
can-go_on Q c root t (Err e) tree is list value = tt

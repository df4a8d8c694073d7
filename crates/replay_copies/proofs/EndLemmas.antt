-- What is left at any moment of the end of a replay's mark and copies.
use Rattle.std.proofs.Common.{◌≡◌, ◌≢◌, ◌⊎◌, ℕ, ◌<◌, ◌||◌, Bool, true, false, List, [], ◌∷◌, length, get_or, Option, None, Some, Result, Ok, Err, OnOk, IfErr, refl, ap, sym, ◌∙◌, subst, inl, inr, ⊎_elim, true≢false, arith}
use Rattle.std.specs.FinMap.{insert, remove}
use Rattle.cluster_tree.specs.Apart.{is_held}
use Rattle.cluster_tree.specs.Change.{all_changed, first_refusal, or_next}
use Rattle.cluster_tree.specs.Contents.{Contents, Entry, FileEntry, FolderEntry, IsTree, LinkEntry, entry_at, is_file}
use Rattle.cluster_tree.specs.Folders.{removal_refusal}
use Rattle.cluster_tree.specs.PathOrder.{path_eq}
use Rattle.cluster_tree.specs.PathValue.{PathValue}
use Rattle.cluster_tree.specs.Run.{Course, Moment}
use Rattle.cluster_tree.specs.Step.{TornBytes, TornFile}
use Rattle.cluster_tree.specs.Stops.{LeavesOnly}
use Rattle.cluster_tree.specs.Tree.{bytes_at, bytes_in}
use Rattle.cluster_tree.specs.declared.file_fault.FileFault.{FileFault}
use Rattle.cluster_tree.specs.declared.file_fault.FileFault.TheVariants as fault
use Rattle.cluster_tree.proofs.ContentsLemmas.{entry-put, entry-put_other, entry-removed, entry-removed_other, write_refusal-put, written-put}
use Rattle.cluster_tree.proofs.Images.{HoldsSince, holds_first, leaves_only}
use Rattle.cluster_tree.proofs.OrderLemmas.{path_eq-same}
use Rattle.file_edits.specs.Answers.{IsFree}
use Rattle.file_edits.specs.Clearing.{tree_removed}
use Rattle.file_edits.specs.Own.{GoesOn}
use Rattle.file_edits.proofs.ClearLemmas.{tree-empty}
use Rattle.file_edits.proofs.ClearRefusalLemmas.{tree-unchanged}
use Rattle.file_edits.proofs.EditLemmas.{put-same}
use Rattle.file_edits.proofs.LawLemmas.{rootless}
use Rattle.gated_marks.specs.Changes.{gate_opened}
use Rattle.gated_marks.specs.Gates.{plus}
use Rattle.gated_marks.specs.Left.{IsEndLeft as IsMarkEndLeft, IsLeftTorn, with_mark}
use Rattle.gated_marks.proofs.ByteLemmas.{torn-byte}
use Rattle.marked_runs.specs.Moments.{IsUntouched, StandsSynced}
use Rattle.marked_runs.specs.Runs.{ended}
use Rattle.marked_runs.proofs.StopLemmas.{leaves_on, leaves_weaker}
use Rattle.stored_replay.specs.Shadows.{shadow_folder}
use Rattle.replay_copies.specs.Left.{IsKept, LeavesFile}
use Rattle.replay_copies.specs.Ended.{Clears, Ends, HasMark, IsClearLeft, IsEndLeft, IsGone, StandsGone, ended_gate, with_gate}
use Rattle.replay_copies.specs.Laid.{SameElsewhere, mark_head, mark_of}
use Rattle.replay_copies.proofs.FillLemmas.{SameOutside, kept-over, outside-holds}
use Rattle.replay_copies.proofs.ListLemmas.{held-no_mark, mark-off, mark-size, off-both}
use Rattle.replay_copies.proofs.PathLemmas.{folder-size}

-- the contents with that gate open
abbrev pub with_ended : PathValue → Contents → Contents
with_ended root c = with_mark c (mark_of root) (with_gate root c plus)

-- ---- refusals

changed-unfree : (p : PathValue) → IsFree (fault.Changed p) → ⊥
changed-unfree p (inl e) = absurd cc
changed-unfree p (inr (inl e)) = absurd cc
changed-unfree p (inr (inr (inl e))) = absurd cc
changed-unfree p (inr (inr (inr none))) = none

pub kept-unchanged : (root : PathValue) (c : Contents) (r : Result (Unit {0}) FileFault) (p : PathValue) → IfErr r (IsKept root c) → r ≢ Err (fault.Changed p)
kept-unchanged root c (Ok u) p kept same = absurd cc
kept-unchanged root c (Err e) p (inl free) same = let is : e ≡ fault.Changed p = cc in changed-unfree p (let P : FileFault → Type 0 = IsFree in subst P is free)
kept-unchanged root c (Err e) p (inr refused) same = let is : e ≡ fault.Changed p = cc in tree-unchanged (shadow_folder root) c p (refused ∙ ap (λ x. Err x) is)

pub if-kept : (root : PathValue) (c : Contents) (r : Result (Unit {0}) FileFault) → IfErr r IsFree → IfErr r (IsKept root c)
if-kept root c (Ok u) free = tt
if-kept root c (Err f) free = inl free

if-file : (root : PathValue) (c : Contents) (r : Result (Unit {0}) FileFault) → IfErr r IsFree → IfErr r (LeavesFile root c)
if-file root c (Ok u) free = tt
if-file root c (Err f) free = inl free

if-over : (root : PathValue) (c : Contents) (bytes : List ℕ) (r : Result (Unit {0}) FileFault) → IfErr r (IsKept root (with_mark c (mark_of root) bytes)) → IfErr r (IsKept root c)
if-over root c bytes (Ok u) kept = tt
if-over root c bytes (Err e) kept = kept-over root c bytes e kept

file-kept : (used : Bool) (o : Option Entry) → is_file o ≡ true → removal_refusal used o ≡ None
file-kept used None e = absurd (true≢false (sym e))
file-kept used (Some (FolderEntry bad)) e = absurd (true≢false (sym e))
file-kept used (Some (FileEntry bytes)) e = refl
file-kept used (Some LinkEntry) e = absurd (true≢false (sym e))

-- ---- the removal of both

either : (a b : Bool) → (a || b) ≡ true → (a ≡ true) ⊎ (b ≡ true)
either true b e = inl refl
either false b e = inr e

module _ (root : PathValue) (a : Moment) (file : is_file (entry_at a.state.contents (mark_of root)) ≡ true) where
  abbrev c : Contents
  c = a.state.contents

  abbrev mark : PathValue
  mark = mark_of root

  outside-clear : (x : Contents) → SameOutside root c x → IsClearLeft root c x
  outside-clear x same = record { elsewhere = λ q off. same q (off-both root q off).1; told = inl (same mark (mark-off root)) }

  module _ (b : Moment) (course : Course a b) (goes : GoesOn (is_held (shadow_folder root)) a.state.calls b.state.calls) (outside : SameOutside root c b.state.contents) where
    abbrev B : Contents
    B = b.state.contents

    holds : StandsSynced c a → HoldsSince (SameOutside root c) (SameOutside root c) a b
    holds synced = outside-holds root c a b synced course goes

    folder-left : StandsSynced c a → LeavesOnly (IsClearLeft root c) a.stops b.stops
    folder-left synced =
        let h = holds synced in
        leaves_only (IsClearLeft root c) (SameOutside root c) a b (record { now = h.now; later = h.later; left = h.left; had = λ x had. outside-clear x (h.had x had) }) outside-clear

    pub folder-broken : (e : FileFault) → IsKept root c e → Clears root a b (Err e)
    folder-broken e kept = record {
      elsewhere = (outside-clear B outside).elsewhere;
      done = tt;
      refused = kept;
      stands = inr (ap is_file (outside mark (mark-off root)) ∙ file);
      left = folder-left;
    }

    pub end-allowed : first_refusal B (ended mark) ≡ None
    end-allowed = ap (λ o. or_next o None) (file-kept _ (entry_at B mark) (ap is_file (outside mark (mark-off root)) ∙ file))

    module _ (tree : IsTree B) (removed : tree_removed (shadow_folder root) c ≡ Ok B) where
      gone-after : (x : Contents) → x ≡ remove B mark → IsGone root x
      gone-after x is q at = ap (λ y. entry_at y q) is ∙ ⊎_elim
          (λ (same : path_eq q mark ≡ true). ap (entry_at (remove B mark)) (path_eq-same q mark same) ∙ entry-removed B mark ∙ rootless mark.parts (omega (arith, mark-size root)))
          (λ (held : is_held (shadow_folder root) q ≡ true). entry-removed_other B mark q (held-no_mark root q held) ∙ tree-empty (shadow_folder root) c B q tree (omega (arith, folder-size root)) removed held)
          (either (path_eq q mark) (is_held (shadow_folder root) q) at)

      gone-clear : (x : Contents) → x ≡ remove B mark → IsClearLeft root c x
      gone-clear x is = record {
        elsewhere = λ q off. ap (λ y. entry_at y q) is ∙ entry-removed_other B mark q (off-both root q off).0 ∙ outside q (off-both root q off).1;
        told = inr (gone-after x is);
      }

      end-clear : StandsSynced c a → (x : Contents) → IsMarkEndLeft b mark x → IsClearLeft root c x
      end-clear synced x (inl (inl is)) = outside-clear x (subst (SameOutside root c) (sym is) outside)
      end-clear synced x (inl (inr image)) = outside-clear x ((holds synced).left x image)
      end-clear synced x (inr is) = gone-clear x is

      gone-done : (d : Moment) (r : Result (Unit {0}) FileFault) → OnOk r (StandsSynced (remove B mark) d) → OnOk r (StandsGone root d)
      gone-done d (Err f) done = tt
      gone-done d (Ok u) done = record { gone = gone-after d.state.contents done.now; synced = record { now = refl; left = λ x image. done.left x image ∙ sym done.now } }

      pub all-cleared : (d : Moment) (r : Result (Unit {0}) FileFault) → Course b d → LeavesOnly (IsMarkEndLeft b mark) b.stops d.stops → OnOk r (StandsSynced (remove B mark) d) → IfErr r IsFree
          → ((p : PathValue) → p ≢ mark → entry_at d.state.contents p ≡ entry_at B p) → Clears root a d r
      all-cleared d r more torn done free elsewhere = record {
        elsewhere = λ q off. elsewhere q (off-both root q off).0 ∙ outside q (off-both root q off).1;
        done = gone-done d r done;
        refused = if-kept root c r free;
        stands = if-file root d.state.contents r free;
        left = λ synced. leaves_on (IsClearLeft root c) a b d course more (folder-left synced) (leaves_weaker (IsMarkEndLeft b mark) (IsClearLeft root c) b.stops d.stops (end-clear synced) torn);
      }

pub clear-still : (root : PathValue) (a : Moment) → StandsSynced a.state.contents a → LeavesOnly (IsClearLeft root a.state.contents) a.stops a.stops
clear-still root a synced =
    let P : Contents → Type 0 = IsClearLeft root a.state.contents in
    let here : P a.state.contents = record { elsewhere = λ q off. refl; told = inl refl } in
    leaves_only P P a a (holds_first P P a here (λ x left. subst P (sym (synced.left x left)) here)) (λ x q. q)

-- ---- the second gate

file-there : (o : Option Entry) → length mark_head < length (bytes_in o) → o ≡ Some (FileEntry (bytes_in o))
file-there None more = absurd (omega (arith, more))
file-there (Some (FolderEntry bad)) more = absurd (omega (arith, more))
file-there (Some (FileEntry bytes)) more = refl
file-there (Some LinkEntry) more = absurd (omega (arith, more))

untorn : (at n : ℕ) (bytes : List ℕ) → TornBytes at n bytes bytes
untorn at n bytes = record { before = refl; after = refl; no_shorter = omega arith; no_longer = omega arith }

module _ (root : PathValue) (a : Moment) (has : HasMark root a.state.contents) where
  abbrev c' : Contents
  c' = a.state.contents

  abbrev mark' : PathValue
  mark' = mark_of root

  abbrev old : List ℕ
  old = bytes_at c' mark'

  mark-is : entry_at c' mark' ≡ Some (FileEntry old)
  mark-is = file-there (entry_at c' mark') has

  same-is : with_mark c' mark' old ≡ c'
  same-is = put-same c' mark' old mark-is

  inside : ended_gate < length old
  inside = omega (arith, has)

  pub gate-end_allowed : first_refusal c' (gate_opened mark' ended_gate) ≡ None
  gate-end_allowed = ap (λ x. first_refusal x (gate_opened mark' ended_gate)) (sym same-is) ∙ ap (λ o. or_next o None) (write_refusal-put c' mark' old ended_gate (omega (arith, has)))

  pub gate-end_is : all_changed c' (gate_opened mark' ended_gate) ≡ with_ended root c'
  gate-end_is = ap (λ x. all_changed x (gate_opened mark' ended_gate)) (sym same-is) ∙ written-put c' mark' old (plus ∷ []) ended_gate

  put-still : (bytes : List ℕ) (x : Contents) → x ≡ with_mark c' mark' bytes → TornBytes ended_gate 1 old bytes → IsEndLeft root c' x
  put-still bytes x is torn = record {
    elsewhere = λ q off. ap (λ y. entry_at y q) is ∙ entry-put_other c' mark' q (FileEntry bytes) (off-both root q off).0;
    told = inl (record {
      byte = get_or bytes ended_gate 0;
      mark = ap (λ y. entry_at y mark') is ∙ entry-put c' mark' (FileEntry bytes) ∙ ap (λ l. Some (FileEntry l)) (torn-byte ended_gate old bytes inside torn);
      copies = λ shut q held. ap (λ y. entry_at y q) is ∙ entry-put_other c' mark' q (FileEntry bytes) (held-no_mark root q held);
    });
  }

  pub here-still : (x : Contents) → x ≡ c' → IsEndLeft root c' x
  here-still x is = put-still old x (is ∙ sym same-is) (untorn ended_gate 1 old)

  untouched-same : StandsSynced c' a → (x : Contents) → IsUntouched a x → x ≡ c'
  untouched-same synced x (inl is) = is
  untouched-same synced x (inr image) = synced.left x image

  torn-still : StandsSynced c' a → (x : Contents) → IsLeftTorn a mark' ended_gate 1 x → IsEndLeft root c' x
  torn-still synced x left =
      let before = untouched-same synced left.0 left.1 in
      ⊎_elim (λ (is : x ≡ left.0). here-still x (is ∙ before))
      (λ (t : TornFile mark' ended_gate 1 left.0 x). put-still t.torn x (t.is ∙ ap (λ y. insert y mark' (FileEntry t.torn)) before) (subst (λ y. TornBytes ended_gate 1 (bytes_at y mark') t.torn) before t.range)) left.2

  module _ (b : Moment) (torn : LeavesOnly (IsLeftTorn a mark' ended_gate 1) a.stops b.stops) where
    gate-left : StandsSynced c' a → LeavesOnly (IsEndLeft root c') a.stops b.stops
    gate-left synced = leaves_weaker (IsLeftTorn a mark' ended_gate 1) (IsEndLeft root c') a.stops b.stops (torn-still synced) torn

    pub gate-end_broken : (e : FileFault) → IsFree e → ((p : PathValue) → p ≢ mark' → entry_at b.state.contents p ≡ entry_at c' p) → Ends root a b (Err e)
    gate-end_broken e free elsewhere = record { elsewhere = λ q off. elsewhere q (off-both root q off).0; done = tt; refused = inl free; stands = inl free; left = gate-left }

    module _ (opened : StandsSynced (all_changed c' (gate_opened mark' ended_gate)) b) where
      b-is : b.state.contents ≡ with_ended root c'
      b-is = opened.now ∙ gate-end_is

      mark-ended : entry_at b.state.contents mark' ≡ Some (FileEntry (with_gate root c' plus))
      mark-ended = ap (λ y. entry_at y mark') b-is ∙ entry-put c' mark' (FileEntry (with_gate root c' plus))

      pub ended-file : is_file (entry_at b.state.contents mark') ≡ true
      ended-file = ap is_file mark-ended

      ended-elsewhere : (x : Contents) → SameElsewhere root b.state.contents x → SameElsewhere root c' x
      ended-elsewhere x same q off = same q off ∙ ap (λ y. entry_at y q) b-is ∙ entry-put_other c' mark' q (FileEntry (with_gate root c' plus)) (off-both root q off).0

      clear-end : (x : Contents) → IsClearLeft root b.state.contents x → IsEndLeft root c' x
      clear-end x cleared = record {
        elsewhere = ended-elsewhere x cleared.elsewhere;
        told = ⊎_elim (λ same. inl (record { byte = plus; mark = same ∙ mark-ended; copies = λ shut. absurd (shut refl) })) (λ gone. inr gone) cleared.told;
      }

      pub all-ended : (d : Moment) (r : Result (Unit {0}) FileFault) → Course a b → Course b d → Clears root b d r → Ends root a d r
      all-ended d r one other clears = record {
        elsewhere = ended-elsewhere d.state.contents clears.elsewhere;
        done = clears.done;
        refused = if-over root c' (with_gate root c' plus) r (subst (λ y. IfErr r (IsKept root y)) b-is clears.refused);
        stands = clears.stands;
        left = λ synced. leaves_on (IsEndLeft root c') a b d one other (gate-left synced)
            (leaves_weaker (IsClearLeft root b.state.contents) (IsEndLeft root c') b.stops d.stops clear-end (clears.left (record { now = refl; left = λ x image. opened.left x image ∙ sym opened.now })));
      }

  pub end-still : StandsSynced c' a → LeavesOnly (IsEndLeft root c') a.stops a.stops
  end-still synced =
      let P : Contents → Type 0 = IsEndLeft root c' in
      leaves_only P P a a (holds_first P P a (here-still c' refl) (λ x left. here-still x (synced.left x left))) (λ x q. q)

-- What is left at any moment from a synced head of the mark to all that is laid.
use Rattle.std.proofs.Common.{◌≡◌, ◌≢◌, ℕ, ◌<◌, Bool, true, false, eqb, List, [], ◌∷◌, ◌++◌, length, get_or, None, Some, is_some, Result, Ok, Err, OnOk, IfErr, refl, ap, sym, ◌∙◌, subst, inl, inr, ⊎_elim, true≢false, append_assoc, append-nil, arith}
use Rattle.std.proofs.lemmas.Bool.Decides.{eqb_tells}
use Rattle.std.specs.List.{All}
use Rattle.cluster_tree.specs.Apart.{is_held}
use Rattle.cluster_tree.specs.Change.{all_changed, first_refusal, or_next}
use Rattle.cluster_tree.specs.Contents.{Contents, FileEntry, entry_at, is_file, is_folder}
use Rattle.cluster_tree.specs.PathValue.{PathValue, below}
use Rattle.cluster_tree.specs.Run.{Course, Moment, Occurs}
use Rattle.cluster_tree.specs.Step.{TornBytes, TornFile}
use Rattle.cluster_tree.specs.Stops.{LeavesOnly}
use Rattle.cluster_tree.specs.Tree.{bytes_in}
use Rattle.cluster_tree.specs.declared.file_fault.FileFault.{FileFault}
use Rattle.cluster_tree.specs.declared.tree.ChangeCall.{ChangeCall}
use Rattle.cluster_tree.proofs.ContentsLemmas.{entry-put, entry-put_other, put-put, write_refusal-put}
use Rattle.cluster_tree.proofs.HoldLemmas.{holds-held}
use Rattle.cluster_tree.proofs.RootLemmas.{holds-below}
use Rattle.cluster_tree.proofs.Images.{Each, HoldsSince, KeptBy, holds_first, holds_run, leaves_only}
use Rattle.cluster_tree.proofs.RunLemmas.{calls_on}
use Rattle.cluster_tree.proofs.StepLemmas.{step-elsewhere}
use Rattle.file_edits.specs.Answers.{IsFree}
use Rattle.file_edits.specs.Own.{GoesOn, Same, More, is_on, is_own}
use Rattle.file_edits.proofs.EditLemmas.{put-same}
use Rattle.gated_marks.specs.Changes.{gate_opened, text_laid}
use Rattle.gated_marks.specs.Gates.{plus, whole_mark}
use Rattle.gated_marks.specs.Left.{IsLeftTorn, with_mark}
use Rattle.gated_marks.proofs.BeginLemmas.{gate-after, text-after}
use Rattle.gated_marks.proofs.ByteLemmas.{short-incomplete, shut-incomplete, torn-gate, torn-shut}
use Rattle.marked_runs.specs.Moments.{IsUntouched, StandsSynced}
use Rattle.marked_runs.proofs.StopLemmas.{leaves_on, leaves_weaker}
use Rattle.replay_list.specs.Text.{list_text}
use Rattle.replay_list.specs.declared.listed.Listed.{Listed}
use Rattle.replay_list.specs.declared.listed.Listed.TheVariants.{Folder, Page, File}
use Rattle.stored_replay.specs.Shadows.{shadow_at, shadow_folder}
use Rattle.replay_copies.specs.Copying.{CanCopy, Fills, IsFilling, StandsLaid}
use Rattle.replay_copies.specs.Left.{IsKept, LeavesFile}
use Rattle.replay_copies.specs.Laid.{AreCopied, HasCopies, IsLaid, IsReady, IsShut, SameElsewhere, mark_head, mark_of, whole_gate}
use Rattle.replay_copies.proofs.ClearLemmas.{SameBelow, refused-same}
use Rattle.replay_copies.proofs.CopyLemmas.{IsSame, all-same, all-still, copied-from}
use Rattle.replay_copies.proofs.ListLemmas.{IsOffMark, all-off_mark, all-outside, held-no_mark, mark-off, off-both, root-no_mark}
use Rattle.replay_copies.proofs.PathLemmas.{copy-is_held, folder-is_held}

-- ---- calls in the folder of copies

-- all outside it is the same
abbrev pub SameOutside : PathValue → (old new : Contents) → Type 0
SameOutside root old new = (q : PathValue) → is_held (shadow_folder root) q ≡ false → entry_at new q ≡ entry_at old q

own-keeps : (root : PathValue) (old : Contents) (call : ChangeCall) → is_own (is_held (shadow_folder root)) call ≡ true → KeptBy (SameOutside root old) call
own-keeps root old call is c d same step q off =
    step-elsewhere call c d q step (λ at. true≢false (sym is ∙ ap (is_on (is_held (shadow_folder root))) at ∙ off)) ∙ same q off

each-last : {A : Type 0} (P : A → Type 0) (xs : List A) (x : A) → Each P xs → P x → Each P (xs ++ x ∷ [])
each-last P [] x all last = (last, tt)
each-last P (y ∷ xs) x all last = (all.0, each-last P xs x all.1 last)

goes-kept : (root : PathValue) (synced : Contents) (old new : List ChangeCall) → GoesOn (is_held (shadow_folder root)) old new → (xs : List ChangeCall) × (new ≡ old ++ xs) × Each (KeptBy (SameOutside root synced)) xs
goes-kept root synced old _ Same = ([], sym (append-nil old), tt)
goes-kept root synced old _ (More {mid} call before is grew) =
    let (xs, e, all) = goes-kept root synced old mid before in
    (xs ++ call ∷ [], grew ∙ ap (λ l. l ++ call ∷ []) e ∙ append_assoc old xs (call ∷ []), each-last (KeptBy (SameOutside root synced)) xs call all (own-keeps root synced call is))

pub outside-holds : (root : PathValue) (synced : Contents) (a b : Moment) → StandsSynced synced a → Course a b → GoesOn (is_held (shadow_folder root)) a.state.calls b.state.calls → HoldsSince (SameOutside root synced) (SameOutside root synced) a b
outside-holds root synced a b stands course goes =
    let Q : Contents → Type 0 = SameOutside root synced in
    let (xs, grew, kept) = goes-kept root synced a.state.calls b.state.calls goes in
    holds_run Q Q a a b xs (holds_first Q Q a (λ q off. ap (λ x. entry_at x q) stands.now) (λ c left q off. ap (λ x. entry_at x q) (stands.left c left))) (λ c same. same) course grew kept

-- ---- refusals under the mark

same-below : (root : PathValue) (c : Contents) (bytes : List ℕ) → SameBelow (shadow_folder root) (with_mark c (mark_of root) bytes) c
same-below root c bytes parts = entry-put_other c (mark_of root) (below (shadow_folder root) parts) (FileEntry bytes) (held-no_mark root _ (holds-held (shadow_folder root) _ (holds-below (shadow_folder root) parts)))

pub kept-over : (root : PathValue) (c : Contents) (bytes : List ℕ) (e : FileFault) → IsKept root (with_mark c (mark_of root) bytes) e → IsKept root c e
kept-over root c bytes e (inl free) = inl free
kept-over root c bytes e (inr refused) = inr (refused-same (shadow_folder root) (with_mark c (mark_of root) bytes) c e (same-below root c bytes) refused)

-- ---- from a synced head on

head-shut : IsShut mark_head
head-shut = short-incomplete mark_head whole_gate mark_head (omega arith)

inside : whole_gate < length mark_head
inside = omega arith

gate-shut : get_or mark_head whole_gate 0 ≢ plus
gate-shut e = omega (arith, e)

text-shut : (text : List ℕ) → IsShut (mark_head ++ text)
text-shut text = shut-incomplete mark_head whole_gate (mark_head ++ text) (inr gate-shut)

torn-text-shut : (n : ℕ) (torn : List ℕ) → TornBytes (length mark_head) n mark_head torn → IsShut torn
torn-text-shut n torn t = shut-incomplete mark_head whole_gate torn (inr (λ e. gate-shut (sym (torn-shut mark_head torn whole_gate n inside t) ∙ e)))

module _ (root : PathValue) (listed : List Listed) (c : Contents) (ready : IsReady root listed c) where
  abbrev pub mark : PathValue
  mark = mark_of root

  abbrev pub text : List ℕ
  text = list_text root listed

  abbrev pub headed : Contents
  headed = with_mark c mark mark_head

  off-mark : (q : PathValue) → q ≢ mark → entry_at headed q ≡ entry_at c q
  off-mark q other = entry-put_other c mark q (FileEntry mark_head) other

  same-each : (one : Listed) → IsOffMark root one → IsSame c headed one
  same-each (Folder path) off = tt
  same-each (Page path size) off = tt
  same-each (File path size) off = off-mark path off

  same : All (IsSame c headed) listed
  same = all-same (IsOffMark root) c headed listed same-each (all-off_mark root listed ready.list.areas)

  pub can-copy : CanCopy root listed headed
  can-copy = record {
    rooted = ap is_folder (off-mark root (root-no_mark root)) ∙ ready.rooted;
    found = all-still c headed listed same ready.found;
    outside = all-outside root listed ready.list.areas;
    counts = ready.list.counts;
  }

  module _ (d : Contents) (outside : SameOutside root headed d) where
    pub outside-elsewhere : SameElsewhere root c d
    outside-elsewhere q off = let two = off-both root q off in outside q two.1 ∙ off-mark q two.0

    pub outside-mark : entry_at d mark ≡ Some (FileEntry mark_head)
    outside-mark = outside mark (mark-off root) ∙ entry-put c mark (FileEntry mark_head)

    pub outside-filling : IsFilling root listed c d
    outside-filling = record { elsewhere = outside-elsewhere; bytes = mark_head; mark = outside-mark; told = inl head-shut }

    pub outside-is : d ≡ with_mark d mark mark_head
    outside-is = sym (put-same d mark mark_head outside-mark)

    put-elsewhere : (bytes : List ℕ) → SameElsewhere root c (with_mark d mark bytes)
    put-elsewhere bytes q off = entry-put_other d mark q (FileEntry bytes) (off-both root q off).0 ∙ outside-elsewhere q off

    pub put-filling : (bytes : List ℕ) → IsShut bytes → IsFilling root listed c (with_mark d mark bytes)
    put-filling bytes shut = record { elsewhere = put-elsewhere bytes; bytes = bytes; mark = entry-put d mark (FileEntry bytes); told = inl shut }

    -- ---- the text

    text-none : (more : List ℕ) → first_refusal (with_mark d mark mark_head) (text_laid mark (length mark_head) more) ≡ None
    text-none [] = refl
    text-none (byte ∷ more) = ap (λ o. or_next o None) (write_refusal-put d mark mark_head (length mark_head) (omega arith))

    pub text-unrefused : first_refusal d (text_laid mark (length mark_head) text) ≡ None
    text-unrefused = ap (λ x. first_refusal x (text_laid mark (length mark_head) text)) outside-is ∙ text-none text

    pub text-is : all_changed d (text_laid mark (length mark_head) text) ≡ with_mark d mark (mark_head ++ text)
    text-is = ap (λ x. all_changed x (text_laid mark (length mark_head) text)) outside-is ∙ text-after d mark mark_head text

    pub torn-filling : (n : ℕ) (x : Contents) → TornFile mark (length mark_head) n d x → IsFilling root listed c x
    torn-filling n x t =
        subst (IsFilling root listed c) (sym t.is) (put-filling t.torn (torn-text-shut n t.torn (subst (λ b. TornBytes (length mark_head) n b t.torn) (ap bytes_in outside-mark) t.range)))

    -- ---- the gate

    abbrev pub texted : Contents
    texted = with_mark d mark (mark_head ++ text)

    pub gate-unrefused : first_refusal texted (gate_opened mark whole_gate) ≡ None
    gate-unrefused = ap (λ o. or_next o None) (write_refusal-put d mark (mark_head ++ text) whole_gate (omega arith))

    pub texted-filling : IsFilling root listed c texted
    texted-filling = put-filling (mark_head ++ text) (text-shut text)

    module _ (copies : HasCopies root listed headed d) where
      at-copy : (q : PathValue) (bytes : List ℕ) → is_held (shadow_folder root) q ≡ true → entry_at (with_mark d mark bytes) q ≡ entry_at d q
      at-copy q bytes held = entry-put_other d mark q (FileEntry bytes) (held-no_mark root q held)

      abbrev pub whole : Contents
      whole = with_mark d mark (whole_mark mark_head whole_gate text)

      copied-still : (files : ℕ) (more : List Listed) → AreCopied root headed d files more → AreCopied root headed whole files more
      copied-still files [] copied = tt
      copied-still files (Folder path ∷ more) copied = (tt, copied-still files more copied.1)
      copied-still files (Page path size ∷ more) copied = (tt, copied-still files more copied.1)
      copied-still files (File path size ∷ more) copied =
          (at-copy (shadow_at root files) (whole_mark mark_head whole_gate text) (copy-is_held root files) ∙ copied.0, copied-still _ more copied.1)

      pub whole-laid : IsLaid root listed c whole
      whole-laid = record {
        mark = entry-put d mark (FileEntry (whole_mark mark_head whole_gate text));
        copies = record {
          folder = at-copy (shadow_folder root) _ (folder-is_held root) ∙ copies.folder;
          copied = copied-from root c headed whole 0 listed same (copied-still 0 listed copies.copied);
          only = λ q held some. copies.only q held (ap is_some (sym (at-copy q (whole_mark mark_head whole_gate text) held)) ∙ some);
        };
        elsewhere = put-elsewhere (whole_mark mark_head whole_gate text);
      }

      pub whole-filling : IsFilling root listed c whole
      whole-filling = record { elsewhere = whole-laid.elsewhere; bytes = _; mark = whole-laid.mark; told = inr whole-laid }

      gate-torn : (x : Contents) (torn : List ℕ) (b : Bool) → eqb (get_or torn whole_gate 0) plus ≡ b → x ≡ with_mark d mark torn → TornBytes whole_gate 1 (mark_head ++ text) torn → IsFilling root listed c x
      gate-torn x torn true is at t =
          let opened : get_or torn whole_gate 0 ≡ plus = grind (arith, eqb_tells) in
          subst (IsFilling root listed c) (sym (at ∙ ap (with_mark d mark) (torn-gate mark_head text torn whole_gate inside t opened))) whole-filling
      gate-torn x torn false is at t =
          let shut : get_or torn whole_gate 0 ≢ plus = λ e. true≢false (sym (let yes : eqb (get_or torn whole_gate 0) plus ≡ true = grind (arith, eqb_tells) in yes) ∙ is) in
          subst (IsFilling root listed c) (sym at) (put-filling torn (shut-incomplete mark_head whole_gate torn (inr shut)))

      pub gate-filling : (x : Contents) → TornFile mark whole_gate 1 texted x → IsFilling root listed c x
      gate-filling x t =
          gate-torn x t.torn _ refl (t.is ∙ put-put d mark (FileEntry (mark_head ++ text)) (FileEntry t.torn))
          (subst (λ b. TornBytes whole_gate 1 b t.torn) (ap bytes_in (entry-put d mark (FileEntry (mark_head ++ text)))) t.range)

  -- ---- moments

  module _ (a b : Moment) (stands : StandsSynced headed a) (course : Course a b) (goes : GoesOn (is_held (shadow_folder root)) a.state.calls b.state.calls) where
    abbrev B : Contents
    B = b.state.contents

    holds : HoldsSince (SameOutside root headed) (SameOutside root headed) a b
    holds = outside-holds root headed a b stands course goes

    pub copies-left : LeavesOnly (IsFilling root listed c) a.stops b.stops
    copies-left = leaves_only (IsFilling root listed c) (SameOutside root headed) a b (record { now = holds.now; later = holds.later; left = holds.left; had = λ x had. outside-filling x (holds.had x had) }) outside-filling

    pub copies-broken : (e : FileFault) → IsKept root a.state.contents e → Fills root listed c a b (Err e)
    copies-broken e kept = record {
      elsewhere = outside-elsewhere B holds.now;
      done = tt;
      refused = kept-over root c mark_head e (subst (λ x. IsKept root x e) stands.now kept);
      stands = inr (ap is_file (holds.now mark (mark-off root) ∙ entry-put c mark (FileEntry mark_head)));
      left = copies-left;
    }

    untouched-outside : (x : Contents) → IsUntouched b x → SameOutside root headed x
    untouched-outside x (inl is) = subst (SameOutside root headed) (sym is) holds.now
    untouched-outside x (inr image) = holds.left x image

    text-torn : (n : ℕ) (x : Contents) → IsLeftTorn b mark (length mark_head) n x → IsFilling root listed c x
    text-torn n x left =
        ⊎_elim (λ (is : x ≡ left.0). outside-filling x (subst (SameOutside root headed) (sym is) (untouched-outside left.0 left.1)))
        (λ (t : TornFile mark (length mark_head) n left.0 x). torn-filling left.0 (untouched-outside left.0 left.1) n x t) left.2

    pub text-allowed : first_refusal B (text_laid mark (length mark_head) text) ≡ None
    text-allowed = text-unrefused B holds.now

    module _ (d : Moment) (on : Course b d) (torn : LeavesOnly (IsLeftTorn b mark (length mark_head) (length text)) b.stops d.stops) where
      pub text-left : LeavesOnly (IsFilling root listed c) a.stops d.stops
      text-left = leaves_on (IsFilling root listed c) a b d course on copies-left (leaves_weaker (IsLeftTorn b mark (length mark_head) (length text)) (IsFilling root listed c) b.stops d.stops (text-torn (length text)) torn)

      pub text-broken : (e : FileFault) → IsFree e → ((p : PathValue) → p ≢ mark → entry_at d.state.contents p ≡ entry_at B p) → Fills root listed c a d (Err e)
      text-broken e free elsewhere = record {
        elsewhere = λ q off. elsewhere q (off-both root q off).0 ∙ outside-elsewhere B holds.now q off;
        done = tt;
        refused = inl free;
        stands = inl free;
        left = text-left;
      }

      module _ (synced : StandsSynced (all_changed B (text_laid mark (length mark_head) text)) d) (copies : HasCopies root listed a.state.contents B) where
        D-is : d.state.contents ≡ texted B holds.now
        D-is = synced.now ∙ text-is B holds.now

        copies-here : HasCopies root listed headed B
        copies-here = subst (λ x. HasCopies root listed x B) stands.now copies

        pub gate-allowed : first_refusal d.state.contents (gate_opened mark whole_gate) ≡ None
        gate-allowed = ap (λ x. first_refusal x (gate_opened mark whole_gate)) D-is ∙ gate-unrefused B holds.now

        untouched-texted : (x : Contents) → IsUntouched d x → x ≡ texted B holds.now
        untouched-texted x (inl is) = is ∙ D-is
        untouched-texted x (inr image) = synced.left x image ∙ text-is B holds.now

        open-torn : (x : Contents) → IsLeftTorn d mark whole_gate 1 x → IsFilling root listed c x
        open-torn x left =
            let before = untouched-texted left.0 left.1 in
            ⊎_elim (λ (is : x ≡ left.0). subst (IsFilling root listed c) (sym (is ∙ before)) (texted-filling B holds.now))
            (λ (t : TornFile mark whole_gate 1 left.0 x). gate-filling B holds.now copies-here x (subst (λ y. TornFile mark whole_gate 1 y x) before t)) left.2

        E-is : all_changed d.state.contents (gate_opened mark whole_gate) ≡ whole B holds.now copies-here
        E-is = ap (λ x. all_changed x (gate_opened mark whole_gate)) D-is ∙ gate-after B mark mark_head whole_gate text inside

        done-laid : (e : Moment) (r : Result (Unit {0}) FileFault) → OnOk r (StandsSynced (all_changed d.state.contents (gate_opened mark whole_gate)) e) → OnOk r (StandsLaid root listed c e)
        done-laid e (Err f) done = tt
        done-laid e (Ok u) done = record {
          laid = subst (IsLaid root listed c) (sym (done.now ∙ E-is)) (whole-laid B holds.now copies-here);
          synced = record { now = refl; left = λ x image. done.left x image ∙ sym done.now };
        }

        free-refusal : (r : Result (Unit {0}) FileFault) → IfErr r IsFree → IfErr r (IsKept root c)
        free-refusal (Ok u) free = tt
        free-refusal (Err f) free = inl free

        free-file : (r : Result (Unit {0}) FileFault) → IfErr r IsFree → (x : Contents) → IfErr r (LeavesFile root x)
        free-file (Ok u) free x = tt
        free-file (Err f) free x = inl free

        pub all-filled : (e : Moment) (r : Result (Unit {0}) FileFault) → Course d e → LeavesOnly (IsLeftTorn d mark whole_gate 1) d.stops e.stops
            → OnOk r (StandsSynced (all_changed d.state.contents (gate_opened mark whole_gate)) e) → IfErr r IsFree → ((p : PathValue) → p ≢ mark → entry_at e.state.contents p ≡ entry_at d.state.contents p) → Fills root listed c a e r
        all-filled e r more opened done free elsewhere = record {
          elsewhere = λ q off. elsewhere q (off-both root q off).0 ∙ ap (λ x. entry_at x q) D-is ∙ put-elsewhere B holds.now (mark_head ++ text) q off;
          done = done-laid e r done;
          refused = free-refusal r free;
          stands = free-file r free e.state.contents;
          left = leaves_on (IsFilling root listed c) a d e (calls_on Occurs a b d course on) more text-left (leaves_weaker (IsLeftTorn d mark whole_gate 1) (IsFilling root listed c) d.stops e.stops open-torn opened);
        }

-- What the changes of a mark that is laid whole leave, and what a stop may leave of them.
use Rattle.std.proofs.Common.{◌≡◌, ◌≢◌, ◌⊎◌, ℕ, ◌<◌, Bool, true, false, cond, List, [], ◌∷◌, ◌++◌, length, get_or, eqb, nat_lt, Option, None, Some, Result, OnOk, refl, ap, sym, ◌∙◌, subst, inl, inr, ⊎_elim, arith, rules}
use Rattle.std.proofs.lemmas.Bool.Decides.{eqb_tells}
use Rattle.std.proofs.lemmas.List.{append-nil, get_or_append_left, length-append}
use Rattle.cluster_tree.specs.Change.{Cuts, MakesFile, Syncs, Writes, all_changed, first_refusal, or_next}
use Rattle.cluster_tree.specs.Contents.{Contents, Entry, FileEntry, FolderEntry, LinkEntry, entry_at, is_file}
use Rattle.cluster_tree.specs.Frame.{Came, moment_of}
use Rattle.cluster_tree.specs.PathValue.{PathValue}
use Rattle.cluster_tree.specs.Run.{Moment}
use Rattle.cluster_tree.specs.Step.{TornBytes}
use Rattle.cluster_tree.specs.Stops.{LeavesOnly}
use Rattle.cluster_tree.specs.Tree.{bytes_at, file_of, make_refusal, refusal_past}
use Rattle.cluster_tree.specs.declared.tree.Tree.{Ghosts}
use Rattle.cluster_tree.specs.declared.tree.TreeFault.TheVariants as fault
use Rattle.cluster_tree.proofs.ChangeLemmas.{changed-in_turn}
use Rattle.cluster_tree.proofs.ContentsLemmas.{write_refusal-new, write_refusal-put, written-new, written-put}
use Rattle.cluster_tree.proofs.Images.{Within}
use Rattle.cluster_tree.proofs.RunLemmas.{came_on, course_of}
use Rattle.marked_runs.specs.Moments.{StandsSynced}
use Rattle.marked_runs.specs.declared.faults.StepFault.{StepFault}
use Rattle.marked_runs.proofs.CarriedLemmas.{both_unrefused, unrefused-both}
use Rattle.marked_runs.proofs.StopLemmas.{leaves_on, leaves_weaker}
use Rattle.gated_marks.specs.Changes.{begun_gated, gate_opened, head_laid, text_laid}
use Rattle.gated_marks.specs.Gates.{plus, whole_mark}
use Rattle.gated_marks.specs.Left.{IsHeadLaid, IsLeftTorn, IsMark, IsMarkLaid, stood_at, with_mark}
use Rattle.gated_marks.proofs.ByteLemmas.{splice-behind, splice-head, torn-gate, torn-shut}
use Rattle.gated_marks.proofs.LaidLemmas.{over-left}

-- ---- the contents after them

emptied-after : (c : Contents) (mark : PathValue) (head : List ℕ) (stood : Bool) → all_changed c (cond stood (Cuts mark 0 ∷ Syncs ∷ []) (MakesFile mark ∷ []) ++ Writes mark 0 head ∷ Syncs ∷ []) ≡ with_mark c mark head
emptied-after c mark head true = written-new c mark head
emptied-after c mark head false = written-new c mark head

pub head-after : (c : Contents) (mark : PathValue) (head : List ℕ) → all_changed c (head_laid c mark head) ≡ with_mark c mark head
head-after c mark head = emptied-after c mark head (is_file (entry_at c mark))

pub text-after : (c : Contents) (mark : PathValue) (head text : List ℕ) → all_changed (with_mark c mark head) (text_laid mark (length head) text) ≡ with_mark c mark (head ++ text)
text-after c mark head [] = ap (with_mark c mark) (sym (append-nil head))
text-after c mark head (byte ∷ text) = written-put c mark head (byte ∷ text) (length head) ∙ ap (with_mark c mark) (splice-behind head (byte ∷ text))

pub gate-after : (c : Contents) (mark : PathValue) (head : List ℕ) (gate : ℕ) (text : List ℕ) → gate < length head → all_changed (with_mark c mark (head ++ text)) (gate_opened mark gate) ≡ with_mark c mark (whole_mark head gate text)
gate-after c mark head gate text inside = written-put c mark (head ++ text) (plus ∷ []) gate ∙ ap (with_mark c mark) (splice-head head text gate plus inside)

-- of all three
pub begun-after : (c : Contents) (mark : PathValue) (head : List ℕ) (gate : ℕ) (text : List ℕ) → gate < length head → all_changed c (begun_gated c mark head gate text) ≡ with_mark c mark (whole_mark head gate text)
begun-after c mark head gate text inside =
    changed-in_turn c (head_laid c mark head ++ text_laid mark (length head) text) (gate_opened mark gate)
    ∙ ap (λ k. all_changed k (gate_opened mark gate)) (changed-in_turn c (head_laid c mark head) (text_laid mark (length head) text) ∙ ap (λ k. all_changed k (text_laid mark (length head) text)) (head-after c mark head) ∙ text-after c mark head text)
    ∙ gate-after c mark head gate text inside

-- ---- none of which is refused once the mark is there

text-unrefused : (c : Contents) (mark : PathValue) (head text : List ℕ) → first_refusal (with_mark c mark head) (text_laid mark (length head) text) ≡ None
text-unrefused c mark head [] = refl
text-unrefused c mark head (byte ∷ text) = ap (λ o. or_next o None) (write_refusal-put c mark head (length head) (omega arith))

gate-unrefused : (c : Contents) (mark : PathValue) (head text : List ℕ) (gate : ℕ) → gate < length head → first_refusal (with_mark c mark (head ++ text)) (gate_opened mark gate) ≡ None
gate-unrefused c mark head text gate inside = ap (λ o. or_next o None) (write_refusal-put c mark (head ++ text) gate (omega (arith, inside, length-append head text)))

pub begun-unrefused : (c : Contents) (mark : PathValue) (head : List ℕ) (gate : ℕ) (text : List ℕ) → gate < length head → first_refusal c (head_laid c mark head) ≡ None → first_refusal c (begun_gated c mark head gate text) ≡ None
begun-unrefused c mark head gate text inside none =
    let two = head_laid c mark head ++ text_laid mark (length head) text in
    unrefused-both c two (gate_opened mark gate)
    (unrefused-both c (head_laid c mark head) (text_laid mark (length head) text) none (ap (λ k. first_refusal k (text_laid mark (length head) text)) (head-after c mark head) ∙ text-unrefused c mark head text))
    (ap (λ k. first_refusal k (gate_opened mark gate)) (changed-in_turn c (head_laid c mark head) (text_laid mark (length head) text) ∙ ap (λ k. all_changed k (text_laid mark (length head) text)) (head-after c mark head) ∙ text-after c mark head text)
    ∙ gate-unrefused c mark head text gate inside)

-- a file is cut, and one can be made
file-cut : (o : Option Entry) → is_file o ≡ true → refusal_past (file_of o) 0 ≡ None
file-cut None e = absurd (cc e)
file-cut (Some (FolderEntry bad)) e = absurd (cc e)
file-cut (Some (FileEntry bytes)) e = let within : nat_lt (length bytes) 0 ≡ false = grind (arith, rules) in ap (λ b. cond b (Some fault.PastEnd) None) within
file-cut (Some LinkEntry) e = absurd (cc e)

head-allowed : (c : Contents) (mark : PathValue) (head : List ℕ) (stood : Bool) → is_file (entry_at c mark) ≡ stood → (stood ≡ true) ⊎ (make_refusal c mark ≡ None)
    → first_refusal c (cond stood (Cuts mark 0 ∷ Syncs ∷ []) (MakesFile mark ∷ []) ++ Writes mark 0 head ∷ Syncs ∷ []) ≡ None
head-allowed c mark head true is allowed =
    let rest : first_refusal (with_mark c mark []) (Writes mark 0 head ∷ Syncs ∷ []) ≡ None = ap (λ o. or_next o None) (write_refusal-new c mark) in
    ap (λ o. or_next o (first_refusal (with_mark c mark []) (Writes mark 0 head ∷ Syncs ∷ []))) (file-cut (entry_at c mark) is) ∙ rest
head-allowed c mark head false is (inl wrong) = absurd (cc wrong)
head-allowed c mark head false is (inr none) =
    let rest : first_refusal (with_mark c mark []) (Writes mark 0 head ∷ Syncs ∷ []) ≡ None = ap (λ o. or_next o None) (write_refusal-new c mark) in
    ap (λ o. or_next o (first_refusal (with_mark c mark []) (Writes mark 0 head ∷ Syncs ∷ []))) none ∙ rest

-- so nothing is, where a file stands at the mark or one can be made there
pub begun-allowed : (c : Contents) (mark : PathValue) (head : List ℕ) (gate : ℕ) (text : List ℕ) → gate < length head → (is_file (entry_at c mark) ≡ true) ⊎ (make_refusal c mark ≡ None) → first_refusal c (begun_gated c mark head gate text) ≡ None
begun-allowed c mark head gate text inside allowed = begun-unrefused c mark head gate text inside (head-allowed c mark head (is_file (entry_at c mark)) refl allowed)

-- ---- what a stop may leave

-- of the head
head-mark : (first : Moment) (mark : PathValue) (head : List ℕ) (gate : ℕ) (text : List ℕ) → Within (IsHeadLaid first mark (length head)) (IsMarkLaid first mark head gate text)
head-mark first mark head gate text c (inl untouched) = inl untouched
head-mark first mark head gate text c (inr but) = inr (record { before = but.before; untouched = but.untouched; bytes = but.bytes; is = but.is; so = ⊎_elim (λ e. inl e) (λ short. inr (inl (inl short))) but.so })

module _ (head : List ℕ) (gate : ℕ) (text old : List ℕ) (stood : Bool) (inside : gate < length head) (shut : get_or head gate 0 ≢ plus) where
  -- of the text behind it
  text-mark : (new : List ℕ) → TornBytes (length head) (length text) head new → IsMark stood head gate text old new
  text-mark new t = inr (inl (inr (λ is. shut (sym (torn-shut head new gate (length text) inside t) ∙ is))))

  -- of the gate
  gate-mark : (new : List ℕ) → TornBytes gate 1 (head ++ text) new → IsMark stood head gate text old new
  gate-mark new t = ⊎_elim
      (λ (is : (eqb (get_or new gate 0) plus ≡ true) × (get_or new gate 0 ≡ plus)). inr (inr (torn-gate head text new gate inside t is.1)))
      (λ (isnt : (eqb (get_or new gate 0) plus ≡ false) × (get_or new gate 0 ≢ plus)). inr (inl (inr isnt.1)))
      (eqb_tells (get_or new gate 0) plus)

  closed-mark : IsMark stood head gate text old (head ++ text)
  closed-mark = inr (inl (inr (λ is. shut (sym (get_or_append_left head text 0 gate inside) ∙ is))))

module _ {F : Type 0} (tree : Ghosts F) (mark : PathValue) (head : List ℕ) (gate : ℕ) (text : List ℕ) (inside : gate < length head) (shut : get_or head gate 0 ≢ plus) (a b : F) where
  abbrev laid : Contents → Type 0
  laid = IsMarkLaid (moment_of tree a) mark head gate text

  pub mark-head : LeavesOnly (IsHeadLaid (moment_of tree a) mark (length head)) (tree.stops a) (tree.stops b) → LeavesOnly (IsMarkLaid (moment_of tree a) mark head gate text) (tree.stops a) (tree.stops b)
  mark-head left = leaves_weaker (IsHeadLaid (moment_of tree a) mark (length head)) laid (tree.stops a) (tree.stops b) (head-mark (moment_of tree a) mark head gate text) left

  -- over a mark that holds its head
  module _ (synced : StandsSynced (with_mark (tree.contents a) mark head) (moment_of tree b)) where
    pub none-text : first_refusal (tree.contents b) (text_laid mark (length head) text) ≡ None
    none-text = ap (λ k. first_refusal k (text_laid mark (length head) text)) synced.now ∙ text-unrefused (tree.contents a) mark head text

    pub mark-text : (d : F) → Came tree a b → Came tree b d → LeavesOnly (IsHeadLaid (moment_of tree a) mark (length head)) (tree.stops a) (tree.stops b) → LeavesOnly (IsLeftTorn (moment_of tree b) mark (length head) (length text)) (tree.stops b) (tree.stops d)
        → LeavesOnly (IsMarkLaid (moment_of tree a) mark head gate text) (tree.stops a) (tree.stops d)
    mark-text d one other before after =
        let stood = stood_at (moment_of tree a) mark in
        let old = bytes_at (tree.contents a) mark in
        leaves_on laid (moment_of tree a) (moment_of tree b) (moment_of tree d) (course_of tree a b one) (course_of tree b d other) (mark-head before)
        (leaves_weaker (IsLeftTorn (moment_of tree b) mark (length head) (length text)) laid (tree.stops b) (tree.stops d)
        (λ c left. inr (over-left (moment_of tree a) (moment_of tree b) mark (length head) (length text) head (IsMark stood head gate text) synced (inr (inl (inl (omega arith)))) (text-mark head gate text old stood inside shut) c left)) after)

    pub stands-text : (d : F) → StandsSynced (all_changed (tree.contents b) (text_laid mark (length head) text)) (moment_of tree d) → StandsSynced (with_mark (tree.contents a) mark (head ++ text)) (moment_of tree d)
    stands-text d stands = subst (λ k. StandsSynced k (moment_of tree d)) (ap (λ k. all_changed k (text_laid mark (length head) text)) synced.now ∙ text-after (tree.contents a) mark head text) stands

  -- over one that holds the text too
  module _ (synced : StandsSynced (with_mark (tree.contents a) mark (head ++ text)) (moment_of tree b)) where
    pub none-gate : first_refusal (tree.contents b) (gate_opened mark gate) ≡ None
    none-gate = ap (λ k. first_refusal k (gate_opened mark gate)) synced.now ∙ gate-unrefused (tree.contents a) mark head text gate inside

    pub mark-gate : (d : F) → Came tree a b → Came tree b d → LeavesOnly (IsMarkLaid (moment_of tree a) mark head gate text) (tree.stops a) (tree.stops b) → LeavesOnly (IsLeftTorn (moment_of tree b) mark gate 1) (tree.stops b) (tree.stops d)
        → LeavesOnly (IsMarkLaid (moment_of tree a) mark head gate text) (tree.stops a) (tree.stops d)
    mark-gate d one other before after =
        let stood = stood_at (moment_of tree a) mark in
        let old = bytes_at (tree.contents a) mark in
        leaves_on laid (moment_of tree a) (moment_of tree b) (moment_of tree d) (course_of tree a b one) (course_of tree b d other) before
        (leaves_weaker (IsLeftTorn (moment_of tree b) mark gate 1) laid (tree.stops b) (tree.stops d)
        (λ c left. inr (over-left (moment_of tree a) (moment_of tree b) mark gate 1 (head ++ text) (IsMark stood head gate text) synced (closed-mark head gate text old stood inside shut) (gate-mark head gate text old stood inside shut) c left)) after)

    pub stands-gate : (d : F) (r : Result (Unit {0}) StepFault) → OnOk r (StandsSynced (all_changed (tree.contents b) (gate_opened mark gate)) (moment_of tree d)) → OnOk r (StandsSynced (with_mark (tree.contents a) mark (whole_mark head gate text)) (moment_of tree d))
    stands-gate d r stands = subst (λ k. OnOk r (StandsSynced k (moment_of tree d))) (ap (λ k. all_changed k (gate_opened mark gate)) synced.now ∙ gate-after (tree.contents a) mark head gate text inside) stands

-- ---- the three in turn

pub begun-head : (c : Contents) (mark : PathValue) (head : List ℕ) (gate : ℕ) (text : List ℕ) → first_refusal c (begun_gated c mark head gate text) ≡ None → first_refusal c (head_laid c mark head) ≡ None
begun-head c mark head gate text none =
    (both_unrefused c (head_laid c mark head) (text_laid mark (length head) text)
    (both_unrefused c (head_laid c mark head ++ text_laid mark (length head) text) (gate_opened mark gate) none).0).0

module _ {F : Type 0} (tree : Ghosts F) (mark : PathValue) (head : List ℕ) (gate : ℕ) (text : List ℕ) (inside : gate < length head) (shut : get_or head gate 0 ≢ plus) (a b d : F)
    (synced : StandsSynced (with_mark (tree.contents a) mark head) (moment_of tree b)) (one : Came tree a b) (other : Came tree b d)
    (before : LeavesOnly (IsHeadLaid (moment_of tree a) mark (length head)) (tree.stops a) (tree.stops b)) where
  -- the text broke off, or is synced
  pub text-left : (first_refusal (tree.contents b) (text_laid mark (length head) text) ≡ None → LeavesOnly (IsLeftTorn (moment_of tree b) mark (length head) (length text)) (tree.stops b) (tree.stops d)) → LeavesOnly (IsMarkLaid (moment_of tree a) mark head gate text) (tree.stops a) (tree.stops d)
  text-left torn = mark-text tree mark head gate text inside shut a b synced d one other before (torn (none-text tree mark head gate text inside shut a b synced))

  module _ (texted : first_refusal (tree.contents b) (text_laid mark (length head) text) ≡ None → StandsSynced (all_changed (tree.contents b) (text_laid mark (length head) text)) (moment_of tree d)) where
    both : StandsSynced (with_mark (tree.contents a) mark (head ++ text)) (moment_of tree d)
    both = stands-text tree mark head gate text inside shut a b synced d (texted (none-text tree mark head gate text inside shut a b synced))

    -- and the gate
    pub gate-left : (e : F) → Came tree d e → (first_refusal (tree.contents b) (text_laid mark (length head) text) ≡ None → LeavesOnly (IsLeftTorn (moment_of tree b) mark (length head) (length text)) (tree.stops b) (tree.stops d))
        → (first_refusal (tree.contents d) (gate_opened mark gate) ≡ None → LeavesOnly (IsLeftTorn (moment_of tree d) mark gate 1) (tree.stops d) (tree.stops e)) → LeavesOnly (IsMarkLaid (moment_of tree a) mark head gate text) (tree.stops a) (tree.stops e)
    gate-left e more torn opened = mark-gate tree mark head gate text inside shut a d both e (came_on tree a b d one other) more (text-left torn) (opened (none-gate tree mark head gate text inside shut a d both))

    pub gate-synced : (e : F) (r : Result (Unit {0}) StepFault) → (first_refusal (tree.contents d) (gate_opened mark gate) ≡ None → OnOk r (StandsSynced (all_changed (tree.contents d) (gate_opened mark gate)) (moment_of tree e)))
        → OnOk r (StandsSynced (with_mark (tree.contents a) mark (whole_mark head gate text)) (moment_of tree e))
    gate-synced e r opened = stands-gate tree mark head gate text inside shut a d both e r (opened (none-gate tree mark head gate text inside shut a d both))

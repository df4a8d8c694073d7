-- What a stop may leave while a head is laid.
use Rattle.std.proofs.Common.{◌≡◌, ℕ, ◌≤◌, true, false, IsTrue, List, [], ◌∷◌, ◌++◌, length, map, cond, Option, None, Some, is_some, Result, Ok, Err, OnOk, refl, ap, sym, ◌∙◌, subst, inl, inr, ⊎_elim, arith}
use Rattle.std.proofs.lemmas.List.{append-nil}
use Rattle.std.specs.FinMap.{insert}
use Rattle.cluster_tree.specs.Causes.{Meets}
use Rattle.cluster_tree.specs.Change.{Change, Cuts, MakesFile, Syncs, Writes, all_changed, call_of, first_refusal, or_next}
use Rattle.cluster_tree.specs.Contents.{Contents, Entry, FileEntry, FolderEntry, LinkEntry, entry_at, is_file, parent}
use Rattle.cluster_tree.specs.Frame.{Came, Reads, moment_of}
use Rattle.cluster_tree.specs.PathValue.{PathValue}
use Rattle.cluster_tree.specs.Run.{Moment}
use Rattle.cluster_tree.specs.Step.{CutFile, TornBytes, TornFile}
use Rattle.cluster_tree.specs.Stops.{LeavesOnly}
use Rattle.cluster_tree.specs.Tree.{HasFailed, bytes_at, bytes_in, kind_of, make_refusal, refusal_in}
use Rattle.cluster_tree.specs.declared.tree.ChangeCall.TheVariants as call
use Rattle.cluster_tree.specs.declared.tree.Kind.{Kind}
use Rattle.cluster_tree.specs.declared.tree.Tree.{Ghosts}
use Rattle.cluster_tree.specs.declared.tree.TreeFault.{TreeFault}
use Rattle.cluster_tree.specs.declared.tree.TreeFault.TheVariants as fault
use Rattle.cluster_tree.proofs.ContentsLemmas.{entry-put, put-put, write_refusal-new, written-new}
use Rattle.cluster_tree.proofs.Images.{Within, holds_first, leaves_only}
use Rattle.cluster_tree.proofs.RunLemmas.{course_of}
use Rattle.marked_runs.specs.Carried.{Carries}
use Rattle.marked_runs.specs.Moments.{IsUntouched, StandsSynced, Took}
use Rattle.marked_runs.specs.declared.faults.StepFault.{StepFault}
use Rattle.marked_runs.specs.declared.faults.StepFault.TheVariants as step
use Rattle.marked_runs.proofs.StopLemmas.{leaves_on, leaves_weaker}
use Rattle.gated_marks.specs.Changes.{head_laid}
use Rattle.gated_marks.specs.Left.{IsHead, IsHeadLaid, IsLeftOf, IsLeftTorn, stood_at, with_mark}
use Rattle.gated_marks.specs.Looks.{of_look}
use Rattle.gated_marks.proofs.ByteLemmas.{torn-new, torn-rest}
use Rattle.gated_marks.proofs.LaidLemmas.{carried-left, over-left, synced-left, synced-stands}

-- ---- a mark that is made

module _ (first : Moment) (mark : PathValue) (size : ℕ) where
  -- over a file whose removal is lost
  torn-over : stood_at first mark ≡ false → (u c : Contents) → IsUntouched first u → TornFile mark 0 size u c → IsHeadLaid first mark size c
  torn-over none u c untouched t = inr (record {
    before = u;
    untouched = untouched;
    bytes = t.torn;
    is = t.is;
    so = subst (λ b. IsHead b size (bytes_at u mark) t.torn) (sym none) (inl (torn-rest size (bytes_at u mark) t.torn t.range));
  })

  -- and over an empty one
  short-over : (u c : Contents) (new : List ℕ) → IsUntouched first u → c ≡ with_mark u mark new → length new ≤ size → IsHeadLaid first mark size c
  short-over u c new untouched is short = inr (record { before = u; untouched = untouched; bytes = new; is = is; so = inr short })

  torn-made : (u d c : Contents) → IsUntouched first u → d ≡ with_mark u mark [] → TornFile mark 0 size d c → IsHeadLaid first mark size c
  torn-made u d c untouched made t =
      let holds : bytes_at d mark ≡ [] = ap (λ k. bytes_at k mark) made ∙ ap bytes_in (entry-put u mark (FileEntry [])) in
      short-over u c t.torn untouched (t.is ∙ ap (λ k. insert k mark (FileEntry t.torn)) made ∙ put-put u mark (FileEntry []) (FileEntry t.torn))
      (torn-new size t.torn (subst (λ l. TornBytes 0 size l t.torn) holds t.range))

  new-left : stood_at first mark ≡ false → Within (IsLeftOf first (call.MakeFile mark ∷ call.Write mark 0 size ∷ [])) (IsHeadLaid first mark size)
  new-left none c left = subst (IsHeadLaid first mark size) (sym left.2.2.2) (⊎_elim
      (λ (same : left.2.0 ≡ left.0). ⊎_elim
      (λ (kept : left.2.2.0 ≡ left.2.0). inl (subst (IsUntouched first) (sym (kept ∙ same)) left.1))
      (λ (t : TornFile mark 0 size left.2.0 left.2.2.0). torn-over none left.2.0 left.2.2.0 (subst (IsUntouched first) (sym same) left.1) t)
      left.2.2.1)
      (λ (made : (make_refusal left.0 mark ≡ None) × (left.2.0 ≡ with_mark left.0 mark [])). ⊎_elim
      (λ (kept : left.2.2.0 ≡ left.2.0). short-over left.0 left.2.2.0 [] left.1 (kept ∙ made.1) (omega arith))
      (λ (t : TornFile mark 0 size left.2.0 left.2.2.0). torn-made left.0 left.2.0 left.2.2.0 left.1 made.1 t)
      left.2.2.1)
      left.2.1)

  -- ---- a mark that is cut
  cut-left : stood_at first mark ≡ true → Within (IsLeftOf first (call.Cut mark 0 ∷ [])) (IsHeadLaid first mark size)
  cut-left stood c left = subst (IsHeadLaid first mark size) (sym left.2.2) (⊎_elim
      (λ (same : left.2.0 ≡ left.0). inl (subst (IsUntouched first) (sym same) left.1))
      (λ (t : CutFile mark 0 left.0 left.2.0). inr (record {
        before = left.0;
        untouched = left.1;
        bytes = t.cut;
        is = t.is;
        so = subst (λ b. IsHead b size (bytes_at left.0 mark) t.cut) (sym stood) (inl t.range.front);
      }))
      left.2.1)

module _ {F : Type 0} (tree : Ghosts F) (told : IsTrue tree.tells) (mark : PathValue) where
  -- ---- by the calls on a tree
  module _ (head : List ℕ) (a b : F) (none : first_refusal (tree.contents a) (MakesFile mark ∷ Writes mark 0 head ∷ []) ≡ None) (came : Came tree a b) where
    abbrev made : List Change
    made = MakesFile mark ∷ Writes mark 0 head ∷ []

    pub new-broken : (e : StepFault) → is_file (entry_at (tree.contents a) mark) ≡ false → Carries tree (MakesFile mark ∷ Writes mark 0 head ∷ []) a b (Err e) → LeavesOnly (IsHeadLaid (moment_of tree a) mark (length head)) (tree.stops a) (tree.stops b)
    new-broken e off carries =
        leaves_weaker (IsLeftOf (moment_of tree a) (call.MakeFile mark ∷ call.Write mark 0 (length head) ∷ [])) (IsHeadLaid (moment_of tree a) mark (length head)) (tree.stops a) (tree.stops b)
        (new-left (moment_of tree a) mark (length head) off) (carried-left tree told made a b (Err e) none came carries)

    pub new-synced : (d : F) (u : Unit {0}) (r : Result (Unit {0}) StepFault) → is_file (entry_at (tree.contents a) mark) ≡ false → Carries tree (MakesFile mark ∷ Writes mark 0 head ∷ []) a b (Ok u) → Took tree Syncs b d r
        → LeavesOnly (IsHeadLaid (moment_of tree a) mark (length head)) (tree.stops a) (tree.stops d)
    new-synced d u r off carries took =
        leaves_weaker (IsLeftOf (moment_of tree a) (call.MakeFile mark ∷ call.Write mark 0 (length head) ∷ [])) (IsHeadLaid (moment_of tree a) mark (length head)) (tree.stops a) (tree.stops d)
        (new-left (moment_of tree a) mark (length head) off) (synced-left tree told made a b d u r none came carries took)

    pub new-stands : (d : F) (u : Unit {0}) (r : Result (Unit {0}) StepFault) → Carries tree (MakesFile mark ∷ Writes mark 0 head ∷ []) a b (Ok u) → Took tree Syncs b d r → OnOk r (StandsSynced (with_mark (tree.contents a) mark head) (moment_of tree d))
    new-stands d u r carries took = subst (λ k. OnOk r (StandsSynced k (moment_of tree d))) (written-new (tree.contents a) mark head) (synced-stands tree told made a b d u r none carries took)

  module _ (a b : F) (none : first_refusal (tree.contents a) (Cuts mark 0 ∷ []) ≡ None) (came : Came tree a b) where
    pub cut-broken : (size : ℕ) (e : StepFault) → is_file (entry_at (tree.contents a) mark) ≡ true → Carries tree (Cuts mark 0 ∷ []) a b (Err e) → LeavesOnly (IsHeadLaid (moment_of tree a) mark size) (tree.stops a) (tree.stops b)
    cut-broken size e on carries =
        leaves_weaker (IsLeftOf (moment_of tree a) (call.Cut mark 0 ∷ [])) (IsHeadLaid (moment_of tree a) mark size) (tree.stops a) (tree.stops b)
        (cut-left (moment_of tree a) mark size on) (carried-left tree told (Cuts mark 0 ∷ []) a b (Err e) none came carries)

    pub cut-synced : (size : ℕ) (d : F) (u : Unit {0}) (r : Result (Unit {0}) StepFault) → is_file (entry_at (tree.contents a) mark) ≡ true → Carries tree (Cuts mark 0 ∷ []) a b (Ok u) → Took tree Syncs b d r
        → LeavesOnly (IsHeadLaid (moment_of tree a) mark size) (tree.stops a) (tree.stops d)
    cut-synced size d u r on carries took =
        leaves_weaker (IsLeftOf (moment_of tree a) (call.Cut mark 0 ∷ [])) (IsHeadLaid (moment_of tree a) mark size) (tree.stops a) (tree.stops d)
        (cut-left (moment_of tree a) mark size on) (synced-left tree told (Cuts mark 0 ∷ []) a b d u r none came carries took)

    pub cut-stands : (d : F) (u : Unit {0}) (r : Result (Unit {0}) StepFault) → Carries tree (Cuts mark 0 ∷ []) a b (Ok u) → Took tree Syncs b d r → OnOk r (StandsSynced (with_mark (tree.contents a) mark []) (moment_of tree d))
    cut-stands d u r carries took = synced-stands tree told (Cuts mark 0 ∷ []) a b d u r none carries took

  -- the head over an emptied mark
  module _ (head : List ℕ) (a b d : F) (synced : StandsSynced (with_mark (tree.contents a) mark []) (moment_of tree b)) where
    pub over-synced : Came tree a b → Came tree b d → LeavesOnly (IsHeadLaid (moment_of tree a) mark (length head)) (tree.stops a) (tree.stops b) → LeavesOnly (IsLeftTorn (moment_of tree b) mark 0 (length head)) (tree.stops b) (tree.stops d)
        → LeavesOnly (IsHeadLaid (moment_of tree a) mark (length head)) (tree.stops a) (tree.stops d)
    over-synced one other before after =
        let P : Contents → Type 0 = IsHeadLaid (moment_of tree a) mark (length head) in
        let so : List ℕ → List ℕ → Type 0 = IsHead (stood_at (moment_of tree a) mark) (length head) in
        leaves_on P (moment_of tree a) (moment_of tree b) (moment_of tree d) (course_of tree a b one) (course_of tree b d other) before
        (leaves_weaker (IsLeftTorn (moment_of tree b) mark 0 (length head)) P (tree.stops b) (tree.stops d)
        (λ c left. inr (over-left (moment_of tree a) (moment_of tree b) mark 0 (length head) [] so synced (inr (omega arith)) (λ new t. inr (torn-new (length head) new t)) c left)) after)

    pub over-stands : (r : Result (Unit {0}) StepFault) → OnOk r (StandsSynced (all_changed (tree.contents b) (Writes mark 0 head ∷ Syncs ∷ [])) (moment_of tree d)) → OnOk r (StandsSynced (with_mark (tree.contents a) mark head) (moment_of tree d))
    over-stands r stands = subst (λ k. OnOk r (StandsSynced k (moment_of tree d))) (ap (λ k. all_changed k (Writes mark 0 head ∷ Syncs ∷ [])) synced.now ∙ written-new (tree.contents a) mark head) stands

    pub over-unrefused : first_refusal (tree.contents b) (Writes mark 0 head ∷ Syncs ∷ []) ≡ None
    over-unrefused = ap (λ k. first_refusal k (Writes mark 0 head ∷ Syncs ∷ [])) synced.now ∙ ap (λ o. or_next o None) (write_refusal-new (tree.contents a) mark)

-- ---- a look at the mark

-- nothing is made where something stands
not-made : (c : Contents) (mark : PathValue) (xs : List Change) → is_some (entry_at c mark) ≡ true → first_refusal c (MakesFile mark ∷ xs) ≡ None → ⊥
not-made c mark xs stands none =
    let refused : make_refusal c mark ≡ Some fault.Exists = ap (λ b. cond b (Some fault.Exists) (refusal_in (entry_at c (parent mark)))) stands in
    let wrong : or_next (Some fault.Exists) (first_refusal (insert c mark (FileEntry [])) xs) ≡ None = subst (λ o. or_next o (first_refusal (insert c mark (FileEntry [])) xs) ≡ None) refused none in
    cc wrong

-- so neither is a head laid over what is no file
pub not-laid : (c : Contents) (mark : PathValue) (head : List ℕ) → is_file (entry_at c mark) ≡ false → is_some (entry_at c mark) ≡ true → first_refusal c (head_laid c mark head) ≡ None → ⊥
not-laid c mark head off stands none =
    not-made c mark (Writes mark 0 head ∷ Syncs ∷ []) stands (subst (λ b. first_refusal c (cond b (Cuts mark 0 ∷ Syncs ∷ []) (MakesFile mark ∷ []) ++ Writes mark 0 head ∷ Syncs ∷ []) ≡ None) off none)

refused-kind : (o : Option Entry) (f : TreeFault) → kind_of o ≡ Err f → (is_file o ≡ false) × (is_some o ≡ true)
refused-kind None f e = absurd (cc e)
refused-kind (Some (FolderEntry bad)) f e = absurd (cc e)
refused-kind (Some (FileEntry bytes)) f e = absurd (cc e)
refused-kind (Some LinkEntry) f e = (refl, refl)

-- a look that is refused lets no head be laid
look-failed : (c : Contents) (mark : PathValue) (head : List ℕ) (done : Result Kind TreeFault) (f : TreeFault) → done ≡ Err f → Meets HasFailed (kind_of (entry_at c mark)) done → first_refusal c (head_laid c mark head) ≡ None → f ≡ fault.Failed
look-failed c mark head (Ok k) f is meets none = absurd (cc is)
look-failed c mark head (Err e) f is (inl failed) none = cc (sym is) ∙ failed
look-failed c mark head (Err e) f is (inr meant) none = let two = refused-kind (entry_at c mark) e meant in absurd (not-laid c mark head two.0 two.1 none)

module _ {F : Type 0} (tree : Ghosts F) (mark : PathValue) (head : List ℕ) (a b : F) (reads : Reads tree a b) where
  -- a look that broke off changed nothing
  pub look-broken : (done : Result Kind TreeFault) (f : TreeFault) (e : StepFault) → e ≡ of_look f → done ≡ Err f → (IsTrue tree.tells → Meets HasFailed (kind_of (entry_at (tree.contents a) mark)) done) → Carries tree (head_laid (tree.contents a) mark head) a b (Err e)
  look-broken done f e is answer meets told none = record {
    runs = record {
      made = [];
      grew = reads.uncalled ∙ sym (append-nil (tree.calls a));
      rest = map call_of (head_laid (tree.contents a) mark head);
      joins = refl;
      all = λ h. absurd (cc h);
      after = λ h. absurd (cc h);
      elsewhere = λ p off. ap (λ d. entry_at d p) reads.same;
    };
    agreed = λ h. let wrong : step.ReadFault ≡ step.Contradicted = ap of_look (sym (look-failed (tree.contents a) mark head done f answer (meets told) none)) ∙ sym is ∙ cc h in absurd (cc wrong);
  }

  pub look-left : (size : ℕ) → LeavesOnly (IsHeadLaid (moment_of tree a) mark size) (tree.stops a) (tree.stops b)
  look-left size =
      let Q : Contents → Type 0 = IsHeadLaid (moment_of tree a) mark size in
      subst (λ s. LeavesOnly Q (tree.stops a) s) (sym reads.unstopped) (leaves_only Q Q (moment_of tree a) (moment_of tree a) (holds_first Q Q (moment_of tree a) (inl (inl refl)) (λ c image. inl (inr image))) (λ c q. q))

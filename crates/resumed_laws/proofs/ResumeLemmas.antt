-- The first run and a resume, side by side: nothing refuses the resume, and both end alike.
use Rattle.std.proofs.Common.{◌≡◌, ◌≢◌, ◌⊎◌, ℕ, ◌+◌, ◌<◌, ◌≤◌, Bool, true, false, cond, nat_lt, List, [], ◌∷◌, ◌++◌, length, Option, None, Some, inl, inr, ⊎_elim, refl, sym, ap, ◌∙◌, subst, true≢false, arith, append_assoc}
use Rattle.std.specs.FinMap.{get, insert}
use Rattle.layout.specs.Splice.{splice}
use Rattle.cluster_tree.specs.Change.{Change, MakesFile, Writes, all_changed, first_refusal, refusal_of}
use Rattle.cluster_tree.specs.Contents.{Contents, Entry, FileEntry, FolderEntry, LinkEntry, entry_at, is_file, or_root, parent}
use Rattle.cluster_tree.specs.PathValue.{PathValue}
use Rattle.cluster_tree.specs.PathOrder.{path_eq}
use Rattle.cluster_tree.specs.Tree.{bytes_in, file_of, refusal_in, refusal_past, write_refusal, written}
use Rattle.cluster_tree.proofs.ChangeLemmas.{changed-in_turn}
use Rattle.cluster_tree.proofs.ContentsLemmas.{entry-put_other, get-put, get-put_other, same-contents, write_refusal-put, written-new}
use Rattle.cluster_tree.proofs.Images.{Each}
use Rattle.cluster_tree.proofs.OrderLemmas.{path_eq-own, path_eq-same}
use Rattle.marked_runs.proofs.CarriedLemmas.{both_unrefused, unrefused-both}
use Rattle.rewind_writes.specs.Plan.{body_changes, closing_changes}
use Rattle.rewind_writes.specs.Steps.{FindAll, changes_of, opened, steps_changes}
use Rattle.rewind_writes.specs.Taken.{AllAreAsFound}
use Rattle.rewind_writes.specs.declared.plan.FileBytes.{FileBytes}
use Rattle.rewind_writes.specs.declared.plan.Plan.{Plan}
use Rattle.rewind_writes.specs.declared.step.Step.{Step}
use Rattle.rewind_writes.specs.declared.step.Step.TheVariants.{Folder, Whole, Cut, Range, Remove}
use Rattle.resumed_laws.specs.Between.{AllOnWay, AreMixed, IsBetween, IsMixed, IsOnWay, may_be_file}
use Rattle.resumed_laws.specs.Groups.{Group, Untouched, Mixed, Gone, Labelled, Controlled, AllAreProper, AllBehind, AreGrouped, group_at, group_in, group_of, is_free, is_made, target_of}
use Rattle.resumed_laws.specs.Resumed.{resumed_body, resumed_closing, resumed_of, resumed_steps}
use Rattle.resumed_laws.specs.Sound.{IsPlanSound}
use Rattle.resumed_laws.proofs.ByteLemmas.{less-tells, mixed-equal, mixed-same, mixed-spliced}
use Rattle.resumed_laws.proofs.GroupLemmas.{behind-group, control-in, label-in}
use Rattle.resumed_laws.proofs.KeptLemmas.{make-tells, past-tells}
use Rattle.resumed_laws.proofs.ReadLemmas.{IsOff, all-off, find-again, found-all, found-rest, off-head, off-rest, off-steps}
use Rattle.resumed_laws.proofs.RefusalLemmas.{next-none, opened-fits, opened-leaves, or_both, past-fits}
use Rattle.resumed_laws.proofs.StepLemmas.{Before, Turned, cut-turned, folder-turned, range-turned, remove-turned, whole-turned}
use Rattle.resumed_laws.proofs.TurnLemmas.{folder-stays, in-folder, not-folder}

-- ---- groups behind a step

made-some : (g : Group) → is_made g ≡ true → g ≢ Untouched
made-some g e is = true≢false (sym e ∙ ap is_made is)

made-unmixed : (g : Group) → is_made g ≡ true → g ≢ Mixed
made-unmixed g e is = true≢false (sym e ∙ ap is_made is)

free-behind : (x : Step) (rest : List Step) (p : PathValue) → AllBehind x rest → is_free (group_at p (x ∷ rest)) ≡ true → is_free (group_at p rest) ≡ true
free-behind x rest p behind free = by (path_eq p (target_of x)) refl free
  where
    by : (b : Bool) → path_eq p (target_of x) ≡ b → is_free (cond b (group_of x) (group_at p rest)) ≡ true → is_free (group_at p rest) ≡ true
    by false e f = f
    by true e f = ⊎_elim (λ none. ap is_free none) (λ mixed. absurd (true≢false (sym f ∙ ap is_free mixed.0))) (behind-group x p rest e behind)

gone-behind : (x : Step) (rest : List Step) (p : PathValue) → AllBehind x rest → group_at p rest ≡ Gone → group_at p (x ∷ rest) ≡ Gone
gone-behind x rest p behind goes = by (path_eq p (target_of x)) refl
  where
    by : (b : Bool) → path_eq p (target_of x) ≡ b → cond b (group_of x) (group_at p rest) ≡ Gone
    by false e = goes
    by true e = ⊎_elim (λ none. absurd (cc (sym none ∙ goes))) (λ mixed. absurd (cc (sym mixed.1 ∙ goes))) (behind-group x p rest e behind)

made-behind : (x : Step) (rest : List Step) (label control : FileBytes) (p : PathValue) → AllBehind x rest → is_made (group_in rest label control p) ≡ true → is_made (group_in (x ∷ rest) label control p) ≡ true
made-behind x rest label control p behind made = by (path_eq p label.path) (path_eq p control.path) made
  where
    own : (b : Bool) → path_eq p (target_of x) ≡ b → is_made (group_at p rest) ≡ true → is_made (cond b (group_of x) (group_at p rest)) ≡ true
    own false e m = m
    own true e m = ⊎_elim (λ none. absurd (made-some (group_at p rest) m none)) (λ mixed. absurd (made-unmixed (group_at p rest) m mixed.1)) (behind-group x p rest e behind)

    by : (a b : Bool) → is_made (cond a Labelled (cond b Controlled (group_at p rest))) ≡ true → is_made (cond a Labelled (cond b Controlled (group_at p (x ∷ rest)))) ≡ true
    by true b m = m
    by false true m = m
    by false false m = own (path_eq p (target_of x)) refl m

file-or_none : (o : Option Entry) → may_be_file o ≡ true → (is_file o ≡ true) ⊎ (o ≡ None)
file-or_none None e = inr refl
file-or_none (Some (FolderEntry bad)) e = absurd (cc e)
file-or_none (Some (FileEntry bytes)) e = inl refl
file-or_none (Some LinkEntry) e = absurd (cc e)

module _ (found : Contents) (label control : FileBytes) (reading : List Change) where
  -- ---- steps, one after another

  -- both runs, with these steps still to come
  pub record Runs (steps : List Step) (s t : Contents) : Type 0 where
    pub unrefused : first_refusal s (steps_changes found steps ++ closing_changes label control) ≡ None
    pub reads : FindAll found reading steps
    pub off : Each (IsOff (λ p. group_at p steps)) steps
    pub as_found : AllAreAsFound found t steps
    pub proper : AllAreProper steps
    pub grouped : AreGrouped steps
    pub free : is_free (group_at label.path steps) ≡ true
    pub untouched : group_at control.path steps ≡ Untouched
    pub rooms : (p : PathValue) → is_made (group_in steps label control p) ≡ true → group_at (parent p) steps ≢ Gone
    pub all : AllOnWay s steps label control t

  step-turned : (x : Step) (rest : List Step) (s t : Contents) → Runs (x ∷ rest) s t → Before found label control x rest s t → Turned found label control x rest s t
  step-turned (Folder path) rest s t r b = folder-turned found label control path rest s t b
  step-turned (Whole from to size) rest s t r b = whole-turned found label control from to size rest s t r.as_found.0 b
  step-turned (Cut path size) rest s t r b = cut-turned found label control path size rest s t b
  step-turned (Range from to at size) rest s t r b = range-turned found label control from to at size rest s t reading r.reads.0 r.proper.0 r.as_found.0 b
  step-turned (Remove path) rest s t r b = remove-turned found label control path rest s t r.proper.0 b

  runs-next : (x : Step) (rest : List Step) (s t : Contents) → Runs (x ∷ rest) s t → (first_refusal t (resumed_of t x) ≡ None) × Runs rest (all_changed s (changes_of found x)) (all_changed t (resumed_of t x))
  runs-next x rest s t r =
      let more = steps_changes found rest ++ closing_changes label control in
      let split = both_unrefused s (changes_of found x) more (ap (first_refusal s) (sym (append_assoc (changes_of found x) (steps_changes found rest) (closing_changes label control))) ∙ r.unrefused) in
      let turned = step-turned x rest s t r (record { unrefused = split.0; behind = r.grouped.0; free = r.free; untouched = r.untouched; rooms = r.rooms; all = r.all }) in (
        turned.0,
        record {
          unrefused = split.1;
          reads = r.reads.1;
          off = off-rest x rest rest r.off.1;
          as_found = found-rest found t x rest rest r.off.1 r.as_found.1;
          proper = r.proper.1;
          grouped = r.grouped.1;
          free = free-behind x rest label.path r.grouped.0 r.free;
          untouched = (off-head x rest control.path r.untouched).1;
          rooms = λ p made goes. r.rooms p (made-behind x rest label control p r.grouped.0 made) (gone-behind x rest (parent p) r.grouped.0 goes);
          all = turned.1;
        },
      )

  pub runs-all : (steps : List Step) (s t : Contents) → Runs steps s t → (first_refusal t (resumed_steps t steps) ≡ None) × Runs [] (all_changed s (steps_changes found steps)) (all_changed t (resumed_steps t steps))
  runs-all [] s t r = (refl, r)
  runs-all (x ∷ rest) s t r =
      let next = runs-next x rest s t r in
      let s' : Contents = all_changed s (changes_of found x) in
      let t' : Contents = all_changed t (resumed_of t x) in
      let more = runs-all rest s' t' next.1 in (
        unrefused-both t (resumed_of t x) (resumed_steps t' rest) next.0 more.0,
        subst (λ d. Runs [] d (all_changed t (resumed_of t x ++ resumed_steps t' rest))) (sym (changed-in_turn s (changes_of found x) (steps_changes found rest)))
            (subst (Runs [] (all_changed s' (steps_changes found rest))) (sym (changed-in_turn t (resumed_of t x) (resumed_steps t' rest))) more.1),
      )

  -- ---- behind the steps

  module _ (apart : label.path ≢ control.path) (s t : Contents) (r : Runs [] s t) where
    -- the label as it is written, on both
    abbrev labelled : Contents → Contents
    labelled c = insert c label.path (FileEntry label.bytes.items)

    first : (refusal_of s (MakesFile label.path) ≡ None) × (first_refusal (insert s label.path (FileEntry [])) (Writes label.path 0 label.bytes.items ∷ Writes control.path 0 control.bytes.items ∷ []) ≡ None)
    first = or_both _ _ r.unrefused

    fits : (entry_at s label.path ≡ None) × (refusal_in (entry_at s (parent label.path)) ≡ None)
    fits = make-tells (entry_at s label.path) (entry_at s (parent label.path)) first.0

    up : refusal_in (entry_at t (parent label.path)) ≡ None
    up = in-folder (entry_at t (parent label.path)) (folder-stays label control s t [] (parent label.path) r.all (not-folder (entry_at s (parent label.path)) fits.1) (λ e. cc e))

    label_may : may_be_file (entry_at t label.path) ≡ true
    label_may = ⊎_elim (λ same. ap (λ o. may_be_file (or_root label.path.parts o)) same ∙ ap may_be_file fits.0) (λ way. later way) (r.all label.path)
      where
        later : IsOnWay [] control label.path (group_in [] label control label.path) (entry_at s label.path) (entry_at t label.path) → may_be_file (entry_at t label.path) ≡ true
        later way = (subst (λ g. IsOnWay [] control label.path g (entry_at s label.path) (entry_at t label.path)) (label-in [] label control) way).1

    opens : refusal_of t (opened t label.path) ≡ None
    opens = opened-fits t label.path (⊎_elim (λ file. inl file) (λ none. inr (none, up)) (file-or_none (entry_at t label.path) label_may))

    -- the control file, in both
    other : control.path ≢ label.path
    other e = apart (sym e)

    control_entry : (c : Contents) → entry_at (labelled c) control.path ≡ entry_at c control.path
    control_entry c = entry-put_other c label.path control.path (FileEntry label.bytes.items) other

    written_label : (c : Contents) → written (insert c label.path (FileEntry [])) label.path 0 label.bytes.items ≡ labelled c
    written_label c = written-new c label.path label.bytes.items

    control_file : (bytes : List ℕ) × (entry_at s control.path ≡ Some (FileEntry bytes)) × (0 ≤ length bytes)
    control_file =
        let second = or_both _ _ first.1 in
        let third : refusal_past (file_of (entry_at (written (insert s label.path (FileEntry [])) label.path 0 label.bytes.items) control.path)) 0 ≡ None = (or_both _ None second.1).0 in
        past-tells (entry_at s control.path) 0 (ap (λ o. refusal_past (file_of o) 0) (sym (ap (λ c. entry_at c control.path) (written_label s) ∙ control_entry s)) ∙ third)

    both : (new : List ℕ) × (entry_at t control.path ≡ Some (FileEntry new)) × AreMixed (λ k. true) (λ k. nat_lt k (length control.bytes.items)) control_file.0 new
    both = ⊎_elim (λ same. (control_file.0, ap (or_root control.path.parts) same ∙ control_file.1, mixed-same (λ k. true) (λ k. nat_lt k (length control.bytes.items)) control_file.0)) (λ way. later way) (r.all control.path)
      where
        later : IsOnWay [] control control.path (group_in [] label control control.path) (entry_at s control.path) (entry_at t control.path)
            → (new : List ℕ) × (entry_at t control.path ≡ Some (FileEntry new)) × AreMixed (λ k. true) (λ k. nat_lt k (length control.bytes.items)) control_file.0 new
        later way =
            let w : IsMixed (λ k. true) (λ k. nat_lt k (length control.bytes.items)) (entry_at s control.path) (entry_at t control.path)
            = subst (λ g. IsOnWay [] control control.path g (entry_at s control.path) (entry_at t control.path)) (control-in [] label control apart) way in
            let e : w.old ≡ control_file.0 = cc (sym w.was ∙ control_file.1) in
            (w.new, w.is, subst (λ l. AreMixed (λ k. true) (λ k. nat_lt k (length control.bytes.items)) l w.new) e w.bytes)

    ended : (c : Contents) → all_changed (insert c label.path (FileEntry [])) (Writes label.path 0 label.bytes.items ∷ Writes control.path 0 control.bytes.items ∷ []) ≡ written (labelled c) control.path 0 control.bytes.items
    ended c = ap (λ d. written d control.path 0 control.bytes.items) (written_label c)

    pub closing-unrefused : first_refusal t (resumed_closing t label control) ≡ None
    closing-unrefused =
        let last : write_refusal (labelled t) control.path 0 ≡ None = past-fits (entry_at (labelled t) control.path) both.0 0 (control_entry t ∙ both.1) (omega arith) in
        let two : first_refusal (insert t label.path (FileEntry [])) (Writes label.path 0 label.bytes.items ∷ Writes control.path 0 control.bytes.items ∷ []) ≡ None
        = next-none _ _ (write_refusal-put t label.path [] 0 (omega arith)) (next-none _ None (ap (λ d. write_refusal d control.path 0) (written_label t) ∙ last) refl) in
        next-none (refusal_of t (opened t label.path)) _ opens
        (ap (λ d. first_refusal d (Writes label.path 0 label.bytes.items ∷ Writes control.path 0 control.bytes.items ∷ [])) (opened-leaves t label.path (is_file (entry_at t label.path))) ∙ two)

    same_control : splice both.0 0 control.bytes.items ≡ splice control_file.0 0 control.bytes.items
    same_control =
        mixed-equal (λ k. true) (λ k. false) (splice control_file.0 0 control.bytes.items) (splice both.0 0 control.bytes.items) (λ k. refl) (λ k. refl)
        (mixed-spliced (λ k. true) (λ k. nat_lt k (length control.bytes.items)) (λ k. true) (λ k. false) 0 control.bytes.items control_file.0 both.0 (λ k. refl) (λ k off out. past k out) (omega arith) both.2)
      where
        not_less : (k n : ℕ) → (k < 0) ⊎ (0 + n ≤ k) → nat_lt k n ≡ false
        not_less k n (inl lt) = absurd (none lt)
          where
            none : k < 0 → ⊥
            none h = omega (arith, h)
        not_less k n (inr le) = by (nat_lt k n) refl
          where
            by : (b : Bool) → nat_lt k n ≡ b → b ≡ false
            by false e = refl
            by true e = absurd (less-no (less-tells k n e))
              where
                less-no : k < n → ⊥
                less-no h = omega (arith, h, le)

        past : (k : ℕ) → (k < 0) ⊎ (0 + length control.bytes.items ≤ k) → nat_lt k (length control.bytes.items) ≡ false
        past k out = not_less k (length control.bytes.items) out

    control_put : (c : Contents) (bytes : List ℕ) → entry_at c control.path ≡ Some (FileEntry bytes) → get (written (labelled c) control.path 0 control.bytes.items) control.path ≡ Some (FileEntry (splice bytes 0 control.bytes.items))
    control_put c bytes is = get-put (labelled c) control.path _ ∙ ap (λ o. Some (FileEntry (splice (bytes_in o) 0 control.bytes.items))) (control_entry c ∙ is)

    elsewhere : (c : Contents) (q : PathValue) → q ≢ control.path → get (written (labelled c) control.path 0 control.bytes.items) q ≡ get (labelled c) q
    elsewhere c q off = get-put_other (labelled c) control.path q _ off

    same_at : (q : PathValue) → get (written (labelled t) control.path 0 control.bytes.items) q ≡ get (written (labelled s) control.path 0 control.bytes.items) q
    same_at q = by (path_eq q control.path) refl (path_eq q label.path) refl
      where
        unlike : (p : PathValue) → path_eq q p ≡ false → q ≢ p
        unlike p e same = true≢false (sym (ap (path_eq q) (sym same) ∙ path_eq-own q) ∙ e)

        untouched : path_eq q label.path ≡ false → path_eq q control.path ≡ false → get t q ≡ get s q
        untouched e f = ⊎_elim (λ same. same) (λ way. absurd (subst (λ g. IsOnWay [] control q g (entry_at s q) (entry_at t q)) none way)) (r.all q)
          where
            none : group_in [] label control q ≡ Untouched
            none = ap (λ b. cond b Labelled (cond (path_eq q control.path) Controlled Untouched)) e ∙ ap (λ b. cond b Controlled Untouched) f

        by : (a : Bool) → path_eq q control.path ≡ a → (b : Bool) → path_eq q label.path ≡ b → get (written (labelled t) control.path 0 control.bytes.items) q ≡ get (written (labelled s) control.path 0 control.bytes.items) q
        by true e b f =
            ap (get (written (labelled t) control.path 0 control.bytes.items)) (path_eq-same q control.path e)
            ∙ control_put t both.0 both.1 ∙ ap (λ l. Some (FileEntry l)) same_control ∙ sym (control_put s control_file.0 control_file.1)
            ∙ ap (get (written (labelled s) control.path 0 control.bytes.items)) (sym (path_eq-same q control.path e))
        by false e true f =
            elsewhere t q (unlike control.path e) ∙ ap (get (labelled t)) (path_eq-same q label.path f) ∙ get-put t label.path (FileEntry label.bytes.items)
            ∙ sym (elsewhere s q (unlike control.path e) ∙ ap (get (labelled s)) (path_eq-same q label.path f) ∙ get-put s label.path (FileEntry label.bytes.items))
        by false e false f =
            elsewhere t q (unlike control.path e) ∙ get-put_other t label.path q (FileEntry label.bytes.items) (unlike label.path f) ∙ untouched f e
            ∙ sym (elsewhere s q (unlike control.path e) ∙ get-put_other s label.path q (FileEntry label.bytes.items) (unlike label.path f))

    pub closing-same : all_changed t (resumed_closing t label control) ≡ all_changed s (closing_changes label control)
    closing-same =
        ap (λ d. all_changed d (Writes label.path 0 label.bytes.items ∷ Writes control.path 0 control.bytes.items ∷ [])) (opened-leaves t label.path (is_file (entry_at t label.path)))
        ∙ ended t ∙ same-contents (written (labelled t) control.path 0 control.bytes.items) (written (labelled s) control.path 0 control.bytes.items) same_at ∙ sym (ended s)

-- ---- a plan

module _ (found c i : Contents) (plan : Plan) (sound : IsPlanSound found c plan) (between : IsBetween c plan i) where
  off : Each (IsOff (group_in plan.steps.items plan.label plan.control)) plan.steps.items
  off = all-off found plan.label plan.control plan.steps.items sound.reads sound.groups.proper

  as_found : AllAreAsFound found i plan.steps.items
  as_found = found-all found c i plan.steps.items plan.label plan.control plan.steps.items between off sound.as_found

  runs : Runs found plan.label plan.control (body_changes found plan) plan.steps.items c i
  runs = record {
    unrefused = sound.unrefused;
    reads = sound.reads;
    off = off-steps plan.steps.items plan.label plan.control plan.steps.items off;
    as_found = as_found;
    proper = sound.groups.proper;
    grouped = sound.groups.grouped;
    free = sound.groups.label;
    untouched = sound.groups.control;
    rooms = sound.groups.rooms;
    all = between;
  }

  pub plan-finds : FindAll i (resumed_body i plan) plan.steps.items
  plan-finds = find-again found i (all_changed i (resumed_steps i plan.steps.items)) (body_changes found plan) plan.steps.items plan.label plan.control plan.steps.items sound.reads as_found off

  pub plan-unrefused : first_refusal i (resumed_body i plan) ≡ None
  plan-unrefused =
      let done = runs-all found plan.label plan.control (body_changes found plan) plan.steps.items c i runs in
      let end : Contents = all_changed i (resumed_steps i plan.steps.items) in
      unrefused-both i (resumed_steps i plan.steps.items) (resumed_closing end plan.label plan.control) done.0
      (closing-unrefused found plan.label plan.control (body_changes found plan) sound.groups.apart (all_changed c (steps_changes found plan.steps.items)) end done.1)

  pub plan-same : all_changed i (resumed_body i plan) ≡ all_changed c (body_changes found plan)
  plan-same =
      let done = runs-all found plan.label plan.control (body_changes found plan) plan.steps.items c i runs in
      let end : Contents = all_changed i (resumed_steps i plan.steps.items) in
      changed-in_turn i (resumed_steps i plan.steps.items) (resumed_closing end plan.label plan.control)
      ∙ closing-same found plan.label plan.control (body_changes found plan) sound.groups.apart (all_changed c (steps_changes found plan.steps.items)) end done.1
      ∙ sym (changed-in_turn c (steps_changes found plan.steps.items) (closing_changes plan.label plan.control))

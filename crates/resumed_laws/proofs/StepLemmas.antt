-- A step of the first run and the same of a resume, side by side: nothing refuses the second, and both leave the rest on its way.
use Rattle.std.proofs.Common.{◌≡◌, ◌≢◌, ◌⊎◌, ℕ, ◌+◌, ◌<◌, ◌≤◌, ◌==◌, ◌&&◌, ◌||◌, Bool, true, false, cond, nat_lt, List, [], ◌∷◌, length, take, drop, None, Some, is_some, inl, inr, ⊎_elim, refl, sym, ap, ◌∙◌, subst, true≢false, arith}
use Rattle.std.specs.Prelude.{nat_le}
use Rattle.std.proofs.lemmas.List.{length-drop, length-take}
use Rattle.std.specs.FinMap.{get, insert, remove}
use Rattle.layout.specs.Splice.{splice}
use Rattle.cluster_tree.specs.Change.{Change, MakesFolder, Removes, all_changed, first_refusal}
use Rattle.cluster_tree.specs.Contents.{Contents, Entry, FileEntry, FolderEntry, entry_at, is_file, is_folder, or_root, parent}
use Rattle.cluster_tree.specs.Folders.{has_child, removal_refusal}
use Rattle.cluster_tree.specs.Marks.{is_there}
use Rattle.cluster_tree.specs.PathValue.{PathValue}
use Rattle.cluster_tree.specs.PathOrder.{path_eq}
use Rattle.cluster_tree.specs.Tree.{bytes_at, bytes_in, refusal_in}
use Rattle.cluster_tree.proofs.ContentsLemmas.{get-put, get-put_other, get-removed, get-removed_other}
use Rattle.cluster_tree.proofs.OrderLemmas.{path_eq-own}
use Rattle.marked_runs.specs.Runs.{writes_at}
use Rattle.rewind_writes.specs.Steps.{IsRead, changes_of, part_of}
use Rattle.rewind_writes.specs.declared.plan.FileBytes.{FileBytes}
use Rattle.rewind_writes.specs.declared.step.Step.{Step}
use Rattle.rewind_writes.specs.declared.step.Step.TheVariants.{Folder, Whole, Cut, Range, Remove}
use Rattle.resumed_laws.specs.Between.{AllOnWay, AreMixed, IsOnWay}
use Rattle.resumed_laws.specs.Groups.{Untouched, Made, Copied, Mixed, Gone, Labelled, Controlled, AllBehind, group_at, group_in, is_free, is_made, is_written, stays, target_of}
use Rattle.resumed_laws.specs.Resumed.{resumed_of}
use Rattle.resumed_laws.proofs.ByteLemmas.{less-is, long-enough, mixed-shortened, mixed-spliced}
use Rattle.resumed_laws.proofs.GroupLemmas.{behind-group}
use Rattle.resumed_laws.proofs.KeptLemmas.{make-tells, past-tells}
use Rattle.resumed_laws.proofs.RefusalLemmas.{and-none, file-goes, make-fits, may-there, next-none, opened-fits, opened-tells, or-none, or-parts, or_both, out-range, past-fits, plain-tells, there-none, whole-fits, whole-leaves}
use Rattle.resumed_laws.proofs.TurnLemmas.{behind-stays, childless-stays, folder-stays, get-none, get-of, group-head, in-folder, mixed-here, mixed-of, not-folder, turn-on}

module _ (found : Contents) (label control : FileBytes) where
  -- the step is done in both
  abbrev pub Turned : Step → List Step → (s t : Contents) → Type 0
  Turned x rest s t = (first_refusal t (resumed_of t x) ≡ None) × AllOnWay (all_changed s (changes_of found x)) rest label control (all_changed t (resumed_of t x))

  -- what is known before
  pub record Before (x : Step) (rest : List Step) (s t : Contents) : Type 0 where
    pub unrefused : first_refusal s (changes_of found x) ≡ None
    pub behind : AllBehind x rest
    pub free : is_free (group_at label.path (x ∷ rest)) ≡ true
    pub untouched : group_at control.path (x ∷ rest) ≡ Untouched
    pub rooms : (path : PathValue) → is_made (group_in (x ∷ rest) label control path) ≡ true → group_at (parent path) (x ∷ rest) ≢ Gone
    pub all : AllOnWay s (x ∷ rest) label control t

  -- the folder that something is made in is there
  up-fits : (x : Step) (rest : List Step) (s t : Contents) → Before x rest s t → is_made (group_in (x ∷ rest) label control (target_of x)) ≡ true
      → refusal_in (entry_at s (parent (target_of x))) ≡ None → refusal_in (entry_at t (parent (target_of x))) ≡ None
  up-fits x rest s t b made up =
      in-folder (entry_at t (parent (target_of x)))
      (folder-stays label control s t (x ∷ rest) (parent (target_of x)) b.all (not-folder (entry_at s (parent (target_of x))) up) (b.rooms (target_of x) made))

  -- ---- a folder

  pub folder-turned : (path : PathValue) (rest : List Step) (s t : Contents) → Before (Folder path) rest s t → Turned (Folder path) rest s t
  folder-turned path rest s t b = by (is_folder (entry_at t path)) refl
    where
      x : Step
      x = Folder path

      s' : Contents
      s' = insert s path (FolderEntry false)

      fits : (entry_at s path ≡ None) × (refusal_in (entry_at s (parent path)) ≡ None)
      fits = make-tells (entry_at s path) (entry_at s (parent path)) (or_both _ None b.unrefused).0

      group : group_in (x ∷ rest) label control path ≡ Made
      group = (group-head label control x rest b.free b.untouched refl).0

      now : (get t path ≡ get s path) ⊎ (entry_at t path ≡ Some (FolderEntry false))
      now = ⊎_elim (λ same. inl same) (λ way. inr (later way)) (b.all path)
        where
          later : IsOnWay (x ∷ rest) control path (group_in (x ∷ rest) label control path) (entry_at s path) (entry_at t path) → entry_at t path ≡ Some (FolderEntry false)
          later way = (subst (λ g. IsOnWay (x ∷ rest) control path g (entry_at s path) (entry_at t path)) group way).1

      there : is_folder (entry_at t path) ≡ true → get t path ≡ Some (FolderEntry false)
      there e = ⊎_elim
          (λ same. absurd (true≢false (sym e ∙ ap (λ o. is_folder (or_root path.parts o)) same ∙ ap is_folder fits.0)))
          (λ is. get-of path.parts (get s path) (get t path) (Some (FolderEntry false)) fits.0 is)
          now

      absent : is_folder (entry_at t path) ≡ false → entry_at t path ≡ None
      absent e = ⊎_elim (λ same. ap (or_root path.parts) same ∙ fits.0) (λ is. absurd (true≢false (sym (ap is_folder is) ∙ e))) now

      by : (f : Bool) → is_folder (entry_at t path) ≡ f
          → (first_refusal t (cond f [] (MakesFolder path ∷ [])) ≡ None) × AllOnWay s' rest label control (all_changed t (cond f [] (MakesFolder path ∷ [])))
      by true e = (refl, turn-on label control x rest s t s' t b.all (λ p off. get-put_other s path p (FolderEntry false) off) (λ p off. refl) (inl (there e ∙ sym (get-put s path (FolderEntry false)))))
      by false e = (
        next-none _ None (make-fits (entry_at t path) (entry_at t (parent path)) (absent e) (up-fits x rest s t b (ap is_made group) fits.1)) refl,
        turn-on label control x rest s t s' (insert t path (FolderEntry false)) b.all (λ p off. get-put_other s path p (FolderEntry false) off) (λ p off. get-put_other t path p (FolderEntry false) off)
            (inl (get-put t path (FolderEntry false) ∙ sym (get-put s path (FolderEntry false)))),
      )

  -- ---- a whole file

  part-same : (t : Contents) (from : PathValue) (at size : ℕ) → entry_at t from ≡ entry_at found from → part_of t from at size ≡ part_of found from at size
  part-same t from at size same = ap (λ o. take size (drop at (bytes_in o))) same

  both-put : (x : Step) (rest : List Step) (s t : Contents) (entry : Entry) → Before x rest s t → AllOnWay (insert s (target_of x) entry) rest label control (insert t (target_of x) entry)
  both-put x rest s t entry b =
      turn-on label control x rest s t (insert s (target_of x) entry) (insert t (target_of x) entry) b.all
      (λ p off. get-put_other s (target_of x) p entry off) (λ p off. get-put_other t (target_of x) p entry off)
      (inl (get-put t (target_of x) entry ∙ sym (get-put s (target_of x) entry)))

  pub whole-turned : (from to : PathValue) (size : ℕ) (rest : List Step) (s t : Contents) → entry_at t from ≡ entry_at found from → Before (Whole from to size) rest s t → Turned (Whole from to size) rest s t
  whole-turned from to size rest s t same b = (
    whole-fits t to (part_of t from 0 size) (opened-fits t to how),
    subst (λ d. AllOnWay d rest label control (all_changed t (resumed_of t x))) (sym (whole-leaves s to (part_of found from 0 size) (is_file (entry_at found to))))
        (subst (AllOnWay (insert s to (FileEntry (part_of found from 0 size))) rest label control)
        (sym (whole-leaves t to (part_of t from 0 size) (is_file (entry_at t to)) ∙ ap (λ l. insert t to (FileEntry l)) (part-same t from 0 size same)))
        (both-put x rest s t (FileEntry (part_of found from 0 size)) b)),
  )
    where
      x : Step
      x = Whole from to size

      group : group_in (x ∷ rest) label control to ≡ Copied
      group = (group-head label control x rest b.free b.untouched refl).0

      before : (is_file (entry_at s to) ≡ true) ⊎ ((entry_at s to ≡ None) × (refusal_in (entry_at s (parent to)) ≡ None))
      before = opened-tells s to (is_file (entry_at found to)) (or_both _ _ b.unrefused).0

      how : (is_file (entry_at t to) ≡ true) ⊎ ((entry_at t to ≡ None) × (refusal_in (entry_at t (parent to)) ≡ None))
      how = ⊎_elim
          (λ is. ⊎_elim (λ file. inl (ap (λ o. is_file (or_root to.parts o)) is ∙ file)) (λ none. inr (ap (or_root to.parts) is ∙ none.0, up-fits x rest s t b (ap is_made group) none.1)) before)
          (λ way. inl (subst (λ g. IsOnWay (x ∷ rest) control to g (entry_at s to) (entry_at t to)) group way).1)
          (b.all to)

  -- ---- a cut

  behind-is : (x : Step) (rest : List Step) → AllBehind x rest → (group_at (target_of x) rest ≡ Untouched) ⊎ (group_at (target_of x) rest ≡ Mixed)
  behind-is x rest behind = ⊎_elim (λ none. inl none) (λ more. inr more.1) (behind-group x (target_of x) rest (path_eq-own (target_of x)) behind)

  pub cut-turned : (path : PathValue) (size : ℕ) (rest : List Step) (s t : Contents) → Before (Cut path size) rest s t → Turned (Cut path size) rest s t
  cut-turned path size rest s t b = (
    next-none _ None (past-fits (entry_at t path) new size is reach) refl,
    turn-on label control x rest s t (insert s path (FileEntry (take size (bytes_at s path)))) (insert t path (FileEntry (take size (bytes_at t path)))) b.all
        (λ p off. get-put_other s path p (FileEntry (take size (bytes_at s path))) off) (λ p off. get-put_other t path p (FileEntry (take size (bytes_at t path))) off)
        (mixed-here label control rest (insert s path (FileEntry (take size (bytes_at s path)))) (insert t path (FileEntry (take size (bytes_at t path)))) path (take size old) (take size new)
        (behind-is x rest b.behind) heads.1 (get-put s path (FileEntry (take size (bytes_at s path))) ∙ ap (λ o. Some (FileEntry (take size (bytes_in o)))) was)
        (get-put t path (FileEntry (take size (bytes_at t path))) ∙ ap (λ o. Some (FileEntry (take size (bytes_in o)))) is)
        (mixed-shortened (stays (x ∷ rest) path) (is_written (x ∷ rest) path) (stays rest path) (is_written rest path) size old new keeps (λ k e. e) le mixed)),
  )
    where
      x : Step
      x = Cut path size

      heads : (group_in (x ∷ rest) label control path ≡ Mixed) × (group_in rest label control path ≡ group_at path rest)
      heads = group-head label control x rest b.free b.untouched refl

      file : (bytes : List ℕ) × (entry_at s path ≡ Some (FileEntry bytes)) × (size ≤ length bytes)
      file = past-tells (entry_at s path) size (or_both _ None b.unrefused).0

      old : List ℕ
      old = file.0

      was : entry_at s path ≡ Some (FileEntry old)
      was = file.1

      le : size ≤ length old
      le = file.2

      both : (new : List ℕ) × (entry_at t path ≡ Some (FileEntry new)) × AreMixed (stays (x ∷ rest) path) (is_written (x ∷ rest) path) old new
      both = mixed-of label control (x ∷ rest) s t path old heads.0 was (b.all path)

      new : List ℕ
      new = both.0

      is : entry_at t path ≡ Some (FileEntry new)
      is = both.1

      mixed : AreMixed (stays (x ∷ rest) path) (is_written (x ∷ rest) path) old new
      mixed = both.2

      and-right : (p q r : Bool) → q ≡ true → r ≡ true → ((p || q) && r) ≡ true
      and-right true q r e f = f
      and-right false q r e f = ap (λ z. z && r) e ∙ f

      keeps : (k : ℕ) → k < size → stays (x ∷ rest) path k ≡ true
      keeps k lt = and-right _ (nat_lt k size) (stays rest path k) (less-is k size lt) (behind-stays x path k rest (path_eq-own path) b.behind)

      reach : size ≤ length new
      reach = long-enough (stays (x ∷ rest) path) (is_written (x ∷ rest) path) size old new keeps le mixed

  -- ---- a range

  part-long : (c : Contents) (changes : List Change) (from : PathValue) (at size : ℕ) → IsRead c changes from at size → length (part_of c from at size) ≡ size
  part-long c changes from at size read = omega (arith, length-take size (drop at (bytes_at c from)), length-drop at (bytes_at c from), read.bytes)

  -- by its bytes, of which there are some
  range-by : (from to : PathValue) (at size : ℕ) (rest : List Step) (s t : Contents) (bytes : List ℕ) → length bytes ≡ size → 0 < size → first_refusal s (writes_at to at bytes) ≡ None
      → Before (Range from to at size) rest s t → (first_refusal t (writes_at to at bytes) ≡ None) × AllOnWay (all_changed s (writes_at to at bytes)) rest label control (all_changed t (writes_at to at bytes))
  range-by from to at size rest s t [] long some none b = absurd (empty long)
    where
      empty : length {A = ℕ} [] ≡ size → ⊥
      empty e = omega (arith, e, some)
  range-by from to at size rest s t (d ∷ ds) long some none b = (
    next-none _ None (past-fits (entry_at t to) new at is reach) refl,
    turn-on label control x rest s t (insert s to (FileEntry (splice (bytes_at s to) at bytes))) (insert t to (FileEntry (splice (bytes_at t to) at bytes))) b.all
        (λ p off. get-put_other s to p (FileEntry (splice (bytes_at s to) at bytes)) off) (λ p off. get-put_other t to p (FileEntry (splice (bytes_at t to) at bytes)) off)
        (mixed-here label control rest (insert s to (FileEntry (splice (bytes_at s to) at bytes))) (insert t to (FileEntry (splice (bytes_at t to) at bytes))) to (splice old at bytes) (splice new at bytes)
        (behind-is x rest b.behind) heads.1 (get-put s to (FileEntry (splice (bytes_at s to) at bytes)) ∙ ap (λ o. Some (FileEntry (splice (bytes_in o) at bytes))) was)
        (get-put t to (FileEntry (splice (bytes_at t to) at bytes)) ∙ ap (λ o. Some (FileEntry (splice (bytes_in o) at bytes))) is)
        (mixed-spliced (stays (x ∷ rest) to) (is_written (x ∷ rest) to) (stays rest to) (is_written rest to) at bytes old new all-left off-range le mixed)),
  )
    where
      x : Step
      x = Range from to at size

      bytes : List ℕ
      bytes = d ∷ ds

      heads : (group_in (x ∷ rest) label control to ≡ Mixed) × (group_in rest label control to ≡ group_at to rest)
      heads = group-head label control x rest b.free b.untouched refl

      file : (bytes : List ℕ) × (entry_at s to ≡ Some (FileEntry bytes)) × (at ≤ length bytes)
      file = past-tells (entry_at s to) at (or_both _ None none).0

      old : List ℕ
      old = file.0

      was : entry_at s to ≡ Some (FileEntry old)
      was = file.1

      le : at ≤ length old
      le = file.2

      both : (new : List ℕ) × (entry_at t to ≡ Some (FileEntry new)) × AreMixed (stays (x ∷ rest) to) (is_written (x ∷ rest) to) old new
      both = mixed-of label control (x ∷ rest) s t to old heads.0 was (b.all to)

      new : List ℕ
      new = both.0

      is : entry_at t to ≡ Some (FileEntry new)
      is = both.1

      mixed : AreMixed (stays (x ∷ rest) to) (is_written (x ∷ rest) to) old new
      mixed = both.2

      all-left : (k : ℕ) → stays (x ∷ rest) to k ≡ true
      all-left k = behind-stays x to k rest (path_eq-own to) b.behind

      off-range : (k : ℕ) → is_written rest to k ≡ false → (k < at) ⊎ (at + length bytes ≤ k) → is_written (x ∷ rest) to k ≡ false
      off-range k off out =
          let here : (nat_le at k && nat_lt k (at + size)) ≡ false = out-range at size k (⊎_elim (λ lt. inl lt) (λ past. inr (omega (arith, past, long))) out) in
          or-none _ (is_written rest to k) (and-none (path_eq to to) _ here) off

      reach : at ≤ length new
      reach = long-enough (stays (x ∷ rest) to) (is_written (x ∷ rest) to) at old new (λ k lt. all-left k) le mixed

  pub range-turned : (from to : PathValue) (at size : ℕ) (rest : List Step) (s t : Contents) (changes : List Change) → IsRead found changes from at size → 0 < size → entry_at t from ≡ entry_at found from
      → Before (Range from to at size) rest s t → Turned (Range from to at size) rest s t
  range-turned from to at size rest s t changes read some same b =
      subst (λ l. (first_refusal t (writes_at to at l) ≡ None) × AllOnWay (all_changed s (writes_at to at (part_of found from at size))) rest label control (all_changed t (writes_at to at l)))
      (sym (part-same t from at size same))
      (range-by from to at size rest s t (part_of found from at size) (part-long found changes from at size read) some b.unrefused b)

  -- ---- what goes

  pub remove-turned : (path : PathValue) (rest : List Step) (s t : Contents) → length path.parts == 0 ≡ false → Before (Remove path) rest s t → Turned (Remove path) rest s t
  remove-turned path rest s t deep b = by (is_there t path) refl
    where
      x : Step
      x = Remove path

      plain : (is_file (entry_at s path) ≡ true) ⊎ ((entry_at s path ≡ Some (FolderEntry false)) × ((length path.parts == 0 || has_child s path) ≡ false))
      plain = plain-tells (length path.parts == 0 || has_child s path) (entry_at s path) (or_both _ None b.unrefused).0

      goes : group_at path (x ∷ rest) ≡ Gone
      goes = ap (λ e. cond e Gone (group_at path rest)) (path_eq-own path)

      -- as before, or the label's file
      now : is_there t path ≡ true → (get t path ≡ get s path) ⊎ (is_file (entry_at t path) ≡ true)
      now there = ⊎_elim (λ same. inl same) (λ way. inr (file (path_eq path label.path) (path_eq path control.path) way)) (b.all path)
        where
          file : (p q : Bool) → IsOnWay (x ∷ rest) control path (cond p Labelled (cond q Controlled (group_at path (x ∷ rest)))) (entry_at s path) (entry_at t path) → is_file (entry_at t path) ≡ true
          file true q way = may-there (entry_at t path) way.1 there
          file false true way = ap is_file way.is
          file false false way =
              let none : entry_at t path ≡ None = subst (λ g. IsOnWay (x ∷ rest) control path g (entry_at s path) (entry_at t path)) goes way in
              absurd (true≢false (sym there ∙ ap is_some none))

      fits : is_there t path ≡ true → removal_refusal (length path.parts == 0 || has_child t path) (entry_at t path) ≡ None
      fits there = ⊎_elim
          (λ same. ⊎_elim
          (λ file. file-goes (length path.parts == 0 || has_child t path) (entry_at t path) (ap (λ o. is_file (or_root path.parts o)) same ∙ file))
          (λ folder. let parts = or-parts (length path.parts == 0) (has_child s path) folder.1 in
          ap (λ o. removal_refusal (length path.parts == 0 || has_child t path) o) (ap (or_root path.parts) same ∙ folder.0)
          ∙ ap (λ u. removal_refusal u (Some (FolderEntry false))) (or-none (length path.parts == 0) (has_child t path) parts.0 (childless-stays label control s t (x ∷ rest) path b.all b.rooms goes parts.1)))
          plain)
          (λ file. file-goes (length path.parts == 0 || has_child t path) (entry_at t path) file)
          (now there)

      by : (there : Bool) → is_there t path ≡ there
          → (first_refusal t (cond there (Removes path ∷ []) []) ≡ None) × AllOnWay (remove s path) rest label control (all_changed t (cond there (Removes path ∷ []) []))
      by true e = (
        next-none _ None (fits e) refl,
        turn-on label control x rest s t (remove s path) (remove t path) b.all (λ p off. get-removed_other s path p off) (λ p off. get-removed_other t path p off) (inl (get-removed t path ∙ sym (get-removed s path))),
      )
      by false e = (
        refl,
        turn-on label control x rest s t (remove s path) t b.all (λ p off. get-removed_other s path p off) (λ p off. refl) (inl (get-none path.parts (get t path) (there-none (entry_at t path) e) ∙ sym (get-removed s path))),
      )

-- What the steps read: no step, neither the label nor the control file is on it, so it stays as it was found.
use Rattle.std.proofs.Common.{◌≡◌, ◌≢◌, ◌⊎◌, ℕ, ◌+◌, ◌<◌, ◌≤◌, ◌||◌, Bool, true, false, cond, List, [], ◌∷◌, ◌++◌, length, drop, inl, inr, refl, sym, ap, ◌∙◌, subst, true≢false, arith}
use Rattle.std.specs.List.{list_any}
use Rattle.std.specs.FinMap.{get}
use Rattle.std.proofs.lemmas.List.{length-drop, length-take}
use Rattle.cluster_tree.specs.Change.{Change, Cuts, MakesFile, MakesFolder, Removes, all_changed, is_on}
use Rattle.cluster_tree.specs.Contents.{Contents, entry_at, is_file, is_folder, or_root}
use Rattle.cluster_tree.specs.Marks.{is_there}
use Rattle.cluster_tree.specs.PathValue.{PathValue}
use Rattle.cluster_tree.specs.PathOrder.{path_eq}
use Rattle.cluster_tree.specs.Tree.{bytes_at, bytes_in}
use Rattle.cluster_tree.proofs.ChangeLemmas.{changed-elsewhere}
use Rattle.cluster_tree.proofs.Images.{Each}
use Rattle.cluster_tree.proofs.OrderLemmas.{path_eq-own, path_eq-same}
use Rattle.marked_runs.specs.Runs.{writes_at}
use Rattle.rewind_writes.specs.Plan.{closing_changes}
use Rattle.rewind_writes.specs.Steps.{FindAll, Finds, IsRead, changes_of, part_of, steps_changes}
use Rattle.rewind_writes.specs.Taken.{AllAreAsFound, IsAsFound}
use Rattle.rewind_writes.specs.declared.plan.FileBytes.{FileBytes}
use Rattle.rewind_writes.specs.declared.step.Step.{Step}
use Rattle.rewind_writes.specs.declared.step.Step.TheVariants.{Folder, Whole, Cut, Range, Remove}
use Rattle.rewind_writes.proofs.StepLemmas.{off-both}
use Rattle.resumed_laws.specs.Between.{AllOnWay, IsOnWay}
use Rattle.resumed_laws.specs.Groups.{Group, Untouched, Labelled, Controlled, AllAreProper, IsProper, group_at, group_in, group_of, target_of}
use Rattle.resumed_laws.specs.Resumed.{resumed_closing, resumed_of, resumed_steps}

or-parts : (a b : Bool) → (a || b) ≡ false → (a ≡ false) × (b ≡ false)
or-parts true b e = absurd (true≢false e)
or-parts false b e = (refl, e)

or-none : (a b : Bool) → a ≡ false → b ≡ false → (a || b) ≡ false
or-none true b e f = e
or-none false b e f = f

-- ---- the changes of a step are on its path, and there are some

part-long : (c : Contents) (changes : List Change) (from : PathValue) (at size : ℕ) → IsRead c changes from at size → length (part_of c from at size) ≡ size
part-long c changes from at size read = omega (arith, length-take size (drop at (bytes_at c from)), length-drop at (bytes_at c from), read.bytes)

writes-on : (path : PathValue) (at : ℕ) (bytes : List ℕ) → 0 < length bytes → list_any (is_on path) (writes_at path at bytes) ≡ true
writes-on path at [] some = absurd (empty some)
  where
    empty : 0 < length {A = ℕ} [] → ⊥
    empty h = omega (arith, h)
writes-on path at (b ∷ bytes) some = ap (λ z. z || false) (path_eq-own path)

opened-on : (path : PathValue) (b rest : Bool) → (is_on path (cond b (Cuts path 0) (MakesFile path)) || rest) ≡ true
opened-on path true rest = ap (λ z. z || rest) (path_eq-own path)
opened-on path false rest = ap (λ z. z || rest) (path_eq-own path)

own-on : (c : Contents) (changes : List Change) (x : Step) → Finds c changes x → IsProper x → list_any (is_on (target_of x)) (changes_of c x) ≡ true
own-on c changes (Folder path) found proper = ap (λ z. z || false) (path_eq-own path)
own-on c changes (Whole from to size) found proper = opened-on to (is_file (entry_at c to)) (list_any (is_on to) (writes_at to 0 (part_of c from 0 size)))
own-on c changes (Cut path size) found proper = ap (λ z. z || false) (path_eq-own path)
own-on c changes (Range from to at size) found proper = let long = part-long c changes from at size found in writes-on to at (part_of c from at size) (omega (arith, long, proper))
own-on c changes (Remove path) found proper = ap (λ z. z || false) (path_eq-own path)

-- so a path that no change is on no step is on
group-off : (c : Contents) (changes : List Change) (p : PathValue) (xs : List Step) → FindAll c changes xs → AllAreProper xs → list_any (is_on p) (steps_changes c xs) ≡ false → group_at p xs ≡ Untouched
group-off c changes p [] found proper off = refl
group-off c changes p (x ∷ xs) found proper off = by (path_eq p (target_of x)) refl two.0 (group-off c changes p xs found.1 proper.1 two.1)
  where
    two : (list_any (is_on p) (changes_of c x) ≡ false) × (list_any (is_on p) (steps_changes c xs) ≡ false)
    two = off-both p (changes_of c x) (steps_changes c xs) off

    by : (b : Bool) → path_eq p (target_of x) ≡ b → list_any (is_on p) (changes_of c x) ≡ false → group_at p xs ≡ Untouched → cond b (group_of x) (group_at p xs) ≡ Untouched
    by true e none rest = absurd (true≢false (sym (own-on c changes x found.0 proper.0) ∙ ap (λ q. list_any (is_on q) (changes_of c x)) (sym (path_eq-same p (target_of x) e)) ∙ none))
    by false e none rest = rest

-- ---- what is read is on no path of these

abbrev pub IsOff : (PathValue → Group) → Step → Type 0
IsOff group (Folder path) = Unit {0}
IsOff group (Whole from to size) = group from ≡ Untouched
IsOff group (Cut path size) = Unit {0}
IsOff group (Range from to at size) = group from ≡ Untouched
IsOff group (Remove path) = Unit {0}

module _ (found : Contents) (label control : FileBytes) (all : List Step) (reads : FindAll found (steps_changes found all ++ closing_changes label control) all) (proper : AllAreProper all) where
  pub off-one : (p : PathValue) → list_any (is_on p) (steps_changes found all ++ closing_changes label control) ≡ false → group_in all label control p ≡ Untouched
  off-one p off =
      let two = off-both p (steps_changes found all) (closing_changes label control) off in
      let one = or-parts (path_eq p label.path) _ two.1 in
      let more = or-parts (path_eq p label.path) _ one.1 in
      let last = or-parts (path_eq p control.path) false more.1 in
      ap (λ b. cond b Labelled (cond (path_eq p control.path) Controlled (group_at p all))) one.0 ∙ ap (λ b. cond b Controlled (group_at p all)) last.0
      ∙ group-off found (steps_changes found all ++ closing_changes label control) p all reads proper two.0

  off-step : (x : Step) → Finds found (steps_changes found all ++ closing_changes label control) x → IsOff (group_in all label control) x
  off-step (Folder path) found = tt
  off-step (Whole from to size) found = off-one from found.kept
  off-step (Cut path size) found = tt
  off-step (Range from to at size) found = off-one from found.kept
  off-step (Remove path) found = tt

  off-from : (xs : List Step) → FindAll found (steps_changes found all ++ closing_changes label control) xs → Each (IsOff (group_in all label control)) xs
  off-from [] more = tt
  off-from (x ∷ xs) more = (off-step x more.0, off-from xs more.1)

  pub all-off : Each (IsOff (group_in all label control)) all
  all-off = off-from all reads

-- an untouched path is that of no step, and neither the label's nor the control file's
pub off-parts : (steps : List Step) (label control : FileBytes) (p : PathValue) → group_in steps label control p ≡ Untouched → (path_eq p label.path ≡ false) × (path_eq p control.path ≡ false) × (group_at p steps ≡ Untouched)
off-parts steps label control p off = by (path_eq p label.path) refl (path_eq p control.path) refl off
  where
    by : (a : Bool) → path_eq p label.path ≡ a → (b : Bool) → path_eq p control.path ≡ b → cond a Labelled (cond b Controlled (group_at p steps)) ≡ Untouched → (a ≡ false) × (b ≡ false) × (group_at p steps ≡ Untouched)
    by true e b f h = absurd (cc h)
    by false e true f h = absurd (cc h)
    by false e false f h = (refl, refl, h)

group-some : (x : Step) → group_of x ≢ Untouched
group-some (Folder path) e = cc e
group-some (Whole from to size) e = cc e
group-some (Cut path size) e = cc e
group-some (Range from to at size) e = cc e
group-some (Remove path) e = cc e

pub off-head : (x : Step) (rest : List Step) (p : PathValue) → group_at p (x ∷ rest) ≡ Untouched → (path_eq p (target_of x) ≡ false) × (group_at p rest ≡ Untouched)
off-head x rest p off = by (path_eq p (target_of x)) refl off
  where
    by : (b : Bool) → path_eq p (target_of x) ≡ b → cond b (group_of x) (group_at p rest) ≡ Untouched → (b ≡ false) × (group_at p rest ≡ Untouched)
    by true e h = absurd (group-some x h)
    by false e h = (refl, h)

-- ---- a resume isn't on such a path

turned-on : (p path : PathValue) (b rest : Bool) → path_eq p path ≡ false → rest ≡ false → (is_on p (cond b (Cuts path 0) (MakesFile path)) || rest) ≡ false
turned-on p path true rest off none = or-none (path_eq p path) rest off none
turned-on p path false rest off none = or-none (path_eq p path) rest off none

writes-off : (p path : PathValue) (at : ℕ) (bytes : List ℕ) → path_eq p path ≡ false → list_any (is_on p) (writes_at path at bytes) ≡ false
writes-off p path at [] off = refl
writes-off p path at (b ∷ bytes) off = or-none (path_eq p path) false off refl

pub resumed-off : (t : Contents) (x : Step) (p : PathValue) → path_eq p (target_of x) ≡ false → list_any (is_on p) (resumed_of t x) ≡ false
resumed-off t (Folder path) p off = by (is_folder (entry_at t path))
  where
    by : (b : Bool) → list_any (is_on p) (cond b [] (MakesFolder path ∷ [])) ≡ false
    by true = refl
    by false = or-none (path_eq p path) false off refl
resumed-off t (Whole from to size) p off = turned-on p to (is_file (entry_at t to)) _ off (writes-off p to 0 (part_of t from 0 size) off)
resumed-off t (Cut path size) p off = or-none (path_eq p path) false off refl
resumed-off t (Range from to at size) p off = writes-off p to at (part_of t from at size) off
resumed-off t (Remove path) p off = by (is_there t path)
  where
    by : (b : Bool) → list_any (is_on p) (cond b (Removes path ∷ []) []) ≡ false
    by true = or-none (path_eq p path) false off refl
    by false = refl

any-both : (p : PathValue) (xs ys : List Change) → list_any (is_on p) xs ≡ false → list_any (is_on p) ys ≡ false → list_any (is_on p) (xs ++ ys) ≡ false
any-both p [] ys one other = other
any-both p (x ∷ xs) ys one other = let two = or-parts (is_on p x) (list_any (is_on p) xs) one in or-none (is_on p x) _ two.0 (any-both p xs ys two.1 other)

resumed_steps-off : (t : Contents) (xs : List Step) (p : PathValue) → group_at p xs ≡ Untouched → list_any (is_on p) (resumed_steps t xs) ≡ false
resumed_steps-off t [] p off = refl
resumed_steps-off t (x ∷ xs) p off =
    let two = off-head x xs p off in
    any-both p (resumed_of t x) (resumed_steps (all_changed t (resumed_of t x)) xs) (resumed-off t x p two.0) (resumed_steps-off (all_changed t (resumed_of t x)) xs p two.1)

pub resumed_body-off : (t d : Contents) (steps : List Step) (label control : FileBytes) (p : PathValue) → group_in steps label control p ≡ Untouched → list_any (is_on p) (resumed_steps t steps ++ resumed_closing d label control) ≡ false
resumed_body-off t d steps label control p off =
    let parts = off-parts steps label control p off in
    any-both p (resumed_steps t steps) (resumed_closing d label control) (resumed_steps-off t steps p parts.2)
    (turned-on p label.path (is_file (entry_at d label.path)) _ parts.0 (or-none (path_eq p label.path) _ parts.0 (or-none (path_eq p control.path) false parts.1 refl)))

-- ---- what is read is as it was found

pub untouched-same : (s t : Contents) (steps : List Step) (label control : FileBytes) (p : PathValue) → AllOnWay s steps label control t → group_in steps label control p ≡ Untouched → get t p ≡ get s p
untouched-same s t steps label control p all off = by (all p)
  where
    by : (get t p ≡ get s p) ⊎ IsOnWay steps control p (group_in steps label control p) (entry_at s p) (entry_at t p) → get t p ≡ get s p
    by (inl same) = same
    by (inr way) = absurd (subst (λ g. IsOnWay steps control p g (entry_at s p) (entry_at t p)) off way)

found-one : (found s t : Contents) (steps : List Step) (label control : FileBytes) (x : Step) → AllOnWay s steps label control t → IsOff (group_in steps label control) x → IsAsFound found s x → IsAsFound found t x
found-one found s t steps label control (Folder path) all off as_found = tt
found-one found s t steps label control (Whole from to size) all off as_found = ap (or_root from.parts) (untouched-same s t steps label control from all off) ∙ as_found
found-one found s t steps label control (Cut path size) all off as_found = tt
found-one found s t steps label control (Range from to at size) all off as_found = ap (or_root from.parts) (untouched-same s t steps label control from all off) ∙ as_found
found-one found s t steps label control (Remove path) all off as_found = tt

pub found-all : (found s t : Contents) (steps : List Step) (label control : FileBytes) (xs : List Step) → AllOnWay s steps label control t → Each (IsOff (group_in steps label control)) xs → AllAreAsFound found s xs → AllAreAsFound found t xs
found-all found s t steps label control [] all off as_found = tt
found-all found s t steps label control (x ∷ xs) all off as_found = (found-one found s t steps label control x all off.0 as_found.0, found-all found s t steps label control xs all off.1 as_found.1)

-- and stays so under a step of the resume
found-turned : (found t : Contents) (x : Step) (p : PathValue) → path_eq p (target_of x) ≡ false → entry_at t p ≡ entry_at found p → entry_at (all_changed t (resumed_of t x)) p ≡ entry_at found p
found-turned found t x p off same = changed-elsewhere t (resumed_of t x) p (resumed-off t x p off) ∙ same

found-next : (found t : Contents) (x : Step) (rest : List Step) (y : Step) → IsOff (λ p. group_at p (x ∷ rest)) y → IsAsFound found t y → IsAsFound found (all_changed t (resumed_of t x)) y
found-next found t x rest (Folder path) off as_found = tt
found-next found t x rest (Whole from to size) off as_found = found-turned found t x from (off-head x rest from off).0 as_found
found-next found t x rest (Cut path size) off as_found = tt
found-next found t x rest (Range from to at size) off as_found = found-turned found t x from (off-head x rest from off).0 as_found
found-next found t x rest (Remove path) off as_found = tt

pub found-rest : (found t : Contents) (x : Step) (rest ys : List Step) → Each (IsOff (λ p. group_at p (x ∷ rest))) ys → AllAreAsFound found t ys → AllAreAsFound found (all_changed t (resumed_of t x)) ys
found-rest found t x rest [] off as_found = tt
found-rest found t x rest (y ∷ ys) off as_found = (found-next found t x rest y off.0 as_found.0, found-rest found t x rest ys off.1 as_found.1)

off-next : (x : Step) (rest : List Step) (y : Step) → IsOff (λ p. group_at p (x ∷ rest)) y → IsOff (λ p. group_at p rest) y
off-next x rest (Folder path) off = tt
off-next x rest (Whole from to size) off = (off-head x rest from off).1
off-next x rest (Cut path size) off = tt
off-next x rest (Range from to at size) off = (off-head x rest from off).1
off-next x rest (Remove path) off = tt

pub off-rest : (x : Step) (rest ys : List Step) → Each (IsOff (λ p. group_at p (x ∷ rest))) ys → Each (IsOff (λ p. group_at p rest)) ys
off-rest x rest [] off = tt
off-rest x rest (y ∷ ys) off = (off-next x rest y off.0, off-rest x rest ys off.1)

off-alone : (steps : List Step) (label control : FileBytes) (y : Step) → IsOff (group_in steps label control) y → IsOff (λ p. group_at p steps) y
off-alone steps label control (Folder path) off = tt
off-alone steps label control (Whole from to size) off = (off-parts steps label control from off).2
off-alone steps label control (Cut path size) off = tt
off-alone steps label control (Range from to at size) off = (off-parts steps label control from off).2
off-alone steps label control (Remove path) off = tt

pub off-steps : (steps : List Step) (label control : FileBytes) (ys : List Step) → Each (IsOff (group_in steps label control)) ys → Each (IsOff (λ p. group_at p steps)) ys
off-steps steps label control [] off = tt
off-steps steps label control (y ∷ ys) off = (off-alone steps label control y off.0, off-steps steps label control ys off.1)

-- ---- what a resume reads

read-again : (found i : Contents) (changes again : List Change) (from : PathValue) (at size : ℕ) → IsRead found changes from at size → entry_at i from ≡ entry_at found from → list_any (is_on from) again ≡ false → IsRead i again from at size
read-again found i changes again from at size read same off = record {
  file = ap is_file same ∙ read.file;
  bytes = subst (λ o. at + size ≤ length (bytes_in o)) (sym same) read.bytes;
  kept = off;
}

finds-again : (found i d : Contents) (changes : List Change) (steps : List Step) (label control : FileBytes) (x : Step) → Finds found changes x → IsAsFound found i x → IsOff (group_in steps label control) x
    → Finds i (resumed_steps i steps ++ resumed_closing d label control) x
finds-again found i d changes steps label control (Folder path) reads as_found off = tt
finds-again found i d changes steps label control (Whole from to size) reads as_found off = read-again found i changes _ from 0 size reads as_found (resumed_body-off i d steps label control from off)
finds-again found i d changes steps label control (Cut path size) reads as_found off = tt
finds-again found i d changes steps label control (Range from to at size) reads as_found off = read-again found i changes _ from at size reads as_found (resumed_body-off i d steps label control from off)
finds-again found i d changes steps label control (Remove path) reads as_found off = tt

pub find-again : (found i d : Contents) (changes : List Change) (steps : List Step) (label control : FileBytes) (xs : List Step) → FindAll found changes xs → AllAreAsFound found i xs → Each (IsOff (group_in steps label control)) xs
    → FindAll i (resumed_steps i steps ++ resumed_closing d label control) xs
find-again found i d changes steps label control [] reads as_found off = tt
find-again found i d changes steps label control (x ∷ xs) reads as_found off =
    (finds-again found i d changes steps label control x reads.0 as_found.0 off.0, find-again found i d changes steps label control xs reads.1 as_found.1 off.1)

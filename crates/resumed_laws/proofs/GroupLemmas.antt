-- The groups of steps on each path, and that the calls of a plan, done first or again, are such as it may make.
use Rattle.std.proofs.Common.{◌≡◌, ◌≢◌, ◌⊎◌, ℕ, ◌+◌, ◌<◌, ◌≤◌, ◌==◌, ◌&&◌, ◌||◌, Bool, true, false, not, cond, nat_lt, List, [], ◌∷◌, ◌++◌, map, length, drop, inl, inr, refl, sym, ap, ◌∙◌, subst, true≢false, arith}
use Rattle.std.specs.Prelude.{nat_le}
use Rattle.std.proofs.lemmas.List.{length-take, map-append}
use Rattle.cluster_tree.specs.Change.{Change, Cuts, MakesFile, MakesFolder, Removes, Writes, all_changed, call_of}
use Rattle.cluster_tree.specs.Contents.{Contents, entry_at, is_file, is_folder}
use Rattle.cluster_tree.specs.Marks.{is_there}
use Rattle.cluster_tree.specs.PathValue.{PathValue}
use Rattle.cluster_tree.specs.PathOrder.{path_eq}
use Rattle.cluster_tree.specs.Tree.{bytes_at}
use Rattle.cluster_tree.proofs.Images.{Each}
use Rattle.cluster_tree.proofs.OrderLemmas.{path_eq-other, path_eq-own, path_eq-same}
use Rattle.marked_runs.specs.Runs.{writes_at}
use Rattle.rewind_writes.specs.Plan.{closing_changes}
use Rattle.rewind_writes.specs.Steps.{changes_of, opened, part_of, steps_changes}
use Rattle.rewind_writes.specs.declared.plan.FileBytes.{FileBytes}
use Rattle.rewind_writes.specs.declared.step.Step.{Step}
use Rattle.rewind_writes.specs.declared.step.Step.TheVariants.{Folder, Whole, Cut, Range, Remove}
use Rattle.resumed_laws.specs.Groups.{Group, Untouched, Made, Copied, Mixed, Gone, Labelled, Controlled, AllAreProper, AllBehind, AreGrouped, group_at, group_in, group_of, is_free, is_gone, is_left, is_put, is_range, is_written, stays, target_of}
use Rattle.resumed_laws.specs.Resumed.{resumed_closing, resumed_of, resumed_steps}
use Rattle.resumed_laws.proofs.ByteLemmas.{in-range, less-is, less-tells}
use Rattle.resumed_laws.proofs.May.{May, MayCut, MayMakeFile, MayRemove, MayWrite}
use Rattle.resumed_laws.proofs.MayLemmas.{both-true, each-both}

-- ---- the group of a step is that of its path

range-mixed : (y : Step) → is_range y ≡ true → group_of y ≡ Mixed
range-mixed (Folder path) e = absurd (cc e)
range-mixed (Whole from to size) e = absurd (cc e)
range-mixed (Cut path size) e = absurd (cc e)
range-mixed (Range from to at size) e = refl
range-mixed (Remove path) e = absurd (cc e)

-- a path that two steps share
shared : (x y : Step) → path_eq (target_of y) (target_of x) ≡ true → path_eq (target_of x) (target_of y) ≡ true
shared x y e = ap (path_eq (target_of x)) (path_eq-same (target_of y) (target_of x) e) ∙ path_eq-own (target_of x)

own-behind : (x : Step) (rest ys : List Step) → AllBehind x ys → Each (λ y. group_at (target_of y) rest ≡ group_of y) ys → Each (λ y. group_at (target_of y) (x ∷ rest) ≡ group_of y) ys
own-behind x rest [] behind own = tt
own-behind x rest (y ∷ ys) behind own = (by (path_eq (target_of y) (target_of x)) refl, own-behind x rest ys behind.1 own.1)
  where
    by : (b : Bool) → path_eq (target_of y) (target_of x) ≡ b → cond b (group_of x) (group_at (target_of y) rest) ≡ group_of y
    by true e = let both = behind.0 (shared x y e) in both.0 ∙ sym (range-mixed y both.1)
    by false e = own.0

pub groups-own : (xs : List Step) → AreGrouped xs → Each (λ y. group_at (target_of y) xs ≡ group_of y) xs
groups-own [] grouped = tt
groups-own (x ∷ xs) grouped =
    (ap (λ b. cond b (group_of x) (group_at (target_of x) xs)) (path_eq-own (target_of x)), own-behind x xs xs grouped.0 (groups-own xs grouped.1))

-- behind a step on a path nothing is on it, or ranges
pub behind-group : (x : Step) (path : PathValue) (ys : List Step) → path_eq path (target_of x) ≡ true → AllBehind x ys → (group_at path ys ≡ Untouched) ⊎ ((group_of x ≡ Mixed) × (group_at path ys ≡ Mixed))
behind-group x path [] e behind = inl refl
behind-group x path (y ∷ ys) e behind = by (path_eq path (target_of y)) refl (behind-group x path ys e behind.1)
  where
    by : (b : Bool) → path_eq path (target_of y) ≡ b → (group_at path ys ≡ Untouched) ⊎ ((group_of x ≡ Mixed) × (group_at path ys ≡ Mixed))
        → (cond b (group_of y) (group_at path ys) ≡ Untouched) ⊎ ((group_of x ≡ Mixed) × (cond b (group_of y) (group_at path ys) ≡ Mixed))
    by false f more = more
    by true f more =
        let both = behind.0 (ap (λ p. path_eq p (target_of y)) (sym (path_eq-same path (target_of x) e)) ∙ f) in
        inr (both.0, range-mixed y both.1)

-- ---- what is known of each step of a plan

module _ (all : List Step) (label control : FileBytes) where
  abbrev pub Known : Step → Type 0
  Known (Folder path) = group_in all label control path ≡ Made
  Known (Whole from to size) = group_in all label control to ≡ Copied
  Known (Cut path size) = (group_in all label control path ≡ Mixed) × ((k : ℕ) → stays all path k ≡ true → k < size)
  Known (Range from to at size) = (group_in all label control to ≡ Mixed) × ((k : ℕ) → at ≤ k → k < at + size → is_written all to k ≡ true)
  Known (Remove path) = MayRemove all path (group_in all label control path)

  module _ (free : is_free (group_at label.path all) ≡ true) (untouched : group_at control.path all ≡ Untouched) where
    pub group-in_own : (p : PathValue) (g : Group) → group_at p all ≡ g → is_free g ≡ false → group_in all label control p ≡ g
    group-in_own p g is taken = by (path_eq p label.path) refl (path_eq p control.path) refl
      where
        by : (a : Bool) → path_eq p label.path ≡ a → (b : Bool) → path_eq p control.path ≡ b → cond a Labelled (cond b Controlled (group_at p all)) ≡ g
        by true e b f = absurd (true≢false (sym free ∙ ap (λ q. is_free (group_at q all)) (sym (path_eq-same p label.path e)) ∙ ap is_free is ∙ taken))
        by false e true f = absurd (true≢false (ap is_free (sym untouched ∙ ap (λ q. group_at q all) (sym (path_eq-same p control.path f)) ∙ is) ∙ taken))
        by false e false f = is

    goes-own : (p : PathValue) → group_at p all ≡ Gone → length p.parts == 0 ≡ false → MayRemove all p (group_in all label control p)
    goes-own p is deep = by (path_eq p label.path) (path_eq p control.path) refl
      where
        by : (a b : Bool) → path_eq p control.path ≡ b → MayRemove all p (cond a Labelled (cond b Controlled (group_at p all)))
        by true b f = (ap is_gone is, deep)
        by false true f = absurd (cc (sym untouched ∙ ap (λ q. group_at q all) (sym (path_eq-same p control.path f)) ∙ is))
        by false false f = subst (MayRemove all p) (sym is) deep

    left-size : (p : PathValue) (k size : ℕ) (rest : Bool) → ((not (path_eq p p) || nat_lt k size) && rest) ≡ true → k < size
    left-size p k size rest e = less-tells k size (ap (λ b. not b || nat_lt k size) (sym (path_eq-own p)) ∙ (both-true (not (path_eq p p) || nat_lt k size) rest e).0)

    put-here : (p : PathValue) (at size k : ℕ) (rest : Bool) → at ≤ k → k < at + size → ((path_eq p p && (nat_le at k && nat_lt k (at + size))) || rest) ≡ true
    put-here p at size k rest le lt = ap (λ b. (b && (nat_le at k && nat_lt k (at + size))) || rest) (path_eq-own p) ∙ ap (λ b. b || rest) (in-range at size k le lt)

    or-more : (a b : Bool) → b ≡ true → (a || b) ≡ true
    or-more true b e = refl
    or-more false b e = e

    known-one : (y : Step) (ys : List Step) → ((p : PathValue) (k : ℕ) → stays all p k ≡ true → stays (y ∷ ys) p k ≡ true) → ((p : PathValue) (k : ℕ) → is_written (y ∷ ys) p k ≡ true → is_written all p k ≡ true)
        → group_at (target_of y) all ≡ group_of y → AllAreProper (y ∷ ys) → Known y
    known-one (Folder path) ys left put own proper = group-in_own path Made own refl
    known-one (Whole from to size) ys left put own proper = group-in_own to Copied own refl
    known-one (Cut path size) ys left put own proper = (group-in_own path Mixed own refl, λ k stay. left-size path k size (stays ys path k) (left path k stay))
    known-one (Range from to at size) ys left put own proper = (group-in_own to Mixed own refl, λ k le lt. put to k (put-here to at size k (is_written ys to k) le lt))
    known-one (Remove path) ys left put own proper = goes-own path own proper.0

    known-from : (ys : List Step) → ((p : PathValue) (k : ℕ) → stays all p k ≡ true → stays ys p k ≡ true) → ((p : PathValue) (k : ℕ) → is_written ys p k ≡ true → is_written all p k ≡ true)
        → Each (λ y. group_at (target_of y) all ≡ group_of y) ys → AllAreProper ys → Each Known ys
    known-from [] left put own proper = tt
    known-from (y ∷ ys) left put own proper = (
      known-one y ys left put own.0 proper,
      known-from ys (λ p k stay. (both-true (is_left p k y) (stays ys p k) (left p k stay)).1) (λ p k e. put p k (or-more (is_put p k y) (is_written ys p k) e)) own.1 proper.1,
    )

    pub all-known : AreGrouped all → AllAreProper all → Each Known all
    all-known grouped proper = known-from all (λ p k e. e) (λ p k e. e) (groups-own all grouped) proper

  -- ---- the calls of changes

  abbrev pub Mays : List Change → Type 0
  Mays changes = Each (May all label control) (map call_of changes)

  pub mays-both : (xs ys : List Change) → Mays xs → Mays ys → Mays (xs ++ ys)
  mays-both xs ys one other = subst (Each (May all label control)) (sym (map-append call_of xs ys)) (each-both (May all label control) (map call_of xs) (map call_of ys) one other)

  part-short : (d : Contents) (from : PathValue) (at size : ℕ) → length (part_of d from at size) ≤ size
  part-short d from at size = omega (arith, length-take size (drop at (bytes_at d from)))

  mays-writes : (path : PathValue) (at : ℕ) (bytes : List ℕ) → MayWrite all control path at (length bytes) (group_in all label control path) → Mays (writes_at path at bytes)
  mays-writes path at [] may = tt
  mays-writes path at (b ∷ bytes) may = (may, tt)

  mays-opened : (d : Contents) (path : PathValue) → MayCut all path 0 (group_in all label control path) → MayMakeFile (group_in all label control path) → May all label control (call_of (opened d path))
  mays-opened d path cuts makes = by (is_file (entry_at d path))
    where
      by : (b : Bool) → May all label control (call_of (cond b (Cuts path 0) (MakesFile path)))
      by true = cuts
      by false = makes

  mays-whole : (d : Contents) (from to : PathValue) (size : ℕ) → group_in all label control to ≡ Copied → Mays (opened d to ∷ writes_at to 0 (part_of d from 0 size))
  mays-whole d from to size is = (
    mays-opened d to (subst (MayCut all to 0) (sym is) tt) (subst MayMakeFile (sym is) tt),
    mays-writes to 0 (part_of d from 0 size) (subst (MayWrite all control to 0 (length (part_of d from 0 size))) (sym is) tt),
  )

  mays-cut : (path : PathValue) (size : ℕ) → Known (Cut path size) → Mays (Cuts path size ∷ [])
  mays-cut path size known = (subst (MayCut all path size) (sym known.0) known.1, tt)

  mays-range : (d : Contents) (from to : PathValue) (at size : ℕ) → Known (Range from to at size) → Mays (writes_at to at (part_of d from at size))
  mays-range d from to at size known =
      mays-writes to at (part_of d from at size) (subst (MayWrite all control to at (length (part_of d from at size))) (sym known.0) (λ k le lt. known.1 k le (omega (arith, lt, part-short d from at size))))

  pub changes-may : (d : Contents) (y : Step) → Known y → Mays (changes_of d y)
  changes-may d (Folder path) known = (known, tt)
  changes-may d (Whole from to size) known = mays-whole d from to size known
  changes-may d (Cut path size) known = mays-cut path size known
  changes-may d (Range from to at size) known = mays-range d from to at size known
  changes-may d (Remove path) known = (known, tt)

  pub resumed-may : (d : Contents) (y : Step) → Known y → Mays (resumed_of d y)
  resumed-may d (Folder path) known = by (is_folder (entry_at d path))
    where
      by : (b : Bool) → Mays (cond b [] (MakesFolder path ∷ []))
      by true = tt
      by false = (known, tt)
  resumed-may d (Whole from to size) known = mays-whole d from to size known
  resumed-may d (Cut path size) known = mays-cut path size known
  resumed-may d (Range from to at size) known = mays-range d from to at size known
  resumed-may d (Remove path) known = by (is_there d path)
    where
      by : (b : Bool) → Mays (cond b (Removes path ∷ []) [])
      by true = (known, tt)
      by false = tt

  pub steps-may : (d : Contents) (ys : List Step) → Each Known ys → Mays (steps_changes d ys)
  steps-may d [] known = tt
  steps-may d (y ∷ ys) known = mays-both (changes_of d y) (steps_changes d ys) (changes-may d y known.0) (steps-may d ys known.1)

  pub resumed_steps-may : (d : Contents) (ys : List Step) → Each Known ys → Mays (resumed_steps d ys)
  resumed_steps-may d [] known = tt
  resumed_steps-may d (y ∷ ys) known =
      mays-both (resumed_of d y) (resumed_steps (all_changed d (resumed_of d y)) ys) (resumed-may d y known.0) (resumed_steps-may (all_changed d (resumed_of d y)) ys known.1)

  -- ---- and behind the steps

  pub label-in : group_in all label control label.path ≡ Labelled
  label-in = ap (λ b. cond b Labelled (cond (path_eq label.path control.path) Controlled (group_at label.path all))) (path_eq-own label.path)

  pub control-in : label.path ≢ control.path → group_in all label control control.path ≡ Controlled
  control-in apart =
      ap (λ b. cond b Labelled (cond (path_eq control.path control.path) Controlled (group_at control.path all))) (path_eq-other control.path label.path (λ e. apart (sym e)))
      ∙ ap (λ b. cond b Controlled (group_at control.path all)) (path_eq-own control.path)

  closes-may : label.path ≢ control.path → Mays (Writes label.path 0 label.bytes.items ∷ Writes control.path 0 control.bytes.items ∷ [])
  closes-may apart = (
    subst (MayWrite all control label.path 0 (length label.bytes.items)) (sym label-in) tt,
    (subst (MayWrite all control control.path 0 (length control.bytes.items)) (sym (control-in apart)) (λ k le lt. less-is k (length control.bytes.items) (omega (arith, lt))), tt),
  )

  pub closing-may : label.path ≢ control.path → Mays (closing_changes label control)
  closing-may apart = (subst MayMakeFile (sym label-in) tt, closes-may apart)

  pub resumed_closing-may : (d : Contents) → label.path ≢ control.path → Mays (resumed_closing d label control)
  resumed_closing-may d apart = (mays-opened d label.path (subst (MayCut all label.path 0) (sym label-in) tt) (subst MayMakeFile (sym label-in) tt), closes-may apart)

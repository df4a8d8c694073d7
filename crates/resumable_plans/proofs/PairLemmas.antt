-- The steps of pairs, each on its own path.
use Rattle.std.proofs.Common.{◌≡◌, ℕ, zero, suc, ◌+◌, ◌/◌, ◌==◌, ◌||◌, Bool, true, false, cond, nat_lt, List, [], ◌∷◌, ◌++◌, length, map, Option, None, Some, is_some, refl, sym, ap, ◌∙◌, subst, true≢false, arith}
use Rattle.std.specs.List.{list_any}
use Rattle.block_refs.specs.declared.names.RelName.{RelName}
use Rattle.cluster_tree.specs.Contents.{Contents}
use Rattle.cluster_tree.specs.PathValue.{PathValue}
use Rattle.cluster_tree.specs.PathOrder.{path_eq}
use Rattle.cluster_tree.proofs.Images.{Each}
use Rattle.cluster_tree.proofs.OrderLemmas.{path_eq-own, path_eq-same}
use Rattle.file_walk.specs.Relations.{relation_of}
use Rattle.file_walk.specs.declared.action.Action.{Action}
use Rattle.file_walk.specs.declared.action.Action.TheVariants as action
use Rattle.file_walk.specs.declared.entry.EntryKind.{EntryKind}
use Rattle.file_walk.specs.declared.entry.EntryKind.TheVariants as kind
use Rattle.file_walk.specs.declared.pair.Pair.{Pair}
use Rattle.rewind_writes.specs.declared.step.Step.{Step}
use Rattle.rewind_writes.specs.declared.step.Step.TheVariants.{Cut}
use Rattle.rewind_plan.specs.Blocks.{block_steps, is_copied, onto_runs, range_step, runs_of}
use Rattle.rewind_plan.specs.Planned.{Between, both_files, file_steps, folder_step, in_source, in_target, removal_step, touched_steps, wants, whole_step}
use Rattle.rewind_plan.specs.Sides.{AllPaired, AreInTurn, IsPaired, is_at}
use Rattle.rewind_plan.proofs.KindLemmas.{deep_in}
use Rattle.rewind_plan.proofs.SideLemmas.{at-below, path-is, same-pair}
use Rattle.resumed_laws.specs.Groups.{Group, Made, Copied, Mixed, Gone, AllAreProper, AllBehind, AreGrouped, group_of}
use Rattle.resumable_plans.proofs.OrderLemmas.{AllOn, Cross, cross-apart, cross-left, cross-none, cross-right, grouped-both}

-- ---- runs of blocks; their type is rewind_plan's own

some_with : (from to : PathValue) (block : ℕ) (runs : List _) → AllAreProper (map (range_step from to) runs) → AllAreProper (map (range_step from to) (onto_runs block runs))
some_with from to block [] some = (omega arith, tt)
some_with from to block (run ∷ runs) some = by (run.first == block + 1)
  where
    by : (b : Bool) → AllAreProper (map (range_step from to) (cond b (record { first = block; count = run.count + 1 } ∷ runs) (record { first = block; count = 1 } ∷ run ∷ runs)))
    by true = (omega arith, some.1)
    by false = (omega arith, some)

-- a run has at least one block
runs_some : (from to : PathValue) (p : ℕ → Bool) (block count : ℕ) → AllAreProper (map (range_step from to) (runs_of p block count))
runs_some from to p block zero = tt
runs_some from to p block (suc count) = by (p block) (runs_some from to p (block + 1) count)
  where
    by : (b : Bool) → AllAreProper (map (range_step from to) (runs_of p (block + 1) count))
        → AllAreProper (map (range_step from to) (cond b (onto_runs block (runs_of p (block + 1) count)) (runs_of p (block + 1) count)))
    by true more = some_with from to block (runs_of p (block + 1) count) more
    by false more = more

ranges_on : (from to : PathValue) (runs : List _) → AllOn to (map (range_step from to) runs)
ranges_on from to [] = tt
ranges_on from to (run ∷ runs) = (refl, ranges_on from to runs)

ranges_behind : (x : Step) → group_of x ≡ Mixed → (from to : PathValue) (runs : List _) → AllBehind x (map (range_step from to) runs)
ranges_behind x is from to [] = tt
ranges_behind x is from to (run ∷ runs) = (λ e. (is, refl), ranges_behind x is from to runs)

ranges_grouped : (from to : PathValue) (runs : List _) → AreGrouped (map (range_step from to) runs)
ranges_grouped from to [] = tt
ranges_grouped from to (run ∷ runs) = (ranges_behind (range_step from to run) refl from to runs, ranges_grouped from to runs)

ranges_mixed : (from to : PathValue) (runs : List _) → Each (λ x. group_of x ≡ Mixed) (map (range_step from to) runs)
ranges_mixed from to [] = tt
ranges_mixed from to (run ∷ runs) = (refl, ranges_mixed from to runs)

-- ---- the blocks of a file

-- what is known of the steps of a pair
pub record Fine (p : PathValue) (xs : List Step) : Type 0 where
  pub on : AllOn p xs
  pub grouped : AreGrouped xs
  pub proper : AllAreProper xs

none_fine : (p : PathValue) → Fine p []
none_fine p = record { on = tt; grouped = tt; proper = tt }

ranges_fine : (from to : PathValue) (new : ℕ) (runs : List _) → AllAreProper (map (range_step from to) runs) → (b : Bool)
    → Fine to (cond b (Cut to new ∷ []) [] ++ map (range_step from to) runs) × Each (λ x. group_of x ≡ Mixed) (cond b (Cut to new ∷ []) [] ++ map (range_step from to) runs)
ranges_fine from to new runs some true = (
  record { on = (refl, ranges_on from to runs); grouped = (ranges_behind (Cut to new) refl from to runs, ranges_grouped from to runs); proper = (tt, some) },
  (refl, ranges_mixed from to runs),
)
ranges_fine from to new runs some false = (record { on = ranges_on from to runs; grouped = ranges_grouped from to runs; proper = some }, ranges_mixed from to runs)

blocks_fine : (from to : PathValue) (wanted : ℕ → Bool) (old new : ℕ) → Fine to (block_steps from to wanted old new) × Each (λ x. group_of x ≡ Mixed) (block_steps from to wanted old new)
blocks_fine from to wanted old new = ranges_fine from to new (runs_of (is_copied wanted old) 0 (new / 8192)) (runs_some from to (is_copied wanted old) 0 (new / 8192)) (nat_lt new old)

-- ---- the steps of a pair, by what is done

module _ (w : Between) where
  both_fine : (x : Pair) (at : RelName × ℕ) (target source : Option EntryKind) → Fine (in_target w x) (both_files w x at target source) × Each (λ y. group_of y ≡ Mixed) (both_files w x at target source)
  both_fine x at (Some (kind.File old)) (Some (kind.File new)) = blocks_fine (in_source w x) (in_target w x) (wants w at.0 at.1) old new
  both_fine x at (Some (kind.File old)) (Some kind.Folder) = (none_fine (in_target w x), tt)
  both_fine x at (Some (kind.File old)) None = (none_fine (in_target w x), tt)
  both_fine x at (Some kind.Folder) source = (none_fine (in_target w x), tt)
  both_fine x at None source = (none_fine (in_target w x), tt)

  touched_fine : (x : Pair) (at : Option (RelName × ℕ)) → Fine (in_target w x) (touched_steps w x at) × Each (λ y. (is_some at ≡ true) × (group_of y ≡ Mixed)) (touched_steps w x at)
  touched_fine x None = (none_fine (in_target w x), tt)
  touched_fine x (Some at) = let both = both_fine x at x.target x.source in (both.0, with_some (both_files w x at x.target x.source) both.1)
    where
      with_some : (ys : List Step) → Each (λ y. group_of y ≡ Mixed) ys → Each (λ y. (is_some (Some at) ≡ true) × (group_of y ≡ Mixed)) ys
      with_some [] each = tt
      with_some (y ∷ ys) each = ((refl, each.0), with_some ys each.1)

  whole_fine : (x : Pair) (source : Option EntryKind) → Fine (in_target w x) (whole_step w x source) × Each (λ y. group_of y ≡ Copied) (whole_step w x source)
  whole_fine x None = (none_fine (in_target w x), tt)
  whole_fine x (Some (kind.File size)) = (record { on = (refl, tt); grouped = (tt, tt); proper = (tt, tt) }, (refl, tt))
  whole_fine x (Some kind.Folder) = (none_fine (in_target w x), tt)

  -- which groups a pair's path may have
  abbrev pub May : Pair → Action → Group → Type 0
  May x action.Nothing g = (is_some (relation_of x.path) ≡ true) × (g ≡ Mixed)
  May x action.MakeFolder g = g ≡ Made
  May x action.Copy g = g ≡ Copied
  May x action.Tail g = (is_some (relation_of x.path) ≡ true) × (g ≡ Mixed)
  May x action.Cut g = (is_some (relation_of x.path) ≡ true) × (g ≡ Mixed)
  May x action.Remove g = g ≡ Gone
  May x action.KindsDiffer g = ⊥

  pub file_fine : (x : Pair) (a : Action) → Fine (in_target w x) (file_steps w x a) × Each (λ y. May x a (group_of y)) (file_steps w x a)
  file_fine x action.Nothing = touched_fine x (relation_of x.path)
  file_fine x action.MakeFolder = (none_fine (in_target w x), tt)
  file_fine x action.Copy = whole_fine x x.source
  file_fine x action.Tail = touched_fine x (relation_of x.path)
  file_fine x action.Cut = touched_fine x (relation_of x.path)
  file_fine x action.Remove = (none_fine (in_target w x), tt)
  file_fine x action.KindsDiffer = (none_fine (in_target w x), tt)

  pub folder_fine : (x : Pair) (a : Action) → Fine (in_target w x) (folder_step w x a) × Each (λ y. May x a (group_of y)) (folder_step w x a)
  folder_fine x action.Nothing = (none_fine (in_target w x), tt)
  folder_fine x action.MakeFolder = (record { on = (refl, tt); grouped = (tt, tt); proper = (tt, tt) }, (refl, tt))
  folder_fine x action.Copy = (none_fine (in_target w x), tt)
  folder_fine x action.Tail = (none_fine (in_target w x), tt)
  folder_fine x action.Cut = (none_fine (in_target w x), tt)
  folder_fine x action.Remove = (none_fine (in_target w x), tt)
  folder_fine x action.KindsDiffer = (none_fine (in_target w x), tt)

  pub removal_fine : (x : Pair) (a : Action) → length x.path.parts == 0 ≡ false → Fine (in_target w x) (removal_step w x a) × Each (λ y. May x a (group_of y)) (removal_step w x a)
  removal_fine x action.Nothing deep = (none_fine (in_target w x), tt)
  removal_fine x action.MakeFolder deep = (none_fine (in_target w x), tt)
  removal_fine x action.Copy deep = (none_fine (in_target w x), tt)
  removal_fine x action.Tail deep = (none_fine (in_target w x), tt)
  removal_fine x action.Cut deep = (none_fine (in_target w x), tt)
  removal_fine x action.Remove deep = (record { on = (refl, tt); grouped = (tt, tt); proper = (deep_in w.target.parts x.path.parts deep, tt) }, (refl, tt))
  removal_fine x action.KindsDiffer deep = (none_fine (in_target w x), tt)

  -- of one pair one kind of steps is there
  pub folder-file : (x : Pair) (a : Action) → Cross (folder_step w x a) (file_steps w x a)
  folder-file x action.Nothing = tt
  folder-file x action.MakeFolder = (tt, tt)
  folder-file x action.Copy = tt
  folder-file x action.Tail = tt
  folder-file x action.Cut = tt
  folder-file x action.Remove = tt
  folder-file x action.KindsDiffer = tt

  pub folder-removal : (x : Pair) (a : Action) → Cross (folder_step w x a) (removal_step w x a)
  folder-removal x action.Nothing = tt
  folder-removal x action.MakeFolder = (tt, tt)
  folder-removal x action.Copy = tt
  folder-removal x action.Tail = tt
  folder-removal x action.Cut = tt
  folder-removal x action.Remove = tt
  folder-removal x action.KindsDiffer = tt

  pub file-removal : (x : Pair) (a : Action) → Cross (file_steps w x a) (removal_step w x a)
  file-removal x action.Nothing = cross-none (file_steps w x action.Nothing)
  file-removal x action.MakeFolder = tt
  file-removal x action.Copy = cross-none (file_steps w x action.Copy)
  file-removal x action.Tail = cross-none (file_steps w x action.Tail)
  file-removal x action.Cut = cross-none (file_steps w x action.Cut)
  file-removal x action.Remove = tt
  file-removal x action.KindsDiffer = tt

-- ---- the steps of pairs, spread in their order or gathered against it

abbrev pub spread : (Pair → List Step) → List Pair → List Step
spread f [] = []
spread f (x ∷ xs) = f x ++ spread f xs

abbrev pub gather : (Pair → List Step) → List Pair → List Step
gather f [] = []
gather f (x ∷ xs) = gather f xs ++ f x

or_parts : (a b : Bool) → (a || b) ≡ false → (a ≡ false) × (b ≡ false)
or_parts true b e = absurd (true≢false e)
or_parts false b e = (refl, e)

module _ (c : Contents) (w : Between) where
  -- steps that are each on the path of their pair
  abbrev pub OnOwn : (Pair → List Step) → Type 0
  OnOwn f = (x : Pair) → AllOn (in_target w x) (f x)

  -- pairs whose paths differ
  off-pair : (x y : Pair) → IsPaired c w x → IsPaired c w y → is_at x.path y ≡ false → path_eq (in_target w x) (in_target w y) ≡ false
  off-pair x y one other off = at-below w y x.path.parts other.relative ∙ ap (λ p. path_eq p y.path) (path-is x one.relative) ∙ off

  -- of two pairs, the same or apart
  cross-pair : (f g : Pair → List Step) → OnOwn f → OnOwn g → ((x : Pair) → Cross (f x) (g x)) → (x y : Pair) → IsPaired c w x → IsPaired c w y → Cross (f x) (g y)
  cross-pair f g on_f on_g own x y one other = by (path_eq (in_target w x) (in_target w y)) refl
    where
      by : (b : Bool) → path_eq (in_target w x) (in_target w y) ≡ b → Cross (f x) (g y)
      by true e = subst (λ z. Cross (f x) (g z)) (same-pair c w x y one other (path_eq-same (in_target w x) (in_target w y) e)) (own x)
      by false e = cross-apart (in_target w x) (in_target w y) (f x) (g y) (on_f x) (on_g y) e

  module _ (f g : Pair → List Step) (on_f : OnOwn f) (on_g : OnOwn g) (own : (x : Pair) → Cross (f x) (g x)) where
    one-spread : (x : Pair) (ys : List Pair) → IsPaired c w x → AllPaired c w ys → Cross (f x) (spread g ys)
    one-spread x [] one paired = cross-none (f x)
    one-spread x (y ∷ ys) one paired = cross-right (f x) (g y) (spread g ys) (cross-pair f g on_f on_g own x y one paired.0) (one-spread x ys one paired.1)

    pub spread-spread : (xs ys : List Pair) → AllPaired c w xs → AllPaired c w ys → Cross (spread f xs) (spread g ys)
    spread-spread [] ys one other = tt
    spread-spread (x ∷ xs) ys one other = cross-left (f x) (spread f xs) (spread g ys) (one-spread x ys one.0 other) (spread-spread xs ys one.1 other)

    one-gather : (x : Pair) (ys : List Pair) → IsPaired c w x → AllPaired c w ys → Cross (f x) (gather g ys)
    one-gather x [] one paired = cross-none (f x)
    one-gather x (y ∷ ys) one paired = cross-right (f x) (gather g ys) (g y) (one-gather x ys one paired.1) (cross-pair f g on_f on_g own x y one paired.0)

    pub spread-gather : (xs ys : List Pair) → AllPaired c w xs → AllPaired c w ys → Cross (spread f xs) (gather g ys)
    spread-gather [] ys one other = tt
    spread-gather (x ∷ xs) ys one other = cross-left (f x) (spread f xs) (gather g ys) (one-gather x ys one.0 other) (spread-gather xs ys one.1 other)

  module _ (f : Pair → List Step) (on : OnOwn f) (own : (x : Pair) → AreGrouped (f x)) where
    apart-spread : (x : Pair) (ys : List Pair) → IsPaired c w x → AllPaired c w ys → list_any (is_at x.path) ys ≡ false → Cross (f x) (spread f ys)
    apart-spread x [] one paired off = cross-none (f x)
    apart-spread x (y ∷ ys) one paired off =
        let two = or_parts (is_at x.path y) (list_any (is_at x.path) ys) off in
        cross-right (f x) (f y) (spread f ys) (cross-apart (in_target w x) (in_target w y) (f x) (f y) (on x) (on y) (off-pair x y one paired.0 two.0)) (apart-spread x ys one paired.1 two.1)

    pub spread-grouped : (xs : List Pair) → AllPaired c w xs → AreInTurn xs → AreGrouped (spread f xs)
    spread-grouped [] paired turn = tt
    spread-grouped (x ∷ xs) paired turn = grouped-both (f x) (spread f xs) (own x) (spread-grouped xs paired.1 turn.2) (apart-spread x xs paired.0 paired.1 turn.0)

    turned : (p q : PathValue) → path_eq p q ≡ false → path_eq q p ≡ false
    turned p q off = by (path_eq q p) refl
      where
        by : (b : Bool) → path_eq q p ≡ b → b ≡ false
        by false e = refl
        by true e = absurd (true≢false (sym (ap (λ z. path_eq z q) (sym (path_eq-same q p e)) ∙ path_eq-own q) ∙ off))

    apart-gather : (x : Pair) (ys : List Pair) → IsPaired c w x → AllPaired c w ys → list_any (is_at x.path) ys ≡ false → Cross (gather f ys) (f x)
    apart-gather x [] one paired off = tt
    apart-gather x (y ∷ ys) one paired off =
        let two = or_parts (is_at x.path y) (list_any (is_at x.path) ys) off in
        cross-left (gather f ys) (f y) (f x) (apart-gather x ys one paired.1 two.1)
        (cross-apart (in_target w y) (in_target w x) (f y) (f x) (on y) (on x) (turned (in_target w x) (in_target w y) (off-pair x y one paired.0 two.0)))

    pub gather-grouped : (xs : List Pair) → AllPaired c w xs → AreInTurn xs → AreGrouped (gather f xs)
    gather-grouped [] paired turn = tt
    gather-grouped (x ∷ xs) paired turn = grouped-both (gather f xs) (f x) (gather-grouped xs paired.1 turn.2) (own x) (apart-gather x xs paired.0 paired.1 turn.0)

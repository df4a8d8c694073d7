-- What holds of all steps of a plan, by what is known of the pairs that they are of.
use Rattle.std.proofs.Common.{◌≡◌, ℕ, ◌+◌, ◌*◌, ◌/◌, ◌≤◌, Bool, true, false, cond, nat_lt, List, [], ◌∷◌, ◌++◌, length, map, Option, None, Some, arith}
use Rattle.block_refs.specs.declared.names.RelName.{RelName}
use Rattle.cluster_tree.specs.Contents.{Contents, FileEntry, entry_at}
use Rattle.cluster_tree.proofs.Images.{Each}
use Rattle.file_walk.specs.Relations.{relation_of}
use Rattle.file_walk.specs.declared.action.Action.{Action}
use Rattle.file_walk.specs.declared.action.Action.TheVariants as action
use Rattle.file_walk.specs.declared.entry.EntryKind.{EntryKind}
use Rattle.file_walk.specs.declared.entry.EntryKind.TheVariants as kind
use Rattle.file_walk.specs.declared.pair.Pair.{Pair}
use Rattle.rewind_writes.specs.declared.step.Step.{Step}
use Rattle.rewind_writes.specs.declared.step.Step.TheVariants.{Folder, Whole, Cut, Range, Remove}
use Rattle.rewind_plan.specs.Blocks.{AllEnd, block_steps, is_copied, range_step, runs_of}
use Rattle.rewind_plan.specs.Planned.{Between, action_of, all_file_steps, both_files, file_steps, folder_step, folder_steps, in_source, in_target, removal_step, removal_steps, steps_of, touched_steps, wants, whole_step}
use Rattle.rewind_plan.specs.Sides.{AllPaired, IsKind, IsPaired}
use Rattle.rewind_plan.proofs.BytesLemmas.{runs_end}
use Rattle.resumed_laws.proofs.MayLemmas.{each-both}

-- it holds of each kind of step of a pair, where what a step reads is there as the step says
pub record HoldsOfPairs (c : Contents) (w : Between) (P : Step → Type 0) : Type 0 where
  pub folder : (x : Pair) → IsPaired c w x → P (Folder (in_target w x))
  pub whole : (x : Pair) (bytes : List ℕ) (size : ℕ) → IsPaired c w x → entry_at c (in_source w x) ≡ Some (FileEntry bytes) → length bytes ≡ size → P (Whole (in_source w x) (in_target w x) size)
  pub cut : (x : Pair) (size : ℕ) → IsPaired c w x → P (Cut (in_target w x) size)
  pub range : (x : Pair) (bytes : List ℕ) (at size : ℕ) → IsPaired c w x → entry_at c (in_source w x) ≡ Some (FileEntry bytes) → at + size ≤ length bytes → P (Range (in_source w x) (in_target w x) at size)
  pub removal : (x : Pair) → IsPaired c w x → P (Remove (in_target w x))

module _ (c : Contents) (w : Between) (P : Step → Type 0) (h : HoldsOfPairs c w P) where
  of-whole : (x : Pair) (source : Option EntryKind) → IsPaired c w x → IsKind source (entry_at c (in_source w x)) → Each P (whole_step w x source)
  of-whole x None paired is = tt
  of-whole x (Some (kind.File size)) paired is = (h.whole x is.0 size paired is.1 is.2, tt)
  of-whole x (Some kind.Folder) paired is = tt

  -- the type of a run is rewind_plan's own
  of-runs : (x : Pair) (end : ℕ) (bytes : List ℕ) (runs : List _) → IsPaired c w x → entry_at c (in_source w x) ≡ Some (FileEntry bytes) → end * 8192 ≤ length bytes → AllEnd end runs → Each P (map (range_step (in_source w x) (in_target w x)) runs)
  of-runs x end bytes [] paired is l ends = tt
  of-runs x end bytes (run ∷ runs) paired is l ends =
      (h.range x bytes (run.first * 8192) (run.count * 8192) paired is (omega (arith, l, ends.0)), of-runs x end bytes runs paired is l ends.1)

  of-blocks : (x : Pair) (wanted : ℕ → Bool) (old new : ℕ) (bytes : List ℕ) → IsPaired c w x → entry_at c (in_source w x) ≡ Some (FileEntry bytes) → length bytes ≡ new → Each P (block_steps (in_source w x) (in_target w x) wanted old new)
  of-blocks x wanted old new bytes paired is long = by (nat_lt new old)
    where
      rest : Each P (map (range_step (in_source w x) (in_target w x)) (runs_of (is_copied wanted old) 0 (new / 8192)))
      rest = of-runs x (new / 8192) bytes (runs_of (is_copied wanted old) 0 (new / 8192)) paired is (omega (arith, long)) (runs_end (is_copied wanted old) 0 (new / 8192) (new / 8192) (omega arith))

      by : (b : Bool) → Each P (cond b (Cut (in_target w x) new ∷ []) [] ++ map (range_step (in_source w x) (in_target w x)) (runs_of (is_copied wanted old) 0 (new / 8192)))
      by true = (h.cut x new paired, rest)
      by false = rest

  of-both : (x : Pair) (at : RelName × ℕ) (target source : Option EntryKind) → IsPaired c w x → IsKind source (entry_at c (in_source w x)) → Each P (both_files w x at target source)
  of-both x at (Some (kind.File old)) (Some (kind.File new)) paired is = of-blocks x (wants w at.0 at.1) old new is.0 paired is.1 is.2
  of-both x at (Some (kind.File old)) (Some kind.Folder) paired is = tt
  of-both x at (Some (kind.File old)) None paired is = tt
  of-both x at (Some kind.Folder) source paired is = tt
  of-both x at None source paired is = tt

  of-touched : (x : Pair) (at : Option (RelName × ℕ)) → IsPaired c w x → Each P (touched_steps w x at)
  of-touched x None paired = tt
  of-touched x (Some at) paired = of-both x at x.target x.source paired paired.source

  of-file : (x : Pair) (a : Action) → IsPaired c w x → Each P (file_steps w x a)
  of-file x action.Nothing paired = of-touched x (relation_of x.path) paired
  of-file x action.MakeFolder paired = tt
  of-file x action.Copy paired = of-whole x x.source paired paired.source
  of-file x action.Tail paired = of-touched x (relation_of x.path) paired
  of-file x action.Cut paired = of-touched x (relation_of x.path) paired
  of-file x action.Remove paired = tt
  of-file x action.KindsDiffer paired = tt

  of-folder : (x : Pair) (a : Action) → IsPaired c w x → Each P (folder_step w x a)
  of-folder x action.Nothing paired = tt
  of-folder x action.MakeFolder paired = (h.folder x paired, tt)
  of-folder x action.Copy paired = tt
  of-folder x action.Tail paired = tt
  of-folder x action.Cut paired = tt
  of-folder x action.Remove paired = tt
  of-folder x action.KindsDiffer paired = tt

  of-removal : (x : Pair) (a : Action) → IsPaired c w x → Each P (removal_step w x a)
  of-removal x action.Nothing paired = tt
  of-removal x action.MakeFolder paired = tt
  of-removal x action.Copy paired = tt
  of-removal x action.Tail paired = tt
  of-removal x action.Cut paired = tt
  of-removal x action.Remove paired = (h.removal x paired, tt)
  of-removal x action.KindsDiffer paired = tt

  of-folders : (xs : List Pair) → AllPaired c w xs → Each P (folder_steps w xs)
  of-folders [] paired = tt
  of-folders (x ∷ xs) paired = each-both P (folder_step w x (action_of x)) (folder_steps w xs) (of-folder x (action_of x) paired.0) (of-folders xs paired.1)

  of-files : (xs : List Pair) → AllPaired c w xs → Each P (all_file_steps w xs)
  of-files [] paired = tt
  of-files (x ∷ xs) paired = each-both P (file_steps w x (action_of x)) (all_file_steps w xs) (of-file x (action_of x) paired.0) (of-files xs paired.1)

  of-removals : (xs : List Pair) → AllPaired c w xs → Each P (removal_steps w xs)
  of-removals [] paired = tt
  of-removals (x ∷ xs) paired = each-both P (removal_steps w xs) (removal_step w x (action_of x)) (of-removals xs paired.1) (of-removal x (action_of x) paired.0)

  pub of-steps : (xs : List Pair) → AllPaired c w xs → Each P (steps_of w xs)
  of-steps xs paired =
      each-both P (folder_steps w xs) (all_file_steps w xs ++ removal_steps w xs) (of-folders xs paired)
      (each-both P (all_file_steps w xs) (removal_steps w xs) (of-files xs paired) (of-removals xs paired))

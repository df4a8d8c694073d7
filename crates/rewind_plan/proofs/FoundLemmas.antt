-- What the steps of a plan read is there, and no change of the plan is on it.
use Rattle.std.proofs.Common.{◌≡◌, ◌≢◌, ℕ, ◌+◌, ◌*◌, ◌/◌, ◌≤◌, Bool, true, false, cond, nat_lt, List, [], ◌∷◌, ◌++◌, length, map, take, Option, None, Some, refl, sym, ap, ◌∙◌, subst, arith, rules}
use Rattle.std.specs.List.{list_any}
use Rattle.std.proofs.Math.Seq.{take-append_seam}
use Rattle.std.proofs.lemmas.List.{take-append-le}
use Rattle.block_refs.specs.declared.names.RelName.{RelName}
use Rattle.cluster_tree.specs.Apart.{AreApart}
use Rattle.cluster_tree.specs.PathValue.{PathValue, below}
use Rattle.cluster_tree.specs.Contents.{Contents, FileEntry, entry_at, is_file}
use Rattle.cluster_tree.specs.Change.{Change, is_on}
use Rattle.cluster_tree.specs.Tree.{bytes_in}
use Rattle.control_file.specs.declared.control.Control.{Control}
use Rattle.backup_label.specs.declared.label.Label.{Label}
use Rattle.file_walk.specs.Relations.{relation_of}
use Rattle.file_walk.specs.declared.action.Action.{Action}
use Rattle.file_walk.specs.declared.action.Action.TheVariants as action
use Rattle.file_walk.specs.declared.entry.EntryKind.{EntryKind}
use Rattle.file_walk.specs.declared.entry.EntryKind.TheVariants as kind
use Rattle.file_walk.specs.declared.pair.Pair.{Pair}
use Rattle.rewind_writes.specs.Plan.{IsFound, plan_changes}
use Rattle.rewind_writes.specs.Steps.{FindAll, IsRead}
use Rattle.rewind_writes.specs.declared.plan.Plan.{Plan}
use Rattle.rewind_writes.specs.declared.step.Step.{Step}
use Rattle.rewind_writes.specs.declared.step.Step.TheVariants.{Cut}
use Rattle.rewind_plan.specs.Blocks.{AllEnd, block_steps, is_copied, range_step, runs_of}
use Rattle.rewind_plan.specs.declared.runs.Run.{Run}
use Rattle.rewind_plan.specs.PlanOf.{IsPlanOf}
use Rattle.rewind_plan.specs.Planned.{Between, action_of, all_file_steps, both_files, file_steps, folder_step, folder_steps, in_source, in_target, removal_step, removal_steps, steps_of, touched_steps, wants, whole_step}
use Rattle.rewind_plan.specs.Sides.{AllPaired, IsKind, IsPaired, Sides}
use Rattle.rewind_plan.proofs.BytesLemmas.{runs_end}
use Rattle.rewind_plan.proofs.OffLemmas.{off-plan}

-- ---- paths below one root aren't below another one that is apart

prefix_of : (xs ys zs us : List (List ℕ)) → xs ++ ys ≡ zs ++ us → length xs ≤ length zs → take (length xs) zs ≡ xs
prefix_of xs ys zs us e l = sym (take-append-le (length xs) zs us l) ∙ ap (take (length xs)) (sym e) ∙ take-append_seam xs ys

pub apart-below : (target source : PathValue) (xs ys : List (List ℕ)) → AreApart target source → below source xs ≢ below target ys
apart-below target source xs ys apart e = by (nat_lt (length source.parts) (length target.parts)) refl
  where
    parts : source.parts ++ xs ≡ target.parts ++ ys
    parts = ap (λ (p : PathValue). p.parts) e

    mark : source.absolute ≡ target.absolute
    mark = ap (λ (p : PathValue). p.absolute) e

    by : (b : Bool) → nat_lt (length source.parts) (length target.parts) ≡ b → ⊥
    by true is = let l : length source.parts ≤ length target.parts = grind (arith, rules, is) in apart.1 (record { mark = mark; prefix = prefix_of source.parts xs target.parts ys parts l })
    by false is = let l : length target.parts ≤ length source.parts = grind (arith, rules, is) in apart.0 (record { mark = sym mark; prefix = prefix_of target.parts ys source.parts xs (sym parts) l })

-- ---- what the steps read

finds_both : (c : Contents) (changes : List Change) (xs ys : List Step) → FindAll c changes xs → FindAll c changes ys → FindAll c changes (xs ++ ys)
finds_both c changes [] ys one other = other
finds_both c changes (x ∷ xs) ys one other = (one.0, finds_both c changes xs ys one.1 other)

module _ (c : Contents) (w : Between) (changes : List Change) (off : (parts : List (List ℕ)) → list_any (is_on (below w.source parts)) changes ≡ false) where
  reads_file : (x : Pair) (at size : ℕ) (bytes : List ℕ) → entry_at c (in_source w x) ≡ Some (FileEntry bytes) → at + size ≤ length bytes → IsRead c changes (in_source w x) at size
  reads_file x at size bytes is l = record {
    file = ap is_file is;
    bytes = subst (λ o. at + size ≤ length (bytes_in o)) (sym is) l;
    kept = off x.path.parts;
  }

  finds_whole : (x : Pair) (source : Option EntryKind) → IsKind source (entry_at c (in_source w x)) → FindAll c changes (whole_step w x source)
  finds_whole x None is = tt
  finds_whole x (Some (kind.File size)) is = (reads_file x 0 size is.0 is.1 (omega (arith, is.2)), tt)
  finds_whole x (Some kind.Folder) is = tt

  finds_runs : (x : Pair) (end : ℕ) (bytes : List ℕ) (runs : List Run) → entry_at c (in_source w x) ≡ Some (FileEntry bytes) → end * 8192 ≤ length bytes → AllEnd end runs → FindAll c changes (map (range_step (in_source w x) (in_target w x)) runs)
  finds_runs x end bytes [] is l ends = tt
  finds_runs x end bytes (run ∷ runs) is l ends = (reads_file x (run.first * 8192) (run.count * 8192) bytes is (omega (arith, l, ends.0)), finds_runs x end bytes runs is l ends.1)

  finds_blocks : (x : Pair) (wanted : ℕ → Bool) (old new : ℕ) (bytes : List ℕ) → entry_at c (in_source w x) ≡ Some (FileEntry bytes) → length bytes ≡ new → FindAll c changes (block_steps (in_source w x) (in_target w x) wanted old new)
  finds_blocks x wanted old new bytes is long = by (nat_lt new old)
    where
      rest : FindAll c changes (map (range_step (in_source w x) (in_target w x)) (runs_of (is_copied wanted old) 0 (new / 8192)))
      rest = finds_runs x (new / 8192) bytes (runs_of (is_copied wanted old) 0 (new / 8192)) is (omega (arith, long)) (runs_end (is_copied wanted old) 0 (new / 8192) (new / 8192) (omega arith))

      by : (b : Bool) → FindAll c changes (cond b (Cut (in_target w x) new ∷ []) [] ++ map (range_step (in_source w x) (in_target w x)) (runs_of (is_copied wanted old) 0 (new / 8192)))
      by true = (tt, rest)
      by false = rest

  finds_files : (x : Pair) (at : RelName × ℕ) (target source : Option EntryKind) → IsKind source (entry_at c (in_source w x)) → FindAll c changes (both_files w x at target source)
  finds_files x at (Some (kind.File old)) (Some (kind.File new)) is = finds_blocks x (wants w at.0 at.1) old new is.0 is.1 is.2
  finds_files x at (Some (kind.File old)) (Some kind.Folder) is = tt
  finds_files x at (Some (kind.File old)) None is = tt
  finds_files x at (Some kind.Folder) source is = tt
  finds_files x at None source is = tt

  finds_touched : (x : Pair) (at : Option (RelName × ℕ)) → IsPaired c w x → FindAll c changes (touched_steps w x at)
  finds_touched x None paired = tt
  finds_touched x (Some at) paired = finds_files x at x.target x.source paired.source

  finds_file : (x : Pair) (a : Action) → IsPaired c w x → FindAll c changes (file_steps w x a)
  finds_file x action.Nothing paired = finds_touched x (relation_of x.path) paired
  finds_file x action.MakeFolder paired = tt
  finds_file x action.Copy paired = finds_whole x x.source paired.source
  finds_file x action.Tail paired = finds_touched x (relation_of x.path) paired
  finds_file x action.Cut paired = finds_touched x (relation_of x.path) paired
  finds_file x action.Remove paired = tt
  finds_file x action.KindsDiffer paired = tt

  finds_folder : (x : Pair) (a : Action) → FindAll c changes (folder_step w x a)
  finds_folder x action.Nothing = tt
  finds_folder x action.MakeFolder = (tt, tt)
  finds_folder x action.Copy = tt
  finds_folder x action.Tail = tt
  finds_folder x action.Cut = tt
  finds_folder x action.Remove = tt
  finds_folder x action.KindsDiffer = tt

  finds_removal : (x : Pair) (a : Action) → FindAll c changes (removal_step w x a)
  finds_removal x action.Nothing = tt
  finds_removal x action.MakeFolder = tt
  finds_removal x action.Copy = tt
  finds_removal x action.Tail = tt
  finds_removal x action.Cut = tt
  finds_removal x action.Remove = (tt, tt)
  finds_removal x action.KindsDiffer = tt

  all_folders_found : (xs : List Pair) → FindAll c changes (folder_steps w xs)
  all_folders_found [] = tt
  all_folders_found (x ∷ xs) = finds_both c changes (folder_step w x (action_of x)) (folder_steps w xs) (finds_folder x (action_of x)) (all_folders_found xs)

  all_files_found : (xs : List Pair) → AllPaired c w xs → FindAll c changes (all_file_steps w xs)
  all_files_found [] paired = tt
  all_files_found (x ∷ xs) paired = finds_both c changes (file_steps w x (action_of x)) (all_file_steps w xs) (finds_file x (action_of x) paired.0) (all_files_found xs paired.1)

  all_removals_found : (xs : List Pair) → FindAll c changes (removal_steps w xs)
  all_removals_found [] = tt
  all_removals_found (x ∷ xs) = finds_both c changes (removal_steps w xs) (removal_step w x (action_of x)) (all_removals_found xs) (finds_removal x (action_of x))

  all_found : (xs : List Pair) → AllPaired c w xs → FindAll c changes (steps_of w xs)
  all_found xs paired =
      finds_both c changes (folder_steps w xs) (all_file_steps w xs ++ removal_steps w xs) (all_folders_found xs)
      (finds_both c changes (all_file_steps w xs) (removal_steps w xs) (all_files_found xs paired) (all_removals_found xs))

pub plan-found : (c : Contents) (text : List ℕ) (w : Between) (all : List Pair) (new : Control) (label : Label) (plan : Plan) → Sides c w all → IsPlanOf w all new label plan → IsFound c text plan
plan-found c text w all new label plan sides of =
    subst (FindAll c (plan_changes c text plan)) (sym of.steps)
    (all_found c w (plan_changes c text plan)
    (λ parts. off-plan c text w all new label plan sides of (below w.source parts) (λ ys. apart-below w.target w.source parts ys sides.apart))
    all sides.paired)

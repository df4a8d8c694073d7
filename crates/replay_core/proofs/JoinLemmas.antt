-- How the steps of a replay join.
use Rattle.std.proofs.Common.{◌≡◌, ◌≢◌, inl, inr, false, IsTrue, IfErr, IfOk, List, [], Option, None, Some, Result, Ok, Err, refl, sym, ap, ◌∙◌, subst}
use Rattle.std.specs.Prelude.{is_ok}
use Rattle.block_refs.specs.declared.names.BlockName.{BlockName}
use Rattle.cluster_tree.specs.Causes.{given}
use Rattle.cluster_tree.specs.Change.{Change, all_changed, first_refusal}
use Rattle.cluster_tree.specs.Contents.{Contents, is_file}
use Rattle.cluster_tree.specs.Frame.{Came}
use Rattle.cluster_tree.specs.PathValue.{PathValue}
use Rattle.cluster_tree.specs.Run.{State, Still, state_by}
use Rattle.cluster_tree.specs.declared.tree.Tree.{Ghosts}
use Rattle.file_edits.specs.Own.{OnOwn, Same}
use Rattle.file_edits.proofs.LawLemmas.{own-elsewhere}
use Rattle.file_effects.specs.Own.{is_replayed}
use Rattle.marked_runs.specs.Carried.{Carried, Carries}
use Rattle.marked_runs.specs.Performed.{Performs, about}
use Rattle.marked_runs.specs.Runs.{begun}
use Rattle.marked_runs.specs.declared.faults.PerformFault.{PerformFault}
use Rattle.marked_runs.specs.declared.faults.PerformFault.TheVariants as perform
use Rattle.marked_runs.specs.declared.faults.StepFault.{StepFault}
use Rattle.marked_runs.specs.declared.faults.StepFault.TheVariants as step
use Rattle.replay_start.specs.Checked.{Start, start_of}
use Rattle.clusters.specs.declared.fault.ClusterFault.TheVariants as cluster
use Rattle.replay_start.specs.declared.fault.ReplayFault.{ReplayFault}
use Rattle.replay_start.specs.declared.fault.ReplayFault.TheVariants as fault
use Rattle.replay_world.specs.World.{World}
use Rattle.replay_core.specs.Faults.{IsFree, of_perform}
use Rattle.replay_core.specs.Replayed.{After, after_replay, beginning, control_path, first_world, label_path, mark_of, mark_text, replayed_into}
use Rattle.replay_core.specs.Stages.{EndsStand, Stand}
use Rattle.replay_core.specs.Went.{Answers, IsAfter, IsCause, RanRecords, Went, WentOn, Unchanged}
use Rattle.replay_core.specs.declared.outcome.Replayed.{Replayed}
use Rattle.replay_core.proofs.PathLemmas.{control-kept, label-kept, mark-kept}
use Rattle.rmgr_hooks.specs.Custom.{Extension}

-- ---- faults

pub changed-of : (f : PerformFault) (p : PathValue) → of_perform f ≡ fault.Cluster (cluster.Changed p) → f ≡ perform.Changed p
changed-of perform.ReadFault p h = absurd (cc h)
changed-of perform.WriteFault p h = absurd (cc h)
changed-of (perform.Changed q) p h = cc h

pub free-of : (f : PerformFault) → f ≢ perform.ReadFault → ((p : PathValue) → f ≢ perform.Changed p) → IsFree (of_perform f)
free-of perform.ReadFault read changed = absurd (read refl)
free-of perform.WriteFault read changed = inr (inl refl)
free-of (perform.Changed p) read changed = absurd (changed p refl)

-- the fault of a step, about a path
pub about-read : (f : StepFault) (q : PathValue) → about f q ≡ perform.ReadFault → f ≡ step.ReadFault
about-read step.ReadFault q h = refl
about-read step.WriteFault q h = absurd (cc h)
about-read step.Contradicted q h = absurd (cc h)

pub about-changed : (f : StepFault) (q p : PathValue) → about f q ≡ perform.Changed p → f ≡ step.Contradicted
about-changed step.ReadFault q p h = absurd (cc h)
about-changed step.WriteFault q p h = absurd (cc h)
about-changed step.Contradicted q p h = refl

-- ---- the records

pub ran-records : {F : Type 0} (tree : Ghosts F) (root : PathValue) (a b : F) → Came tree a b → OnOwn tree.calls (is_replayed root) a b
    → RanRecords root (state_by tree.contents tree.calls a) (state_by tree.contents tree.calls b)
ran-records tree root a b came own =
    let on = own (tree.calls a) Same in
    record {
      own = on;
      elsewhere = λ path not. own-elsewhere (is_replayed root) (state_by tree.contents tree.calls a) (state_by tree.contents tree.calls b) path (came.run (state_by tree.contents tree.calls a) Still) on not;
    }

-- what is changed at the end still stands behind them
pub ends-stand : (root : PathValue) (old new : State) → RanRecords root old new → EndsStand old.contents root → EndsStand new.contents root
ends-stand root old new ran stand = record {
  control = ap is_file (ran.elsewhere (control_path root) (control-kept root)) ∙ stand.control;
  label = ap is_file (ran.elsewhere (label_path root) (label-kept root)) ∙ stand.label;
}

pub still-stand : (root : PathValue) (old new : State) → RanRecords root old new → Stand old.contents root → Stand new.contents root
still-stand root old new ran stand = record {
  mark = ap is_file (ran.elsewhere (mark_of root) (mark-kept root)) ∙ stand.mark;
  ends = ends-stand root old new ran stand.ends;
}

-- ---- equal changes

pub performs-same : {F : Type 0} (tree : Ghosts F) (xs ys : List Change) (a b : F) (r : Result (Unit {0}) PerformFault) → xs ≡ ys → Performs tree xs a b r → Performs tree ys a b r
performs-same tree xs ys a b r is one = subst (λ l. Performs tree l a b r) is one

-- ---- the changes at the beginning

pub begun-ran : {F : Type 0} (tree : Ghosts F) (root mark : PathValue) (a b : F) (r : Result (Unit {0}) StepFault) → mark ≡ mark_of root → IsTrue tree.tells → first_refusal (tree.contents a) (beginning root) ≡ None
    → Carries tree (begun mark mark_text) a b r → Carried (beginning root) (state_by tree.contents tree.calls a) (state_by tree.contents tree.calls b) r
begun-ran tree root mark a b r is told none carries = subst (λ m. Carries tree (begun m mark_text) a b r) is carries told none

-- the world behind them is the one that is meant
pub first-meant : (custom : Option Extension) (root other : PathValue) (s start : Start) (c : Contents) (w : World) → other ≡ root → s ≡ start → w.files ≡ all_changed c (beginning root) → w.control ≡ start.control → w.skipped ≡ []
    → replayed_into custom other s w ≡ replayed_into custom root start (first_world c root start)
first-meant custom root other s start c w same is files control skipped =
    ap (λ p. replayed_into custom p s w) same ∙ ap (λ x. replayed_into custom root x w) is
    ∙ ap (λ f. replayed_into custom root start (record w { files = f })) files
    ∙ ap (λ k. replayed_into custom root start (record { files = all_changed c (beginning root); control = k; skipped = w.skipped })) control
    ∙ ap (λ l. replayed_into custom root start (record { files = all_changed c (beginning root); control = start.control; skipped = l })) skipped

-- ---- the whole

pub after-of : (custom : Option Extension) (c : Contents) (root : PathValue) (s : Start) → start_of custom c root ≡ Ok s → after_replay custom c root ≡ replayed_into custom root s (first_world c root s)
unfolding after_replay
after-of custom c root s is = ap (λ r. given r (λ s. replayed_into custom root s (first_world c root s))) is

pub done-of : (meant other : Result After ReplayFault) (d : Contents) (r : Result Replayed ReplayFault) → other ≡ meant → Answers other d r → IfOk r (λ told. IsAfter meant told d)
done-of meant other d (Ok told) same answers = subst (λ m. IsAfter m told d) same answers
done-of meant other d (Err e) same answers = tt

pub refused-of : (meant other : Result After ReplayFault) (d : Contents) (r : Result Replayed ReplayFault) → other ≡ meant → Answers other d r → IfErr r (IsCause meant)
refused-of meant other d (Ok told) same answers = tt
refused-of meant other d (Err e) same answers = subst (λ m. IsCause m e) same answers

-- no name is the least one
pub none-least : (o : Option BlockName) → ((name : BlockName) → o ≡ Some name → ⊥) → o ≡ None
none-least None never = refl
none-least (Some name) never = absurd (never name refl)

-- ---- how far it went, by its answer

pub went-broken : (root : PathValue) (old new : State) (r : Result Replayed ReplayFault) (e : ReplayFault) → r ≡ Err e → WentOn root old new false → WentOn root old new (is_ok r)
went-broken root old new r e is went = subst (λ (x : Result Replayed ReplayFault). WentOn root old new (is_ok x)) (sym is) went

pub went-nowhere : (root : PathValue) (old new : State) (r : Result Replayed ReplayFault) (e : ReplayFault) → r ≡ Err e → new.calls ≡ old.calls → new.contents ≡ old.contents → Went root old new (is_ok r)
went-nowhere root old new r e is calls same = subst (λ (x : Result Replayed ReplayFault). Went root old new (is_ok x)) (sym is) (Unchanged calls same)

-- A mark that stands at a root is refused.
use Rattle.std.proofs.Common.{◌≡◌, ℕ, ℤ, Bool, true, false, cond, Option, None, Some, Result, Err, inl, inr, option_map, refl, ap, ap₂, sym, ◌∙◌}
use Rattle.cluster_tree.specs.Causes.{given, unless}
use Rattle.cluster_tree.specs.Contents.{Contents}
use Rattle.cluster_tree.specs.Marks.{MarkPaths, is_there, marks_of}
use Rattle.cluster_tree.specs.PathValue.{PathValue}
use Rattle.clusters.specs.Marks.{unfinished, with_mark}
use Rattle.clusters.specs.declared.fault.ClusterFault.{ClusterFault}
use Rattle.clusters.specs.declared.fault.ClusterFault.TheVariants as cluster
use Rattle.marked_runs.specs.Moments.{IsMarked}
use Rattle.rewind_survey.specs.declared.fault.RewindFault.{RewindFault}
use Rattle.rewind_survey.specs.declared.fault.RewindFault.TheVariants as fault
use Rattle.rewind_core.specs.Laws.{IsMarkThere, MarkIsUnfinished, MarkedSourceIsRefused, MarkedTargetIsRefused, UnfinishedRewindIsRefused}
use Rattle.rewind_core.specs.Planned.{from_survey, planned_of}

-- the first of three that is there
abbrev first_of_three : (a b d : Bool) → Option ℕ
first_of_three a b d = cond a (Some 0) (cond b (Some 1) (cond d (Some 2) None))

module _ (c : Contents) (marks : MarkPaths) where
  abbrev Found : Option ℕ → Type 0
  Found number = (first : PathValue) × IsMarkThere marks c first × (with_mark marks number ≡ Some (cluster.Unfinished first))

  found : (a b d : Bool) → is_there c marks.rewind ≡ a → is_there c marks.replay ≡ b → is_there c marks.reset ≡ d → (mark : PathValue) → IsMarkThere marks c mark → Found (first_of_three a b d)
  found true b d ha hb hd mark there = (marks.rewind, (inl refl, ha), refl)
  found false true d ha hb hd mark there = (marks.replay, (inr (inl refl), hb), refl)
  found false false true ha hb hd mark there = (marks.reset, (inr (inr (inl refl)), hd), refl)
  found false false false ha hb hd mark (inl is, stands) = absurd (cc (sym stands ∙ ap (is_there c) is ∙ ha))
  found false false false ha hb hd mark (inr (inl is), stands) = absurd (cc (sym stands ∙ ap (is_there c) is ∙ hb))
  found false false false ha hb hd mark (inr (inr (inl is)), stands) = absurd (cc (sym stands ∙ ap (is_there c) is ∙ hd))
  found false false false ha hb hd mark (inr (inr (inr none)), stands) = absurd none

pub mark-unfinished : MarkIsUnfinished
unfolding unfinished
mark-unfinished c root mark there =
    found c (marks_of root) (is_there c (marks_of root).rewind) (is_there c (marks_of root).replay) (is_there c (marks_of root).reset) refl refl refl mark there

-- the first point that refuses, and the second
refused_first : {A B : Type 0} (o : Option ClusterFault) (rest : Result A RewindFault) (k : A → Result B RewindFault) (e : ClusterFault) → o ≡ Some e → given (unless (option_map fault.Cluster o) rest) k ≡ Err (fault.Cluster e)
refused_first o rest k e is = ap (λ x. given (unless (option_map fault.Cluster x) rest) k) is

refused_next : {A B : Type 0} (o p : Option ClusterFault) (rest : Result A RewindFault) (k : A → Result B RewindFault) (e : ClusterFault) → o ≡ None → p ≡ Some e
    → given (unless (option_map fault.Cluster o) (unless (option_map fault.Cluster p) rest)) k ≡ Err (fault.Cluster e)
refused_next o p rest k e none is = ap₂ (λ x y. given (unless (option_map fault.Cluster x) (unless (option_map fault.Cluster y) rest)) k) none is

-- are the marks of the target, and of the source
target-unfinished : (c : Contents) (target source first : PathValue) (now : ℤ) → unfinished c target ≡ Some (cluster.Unfinished first) → planned_of c target source now ≡ Err (fault.Cluster (cluster.Unfinished first))
unfolding planned_of
target-unfinished c target source first now is = refused_first (unfinished c target) _ (from_survey c target source now) (cluster.Unfinished first) is

source-unfinished : (c : Contents) (target source first : PathValue) (now : ℤ) → unfinished c target ≡ None → unfinished c source ≡ Some (cluster.Unfinished first) → planned_of c target source now ≡ Err (fault.Cluster (cluster.Unfinished first))
unfolding planned_of
source-unfinished c target source first now none is = refused_next (unfinished c target) (unfinished c source) _ (from_survey c target source now) (cluster.Unfinished first) none is

pub target-refused : MarkedTargetIsRefused
target-refused c target source mark now there =
    let one = mark-unfinished c target mark there in
    (one.0, one.1, target-unfinished c target source one.0 now one.2)

pub source-refused : MarkedSourceIsRefused
source-refused c target source mark now none there =
    let one = mark-unfinished c source mark there in
    (one.0, one.1, source-unfinished c target source one.0 now none one.2)

rewind_first : (c : Contents) (root : PathValue) → IsMarked (marks_of root).rewind c → unfinished c root ≡ Some (cluster.Unfinished (marks_of root).rewind)
unfolding unfinished
rewind_first c root stands =
    ap (λ a. with_mark (marks_of root) (first_of_three a (is_there c (marks_of root).replay) (is_there c (marks_of root).reset))) stands

pub rewind-refused : UnfinishedRewindIsRefused
rewind-refused c target source now stands = target-unfinished c target source (marks_of target).rewind now (rewind_first c target stands)

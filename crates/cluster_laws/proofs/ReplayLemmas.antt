-- Two alike clusters that are replayed.
use Rattle.std.proofs.Common.{◌≡◌, ℕ, false, List, Option, Result, Ok, Err, refl, sym, subst, ◌∙◌}
use Rattle.rmgr_hooks.specs.Custom.{Extension, IsSound}
use Rattle.alike_clusters.specs.Clusters.{AlikeClusters}
use Rattle.block_refs.specs.declared.names.BlockName.{BlockName}
use Rattle.block_replay.specs.declared.faults.RecordFault.{RecordFault}
use Rattle.cluster_compare.specs.Same.{IsSameCluster, has_init}
use Rattle.cluster_tree.specs.Change.{all_changed}
use Rattle.cluster_tree.specs.Contents.{Contents}
use Rattle.cluster_tree.specs.PathValue.{PathValue}
use Rattle.page_masks.specs.Law.{view}
use Rattle.replay_core.specs.Replayed.{After, after_replay, closing, first_world}
use Rattle.replay_law.specs.Stage.{Matches}
use Rattle.replay_laws.specs.Held.{IsMainBlock}
use Rattle.replay_laws.specs.Log.{AreTaken, HoldsBytes}
use Rattle.replay_laws.specs.Refusals.{SomeLacksLayout}
use Rattle.replay_laws.proofs.CheckedLemmas.{start-taken}
use Rattle.replay_start.specs.Checked.{Start, start_of}
use Rattle.replay_world.specs.Records.{records_after}
use Rattle.replay_world.specs.World.{World}
use Rattle.storage_laws.specs.States.{page_in}
use Rattle.cluster_laws.specs.Alike.{AlikeWorlds}
use Rattle.cluster_laws.specs.Converging.{AreConverged, EndAlike, IsBased}
use Rattle.cluster_laws.specs.Replays.{EndsAs}
use Rattle.cluster_laws.proofs.ConvergeLemmas.{converge}
use Rattle.cluster_laws.proofs.EndLemmas.{begun-both, init-closed, page-closed}
use Rattle.cluster_laws.proofs.LiftLemmas.{Ended, closed-by, ended, left-alike, left-by, other-ends, other-left, own-left}
use Rattle.cluster_laws.proofs.SameLemmas.{are-same}

-- what stands of the one where the other ends
record Other (root : PathValue) (other : PathValue) (per : ℕ) (v : World) (r : Result World RecordFault) : Type 0 where
  world : World
  is : r ≡ Ok world
  converged : AreConverged root other per v world

other_end : (root other : PathValue) (per : ℕ) (v : World) (r : Result World RecordFault) → EndAlike root other per (Ok v) r → Other root other per v r
other_end root other per v (Ok y) end = record { world = y; is = refl; converged = end }
other_end root other per v (Err f) end = absurd end

module _ (custom : Option Extension) (sound : IsSound custom) (base : BlockName → Option (List ℕ)) (redo : ℕ) (c d : Contents) (root other : PathValue) (s : Start) (after : After)
    (both : AlikeClusters s.control.relseg c root d other) (holds : HoldsBytes c root) (passes : start_of custom c root ≡ Ok s) (enough : ¬ (SomeLacksLayout s.records))
    (one : IsBased custom base redo s.records root s.control.relseg (first_world c root s)) (two : IsBased custom base redo s.records other s.control.relseg (first_world d other s))
    (ends : after_replay custom c root ≡ Ok after) where
  abbrev per : ℕ
  per = s.control.relseg

  taken : AreTaken custom s.label.start.0 s.records
  taken = start-taken custom c root s holds passes

  alike : AlikeWorlds root other per (first_world c root s) (first_world d other s)
  alike = record { files = begun-both per root other c d both; whole = one.begins.whole; other_whole = two.begins.whole; control = refl }

  abbrev first : Ended custom c root s after passes ends
  first = ended custom c root s after passes ends

  abbrev v : World
  v = first.world

  second : Other root other per v (records_after custom other per s.records (first_world d other s))
  second =
      other_end root other per v (records_after custom other per s.records (first_world d other s))
      (subst (λ r. EndAlike root other per r (records_after custom other per s.records (first_world d other s))) first.is
      (converge custom sound base s.label.start.0 redo s.records root other per (first_world c root s) (first_world d other s) taken enough alike one two))

  abbrev y : World
  y = second.world

  abbrev own : Contents
  own = all_changed v.files (closing root (left-by s v))

  abbrev others : Contents
  others = all_changed y.files (closing other (left-by s v))

  files_alike : AlikeClusters per own root others other
  files_alike = left-alike custom c root s after passes ends d other both y second.is second.converged.other_none second.converged.alike.control second.converged.alike.files

  pages_match : (name : BlockName) → IsMainBlock name → has_init own root name.rel ≡ false → Matches (view name.block) (page_in root per name own) (page_in other per name others)
  pages_match name main none =
      subst (λ o. Matches (view name.block) o (page_in other per name others)) (sym (page-closed root per v.files (left-by s v) name main))
      (subst (λ o. Matches (view name.block) (page_in root per name v.files) o) (sym (page-closed other per y.files (left-by s v) name main))
      (second.converged.pages name main (sym (init-closed root per v.files (left-by s v) name.rel main.block.rel.relation) ∙ none)))

  pub ends-as : EndsAs custom per after.files root d other
  ends-as = record {
    after = closed-by other s y;
    ends = other-ends custom c root s after passes ends d other both y second.is second.converged.other_none;
    same =
        subst (λ e. IsSameCluster per e root (closed-by other s y).files other) (own-left custom c root s after passes ends d other both y second.is second.converged.other_none second.converged.alike.control)
        (subst (λ f. IsSameCluster per own root f other) (other-left custom c root s after passes ends d other both y second.is second.converged.other_none second.converged.alike.control)
        (are-same root other per one.begins.some own others files_alike pages_match));
  }

-- Replays of two clusters of the same blocks, but for those that the log makes anew.
use Rattle.std.proofs.Common.{◌≡◌, ℕ, ◌<◌, List, [], Option, Result, Ok, Err, refl, sym, ap, subst, ◌∙◌, true≢false}
use Rattle.rmgr_hooks.specs.Custom.{Extension, IsSound}
use Rattle.alike_clusters.specs.Clusters.{AlikeClusters}
use Rattle.block_refs.specs.declared.names.BlockName.{BlockName}
use Rattle.block_replay.specs.declared.faults.RecordFault.{RecordFault}
use Rattle.cluster_laws.specs.Alike.{AlikeWorlds}
use Rattle.cluster_laws.proofs.EndLemmas.{begun-both, page-closed}
use Rattle.cluster_laws.proofs.LiftLemmas.{Ended, closed-by, ended, left-alike, left-by, other-ends, other-left, own-left}
use Rattle.cluster_laws.proofs.SkippedLemmas.{log-main, none-skipped}
use Rattle.cluster_tree.specs.Change.{all_changed}
use Rattle.cluster_tree.specs.Contents.{Contents}
use Rattle.cluster_tree.specs.PathValue.{PathValue}
use Rattle.replay_core.specs.Replayed.{After, after_replay, closing, first_world}
use Rattle.replay_laws.specs.Held.{IsMainBlock, is_among}
use Rattle.replay_laws.specs.Log.{AreTaken, HoldsBytes}
use Rattle.replay_laws.proofs.CheckedLemmas.{start-taken}
use Rattle.replay_start.specs.Checked.{Start, start_of}
use Rattle.replay_world.specs.Records.{records_after}
use Rattle.replay_world.specs.World.{World}
use Rattle.storage_laws.specs.States.{page_in}
use Rattle.wal_records.specs.Reading.{LogRecord}
use Rattle.replayed_bytes.specs.Bytes.{HasWholeBlocks, HaveSameFiles, HaveSameVersions}
use Rattle.replayed_bytes.proofs.SameLemmas.{files-same}
use Rattle.restarted_laws.specs.Again.{AreAgain, AreSame, EndTheSame, EndsTheSame}
use Rattle.restarted_laws.specs.Files.{EndsWithSameFiles}
use Rattle.restarted_laws.proofs.AgainLemmas.{AreBefore, log-ends}
use Rattle.restarted_laws.proofs.FileLemmas.{begun-steps, closed-steps, left-versions, left-whole, versions-stay, whole-kept}

-- what stands of the one where the other ends
record Other (root : PathValue) (other : PathValue) (per : ℕ) (v : World) (r : Result World RecordFault) : Type 0 where
  world : World
  is : r ≡ Ok world
  same : AreSame root other per v world

other_end : (root other : PathValue) (per : ℕ) (v : World) (r : Result World RecordFault) → EndTheSame root other per (Ok v) r → Other root other per v r
other_end root other per v (Ok y) end = record { world = y; is = refl; same = end }
other_end root other per v (Err f) end = absurd end

pub before-log : (custom : Option Extension) (sound : IsSound custom) (root other : PathValue) (per : ℕ) (some : 0 < per) (records : List LogRecord) (w x : World)
    → AlikeWorlds root other per w x → AreAgain custom root other per records w x → AreBefore custom sound root other per some records w x
before-log custom sound root other per some records w x alike again = record {
  alike = alike;
  blocks = again.blocks;
  skips = λ name main. ap (is_among name) (again.begins.none ∙ sym again.other_begins.none);
}

module _ (custom : Option Extension) (sound : IsSound custom) (c d : Contents) (root other : PathValue) (s : Start) (after : After)
    (both : AlikeClusters s.control.relseg c root d other) (holds : HoldsBytes c root) (passes : start_of custom c root ≡ Ok s)
    (again : AreAgain custom root other s.control.relseg s.records (first_world c root s) (first_world d other s)) (ends : after_replay custom c root ≡ Ok after) where
  abbrev per : ℕ
  per = s.control.relseg

  taken : AreTaken custom s.label.start.0 s.records
  taken = start-taken custom c root s holds passes

  alike : AlikeWorlds root other per (first_world c root s) (first_world d other s)
  alike = record { files = begun-both per root other c d both; whole = again.begins.whole; other_whole = again.other_begins.whole; control = refl }

  abbrev first : Ended custom c root s after passes ends
  first = ended custom c root s after passes ends

  abbrev v : World
  v = first.world

  second : Other root other per v (records_after custom other per s.records (first_world d other s))
  second =
      other_end root other per v (records_after custom other per s.records (first_world d other s))
      (subst (λ r. EndTheSame root other per r (records_after custom other per s.records (first_world d other s))) first.is
      (log-ends custom sound root other per again.begins.some s.label.start.0 s.records (first_world c root s) (first_world d other s) taken
      (before-log custom sound root other per again.begins.some s.records (first_world c root s) (first_world d other s) alike again)))

  abbrev y : World
  y = second.world

  -- no change was skipped in the one, and so none in the other
  none : y.skipped ≡ []
  none =
      none-skipped y.skipped
      (log-main custom other per s.label.start.0 s.records (first_world d other s) y taken (λ name among. absurd (true≢false (sym among))) second.is)
      (λ name main. sym (second.same.skips name main) ∙ ap (is_among name) first.none)

  abbrev own : Contents
  own = all_changed v.files (closing root (left-by s v))

  abbrev others : Contents
  others = all_changed y.files (closing other (left-by s v))

  files_alike : AlikeClusters per own root others other
  files_alike = left-alike custom c root s after passes ends d other both y second.is none second.same.alike.control second.same.alike.files

  own_is : own ≡ after.files
  own_is = own-left custom c root s after passes ends d other both y second.is none second.same.alike.control

  others_are : others ≡ (closed-by other s y).files
  others_are = other-left custom c root s after passes ends d other both y second.is none second.same.alike.control

  pages_same : (name : BlockName) → IsMainBlock name → page_in root per name own ≡ page_in other per name others
  pages_same name main = page-closed root per v.files (left-by s v) name main ∙ second.same.pages name main ∙ sym (page-closed other per y.files (left-by s v) name main)

  pub ends-the_same : EndsTheSame custom per after root d other
  ends-the_same = record {
    left = closed-by other s y;
    ends = other-ends custom c root s after passes ends d other both y second.is none;
    records = ap (λ (a : After). a.records) first.after_is;
    end = ap (λ (a : After). a.end) first.after_is;
    tli = ap (λ (a : After). a.tli) first.after_is;
    files =
        subst (λ e. AlikeClusters per e root (closed-by other s y).files other) own_is
        (subst (λ f. AlikeClusters per own root f other) others_are files_alike);
    pages = λ name main. sym (ap (page_in root per name) own_is) ∙ pages_same name main ∙ ap (page_in other per name) others_are;
  }

  -- ---- and the same files, byte for byte

  module _ (whole : HasWholeBlocks c root) (same : HaveSameVersions c root d other) where
    begun_whole : HasWholeBlocks (first_world c root s).files root
    begun_whole = whole-kept root c (first_world c root s).files (begun-steps root c) whole

    begun_versions : HaveSameVersions (first_world c root s).files root (first_world d other s).files other
    begun_versions = versions-stay root other per c d (first_world c root s).files (first_world d other s).files both alike.files same (begun-steps root c) (begun-steps other d)

    own_whole : HasWholeBlocks own root
    own_whole =
        whole-kept root v.files own (closed-steps root v.files (left-by s v))
        (left-whole custom sound root other per again.begins.some s.label.start.0 s.records (first_world c root s) (first_world d other s) taken alike begun_whole begun_versions v first.is)

    both_versions : HaveSameVersions own root others other
    both_versions =
        versions-stay root other per v.files y.files own others second.same.alike.files files_alike
        (left-versions custom sound root other per again.begins.some s.label.start.0 s.records (first_world c root s) (first_world d other s) taken alike begun_whole begun_versions v y first.is second.is)
        (closed-steps root v.files (left-by s v)) (closed-steps other y.files (left-by s v))

    files_same : HaveSameFiles own root others other
    files_same = files-same root other per again.begins.some own others files_alike own_whole both_versions pages_same

    pub ends-same_files : EndsWithSameFiles custom per after root d other
    unfolding ends-the_same
    ends-same_files = record {
      ends = ends-the_same;
      files =
          subst (λ e. HaveSameFiles e root (closed-by other s y).files other) own_is
          (subst (λ f. HaveSameFiles own root f other) others_are files_same);
    }

-- Records in two clusters of which the same is seen: their blocks, and all else.
use Rattle.std.proofs.Common.{ℕ, Bool, List, [], ◌∷◌, Option, None, Some, Result, Ok, refl, ap}
use Rattle.block_refs.specs.Outcomes.{record_parts}
use Rattle.block_refs.specs.Parts.{PartsView}
use Rattle.cluster_tree.specs.Causes.{unless}
use Rattle.cluster_tree.specs.Contents.{Contents}
use Rattle.cluster_tree.specs.PathValue.{PathValue}
use Rattle.wal_records.specs.Reading.{LogRecord}
use Rattle.file_effects.specs.Done.{files_after}
use Rattle.replay_control.specs.Following.{control_after}
use Rattle.replay_profile.specs.Profile.{parts_or_none}
use Rattle.block_replay.specs.Blocks.{blocks_after}
use Rattle.block_replay.specs.Faults.{of_files}
use Rattle.block_replay.specs.World.{BlockWorld, without_gone}
use Rattle.block_replay.specs.declared.faults.RecordFault.{RecordFault}
use Rattle.replay_world.specs.Records.{others_after, record_after, records_after, short_refusal}
use Rattle.replay_world.specs.World.{World, blocks_of}
use Rattle.rmgr_hooks.specs.Custom.{Extension}
use Rattle.local_replays.specs.Seen.{EndSame, SameLeft, SameSeen, SameWorlds, Sees}
use Rattle.local_replays.proofs.BlockLemmas.{SameBlocks, blocks-same, of-same}
use Rattle.local_replays.proofs.EffectLemmas.{files-same}
use Rattle.local_replays.proofs.SeenLemmas.{Keeps, left-keeps, then-same}

module _ (seen : PathValue → Bool) (Same : Contents → Contents → Type 0) (keeps : Keeps seen Same) (root : PathValue) (sees : Sees root seen) where
  abbrev Both : BlockWorld → BlockWorld → Type 0
  Both = SameBlocks Same

  module _ (custom : Option Extension) (per : ℕ) (rec : LogRecord) (parts : PartsView) where
    others_same : (w v : World) → SameWorlds Same w v → (b e : BlockWorld) → Both b e → EndSame (SameWorlds Same) (others_after root per rec parts w b) (others_after root per rec parts v e)
    others_same w v both b e left =
        then-same Same (SameWorlds Same) (of_files (files_after root per rec parts b.files)) (of_files (files_after root per rec parts e.files))
        (λ c. Ok (record { files = c; control = control_after rec parts w.control; skipped = without_gone rec parts b.skipped }))
        (λ c. Ok (record { files = c; control = control_after rec parts v.control; skipped = without_gone rec parts e.skipped }))
        (of-same seen Same keeps root sees _ _ (files-same seen Same keeps root sees per rec parts b.files e.files left.files))
        (λ c d same. record { files = same; control = ap (control_after rec parts) both.control; skipped = ap (without_gone rec parts) left.skipped })

    short_same : (o : Option RecordFault) (r s : Result World RecordFault) → EndSame (SameWorlds Same) r s → EndSame (SameWorlds Same) (unless o r) (unless o s)
    short_same None r s same = same
    short_same (Some e) r s same = refl

    record_same : (w v : World) → SameWorlds Same w v → EndSame (SameWorlds Same) (record_after custom root per rec parts w) (record_after custom root per rec parts v)
    unfolding record_after
    record_same w v both =
        short_same (short_refusal rec parts) _ _
        (then-same Both (SameWorlds Same) (blocks_after custom root per rec parts (blocks_of w)) (blocks_after custom root per rec parts (blocks_of v)) (others_after root per rec parts w) (others_after root per rec parts v)
        (blocks-same seen Same keeps root sees custom per rec parts parts.blocks (blocks_of w) (blocks_of v) (record { files = both.files; skipped = both.skipped })) (others_same w v both))

  -- ---- one record after another

  records_same : (custom : Option Extension) (per : ℕ) (records : List LogRecord) (w v : World) → SameWorlds Same w v
      → EndSame (SameWorlds Same) (records_after custom root per records w) (records_after custom root per records v)
  unfolding records_after
  records_same custom per [] w v both = both
  records_same custom per (rec ∷ records) w v both =
      let parts : PartsView = parts_or_none (record_parts rec) in
      then-same (SameWorlds Same) (SameWorlds Same) (record_after custom root per rec parts w) (record_after custom root per rec parts v)
      (records_after custom root per records) (records_after custom root per records) (record_same custom per rec parts w v both) (records_same custom per records)

-- with what each keeps
pub records-same : (seen : PathValue → Bool) (root : PathValue) → Sees root seen → (custom : Option Extension) (per : ℕ) (records : List LogRecord) (w v : World) → SameWorlds (SameSeen seen) w v
    → EndSame (SameWorlds (SameLeft seen w.files v.files)) (records_after custom root per records w) (records_after custom root per records v)
records-same seen root sees custom per records w v both =
    records_same seen (SameLeft seen w.files v.files) (left-keeps seen w.files v.files) root sees custom per records w v
    (record { files = record { same = both.files; first = λ path not. refl; second = λ path not. refl }; control = both.control; skipped = both.skipped })

-- Records, where each entry is of the kind of its place.
use Rattle.std.proofs.Common.{ℕ, true, false, nat_lt, List, [], ◌∷◌, Option, None, Some, Result, Ok, Err}
use Rattle.rmgr_hooks.specs.Custom.{Extension}
use Rattle.std.specs.Prelude.{if◌then◌else◌}
use Rattle.block_effects.specs.Effects.{zeros}
use Rattle.block_refs.specs.Outcomes.{record_parts, start_of}
use Rattle.block_refs.specs.Parts.{PartsView}
use Rattle.block_refs.specs.declared.block_ref.BlockRef.{BlockRef}
use Rattle.block_refs.specs.declared.names.BlockName.{BlockName}
use Rattle.block_refs.specs.declared.placed.Placed.{Placed}
use Rattle.block_replay.specs.Blocks.{block_after, blocks_after, by_act, change_at, change_skipped, changed, each_after, map_changed, redone, with_files}
use Rattle.block_replay.specs.Faults.{of_files}
use Rattle.block_replay.specs.Pages.{image_at, image_left, image_put, older_put, page_put, redone_put}
use Rattle.block_replay.specs.World.{BlockWorld, with_name, without_gone}
use Rattle.block_replay.specs.declared.faults.RecordFault.{RecordFault}
use Rattle.block_replay.specs.declared.faults.RecordFault.TheVariants.{RedoFailed, File}
use Rattle.cluster_tree.specs.Causes.{given, unless}
use Rattle.cluster_tree.specs.Contents.{Contents}
use Rattle.cluster_tree.specs.PathValue.{PathValue}
use Rattle.cluster_tree.specs.declared.file_fault.FileFault.{FileFault}
use Rattle.file_effects.specs.Done.{files_after}
use Rattle.page_layout.specs.Lsn.{lsn}
use Rattle.page_layout.specs.declared.refusal.RedoWhy.TheVariants.{Layout}
use Rattle.page_masks.specs.Law.{Redone, stamped}
use Rattle.record_effects.specs.Acts.{act_on}
use Rattle.record_effects.specs.declared.acts.Act.{Act}
use Rattle.record_effects.specs.declared.acts.Act.TheVariants as act
use Rattle.replay_control.specs.Following.{control_after}
use Rattle.replay_profile.specs.Profile.{is_short, parts_or_none}
use Rattle.replay_world.specs.Records.{first_block, name_or_none, others_after, record_after, records_after}
use Rattle.replay_world.specs.World.{World, blocks_of}
use Rattle.storage_pages.specs.MapPage.{visible_map}
use Rattle.storage_replay.specs.Blocks.{block_put}
use Rattle.storage_replay.specs.Changes.{created}
use Rattle.storage_replay.specs.Reading.{block_read}
use Rattle.storage_replay.specs.declared.found.Found.{Found}
use Rattle.storage_replay.specs.declared.found.Found.TheVariants as found
use Rattle.wal_records.specs.Reading.{LogRecord}
use Rattle.cluster_laws.specs.Kinds.{HasKinds}
use Rattle.cluster_laws.specs.KindLaws.{FindsKinds}
use Rattle.cluster_laws.proofs.kinds.KindLemmas.{Fine, IsTold}
use Rattle.cluster_laws.proofs.kinds.EffectLemmas.{effects-fine}
use Rattle.cluster_laws.proofs.kinds.StorageLemmas.{created-fine, put-fine, read-block_told}

-- an answer for which something holds, or a refusal at a block
abbrev Finds : {A : Type 0} → (A → Type 0) → Result A RecordFault → Type 0
Finds P (Ok a) = P a
Finds P (Err (RedoFailed start name why)) = Unit {0}
Finds P (Err (File e)) = ⊥

given_finds : {A B : Type 0} (P : A → Type 0) (Q : B → Type 0) (r : Result A RecordFault) (next : A → Result B RecordFault) → Finds P r → ((a : A) → P a → Finds Q (next a)) → Finds Q (given r next)
given_finds P Q (Ok a) next finds later = later a finds
given_finds P Q (Err (RedoFailed start name why)) next finds later = tt
given_finds P Q (Err (File e)) next finds later = absurd finds

told_finds : {A B : Type 0} (Q : B → Type 0) (r : Result A FileFault) (next : A → Result B RecordFault) → IsTold r → ((a : A) → Finds Q (next a)) → Finds Q (given (of_files r) next)
told_finds Q (Ok a) next told later = later a
told_finds Q (Err e) next told later = absurd told

module _ (custom : Option Extension) (root : PathValue) (per : ℕ) where
  abbrev Has : Contents → Type 0
  Has c = HasKinds root c

  abbrev HasBlocks : BlockWorld → Type 0
  HasBlocks w = HasKinds root w.files

  files_finds : (r : Result Contents FileFault) → Fine root r → Finds Has (of_files r)
  files_finds (Ok c) fine = fine
  files_finds (Err e) fine = absurd fine

  module _ (rec : LogRecord) (parts : PartsView) (block : BlockRef) where
    abbrev p : BlockName
    p = block.name

    with_finds : (skipped : List BlockName) (r : Result Contents RecordFault) → Finds Has r → Finds HasBlocks (with_files skipped r)
    with_finds skipped r finds = given_finds Has HasBlocks r (λ c. Ok (record { files = c; skipped = skipped })) finds (λ c has. has)

    put_finds : (page : List ℕ) (c : Contents) → HasKinds root c → Finds Has (page_put root per p page c)
    put_finds page c has = files_finds (block_put root per p page c) (put-fine root per p page c has)

    redone_finds : (made : Redone) (c : Contents) → HasKinds root c → Finds Has (redone_put root per rec p made c)
    redone_finds (Ok page) c has = put_finds page c has
    redone_finds (Err why) c has = tt

    older_finds : (change : List ℕ → Redone) (page : List ℕ) (c : Contents) → HasKinds root c → Finds Has (older_put root per rec p change page c)
    older_finds change page c has =
        elim (nat_lt (lsn page) rec.end) as (λ t. Finds Has (if t then redone_put root per rec p (change page) c else Ok c)) [ true ↦ redone_finds (change page) c has | false ↦ has ]

    image_finds : (image : Option (List ℕ)) (c : Contents) → HasKinds root c → Finds Has (image_put root per rec p image c)
    image_finds None c has = has
    image_finds (Some page) c has = put_finds (image_left rec.end page) c has

    module _ (w : BlockWorld) (has : HasKinds root w.files) where
      skipped_finds : Finds HasBlocks (change_skipped root p w)
      skipped_finds = with_finds (with_name p w.skipped) (of_files (created root p.rel p.fork w.files)) (files_finds (created root p.rel p.fork w.files) (created-fine root p.rel p.fork w.files has))

      at_finds : (told : Found) (page : List ℕ) → Finds HasBlocks (change_at custom root per rec parts block w told page)
      at_finds found.Absent page = skipped_finds
      at_finds found.Zero page = skipped_finds
      at_finds found.Page page = with_finds w.skipped (older_put root per rec p (redone custom rec parts block) page w.files) (older_finds (redone custom rec parts block) page w.files has)

      changed_finds : Finds HasBlocks (changed custom root per rec parts block w)
      changed_finds =
          told_finds HasBlocks (block_read root per p w.files zeros) (λ reading. change_at custom root per rec parts block w reading.found reading.bytes) (read-block_told root per p zeros w.files has)
          (λ reading. at_finds reading.found reading.bytes)

      map_finds : Finds Has (map_changed root per rec parts p w.files)
      map_finds =
          told_finds Has (block_read root per p w.files zeros) (λ reading. older_put root per rec p (stamped rec.end (visible_map rec parts)) reading.bytes w.files) (read-block_told root per p zeros w.files has)
          (λ reading. older_finds (stamped rec.end (visible_map rec parts)) reading.bytes w.files has)

      act_finds : (a : Act) → Finds HasBlocks (by_act custom root per rec parts block w a)
      act_finds act.Nothing = has
      act_finds act.Gone = has
      act_finds act.Image = with_finds w.skipped (image_put root per rec p (image_at rec parts block.id) w.files) (image_finds (image_at rec parts block.id) w.files has)
      act_finds act.Make = with_finds w.skipped (redone_put root per rec p (redone custom rec parts block zeros) w.files) (redone_finds (redone custom rec parts block zeros) w.files has)
      act_finds act.Change = changed_finds
      act_finds act.MapPage = with_finds w.skipped (map_changed root per rec parts p w.files) map_finds

  module _ (rec : LogRecord) (parts : PartsView) where
    each_finds : (blocks : List Placed) (w : BlockWorld) → HasKinds root w.files → Finds HasBlocks (each_after custom root per rec parts blocks w)
    unfolding each_after block_after
    each_finds [] w has = has
    each_finds (placed ∷ more) w has =
        given_finds HasBlocks HasBlocks (block_after custom root per rec parts placed w) (each_after custom root per rec parts more) (act_finds rec parts placed.block w has (act_on custom rec parts placed.block)) (λ v left. each_finds more v left)

    others_finds : (w : World) (b : BlockWorld) → HasKinds root b.files → FindsKinds root (others_after root per rec parts w b)
    others_finds w b has = by (files_after root per rec parts b.files) (effects-fine root rec parts per b.files has)
      where
        by : (r : Result Contents FileFault) → Fine root r
            → FindsKinds root (given (of_files r) (λ c. Ok (record { files = c; control = control_after rec parts w.control; skipped = without_gone rec parts b.skipped })))
        by (Ok c) fine = fine
        by (Err e) fine = absurd fine

    blocks_finds : (w : World) (r : Result BlockWorld RecordFault) → Finds HasBlocks r → FindsKinds root (given r (others_after root per rec parts w))
    blocks_finds w (Ok b) finds = others_finds w b finds
    blocks_finds w (Err (RedoFailed start name why)) finds = tt
    blocks_finds w (Err (File e)) finds = absurd finds

    pub record-finds : (w : World) → HasKinds root w.files → FindsKinds root (record_after custom root per rec parts w)
    unfolding record_after
    record-finds w has =
        elim (is_short rec parts) as (λ t. FindsKinds root (unless (if t then Some (RedoFailed (start_of rec) (name_or_none (first_block parts)) Layout) else None) (given (blocks_after custom root per rec parts (blocks_of w)) (others_after root per rec parts w)))) [
          | true ↦ tt
          | false ↦ blocks_finds w (blocks_after custom root per rec parts (blocks_of w)) (each_finds parts.blocks (blocks_of w) has)
        ]

  pub log-finds : (records : List LogRecord) (w : World) → HasKinds root w.files → FindsKinds root (records_after custom root per records w)
  unfolding records_after
  log-finds [] w has = has
  log-finds (rec ∷ records) w has = by (record_after custom root per rec (parts_or_none (record_parts rec)) w) (record-finds rec (parts_or_none (record_parts rec)) w has) (log-finds records)
    where
      by : (r : Result World RecordFault) → FindsKinds root r → ((v : World) → HasKinds root v.files → FindsKinds root (records_after custom root per records v)) → FindsKinds root (given r (records_after custom root per records))
      by (Ok v) finds later = later v finds
      by (Err (RedoFailed start name why)) finds later = tt
      by (Err (File e)) finds later = absurd finds

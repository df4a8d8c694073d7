-- Blocks of a record in two clusters of which the same is seen.
use Rattle.std.proofs.Common.{◌≡◌, ℕ, Bool, nat_lt, List, [], ◌∷◌, Option, None, Some, Result, Ok, Err, refl, ap, sym, subst}
use Rattle.block_refs.specs.Parts.{PartsView}
use Rattle.block_refs.specs.declared.block_ref.BlockRef.{BlockRef}
use Rattle.block_refs.specs.declared.names.BlockName.{BlockName}
use Rattle.block_refs.specs.declared.placed.Placed.{Placed}
use Rattle.cluster_tree.specs.Contents.{Contents}
use Rattle.cluster_tree.specs.PathValue.{PathValue}
use Rattle.cluster_tree.specs.declared.file_fault.FileFault.{FileFault}
use Rattle.page_layout.specs.Lsn.{lsn}
use Rattle.page_masks.specs.Law.{Redone, stamped}
use Rattle.storage_pages.specs.MapPage.{visible_map}
use Rattle.storage_replay.specs.Changes.{created}
use Rattle.storage_replay.specs.declared.found.Found.{Found}
use Rattle.storage_replay.specs.declared.found.Found.TheVariants as found
use Rattle.wal_records.specs.Reading.{LogRecord}
use Rattle.block_effects.specs.Effects.{zeros}
use Rattle.record_effects.specs.Acts.{act_on}
use Rattle.record_effects.specs.declared.acts.Act.{Act}
use Rattle.record_effects.specs.declared.acts.Act.TheVariants.{Nothing, Image, Make, Change, MapPage, Gone}
use Rattle.block_replay.specs.Blocks.{block_after, by_act, change_at, change_skipped, changed, each_after, map_changed, redone, with_files}
use Rattle.block_replay.specs.Faults.{of_files, of_redo}
use Rattle.block_replay.specs.Pages.{image_at, image_left, image_put, older_put, page_put, page_there, redone_put}
use Rattle.block_replay.specs.World.{BlockWorld, with_name}
use Rattle.block_replay.specs.declared.faults.RecordFault.{RecordFault}
use Rattle.block_replay.specs.declared.faults.RecordFault.TheVariants.{File}
use Rattle.rmgr_hooks.specs.Custom.{Extension}
use Rattle.local_replays.specs.Seen.{EndSame, Sees}
use Rattle.local_replays.proofs.SeenLemmas.{Keeps, Local, if-same, then-same, told-same}
use Rattle.local_replays.proofs.StorageLemmas.{block-told, created-same, put-same}

-- the files are the same so, and the same changes were skipped
pub record SameBlocks (Same : Contents → Contents → Type 0) (w v : BlockWorld) : Type 0 where
  pub files : Same w.files v.files
  pub skipped : v.skipped ≡ w.skipped

module _ (seen : PathValue → Bool) (Same : Contents → Contents → Type 0) (keeps : Keeps seen Same) (root : PathValue) (sees : Sees root seen) where
  abbrev Both : BlockWorld → BlockWorld → Type 0
  Both = SameBlocks Same

  pub of-same : (r s : Result Contents FileFault) → EndSame Same r s → EndSame Same (of_files r) (of_files s)
  of-same (Ok c) (Ok d) same = same
  of-same (Ok c) (Err f) same = absurd same
  of-same (Err e) (Ok d) same = absurd same
  of-same (Err e) (Err f) same = ap (λ x. File x) same

  -- ---- pages that are put in place

  page_same : (per : ℕ) (name : BlockName) (page : List ℕ) → Local Same (page_put root per name page)
  page_same per name page c d same = of-same _ _ (put-same seen Same keeps root sees per name page c d same)

  image_same : (per : ℕ) (rec : LogRecord) (name : BlockName) (image : Option (List ℕ)) → Local Same (image_put root per rec name image)
  image_same per rec name None c d same = same
  image_same per rec name (Some page) c d same = page_same per name (image_left rec.end page) c d same

  redone_same : (per : ℕ) (rec : LogRecord) (name : BlockName) (page : Redone) → Local Same (redone_put root per rec name page)
  redone_same per rec name page c d same =
      told-same Same (of_redo rec name page) (of_redo rec name page) (λ p. page_put root per name p c) (λ p. page_put root per name p d) refl (λ p. page_same per name p c d same)

  older_same : (per : ℕ) (rec : LogRecord) (name : BlockName) (change : List ℕ → Redone) (page : List ℕ) → Local Same (older_put root per rec name change page)
  older_same per rec name change page c d same =
      if-same Same (nat_lt (lsn page) rec.end) (redone_put root per rec name (change page) c) (Ok c) (redone_put root per rec name (change page) d) (Ok d) (redone_same per rec name (change page) c d same) same

  there_same : (per : ℕ) (name : BlockName) (c d : Contents) → Same c d → page_there root per name d ≡ page_there root per name c
  there_same per name c d same = ap of_files (block-told seen Same keeps root sees per name zeros c d same)

  map_same : (per : ℕ) (rec : LogRecord) (parts : PartsView) (name : BlockName) → Local Same (map_changed root per rec parts name)
  map_same per rec parts name c d same =
      told-same Same (page_there root per name c) (page_there root per name d)
      (λ reading. older_put root per rec name (stamped rec.end (visible_map rec parts)) reading.bytes c) (λ reading. older_put root per rec name (stamped rec.end (visible_map rec parts)) reading.bytes d)
      (there_same per name c d same) (λ reading. older_same per rec name (stamped rec.end (visible_map rec parts)) reading.bytes c d same)

  -- ---- a block of a record

  files_left : (skipped : List BlockName) (r s : Result Contents RecordFault) → EndSame Same r s → EndSame Both (with_files skipped r) (with_files skipped s)
  files_left skipped (Ok c) (Ok d) same = record { files = same; skipped = refl }
  files_left skipped (Ok c) (Err f) same = absurd same
  files_left skipped (Err e) (Ok d) same = absurd same
  files_left skipped (Err e) (Err f) same = same

  module _ (custom : Option Extension) (per : ℕ) (rec : LogRecord) (parts : PartsView) where
    -- other files, where the same changes were skipped
    left_same : (w v : BlockWorld) → Both w v → (r s : Result Contents RecordFault) → EndSame Same r s → EndSame Both (with_files w.skipped r) (with_files v.skipped s)
    left_same w v both r s same = subst (λ l. EndSame Both (with_files w.skipped r) (with_files l s)) (sym both.skipped) (files_left w.skipped r s same)

    skipped_same : (name : BlockName) (w v : BlockWorld) → Both w v → EndSame Both (change_skipped root name w) (change_skipped root name v)
    skipped_same name w v both =
        subst (λ l. EndSame Both (change_skipped root name w) (with_files (with_name name l) (of_files (created root name.rel name.fork v.files)))) (sym both.skipped)
        (files_left (with_name name w.skipped) _ _ (of-same _ _ (created-same seen Same keeps root sees name.rel name.fork w.files v.files both.files)))

    at_same : (block : BlockRef) (w v : BlockWorld) → Both w v → (there : Found) (page : List ℕ)
        → EndSame Both (change_at custom root per rec parts block w there page) (change_at custom root per rec parts block v there page)
    at_same block w v both found.Absent page = skipped_same block.name w v both
    at_same block w v both found.Zero page = skipped_same block.name w v both
    at_same block w v both found.Page page = left_same w v both _ _ (older_same per rec block.name (redone custom rec parts block) page w.files v.files both.files)

    changed_same : (block : BlockRef) (w v : BlockWorld) → Both w v → EndSame Both (changed custom root per rec parts block w) (changed custom root per rec parts block v)
    changed_same block w v both =
        told-same Both (page_there root per block.name w.files) (page_there root per block.name v.files)
        (λ reading. change_at custom root per rec parts block w reading.found reading.bytes) (λ reading. change_at custom root per rec parts block v reading.found reading.bytes)
        (there_same per block.name w.files v.files both.files) (λ reading. at_same block w v both reading.found reading.bytes)

    act_same : (block : BlockRef) (w v : BlockWorld) → Both w v → (act : Act) → EndSame Both (by_act custom root per rec parts block w act) (by_act custom root per rec parts block v act)
    act_same block w v both Nothing = both
    act_same block w v both Gone = both
    act_same block w v both Image = left_same w v both _ _ (image_same per rec block.name (image_at rec parts block.id) w.files v.files both.files)
    act_same block w v both Make = left_same w v both _ _ (redone_same per rec block.name (redone custom rec parts block zeros) w.files v.files both.files)
    act_same block w v both Change = changed_same block w v both
    act_same block w v both MapPage = left_same w v both _ _ (map_same per rec parts block.name w.files v.files both.files)

    pub blocks-same : (blocks : List Placed) (w v : BlockWorld) → Both w v → EndSame Both (each_after custom root per rec parts blocks w) (each_after custom root per rec parts blocks v)
    unfolding each_after block_after
    blocks-same [] w v both = both
    blocks-same (placed ∷ more) w v both =
        then-same Both Both (block_after custom root per rec parts placed w) (block_after custom root per rec parts placed v) (each_after custom root per rec parts more) (each_after custom root per rec parts more)
        (act_same placed.block w v both (act_on custom rec parts placed.block)) (blocks-same more)

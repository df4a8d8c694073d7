-- A record leaves the init fork of a relation that isn't gone with it.
use Rattle.std.proofs.Common.{◌≡◌, ℕ, Bool, true, false, nat_lt, List, [], ◌∷◌, Option, None, Some, Result, Ok, refl, ap, sym, subst, ◌∙◌, true≢false}
use Rattle.rmgr_hooks.specs.Custom.{Extension}
use Rattle.std.specs.Prelude.{if◌then◌else◌}
use Rattle.block_effects.specs.Effects.{zeros}
use Rattle.block_effects.specs.Gone.{is_gone}
use Rattle.block_refs.specs.Parts.{PartsView}
use Rattle.block_refs.specs.declared.block_ref.BlockRef.{BlockRef}
use Rattle.block_refs.specs.declared.names.BlockName.{BlockName}
use Rattle.block_refs.specs.declared.placed.Placed.{Placed}
use Rattle.block_replay.specs.Blocks.{block_after, by_act, change_at, each_after, map_changed, redone, with_files}
use Rattle.block_replay.specs.Faults.{of_files, of_redo}
use Rattle.block_replay.specs.Pages.{image_at, image_left, image_put, older_put, page_put, page_there, redone_put}
use Rattle.block_replay.specs.World.{BlockWorld, with_name}
use Rattle.block_replay.specs.declared.faults.RecordFault.{RecordFault}
use Rattle.cluster_compare.specs.Same.{has_init}
use Rattle.cluster_tree.specs.Contents.{Contents}
use Rattle.cluster_tree.specs.PathValue.{PathValue}
use Rattle.page_layout.specs.Lsn.{lsn}
use Rattle.page_masks.specs.Law.{Redone, stamped}
use Rattle.record_effects.specs.Acts.{act_on}
use Rattle.record_effects.specs.Managers.{effect_on}
use Rattle.record_effects.specs.declared.acts.Act.{Act}
use Rattle.record_effects.specs.declared.acts.Act.TheVariants as act
use Rattle.replay_law.specs.Effect.{Gone}
use Rattle.replay_laws.specs.Held.{IsMainBlock}
use Rattle.replay_laws.specs.Log.{IsTaken}
use Rattle.replay_laws.proofs.RecordLemmas.{done, taken-read}
use Rattle.replay_laws.proofs.WorldLemmas.{files-ok, given-ok, one_world, with-files_ok}
use Rattle.replay_world.specs.Records.{record_after}
use Rattle.replay_world.specs.World.{World, blocks_of}
use Rattle.storage_laws.proofs.NumberLemmas.{by_test}
use Rattle.storage_pages.specs.MapPage.{visible_map}
use Rattle.storage_replay.specs.Blocks.{block_put}
use Rattle.storage_replay.specs.Changes.{created}
use Rattle.storage_replay.specs.declared.found.Found.{Found}
use Rattle.storage_replay.specs.declared.found.Found.TheVariants as found
use Rattle.wal_records.specs.Reading.{LogRecord}
use Rattle.cluster_laws.proofs.unlogged.EffectLemmas.{files-stay, init_file}
use Rattle.cluster_laws.proofs.unlogged.StayLemmas.{Stays, created-stays, put-stays, stays-same, stays-then}

-- ---- at a reference: files are made or written, and none goes

module _ (custom : Option Extension) (q root : PathValue) (per : ℕ) (rec : LogRecord) (parts : PartsView) (block : BlockRef) where
  with_stays : (skipped : List BlockName) (r : Result Contents RecordFault) (c : Contents) (v : BlockWorld) → ((d : Contents) → r ≡ Ok d → Stays q c d) → with_files skipped r ≡ Ok v → Stays q c v.files
  with_stays skipped r c v stays made =
      let two = with-files_ok skipped r v made in
      subst (λ (u : BlockWorld). Stays q c u.files) two.2 (stays two.0 two.1)

  put_stays : (page : List ℕ) (c d : Contents) → page_put root per block.name page c ≡ Ok d → Stays q c d
  put_stays page c d made = put-stays q root per block.name page c d (files-ok (block_put root per block.name page c) d made)

  redone_stays : (page : Redone) (c d : Contents) → redone_put root per rec block.name page c ≡ Ok d → Stays q c d
  redone_stays page c d made =
      let two = given-ok (of_redo rec block.name page) (λ p. page_put root per block.name p c) d made in
      put_stays two.0 c d two.2

  older_stays : (change : List ℕ → Redone) (page : List ℕ) (c d : Contents) → older_put root per rec block.name change page c ≡ Ok d → Stays q c d
  older_stays change page c d made = by (nat_lt (lsn page) rec.end) made
    where
      by : (t : Bool) → (if t then redone_put root per rec block.name (change page) c else Ok c) ≡ Ok d → Stays q c d
      by true run = redone_stays (change page) c d run
      by false run = stays-same q c d cc

  image_stays : (image : Option (List ℕ)) (c d : Contents) → image_put root per rec block.name image c ≡ Ok d → Stays q c d
  image_stays None c d made = stays-same q c d cc
  image_stays (Some page) c d made = put_stays (image_left rec.end page) c d made

  module _ (w v : BlockWorld) where
    skipped_stays : with_files (with_name block.name w.skipped) (of_files (created root block.name.rel block.name.fork w.files)) ≡ Ok v → Stays q w.files v.files
    skipped_stays made =
        with_stays (with_name block.name w.skipped) (of_files (created root block.name.rel block.name.fork w.files)) w.files v
        (λ d run. created-stays q root per block.name.rel block.name.fork w.files d (files-ok (created root block.name.rel block.name.fork w.files) d run)) made

    at_stays : (told : Found) (page : List ℕ) → change_at custom root per rec parts block w told page ≡ Ok v → Stays q w.files v.files
    at_stays found.Absent page made = skipped_stays made
    at_stays found.Zero page made = skipped_stays made
    at_stays found.Page page made =
        with_stays w.skipped (older_put root per rec block.name (redone custom rec parts block) page w.files) w.files v (λ d run. older_stays (redone custom rec parts block) page w.files d run) made

    map_stays : (d : Contents) → map_changed root per rec parts block.name w.files ≡ Ok d → Stays q w.files d
    map_stays d made =
        let read = given-ok (page_there root per block.name w.files) (λ reading. older_put root per rec block.name (stamped rec.end (visible_map rec parts)) reading.bytes w.files) d made in
        older_stays (stamped rec.end (visible_map rec parts)) read.0.bytes w.files d read.2

    act_stays : (a : Act) → by_act custom root per rec parts block w a ≡ Ok v → Stays q w.files v.files
    act_stays act.Nothing made = stays-same q w.files v.files (ap (λ (u : BlockWorld). u.files) (one_world w v made))
    act_stays act.Gone made = stays-same q w.files v.files (ap (λ (u : BlockWorld). u.files) (one_world w v made))
    act_stays act.Image made =
        with_stays w.skipped (image_put root per rec block.name (image_at rec parts block.id) w.files) w.files v (λ d run. image_stays (image_at rec parts block.id) w.files d run) made
    act_stays act.Make made =
        with_stays w.skipped (redone_put root per rec block.name (redone custom rec parts block zeros) w.files) w.files v (λ d run. redone_stays (redone custom rec parts block zeros) w.files d run) made
    act_stays act.Change made =
        let read = given-ok (page_there root per block.name w.files) (λ reading. change_at custom root per rec parts block w reading.found reading.bytes) v made in
        at_stays read.0.found read.0.bytes read.2
    act_stays act.MapPage made = with_stays w.skipped (map_changed root per rec parts block.name w.files) w.files v map_stays made

-- ---- one reference after another, and then all else

blocks_stay : (custom : Option Extension) (q root : PathValue) (per : ℕ) (rec : LogRecord) (parts : PartsView) (blocks : List Placed) (w v : BlockWorld) → each_after custom root per rec parts blocks w ≡ Ok v → Stays q w.files v.files
unfolding each_after block_after
blocks_stay custom q root per rec parts [] w v made = stays-same q w.files v.files (ap (λ (u : BlockWorld). u.files) (one_world w v made))
blocks_stay custom q root per rec parts (placed ∷ more) w v made =
    let two = given-ok (block_after custom root per rec parts placed w) (each_after custom root per rec parts more) v made in
    stays-then q w.files two.0.files v.files (act_stays custom q root per rec parts placed.block w two.0 (act_on custom rec parts placed.block) two.1)
    (blocks_stay custom q root per rec parts more two.0 v two.2)

module _ (custom : Option Extension) (root : PathValue) (per : ℕ) (rec : LogRecord) (parts : PartsView) (name : BlockName) (w v : World) (is : IsTaken custom rec parts) (main : IsMainBlock name) (made : record_after custom root per rec parts w ≡ Ok v) where
  record_stays : is_gone rec parts name ≡ false → Stays (init_file root name) w.files v.files
  record_stays stays =
      let q : PathValue = init_file root name in
      let after = done custom root per rec parts w v made in
      stays-then q w.files after.mid.files v.files (blocks_stay custom q root per rec parts parts.blocks (blocks_of w) after.mid after.blocks)
      (files-stay root per name main rec parts after.mid.files v.files is.bytes (taken-read custom rec parts is).fields stays after.files)

  pub init-goes : has_init w.files root name.rel ≡ true → has_init v.files root name.rel ≡ false → effect_on custom rec parts name ≡ Gone
  init-goes there none = by_test (is_gone rec parts name)
      (λ gone. rw gone refl)
      (λ stays. absurd (true≢false (sym (record_stays stays there) ∙ none)))

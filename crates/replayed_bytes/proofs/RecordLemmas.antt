-- Records: what they leave of the sizes of main forks' files, and of files that tell a version.
use Rattle.std.proofs.Common.{◌≡◌, ℕ, ◌<◌, Bool, true, false, nat_lt, List, [], ◌∷◌, length, Option, None, Some, Result, Ok, refl, ap, subst, ◌∙◌}
use Rattle.std.specs.Prelude.{if◌then◌else◌}
use Rattle.std.proofs.lemmas.List.{length-replicate}
use Rattle.rmgr_hooks.specs.Custom.{Extension, IsSound}
use Rattle.block_effects.specs.Effects.{zeros}
use Rattle.block_effects.proofs.MeetLemmas.{meets}
use Rattle.block_refs.specs.Parts.{ArePartsOf, PartsView}
use Rattle.block_refs.proofs.PlaceLemmas.{page_size as image_of_size}
use Rattle.block_refs.specs.declared.block_ref.BlockRef.{BlockRef}
use Rattle.block_refs.specs.declared.names.BlockName.{BlockName}
use Rattle.block_refs.specs.declared.placed.Placed.{Placed}
use Rattle.block_replay.specs.Blocks.{block_after, by_act, change_at, each_after, map_changed, redone, with_files}
use Rattle.block_replay.specs.Faults.{of_files, of_redo}
use Rattle.block_replay.specs.Pages.{image_at, image_left, image_put, older_put, page_put, page_there, redone_put}
use Rattle.block_replay.specs.World.{BlockWorld, with_name}
use Rattle.block_replay.specs.declared.faults.RecordFault.{RecordFault}
use Rattle.cluster_tree.specs.Contents.{Contents}
use Rattle.cluster_tree.specs.PathValue.{PathValue}
use Rattle.page_layout.specs.Lsn.{lsn}
use Rattle.page_masks.specs.Kind.{is_zero}
use Rattle.page_masks.specs.Law.{Redone, stamped, view}
use Rattle.page_masks.proofs.LsnLemmas.{page_size}
use Rattle.record_effects.specs.Acts.{act_on, IsDone}
use Rattle.record_effects.specs.Managers.{effect_on, rules_of}
use Rattle.record_effects.specs.declared.acts.Act.{Act}
use Rattle.record_effects.specs.declared.acts.Act.TheVariants as act
use Rattle.replay_law.specs.Effect as effect
use Rattle.replay_law.specs.Effect.{Effect}
use Rattle.replay_law.specs.Premises.{IsEffect}
use Rattle.replay_laws.specs.Log.{AreTaken, IsTaken}
use Rattle.replay_laws.specs.Whole.{AreWhole}
use Rattle.replay_laws.proofs.LogLemmas.{first-taken, parts_in}
use Rattle.replay_laws.proofs.NameLemmas.{AreOwn}
use Rattle.replay_laws.proofs.PageLemmas.{image-size, page-is, stamped-map_size, state-size}
use Rattle.replay_laws.proofs.RecordLemmas.{Done, done, one-world_of, record-whole, taken-read}
use Rattle.replay_laws.proofs.RefLemmas.{AreReady, all-ready, one-stepped}
use Rattle.replay_laws.proofs.RuleLemmas.{managers_are}
use Rattle.replay_laws.proofs.WorldLemmas.{files-ok, given-ok, one_world, redo-ok, with-files_ok}
use Rattle.replay_world.specs.Records.{record_after, records_after}
use Rattle.replay_world.specs.World.{World, blocks_of}
use Rattle.storage_laws.specs.LengthLaws.{reading_of}
use Rattle.storage_laws.specs.Names.{IsBlock}
use Rattle.storage_laws.specs.States.{block_in}
use Rattle.storage_laws.proofs.LengthLemmas.{read-whole}
use Rattle.storage_pages.specs.MapPage.{visible_map}
use Rattle.storage_replay.specs.Blocks.{block_put}
use Rattle.storage_replay.specs.Changes.{created}
use Rattle.storage_replay.specs.Reading.{Reading, block_read}
use Rattle.storage_replay.specs.declared.found.Found.TheVariants as found
use Rattle.wal_records.specs.Reading.{LogRecord}
use Rattle.replayed_bytes.specs.Bytes.{HasWholeBlocks}
use Rattle.replayed_bytes.proofs.EffectLemmas.{files-end}
use Rattle.replayed_bytes.proofs.EndLemmas.{Ends, ends-after}
use Rattle.replayed_bytes.proofs.StepLemmas.{Steps, steps-same, steps-then}
use Rattle.replayed_bytes.proofs.StorageLemmas.{created-steps, put-steps}

-- ---- at a reference, a page of one block is put, or a fork is made

abbrev OkRedone : List ℕ → Redone
OkRedone page = Ok page

-- whatever redo makes has the size of a block
abbrev IsSized : Redone → Type 0
IsSized made = (page : List ℕ) → made ≡ OkRedone page → length page ≡ 8192

module _ (custom : Option Extension) (root : PathValue) (per : ℕ) (some : 0 < per) (rec : LogRecord) (parts : PartsView) (of_rec : ArePartsOf rec parts) (ends : 0 < rec.end)
    (block : BlockRef) (small : IsBlock block.name) (w v : BlockWorld) (whole : AreWhole root per w.files) where
  abbrev p : BlockName
  p = block.name

  abbrev Leaves : Contents → Type 0
  Leaves d = Steps root w.files d

  with_steps : (skipped : List BlockName) (r : Result Contents RecordFault) → ((d : Contents) → r ≡ Ok d → Leaves d) → with_files skipped r ≡ Ok v → Leaves v.files
  with_steps skipped r steps made =
      let two = with-files_ok skipped r v made in
      subst (λ (u : BlockWorld). Leaves u.files) two.2 (steps two.0 two.1)

  put_steps : (page : List ℕ) (d : Contents) → length page ≡ 8192 → page_put root per p page w.files ≡ Ok d → Leaves d
  put_steps page d size made = put-steps root per p page w.files d size (files-ok (block_put root per p page w.files) d made)

  redone_steps : (page : Redone) (d : Contents) → IsSized page → redone_put root per rec p page w.files ≡ Ok d → Leaves d
  redone_steps page d sized made =
      let two = given-ok (of_redo rec p page) (λ q. page_put root per p q w.files) d made in
      put_steps two.0 d (sized two.0 (redo-ok rec p page two.0 two.1)) two.2

  older_steps : (change : List ℕ → Redone) (page : List ℕ) (d : Contents) → IsSized (change page) → older_put root per rec p change page w.files ≡ Ok d → Leaves d
  older_steps change page d sized made = by (nat_lt (lsn page) rec.end) made
    where
      by : (t : Bool) → (if t then redone_put root per rec p (change page) w.files else Ok w.files) ≡ Ok d → Leaves d
      by true run = redone_steps (change page) d sized run
      by false run = steps-same root w.files d cc

  skipped_steps : with_files (with_name p w.skipped) (of_files (created root p.rel p.fork w.files)) ≡ Ok v → Leaves v.files
  skipped_steps made =
      with_steps (with_name p w.skipped) (of_files (created root p.rel p.fork w.files))
      (λ d run. created-steps root per p.rel p.fork w.files d (files-ok (created root p.rel p.fork w.files) d run)) made

  -- what is read has the size of a block
  read_is : (reading : Reading) → page_there root per p w.files ≡ Ok reading → reading ≡ reading_of zeros (block_in root per p w.files)
  read_is reading read = read-whole root per p w.files zeros reading some small (whole.no_gap p.rel p.fork small.rel) (files-ok (block_read root per p w.files zeros) reading read)

  zeros_size : length zeros ≡ 8192
  zeros_size = length-replicate {A = ℕ} 8192 0

  read_size : (state : Option (List ℕ)) → block_in root per p w.files ≡ state → length (reading_of zeros state).bytes ≡ 8192
  read_size None there = zeros_size
  read_size (Some bytes) there = state-size root per p w.files bytes there

  -- ---- by what is done there

  image_steps : (image : Option (List ℕ)) (page : List ℕ) (d : Contents) → image ≡ Some page → length page ≡ 8192 → image_put root per rec p image w.files ≡ Ok d → Leaves d
  image_steps image page d is size made = put_steps (image_left rec.end page) d (image-size rec.end page ends size) (subst (λ i. image_put root per rec p i w.files ≡ Ok d) is made)

  module _ (changes : IsEffect (view p.block) rec.end (effect.Change (redone custom rec parts block))) where
    page_steps : (bytes : List ℕ) (z : Bool) → length bytes ≡ 8192 → is_zero bytes ≡ z
        → change_at custom root per rec parts block w (if z then found.Zero else found.Page) bytes ≡ Ok v → Leaves v.files
    page_steps bytes true size is made = skipped_steps made
    page_steps bytes false size is made =
        with_steps w.skipped (older_put root per rec p (redone custom rec parts block) bytes w.files)
        (λ d run. older_steps (redone custom rec parts block) bytes d (λ new fresh. page_size new (changes.page bytes new (page-is bytes size is) fresh)) run) made

    state_steps : (state : Option (List ℕ)) → block_in root per p w.files ≡ state
        → change_at custom root per rec parts block w (reading_of zeros state).found (reading_of zeros state).bytes ≡ Ok v → Leaves v.files
    state_steps None there made = skipped_steps made
    state_steps (Some bytes) there made = page_steps bytes (is_zero bytes) (state-size root per p w.files bytes there) refl made

    changed_steps : by_act custom root per rec parts block w act.Change ≡ Ok v → Leaves v.files
    changed_steps made =
        let read = given-ok (page_there root per p w.files) (λ reading. change_at custom root per rec parts block w reading.found reading.bytes) v made in
        state_steps (block_in root per p w.files) refl
        (subst (λ (r : Reading). change_at custom root per rec parts block w r.found r.bytes ≡ Ok v) (read_is read.0 read.1) read.2)

  map_steps : (d : Contents) → map_changed root per rec parts p w.files ≡ Ok d → Leaves d
  map_steps d made =
      let read = given-ok (page_there root per p w.files) (λ reading. older_put root per rec p (stamped rec.end (visible_map rec parts)) reading.bytes w.files) d made in
      let size : length read.0.bytes ≡ 8192 = ap (λ (r : Reading). length r.bytes) (read_is read.0 read.1) ∙ read_size (block_in root per p w.files) refl in
      older_steps (stamped rec.end (visible_map rec parts)) read.0.bytes d (λ new fresh. stamped-map_size rec parts read.0.bytes new ends size fresh) read.2

  act_steps : (a : Act) (doing : Effect) → IsDone custom rec parts block.id a doing → IsEffect (view p.block) rec.end doing → by_act custom root per rec parts block w a ≡ Ok v → Leaves v.files
  act_steps act.Nothing doing is meets made = steps-same root w.files v.files (ap (λ (u : BlockWorld). u.files) (one_world w v made))
  act_steps act.Gone doing is meets made = steps-same root w.files v.files (ap (λ (u : BlockWorld). u.files) (one_world w v made))
  act_steps act.Image doing is meets made =
      let size : length is.0 ≡ 8192 = rw is.1 at (image_of_size rec.body parts block.id of_rec) in
      with_steps w.skipped (image_put root per rec p (image_at rec parts block.id) w.files) (λ d run. image_steps (image_at rec parts block.id) is.0 d is.1 size run) made
  act_steps act.Make doing is meets made =
      with_steps w.skipped (redone_put root per rec p (redone custom rec parts block zeros) w.files)
      (λ d run. redone_steps (redone custom rec parts block zeros) d
      (λ page fresh. page_size page (subst (λ r. IsEffect (view p.block) rec.end (effect.Init r)) fresh (subst (IsEffect (view p.block) rec.end) is meets)).page) run) made
  act_steps act.Change doing is meets made = changed_steps (subst (IsEffect (view p.block) rec.end) is meets) made
  act_steps act.MapPage doing is meets made = with_steps w.skipped (map_changed root per rec parts p w.files) map_steps made

-- ---- one reference after another, and then all else

module _ (custom : Option Extension) (sound : IsSound custom) (root : PathValue) (per : ℕ) (some : 0 < per) where
  module _ (rec : LogRecord) (parts : PartsView) (of_rec : ArePartsOf rec parts) (ends : 0 < rec.end) where
    blocks_steps : (blocks : List Placed) (w v : BlockWorld) → AreReady custom sound root per some rec parts of_rec ends blocks → AreOwn blocks → AreWhole root per w.files
        → each_after custom root per rec parts blocks w ≡ Ok v → Steps root w.files v.files
    unfolding each_after block_after
    blocks_steps [] w v ready own whole made = steps-same root w.files v.files (ap (λ (u : BlockWorld). u.files) (one_world w v made))
    blocks_steps (placed ∷ more) w v ready own whole made =
        let two = given-ok (block_after custom root per rec parts placed w) (each_after custom root per rec parts more) v made in
        steps-then root w.files two.0.files v.files
        (act_steps custom root per some rec parts of_rec ends placed.block own.0.block w two.0 whole (act_on custom rec parts placed.block) (effect_on custom rec parts placed.block.name) ready.0.done
        (meets (rules_of custom rec) rec parts placed.block.name (managers_are custom sound rec) of_rec ends) two.1)
        (blocks_steps more two.0 v ready.1 own.1 (one-stepped custom sound root per some rec parts of_rec ends placed more w two.0 ready.0 own.0 whole two.1).left.whole two.2)

  pub record-ends : (rec : LogRecord) (parts : PartsView) (w v : World) → IsTaken custom rec parts → AreWhole root per w.files → record_after custom root per rec parts w ≡ Ok v → Ends root w.files v.files
  record-ends rec parts w v is whole made =
      let of = taken-read custom rec parts is in
      let after : Done custom root per rec parts w v = done custom root per rec parts w v made in
      ends-after root w.files after.mid.files v.files
      (blocks_steps rec parts of.of_rec is.ends parts.blocks (blocks_of w) after.mid (all-ready custom sound root per some rec parts of.of_rec is.ends of.known) of.own whole after.blocks)
      (files-end root per rec parts after.mid.files v.files (record-whole custom sound root per rec parts w v some is whole made).tree after.files)

  pub log-keeps_blocks : (start : ℕ) (records : List LogRecord) (w v : World) → AreTaken custom start records → AreWhole root per w.files → records_after custom root per records w ≡ Ok v
      → HasWholeBlocks w.files root → HasWholeBlocks v.files root
  unfolding records_after
  log-keeps_blocks start [] w v taken whole made has = subst (λ (u : World). HasWholeBlocks u.files root) (one-world_of w v made) has
  log-keeps_blocks start (rec ∷ records) w v taken whole made has =
      let first = first-taken custom start rec records taken in
      let two = given-ok (record_after custom root per rec (parts_in rec) w) (records_after custom root per records) v made in
      log-keeps_blocks rec.end records two.0 v first.1 (record-whole custom sound root per rec (parts_in rec) w two.0 some first.0 whole two.1) two.2
      (λ parts at main. (record-ends rec (parts_in rec) w two.0 first.0 whole two.1).blocks parts at main (has parts at main))

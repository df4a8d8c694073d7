-- A change is skipped at blocks of main forks alone.
use Rattle.std.proofs.Common.{Option, ◌≡◌, ◌⊎◌, ℕ, Bool, true, false, not, ◌&&◌, ◌||◌, List, [], ◌∷◌, Result, Ok, is_some, inl, inr, refl, sym, ap, subst, ◌∙◌, true≢false}
use Rattle.rmgr_hooks.specs.Custom.{Extension}
use Rattle.std.specs.Prelude.{if◌then◌else◌}
use Rattle.block_effects.specs.Effects.{applied, is_left, zeros}
use Rattle.block_effects.specs.Gone.{is_gone, is_main}
use Rattle.block_refs.specs.Outcomes.{record_parts}
use Rattle.block_refs.specs.Parts.{PartsView}
use Rattle.block_refs.specs.declared.block_ref.BlockRef.{BlockRef}
use Rattle.block_refs.specs.declared.names.BlockName.{BlockName}
use Rattle.block_refs.specs.declared.names.Fork.{Fork}
use Rattle.block_refs.specs.declared.names.Fork.TheVariants.{Main, FreeSpace, Visibility, Init}
use Rattle.block_refs.specs.declared.placed.Placed.{Placed}
use Rattle.block_replay.specs.Blocks.{block_after, blocks_after, by_act, change_at, each_after, map_changed, redone, with_files}
use Rattle.block_replay.specs.Faults.{of_files}
use Rattle.block_replay.specs.Pages.{image_at, image_put, older_put, page_there, redone_put}
use Rattle.block_replay.specs.World.{BlockWorld, with_name, without_gone}
use Rattle.block_replay.specs.declared.faults.RecordFault.{RecordFault}
use Rattle.cluster_tree.specs.Causes.{given}
use Rattle.cluster_tree.specs.Contents.{Contents}
use Rattle.cluster_tree.specs.PathValue.{PathValue}
use Rattle.file_effects.specs.Done.{files_after}
use Rattle.record_effects.specs.Acts.{act_on, is_map_page}
use Rattle.record_effects.specs.Managers.{rules_of}
use Rattle.record_effects.specs.declared.acts.Act.{Act}
use Rattle.record_effects.specs.declared.acts.Act.TheVariants as act
use Rattle.replay_control.specs.Following.{control_after}
use Rattle.replay_laws.specs.Held.{IsMainBlock, is_among}
use Rattle.replay_laws.specs.Log.{AreTaken, IsTaken}
use Rattle.replay_laws.proofs.LogLemmas.{first-taken}
use Rattle.replay_laws.proofs.NameLemmas.{AreOwn, IsOwn, name-is}
use Rattle.replay_laws.proofs.RecordLemmas.{one-world_of, taken-read}
use Rattle.replay_laws.proofs.SkippedLemmas.{among-with, among-without}
use Rattle.replay_laws.proofs.WorldLemmas.{given-ok, is-own, not-refused, one_world, with-files_ok}
use Rattle.replay_profile.specs.Names.{is_block}
use Rattle.replay_profile.specs.Profile.{parts_or_none}
use Rattle.replay_world.specs.Records.{others_after, record_after, records_after, short_refusal}
use Rattle.replay_world.specs.World.{World, blocks_of}
use Rattle.storage_replay.specs.Changes.{created}
use Rattle.storage_replay.specs.declared.found.Found.{Found}
use Rattle.storage_replay.specs.declared.found.Found.TheVariants as found
use Rattle.wal_records.specs.Reading.{LogRecord}

-- all names are of blocks of main forks
abbrev pub AreMain : List BlockName → Type 0
AreMain skipped = (name : BlockName) → is_among name skipped ≡ true → IsMainBlock name

or_cases : (a b : Bool) → (a || b) ≡ true → (a ≡ true) ⊎ (b ≡ true)
or_cases true b h = inl refl
or_cases false b h = inr h

first : (a b : Bool) → (a && b) ≡ true → a ≡ true
first true b h = refl
first false b h = absurd (true≢false (sym h))

main_with : (name : BlockName) (skipped : List BlockName) → IsMainBlock name → AreMain skipped → AreMain (with_name name skipped)
main_with name skipped main are other among = by (or_cases (is_among other skipped) (is_block other name) (sym (among-with other name skipped) ∙ among))
  where
    by : (is_among other skipped ≡ true) ⊎ (is_block other name ≡ true) → IsMainBlock other
    by (inl old) = are other old
    by (inr same) = subst IsMainBlock (sym (name-is other name same)) main

main_without : (rec : LogRecord) (parts : PartsView) (skipped : List BlockName) → AreMain skipped → AreMain (without_gone rec parts skipped)
main_without rec parts skipped are other among = are other (first (is_among other skipped) (not (is_gone rec parts other)) (sym (among-without rec parts other skipped) ∙ among))

-- ---- at a reference

main_chosen : (gone left image main acts fresh map : Bool)
    → (if gone then act.Gone else if left then act.Nothing else if image then act.Image else if main && acts then (if fresh then act.Make else act.Change) else if map then act.MapPage else act.Nothing) ≡ act.Change → main ≡ true
main_chosen true left image main acts fresh map e = absurd cc
main_chosen false true image main acts fresh map e = absurd cc
main_chosen false false true main acts fresh map e = absurd cc
main_chosen false false false true acts fresh map e = refl
main_chosen false false false false acts fresh true e = absurd cc
main_chosen false false false false acts fresh false e = absurd cc

main_fork : (fork : Fork) → is_main fork ≡ true → fork ≡ Main
main_fork Main h = refl
main_fork FreeSpace h = absurd (true≢false (sym h))
main_fork Visibility h = absurd (true≢false (sym h))
main_fork Init h = absurd (true≢false (sym h))

module _ (custom : Option Extension) (root : PathValue) (per : ℕ) (rec : LogRecord) (parts : PartsView) (block : BlockRef) (w : BlockWorld) (are : AreMain w.skipped) where
  files_main : (skipped : List BlockName) (r : Result Contents RecordFault) (v : BlockWorld) → AreMain skipped → with_files skipped r ≡ Ok v → AreMain v.skipped
  files_main skipped r v main made =
      let two = with-files_ok skipped r v made in
      subst (λ (u : BlockWorld). AreMain u.skipped) two.2 main

  found_main : (told : Found) (page : List ℕ) (v : BlockWorld) → IsMainBlock block.name → change_at custom root per rec parts block w told page ≡ Ok v → AreMain v.skipped
  found_main found.Absent page v main made = files_main (with_name block.name w.skipped) (of_files (created root block.name.rel block.name.fork w.files)) v (main_with block.name w.skipped main are) made
  found_main found.Zero page v main made = files_main (with_name block.name w.skipped) (of_files (created root block.name.rel block.name.fork w.files)) v (main_with block.name w.skipped main are) made
  found_main found.Page page v main made = files_main w.skipped (older_put root per rec block.name (redone custom rec parts block) page w.files) v are made

  act_main : (a : Act) (v : BlockWorld) → (a ≡ act.Change → IsMainBlock block.name) → by_act custom root per rec parts block w a ≡ Ok v → AreMain v.skipped
  act_main act.Nothing v main made = subst (λ (u : BlockWorld). AreMain u.skipped) (one_world w v made) are
  act_main act.Gone v main made = subst (λ (u : BlockWorld). AreMain u.skipped) (one_world w v made) are
  act_main act.Image v main made = files_main w.skipped (image_put root per rec block.name (image_at rec parts block.id) w.files) v are made
  act_main act.Make v main made = files_main w.skipped (redone_put root per rec block.name (redone custom rec parts block zeros) w.files) v are made
  act_main act.Change v main made =
      let read = given-ok (page_there root per block.name w.files) (λ reading. change_at custom root per rec parts block w reading.found reading.bytes) v made in
      found_main read.0.found read.0.bytes v (main refl) read.2
  act_main act.MapPage v main made = files_main w.skipped (map_changed root per rec parts block.name w.files) v are made

is_main_block : (custom : Option Extension) (rec : LogRecord) (parts : PartsView) (placed : Placed) (more : List Placed) → IsOwn placed more → act_on custom rec parts placed.block ≡ act.Change → IsMainBlock placed.block.name
is_main_block custom rec parts placed more own chosen =
    let name = placed.block.name in
    record {
      main = main_fork name.fork (main_chosen (is_gone rec parts name) (is_left name.fork) (is_some (applied placed.block.image)) (is_main name.fork) ((rules_of custom rec).acts rec parts placed.block.id) ((rules_of custom rec).fresh rec parts placed.block.id) (is_map_page rec placed.block) chosen);
      block = own.block;
      proper = own.proper;
    }

-- ---- in a record, and in a log

each_main : (custom : Option Extension) (root : PathValue) (per : ℕ) (rec : LogRecord) (parts : PartsView) (blocks : List Placed) (w v : BlockWorld) → AreOwn blocks → AreMain w.skipped → each_after custom root per rec parts blocks w ≡ Ok v → AreMain v.skipped
unfolding each_after block_after
each_main custom root per rec parts [] w v own are made = subst (λ (u : BlockWorld). AreMain u.skipped) (one_world w v made) are
each_main custom root per rec parts (placed ∷ more) w v own are made =
    let two = given-ok (block_after custom root per rec parts placed w) (each_after custom root per rec parts more) v made in
    each_main custom root per rec parts more two.0 v own.1 (act_main custom root per rec parts placed.block w are (act_on custom rec parts placed.block) two.0 (is_main_block custom rec parts placed more own.0) two.1) two.2

abbrev OkOf : World → Result World RecordFault
OkOf w = Ok w

record_main : (custom : Option Extension) (root : PathValue) (per : ℕ) (rec : LogRecord) (parts : PartsView) (w v : World) → IsTaken custom rec parts → AreMain w.skipped → record_after custom root per rec parts w ≡ Ok v → AreMain v.skipped
unfolding record_after
record_main custom root per rec parts w v is are made =
    let run = (not-refused (short_refusal rec parts) (given (blocks_after custom root per rec parts (blocks_of w)) (others_after root per rec parts w)) v made).1 in
    let two = given-ok (blocks_after custom root per rec parts (blocks_of w)) (others_after root per rec parts w) v run in
    let after : Contents → World = λ c. record { files = c; control = control_after rec parts w.control; skipped = without_gone rec parts two.0.skipped } in
    let last = given-ok (of_files (files_after root per rec parts two.0.files)) (λ c. OkOf (after c)) v two.2 in
    let same : after last.0 ≡ v = one-world_of (after last.0) v last.2 in
    subst (λ (u : World). AreMain u.skipped) same
    (main_without rec parts two.0.skipped (each_main custom root per rec parts parts.blocks (blocks_of w) two.0 (taken-read custom rec parts is).own are two.1))

pub log-main : (custom : Option Extension) (root : PathValue) (per start : ℕ) (records : List LogRecord) (w v : World) → AreTaken custom start records → AreMain w.skipped → records_after custom root per records w ≡ Ok v → AreMain v.skipped
unfolding records_after
log-main custom root per start [] w v taken are made = subst (λ (u : World). AreMain u.skipped) (one-world_of w v made) are
log-main custom root per start (rec ∷ records) w v taken are made =
    let first = first-taken custom start rec records taken in
    let two = given-ok (record_after custom root per rec (parts_or_none (record_parts rec)) w) (records_after custom root per records) v made in
    log-main custom root per rec.end records two.0 v first.1 (record_main custom root per rec (parts_or_none (record_parts rec)) w two.0 first.0 are two.1) two.2

-- where no block of a main fork is among them, there are none
pub none-skipped : (skipped : List BlockName) → AreMain skipped → ((name : BlockName) → IsMainBlock name → is_among name skipped ≡ false) → skipped ≡ []
none-skipped [] are none = refl
none-skipped (name ∷ more) are none = absurd (true≢false (sym (own_first name more) ∙ none name (are name (own_first name more))))
  where
    own_first : (name : BlockName) (more : List BlockName) → is_among name (name ∷ more) ≡ true
    own_first name more = ap (λ b. b || is_among name more) (is-own name)

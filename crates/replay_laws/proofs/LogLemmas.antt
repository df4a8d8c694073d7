-- A log: its records, one after another.
use Rattle.std.proofs.Common.{◌≡◌, ℕ, ◌<◌, Bool, true, false, cond, List, [], ◌∷◌, Option, None, Result, Ok, Err, refl, ap, subst, ◌∙◌, arith}
use Rattle.rmgr_hooks.specs.Custom.{Extension, IsSound}
use Rattle.block_refs.specs.Outcomes.{record_parts}
use Rattle.block_refs.specs.Parts.{PartsView}
use Rattle.block_refs.specs.declared.fault.PartsFault.{PartsFault}
use Rattle.block_refs.specs.declared.names.BlockName.{BlockName}
use Rattle.cluster_tree.specs.PathValue.{PathValue}
use Rattle.page_masks.specs.Law.{view}
use Rattle.replay_law.specs.Replay.{replay_block, replay_on}
use Rattle.replay_profile.specs.Profile.{first_of, first_outside, is_in_profile, judged, judged_by, outside, parts_or_none}
use Rattle.replay_profile.specs.declared.fault.ProfileFault.{ProfileFault}
use Rattle.replay_world.specs.Records.{record_after, records_after}
use Rattle.replay_world.specs.World.{World}
use Rattle.wal_records.specs.Reading.{LogRecord}
use Rattle.replay_laws.specs.Held.{IsMainBlock, held}
use Rattle.replay_laws.specs.Log.{AreTaken, IsTaken, steps}
use Rattle.replay_laws.specs.Whole.{AreWhole}
use Rattle.replay_laws.proofs.RecordLemmas.{one-world_of, record-steps, record-whole}
use Rattle.replay_laws.proofs.WorldLemmas.{OkHeld, given-ok}

abbrev pub parts_in : LogRecord → PartsView
parts_in rec = parts_or_none (record_parts rec)

abbrev Judged : Type 0
Judged = Result PartsView ProfileFault

abbrev OkParts : PartsView → Judged
OkParts parts = Ok parts

-- the first record of a log that replay takes, and those behind it

judged_parts : (custom : Option Extension) (rec : LogRecord) (r : Result PartsView PartsFault) (parts : PartsView) → judged_by custom rec r ≡ OkParts parts → judged_by custom rec r ≡ OkParts (parts_or_none r)
judged_parts custom rec (Err fault) parts e = absurd cc
judged_parts custom rec (Ok found) parts e = by (is_in_profile custom rec found) e
  where
    by : (b : Bool) → cond b (OkParts found) (Err (outside rec)) ≡ OkParts parts → cond b (OkParts found) (Err (outside rec)) ≡ OkParts found
    by true e = refl
    by false e = absurd cc

first_judged : (custom : Option Extension) (rec : LogRecord) (answer : Judged) (later : Option ProfileFault) → judged custom rec ≡ answer → first_of answer later ≡ None → (judged custom rec ≡ OkParts (parts_in rec)) × (later ≡ None)
first_judged custom rec (Ok parts) later is e = (judged_parts custom rec (record_parts rec) parts is, e)
first_judged custom rec (Err fault) later is e = absurd cc

pub first-taken : (custom : Option Extension) (start : ℕ) (rec : LogRecord) (records : List LogRecord) → AreTaken custom start (rec ∷ records) → IsTaken custom rec (parts_in rec) × AreTaken custom rec.end records
first-taken custom start rec records are =
    let two = first_judged custom rec (judged custom rec) (first_outside custom records) refl are.judged in
    let above = are.order.1 in
    (record { judged = two.0; bytes = are.bytes.0; ends = omega (arith, above) }, record { judged = two.1; bytes = are.bytes.1; order = are.order.2 })

module _ (custom : Option Extension) (sound : IsSound custom) (root : PathValue) (per : ℕ) (some : 0 < per) where
  pub log-whole : (start : ℕ) (records : List LogRecord) (w v : World) → AreTaken custom start records → AreWhole root per w.files → records_after custom root per records w ≡ Ok v → AreWhole root per v.files
  unfolding records_after
  log-whole start [] w v are whole made = subst (λ (u : World). AreWhole root per u.files) (one-world_of w v made) whole
  log-whole start (rec ∷ records) w v are whole made =
      let taken = first-taken custom start rec records are in
      let two = given-ok (record_after custom root per rec (parts_in rec) w) (records_after custom root per records) v made in
      log-whole rec.end records two.0 v taken.1 (record-whole custom sound root per rec (parts_in rec) w two.0 some taken.0 whole two.1) two.2

  pub log-runs : (start : ℕ) (records : List LogRecord) (name : BlockName) (w v : World) → AreTaken custom start records → IsMainBlock name → AreWhole root per w.files → records_after custom root per records w ≡ Ok v
      → replay_block (view name.block) (held root per w name) (steps custom name records) ≡ OkHeld (held root per v name)
  unfolding records_after
  log-runs start [] name w v are main whole made = ap (λ u. OkHeld (held root per u name)) (one-world_of w v made)
  log-runs start (rec ∷ records) name w v are main whole made =
      let taken = first-taken custom start rec records are in
      let two = given-ok (record_after custom root per rec (parts_in rec) w) (records_after custom root per records) v made in
      ap (λ r. replay_on (view name.block) r (steps custom name records)) (record-steps custom sound root per rec (parts_in rec) w two.0 some taken.0 whole two.1 name main)
      ∙ log-runs rec.end records name two.0 v taken.1 main (record-whole custom sound root per rec (parts_in rec) w two.0 some taken.0 whole two.1) two.2

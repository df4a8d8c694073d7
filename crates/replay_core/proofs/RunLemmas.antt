-- The second reading of a log, step by step.
use Rattle.std.proofs.Common.{Option, ◌≡◌, ◌⊎◌, ◌+◌, ℕ, Bool, true, false, cond, List, [], ◌∷◌, length, None, Result, Ok, Err, refl, sym, ap, ◌∙◌, arith, inl, inr}
use Rattle.block_refs.specs.Outcomes.{record_parts}
use Rattle.block_refs.specs.Parts.{PartsView}
use Rattle.cluster_tree.specs.Causes.{given}
use Rattle.cluster_tree.specs.PathValue.{PathValue}
use Rattle.cluster_tree.specs.declared.file_fault.FileFault.{FileFault}
use Rattle.block_replay.specs.Faults.{IsFreeFault}
use Rattle.block_replay.specs.declared.faults.RecordFault.{RecordFault}
use Rattle.block_replay.specs.declared.faults.RecordFault.TheVariants.{RedoFailed, File}
use Rattle.file_edits.specs.Answers.{IsFree as IsFreeFile}
use Rattle.replay_profile.specs.Profile.{first_of, first_outside, is_in_profile, judged, judged_by, outside, parts_or_none}
use Rattle.replay_profile.specs.declared.fault.ProfileFault.{ProfileFault}
use Rattle.wal_records.specs.Log.{end_after}
use Rattle.wal_records.specs.Reading.{LogRecord}
use Rattle.replay_world.specs.Records.{record_after, records_after}
use Rattle.replay_world.specs.World.{World}
use Rattle.replay_core.specs.Faults.{IsFree, of_file, of_record, recorded}
use Rattle.replay_core.specs.Steps.{AreReplayed, BreaksOff, Replays}
use Rattle.replay_core.specs.declared.running.Count.{Count}
use Rattle.rmgr_hooks.specs.Custom.{Extension}

-- A record that is taken has these parts, and the rest is taken.

taken_by : (rec : LogRecord) (parts p : PartsView) (b : Bool) → cond b (Ok p) (Err (outside rec)) ≡ Ok parts → p ≡ parts
taken_by rec parts p true e = cc
taken_by rec parts p false e = absurd cc

pub parts_taken : (custom : Option Extension) (rec : LogRecord) (parts : PartsView) → judged custom rec ≡ Ok parts → parts_or_none (record_parts rec) ≡ parts
parts_taken custom rec parts e =
    elim (record_parts rec) as (λ r. judged_by custom rec r ≡ Ok parts → parts_or_none r ≡ parts)
    [ Ok p ↦ λ is. taken_by rec parts p (is_in_profile custom rec p) is | Err f ↦ λ is. absurd cc ] e

rest_taken : (custom : Option Extension) (rec : LogRecord) (rest : List LogRecord) → first_outside custom (rec ∷ rest) ≡ None → first_outside custom rest ≡ None
rest_taken custom rec rest e = by (judged custom rec) e
  where
    by : (j : Result PartsView ProfileFault) → first_of j (first_outside custom rest) ≡ None → first_outside custom rest ≡ None
    by (Ok parts) h = h
    by (Err f) h = absurd cc

-- What a record leaves of the rest.

goes_on : (custom : Option Extension) (root : PathValue) (per_file : ℕ) (rec : LogRecord) (rest : List LogRecord) (w : World)
    → records_after custom root per_file (rec ∷ rest) w ≡ given (record_after custom root per_file rec (parts_or_none (record_parts rec)) w) (records_after custom root per_file rest)
unfolding records_after
goes_on custom root per_file rec rest w = refl

nothing_left : (custom : Option Extension) (root : PathValue) (per_file : ℕ) (w : World) → records_after custom root per_file [] w ≡ Ok w
unfolding records_after
nothing_left custom root per_file w = refl

module _ (custom : Option Extension) (root : PathValue) (per_file : ℕ) (rec : LogRecord) (parts : PartsView) (old rest : List LogRecord) (w : World) where
  meant_of : old ≡ rec ∷ rest → judged custom rec ≡ Ok parts → records_after custom root per_file old w ≡ given (record_after custom root per_file rec parts w) (records_after custom root per_file rest)
  meant_of is taken =
      ap (λ rs. records_after custom root per_file rs w) is ∙ goes_on custom root per_file rec rest w
      ∙ ap (λ p. given (record_after custom root per_file rec p w) (records_after custom root per_file rest)) (parts_taken custom rec parts taken)

  pub one_more : (v : World) (before after : Count) → old ≡ rec ∷ rest → first_outside custom old ≡ None → judged custom rec ≡ Ok parts → record_after custom root per_file rec parts w ≡ Ok v
      → after ≡ record { records = before.records + 1; end = record { 0 = rec.end } } → Replays custom root per_file old rest w v before after
  one_more v before after is all taken left count = record {
    leaves = meant_of is taken ∙ ap (λ r. given r (records_after custom root per_file rest)) left;
    taken = rest_taken custom rec rest (ap (first_outside custom) (sym is) ∙ all);
    records = omega (arith, ap length is, ap (λ (c : Count). c.records) count);
    end = ap (end_after before.end.0) is ∙ ap (λ (c : Count). end_after c.end.0 rest) (sym count);
  }

-- no record is left
pub none_left : (custom : Option Extension) (root : PathValue) (per_file : ℕ) (old : List LogRecord) (w : World) (count : Count) → old ≡ [] → AreReplayed custom root per_file old w w count count
none_left custom root per_file old w count is = record {
  leaves = ap (λ rs. records_after custom root per_file rs w) is ∙ nothing_left custom root per_file w;
  records = omega (arith, ap length is);
  end = ap (end_after count.end.0) is;
}

free_file : (f : FileFault) → IsFreeFile f → IsFree (of_file f)
free_file f (inl e) = inl (ap of_file e)
free_file f (inr (inl e)) = inr (inl (ap of_file e))
free_file f (inr (inr (inl e))) = inr (inr (inl (ap of_file e)))
free_file f (inr (inr (inr e))) = absurd e

free_record : (f : RecordFault) → IsFreeFault f → IsFree (of_record f)
free_record (RedoFailed start name why) e = absurd e
free_record (File f) e = free_file f e

module _ (custom : Option Extension) (root : PathValue) (per_file : ℕ) (rec : LogRecord) (parts : PartsView) (old rest : List LogRecord) (w : World) where
  pub one_refused : (f : RecordFault) → old ≡ rec ∷ rest → judged custom rec ≡ Ok parts → IsFreeFault f ⊎ (record_after custom root per_file rec parts w ≡ Err f) → BreaksOff custom root per_file old w (of_record f)
  one_refused f is taken (inl free) = inl (free_record f free)
  one_refused f is taken (inr refused) = inr (ap recorded (meant_of custom root per_file rec parts old rest w is taken ∙ ap (λ r. given r (records_after custom root per_file rest)) refused))

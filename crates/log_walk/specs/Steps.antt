-- What the steps of the walks give.
use Rattle.std.specs.Prelude.{◌≡◌, ◌⊎◌, ◌+◌, ◌<◌, ◌≤◌, ◌^◌, ◌++◌, ℕ, List, Option, None, Some, IsSomeAnd, Result, Ok, Err, nat_lt, if◌then◌else◌}
use Rattle.wal_records.specs.declared.why.Why.{Why}
use Rattle.wal_records.specs.Cursor.{CursorView}
use Rattle.wal_records.specs.Log.{Log}
use Rattle.wal_records.specs.Reading.{LogRecord}
use Rattle.touched_blocks.specs.Set.{Adds, TouchedView}
use Rattle.touched_blocks.specs.declared.named.Named.{Named}
use Rattle.log_walk.specs.declared.back.Back.{Back}
use Rattle.log_walk.specs.declared.back.Back.TheVariants.{Found, Goes}
use Rattle.log_walk.specs.declared.fault.LogWalkFault.{LogWalkFault}
use Rattle.log_walk.specs.declared.fault.LogWalkFault.TheVariants as fault
use Rattle.log_walk.specs.declared.touch.Turn.{Turn}
use Rattle.log_walk.specs.declared.touch.Turn.TheVariants.{More, Done}
use Rattle.log_walk.specs.Back.{Answer}
use Rattle.log_walk.specs.Faults.{IsFree}
use Rattle.log_walk.specs.First.{at_lsn}
use Rattle.log_walk.specs.Needed.{named_by, needed, read_refusal}

-- the first record was read, or there is none, or a fault that is free
abbrev pub ReadsFirst : Result LogRecord LogWalkFault → Option LogRecord → Result (Unit {0}) LogWalkFault → Type 0
ReadsFirst first current (Ok done) = IsSomeAnd current (λ r. first ≡ Ok r)
ReadsFirst first current (Err e) = IsFree e ⊎ (first ≡ Err e)

-- the answer behind a step back
abbrev pub behind : (ℕ → Answer) → Back → Answer
behind go (Found found) = Ok found
behind go (Goes link) = go link.0

-- a step gives what is meant, wherever the walk then goes, or a fault that is free
abbrev pub StepsBack : ((ℕ → Answer) → Answer) → Result Back LogWalkFault → Type 0
StepsBack meant (Ok back) = (go : ℕ → Answer) → meant go ≡ behind go back
StepsBack meant (Err e) = IsFree e ⊎ ((go : ℕ → Answer) → meant go ≡ Err e)

-- whatever the tree holds: a checkpoint that is found starts below the fork's place
abbrev pub IsFoundBelow : ℕ → Back → Type 0
IsFoundBelow below (Found found) = found.start.0 < below
IsFoundBelow below (Goes link) = Unit {0}

-- and the walk goes on at the record's link
abbrev pub LinksFrom : LogRecord → ℕ → Back → Type 0
LinksFrom r below (Found found) = found.start.0 < below
LinksFrom r below (Goes link) = link ≡ r.header.prev

-- which lies below the place where it was read by itself
abbrev pub IsLower : ℕ → ℕ → Back → Type 0
IsLower place below (Found found) = found.start.0 < below
IsLower place below (Goes link) = link.0 < place

-- what is refused of a log is what is refused of the rest, and what the first records name was added
pub record Touches (end : ℕ) (old new : Log) (before after : TouchedView) : Type 0 where
  pub refusal : read_refusal end old ≡ read_refusal end new
  pub names : List Named
  pub joins : named_by (needed end old) ≡ names ++ named_by (needed end new)
  pub adds : Adds names before after

-- nothing is refused of a log, and what it names was added
pub record IsTouched (end : ℕ) (log : Log) (before after : TouchedView) : Type 0 where
  pub refusal : read_refusal end log ≡ None
  pub adds : Adds (named_by (needed end log)) before after

-- the same of a reading to the end, or what refuses the log
abbrev pub IsTouchedOr : ℕ → Log → TouchedView → TouchedView → Result (Unit {0}) LogWalkFault → Type 0
IsTouchedOr end log before after (Ok done) = IsTouched end log before after
IsTouchedOr end log before after (Err e) = IsFree e ⊎ (read_refusal end log ≡ Some e)

-- a step over a log gave one of these, or what refuses it
abbrev pub TouchesNext : ℕ → Log → Log → TouchedView → TouchedView → Result Turn LogWalkFault → Type 0
TouchesNext end old new before after (Ok More) = Touches end old new before after
TouchesNext end old new before after (Ok Done) = IsTouched end old before after
TouchesNext end old new before after (Err e) = IsFree e ⊎ (read_refusal end old ≡ Some e)

-- at the end of the log nothing more is needed where that lies at the end that is read to or past it
abbrev pub at_end : ℕ → ℕ → Why → Result Turn LogWalkFault
at_end end place why = if nat_lt place end then Err (fault.LogEnds (at_lsn place) why) else Ok Done

-- nor behind a record that ends there
abbrev pub turn_behind : ℕ → LogRecord → Turn
turn_behind end r = if nat_lt r.end end then More else Done

-- behind a record that is added the cursor stands further on, and hasn't ended
pub record IsFurther (old new : CursorView) : Type 0 where
  pub opened : new.ended ≡ None
  pub up : old.place + 24 ≤ new.place
  pub within : new.place < 2 ^ 64

abbrev pub MovesOn : CursorView → CursorView → Turn → Type 0
MovesOn old new More = IsFurther old new
MovesOn old new Done = Unit {0}

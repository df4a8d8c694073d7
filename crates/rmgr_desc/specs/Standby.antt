-- Texts of the managers Standby and Sequence: PostgreSQL 16, src/backend/access/rmgrdesc/standbydesc.c and seqdesc.c.
-- Own: "Names and texts of operations".
use Rattle.std.specs.Prelude.{ℕ, List, [], ◌++◌, codes, decimal}
use Rattle.record_layouts.specs.Sequence.{sequence_log_of}
use Rattle.record_layouts.specs.Standby.{running_xacts_of}
use Rattle.record_layouts.specs.declared.sequence.SequenceLog.{SequenceLog}
use Rattle.record_layouts.specs.declared.sequence.SequenceOp.{SequenceOp}
use Rattle.record_layouts.specs.declared.sequence.SequenceOp.TheVariants as sequence
use Rattle.record_layouts.specs.declared.standby.RunningXacts.{RunningXacts}
use Rattle.record_layouts.specs.declared.standby.StandbyOp.{StandbyOp}
use Rattle.record_layouts.specs.declared.standby.StandbyOp.TheVariants as op
use Rattle.block_refs.specs.Names.{rel_text}
use Rattle.rmgr_desc.specs.Pieces.{or_short}

-- RUNNING_XACTS
abbrev pub running_text : RunningXacts → List ℕ
running_text running =
    codes "nextXid " ++ (decimal running.next_xid ++ (codes "; latestCompletedXid " ++ (decimal running.latest_xid
    ++ (codes "; oldestRunningXid " ++ decimal running.oldest_xid))))

-- the text of an operation of Standby with these main bytes
abbrev pub standby_text : StandbyOp → List ℕ → List ℕ
standby_text op.Lock main = []
standby_text op.RunningXacts main = or_short running_text (running_xacts_of main)
standby_text op.Invalidations main = []
standby_text (op.Unlisted number) main = []

-- LOG
abbrev pub sequence_log_text : SequenceLog → List ℕ
sequence_log_text log = codes "rel " ++ rel_text log.rel

-- the text of an operation of Sequence with these main bytes
abbrev pub sequence_text : SequenceOp → List ℕ → List ℕ
sequence_text sequence.Log main = or_short sequence_log_text (sequence_log_of main)
sequence_text (sequence.Unlisted number) main = []

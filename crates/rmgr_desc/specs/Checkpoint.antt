-- The text of a checkpoint: PostgreSQL 16, src/backend/access/rmgrdesc/xlogdesc.c, xlog_desc. Own: "Names and texts of operations".
use Rattle.std.specs.Prelude.{ℕ, ◌/◌, ◌%◌, ◌^◌, List, ◌++◌, codes, decimal}
use Rattle.wal_base.specs.Lsn.{lsn_text}
use Rattle.control_file.specs.declared.checkpoint.Checkpoint.{Checkpoint}
use Rattle.rmgr_desc.specs.Pieces.{switch_text}

-- where a replay starts, and on which timeline
abbrev pub redo_text : Checkpoint → List ℕ
redo_text cp =
    codes "redo " ++ (lsn_text cp.redo ++ (codes "; tli " ++ (decimal cp.tli ++ (codes "; prev tli " ++ (decimal cp.prevTli
    ++ (codes "; fpw " ++ switch_text cp.fpw))))))

-- what is given out next
abbrev pub next_text : Checkpoint → List ℕ
next_text cp =
    codes "xid " ++ (decimal (cp.nextXid / 2 ^ 32) ++ (codes ":" ++ (decimal (cp.nextXid % 2 ^ 32) ++ (codes "; oid "
    ++ (decimal cp.nextOid ++ (codes "; multi " ++ (decimal cp.nextMulti ++ (codes "; offset " ++ decimal cp.nextMultiOffset))))))))

-- the oldest that may stand in the cluster
abbrev pub oldest_text : Checkpoint → List ℕ
oldest_text cp =
    codes "oldest xid " ++ (decimal cp.oldestXid ++ (codes " in DB " ++ (decimal cp.oldestXidDb ++ (codes "; oldest multi "
    ++ (decimal cp.oldestMulti ++ (codes " in DB " ++ decimal cp.oldestMultiDb))))))

-- those with a commit time, and the oldest that is running
abbrev pub commit_text : Checkpoint → List ℕ
commit_text cp =
    codes "oldest/newest commit timestamp xid: " ++ (decimal cp.oldestCommitTs ++ (codes "/" ++ (decimal cp.newestCommitTs
    ++ (codes "; oldest running xid " ++ decimal cp.oldestActiveXid))))

-- all of it, and the word of how the checkpoint was made
abbrev pub checkpoint_text : List ℕ → Checkpoint → List ℕ
checkpoint_text word cp =
    redo_text cp ++ (codes "; " ++ (next_text cp ++ (codes "; " ++ (oldest_text cp ++ (codes "; " ++ (commit_text cp
    ++ (codes "; " ++ word)))))))

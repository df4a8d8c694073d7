-- What follows from the definition of the walk back, for all that cites it.
use Rattle.std.specs.Prelude.{◌≡◌, ◌↔◌, ℕ, Ok, Err}
use Rattle.wal_base.specs.Segment.{bytes_of}
use Rattle.wal_base.specs.declared.lsn.Lsn.{Lsn}
use Rattle.wal_pages.specs.declared.log_path.LogPath.{LogPath}
use Rattle.wal_pages.specs.Folder.{Folder}
use Rattle.wal_pages.specs.Page.{page_at}
use Rattle.wal_records.specs.Reading.{lone}
use Rattle.log_walk.specs.declared.checkpoint.CommonCheckpoint.{CommonCheckpoint}
use Rattle.log_walk.specs.declared.fault.LogWalkFault.TheVariants as fault
use Rattle.log_walk.specs.Back.{common_checkpoint, walk_from, walk_step}
use Rattle.log_walk.specs.Chain.{HasNoCheckpoint, IsCommonCheckpoint}

-- the walk back from a place is what the place has by itself, and the walk from its link
abbrev pub WalkGoesOn : Type 0
WalkGoesOn = (log : LogPath) (files : Folder) (below place : ℕ) →
    walk_from (page_at log files) (bytes_of log.size) below place
    ≡ walk_step (walk_from (page_at log files) (bytes_of log.size) below) below place (lone (page_at log files) (bytes_of log.size) place)

-- a checkpoint is found exactly where it is the last common one
abbrev pub CheckpointIsCommon : Type 0
CheckpointIsCommon = (log : LogPath) (files : Folder) (fork : ℕ) (found : CommonCheckpoint) →
    (common_checkpoint (page_at log files) (bytes_of log.size) fork ≡ Ok found)
    ↔ IsCommonCheckpoint (page_at log files) (bytes_of log.size) fork found

-- and none exactly where the walk back comes to a record that links to none before it
abbrev pub NoneIsCommon : Type 0
NoneIsCommon = (log : LogPath) (files : Folder) (fork : ℕ) (at : Lsn) →
    (common_checkpoint (page_at log files) (bytes_of log.size) fork ≡ Err (fault.NoCommonCheckpoint at))
    ↔ HasNoCheckpoint (page_at log files) (bytes_of log.size) fork at

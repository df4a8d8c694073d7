use Rattle.wal_base.specs.Segment.{bytes_of}
use Rattle.wal_pages.specs.Folder.{folder_of}
use Rattle.wal_pages.proofs.FilesLemmas.{same_held}
use Rattle.wal_records.proofs.FilesLemmas.{log_same}
use Rattle.wal_records.proofs.laws.log_is_of_files.Goals as goal

pub returns-clause-log : goal.returns-clause-log
returns-clause-log c = λ log old new same before place. log_same log old new same (bytes_of log.size) before place

pub returns-clause-to_come : goal.returns-clause-to_come
returns-clause-to_come c = λ cursor old new same. log_same cursor.log old new same (bytes_of cursor.log.size) cursor.before cursor.place

pub returns-clause-known : goal.returns-clause-known
returns-clause-known c = λ cursor old new same known.
    same_held cursor.held cursor.page cursor.log (folder_of old cursor.log.folder) (folder_of new cursor.log.folder) same known

use Rattle.wal_pages.specs.Folder.{folder_of}
use Rattle.wal_pages.proofs.FilesLemmas.{same_pages, same_held}
use Rattle.wal_pages.proofs.laws.pages_are_of_files.Goals as goal

pub returns-clause-pages : goal.returns-clause-pages
returns-clause-pages c = λ log files others same at. same_pages log files others same at

pub returns-clause-known : goal.returns-clause-known
returns-clause-known c = λ cursor old new same known. same_held cursor.held cursor.page cursor.log (folder_of old cursor.log.folder) (folder_of new cursor.log.folder) same known

use Rattle.storage_laws.proofs.NameLemmas.{created-file, dropped-file, dropped-length, one-block, one-path}
use Rattle.storage_laws.proofs.files.file_laws.Goals as goal

pub returns-clause-one_file : goal.returns-clause-one_file
returns-clause-one_file c = one-path

pub returns-clause-one_block : goal.returns-clause-one_block
returns-clause-one_block c = one-block

pub returns-clause-created : goal.returns-clause-created
returns-clause-created c = created-file

pub returns-clause-dropped : goal.returns-clause-dropped
returns-clause-dropped c = dropped-file

pub returns-clause-length : goal.returns-clause-length
returns-clause-length c = dropped-length

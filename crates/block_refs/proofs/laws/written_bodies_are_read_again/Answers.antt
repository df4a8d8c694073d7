use Rattle.block_refs.proofs.WrittenLemmas.{bytes_again, images_again, main_again, references_again, written_read}
use Rattle.block_refs.proofs.laws.written_bodies_are_read_again.Goals as goal

pub returns-clause-read : goal.returns-clause-read
returns-clause-read c = written_read

pub returns-clause-references : goal.returns-clause-references
returns-clause-references c = λ blocks main. references_again 0 blocks

pub returns-clause-images : goal.returns-clause-images
returns-clause-images c = images_again

pub returns-clause-bytes : goal.returns-clause-bytes
returns-clause-bytes c = bytes_again

pub returns-clause-rest : goal.returns-clause-rest
returns-clause-rest c = main_again

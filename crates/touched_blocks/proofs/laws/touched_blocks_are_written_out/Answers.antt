use Rattle.touched_blocks.proofs.ViewLemmas.{block_view, records_view}
use Rattle.touched_blocks.proofs.laws.touched_blocks_are_written_out.Goals as goal

pub returns-clause-one : goal.returns-clause-one
returns-clause-one c = block_view

pub returns-clause-all : goal.returns-clause-all
returns-clause-all c = records_view

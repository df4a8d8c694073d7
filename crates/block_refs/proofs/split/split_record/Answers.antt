use Rattle.block_refs.proofs.OutcomeLemmas.{parts_told, read_told, bad_told, compressed_told}
use Rattle.block_refs.proofs.split.split_record.Goals as goal

pub returns-clause-parts : goal.returns-clause-parts
returns-clause-parts c = parts_told c.args.rec.now c.split.result c.split.ensures

pub returns-clause-read : goal.returns-clause-read
returns-clause-read c = read_told c.args.rec.now c.split.result c.split.ensures

pub returns-clause-bad_parts : goal.returns-clause-bad_parts
returns-clause-bad_parts c = bad_told c.args.rec.now c.split.result c.split.ensures

pub returns-clause-compressed : goal.returns-clause-compressed
returns-clause-compressed c = compressed_told c.args.rec.now c.split.result c.split.ensures

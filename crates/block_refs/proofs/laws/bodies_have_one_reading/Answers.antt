use Rattle.block_refs.proofs.PartsLemmas.{has_parts, parts_are, first_flaw, flaw_is, one_reading, one_flaw, parts_or_flaw}
use Rattle.block_refs.proofs.laws.bodies_have_one_reading.Goals as goal

pub returns-clause-read : goal.returns-clause-read
returns-clause-read c = λ body parts. (has_parts body parts, parts_are body parts)

pub returns-clause-flawed : goal.returns-clause-flawed
returns-clause-flawed c = λ body flaw. (first_flaw body flaw, flaw_is body flaw)

pub returns-clause-one : goal.returns-clause-one
returns-clause-one c = one_reading

pub returns-clause-first : goal.returns-clause-first
returns-clause-first c = one_flaw

pub returns-clause-either : goal.returns-clause-either
returns-clause-either c = parts_or_flaw

use Rattle.std.proofs.Common.{ℕ, List, ◌∙◌, ◌++◌, drop, length-take-le, ap}
use Rattle.control_file.specs.Writing.{control_bytes, sealed}
use Rattle.control_file.proofs.WritingLemmas.{control_again}
use Rattle.control_file.proofs.writing.write_control.Goals as goal

pub lay-requires : goal.lay-requires
lay-requires c = length-take-le 8192 c.args.into.now c.requires.room

pub seal-requires : goal.seal-requires
seal-requires c = c.lay.auto.file ∙ length-take-le 8192 c.args.into.now c.requires.room

pub returns-clause-bytes : goal.returns-clause-bytes
unfolding control_bytes
returns-clause-bytes c = ap (λ (x : List ℕ). x ++ drop 8192 c.args.into.now) (c.seal.ensures ∙ ap sealed c.lay.ensures.bytes)

pub returns-clause-again : goal.returns-clause-again
returns-clause-again c = control_again c.args.control.now c.lay.ensures.fits c.requires.control

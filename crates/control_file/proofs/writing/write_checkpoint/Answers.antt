use Rattle.std.proofs.Common.{ℕ, List, ◌++◌, drop, length-take-le, ap}
use Rattle.control_file.specs.Writing.{checkpoint_bytes}
use Rattle.control_file.proofs.TableLemmas.{ascends_checkpoint}
use Rattle.control_file.proofs.WritingLemmas.{copy_again}
use Rattle.control_file.proofs.writing.write_checkpoint.Goals as goal

pub write_rows-requires-clause-order : goal.write_rows-requires-clause-order
write_rows-requires-clause-order c = rw (c.checkpoint_rows.ensures.value, length-take-le 88 c.args.into.now c.requires.room) (ascends_checkpoint c.args.cp.now)

pub returns-clause-bytes : goal.returns-clause-bytes
unfolding checkpoint_bytes
returns-clause-bytes c = let size = length-take-le 88 c.args.into.now c.requires.room in ap (λ (x : List ℕ). x ++ drop 88 c.args.into.now) cc

pub returns-clause-again : goal.returns-clause-again
returns-clause-again c = copy_again c.args.cp.now (rw c.checkpoint_rows.ensures.value at c.checkpoint_rows.ensures.fits)

use Rattle.std.proofs.Common.{◌≡◌, fold, take}
use Rattle.memory_tree.specs.Fakes.{contents_in}
use Rattle.memory_tree.specs.Image.{filled_by}
use Rattle.memory_tree.proofs.filling.fill_all.Given as goal

abbrev pub invariant-loop-call : goal.invariant-loop-call
invariant-loop-call l = contents_in l.tree ≡ fold filled_by (contents_in l.initial.tree) (take l.call-index l.calls)

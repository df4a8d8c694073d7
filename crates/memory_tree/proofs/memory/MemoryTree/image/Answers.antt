use Rattle.std.proofs.Common.{arith}
use Rattle.std.proofs.lemmas.Grind.{common_steps}
use Rattle.memory_tree.specs.Fakes.{contents_in, stops_in}
use Rattle.memory_tree.proofs.ImageLemmas.{image-left}
use Rattle.memory_tree.proofs.memory.MemoryTree.image.Goals as goal

pub returns-clause-left : goal.returns-clause-left
returns-clause-left c = image-left contents_in c.args.choice (stops_in c.args.self.now) (contents_in c.args.self.now) c.of.result c.args.self.now.sound.left (grind (arith, common_steps))

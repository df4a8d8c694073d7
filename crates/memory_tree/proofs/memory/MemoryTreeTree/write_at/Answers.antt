use Rattle.std.proofs.Common.{length, arith, refl}
use Rattle.cluster_tree.specs.Run.{Happens, Occurs}
use Rattle.cluster_tree.proofs.RunLemmas.{calls_made, made_of, pends_by}
use Rattle.cluster_tree.specs.declared.tree.ChangeCall.TheVariants as call
use Rattle.memory_tree.proofs.SoundLemmas.{sound-made}
use Rattle.memory_tree.proofs.memory.MemoryTreeTree.write_at.Goals as goal

pub invariant_of-self : goal.invariant_of-self
invariant_of-self c = record { sound = sound-made (call.Write c.args.path.now c.args.at (length c.args.bytes.now)) c.write_in-done.result _ _ _ _ c.args.self.now.sound c.write_in-done.ensures.step c.write_in-done.ensures.kept c.write_in-done.ensures.pending c.write_in-done.ensures.unpending }

pub returns-clause-pending : goal.returns-clause-pending
returns-clause-pending c told = pends_by _ _ (call.Write c.args.path.now c.args.at (length c.args.bytes.now)) _ _ c.write_in-done.result c.counted.result c.counted.ensures.done c.counted.ensures.undone c.write_in-done.ensures.step c.write_in-done.ensures.kept c.write_in-done.ensures.listed c.write_in-done.ensures.unlisted c.write_in-done.ensures.pending c.write_in-done.ensures.unpending

pub returns-clause-made : goal.returns-clause-made
returns-clause-made c told = made_of (call.Write c.args.path.now c.args.at (length c.args.bytes.now)) _ _ c.counted.result (returns-clause-pending c told)

pub returns-clause-frame : goal.returns-clause-frame
returns-clause-frame c = record {
  run = λ first r. calls_made Happens first _ _ (call.Write c.args.path.now c.args.at (length c.args.bytes.now)) c.counted.result r (returns-clause-made c refl);
  course = λ first r. calls_made Occurs first _ _ (call.Write c.args.path.now c.args.at (length c.args.bytes.now)) c.counted.result r (returns-clause-pending c refl);
  reads = omega arith;
  changes = omega arith;
}

use Rattle.std.proofs.Common.{arith, refl}
use Rattle.memory_tree.specs.Memory.{contents_of}
use Rattle.cluster_tree.specs.Run.{Happens, Occurs}
use Rattle.cluster_tree.proofs.RunLemmas.{calls_made, made_of, pends_by, kept_by}
use Rattle.cluster_tree.specs.declared.tree.ChangeCall.TheVariants as call
use Rattle.memory_tree.proofs.SoundLemmas.{sound-made}
use Rattle.memory_tree.proofs.memory.MemoryTreeTree.make_file.Goals as goal

pub invariant_of-self : goal.invariant_of-self
invariant_of-self c = record { sound = sound-made (call.MakeFile c.args.path.now) c.put_file-done.result _ _ _ _ c.args.self.now.sound c.put_file-done.ensures.step (kept_by contents_of _ _ c.put_file-done.result c.put_file-done.ensures.kept) c.put_file-done.ensures.pending c.put_file-done.ensures.unpending }

pub returns-clause-pending : goal.returns-clause-pending
returns-clause-pending c told = pends_by _ _ (call.MakeFile c.args.path.now) _ _ c.put_file-done.result c.counted.result c.counted.ensures.done c.counted.ensures.undone c.put_file-done.ensures.step (kept_by contents_of _ _ c.put_file-done.result c.put_file-done.ensures.kept) c.put_file-done.ensures.listed c.put_file-done.ensures.unlisted c.put_file-done.ensures.pending c.put_file-done.ensures.unpending

pub returns-clause-made : goal.returns-clause-made
returns-clause-made c told = made_of (call.MakeFile c.args.path.now) _ _ c.counted.result (returns-clause-pending c told)

pub returns-clause-frame : goal.returns-clause-frame
returns-clause-frame c = record {
  run = λ first r. calls_made Happens first _ _ (call.MakeFile c.args.path.now) c.counted.result r (returns-clause-made c refl);
  course = λ first r. calls_made Occurs first _ _ (call.MakeFile c.args.path.now) c.counted.result r (returns-clause-pending c refl);
  reads = omega arith;
  changes = omega arith;
}

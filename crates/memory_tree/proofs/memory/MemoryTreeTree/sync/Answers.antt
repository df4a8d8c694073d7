use Rattle.std.proofs.Common.{arith, refl}
use Rattle.std.proofs.lemmas.Grind.{common_steps}
use Rattle.memory_tree.specs.Memory.{contents_of}
use Rattle.cluster_tree.specs.Run.{Happens, Occurs}
use Rattle.cluster_tree.proofs.RunLemmas.{calls_made, made_of, pends_by, kept_by}
use Rattle.cluster_tree.specs.declared.tree.ChangeCall.TheVariants as call
use Rattle.memory_tree.proofs.SoundLemmas.{sound-made}
use Rattle.memory_tree.proofs.memory.MemoryTreeTree.sync.Goals as goal

pub invariant_of-self : goal.invariant_of-self
invariant_of-self c =
    let synced = rw c.deref.ensures.value at c.sync-done.ensures.synced in
    record { sound = sound-made call.Sync c.sync-done.result _ _ _ _ c.args.self.now.sound refl (kept_by contents_of _ _ c.sync-done.result (grind (arith, common_steps))) synced c.sync-done.ensures.kept }

pub returns-clause-pending : goal.returns-clause-pending
returns-clause-pending c told =
    let synced = rw c.deref.ensures.value at c.sync-done.ensures.synced in
    pends_by _ _ call.Sync _ _ c.sync-done.result c.counted.result c.counted.ensures.done c.counted.ensures.undone refl (kept_by contents_of _ _ c.sync-done.result (grind (arith, common_steps))) c.sync-done.ensures.listed c.sync-done.ensures.unlisted synced c.sync-done.ensures.kept

pub returns-clause-made : goal.returns-clause-made
returns-clause-made c told = made_of call.Sync _ _ c.counted.result (returns-clause-pending c told)

pub returns-clause-frame : goal.returns-clause-frame
returns-clause-frame c = record {
  run = λ first r. calls_made Happens first _ _ call.Sync c.counted.result r (returns-clause-made c refl);
  course = λ first r. calls_made Occurs first _ _ call.Sync c.counted.result r (returns-clause-pending c refl);
  reads = omega arith;
  changes = omega arith;
}

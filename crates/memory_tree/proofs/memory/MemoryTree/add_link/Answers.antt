use Rattle.memory_tree.specs.Memory.{contents_of}
use Rattle.cluster_tree.proofs.RunLemmas.{kept_by}
use Rattle.cluster_tree.proofs.TreeLemmas.{made-tree}
use Rattle.memory_tree.proofs.SoundLemmas.{sound-put}
use Rattle.memory_tree.proofs.memory.MemoryTree.add_link.Goals as goal

pub invariant_of-self : goal.invariant_of-self
invariant_of-self c =
    let room = rw c.deref.ensures.value at c.in_ok-check_room.ensures.room in
    let done = c.set_synced-done in
    let sound = c.args.self.now.sound in
    record { sound = sound-put done.result _ _ _ _ _ sound (made-tree _ _ _ sound.rooted room) done.ensures.set (kept_by contents_of _ _ done.result done.ensures.kept) done.ensures.synced done.ensures.unsynced }

use Rattle.memory_tree.specs.Memory.{contents_of}
use Rattle.cluster_tree.proofs.RunLemmas.{kept_by}
use Rattle.memory_tree.proofs.RootedLemmas.{bad_name-tree}
use Rattle.memory_tree.proofs.SoundLemmas.{sound-put}
use Rattle.memory_tree.proofs.memory.MemoryTree.add_bad_name.Goals as goal

pub invariant_of-self : goal.invariant_of-self
invariant_of-self c =
    let folder = rw c.deref.ensures.value at c.in_ok-check_folder.ensures.folder in
    let done = c.set_synced-done in
    let sound = c.args.self.now.sound in
    record { sound = sound-put done.result _ _ _ _ _ sound (bad_name-tree _ _ sound.rooted folder) done.ensures.set (kept_by contents_of _ _ done.result done.ensures.kept) done.ensures.synced done.ensures.unsynced }

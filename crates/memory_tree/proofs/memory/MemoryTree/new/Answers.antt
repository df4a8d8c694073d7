use Rattle.std.proofs.Common.{sym, ap, ◌∙◌}
use Rattle.memory_tree.specs.Memory.{contents_of}
use Rattle.cluster_tree.specs.Stops.{Stops}
use Rattle.memory_tree.proofs.RootedLemmas.{empty-tree}
use Rattle.memory_tree.proofs.SoundLemmas.{sound-synced}
use Rattle.memory_tree.proofs.memory.MemoryTree.new.Goals as goal

pub invariant_of-result : goal.invariant_of-result
invariant_of-result c =
    let same = ap contents_of c.new.ensures.items ∙ sym (ap contents_of c.new-2.ensures.items) in
    record { sound = sound-synced _ _ _ (empty-tree _ (ap contents_of c.new-2.ensures.items)) same (ap (λ (s : Stops). s.now) c.new-3.ensures.synced) }

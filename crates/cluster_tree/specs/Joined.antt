-- The changing calls with adjacent writes joined: how a range of a file is cut into writes is free. Own: "Adjacent writes".
use Rattle.std.specs.Prelude.{◌+◌, ◌==◌, ◌&&◌, cond, List, [], ◌∷◌}
use Rattle.cluster_tree.specs.PathOrder.{path_eq}
use Rattle.cluster_tree.specs.declared.tree.ChangeCall.{ChangeCall}
use Rattle.cluster_tree.specs.declared.tree.ChangeCall.TheVariants.{Write}

-- a call before calls that are joined: a write becomes one with a write that goes on where it ends
abbrev pub joined_onto : ChangeCall → List ChangeCall → List ChangeCall
joined_onto (Write path at n) (Write next from m ∷ calls) = cond (path_eq path next && from == at + n) (Write path at (n + m) ∷ calls) (Write path at n ∷ Write next from m ∷ calls)
joined_onto call calls = call ∷ calls

-- the calls, adjacent writes joined
abbrev pub joined_writes : List ChangeCall → List ChangeCall
joined_writes [] = []
joined_writes (call ∷ calls) = joined_onto call (joined_writes calls)

-- The order of blocks, by which one of several has the least name: tablespace, database, relation, fork, number.
use Rattle.std.specs.Prelude.{ℕ, List, [], ◌∷◌}
use Rattle.std.specs.declared.cmp.Ordering.{Ordering}
use Rattle.std.specs.Ordering.{nat_cmp}
use Rattle.std.specs.Cmp.Lexicographic.{slice_cmp}
use Rattle.block_refs.specs.Names.{fork_number}
use Rattle.block_refs.specs.declared.names.BlockName.{BlockName}
use Rattle.block_refs.specs.contracts.names.BlockNameOrd.TheImpl as block_ord

-- the numbers of a block: tablespace, database, relation, fork, block
abbrev pub block_numbers : BlockName → List ℕ
block_numbers name = name.rel.space ∷ name.rel.database ∷ name.rel.relation ∷ fork_number name.fork ∷ name.block ∷ []

-- which of two blocks comes first: the first of their numbers that differ decides
abbrev pub block_cmp : BlockName → BlockName → Ordering
block_cmp a b = slice_cmp nat_cmp (block_numbers a) (block_numbers b)

-- what `cmp` computes of two blocks
abbrev pub compared : BlockName → BlockName → Ordering
compared = (block_ord.ghosts).cmp

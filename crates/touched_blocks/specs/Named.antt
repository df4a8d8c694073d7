-- Blocks that are named: PostgreSQL 16, src/bin/pg_rewind/parsexlog.c, extractPageInfo.
use Rattle.std.specs.Prelude.{List, [], ◌∷◌, Option, None, Some, ℕ, ◌==◌, ◌&&◌, Bool, nat_le}
use Rattle.block_refs.specs.declared.names.RelName.{RelName}
use Rattle.touched_blocks.specs.declared.named.Named.{Named}
use Rattle.touched_blocks.specs.declared.named.Named.TheVariants.{OneBlock, BlocksFrom, AllOf}

-- two relations are one
abbrev pub is_rel : RelName → RelName → Bool
is_rel a b = a.space == b.space && (a.database == b.database && a.relation == b.relation)

-- a block of a relation's main fork is one of those that are named
abbrev pub covers : RelName → ℕ → Named → Bool
covers rel block (OneBlock named at) = is_rel named rel && at == block
covers rel block (BlocksFrom named from) = is_rel named rel && nat_le from block
covers rel block (AllOf database) = database == rel.database

-- a whole relation
abbrev pub whole_rel : RelName → List Named
whole_rel rel = BlocksFrom rel 0 ∷ []

-- what something names that may be missing
abbrev pub named_if_there : {X : Type 0} → (X → List Named) → Option X → List Named
named_if_there names None = []
named_if_there names (Some x) = names x

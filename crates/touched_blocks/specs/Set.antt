-- A set of blocks: bits of runs of 65,536 blocks, cuts of relations, and whole databases. Own: "Touched blocks are
-- bits".
use Rattle.std.specs.Prelude.{ℕ, ◌/◌, ◌%◌, ◌==◌, ◌&&◌, ◌||◌, ◌≡◌, Bool, false, List, ◌++◌, Option, Some, None, nat_le, is_some, min}
use Rattle.std.specs.declared.cmp.Ordering.{Ordering}
use Rattle.std.specs.BTreeMap.{is_at}
use Rattle.std.specs.List.{list_any}
use Rattle.std.specs.Map.{lookup}
use Rattle.std.specs.Ordering.{nat_cmp}
use Rattle.block_refs.specs.contracts.names.RelNameOrd.TheImpl as rel_ord
use Rattle.block_refs.specs.declared.names.RelName.{RelName}
use Rattle.touched_blocks.specs.contracts.marks.RunKeyOrd.TheImpl as run_ord
use Rattle.touched_blocks.specs.declared.marks.RunKey.{RunKey}
use Rattle.touched_blocks.specs.declared.named.Named.{Named}
use Rattle.touched_blocks.specs.declared.named.Named.TheVariants.{OneBlock, BlocksFrom, AllOf}
use Rattle.touched_blocks.specs.Chunk.{is_set}
use Rattle.touched_blocks.specs.Named.{covers, is_rel}

-- the chunks by relation and run, the first block of each cut by relation, and the databases
pub record TouchedView : Type 0 where
  pub chunks : List (RunKey × List ℕ)
  pub cuts : List (RelName × ℕ)
  pub databases : List ℕ

-- the order of keys
abbrev pub run_cmp : RunKey → RunKey → Ordering
run_cmp = (run_ord.ghosts).cmp

abbrev pub rel_cmp : RelName → RelName → Ordering
rel_cmp = (rel_ord.ghosts).cmp

-- the run of a block
abbrev pub run_of : RelName → ℕ → RunKey
run_of rel block = record { rel = rel; run = block / 65536 }

-- a bit of a chunk that may be missing
abbrev pub is_set_in : Option (List ℕ) → ℕ → Bool
is_set_in None i = false
is_set_in (Some bytes) i = is_set bytes i

-- a block at or behind a cut that may be missing
abbrev pub is_behind : Option ℕ → ℕ → Bool
is_behind None block = false
is_behind (Some cut) block = nat_le cut block

-- the lower one of a cut that may be missing and another
abbrev pub least : Option ℕ → ℕ → ℕ
least None from = from
least (Some cut) from = min from cut

-- what stands at a key, a relation; a database is there
abbrev pub chunk_at : List (RunKey × List ℕ) → RunKey → Option (List ℕ)
chunk_at chunks key = lookup (is_at (run_cmp key)) chunks

abbrev pub cut_at : List (RelName × ℕ) → RelName → Option ℕ
cut_at cuts rel = lookup (is_at (rel_cmp rel)) cuts

abbrev pub is_among : List ℕ → ℕ → Bool
is_among databases database = list_any (is_at (nat_cmp database)) databases

-- a block is in the set
abbrev pub has_in : TouchedView → RelName → ℕ → Bool
has_in t rel block =
    is_set_in (chunk_at t.chunks (run_of rel block)) (block % 65536)
    || (is_behind (cut_at t.cuts rel) block || is_among t.databases rel.database)

-- two runs are one
abbrev pub is_run : RunKey → RunKey → Bool
is_run a b = is_rel a.rel b.rel && a.run == b.run

-- a name is that of a block in a run, of blocks from one on of a relation, of a database
abbrev pub is_in_run : RunKey → Named → Bool
is_in_run key (OneBlock rel block) = is_run (run_of rel block) key
is_in_run key (BlocksFrom rel from) = false
is_in_run key (AllOf database) = false

abbrev pub is_cut_of : RelName → Named → Bool
is_cut_of rel (OneBlock named block) = false
is_cut_of rel (BlocksFrom named from) = is_rel named rel
is_cut_of rel (AllOf database) = false

abbrev pub is_all_of : ℕ → Named → Bool
is_all_of database (OneBlock rel block) = false
is_all_of database (BlocksFrom rel from) = false
is_all_of database (AllOf named) = named == database

-- what a set has and what is named, is had and no more
abbrev pub Gains : Bool → (Named → Bool) → List Named → Bool → Type 0
Gains before is_it names after = after ≡ (before || list_any is_it names)

-- A set after some names were added: it has the blocks that it had and those that are named, and
-- holds a chunk for a run of which a block was named, a cut for a relation and an entry for a
-- database that was named, and no others.
pub record Adds (names : List Named) (t u : TouchedView) : Type 0 where
  pub has : (rel : RelName) (block : ℕ) →
      Gains (has_in t rel block) (covers rel block) names (has_in u rel block)
  pub chunks : (key : RunKey) →
      Gains (is_some (chunk_at t.chunks key)) (is_in_run key) names (is_some (chunk_at u.chunks key))
  pub cuts : (rel : RelName) →
      Gains (is_some (cut_at t.cuts rel)) (is_cut_of rel) names (is_some (cut_at u.cuts rel))
  pub databases : (database : ℕ) →
      Gains (is_among t.databases database) (is_all_of database) names (is_among u.databases database)

-- some first names were added
pub record AddsFirst (names : List Named) (t u : TouchedView) : Type 0 where
  pub done : List Named
  pub rest : List Named
  pub joins : done ++ rest ≡ names
  pub adds : Adds done t u

-- What the state of a block is once a fork is cut, or a relation. Own: "States of blocks".
use Rattle.std.specs.Prelude.{◌≡◌, ℕ, ◌<◌, ◌^◌, Option, Ok, if◌then◌else◌}
use Rattle.block_refs.specs.declared.names.BlockName.{BlockName}
use Rattle.block_refs.specs.declared.names.Fork.{Fork}
use Rattle.block_refs.specs.declared.names.Fork.TheVariants.{Main, Visibility}
use Rattle.block_refs.specs.declared.names.RelName.{RelName}
use Rattle.cluster_tree.specs.PathValue.{PathValue}
use Rattle.cluster_tree.specs.Contents.{Contents, IsTree}
use Rattle.storage_replay.specs.Changes.{truncated}
use Rattle.storage_replay.specs.Cutting.{fork_cut, is_longer}
use Rattle.storage_replay.specs.Lengths.{fork_length}
use Rattle.storage_laws.specs.After.{cut_state, truncated_state}
use Rattle.storage_laws.specs.Forks.{HasNoGap}
use Rattle.storage_laws.specs.Names.{IsBlock, IsRel}
use Rattle.storage_laws.specs.States.{block_in}

-- of a fork with more blocks those below the cut stay and the others go, also behind a gap; of another all stay
abbrev pub CutBlocks : Type 0
CutBlocks = (root : PathValue) (per_file : ℕ) (rel : RelName) (fork : Fork) (blocks : ℕ) (other : BlockName) (there : Option ℕ) (c d : Contents)
    → 0 < per_file → IsRel rel → IsBlock other → blocks < 2 ^ 32 → IsTree c
    → fork_length root per_file rel fork c ≡ Ok there → fork_cut root per_file rel fork blocks c ≡ Ok d
    → block_in root per_file other d ≡ (if is_longer blocks there then cut_state rel fork blocks other (block_in root per_file other c) else block_in root per_file other c)

-- of a fork without a gap no block at or past the cut is there, however long it was
abbrev pub CutWhole : Type 0
CutWhole = (root : PathValue) (per_file : ℕ) (rel : RelName) (fork : Fork) (blocks : ℕ) (other : BlockName) (c d : Contents)
    → 0 < per_file → IsRel rel → IsBlock other → blocks < 2 ^ 32 → IsTree c → HasNoGap root per_file rel fork c
    → fork_cut root per_file rel fork blocks c ≡ Ok d
    → block_in root per_file other d ≡ cut_state rel fork blocks other (block_in root per_file other c)

-- a relation is cut fork by fork, as the flags say
abbrev pub TruncatedBlocks : Type 0
TruncatedBlocks = (root : PathValue) (per_file : ℕ) (rel : RelName) (blocks flags : ℕ) (other : BlockName) (c d : Contents)
    → 0 < per_file → IsRel rel → IsBlock other → blocks < 2 ^ 32 → IsTree c
    → HasNoGap root per_file rel Main c → HasNoGap root per_file rel Visibility c
    → truncated root per_file rel blocks flags c ≡ Ok d
    → block_in root per_file other d ≡ truncated_state rel blocks flags other (block_in root per_file other c)

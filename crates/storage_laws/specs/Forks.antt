-- Which blocks of a fork are there. Own: "States of blocks".
use Rattle.std.specs.Prelude.{◌≡◌, ℕ, ◌<◌, ◌≤◌, true, None, is_some}
use Rattle.block_refs.specs.declared.names.Fork.{Fork}
use Rattle.block_refs.specs.declared.names.RelName.{RelName}
use Rattle.cluster_tree.specs.PathValue.{PathValue}
use Rattle.cluster_tree.specs.Contents.{Contents}
use Rattle.storage_replay.specs.Lengths.{most_blocks}
use Rattle.storage_laws.specs.Names.{block_of}
use Rattle.storage_laws.specs.States.{block_in}

-- whichever block of a fork is there, those before it are
abbrev pub HasNoGap : PathValue → (per_file : ℕ) → RelName → Fork → Contents → Type 0
HasNoGap root per_file rel fork c = (block next : ℕ) → block < next → next < most_blocks
    → is_some (block_in root per_file (block_of rel fork next) c) ≡ true → is_some (block_in root per_file (block_of rel fork block) c) ≡ true

-- the blocks below this number are there, and that of this number isn't, but at the greatest length
pub record IsLength (root : PathValue) (per_file : ℕ) (rel : RelName) (fork : Fork) (c : Contents) (blocks : ℕ) : Type 0 where
  pub most : blocks ≤ most_blocks
  pub there : (block : ℕ) → block < blocks → is_some (block_in root per_file (block_of rel fork block) c) ≡ true
  pub past : blocks < most_blocks → block_in root per_file (block_of rel fork blocks) c ≡ None

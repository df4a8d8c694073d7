-- Files that a server can have left: PostgreSQL 16, src/backend/storage/smgr/md.c, mdextend. Own: "States of blocks".
use Rattle.std.specs.Prelude.{ℕ}
use Rattle.block_refs.specs.declared.names.Fork.{Fork}
use Rattle.block_refs.specs.declared.names.RelName.{RelName}
use Rattle.cluster_tree.specs.Contents.{Contents, IsTree}
use Rattle.cluster_tree.specs.PathValue.{PathValue}
use Rattle.storage_laws.specs.Forks.{HasNoGap}
use Rattle.storage_laws.specs.Names.{IsRel}

-- whatever is there lies in a folder, and no fork has a gap
pub record AreWhole (root : PathValue) (per_file : ℕ) (c : Contents) : Type 0 where
  pub tree : IsTree c
  pub no_gap : (rel : RelName) (fork : Fork) → IsRel rel → HasNoGap root per_file rel fork c

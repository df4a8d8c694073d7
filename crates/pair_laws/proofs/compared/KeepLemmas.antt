-- What replay of a pair's log leaves of the files: all as they were but for the relation's one, which is as long as it was.
use Rattle.std.proofs.Common.{◌≡◌, ℕ, ◌*◌, List, length, Some}
use Rattle.block_refs.specs.declared.names.Fork.TheVariants.{Main}
use Rattle.cluster_tree.specs.Contents.{Contents, FileEntry, entry_at}
use Rattle.cluster_tree.specs.PathValue.{PathValue}
use Rattle.pair_maker.specs.Inserts.{pair_relation}
use Rattle.relation_files.specs.Paths.{relation_file}

-- where the relation's file stands
abbrev pub relation_at : PathValue → PathValue
relation_at root = relation_file root pair_relation Main 0

-- it has so many blocks
pub record HasRelation (root : PathValue) (blocks : ℕ) (c : Contents) : Type 0 where
  pub bytes : List ℕ
  pub there : entry_at c (relation_at root) ≡ Some (FileEntry bytes)
  pub long : length bytes ≡ 8192 * blocks

-- it still has, and all else is as it was
pub record KeepsFiles (root : PathValue) (blocks : ℕ) (c d : Contents) : Type 0 where
  pub relation : HasRelation root blocks d
  pub others : (q : PathValue) → (q ≡ relation_at root → ⊥) → entry_at d q ≡ entry_at c q

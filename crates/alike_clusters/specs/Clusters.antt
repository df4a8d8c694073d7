-- Two clusters that are alike but for the pages of their relations. Own: "Alike clusters".
use Rattle.std.specs.Prelude.{◌≡◌, ℕ, ◌+◌, ◌-◌, ◌*◌, ◌/◌, ◌^◌, ◌≤◌, ◌==◌, Bool, false, ◌&&◌, ◌||◌, nat_le, List, length, bytes_eq, Option, None, Some, Result, Ok, Err}
use Rattle.block_refs.specs.declared.names.RelName.{RelName}
use Rattle.cluster_tree.specs.Contents.{Contents}
use Rattle.cluster_tree.specs.PathValue.{PathValue, path_of}
use Rattle.cluster_tree.specs.declared.file_fault.FileFault.{FileFault}
use Rattle.file_edits.specs.Alike.{Alike, AsDeep, moved}
use Rattle.file_walk.specs.Actions.{is_version}
use Rattle.file_walk.specs.Relations.{relation_of}

-- whether a segment of so many bytes has no more blocks than a file may have, and none past MaxBlockNumber
abbrev pub is_bounded : (per_file segment size : ℕ) → Bool
is_bounded per_file segment size = nat_le (size / 8192) per_file && (size / 8192 == 0 || nat_le (segment * per_file + size / 8192) (2 ^ 32 - 1))

-- two files of a relation's main fork have as many bytes, and no more blocks than they may; others have the same bytes
abbrev pub is_alike_file : (per_file : ℕ) → Option (RelName × ℕ) → List ℕ → List ℕ → Bool
is_alike_file per_file None bytes other = bytes_eq bytes other
is_alike_file per_file (Some at) bytes other = (length bytes == length other) && is_bounded per_file at.1 (length bytes)

-- at a path from the roots on; what tells a version is like whatever else does
abbrev pub is_alike : (per_file : ℕ) → List (List ℕ) → List ℕ → List ℕ → Bool
is_alike per_file parts bytes other = is_version (path_of false parts) || is_alike_file per_file (relation_of (path_of false parts)) bytes other

-- Below both roots stand the same paths, of the same kinds, and alike files. The roots have as many parts as each other, or no
-- path below either has more than a path may have; and both have room for the paths of a cluster's files.
pub record AlikeClusters (per_file : ℕ) (c : Contents) (root : PathValue) (d : Contents) (other : PathValue) : Type 0 where
  pub alike : Alike (is_alike per_file) c root d other
  pub deep : AsDeep c root d other
  pub room : length root.parts ≤ 61
  pub other_room : length other.parts ≤ 61

-- what is left of two clusters is alike, or both are refused by the same file of theirs
abbrev pub AreLeftAlike : (per_file : ℕ) → PathValue → PathValue → Result Contents FileFault → Result Contents FileFault → Type 0
AreLeftAlike per_file root other (Ok c) (Ok d) = AlikeClusters per_file c root d other
AreLeftAlike per_file root other (Ok c) (Err f) = ⊥
AreLeftAlike per_file root other (Err e) (Ok d) = ⊥
AreLeftAlike per_file root other (Err e) (Err f) = f ≡ moved root other e

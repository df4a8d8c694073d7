-- Files of a cluster without a flaw.
use Rattle.std.proofs.Common.{◌≡◌, ℕ, ◌*◌, ◌≤◌, true, false, List, length, None, is_some, refl, arith, lit≤, codes}
use Rattle.std.specs.List.{list_all}
use Rattle.cluster_tree.specs.Contents.{FileEntry}
use Rattle.cluster_tree.specs.PathValue.{is_part, kept_parts, path_of}
use Rattle.file_walk.specs.Relations.{relation_of}
use Rattle.pair_laws.proofs.ThereLemmas.{plain-sound, whole-sound}
use Rattle.pair_laws.proofs.compared.FineLemmas.{IsFine}

-- one that is none of a relation's main fork
pub plain-fine : (parts : List (List ℕ)) (bytes : List ℕ) → length parts ≤ 3 → list_all is_part parts ≡ true → relation_of (path_of false parts) ≡ None → IsFine parts (FileEntry bytes)
plain-fine parts bytes short proper none = record { short = short; proper = proper; sound = plain-sound parts bytes none }

-- or one of whole blocks
pub relation-fine : (blocks : ℕ) (bytes : List ℕ) → length bytes ≡ 8192 * blocks → IsFine (kept_parts (codes "base/5/16384")) (FileEntry bytes)
relation-fine blocks bytes long = record {
  short = lit≤ tt;
  proper = refl;
  sound = whole-sound (is_some (relation_of (path_of false (kept_parts (codes "base/5/16384"))))) (path_of false (kept_parts (codes "base/5/16384"))) (length bytes) (omega (arith, long));
}

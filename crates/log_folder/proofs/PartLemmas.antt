-- The name of a segment, and pg_wal, are each one part of a path.
use Rattle.std.proofs.Common.{◌≡◌, ℕ, ◌≤◌, true, List, [], ◌∷◌, Ok, refl, arith, codes}
use Rattle.cluster_tree.specs.PathValue.{kept_parts}
use Rattle.cluster_tree.specs.Paths.{checked}
use Rattle.cluster_tree.proofs.PartLemmas.{part_kept, part_admitted}
use Rattle.wal_base.specs.Hex.{is_long_name}
use Rattle.wal_pages.proofs.PartLemmas.{long_part}

pub segment_admitted : (have : ℕ) (name : List ℕ) → is_long_name name ≡ true → have ≤ 63 → checked have name ≡ Ok tt
segment_admitted have name h room = part_admitted have name room (long_part name h)

pub segment_kept : (name : List ℕ) → is_long_name name ≡ true → kept_parts name ≡ name ∷ []
segment_kept name h = part_kept name (long_part name h)

pub wal_admitted : (have : ℕ) → have ≤ 62 → checked have (codes "pg_wal") ≡ Ok tt
wal_admitted have h = part_admitted have (codes "pg_wal") (omega (arith, h)) refl

pub ruleset part_steps = (segment_admitted, segment_kept)

pub ruleset wal_steps = (wal_admitted)

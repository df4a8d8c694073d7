-- The name of a segment is one part of a path.
use Rattle.std.proofs.Common.{◌≡◌, ℕ, ◌≤◌, ◌==◌, Bool, true, false, not, ◌&&◌, nat_lt, List, [], ◌∷◌, length, Some, None, Ok, refl, ap₂, arith}
use Rattle.std.proofs.lemmas.Bool.Decides.{nat_tests}
use Rattle.std.specs.Prelude.{if◌then◌else◌}
use Rattle.std.specs.List.{list_all}
use Rattle.cluster_tree.specs.PathValue.{no_slash, is_kept, is_dot_dot, is_part, kept_parts}
use Rattle.cluster_tree.specs.Paths.{checked}
use Rattle.cluster_tree.proofs.PartLemmas.{part_of, part_kept, part_admitted}
use Rattle.wal_base.specs.Hex.{is_upper_hex, is_long_name}
use Rattle.wal_base.specs.Segment.{bytes_of, segments_per_high, low_part, is_segment_name, segment_named}
use Rattle.wal_base.specs.declared.seg_size.SegSize.{SegSize}
use Rattle.wal_base.specs.declared.segment.Segment.{Segment}

and_parts : (a b : Bool) → (a && b) ≡ true → (a ≡ true) × (b ≡ true)
and_parts true b h = (refl, h)
and_parts false b h = absurd cc

if_some : {A : Type 0} (b : Bool) (x y : A) → (if b then Some x else None) ≡ Some y → b ≡ true
if_some true x y h = refl
if_some false x y h = absurd cc

pub named_long : (size : SegSize) (name : List ℕ) (s : Segment) → segment_named size name ≡ Some s → is_long_name name ≡ true
unfolding segment_named
named_long size name s h =
    (and_parts (is_long_name name) (nat_lt (low_part name) (segments_per_high (bytes_of size))) (if_some (is_segment_name (bytes_of size) name) _ s h)).0

not_slash : (b : ℕ) → is_upper_hex b ≡ true → (b == 47) ≡ false
not_slash b h = grind (arith, nat_tests)

digits_free : (bs : List ℕ) → list_all is_upper_hex bs ≡ true → list_all no_slash bs ≡ true
digits_free [] h = refl
digits_free (b ∷ bs) h =
    let e = and_parts (is_upper_hex b) (list_all is_upper_hex bs) h in
    ap₂ (λ x y. not x && y) (not_slash b e.0) (digits_free bs e.1)

long_kept : (name : List ℕ) → length name ≡ 24 → is_kept name ≡ true
long_kept [] n = absurd (omega (arith, n))
long_kept (a ∷ []) n = absurd (omega (arith, n))
long_kept (a ∷ b ∷ rest) n = grind arith

no_dots : (name : List ℕ) → length name ≡ 24 → is_dot_dot name ≡ false
no_dots [] n = absurd (omega (arith, n))
no_dots (a ∷ []) n = absurd (omega (arith, n))
no_dots (a ∷ b ∷ []) n = absurd (omega (arith, n))
no_dots (a ∷ b ∷ c ∷ rest) n = grind arith

-- 24 digits are a part
pub long_part : (name : List ℕ) → is_long_name name ≡ true → is_part name ≡ true
long_part name h =
    let e = and_parts (length name == 24) (list_all is_upper_hex name) h in
    let n : length name ≡ 24 = grind (arith, nat_tests, e.0) in
    part_of name (record { kept = long_kept name n; other = no_dots name n; free = digits_free name e.1 })

pub named_admitted : (have : ℕ) (size : SegSize) (name : List ℕ) (s : Segment) → segment_named size name ≡ Some s → have ≤ 63 → checked have name ≡ Ok tt
named_admitted have size name s h room = part_admitted have name room (long_part name (named_long size name s h))

pub named_kept : (size : SegSize) (name : List ℕ) (s : Segment) → segment_named size name ≡ Some s → kept_parts name ≡ name ∷ []
named_kept size name s h = part_kept name (long_part name (named_long size name s h))

pub ruleset part_steps = (named_admitted, named_kept)

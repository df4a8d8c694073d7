-- The numbers of segments by the names of their files.
use Rattle.std.proofs.Common.{◌≡◌, ℕ, ◌+◌, ◌<◌, ◌≤◌, Bool, true, false, ◌&&◌, cond, List, [], ◌∷◌, ◌++◌, length, take, drop, filter, fold, map, max, slice_get, None, Some, refl, sym, ap, ◌∙◌, arith}
use Rattle.std.specs.Prelude.{if◌then◌else◌}
use Rattle.std.proofs.lemmas.List.{take_all, take_more}
use Rattle.std.proofs.lemmas.Option.{slice_get_within, slice_get-get_or, get_or_from_slice_get}
use Rattle.archive_names.specs.Cleanup.{ends_segment, is_segment}
use Rattle.wal_base.specs.Hex.{is_long_name}
use Rattle.wal_base.specs.SegSize.{IsSegSize}
use Rattle.wal_base.specs.Segment.{segments_per_high}
use Rattle.wal_base.proofs.SizeLemmas.{size_facts}
use Rattle.reset_numbers.specs.Names.{greatest_named, number_named}

pub few_per_high : (bytes : ℕ) → IsSegSize bytes → segments_per_high bytes ≤ 4096
few_per_high bytes is = let f = size_facts bytes is in omega (arith, f.quotient, f.few)

and_first : (a b : Bool) → (a && b) ≡ true → a ≡ true
and_first true b h = refl
and_first false b h = absurd cc

-- the digits of a segment's file
pub long_digits : (name : List ℕ) → is_segment name ≡ true → is_long_name (take 24 name) ≡ true
long_digits name h = and_first (is_long_name (take 24 name)) (ends_segment (drop 24 name)) h

-- one name more
greatest_more : (f : List ℕ → ℕ) (least : ℕ) (xs : List (List ℕ)) (x : List ℕ) → fold max least (map f (filter is_segment (xs ++ x ∷ []))) ≡ (if is_segment x then max (fold max least (map f (filter is_segment xs))) (f x) else fold max least (map f (filter is_segment xs)))
greatest_more f least [] x =
    elim (is_segment x) as (λ (b : Bool). fold max least (map f (cond b (x ∷ []) [])) ≡ (if b then max least (f x) else least)) [ true ↦ refl | false ↦ refl ]
greatest_more f least (y ∷ xs) x =
    let more = filter is_segment (xs ++ x ∷ []) in
    let some = filter is_segment xs in
    elim (is_segment y) as (λ (b : Bool). fold max least (map f (cond b (y ∷ more) more)) ≡ (if is_segment x then max (fold max least (map f (cond b (y ∷ some) some))) (f x) else fold max least (map f (cond b (y ∷ some) some)))) [
      | true ↦ greatest_more f (max least (f y)) xs x
      | false ↦ greatest_more f least xs x
    ]

pub greatest-on : (bytes least n : ℕ) (xs : List (List ℕ)) (i : ℕ) (x : List ℕ) → slice_get xs i ≡ Some x → n ≡ greatest_named bytes least (take i xs) → (if is_segment x then max n (number_named bytes x) else n) ≡ greatest_named bytes least (take (i + 1) xs)
unfolding greatest_named
greatest-on bytes least n xs i x at is =
    ap (λ k. if is_segment x then max k (number_named bytes x) else k) is
    ∙ sym (greatest_more (number_named bytes) least (take i xs) x)
    ∙ ap (λ l. fold max least (map (number_named bytes) (filter is_segment l))) (sym (take_more xs i x (slice_get_within xs i x at) ∙ ap (λ y. take i xs ++ y ∷ []) (get_or_from_slice_get xs i x x at)))

pub greatest-none : (bytes least : ℕ) → least ≡ greatest_named bytes least []
unfolding greatest_named
greatest-none bytes least = refl

pub all_taken : (xs : List (List ℕ)) (i : ℕ) → length xs ≤ i → take i xs ≡ xs
all_taken xs i l = take_all i xs l

pub no_name : (xs : List (List ℕ)) (i : ℕ) → i < length xs → None ≡ slice_get xs i → ⊥
no_name xs i within none = absurd (cc (none ∙ slice_get-get_or xs i [] within))

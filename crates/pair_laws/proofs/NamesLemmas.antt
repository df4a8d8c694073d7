-- What the records of a pair's logs name: the blocks that they insert into.
use Rattle.std.proofs.Common.{◌≡◌, ℕ, zero, suc, ◌+◌, ◌<◌, ◌≤◌, ◌^◌, ◌==◌, ◌&&◌, ◌||◌, Bool, true, false, cond, List, [], ◌∷◌, ◌++◌, map, filter, refl, sym, ap, ◌∙◌, subst, true≢false, eq-eqb, eqb-true, arith}
use Rattle.std.specs.List.{AllByRecursion, list_any, range_with_len}
use Rattle.block_refs.specs.declared.names.RelName.{RelName}
use Rattle.reset_plan.specs.NewSegment.{checkpoint_record}
use Rattle.touched_blocks.specs.Named.{covers, is_rel}
use Rattle.touched_blocks.specs.declared.named.Named.{Named}
use Rattle.touched_blocks.specs.declared.named.Named.TheVariants.{OneBlock}
use Rattle.pair_maker.specs.Inserts.{insert_blocks, insert_record, inserts_into, pair_relation}
use Rattle.pair_maker.specs.Logs.{common_checkpoint, last_checkpoint, last_place, records_of}
use Rattle.pair_maker.specs.declared.side.Side.{Side}
use Rattle.pair_laws.proofs.BodyLemmas.{common-fits, last-fits}
use Rattle.pair_laws.proofs.RecordLemmas.{AllName, checkpoint-names, insert-names, names-append}

-- ---- blocks in ascending order

range_low : (limit from n : ℕ) → from + n ≤ limit → AllByRecursion (λ b. b < limit) (range_with_len from n)
range_low limit from zero low = tt
range_low limit from (suc n) low = (omega (arith, low), range_low limit (from + 1) n (omega (arith, low)))

filter_all : (P : ℕ → Type 0) (p : ℕ → Bool) (xs : List ℕ) → AllByRecursion P xs → AllByRecursion P (filter p xs)
filter_all P p [] all = tt
filter_all P p (x ∷ xs) all = by (p x) (filter_all P p xs all.1)
  where
    by : (b : Bool) → AllByRecursion P (filter p xs) → AllByRecursion P (cond b (x ∷ filter p xs) (filter p xs))
    by true rest = (all.0, rest)
    by false rest = rest

pub blocks-low : (side : Side) (seed blocks limit : ℕ) → blocks ≤ limit → AllByRecursion (λ b. b < limit) (insert_blocks side seed blocks)
blocks-low side seed blocks limit few = filter_all (λ b. b < limit) (inserts_into side seed) (range_with_len 0 blocks) (range_low limit 0 blocks (omega (arith, few)))

-- ---- the names of a log's records

abbrev pub one_block : ℕ → List Named
one_block block = OneBlock pair_relation block ∷ []

inserts_name : (seed : ℕ) (bs : List ℕ) → AllByRecursion (λ b. b < 2 ^ 32) bs → AllName (map (insert_record seed) bs) (map one_block bs)
inserts_name seed [] low = tt
inserts_name seed (b ∷ bs) low = (insert-names seed b low.0, inserts_name seed bs low.1)

abbrev pub names_of_log : Side → (seed blocks : ℕ) → List (List Named)
names_of_log side seed blocks = ([] ∷ map one_block (insert_blocks side seed blocks)) ++ [] ∷ []

pub all-named : (side : Side) (seed blocks : ℕ) → blocks ≤ 2 ^ 32 → last_place side seed blocks < 2 ^ 64 → AllName (records_of side seed blocks) (names_of_log side seed blocks)
all-named side seed blocks few low =
    names-append (checkpoint_record common_checkpoint ∷ map (insert_record seed) (insert_blocks side seed blocks))
    (checkpoint_record (last_checkpoint side (last_place side seed blocks)) ∷ []) ([] ∷ map one_block (insert_blocks side seed blocks)) ([] ∷ [])
    (checkpoint-names common_checkpoint (common-fits 0), inserts_name seed (insert_blocks side seed blocks) (blocks-low side seed blocks (2 ^ 32) few))
    (checkpoint-names (last_checkpoint side (last_place side seed blocks)) (last-fits side (last_place side seed blocks) 0 low), tt)

-- ---- a block of the relation that none of them names wasn't inserted into

abbrev pub any_covers : RelName → ℕ → List (List Named) → Bool
any_covers rel block ms = list_any (λ m. list_any (covers rel block) m) ms

or_parts : (a b : Bool) → (a || b) ≡ false → (a ≡ false) × (b ≡ false)
or_parts true b h = absurd (true≢false h)
or_parts false b h = (refl, h)

others : (rel : RelName) (block : ℕ) → is_rel pair_relation rel ≡ true → (bs : List ℕ) → any_covers rel block (map one_block bs ++ [] ∷ []) ≡ false → AllByRecursion (λ b. (b == block) ≡ false) bs
others rel block same [] none = tt
others rel block same (b ∷ bs) none =
    let two = or_parts ((is_rel pair_relation rel && b == block) || false) (any_covers rel block (map one_block bs ++ [] ∷ [])) none in
    let one = or_parts (is_rel pair_relation rel && b == block) false two.0 in
    (subst (λ t. (t && b == block) ≡ false) same one.0, others rel block same bs two.1)

in_filter : (p : ℕ → Bool) (block : ℕ) → p block ≡ true → (from n : ℕ) → from ≤ block → block < from + n → AllByRecursion (λ b. (b == block) ≡ false) (filter p (range_with_len from n)) → ⊥
in_filter p block is from zero low high all = absurd (omega (arith, low, high))
in_filter p block is from (suc n) low high all = by (λ a. in_filter p block is (from + 1) n (omega (arith, low, a)) (omega (arith, high))) (p from) refl (from == block) refl all
  where
    apart : (from == block) ≡ false → from ≡ block → ⊥
    apart other e = true≢false (sym (eq-eqb from block e) ∙ other)

    by : ((from ≡ block → ⊥) → AllByRecursion (λ b. (b == block) ≡ false) (filter p (range_with_len (from + 1) n)) → ⊥) → (b : Bool) → p from ≡ b → (same : Bool) → (from == block) ≡ same
        → AllByRecursion (λ b. (b == block) ≡ false) (cond b (from ∷ filter p (range_with_len (from + 1) n)) (filter p (range_with_len (from + 1) n))) → ⊥
    by later true its true same all = true≢false (sym same ∙ all.0)
    by later true its false other all = later (apart other) all.1
    by later false its false other all = later (apart other) all
    by later false its true same all = true≢false (sym is ∙ ap p (sym (eqb-true from block same)) ∙ its)

pub unnamed-block : (side : Side) (seed blocks : ℕ) (rel : RelName) (block : ℕ) → is_rel pair_relation rel ≡ true → block < blocks
    → any_covers rel block (names_of_log side seed blocks) ≡ false → inserts_into side seed block ≡ false
unnamed-block side seed blocks rel block same low none = by (inserts_into side seed block) refl
  where
    by : (b : Bool) → inserts_into side seed block ≡ b → b ≡ false
    by true is = absurd (in_filter (inserts_into side seed) block is 0 blocks (omega arith) (omega (arith, low)) (others rel block same (insert_blocks side seed blocks) none))
    by false is = refl

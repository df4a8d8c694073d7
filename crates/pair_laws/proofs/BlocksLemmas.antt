-- Which inserts of a pair's log are into a block.
use Rattle.std.proofs.Common.{◌≡◌, ℕ, zero, suc, ◌+◌, ◌-◌, ◌<◌, ◌≤◌, ◌&&◌, Bool, true, false, cond, nat_eq, nat_lt, true≢false, List, [], ◌∷◌, ◌++◌, filter, map, append_assoc, refl, ap, sym, ◌∙◌, arith}
use Rattle.std.specs.List.{AllByRecursion, range_with_len}
use Rattle.std.proofs.lemmas.Bool.Decides.{nat_tests}
use Rattle.std.proofs.lemmas.List.{map-append}
use Rattle.std.proofs.lemmas.List.Elements.{filter-append}
use Rattle.block_refs.specs.Names.{fork_number}
use Rattle.block_refs.specs.declared.names.BlockName.{BlockName}
use Rattle.block_refs.specs.declared.names.Fork.{Fork}
use Rattle.block_refs.specs.declared.names.Fork.TheVariants.{Main}
use Rattle.replay_profile.specs.Names.{is_block, is_rel}
use Rattle.reset_plan.specs.NewSegment.{checkpoint_record}
use Rattle.wal_records.specs.Writer.{NewRecord}
use Rattle.pair_maker.specs.Inserts.{insert_blocks, insert_record, inserts_into, pair_relation}
use Rattle.pair_maker.specs.Logs.{common_checkpoint, last_checkpoint, last_place, records_of, records_upto}
use Rattle.pair_maker.specs.declared.side.Side.{Side}
use Rattle.pair_laws.proofs.EffectLemmas.{block_at}

-- a block that is another than this one
pub record Misses (name : BlockName) (block : ℕ) : Type 0 where
  pub low : block < 4096
  pub other : is_block name (block_at block) ≡ false

-- whether a block is of the pair's relation and below this number
abbrev pub is_there : ℕ → BlockName → Bool
is_there blocks name = is_rel name.rel pair_relation && nat_lt name.block blocks

-- ---- tests

and-false : (a : Bool) → (a && false) ≡ false
and-false true = refl
and-false false = refl

not-below : (block b blocks : ℕ) → b < blocks → nat_lt block blocks ≡ false → nat_eq block b ≡ false
not-below block b blocks lt e = grind (arith, nat_tests, lt, e)

apart-as : (rel fork : Bool) (block b blocks : ℕ) → b < blocks → (rel && nat_lt block blocks) ≡ false → (rel && (fork && nat_eq block b)) ≡ false
apart-as false fork block b blocks lt e = refl
apart-as true fork block b blocks lt e = ap (λ t. fork && t) (not-below block b blocks lt e) ∙ and-false fork

pub absent-other : (blocks : ℕ) (name : BlockName) (b : ℕ) → b < blocks → is_there blocks name ≡ false → is_block name (block_at b) ≡ false
absent-other blocks name b lt e = apart-as (is_rel name.rel pair_relation) (nat_eq (fork_number name.fork) 0) name.block b blocks lt e

not-same : (block b : ℕ) → (block ≡ b → ⊥) → nat_eq block b ≡ false
not-same block b ne = grind (arith, nat_tests, ne)

apart-number : (rel fork : Bool) (block b : ℕ) → (block ≡ b → ⊥) → (rel && (fork && nat_eq block b)) ≡ false
apart-number false fork block b ne = refl
apart-number true fork block b ne = ap (λ t. fork && t) (not-same block b ne) ∙ and-false fork

pub number-other : (name : BlockName) (b : ℕ) → (name.block ≡ b → ⊥) → is_block name (block_at b) ≡ false
number-other name b ne = apart-number (is_rel name.rel pair_relation) (nat_eq (fork_number name.fork) 0) name.block b ne

own-front : (a b : Bool) → (a && b) ≡ true → a ≡ true
own-front true b e = refl
own-front false b e = absurd (true≢false (sym e))

own-back : (a b : Bool) → (a && b) ≡ true → b ≡ true
own-back true b e = e
own-back false b e = absurd (true≢false (sym e))

is-same : (n : ℕ) → nat_eq n n ≡ true
is-same n = grind (arith, nat_tests)

main-number : (fork : Fork) → fork ≡ Main → nat_eq (fork_number fork) 0 ≡ true
main-number fork e = ap (λ f. nat_eq (fork_number f) 0) e

pub there-own : (blocks : ℕ) (name : BlockName) → name.fork ≡ Main → is_there blocks name ≡ true → is_block name (block_at name.block) ≡ true
there-own blocks name main e =
    ap (λ t. t && (nat_eq (fork_number name.fork) 0 && nat_eq name.block name.block)) (own-front (is_rel name.rel pair_relation) (nat_lt name.block blocks) e)
    ∙ ap (λ t. t && nat_eq name.block name.block) (main-number name.fork main) ∙ is-same name.block

below-of : (block blocks : ℕ) → nat_lt block blocks ≡ true → block < blocks
below-of block blocks e = grind (arith, nat_tests, e)

pub there-below : (blocks : ℕ) (name : BlockName) → is_there blocks name ≡ true → name.block < blocks
there-below blocks name e = below-of name.block blocks (own-back (is_rel name.rel pair_relation) (nat_lt name.block blocks) e)

-- ---- the blocks that are inserted into

pub all-miss : (p : ℕ → Bool) (name : BlockName) (n a : ℕ) → a + n ≤ 4096 → ((b : ℕ) → a ≤ b → b < a + n → p b ≡ true → is_block name (block_at b) ≡ false)
    → AllByRecursion (Misses name) (filter p (range_with_len a n))
all-miss p name zero a few other = tt
all-miss p name (suc n) a few other =
    let rest : AllByRecursion (Misses name) (filter p (range_with_len (a + 1) n)) = all-miss p name n (a + 1) (omega (arith, few)) (λ b from to. other b (omega (arith, from)) (omega (arith, to))) in
    elim (p a) as (λ t. p a ≡ t → AllByRecursion (Misses name) (cond t (a ∷ filter p (range_with_len (a + 1) n)) (filter p (range_with_len (a + 1) n)))) [
      | true ↦ λ e. (record { low = omega (arith, few); other = other a (omega arith) (omega arith) e }, rest)
      | false ↦ λ e. rest
    ] refl

range-split : (m n k a : ℕ) → k ≡ m + n → range_with_len a k ≡ range_with_len a m ++ range_with_len (a + m) n
range-split zero n k a e =
    let same : k ≡ n = omega (arith, e) in
    let from : a ≡ a + 0 = omega arith in
    ap (range_with_len a) same ∙ ap (λ x. range_with_len x n) from
range-split (suc m) n k a e =
    let more : k ≡ suc (m + n) = omega (arith, e) in
    let from : (a + 1) + m ≡ a + suc m = omega arith in
    ap (range_with_len a) more ∙ ap (λ l. a ∷ l) (range-split m n (m + n) (a + 1) refl ∙ ap (λ x. range_with_len (a + 1) m ++ range_with_len x n) from)

-- those behind a block
abbrev pub later_blocks : Side → (seed blocks block : ℕ) → List ℕ
later_blocks side seed blocks block = filter (inserts_into side seed) (range_with_len (block + 1) (blocks - (block + 1)))

blocks-split : (side : Side) (seed blocks block : ℕ) → block < blocks → inserts_into side seed block ≡ true
    → insert_blocks side seed blocks ≡ insert_blocks side seed block ++ block ∷ later_blocks side seed blocks block
blocks-split side seed blocks block lt own =
    let p : ℕ → Bool = inserts_into side seed in
    let more : ℕ = blocks - (block + 1) in
    let sum : blocks ≡ block + suc more = omega (arith, lt) in
    let at : 0 + block ≡ block = omega arith in
    ap (filter p) (range-split block (suc more) blocks 0 sum)
    ∙ filter-append p (range_with_len 0 block) (range_with_len (0 + block) (suc more))
    ∙ ap (λ x. filter p (range_with_len 0 block) ++ filter p (range_with_len x (suc more))) at
    ∙ ap (λ t. filter p (range_with_len 0 block) ++ cond t (block ∷ filter p (range_with_len (block + 1) more)) (filter p (range_with_len (block + 1) more))) own

-- the records behind the insert into a block
abbrev pub later_records : Side → (seed blocks block : ℕ) → List NewRecord
later_records side seed blocks block =
    map (insert_record seed) (later_blocks side seed blocks block) ++ checkpoint_record (last_checkpoint side (last_place side seed blocks)) ∷ []

pub records-split : (side : Side) (seed blocks block : ℕ) → block < blocks → inserts_into side seed block ≡ true
    → records_of side seed blocks ≡ records_upto side seed block ++ insert_record seed block ∷ later_records side seed blocks block
records-split side seed blocks block lt own =
    let ins : ℕ → NewRecord = insert_record seed in
    let last : List NewRecord = checkpoint_record (last_checkpoint side (last_place side seed blocks)) ∷ [] in
    ap (λ l. checkpoint_record common_checkpoint ∷ (l ++ last))
    (ap (map ins) (blocks-split side seed blocks block lt own) ∙ map-append ins (insert_blocks side seed block) (block ∷ later_blocks side seed blocks block))
    ∙ ap (λ l. checkpoint_record common_checkpoint ∷ l) (append_assoc (map ins (insert_blocks side seed block)) (insert_record seed block ∷ map ins (later_blocks side seed blocks block)) last)

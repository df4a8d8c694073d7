-- The target's log touches the blocks of its inserts, and no others of the relation.
use Rattle.std.proofs.Common.{◌≡◌, ◌∙◌, ℕ, zero, suc, ◌+◌, ◌<◌, ◌≤◌, ◌==◌, ◌||◌, Bool, true, false, cond, List, [], ◌∷◌, ◌++◌, filter, length, map, refl, sym, ap, ap₂, subst, true≢false, eqb-true, arith}
use Rattle.std.specs.List.{AllByRecursion, range_with_len}
use Rattle.touched_blocks.specs.Touched.{touches}
use Rattle.wal_records.specs.Writer.{begun}
use Rattle.pair_maker.specs.Inserts.{insert_blocks, inserts_into, pair_relation}
use Rattle.pair_maker.specs.Logs.{origin_of, records_of}
use Rattle.pair_maker.specs.declared.side.Side.TheVariants.{Target, Source}
use Rattle.pair_laws.specs.Life.{side_records}
use Rattle.pair_laws.proofs.LifeLemmas.{all-new}
use Rattle.pair_laws.proofs.NamesLemmas.{all-named, any_covers, names_of_log, one_block, unnamed-block}
use Rattle.pair_laws.proofs.RecordLemmas.{AllHaveNames, all-given, touches-named}
use Rattle.pair_laws.proofs.SmallLemmas.{last_low}
use Rattle.cmd_pair.specs.Pair.{line_of, pair_line, touched_count}

-- ---- filters

filter-own : (p : ℕ → Bool) (xs : List ℕ) → AllByRecursion (λ b. p b ≡ true) (filter p xs)
filter-own p [] = tt
filter-own p (x ∷ xs) = by (p x) refl (filter-own p xs)
  where
    by : (b : Bool) → p x ≡ b → AllByRecursion (λ y. p y ≡ true) (filter p xs) → AllByRecursion (λ y. p y ≡ true) (cond b (x ∷ filter p xs) (filter p xs))
    by true is rest = (is, rest)
    by false is rest = rest

filter-same : (p q : ℕ → Bool) (a n : ℕ) → ((b : ℕ) → a ≤ b → b < a + n → p b ≡ q b) → filter p (range_with_len a n) ≡ filter q (range_with_len a n)
filter-same p q a zero same = refl
filter-same p q a (suc n) same =
    ap₂ (λ (t : Bool) (l : List ℕ). cond t (a ∷ l) l) (same a (omega arith) (omega arith))
    (filter-same p q (a + 1) n (λ b low high. same b (omega (arith, low)) (omega (arith, high))))

-- ---- a block that is named was inserted into

own-covered : (p : ℕ → Bool) (block : ℕ) (bs : List ℕ) → AllByRecursion (λ b. p b ≡ true) bs → any_covers pair_relation block (map one_block bs ++ [] ∷ []) ≡ true → p block ≡ true
own-covered p block [] all is = absurd (true≢false (sym is))
own-covered p block (b ∷ bs) all is = by (own-covered p block bs all.1) (b == block) refl is
  where
    by : (any_covers pair_relation block (map one_block bs ++ [] ∷ []) ≡ true → p block ≡ true) → (same : Bool) → (b == block) ≡ same
        → ((same || false) || any_covers pair_relation block (map one_block bs ++ [] ∷ [])) ≡ true → p block ≡ true
    by later true same h = subst (λ x. p x ≡ true) (eqb-true b block same) all.0
    by later false other h = later h

module _ (seed blocks : ℕ) (few : blocks ≤ 4096) where
  have-names : AllHaveNames (side_records Target seed blocks) (names_of_log Target seed blocks)
  have-names =
      all-given (begun (origin_of Target)) (records_of Target seed blocks) (names_of_log Target seed blocks) (all-new Target seed blocks few)
      (all-named Target seed blocks (omega (arith, few)) (last_low Target seed blocks few))

  seen : (b : ℕ) → touches (side_records Target seed blocks) pair_relation b ≡ any_covers pair_relation b (names_of_log Target seed blocks)
  seen b = touches-named (side_records Target seed blocks) (names_of_log Target seed blocks) pair_relation b have-names

  touches-own : (b : ℕ) → b < blocks → touches (side_records Target seed blocks) pair_relation b ≡ inserts_into Target seed b
  touches-own b low = by (any_covers pair_relation b (names_of_log Target seed blocks)) refl
    where
      by : (t : Bool) → any_covers pair_relation b (names_of_log Target seed blocks) ≡ t → touches (side_records Target seed blocks) pair_relation b ≡ inserts_into Target seed b
      by true is = seen b ∙ is ∙ sym (own-covered (inserts_into Target seed) b (insert_blocks Target seed blocks) (filter-own (inserts_into Target seed) (range_with_len 0 blocks)) is)
      by false is = seen b ∙ is ∙ sym (unnamed-block Target seed blocks pair_relation b refl low is)

pub inserts-touched : (seed blocks : ℕ) → blocks ≤ 4096 → touched_count seed blocks ≡ length (insert_blocks Target seed blocks)
inserts-touched seed blocks few =
    ap length (filter-same (touches (side_records Target seed blocks) pair_relation) (inserts_into Target seed) 0 blocks (λ b low high. touches-own seed blocks few b (omega (arith, high))))

-- so the line may have the number of the target's inserts twice
pub line-counted : (seed blocks target source : ℕ) → blocks ≤ 4096 → target ≡ length (insert_blocks Target seed blocks) → source ≡ length (insert_blocks Source seed blocks) → line_of seed blocks target source target ≡ pair_line seed blocks
line-counted seed blocks target source few is_target is_source =
    ap (λ n. line_of seed blocks n source target) is_target
    ∙ ap (λ n. line_of seed blocks (length (insert_blocks Target seed blocks)) n target) is_source
    ∙ ap (λ n. line_of seed blocks (length (insert_blocks Target seed blocks)) (length (insert_blocks Source seed blocks)) n) (is_target ∙ sym (inserts-touched seed blocks few))

-- Which blocks are in runs.
use Rattle.std.proofs.Common.{◌≡◌, ◌≢◌, ◌⊎◌, ℕ, zero, suc, ◌+◌, ◌<◌, ◌≤◌, ◌==◌, Bool, true, false, ◌||◌, ◌&&◌, cond, nat_lt, List, [], ◌∷◌, inl, inr, refl, sym, ap, ◌∙◌, true≢false, arith}
use Rattle.std.specs.Prelude.{nat_le}
use Rattle.std.proofs.lemmas.Bool.Decides.{nat_tests}
use Rattle.rewind_plan.specs.Blocks.{onto_runs, runs_of}
use Rattle.rewind_plan.specs.declared.runs.Run.{Run}

-- ---- which blocks are in runs

abbrev pub in_run : ℕ → Run → Bool
in_run block run = nat_le run.first block && nat_lt block (run.first + run.count)

abbrev pub in_runs : ℕ → List Run → Bool
in_runs block [] = false
in_runs block (run ∷ runs) = in_run block run || in_runs block runs

pub same_test : (a b : Bool) → (a ≡ true → b ≡ true) → (b ≡ true → a ≡ true) → a ≡ b
same_test true b f g = sym (f refl)
same_test false true f g = g refl
same_test false false f g = refl

pub and_parts : (a b : Bool) → (a && b) ≡ true → (a ≡ true) × (b ≡ true)
and_parts true b h = (refl, h)
and_parts false b h = absurd (true≢false (sym h))

pub both_true : (a b : Bool) → a ≡ true → b ≡ true → (a && b) ≡ true
both_true true b h k = k
both_true false b h k = h

pub le_of : (n m : ℕ) → nat_le n m ≡ true → n ≤ m
le_of n m h = grind (arith, nat_tests, h)

pub lt_of : (n m : ℕ) → nat_lt n m ≡ true → n < m
lt_of n m h = grind (arith, nat_tests, h)

pub of_le : (n m : ℕ) → n ≤ m → nat_le n m ≡ true
of_le n m h = grind (arith, nat_tests, h)

pub of_lt : (n m : ℕ) → n < m → nat_lt n m ≡ true
of_lt n m h = grind (arith, nat_tests, h)

pub not_le : (n m : ℕ) → nat_le n m ≡ false → m < n
not_le n m h = grind (arith, nat_tests, h)

pub not_lt : (n m : ℕ) → nat_lt n m ≡ false → m ≤ n
not_lt n m h = grind (arith, nat_tests, h)

pub eq_of : (n m : ℕ) → n == m ≡ true → n ≡ m
eq_of n m h = grind (arith, nat_tests, h)

of_eq : (n m : ℕ) → n ≡ m → n == m ≡ true
of_eq n m h = grind (arith, nat_tests, h)

pub in_run_of : (block : ℕ) (run : Run) → run.first ≤ block → block < run.first + run.count → in_run block run ≡ true
in_run_of block run l h = both_true (nat_le run.first block) (nat_lt block (run.first + run.count)) (of_le run.first block l) (of_lt block (run.first + run.count) h)

pub run_bounds : (block : ℕ) (run : Run) → in_run block run ≡ true → (run.first ≤ block) × (block < run.first + run.count)
run_bounds block run h = let two = and_parts (nat_le run.first block) (nat_lt block (run.first + run.count)) h in (le_of run.first block two.0, lt_of block (run.first + run.count) two.1)

pub or_cases : (a b : Bool) → (a || b) ≡ true → (a ≡ true) ⊎ (b ≡ true)
or_cases true b h = inl refl
or_cases false b h = inr h

or_one : (a b : Bool) → a ≡ true → (a || b) ≡ true
or_one true b h = refl
or_one false b h = absurd (true≢false (sym h))

pub or_two : (a b : Bool) → b ≡ true → (a || b) ≡ true
or_two true b h = refl
or_two false b h = h

-- a block, and the run of it alone
alone : (block first : ℕ) → in_run block (record { first = first; count = 1 }) ≡ (block == first)
alone block first = same_test _ _ (λ h. let two = run_bounds block (record { first = first; count = 1 }) h in of_eq block first (omega (arith, two.0, two.1)))
    (λ h. let e = eq_of block first h in in_run_of block (record { first = first; count = 1 }) (omega (arith, e)) (omega (arith, e)))

pub longer : (block first : ℕ) (run : Run) → run.first ≡ first + 1 → in_run block (record { first = first; count = run.count + 1 }) ≡ ((block == first) || in_run block run)
longer block first run is = same_test _ _ one two
  where
    one : in_run block (record { first = first; count = run.count + 1 }) ≡ true → ((block == first) || in_run block run) ≡ true
    one h = by (block == first) refl
      where
        by : (b : Bool) → block == first ≡ b → (b || in_run block run) ≡ true
        by true e = refl
        by false e =
            let bounds = run_bounds block (record { first = first; count = run.count + 1 }) h in
            let apart : block ≢ first = λ same. true≢false (sym (of_eq block first same) ∙ e) in
            in_run_of block run (omega (arith, bounds.0, is, apart)) (omega (arith, bounds.1, is))

    two : ((block == first) || in_run block run) ≡ true → in_run block (record { first = first; count = run.count + 1 }) ≡ true
    two h = by (or_cases (block == first) (in_run block run) h)
      where
        by : (block == first ≡ true) ⊎ (in_run block run ≡ true) → in_run block (record { first = first; count = run.count + 1 }) ≡ true
        by (inl e) = let same = eq_of block first e in in_run_of block (record { first = first; count = run.count + 1 }) (omega (arith, same)) (omega (arith, same))
        by (inr e) = let bounds = run_bounds block run e in in_run_of block (record { first = first; count = run.count + 1 }) (omega (arith, bounds.0, is)) (omega (arith, bounds.1, is))

or_group : (a b d : Bool) → ((a || b) || d) ≡ (a || (b || d))
or_group true b d = refl
or_group false b d = refl

in_onto : (block first : ℕ) (runs : List Run) → in_runs block (onto_runs first runs) ≡ ((block == first) || in_runs block runs)
in_onto block first [] = ap (λ b. b || false) (alone block first)
in_onto block first (run ∷ runs) = by (run.first == first + 1) refl
  where
    by : (b : Bool) → run.first == first + 1 ≡ b → in_runs block (cond b (record { first = first; count = run.count + 1 } ∷ runs) (record { first = first; count = 1 } ∷ run ∷ runs)) ≡ ((block == first) || (in_run block run || in_runs block runs))
    by true e = ap (λ b. b || in_runs block runs) (longer block first run (eq_of run.first (first + 1) e)) ∙ or_group (block == first) (in_run block run) (in_runs block runs)
    by false e = ap (λ b. b || (in_run block run || in_runs block runs)) (alone block first)

-- the blocks in the runs are those that pass the test
pub in-runs : (p : ℕ → Bool) (block first count : ℕ) → in_runs block (runs_of p first count) ≡ ((nat_le first block && nat_lt block (first + count)) && p block)
in-runs p block first zero = by (nat_le first block) (nat_lt block (first + 0)) refl refl
  where
    by : (a b : Bool) → nat_le first block ≡ a → nat_lt block (first + 0) ≡ b → false ≡ ((a && b) && p block)
    by true true e h = let l = le_of first block e in let m = lt_of block (first + 0) h in absurd (omega (arith, l, m))
    by true false e h = refl
    by false b e h = refl
in-runs p block first (suc count) = by (p first) refl (in-runs p block (first + 1) count)
  where
    rest : Bool
    rest = in_runs block (runs_of p (first + 1) count)

    whole : Bool
    whole = (nat_le first block && nat_lt block (first + suc count)) && p block

    -- behind the first block both say the same
    behind : block ≢ first → rest ≡ ((nat_le (first + 1) block && nat_lt block (first + 1 + count)) && p block) → rest ≡ whole
    behind off is = is ∙ ap (λ b. b && p block) (same_test _ _
        (λ h. let two = and_parts (nat_le (first + 1) block) (nat_lt block (first + 1 + count)) h in
        let l = le_of (first + 1) block two.0 in let m = lt_of block (first + 1 + count) two.1 in
        both_true (nat_le first block) (nat_lt block (first + suc count)) (of_le first block (omega (arith, l))) (of_lt block (first + suc count) (omega (arith, m))))
        (λ h. let two = and_parts (nat_le first block) (nat_lt block (first + suc count)) h in
        let l = le_of first block two.0 in let m = lt_of block (first + suc count) two.1 in
        both_true (nat_le (first + 1) block) (nat_lt block (first + 1 + count)) (of_le (first + 1) block (omega (arith, l, off))) (of_lt block (first + 1 + count) (omega (arith, m)))))

    -- the first block isn't behind itself
    not_behind : block ≡ first → rest ≡ ((nat_le (first + 1) block && nat_lt block (first + 1 + count)) && p block) → rest ≡ false
    not_behind same is = is ∙ none (nat_le (first + 1) block) refl
      where
        none : (b : Bool) → nat_le (first + 1) block ≡ b → ((b && nat_lt block (first + 1 + count)) && p block) ≡ false
        none true e = let l = le_of (first + 1) block e in absurd (omega (arith, l, same))
        none false e = refl

    here : block ≡ first → whole ≡ p block
    here same = ap (λ b. b && p block) (both_true (nat_le first block) (nat_lt block (first + suc count)) (of_le first block (omega (arith, same))) (of_lt block (first + suc count) (omega (arith, same))))

    by : (b : Bool) → p first ≡ b → rest ≡ ((nat_le (first + 1) block && nat_lt block (first + 1 + count)) && p block) → in_runs block (cond b (onto_runs first (runs_of p (first + 1) count)) (runs_of p (first + 1) count)) ≡ whole
    by true wanted is = in_onto block first (runs_of p (first + 1) count) ∙ split (block == first) refl
      where
        split : (b : Bool) → block == first ≡ b → (b || rest) ≡ whole
        split true e = let same = eq_of block first e in sym (here same ∙ ap p same ∙ wanted)
        split false e = behind (λ same. true≢false (sym (of_eq block first same) ∙ e)) is
    by false unwanted is = split (block == first) refl
      where
        split : (b : Bool) → block == first ≡ b → rest ≡ whole
        split true e = let same = eq_of block first e in not_behind same is ∙ sym (here same ∙ ap p same ∙ unwanted)
        split false e = behind (λ same. true≢false (sym (of_eq block first same) ∙ e)) is

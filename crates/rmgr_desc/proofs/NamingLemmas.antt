-- The names of custom managers in digits, and the first number that passes a test.
use Rattle.std.proofs.Common.{suc, zero, ◌≡◌, ◌==◌, ◌<◌, ◌≤◌, ◌+◌, ◌/◌, ◌%◌, ℕ, List, [], ◌∷◌, Bool, true, false, Some, None, nat_lt, arith, refl}
use Rattle.std.specs.List.{find, range_with_len}
use Rattle.std.specs.Fmt.{digits}
use Rattle.rmgr_desc.specs.Managers.{manager_name_of}
use Rattle.rmgr_desc.specs.Naming.{manager_named, names_manager}

pub custom_name_is : (n : ℕ) → 128 ≤ n → n < 256
    → 99 ∷ 117 ∷ 115 ∷ 116 ∷ 111 ∷ 109 ∷ (48 + n / 100) ∷ (48 + n / 10 % 10) ∷ (48 + n % 10) ∷ [] ≡ manager_name_of n
unfolding manager_name_of digits
custom_name_is n low high =
    let a : nat_lt n 22 ≡ false = grind arith in
    let b : nat_lt n 128 ≡ false = grind arith in
    let c : (n / 10 == 0) ≡ false = grind arith in
    let d : (n / 10 / 10 == 0) ≡ false = grind arith in
    let e : (n / 10 / 10 / 10 == 0) ≡ true = grind arith in
    let f : nat_lt (n % 10) 10 ≡ true = grind arith in
    let g : nat_lt (n / 10 % 10) 10 ≡ true = grind arith in
    let h : nat_lt (n / 10 / 10 % 10) 10 ≡ true = grind arith in
    let i : n / 10 / 10 % 10 ≡ n / 100 = omega arith in
    rw (a, b, c, d, e, f, g, h, i) refl

pub first_found : (test : ℕ → Bool) (a n k : ℕ) → a ≤ k → k < a + n → test k ≡ true → ((j : ℕ) → j < k → test j ≡ false)
    → Some k ≡ find test (range_with_len a n)
first_found test a zero k le lt hit none = absurd (omega (arith, le, lt))
first_found test a (suc n) k le lt hit none =
    go (λ below. first_found test (a + 1) n k (omega (arith, below)) (omega (arith, lt)) hit none) (a == k) refl
  where
    go : (a < k → Some k ≡ find test (range_with_len (a + 1) n)) → (b : Bool) → (a == k) ≡ b → Some k ≡ find test (a ∷ range_with_len (a + 1) n)
    go later true e =
        let same : a ≡ k = grind arith in
        rw (same, hit) refl
    go later false e =
        let below : a < k = grind arith in
        rw (none a below) (later below)

pub none_found : (test : ℕ → Bool) (a n : ℕ) → ((j : ℕ) → j < a + n → test j ≡ false) → None ≡ find test (range_with_len a n)
none_found test a zero none = refl
none_found test a (suc n) none =
    let this : test a ≡ false = none a (omega arith) in
    rw this (none_found test (a + 1) n (λ j lt. none j (omega (arith, lt))))

pub first_named : (text : List ℕ) (k : ℕ) → k < 256 → names_manager text k ≡ true → ((j : ℕ) → j < k → names_manager text j ≡ false)
    → Some k ≡ manager_named text
unfolding manager_named
first_named text k lt hit none = first_found (names_manager text) 0 256 k (omega arith) lt hit none

-- No two managers have the same name.
use Rattle.std.proofs.Common.{◌≡◌, ◌==◌, ◌<◌, ◌≤◌, ◌+◌, ℕ, suc, zero, List, true, false, not, refl, sym, ◌&&◌, Bool, arith, true≢false, ◌∙◌}
use Rattle.std.proofs.lemmas.Slice.Eq.{bytes_eq-Decides}
use Rattle.std.specs.List.{list_all, range_with_len}
use Rattle.std.specs.Fmt.{digits}
use Rattle.std.specs.Str.{str_eq_ignore_ascii_case, str_to_ascii_lowercase}
use Rattle.rmgr_desc.specs.Managers.{manager_name_of}
use Rattle.rmgr_desc.specs.Naming.{has_name, names_manager}

-- two managers with the same name
abbrev pub clash : ℕ → ℕ → Bool
clash m j = has_name m && (has_name j && str_eq_ignore_ascii_case (manager_name_of m) (manager_name_of j))

abbrev pub is_new : ℕ → Bool
is_new m = list_all (λ j. not (clash m j)) (range_with_len 0 m)

pub all_new : list_all is_new (range_with_len 0 256) ≡ true
unfolding manager_name_of digits
all_new = refl

and_parts : (a b : Bool) → (a && b) ≡ true → (a ≡ true) × (b ≡ true)
and_parts true b e = (refl, e)
and_parts false b e = absurd (true≢false (sym e))

not_true : (b : Bool) → not b ≡ true → b ≡ false
not_true false e = refl
not_true true e = absurd (true≢false (sym e))

all_at : (test : ℕ → Bool) (a n j : ℕ) → list_all test (range_with_len a n) ≡ true → a ≤ j → j < a + n → test j ≡ true
all_at test a zero j h le lt = absurd (omega (arith, le, lt))
all_at test a (suc n) j h le lt =
    let parts = and_parts (test a) _ h in
    go (λ below. all_at test (a + 1) n j parts.1 (omega (arith, below)) (omega (arith, lt))) parts.0 (a == j) refl
  where
    go : (a < j → test j ≡ true) → test a ≡ true → (b : Bool) → (a == j) ≡ b → test j ≡ true
    go later this true e =
        let same : a ≡ j = grind arith in
        rw (← same) this
    go later this false e =
        let below : a < j = grind arith in
        later below

no_clash : (m j : ℕ) → m < 256 → j < m → clash m j ≡ false
no_clash m j high lt = not_true (clash m j) (all_at (λ i. not (clash m i)) 0 m j (all_at is_new 0 256 m all_new (omega arith) high) (omega arith) (omega (arith, lt)))

clashes : (text : List ℕ) (m j : ℕ) → names_manager text m ≡ true → names_manager text j ≡ true → clash m j ≡ true
clashes text m j hit other =
    let first = and_parts (has_name m) _ hit in
    let second = and_parts (has_name j) _ other in
    let same : str_to_ascii_lowercase text ≡ str_to_ascii_lowercase (manager_name_of m) = (bytes_eq-Decides _ _).0 first.1 in
    let alike : str_eq_ignore_ascii_case (manager_name_of m) (manager_name_of j) ≡ true = rw (← same) second.1 in
    rw (first.0, second.0, alike) refl

-- a text that names a manager names none of those before it
pub other_names : (text : List ℕ) (m j : ℕ) → m < 256 → names_manager text m ≡ true → j < m → names_manager text j ≡ false
other_names text m j high hit lt = go (names_manager text j) refl
  where
    go : (b : Bool) → names_manager text j ≡ b → names_manager text j ≡ false
    go false e = e
    go true e = absurd (true≢false (sym (clashes text m j hit e) ∙ no_clash m j high lt))

-- How far two histories agree.
use Rattle.std.proofs.Common.{◌≡◌, ℕ, zero, suc, ◌+◌, ◌-◌, ◌<◌, ◌≤◌, Bool, true, false, cond, List, [], ◌∷◌, Some, length, refl, sym, ap, ◌∙◌, arith, inl, inr}
use Rattle.std.specs.List.{slice_get, common_prefix_len}
use Rattle.std.specs.Prelude.{◌↔◌}
use Rattle.std.proofs.lemmas.List.Sums.{common_prefix_len-le}
use Rattle.std.proofs.lemmas.Option.{slice_get_cases, slice_get_past}
use Rattle.wal_base.specs.declared.spans.Span.{Span}
use Rattle.timeline_history.specs.declared.ancestor.Ancestor.TheVariants.{NoCommonAncestor}
use Rattle.timeline_history.specs.Ancestor.{is_same_start, agrees_at, fork_of, fork_between, fork_at, divergence_of}

one_more : (k : ℕ) → 1 + k ≡ suc k
one_more k = omega arith

-- the first place at which they don't agree
pub shared_is : (a b : List Span) (n : ℕ) → ((k : ℕ) → k < n → agrees_at a b k ≡ true) → agrees_at a b n ≡ false → common_prefix_len is_same_start a b ≡ n
shared_is [] b zero same e = refl
shared_is [] b (suc n) same e = let h = same 0 (omega arith) in absurd cc
shared_is (x ∷ a) [] zero same e = refl
shared_is (x ∷ a) [] (suc n) same e = let h = same 0 (omega arith) in absurd cc
shared_is (x ∷ a) (y ∷ b) zero same e = rw e refl
shared_is (x ∷ a) (y ∷ b) (suc n) same e =
    rw (same 0 (omega arith)) (ap (λ k. 1 + k) (shared_is a b n (λ k l. same (suc k) (omega arith)) e) ∙ one_more n)

pub agree_past : (a b : List Span) (n : ℕ) → length a ≤ n → agrees_at a b n ≡ false
agree_past a b n h = rw (slice_get_past a n h) refl

pub no_fork : (a b : List Span) → common_prefix_len is_same_start a b ≡ 0 → NoCommonAncestor ≡ divergence_of a b
unfolding divergence_of
no_fork a b h = rw h refl

pub fork_is : (a b : List Span) (shared : ℕ) → shared ≡ common_prefix_len is_same_start a b → 0 < shared
    → fork_between (slice_get a (shared - 1)) (slice_get b (shared - 1)) ≡ divergence_of a b
unfolding divergence_of
fork_is a b shared e h =
    let is : shared ≡ suc (shared - 1) = omega arith in
    ap (fork_at a b) (sym is) ∙ ap (fork_at a b) e

is_there : (a : List Span) (n : ℕ) → n < length a → (x : Span) × (slice_get a n ≡ Some x)
is_there a n h = elim ((slice_get_cases a n).1) [ inl found ↦ (found.0, found.2) | inr none ↦ absurd (omega arith) ]

-- a fork between two spans that are there
forks : (a b : List Span) (n : ℕ) → n < length a → n < length b → fork_between (slice_get a n) (slice_get b n) ≡ NoCommonAncestor → ⊥
forks a b n l m e =
    let x = is_there a n l in
    let y = is_there b n m in
    let f : fork_of x.0 y.0 ≡ NoCommonAncestor = ap (λ o. fork_between o (Some y.0)) (sym x.1) ∙ ap (fork_between (slice_get a n)) (sym y.1) ∙ e in
    absurd cc

-- there is no fork exactly where the first spans disagree
pub none_where : (a b : List Span) → (divergence_of a b ≡ NoCommonAncestor) ↔ (agrees_at a b 0 ≡ false)
unfolding divergence_of
none_where [] b = (λ _. refl, λ _. refl)
none_where (x ∷ a) [] = (λ _. refl, λ _. refl)
none_where (x ∷ a) (y ∷ b) = by (is_same_start x y) refl
  where
    by : (same : Bool) → is_same_start x y ≡ same
        → (fork_at (x ∷ a) (y ∷ b) (cond (is_same_start x y) (1 + common_prefix_len is_same_start a b) 0) ≡ NoCommonAncestor) ↔ (is_same_start x y ≡ false)
    by false e = rw e (λ _. refl, λ _. refl)
    by true e =
        let most = common_prefix_len-le is_same_start a b in
        rw (e, one_more)
        (λ none. absurd (forks (x ∷ a) (y ∷ b) (common_prefix_len is_same_start a b) (omega arith) (omega arith) none), λ no. absurd cc)

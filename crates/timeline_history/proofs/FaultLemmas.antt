-- The first fault of a file, as a function and as a relation.
use Rattle.std.proofs.Common.{◌≡◌, ◌≢◌, ℕ, zero, suc, ◌+◌, ◌<◌, ◌≤◌, List, Option, Some, None, Result, Ok, Err, MatchResult, IfOk, IfErr, length, refl, sym, ap, ◌∙◌, arith, inl, inr}
use Rattle.std.proofs.lemmas.Bool.{cases_lt}
use Rattle.std.proofs.lemmas.Option.{slice_get_past}
use Rattle.std.specs.List.{last_or}
use Rattle.std.specs.Option.{option_and_then, option_map_or, option_or}
use Rattle.std.specs.Prelude.{◌⊎◌, take}
use Rattle.wal_base.specs.declared.spans.Span.{Span}
use Rattle.timeline_history.specs.declared.fault.HistoryFault.{HistoryFault}
use Rattle.timeline_history.specs.declared.fault.HistoryFault.TheVariants.{BadLine, NotRising, OutOfMemory}
use Rattle.timeline_history.specs.Lines.{lines_of}
use Rattle.timeline_history.specs.Line.{reading_of}
use Rattle.timeline_history.specs.History.{entries_of, fault_of, fault_at, first_below, first_fault, history_of, IsFirstFault, IsFaultless, spans_of}

-- ---- the first of those at so many places

module _ {A : Type 0} (told : ℕ → Option A) where
  pub none_below : (n : ℕ) → ((k : ℕ) → k < n → told k ≡ None) → first_below told n ≡ None
  none_below zero h = refl
  none_below (suc n) h = rw (none_below n (λ k l. h k (omega arith)), h n (omega arith)) refl

  all_none : (n k : ℕ) → first_below told n ≡ None → k < n → told k ≡ None
  all_none zero k e l = absurd (omega (arith, l))
  all_none (suc n) k e l = by (all_none n k) (first_below told n) refl e
    where
      by : (first_below told n ≡ None → k < n → told k ≡ None) → (o : Option A) → first_below told n ≡ o → option_or o (told n) ≡ None → told k ≡ None
      by earlier None f e = elim (cases_lt k n) [
        | inl below ↦ earlier f below
        | inr past ↦ let same : k ≡ n = omega (arith, l, past) in ap told same ∙ e
      ]
      by earlier (Some x) f e = absurd cc

  found_below : (n at : ℕ) (x : A) → at < n → told at ≡ Some x → ((k : ℕ) → k < at → told k ≡ None) → first_below told n ≡ Some x
  found_below zero at x l e h = absurd (omega (arith, l))
  found_below (suc n) at x l e h = elim (cases_lt at n) [
    | inl below ↦ rw (found_below n at x below e h) refl
    | inr past ↦
        let same : at ≡ n = omega (arith, l, past) in
        let before : first_below told n ≡ None = none_below n (λ k m. h k (omega (arith, m, same))) in
        rw before (sym (ap told same) ∙ e)
  ]

  found_at : (n : ℕ) (x : A) → first_below told n ≡ Some x → (at : ℕ) × (told at ≡ Some x) × ((k : ℕ) → k < at → told k ≡ None)
  found_at zero x e = absurd cc
  found_at (suc n) x e = by (found_at n x) (first_below told n) refl e
    where
      by : (first_below told n ≡ Some x → (at : ℕ) × (told at ≡ Some x) × ((k : ℕ) → k < at → told k ≡ None))
          → (o : Option A) → first_below told n ≡ o → option_or o (told n) ≡ Some x → (at : ℕ) × (told at ≡ Some x) × ((k : ℕ) → k < at → told k ≡ None)
      by earlier None f e = (n, e, λ k l. all_none n k f l)
      by earlier (Some y) f e = earlier (f ∙ e)

-- ---- faults

fault_past : (tli : ℕ) (lines : List (List ℕ)) (k : ℕ) → length lines ≤ k → fault_at tli lines k ≡ None
unfolding fault_at
fault_past tli lines k h = ap (option_and_then (λ line. fault_of tli (last_or None (entries_of (take k lines))) (k + 1) (reading_of line))) (slice_get_past lines k h)

module _ (tli : ℕ) (lines : List (List ℕ)) where
  faultless : IsFaultless tli lines → first_fault tli lines ≡ None
  faultless h = none_below (fault_at tli lines) (length lines) (λ k l. h k)

  none_first : first_fault tli lines ≡ None → IsFaultless tli lines
  none_first e k = elim (cases_lt k (length lines)) [
    | inl below ↦ all_none (fault_at tli lines) (length lines) k e below
    | inr past ↦ fault_past tli lines k past
  ]

  is_first : (fault : HistoryFault) → IsFirstFault tli lines fault → first_fault tli lines ≡ Some fault
  is_first fault p = elim (cases_lt p.at (length lines)) [
    | inl below ↦ found_below (fault_at tli lines) (length lines) p.at fault below p.here p.before
    | inr past ↦ let none = sym p.here ∙ fault_past tli lines p.at past in absurd cc
  ]

  first_is : (fault : HistoryFault) → first_fault tli lines ≡ Some fault → IsFirstFault tli lines fault
  first_is fault e =
      let found = found_at (fault_at tli lines) (length lines) fault e in
      record { at = found.0; here = found.1; before = found.2 }

-- ---- what a file tells

module _ (tli : ℕ) (bytes : List ℕ) where
  pub told_where : (spans : List Span) → IsFaultless tli (lines_of bytes) × (spans ≡ spans_of tli (entries_of (lines_of bytes))) → history_of tli bytes ≡ Ok spans
  unfolding history_of
  told_where spans h = rw (faultless tli (lines_of bytes) h.0) (ap (λ s. Ok s) (sym h.1))

  pub told_only : (spans : List Span) → history_of tli bytes ≡ Ok spans → IsFaultless tli (lines_of bytes) × (spans ≡ spans_of tli (entries_of (lines_of bytes)))
  unfolding history_of
  told_only spans e = by (first_fault tli (lines_of bytes)) refl e
    where
      by : (o : Option HistoryFault) → first_fault tli (lines_of bytes) ≡ o
          → option_map_or (λ fault. Err fault) o (Ok (spans_of tli (entries_of (lines_of bytes)))) ≡ Ok spans
          → IsFaultless tli (lines_of bytes) × (spans ≡ spans_of tli (entries_of (lines_of bytes)))
      by None f e = (none_first tli (lines_of bytes) f, cc)
      by (Some fault) f e = absurd cc

  pub refused_where : (fault : HistoryFault) → IsFirstFault tli (lines_of bytes) fault → history_of tli bytes ≡ Err fault
  unfolding history_of
  refused_where fault p = rw (is_first tli (lines_of bytes) fault p) refl

  pub refused_only : (fault : HistoryFault) → history_of tli bytes ≡ Err fault → IsFirstFault tli (lines_of bytes) fault
  unfolding history_of
  refused_only fault e = by (first_fault tli (lines_of bytes)) refl e
    where
      by : (o : Option HistoryFault) → first_fault tli (lines_of bytes) ≡ o
          → option_map_or (λ fault. Err fault) o (Ok (spans_of tli (entries_of (lines_of bytes)))) ≡ Err fault
          → IsFirstFault tli (lines_of bytes) fault
      by None f e = absurd cc
      by (Some other) f e = let same : other ≡ fault = cc in first_is tli (lines_of bytes) fault (f ∙ ap (λ x. Some x) same)

  pub exact_answer : (r : Result (List Span) HistoryFault) → IfOk r (λ history. IsFaultless tli (lines_of bytes))
      → IfOk r (λ history. history ≡ spans_of tli (entries_of (lines_of bytes)))
      → IfErr r (λ fault. fault ≢ OutOfMemory → IsFirstFault tli (lines_of bytes) fault)
      → MatchResult r (λ spans. history_of tli bytes ≡ Ok spans) (λ e. (e ≡ OutOfMemory) ⊎ (history_of tli bytes ≡ Err e))
  exact_answer (Ok spans) ok is fault = told_where spans (ok, is)
  exact_answer (Err (BadLine n)) ok is fault = inr (refused_where (BadLine n) (fault (λ e. absurd cc)))
  exact_answer (Err (NotRising n)) ok is fault = inr (refused_where (NotRising n) (fault (λ e. absurd cc)))
  exact_answer (Err OutOfMemory) ok is fault = inl refl

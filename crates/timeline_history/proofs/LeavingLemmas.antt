-- Timelines rise along a history, so from the fork on two histories are never both on its timeline.
use Rattle.std.proofs.Common.{◌≡◌, ◌≢◌, ℕ, zero, suc, ◌+◌, ◌<◌, ◌≤◌, ◌==◌, Bool, true, false, cond, leb, List, [], ◌∷◌, Option, Some, None, refl, sym, ap, ◌∙◌, arith, eqb-true, ◌⊎◌, inl, inr}
use Rattle.std.proofs.lemmas.Bool.Decides.{nat_tests}
use Rattle.std.specs.List.{slice_get, common_prefix_len}
use Rattle.wal_base.specs.declared.lsn.Lsn.{Lsn}
use Rattle.wal_base.specs.declared.spans.Span.{Span}
use Rattle.wal_base.specs.Spans.{open_span, ended}
use Rattle.timeline_history.specs.declared.ancestor.Ancestor.TheVariants.{Common}
use Rattle.timeline_history.specs.declared.ancestor.Divergence.{Divergence}
use Rattle.timeline_history.specs.declared.line.Entry.{Entry}
use Rattle.timeline_history.specs.History.{is_rising, AreRising, spans_from, spans_of, IsHistory}
use Rattle.timeline_history.specs.Ancestor.{last_tli, is_same_start, smaller_end, agrees_at, fork_between, fork_at, divergence_of, tli_reaching, tli_at, SharesSpan}
use Rattle.timeline_history.proofs.HistoryLemmas.{rising_ends, last_tli_is}
use Rattle.timeline_history.proofs.LawLemmas.{heads, none_left, none_right, end_reaches, reached_first, reached_next, reaches_not}

rising_above : (tli : ℕ) (before entry : Entry) → is_rising tli (Some before) entry ≡ true → before.tli < entry.tli
rising_above tli before entry h = grind (arith, nat_tests)

rising_below : (tli : ℕ) (before : Option Entry) (entry : Entry) → is_rising tli before entry ≡ true → entry.tli < tli
rising_below tli None entry h = grind (arith, nat_tests)
rising_below tli (Some b) entry h = grind (arith, nat_tests)

-- all later timelines are greater
above_from : (tli q : ℕ) (begin : Lsn) (before : Entry) (es : List Entry) → AreRising tli (Some before) es → before.tli < tli
    → before.tli < tli_reaching (spans_from tli begin es) q
above_from tli q begin before [] rising h = h
above_from tli q begin before (e ∷ es) rising h =
    by (end_reaches q e.end.0) refl (rising_above tli before e rising.0) (above_from tli q e.end e es rising.1 (rising_below tli (Some before) e rising.0))
  where
    by : (b : Bool) → end_reaches q e.end.0 ≡ b → before.tli < e.tli → e.tli < tli_reaching (spans_from tli e.end es) q
        → before.tli < tli_reaching (spans_from tli begin (e ∷ es)) q
    by true r l more = rw (reached_first q (ended e.end (open_span e.tli begin)) (spans_from tli e.end es) r) l
    by false r l more = rw (reached_next q (ended e.end (open_span e.tli begin)) (spans_from tli e.end es) r) (omega (arith, l, more))

-- past the end of its first span a history is on a greater timeline
left_behind : (tli q : ℕ) (begin : Lsn) (before : Option Entry) (e : Entry) (es : List Entry) → AreRising tli before (e ∷ es) → e.end.0 < q
    → e.tli < tli_reaching (spans_from tli begin (e ∷ es)) q
left_behind tli q begin before e es rising l =
    rw (reached_next q (ended e.end (open_span e.tli begin)) (spans_from tli e.end es) (reaches_not q e.end.0 (rising_ends tli before e rising.0) l))
    (above_from tli q e.end e es rising.1 (rising_below tli before e rising.0))

-- a fork of what follows is on a greater timeline
fork_above : (s t : ℕ) (begin begin' : Lsn) (before : Entry) (es fs : List Entry) (fork : Divergence) → AreRising s (Some before) es → before.tli < s
    → fork_at (spans_from s begin es) (spans_from t begin' fs) (common_prefix_len is_same_start (spans_from s begin es) (spans_from t begin' fs)) ≡ Common fork
    → before.tli < fork.tli
fork_above s t begin begin' before [] [] fork p l h =
    elim (heads (open_span s begin) (open_span t begin') [] [] fork h).place [
      | inl here ↦ omega (arith, l, here.1)
      | inr later ↦ absurd (none_left [] fork later)
    ]
fork_above s t begin begin' before [] (f ∷ fs) fork p l h =
    elim (heads (open_span s begin) (ended f.end (open_span f.tli begin')) [] (spans_from t f.end fs) fork h).place [
      | inl here ↦ omega (arith, l, here.1)
      | inr later ↦ absurd (none_left (spans_from t f.end fs) fork later)
    ]
fork_above s t begin begin' before (e ∷ es) [] fork p l h =
    elim (heads (ended e.end (open_span e.tli begin)) (open_span t begin') (spans_from s e.end es) [] fork h).place [
      | inl here ↦ omega (arith, rising_above s before e p.0, here.1)
      | inr later ↦ absurd (none_right (spans_from s e.end es) fork later)
    ]
fork_above s t begin begin' before (e ∷ es) (f ∷ fs) fork p l h =
    elim (heads (ended e.end (open_span e.tli begin)) (ended f.end (open_span f.tli begin')) (spans_from s e.end es) (spans_from t f.end fs) fork h).place [
      | inl here ↦ omega (arith, rising_above s before e p.0, here.1)
      | inr later ↦
          omega (arith, rising_above s before e p.0, fork_above s t e.end f.end e es fs fork p.1 (rising_below s (Some before) e p.0) later)
    ]

is_some : (n : ℕ) → (n == 0) ≡ false → n ≢ 0
is_some n h = grind (arith, nat_tests)

-- from the smaller end on one of the two is over
one_over : (a b : Lsn) (at : ℕ) → (a.0 ≢ 0) ⊎ (b.0 ≢ 0) → (smaller_end a b).0 ≤ at → ((a.0 ≢ 0) × (a.0 ≤ at)) ⊎ ((b.0 ≢ 0) × (b.0 ≤ at))
one_over a b at h l = by (a.0 == 0) (b.0 == 0) (leb a.0 b.0) refl refl h l
  where
    by : (x y z : Bool) → (a.0 == 0) ≡ x → (b.0 == 0) ≡ y → (a.0 ≢ 0) ⊎ (b.0 ≢ 0) → let least : Lsn = cond x b (cond y a (cond z a b)) in least.0 ≤ at
        → ((a.0 ≢ 0) × (a.0 ≤ at)) ⊎ ((b.0 ≢ 0) × (b.0 ≤ at))
    by true y z e f (inl some) l = absurd (some (eqb-true a.0 0 e))
    by true y z e f (inr some) l = inr (some, l)
    by false true z e f h l = inl (is_some a.0 e, l)
    by false false true e f h l = inl (is_some a.0 e, l)
    by false false false e f h l = inr (is_some b.0 f, l)

never_both : (s t : ℕ) (begin begin' : Lsn) (before before' : Option Entry) (es fs : List Entry) (fork : Divergence) (at : ℕ) → s ≢ t → AreRising s before es → AreRising t before' fs
    → fork_at (spans_from s begin es) (spans_from t begin' fs) (common_prefix_len is_same_start (spans_from s begin es) (spans_from t begin' fs)) ≡ Common fork
    → fork.at.0 ≤ at → tli_at (spans_from s begin es) at ≡ fork.tli → tli_at (spans_from t begin' fs) at ≡ fork.tli → ⊥
never_both s t begin begin' before before' [] [] fork at apart p q h l x y = apart (heads (open_span s begin) (open_span t begin') [] [] fork h).tli
never_both s t begin begin' before before' [] (f ∷ fs) fork at apart p q h l x y =
    let hs = heads (open_span s begin) (ended f.end (open_span f.tli begin')) [] (spans_from t f.end fs) fork h in
    elim hs.place [
      | inl here ↦
          let over : f.end.0 ≤ at = omega (arith, l, ap (λ (p : Lsn). p.0) here.0) in
          omega (arith, left_behind t (at + 1) begin' before' f fs q (omega (arith, over)), y, here.1, hs.tli)
      | inr later ↦ none_left (spans_from t f.end fs) fork later
    ]
never_both s t begin begin' before before' (e ∷ es) [] fork at apart p q h l x y =
    let hs = heads (ended e.end (open_span e.tli begin)) (open_span t begin') (spans_from s e.end es) [] fork h in
    elim hs.place [
      | inl here ↦ elim (one_over e.end record { 0 = 0 } at (inl (rising_ends s before e p.0)) (omega (arith, l, ap (λ (p : Lsn). p.0) here.0))) [
        | inl over ↦ omega (arith, left_behind s (at + 1) begin before e es p (omega (arith, over.1)), x, here.1)
        | inr none ↦ absurd (none.0 refl)
      ]
      | inr later ↦ none_right (spans_from s e.end es) fork later
    ]
never_both s t begin begin' before before' (e ∷ es) (f ∷ fs) fork at apart p q h l x y =
    let hs = heads (ended e.end (open_span e.tli begin)) (ended f.end (open_span f.tli begin')) (spans_from s e.end es) (spans_from t f.end fs) fork h in
    elim hs.place [
      | inl here ↦ elim (one_over e.end f.end at (inl (rising_ends s before e p.0)) (omega (arith, l, ap (λ (p : Lsn). p.0) here.0))) [
        | inl over ↦ omega (arith, left_behind s (at + 1) begin before e es p (omega (arith, over.1)), x, here.1)
        | inr over ↦ omega (arith, left_behind t (at + 1) begin' before' f fs q (omega (arith, over.1)), y, here.1, hs.tli)
      ]
      | inr later ↦
          both (end_reaches (at + 1) e.end.0) (end_reaches (at + 1) f.end.0) refl refl hs.tli
          (fork_above s t e.end f.end e es fs fork p.1 (rising_below s before e p.0) later)
          (never_both s t e.end f.end (Some e) (Some f) es fs fork at apart p.1 q.1 later l) x y
    ]
  where
    both : (b c : Bool) → end_reaches (at + 1) e.end.0 ≡ b → end_reaches (at + 1) f.end.0 ≡ c → e.tli ≡ f.tli → e.tli < fork.tli
        → (tli_at (spans_from s e.end es) at ≡ fork.tli → tli_at (spans_from t f.end fs) at ≡ fork.tli → ⊥)
        → tli_at (spans_from s begin (e ∷ es)) at ≡ fork.tli → tli_at (spans_from t begin' (f ∷ fs)) at ≡ fork.tli → ⊥
    both true c r u same low rest x y =
        omega (arith, sym (reached_first (at + 1) (ended e.end (open_span e.tli begin)) (spans_from s e.end es) r) ∙ x, low)
    both false true r u same low rest x y =
        omega (arith, sym (reached_first (at + 1) (ended f.end (open_span f.tli begin')) (spans_from t f.end fs) u) ∙ y, low, same)
    both false false r u same low rest x y =
        rest (sym (reached_next (at + 1) (ended e.end (open_span e.tli begin)) (spans_from s e.end es) r) ∙ x)
        (sym (reached_next (at + 1) (ended f.end (open_span f.tli begin')) (spans_from t f.end fs) u) ∙ y)

pub left_at_the_fork : (a b : List Span) (fork : Divergence) (at : ℕ) → IsHistory a → IsHistory b → last_tli a ≢ last_tli b → divergence_of a b ≡ Common fork
    → fork.at.0 ≤ at → tli_at a at ≡ fork.tli → tli_at b at ≡ fork.tli → ⊥
unfolding divergence_of spans_of
left_at_the_fork a b fork at h k apart e l x y =
    let zero_lsn : Lsn = record { 0 = 0 } in
    let forked = ap (λ (x : List Span). fork_at x b (common_prefix_len is_same_start x b)) (sym h.whole) ∙ e in
    let both = ap (λ (x : List Span). fork_at (spans_from h.tli zero_lsn h.entries) x (common_prefix_len is_same_start (spans_from h.tli zero_lsn h.entries) x)) (sym k.whole) ∙ forked in
    let differ : h.tli ≢ k.tli =
    λ same. apart (ap last_tli h.whole ∙ last_tli_is h.tli h.entries ∙ same ∙ sym (ap last_tli k.whole ∙ last_tli_is k.tli k.entries)) in
    never_both h.tli k.tli zero_lsn zero_lsn None None h.entries k.entries fork at differ h.rising k.rising both l
    (ap (λ x. tli_at x at) (sym h.whole) ∙ x) (ap (λ x. tli_at x at) (sym k.whole) ∙ y)

-- ---- the span that both have

agree_below : (a b : List Span) (k : ℕ) → k < common_prefix_len is_same_start a b → agrees_at a b k ≡ true
agree_below [] b k l = absurd (omega (arith, l))
agree_below (x ∷ a) [] k l = absurd (omega (arith, l))
agree_below (x ∷ a) (y ∷ b) zero l = by (is_same_start x y) l
  where
    by : (t : Bool) → 0 < cond t (1 + common_prefix_len is_same_start a b) 0 → t ≡ true
    by true l = refl
    by false l = absurd (omega (arith, l))
agree_below (x ∷ a) (y ∷ b) (suc k) l = agree_below a b k (by (is_same_start x y) l)
  where
    by : (t : Bool) → suc k < cond t (1 + common_prefix_len is_same_start a b) 0 → k < common_prefix_len is_same_start a b
    by true l = omega (arith, l)
    by false l = absurd (omega (arith, l))

pub shared_span : (a b : List Span) (fork : Divergence) → divergence_of a b ≡ Common fork → SharesSpan a b fork
unfolding divergence_of
shared_span a b fork h = by (common_prefix_len is_same_start a b) refl h
  where
    by : (n : ℕ) → common_prefix_len is_same_start a b ≡ n → fork_at a b n ≡ Common fork → SharesSpan a b fork
    by zero e h = absurd cc
    by (suc last) e h = at_last (slice_get a last) (slice_get b last) refl refl h
      where
        at_last : (o p : Option Span) → slice_get a last ≡ o → slice_get b last ≡ p → fork_between o p ≡ Common fork → SharesSpan a b fork
        at_last None p f g h = absurd cc
        at_last (Some x) None f g h = absurd cc
        at_last (Some x) (Some y) f g h = record {
          place = last;
          first = x;
          second = y;
          in_first = f;
          in_second = g;
          agree = λ k l. agree_below a b k (omega (arith, l, e));
          tli = cc;
          end = cc;
        }

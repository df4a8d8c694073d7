-- What a fork says of the timelines of positions, and that a file has one first fault.
use Rattle.std.proofs.Common.{◌≡◌, ◌≢◌, ◌==◌, ℕ, zero, suc, ◌+◌, ◌<◌, ◌≤◌, Bool, true, false, cond, leb, List, [], ◌∷◌, Option, Some, None, refl, sym, ap, ◌∙◌, arith, eqb-true, ◌⊎◌, inl, inr}
use Rattle.std.proofs.lemmas.Bool.{cases_lt}
use Rattle.std.proofs.lemmas.Bool.Decides.{nat_tests}
use Rattle.std.specs.List.{common_prefix_len}
use Rattle.std.specs.Option.{option_map_or}
use Rattle.wal_base.proofs.HexDigits.{and_parts}
use Rattle.wal_base.specs.declared.lsn.Lsn.{Lsn}
use Rattle.wal_base.specs.declared.spans.Span.{Span}
use Rattle.wal_base.specs.Spans.{reaches, open_span, ended}
use Rattle.timeline_history.specs.declared.ancestor.Ancestor.TheVariants.{Common}
use Rattle.timeline_history.specs.declared.ancestor.Divergence.{Divergence}
use Rattle.timeline_history.specs.declared.fault.HistoryFault.{HistoryFault}
use Rattle.timeline_history.specs.declared.line.Entry.{Entry}
use Rattle.timeline_history.specs.History.{AreRising, spans_from, spans_of, fault_at, IsFirstFault, IsFaultless, IsHistory}
use Rattle.timeline_history.specs.Ancestor.{last_tli, is_same_start, smaller_end, fork_at, divergence_of, tli_reaching, tli_at}
use Rattle.timeline_history.proofs.HistoryLemmas.{rising_ends, last_tli_is}

one_more : (k : ℕ) → 1 + k ≡ suc k
one_more k = omega arith

pub reached_first : (q : ℕ) (span : Span) (spans : List Span) → reaches q span ≡ true → tli_reaching (span ∷ spans) q ≡ span.tli
reached_first q span spans e = rw e refl

pub reached_next : (q : ℕ) (span : Span) (spans : List Span) → reaches q span ≡ false → tli_reaching (span ∷ spans) q ≡ tli_reaching spans q
reached_next q span spans e = rw e refl

-- whether a span with this end reaches a position
abbrev pub end_reaches : ℕ → ℕ → Bool
end_reaches q end = option_map_or (λ end. leb q end) (cond (end == 0) None (Some end)) true

reaches_up_to : (q end : ℕ) → q ≤ end → end_reaches q end ≡ true
reaches_up_to q end h = by (end == 0)
  where
    by : (b : Bool) → option_map_or (λ end. leb q end) (cond b None (Some end)) true ≡ true
    by true = refl
    by false = grind (arith, nat_tests)

reaches_open : (q end : ℕ) → end ≡ 0 → end_reaches q end ≡ true
reaches_open q end h = rw h refl

pub reaches_not : (q end : ℕ) → end ≢ 0 → end < q → end_reaches q end ≡ false
reaches_not q end some h = by (end == 0) refl
  where
    by : (b : Bool) → (end == 0) ≡ b → option_map_or (λ end. leb q end) (cond b None (Some end)) true ≡ false
    by true e = absurd (some (eqb-true end 0 e))
    by false e = grind (arith, nat_tests)

-- both spans reach each position up to the smaller of their ends
both_reach : (q : ℕ) (a b : Lsn) → q ≤ (smaller_end a b).0 → 0 < q → (end_reaches q a.0 ≡ true) × (end_reaches q b.0 ≡ true)
both_reach q a b h some = by (a.0 == 0) (b.0 == 0) (leb a.0 b.0) refl refl refl h
  where
    by : (x y z : Bool) → (a.0 == 0) ≡ x → (b.0 == 0) ≡ y → leb a.0 b.0 ≡ z → let least : Lsn = cond x b (cond y a (cond z a b)) in q ≤ least.0
        → (end_reaches q a.0 ≡ true) × (end_reaches q b.0 ≡ true)
    by true y z e f g l = (reaches_open q a.0 (eqb-true a.0 0 e), reaches_up_to q b.0 l)
    by false true z e f g l = (reaches_up_to q a.0 l, reaches_open q b.0 (eqb-true b.0 0 f))
    by false false true e f g l = (reaches_up_to q a.0 l, reaches_up_to q b.0 (grind (arith, nat_tests)))
    by false false false e f g l = (reaches_up_to q a.0 (grind (arith, nat_tests)), reaches_up_to q b.0 l)

-- the histories agree at their first spans, and part there or later
pub record Heads (a b : Span) (xs ys : List Span) (fork : Divergence) : Type 0 where
  pub tli : a.tli ≡ b.tli
  pub begin : a.begin.0 ≡ b.begin.0
  pub place : ((fork.at ≡ smaller_end a.end b.end) × (fork.tli ≡ a.tli)) ⊎ (fork_at xs ys (common_prefix_len is_same_start xs ys) ≡ Common fork)

pub heads : (a b : Span) (xs ys : List Span) (fork : Divergence) → fork_at (a ∷ xs) (b ∷ ys) (common_prefix_len is_same_start (a ∷ xs) (b ∷ ys)) ≡ Common fork → Heads a b xs ys fork
heads a b xs ys fork h = by (is_same_start a b) (common_prefix_len is_same_start xs ys) refl refl h
  where
    starts : is_same_start a b ≡ true → (a.tli ≡ b.tli) × (a.begin.0 ≡ b.begin.0)
    starts e = let both = and_parts (a.tli == b.tli) (a.begin.0 == b.begin.0) e in (eqb-true _ _ both.0, eqb-true _ _ both.1)

    by : (same : Bool) (n : ℕ) → is_same_start a b ≡ same → common_prefix_len is_same_start xs ys ≡ n
        → fork_at (a ∷ xs) (b ∷ ys) (cond same (1 + n) 0) ≡ Common fork → Heads a b xs ys fork
    by false n e f h = absurd cc
    by true zero e f h = let both = starts e in record { tli = both.0; begin = both.1; place = inl (cc, cc) }
    by true (suc n) e f h =
        let later = rw (one_more (suc n)) at h in
        let both = starts e in
        record { tli = both.0; begin = both.1; place = inr (rw f later) }

same_begin : (s t : ℕ) (begin begin' : Lsn) (es fs : List Entry) (fork : Divergence)
    → fork_at (spans_from s begin es) (spans_from t begin' fs) (common_prefix_len is_same_start (spans_from s begin es) (spans_from t begin' fs)) ≡ Common fork
    → begin.0 ≡ begin'.0
same_begin s t begin begin' [] [] fork h = (heads (open_span s begin) (open_span t begin') [] [] fork h).begin
same_begin s t begin begin' [] (f ∷ fs) fork h =
    (heads (open_span s begin) (ended f.end (open_span f.tli begin')) [] (spans_from t f.end fs) fork h).begin
same_begin s t begin begin' (e ∷ es) [] fork h =
    (heads (ended e.end (open_span e.tli begin)) (open_span t begin') (spans_from s e.end es) [] fork h).begin
same_begin s t begin begin' (e ∷ es) (f ∷ fs) fork h =
    (heads (ended e.end (open_span e.tli begin)) (ended f.end (open_span f.tli begin')) (spans_from s e.end es) (spans_from t f.end fs) fork h).begin

-- below the end at which the first spans part
at_first : (a b : Span) (xs ys : List Span) (fork : Divergence) (at : ℕ) → Heads a b xs ys fork → fork.at ≡ smaller_end a.end b.end → at < fork.at.0
    → tli_at (a ∷ xs) at ≡ tli_at (b ∷ ys) at
at_first a b xs ys fork at h e l =
    let least : at + 1 ≤ (smaller_end a.end b.end).0 = omega (arith, ap (λ (p : Lsn). p.0) e) in
    let both = both_reach (at + 1) a.end b.end least (omega arith) in
    reached_first (at + 1) a xs both.0 ∙ h.tli ∙ sym (reached_first (at + 1) b ys both.1)

pub none_left : (ys : List Span) (fork : Divergence) → fork_at [] ys (common_prefix_len is_same_start [] ys) ≡ Common fork → ⊥
none_left ys fork h = absurd cc

pub none_right : (xs : List Span) (fork : Divergence) → fork_at xs [] (common_prefix_len is_same_start xs []) ≡ Common fork → ⊥
none_right [] fork h = absurd cc
none_right (a ∷ xs) fork h = absurd cc

same_below : (s t : ℕ) (begin begin' : Lsn) (es fs : List Entry) (fork : Divergence) (at : ℕ)
    → fork_at (spans_from s begin es) (spans_from t begin' fs) (common_prefix_len is_same_start (spans_from s begin es) (spans_from t begin' fs)) ≡ Common fork
    → at < fork.at.0 → tli_at (spans_from s begin es) at ≡ tli_at (spans_from t begin' fs) at
same_below s t begin begin' [] [] fork at h l =
    let a : Span = open_span s begin in
    let b : Span = open_span t begin' in
    let hs = heads a b [] [] fork h in
    elim hs.place [ inl here ↦ at_first a b [] [] fork at hs here.0 l | inr later ↦ absurd (none_left [] fork later) ]
same_below s t begin begin' [] (f ∷ fs) fork at h l =
    let a : Span = open_span s begin in
    let b : Span = ended f.end (open_span f.tli begin') in
    let hs = heads a b [] (spans_from t f.end fs) fork h in
    elim hs.place [ inl here ↦ at_first a b [] (spans_from t f.end fs) fork at hs here.0 l | inr later ↦ absurd (none_left (spans_from t f.end fs) fork later) ]
same_below s t begin begin' (e ∷ es) [] fork at h l =
    let a : Span = ended e.end (open_span e.tli begin) in
    let b : Span = open_span t begin' in
    let hs = heads a b (spans_from s e.end es) [] fork h in
    elim hs.place [ inl here ↦ at_first a b (spans_from s e.end es) [] fork at hs here.0 l | inr later ↦ absurd (none_right (spans_from s e.end es) fork later) ]
same_below s t begin begin' (e ∷ es) (f ∷ fs) fork at h l =
    let hs = heads (ended e.end (open_span e.tli begin)) (ended f.end (open_span f.tli begin')) (spans_from s e.end es) (spans_from t f.end fs) fork h in
    elim hs.place [
      | inl here ↦
          at_first (ended e.end (open_span e.tli begin)) (ended f.end (open_span f.tli begin')) (spans_from s e.end es) (spans_from t f.end fs) fork at hs here.0 l
      | inr later ↦ both (end_reaches (at + 1) e.end.0) refl hs.tli (same_begin s t e.end f.end es fs fork later) (same_below s t e.end f.end es fs fork at later l)
    ]
  where
    both : (b : Bool) → end_reaches (at + 1) e.end.0 ≡ b → e.tli ≡ f.tli → e.end.0 ≡ f.end.0 → tli_at (spans_from s e.end es) at ≡ tli_at (spans_from t f.end fs) at
        → tli_at (spans_from s begin (e ∷ es)) at ≡ tli_at (spans_from t begin' (f ∷ fs)) at
    both true r tli end rest =
        reached_first (at + 1) (ended e.end (open_span e.tli begin)) (spans_from s e.end es) r
        ∙ tli
        ∙ sym (reached_first (at + 1) (ended f.end (open_span f.tli begin')) (spans_from t f.end fs) (ap (end_reaches (at + 1)) (sym end) ∙ r))
    both false r tli end rest =
        reached_next (at + 1) (ended e.end (open_span e.tli begin)) (spans_from s e.end es) r
        ∙ rest
        ∙ sym (reached_next (at + 1) (ended f.end (open_span f.tli begin')) (spans_from t f.end fs) (ap (end_reaches (at + 1)) (sym end) ∙ r))

pub below_the_fork : (a b : List Span) (fork : Divergence) (at : ℕ) → IsHistory a → IsHistory b → divergence_of a b ≡ Common fork → at < fork.at.0 → tli_at a at ≡ tli_at b at
unfolding divergence_of spans_of
below_the_fork a b fork at h k e l =
    let zero_lsn : Lsn = record { 0 = 0 } in
    let forked = ap (λ (x : List Span). fork_at x b (common_prefix_len is_same_start x b)) (sym h.whole) ∙ e in
    let both = ap (λ (x : List Span). fork_at (spans_from h.tli zero_lsn h.entries) x (common_prefix_len is_same_start (spans_from h.tli zero_lsn h.entries) x)) (sym k.whole) ∙ forked in
    ap (λ x. tli_at x at) h.whole ∙ same_below h.tli k.tli zero_lsn zero_lsn h.entries k.entries fork at both l ∙ ap (λ x. tli_at x at) (sym k.whole)

-- a position past every end

all_ends : List Entry → ℕ
all_ends [] = 0
all_ends (e ∷ es) = e.end.0 + all_ends es

past_ends : (tli q : ℕ) (begin : Lsn) (before : Option Entry) (es : List Entry) → AreRising tli before es → all_ends es < q → tli_reaching (spans_from tli begin es) q ≡ tli
unfolding all_ends
past_ends tli q begin before [] rising h = refl
past_ends tli q begin before (e ∷ es) rising h =
    reached_next q (ended e.end (open_span e.tli begin)) (spans_from tli e.end es) (reaches_not q e.end.0 (rising_ends tli before e rising.0) (omega arith))
    ∙ past_ends tli q e.end (Some e) es rising.1 (omega arith)

past_all : (a : List Span) (h : IsHistory a) (at : ℕ) → all_ends h.entries ≤ at → tli_at a at ≡ last_tli a
unfolding spans_of
past_all a h at l =
    ap (λ x. tli_at x at) h.whole
    ∙ past_ends h.tli (at + 1) record { 0 = 0 } None h.entries h.rising (omega arith)
    ∙ sym (last_tli_is h.tli h.entries)
    ∙ ap last_tli (sym h.whole)

pub past_the_fork : (a b : List Span) (from : ℕ) → IsHistory a → IsHistory b → last_tli a ≢ last_tli b → (at : ℕ) × (from ≤ at) × (tli_at a at ≢ tli_at b at)
past_the_fork a b from h k apart =
    let at : ℕ = from + all_ends h.entries + all_ends k.entries in
    (at, omega arith, λ same. apart (sym (past_all a h at (omega arith)) ∙ same ∙ past_all b k at (omega arith)))

-- the position of a fork

smaller_is_there : (a b : Lsn) → (a.0 ≢ 0) ⊎ (b.0 ≢ 0) → (smaller_end a b).0 ≢ 0
smaller_is_there a b h = by (a.0 == 0) (b.0 == 0) (leb a.0 b.0) refl refl h
  where
    by : (x y z : Bool) → (a.0 == 0) ≡ x → (b.0 == 0) ≡ y → (a.0 ≢ 0) ⊎ (b.0 ≢ 0) → let least : Lsn = cond x b (cond y a (cond z a b)) in least.0 ≢ 0
    by true y z e f (inl some) none = some (eqb-true a.0 0 e)
    by true y z e f (inr some) none = some none
    by false true z e f h none = grind (arith, nat_tests)
    by false false true e f h none = grind (arith, nat_tests)
    by false false false e f h none = grind (arith, nat_tests)

fork_is_there : (s t : ℕ) (begin begin' : Lsn) (before before' : Option Entry) (es fs : List Entry) (fork : Divergence) → s ≢ t → AreRising s before es → AreRising t before' fs
    → fork_at (spans_from s begin es) (spans_from t begin' fs) (common_prefix_len is_same_start (spans_from s begin es) (spans_from t begin' fs)) ≡ Common fork
    → fork.at.0 ≢ 0
fork_is_there s t begin begin' before before' [] [] fork apart p q h = absurd (apart (heads (open_span s begin) (open_span t begin') [] [] fork h).tli)
fork_is_there s t begin begin' before before' [] (f ∷ fs) fork apart p q h =
    let hs = heads (open_span s begin) (ended f.end (open_span f.tli begin')) [] (spans_from t f.end fs) fork h in
    elim hs.place [
      | inl here ↦ λ none. smaller_is_there record { 0 = 0 } f.end (inr (rising_ends t before' f q.0)) (sym (ap (λ (x : Lsn). x.0) here.0) ∙ none)
      | inr later ↦ absurd (none_left (spans_from t f.end fs) fork later)
    ]
fork_is_there s t begin begin' before before' (e ∷ es) [] fork apart p q h =
    let hs = heads (ended e.end (open_span e.tli begin)) (open_span t begin') (spans_from s e.end es) [] fork h in
    elim hs.place [
      | inl here ↦ λ none. smaller_is_there e.end record { 0 = 0 } (inl (rising_ends s before e p.0)) (sym (ap (λ (x : Lsn). x.0) here.0) ∙ none)
      | inr later ↦ absurd (none_right (spans_from s e.end es) fork later)
    ]
fork_is_there s t begin begin' before before' (e ∷ es) (f ∷ fs) fork apart p q h =
    let hs = heads (ended e.end (open_span e.tli begin)) (ended f.end (open_span f.tli begin')) (spans_from s e.end es) (spans_from t f.end fs) fork h in
    elim hs.place [
      | inl here ↦ λ none. smaller_is_there e.end f.end (inl (rising_ends s before e p.0)) (sym (ap (λ (x : Lsn). x.0) here.0) ∙ none)
      | inr later ↦ fork_is_there s t e.end f.end (Some e) (Some f) es fs fork apart p.1 q.1 later
    ]

pub fork_has_position : (a b : List Span) (fork : Divergence) → IsHistory a → IsHistory b → last_tli a ≢ last_tli b → divergence_of a b ≡ Common fork → fork.at.0 ≢ 0
unfolding divergence_of spans_of
fork_has_position a b fork h k apart e =
    let zero_lsn : Lsn = record { 0 = 0 } in
    let forked = ap (λ (x : List Span). fork_at x b (common_prefix_len is_same_start x b)) (sym h.whole) ∙ e in
    let both = ap (λ (x : List Span). fork_at (spans_from h.tli zero_lsn h.entries) x (common_prefix_len is_same_start (spans_from h.tli zero_lsn h.entries) x)) (sym k.whole) ∙ forked in
    let differ : h.tli ≢ k.tli =
    λ same. apart (ap last_tli h.whole ∙ last_tli_is h.tli h.entries ∙ same ∙ sym (ap last_tli k.whole ∙ last_tli_is k.tli k.entries)) in
    fork_is_there h.tli k.tli zero_lsn zero_lsn None None h.entries k.entries fork differ h.rising k.rising both

-- ---- faults

pub single_fault : (tli : ℕ) (lines : List (List ℕ)) (one other : HistoryFault) → IsFirstFault tli lines one → IsFirstFault tli lines other → one ≡ other
single_fault tli lines one other p q = elim (cases_lt p.at q.at) [
  | inl l ↦ absurd (some_or_none one (sym p.here ∙ q.before p.at l))
  | inr m ↦ elim (cases_lt q.at p.at) [
    | inl l ↦ absurd (some_or_none other (sym q.here ∙ p.before q.at l))
    | inr n ↦
        let same : p.at ≡ q.at = omega arith in
        let found = sym p.here ∙ ap (fault_at tli lines) same ∙ q.here in
        cc
  ]
]
  where
    some_or_none : (fault : HistoryFault) → Some fault ≡ None → ⊥
    some_or_none fault e = absurd cc

pub no_fault : (tli : ℕ) (lines : List (List ℕ)) (fault : HistoryFault) → IsFaultless tli lines → IsFirstFault tli lines fault → ⊥
no_fault tli lines fault none p = let e = sym p.here ∙ none p.at in absurd cc

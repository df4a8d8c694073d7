-- Lists of spans.
use Rattle.std.proofs.Common.{◌≡◌, ℕ, ◌-◌, Bool, true, false, cond, List, [], ◌∷◌, ◌++◌, Some, None, length, take, drop, set, get_or, map, find, refl, sym, ap, ◌∙◌, arith, length-append, append_assoc}
use Rattle.std.proofs.Math.Seq.{take-append_seam, drop-append_seam}
use Rattle.wal_base.specs.declared.lsn.Lsn.{Lsn}
use Rattle.wal_base.specs.declared.spans.Span.{Span}
use Rattle.wal_base.specs.Spans.{end_of, reaches, open_span, ended, last_ended, IsOpen}

open_reaches : (at : ℕ) (span : Span) → end_of span ≡ None → reaches at span ≡ true
open_reaches at span e = rw e refl

found : (p : Span → Bool) (front : List Span) (last : Span) → p last ≡ true → (span : Span) × (find p (front ++ last ∷ []) ≡ Some span)
found p [] last e = (last, rw e refl)
found p (x ∷ front) last e = by (p x) refl (found p front last e)
  where
    by : (b : Bool) → p x ≡ b → (span : Span) × (find p (front ++ last ∷ []) ≡ Some span)
        → (span : Span) × (cond (p x) (Some x) (find p (front ++ last ∷ [])) ≡ Some span)
    by true is more = (x, rw is refl)
    by false is more = (more.0, rw is more.1)

-- some span reaches each position
pub some_reaches : (at : ℕ) (spans : List Span) → IsOpen spans → (span : Span) × (find (reaches at) spans ≡ Some span)
some_reaches at spans o =
    let h = found (reaches at) o.front o.last (open_reaches at o.last o.open_end) in
    (h.0, ap (find (reaches at)) o.whole ∙ h.1)

set_seam : (front : List Span) (l x : Span) (rest : List Span) → set (front ++ l ∷ rest) (length front) x ≡ front ++ x ∷ rest
set_seam [] l x rest = refl
set_seam (y ∷ front) l x rest = ap (λ more. y ∷ more) (set_seam front l x rest)

one_less : (front : List Span) (l : Span) → length (front ++ l ∷ []) - 1 ≡ length front
one_less front l = omega (arith, length-append front (l ∷ []))

get_seam : (front : List Span) (l d : Span) (rest : List Span) → get_or (front ++ l ∷ rest) (length front) d ≡ l
get_seam [] l d rest = refl
get_seam (y ∷ front) l d rest = get_seam front l d rest

last_ended_is : (front : List Span) (l : Span) (end : Lsn) → last_ended (front ++ l ∷ []) end ≡ front ++ ended end l ∷ []
last_ended_is front l end =
    ap (λ k. take k (front ++ l ∷ []) ++ map (ended end) (drop k (front ++ l ∷ []))) (one_less front l)
    ∙ ap (λ spans. spans ++ map (ended end) (drop (length front) (front ++ l ∷ []))) (take-append_seam front (l ∷ []))
    ∙ ap (λ spans. front ++ map (ended end) spans) (drop-append_seam front (l ∷ []))

pub open_at_end : (spans : List Span) (tli : ℕ) (begin : Lsn) → IsOpen (spans ++ open_span tli begin ∷ [])
open_at_end spans tli begin = record { front = spans; last = open_span tli begin; whole = refl; open_end = refl }

-- the last span ended in place, after one more was pushed
pub ended_and_added : (old : List Span) → IsOpen old → (tli : ℕ) (end : Lsn) (pushed : List Span) (at : ℕ) (was : Span)
    → pushed ≡ old ++ open_span tli end ∷ [] → at ≡ length old - 1 → was ≡ get_or pushed at was
    → set pushed at (ended end was) ≡ last_ended old end ++ open_span tli end ∷ []
ended_and_added old o tli end pushed at was p a w =
    let front : List Span = o.front in
    let l : Span = o.last in
    let fresh : Span = open_span tli end in
    let place : at ≡ length front = a ∙ ap (λ spans. length spans - 1) o.whole ∙ one_less front l in
    let spans_are : pushed ≡ front ++ l ∷ fresh ∷ [] = p ∙ ap (λ spans. spans ++ fresh ∷ []) o.whole ∙ append_assoc front (l ∷ []) (fresh ∷ []) in
    let was_is : was ≡ l =
    w ∙ ap (λ spans. get_or spans at was) spans_are ∙ ap (λ k. get_or (front ++ l ∷ fresh ∷ []) k was) place ∙ get_seam front l was (fresh ∷ []) in
    ap (λ spans. set spans at (ended end was)) spans_are
    ∙ ap (λ k. set (front ++ l ∷ fresh ∷ []) k (ended end was)) place
    ∙ set_seam front l (ended end was) (fresh ∷ [])
    ∙ ap (λ span. front ++ ended end span ∷ fresh ∷ []) was_is
    ∙ sym (append_assoc front (ended end l ∷ []) (fresh ∷ []))
    ∙ ap (λ spans. spans ++ fresh ∷ []) (sym (ap (λ spans. last_ended spans end) o.whole ∙ last_ended_is front l end))

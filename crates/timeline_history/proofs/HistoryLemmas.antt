-- The spans that entries give.
use Rattle.std.proofs.Common.{◌≡◌, ◌≢◌, ℕ, suc, ◌-◌, ◌<◌, true, List, [], ◌∷◌, ◌++◌, Option, Some, None, Result, Ok, Err, IfOk, length, take, drop, map, refl, ap, ◌∙◌, append_assoc, arith, length-append}
use Rattle.std.proofs.lemmas.Bool.Decides.{nat_tests}
use Rattle.std.proofs.Math.Seq.{take-append_seam, drop-append_seam}
use Rattle.std.specs.List.{AllByRecursion, slice_get}
use Rattle.std.specs.Option.{option_map_or}
use Rattle.wal_base.specs.declared.lsn.Lsn.{Lsn}
use Rattle.wal_base.specs.declared.spans.Span.{Span}
use Rattle.wal_base.specs.Spans.{open_span, ended, last_ended}
use Rattle.timeline_history.specs.declared.line.Entry.{Entry}
use Rattle.timeline_history.specs.Ancestor.{last_tli}
use Rattle.timeline_history.specs.History.{is_rising, AreRising, spans_from, spans_of}

-- an entry whose position isn't 0
abbrev pub IsEnded : Entry → Type 0
IsEnded entry = entry.end.0 ≢ 0

pub rising_ends : (tli : ℕ) (before : Option Entry) (entry : Entry) → is_rising tli before entry ≡ true → IsEnded entry
rising_ends tli None entry h = grind (arith, nat_tests)
rising_ends tli (Some b) entry h = grind (arith, nat_tests)

pub all_end : (tli : ℕ) (before : Option Entry) (entries : List Entry) → AreRising tli before entries → AllByRecursion IsEnded entries
all_end tli before [] rising = tt
all_end tli before (entry ∷ entries) rising = (rising_ends tli before entry rising.0, all_end tli (Some entry) entries rising.1)

one_less : (front : List Span) (l : Span) → length (front ++ l ∷ []) - 1 ≡ length front
one_less front l = omega (arith, length-append front (l ∷ []))

last_ended_is : (front : List Span) (l : Span) (end : Lsn) → last_ended (front ++ l ∷ []) end ≡ front ++ ended end l ∷ []
last_ended_is front l end =
    ap (λ k. take k (front ++ l ∷ []) ++ map (ended end) (drop k (front ++ l ∷ []))) (one_less front l)
    ∙ ap (λ spans. spans ++ map (ended end) (drop (length front) (front ++ l ∷ []))) (take-append_seam front (l ∷ []))
    ∙ ap (λ spans. front ++ map (ended end) spans) (drop-append_seam front (l ∷ []))

-- the spans so far, the last of them ended at `end`, and those of the entries that are left
abbrev pub spans_with : ℕ → List Span → Lsn → List Entry → List Span
spans_with tli spans end left = last_ended spans end ++ spans_from tli end left

pub first_span : (tli : ℕ) (entry : Entry) (left : List Entry) → spans_with tli (open_span entry.tli record { 0 = 0 } ∷ []) entry.end left ≡ spans_of tli (entry ∷ left)
unfolding spans_of
first_span tli entry left = refl

pub next_span : (tli : ℕ) (spans spans' : List Span) (end : Lsn) (entry : Entry) (left : List Entry)
    → spans' ≡ last_ended spans end ++ open_span entry.tli end ∷ [] → spans_with tli spans' entry.end left ≡ spans_with tli spans end (entry ∷ left)
next_span tli spans spans' end entry left h =
    ap (λ s. spans_with tli s entry.end left) h
    ∙ ap (λ s. s ++ spans_from tli entry.end left) (last_ended_is (last_ended spans end) (open_span entry.tli end) entry.end)
    ∙ append_assoc (last_ended spans end) (ended entry.end (open_span entry.tli end) ∷ []) (spans_from tli entry.end left)

pub no_entries : (tli : ℕ) (entries : List Entry) → length entries < 1 → open_span tli record { 0 = 0 } ∷ [] ≡ spans_of tli entries
unfolding spans_of
no_entries tli [] h = refl
no_entries tli (entry ∷ entries) h = absurd (omega arith)

-- a history ends with its own timeline

length_spans : (tli : ℕ) (begin : Lsn) (entries : List Entry) → length (spans_from tli begin entries) ≡ suc (length entries)
length_spans tli begin [] = refl
length_spans tli begin (entry ∷ entries) = ap suc (length_spans tli entry.end entries)

last_span : (tli : ℕ) (begin : Lsn) (entries : List Entry) → (at : Lsn) × (slice_get (spans_from tli begin entries) (length entries) ≡ Some (open_span tli at))
last_span tli begin [] = (begin, refl)
last_span tli begin (entry ∷ entries) = last_span tli entry.end entries

pub last_tli_is : (tli : ℕ) (entries : List Entry) → last_tli (spans_of tli entries) ≡ tli
unfolding spans_of
last_tli_is tli entries =
    let spans : List Span = spans_from tli record { 0 = 0 } entries in
    let place : length spans - 1 ≡ length entries = omega (arith, length_spans tli record { 0 = 0 } entries) in
    ap (λ k. option_map_or (λ span. span.tli) (slice_get spans k) 0) place
    ∙ ap (λ o. option_map_or (λ span. span.tli) o 0) (last_span tli record { 0 = 0 } entries).1

pub last_of_spans : {E : Type 0} (tli : ℕ) (entries : List Entry) (r : Result (List Span) E) → IfOk r (λ history. history ≡ spans_of tli entries) → IfOk r (λ history. last_tli history ≡ tli)
last_of_spans tli entries (Ok history) is = ap last_tli is ∙ last_tli_is tli entries
last_of_spans tli entries (Err e) is = tt

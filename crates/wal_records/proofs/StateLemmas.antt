-- The bytes of a written log have each of its records at its place.
use Rattle.std.proofs.Common.{◌≡◌, ◌⊎◌, ℕ, ◌+◌, ◌-◌, ◌%◌, ◌<◌, ◌++◌, List, drop, length, replicate, refl, sym, ap, ◌∙◌, append_assoc, arith, inl, inr, length-append}
use Rattle.std.proofs.lemmas.List.{drop_at, drop-append-le}
use Rattle.wal_base.specs.Segment.{bytes_of}
use Rattle.wal_pages.specs.Header.{header_size, page_of}
use Rattle.wal_records.specs.declared.log_origin.LogOrigin.{LogOrigin}
use Rattle.wal_records.specs.Place.{place_at}
use Rattle.wal_records.specs.Extent.{behind_of}
use Rattle.wal_records.specs.Writer.{NewRecord, Written, begun, page_header, lead, laid, record_bytes, end_from, appended}
use Rattle.wal_records.specs.Again.{IsWrittenAt}
use Rattle.wal_records.specs.Sound.{HasPage, IsSound}
use Rattle.wal_records.proofs.FurtherLemmas.{header_short}
use Rattle.wal_records.proofs.WriterLemmas.{lead_first, lead_page, lead_reaches, place_of_page, place_inside, long_size, length-page_header}
use Rattle.wal_records.proofs.AppendLemmas.{origin_page}
use Rattle.wal_records.proofs.EndLemmas.{header_eights}

-- what was added for a record, and what comes behind it
pub grown : (w : Written) (r : NewRecord) → (appended w r).bytes ≡ w.bytes ++ (lead w.origin w.end ++ laid w.origin (place_at (bytes_of w.origin.size) w.end) (record_bytes w.before r)
    ++ replicate (end_from w.origin w.before w.end r - behind_of (bytes_of w.origin.size) (place_at (bytes_of w.origin.size) w.end) (length (record_bytes w.before r))) 0)
unfolding appended
grown w r = refl

five : (a b c d e : List ℕ) → (a ++ ((b ++ c) ++ d)) ++ e ≡ (a ++ b) ++ (c ++ (d ++ e))
five a b c d e = simp append_assoc

pub begun_sound : (o : LogOrigin) → o.start % bytes_of o.size ≡ 0 → IsSound (begun o)
begun_sound o s = record { starts = s; aligned = omega (arith, origin_page o s); state = inl (record { end = refl; bytes = refl }) }

from_first : (o : LogOrigin) (at place : ℕ) (bytes rec all after : List ℕ) → o.start % bytes_of o.size ≡ 0 → at ≡ o.start → bytes ≡ page_header o o.start 0 → place ≡ place_at (bytes_of o.size) at
    → all ≡ (bytes ++ lead o at) ++ (laid o place rec ++ after) → drop (place - o.start) all ≡ laid o place rec ++ after → IsWrittenAt o all place rec
from_first o at place bytes rec all after s e b p f l =
    let size : ℕ = bytes_of o.size in
    let page = origin_page o s in
    let is : place ≡ at + header_size size at = p ∙ place_of_page size at (omega (arith, e, page)) in
    let first : page_of place ≡ o.start = omega (arith, is, e, page, header_short size at) in
    let none = lead_first o at e in
    let more : List ℕ = lead o at ++ (laid o place rec ++ after) in
    let whole : drop (page_of place - o.start) all ≡ page_header o (page_of place) 0 ++ more =
    let zero : page_of place - o.start ≡ 0 = omega (arith, first) in
    ap (λ (n : ℕ). drop n all) zero ∙ f ∙ append_assoc bytes (lead o at) (laid o place rec ++ after) ∙ ap (λ (t : List ℕ). t ++ more) (b ∙ ap (λ (q : ℕ). page_header o q 0) (sym first)) in
    record {
      left = 0;
      rest = more;
      after = after;
      aligned = omega (arith, is, e, page, header_eights size at);
      behind = omega (arith, ap (header_size size) (first ∙ sym e), is, e, page, header_short size at);
      from = omega (arith, first);
      few = omega arith;
      fresh = λ _. refl;
      head = whole;
      laid = l;
    }

from_page_end : (o : LogOrigin) (at place : ℕ) (bytes rec all after : List ℕ) → at % 8192 ≡ 0 → o.start < at → o.start + length bytes ≡ at → place ≡ place_at (bytes_of o.size) at
    → all ≡ (bytes ++ lead o at) ++ (laid o place rec ++ after) → drop (place - o.start) all ≡ laid o place rec ++ after → IsWrittenAt o all place rec
from_page_end o at place bytes rec all after page later reach p f l =
    let size : ℕ = bytes_of o.size in
    let is : place ≡ at + header_size size at = p ∙ place_of_page size at page in
    let first : page_of place ≡ at = omega (arith, is, page, header_short size at) in
    let more : List ℕ = laid o place rec ++ after in
    let whole : drop (page_of place - o.start) all ≡ page_header o (page_of place) 0 ++ more =
    let n : page_of place - o.start ≡ length bytes = omega (arith, first, reach) in
    ap (λ (k : ℕ). drop k all) n ∙ ap (drop (length bytes)) (f ∙ append_assoc bytes (lead o at) more) ∙ drop_at bytes (lead o at ++ more) (length bytes) refl
    ∙ ap (λ (t : List ℕ). t ++ more) (lead_page o at (λ e. omega (arith, e, later)) page ∙ ap (λ (q : ℕ). page_header o q 0) (sym first)) in
    record {
      left = 0;
      rest = more;
      after = after;
      aligned = omega (arith, is, page, header_eights size at);
      behind = omega (arith, ap (header_size size) first, is, page, header_short size at);
      from = omega (arith, first, later);
      few = omega arith;
      fresh = λ _. refl;
      head = whole;
      laid = l;
    }

from_in_page : (o : LogOrigin) (at place : ℕ) (bytes rec all after : List ℕ) → at % 8 ≡ 0 → o.start + length bytes ≡ at → HasPage o bytes at → place ≡ place_at (bytes_of o.size) at
    → all ≡ (bytes ++ lead o at) ++ (laid o place rec ++ after) → drop (place - o.start) all ≡ laid o place rec ++ after → IsWrittenAt o all place rec
from_in_page o at place bytes rec all after a reach h p f l =
    let size : ℕ = bytes_of o.size in
    let is : place ≡ at = p ∙ place_inside size at (λ e. omega (arith, e, h.behind)) in
    let same : page_of place ≡ page_of at = ap page_of is in
    let more : List ℕ = lead o at ++ (laid o place rec ++ after) in
    let whole : drop (page_of place - o.start) all ≡ page_header o (page_of place) h.left ++ (h.rest ++ more) =
    ap (λ (q : ℕ). drop (q - o.start) all) same ∙ ap (drop (page_of at - o.start)) (f ∙ append_assoc bytes (lead o at) (laid o place rec ++ after))
    ∙ drop-append-le (page_of at - o.start) bytes more (omega (arith, reach, h.from)) ∙ ap (λ (t : List ℕ). t ++ more) h.head ∙ append_assoc (page_header o (page_of at) h.left) h.rest more
    ∙ ap (λ (q : ℕ). page_header o q h.left ++ (h.rest ++ more)) (sym same) in
    record {
      left = h.left;
      rest = h.rest ++ more;
      after = after;
      aligned = omega (arith, is, a);
      behind = omega (arith, ap (header_size size) same, is, h.behind);
      from = omega (arith, same, h.from);
      few = h.few;
      fresh = λ e. absurd (omega (arith, e, ap (header_size size) same, is, h.behind));
      head = whole;
      laid = l;
    }

pub reached : (w : Written) → IsSound w → ((w.end ≡ w.origin.start) × (length w.bytes ≡ 40)) ⊎ ((w.origin.start < w.end) × (w.origin.start + length w.bytes ≡ w.end))
reached w s = elim s.state [
  | inl a ↦ inl (a.end, ap length a.bytes ∙ length-page_header w.origin w.origin.start 0 ∙ long_size (bytes_of w.origin.size) w.origin.start s.starts)
  | inr b ↦ elim b [ inl p ↦ inr (p.later, p.reach) | inr q ↦ inr (q.later, q.reach) ]
]

pub written_at : (w : Written) (r : NewRecord) (all after : List ℕ) → IsSound w → all ≡ (appended w r).bytes ++ after → IsWrittenAt w.origin all (place_at (bytes_of w.origin.size) w.end) (record_bytes w.before r)
written_at w r all after s e =
    let o : LogOrigin = w.origin in
    let at : ℕ = w.end in
    let place : ℕ = place_at (bytes_of o.size) at in
    let rec : List ℕ = record_bytes w.before r in
    let pad : List ℕ = replicate (end_from o w.before at r - behind_of (bytes_of o.size) place (length rec)) 0 in
    let whole : all ≡ (w.bytes ++ lead o at) ++ (laid o place rec ++ (pad ++ after)) = e ∙ ap (λ (t : List ℕ). t ++ after) (grown w r) ∙ five w.bytes (lead o at) (laid o place rec) pad after in
    let reach = lead_reaches o at (length w.bytes) s.starts (origin_page o s.starts) (reached w s) in
    let n : length (w.bytes ++ lead o at) ≡ place - o.start = omega (arith, length-append w.bytes (lead o at), reach) in
    let here : drop (place - o.start) all ≡ laid o place rec ++ (pad ++ after) = ap (drop (place - o.start)) whole ∙ drop_at (w.bytes ++ lead o at) (laid o place rec ++ (pad ++ after)) (place - o.start) n in
    elim s.state [
      | inl a ↦ from_first o at place w.bytes rec all (pad ++ after) s.starts a.end a.bytes refl whole here
      | inr b ↦ elim b [
        | inl p ↦ from_page_end o at place w.bytes rec all (pad ++ after) p.page p.later p.reach refl whole here
        | inr q ↦ from_in_page o at place w.bytes rec all (pad ++ after) s.aligned q.reach q.has refl whole here
      ]
    ]

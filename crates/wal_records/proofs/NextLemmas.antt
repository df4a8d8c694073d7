-- A log stays sound when a record is appended.
use Rattle.std.proofs.Common.{◌≡◌, ℕ, zero, suc, ◌+◌, ◌-◌, ◌*◌, ◌/◌, ◌%◌, ◌^◌, ◌<◌, ◌≤◌, ◌++◌, min, Bool, true, false, cond, List, [], take, drop, length, replicate, refl, sym, ap, ◌∙◌, append_assoc, arith, inl, inr, length-append, length-drop, length-take, mul_assoc, subst}
use Rattle.std.proofs.lemmas.List.{drop_at, drop-drop, append-nil}
use Rattle.std.proofs.lemmas.Bool.{cases_eq, cases_lt}
use Rattle.wal_base.proofs.SizeLemmas.{size_facts}
use Rattle.wal_base.specs.Segment.{bytes_of}
use Rattle.wal_pages.specs.Header.{header_size, page_of}
use Rattle.wal_records.specs.declared.header.RecordHeader.{RecordHeader}
use Rattle.wal_records.specs.declared.log_origin.LogOrigin.{LogOrigin}
use Rattle.wal_records.specs.Place.{place_at, segment_end_at}
use Rattle.wal_records.specs.Header.{header_of}
use Rattle.wal_records.specs.Further.{room}
use Rattle.wal_records.specs.Extent.{behind_of, is_switch, end_of}
use Rattle.wal_records.specs.Writer.{NewRecord, Written, page_header, pages_from, lead, laid, record_bytes, end_from, appended}
use Rattle.wal_records.specs.Again.{IsNew, IsWrittenAt}
use Rattle.wal_records.specs.Sound.{HasPage, IsSound}
use Rattle.wal_records.proofs.FurtherLemmas.{room_some}
use Rattle.wal_records.proofs.ExtentLemmas.{all_behind, end_behind}
use Rattle.wal_records.proofs.WriterLemmas.{laid_is, laid_reaches, pages_none, pages_more, parts_length, length-page_header, header_and_room, length_record_bytes, lead_reaches}
use Rattle.wal_records.proofs.AppendLemmas.{size_some, origin_page, end_is, end_aligned, added_length}
use Rattle.wal_records.proofs.StateLemmas.{written_at, reached, grown}

-- the last of the further pages of a record
pub record LastPage (o : LogOrigin) (b : List ℕ) (page left : ℕ) : Type 0 where
  pub at : ℕ
  pub rest : ℕ
  pub front : List ℕ
  pub behind : List ℕ
  pub is : pages_from o b page left ≡ front ++ (page_header o at rest ++ behind)
  pub there : at ≡ page + length front
  pub whole : at % 8192 ≡ 0
  pub fewer : rest ≤ left
  pub within : at + header_size (bytes_of o.size) at < page + length (pages_from o b page left)
  pub reach : page + length (pages_from o b page left) ≤ at + 8192

pub last_page : (o : LogOrigin) (b : List ℕ) (n page left : ℕ) → 0 < left → left ≤ n → left ≤ length b → page % 8192 ≡ 0 → LastPage o b page left
last_page o b zero page left some most fits p = absurd (omega arith)
last_page o b (suc n) page left some most fits p =
    let size : ℕ = bytes_of o.size in
    let space : ℕ = room size page in
    let head : List ℕ = page_header o page left in
    let piece : List ℕ = take space (drop (length b - left) b) in
    let next : List ℕ = pages_from o b (page + 8192) (left - space) in
    let more = pages_more o b page left some in
    let parts = ap length more ∙ parts_length head piece next (header_size size page) (length-page_header o page left) in
    let piece_size : length piece ≡ min left space = length-take space (drop (length b - left) b) ∙ omega (arith, length-drop (length b - left) b) in
    elim (cases_lt 0 (left - space)) [
      | inl onward ↦
          let rec = last_page o b n (page + 8192) (left - space) onward (omega (arith, room_some size page)) (omega arith) (omega arith) in
          record {
            at = rec.at;
            rest = rec.rest;
            front = (head ++ piece) ++ rec.front;
            behind = rec.behind;
            is = more ∙ ap (λ (t : List ℕ). (head ++ piece) ++ t) rec.is ∙ sym (append_assoc (head ++ piece) rec.front (page_header o rec.at rec.rest ++ rec.behind));
            there = omega (arith, rec.there, length-append (head ++ piece) rec.front, length-append head piece, length-page_header o page left, piece_size, header_and_room size page, onward);
            whole = rec.whole;
            fewer = omega (arith, rec.fewer);
            within = omega (arith, rec.within, parts, piece_size, header_and_room size page, onward);
            reach = omega (arith, rec.reach, parts, piece_size, header_and_room size page, onward);
          }
      | inr none ↦
          let last = ap length (pages_none o b (page + 8192) (left - space) (omega arith)) in
          record {
            at = page;
            rest = left;
            front = [];
            behind = piece ++ next;
            is = more ∙ append_assoc head piece next;
            there = omega arith;
            whole = p;
            fewer = omega arith;
            within = omega (arith, parts, piece_size, none, some);
            reach = omega (arith, parts, piece_size, last, header_and_room size page, none);
          }
    ]

close_cond : (s : Bool) (x y : ℕ) → x % 8192 ≡ 0 → (cond s x y % 8192 ≡ 0 → ⊥) → cond s x y ≡ y
close_cond true x y e n = absurd (n e)
close_cond false x y e n = refl

segment_pages : (o : LogOrigin) (at : ℕ) → segment_end_at (bytes_of o.size) at % 8192 ≡ 0
segment_pages o at =
    let f = size_facts o.size.bytes o.size.is_size in
    let k : ℕ = at / bytes_of o.size + 1 in
    let parts : k * bytes_of o.size ≡ k * f.mebibytes * 2 ^ 20 = ap (λ n. k * n) f.whole ∙ sym (mul_assoc k f.mebibytes (2 ^ 20)) in
    omega (arith, parts)

-- an end within a page is right behind the record's bytes
pub end_close : (o : LogOrigin) (header : RecordHeader) (behind : ℕ) → (end_of (bytes_of o.size) header behind % 8192 ≡ 0 → ⊥) → end_of (bytes_of o.size) header behind ≡ (behind + 7) / 8 * 8
end_close o header behind n = close_cond (is_switch header) (segment_end_at (bytes_of o.size) (behind - 1)) ((behind + 7) / 8 * 8) (segment_pages o (behind - 1)) n

-- the page that holds an end
pub page_at_end : (o : LogOrigin) (bytes rec after : List ℕ) (place end : ℕ) → IsWrittenAt o bytes place rec → 24 ≤ length rec → length rec < 2 ^ 32 → end ≡ (place + length (laid o place rec) + 7) / 8 * 8 → (end % 8192 ≡ 0 → ⊥)
    → drop (place - o.start) bytes ≡ laid o place rec ++ after → HasPage o bytes end
page_at_end o bytes rec after place end w some few e n here =
    let size : ℕ = bytes_of o.size in
    let space : ℕ = 8192 - place % 8192 in
    let next : ℕ = page_of place + 8192 in
    let front : List ℕ = take space rec in
    let rest : List ℕ = pages_from o rec next (length rec - space) in
    let parts = ap length (laid_is o place rec) ∙ length-append front rest in
    let front_size : length front ≡ min space (length rec) = length-take space rec in
    elim (cases_lt 0 (length rec - space)) [
      | inl more ↦
          let l = last_page o rec (length rec - space) next (length rec - space) more (omega arith) (omega arith) (omega arith) in
          let split : next ≡ place + space = omega arith in
          let same : page_of end ≡ l.at = omega (arith, e, n, parts, front_size, more, split, l.whole, l.within, l.reach) in
          let there : drop (next - o.start) bytes ≡ rest ++ after =
          let k : next - o.start ≡ place - o.start + space = omega (arith, split, w.from) in
          ap (λ (i : ℕ). drop i bytes) k ∙ sym (drop-drop space (place - o.start) bytes)
          ∙ ap (drop space) (here ∙ ap (λ (t : List ℕ). t ++ after) (laid_is o place rec) ∙ append_assoc front rest after) ∙ drop_at front (rest ++ after) space (front_size ∙ omega (arith, more)) in
          let head : drop (l.at - o.start) bytes ≡ page_header o l.at l.rest ++ (l.behind ++ after) =
          let k : l.at - o.start ≡ next - o.start + length l.front = omega (arith, l.there, w.from) in
          ap (λ (i : ℕ). drop i bytes) k ∙ sym (drop-drop (length l.front) (next - o.start) bytes)
          ∙ ap (drop (length l.front)) (there ∙ ap (λ (t : List ℕ). t ++ after) l.is ∙ append_assoc l.front (page_header o l.at l.rest ++ l.behind) after)
          ∙ drop_at l.front ((page_header o l.at l.rest ++ l.behind) ++ after) (length l.front) refl ∙ append_assoc (page_header o l.at l.rest) l.behind after in
          record {
            left = l.rest;
            rest = l.behind ++ after;
            few = omega (arith, l.fewer, few);
            from = omega (arith, same, l.there, w.from);
            behind = omega (arith, ap (header_size size) same, same, e, parts, front_size, more, split, l.within);
            head = ap (λ (q : ℕ). drop (q - o.start) bytes) same ∙ head ∙ ap (λ (q : ℕ). page_header o q l.rest ++ (l.behind ++ after)) (sym same);
          }
      | inr none ↦
          let last = ap length (pages_none o rec next (length rec - space) (omega arith)) in
          let same : page_of end ≡ page_of place = omega (arith, e, n, parts, last, front_size, none, some) in
          record {
            left = w.left;
            rest = w.rest;
            few = w.few;
            from = omega (arith, same, w.from);
            behind = omega (arith, ap (header_size size) same, same, e, n, parts, last, front_size, none, some, w.behind);
            head = ap (λ (q : ℕ). drop (q - o.start) bytes) same ∙ w.head ∙ ap (λ (q : ℕ). page_header o q w.left ++ w.rest) (sym same);
          }
    ]

sound_of : (v : Written) (o : LogOrigin) (end : ℕ) → v.origin ≡ o → v.end ≡ end → o.start % bytes_of o.size ≡ 0 → end % 8 ≡ 0 → o.start < end → o.start + length v.bytes ≡ end
    → ((end % 8192 ≡ 0 → ⊥) → HasPage o v.bytes end) → IsSound v
sound_of v o end eo ee s a later reach has =
    let start : v.origin.start ≡ o.start = ap (λ (p : LogOrigin). p.start) eo in
    record {
      starts = subst (λ (p : LogOrigin). p.start % bytes_of p.size ≡ 0) (sym eo) s;
      aligned = omega (arith, ee, a);
      state = elim (cases_eq (end % 8192) 0) [
        | inl page ↦ inr (inl (record { page = omega (arith, ee, page); later = omega (arith, ee, start, later); reach = omega (arith, ee, start, reach) }))
        | inr n ↦ inr (inr (record {
          later = omega (arith, ee, start, later);
          reach = omega (arith, ee, start, reach);
          has = subst (λ (p : LogOrigin). HasPage p v.bytes v.end) (sym eo) (subst (HasPage o v.bytes) (sym ee) (has n));
        }))
      ];
    }

pub grown_origin : (w : Written) (r : NewRecord) → (appended w r).origin ≡ w.origin
unfolding appended
grown_origin w r = refl

pub grown_end : (w : Written) (r : NewRecord) → (appended w r).end ≡ end_from w.origin w.before w.end r
unfolding appended
grown_end w r = refl

pub sound_after : (w : Written) (r : NewRecord) → IsSound w → IsNew w.before r → IsSound (appended w r)
sound_after w r s new =
    let o : LogOrigin = w.origin in
    let size : ℕ = bytes_of o.size in
    let at : ℕ = w.end in
    let place : ℕ = place_at size at in
    let rec : List ℕ = record_bytes w.before r in
    let end : ℕ = end_from o w.before at r in
    let all : List ℕ = (appended w r).bytes in
    let behind : ℕ = behind_of size place (length rec) in
    let stands : IsWrittenAt o all place rec = written_at w r all [] s (sym (append-nil all)) in
    let long = length_record_bytes w.before r in
    let ends : end_of size (header_of rec) behind ≡ end = end_is o w.before at r place (length rec) (header_of rec) refl long refl in
    let reach : place + length (laid o place rec) ≡ behind = laid_reaches o place rec in
    let far = all_behind size place (length rec) in
    let up : behind ≤ end = omega (arith, ends, end_behind size behind (header_of rec) (size_some o) (omega (arith, far, long))) in
    let start : o.start + length w.bytes + length (lead o at) ≡ place = lead_reaches o at (length w.bytes) s.starts (origin_page o s.starts) (reached w s) in
    let total : length w.bytes + length (lead o at ++ laid o place rec ++ replicate (end - behind) 0) ≡ end - o.start =
    ap (λ (n : ℕ). length w.bytes + length (lead o at ++ laid o place rec ++ replicate (end - n) 0)) (sym reach)
    ∙ added_length o at place end (length w.bytes) rec start (omega (arith, reach, up)) in
    let added = ap length (grown w r) ∙ length-append w.bytes (lead o at ++ laid o place rec ++ replicate (end - behind) 0) in
    sound_of (appended w r) o end (grown_origin w r) (grown_end w r) s.starts (ap (λ (n : ℕ). n % 8) (sym ends) ∙ end_aligned o (header_of rec) behind)
    (omega (arith, start, far, long, up)) (omega (arith, added, total, start, far, long, up))
    (λ n. page_at_end o all rec stands.after place end stands (omega (arith, long)) (omega (arith, long, new.size))
    (sym ends ∙ end_close o (header_of rec) behind (λ e. n (sym (ap (λ (k : ℕ). k % 8192) ends) ∙ e)) ∙ ap (λ (k : ℕ). (k + 7) / 8 * 8) (sym reach)) n stands.laid)

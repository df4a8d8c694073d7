-- A writer of records that appends one more.
use Rattle.std.proofs.Common.{◌≡◌, ◌+◌, ◌%◌, ◌^◌, ◌<◌, ◌≤◌, ◌++◌, List, [], ◌∷◌, length, Some, refl, sym, ap, ◌∙◌, arith, subst}
use Rattle.std.specs.List.{fold}
use Rattle.wal_base.specs.Segment.{bytes_of}
use Rattle.wal_records.specs.declared.log_origin.LogOrigin.{LogOrigin}
use Rattle.wal_records.specs.Place.{place_at}
use Rattle.wal_records.specs.Header.{greatest_total}
use Rattle.wal_records.specs.Writer.{NewRecord, Written, begun, appended, written, link_to, end_from}
use Rattle.wal_records.specs.Again.{IsNew}
use Rattle.wal_records.specs.Sound.{AllNew}
use Rattle.wal_records.specs.Stored.{Wrote}
use Rattle.wal_records.proofs.AppendLemmas.{written_more}
use Rattle.wal_records.proofs.NextLemmas.{grown_origin}
use Rattle.wal_records.proofs.RunLemmas.{place_low}

pub wrote_is : (w : Written) (records : List NewRecord) → Wrote w records → w ≡ fold appended (begun w.origin) records
unfolding written
wrote_is w records wrote = wrote.is

grown_before : (w : Written) (r : NewRecord) → (appended w r).before ≡ Some (place_at (bytes_of w.origin.size) w.end)
unfolding appended
grown_before w r = refl

link_low : (records : List NewRecord) (w : Written) → link_to w.before < 2 ^ 64 → AllNew w records → link_to (fold appended w records).before < 2 ^ 64
link_low [] w low each = low
link_low (r ∷ rest) w low each = link_low rest (appended w r) (omega (arith, ap link_to (grown_before w r), place_low w.origin w.before w.end r each.1)) each.2

one_more : (records : List NewRecord) (w : Written) (r : NewRecord) → AllNew w records → IsNew (fold appended w records).before r
    → end_from (fold appended w records).origin (fold appended w records).before (fold appended w records).end r < 2 ^ 63 → AllNew w (records ++ r ∷ [])
one_more [] w r each new low = (new, low, tt)
one_more (first ∷ rest) w r each new low = (each.0, each.1, one_more rest (appended w first) r each.2 new low)

pub wrote_of : (v : Written) (o : LogOrigin) (records : List NewRecord) → v.origin ≡ o → o.start % bytes_of o.size ≡ 0 → o.start < 2 ^ 63 → o.tli < 2 ^ 32 → o.system < 2 ^ 64
    → AllNew (begun o) records → v ≡ written o records → Wrote v records
wrote_of v o records eo starts low timeline system each is =
    record {
      starts = subst (λ (p : LogOrigin). p.start % bytes_of p.size ≡ 0) (sym eo) starts;
      low = subst (λ (p : LogOrigin). p.start < 2 ^ 63) (sym eo) low;
      timeline = subst (λ (p : LogOrigin). p.tli < 2 ^ 32) (sym eo) timeline;
      system = subst (λ (p : LogOrigin). p.system < 2 ^ 64) (sym eo) system;
      each = subst (λ (p : LogOrigin). AllNew (begun p) records) (sym eo) each;
      is = subst (λ (p : LogOrigin). v ≡ written p records) (sym eo) is;
    }

-- no record was appended yet
pub wrote_none : (v : Written) (o : LogOrigin) → v ≡ begun o → o.start % bytes_of o.size ≡ 0 → o.start < 2 ^ 63 → o.tli < 2 ^ 32 → o.system < 2 ^ 64 → Wrote v []
unfolding written
wrote_none v o is starts low timeline system =
    subst (λ (w : Written). Wrote w []) (sym is) (record { starts = starts; low = low; timeline = timeline; system = system; each = tt; is = refl })

pub wrote_more : (w v : Written) (records : List NewRecord) (r : NewRecord) → v ≡ appended w r → Wrote w records → r.xid < 2 ^ 32 → (22 ≤ r.manager → 128 ≤ r.manager) → 24 + length r.body ≤ greatest_total
    → end_from w.origin w.before w.end r < 2 ^ 63 → Wrote v (records ++ r ∷ [])
wrote_more w v records r is wrote xid manager size low =
    let o : LogOrigin = w.origin in
    let e : w ≡ fold appended (begun o) records = wrote_is w records wrote in
    let link : link_to w.before < 2 ^ 64 = subst (λ (u : Written). link_to u.before < 2 ^ 64) (sym e) (link_low records (begun o) (omega arith) wrote.each) in
    let new : IsNew w.before r = record { xid = xid; link = link; manager = manager; size = size } in
    let all : AllNew (begun o) (records ++ r ∷ []) =
    one_more records (begun o) r wrote.each (subst (λ (u : Written). IsNew u.before r) e new) (subst (λ (u : Written). end_from u.origin u.before u.end r < 2 ^ 63) e low) in
    subst (λ (u : Written). Wrote u (records ++ r ∷ [])) (sym is) (wrote_of (appended w r) o (records ++ r ∷ []) (grown_origin w r) wrote.starts wrote.low wrote.timeline wrote.system all
    (ap (λ (u : Written). appended u r) wrote.is ∙ sym (written_more o records r)))

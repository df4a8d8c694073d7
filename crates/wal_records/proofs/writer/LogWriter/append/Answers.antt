use Rattle.std.proofs.Common.{◌≡◌, ℕ, ◌+◌, ◌-◌, ◌<◌, ◌≤◌, ◌^◌, ◌%◌, ◌++◌, List, length, replicate, ap, sym, ◌∙◌, arith}
use Rattle.wal_base.specs.Segment.{bytes_of}
use Rattle.wal_records.specs.Header.{header_of, greatest_total}
use Rattle.wal_records.specs.Extent.{behind_of}
use Rattle.wal_records.specs.Writer.{NewRecord, new_record, Written, record_bytes, lead, laid, end_from, appended}
use Rattle.wal_records.specs.Zeros.{ZeroEnded}
use Rattle.wal_records.proofs.WriterLemmas.{lead_reaches}
use Rattle.wal_records.proofs.NearLemmas.{ends_near}
use Rattle.wal_records.proofs.AppendLemmas.{end_is, origin_page, within_end, end_aligned, added_length, whole_again, appended_is, written_more}
use Rattle.wal_records.proofs.WroteLemmas.{wrote_more}
use Rattle.wal_records.proofs.writer.LogWriter.append.Goals as goal

pub unreachable-requires : goal.unreachable-requires
unreachable-requires c =
    let o = c.self.inside.origin in
    let r : NewRecord = new_record c.args.xid c.args.info c.args.manager c.args.body.now in
    let header : c.header_of.result ≡ header_of (record_bytes c.self.inside.before r) = c.header_of.ensures.value ∙ ap header_of (c.deref.ensures.value ∙ c.in_ok-bytes.ensures.value) in
    let end = end_is o c.self.inside.before c.self.inside.end r c.place_at-place.result.0 (24 + length c.args.body.now) c.header_of.result c.place_at-place.ensures.value (omega arith) header in
    let low : end_from c.args.self.now.origin c.args.self.now.before c.args.self.now.end r < 2 ^ 63 = c.requires.low (omega (arith, c.from.ensures)) in
    let same = ap (λ (w : Written). end_from w.origin w.before w.end r) c.self.view_is in
    omega (arith, end, low, same, c.in_default.ensures.none)

pub lay-requires-clause-low : goal.lay-requires-clause-low
lay-requires-clause-low c =
    let o = c.self.inside.origin in
    let r : NewRecord = new_record c.args.xid c.args.info c.args.manager c.args.body.now in
    let header : c.header_of.result ≡ header_of (record_bytes c.self.inside.before r) = c.header_of.ensures.value ∙ ap header_of (c.deref.ensures.value ∙ c.in_ok-bytes.ensures.value) in
    let end = c.in-Some.ensures.some ∙ end_is o c.self.inside.before c.self.inside.end r c.place_at-place.result.0 (24 + length c.args.body.now) c.header_of.result c.place_at-place.ensures.value (omega arith) header in
    let low : end_from c.args.self.now.origin c.args.self.now.before c.args.self.now.end r < 2 ^ 63 = c.requires.low (omega (arith, c.from.ensures)) in
    let same = ap (λ (w : Written). end_from w.origin w.before w.end r) c.self.view_is in
    omega (arith, end, low, same)

pub grow-requires-clause-low : goal.grow-requires-clause-low
grow-requires-clause-low c =
    let o = c.self.inside.origin in
    let r : NewRecord = new_record c.args.xid c.args.info c.args.manager c.args.body.now in
    let header : c.header_of.result ≡ header_of (record_bytes c.self.inside.before r) = c.header_of.ensures.value ∙ ap header_of (c.deref.ensures.value ∙ c.in_ok-bytes.ensures.value) in
    let end = c.in-Some.ensures.some ∙ end_is o c.self.inside.before c.self.inside.end r c.place_at-place.result.0 (24 + length c.args.body.now) c.header_of.result c.place_at-place.ensures.value (omega arith) header in
    let low : end_from c.args.self.now.origin c.args.self.now.before c.args.self.now.end r < 2 ^ 63 = c.requires.low (omega (arith, c.from.ensures)) in
    let same = ap (λ (w : Written). end_from w.origin w.before w.end r) c.self.view_is in
    omega (arith, end, low, same)

pub lay-requires-clause-start : goal.lay-requires-clause-start
lay-requires-clause-start c =
    let o = c.self.inside.origin in
    let inv = c.self.invariant in
    let grown : length c.grow.new.pages.bytes ≡ length c.self.inside.pages.bytes = ap (λ (z : ZeroEnded). length z.bytes) c.in_ok-grow.ensures.ok in
    let reach = lead_reaches o c.self.inside.end (length c.self.inside.pages.bytes) inv.starts (origin_page o inv.starts) inv.reaches in
    omega (arith, grown, reach, c.place_at-place.ensures.value)

pub lay-requires-clause-fits : goal.lay-requires-clause-fits
lay-requires-clause-fits c =
    let size : length c.deref-2.result.now ≡ 24 + length c.args.body.now = ap length c.deref-2.ensures.value ∙ c.in_ok-bytes.ensures.size in
    within_end c.self.inside.origin c.place_at-place.result.0 (24 + length c.args.body.now) c.in-Some.end c.header_of.result c.deref-2.result.now size (omega arith) c.in-Some.ensures.some

pub invariant_of-self-2 : goal.invariant_of-self-2
invariant_of-self-2 c =
    let o = c.self.inside.origin in
    let inv = c.self.invariant in
    let place : ℕ = c.place_at-place.result.0 in
    let end : ℕ = c.in-Some.end in
    let bytes : List ℕ = c.deref-2.result.now in
    let reach = lead_reaches o c.self.inside.end (length c.self.inside.pages.bytes) inv.starts (origin_page o inv.starts) inv.reaches in
    let size : length bytes ≡ 24 + length c.args.body.now = ap length c.deref-2.ensures.value ∙ c.in_ok-bytes.ensures.size in
    let fits = within_end o place (24 + length c.args.body.now) end c.header_of.result bytes size (omega arith) c.in-Some.ensures.some in
    let start : o.start + length c.self.inside.pages.bytes + length (lead o c.self.inside.end) ≡ place = omega (arith, reach, c.place_at-place.ensures.value) in
    let piece : List ℕ = lead o c.self.inside.end ++ laid o place bytes ++ replicate (end - (place + length (laid o place bytes))) 0 in
    let r : NewRecord = new_record c.args.xid c.args.info c.args.manager c.args.body.now in
    let header : c.header_of.result ≡ header_of (record_bytes c.self.inside.before r) = c.header_of.ensures.value ∙ ap header_of (c.deref.ensures.value ∙ c.in_ok-bytes.ensures.value) in
    let ends = c.in-Some.ensures.some ∙ end_is o c.self.inside.before c.self.inside.end r place (24 + length c.args.body.now) c.header_of.result c.place_at-place.ensures.value (omega arith) header in
    let below : end_from c.args.self.now.origin c.args.self.now.before c.args.self.now.end r < 2 ^ 63 = c.requires.low (omega (arith, c.from.ensures)) in
    let same = ap (λ (w : Written). end_from w.origin w.before w.end r) c.self.view_is in
    let low : end < 2 ^ 63 = omega (arith, ends, below, same) in
    let aligned = ap (λ (n : ℕ). n % 8) c.in-Some.ensures.some ∙ end_aligned o c.header_of.result (behind_of (bytes_of o.size) place (24 + length c.args.body.now)) in
    whole_again o end c.self.inside.pages c.grow.new.pages c.lay.new.pages piece inv.starts aligned low (omega (arith, start, c.in-Some.ensures.up)) c.in_ok-grow.ensures.ok c.lay.ensures
    (added_length o c.self.inside.end place end (length c.self.inside.pages.bytes) bytes start fits)

pub returns-clause-ok : goal.returns-clause-ok
returns-clause-ok c =
    let o = c.self.inside.origin in
    let r : NewRecord = new_record c.args.xid c.args.info c.args.manager c.args.body.now in
    let place : ℕ = c.place_at-place.result.0 in
    let end : ℕ = c.in-Some.end in
    let bytes : List ℕ = c.deref-2.result.now in
    let piece : List ℕ = lead o c.self.inside.end ++ laid o place bytes ++ replicate (end - (place + length (laid o place bytes))) 0 in
    let header : c.header_of.result ≡ header_of (record_bytes c.self.inside.before r) = c.header_of.ensures.value ∙ ap header_of (c.deref.ensures.value ∙ c.in_ok-bytes.ensures.value) in
    let ends = c.in-Some.ensures.some ∙ end_is o c.self.inside.before c.self.inside.end r place (24 + length c.args.body.now) c.header_of.result c.place_at-place.ensures.value (omega arith) header in
    let all : c.lay.new.pages.bytes ≡ c.self.inside.pages.bytes ++ piece = ap (λ (z : ZeroEnded). z.bytes) c.lay.ensures ∙ ap (λ (z : ZeroEnded). z.bytes ++ piece) c.in_ok-grow.ensures.ok in
    appended_is o c.self.inside.before c.self.inside.end c.self.inside.pages.bytes r place end bytes c.lay.new.pages.bytes
    c.place_at-place.ensures.value ends (c.deref-2.ensures.value ∙ c.in_ok-bytes.ensures.value) all
    ∙ ap (λ (w : Written). appended w r) c.self.view_is

pub returns-clause-more : goal.returns-clause-more
returns-clause-more c = λ origin records e.
    let r : NewRecord = new_record c.args.xid c.args.info c.args.manager c.args.body.now in
    returns-clause-ok c ∙ ap (λ (w : Written). appended w r) e ∙ sym (written_more origin records r)

pub returns-clause-near : goal.returns-clause-near
returns-clause-near c =
    let o = c.self.inside.origin in
    let r : NewRecord = new_record c.args.xid c.args.info c.args.manager c.args.body.now in
    let header : c.header_of.result ≡ header_of (record_bytes c.self.inside.before r) = c.header_of.ensures.value ∙ ap header_of (c.deref.ensures.value ∙ c.in_ok-bytes.ensures.value) in
    let end = c.in-Some.ensures.some ∙ end_is o c.self.inside.before c.self.inside.end r c.place_at-place.result.0 (24 + length c.args.body.now) c.header_of.result c.place_at-place.ensures.value (omega arith) header in
    let at = ap (λ (w : Written). w.end) c.self.view_is in
    omega (arith, end, at, ends_near o c.self.inside.before c.self.inside.end r (omega (arith, c.from.ensures)))

pub returns-clause-wrote : goal.returns-clause-wrote
returns-clause-wrote c = λ records wrote.
    let r : NewRecord = new_record c.args.xid c.args.info c.args.manager c.args.body.now in
    let size : 24 + length c.args.body.now ≤ greatest_total = omega (arith, c.from.ensures) in
    wrote_more c.args.self.now _ records r (returns-clause-ok c) wrote (omega arith) c.requires.manager size (c.requires.low size)

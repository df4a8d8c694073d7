use Rattle.std.proofs.Common.{◌≡◌, ℕ, ◌-◌, ◌%◌, ap, ◌∙◌, arith, sym, refl}
use Rattle.wal_base.specs.Segment.{bytes_of}
use Rattle.wal_records.specs.Writer.{short_header, long_header}
use Rattle.wal_records.specs.Zeros.{ZeroEnded, with_bytes}
use Rattle.wal_records.proofs.ZerosLemmas.{with_then}
use Rattle.wal_records.proofs.WriterLemmas.{length-short_header, long_page_header, short_page_header, long_size}
use Rattle.wal_records.proofs.new_pages.add_header.Goals as goal

pub add_long-requires : goal.add_long-requires
add_long-requires c =
    let first : c.args.at % bytes_of c.args.origin.size ≡ 0 = ap (λ (n : ℕ). c.args.at % n) (sym (c.from.ensures ∙ c.bytes.ensures.value)) ∙ c.if-at-from-eq0.true in
    let zeros : c.add_short.new.into.zeros ≡ c.args.into.now.zeros - 24 =
    ap (λ (z : ZeroEnded). z.zeros) c.add_short.ensures ∙ ap (λ (n : ℕ). c.args.into.now.zeros - n) (length-short_header c.args.origin c.args.at c.args.remaining) in
    record { room = omega (arith, zeros, c.requires.room, long_size (bytes_of c.args.origin.size) c.args.at first) }

pub returns-then-at-from-eq0 : goal.returns-then-at-from-eq0
returns-then-at-from-eq0 c =
    let first : c.args.at % bytes_of c.args.origin.size ≡ 0 = ap (λ (n : ℕ). c.args.at % n) (sym (c.from.ensures ∙ c.bytes.ensures.value)) ∙ c.if-at-from-eq0.true in
    let short = short_header c.args.origin c.args.at c.args.remaining in
    with_then c.args.into.now c.add_short.new.into c.add_long.new.into short (long_header c.args.origin) (long_header c.args.origin) c.add_short.ensures c.add_long.ensures refl
    ∙ ap (with_bytes c.args.into.now) (sym (long_page_header c.args.origin c.args.at c.args.remaining first))

pub returns-else-at-from-eq0 : goal.returns-else-at-from-eq0
returns-else-at-from-eq0 c =
    let other : c.args.at % bytes_of c.args.origin.size ≡ 0 → ⊥ = λ e. c.if-at-from-eq0.false (ap (λ (n : ℕ). c.args.at % n) (c.from.ensures ∙ c.bytes.ensures.value) ∙ e) in
    c.add_short.ensures ∙ ap (with_bytes c.args.into.now) (sym (short_page_header c.args.origin c.args.at c.args.remaining other))

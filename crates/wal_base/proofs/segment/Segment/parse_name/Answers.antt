use Rattle.std.proofs.Common.{◌≡◌, ◌+◌, ◌*◌, ◌≤◌, ◌<◌, true, Some, take, drop, length, ◌-◌, ap, ◌∙◌, sym, arith}
use Rattle.wal_base.specs.Hex.{is_long_name, hex_value}
use Rattle.wal_base.specs.Segment.{bytes_of, segments_per_high, low_part, segment_named}
use Rattle.wal_base.proofs.SegmentLemmas.{no_long_name, too_low, hex_front, hex_part, rest_is, read_as, named_by_reading, segment_with}
use Rattle.wal_base.proofs.segment.Segment.parse_name.Goals as goal

pub returns-then-not-is_long_name-clause-value : goal.returns-then-not-is_long_name-clause-value
returns-then-not-is_long_name-clause-value c =
    sym (no_long_name c.args.size c.args.text.now (ap is_long_name (sym c.as_bytes-digits.ensures.value) ∙ sym c.if-not-is_long_name.ensures))

pub value-requires-clause-hex : goal.value-requires-clause-hex
value-requires-clause-hex c = hex_part c.as_bytes-digits.result.now 16 (length c.as_bytes-digits.result.now - 16) (sym c.if-not-is_long_name.ensures)

pub value-tli-requires-clause-hex : goal.value-tli-requires-clause-hex
value-tli-requires-clause-hex c = hex_front c.as_bytes-digits.result.now 8 (sym c.if-not-is_long_name.ensures)

pub value-requires-2-clause-hex : goal.value-requires-2-clause-hex
value-requires-2-clause-hex c = hex_part c.as_bytes-digits.result.now 8 8 (sym c.if-not-is_long_name.ensures)

pub returns-then-low-per_high-clause-value : goal.returns-then-low-per_high-clause-value
returns-then-low-per_high-clause-value c =
    let low : c.from-low.result ≡ low_part c.args.text.now =
    c.from-low.ensures ∙ c.value.ensures ∙ ap hex_value (rest_is c.as_bytes-digits.result.now 16) ∙ ap low_part c.as_bytes-digits.ensures.value in
    let past : segments_per_high (bytes_of c.args.size) ≤ low_part c.args.text.now =
    omega (arith, low, c.per_high-per_high.ensures.value, c.if-low-per_high.true) in
    sym (too_low c.args.size c.args.text.now past)

built : (c : goal.After-from-high) → Some (segment_with c.args.size c.value-tli.result (c.from-high.result * c.per_high-per_high.result + c.from-low.result))
    ≡ segment_named c.args.size c.args.text.now
built c =
    let text = c.args.text.now in
    let is = c.as_bytes-digits.ensures.value in
    let long : is_long_name text ≡ true = ap is_long_name (sym is) ∙ sym c.if-not-is_long_name.ensures in
    let low : c.from-low.result ≡ low_part text = c.from-low.ensures ∙ c.value.ensures ∙ ap hex_value (rest_is c.as_bytes-digits.result.now 16) ∙ ap low_part is in
    let below : low_part text < segments_per_high (bytes_of c.args.size) = omega (arith, low, c.per_high-per_high.ensures.value, c.if-low-per_high.false) in
    let tli : c.value-tli.result ≡ hex_value (take 8 text) = c.value-tli.ensures ∙ ap (λ t. hex_value (take 8 t)) is in
    let high : c.from-high.result ≡ hex_value (take 8 (drop 8 text)) = c.from-high.ensures ∙ c.value-2.ensures ∙ ap (λ t. hex_value (take 8 (drop 8 t))) is in
    ap (λ t. Some (segment_with c.args.size t (c.from-high.result * c.per_high-per_high.result + c.from-low.result))) tli
    ∙ ap (λ h. Some (segment_with c.args.size (hex_value (take 8 text)) (h * c.per_high-per_high.result + c.from-low.result))) high
    ∙ ap (λ p. Some (segment_with c.args.size (hex_value (take 8 text)) (hex_value (take 8 (drop 8 text)) * p + c.from-low.result))) c.per_high-per_high.ensures.value
    ∙ ap (λ l. Some (segment_with c.args.size (hex_value (take 8 text)) (hex_value (take 8 (drop 8 text)) * segments_per_high (bytes_of c.args.size) + l))) low
    ∙ sym (read_as c.args.size text long below)

pub returns-clause-value : goal.returns-clause-value
returns-clause-value c = built c

pub returns-clause-named : goal.returns-clause-named
returns-clause-named c = (named_by_reading c.args.size c.args.text.now _ (sym (built c))).name

pub returns-clause-fits : goal.returns-clause-fits
returns-clause-fits c = (named_by_reading c.args.size c.args.text.now _ (sym (built c))).within

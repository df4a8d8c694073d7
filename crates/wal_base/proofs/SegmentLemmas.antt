-- Names of segments.
use Rattle.std.proofs.Common.{◌≡◌, ◌==◌, ℕ, ◌+◌, ◌-◌, ◌*◌, ◌/◌, ◌%◌, ◌^◌, ◌<◌, ◌≤◌, Bool, true, false, ◌&&◌, List, ◌++◌, Some, None, cond, length, take, drop, refl, sym, ap, ◌∙◌, arith, length-append, append_assoc, mul_assoc, subst, nat_lt, eqb-true}
use Rattle.std.proofs.lemmas.Bool.Decides.{nat_tests}
use Rattle.std.proofs.lemmas.List.{length-take-le, length-drop, take-append-drop, drop-drop}
use Rattle.std.proofs.lemmas.List.Folds.{list_all-append}
use Rattle.std.proofs.lemmas.Nat.{div-mul-add, mod-mul-add, mod_below, mul-add-lt, div_below, div-add-mod'}
use Rattle.std.proofs.Math.Nat.{lt_of_mul-lt-mul_right, mul-lt-mul_of_pos_right}
use Rattle.std.proofs.Math.Seq.{take-append_seam, drop-append_seam, take-length}
use Rattle.std.specs.Char.{is_ascii_hexdigit}
use Rattle.std.specs.List.{list_all}
use Rattle.wal_base.specs.declared.seg_size.SegSize.{SegSize}
use Rattle.wal_base.specs.declared.segment.Segment.{Segment}
use Rattle.wal_base.specs.Hex.{hex8, hex_digits, hex_value, is_upper_hex, is_long_name}
use Rattle.wal_base.specs.SegSize.{IsSegSize}
use Rattle.wal_base.specs.Segment.{bytes_of, segments_per_high, segment_name, name_of, low_part, is_segment_name, segment_named, NamesSegment}
use Rattle.wal_base.proofs.HexDigits.{and_parts, and_both, digits_from_hex, all_hex_from_upper, value_below, length-hex_digits, upper-hex_digits, value-hex_digits, hex_digits-value}
use Rattle.wal_base.proofs.HexLoop.{all_of_take, all_of_drop}
use Rattle.wal_base.proofs.SizeLemmas.{SizeFacts, size_facts}

-- what the positions of a segment give of its number

pub per_high_is : (bytes : ℕ) → (f : SizeFacts bytes) → segments_per_high bytes ≡ f.per_high
per_high_is bytes f = f.quotient

-- the high half of a segment's positions is a word
pub high_fits : (bytes number : ℕ) → IsSegSize bytes → number * bytes < 2 ^ 64 → number / segments_per_high bytes < 2 ^ 32
high_fits bytes number s h =
    let f = size_facts bytes s in
    let p : ℕ = f.per_high in
    let whole : 2 ^ 32 * p * bytes ≡ 2 ^ 64 = mul_assoc (2 ^ 32) p bytes ∙ ap (λ x. 2 ^ 32 * x) f.all in
    let below : number * bytes < 2 ^ 32 * p * bytes = omega (arith, whole, h) in
    rw f.quotient (div_below number p (2 ^ 32) f.fits (lt_of_mul-lt-mul_right bytes below))

pub low_fits : (bytes number : ℕ) → IsSegSize bytes → number % segments_per_high bytes < 2 ^ 32
low_fits bytes number s =
    let f = size_facts bytes s in
    let small = mod_below number f.per_high f.fits in
    rw f.quotient (omega (arith, small, f.few))

number_fits : (bytes high low : ℕ) → (f : SizeFacts bytes) → high < 2 ^ 32 → low < f.per_high → (high * f.per_high + low) * bytes < 2 ^ 64
number_fits bytes high low f h l =
    let p : ℕ = f.per_high in
    let below : high * p + low < p * 2 ^ 32 = mul-add-lt high p low (2 ^ 32) h l in
    let more : (high * p + low) * bytes < p * 2 ^ 32 * bytes = mul-lt-mul_of_pos_right below f.some in
    let whole : p * 2 ^ 32 * bytes ≡ 2 ^ 32 * (p * bytes) = omega arith in
    omega (arith, more, whole, ap (λ x. 2 ^ 32 * x) f.all)

-- three parts of eight digits

record Parts (text a b d : List ℕ) : Type 0 where
  first : take 8 text ≡ a
  second : take 8 (drop 8 text) ≡ b
  third : drop 16 text ≡ d

parts : (a b d : List ℕ) → length a ≡ 8 → length b ≡ 8 → Parts (a ++ b ++ d) a b d
parts a b d p q =
    let whole : a ++ b ++ d ≡ a ++ (b ++ d) = append_assoc a b d in
    let rest : drop 8 (a ++ b ++ d) ≡ b ++ d = ap (drop 8) whole ∙ ap (λ k. drop k (a ++ (b ++ d))) (sym p) ∙ drop-append_seam a (b ++ d) in
    record {
      first = ap (take 8) whole ∙ ap (λ k. take k (a ++ (b ++ d))) (sym p) ∙ take-append_seam a (b ++ d);
      second = ap (take 8) rest ∙ ap (λ k. take k (b ++ d)) (sym q) ∙ take-append_seam b d;
      third = sym (drop-drop 8 8 (a ++ b ++ d)) ∙ ap (drop 8) rest ∙ ap (λ k. drop k (b ++ d)) (sym q) ∙ drop-append_seam b d;
    }

joined : (text : List ℕ) → take 8 text ++ take 8 (drop 8 text) ++ drop 16 text ≡ text
joined text =
    append_assoc (take 8 text) (take 8 (drop 8 text)) (drop 16 text)
    ∙ ap (λ rest. take 8 text ++ (take 8 (drop 8 text) ++ rest)) (sym (drop-drop 8 8 text))
    ∙ ap (λ rest. take 8 text ++ rest) (take-append-drop 8 (drop 8 text))
    ∙ take-append-drop 8 text

-- the test of a name

pub is_name_from : (bytes : ℕ) (text : List ℕ) → length text ≡ 24 → list_all is_upper_hex text ≡ true → low_part text < segments_per_high bytes → is_segment_name bytes text ≡ true
is_name_from bytes text p q r = grind (arith, nat_tests)

not_below : (a b : ℕ) → b ≤ a → nat_lt a b ≡ false
not_below a b h = grind (arith, nat_tests)

and_false : (a : Bool) {b : Bool} → b ≡ false → (a && b) ≡ false
and_false true h = h
and_false false h = refl

below_to : (a b : ℕ) → a < b → nat_lt a b ≡ true
below_to a b h = grind (arith, nat_tests)

below_from : (a b : ℕ) → nat_lt a b ≡ true → a < b
below_from a b h = grind (arith, nat_tests)

name_length : (bytes : ℕ) (text : List ℕ) → is_segment_name bytes text ≡ true → length text ≡ 24
name_length bytes text h =
    let front = and_parts ((length text == 24) && list_all is_upper_hex text) (nat_lt (low_part text) (segments_per_high bytes)) h in
    eqb-true (length text) 24 (and_parts (length text == 24) (list_all is_upper_hex text) front.0).0

name_upper : (bytes : ℕ) (text : List ℕ) → is_segment_name bytes text ≡ true → list_all is_upper_hex text ≡ true
name_upper bytes text h =
    let front = and_parts ((length text == 24) && list_all is_upper_hex text) (nat_lt (low_part text) (segments_per_high bytes)) h in
    (and_parts (length text == 24) (list_all is_upper_hex text) front.0).1

name_low : (bytes : ℕ) (text : List ℕ) → is_segment_name bytes text ≡ true → low_part text < segments_per_high bytes
name_low bytes text h =
    let front = and_parts ((length text == 24) && list_all is_upper_hex text) (nat_lt (low_part text) (segments_per_high bytes)) h in
    below_from (low_part text) (segments_per_high bytes) front.1

abbrev pub segment_with : SegSize → ℕ → ℕ → Segment
segment_with size tli number = record { tli = tli; number = number; size = size }

pub no_long_name : (size : SegSize) (text : List ℕ) → is_long_name text ≡ false → segment_named size text ≡ None
unfolding segment_named
no_long_name size text h = rw h refl

pub too_low : (size : SegSize) (text : List ℕ) → segments_per_high (bytes_of size) ≤ low_part text → segment_named size text ≡ None
unfolding segment_named
too_low size text h =
    let test : is_segment_name (bytes_of size) text ≡ false = and_false (is_long_name text) (not_below (low_part text) (segments_per_high (bytes_of size)) h) in
    rw test refl

-- a name is read as its segment

upper_name : (tli high low : ℕ) → list_all is_upper_hex (hex8 tli ++ hex8 high ++ hex8 low) ≡ true
upper_name tli high low =
    list_all-append is_upper_hex (hex8 tli ++ hex8 high) (hex8 low)
    ∙ and_both (list_all is_upper_hex (hex8 tli ++ hex8 high)) (list_all is_upper_hex (hex8 low))
    (list_all-append is_upper_hex (hex8 tli) (hex8 high)
    ∙ and_both (list_all is_upper_hex (hex8 tli)) (list_all is_upper_hex (hex8 high)) (upper-hex_digits 8 tli) (upper-hex_digits 8 high))
    (upper-hex_digits 8 low)

size_name : (tli high low : ℕ) → length (hex8 tli ++ hex8 high ++ hex8 low) ≡ 24
size_name tli high low =
    omega (arith, length-append (hex8 tli ++ hex8 high) (hex8 low), length-append (hex8 tli) (hex8 high), length-hex_digits 8 tli, length-hex_digits 8 high, length-hex_digits 8 low)

pub named_by_name : (size : SegSize) (tli number : ℕ) → tli < 2 ^ 32 → number * bytes_of size < 2 ^ 64
    → segment_named size (segment_name (bytes_of size) tli number) ≡ Some (segment_with size tli number)
unfolding segment_named
named_by_name size tli number t h =
    let bytes : ℕ = bytes_of size in
    let f = size_facts bytes size.is_size in
    let per : ℕ = segments_per_high bytes in
    let high : ℕ = number / per in
    let low : ℕ = number % per in
    let text : List ℕ = segment_name bytes tli number in
    let p = parts (hex8 tli) (hex8 high) (hex8 low) (length-hex_digits 8 tli) (length-hex_digits 8 high) in
    let tli_is : hex_value (take 8 text) ≡ tli = ap hex_value p.first ∙ value-hex_digits 8 tli t in
    let high_is : hex_value (take 8 (drop 8 text)) ≡ high = ap hex_value p.second ∙ value-hex_digits 8 high (high_fits bytes number size.is_size h) in
    let low_is : low_part text ≡ low = ap hex_value p.third ∙ value-hex_digits 8 low (low_fits bytes number size.is_size) in
    let some : 0 < per = omega (arith, f.quotient, f.fits) in
    let below : low_part text < per = omega (arith, low_is, mod_below number per some) in
    let test : is_segment_name bytes text ≡ true = is_name_from bytes text (size_name tli high low) (upper_name tli high low) below in
    let number_is : hex_value (take 8 (drop 8 text)) * per + low_part text ≡ number =
    ap (λ x. x * per + low_part text) high_is ∙ ap (λ x. high * per + x) low_is ∙ div-add-mod' number per in
    rw test (ap (λ x. Some (segment_with size x (hex_value (take 8 (drop 8 text)) * per + low_part text))) tli_is ∙ ap (λ x. Some (segment_with size tli x)) number_is)

-- what is read as a segment is its name

hex8_of : (text : List ℕ) → length text ≡ 8 → list_all is_upper_hex text ≡ true → (hex8 (hex_value text) ≡ text) × (hex_value text < 2 ^ 32)
hex8_of text size upper = (
  ap (λ k. hex_digits k (hex_value text)) (sym size) ∙ hex_digits-value text upper,
  value_below text 8 (digits_from_hex text (all_hex_from_upper text upper)) (omega (arith, size)),
)

names_built : (size : SegSize) (text : List ℕ) → is_segment_name (bytes_of size) text ≡ true
    → NamesSegment size text (segment_with size (hex_value (take 8 text)) (hex_value (take 8 (drop 8 text)) * segments_per_high (bytes_of size) + low_part text))
names_built size text h =
    let bytes : ℕ = bytes_of size in
    let f = size_facts bytes size.is_size in
    let per : ℕ = segments_per_high bytes in
    let long : length text ≡ 24 = name_length bytes text h in
    let upper = name_upper bytes text h in
    let below : low_part text < per = name_low bytes text h in
    let first = hex8_of (take 8 text) (length-take-le 8 text (omega (arith, long))) (all_of_take is_upper_hex text 8 upper) in
    let second = hex8_of (take 8 (drop 8 text)) (length-take-le 8 (drop 8 text) (omega (arith, long, length-drop 8 text)))
    (all_of_take is_upper_hex (drop 8 text) 8 (all_of_drop is_upper_hex text 8 upper)) in
    let third = hex8_of (drop 16 text) (length-drop 16 text ∙ omega (arith, long)) (all_of_drop is_upper_hex text 16 upper) in
    let high : ℕ = hex_value (take 8 (drop 8 text)) in
    let number : ℕ = high * per + low_part text in
    record {
      sized = refl;
      timeline = first.1;
      within = rw f.quotient (number_fits bytes high (low_part text) f second.1 (omega (arith, below, f.quotient)));
      name =
          ap (λ x. hex8 (hex_value (take 8 text)) ++ hex8 x ++ hex8 (number % per)) (div-mul-add high per (low_part text) below)
          ∙ ap (λ x. hex8 (hex_value (take 8 text)) ++ hex8 high ++ hex8 x) (mod-mul-add high per (low_part text) below)
          ∙ ap (λ x. x ++ hex8 high ++ hex8 (low_part text)) first.0
          ∙ ap (λ x. take 8 text ++ x ++ hex8 (low_part text)) second.0
          ∙ ap (λ x. take 8 text ++ take 8 (drop 8 text) ++ x) third.0
          ∙ joined text;
    }

pub read_as : (size : SegSize) (text : List ℕ) → is_long_name text ≡ true → low_part text < segments_per_high (bytes_of size)
    → segment_named size text ≡ Some (segment_with size (hex_value (take 8 text)) (hex_value (take 8 (drop 8 text)) * segments_per_high (bytes_of size) + low_part text))
unfolding segment_named
read_as size text h l = rw (and_both (is_long_name text) (nat_lt (low_part text) (segments_per_high (bytes_of size))) h (below_to (low_part text) (segments_per_high (bytes_of size)) l)) refl

pub named_by_reading : (size : SegSize) (text : List ℕ) (segment : Segment) → segment_named size text ≡ Some segment → NamesSegment size text segment
unfolding segment_named
named_by_reading size text segment = by (is_segment_name (bytes_of size) text) refl
  where
    built : Segment
    built = segment_with size (hex_value (take 8 text)) (hex_value (take 8 (drop 8 text)) * segments_per_high (bytes_of size) + low_part text)

    by : (b : Bool) → is_segment_name (bytes_of size) text ≡ b → cond b (Some built) None ≡ Some segment → NamesSegment size text segment
    by true e h =
        let same : built ≡ segment = cc in
        subst (λ (s : Segment). NamesSegment size text s) same (names_built size text e)
    by false e h = absurd cc

pub read_by_naming : (size : SegSize) (text : List ℕ) (segment : Segment) → NamesSegment size text segment → segment_named size text ≡ Some segment
read_by_naming size text segment n =
    let within : segment.number * bytes_of segment.size < 2 ^ 64 = subst (λ (s : SegSize). segment.number * bytes_of s < 2 ^ 64) (sym n.sized) n.within in
    let own : segment_named segment.size (name_of segment) ≡ Some segment = named_by_name segment.size segment.tli segment.number n.timeline within in
    ap (segment_named size) (sym n.name) ∙ subst (λ (s : SegSize). segment_named s (name_of segment) ≡ Some segment) n.sized own

-- the parts that a reader takes

long_upper : (text : List ℕ) → is_long_name text ≡ true → list_all is_upper_hex text ≡ true
long_upper text h = (and_parts (length text == 24) (list_all is_upper_hex text) h).1

pub hex_front : (text : List ℕ) (n : ℕ) → is_long_name text ≡ true → list_all is_ascii_hexdigit (take n text) ≡ true
hex_front text n h = all_hex_from_upper (take n text) (all_of_take is_upper_hex text n (long_upper text h))

pub hex_part : (text : List ℕ) (k n : ℕ) → is_long_name text ≡ true → list_all is_ascii_hexdigit (take n (drop k text)) ≡ true
hex_part text k n h = all_hex_from_upper (take n (drop k text)) (all_of_take is_upper_hex (drop k text) n (all_of_drop is_upper_hex text k (long_upper text h)))

pub rest_is : (text : List ℕ) (k : ℕ) → take (length text - k) (drop k text) ≡ drop k text
rest_is text k = ap (λ n. take n (drop k text)) (sym (length-drop k text)) ∙ take-length (drop k text)

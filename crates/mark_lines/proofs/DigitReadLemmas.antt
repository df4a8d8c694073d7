-- Words of digits that are read: what they say has its bounds, and is written so.
use Rattle.std.proofs.Common.{◌≡◌, ℕ, zero, suc, ◌+◌, ◌-◌, ◌*◌, ◌<◌, ◌≤◌, decimal, ◌/◌, ◌%◌, ◌^◌, ◌==◌, ◌&&◌, Bool, true, false, cond, List, [], ◌∷◌, nat_le, nat_lt, slice_index, Option, None, Some, Result, Ok, Err, refl, sym, ap, ◌∙◌, arith, inl, inr, if◌then◌else◌}
use Rattle.std.proofs.lemmas.Bool.{and_parts, cases_lt}
use Rattle.std.proofs.lemmas.Bool.Decides.{nat_tests}
use Rattle.std.specs.List.{list_all}
use Rattle.hex.specs.Hex.{IsBytes, decode_of, decode_pairs, digit_or_error, encode_lower, encode_with, hex_digit_value, lower_digits, pair_value, value_at, ◌>>=◌}
use Rattle.hex.specs.declared.error.FromHexError.{FromHexError}
use Rattle.hex.proofs.HexLemmas.{decode_of-even, decode_of-ok}
use Rattle.wal_base.proofs.DecimalLemmas.{decimal_read}
use Rattle.mark_lines.specs.Words.{bytes_in, is_lower, ok_of, size_in}
use Rattle.mark_lines.proofs.OptionLemmas.{if_some}

-- the digit at each place of the table
abbrev place_is : ℕ → Bool
place_is d = slice_index lower_digits d == cond (nat_lt d 10) (48 + d) (87 + d)

abbrev places_are : ℕ → Bool
places_are zero = true
places_are (suc n) = place_is n && places_are n

place_at : (n d : ℕ) → places_are n ≡ true → d < n → place_is d ≡ true
place_at zero d h lt = absurd (omega arith)
place_at (suc n) d h lt =
    let e = and_parts (place_is n) (places_are n) h in
    elim (cases_lt d n) [
      | inl below ↦ place_at n d e.1 below
      | inr top ↦ let same : d ≡ n = omega arith in rw same e.0
    ]

placed : (d : ℕ) → d < 16 → slice_index lower_digits d ≡ cond (nat_lt d 10) (48 + d) (87 + d)
placed d lt = let h = place_at 16 d refl lt in grind (arith, nat_tests)

-- a digit of lower case is that of its value
decimal_value : (c : ℕ) → 48 ≤ c → c < 58 → hex_digit_value c ≡ Some (c - 48)
decimal_value c least most =
    let upper : nat_le 65 c ≡ false = grind (arith, nat_tests) in
    let lower : nat_le 97 c ≡ false = grind (arith, nat_tests) in
    let from : nat_le 48 c ≡ true = grind (arith, nat_tests) in
    let to : nat_le c 57 ≡ true = grind (arith, nat_tests) in
    λ i. if upper i && nat_le c 70 then Some (c - 55) else if lower i && nat_le c 102 then Some (c - 87) else if from i && to i then Some (c - 48) else None

letter_value : (c : ℕ) → 97 ≤ c → c ≤ 102 → hex_digit_value c ≡ Some (c - 87)
letter_value c least most =
    let upper : nat_le c 70 ≡ false = grind (arith, nat_tests) in
    let from : nat_le 97 c ≡ true = grind (arith, nat_tests) in
    let to : nat_le c 102 ≡ true = grind (arith, nat_tests) in
    let past : nat_le 65 c ≡ true = grind (arith, nat_tests) in
    λ i. if past i && upper i then Some (c - 55) else if from i && to i then Some (c - 87) else if nat_le 48 c && nat_le c 57 then Some (c - 48) else None

decimal_known : (c v : ℕ) → 48 ≤ c → c < 58 → hex_digit_value c ≡ Some v → (v < 16) × (slice_index lower_digits v ≡ c)
decimal_known c v least most e =
    let value = decimal_value c least most in
    let is : v ≡ c - 48 = cc in
    let small : v < 16 = omega arith in
    let few : nat_lt v 10 ≡ true = grind (arith, nat_tests) in
    (small, placed v small ∙ ap (λ b. cond b (48 + v) (87 + v)) few ∙ omega arith)

letter_known : (c v : ℕ) → 97 ≤ c → c ≤ 102 → hex_digit_value c ≡ Some v → (v < 16) × (slice_index lower_digits v ≡ c)
letter_known c v least most e =
    let value = letter_value c least most in
    let is : v ≡ c - 87 = cc in
    let small : v < 16 = omega arith in
    let many : nat_lt v 10 ≡ false = grind (arith, nat_tests) in
    (small, placed v small ∙ ap (λ b. cond b (48 + v) (87 + v)) many ∙ omega arith)

lower_known : (c v : ℕ) → is_lower c ≡ true → hex_digit_value c ≡ Some v → (v < 16) × (slice_index lower_digits v ≡ c)
lower_known c v low e = elim (cases_lt c 58) [
  | inl below ↦ let least : 48 ≤ c = grind (arith, nat_tests, low) in decimal_known c v least below e
  | inr above ↦ let least : 97 ≤ c = grind (arith, nat_tests, low) in let most : c ≤ 102 = grind (arith, nat_tests, low) in letter_known c v least most e
]

then_ok : {A B P : Type 0} (r : Result A FromHexError) (f : A → Result B FromHexError) (y : B) → (r >>= f) ≡ Ok y → ((x : A) → r ≡ Ok x → f x ≡ Ok y → P) → P
then_ok (Ok x) f y e k = k x refl e
then_ok (Err d) f y e k = absurd cc

value_known : (c i v : ℕ) (o : Option ℕ) → digit_or_error c i o ≡ Ok v → o ≡ Some v
value_known c i v (Some w) e = cc
value_known c i v None e = absurd cc

-- the byte of two such digits
pair_known : (high low i byte : ℕ) → is_lower high ≡ true → is_lower low ≡ true → pair_value high low i ≡ Ok byte
    → (slice_index lower_digits (byte / 16) ≡ high) × (slice_index lower_digits (byte % 16) ≡ low)
pair_known high low i byte hs ls e =
    then_ok (value_at high i) _ byte e (λ h eh f. then_ok (value_at low (i + 1)) _ byte f (λ l el g.
    let a = lower_known high h hs (value_known high i h (hex_digit_value high) eh) in
    let b = lower_known low l ls (value_known low (i + 1) l (hex_digit_value low) el) in
    let is : h * 16 + l ≡ byte = cc in
    let top : byte / 16 ≡ h = omega (arith, is, b.0) in
    let end : byte % 16 ≡ l = omega (arith, is, b.0) in
    (ap (slice_index lower_digits) top ∙ a.1, ap (slice_index lower_digits) end ∙ b.1)))

pairs_known : (i : ℕ) (word bytes : List ℕ) → list_all is_lower word ≡ true → decode_pairs i word ≡ Ok bytes → encode_lower bytes ≡ word
unfolding decode_pairs encode_with
pairs_known i [] bytes h e = let none : [] ≡ bytes = cc in ap encode_lower (sym none)
pairs_known i (digit ∷ []) bytes h e = absurd cc
pairs_known i (high ∷ low ∷ rest) bytes h e =
    let hs = and_parts (is_lower high) (list_all is_lower (low ∷ rest)) h in
    let ls = and_parts (is_lower low) (list_all is_lower rest) hs.1 in
    then_ok (pair_value high low i) _ bytes e (λ byte eb f. then_ok (decode_pairs (i + 2) rest) _ bytes f (λ more em g.
    let p = pair_known high low i byte hs.0 ls.0 eb in
    let is : byte ∷ more ≡ bytes = cc in
    let behind = pairs_known (i + 2) rest more ls.1 em in
    ap encode_lower (sym is) ∙ (λ k. p.0 k ∷ p.1 k ∷ behind k)))

ok_known : (r : Result (List ℕ) FromHexError) (bytes : List ℕ) → ok_of r ≡ Some bytes → r ≡ Ok bytes
ok_known (Ok x) bytes e = cc
ok_known (Err d) bytes e = absurd cc

-- bytes that are read
pub bytes_known : (word bytes : List ℕ) → bytes_in word ≡ Some bytes → IsBytes bytes × (encode_lower bytes ≡ word)
bytes_known word bytes e =
    let f = if_some (list_all is_lower word) (ok_of (decode_of word)) bytes e in
    let is = ok_known (decode_of word) bytes f.1 in
    let all = decode_of-ok word bytes is in
    (all.3, pairs_known 0 word bytes f.0 (sym (decode_of-even word all.0) ∙ is))

-- and numbers of 64 bits
pub size_known : (word : List ℕ) (n : ℕ) → size_in word ≡ Some n → (n < 2 ^ 64) × (decimal n ≡ word)
size_known word n e = let r = decimal_read (2 ^ 64) n word (omega arith) e in (r.0, sym r.1)

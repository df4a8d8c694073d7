-- Numbers of files, read from their names.
use Rattle.std.proofs.Common.{◌≡◌, ℕ, ◌<◌, ◌≤◌, ◌^◌, ◌==◌, true, false, cond, ◌&&◌, nat_le, List, [], ◌∷◌, length, drop, Some, None, Result, refl, ap, sym, ◌∙◌, subst, arith}
use Rattle.std.proofs.lemmas.Bool.{and_parts}
use Rattle.std.proofs.lemmas.Bool.Decides.{nat_tests}
use Rattle.std.proofs.lemmas.Result.{Ok-from_Ok_iff}
use Rattle.std.specs.Prelude.{if◌then◌else◌}
use Rattle.std.specs.Result.{result_ok}
use Rattle.std.specs.List.{list_all}
use Rattle.std.specs.Str.Parse.{ParsesUnsigned, AllDigits, digits_value, without_leading_plus}
use Rattle.wal_base.specs.Hex.{hex_value, is_upper_hex}
use Rattle.wal_base.proofs.HexDigits.{digits_from_hex, all_hex_from_upper, value_below}
use Rattle.slru_replay.specs.Cutting.{is_name_length, is_file_name, file_number}

record IsNumber (name : List ℕ) : Type 0 where
  upper : list_all is_upper_hex name ≡ true
  least : 4 ≤ length name
  most : length name ≤ 6

number_is : (name : List ℕ) → is_file_name name ≡ true → IsNumber name
number_is name h =
    let e = and_parts (list_all is_upper_hex name && is_name_length (length name)) _ h in
    let f = and_parts (list_all is_upper_hex name) (is_name_length (length name)) e.0 in
    let k = and_parts (nat_le 4 (length name)) (nat_le (length name) 6) f.1 in
    record { upper = f.0; least = grind (arith, nat_tests, k.0); most = grind (arith, nat_tests, k.1) }

no_plus : (name : List ℕ) → list_all is_upper_hex name ≡ true → without_leading_plus name ≡ name
no_plus [] h = refl
no_plus (c ∷ cs) h =
    let first : is_upper_hex c ≡ true = (and_parts (is_upper_hex c) (list_all is_upper_hex cs) h).0 in
    let other : (c == 43) ≡ false = grind (arith, nat_tests) in
    ap (λ b. drop (cond b 1 0) (c ∷ cs)) other

small : (name : List ℕ) → is_file_name name ≡ true → hex_value name < 2 ^ 24
small name h =
    let n = number_is name h in
    let v = value_below name 6 (digits_from_hex name (all_hex_from_upper name n.upper)) n.most in
    omega (arith, v)

pub number_read : {E : Type 0} (name : List ℕ) (r : Result ℕ E) → is_file_name name ≡ true → ParsesUnsigned 32 16 name r → result_ok r ≡ file_number name
number_read name r h parses =
    let n = number_is name h in
    let bare = no_plus name n.upper in
    let digits = digits_from_hex name (all_hex_from_upper name n.upper) in
    let low = small name h in
    let some : 0 < length name = omega (arith, n.least) in
    let is = Ok-from_Ok_iff r _ _ parses (subst (λ (bs : List ℕ). ((0 < length bs) × AllDigits 16 bs) × (digits_value 16 bs < 2 ^ 32)) (sym bare) ((some, digits), omega (arith, low))) in
    ap result_ok is ∙ ap (λ (bs : List ℕ). Some (digits_value 16 bs)) bare ∙ sym (ap (λ b. if b then Some (hex_value name) else None) h)

pub number_none : (name : List ℕ) → is_file_name name ≡ false → file_number name ≡ None
number_none name h = ap (λ b. if b then Some (hex_value name) else None) h

pub number_below : (name : List ℕ) (n : ℕ) → file_number name ≡ Some n → n < 2 ^ 24
number_below name n e =
    elim (is_file_name name) as (λ b. is_file_name name ≡ b → (if b then Some (hex_value name) else None) ≡ Some n → n < 2 ^ 24) [
      | true ↦ λ h is. let same : hex_value name ≡ n = cc in let low = small name h in omega (arith, low, same)
      | false ↦ λ h is. absurd cc
    ] refl e

pub ruleset number_steps = (number_none)

pub ruleset below_steps = (number_below)

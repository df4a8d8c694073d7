-- What fitting options say of the segment that is given, and of its size.
use Rattle.std.proofs.Common.{◌≡◌, ℕ, ◌*◌, ◌^◌, ◌<◌, ◌&&◌, Bool, true, false, nat_le, nat_lt, Option, None, Some, IfSome, is_some, refl, sym, ap, ◌∙◌, arith, rules}
use Rattle.std.specs.Int.{is_power_of_two}
use Rattle.std.proofs.lemmas.Bool.{and_parts}
use Rattle.wal_base.specs.SegSize.{IsSegSize, is_seg_size}
use Rattle.wal_base.specs.SizeOfBytes.{is_size, size_of_bytes, size_when}
use Rattle.reset_numbers.specs.Options.{IsFit, are_digits, are_ends, are_multis, fits, is_fit, is_member_place, is_normal, is_object, is_size_mb}
use Rattle.reset_numbers.specs.declared.options.ResetOptions.{ResetOptions}

-- ---- the test of a size

some_when : (bytes : ℕ) (t : Bool) (is : is_seg_size bytes ≡ t) → is_some (size_when bytes t is) ≡ is_seg_size bytes
some_when bytes true is = sym is
some_when bytes false is = sym is

pub some_size : (bytes : ℕ) → is_some (size_of_bytes bytes) ≡ is_seg_size bytes
unfolding size_of_bytes
some_size bytes = some_when bytes (is_seg_size bytes) refl

and_false : (b : Bool) → (b && false) ≡ false
and_false true = refl
and_false false = refl

le_false : (a b : ℕ) → b < a → nat_le a b ≡ false
le_false a b l = grind (arith, rules, l)

pub too_big : (mb : ℕ) → 1024 < mb → is_size_mb mb ≡ false
too_big mb more =
    ap (λ b. (is_power_of_two (mb * 2 ^ 20) && nat_le (2 ^ 20) (mb * 2 ^ 20)) && b) (le_false (mb * 2 ^ 20) (2 ^ 30) (omega (arith, more)))
    ∙ and_false (is_power_of_two (mb * 2 ^ 20) && nat_le (2 ^ 20) (mb * 2 ^ 20))

pub ruleset size_steps = (some_size, too_big)

-- ---- options that fit

lt_true : (a b : ℕ) → nat_lt a b ≡ true → a < b
lt_true a b h = grind (arith, rules, h)

digits_below : (given : Option (ℕ × ℕ × ℕ)) → fits are_digits given ≡ true → IfSome given (λ log. (log.1 < 2 ^ 32) × (log.2 < 2 ^ 32))
digits_below None h = tt
digits_below (Some log) h = let two = and_parts (nat_lt log.1 (2 ^ 32)) (nat_lt log.2 (2 ^ 32)) h in (lt_true log.1 (2 ^ 32) two.0, lt_true log.2 (2 ^ 32) two.1)

size_of_mb : (given : Option ℕ) → fits is_size_mb given ≡ true → IfSome given (λ mb. IsSegSize (mb * 2 ^ 20))
size_of_mb None h = tt
size_of_mb (Some mb) h = is_size (mb * 2 ^ 20) h

abbrev others : ResetOptions → Bool
others options =
    fits are_ends options.commit_ts && fits is_normal options.xid && fits is_normal options.oldest_xid && fits are_multis options.multi
    && fits is_object options.oid && fits is_member_place options.multi_offset

pub fit_log : (options : ResetOptions) → IsFit options → IfSome options.log (λ log. (log.1 < 2 ^ 32) × (log.2 < 2 ^ 32))
unfolding is_fit
fit_log options fit =
    let outer = and_parts (others options && fits are_digits options.log) (fits is_size_mb options.segment_mb) fit in
    digits_below options.log (and_parts (others options) (fits are_digits options.log) outer.0).1

pub fit_size : (options : ResetOptions) → IsFit options → IfSome options.segment_mb (λ mb. IsSegSize (mb * 2 ^ 20))
unfolding is_fit
fit_size options fit = size_of_mb options.segment_mb (and_parts (others options && fits are_digits options.log) (fits is_size_mb options.segment_mb) fit).1

pub ruleset fit_steps = (fit_log, fit_size)

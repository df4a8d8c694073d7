-- The date of a day number is that of the calendar.
use Rattle.std.proofs.Common.{◌≡◌, ℕ, zero, suc, ◌≤◌, ◌<◌, true, false, ℤ, pos, negsuc, neg_ℤ, ◌-ℤ◌, ◌≤ℤ◌, ◌<ℤ◌, inl, inr, unsigned_abs, ap, sym, ◌∙◌, refl, arith}
use Rattle.std.specs.Prelude.{int_le}
use Rattle.std.proofs.lemmas.Bool.{cases_lt}
use Rattle.std.proofs.Common.{FitsSigned, to_z, of_z}
use Rattle.std.specs.Int.{Width}
use Rattle.std.proofs.lemmas.Int.{by_lt_z, to_z-of_z}
use Rattle.jiff_core.proofs.MarchLemmas.{day_count-early}
use Rattle.jiff_core.proofs.CalendarLemmas.{day_count-epoch, day_count-day_of_year, day_count-lt_year, day_count-lt_month, day_count-day}
use Rattle.jiff_core.proofs.DateLemmas.{civil}
use Rattle.control_file.specs.Time.{year_by, month_by, year_of, month_of, month_day_of}
use Rattle.jiff_core.specs.Calendar.{days_from_civil, day_count, IsCivilDate}
use Rattle.jiff_core.specs.Date.{epoch_day, IsYmd}
use Rattle.jiff_core.specs.declared.civil.date.Date.{Date}
use Rattle.jiff.proofs.SpanFacts.{signed_arith}

-- day 0 is 1970-01-01
pub epoch_day-epoch : (d : Date) → IsYmd (pos 1970) (pos 1) (pos 1) d → epoch_day d ≡ pos 0
unfolding days_from_civil
epoch_day-epoch d ymd =
    let y : d.year ≡ pos 1970 = ymd.0 in
    let m : d.month ≡ 1 = omega (arith, signed_arith, ymd.1) in
    let k : d.day ≡ 1 = omega (arith, signed_arith, ymd.2) in
    rw (y, m, k) (omega (arith, signed_arith))

pos_unsigned_abs : (z : ℤ) → pos 0 ≤ℤ z → z ≡ pos (unsigned_abs z)
pos_unsigned_abs (pos n) low = refl
pos_unsigned_abs (negsuc n) low = absurd (omega (arith, signed_arith))

-- a day number by the count of days from the year -10000 on
day_number : (y : ℤ) (m d : ℕ) → days_from_civil y m d ≡ pos (day_count y m d) -ℤ pos 4_371_953
unfolding days_from_civil
day_number y m d = rw day_count-epoch refl

pub int_le-true : (a b : ℤ) → a ≤ℤ b → int_le a b ≡ true
int_le-true a b h = grind (arith, signed_arith)

pub int_le-false : (a b : ℤ) → b <ℤ a → int_le a b ≡ false
int_le-false a b h = grind (arith, signed_arith)

-- the days of a year lie between its first day and the next year's
record YearHas (day : ℤ) (year : ℕ) : Type 0 where
  from_one : 1 ≤ year
  begun : days_from_civil (pos year) 1 1 ≤ℤ day
  later : (other : ℕ) → year < other → day <ℤ days_from_civil (pos other) 1 1

year_by-is : (day : ℤ) (year n : ℕ) → YearHas day year → year ≤ n → year_by day n ≡ year
unfolding year_by
year_by-is day year zero has le = absurd (omega (arith, has.from_one))
year_by-is day year (suc n) has le =
    elim (cases_lt year (suc n)) [
      | inl lt ↦ rw (int_le-false (days_from_civil (pos (suc n)) 1 1) day (has.later (suc n) lt)) (year_by-is day year n has (omega arith))
      | inr ge ↦
          let same : suc n ≡ year = omega arith in
          let begun : days_from_civil (pos (suc n)) 1 1 ≤ℤ day = rw same has.begun in
          rw (int_le-true (days_from_civil (pos (suc n)) 1 1) day begun) same
    ]

-- the days of a month lie between its first day and the next month's
record MonthHas (year : ℕ) (day : ℤ) (month : ℕ) : Type 0 where
  from_one : 1 ≤ month
  begun : days_from_civil (pos year) month 1 ≤ℤ day
  later : (other : ℕ) → month < other → day <ℤ days_from_civil (pos year) other 1

month_by-is : (year : ℕ) (day : ℤ) (month n : ℕ) → MonthHas year day month → month ≤ n → month_by year day n ≡ month
unfolding month_by
month_by-is year day month zero has le = absurd (omega (arith, has.from_one))
month_by-is year day month (suc n) has le =
    elim (cases_lt month (suc n)) [
      | inl lt ↦ rw (int_le-false (days_from_civil (pos year) (suc n) 1) day (has.later (suc n) lt)) (month_by-is year day month n has (omega arith))
      | inr ge ↦
          let same : suc n ≡ month = omega arith in
          let begun : days_from_civil (pos year) (suc n) 1 ≤ℤ day = rw same has.begun in
          rw (int_le-true (days_from_civil (pos year) (suc n) 1) day begun) same
    ]

-- 1 January of the year 1
first_day : day_count (pos 1) 1 1 ≡ 3_652_791
first_day = day_count-early (pos 1) 10000 1 1 refl (omega arith) (omega arith) (omega arith)

-- the year of a date from 0001-01-01 on
pub year_from : (d : Date) → neg_ℤ (pos 719_162) ≤ℤ epoch_day d → pos 1 ≤ℤ d.year
year_from d from =
    let number = day_number d.year d.month d.day in
    by_lt_z d.year (pos 1)
    (λ lt.
    let before = day_count-lt_year d.year d.month d.day (pos 1) 1 1 (civil d) (omega arith) lt in
    absurd (omega (arith, signed_arith, first_day)))
    (λ ge. ge)

-- the year, the month and the day of a date, by its day number
pub record IsDateOf (number : ℤ) (d : Date) : Type 0 where
  pub year : d.year ≡ pos (year_of number)
  pub month : d.month ≡ month_of number
  pub day : d.day ≡ month_day_of number

year_has : (number : ℤ) (year month day : ℕ) → IsCivilDate (pos year) month day → 1 ≤ year → days_from_civil (pos year) month day ≡ number → YearHas number year
year_has number year month day is low e =
    let here = day_number (pos year) month day in
    let first = day_number (pos year) 1 1 in
    let place = day_count-day_of_year (pos year) month day is.2.0 in
    record {
      from_one = low;
      begun = omega (arith, signed_arith);
      later = λ other lt.
          let less : pos year <ℤ pos other = omega (arith, signed_arith) in
          let next = day_number (pos other) 1 1 in
          let before = day_count-lt_year (pos year) month day (pos other) 1 1 is (omega arith) less in
          omega (arith, signed_arith);
    }

month_has : (number : ℤ) (year month day : ℕ) → IsCivilDate (pos year) month day → days_from_civil (pos year) month day ≡ number → MonthHas year number month
month_has number year month day is e =
    let here = day_number (pos year) month day in
    let first = day_number (pos year) month 1 in
    let place = day_count-day (pos year) month day 1 is.2.0 (omega arith) in
    record {
      from_one = is.1.0;
      begun = omega (arith, signed_arith, is.2.0);
      later = λ other lt.
          let next = day_number (pos year) other 1 in
          let before = day_count-lt_month (pos year) month day other 1 is (omega arith) lt in
          omega (arith, signed_arith);
    }

year_of-is : (number : ℤ) (year month day : ℕ) → IsCivilDate (pos year) month day → 1 ≤ year → days_from_civil (pos year) month day ≡ number → year_of number ≡ year
unfolding year_of
year_of-is number year month day is low e =
    year_by-is number year 9999 (year_has number year month day is low e) (omega (arith, signed_arith, is.0.1))

month_of-is : (number : ℤ) (year month day : ℕ) → IsCivilDate (pos year) month day → 1 ≤ year → days_from_civil (pos year) month day ≡ number → month_of number ≡ month
unfolding month_of
month_of-is number year month day is low e =
    rw (year_of-is number year month day is low e) (month_by-is year number month 12 (month_has number year month day is e) is.1.1)

month_day_of-is : (number : ℤ) (year month day : ℕ) → IsCivilDate (pos year) month day → 1 ≤ year → days_from_civil (pos year) month day ≡ number → month_day_of number ≡ day
unfolding month_day_of
month_day_of-is number year month day is low e =
    let here = day_number (pos year) month day in
    let first = day_number (pos year) month 1 in
    let place = day_count-day (pos year) month day 1 is.2.0 (omega arith) in
    let past = number -ℤ days_from_civil (pos year) month 1 in
    let same : past ≡ pos (unsigned_abs past) = pos_unsigned_abs past (omega (arith, signed_arith, is.2.0)) in
    rw (year_of-is number year month day is low e, month_of-is number year month day is low e) (omega (arith, signed_arith, is.2.0))

-- where the year is a number from 1 on
pub date_is : (d : Date) (number : ℤ) → epoch_day d ≡ number → neg_ℤ (pos 719_162) ≤ℤ number → IsDateOf number d
date_is d number e from =
    let low : pos 1 ≤ℤ d.year = year_from d (rw e from) in
    let year : ℕ = unsigned_abs d.year in
    let same : d.year ≡ pos year = pos_unsigned_abs d.year (omega (arith, signed_arith)) in
    let is : IsCivilDate (pos year) d.month d.day = rw same at (civil d) in
    let at : days_from_civil (pos year) d.month d.day ≡ number = rw same at e in
    let one : 1 ≤ year = omega (arith, signed_arith) in
    record {
      year = same ∙ ap pos (sym (year_of-is number year d.month d.day is one at));
      month = sym (month_of-is number year d.month d.day is one at);
      day = sym (month_day_of-is number year d.month d.day is one at);
    }

-- a number that a cast leaves as it is
pub cast_back : (w : Width) (z : ℤ) (n : ℕ) → FitsSigned w z → z ≡ pos n → unsigned_abs (to_z w (of_z w z)) ≡ n
cast_back w z n fits e = rw (to_z-of_z w z fits, e) refl

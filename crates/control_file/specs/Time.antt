-- A time as pg_controldata shows it: C's strftime with "%c" in the locale C, at UTC.
use Rattle.std.specs.Prelude.{ℕ, zero, suc, ◌+◌, ◌-◌, ◌/◌, ◌%◌, ℤ, pos, neg_ℤ, ◌-ℤ◌, int_le, ◌&&◌, if◌then◌else◌, List, [], ◌++◌, length, replicate, get_or, codes, decimal, unsigned_abs}
use Rattle.std.specs.Fmt.{signed_decimal}
use Rattle.std.specs.Int.{int_div_euclid, int_rem_euclid}
use Rattle.jiff_core.specs.Calendar.{days_from_civil, weekday_number}
use Rattle.control_file.specs.Names.{weekday_names, month_names}

-- the day number of a second, from 0 for 1970-01-01, and the seconds since that day began
abbrev pub day_of : ℤ → ℤ
day_of seconds = int_div_euclid seconds (pos 86400)

abbrev pub second_of : ℤ → ℕ
second_of seconds = unsigned_abs (int_rem_euclid seconds (pos 86400))

-- the last of the years 1 to n that has begun by this day
unfoldable pub year_by : ℤ → ℕ → ℕ
year_by day zero = 0
year_by day (suc n) = if int_le (days_from_civil (pos (suc n)) 1 1) day then suc n else year_by day n

-- the last of the months 1 to n of the year that has begun by this day
unfoldable pub month_by : ℕ → ℤ → ℕ → ℕ
month_by year day zero = 0
month_by year day (suc n) = if int_le (days_from_civil (pos year) (suc n) 1) day then suc n else month_by year day n

-- the year, the month and the day of the month, each from 1, for a day of the years 1 to 9999
unfoldable pub year_of : ℤ → ℕ
year_of day = year_by day 9999

unfoldable pub month_of : ℤ → ℕ
month_of day = month_by (year_of day) day 12

unfoldable pub month_day_of : ℤ → ℕ
month_day_of day = unsigned_abs (day -ℤ days_from_civil (pos (year_of day)) (month_of day) 1) + 1

-- a number in two places, with this byte before it where it has one digit
unfoldable pub two_places : ℕ → ℕ → List ℕ
two_places pad n = replicate (2 - length (decimal n)) pad ++ decimal n

-- a day, as `Tue Nov 14`
unfoldable pub day_text : ℤ → List ℕ
day_text day =
    get_or weekday_names (weekday_number day) [] ++ codes " " ++ get_or month_names (month_of day - 1) [] ++ codes " "
    ++ two_places 32 (month_day_of day)

-- a second of the day, as `22:13:20`
unfoldable pub clock_text : ℕ → List ℕ
clock_text second =
    two_places 48 (second / 3600) ++ codes ":" ++ two_places 48 (second % 3600 / 60) ++ codes ":"
    ++ two_places 48 (second % 60)

-- a day and a second of it, as `Tue Nov 14 22:13:20 2023`
unfoldable pub civil_text : ℤ → ℕ → List ℕ
civil_text day second = day_text day ++ codes " " ++ clock_text second ++ codes " " ++ decimal (year_of day)

-- the first second of the year 1, and the last of the year 9999
abbrev pub first_second : ℤ
first_second = neg_ℤ (pos 62_135_596_800)

abbrev pub last_second : ℤ
last_second = pos 253_402_300_799

-- a time in seconds since 1970; outside the years 1 to 9999 the number of seconds
-- Own: "Times that no calendar year of four digits has"
unfoldable pub time_text : ℤ → List ℕ
time_text seconds =
    if int_le first_second seconds && int_le seconds last_second
    then civil_text (day_of seconds) (second_of seconds)
    else signed_decimal seconds

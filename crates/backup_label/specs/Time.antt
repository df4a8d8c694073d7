-- A time as a label shows it: PostgreSQL 16, src/bin/pg_rewind/pg_rewind.c, createBackupLabel, strftime of "%Y-%m-%d %H:%M:%S %Z", at
-- UTC. Own: "The time of a label".
use Rattle.std.specs.Prelude.{ℕ, ◌-◌, ◌&&◌, ℤ, int_le, List, ◌++◌, length, replicate, codes, decimal, if◌then◌else◌}
use Rattle.std.specs.Fmt.{signed_decimal}
use Rattle.control_file.specs.Time.{clock_text, day_of, first_second, last_second, month_day_of, month_of, second_of, two_places, year_of}

-- a number in four places, with zeros (48) before it
unfoldable pub four_places : ℕ → List ℕ
four_places n = replicate (4 - length (decimal n)) 48 ++ decimal n

-- a day, as `2023-11-14`
unfoldable pub date_text : ℤ → List ℕ
date_text day = four_places (year_of day) ++ codes "-" ++ two_places 48 (month_of day) ++ codes "-" ++ two_places 48 (month_day_of day)

-- a day and a second of it, as `2023-11-14 22:13:20 UTC`
unfoldable pub moment_text : ℤ → ℕ → List ℕ
moment_text day second = date_text day ++ codes " " ++ clock_text second ++ codes " UTC"

-- a time in seconds since 1970; outside the years 1 to 9999 the number of seconds
unfoldable pub label_time : ℤ → List ℕ
label_time seconds =
    if int_le first_second seconds && int_le seconds last_second
    then moment_text (day_of seconds) (second_of seconds)
    else signed_decimal seconds

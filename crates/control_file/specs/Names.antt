-- The names that the text of a control file uses for numbers: PostgreSQL 16, src/bin/pg_controldata/pg_controldata.c;
-- of days and months those of C's strftime in the locale C.
use Rattle.std.specs.Prelude.{ℕ, List, [], ◌∷◌, codes}

-- the days of the week, from Monday
abbrev pub weekday_names : List (List ℕ)
weekday_names = codes "Mon" ∷ codes "Tue" ∷ codes "Wed" ∷ codes "Thu" ∷ codes "Fri" ∷ codes "Sat" ∷ codes "Sun" ∷ []

-- the months
abbrev pub month_names : List (List ℕ)
month_names =
    codes "Jan" ∷ codes "Feb" ∷ codes "Mar" ∷ codes "Apr" ∷ codes "May" ∷ codes "Jun"
    ∷ codes "Jul" ∷ codes "Aug" ∷ codes "Sep" ∷ codes "Oct" ∷ codes "Nov" ∷ codes "Dec" ∷ []

-- the states of a cluster, from 0
abbrev pub state_names : List (List ℕ)
state_names =
    codes "starting up" ∷ codes "shut down" ∷ codes "shut down in recovery" ∷ codes "shutting down"
    ∷ codes "in crash recovery" ∷ codes "in archive recovery" ∷ codes "in production" ∷ []

-- the levels of the log, from 0
abbrev pub wal_level_names : List (List ℕ)
wal_level_names = codes "minimal" ∷ codes "replica" ∷ codes "logical" ∷ []

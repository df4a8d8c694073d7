-- What the bytes of a rewind's mark tell. Own: "The plan of a rewind as text".
use Rattle.std.specs.Prelude.{ℕ, ◌&&◌, List, codes, bytes_eq, length, nat_eq, nat_lt, if◌then◌else◌}
use Rattle.std.specs.List.{starts_with}
use Rattle.plan_text.specs.declared.mark.MarkText.{MarkText}
use Rattle.plan_text.specs.declared.mark.MarkText.TheVariants.{Version1, NotComplete, Complete}

-- by its first line, the gate at byte 12, and whether a plan stands behind that
abbrev pub mark_told : List ℕ → MarkText
mark_told bytes =
    if bytes_eq bytes (codes "pg_rewind 1\n") then Version1
    else if nat_lt 14 (length bytes) && starts_with nat_eq bytes (codes "pg_rewind 2\n+") then Complete
    else NotComplete

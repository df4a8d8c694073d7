-- What the bytes of the mark of a replay that can be started again tell. Own: "The list in a replay's mark".
use Rattle.std.specs.Prelude.{ℕ, ◌==◌, ◌&&◌, Bool, List, codes, bytes_eq, length, nat_eq, nat_lt, slice_index, if◌then◌else◌}
use Rattle.std.specs.List.{starts_with}
use Rattle.replay_list.specs.declared.mark.ReplayMark.{ReplayMark}
use Rattle.replay_list.specs.declared.mark.ReplayMark.TheVariants.{Version1, NotComplete, Complete, Ended}

-- the gate at a byte is open: `+`
abbrev pub is_open : ℕ → List ℕ → Bool
is_open at bytes = slice_index bytes at == 43

-- its first line, the first gate open, and a list behind the head of 18 bytes
abbrev pub is_complete : List ℕ → Bool
is_complete bytes = nat_lt 18 (length bytes) && starts_with nat_eq bytes (codes "pg_walreplay 2\n") && is_open 15 bytes

-- by its version and its gates
abbrev pub mark_told : List ℕ → ReplayMark
mark_told bytes =
    if bytes_eq bytes (codes "pg_walreplay 1\n") then Version1
    else if is_complete bytes && is_open 16 bytes then Ended
    else if is_complete bytes then Complete
    else NotComplete

-- Paths that have a step of a plan. Own: "The plan of a rewind as text".
use Rattle.std.specs.Prelude.{ℕ, ◌||◌, Bool, List, codes, bytes_eq, Option, None, Some, option_and_then, option_map, if◌then◌else◌}
use Rattle.cluster_tree.specs.PathValue.{kept_parts}
use Rattle.mark_lines.specs.Paths.{way_in}

-- the control file and the marks have no step of their own
abbrev pub is_kept_out : List ℕ → Bool
is_kept_out text =
    bytes_eq text (codes "global/pg_control") || bytes_eq text (codes "pg_rewind.unfinished")
    || bytes_eq text (codes "pg_walreplay.unfinished") || bytes_eq text (codes "pg_resetwal.unfinished")

-- a way that isn't kept out
abbrev pub own_way : List ℕ → Option (List ℕ)
own_way text = if is_kept_out text then None else Some text

-- the way below a root of so many parts that a step's word says
abbrev pub step_way_in : ℕ → List ℕ → Option (List ℕ)
step_way_in depth word = option_and_then own_way (way_in depth word)

-- .. as its parts
abbrev pub step_parts_in : ℕ → List ℕ → Option (List (List ℕ))
step_parts_in depth word = option_map kept_parts (step_way_in depth word)

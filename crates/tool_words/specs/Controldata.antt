-- The words of pg_controldata, `-D --pgdata DIR` or the word DIR: PostgreSQL 16 manual, reference page of pg_controldata.
use Rattle.std.specs.Prelude.{ℕ, List, [], ◌∷◌, Option, Some, codes, option_and_then}
use Rattle.clap.specs.Walk.{Rule}
use Rattle.command_words.specs.Table.{found_in, letter, option, word}
use Rattle.tool_words.specs.Roots.{one_root}

-- its one option and its one word
unfoldable pub controldata_table : List Rule
controldata_table =
    option (codes "pgdata") (letter (codes "D")) (Some (codes "pgdata")) ∷
    word (codes "DIR") ∷ []

-- the root that the words give; none where they are not in the grammar
abbrev pub controldata_of : List (List ℕ) → Option (List ℕ)
controldata_of words = option_and_then one_root (found_in controldata_table words)

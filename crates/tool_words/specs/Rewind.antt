-- The words of pg_rewind, `-D --target-pgdata DIR`, `--source-pgdata DIR`, `-n --dry-run` and `--resume` (own): PostgreSQL 16 manual, reference page of pg_rewind.
use Rattle.std.specs.Prelude.{ℕ, Bool, List, [], ◌∷◌, Option, Some, None, codes, option_and_then}
use Rattle.clap.specs.Walk.{Row, Rule, first_of}
use Rattle.command_words.specs.Table.{flag, found_in, is_on, letter, option}
use Rattle.tool_words.specs.Roots.{root_given}
use Rattle.tool_words.specs.declared.rewind.RewindTexts.{RewindTexts}

-- its options and its flags
unfoldable pub rewind_table : List Rule
rewind_table =
    option (codes "target") (letter (codes "D")) (Some (codes "target-pgdata")) ∷
    option (codes "source") None (Some (codes "source-pgdata")) ∷
    flag (codes "dry-run") (letter (codes "n")) (Some (codes "dry-run")) ∷
    flag (codes "resume") None (Some (codes "resume")) ∷ []

-- both roots are needed
abbrev pub rewind_from : Option (List ℕ) → Option (List ℕ) → Bool → Bool → Option RewindTexts
rewind_from (Some target) (Some source) dry_run resume =
    Some (record { target = target; source = source; dry_run = dry_run; resume = resume })
rewind_from _ _ dry_run resume = None

-- what was found in the words
abbrev pub rewind_in : List Row → Option RewindTexts
rewind_in rows = rewind_from (root_given (first_of (codes "target") rows))
    (root_given (first_of (codes "source") rows)) (is_on (codes "dry-run") rows) (is_on (codes "resume") rows)

-- what the words ask for; none where they are not in the grammar
abbrev pub rewind_of : List (List ℕ) → Option RewindTexts
rewind_of words = option_and_then rewind_in (found_in rewind_table words)

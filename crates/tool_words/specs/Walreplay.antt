-- The words of pg_walreplay, `--restart` and the word DIR. Own: "Commands of this project's own", "A replay that can be started again".
use Rattle.std.specs.Prelude.{ℕ, Bool, List, [], ◌∷◌, Option, Some, None, codes, option_and_then}
use Rattle.clap.specs.Walk.{Row, Rule, first_of}
use Rattle.command_words.specs.Table.{flag, found_in, is_on, word}
use Rattle.tool_words.specs.Roots.{root_given}
use Rattle.tool_words.specs.declared.walreplay.WalreplayTexts.{WalreplayTexts}

-- its flag and its word
unfoldable pub walreplay_table : List Rule
walreplay_table =
    flag (codes "restart") None (Some (codes "restart")) ∷
    word (codes "DIR") ∷ []

-- the root is needed
abbrev pub walreplay_from : Option (List ℕ) → Bool → Option WalreplayTexts
walreplay_from (Some root) restart = Some (record { root = root; restart = restart })
walreplay_from None restart = None

-- what was found in the words
abbrev pub walreplay_in : List Row → Option WalreplayTexts
walreplay_in rows = walreplay_from (root_given (first_of (codes "DIR") rows)) (is_on (codes "restart") rows)

-- what the words ask for; none where they are not in the grammar
abbrev pub walreplay_of : List (List ℕ) → Option WalreplayTexts
walreplay_of words = option_and_then walreplay_in (found_in walreplay_table words)

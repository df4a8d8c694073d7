-- The words of pg_walcompare, the words A and B. Own: "Commands of this project's own".
use Rattle.std.specs.Prelude.{ℕ, List, [], ◌∷◌, Option, Some, None, codes, option_and_then}
use Rattle.clap.specs.Walk.{Row, Rule, first_of}
use Rattle.command_words.specs.Table.{found_in, word}
use Rattle.tool_words.specs.Roots.{root_given}
use Rattle.tool_words.specs.declared.walcompare.WalcompareTexts.{WalcompareTexts}

-- its two words
unfoldable pub walcompare_table : List Rule
walcompare_table = word (codes "A") ∷ word (codes "B") ∷ []

-- both roots are needed
abbrev pub walcompare_from : Option (List ℕ) → Option (List ℕ) → Option WalcompareTexts
walcompare_from (Some first) (Some second) = Some (record { first = first; second = second })
walcompare_from _ _ = None

-- what was found in the words
abbrev pub walcompare_in : List Row → Option WalcompareTexts
walcompare_in rows = walcompare_from (root_given (first_of (codes "A") rows)) (root_given (first_of (codes "B") rows))

-- what the words ask for; none where they are not in the grammar
abbrev pub walcompare_of : List (List ℕ) → Option WalcompareTexts
walcompare_of words = option_and_then walcompare_in (found_in walcompare_table words)

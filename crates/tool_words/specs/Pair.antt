-- The words of pair, SEED, BLOCKS and DIR. Own: "Numbers in words", "A pair from a number".
use Rattle.std.specs.Prelude.{ℕ, ◌^◌, ◌&&◌, List, [], ◌∷◌, Option, Some, None, codes, if◌then◌else◌, nat_lt, option_and_then}
use Rattle.clap.specs.Walk.{Row, Rule, first_of}
use Rattle.command_words.specs.Table.{found_in, word}
use Rattle.wal_base.specs.Decimal.{decimal_number}
use Rattle.tool_words.specs.Forms.{with_value}
use Rattle.tool_words.specs.Roots.{root_given}
use Rattle.tool_words.specs.declared.pair.PairTexts.{PairTexts}

-- its three words
unfoldable pub pair_table : List Rule
pair_table = word (codes "SEED") ∷ word (codes "BLOCKS") ∷ word (codes "DIR") ∷ []

-- the number that a pair is made from
abbrev pub seed_of : List ℕ → Option ℕ
seed_of text = decimal_number (2 ^ 64) text

-- a number of blocks, from 1 to 4096
abbrev pub if_fit : ℕ → Option ℕ
if_fit n = if nat_lt 0 n && nat_lt n 4097 then Some n else None

abbrev pub blocks_of : List ℕ → Option ℕ
blocks_of text = with_value (decimal_number (2 ^ 32) text) if_fit

-- all three are needed
abbrev pub pair_from : Option ℕ → Option ℕ → Option (List ℕ) → Option PairTexts
pair_from (Some seed) (Some blocks) (Some root) = Some (record { seed = seed; blocks = blocks; root = root })
pair_from _ _ _ = None

-- what was found in the words
abbrev pub pair_in : List Row → Option PairTexts
pair_in rows = pair_from (option_and_then seed_of (first_of (codes "SEED") rows)) (option_and_then blocks_of (first_of (codes "BLOCKS") rows))
    (root_given (first_of (codes "DIR") rows))

-- what the words ask for; none where they are not in the grammar
abbrev pub pair_texts_of : List (List ℕ) → Option PairTexts
pair_texts_of words = option_and_then pair_in (found_in pair_table words)

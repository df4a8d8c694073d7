-- The words that a command takes, as a table of options, flags and words: POSIX.1-2017, Base Definitions, "Utility Syntax Guidelines", with long names. Own: "What words mean".
-- What they mean is what the crate `clap` says of a simple command: `fault_of`, which words it refuses, and `matches_of`, what it finds in those that it takes.
use Rattle.std.specs.Prelude.{ℕ, Bool, true, false, List, [], ◌∷◌, map, codes, Option, Some, None}
use Rattle.std.specs.Prelude.{option_map, slice_get}
use Rattle.std.specs.Option.{option_map_or}
use Rattle.std.specs.Str.{bytes_eq}
use Rattle.clap.specs.Walk.{Row, Rule, Text, first_of}
use Rattle.clap.specs.Simple.{App, matches_of, new_rule, new_shape}
use Rattle.clap.specs.Faults.{fault_of}
use Rattle.clap.specs.Kinds.{Kinds}
use Rattle.clap.specs.declared.builder.action.ArgAction.TheVariants.{Set, SetTrue}
use Rattle.command_words.specs.declared.entry.Entry.{Entry}
use Rattle.command_words.specs.declared.entry.Takes.{Takes}
use Rattle.command_words.specs.declared.entry.Takes.TheVariants.{Value, Nothing}

-- an option, by the name under which it is found, its letter and its long name: it is given at most
-- once, with one value
abbrev pub option : Text → Option ℕ → Option Text → Rule
option id letter long =
    record (new_rule id) { short = letter; long = long; action = Some Set }

-- a flag: it is given at most once
abbrev pub flag : Text → Option ℕ → Option Text → Rule
flag id letter long =
    record (new_rule id) { short = letter; long = long; action = Some SetTrue }

-- a word at its place
abbrev pub word : Text → Rule
word id = option id None None

-- the letter of a text of one
abbrev pub letter : Text → Option ℕ
letter text = slice_get text 0

-- what an entry stands for, by whether it takes a value
abbrev pub rule_as : Takes → Text → Option ℕ → Option Text → Rule
rule_as Value = option
rule_as Nothing = flag

abbrev pub rule_of_entry : Entry → Rule
rule_of_entry e = rule_as e.takes e.id.now e.letter (option_map (λ s. s.now) e.long)

-- a table
abbrev pub rules_of : List Entry → List Rule
rules_of table = map rule_of_entry table

-- a command with just these options, flags and words, and no help flag of its own
abbrev pub command_with : List Rule → App
command_with rules = record {
  top = record (new_shape (codes "command")) { rules = rules; disable_help_flag = true };
  subs = [];
}

-- what was found, where nothing is wrong
abbrev pub unless_wrong : Kinds → List Row → Option (List Row)
unless_wrong [] rows = Some rows
unless_wrong (k ∷ ks) rows = None

-- what the command finds in the words, of which the first is its name; none where clap names a
-- fault in them
unfoldable pub found_in : List Rule → List Text → Option (List Row)
found_in rules words =
    unless_wrong (fault_of (command_with rules) words) (matches_of (command_with rules) words)

-- the flag was given
abbrev pub is_on : Text → List Row → Bool
is_on id rows = option_map_or (λ text. bytes_eq text (codes "true")) (first_of id rows) false

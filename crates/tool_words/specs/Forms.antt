-- The forms of values in words. Own: "Numbers in words".
use Rattle.std.specs.Prelude.{ℕ, ◌==◌, ◌^◌, List, [], ◌∷◌, ◌++◌, Option, Some, None, bytes_eq, if◌then◌else◌, option_map}
use Rattle.std.specs.List.{find, before_first, after_first}
use Rattle.std.specs.Path.{rsplit_once}
use Rattle.clap.specs.Walk.{Row, first_of}
use Rattle.wal_base.specs.Decimal.{decimal_number}
use Rattle.wal_base.specs.Hex.{is_long_name}
use Rattle.block_refs.specs.declared.names.Fork.{Fork}
use Rattle.block_refs.specs.declared.names.Fork.TheVariants.{Main, FreeSpace, Visibility, Init}
use Rattle.block_refs.specs.declared.names.RelName.{RelName}
use Rattle.block_refs.specs.Names.{fork_name}
use Rattle.tool_words.specs.declared.waldump.SegmentWord.{SegmentWord}

-- what comes of a value, where there is one
abbrev pub with_value : {X Y : Type 0} → Option X → (X → Option Y) → Option Y
with_value None next = None
with_value (Some x) next = next x

-- a value that may be left out, and is else of this form
abbrev pub read_as : {X : Type 0} → (List ℕ → Option X) → Option (List ℕ) → Option (Option X)
read_as form None = Some None
read_as form (Some text) = option_map Some (form text)

-- that of an option or a word
abbrev pub given : {X : Type 0} → (List ℕ → Option X) → List ℕ → List Row → Option (Option X)
given form id rows = read_as form (first_of id rows)

abbrev pub slash : ℕ
slash = 47

-- a text before and behind its first slash
abbrev pub before_slash : List ℕ → List ℕ
before_slash text = before_first (λ byte. byte == slash) text

abbrev pub after_slash : List ℕ → List ℕ
after_slash text = after_first (λ byte. byte == slash) text

-- a relation: its tablespace, its database and its number, a slash between each two
unfoldable pub relation_of : List ℕ → Option RelName
relation_of text =
    with_value (decimal_number (2 ^ 32) (before_slash text)) (λ space.
    with_value (decimal_number (2 ^ 32) (before_slash (after_slash text))) (λ database.
    with_value (decimal_number (2 ^ 32) (after_slash (after_slash text))) (λ relation.
    Some (record { space = space; database = database; relation = relation }))))

abbrev pub forks : List Fork
forks = Main ∷ FreeSpace ∷ Visibility ∷ Init ∷ []

-- a fork by its name
unfoldable pub fork_of : List ℕ → Option Fork
fork_of text = find (λ fork. bytes_eq text (fork_name fork)) forks

-- what stands before a text's last slash, with the slash, and what stands behind it
abbrev pub front_of : Option (List ℕ × List ℕ) → List ℕ
front_of None = []
front_of (Some parts) = parts.0 ++ slash ∷ []

abbrev pub folder_of : List ℕ → List ℕ
folder_of text = front_of (rsplit_once slash text)

abbrev pub back_of : List ℕ → Option (List ℕ × List ℕ) → List ℕ
back_of text None = text
back_of text (Some parts) = parts.1

abbrev pub last_part_of : List ℕ → List ℕ
last_part_of text = back_of text (rsplit_once slash text)

-- the name of a segment's file at the end of a path
abbrev pub segment_name : List ℕ → Option (List ℕ)
segment_name text = if is_long_name (last_part_of text) then Some (last_part_of text) else None

-- a segment's file with its folder
abbrev pub segment_word : List ℕ → Option SegmentWord
segment_word text = option_map (λ name. record { folder = folder_of text; name = name }) (segment_name text)

-- One line of a history file: PostgreSQL 16, src/backend/access/transam/timeline.c, readTimeLineHistory and
-- writeTimeLineHistory. Own: "The form of a history line".
use Rattle.std.specs.Prelude.{◌≡◌, ◌==◌, ℕ, ◌^◌, ◌||◌, Bool, not, IsTrue, ◌⊎◌, List, [], ◌∷◌, ◌++◌, Option, Some, None, length, drop, slice_index, option_map, option_and_then, if◌then◌else◌}
use Rattle.std.specs.List.{list_all, position_or_len, before_first, after_first}
use Rattle.memchr.specs.Find.{is_byte}
use Rattle.wal_base.specs.declared.lsn.Lsn.{Lsn}
use Rattle.wal_base.specs.Decimal.{decimal_number}
use Rattle.wal_base.specs.Lsn.{lsn_of}
use Rattle.timeline_history.specs.declared.line.Entry.{Entry}
use Rattle.timeline_history.specs.declared.line.Line.{Line}
use Rattle.timeline_history.specs.declared.line.Line.TheVariants.{Skipped, Ends, Bad}

-- a space or a tab
abbrev pub is_blank : ℕ → Bool
is_blank byte = byte == 32 || byte == 9

-- the byte between two fields
abbrev pub tab : ℕ
tab = 9

abbrev pub is_tab : ℕ → Bool
is_tab = is_byte tab

-- a line from its first byte that is no blank
abbrev pub without_blanks : List ℕ → List ℕ
without_blanks line = drop (position_or_len (λ byte. not (is_blank byte)) line) line

-- nothing, or what begins with #
abbrev pub is_skipped : List ℕ → Bool
is_skipped text = length text == 0 || slice_index text 0 == 35

-- the timeline that a text names: a decimal number below 2 ^ 32
abbrev pub timeline_of : List ℕ → Option ℕ
timeline_of text = decimal_number (2 ^ 32) text

-- a timeline that ends at a position
abbrev pub entry_with : ℕ → Lsn → Entry
entry_with tli end = record { tli = tli; end = end }

-- the entry of a text: the timeline before the first tab, and the position after it, up to the next tab or the end
unfoldable pub entry_of : List ℕ → Option Entry
entry_of text =
    option_and_then (λ tli. option_map (entry_with tli) (lsn_of (before_first is_tab (after_first is_tab text))))
    (timeline_of (before_first is_tab text))

-- a line with an entry, or with none
abbrev pub with_entry : Option Entry → Line
with_entry None = Bad
with_entry (Some entry) = Ends entry

-- what a line says
unfoldable pub reading_of : List ℕ → Line
reading_of line = if is_skipped (without_blanks line) then Skipped else with_entry (entry_of (without_blanks line))

-- the entry of a line that has one
abbrev pub entry_in : Line → Option Entry
entry_in Skipped = None
entry_in (Ends entry) = Some entry
entry_in Bad = None

-- the line names the entry: blanks, its timeline, a tab, its position, and then nothing or a tab and any bytes
pub record NamesEntry (line : List ℕ) (entry : Entry) : Type 0 where
  pub blanks : List ℕ
  pub timeline : List ℕ
  pub position : List ℕ
  pub rest : List ℕ
  pub whole : line ≡ blanks ++ (timeline ++ tab ∷ (position ++ rest))
  pub blank : IsTrue (list_all is_blank blanks)
  pub tli : timeline_of timeline ≡ Some entry.tli
  pub end : lsn_of position ≡ Some entry.end
  pub reason : (rest ≡ []) ⊎ ((text : List ℕ) × (rest ≡ tab ∷ text))

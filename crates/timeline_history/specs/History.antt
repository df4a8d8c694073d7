-- A history file: PostgreSQL 16 manual, chapter "Continuous Archiving and Point-in-Time Recovery", section "Timelines";
-- src/backend/access/transam/timeline.c, readTimeLineHistory.
use Rattle.std.specs.Prelude.{◌≡◌, ℕ, zero, suc, ◌+◌, ◌<◌, ◌&&◌, Bool, true, IsTrue, ⊤, List, [], ◌∷◌, Option, Some, None, Result, Ok, Err, length, take, nat_lt, nat_le, option_and_then, if◌then◌else◌}
use Rattle.std.specs.List.{slice_get, filter_map, last_or}
use Rattle.std.specs.Option.{option_map_or, option_or}
use Rattle.wal_base.specs.declared.lsn.Lsn.{Lsn}
use Rattle.wal_base.specs.declared.spans.Span.{Span}
use Rattle.wal_base.specs.Spans.{open_span, ended}
use Rattle.timeline_history.specs.declared.fault.HistoryFault.{HistoryFault}
use Rattle.timeline_history.specs.declared.fault.HistoryFault.TheVariants.{BadLine, NotRising}
use Rattle.timeline_history.specs.declared.line.Entry.{Entry}
use Rattle.timeline_history.specs.declared.line.Line.{Line}
use Rattle.timeline_history.specs.declared.line.Line.TheVariants.{Skipped, Ends, Bad}
use Rattle.timeline_history.specs.Lines.{lines_of}
use Rattle.timeline_history.specs.Line.{reading_of, entry_in}

-- the entries of lines, in order
abbrev pub entries_of : List (List ℕ) → List Entry
entries_of lines = filter_map (λ line. entry_in (reading_of line)) lines

-- an entry has a greater timeline than the one before it, and no lower position
abbrev pub is_above : Option Entry → Entry → Bool
is_above None entry = true
is_above (Some before) entry = nat_lt before.tli entry.tli && nat_le before.end.0 entry.end.0

-- in the file of the timeline `tli`, after an entry or at the front: neither number is 0, the timeline is below `tli`,
-- and the entry is above the one before it
abbrev pub is_rising : ℕ → Option Entry → Entry → Bool
is_rising tli before entry =
    nat_lt 0 entry.tli && nat_lt entry.tli tli && nat_lt 0 entry.end.0 && is_above before entry

-- what is wrong with the line of a number, after the last entry before it
abbrev pub fault_of : ℕ → Option Entry → ℕ → Line → Option HistoryFault
fault_of tli before number Skipped = None
fault_of tli before number Bad = Some (BadLine number)
fault_of tli before number (Ends entry) = if is_rising tli before entry then None else Some (NotRising number)

-- what is wrong with the line at a place: the number of a line is one more
unfoldable pub fault_at : ℕ → List (List ℕ) → ℕ → Option HistoryFault
fault_at tli lines at =
    option_and_then (λ line. fault_of tli (last_or None (entries_of (take at lines))) (at + 1) (reading_of line))
    (slice_get lines at)

-- the fault of the least line that has one
pub record IsFirstFault (tli : ℕ) (lines : List (List ℕ)) (fault : HistoryFault) : Type 0 where
  pub at : ℕ
  pub here : fault_at tli lines at ≡ Some fault
  pub before : (k : ℕ) → k < at → fault_at tli lines k ≡ None

-- no line has a fault
abbrev pub IsFaultless : ℕ → List (List ℕ) → Type 0
IsFaultless tli lines = (k : ℕ) → fault_at tli lines k ≡ None

-- the first that is there, of those at so many places
abbrev pub first_below : {A : Type 0} → (ℕ → Option A) → ℕ → Option A
first_below told zero = None
first_below told (suc at) = option_or (first_below told at) (told at)

-- the fault of the least line that has one, if one has
abbrev pub first_fault : ℕ → List (List ℕ) → Option HistoryFault
first_fault tli lines = first_below (fault_at tli lines) (length lines)

-- each entry rises above the one before it, the first above this one
abbrev pub AreRising : ℕ → Option Entry → List Entry → Type 0
AreRising tli before [] = ⊤
AreRising tli before (entry ∷ entries) = IsTrue (is_rising tli before entry) × AreRising tli (Some entry) entries

-- the spans from a position on: each entry ends its timeline's span, the next begins there, and `tli` is the last
abbrev pub spans_from : ℕ → Lsn → List Entry → List Span
spans_from tli begin [] = open_span tli begin ∷ []
spans_from tli begin (entry ∷ entries) =
    ended entry.end (open_span entry.tli begin) ∷ spans_from tli entry.end entries

-- the spans of a timeline's history
unfoldable pub spans_of : ℕ → List Entry → List Span
spans_of tli entries = spans_from tli record { 0 = 0 } entries

-- what the file of a timeline's history tells: its spans, or its first fault
unfoldable pub history_of : ℕ → List ℕ → Result (List Span) HistoryFault
history_of tli bytes =
    option_map_or (λ fault. Err fault) (first_fault tli (lines_of bytes))
    (Ok (spans_of tli (entries_of (lines_of bytes))))

-- the spans that the entries of some timeline's file give
pub record IsHistory (spans : List Span) : Type 0 where
  pub tli : ℕ
  pub entries : List Entry
  pub rising : AreRising tli None entries
  pub whole : spans ≡ spans_of tli entries

-- The timelines of a log, one after another: PostgreSQL 16 manual, chapter "Continuous Archiving and Point-in-Time
-- Recovery", section "Timelines"; src/include/access/timeline.h, TimeLineHistoryEntry.
use Rattle.std.specs.Prelude.{◌≡◌, ◌==◌, ℕ, ◌+◌, ◌-◌, ◌*◌, Bool, true, List, [], ◌∷◌, ◌++◌, Option, Some, None, length, take, drop, map, find, nat_le, if◌then◌else◌}
use Rattle.std.specs.Option.{option_map_or}
use Rattle.wal_base.specs.declared.lsn.Lsn.{Lsn}
use Rattle.wal_base.specs.declared.spans.Span.{Span}

-- where a span ends, if it is ended
abbrev pub end_of : Span → Option ℕ
end_of span = if span.end.0 == 0 then None else Some span.end.0

-- a span that isn't ended, or ends at or past a position
abbrev pub reaches : ℕ → Span → Bool
reaches at span = option_map_or (λ end. nat_le at end) (end_of span) true

-- where a segment ends
abbrev pub segment_end : ℕ → ℕ → ℕ
segment_end bytes number = number * bytes + bytes

-- the first span that reaches the end of a segment
abbrev pub span_of_segment : List Span → ℕ → ℕ → Option Span
span_of_segment spans bytes number = find (reaches (segment_end bytes number)) spans

-- the timeline that a segment is read from
abbrev pub segment_tli : List Span → ℕ → ℕ → ℕ
segment_tli spans bytes number = option_map_or (λ span. span.tli) (span_of_segment spans bytes number) 0

-- a span of a timeline that begins at a position and isn't ended
abbrev pub open_span : ℕ → Lsn → Span
open_span tli begin = record { tli = tli; begin = begin; end = record { 0 = 0 } }

-- a span, ended at a position
abbrev pub ended : Lsn → Span → Span
ended end span = record span { end = end }

-- the spans, the last of them ended at a position
abbrev pub last_ended : List Span → Lsn → List Span
last_ended spans end = take (length spans - 1) spans ++ map (ended end) (drop (length spans - 1) spans)

-- there is a last span, and it isn't ended
pub record IsOpen (spans : List Span) : Type 0 where
  pub front : List Span
  pub last : Span
  pub whole : spans ≡ front ++ last ∷ []
  pub open_end : end_of last ≡ None

-- Where two histories part: PostgreSQL 16, src/bin/pg_rewind/pg_rewind.c, findCommonAncestorTimeline.
use Rattle.std.specs.Prelude.{◌≡◌, ◌==◌, ℕ, zero, suc, ◌+◌, ◌-◌, ◌≤◌, ◌&&◌, Bool, false, IsTrue, List, Option, Some, None, length, find, nat_le, if◌then◌else◌}
use Rattle.std.specs.List.{slice_get, common_prefix_len}
use Rattle.std.specs.Option.{option_map_or}
use Rattle.wal_base.specs.declared.lsn.Lsn.{Lsn}
use Rattle.wal_base.specs.declared.spans.Span.{Span}
use Rattle.wal_base.specs.Spans.{reaches}
use Rattle.timeline_history.specs.declared.ancestor.Ancestor.{Ancestor}
use Rattle.timeline_history.specs.declared.ancestor.Ancestor.TheVariants.{Common, NoCommonAncestor}
use Rattle.timeline_history.specs.declared.ancestor.Divergence.{Divergence}

-- the timeline that is going on at the end
abbrev pub last_tli : List Span → ℕ
last_tli spans = option_map_or (λ span. span.tli) (slice_get spans (length spans - 1)) 0

-- the same timeline from the same position on
abbrev pub is_same_start : Span → Span → Bool
is_same_start a b = a.tli == b.tli && a.begin.0 == b.begin.0

-- the smaller of two ends, of which 0, an end that isn't there, is the greatest
abbrev pub smaller_end : Lsn → Lsn → Lsn
smaller_end a b = if a.0 == 0 then b else if b.0 == 0 then a else if nat_le a.0 b.0 then a else b

-- the timeline of a span, and the smaller end of two
abbrev pub fork_of : Span → Span → Ancestor
fork_of a b = Common record { tli = a.tli; at = smaller_end a.end b.end }

-- whether both histories have a span at a place, of the same timeline from the same position on
abbrev pub agrees : Option Span → Option Span → Bool
agrees None b = false
agrees (Some a) None = false
agrees (Some a) (Some b) = is_same_start a b

abbrev pub agrees_at : List Span → List Span → ℕ → Bool
agrees_at a b at = agrees (slice_get a at) (slice_get b at)

-- the fork at a place where both have a span
abbrev pub fork_between : Option Span → Option Span → Ancestor
fork_between None b = NoCommonAncestor
fork_between (Some a) None = NoCommonAncestor
fork_between (Some a) (Some b) = fork_of a b

-- the fork at the last of so many places
abbrev pub fork_at : List Span → List Span → ℕ → Ancestor
fork_at a b zero = NoCommonAncestor
fork_at a b (suc last) = fork_between (slice_get a last) (slice_get b last)

-- where two histories part: at the last place up to which they agree at every place, if they agree at the first
unfoldable pub divergence_of : List Span → List Span → Ancestor
divergence_of a b = fork_at a b (common_prefix_len is_same_start a b)

-- both have a span of the fork's timeline at one place, they agree up to it, and the fork is the smaller of its ends
pub record SharesSpan (a b : List Span) (fork : Divergence) : Type 0 where
  pub place : ℕ
  pub first : Span
  pub second : Span
  pub in_first : slice_get a place ≡ Some first
  pub in_second : slice_get b place ≡ Some second
  pub agree : (k : ℕ) → k ≤ place → IsTrue (agrees_at a b k)
  pub tli : first.tli ≡ fork.tli
  pub end : fork.at ≡ smaller_end first.end second.end

-- the timeline of the first span that isn't ended, or ends at or past a position
abbrev pub tli_reaching : List Span → ℕ → ℕ
tli_reaching spans at = option_map_or (λ span. span.tli) (find (reaches at) spans) 0

-- the timeline of a position: of the first span that reaches the next one
abbrev pub tli_at : List Span → ℕ → ℕ
tli_at spans at = tli_reaching spans (at + 1)

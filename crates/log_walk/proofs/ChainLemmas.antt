-- A walk back finds a checkpoint exactly where records lead back to it.
use Rattle.std.proofs.Common.{◌≡◌, ◌≢◌, ℕ, zero, suc, ◌<◌, ◌==◌, ◌&&◌, Bool, true, false, nat_lt, ◌⊎◌, List, [], ◌∷◌, Option, Some, None, Result, Ok, Err, inl, inr, refl, sym, ap, ◌∙◌, arith}
use Rattle.std.proofs.lemmas.Bool.Decides.{nat_tests}
use Rattle.cluster_tree.specs.Causes.{given}
use Rattle.wal_base.specs.Segment.{bytes_of}
use Rattle.wal_pages.specs.declared.log_path.LogPath.{LogPath}
use Rattle.wal_pages.specs.Folder.{Folder}
use Rattle.wal_pages.specs.Page.{page_at}
use Rattle.control_file.specs.Reading.{checkpoint_of}
use Rattle.control_file.specs.declared.checkpoint.Checkpoint.{Checkpoint}
use Rattle.wal_base.specs.declared.lsn.Lsn.{Lsn}
use Rattle.wal_records.specs.declared.why.Why.{Why}
use Rattle.wal_records.specs.declared.why.Why.TheVariants as why
use Rattle.wal_records.specs.declared.why.Stop.TheVariants.{Ends, Dropped}
use Rattle.wal_records.specs.Log.{Log, log_of}
use Rattle.wal_records.specs.Place.{place_at}
use Rattle.wal_records.specs.Reading.{LogRecord, Reading, Spelled, Stopped, lone}
use Rattle.block_refs.specs.Bytes.{main_bytes}
use Rattle.block_refs.specs.Outcomes.{record_parts, start_of}
use Rattle.block_refs.specs.Parts.{PartsView}
use Rattle.block_refs.specs.declared.fault.PartsFault.{PartsFault}
use Rattle.block_refs.specs.declared.fault.PartsFault.TheVariants as parts_fault
use Rattle.log_walk.specs.declared.checkpoint.CommonCheckpoint.{CommonCheckpoint}
use Rattle.log_walk.specs.declared.fault.LogWalkFault.TheVariants as fault
use Rattle.log_walk.specs.Back.{Answer, back_from, common_checkpoint, is_common, walk_from, walk_step}
use Rattle.log_walk.specs.Chain.{HasNoCheckpoint, IsCommonCheckpoint, LeadsTo}
use Rattle.log_walk.specs.Checkpoint.{checkpoint_in, checkpoint_or, is_checkpoint, parts_or}
use Rattle.log_walk.specs.First.{at_lsn, first_or}
use Rattle.log_walk.proofs.BackLemmas.{links_below, walk_next}

-- the three ways on from a record
at_common : (go : ℕ → Answer) (below : ℕ) (r : LogRecord) → is_common below r ≡ true → back_from go below r ≡ checkpoint_in r
unfolding back_from
at_common go below r is = rw is refl

at_none : (go : ℕ → Answer) (below : ℕ) (r : LogRecord) → is_common below r ≡ false → (r.header.prev.0 == 0) ≡ true → back_from go below r ≡ Err (fault.NoCommonCheckpoint (start_of r))
unfolding back_from
at_none go below r other none = rw (other, none) refl

at_link : (go : ℕ → Answer) (below : ℕ) (r : LogRecord) → is_common below r ≡ false → (r.header.prev.0 == 0) ≡ false → back_from go below r ≡ go r.header.prev.0
unfolding back_from
at_link go below r other some = rw (other, some) refl

-- the walk ends at the checkpoint, at a record that links to none before it, or where the log has no record
abbrev AtCheckpoint : ℕ → LogRecord → Answer → Type 0
AtCheckpoint below last answer = (is_common below last ≡ true) × (checkpoint_in last ≡ answer)

abbrev AtFirst : ℕ → LogRecord → Answer → Type 0
AtFirst below last answer =
    (is_common below last ≡ false) × ((last.header.prev.0 == 0) ≡ true) × (answer ≡ Err (fault.NoCommonCheckpoint (start_of last)))

record AtEnd (answer : Answer) : Type 0 where
  place : ℕ
  reason : Why
  told : answer ≡ Err (fault.LogEnds (at_lsn place) reason)

-- records that lead from one to where the walk ends
record Way (log : LogPath) (files : Folder) (below : ℕ) (r : LogRecord) (answer : Answer) : Type 0 where
  way : List LogRecord
  last : LogRecord
  leads : LeadsTo (page_at log files) (bytes_of log.size) below r way last
  ends : AtCheckpoint below last answer ⊎ (AtFirst below last answer ⊎ AtEnd answer)

abbrev back_of : LogPath → Folder → ℕ → LogRecord → Answer
back_of log files below r = back_from (walk_from (page_at log files) (bytes_of log.size) below) below r

-- behind what a place has
way_from : (log : LogPath) (files : Folder) (below : ℕ) (r : LogRecord) (answer : Answer) (there : Reading)
    → is_common below r ≡ false → r.header.prev.0 ≢ 0 → lone (page_at log files) (bytes_of log.size) r.header.prev.0 ≡ there
    → walk_step (walk_from (page_at log files) (bytes_of log.size) below) below r.header.prev.0 there ≡ answer
    → ((before : LogRecord) → before.header.prev.0 < r.header.prev.0 → back_of log files below before ≡ answer → Way log files below before answer)
    → Way log files below r answer
way_from log files below r answer (Spelled before) other some stands is rest =
    let w = rest before (links_below log files r.header.prev.0 before stands) is in
    record { way = before ∷ w.way; last = w.last; leads = (record { passed = other; link = some; stands = stands }, w.leads); ends = w.ends }
way_from log files below r answer (Stopped (Ends reason)) other some stands is rest =
    record { way = []; last = r; leads = refl; ends = inr (inr record { place = r.header.prev.0; reason = reason; told = sym is }) }
way_from log files below r answer (Stopped (Dropped page)) other some stands is rest =
    record { way = []; last = r; leads = refl; ends = inr (inr record { place = r.header.prev.0; reason = why.Continuation; told = sym is }) }

not_zero : (n : ℕ) → (n == 0) ≡ false → n ≢ 0
not_zero n some is = absurd (grind (arith, nat_tests))

is_zero_not : (n : ℕ) → n ≢ 0 → (n == 0) ≡ false
is_zero_not n some = grind (arith, nat_tests)

is_zero : (n : ℕ) → (n == 0) ≡ true → n ≡ 0
is_zero n none = grind (arith, nat_tests)

zero_is : (n : ℕ) → n ≡ 0 → (n == 0) ≡ true
zero_is n none = grind (arith, nat_tests)

way_at : (log : LogPath) (files : Folder) (below : ℕ) (r : LogRecord) (answer : Answer) (common none : Bool)
    → is_common below r ≡ common → (r.header.prev.0 == 0) ≡ none → back_of log files below r ≡ answer
    → ((before : LogRecord) → before.header.prev.0 < r.header.prev.0 → back_of log files below before ≡ answer → Way log files below before answer)
    → Way log files below r answer
way_at log files below r answer true none common_is none_is is rest =
    record { way = []; last = r; leads = refl; ends = inl (common_is, sym (at_common _ below r common_is) ∙ is) }
way_at log files below r answer false true common_is none_is is rest =
    record { way = []; last = r; leads = refl; ends = inr (inl (common_is, none_is, sym is ∙ at_none _ below r common_is none_is)) }
way_at log files below r answer false false common_is none_is is rest =
    way_from log files below r answer (lone (page_at log files) (bytes_of log.size) r.header.prev.0) common_is (not_zero r.header.prev.0 none_is) refl
    (sym (walk_next log files below r.header.prev.0) ∙ sym (at_link _ below r common_is none_is) ∙ is) rest

way_of : (log : LogPath) (files : Folder) (below n : ℕ) (r : LogRecord) (answer : Answer) → r.header.prev.0 < n
    → back_of log files below r ≡ answer → Way log files below r answer
way_of log files below zero r answer low is = absurd (omega arith)
way_of log files below (suc n) r answer low is =
    way_at log files below r answer (is_common below r) (r.header.prev.0 == 0) refl refl is
    (λ before lower there. way_of log files below n before answer (omega arith) there)

-- and back
arrives : (log : LogPath) (files : Folder) (below : ℕ) (answer : Answer) (way : List LogRecord) (r last : LogRecord)
    → LeadsTo (page_at log files) (bytes_of log.size) below r way last → back_of log files below last ≡ answer → back_of log files below r ≡ answer
arrives log files below answer [] r last same is = ap (back_of log files below) same ∙ is
arrives log files below answer (before ∷ way) r last leads is =
    at_link _ below r leads.0.passed (is_zero_not r.header.prev.0 leads.0.link)
    ∙ walk_next log files below r.header.prev.0
    ∙ ap (walk_step (walk_from (page_at log files) (bytes_of log.size) below) below r.header.prev.0) leads.0.stands
    ∙ arrives log files below answer way before last leads.1 is

-- From the fork: the first record and the way from there, or a log without a record.
record Start (log : LogPath) (files : Folder) (fork : ℕ) (answer : Answer) : Type 0 where
  first : LogRecord
  rest : List LogRecord
  begins : (log_of (page_at log files) (bytes_of log.size) fork).records ≡ first ∷ rest
  ways : Way log files (place_at (bytes_of log.size) fork) first answer

start_in : (log : LogPath) (files : Folder) (fork : ℕ) (answer : Answer) (records : List LogRecord) (place : ℕ) (reason : Why)
    → (log_of (page_at log files) (bytes_of log.size) fork).records ≡ records
    → given (first_or place reason records) (back_of log files (place_at (bytes_of log.size) fork)) ≡ answer
    → Start log files fork answer ⊎ AtEnd answer
start_in log files fork answer [] place reason begins is = inr record { place = place; reason = reason; told = sym is }
start_in log files fork answer (first ∷ rest) place reason begins is = inl record {
  first = first;
  rest = rest;
  begins = begins;
  ways = way_of log files (place_at (bytes_of log.size) fork) (suc first.header.prev.0) first answer (omega arith) is;
}

start_of_walk : (log : LogPath) (files : Folder) (fork : ℕ) (answer : Answer)
    → common_checkpoint (page_at log files) (bytes_of log.size) fork ≡ answer → Start log files fork answer ⊎ AtEnd answer
unfolding common_checkpoint
start_of_walk log files fork answer is = start_in log files fork answer _ _ _ refl is

walk_is : (log : LogPath) (files : Folder) (fork : ℕ) (answer : Answer) (first : LogRecord) (rest : List LogRecord)
    → (log_of (page_at log files) (bytes_of log.size) fork).records ≡ first ∷ rest → back_of log files (place_at (bytes_of log.size) fork) first ≡ answer
    → common_checkpoint (page_at log files) (bytes_of log.size) fork ≡ answer
unfolding common_checkpoint
walk_is log files fork answer first rest begins is =
    let whole : Log = log_of (page_at log files) (bytes_of log.size) fork in
    ap (λ (records : List LogRecord). given (first_or whole.place whole.why records) (back_of log files (place_at (bytes_of log.size) fork))) begins ∙ is

-- What a checkpoint record says isn't that there is none.

says_or : (r : LogRecord) (at : Lsn) (checkpoint : Option Checkpoint) → checkpoint_or r checkpoint ≡ Err (fault.NoCommonCheckpoint at) → ⊥
says_or r at None is = absurd cc
says_or r at (Some checkpoint) is = absurd cc

says_in : (r : LogRecord) (at : Lsn) (parts : Result PartsView PartsFault)
    → given (parts_or parts) (λ parts. checkpoint_or r (checkpoint_of (main_bytes r.body parts))) ≡ Err (fault.NoCommonCheckpoint at) → ⊥
says_in r at (Ok parts) is = says_or r at (checkpoint_of (main_bytes r.body parts)) is
says_in r at (Err (parts_fault.BadParts start offset)) is = absurd cc
says_in r at (Err (parts_fault.Compressed start id)) is = absurd cc

says_some : (r : LogRecord) (at : Lsn) → checkpoint_in r ≡ Err (fault.NoCommonCheckpoint at) → ⊥
unfolding checkpoint_in
says_some r at is = says_in r at (record_parts r) is

both : (a b : Bool) → (a && b) ≡ true → (a ≡ true) × (b ≡ true)
both true b is = (refl, is)
both false b is = absurd cc

all : (a b : Bool) → a ≡ true → b ≡ true → (a && b) ≡ true
all true b one two = two
all false b one two = absurd cc

is_below : (a b : ℕ) → nat_lt a b ≡ true → a < b
is_below a b is = grind (arith, nat_tests)

below_is : (a b : ℕ) → a < b → nat_lt a b ≡ true
below_is a b is = grind (arith, nat_tests)

ends_found : (below : ℕ) (last : LogRecord) (found : CommonCheckpoint) → AtCheckpoint below last (Ok found) ⊎ (AtFirst below last (Ok found) ⊎ AtEnd (Ok found)) → AtCheckpoint below last (Ok found)
ends_found below last found (inl there) = there
ends_found below last found (inr (inl none)) = let told : Ok found ≡ Err (fault.NoCommonCheckpoint (start_of last)) = none.2 in absurd cc
ends_found below last found (inr (inr end)) = let told : Ok found ≡ Err (fault.LogEnds (at_lsn end.place) end.reason) = end.told in absurd cc

ends_none : (below : ℕ) (last : LogRecord) (at : Lsn) → AtCheckpoint below last (Err (fault.NoCommonCheckpoint at)) ⊎ (AtFirst below last (Err (fault.NoCommonCheckpoint at)) ⊎ AtEnd (Err (fault.NoCommonCheckpoint at)))
    → AtFirst below last (Err (fault.NoCommonCheckpoint at))
ends_none below last at (inl there) = absurd (says_some last at there.1)
ends_none below last at (inr (inl none)) = none
ends_none below last at (inr (inr end)) = let told : Err (fault.NoCommonCheckpoint at) ≡ Err (fault.LogEnds (at_lsn end.place) end.reason) = end.told in absurd cc

found_at : (log : LogPath) (files : Folder) (fork : ℕ) (found : CommonCheckpoint) → Start log files fork (Ok found) ⊎ AtEnd (Ok found)
    → IsCommonCheckpoint (page_at log files) (bytes_of log.size) fork found
found_at log files fork found (inr end) = let told : Ok found ≡ Err (fault.LogEnds (at_lsn end.place) end.reason) = end.told in absurd cc
found_at log files fork found (inl start) =
    let below : ℕ = place_at (bytes_of log.size) fork in
    let there = ends_found below start.ways.last found start.ways.ends in
    let common = both (is_checkpoint start.ways.last) (nat_lt start.ways.last.start below) there.0 in
    record {
      first = start.first;
      rest = start.rest;
      begins = start.begins;
      way = start.ways.way;
      last = start.ways.last;
      leads = start.ways.leads;
      checkpoint = common.0;
      below = is_below start.ways.last.start below common.1;
      says = there.1;
    }

none_at : (log : LogPath) (files : Folder) (fork : ℕ) (at : Lsn) → Start log files fork (Err (fault.NoCommonCheckpoint at)) ⊎ AtEnd (Err (fault.NoCommonCheckpoint at))
    → HasNoCheckpoint (page_at log files) (bytes_of log.size) fork at
none_at log files fork at (inr end) = let told : Err (fault.NoCommonCheckpoint at) ≡ Err (fault.LogEnds (at_lsn end.place) end.reason) = end.told in absurd cc
none_at log files fork at (inl start) =
    let there = ends_none (place_at (bytes_of log.size) fork) start.ways.last at start.ways.ends in
    let told : Err (fault.NoCommonCheckpoint at) ≡ Err (fault.NoCommonCheckpoint (start_of start.ways.last)) = there.2 in
    let stands : start_of start.ways.last ≡ at = cc in
    record {
      first = start.first;
      rest = start.rest;
      begins = start.begins;
      way = start.ways.way;
      last = start.ways.last;
      leads = start.ways.leads;
      other = there.0;
      link = is_zero start.ways.last.header.prev.0 there.1;
      stands = stands;
    }

-- The laws.

pub found_is : (log : LogPath) (files : Folder) (fork : ℕ) (found : CommonCheckpoint)
    → common_checkpoint (page_at log files) (bytes_of log.size) fork ≡ Ok found → IsCommonCheckpoint (page_at log files) (bytes_of log.size) fork found
found_is log files fork found is = found_at log files fork found (start_of_walk log files fork (Ok found) is)

pub none_is : (log : LogPath) (files : Folder) (fork : ℕ) (at : Lsn)
    → common_checkpoint (page_at log files) (bytes_of log.size) fork ≡ Err (fault.NoCommonCheckpoint at) → HasNoCheckpoint (page_at log files) (bytes_of log.size) fork at
none_is log files fork at is = none_at log files fork at (start_of_walk log files fork (Err (fault.NoCommonCheckpoint at)) is)

pub is_found : (log : LogPath) (files : Folder) (fork : ℕ) (found : CommonCheckpoint)
    → IsCommonCheckpoint (page_at log files) (bytes_of log.size) fork found → common_checkpoint (page_at log files) (bytes_of log.size) fork ≡ Ok found
is_found log files fork found there =
    let below : ℕ = place_at (bytes_of log.size) fork in
    let common = all (is_checkpoint there.last) (nat_lt there.last.start below) there.checkpoint (below_is there.last.start below there.below) in
    walk_is log files fork (Ok found) there.first there.rest there.begins
    (arrives log files below (Ok found) there.way there.first there.last there.leads (at_common _ below there.last common ∙ there.says))

pub is_none : (log : LogPath) (files : Folder) (fork : ℕ) (at : Lsn)
    → HasNoCheckpoint (page_at log files) (bytes_of log.size) fork at → common_checkpoint (page_at log files) (bytes_of log.size) fork ≡ Err (fault.NoCommonCheckpoint at)
is_none log files fork at there =
    let below : ℕ = place_at (bytes_of log.size) fork in
    walk_is log files fork (Err (fault.NoCommonCheckpoint at)) there.first there.rest there.begins
    (arrives log files below (Err (fault.NoCommonCheckpoint at)) there.way there.first there.last there.leads
    (at_none _ below there.last there.other (zero_is there.last.header.prev.0 there.link) ∙ ap (λ (k : Lsn). Err (fault.NoCommonCheckpoint k)) there.stands))

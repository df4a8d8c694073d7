-- Each step of the walk back goes down, and so the walk from a place is what the place has and the walk from its link.
use Rattle.std.proofs.Common.{◌≡◌, ℕ, zero, suc, ◌<◌, None, refl, sym, ◌∙◌, arith}
use Rattle.wal_base.specs.Segment.{bytes_of}
use Rattle.wal_pages.specs.declared.log_path.LogPath.{LogPath}
use Rattle.wal_pages.specs.Folder.{Folder}
use Rattle.wal_pages.specs.Page.{page_at}
use Rattle.wal_records.specs.declared.why.Stop.TheVariants.{Ends, Dropped}
use Rattle.wal_records.specs.Reading.{LogRecord, Reading, Spelled, Stopped, alone, lone, reading}
use Rattle.wal_records.specs.Spells.{Spells}
use Rattle.wal_records.proofs.ViewLemmas.{spells_both}
use Rattle.log_walk.specs.Back.{Answer, back_from, walk_from, walk_in, walk_step}

-- what is told of a place by itself is a record where it has one
alone_spelled : (found : Reading) (r : LogRecord) → alone found ≡ Spelled r → found ≡ Spelled r
alone_spelled (Spelled q) r is = is
alone_spelled (Stopped (Ends why)) r is = absurd cc
alone_spelled (Stopped (Dropped page)) r is = absurd cc

-- a record that stands by itself links below its place
pub links_below : (log : LogPath) (files : Folder) (place : ℕ) (r : LogRecord) → lone (page_at log files) (bytes_of log.size) place ≡ Spelled r → r.header.prev.0 < place
links_below log files place r is =
    let read = alone_spelled (reading (page_at log files) (bytes_of log.size) None place) r is in
    let spells : Spells log files None place r = (spells_both log files None place r).0 read in
    spells.link

-- what a place has goes on below it
abbrev Lower : ℕ → Reading → Type 0
Lower place (Spelled r) = r.header.prev.0 < place
Lower place (Stopped stop) = Unit {0}

lower_of : (log : LogPath) (files : Folder) (place : ℕ) (found : Reading) → lone (page_at log files) (bytes_of log.size) place ≡ found → Lower place found
lower_of log files place (Spelled r) is = links_below log files place r is
lower_of log files place (Stopped stop) is = tt

-- steps from a place that go on alike below it are one
step_same : (f g : ℕ → Answer) (below place : ℕ) (found : Reading) → Lower place found → ((p : ℕ) → p < place → f p ≡ g p)
    → walk_step f below place found ≡ walk_step g below place found
unfolding back_from
step_same f g below place (Spelled r) low same = rw (same r.header.prev.0 low) refl
step_same f g below place (Stopped (Ends why)) low same = refl
step_same f g below place (Stopped (Dropped page)) low same = refl

one_step : (log : LogPath) (files : Folder) (below n place : ℕ)
    → walk_in (page_at log files) (bytes_of log.size) below (suc n) place
    ≡ walk_step (walk_in (page_at log files) (bytes_of log.size) below n) below place (lone (page_at log files) (bytes_of log.size) place)
unfolding walk_in
one_step log files below n place = refl

-- more steps than positions up to a place are enough
same_steps : (log : LogPath) (files : Folder) (below m n place : ℕ) → place < m → place < n
    → walk_in (page_at log files) (bytes_of log.size) below m place ≡ walk_in (page_at log files) (bytes_of log.size) below n place
same_steps log files below zero n place a b = absurd (omega arith)
same_steps log files below (suc m) zero place a b = absurd (omega arith)
same_steps log files below (suc m) (suc n) place a b =
    one_step log files below m place
    ∙ step_same (walk_in (page_at log files) (bytes_of log.size) below m) (walk_in (page_at log files) (bytes_of log.size) below n) below place
    (lone (page_at log files) (bytes_of log.size) place) (lower_of log files place _ refl)
    (λ p low. same_steps log files below m n p (omega arith) (omega arith))
    ∙ sym (one_step log files below n place)

-- the walk back from a place
pub walk_next : (log : LogPath) (files : Folder) (below place : ℕ)
    → walk_from (page_at log files) (bytes_of log.size) below place
    ≡ walk_step (walk_from (page_at log files) (bytes_of log.size) below) below place (lone (page_at log files) (bytes_of log.size) place)
unfolding walk_from
walk_next log files below place =
    one_step log files below place place
    ∙ step_same (walk_in (page_at log files) (bytes_of log.size) below place) (walk_from (page_at log files) (bytes_of log.size) below) below place
    (lone (page_at log files) (bytes_of log.size) place) (lower_of log files place _ refl)
    (λ p low. same_steps log files below place (suc p) p low (omega arith))

-- Whether a record passes each test of its place, and what holds where it does.
use Rattle.std.proofs.Common.{◌≡◌, ℕ, ◌%◌, ◌^◌, ◌&&◌, ◌<◌, ◌≤◌, Bool, true, false, not, cond, List, Option, Some, None, Result, Ok, Err, IsOk, is_ok, is_none, refl, nat_le, eqb, eqb-true, eq-eqb}
use Rattle.std.proofs.lemmas.Bool.{lt-leb}
use Rattle.wal_base.specs.Segment.{bytes_of}
use Rattle.wal_pages.specs.declared.log_path.LogPath.{LogPath}
use Rattle.wal_pages.specs.Folder.{Folder}
use Rattle.wal_pages.specs.Header.{header_of as page_header, header_size, page_of, has_bit}
use Rattle.wal_pages.specs.Page.{Refusal, page_at}
use Rattle.wal_records.specs.declared.why.Why.TheVariants as why
use Rattle.wal_records.specs.declared.why.Stop.{Stop}
use Rattle.wal_records.specs.declared.why.Stop.TheVariants.{Ends, Dropped}
use Rattle.wal_records.specs.Place.{is_place}
use Rattle.wal_records.specs.Header.{header_of, checksum, length_fault, is_no_manager, is_linked, greatest_total}
use Rattle.wal_records.specs.Further.{Pages, FurtherPage, stop_in, stop_at}
use Rattle.wal_records.specs.Reading.{continues_at, sealed_end}
use Rattle.wal_records.specs.Spells.{LinksTo}
use Rattle.wal_records.specs.Outcome.{Test, Stands, HasPage, Begins, HasLength, GoesOn, HasManager, Links, EndsBelow, HasSum, bytes_in, announced, front_bytes, all_bytes, Continues, Passes}
use Rattle.wal_records.proofs.FactLemmas.{true_and, clash, not_le, fresh_of, fresh_is, manager_of, manager_is, link_of, link_is, outside, place_is}
use Rattle.wal_records.proofs.RelationLemmas.{length_least, length_fits}

-- whether a record passes a test
abbrev pub passes : Pages → ℕ → Option ℕ → ℕ → Test → Bool
passes pages size before place Stands = is_place size place
passes pages size before place HasPage = is_ok (pages (page_of place))
passes pages size before place Begins = not (continues_at size place (page_header (bytes_in (pages (page_of place)))).info)
passes pages size before place HasLength = is_none (length_fault (announced pages place))
passes pages size before place (GoesOn page) = is_none (stop_at pages page)
passes pages size before place HasManager = not (is_no_manager (header_of (front_bytes pages size place)).manager)
passes pages size before place Links = is_linked before place (header_of (front_bytes pages size place)).prev.0
passes pages size before place EndsBelow = not (nat_le (2 ^ 64) (sealed_end size place (announced pages place) (all_bytes pages size place)))
passes pages size before place HasSum = eqb (checksum (all_bytes pages size place)) (header_of (all_bytes pages size place)).crc

-- a test holds where it is passed, and nowhere else
abbrev pub Decides : Bool → Type 0 → Type 0
Decides b P = (b ≡ true → P) × (b ≡ false → P → ⊥)

not_is : (b : Bool) → not b ≡ true → b ≡ false
not_is true e = absurd cc
not_is false e = refl

not_not : (b : Bool) → not b ≡ false → b ≡ true
not_not true e = refl
not_not false e = absurd cc

none_is : {A : Type 0} (x : Option A) → is_none x ≡ true → x ≡ None
none_is None e = refl
none_is (Some y) e = absurd cc

some_is : {A : Type 0} (x : Option A) → is_none x ≡ false → x ≡ None → ⊥
some_is None e f = absurd cc
some_is (Some y) e f = absurd cc

decides_stands : (log : LogPath) (place : ℕ) → Decides (is_place (bytes_of log.size) place) ((place % 8 ≡ 0) × (header_size (bytes_of log.size) (page_of place) ≤ place % 8192))
decides_stands log place = (outside log place, λ no both. clash (is_place (bytes_of log.size) place) (place_is log place both.0 both.1) no)

decides_page : (found : Result (List ℕ) Refusal) → Decides (is_ok found) (IsOk found)
decides_page found = (λ e. e, λ e h. clash (is_ok found) h e)

decides_begins : (size place info : ℕ) → Decides (not (continues_at size place info)) (place % 8192 ≡ header_size size (page_of place) → has_bit info 1 ≡ false)
decides_begins size place info =
    (λ e. fresh_of size place info (not_is _ e), λ e h. clash (continues_at size place info) (not_not _ e) (fresh_is size place info h))

decides_length : (total : ℕ) → Decides (is_none (length_fault total)) ((24 ≤ total) × (total ≤ greatest_total))
decides_length total = (λ e. length_least total (none_is _ e), λ e both. some_is _ e (length_fits total both.0 both.1))

on_of : (a b : Bool) (stop other : Stop) → cond a (Some stop) (cond b None (Some other)) ≡ None → (a ≡ false) × (b ≡ true)
on_of true b stop other e = absurd cc
on_of false true stop other e = (refl, refl)
on_of false false stop other e = absurd cc

decides_further : (page : FurtherPage) (found : Result (List ℕ) Refusal) → Decides (is_none (stop_in page found)) (Continues page found)
decides_further page (Err refusal) = (λ e. absurd cc, λ e h. h)
decides_further page (Ok bytes) =
    let header = page_header bytes in (
      λ e.
          let on = on_of (has_bit header.info 8) (has_bit header.info 1 && eqb header.remaining page.left) (Dropped page.at) (Ends why.Continuation) (none_is _ e) in
          let both = true_and (has_bit header.info 1) (eqb header.remaining page.left) on.1 in
          record { kept = on.0; goes_on = both.0; remaining = eqb-true header.remaining page.left both.1 },
      λ e h. some_is _ e (rw (h.kept, h.goes_on, eq-eqb header.remaining page.left h.remaining) refl),
    )

decides_manager : (manager : ℕ) → Decides (not (is_no_manager manager)) (22 ≤ manager → 128 ≤ manager)
decides_manager manager = (λ e. manager_of manager (not_is _ e), λ e h. clash (is_no_manager manager) (not_not _ e) (manager_is manager h))

decides_links : (before : Option ℕ) (place prev : ℕ) → Decides (is_linked before place prev) (LinksTo before place prev)
decides_links before place prev = (link_of before place prev, λ e h. clash (is_linked before place prev) (link_is before place prev h) e)

decides_end : (end : ℕ) → Decides (not (nat_le (2 ^ 64) end)) (end < 2 ^ 64)
decides_end end = (λ e. not_le (2 ^ 64) end (not_is _ e), λ e h. clash (nat_le (2 ^ 64) end) (not_not _ e) (lt-leb (2 ^ 64) end h))

decides_sum : (a b : ℕ) → Decides (eqb a b) (a ≡ b)
decides_sum a b = (eqb-true a b, λ e h. clash (eqb a b) (eq-eqb a b h) e)

pub decides : (log : LogPath) (files : Folder) (before : Option ℕ) (place : ℕ) (test : Test)
    → Decides (passes (page_at log files) (bytes_of log.size) before place test) (Passes (page_at log files) (bytes_of log.size) before place test)
decides log files before place Stands = decides_stands log place
decides log files before place HasPage = decides_page (page_at log files (page_of place))
decides log files before place Begins = decides_begins (bytes_of log.size) place (page_header (bytes_in (page_at log files (page_of place)))).info
decides log files before place HasLength = decides_length (announced (page_at log files) place)
decides log files before place (GoesOn page) = decides_further page (page_at log files page.at)
decides log files before place HasManager = decides_manager (header_of (front_bytes (page_at log files) (bytes_of log.size) place)).manager
decides log files before place Links = decides_links before place (header_of (front_bytes (page_at log files) (bytes_of log.size) place)).prev.0
decides log files before place EndsBelow =
    decides_end (sealed_end (bytes_of log.size) place (announced (page_at log files) place) (all_bytes (page_at log files) (bytes_of log.size) place))
decides log files before place HasSum =
    decides_sum (checksum (all_bytes (page_at log files) (bytes_of log.size) place)) (header_of (all_bytes (page_at log files) (bytes_of log.size) place)).crc

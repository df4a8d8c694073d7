-- What a place has is what the first test tells that fails, or its record.
use Rattle.std.proofs.Common.{◌≡◌, ℕ, ◌+◌, ◌-◌, ◌^◌, ◌&&◌, ◌≤◌, Bool, true, false, not, cond, List, [], ◌∷◌, ◌++◌, map, take, drop, length, Option, Some, None, Result, Ok, Err, is_ok, is_none, refl, sym, ap, ◌∙◌, arith, nat_lt, nat_le, eqb, inl, inr}
use Rattle.std.specs.List.{flat_map, AllByRecursion}
use Rattle.std.proofs.lemmas.Bool.{cases_Bool}
use Rattle.std.proofs.lemmas.List.{append-nil}
use Rattle.wal_base.specs.Segment.{bytes_of}
use Rattle.wal_pages.specs.declared.log_path.LogPath.{LogPath}
use Rattle.wal_pages.specs.Folder.{Folder}
use Rattle.wal_pages.specs.Header.{header_of as page_header, page_of, has_bit}
use Rattle.wal_pages.specs.Page.{Refusal, page_at}
use Rattle.wal_records.specs.declared.why.Why.{Why}
use Rattle.wal_records.specs.declared.why.Why.TheVariants as why
use Rattle.wal_records.specs.declared.why.Stop.{Stop}
use Rattle.wal_records.specs.declared.why.Stop.TheVariants.{Ends, Dropped}
use Rattle.wal_records.specs.Place.{is_place}
use Rattle.wal_records.specs.Header.{header_of, checksum, length_fault, is_no_manager, is_linked, greatest_total}
use Rattle.wal_records.specs.Further.{Pages, FurtherPage, further_page, further, room, stop_in, stop_at, or_stop, first_stop, piece, gathered}
use Rattle.wal_records.specs.Reading.{LogRecord, Reading, Spelled, Stopped, reading, reading_in, continues_at, after_first, after_front, after_header, after_rest, sealed, sealed_end, unless, ends}
use Rattle.wal_records.specs.Outcome.{Test, Begins, HasLength, GoesOn, bytes_in, announced, on_first, header_pages, body_pages, front_bytes, all_bytes, last_tests, header_tests, tests, Passes, why_no_page, told_of, told, FailsFirst}
use Rattle.wal_records.proofs.FactLemmas.{not_lt, lt_of}
use Rattle.wal_records.proofs.FurtherLemmas.{further_more}
use Rattle.wal_records.proofs.ReadingLemmas.{first_whole, first_reaches}
use Rattle.wal_records.proofs.RelationLemmas.{length_least}
use Rattle.wal_records.proofs.DecidesLemmas.{passes, Decides, decides}

-- what tests come to: what the first tells that fails, or what is told where none does
abbrev pub verdict : (Test → Bool) → (Test → Stop) → List Test → Reading → Reading
verdict p tells [] r = r
verdict p tells (test ∷ rest) r = cond (p test) (verdict p tells rest r) (Stopped (tells test))

verdict_on : (p : Test → Bool) (tells : Test → Stop) (a b : List Test) (r : Reading) → verdict p tells (a ++ b) r ≡ verdict p tells a (verdict p tells b r)
verdict_on p tells [] b r = refl
verdict_on p tells (test ∷ rest) b r = ap (λ x. cond (p test) x (Stopped (tells test))) (verdict_on p tells rest b r)

-- each group of tests, as the reading has it
further_told : (a b : Bool) (stop other : Stop) (rest : Option Stop) (r : Reading)
    → cond (is_none (cond a (Some stop) (cond b None (Some other)))) (unless rest r) (Stopped (cond a stop other)) ≡ unless (or_stop (cond a (Some stop) (cond b None (Some other))) rest) r
further_told true b stop other rest r = refl
further_told false true stop other rest r = refl
further_told false false stop other rest r = refl

further_in : (page : FurtherPage) (found : Result (List ℕ) Refusal) (rest : Option Stop) (r : Reading)
    → cond (is_none (stop_in page found)) (unless rest r) (Stopped (told_of page found)) ≡ unless (or_stop (stop_in page found) rest) r
further_in page (Err refusal) rest r = refl
further_in page (Ok bytes) rest r =
    let header = page_header bytes in
    further_told (has_bit header.info 8) (has_bit header.info 1 && eqb header.remaining page.left) (Dropped page.at) (Ends why.Continuation) rest r

verdict_pages : (pages : Pages) (size place : ℕ) (before : Option ℕ) (list : List FurtherPage) (r : Reading)
    → verdict (passes pages size before place) (told pages size place) (map GoesOn list) r ≡ unless (first_stop pages list) r
verdict_pages pages size place before [] r = refl
verdict_pages pages size place before (page ∷ rest) r =
    ap (λ x. cond (is_none (stop_at pages page)) x (Stopped (told_of page (pages page.at)))) (verdict_pages pages size place before rest r)
    ∙ further_in page (pages page.at) (first_stop pages rest) r

two_told : (a b : Bool) (first second : Why) (r : Reading)
    → cond (not a) (cond b r (Stopped (Ends second))) (Stopped (Ends first)) ≡ unless (ends (cond a (Some first) (cond b None (Some second)))) r
two_told true b first second r = refl
two_told false true first second r = refl
two_told false false first second r = refl

length_told : (a b c : Bool) (r : Reading)
    → cond (is_none (cond a (Some why.ZeroLength) (cond b (Some why.ShortLength) (cond c (Some why.TooLong) None)))) r (Stopped (Ends (cond a why.ZeroLength (cond b why.ShortLength why.TooLong))))
    ≡ unless (ends (cond a (Some why.ZeroLength) (cond b (Some why.ShortLength) (cond c (Some why.TooLong) None)))) r
length_told true b c r = refl
length_told false true c r = refl
length_told false false true r = refl
length_told false false false r = refl

cond_not : (b : Bool) (x y : Reading) → cond (not b) x y ≡ cond b y x
cond_not true x y = refl
cond_not false x y = refl

unless_same : (stop : Option Stop) (x y : Reading) → (stop ≡ None → x ≡ y) → unless stop x ≡ unless stop y
unless_same None x y h = h refl
unless_same (Some stop) x y h = refl

-- the record that a place has if it passes all its tests
abbrev pub sealed_at : Pages → ℕ → ℕ → LogRecord
sealed_at pages size place = sealed size place (announced pages place) (all_bytes pages size place)

-- behind the header
header_on : (pages : Pages) (size place : ℕ) (before : Option ℕ)
    → after_header pages size before place (announced pages place) (body_pages pages size place) (front_bytes pages size place)
    ≡ verdict (passes pages size before place) (told pages size place) (header_tests (body_pages pages size place)) (Spelled (sealed_at pages size place))
unfolding after_header after_rest gathered
header_on pages size place before =
    let body = body_pages pages size place in
    let header = header_of (front_bytes pages size place) in
    let all = all_bytes pages size place in
    let r : Reading = Spelled (sealed_at pages size place) in
    let p = passes pages size before place in
    let tells = told pages size place in
    let last : verdict p tells last_tests r ≡ unless (ends (cond (nat_le (2 ^ 64) (sealed_end size place (announced pages place) all)) (Some why.NoSegment) (cond (eqb (checksum all) (header_of all).crc) None (Some why.Crc)))) r =
    two_told (nat_le (2 ^ 64) (sealed_end size place (announced pages place) all)) (eqb (checksum all) (header_of all).crc) why.NoSegment why.Crc r in
    let rest : verdict p tells (map GoesOn body ++ last_tests) r ≡ unless (first_stop pages body) (verdict p tells last_tests r) =
    verdict_on p tells (map GoesOn body) last_tests r ∙ verdict_pages pages size place before body (verdict p tells last_tests r) in
    sym (two_told (is_no_manager header.manager) (is_linked before place header.prev.0) why.Manager why.Prev (verdict p tells (map GoesOn body ++ last_tests) r)
    ∙ ap (unless (ends (cond (is_no_manager header.manager) (Some why.Manager) (cond (is_linked before place header.prev.0) None (Some why.Prev))))) (rest ∙ ap (unless (first_stop pages body)) last))

or_none : (stop : Option Stop) → or_stop stop None ≡ stop
or_none None = refl
or_none (Some stop) = refl

ends_none : (x : Option Why) → ends x ≡ None → x ≡ None
ends_none None e = refl
ends_none (Some y) e = absurd cc

-- the pages that the header stands on, where it reaches the next one and where it doesn't
front_on : (pages : Pages) (size place total page left : ℕ) (before : Option ℕ) (first : List ℕ) (b : Bool) → nat_lt (length first) 24 ≡ b → 24 ≤ total
    → page ≡ page_of place + 8192 → left ≡ total - length first
    → after_first pages size before place total first
    ≡ unless (first_stop pages (take (cond b 1 0) (further size page left)))
    (after_header pages size before place total (drop (cond b 1 0) (further size page left)) (first ++ flat_map (piece pages size) (take (cond b 1 0) (further size page left))))
unfolding after_front
front_on pages size place total page left before first false e some p l =
    first_whole pages size place total page left before first (not_lt (length first) 24 e) p l
    ∙ ap (after_header pages size before place total (further size page left)) (sym (append-nil first))
front_on pages size place total page left before first true e some p l =
    let next : FurtherPage = further_page page left in
    let more : List FurtherPage = further size (page + 8192) (left - room size page) in
    let is : further size page left ≡ next ∷ more = further_more size page left (omega (arith, lt_of (length first) 24 e, l)) in
    first_reaches pages size place total page left before first (lt_of (length first) 24 e) p l
    ∙ ap (λ (s : Option Stop). unless s (after_header pages size before place total more (first ++ piece pages size next))) (sym (or_none (stop_at pages next)))
    ∙ ap (λ (t : List ℕ). unless (or_stop (stop_at pages next) None) (after_header pages size before place total more (first ++ t))) (sym (append-nil (piece pages size next)))
    ∙ sym (ap (λ (list : List FurtherPage). unless (first_stop pages (take 1 list)) (after_header pages size before place total (drop 1 list) (first ++ flat_map (piece pages size) (take 1 list)))) is)

first_on : (pages : Pages) (size place : ℕ) (before : Option ℕ) → 24 ≤ announced pages place
    → after_first pages size before place (announced pages place) (on_first pages place)
    ≡ verdict (passes pages size before place) (told pages size place) (map GoesOn (header_pages pages size place) ++ header_tests (body_pages pages size place)) (Spelled (sealed_at pages size place))
first_on pages size place before some =
    let front = header_pages pages size place in
    let body = body_pages pages size place in
    let r : Reading = Spelled (sealed_at pages size place) in
    let p = passes pages size before place in
    let tells = told pages size place in
    front_on pages size place (announced pages place) (page_of place + 8192) (announced pages place - length (on_first pages place)) before (on_first pages place)
    (nat_lt (length (on_first pages place)) 24) refl some refl refl
    ∙ ap (unless (first_stop pages front)) (header_on pages size place before)
    ∙ sym (verdict_on p tells (map GoesOn front) (header_tests body) r ∙ verdict_pages pages size place before front (verdict p tells (header_tests body) r))

page_on : (pages : Pages) (size place : ℕ) (before : Option ℕ)
    → reading_in pages size before place (Ok (bytes_in (pages (page_of place))))
    ≡ verdict (passes pages size before place) (told pages size place) (Begins ∷ HasLength ∷ (map GoesOn (header_pages pages size place) ++ header_tests (body_pages pages size place))) (Spelled (sealed_at pages size place))
unfolding reading_in
page_on pages size place before =
    let total : ℕ = announced pages place in
    let goes = continues_at size place (page_header (bytes_in (pages (page_of place)))).info in
    let rest = map GoesOn (header_pages pages size place) ++ header_tests (body_pages pages size place) in
    let r : Reading = Spelled (sealed_at pages size place) in
    let p = passes pages size before place in
    let tells = told pages size place in
    let long : verdict p tells (HasLength ∷ rest) r ≡ unless (ends (length_fault total)) (verdict p tells rest r) =
    length_told (eqb total 0) (nat_lt total 24) (nat_lt greatest_total total) (verdict p tells rest r) in
    let first : unless (ends (length_fault total)) (after_first pages size before place total (on_first pages place)) ≡ unless (ends (length_fault total)) (verdict p tells rest r) =
    unless_same (ends (length_fault total)) _ _ (λ e. first_on pages size place before (length_least total (ends_none (length_fault total) e)).0) in
    ap (cond goes (Stopped (Ends why.Continuation))) (first ∙ sym long)
    ∙ sym (cond_not goes (verdict p tells (HasLength ∷ rest) r) (Stopped (Ends why.Continuation)))

page_in : (pages : Pages) (size place : ℕ) (before : Option ℕ) (found : Result (List ℕ) Refusal) (x : Reading) → reading_in pages size before place (Ok (bytes_in found)) ≡ x
    → reading_in pages size before place found ≡ cond (is_ok found) x (Stopped (Ends (why_no_page found)))
unfolding reading_in
page_in pages size place before (Ok page) x e = e
page_in pages size place before (Err refusal) x e = refl

-- what a place has is what its tests come to
pub reading_verdict : (pages : Pages) (size place : ℕ) (before : Option ℕ)
    → reading pages size before place ≡ verdict (passes pages size before place) (told pages size place) (tests pages size place) (Spelled (sealed_at pages size place))
unfolding reading
reading_verdict pages size place before =
    ap (λ (x : Reading). cond (is_place size place) x (Stopped (Ends why.Place)))
    (page_in pages size place before (pages (page_of place)) _ (page_on pages size place before))

-- from the tests that decide to what holds
first_verdict : (p : Test → Bool) (Holds : Test → Type 0) (tells : Test → Stop) → ((test : Test) → Decides (p test) (Holds test)) → (list : List Test) (r : Reading) (stop : Stop)
    → FailsFirst Holds tells list stop → verdict p tells list r ≡ Stopped stop
first_verdict p Holds tells d [] r stop h = absurd h
first_verdict p Holds tells d (test ∷ rest) r stop (inl (fails, is)) =
    elim (cases_Bool (p test)) [
      | inl on ↦ absurd (fails ((d test).0 on))
      | inr off ↦ rw off (ap Stopped (sym is))
    ]
first_verdict p Holds tells d (test ∷ rest) r stop (inr (passed, h)) =
    elim (cases_Bool (p test)) [
      | inl on ↦ rw on (first_verdict p Holds tells d rest r stop h)
      | inr off ↦ absurd ((d test).1 off passed)
    ]

same_stop : (a b : Stop) → Stopped a ≡ Stopped b → a ≡ b
same_stop a b e = cc

verdict_first : (p : Test → Bool) (Holds : Test → Type 0) (tells : Test → Stop) → ((test : Test) → Decides (p test) (Holds test)) → (list : List Test) (r : LogRecord) (stop : Stop)
    → verdict p tells list (Spelled r) ≡ Stopped stop → FailsFirst Holds tells list stop
verdict_first p Holds tells d [] r stop e = absurd cc
verdict_first p Holds tells d (test ∷ rest) r stop e =
    elim (cases_Bool (p test)) [
      | inl on ↦ inr ((d test).0 on, verdict_first p Holds tells d rest r stop (sym (ap (λ b. cond b (verdict p tells rest (Spelled r)) (Stopped (tells test))) on) ∙ e))
      | inr off ↦ inl ((d test).1 off, same_stop stop (tells test) (sym e ∙ ap (λ b. cond b (verdict p tells rest (Spelled r)) (Stopped (tells test))) off))
    ]

-- a place stops so exactly where the first test that fails tells it
pub stops_first : (log : LogPath) (files : Folder) (before : Option ℕ) (place : ℕ) (stop : Stop) → reading (page_at log files) (bytes_of log.size) before place ≡ Stopped stop
    → FailsFirst (Passes (page_at log files) (bytes_of log.size) before place) (told (page_at log files) (bytes_of log.size) place) (tests (page_at log files) (bytes_of log.size) place) stop
stops_first log files before place stop e =
    verdict_first _ _ (told (page_at log files) (bytes_of log.size) place) (decides log files before place) (tests (page_at log files) (bytes_of log.size) place) (sealed_at (page_at log files) (bytes_of log.size) place) stop (sym (reading_verdict (page_at log files) (bytes_of log.size) place before) ∙ e)

pub first_stops : (log : LogPath) (files : Folder) (before : Option ℕ) (place : ℕ) (stop : Stop)
    → FailsFirst (Passes (page_at log files) (bytes_of log.size) before place) (told (page_at log files) (bytes_of log.size) place) (tests (page_at log files) (bytes_of log.size) place) stop
    → reading (page_at log files) (bytes_of log.size) before place ≡ Stopped stop
first_stops log files before place stop h =
    reading_verdict (page_at log files) (bytes_of log.size) place before ∙ first_verdict _ _ (told (page_at log files) (bytes_of log.size) place) (decides log files before place) (tests (page_at log files) (bytes_of log.size) place) (Spelled (sealed_at (page_at log files) (bytes_of log.size) place)) stop h

-- a record that passes all its tests is read
all_verdict : (p : Test → Bool) (Holds : Test → Type 0) (tells : Test → Stop) → ((test : Test) → Decides (p test) (Holds test)) → (list : List Test) (r : Reading)
    → AllByRecursion Holds list → verdict p tells list r ≡ r
all_verdict p Holds tells d [] r h = refl
all_verdict p Holds tells d (test ∷ rest) r h =
    elim (cases_Bool (p test)) [
      | inl on ↦ rw on (all_verdict p Holds tells d rest r h.1)
      | inr off ↦ absurd ((d test).1 off h.0)
    ]

verdict_all : (p : Test → Bool) (Holds : Test → Type 0) (tells : Test → Stop) → ((test : Test) → Decides (p test) (Holds test)) → (list : List Test) (r : Reading) (s : LogRecord)
    → verdict p tells list r ≡ Spelled s → AllByRecursion Holds list
verdict_all p Holds tells d [] r s e = tt
verdict_all p Holds tells d (test ∷ rest) r s e =
    elim (cases_Bool (p test)) [
      | inl on ↦ ((d test).0 on, verdict_all p Holds tells d rest r s (sym (ap (λ b. cond b (verdict p tells rest r) (Stopped (tells test))) on) ∙ e))
      | inr off ↦ let stopped : Stopped (tells test) ≡ Spelled s = sym (ap (λ b. cond b (verdict p tells rest r) (Stopped (tells test))) off) ∙ e in absurd cc
    ]

pub passed_is_read : (log : LogPath) (files : Folder) (before : Option ℕ) (place : ℕ)
    → AllByRecursion (Passes (page_at log files) (bytes_of log.size) before place) (tests (page_at log files) (bytes_of log.size) place)
    → reading (page_at log files) (bytes_of log.size) before place ≡ Spelled (sealed_at (page_at log files) (bytes_of log.size) place)
passed_is_read log files before place all =
    reading_verdict (page_at log files) (bytes_of log.size) place before ∙ all_verdict _ _ (told (page_at log files) (bytes_of log.size) place) (decides log files before place) (tests (page_at log files) (bytes_of log.size) place) (Spelled (sealed_at (page_at log files) (bytes_of log.size) place)) all

pub read_is_passed : (log : LogPath) (files : Folder) (before : Option ℕ) (place : ℕ) (r : LogRecord) → reading (page_at log files) (bytes_of log.size) before place ≡ Spelled r
    → AllByRecursion (Passes (page_at log files) (bytes_of log.size) before place) (tests (page_at log files) (bytes_of log.size) place)
read_is_passed log files before place r e =
    verdict_all _ _ (told (page_at log files) (bytes_of log.size) place) (decides log files before place) (tests (page_at log files) (bytes_of log.size) place) (Spelled (sealed_at (page_at log files) (bytes_of log.size) place)) r (sym (reading_verdict (page_at log files) (bytes_of log.size) place before) ∙ e)

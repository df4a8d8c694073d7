-- Each step of a log moves up, and so the log is what a place has and the log from where that goes on.
use Rattle.std.proofs.Common.{◌≡◌, ℕ, zero, suc, ◌+◌, ◌-◌, ◌%◌, ◌^◌, ◌<◌, ◌≤◌, Bool, true, false, cond, List, [], ◌∷◌, length, Option, Some, None, Result, Ok, Err, refl, sym, ap, subst, ◌∙◌, arith, nat_lt, eqb, inl, inr}
use Rattle.std.proofs.lemmas.Bool.{cases_lt, le-leb, lt-leb}
use Rattle.layout.specs.Readers.{u32_at}
use Rattle.wal_pages.specs.Header.{page_of, has_bit, header_of as page_header}
use Rattle.wal_pages.specs.Page.{Refusal}
use Rattle.wal_records.specs.declared.why.Why.{Why}
use Rattle.wal_records.specs.declared.why.Why.TheVariants as why
use Rattle.wal_records.specs.declared.why.Stop.{Stop}
use Rattle.wal_records.specs.declared.why.Stop.TheVariants.{Ends, Dropped}
use Rattle.wal_records.specs.Place.{place_at, is_place}
use Rattle.wal_records.specs.Header.{header_of, header_fault, length_fault}
use Rattle.wal_records.specs.Further.{Pages, FurtherPage, further_page, room, further_in, further, stop_in, stop_at, or_stop, first_stop, Gathered, gathered}
use Rattle.wal_records.specs.Reading.{Reading, Spelled, Stopped, reading, reading_in, continues_at, after_first, after_front, after_header, after_rest, sealed, seal_fault, unless, ends}
use Rattle.wal_records.specs.Log.{Log, ended, with_first, log_step, log_in, log_from, AreInOrder}
use Rattle.wal_records.proofs.ExtentLemmas.{end_up}
use Rattle.wal_records.proofs.PlaceLemmas.{place_at_up, page_up}

-- where a stop goes on stands behind the place
abbrev pub StopAhead : ℕ → ℕ → Option Stop → Type 0
StopAhead size place None = Unit {0}
StopAhead size place (Some (Ends why)) = Unit {0}
StopAhead size place (Some (Dropped page)) = place < place_at size page

abbrev pub Ahead : ℕ → ℕ → Reading → Type 0
Ahead size place (Spelled r) = (r.start ≡ place) × (place < r.end)
Ahead size place (Stopped stop) = StopAhead size place (Some stop)

ahead_ends : (size place : ℕ) (why : Option Why) → StopAhead size place (ends why)
ahead_ends size place None = tt
ahead_ends size place (Some why) = tt

ahead_unless : (size place : ℕ) (stop : Option Stop) (r : Reading) → StopAhead size place stop → (stop ≡ None → Ahead size place r) → Ahead size place (unless stop r)
ahead_unless size place None r a b = b refl
ahead_unless size place (Some stop) r a b = a

ahead_cond : (size place : ℕ) (b : Bool) (x y : Reading) → Ahead size place x → Ahead size place y → Ahead size place (cond b x y)
ahead_cond size place true x y a b = a
ahead_cond size place false x y a b = b

ahead_or : (size place : ℕ) (a b : Option Stop) → StopAhead size place a → StopAhead size place b → StopAhead size place (or_stop a b)
ahead_or size place None b x y = y
ahead_or size place (Some stop) b x y = x

ahead_cond_stop : (size place : ℕ) (b : Bool) (x y : Option Stop) → StopAhead size place x → StopAhead size place y → StopAhead size place (cond b x y)
ahead_cond_stop size place true x y a b = a
ahead_cond_stop size place false x y a b = b

ahead_in : (size place : ℕ) (next : FurtherPage) (page : Result (List ℕ) Refusal) → place < next.at → StopAhead size place (stop_in next page)
ahead_in size place next (Err refusal) h = tt
ahead_in size place next (Ok page) h =
    ahead_cond_stop size place (has_bit (page_header page).info 8) _ _ (omega (arith, place_at_up size next.at, h))
    (ahead_cond_stop size place _ None (Some (Ends why.Continuation)) tt tt)

-- all pages of a list stand behind a position
abbrev pub AllBehind : ℕ → List FurtherPage → Type 0
AllBehind place [] = Unit {0}
AllBehind place (page ∷ rest) = (place < page.at) × AllBehind place rest

behind_cond : (place : ℕ) (b : Bool) (x y : List FurtherPage) → AllBehind place x → AllBehind place y → AllBehind place (cond b x y)
behind_cond place true x y a b = a
behind_cond place false x y a b = b

behind_further : (size place n page left : ℕ) → place < page → AllBehind place (further_in size n page left)
unfolding further_in
behind_further size place zero page left h = tt
behind_further size place (suc n) page left h =
    let both : AllBehind place (further_page page left ∷ further_in size n (page + 8192) (left - room size page)) = (h, behind_further size place n (page + 8192) (left - room size page) (omega (arith, h))) in
    behind_cond place (eqb left 0) [] (further_page page left ∷ further_in size n (page + 8192) (left - room size page)) tt both

ahead_first : (pages : Pages) (size place : ℕ) (rest : List FurtherPage) → AllBehind place rest → StopAhead size place (first_stop pages rest)
ahead_first pages size place [] h = tt
ahead_first pages size place (page ∷ rest) h = ahead_or size place (stop_at pages page) (first_stop pages rest) (ahead_in size place page (pages page.at) h.0) (ahead_first pages size place rest h.1)

ahead_sealed : (size place total : ℕ) (bytes : List ℕ) → 0 < total → 0 < size → Ahead size place (Spelled (sealed size place total bytes))
ahead_sealed size place total bytes t s =
    let up = end_up size place total (header_of bytes) s t in
    (refl, omega (arith, up, t))

ahead_rest : (size place total : ℕ) (found : Gathered) → 0 < total → 0 < size → StopAhead size place found.stop → Ahead size place (after_rest size place total found)
unfolding after_rest
ahead_rest size place total found t s h =
    ahead_unless size place found.stop _ h
    (λ _. ahead_unless size place (ends (seal_fault size place total found.bytes)) _ (ahead_ends size place (seal_fault size place total found.bytes))
    (λ _. ahead_sealed size place total found.bytes t s))

ahead_header : (pages : Pages) (size place total : ℕ) (before : Option ℕ) (rest : List FurtherPage) (bytes : List ℕ) → 0 < total → 0 < size → AllBehind place rest → Ahead size place (after_header pages size before place total rest bytes)
unfolding after_header gathered
ahead_header pages size place total before rest bytes t s h =
    ahead_unless size place (ends (header_fault before place (header_of bytes))) _ (ahead_ends size place (header_fault before place (header_of bytes)))
    (λ _. ahead_rest size place total (gathered pages size bytes rest) t s (ahead_first pages size place rest h))

ahead_further : (pages : Pages) (size place total page left : ℕ) (before : Option ℕ) (bytes : List ℕ) → 0 < total → 0 < size → place < page → Ahead size place (after_header pages size before place total (further size page left) bytes)
unfolding further
ahead_further pages size place total page left before bytes t s h = ahead_header pages size place total before (further size page left) bytes t s (behind_further size place left page left h)

ahead_front : (pages : Pages) (size place total : ℕ) (before : Option ℕ) (next : FurtherPage) (first : List ℕ) → 0 < total → 0 < size → place < next.at → Ahead size place (after_front pages size before place total next first)
unfolding after_front
ahead_front pages size place total before next first t s h =
    ahead_unless size place (stop_at pages next) _ (ahead_in size place next (pages next.at) h)
    (λ _. ahead_further pages size place total (next.at + 8192) (next.left - room size next.at) before _ t s (omega (arith, h)))

ahead_from_first : (pages : Pages) (size place total : ℕ) (before : Option ℕ) (first : List ℕ) → 0 < total → 0 < size → Ahead size place (after_first pages size before place total first)
unfolding after_first
ahead_from_first pages size place total before first t s =
    ahead_cond size place (nat_lt (length first) 24) _ _
    (ahead_front pages size place total before (further_page (page_of place + 8192) (total - length first)) first t s (page_up place))
    (ahead_further pages size place total (page_of place + 8192) (total - length first) before first t s (page_up place))

some_length : (total : ℕ) → ends (length_fault total) ≡ None → 0 < total
some_length zero e = absurd cc
some_length (suc n) e = omega arith

ahead_reading_in : (pages : Pages) (size place : ℕ) (before : Option ℕ) (page : Result (List ℕ) Refusal) → 0 < size → Ahead size place (reading_in pages size before place page)
unfolding reading_in
ahead_reading_in pages size place before (Err refusal) s = tt
ahead_reading_in pages size place before (Ok page) s =
    let total : ℕ = u32_at (place % 8192) page in
    ahead_cond size place (continues_at size place (page_header page).info) _ _ tt
    (ahead_unless size place (ends (length_fault total)) _ (ahead_ends size place (length_fault total)) (λ e. ahead_from_first pages size place total before _ (some_length total e) s))

pub ahead_reading : (pages : Pages) (size place : ℕ) (before : Option ℕ) → 0 < size → Ahead size place (reading pages size before place)
unfolding reading
ahead_reading pages size place before s = ahead_cond size place (is_place size place) _ _ (ahead_reading_in pages size place before (pages (page_of place)) s) tt

past_top : (pages : Pages) (size n place : ℕ) (before : Option ℕ) → 2 ^ 64 ≤ place → log_in pages size n before place ≡ ended place why.NoSegment
unfolding log_in
past_top pages size zero place before h = refl
past_top pages size (suc n) place before h = rw (le-leb (2 ^ 64) place h) refl

none_left : (pages : Pages) (size place : ℕ) (before : Option ℕ) → log_in pages size zero before place ≡ ended place why.NoSegment
unfolding log_in
none_left pages size place before = refl

one_step : (pages : Pages) (size n place : ℕ) (before : Option ℕ) → place < 2 ^ 64 → log_in pages size (suc n) before place ≡ log_step (log_in pages size n) size before place (reading pages size before place)
unfolding log_in
one_step pages size n place before h = rw (lt-leb (2 ^ 64) place h) refl

step_same : (f g : Option ℕ → ℕ → Log) (size place : ℕ) (before : Option ℕ) (r : Reading) → Ahead size place r → ((b : Option ℕ) (p : ℕ) → place < p → f b p ≡ g b p) → log_step f size before place r ≡ log_step g size before place r
step_same f g size place before (Spelled r) a h = ap (with_first r) (h (Some r.start) (place_at size r.end) (omega (arith, a.1, place_at_up size r.end)))
step_same f g size place before (Stopped (Dropped page)) a h = h before (place_at size page) a
step_same f g size place before (Stopped (Ends why)) a h = refl

same_steps : (pages : Pages) (size : ℕ) → 0 < size → (m n place : ℕ) (before : Option ℕ) → 2 ^ 64 - place ≤ m → 2 ^ 64 - place ≤ n → log_in pages size m before place ≡ log_in pages size n before place
same_steps pages size s zero n place before a b = past_top pages size zero place before (omega arith) ∙ sym (past_top pages size n place before (omega arith))
same_steps pages size s (suc m) zero place before a b = past_top pages size (suc m) place before (omega arith) ∙ sym (past_top pages size zero place before (omega arith))
same_steps pages size s (suc m) (suc n) place before a b =
    elim (cases_lt place (2 ^ 64)) [
      | inl low ↦
          one_step pages size m place before low
          ∙ step_same (log_in pages size m) (log_in pages size n) size place before (reading pages size before place) (ahead_reading pages size place before s)
          (λ c p up. same_steps pages size s m n p c (omega arith) (omega arith))
          ∙ sym (one_step pages size n place before low)
      | inr high ↦ past_top pages size (suc m) place before high ∙ sym (past_top pages size (suc n) place before high)
    ]

-- The log from a place on is what the place has, and the log from where it goes on.
pub log_next : (pages : Pages) (size place : ℕ) (before : Option ℕ) → 0 < size → place < 2 ^ 64 → log_from pages size before place ≡ log_step (log_from pages size) size before place (reading pages size before place)
unfolding log_from
log_next pages size place before s h =
    let n : ℕ = 2 ^ 64 - place in
    same_steps pages size s n (suc n) place before (omega arith) (omega arith)
    ∙ one_step pages size n place before h
    ∙ step_same (log_in pages size n) (log_from pages size) size place before (reading pages size before place) (ahead_reading pages size place before s)
    (λ c p up. same_steps pages size s n (2 ^ 64 - p) p c (omega arith) (omega arith))

-- the same, from what was read
pub log_on : (pages : Pages) (size place : ℕ) (before : Option ℕ) (found : Reading) → 0 < size → place < 2 ^ 64 → reading pages size before place ≡ found → log_from pages size before place ≡ log_step (log_from pages size) size before place found
log_on pages size place before found s h e = log_next pages size place before s h ∙ ap (log_step (log_from pages size) size before place) e

-- what stands at a place, and then what stands behind it, is in order
order_step : (go : Option ℕ → ℕ → Log) (size from place : ℕ) (before : Option ℕ) (r : Reading) → from ≤ place → Ahead size place r
    → ((b : Option ℕ) (f p : ℕ) → f ≤ p → AreInOrder f (go b p).records) → AreInOrder from (log_step go size before place r).records
order_step go size from place before (Spelled r) low a h =
    (omega (arith, low, a.0), omega (arith, a.0, a.1), h (Some r.start) r.end (place_at size r.end) (place_at_up size r.end))
order_step go size from place before (Stopped (Dropped page)) low a h = h before from (place_at size page) (omega (arith, low, a))
order_step go size from place before (Stopped (Ends why)) low a h = tt

in_order : (pages : Pages) (size : ℕ) → 0 < size → (n from place : ℕ) (before : Option ℕ) → from ≤ place → AreInOrder from (log_in pages size n before place).records
in_order pages size s zero from place before low = subst (λ (l : Log). AreInOrder from l.records) (sym (none_left pages size place before)) tt
in_order pages size s (suc n) from place before low =
    elim (cases_lt place (2 ^ 64)) [
      | inl under ↦
          subst (λ (l : Log). AreInOrder from l.records) (sym (one_step pages size n place before under))
          (order_step (log_in pages size n) size from place before (reading pages size before place) low (ahead_reading pages size place before s)
          (λ b f p up. in_order pages size s n f p b up))
      | inr high ↦ subst (λ (l : Log). AreInOrder from l.records) (sym (past_top pages size (suc n) place before high)) tt
    ]

-- the records of the log from a place on stand one after another
pub log_in_order : (pages : Pages) (size from place : ℕ) (before : Option ℕ) → 0 < size → from ≤ place → AreInOrder from (log_from pages size before place).records
unfolding log_from
log_in_order pages size from place before s low = in_order pages size s (2 ^ 64 - place) from place before low

-- The records of a pair's logs are small, and few enough for one segment.
use Rattle.std.proofs.Common.{◌≡◌, ℕ, ◌+◌, ◌^◌, ◌<◌, ◌≤◌, Bool, true, false, cond, List, [], ◌∷◌, ◌++◌, length, map, filter, lit<, refl, arith}
use Rattle.std.specs.Prelude.{replicate, pos}
use Rattle.std.specs.Int.{w64}
use Rattle.std.specs.Int.RustNames.{FitsSigned}
use Rattle.std.proofs.lemmas.Int.{ints}
use Rattle.std.specs.List.{AllByRecursion, range_with_len}
use Rattle.std.proofs.lemmas.List.{length-append, length-map}
use Rattle.std.proofs.lemmas.List.FromFn.{length-range_with_len}
use Rattle.layout.specs.Rows.{RowFits}
use Rattle.layout.specs.Writing.{value_bytes}
use Rattle.layout.proofs.LaidLemmas.{length-laid}
use Rattle.control_file.specs.Rows.{checkpoint_rows}
use Rattle.control_file.specs.Writing.{checkpoint_bytes}
use Rattle.control_file.specs.declared.checkpoint.Checkpoint.{Checkpoint}
use Rattle.control_file.proofs.TableLemmas.{ascends_checkpoint}
use Rattle.reset_plan.specs.NewSegment.{checkpoint_record}
use Rattle.wal_records.specs.Sound.{IsSound}
use Rattle.wal_records.specs.Writer.{NewRecord, begun, written}
use Rattle.wal_records.proofs.StateLemmas.{begun_sound}
use Rattle.pair_maker.specs.Inserts.{insert_blocks, insert_body, insert_record, inserts_into}
use Rattle.pair_maker.specs.Logs.{common_checkpoint, common_place, last_checkpoint, last_place, log_upto, made_at, origin_of, records_of, records_upto, timeline_of}
use Rattle.pair_maker.specs.declared.side.Side.{Side}
use Rattle.pair_maker.specs.declared.side.Side.TheVariants.{Target, Source}
use Rattle.pair_laws.proofs.NearLemmas.{Grown, IsSmall, grown, place_near}

pub insert_length : (seed block : ℕ) → length (insert_body seed block) ≡ 35
unfolding insert_body value_bytes
insert_length seed block = refl

small-insert : (seed block : ℕ) → IsSmall (insert_record seed block)
small-insert seed block = record { xid = lit< tt; info = refl; manager = lit< tt; size = omega (arith, insert_length seed block) }

-- when both were made fits a control file
pub time-fits : FitsSigned w64 (pos made_at)
time-fits = omega (arith, ints)

abbrev pub checkpoint_with : (place tli xid : ℕ) → Checkpoint
checkpoint_with place tli xid = record common_checkpoint { redo = place; tli = tli; nextXid = xid }

pub rows_fit : (at place tli xid : ℕ) → place < 2 ^ 64 → tli < 2 ^ 32 → xid < 2 ^ 64 → AllByRecursion RowFits (checkpoint_rows at (checkpoint_with place tli xid))
unfolding checkpoint_rows
rows_fit at place tli xid low timeline next = (low, (timeline, (lit< tt, (lit< tt, (next, (lit< tt, (lit< tt, (lit< tt, (lit< tt, (lit< tt, (lit< tt, (lit< tt, (time-fits, (lit< tt, (lit< tt, (lit< tt, tt))))))))))))))))

pub checkpoint-long : (cp : Checkpoint) → AllByRecursion RowFits (checkpoint_rows 0 cp) → length (checkpoint_bytes cp) ≡ 88
unfolding checkpoint_bytes
checkpoint-long cp fits = length-laid 0 (checkpoint_rows 0 cp) (replicate 88 0) (ascends_checkpoint cp) fits

small-checkpoint : (place tli xid : ℕ) → place < 2 ^ 64 → tli < 2 ^ 32 → xid < 2 ^ 64 → IsSmall (checkpoint_record (checkpoint_with place tli xid))
unfolding checkpoint_record
small-checkpoint place tli xid low timeline next = record { xid = lit< tt; info = refl; manager = lit< tt; size = omega (arith, checkpoint-long (checkpoint_with place tli xid) (rows_fit 0 place tli xid low timeline next)) }

all-inserts : (seed : ℕ) (blocks : List ℕ) → AllByRecursion IsSmall (map (insert_record seed) blocks)
all-inserts seed [] = tt
all-inserts seed (block ∷ blocks) = (small-insert seed block, all-inserts seed blocks)

all-both : (xs ys : List NewRecord) → AllByRecursion IsSmall xs → AllByRecursion IsSmall ys → AllByRecursion IsSmall (xs ++ ys)
all-both [] ys a b = b
all-both (x ∷ xs) ys a b = (a.0, all-both xs ys a.1 b)

filter_length : (p : ℕ → Bool) (xs : List ℕ) → length (filter p xs) ≤ length xs
filter_length p [] = omega arith
filter_length p (x ∷ xs) =
    let more = filter_length p xs in
    elim (p x) as (λ b. length (cond b (x ∷ filter p xs) (filter p xs)) ≤ length (x ∷ xs)) [ true ↦ omega (arith, more) | false ↦ omega (arith, more) ]

pub low_timeline : (side : Side) → timeline_of side < 2 ^ 32
low_timeline Target = lit< tt
low_timeline Source = lit< tt

pub upto_small : (side : Side) (seed blocks : ℕ) → AllByRecursion IsSmall (records_upto side seed blocks)
upto_small side seed blocks = (small-checkpoint common_place 1 700 (lit< tt) (lit< tt) (lit< tt), all-inserts seed (insert_blocks side seed blocks))

pub upto_few : (side : Side) (seed blocks : ℕ) → length (records_upto side seed blocks) ≤ blocks + 1
upto_few side seed blocks =
    omega (arith, length-map (insert_blocks side seed blocks) (insert_record seed), filter_length (inserts_into side seed) (range_with_len 0 blocks), length-range_with_len 0 blocks)

pub begun_starts : (side : Side) → IsSound (begun (origin_of side))
begun_starts side = begun_sound (origin_of side) refl

pub upto_grown : (side : Side) (seed blocks : ℕ) → blocks ≤ 4096 → Grown (begun (origin_of side)) (log_upto side seed blocks) (records_upto side seed blocks)
unfolding log_upto written
upto_grown side seed blocks few = grown (records_upto side seed blocks) (begun (origin_of side)) (upto_small side seed blocks) (begun_starts side) (lit< tt) (omega (arith, upto_few side seed blocks, few))

pub last_low : (side : Side) (seed blocks : ℕ) → blocks ≤ 4096 → last_place side seed blocks < 2 ^ 64
unfolding last_place
last_low side seed blocks few =
    omega (arith, place_near 0x10_0000 (log_upto side seed blocks).end, (upto_grown side seed blocks few).end, upto_few side seed blocks, few)

pub all_small : (side : Side) (seed blocks : ℕ) → blocks ≤ 4096 → AllByRecursion IsSmall (records_of side seed blocks)
all_small side seed blocks few =
    all-both (records_upto side seed blocks) (checkpoint_record (last_checkpoint side (last_place side seed blocks)) ∷ []) (upto_small side seed blocks)
    (small-checkpoint (last_place side seed blocks) (timeline_of side) 701 (last_low side seed blocks few) (low_timeline side) (lit< tt), tt)

pub all_few : (side : Side) (seed blocks : ℕ) → length (records_of side seed blocks) ≤ blocks + 2
all_few side seed blocks = omega (arith, length-append (records_upto side seed blocks) (checkpoint_record (last_checkpoint side (last_place side seed blocks)) ∷ []), upto_few side seed blocks)

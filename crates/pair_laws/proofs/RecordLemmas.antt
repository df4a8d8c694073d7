-- What the records of a pair's logs are once they are read, and what they name.
use Rattle.std.proofs.Common.{◌≡◌, ℕ, ◌<◌, ◌^◌, List, [], ◌∷◌, ◌++◌, Option, Ok, refl, ap, ap₂, ◌∙◌}
use Rattle.std.specs.List.{AllByRecursion, list_any}
use Rattle.block_refs.specs.Outcomes.{record_parts, start_of, told}
use Rattle.block_refs.specs.Parts.{PartsView, parts_of}
use Rattle.block_refs.specs.Written.{written_parts}
use Rattle.block_refs.specs.declared.names.RelName.{RelName}
use Rattle.control_file.specs.Rows.{checkpoint_rows}
use Rattle.control_file.specs.declared.checkpoint.Checkpoint.{Checkpoint}
use Rattle.layout.specs.Rows.{RowFits}
use Rattle.record_layouts.specs.Heap.{heap_op_of}
use Rattle.record_layouts.specs.Operation.{operation_of}
use Rattle.record_layouts.specs.Xlog.{xlog_op_of}
use Rattle.reset_plan.specs.NewSegment.{checkpoint_record}
use Rattle.touched_blocks.specs.Named.{covers}
use Rattle.touched_blocks.specs.Touched.{names_in, names_of, names_or_none, touches}
use Rattle.touched_blocks.specs.declared.named.Named.{Named}
use Rattle.touched_blocks.specs.declared.named.Named.TheVariants.{OneBlock}
use Rattle.wal_base.specs.Segment.{bytes_of}
use Rattle.wal_records.specs.Again.{IsNew, header_given, log_records, new_log_record}
use Rattle.wal_records.specs.Place.{place_at}
use Rattle.wal_records.specs.Reading.{LogRecord}
use Rattle.wal_records.specs.Sound.{AllNew}
use Rattle.wal_records.specs.Writer.{NewRecord, Written, appended, end_from}
use Rattle.wal_records.proofs.AgainLemmas.{records_again}
use Rattle.pair_maker.specs.Inserts.{insert_block, insert_main, insert_record, pair_relation}
use Rattle.pair_laws.proofs.BodyLemmas.{checkpoint-parts, insert-parts, no_blocks}

-- ---- a record that was written, by what it was given

abbrev pub given : (start end : ℕ) → Option ℕ → NewRecord → LogRecord
given start end before r = record { start = start; end = end; header = header_given before r; body = r.body }

abbrev pub given_in : Written → NewRecord → LogRecord
given_in w r = given (place_at (bytes_of w.origin.size) w.end) (end_from w.origin w.before w.end r) w.before r

pub new-given : (w : Written) (r : NewRecord) → IsNew w.before r → new_log_record w r ≡ given_in w r
new-given w r new =
    let again = records_again w.before r new in
    ap₂ (λ header body. record { start = place_at (bytes_of w.origin.size) w.end; end = end_from w.origin w.before w.end r; header = header; body = body }) again.header again.body

-- ---- what a record names

-- wherever such a record stands, it has parts, and names this
pub record Names (n : NewRecord) (named : List Named) : Type 0 where
  pub parts : PartsView
  pub read : parts_of n.body ≡ Ok parts
  pub names : (start end : ℕ) (before : Option ℕ) → names_of (given start end before n) parts ≡ Ok named

pub insert-names : (seed block : ℕ) → block < 2 ^ 32 → Names (insert_record seed block) (OneBlock pair_relation block ∷ [])
unfolding operation_of heap_op_of
insert-names seed block low = record {
  parts = written_parts (insert_block seed block ∷ []) insert_main;
  read = insert-parts seed block low;
  names = λ start end before. refl;
}

pub checkpoint-names : (cp : Checkpoint) → AllByRecursion RowFits (checkpoint_rows 0 cp) → Names (checkpoint_record cp) []
unfolding checkpoint_record operation_of xlog_op_of
checkpoint-names cp fits = record { parts = no_blocks; read = checkpoint-parts cp fits; names = λ start end before. refl }

-- such a record that was read has parts, and names this
pub record HasNames (r : LogRecord) (named : List Named) : Type 0 where
  pub parts : PartsView
  pub read : record_parts r ≡ Ok parts
  pub names : names_of r parts ≡ Ok named

names-given : (w : Written) (n : NewRecord) (named : List Named) → IsNew w.before n → Names n named → HasNames (new_log_record w n) named
names-given w n named new has =
    rw (new-given w n new) (record {
      parts = has.parts;
      read = ap (λ p. told (start_of (given_in w n)) p) has.read;
      names = has.names (place_at (bytes_of w.origin.size) w.end) (end_from w.origin w.before w.end n) w.before;
    })

-- ---- records one after another

abbrev pub AllName : List NewRecord → List (List Named) → Type 0
AllName [] [] = Unit {0}
AllName [] (m ∷ ms) = ⊥
AllName (n ∷ ns) [] = ⊥
AllName (n ∷ ns) (m ∷ ms) = Names n m × AllName ns ms

abbrev pub AllHaveNames : List LogRecord → List (List Named) → Type 0
AllHaveNames [] [] = Unit {0}
AllHaveNames [] (m ∷ ms) = ⊥
AllHaveNames (r ∷ rs) [] = ⊥
AllHaveNames (r ∷ rs) (m ∷ ms) = HasNames r m × AllHaveNames rs ms

pub all-given : (w : Written) (ns : List NewRecord) (ms : List (List Named)) → AllNew w ns → AllName ns ms → AllHaveNames (log_records w ns) ms
all-given w [] [] each all = tt
all-given w [] (m ∷ ms) each all = absurd all
all-given w (n ∷ ns) [] each all = absurd all
all-given w (n ∷ ns) (m ∷ ms) each all = (names-given w n m each.0 all.0, all-given (appended w n) ns ms each.2 all.1)

pub names-append : (ns more : List NewRecord) (ms others : List (List Named)) → AllName ns ms → AllName more others → AllName (ns ++ more) (ms ++ others)
names-append [] more [] others all rest = rest
names-append [] more (m ∷ ms) others all rest = absurd all
names-append (n ∷ ns) more [] others all rest = absurd all
names-append (n ∷ ns) more (m ∷ ms) others all rest = (all.0, names-append ns more ms others all.1 rest)

-- the blocks that they touch are those that they name
names-seen : (r : LogRecord) (m : List Named) → HasNames r m → names_in r (record_parts r) ≡ m
names-seen r m has = ap (λ p. names_in r p) has.read ∙ ap names_or_none has.names

pub touches-named : (rs : List LogRecord) (ms : List (List Named)) (rel : RelName) (block : ℕ) → AllHaveNames rs ms
    → touches rs rel block ≡ list_any (λ m. list_any (covers rel block) m) ms
touches-named [] [] rel block all = refl
touches-named [] (m ∷ ms) rel block all = absurd all
touches-named (r ∷ rs) [] rel block all = absurd all
touches-named (r ∷ rs) (m ∷ ms) rel block all = rw (names-seen r m all.0, touches-named rs ms rel block all.1) refl

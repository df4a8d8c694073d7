-- What a record names, and what its layout says: the one from the other.
use Rattle.std.proofs.Common.{◌≡◌, ℕ, Bool, true, false, not, cond, ◌&&◌, ◌⊎◌, inl, inr, List, [], ◌∷◌, Option, Some, None, Result, Ok, Err, refl, sym, ap, subst, ◌∙◌}
use Rattle.std.specs.Prelude.{◌↔◌}
use Rattle.std.specs.List.{flat_map, list_any}
use Rattle.std.proofs.lemmas.Bool.{or_cases, or_left, or_right}
use Rattle.std.proofs.lemmas.List.Folds.{list_any-append}
use Rattle.layout.specs.Readers.{u32_at}
use Rattle.block_refs.specs.Bits.{has_bits}
use Rattle.block_refs.specs.Bytes.{main_bytes}
use Rattle.block_refs.specs.Header.{relation_at}
use Rattle.block_refs.specs.Outcomes.{start_of, told}
use Rattle.block_refs.specs.Parts.{PartsView, parts_of}
use Rattle.block_refs.specs.declared.fault.Flaw.{Flaw}
use Rattle.block_refs.specs.declared.names.RelName.{RelName}
use Rattle.block_refs.proofs.PartsLemmas.{has_parts, parts_are}
use Rattle.record_layouts.specs.declared.database.DatabaseOp.TheVariants as database
use Rattle.record_layouts.specs.declared.end.TransactionEnd.{TransactionEnd}
use Rattle.record_layouts.specs.declared.end_parts.Outcome.{Outcome}
use Rattle.record_layouts.specs.declared.operation.Operation.TheVariants as of
use Rattle.record_layouts.specs.declared.storage.StorageOp.TheVariants as storage
use Rattle.record_layouts.specs.declared.transaction.TransactionOp.TheVariants as transaction
use Rattle.record_layouts.specs.declared.operation.Operation.{Operation}
use Rattle.wal_records.specs.Reading.{LogRecord}
use Rattle.touched_blocks.specs.Fields.{is_kind, named_by_fields}
use Rattle.touched_blocks.specs.Layouts.{Counts, Creates, Ends, IsEnd, IsKind, IsMadeOrDropped, IsStorage, MakesOrDrops, Touches, TouchesBlock, TouchesBy, Truncates}
use Rattle.touched_blocks.specs.Named.{covers, whole_rel}
use Rattle.touched_blocks.specs.Touched.{is_special, named_by_references, names_block, names_in, names_of, names_or_none, operation_in, touches, unknown, with_fields}
use Rattle.touched_blocks.specs.declared.named.Named.{Named}
use Rattle.touched_blocks.specs.declared.named.Named.TheVariants.{BlocksFrom}
use Rattle.touched_blocks.proofs.CoverLemmas.{all_again, all_found, any_view, dropped_view, from_again, from_found, references_view, whole_again, whole_found}
use Rattle.touched_blocks.proofs.KindLemmas.{Shape, Made, Cut, Ended, Copied, Logged, Gone, Other, database_is, end_is, end_kind, has_flags, shape_of, storage_is}
use Rattle.touched_blocks.proofs.LayoutLemmas.{all_of_first, copy_again, copy_found, create_again, create_found, cut_again, cut_found, drop_again, drop_found, end_again, end_found, log_again, log_found}

-- what a record names is by its references or by its fields, where it counts
record Said (test : Named → Bool) (known : Bool) (refs : List Named) (fields : Option (List Named)) : Type 0 where
  counts : known ≡ false
  more : List Named
  is : fields ≡ Some more
  either : (list_any test refs ≡ true) ⊎ (list_any test more ≡ true)

said : (test : Named → Bool) (rec : LogRecord) (known : Bool) (refs : List Named) (fields : Option (List Named))
    → list_any test (names_or_none (cond known (Err (unknown rec)) (with_fields rec refs fields))) ≡ true → Said test known refs fields
said test rec true refs fields e = absurd cc
said test rec false refs None e = absurd cc
said test rec false refs (Some more) e =
    record { counts = refl; more = more; is = refl; either = or_cases _ _ (sym (list_any-append test refs more) ∙ e) }

say : (test : Named → Bool) (rec : LogRecord) (known : Bool) (refs : List Named) (fields : Option (List Named)) → Said test known refs fields
    → list_any test (names_or_none (cond known (Err (unknown rec)) (with_fields rec refs fields))) ≡ true
say test rec known refs fields s =
    rw (s.counts, s.is) (list_any-append test refs s.more ∙ elim s.either [ inl e ↦ or_left _ _ e | inr e ↦ or_right _ _ e ])

-- what its names are, where they are known
abbrev SaidBy : LogRecord → PartsView → RelName → ℕ → Type 0
SaidBy rec parts rel block =
    Said (covers rel block) (is_special rec && not (is_kind (operation_in rec))) (named_by_references parts.blocks) (named_by_fields (operation_in rec) (main_bytes rec.body parts))

-- ---- from its names to its layout

-- the fields of a record whose operation is known
fields_are : (rec : LogRecord) (main : List ℕ) (op : Operation) (fields : Option (List Named)) → operation_in rec ≡ op → named_by_fields (operation_in rec) main ≡ fields → named_by_fields op main ≡ fields
fields_are rec main op fields same e = ap (λ o. named_by_fields o main) (sym same) ∙ e

-- the names are these ones
named_so : (test : Named → Bool) (more names : List Named) → more ≡ names → list_any test more ≡ true → list_any test names ≡ true
named_so test more names e h = ap (list_any test) (sym e) ∙ h

with_references : (rec : LogRecord) (parts : PartsView) (rel : RelName) (block : ℕ) → Counts rec (main_bytes rec.body parts)
    → list_any (covers rel block) (named_by_references parts.blocks) ≡ true → TouchesBy rec parts rel block
with_references rec parts rel block counts e = inl (counts, (references_view rel block parts).0 e)

by_create : (rec : LogRecord) (parts : PartsView) (rel : RelName) (block : ℕ) → IsStorage rec 0x10 → operation_in rec ≡ of.Storage storage.Create → SaidBy rec parts rel block → TouchesBy rec parts rel block
by_create rec parts rel block k same s =
    let main = main_bytes rec.body parts in
    let m = create_found main s.more (fields_are rec main (of.Storage storage.Create) (Some s.more) same s.is) in
    let creates : Creates rec main (relation_at main 0) = record { kind = k; whole = m.whole; named = refl; fork = m.fork } in
    elim s.either [
      | inl e ↦ with_references rec parts rel block (inl (inl (relation_at main 0, creates))) e
      | inr e ↦ inr (inr (inl (subst (Creates rec main) (whole_found rel (relation_at main 0) block (named_so (covers rel block) s.more _ m.names e)) creates)))
    ]

-- a cut of the main fork, or of others
heap_cut : (heap : Bool) (test : Named → Bool) (named : Named) → list_any test (cond heap (named ∷ []) []) ≡ true → (heap ≡ true) × (list_any test (named ∷ []) ≡ true)
heap_cut true test named e = (refl, e)
heap_cut false test named e = absurd cc

by_truncate : (rec : LogRecord) (parts : PartsView) (rel : RelName) (block : ℕ) → IsStorage rec 0x20 → operation_in rec ≡ of.Storage storage.Truncate → SaidBy rec parts rel block → TouchesBy rec parts rel block
by_truncate rec parts rel block k same s =
    let main = main_bytes rec.body parts in
    let named = relation_at main 4 in
    let from = u32_at 0 main in
    let flags = u32_at 16 main in
    let m = cut_found main s.more (fields_are rec main (of.Storage storage.Truncate) (Some s.more) same s.is) in
    let cut : Truncates rec main named from flags = record { kind = k; whole = m.whole; from = refl; named = refl; flags = refl } in
    elim s.either [
      | inl e ↦ with_references rec parts rel block (inl (inr (inl (named, from, flags, cut)))) e
      | inr e ↦
          let h = heap_cut (has_bits flags 1) (covers rel block) (BlocksFrom named from) (named_so (covers rel block) s.more _ m.names e) in
          let f = from_found rel named block from h.1 in
          inr (inl record { from = from; flags = flags; cut = subst (λ r. Truncates rec main r from flags) f.0 cut; heap = h.0; behind = f.1 })
    ]

by_end : (rec : LogRecord) (parts : PartsView) (rel : RelName) (block : ℕ) (outcome : Outcome) (prepared : Bool) → IsEnd rec outcome
    → operation_in rec ≡ of.Transaction (transaction.End outcome prepared (has_flags rec)) → SaidBy rec parts rel block → TouchesBy rec parts rel block
by_end rec parts rel block outcome prepared k same s =
    let main = main_bytes rec.body parts in
    let m = end_found outcome prepared (has_flags rec) main s.more (fields_are rec main (of.Transaction (transaction.End outcome prepared (has_flags rec))) (Some s.more) same s.is) in
    let ends : Ends rec main outcome m.end = record { kind = k; fields = m.is } in
    elim s.either [
      | inl e ↦ with_references rec parts rel block (inl (inr (inr (inl (outcome, m.end, ends))))) e
      | inr e ↦
          inr (inr (inr (inl record {
            outcome = outcome;
            end = m.end;
            ends = ends;
            dropped = (dropped_view rel block m.end.dropped).0 (named_so (covers rel block) s.more _ m.names e);
          })))
    ]

by_database : (rec : LogRecord) (parts : PartsView) (rel : RelName) (block : ℕ) → IsMadeOrDropped rec (main_bytes rec.body parts)
    → (s : SaidBy rec parts rel block) → s.more ≡ all_of_first (main_bytes rec.body parts) → TouchesBy rec parts rel block
by_database rec parts rel block k s names =
    let main = main_bytes rec.body parts in
    let makes : MakesOrDrops rec main (u32_at 0 main) = record { fields = k; named = refl } in
    elim s.either [
      | inl e ↦ with_references rec parts rel block (inl (inr (inr (inr (u32_at 0 main, makes))))) e
      | inr e ↦
          inr (inr (inr (inr (subst (MakesOrDrops rec main) (all_found rel block (u32_at 0 main) (named_so (covers rel block) s.more _ names e)) makes))))
    ]

-- a record of no kind names nothing by its fields, and counts without the bit
plain : (special known : Bool) → known ≡ false → (special && not known) ≡ false → special ≡ false
plain true true k e = absurd cc
plain true false k e = absurd cc
plain false known k e = refl

abbrev some_names : List Named → Option (List Named)
some_names more = Some more

none_said : (test : Named → Bool) (more : List Named) → some_names [] ≡ some_names more → list_any test more ≡ true → ⊥
none_said test [] e h = absurd cc
none_said test (name ∷ more) e h = absurd cc

by_none : (rec : LogRecord) (parts : PartsView) (rel : RelName) (block : ℕ) → (IsKind rec → ⊥) → is_kind (operation_in rec) ≡ false
    → ((main : List ℕ) → named_by_fields (operation_in rec) main ≡ Some []) → SaidBy rec parts rel block → TouchesBy rec parts rel block
by_none rec parts rel block k none nothing s =
    elim s.either [
      | inl e ↦ with_references rec parts rel block (inr (k, plain (is_special rec) (is_kind (operation_in rec)) none s.counts)) e
      | inr e ↦ absurd (none_said (covers rel block) s.more (sym (nothing (main_bytes rec.body parts)) ∙ s.is) e)
    ]

by_shape : (rec : LogRecord) (parts : PartsView) (rel : RelName) (block : ℕ) (op : Operation) → operation_in rec ≡ op → Shape rec op → SaidBy rec parts rel block → TouchesBy rec parts rel block
by_shape rec parts rel block op same (Made k e) s = by_create rec parts rel block k (same ∙ e) s
by_shape rec parts rel block op same (Cut k e) s = by_truncate rec parts rel block k (same ∙ e) s
by_shape rec parts rel block op same (Ended outcome prepared k e) s = by_end rec parts rel block outcome prepared k (same ∙ e) s
by_shape rec parts rel block op same (Copied k e) s =
    let f = copy_found (main_bytes rec.body parts) s.more (fields_are rec _ (of.Database database.CreateFileCopy) (Some s.more) (same ∙ e) s.is) in
    by_database rec parts rel block (inl (k, f.0)) s f.1
by_shape rec parts rel block op same (Logged k e) s =
    let f = log_found (main_bytes rec.body parts) s.more (fields_are rec _ (of.Database database.CreateWalLog) (Some s.more) (same ∙ e) s.is) in
    by_database rec parts rel block (inr (inl (k, f.0))) s f.1
by_shape rec parts rel block op same (Gone k e) s =
    let f = drop_found (main_bytes rec.body parts) s.more (fields_are rec _ (of.Database database.Drop) (Some s.more) (same ∙ e) s.is) in
    by_database rec parts rel block (inr (inr (k, f.0))) s f.1
by_shape rec parts rel block op same (Other k none nothing) s =
    by_none rec parts rel block k (ap is_kind same ∙ none) (λ main. ap (λ o. named_by_fields o main) same ∙ nothing main) s

-- ---- and back

-- a record of a kind is known whatever its bits are
kind_known : (special known : Bool) → known ≡ true → (special && not known) ≡ false
kind_known true true k = refl
kind_known true false k = absurd cc
kind_known false known k = refl

none_known : (special known : Bool) → special ≡ false → (special && not known) ≡ false
none_known true known k = absurd cc
none_known false known k = refl

-- a record that counts, what its fields name, and that some of its names is the block's
said_of : (rec : LogRecord) (parts : PartsView) (rel : RelName) (block : ℕ) (op : Operation) (more : List Named) → operation_in rec ≡ op → is_kind op ≡ true
    → named_by_fields op (main_bytes rec.body parts) ≡ Some more
    → (list_any (covers rel block) (named_by_references parts.blocks) ≡ true) ⊎ (list_any (covers rel block) more ≡ true) → SaidBy rec parts rel block
said_of rec parts rel block op more same k f e =
    record { counts = kind_known (is_special rec) _ (ap is_kind same ∙ k); more = more; is = ap (λ o. named_by_fields o (main_bytes rec.body parts)) same ∙ f; either = e }

create_said : (rec : LogRecord) (parts : PartsView) (rel named : RelName) (block : ℕ) → Creates rec (main_bytes rec.body parts) named
    → (list_any (covers rel block) (named_by_references parts.blocks) ≡ true) ⊎ (list_any (covers rel block) (whole_rel named) ≡ true) → SaidBy rec parts rel block
create_said rec parts rel named block h e =
    said_of rec parts rel block (of.Storage storage.Create) (whole_rel named) (storage_is rec 0x10 h.kind) refl
    (create_again _ h.whole h.fork ∙ ap (λ r. Some (whole_rel r)) h.named) e

truncate_said : (rec : LogRecord) (parts : PartsView) (rel named : RelName) (block from flags : ℕ) → Truncates rec (main_bytes rec.body parts) named from flags
    → (list_any (covers rel block) (named_by_references parts.blocks) ≡ true) ⊎ (list_any (covers rel block) (cond (has_bits flags 1) (BlocksFrom named from ∷ []) []) ≡ true)
    → SaidBy rec parts rel block
truncate_said rec parts rel named block from flags h e =
    said_of rec parts rel block (of.Storage storage.Truncate) _ (storage_is rec 0x20 h.kind) refl
    (cut_again _ h.whole ∙ ap (λ r. Some (cond (has_bits (u32_at 16 (main_bytes rec.body parts)) 1) (BlocksFrom r (u32_at 0 (main_bytes rec.body parts)) ∷ []) [])) h.named
    ∙ ap (λ b. Some (cond (has_bits (u32_at 16 (main_bytes rec.body parts)) 1) (BlocksFrom named b ∷ []) [])) h.from
    ∙ ap (λ f. Some (cond (has_bits f 1) (BlocksFrom named from ∷ []) [])) h.flags) e

end_said : (rec : LogRecord) (parts : PartsView) (rel : RelName) (block : ℕ) (outcome : Outcome) (end : TransactionEnd) → Ends rec (main_bytes rec.body parts) outcome end
    → (list_any (covers rel block) (named_by_references parts.blocks) ≡ true) ⊎ (list_any (covers rel block) (flat_map whole_rel end.dropped) ≡ true) → SaidBy rec parts rel block
end_said rec parts rel block outcome end h e =
    let op = end_is rec outcome h.kind in
    said_of rec parts rel block (of.Transaction (transaction.End outcome op.0 (has_flags rec))) (flat_map whole_rel end.dropped) op.1 refl
    (end_again outcome op.0 (has_flags rec) _ end h.fields) e

database_said : (rec : LogRecord) (parts : PartsView) (rel : RelName) (block : ℕ) → IsMadeOrDropped rec (main_bytes rec.body parts)
    → (list_any (covers rel block) (named_by_references parts.blocks) ≡ true) ⊎ (list_any (covers rel block) (all_of_first (main_bytes rec.body parts)) ≡ true) → SaidBy rec parts rel block
database_said rec parts rel block (inl h) e =
    said_of rec parts rel block (of.Database database.CreateFileCopy) _ (database_is rec 0x00 h.0) refl (copy_again _ h.1) e
database_said rec parts rel block (inr (inl h)) e =
    said_of rec parts rel block (of.Database database.CreateWalLog) _ (database_is rec 0x10 h.0) refl (log_again _ h.1) e
database_said rec parts rel block (inr (inr h)) e =
    said_of rec parts rel block (of.Database database.Drop) _ (database_is rec 0x20 h.0) refl (drop_again _ h.1) e

-- a record that counts, of which a reference names the block
references_said : (rec : LogRecord) (parts : PartsView) (rel : RelName) (block : ℕ) → Counts rec (main_bytes rec.body parts)
    → list_any (covers rel block) (named_by_references parts.blocks) ≡ true → SaidBy rec parts rel block
references_said rec parts rel block (inl (inl (named, h))) e = create_said rec parts rel named block h (inl e)
references_said rec parts rel block (inl (inr (inl (named, from, flags, h)))) e = truncate_said rec parts rel named block from flags h (inl e)
references_said rec parts rel block (inl (inr (inr (inl (outcome, end, h))))) e = end_said rec parts rel block outcome end h (inl e)
references_said rec parts rel block (inl (inr (inr (inr (database, h))))) e = database_said rec parts rel block h.fields (inl e)
references_said rec parts rel block (inr (k, bit)) e = none_said_of (operation_in rec) (shape_of rec) refl
  where
    none_said_of : (op : Operation) → Shape rec op → operation_in rec ≡ op → SaidBy rec parts rel block
    none_said_of op (Made h f) same = absurd (k (inl (inl h)))
    none_said_of op (Cut h f) same = absurd (k (inl (inr h)))
    none_said_of op (Ended outcome prepared h f) same = absurd (k (inr (inr (end_kind rec outcome h))))
    none_said_of op (Copied h f) same = absurd (k (inr (inl (inl h))))
    none_said_of op (Logged h f) same = absurd (k (inr (inl (inr (inl h)))))
    none_said_of op (Gone h f) same = absurd (k (inr (inl (inr (inr h)))))
    none_said_of op (Other h none nothing) same =
        record { counts = none_known (is_special rec) _ bit; more = []; is = ap (λ o. named_by_fields o (main_bytes rec.body parts)) same ∙ nothing (main_bytes rec.body parts); either = inl e }

by_layout : (rec : LogRecord) (parts : PartsView) (rel : RelName) (block : ℕ) → TouchesBy rec parts rel block → SaidBy rec parts rel block
by_layout rec parts rel block (inl h) = references_said rec parts rel block h.0 ((references_view rel block parts).1 h.1)
by_layout rec parts rel block (inr (inl h)) =
    truncate_said rec parts rel rel block h.from h.flags h.cut (inr (rw h.heap (from_again rel rel block h.from refl h.behind)))
by_layout rec parts rel block (inr (inr (inl h))) = create_said rec parts rel rel block h (inr (whole_again rel rel block refl))
by_layout rec parts rel block (inr (inr (inr (inl h)))) =
    end_said rec parts rel block h.outcome h.end h.ends (inr ((dropped_view rel block h.end.dropped).1 h.dropped))
by_layout rec parts rel block (inr (inr (inr (inr h)))) = database_said rec parts rel block h.fields (inr (all_again rel block _ h.named))

-- ---- the two views

names_view : (rec : LogRecord) (parts : PartsView) (rel : RelName) (block : ℕ) → (list_any (covers rel block) (names_or_none (names_of rec parts)) ≡ true) ↔ TouchesBy rec parts rel block
names_view rec parts rel block = (
  λ e. by_shape rec parts rel block (operation_in rec) refl (shape_of rec) (said (covers rel block) rec _ _ _ e),
  λ h. say (covers rel block) rec _ _ _ (by_layout rec parts rel block h),
)

pub block_view : (rec : LogRecord) (rel : RelName) (block : ℕ) → (names_block rec rel block ≡ true) ↔ TouchesBlock rec rel block
block_view rec rel block = (by (parts_of rec.body) refl, λ h. again h)
  where
    by : (r : Result PartsView Flaw) → parts_of rec.body ≡ r → list_any (covers rel block) (names_in rec (told (start_of rec) r)) ≡ true → TouchesBlock rec rel block
    by (Err d) is e = absurd cc
    by (Ok parts) is e = record { parts = parts; spelled = has_parts rec.body parts is; touches = (names_view rec parts rel block).0 e }

    again : TouchesBlock rec rel block → names_block rec rel block ≡ true
    again h = rw (parts_are rec.body h.parts h.spelled) ((names_view rec h.parts rel block).1 h.touches)

pub records_view : (records : List LogRecord) (rel : RelName) (block : ℕ) → (touches records rel block ≡ true) ↔ Touches records rel block
records_view records rel block = any_view (λ rec. names_block rec rel block) (λ rec. TouchesBlock rec rel block) records (λ rec. block_view rec rel block)

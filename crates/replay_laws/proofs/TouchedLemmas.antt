-- What a record touches it has an effect on.
use Rattle.std.proofs.Common.{Option, ◌≡◌, ◌≢◌, ◌∙◌, ℕ, zero, suc, ◌/◌, ◌%◌, ◌*◌, ◌==◌, ◌&&◌, ◌||◌, nat_le, Bool, true, false, List, [], ◌∷◌, None, Some, inl, inr, refl, ap, ap₂, sym, subst, true≢false, arith}
use Rattle.std.specs.Prelude.{bit_and, is_some}
use Rattle.std.specs.List.{AllByRecursion, list_any, slice_get}
use Rattle.std.specs.Option.{option_map_or}
use Rattle.std.proofs.lemmas.Bool.{and_right}
use Rattle.std.proofs.lemmas.Bool.Decides.{nat_tests}
use Rattle.std.proofs.lemmas.Nat.Bits.{and_pow}
use Rattle.rmgr_hooks.specs.Custom.{Extension}
use Rattle.block_effects.specs.Effects.{applied, is_left}
use Rattle.block_effects.specs.Gone.{gone_by, gone_by_database, gone_by_end, gone_by_storage, is_cut, is_dropped, is_gone, is_in_dropped, is_main}
use Rattle.block_refs.specs.Bits.{has_bits}
use Rattle.block_refs.specs.Bytes.{main_bytes}
use Rattle.block_refs.specs.Parts.{PartsView}
use Rattle.block_refs.specs.declared.names.BlockName.{BlockName}
use Rattle.block_refs.specs.declared.names.Fork.{Fork}
use Rattle.block_refs.specs.declared.names.RelName.{RelName}
use Rattle.block_refs.specs.declared.block_ref.BlockRef.{BlockRef}
use Rattle.block_refs.specs.declared.placed.Placed.{Placed}
use Rattle.block_replay.specs.Touched.{writes, writes_among, writes_at}
use Rattle.file_effects.specs.Effect.{effect_by_clog, effect_by_database, effect_by_multixact, effect_by_relmap, effect_by_storage, effect_by_transaction, effect_in, effect_of}
use Rattle.file_effects.specs.Touched.{is_among_dropped, is_behind_cut, takes_block}
use Rattle.layout_readers.specs.Rows.{AreBytes}
use Rattle.record_effects.specs.Acts.{act_on, IsDone, is_map, is_map_page, sets_map_bits}
use Rattle.record_effects.specs.Managers.{done_by, effect_on, rules_of}
use Rattle.record_effects.specs.declared.acts.Act.{Act}
use Rattle.record_effects.specs.declared.acts.Act.TheVariants as act
use Rattle.record_effects.proofs.ActLemmas.{acts_done}
use Rattle.record_layouts.specs.Clog.{clog_truncate_of, clog_zero_page_of}
use Rattle.record_layouts.specs.Database.{database_create_of, database_drop_of}
use Rattle.record_layouts.specs.End.{end_of}
use Rattle.record_layouts.specs.MultiXact.{multixact_truncate_of, multixact_zero_page_of}
use Rattle.record_layouts.specs.Operation.{operation_of}
use Rattle.record_layouts.specs.Storage.{storage_create_of, storage_truncate_of}
use Rattle.record_layouts.specs.declared.clog.ClogOp.{ClogOp}
use Rattle.record_layouts.specs.declared.clog.ClogOp.TheVariants as clog
use Rattle.record_layouts.specs.declared.database.DatabaseOp.{DatabaseOp}
use Rattle.record_layouts.specs.declared.database.DatabaseOp.TheVariants as database
use Rattle.record_layouts.specs.declared.multixact.MultiXactOp.{MultiXactOp}
use Rattle.record_layouts.specs.declared.multixact.MultiXactOp.TheVariants as multixact
use Rattle.record_layouts.specs.declared.operation.Operation.{Operation}
use Rattle.record_layouts.specs.declared.operation.Operation.TheVariants as op
use Rattle.record_layouts.specs.declared.relmap.RelMapOp.{RelMapOp}
use Rattle.record_layouts.specs.declared.relmap.RelMapOp.TheVariants as relmap
use Rattle.record_layouts.specs.declared.storage.StorageOp.{StorageOp}
use Rattle.record_layouts.specs.declared.storage.StorageOp.TheVariants as storage
use Rattle.record_layouts.specs.declared.storage.StorageTruncate.{StorageTruncate}
use Rattle.record_layouts.specs.declared.transaction.TransactionOp.{TransactionOp}
use Rattle.record_layouts.specs.declared.transaction.TransactionOp.TheVariants as transaction
use Rattle.replay_law.specs.Effect.{Effect, Nothing, Change, Gone}
use Rattle.replay_profile.specs.Fields.{takes_database, takes_fields, takes_storage, takes_transaction}
use Rattle.replay_profile.specs.Names.{is_rel}
use Rattle.replay_world.specs.Touched.{touched_by, touches}
use Rattle.storage_laws.specs.FileLaws.{IsProper}
use Rattle.storage_laws.specs.Names.{is_in_database, same_block}
use Rattle.storage_laws.proofs.NumberLemmas.{by_test}
use Rattle.storage_replay.specs.Changes.{cuts_main}
use Rattle.wal_records.specs.Reading.{LogRecord}
use Rattle.replay_laws.specs.Held.{IsMainBlock}
use Rattle.replay_laws.specs.Log.{AreTaken, IsTaken, steps}
use Rattle.replay_laws.specs.Touched.{HaveNoEffect, StartTouchesByEffect}
use Rattle.replay_laws.proofs.BlockLemmas.{no_map_page, none_so}
use Rattle.replay_laws.proofs.CheckedLemmas.{start-taken}
use Rattle.replay_laws.proofs.FieldLemmas.{IsKnown, cut-known, drop-known, end-known}
use Rattle.replay_laws.proofs.LogLemmas.{first-taken}
use Rattle.replay_laws.proofs.NameLemmas.{AreOwn, block-same, name-is, rel-same}
use Rattle.replay_laws.proofs.ReadLemmas.{still-bytes}
use Rattle.replay_laws.proofs.RecordLemmas.{taken-read}

-- what a record's effect on files takes is gone

module _ (name : BlockName) (is : IsMainBlock name) where
  dropped_is : (rels : List RelName) → AllByRecursion IsKnown rels → is_among_dropped rels name ≡ list_any (λ rel. is_rel rel name.rel) rels
  dropped_is [] known = refl
  dropped_is (rel ∷ rels) known = ap₂ (λ a b. a || b) (rel-same rel name.rel known.0.proper is.proper) (dropped_is rels known.1)

  flag_one : (flags : ℕ) → cuts_main flags ≡ has_bits flags 1
  flag_one flags = let e : bit_and flags 1 ≡ flags / 1 % 2 * 1 = and_pow flags 0 in grind (arith, nat_tests, e)

  cut_tests : (cuts same late : Bool) → (cuts && (same && true && late)) ≡ (cuts && true && same && late)
  cut_tests true true late = refl
  cut_tests true false late = refl
  cut_tests false same late = refl

  cut_is : (cut : StorageTruncate) → IsProper cut.rel → is_behind_cut cut.rel cut.blocks cut.flags name ≡ is_cut name cut
  cut_is cut proper = rw (is.main, rel-same cut.rel name.rel proper is.proper, flag_one cut.flags) (cut_tests (has_bits cut.flags 1) (is_rel cut.rel name.rel) (nat_le cut.blocks name.block))

  database_is : (database : ℕ) (rel : RelName) → database ≢ 0 → IsProper rel → is_in_database database rel ≡ (database == rel.database)
  database_is database rel numbered (inl p) = grind (arith, nat_tests, p.0, p.1, numbered)
  database_is database rel numbered (inr p) = grind (arith, nat_tests, p.0, p.1, numbered)

  said_is : {A E : Type 0} (taken : E → Bool) (says : A → E) (nothing : E) (test : A → Bool) (fields : Option A) → taken nothing ≡ false → ((value : A) → fields ≡ Some value → taken (says value) ≡ test value)
      → taken (option_map_or says fields nothing) ≡ option_map_or test fields false
  said_is taken says nothing test None none each = none
  said_is taken says nothing test (Some value) none each = each value refl

  said_none : {A E : Type 0} (taken : E → Bool) (says : A → E) (nothing : E) (fields : Option A) → taken nothing ≡ false → ((value : A) → taken (says value) ≡ false) → taken (option_map_or says fields nothing) ≡ false
  said_none taken says nothing None none each = none
  said_none taken says nothing (Some value) none each = each value

  module _ (main : List ℕ) (are : AreBytes main) where
    transaction_is : (o : TransactionOp) → takes_transaction o main ≡ true → takes_block (effect_by_transaction o main) name ≡ gone_by_end o main name
    transaction_is (transaction.End outcome prepared has_xinfo) takes =
        said_is (λ e. takes_block e name) _ _ (is_dropped name) (end_of outcome has_xinfo main) refl (λ end read. dropped_is end.dropped (end-known outcome has_xinfo main end are takes read))
    transaction_is _ takes = refl

    storage_is : (o : StorageOp) → takes_storage o main ≡ true → takes_block (effect_by_storage o main) name ≡ gone_by_storage o main name
    storage_is storage.Create takes = said_none (λ e. takes_block e name) _ _ (storage_create_of main) refl (λ new. refl)
    storage_is storage.Truncate takes = said_is (λ e. takes_block e name) _ _ (is_cut name) (storage_truncate_of main) refl (λ cut read. cut_is cut (cut-known main cut are takes read).rel.proper)
    storage_is (storage.Unlisted number) takes = refl

    drop_is : (o : DatabaseOp) → takes_database o main ≡ true → takes_block (effect_by_database o main) name ≡ gone_by_database o main name
    drop_is database.CreateWalLog takes = said_none (λ e. takes_block e name) _ _ (database_create_of main) refl (λ new. refl)
    drop_is database.Drop takes = said_is (λ e. takes_block e name) _ _ (is_in_dropped name) (database_drop_of main) refl (λ gone read. database_is gone.database name.rel (drop-known main gone are takes read).some is.proper)
    drop_is _ takes = refl

    clog_is : (o : ClogOp) → takes_block (effect_by_clog o main) name ≡ false
    clog_is clog.ZeroPage = said_none (λ e. takes_block e name) _ _ (clog_zero_page_of main) refl (λ zero. refl)
    clog_is clog.Truncate = said_none (λ e. takes_block e name) _ _ (clog_truncate_of main) refl (λ cut. refl)
    clog_is (clog.Unlisted number) = refl

    multixact_is : (o : MultiXactOp) → takes_block (effect_by_multixact o main) name ≡ false
    multixact_is multixact.ZeroOffsetsPage = said_none (λ e. takes_block e name) _ _ (multixact_zero_page_of main) refl (λ zero. refl)
    multixact_is multixact.ZeroMembersPage = said_none (λ e. takes_block e name) _ _ (multixact_zero_page_of main) refl (λ zero. refl)
    multixact_is multixact.CreateId = refl
    multixact_is multixact.TruncateId = said_none (λ e. takes_block e name) _ _ (multixact_truncate_of main) refl (λ cut. refl)
    multixact_is (multixact.Unlisted number) = refl

    relmap_is : (o : RelMapOp) → takes_block (effect_by_relmap o) name ≡ false
    relmap_is relmap.Update = refl
    relmap_is (relmap.Unlisted number) = refl

    op_is : (o : Operation) → takes_fields o main ≡ true → takes_block (effect_of o main) name ≡ gone_by o main name
    unfolding effect_of
    op_is (op.Transaction o) takes = transaction_is o takes
    op_is (op.Storage o) takes = storage_is o takes
    op_is (op.Database o) takes = drop_is o takes
    op_is (op.Clog o) takes = clog_is o
    op_is (op.MultiXact o) takes = multixact_is o
    op_is (op.RelMap o) takes = relmap_is o
    op_is _ takes = refl

-- what is written at a reference has an effect

abbrev does : Effect → Bool
does Nothing = false
does _ = true

module _ (custom : Option Extension) (rec : LogRecord) (parts : PartsView) (name : BlockName) (is : IsMainBlock name) (none : effect_on custom rec parts name ≡ Nothing) where
  kept : is_gone rec parts name ≡ false
  kept = by_test (is_gone rec parts name) (λ gone. absurd (true≢false (ap does (rw gone at none)))) (λ stays. stays)

  -- at a reference to a page of a main fork no bits of the map are set
  no_map : (block : BlockRef) → block.name ≡ name → act_on custom rec parts block ≡ act.MapPage → ⊥
  no_map block same chosen =
      no_map_page (is_gone rec parts block.name) (is_left block.name.fork) (is_some (applied block.image)) (is_main block.name.fork && (rules_of custom rec).acts rec parts block.id) ((rules_of custom rec).fresh rec parts block.id) (is_map_page rec block)
      (ap (λ (f : Fork). sets_map_bits (done_by rec) && block.id == 0 && is_map f) (ap (λ (n : BlockName). n.fork) same ∙ is.main) ∙ none_so (sets_map_bits (done_by rec)) (block.id == 0)) chosen

  acts : (block : BlockRef) → block.name ≡ name → (a : Act) → act_on custom rec parts block ≡ a → IsDone custom rec parts block.id a (effect_on custom rec parts name) → writes a ≡ false
  acts block same act.Nothing chosen done = refl
  acts block same act.Gone chosen done = refl
  acts block same act.Image chosen done = absurd (true≢false (sym (ap does done.2) ∙ ap does none))
  acts block same act.Make chosen done = absurd (true≢false (sym (ap does done) ∙ ap does none))
  acts block same act.Change chosen done = absurd (true≢false (sym (ap does done) ∙ ap does none))
  acts block same act.MapPage chosen done = absurd (no_map block same chosen)

  one_free : (placed : Placed) → IsProper placed.block.name.rel → IsDone custom rec parts placed.block.id (act_on custom rec parts placed.block) (effect_on custom rec parts placed.block.name) → writes_at custom rec parts placed.block name ≡ false
  one_free placed proper done = by_test (same_block placed.block.name name)
      (λ so.
      let same : placed.block.name ≡ name = name-is placed.block.name name (sym (block-same placed.block.name name proper is.proper) ∙ so) in
      ap (λ b. b && same_block placed.block.name name) (acts placed.block same (act_on custom rec parts placed.block) refl (subst (λ n. IsDone custom rec parts placed.block.id (act_on custom rec parts placed.block) (effect_on custom rec parts n)) same done)))
      (λ else_so. ap (λ b. writes (act_on custom rec parts placed.block) && b) else_so ∙ and_right (writes (act_on custom rec parts placed.block)) false refl)

  all_free : (blocks : List Placed) → ((at : ℕ) (placed : Placed) → slice_get blocks at ≡ Some placed → writes_at custom rec parts placed.block name ≡ false) → writes_among custom rec parts blocks name ≡ false
  all_free [] each = refl
  all_free (placed ∷ more) each = ap (λ b. b || writes_among custom rec parts more name) (each zero placed refl) ∙ all_free more (λ at other there. each (suc at) other there)

proper_at : (blocks : List Placed) (at : ℕ) (placed : Placed) → AreOwn blocks → slice_get blocks at ≡ Some placed → IsProper placed.block.name.rel
proper_at [] zero placed own there = absurd cc
proper_at [] (suc at) placed own there = absurd cc
proper_at (first ∷ more) zero placed own there = let same : first ≡ placed = cc in subst (λ (p : Placed). IsProper p.block.name.rel) same own.0.proper
proper_at (first ∷ more) (suc at) placed own there = proper_at more at placed own.1 there

pub touches-effect : (custom : Option Extension) (rec : LogRecord) (parts : PartsView) (name : BlockName) → IsTaken custom rec parts → IsMainBlock name → effect_on custom rec parts name ≡ Nothing → touches custom rec parts name ≡ false
touches-effect custom rec parts name taken is none =
    let read = taken-read custom rec parts taken in
    let written = all_free custom rec parts name is none parts.blocks
    (λ at placed there. one_free custom rec parts name is none placed (proper_at parts.blocks at placed read.own there) (acts_done custom rec parts at placed read.of_rec read.known there)) in
    let gone : takes_block (effect_in rec parts) name ≡ false
    = op_is name is (main_bytes rec.body parts) (still-bytes parts.main rec.body taken.bytes) (operation_of rec.header.manager rec.header.info) read.fields ∙ kept custom rec parts name is none in
    ap₂ (λ a b. a || b) written gone

pub log-touches : (custom : Option Extension) (start : ℕ) (records : List LogRecord) (name : BlockName) → AreTaken custom start records → IsMainBlock name → HaveNoEffect (steps custom name records) → touched_by custom records name ≡ false
log-touches custom start [] name are is none = refl
log-touches custom start (rec ∷ records) name are is none =
    let taken = first-taken custom start rec records are in
    ap₂ (λ a b. a || b) (touches-effect custom rec _ name taken.0 is none.0) (log-touches custom rec.end records name taken.1 is none.1)

pub start-touches : StartTouchesByEffect
start-touches custom c root start name bytes is main none = log-touches custom start.label.start.0 start.records name (start-taken custom c root start bytes is) main none

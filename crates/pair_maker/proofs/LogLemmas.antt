-- The logs of a pair, record by record.
use Rattle.std.proofs.Common.{◌≡◌, ℕ, ◌+◌, true, false, cond, List, [], ◌∷◌, ◌++◌, filter, map, None, Some, OnOk, Result, Ok, Err, refl, ap, sym, ◌∙◌, zero-add}
use Rattle.std.proofs.lemmas.List.{append-nil, map-append, map-id}
use Rattle.std.proofs.lemmas.List.FromFn.{filter_of_map_range_with_len_more}
use Rattle.std.specs.List.{range_with_len}
use Rattle.reset_plan.specs.NewSegment.{checkpoint_record}
use Rattle.wal_records.specs.Place.{place_at}
use Rattle.wal_records.specs.Writer.{NewRecord, Written, begun, written}
use Rattle.wal_records.specs.declared.log_origin.LogOrigin.{LogOrigin}
use Rattle.pair_maker.specs.Inserts.{insert_blocks, insert_record, inserts_into}
use Rattle.pair_maker.specs.Logs.{block_end, common_checkpoint, last_checkpoint, last_place, log_upto, origin_of, records_of, records_upto}
use Rattle.pair_maker.specs.declared.side.Side.{Side}

-- an append, as its writer tells it
abbrev pub Appends : Written → Written → NewRecord → Type 0
Appends old new r = (origin : LogOrigin) (records : List NewRecord) → old ≡ written origin records → new ≡ written origin (records ++ r ∷ [])

pub ok-as : {P Q E : Type 0} (r : Result (Unit {0}) E) → (P → Q) → OnOk r P → OnOk r Q
ok-as (Ok u) f p = f p
ok-as (Err e) f p = tt

pub no_records : (o : LogOrigin) → begun o ≡ written o []
unfolding written
no_records o = refl

blocks-more : (side : Side) (seed block : ℕ) → insert_blocks side seed (block + 1) ≡ insert_blocks side seed block ++ cond (inserts_into side seed block) (block ∷ []) []
blocks-more side seed block =
    ap (filter (inserts_into side seed)) (sym (map-id (range_with_len 0 (block + 1))))
    ∙ filter_of_map_range_with_len_more (inserts_into side seed) (λ b. b) 0 block block (zero-add block)
    ∙ ap (λ l. filter (inserts_into side seed) l ++ cond (inserts_into side seed block) (block ∷ []) []) (map-id (range_with_len 0 block))

records-more : (side : Side) (seed block : ℕ) → inserts_into side seed block ≡ true → records_upto side seed (block + 1) ≡ records_upto side seed block ++ insert_record seed block ∷ []
records-more side seed block inserts =
    ap (λ l. checkpoint_record common_checkpoint ∷ map (insert_record seed) l) (blocks-more side seed block ∙ ap (λ b. insert_blocks side seed block ++ cond b (block ∷ []) []) inserts)
    ∙ ap (λ l. checkpoint_record common_checkpoint ∷ l) (map-append (insert_record seed) (insert_blocks side seed block) (block ∷ []))

records-same : (side : Side) (seed block : ℕ) → inserts_into side seed block ≡ false → records_upto side seed (block + 1) ≡ records_upto side seed block
records-same side seed block none =
    ap (λ l. checkpoint_record common_checkpoint ∷ map (insert_record seed) l)
    (blocks-more side seed block ∙ ap (λ b. insert_blocks side seed block ++ cond b (block ∷ []) []) none ∙ append-nil (insert_blocks side seed block))

-- the log after a block that has an insert, and after one that has none
pub log-more : (side : Side) (seed block : ℕ) (old new : Written) → inserts_into side seed block ≡ true → old ≡ log_upto side seed block → Appends old new (insert_record seed block) → new ≡ log_upto side seed (block + 1)
unfolding log_upto
log-more side seed block old new inserts at more =
    more (origin_of side) (records_upto side seed block) at ∙ ap (written (origin_of side)) (sym (records-more side seed block inserts))

pub log-same : (side : Side) (seed block : ℕ) (old : Written) → inserts_into side seed block ≡ false → old ≡ log_upto side seed block → old ≡ log_upto side seed (block + 1)
unfolding log_upto
log-same side seed block old none at = at ∙ ap (written (origin_of side)) (sym (records-same side seed block none))

pub end-more : (side : Side) (seed block end : ℕ) (new : Written) → inserts_into side seed block ≡ true → new ≡ log_upto side seed (block + 1) → end ≡ new.end → Some end ≡ block_end side seed block
unfolding block_end
end-more side seed block end new inserts at is =
    ap Some (is ∙ ap (λ (w : Written). w.end) at) ∙ ap (λ b. cond b (Some (log_upto side seed (block + 1)).end) None) (sym inserts)

pub end-none : (side : Side) (seed block : ℕ) → inserts_into side seed block ≡ false → None ≡ block_end side seed block
unfolding block_end
end-none side seed block none = ap (λ b. cond b (Some (log_upto side seed (block + 1)).end) None) (sym none)

-- the log that has the common checkpoint alone
pub log-begun : (side : Side) (seed : ℕ) (w : Written) → w ≡ written (origin_of side) (checkpoint_record common_checkpoint ∷ []) → w ≡ log_upto side seed 0
unfolding log_upto
log-begun side seed w is = is

-- and the whole log
pub last-is : (side : Side) (seed blocks : ℕ) (old : Written) (last : ℕ) → old ≡ log_upto side seed blocks → last ≡ place_at 0x10_0000 old.end → last ≡ last_place side seed blocks
unfolding last_place
last-is side seed blocks old last at is = is ∙ ap (λ (w : Written). place_at 0x10_0000 w.end) at

pub log-whole : (side : Side) (seed blocks last : ℕ) (old new : Written) → old ≡ log_upto side seed blocks → last ≡ last_place side seed blocks → Appends old new (checkpoint_record (last_checkpoint side last)) → new ≡ written (origin_of side) (records_of side seed blocks)
unfolding log_upto
log-whole side seed blocks last old new at is more =
    more (origin_of side) (records_upto side seed blocks) at
    ∙ ap (λ n. written (origin_of side) (records_upto side seed blocks ++ checkpoint_record (last_checkpoint side n) ∷ [])) is

-- The life of each block of a pair in the source's log.
use Rattle.std.proofs.Common.{◌≡◌, ℕ, zero, suc, ◌+◌, ◌<◌, ◌≤◌, Bool, true, false, true≢false, cond, List, [], ◌∷◌, ◌++◌, map, Option, None, Some, Ok, inl, inr, lit<, lit≤, refl, ap, sym, ◌∙◌, subst, arith, filter, ◌-◌}
use Rattle.std.specs.List.{AllByRecursion, fold, range_with_len, slice_get}
use Rattle.block_effects.specs.Lives.{IsLife}
use Rattle.block_refs.specs.declared.names.BlockName.{BlockName}
use Rattle.heap_replay.specs.Operation.{heap_operation}
use Rattle.page_layout.specs.Lsn.{lsn, with_lsn}
use Rattle.page_masks.specs.Law.{Redone, set_lsn_of, stamped, view}
use Rattle.record_effects.specs.Managers.{effect_on, rules_of}
use Rattle.replay_law.specs.Effect.{At, Change}
use Rattle.replay_law.specs.Premises.{IsNoNewer, IsState, RunsOn}
use Rattle.replay_law.specs.Stage.{Fits, Matches, made_or, stage}
use Rattle.replay_laws.specs.Held.{IsMainBlock}
use Rattle.replay_laws.specs.Log.{split_of, steps}
use Rattle.replay_laws.specs.Refusals.{LacksLayout}
use Rattle.reset_plan.specs.NewSegment.{checkpoint_record}
use Rattle.wal_base.specs.Segment.{bytes_of}
use Rattle.wal_records.specs.Again.{IsNew, log_records, new_log_record}
use Rattle.wal_records.specs.Place.{place_at}
use Rattle.wal_records.specs.Reading.{LogRecord}
use Rattle.wal_records.specs.Sound.{AllNew}
use Rattle.wal_records.specs.Writer.{NewRecord, Written, appended, begun, end_from, written}
use Rattle.wal_records.proofs.AppendLemmas.{written_more}
use Rattle.wal_records.proofs.NextLemmas.{grown_end}
use Rattle.pair_maker.proofs.LogLemmas.{log-more}
use Rattle.pair_maker.specs.Blocks.{block_page}
use Rattle.pair_maker.specs.Inserts.{insert_blocks, insert_record, inserts_into}
use Rattle.pair_maker.specs.Logs.{block_end, common_checkpoint, common_place, last_checkpoint, last_place, log_upto, origin_of, records_of, records_upto}
use Rattle.pair_maker.specs.declared.side.Side.{Side}
use Rattle.pair_maker.specs.declared.side.Side.TheVariants.{Source}
use Rattle.pair_laws.specs.Life.{PairLives, PairSaysEnough, base_of, page_of, side_records}
use Rattle.pair_laws.proofs.BlocksLemmas.{Misses, absent-other, all-miss, is_there, later_blocks, later_records, number-other, records-split, there-below, there-own}
use Rattle.pair_laws.proofs.EffectLemmas.{IsIdle, IsWhole, checkpoint-idle, checkpoint-whole, common-is, insert-does, insert-idle, insert-operation, insert-whole, insert_parts, last-is}
use Rattle.pair_laws.proofs.NearLemmas.{grown}
use Rattle.pair_laws.proofs.PageLemmas.{blank, blank-lsn, blank-page, blank-sound, put-blank, put-same, redo-blank}
use Rattle.pair_laws.proofs.RecordLemmas.{given_in}
use Rattle.pair_laws.proofs.RunLemmas.{new-back}
use Rattle.pair_laws.proofs.SmallLemmas.{all_few, all_small, begun_starts, last_low}
use Rattle.pair_laws.proofs.StepsLemmas.{all-idle, all-split, as-given, behind, idle_steps, runs-around, runs-idle, stage-around, steps-around, steps-rise}

-- ---- lists of records

all-both : {A : Type 0} (P : A → Type 0) (xs ys : List A) → AllByRecursion P xs → AllByRecursion P ys → AllByRecursion P (xs ++ ys)
all-both P [] ys a b = b
all-both P (x ∷ xs) ys a b = (a.0, all-both P xs ys a.1 b)

all-get : {A : Type 0} (P : A → Type 0) (xs : List A) (at : ℕ) (x : A) → AllByRecursion P xs → slice_get xs at ≡ Some x → P x
all-get P [] at x all is = cc is
all-get P (y ∷ ys) zero x all is = let same : y ≡ x = cc is in subst P same all.0
all-get P (y ∷ ys) (suc at) x all is = all-get P ys at x all.1 is

inserts-idle : (seed : ℕ) (name : BlockName) (blocks : List ℕ) → AllByRecursion (Misses name) blocks → AllByRecursion (IsIdle name) (map (insert_record seed) blocks)
inserts-idle seed name [] miss = tt
inserts-idle seed name (b ∷ blocks) miss = (insert-idle seed b name miss.0.low miss.0.other, inserts-idle seed name blocks miss.1)

idle-whole : (name : BlockName) (ns : List NewRecord) → AllByRecursion (IsIdle name) ns → AllByRecursion IsWhole ns
idle-whole name [] idle = tt
idle-whole name (n ∷ ns) idle = (idle.0.whole, idle-whole name ns idle.1)

-- the first records of a log, and the last one
upto-idle : (side : Side) (seed blocks : ℕ) (name : BlockName) → AllByRecursion (Misses name) (insert_blocks side seed blocks) → AllByRecursion (IsIdle name) (records_upto side seed blocks)
upto-idle side seed blocks name miss = (checkpoint-idle common_checkpoint name common-is, inserts-idle seed name (insert_blocks side seed blocks) miss)

last-idle : (side : Side) (seed blocks : ℕ) (name : BlockName) → blocks ≤ 4096 → AllByRecursion (IsIdle name) (checkpoint_record (last_checkpoint side (last_place side seed blocks)) ∷ [])
last-idle side seed blocks name few = (checkpoint-idle (last_checkpoint side (last_place side seed blocks)) name (last-is side (last_place side seed blocks) (last_low side seed blocks few)), tt)

pub all-new : (side : Side) (seed blocks : ℕ) → blocks ≤ 4096 → AllNew (begun (origin_of side)) (records_of side seed blocks)
all-new side seed blocks few =
    (grown (records_of side seed blocks) (begun (origin_of side)) (all_small side seed blocks few) (begun_starts side) (lit< tt) (omega (arith, all_few side seed blocks, few))).each

-- ---- states

blank-is : block_page 0 0 None ≡ blank
unfolding block_page
blank-is = refl

blank-also : (seed block : ℕ) → block_page seed block None ≡ blank
unfolding block_page
blank-also seed block = refl

base-there : (blocks : ℕ) (name : BlockName) → is_there blocks name ≡ true → base_of blocks name ≡ Some blank
base-there blocks name e = ap (λ t. cond t (Some (block_page 0 0 None)) None) e ∙ ap Some blank-is

base-absent : (blocks : ℕ) (name : BlockName) → is_there blocks name ≡ false → base_of blocks name ≡ None
base-absent blocks name e = ap (λ t. cond t (Some (block_page 0 0 None)) None) e

page-absent : (side : Side) (seed blocks : ℕ) (name : BlockName) → is_there blocks name ≡ false → page_of side seed blocks name ≡ None
page-absent side seed blocks name e = ap (λ t. cond t (Some (block_page seed name.block (block_end side seed name.block))) None) e

page-there : (side : Side) (seed blocks : ℕ) (name : BlockName) → is_there blocks name ≡ true → page_of side seed blocks name ≡ Some (block_page seed name.block (block_end side seed name.block))
page-there side seed blocks name e = ap (λ t. cond t (Some (block_page seed name.block (block_end side seed name.block))) None) e

end-none : (side : Side) (seed block : ℕ) → inserts_into side seed block ≡ false → block_end side seed block ≡ None
unfolding block_end
end-none side seed block e = ap (λ t. cond t (Some (log_upto side seed (block + 1)).end) None) e

end-some : (side : Side) (seed block : ℕ) → inserts_into side seed block ≡ true → block_end side seed block ≡ Some (log_upto side seed (block + 1)).end
unfolding block_end
end-some side seed block e = ap (λ t. cond t (Some (log_upto side seed (block + 1)).end) None) e

blank-old : lsn blank ≤ common_place
blank-old = omega (arith, blank-lsn)

-- ---- the life of a block, by how the log meets it

module _ (seed blocks : ℕ) (name : BlockName) (few : blocks ≤ 4096) where
  abbrev first : Written
  first = begun (origin_of Source)

  abbrev records : List NewRecord
  records = records_of Source seed blocks

  abbrev Lives : Option (List ℕ) → Option (List ℕ) → Type 0
  Lives base state =
      IsLife (rules_of None) name common_place base (map split_of (side_records Source seed blocks))
      × Fits (view name.block) base state (steps None name (side_records Source seed blocks))

  life-as : (base : Option (List ℕ)) → AllByRecursion IsWhole records → IsState (view name.block) base → IsNoNewer (view name.block) common_place base
      → RunsOn (view name.block) base (steps None name (log_records first records)) → IsLife (rules_of None) name common_place base (map split_of (side_records Source seed blocks))
  life-as base whole page old runs = record {
    split = all-split records first (all-new Source seed blocks few) whole;
    rises = steps-rise name records first common_place (lit≤ tt);
    page = page;
    old = old;
    runs = runs;
  }

  -- where no record does something to it
  lives-idle : (base : Option (List ℕ)) → AllByRecursion (IsIdle name) records → IsState (view name.block) base → IsNoNewer (view name.block) common_place base
      → Matches (view name.block) base base → Lives base base
  lives-idle base idle page old same =
      let is : steps None name (log_records first records) ≡ idle_steps first records = all-idle name records first (all-new Source seed blocks few) idle in (
        life-as base (idle-whole name records idle) page old (subst (λ log. RunsOn (view name.block) base log) (sym is) (runs-idle (view name.block) base records first)),
        inl (zero, same),
      )

  all-miss-idle : AllByRecursion (Misses name) (insert_blocks Source seed blocks) → AllByRecursion (IsIdle name) records
  all-miss-idle miss =
      all-both (IsIdle name) (records_upto Source seed blocks) (checkpoint_record (last_checkpoint Source (last_place Source seed blocks)) ∷ [])
      (upto-idle Source seed blocks name miss) (last-idle Source seed blocks name few)

  absent : is_there blocks name ≡ false → Lives (base_of blocks name) (page_of Source seed blocks name)
  absent e =
      let miss = all-miss (inserts_into Source seed) name blocks 0 (omega (arith, few)) (λ b from to own. absent-other blocks name b (omega (arith, to)) e) in
      subst (λ base. Lives base (page_of Source seed blocks name)) (sym (base-absent blocks name e))
      (subst (λ state. Lives None state) (sym (page-absent Source seed blocks name e)) (lives-idle None (all-miss-idle miss) tt tt tt))

  kept : is_there blocks name ≡ true → inserts_into Source seed name.block ≡ false → Lives (base_of blocks name) (page_of Source seed blocks name)
  kept e none =
      let miss = all-miss (inserts_into Source seed) name blocks 0 (omega (arith, few)) (λ b from to own. number-other name b (λ same. true≢false (sym own ∙ ap (inserts_into Source seed) (sym same) ∙ none))) in
      let state : page_of Source seed blocks name ≡ Some blank =
      page-there Source seed blocks name e ∙ ap (λ end. Some (block_page seed name.block end)) (end-none Source seed name.block none) ∙ ap Some (blank-also seed name.block) in
      subst (λ base. Lives base (page_of Source seed blocks name)) (sym (base-there blocks name e))
      (subst (λ s. Lives (Some blank) s) (sym state) (lives-idle (Some blank) (all-miss-idle miss) (blank-page name.block) blank-old (record { lsn = refl; mask = refl })))

  -- where it is inserted into
  module _ (main : IsMainBlock name) (there : is_there blocks name ≡ true) (own : inserts_into Source seed name.block ≡ true) where
    abbrev block : ℕ
    block = name.block

    abbrev front : List NewRecord
    front = records_upto Source seed block

    abbrev back : List NewRecord
    back = later_records Source seed blocks block

    abbrev insert : NewRecord
    insert = insert_record seed block

    abbrev at : Written
    at = fold appended first front

    abbrev end : ℕ
    end = end_from at.origin at.before at.end insert

    abbrev rec : LogRecord
    rec = given_in at insert

    abbrev change : List ℕ → Redone
    change = stamped end (heap_operation rec (insert_parts seed block) 0)

    below : block < blocks
    below = there-below blocks name there

    is : records ≡ front ++ insert ∷ back
    is = records-split Source seed blocks block below own

    new : AllNew first (front ++ insert ∷ back)
    new = subst (AllNew first) is (all-new Source seed blocks few)

    before-idle : AllByRecursion (IsIdle name) front
    before-idle =
        upto-idle Source seed block name
        (all-miss (inserts_into Source seed) name block 0 (omega (arith, few, below)) (λ b from to _. number-other name b (λ same. absurd (omega (arith, same, to)))))

    later-miss : AllByRecursion (Misses name) (later_blocks Source seed blocks block)
    later-miss = all-miss (inserts_into Source seed) name (blocks - (block + 1)) (block + 1) (omega (arith, few, below)) (λ b from to _. number-other name b (λ same. absurd (omega (arith, same, from))))

    behind-idle : AllByRecursion (IsIdle name) back
    behind-idle =
        all-both (IsIdle name) (map (insert_record seed) (later_blocks Source seed blocks block)) (checkpoint_record (last_checkpoint Source (last_place Source seed blocks)) ∷ [])
        (inserts-idle seed name (later_blocks Source seed blocks block) later-miss) (last-idle Source seed blocks name few)

    whole : AllByRecursion IsWhole (front ++ insert ∷ back)
    whole = all-both IsWhole front (insert ∷ back) (idle-whole name front before-idle) (insert-whole seed block (omega (arith, few, below)), idle-whole name back behind-idle)

    does : effect_on None (new_log_record at insert) (split_of (new_log_record at insert)).parts name ≡ Change change
    does =
        as-given (λ r parts. effect_on None r parts name ≡ Change change) at insert (insert-whole seed block (omega (arith, few, below))) (new-back front (insert ∷ back) first new).0
        (insert-does seed block name (place_at (bytes_of at.origin.size) at.end) end at.before (there-own blocks name main.main there))

    log : steps None name (log_records first records) ≡ idle_steps first front ++ At end (Change change) ∷ idle_steps (appended at insert) back
    log =
        ap (λ ns. steps None name (log_records first ns)) is
        ∙ steps-around name front insert back first (Change change) new before-idle behind-idle does

    changed : change blank ≡ Ok (with_lsn end (put-blank seed block))
    changed =
        ap (set_lsn_of end) (insert-operation seed block (place_at (bytes_of at.origin.size) at.end) end at.before blank ∙ redo-blank seed block)

    next : stage (Some blank) (steps None name (log_records first records)) (behind front) ≡ Some (with_lsn end (put-blank seed block))
    next =
        ap (λ l. stage (Some blank) l (behind front)) log
        ∙ stage-around (Some blank) front back first (appended at insert) end (Change change)
        ∙ ap (made_or (Some blank)) changed

    ends : end ≡ (log_upto Source seed (block + 1)).end
    unfolding log_upto written
    ends =
        sym (grown_end at insert)
        ∙ ap (λ (w : Written). w.end) (log-more Source seed block at (appended at insert) own refl (λ origin rs e. ap (λ (w : Written). appended w insert) e ∙ sym (written_more origin rs insert)))

    state : page_of Source seed blocks name ≡ Some (block_page seed block (Some end))
    state =
        page-there Source seed blocks name there ∙ ap (λ x. Some (block_page seed block x)) (end-some Source seed block own ∙ ap Some (sym ends))

    inserted-lives : Lives (base_of blocks name) (page_of Source seed blocks name)
    inserted-lives =
        subst (λ base. Lives base (page_of Source seed blocks name)) (sym (base-there blocks name there))
        (subst (λ s. Lives (Some blank) s) (sym state) (
          life-as (Some blank) (subst (AllByRecursion IsWhole) (sym is) whole) (blank-page block) blank-old
              (subst (λ l. RunsOn (view block) (Some blank) l) (sym log)
              (runs-around (view block) (Some blank) front back first (appended at insert) end (Change change) (blank-sound, (with_lsn end (put-blank seed block), changed)))),
          inl (behind front, subst (λ s. Matches (view block) s (Some (block_page seed block (Some end)))) (sym next) (put-same block end seed block)),
        ))

pub pair-lives : PairLives
pair-lives seed blocks name few main =
    elim (is_there blocks name) as (λ t. is_there blocks name ≡ t → Lives seed blocks name few (base_of blocks name) (page_of Source seed blocks name)) [
      | false ↦ λ e. absent seed blocks name few e
      | true ↦ λ e. elim (inserts_into Source seed name.block) as (λ t. inserts_into Source seed name.block ≡ t → Lives seed blocks name few (base_of blocks name) (page_of Source seed blocks name)) [
        | true ↦ λ own. inserted-lives seed blocks name few main e own
        | false ↦ λ none. kept seed blocks name few e none
      ] refl
    ] refl

-- ---- each record says enough

says : (w : Written) (n : NewRecord) → IsNew w.before n → IsWhole n → ¬ (LacksLayout (new_log_record w n) (split_of (new_log_record w n)).parts)
says w n fresh all = as-given (λ rec parts. ¬ (LacksLayout rec parts)) w n all fresh (λ lacks. elim lacks [
  | inl short ↦ true≢false (sym short ∙ all.whole (place_at (bytes_of w.origin.size) w.end) (end_from w.origin w.before w.end n) w.before)
  | inr map_bits ↦ true≢false (sym map_bits.0 ∙ all.no_map (place_at (bytes_of w.origin.size) w.end) (end_from w.origin w.before w.end n) w.before)
])

all-say : (ns : List NewRecord) (w : Written) → AllNew w ns → AllByRecursion IsWhole ns → AllByRecursion (λ rec. ¬ (LacksLayout rec (split_of rec).parts)) (log_records w ns)
all-say [] w fresh all = tt
all-say (n ∷ ns) w fresh all = (says w n fresh.0 all.0, all-say ns (appended w n) fresh.2 all.1)

inserts-whole : (seed : ℕ) (p : ℕ → Bool) (n a : ℕ) → a + n ≤ 4096 → AllByRecursion IsWhole (map (insert_record seed) (filter p (range_with_len a n)))
inserts-whole seed p zero a few = tt
inserts-whole seed p (suc n) a few =
    let rest = inserts-whole seed p n (a + 1) (omega (arith, few)) in
    elim (p a) as (λ t. AllByRecursion IsWhole (map (insert_record seed) (cond t (a ∷ filter p (range_with_len (a + 1) n)) (filter p (range_with_len (a + 1) n))))) [
      | true ↦ (insert-whole seed a (omega (arith, few)), rest)
      | false ↦ rest
    ]

pub all-whole : (side : Side) (seed blocks : ℕ) → blocks ≤ 4096 → AllByRecursion IsWhole (records_of side seed blocks)
all-whole side seed blocks few =
    all-both IsWhole (records_upto side seed blocks) (checkpoint_record (last_checkpoint side (last_place side seed blocks)) ∷ [])
    (checkpoint-whole common_checkpoint common-is, inserts-whole seed (inserts_into side seed) blocks 0 (omega (arith, few)))
    (checkpoint-whole (last_checkpoint side (last_place side seed blocks)) (last-is side (last_place side seed blocks) (last_low side seed blocks few)), tt)

pub pair-enough : PairSaysEnough
pair-enough seed blocks few = λ lacks.
    all-get (λ rec. ¬ (LacksLayout rec (split_of rec).parts)) (side_records Source seed blocks) lacks.0 lacks.1
    (all-say (records_of Source seed blocks) (begun (origin_of Source)) (all-new Source seed blocks few) (all-whole Source seed blocks few)) lacks.2 lacks.3

-- Which blocks of main forks a record's references leave.
use Rattle.std.proofs.Common.{◌≡◌, ◌≢◌, ℕ, zero, suc, ◌+◌, ◌*◌, ◌/◌, ◌%◌, ◌<◌, ◌^◌, ◌-◌, ◌==◌, Bool, true, false, not, ◌&&◌, ◌||◌, nat_le, List, [], ◌∷◌, Option, None, Some, refl, ap, sym, ◌∙◌, true≢false, arith}
use Rattle.std.specs.List.{slice_get}
use Rattle.std.proofs.lemmas.Bool.{or_left, or_right}
use Rattle.std.proofs.lemmas.Bool.Decides.{nat_tests}
use Rattle.block_refs.specs.Parts.{PartsView}
use Rattle.block_refs.specs.declared.block_ref.BlockRef.{BlockRef}
use Rattle.block_refs.specs.declared.names.BlockName.{BlockName}
use Rattle.block_refs.specs.declared.placed.Placed.{Placed}
use Rattle.cluster_tree.specs.PathOrder.{path_eq}
use Rattle.cluster_tree.specs.PathValue.{PathValue}
use Rattle.cluster_tree.proofs.OrderLemmas.{path_eq-same}
use Rattle.file_edits.specs.Sparing.{spares}
use Rattle.file_effects.specs.Touched.{IsOfMain}
use Rattle.record_effects.specs.declared.acts.Act.{Act}
use Rattle.relation_files.specs.Paths.{relation_file}
use Rattle.rmgr_hooks.specs.Custom.{Extension}
use Rattle.storage_laws.specs.Names.{IsRel, in_fork, same_block}
use Rattle.storage_laws.proofs.FileLemmas.{file-same}
use Rattle.storage_laws.proofs.NumberLemmas.{by_order, eq-yes, file-least, its-place}
use Rattle.storage_replay.specs.Sparing.{block_write, piece_of}
use Rattle.wal_records.specs.Reading.{LogRecord}
use Rattle.block_replay.specs.Touched.{writes, writes_among, writes_at, writes_placed}
use Rattle.block_replay.proofs.BlockLemmas.{ref_of}

-- a block that is written leaves every other

apart_blocks : (a : Bool) (n m : ℕ) → (a && (n == m)) ≡ false → a ≡ true → n ≡ m → ⊥
apart_blocks true n m free e same = true≢false (sym (eq-yes n m same) ∙ free)
apart_blocks false n m free e same = true≢false (sym e)

pub write-away : (root : PathValue) (per : ℕ) (written other : BlockName) → 0 < per → IsRel written.rel → written.block < 2 ^ 32 → IsOfMain other → same_block written other ≡ false → spares (piece_of root per other) (block_write root per written) ≡ true
write-away root per written other some small low is free = by (path_eq there here) refl
  where
    there : PathValue
    there = relation_file root other.rel other.fork (other.block / per)

    here : PathValue
    here = relation_file root written.rel written.fork (written.block / per)

    by : (b : Bool) → path_eq (relation_file root other.rel other.fork (other.block / per)) (relation_file root written.rel written.fork (written.block / per)) ≡ b
        → (not b || nat_le (written.block % per * 8192 + 8192) (other.block % per * 8192) || nat_le ((other.block % per + 1) * 8192) (written.block % per * 8192)) ≡ true
    by true e =
        let one = file-same root written.rel written.fork other (written.block / per) (other.block / per) small is.block.rel
        (omega (arith, file-least per written.block some, low)) (omega (arith, file-least per other.block some, is.block.block))
        (sym (path_eq-same (relation_file root other.rel other.fork (other.block / per)) (relation_file root written.rel written.fork (written.block / per)) e)) in
        let differ : written.block ≢ other.block = apart_blocks (in_fork written.rel written.fork other) written.block other.block free one.0 in
        let places : (written.block % per ≡ other.block % per) → ⊥ = λ same. differ (omega (arith, (its-place per written.block some).is, (its-place per other.block some).is, ap (λ n. n * per) one.1, same)) in
        by_order (written.block % per) (other.block % per)
        (λ l. or_left (nat_le (written.block % per * 8192 + 8192) (other.block % per * 8192)) (nat_le ((other.block % per + 1) * 8192) (written.block % per * 8192)) (grind (arith, nat_tests, l)))
        (λ m. by_order (other.block % per) (written.block % per)
        (λ l. or_right (nat_le (written.block % per * 8192 + 8192) (other.block % per * 8192)) (nat_le ((other.block % per + 1) * 8192) (written.block % per * 8192)) (grind (arith, nat_tests, l)))
        (λ n. absurd (places (omega (arith, m, n)))))
    by false e = refl

-- references

pub acts-away : (act meant : Act) (same : Bool) → act ≡ meant → writes act ≡ true → (writes meant && same) ≡ false → same ≡ false
acts-away act meant same is so free = and_false (writes meant) same (ap writes (sym is) ∙ so) free
  where
    and_false : (a b : Bool) → a ≡ true → (a && b) ≡ false → b ≡ false
    and_false true b e f = f
    and_false false b e f = absurd (true≢false (sym e))

module _ (custom : Option Extension) (rec : LogRecord) (parts : PartsView) (name : BlockName) where
  pub at-place : (at : Option Placed) (block : BlockRef) → Some block ≡ ref_of at → writes_placed custom rec parts at name ≡ false → writes_at custom rec parts block name ≡ false
  at-place None block e free = cc e
  at-place (Some placed) block e free = let same : block ≡ placed.block = cc e in ap (λ (b : BlockRef). writes_at custom rec parts b name) same ∙ free

  pub among-place : (xs : List Placed) (i : ℕ) → writes_among custom rec parts xs name ≡ false → writes_placed custom rec parts (slice_get xs i) name ≡ false
  among-place [] zero free = refl
  among-place [] (suc i) free = refl
  among-place (x ∷ xs) zero free = (none (writes_at custom rec parts x.block name) (writes_among custom rec parts xs name) free).0
    where
      none : (a b : Bool) → (a || b) ≡ false → (a ≡ false) × (b ≡ false)
      none true b e = absurd (true≢false e)
      none false b e = (refl, e)
  among-place (x ∷ xs) (suc i) free = among-place xs i (none (writes_at custom rec parts x.block name) (writes_among custom rec parts xs name) free).1
    where
      none : (a b : Bool) → (a || b) ≡ false → (a ≡ false) × (b ≡ false)
      none true b e = absurd (true≢false e)
      none false b e = (refl, e)

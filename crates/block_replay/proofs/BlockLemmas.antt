-- References one after another, each of a known block.
use Rattle.std.proofs.Common.{◌≡◌, ◌≢◌, ◌⊎◌, ℕ, zero, suc, ◌+◌, ◌≤◌, ◌==◌, ◌&&◌, Bool, true, false, not, List, [], ◌∷◌, length, drop, Option, None, Some, option_map, Result, Ok, Err, arith, ap, sym, ◌∙◌, refl, subst, inl, inr}
use Rattle.std.specs.List.{slice_get}
use Rattle.std.proofs.lemmas.Bool.{and_parts}
use Rattle.std.proofs.lemmas.Bool.Decides.{nat_tests}
use Rattle.std.proofs.lemmas.List.{drop_all}
use Rattle.block_refs.specs.Parts.{PartsView}
use Rattle.block_refs.specs.declared.block_ref.BlockRef.{BlockRef}
use Rattle.block_refs.specs.declared.names.BlockName.{BlockName}
use Rattle.block_refs.specs.declared.placed.Placed.{Placed}
use Rattle.cluster_tree.specs.Causes.{MeetsInto, given}
use Rattle.cluster_tree.specs.PathValue.{PathValue}
use Rattle.record_effects.specs.Acts.{act_on}
use Rattle.replay_profile.specs.Names.{are_known, is_known_block, is_known_rel, is_named}
use Rattle.wal_records.specs.Reading.{LogRecord}
use Rattle.block_replay.specs.Blocks.{block_after, by_act, each_after, placed_after}
use Rattle.block_replay.specs.Faults.{IsFreeFault}
use Rattle.block_replay.specs.World.{BlockWorld}
use Rattle.block_replay.specs.declared.faults.RecordFault.{RecordFault}
use Rattle.rmgr_hooks.specs.Custom.{Extension}

abbrev pub ref_of : Option Placed → Option BlockRef
ref_of at = option_map (λ (placed : Placed). placed.block) at

module _ (custom : Option Extension) (root : PathValue) (per : ℕ) (rec : LogRecord) (parts : PartsView) where
  -- the one at a place

  pub at-none : (at : Option Placed) (w : BlockWorld) → None ≡ ref_of at → placed_after custom root per rec parts at w ≡ Ok w
  at-none None w e = refl
  at-none (Some placed) w e = cc e

  pub at-some : {A : Type 0} (at : Option Placed) (block : BlockRef) (w v : BlockWorld) (r : Result A RecordFault) → Some block ≡ ref_of at → MeetsInto IsFreeFault (by_act custom root per rec parts block w (act_on custom rec parts block)) v r → MeetsInto IsFreeFault (placed_after custom root per rec parts at w) v r
  unfolding block_after
  at-some None block w v r e done = cc e
  at-some (Some placed) block w v r e done =
      let same : block ≡ placed.block = cc e in
      subst (λ (b : BlockRef). MeetsInto IsFreeFault (by_act custom root per rec parts b w (act_on custom rec parts b)) v r) same done

  -- and then those behind it

  next : (xs : List Placed) (i : ℕ) (w : BlockWorld) → each_after custom root per rec parts (drop i xs) w ≡ given (placed_after custom root per rec parts (slice_get xs i) w) (each_after custom root per rec parts (drop (i + 1) xs))
  unfolding each_after
  next [] zero w = refl
  next [] (suc i) w = sym (ap (λ ns. each_after custom root per rec parts ns w) (drop_all (suc i + 1) [] (omega arith)))
  next (x ∷ xs) zero w = refl
  next (x ∷ xs) (suc i) w =
      let behind : suc (i + 1) ≡ suc i + 1 = omega arith in
      next xs i w ∙ ap (λ n. given (placed_after custom root per rec parts (slice_get xs i) w) (each_after custom root per rec parts (drop n (x ∷ xs)))) behind

  pub each-end : (xs : List Placed) (i : ℕ) (w : BlockWorld) → length xs ≤ i → each_after custom root per rec parts (drop i xs) w ≡ Ok w
  unfolding each_after
  each-end xs i w l = ap (λ ns. each_after custom root per rec parts ns w) (drop_all i xs l)

  pub each-more : (xs : List Placed) (i : ℕ) (w v : BlockWorld) → placed_after custom root per rec parts (slice_get xs i) w ≡ Ok v → each_after custom root per rec parts (drop i xs) w ≡ each_after custom root per rec parts (drop (i + 1) xs) v
  each-more xs i w v is = next xs i w ∙ ap (λ r. given r (each_after custom root per rec parts (drop (i + 1) xs))) is

  -- why a reference refuses is why all do
  pub each-refused : (xs : List Placed) (i : ℕ) (w : BlockWorld) (e : RecordFault) → (IsFreeFault e ⊎ (placed_after custom root per rec parts (slice_get xs i) w ≡ Err e)) → IsFreeFault e ⊎ (each_after custom root per rec parts (drop i xs) w ≡ Err e)
  each-refused xs i w e (inl free) = inl free
  each-refused xs i w e (inr is) = inr (next xs i w ∙ ap (λ r. given r (each_after custom root per rec parts (drop (i + 1) xs))) is)

-- an answer that is handed on
pub handed : {A B : Type 0} (meant other : Result B RecordFault) (new : B) (r : Result A RecordFault) (e : RecordFault) → meant ≡ other → ((f : RecordFault) × (r ≡ Err f) × (f ≡ e)) → (IsFreeFault e ⊎ (meant ≡ Err e)) → MeetsInto IsFreeFault other new r
handed meant other new r e is p why = subst (MeetsInto IsFreeFault other new) (sym (p.1 ∙ ap (λ x. Err x) p.2)) (subst (λ m. IsFreeFault e ⊎ (m ≡ Err e)) is why)

-- a known block has a number of its own

number : (name : BlockName) → is_known_block name ≡ true → name.block ≢ 0xFFFFFFFF
number name known = differs (name.block == 0xFFFFFFFF) refl (and_parts (is_known_rel name.rel) (not (name.block == 0xFFFFFFFF)) known).1
  where
    differs : (b : Bool) → (name.block == 0xFFFFFFFF) ≡ b → not b ≡ true → name.block ≢ 0xFFFFFFFF
    differs true is known same = cc known
    differs false is known same = grind (arith, nat_tests, is, same)

pub known-at : (xs : List Placed) (i : ℕ) (block : BlockRef) → are_known xs ≡ true → Some block ≡ ref_of (slice_get xs i) → block.name.block ≢ 0xFFFFFFFF
known-at [] i block known e = cc e
known-at (x ∷ xs) zero block known e =
    let same : x.block ≡ block = cc e in
    subst (λ (b : BlockRef). b.name.block ≢ 0xFFFFFFFF) same
    (number x.block.name (and_parts (is_known_block x.block.name) (not (is_named x.block.name xs)) (and_parts (is_known_block x.block.name && not (is_named x.block.name xs)) (are_known xs) known).0).0)
known-at (x ∷ xs) (suc i) block known e = known-at xs i block (and_parts (is_known_block x.block.name && not (is_named x.block.name xs)) (are_known xs) known).1 e

-- A log by which a relation's init fork goes leaves of each block of its main fork what no state of it before decides.
use Rattle.std.proofs.Common.{◌≡◌, ℕ, true, false, List, [], ◌∷◌, length, Option, Ok, refl, ap, sym, subst, ◌∙◌, true≢false}
use Rattle.rmgr_hooks.specs.Custom.{Extension, IsSound}
use Rattle.block_refs.specs.declared.names.BlockName.{BlockName}
use Rattle.cluster_compare.specs.Same.{has_init}
use Rattle.cluster_tree.specs.PathValue.{PathValue}
use Rattle.page_masks.specs.Law.{view}
use Rattle.record_effects.specs.Managers.{effect_on}
use Rattle.replay_law.specs.Effect.{Effect, Gone}
use Rattle.replay_law.specs.Law.{AreAlike}
use Rattle.replay_law.specs.Premises.{HasNoChange}
use Rattle.replay_law.specs.Replay.{Held, found}
use Rattle.replay_law.specs.Stage.{next_stage, stage}
use Rattle.replay_law.proofs.Stages.{matches_self}
use Rattle.replay_laws.specs.Converging.{Begins}
use Rattle.replay_laws.specs.Held.{IsMainBlock, held}
use Rattle.replay_laws.specs.Log.{AreTaken, steps}
use Rattle.replay_laws.proofs.ConvergeLemmas.{unchanged-ends}
use Rattle.replay_laws.proofs.LogLemmas.{first-taken, parts_in}
use Rattle.replay_laws.proofs.RecordLemmas.{one-world_of}
use Rattle.replay_laws.proofs.WorldLemmas.{OkHeld, given-ok}
use Rattle.replay_world.specs.Records.{record_after, records_after}
use Rattle.replay_world.specs.World.{World}
use Rattle.storage_laws.specs.States.{page_in}
use Rattle.storage_laws.proofs.NumberLemmas.{by_test}
use Rattle.wal_records.specs.Reading.{LogRecord}
use Rattle.cluster_laws.proofs.unlogged.RecordLemmas.{init-goes}

-- the block behind a log, from a state
abbrev last_of : Option Extension → BlockName → List LogRecord → Option (List ℕ) → Option (List ℕ)
last_of custom name records state = stage state (steps custom name records) (length (steps custom name records))

pub gone-forgets : (custom : Option Extension) (root : PathValue) (per start : ℕ) (records : List LogRecord) (name : BlockName) (w v : World) (a b : Option (List ℕ)) → AreTaken custom start records → IsMainBlock name → records_after custom root per records w ≡ Ok v
    → has_init w.files root name.rel ≡ true → has_init v.files root name.rel ≡ false → last_of custom name records a ≡ last_of custom name records b
unfolding records_after
gone-forgets custom root per start [] name w v a b taken main made there none =
    absurd (true≢false (sym there ∙ ap (λ (u : World). has_init u.files root name.rel) (one-world_of w v made) ∙ none))
gone-forgets custom root per start (rec ∷ records) name w v a b taken main made there none =
    let first = first-taken custom start rec records taken in
    let two = given-ok (record_after custom root per rec (parts_in rec) w) (records_after custom root per records) v made in
    let done : Effect = effect_on custom rec (parts_in rec) name in
    by_test (has_init two.0.files root name.rel)
    (λ still. gone-forgets custom root per rec.end records name two.0 v (next_stage a done) (next_stage b done) first.1 main two.2 still none)
    (λ goes.
    let gone : done ≡ Gone = init-goes custom root per rec (parts_in rec) name w two.0 first.0 main two.1 there goes in
    ap (λ e. last_of custom name records (next_stage a e)) gone ∙ sym (ap (λ e. last_of custom name records (next_stage b e)) gone))

found_alike : (name : BlockName) (a b : Held) (p q : Option (List ℕ)) → a ≡ found p → b ≡ found q → p ≡ q → AreAlike (view name.block) (OkHeld a) (OkHeld b)
found_alike name a b p q one two same =
    subst (λ h. AreAlike (view name.block) (OkHeld h) (OkHeld b)) (sym one)
    (subst (λ h. AreAlike (view name.block) (OkHeld (found p)) (OkHeld h)) (sym two)
    (subst (λ s. AreAlike (view name.block) (OkHeld (found p)) (OkHeld (found s))) same (refl, refl, matches_self (view name.block) p)))

pub unlogged-alike : (custom : Option Extension) (sound : IsSound custom) (name : BlockName) (start : ℕ) (records : List LogRecord) (root other : PathValue) (per to : ℕ) (w v x y : World) → IsMainBlock name → AreTaken custom start records → HasNoChange (steps custom name records)
    → Begins root per w → Begins other to x → has_init w.files root name.rel ≡ true → has_init v.files root name.rel ≡ false
    → records_after custom root per records w ≡ Ok v → records_after custom other to records x ≡ Ok y → AreAlike (view name.block) (OkHeld (held root per v name)) (OkHeld (held other to y name))
unlogged-alike custom sound name start records root other per to w v x y main taken unchanged one two there none made new =
    found_alike name (held root per v name) (held other to y name) (last_of custom name records (page_in root per name w.files)) (last_of custom name records (page_in other to name x.files))
    (unchanged-ends custom sound name start records root per w v main taken unchanged one made)
    (unchanged-ends custom sound name start records other to x y main taken unchanged two new)
    (gone-forgets custom root per start records name w v (page_in root per name w.files) (page_in other to name x.files) taken main made there none)

-- The steps of a log in which all records but one do nothing to a block.
use Rattle.std.proofs.Common.{None, ◌≡◌, ℕ, zero, suc, ◌≤◌, List, [], ◌∷◌, ◌++◌, map, Option, Ok, refl, ap, ap₂, sym, subst, arith}
use Rattle.std.specs.List.{AllByRecursion, fold}
use Rattle.block_effects.specs.Lives.{AreSplit}
use Rattle.block_refs.specs.Outcomes.{start_of, told}
use Rattle.block_refs.specs.Parts.{PartsView, parts_of}
use Rattle.block_refs.specs.declared.names.BlockName.{BlockName}
use Rattle.page_masks.specs.Law.{PageView}
use Rattle.record_effects.specs.Managers.{effect_on}
use Rattle.replay_law.specs.Effect.{At, Effect, Nothing, Step}
use Rattle.replay_law.specs.Premises.{EndsRise, RunsOn, Suits}
use Rattle.replay_law.specs.Stage.{next_stage, stage}
use Rattle.replay_laws.specs.Log.{split_of, steps}
use Rattle.replay_profile.specs.Profile.{parts_or_none}
use Rattle.wal_base.specs.Segment.{bytes_of}
use Rattle.wal_records.specs.Again.{IsNew, log_records, new_log_record}
use Rattle.wal_records.specs.Place.{place_at}
use Rattle.wal_records.specs.Reading.{LogRecord}
use Rattle.wal_records.specs.Sound.{AllNew}
use Rattle.wal_records.specs.Writer.{NewRecord, Written, appended, end_from}
use Rattle.wal_records.proofs.NextLemmas.{grown_end}
use Rattle.wal_records.proofs.PlaceLemmas.{place_at_up}
use Rattle.pair_laws.proofs.EffectLemmas.{IsIdle, IsWhole}
use Rattle.pair_laws.proofs.NearLemmas.{end-up}
use Rattle.pair_laws.proofs.RecordLemmas.{given_in, new-given}

-- ---- one record

-- the parts that a record was given
pub parts-read : (rec : LogRecord) (parts : PartsView) → parts_of rec.body ≡ Ok parts → (split_of rec).parts ≡ parts
parts-read rec parts read = ap (λ p. parts_or_none (told (start_of rec) p)) read

-- what holds of a record as it was given, with its parts, holds of it as it is read
pub as-given : (P : LogRecord → PartsView → Type 0) (w : Written) (n : NewRecord) (whole : IsWhole n) → IsNew w.before n → P (given_in w n) whole.parts
    → P (new_log_record w n) (split_of (new_log_record w n)).parts
as-given P w n whole new holds =
    subst (λ rec. P rec (split_of rec).parts) (sym (new-given w n new)) (subst (λ parts. P (given_in w n) parts) (sym (parts-read (given_in w n) whole.parts whole.read)) holds)

pub idle-at : (name : BlockName) (w : Written) (n : NewRecord) → IsNew w.before n → IsIdle name n
    → effect_on None (new_log_record w n) (split_of (new_log_record w n)).parts name ≡ Nothing
idle-at name w n new idle =
    as-given (λ rec parts. effect_on None rec parts name ≡ Nothing) w n idle.whole new (idle.nothing (place_at (bytes_of w.origin.size) w.end) (end_from w.origin w.before w.end n) w.before)

-- ---- steps

-- each record does nothing
abbrev pub idle_steps : Written → List NewRecord → List Step
idle_steps w [] = []
idle_steps w (n ∷ ns) = At (end_from w.origin w.before w.end n) Nothing ∷ idle_steps (appended w n) ns

pub all-idle : (name : BlockName) (ns : List NewRecord) (w : Written) → AllNew w ns → AllByRecursion (IsIdle name) ns → steps None name (log_records w ns) ≡ idle_steps w ns
all-idle name [] w new idle = refl
all-idle name (n ∷ ns) w new idle =
    ap₂ (λ e rest. At (end_from w.origin w.before w.end n) e ∷ rest) (idle-at name w n new.0 idle.0) (all-idle name ns (appended w n) new.2 idle.1)

-- all but one
pub steps-around : (name : BlockName) (front : List NewRecord) (n : NewRecord) (back : List NewRecord) (w : Written) (effect : Effect) → AllNew w (front ++ n ∷ back)
    → AllByRecursion (IsIdle name) front → AllByRecursion (IsIdle name) back
    → effect_on None (new_log_record (fold appended w front) n) (split_of (new_log_record (fold appended w front) n)).parts name ≡ effect
    → steps None name (log_records w (front ++ n ∷ back))
    ≡ idle_steps w front ++ At (end_from (fold appended w front).origin (fold appended w front).before (fold appended w front).end n) effect ∷ idle_steps (appended (fold appended w front) n) back
steps-around name [] n back w effect new before behind is =
    ap₂ (λ e rest. At (end_from w.origin w.before w.end n) e ∷ rest) is (all-idle name back (appended w n) new.2 behind)
steps-around name (m ∷ front) n back w effect new before behind is =
    ap₂ (λ e rest. At (end_from w.origin w.before w.end m) e ∷ rest) (idle-at name w m new.0 before.0) (steps-around name front n back (appended w m) effect new.2 before.1 behind is)

-- ---- what is asked of them

pub runs-idle : (v : PageView) (state : Option (List ℕ)) (ns : List NewRecord) (w : Written) → RunsOn v state (idle_steps w ns)
runs-idle v state [] w = tt
runs-idle v state (n ∷ ns) w = (tt, runs-idle v state ns (appended w n))

pub runs-around : (v : PageView) (state : Option (List ℕ)) (front back : List NewRecord) (w u : Written) (end : ℕ) (effect : Effect) → Suits v state effect
    → RunsOn v state (idle_steps w front ++ At end effect ∷ idle_steps u back)
runs-around v state [] back w u end effect suits = (suits, runs-idle v (next_stage state effect) back u)
runs-around v state (n ∷ front) back w u end effect suits = (tt, runs-around v state front back (appended w n) u end effect suits)

-- the number of the stage behind the one record
abbrev pub behind : List NewRecord → ℕ
behind [] = suc zero
behind (n ∷ ns) = suc (behind ns)

pub stage-around : (state : Option (List ℕ)) (front back : List NewRecord) (w u : Written) (end : ℕ) (effect : Effect)
    → stage state (idle_steps w front ++ At end effect ∷ idle_steps u back) (behind front) ≡ next_stage state effect
stage-around state [] back w u end effect = refl
stage-around state (n ∷ front) back w u end effect = stage-around state front back (appended w n) u end effect

-- ends rise
pub steps-rise : (name : BlockName) (ns : List NewRecord) (w : Written) (low : ℕ) → low ≤ place_at (bytes_of w.origin.size) w.end → EndsRise low (steps None name (log_records w ns))
steps-rise name [] w low h = tt
steps-rise name (n ∷ ns) w low h =
    let next : end_from w.origin w.before w.end n ≤ place_at (bytes_of (appended w n).origin.size) (appended w n).end =
    omega (arith, grown_end w n, place_at_up (bytes_of (appended w n).origin.size) (appended w n).end) in
    (omega (arith, h, end-up w.origin w.before w.end n), steps-rise name ns (appended w n) (end_from w.origin w.before w.end n) next)

-- each record has its parts
pub all-split : (ns : List NewRecord) (w : Written) → AllNew w ns → AllByRecursion IsWhole ns → AreSplit (map split_of (log_records w ns))
all-split [] w new whole = tt
all-split (n ∷ ns) w new whole =
    (as-given (λ rec parts. parts_of rec.body ≡ Ok parts) w n whole.0 new.0 whole.0.read, all-split ns (appended w n) new.2 whole.1)

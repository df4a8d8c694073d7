-- Marks of unfinished runs before and after a replay.
use Rattle.std.proofs.Common.{◌≡◌, ◌≢◌, ℕ, Bool, true, false, cond, List, [], ◌∷◌, codes, Option, None, Some, is_some, option_map, Ok, refl, ap, true≢false, arith}
use Rattle.cluster_laws.proofs.EndLemmas.{control_parts, label_parts, mark_parts}
use Rattle.cluster_tree.specs.Causes.{given}
use Rattle.cluster_tree.specs.Contents.{Contents, Entry, entry_at}
use Rattle.cluster_tree.specs.Marks.{marks_of}
use Rattle.cluster_tree.specs.PathValue.{PathValue, below}
use Rattle.clusters.specs.Marks.{unfinished, with_mark}
use Rattle.clusters.specs.RootControl.{control_at}
use Rattle.clusters.specs.declared.fault.ClusterFault.{ClusterFault}
use Rattle.replay_laws.proofs.WorldLemmas.{not-refused}
use Rattle.replay_start.specs.Checked.{Start, from_control, start_of}
use Rattle.replay_start.specs.Faults.{told_by}
use Rattle.replay_start.specs.declared.fault.ReplayFault.TheVariants as fault
use Rattle.pair_laws.proofs.compared.CloseLemmas.{IsApart, longer, relation_parts}

abbrev pub rewind_parts : List (List ℕ)
rewind_parts = codes "pg_rewind.unfinished" ∷ []

abbrev pub reset_parts : List (List ℕ)
reset_parts = codes "pg_resetwal.unfinished" ∷ []

-- no mark stands there
pub record AreUnmarked (c : Contents) (root : PathValue) : Type 0 where
  pub rewind : entry_at c (below root rewind_parts) ≡ None
  pub replay : entry_at c (below root mark_parts) ≡ None
  pub reset : entry_at c (below root reset_parts) ≡ None

pub unmarked-finished : (c : Contents) (root : PathValue) → AreUnmarked c root → unfinished c root ≡ None
unfolding unfinished
unmarked-finished c root un =
    let one = un.rewind in
    let two = un.replay in
    let three = un.reset in
    rw (one, two, three) refl

absent : (o : Option Entry) → is_some o ≡ false → o ≡ None
absent None h = refl
absent (Some e) h = absurd (true≢false h)

none_by : (c : Contents) (root : PathValue) (a b d : Bool) → with_mark (marks_of root) (cond a (Some 0) (cond b (Some 1) (cond d (Some 2) None))) ≡ None → (a ≡ false) × (b ≡ false) × (d ≡ false)
none_by c root true b d h = absurd cc
none_by c root false true d h = absurd cc
none_by c root false false true h = absurd cc
none_by c root false false false h = (refl, refl, refl)

pub finished-unmarked : (c : Contents) (root : PathValue) → unfinished c root ≡ None → AreUnmarked c root
unfolding unfinished
finished-unmarked c root none =
    let three = none_by c root (is_some (entry_at c (below root rewind_parts))) (is_some (entry_at c (below root mark_parts))) (is_some (entry_at c (below root reset_parts))) none in
    record { rewind = absent (entry_at c (below root rewind_parts)) three.0; replay = absent (entry_at c (below root mark_parts)) three.1; reset = absent (entry_at c (below root reset_parts)) three.2 }

no_fault : (o : Option ClusterFault) → option_map fault.Cluster o ≡ None → o ≡ None
no_fault None h = refl
no_fault (Some e) h = absurd cc

-- where a replay begins, none stands
pub start-unmarked : (c : Contents) (root : PathValue) (s : Start) → start_of None c root ≡ Ok s → AreUnmarked c root
unfolding start_of
start-unmarked c root s passes =
    finished-unmarked c root (no_fault (unfinished c root) (not-refused (option_map fault.Cluster (unfinished c root)) (given (told_by (control_at c root)) (from_control None c root)) s passes).0)

-- ---- the other marks are none of what a replay changes

abbrev first_byte : List (List ℕ) → ℕ
first_byte ((a ∷ bytes) ∷ rest) = a
first_byte _ = 0

abbrev fourth_byte : List (List ℕ) → ℕ
fourth_byte ((a ∷ b ∷ c ∷ d ∷ bytes) ∷ rest) = d
fourth_byte _ = 0

differ : (byte : List (List ℕ) → ℕ) (a b : List (List ℕ)) → (byte a ≡ byte b → ⊥) → a ≢ b
differ byte a b other same = other (ap byte same)

pub rewind-apart : IsApart rewind_parts
rewind-apart = (
  longer rewind_parts control_parts (λ e. let two : 1 ≡ 2 = e in omega (arith, two)),
  differ first_byte rewind_parts label_parts (λ e. let two : 112 ≡ 98 = e in omega (arith, two)),
  differ fourth_byte rewind_parts mark_parts (λ e. let two : 114 ≡ 119 = e in omega (arith, two)),
  longer rewind_parts relation_parts (λ e. let two : 1 ≡ 3 = e in omega (arith, two)),
)

pub reset-apart : IsApart reset_parts
reset-apart = (
  longer reset_parts control_parts (λ e. let two : 1 ≡ 2 = e in omega (arith, two)),
  differ first_byte reset_parts label_parts (λ e. let two : 112 ≡ 98 = e in omega (arith, two)),
  differ fourth_byte reset_parts mark_parts (λ e. let two : 114 ≡ 119 = e in omega (arith, two)),
  longer reset_parts relation_parts (λ e. let two : 1 ≡ 3 = e in omega (arith, two)),
)

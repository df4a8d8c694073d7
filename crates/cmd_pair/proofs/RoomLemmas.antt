-- What a folder with room for a pair has, and has not.
use Rattle.std.proofs.Common.{◌≡◌, ◌⊎◌, inl, inr, Bool, true, false, if◌then◌else◌, List, [], ◌∷◌, map, is_some, Option, None, Some, refl, ap}
use Rattle.cluster_tree.specs.Causes.{first_of}
use Rattle.cluster_tree.specs.Contents.{Contents, Entry, entry_at, is_folder}
use Rattle.cluster_tree.specs.PathValue.{PathValue}
use Rattle.commands.specs.declared.pair.PairWords.{PairWords}
use Rattle.pair_laws.specs.Stands.{copy_of, source_of, target_of}
use Rattle.pair_maker.specs.Pair.{HasRoom}
use Rattle.run_acts.specs.Answers.{refused}
use Rattle.run_acts.specs.Causes.{IsFree}
use Rattle.run_acts.specs.declared.cause.Cause.{Cause}
use Rattle.run_acts.specs.declared.cause.Cause.TheVariants as cause
use Rattle.run_acts.specs.declared.cause.PathCause.TheVariants as paths
use Rattle.cmd_pair.specs.Pair.{occupied, pair_answer, places, room_answer, room_refusal}

-- nothing stands at the first path, and none of the others refuses
free_of : (c : Contents) (path : PathValue) (rest : List PathValue) → first_of (map (occupied c) (path ∷ rest)) ≡ None → (entry_at c path ≡ None) × (first_of (map (occupied c) rest) ≡ None)
unfolding first_of
free_of c path rest is = by (entry_at c path) refl is
  where
    by : (o : Option Entry) → entry_at c path ≡ o → first_of ((if is_some o then Some (cause.Paths (paths.Occupied path)) else None) ∷ map (occupied c) rest) ≡ None
        → (entry_at c path ≡ None) × (first_of (map (occupied c) rest) ≡ None)
    by None e none = (e, none)
    by (Some x) e none = absurd (cc none)

three_free : (c : Contents) (root : PathValue) → is_folder (entry_at c root) ≡ true → first_of (map (occupied c) (places root)) ≡ None → HasRoom c root
three_free c root folder none =
    let t = free_of c (target_of root) (source_of root ∷ copy_of root ∷ []) none in
    let s = free_of c (source_of root) (copy_of root ∷ []) t.1 in
    let o = free_of c (copy_of root) [] s.1 in
    record { folder = folder; target = t.0; source = s.0; copy = o.0 }

pub room-there : (c : Contents) (root : PathValue) → room_refusal c root ≡ None → HasRoom c root
unfolding room_refusal first_of
room-there c root none = by (is_folder (entry_at c root)) refl none
  where
    by : (b : Bool) → is_folder (entry_at c root) ≡ b → first_of ((if b then None else Some (cause.Paths (paths.NotFolder root))) ∷ map (occupied c) (places root)) ≡ None → HasRoom c root
    by true folder is = three_free c root folder is
    by false folder is = absurd (cc is)

pub answer-refused : (c : Contents) (words : PairWords) (e : Cause) → room_refusal c words.root ≡ Some e → pair_answer c words ≡ refused e
answer-refused c words e is = ap (room_answer words) is

pub passes-answer : (c : Contents) (words : PairWords) (e : Cause) → IsFree e ⊎ (room_refusal c words.root ≡ Some e) → IsFree e ⊎ (pair_answer c words ≡ refused e)
passes-answer c words e (inl free) = inl free
passes-answer c words e (inr is) = inr (answer-refused c words e is)

pub ruleset look_steps = (answer-refused, passes-answer)

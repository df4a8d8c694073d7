-- The forms of what pair does.
use Rattle.std.proofs.Common.{Bool, true, false, if◌then◌else◌, List, [], ◌∷◌, map, is_some, Option, None, Some, inl, inr, refl}
use Rattle.cluster_tree.specs.Causes.{first_of}
use Rattle.cluster_tree.specs.Contents.{Contents, entry_at, is_folder}
use Rattle.cluster_tree.specs.PathValue.{PathValue}
use Rattle.commands.specs.declared.pair.PairWords.{PairWords}
use Rattle.run_acts.proofs.AnswerSteps.{Looks}
use Rattle.run_acts.specs.Causes.{IsOfLook}
use Rattle.run_acts.specs.declared.cause.Cause.{Cause}
use Rattle.run_acts.specs.declared.cause.Cause.TheVariants as cause
use Rattle.run_acts.specs.declared.cause.PathCause.TheVariants as paths
use Rattle.cmd_pair.specs.Pair.{IsPair, occupied, pair_answer, places, room_answer, room_refusal}

-- a refusal, if there is one, comes while the command looks
abbrev MayLook : Option Cause → Type 0
MayLook None = Unit {0}
MayLook (Some e) = IsOfLook e

first-looks : (c : Contents) (all : List PathValue) → MayLook (first_of (map (occupied c) all))
unfolding first_of
first-looks c [] = tt
first-looks c (path ∷ rest) = by (first-looks c rest) (is_some (entry_at c path))
  where
    by : MayLook (first_of (map (occupied c) rest)) → (b : Bool) → MayLook (first_of ((if b then Some (cause.Paths (paths.Occupied path)) else None) ∷ map (occupied c) rest))
    by later true = inr (inr refl)
    by later false = later

room-looks : (c : Contents) (root : PathValue) → MayLook (room_refusal c root)
unfolding room_refusal first_of
room-looks c root = by (is_folder (entry_at c root))
  where
    by : (b : Bool) → MayLook (first_of ((if b then None else Some (cause.Paths (paths.NotFolder root))) ∷ map (occupied c) (places root)))
    by true = first-looks c (places root)
    by false = inr (inr refl)

form_of : (words : PairWords) (o : Option Cause) → MayLook o → IsPair words (room_answer words o)
form_of words None looks = inl refl
form_of words (Some e) looks = inr (e, looks, refl)

pub answer-form : (c : Contents) (words : PairWords) → IsPair words (pair_answer c words)
answer-form c words = form_of words (room_refusal c words.root) (room-looks c words.root)

looks_of : (words : PairWords) (o : Option Cause) → Looks ((room_answer words o).acts)
looks_of words None = tt
looks_of words (Some e) = tt

pub answer-looks : (c : Contents) (words : PairWords) → Looks ((pair_answer c words).acts)
answer-looks c words = looks_of words (room_refusal c words.root)

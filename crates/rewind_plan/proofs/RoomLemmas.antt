-- The room that paths have.
use Rattle.std.proofs.Common.{◌≡◌, ℕ, zero, suc, ◌+◌, ◌<◌, ◌≤◌, Bool, true, false, cond, ◌&&◌, ◌||◌, nat_lt, List, [], ◌∷◌, length, drop, get_or, Option, None, Some, is_some, refl, sym, ap, ◌∙◌, if◌then◌else◌, true≢false, subst, arith}
use Rattle.std.proofs.lemmas.Bool.Decides.{nat_tests}
use Rattle.cluster_tree.specs.PathValue.{PathValue}
use Rattle.file_walk.specs.Actions.{action_at, by_kinds, cleared, is_kept}
use Rattle.file_walk.specs.Excluded.{is_excluded}
use Rattle.file_walk.specs.declared.action.Action.{Action}
use Rattle.file_walk.specs.declared.action.Action.TheVariants as action
use Rattle.file_walk.specs.declared.entry.EntryKind.{EntryKind}
use Rattle.file_walk.specs.declared.entry.EntryKind.TheVariants as kind
use Rattle.file_walk.specs.declared.pair.Pair.{Pair}
use Rattle.rewind_plan.specs.Planned.{Between, action_of}
use Rattle.rewind_plan.specs.Room.{AllHaveRoom, HasRoom, first_lacking, is_past, lacks_room, makes}

-- each pair has it
pub room_at : (w : Between) (pairs : List Pair) (i : ℕ) (pair : Pair) → i < length pairs → pair ≡ get_or pairs i pair → AllHaveRoom w pairs → HasRoom w pair
room_at w [] i pair l h all = absurd (omega arith)
room_at w (x ∷ pairs) zero pair l h all = subst (HasRoom w) (sym h) all.0
room_at w (x ∷ pairs) (suc i) pair l h all = room_at w pairs i pair (omega arith) h all.1

abbrev is_removal : Action → Bool
is_removal action.Nothing = false
is_removal action.MakeFolder = false
is_removal action.Copy = false
is_removal action.Tail = false
is_removal action.Cut = false
is_removal action.Remove = true
is_removal action.KindsDiffer = false

made_is : (path : PathValue) (source : Option EntryKind) → is_removal (by_kinds path None source) ≡ false
made_is path None = refl
made_is path (Some (kind.File size)) = refl
made_is path (Some kind.Folder) = refl

none_goes : (path : PathValue) (source : Option EntryKind) → is_removal (action_at path None source) ≡ false
unfolding action_at
none_goes path source = by (is_kept path) (is_excluded path)
  where
    by : (a b : Bool) → is_removal (if a then action.Nothing else if b then cleared None else by_kinds path None source) ≡ false
    by true b = refl
    by false true = refl
    by false false = made_is path source

-- what is removed is there
pub removed_there : (path : PathValue) (target source : Option EntryKind) → action_at path target source ≡ action.Remove → is_some target ≡ true
removed_there path (Some kind) source h = refl
removed_there path None source h = absurd (true≢false (sym (ap is_removal h) ∙ none_goes path source))

-- where no pair lacks room, all have it
within : (n : ℕ) → nat_lt 64 n ≡ false → n ≤ 64
within n h = grind (arith, nat_tests, h)

or_off : (a b : Bool) → (a || b) ≡ false → (a ≡ false) × (b ≡ false)
or_off true b h = absurd (true≢false h)
or_off false b h = (refl, h)

and_off : (a b : Bool) → (a && b) ≡ false → a ≡ true → b ≡ false
and_off a b h yes_a = sym (ap (λ x. x && b) yes_a) ∙ h

room_of : (w : Between) (pair : Pair) → lacks_room w pair ≡ false → HasRoom w pair
room_of w pair h =
    let off = or_off ((is_some pair.target || makes (action_of pair)) && is_past w.target pair) (is_some pair.source && is_past w.source pair) h in
    record {
      target = λ named. within (length w.target.parts + length pair.path.parts) (and_off (is_some pair.target || makes (action_of pair)) (is_past w.target pair) off.0 named);
      source = λ there. within (length w.source.parts + length pair.path.parts) (and_off (is_some pair.source) (is_past w.source pair) off.1 there);
    }

pub none_lack : (w : Between) (pairs : List Pair) → first_lacking w pairs ≡ None → AllHaveRoom w pairs
none_lack w [] h = tt
none_lack w (pair ∷ pairs) h = by (none_lack w pairs) (lacks_room w pair) refl h
  where
    by : (first_lacking w pairs ≡ None → AllHaveRoom w pairs) → (b : Bool) → lacks_room w pair ≡ b → cond b (Some pair.path) (first_lacking w pairs) ≡ None → HasRoom w pair × AllHaveRoom w pairs
    by rest true e h = absurd cc
    by rest false e h = (room_of w pair e, rest h)

drop_nil : {X : Type 0} (i : ℕ) → drop {A = X} i [] ≡ []
drop_nil zero = refl
drop_nil (suc i) = refl

pub drop_none : {X : Type 0} (xs : List X) (i : ℕ) → length xs ≤ i → drop i xs ≡ []
drop_none [] i l = drop_nil i
drop_none (x ∷ xs) zero l = absurd (omega arith)
drop_none (x ∷ xs) (suc i) l = drop_none xs i (omega arith)

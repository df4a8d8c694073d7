-- Where two clusters were walked and paired, each item fits.
use Rattle.std.proofs.Common.{◌≡◌, ◌⊎◌, ℕ, Bool, true, false, ◌||◌, ◌&&◌, List, [], ◌∷◌, Option, None, Some, is_some, inl, inr, refl, sym, ap, ◌∙◌, true≢false}
use Rattle.std.specs.Prelude.{if◌then◌else◌, nat_lt}
use Rattle.std.specs.List.{list_any}
use Rattle.cluster_tree.specs.PathValue.{PathValue, below, path_of}
use Rattle.cluster_tree.specs.PathOrder.{path_eq}
use Rattle.cluster_tree.specs.Contents.{Contents}
use Rattle.cluster_tree.proofs.OrderLemmas.{path_eq-same}
use Rattle.file_walk.specs.Actions.{action_at, block_action, by_kinds, cleared, file_action, is_kept, is_version}
use Rattle.file_walk.specs.Excluded.{is_excluded}
use Rattle.file_walk.specs.Relations.{relation_of}
use Rattle.file_walk.specs.declared.action.Action.{Action}
use Rattle.file_walk.specs.declared.action.Action.TheVariants as action
use Rattle.file_walk.specs.declared.entry.EntryKind.{EntryKind}
use Rattle.file_walk.specs.declared.entry.EntryKind.TheVariants as kind
use Rattle.file_walk.specs.declared.pair.Pair.{Pair}
use Rattle.block_refs.specs.declared.names.RelName.{RelName}
use Rattle.cluster_tree.specs.Change.{Change}
use Rattle.rewind_writes.specs.Steps.{steps_changes}
use Rattle.rewind_plan.specs.Planned.{Between, action_of, both_files, file_steps, in_target, touched_steps}
use Rattle.rewind_plan.proofs.Items.{Apart, Doing, Item, here, is_clearing, is_making}
use Rattle.rewind_plan.proofs.FileItems.{is_filling}
use Rattle.rewind_plan.proofs.PairLemmas.{doing_by, filling, items_of}
use Rattle.rewind_plan.proofs.SideLemmas.{at-below, path-is}
use Rattle.rewind_plan.specs.Sides.{AllPaired, AreInTurn, IsPaired, is_at}

-- ---- which kinds have which action

sized : (old new : ℕ) (P : Action → Type 0) → P action.Tail → P action.Cut → P action.Nothing → P (block_action old new)
sized old new P tail cut nothing = by (nat_lt old new) (nat_lt new old)
  where
    by : (a b : Bool) → P (if a then action.Tail else if b then action.Cut else action.Nothing)
    by true b = tail
    by false true = cut
    by false false = nothing

-- two files stay, are copied, or are blocks
filed : (path : PathValue) (old new : ℕ) (P : Action → Type 0) → P action.Nothing → P action.Tail → P action.Cut → P action.Copy → P (file_action path old new)
filed path old new P nothing tail cut copy = by (is_version path) (is_some (relation_of path))
  where
    by : (a b : Bool) → P (if a then action.Nothing else if b then block_action old new else action.Copy)
    by true b = nothing
    by false true = sized old new P tail cut nothing
    by false false = copy

-- what the kinds have where an action is neither kept nor excluded
abbrev Ruled : Action → (target source : Option EntryKind) → Type 0
Ruled action.Nothing target source = Unit {0}
Ruled action.MakeFolder target source = (target ≡ None) × (source ≡ Some kind.Folder)
Ruled action.Copy target source = (size : ℕ) × (source ≡ Some (kind.File size)) × ((target ≡ None) ⊎ ((old : ℕ) × (target ≡ Some (kind.File old))))
Ruled action.Tail target source = Unit {0}
Ruled action.Cut target source = Unit {0}
Ruled action.Remove target source = (is_some target ≡ true) × (source ≡ None)
Ruled action.KindsDiffer target source = Unit {0}

ruled : (path : PathValue) (target source : Option EntryKind) → Ruled (by_kinds path target source) target source
ruled path None None = tt
ruled path None (Some (kind.File size)) = (size, refl, inl refl)
ruled path None (Some kind.Folder) = (refl, refl)
ruled path (Some k) None = (refl, refl)
ruled path (Some (kind.File old)) (Some (kind.File new)) = filed path old new (λ a. Ruled a (Some (kind.File old)) (Some (kind.File new))) tt tt tt (new, refl, inr (old, refl))
ruled path (Some (kind.File old)) (Some kind.Folder) = tt
ruled path (Some kind.Folder) (Some (kind.File new)) = tt
ruled path (Some kind.Folder) (Some kind.Folder) = tt

-- and where it may be
abbrev pub Acts : PathValue → Action → (target source : Option EntryKind) → Type 0
Acts path action.Nothing target source = Unit {0}
Acts path action.MakeFolder target source = (is_kept path ≡ false) × (is_excluded path ≡ false) × (target ≡ None) × (source ≡ Some kind.Folder)
Acts path action.Copy target source = (is_kept path ≡ false) × (is_excluded path ≡ false) × ((size : ℕ) × (source ≡ Some (kind.File size)) × ((target ≡ None) ⊎ ((old : ℕ) × (target ≡ Some (kind.File old)))))
Acts path action.Tail target source = Unit {0}
Acts path action.Cut target source = Unit {0}
Acts path action.Remove target source = (is_kept path ≡ false) × (is_some target ≡ true) × ((is_excluded path ≡ true) ⊎ (source ≡ None))
Acts path action.KindsDiffer target source = Unit {0}

acts_ruled : (path : PathValue) (a : Action) (target source : Option EntryKind) → is_kept path ≡ false → is_excluded path ≡ false → Ruled a target source → Acts path a target source
acts_ruled path action.Nothing target source k e r = tt
acts_ruled path action.MakeFolder target source k e r = (k, e, r.0, r.1)
acts_ruled path action.Copy target source k e r = (k, e, r)
acts_ruled path action.Tail target source k e r = tt
acts_ruled path action.Cut target source k e r = tt
acts_ruled path action.Remove target source k e r = (k, r.0, inr r.1)
acts_ruled path action.KindsDiffer target source k e r = tt

acts_cleared : (path : PathValue) (target source : Option EntryKind) → is_kept path ≡ false → is_excluded path ≡ true → Acts path (cleared target) target source
acts_cleared path None source k e = tt
acts_cleared path (Some x) source k e = (k, refl, inl e)

pub acts : (path : PathValue) (target source : Option EntryKind) → Acts path (action_at path target source) target source
unfolding action_at
acts path target source = by (is_kept path) (is_excluded path) refl refl
  where
    by : (a b : Bool) → is_kept path ≡ a → is_excluded path ≡ b → Acts path (if a then action.Nothing else if b then cleared target else by_kinds path target source) target source
    by true b k e = tt
    by false true k e = acts_cleared path target source k e
    by false false k e = acts_ruled path (by_kinds path target source) target source k e (ruled path target source)

-- the converses
pub kept-stays : (path : PathValue) (target source : Option EntryKind) → is_kept path ≡ true → action_at path target source ≡ action.Nothing
unfolding action_at
kept-stays path target source k = ap (λ a. if a then action.Nothing else if is_excluded path then cleared target else by_kinds path target source) k

pub excluded-goes : (path : PathValue) (k : EntryKind) (source : Option EntryKind) → is_kept path ≡ false → is_excluded path ≡ true → action_at path (Some k) source ≡ action.Remove
unfolding action_at
excluded-goes path k source kept e =
    ap (λ a. if a then action.Nothing else if is_excluded path then cleared (Some k) else by_kinds path (Some k) source) kept
    ∙ ap (λ b. if b then action.Remove else by_kinds path (Some k) source) e

pub excluded-absent : (path : PathValue) (source : Option EntryKind) → is_kept path ≡ false → is_excluded path ≡ true → action_at path None source ≡ action.Nothing
unfolding action_at
excluded-absent path source kept e =
    ap (λ a. if a then action.Nothing else if is_excluded path then action.Nothing else by_kinds path None source) kept
    ∙ ap (λ b. if b then action.Nothing else by_kinds path None source) e

pub ruled-at : (path : PathValue) (target source : Option EntryKind) → is_kept path ≡ false → is_excluded path ≡ false → action_at path target source ≡ by_kinds path target source
unfolding action_at
ruled-at path target source kept e =
    ap (λ a. if a then action.Nothing else if is_excluded path then cleared target else by_kinds path target source) kept
    ∙ ap (λ b. if b then cleared target else by_kinds path target source) e

-- ---- the doing of a pair

abbrev pub doing_of : Contents → Between → Pair → Doing
doing_of c w pair = doing_by c w pair (action_of pair)

no_making : (xs : List Change) → is_making (filling xs) ≡ true → ⊥
no_making [] h = true≢false (sym h)
no_making (x ∷ xs) h = true≢false (sym h)

no_clearing : (xs : List Change) → is_clearing (filling xs) ≡ true → ⊥
no_clearing [] h = true≢false (sym h)
no_clearing (x ∷ xs) h = true≢false (sym h)

pub making_is : (c : Contents) (w : Between) (pair : Pair) (a : Action) → is_making (doing_by c w pair a) ≡ true → a ≡ action.MakeFolder
making_is c w pair action.Nothing h = absurd (no_making (steps_changes c (file_steps w pair action.Nothing)) h)
making_is c w pair action.MakeFolder h = refl
making_is c w pair action.Copy h = absurd (no_making (steps_changes c (file_steps w pair action.Copy)) h)
making_is c w pair action.Tail h = absurd (no_making (steps_changes c (file_steps w pair action.Tail)) h)
making_is c w pair action.Cut h = absurd (no_making (steps_changes c (file_steps w pair action.Cut)) h)
making_is c w pair action.Remove h = absurd (true≢false (sym h))
making_is c w pair action.KindsDiffer h = absurd (true≢false (sym h))

pub clearing_is : (c : Contents) (w : Between) (pair : Pair) (a : Action) → is_clearing (doing_by c w pair a) ≡ true → a ≡ action.Remove
clearing_is c w pair action.Nothing h = absurd (no_clearing (steps_changes c (file_steps w pair action.Nothing)) h)
clearing_is c w pair action.MakeFolder h = absurd (true≢false (sym h))
clearing_is c w pair action.Copy h = absurd (no_clearing (steps_changes c (file_steps w pair action.Copy)) h)
clearing_is c w pair action.Tail h = absurd (no_clearing (steps_changes c (file_steps w pair action.Tail)) h)
clearing_is c w pair action.Cut h = absurd (no_clearing (steps_changes c (file_steps w pair action.Cut)) h)
clearing_is c w pair action.Remove h = refl
clearing_is c w pair action.KindsDiffer h = absurd (true≢false (sym h))

-- a file that is filled is one of the source, and new, or one of the target too
abbrev pub FileKinds : (target source : Option EntryKind) → Type 0
FileKinds target source = ((size : ℕ) × (source ≡ Some (kind.File size))) × ((target ≡ None) ⊎ ((old : ℕ) × (target ≡ Some (kind.File old))))

both_kinds : (c : Contents) (w : Between) (pair : Pair) (at : RelName × ℕ) (target source : Option EntryKind) → is_filling (filling (steps_changes c (both_files w pair at target source))) ≡ true → FileKinds target source
both_kinds c w pair at (Some (kind.File old)) (Some (kind.File new)) h = ((new, refl), inr (old, refl))
both_kinds c w pair at (Some (kind.File old)) (Some kind.Folder) h = absurd (true≢false (sym h))
both_kinds c w pair at (Some (kind.File old)) None h = absurd (true≢false (sym h))
both_kinds c w pair at (Some kind.Folder) source h = absurd (true≢false (sym h))
both_kinds c w pair at None source h = absurd (true≢false (sym h))

touched_kinds : (c : Contents) (w : Between) (pair : Pair) (at : Option (RelName × ℕ)) → is_filling (filling (steps_changes c (touched_steps w pair at))) ≡ true → FileKinds pair.target pair.source
touched_kinds c w pair None h = absurd (true≢false (sym h))
touched_kinds c w pair (Some at) h = both_kinds c w pair at pair.target pair.source h

pub fills_kinds : (c : Contents) (w : Between) (pair : Pair) (a : Action) → Acts pair.path a pair.target pair.source → is_filling (doing_by c w pair a) ≡ true → FileKinds pair.target pair.source
fills_kinds c w pair action.Nothing acts h = touched_kinds c w pair (relation_of pair.path) h
fills_kinds c w pair action.MakeFolder acts h = absurd (true≢false (sym h))
fills_kinds c w pair action.Copy acts h = ((acts.2.0, acts.2.1), acts.2.2)
fills_kinds c w pair action.Tail acts h = touched_kinds c w pair (relation_of pair.path) h
fills_kinds c w pair action.Cut acts h = touched_kinds c w pair (relation_of pair.path) h
fills_kinds c w pair action.Remove acts h = absurd (true≢false (sym h))
fills_kinds c w pair action.KindsDiffer acts h = absurd (true≢false (sym h))

no_old : (c : Contents) (w : Between) (pair : Pair) (at : Option (RelName × ℕ)) → pair.target ≡ None → is_filling (filling (steps_changes c (touched_steps w pair at))) ≡ true → ⊥
no_old c w pair None none h = true≢false (sym h)
no_old c w pair (Some at) none h = true≢false (sym h ∙ ap (λ t. is_filling (filling (steps_changes c (both_files w pair at t pair.source)))) none)

-- and a new one is neither kept nor excluded
pub new_ruled : (c : Contents) (w : Between) (pair : Pair) (a : Action) → Acts pair.path a pair.target pair.source → pair.target ≡ None → is_filling (doing_by c w pair a) ≡ true → (is_kept pair.path ≡ false) × (is_excluded pair.path ≡ false)
new_ruled c w pair action.Nothing acts none h = absurd (no_old c w pair (relation_of pair.path) none h)
new_ruled c w pair action.MakeFolder acts none h = absurd (true≢false (sym h))
new_ruled c w pair action.Copy acts none h = (acts.0, acts.1)
new_ruled c w pair action.Tail acts none h = absurd (no_old c w pair (relation_of pair.path) none h)
new_ruled c w pair action.Cut acts none h = absurd (no_old c w pair (relation_of pair.path) none h)
new_ruled c w pair action.Remove acts none h = absurd (true≢false (sym h))
new_ruled c w pair action.KindsDiffer acts none h = absurd (true≢false (sym h))

-- ---- items at a place

module _ (c : Contents) (w : Between) where
  pub none_doing : (t : Doing → Bool) (q : PathValue) (pairs : List Pair) → AllPaired c w pairs → ((y : Pair) → IsPaired c w y → q ≡ in_target w y → t (doing_of c w y) ≡ false)
      → list_any (λ (x : Item). path_eq q x.path && t x.doing) (items_of c w pairs) ≡ false
  none_doing t q [] paired each = refl
  none_doing t q (y ∷ ys) paired each = by (path_eq q (in_target w y)) refl (none_doing t q ys paired.1 each)
    where
      by : (b : Bool) → path_eq q (in_target w y) ≡ b → list_any (λ (x : Item). path_eq q x.path && t x.doing) (items_of c w ys) ≡ false → ((b && t (doing_of c w y)) || list_any (λ (x : Item). path_eq q x.path && t x.doing) (items_of c w ys)) ≡ false
      by false is rest = rest
      by true is rest = ap (λ b. b || list_any (λ (x : Item). path_eq q x.path && t x.doing) (items_of c w ys)) (each y paired.0 (path_eq-same q (in_target w y) is)) ∙ rest

  pub some_doing : (t : Doing → Bool) (q : PathValue) (pairs : List Pair) → AllPaired c w pairs → list_any (λ (y : Pair). path_eq q (in_target w y)) pairs ≡ true → ((y : Pair) → IsPaired c w y → q ≡ in_target w y → t (doing_of c w y) ≡ true)
      → list_any (λ (x : Item). path_eq q x.path && t x.doing) (items_of c w pairs) ≡ true
  some_doing t q [] paired among each = absurd (true≢false (sym among))
  some_doing t q (y ∷ ys) paired among each = by (path_eq q (in_target w y)) refl among (λ later. some_doing t q ys paired.1 later each)
    where
      by : (b : Bool) → path_eq q (in_target w y) ≡ b → (b || list_any (λ (z : Pair). path_eq q (in_target w z)) ys) ≡ true
          → (list_any (λ (z : Pair). path_eq q (in_target w z)) ys ≡ true → list_any (λ (x : Item). path_eq q x.path && t x.doing) (items_of c w ys) ≡ true)
          → ((b && t (doing_of c w y)) || list_any (λ (x : Item). path_eq q x.path && t x.doing) (items_of c w ys)) ≡ true
      by false is h rest = rest h
      by true is h rest = ap (λ b. b || list_any (λ (x : Item). path_eq q x.path && t x.doing) (items_of c w ys)) (each y paired.0 (path_eq-same q (in_target w y) is))

  pub here_items : (q : PathValue) (pairs : List Pair) → list_any (here q) (items_of c w pairs) ≡ list_any (λ (y : Pair). path_eq q (in_target w y)) pairs
  here_items q [] = refl
  here_items q (y ∷ ys) = ap (λ b. path_eq q (in_target w y) || b) (here_items q ys)

  pub at_parts : (parts : List (List ℕ)) (pairs : List Pair) → AllPaired c w pairs → list_any (λ (y : Pair). path_eq (below w.target parts) (in_target w y)) pairs ≡ list_any (is_at (path_of false parts)) pairs
  at_parts parts [] paired = refl
  at_parts parts (y ∷ ys) paired =
      ap (λ b. b || list_any (λ (z : Pair). path_eq (below w.target parts) (in_target w z)) ys) (at-below w y parts paired.0.relative)
      ∙ ap (λ b. path_eq (path_of false parts) y.path || b) (at_parts parts ys paired.1)

  pub own_place : (x : Pair) (pairs : List Pair) → x.path.absolute ≡ false → AllPaired c w pairs → list_any (here (in_target w x)) (items_of c w pairs) ≡ list_any (is_at x.path) pairs
  own_place x pairs relative paired =
      here_items (in_target w x) pairs ∙ at_parts x.path.parts pairs paired ∙ ap (λ p. list_any (is_at p) pairs) (path-is x relative)

  pub items-apart : (pairs : List Pair) → AreInTurn pairs → AllPaired c w pairs → Apart (items_of c w pairs)
  items-apart [] turn paired = tt
  items-apart (x ∷ xs) turn paired = (own_place x xs paired.0.relative paired.1 ∙ turn.0, items-apart xs turn.2 paired.1)

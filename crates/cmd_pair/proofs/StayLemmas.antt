-- What is done to one cluster of a pair stays in the three places, and so beside them all stays.
use Rattle.std.proofs.Common.{◌≡◌, ◌∙◌, ℕ, true, List, [], ◌∷◌, codes, drop, length, inl, inr, refl, sym, ap, subst, append_assoc}
use Rattle.acts.specs.Acts.{Changes, IsBelow, Seen, Sunk, seen}
use Rattle.cluster_tree.specs.Contents.{Contents}
use Rattle.cluster_tree.specs.PathValue.{Holds, PathValue, below, path_of}
use Rattle.cluster_tree.specs.Run.{State}
use Rattle.cluster_tree.specs.declared.tree.ChangeCall.{ChangeCall}
use Rattle.cluster_tree.proofs.RootLemmas.{held-below}
use Rattle.pair_laws.specs.Stands.{copy_of, target_of}
use Rattle.pair_maker.specs.Pair.{StaysBeside, is_in_pair}
use Rattle.replay_core.specs.Within.{StaysWithin}
use Rattle.run_acts.proofs.WithinSteps.{then-within, wider-within}
use Rattle.cmd_pair.specs.Pair.{places}
use Rattle.cmd_pair.specs.Stays.{StaysInPair}

abbrev pub state : Contents → List ChangeCall → State
state c k = record { contents = c; calls = k }

-- a sink that says nothing
pub silent : Sunk
silent = record { text = []; faults = 0 }

-- a state, with such sinks
abbrev pub bare : State → Seen
bare a = seen a.contents a.calls silent silent

-- ---- the same changes, with sinks and without

pub changes_of : (root : PathValue) (a b : State) (out err : Sunk) → StaysInPair root a b → Changes (places root) (seen a.contents a.calls out err) (seen b.contents b.calls out err)
changes_of root a b out err stays = record { made = stays.made; grew = stays.grew; below = stays.within; elsewhere = stays.elsewhere }

pub stays_of : (root : PathValue) (a b : State) → Changes (places root) (bare a) (bare b) → StaysInPair root a b
stays_of root a b changes = record { made = changes.made; grew = changes.grew; within = changes.below; elsewhere = changes.elsewhere }

pub then-stays : (root : PathValue) (a b c : State) → StaysInPair root a b → StaysInPair root b c → StaysInPair root a c
then-stays root a b c one two = stays_of root a c (then-within (places root) (bare a) (bare b) (bare c) (changes_of root a b silent silent one) (changes_of root b c silent silent two))

-- reads behind it change nothing
pub read-stays : (root : PathValue) (a b : State) {d : Contents} {l : List ChangeCall} → d ≡ b.contents → l ≡ b.calls → StaysInPair root a b → StaysInPair root a (state d l)
read-stays root a b same uncalled stays = let P : State → Type 0 = λ x. StaysInPair root a x in subst P (λ i. state (sym same i) (sym uncalled i)) stays

-- ---- a cluster at one of the places

pub at-target : (root cluster : PathValue) → cluster ≡ target_of root → (path : PathValue) → Holds cluster path → IsBelow (places root) path
at-target root cluster is path holds = inl (subst (λ x. Holds x path) is holds)

pub at-copy : (root cluster : PathValue) → cluster ≡ copy_of root → (path : PathValue) → Holds cluster path → IsBelow (places root) path
at-copy root cluster is path holds = inr (inr (inl (subst (λ x. Holds x path) is holds)))

module _ (root cluster : PathValue) (a b : State) (at : (path : PathValue) → Holds cluster path → IsBelow (places root) path) where
  one_at : (path : PathValue) → IsBelow (cluster ∷ []) path → IsBelow (places root) path
  one_at path (inl holds) = at path holds
  one_at path (inr never) = absurd never

  pub changes-stay : Changes (cluster ∷ []) (bare a) (bare b) → StaysInPair root a b
  changes-stay changes = stays_of root a b (wider-within (cluster ∷ []) (places root) (bare a) (bare b) one_at changes)

  pub within-stays : StaysWithin cluster a b → StaysInPair root a b
  within-stays stays = changes-stay (record { made = stays.made; grew = stays.grew; below = stays.within; elsewhere = λ path apart. stays.elsewhere path (λ holds. apart (inl holds)) })

-- ---- beside the clusters

-- what lies at or below a name in the root, lies there by its parts
in_name : (root path : PathValue) (name : List ℕ) → Holds (below root (name ∷ [])) path → path ≡ below root (name ∷ drop (length (below root (name ∷ [])).parts) path.parts)
in_name root path name held =
    held-below (below root (name ∷ [])) path held
    ∙ ap (λ (l : List (List ℕ)). path_of root.absolute l) (append_assoc root.parts (name ∷ []) (drop (length (below root (name ∷ [])).parts) path.parts))

-- what one of the places holds is of the pair
pub not-beside : (root path : PathValue) → ((parts : List (List ℕ)) → is_in_pair parts ≡ true → path ≡ below root parts → ⊥) → IsBelow (places root) path → ⊥
not-beside root path beside (inl held) = beside _ refl (in_name root path (codes "t") held)
not-beside root path beside (inr (inl held)) = beside _ refl (in_name root path (codes "s") held)
not-beside root path beside (inr (inr (inl held))) = beside _ refl (in_name root path (codes "c") held)
not-beside root path beside (inr (inr (inr never))) = never

pub stays-beside : (root : PathValue) (a b : State) → StaysInPair root a b → StaysBeside root a.contents b.contents
stays-beside root a b stays path beside = stays.elsewhere path (not-beside root path beside)

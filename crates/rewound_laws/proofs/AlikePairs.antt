-- What stands at a path of two clusters that are side by side.
use Rattle.std.proofs.Common.{◌≡◌, ◌⊎◌, ℕ, ◌+◌, ◌≤◌, ◌==◌, Bool, true, false, ◌||◌, List, [], ◌∷◌, length, Option, None, Some, is_some, inl, inr, refl, sym, ap, ap₂, ◌∙◌, subst, append-nil, true≢false, arith, rules}
use Rattle.std.specs.List.{list_any}
use Rattle.cluster_tree.proofs.OrderLemmas.{path_eq-same, same_path}
use Rattle.cluster_tree.specs.Contents.{Contents, Entry, FolderEntry, entry_at}
use Rattle.cluster_tree.specs.PathOrder.{path_eq}
use Rattle.cluster_tree.specs.PathValue.{PathValue, below, path_of}
use Rattle.file_walk.specs.Actions.{action_at, by_kinds, is_kept}
use Rattle.file_walk.specs.Excluded.{is_excluded}
use Rattle.file_walk.specs.Walk.{kind_there}
use Rattle.file_walk.specs.declared.action.Action.TheVariants as action
use Rattle.file_walk.specs.declared.entry.EntryKind.{EntryKind}
use Rattle.file_walk.specs.declared.entry.EntryKind.TheVariants as kind
use Rattle.file_walk.specs.declared.pair.Pair.{Pair}
use Rattle.rewind_plan.proofs.FitLemmas.{ruled-at}
use Rattle.rewind_plan.proofs.KindLemmas.{or_first, or_right, there_kind}
use Rattle.rewind_plan.specs.Planned.{Between, action_of}
use Rattle.rewind_plan.specs.Room.{AllHaveRoom, HasRoom, makes}
use Rattle.rewind_plan.specs.Sides.{AllPaired, IsKind, IsPaired, Sides, is_at}
use Rattle.rewound_laws.proofs.AlikeLemmas.{IsPlain, kind-plain}

kind_told : (k : Option EntryKind) (o : Option Entry) → IsKind k o → kind_there o ≡ k
kind_told None o is = ap kind_there is
kind_told (Some (kind.File size)) o is = ap kind_there is.1 ∙ ap (λ n. Some (kind.File n)) is.2
kind_told (Some kind.Folder) o is = ap kind_there is

neither : (a b : Option Entry) → (is_some a || is_some b) ≡ false → (a ≡ None) × (b ≡ None)
neither None None h = (refl, refl)
neither None (Some x) h = absurd (true≢false h)
neither (Some x) b h = absurd (true≢false h)

not_empty : (x : List ℕ) (xs : List (List ℕ)) → length (x ∷ xs) == 0 ≡ false
not_empty x xs = grind (arith, rules)

pub root-itself : (root : PathValue) → below root [] ≡ root
root-itself root = same_path (below root []) root refl (append-nil root.parts)

-- the pair at a path
pub record Paired (c : Contents) (w : Between) (parts : List (List ℕ)) : Type 0 where
  pub pair : Pair
  pub here : path_of false parts ≡ pair.path
  pub is : IsPaired c w pair
  pub room : HasRoom w pair

-- what is known of a path, be there something on either side or not
pub record Stands (c : Contents) (w : Between) (parts : List (List ℕ)) : Type 0 where
  pub target_plain : IsPlain (entry_at c (below w.target parts))
  pub source_plain : IsPlain (entry_at c (below w.source parts))
  pub differ : is_kept (path_of false parts) ≡ false → is_excluded (path_of false parts) ≡ false
      → by_kinds (path_of false parts) (kind_there (entry_at c (below w.target parts))) (kind_there (entry_at c (below w.source parts))) ≡ action.KindsDiffer → ⊥

module _ (c : Contents) (w : Between) (parts : List (List ℕ)) where
  abbrev path : PathValue
  path = path_of false parts

  abbrev t : Option Entry
  t = entry_at c (below w.target parts)

  abbrev s : Option Entry
  s = entry_at c (below w.source parts)

  found_in : (xs : List Pair) → list_any (is_at path) xs ≡ true → AllPaired c w xs → AllHaveRoom w xs → Paired c w parts
  found_in [] among paired room = absurd (true≢false (sym among))
  found_in (x ∷ xs) among paired room = by (path_eq path x.path) refl among (λ later. found_in xs later paired.1 room.1)
    where
      by : (b : Bool) → path_eq path x.path ≡ b → (b || list_any (is_at path) xs) ≡ true → (list_any (is_at path) xs ≡ true → Paired c w parts) → Paired c w parts
      by true same h rest = record { pair = x; here = path_eq-same path x.path same; is = paired.0; room = room.0 }
      by false other h rest = rest h

  module _ (x : Paired c w parts) where
    target_kind : IsKind x.pair.target t
    target_kind = subst (λ (q : PathValue). IsKind x.pair.target (entry_at c (below w.target q.parts))) (sym x.here) x.is.target

    source_kind : IsKind x.pair.source s
    source_kind = subst (λ (q : PathValue). IsKind x.pair.source (entry_at c (below w.source q.parts))) (sym x.here) x.is.source

    as_long : length x.pair.path.parts ≡ length parts
    as_long = ap (λ (q : PathValue). length q.parts) (sym x.here)

    acted : action_of x.pair ≡ action_at path (kind_there t) (kind_there s)
    acted =
        ap (λ q. action_at q x.pair.target x.pair.source) (sym x.here)
        ∙ ap₂ (action_at path) (sym (kind_told x.pair.target t target_kind)) (sym (kind_told x.pair.source s source_kind))

    paired_stands : Stands c w parts
    paired_stands = record {
      target_plain = kind-plain x.pair.target t target_kind;
      source_plain = kind-plain x.pair.source s source_kind;
      differ = λ kept in_both e. x.is.agreed (acted ∙ ruled-at path (kind_there t) (kind_there s) kept in_both ∙ e);
    }

    -- the room of what the target has, or of what is made there
    pub target-room : (is_some t ≡ true) ⊎ (makes (action_at path (kind_there t) (kind_there s)) ≡ true) → length w.target.parts + length parts ≤ 64
    target-room how = omega (arith, as_long, x.room.target (named how))
      where
        named : (is_some t ≡ true) ⊎ (makes (action_at path (kind_there t) (kind_there s)) ≡ true) → (is_some x.pair.target || makes (action_of x.pair)) ≡ true
        named (inl there) = or_first (is_some x.pair.target) (makes (action_of x.pair)) (there_kind x.pair.target t target_kind there)
        named (inr made) = or_right (is_some x.pair.target) (makes (action_of x.pair)) (ap makes acted ∙ made)

    pub source-room : is_some s ≡ true → length w.source.parts + length parts ≤ 64
    source-room there = omega (arith, as_long, x.room.source (there_kind x.pair.source s source_kind there))

  -- of a path with nothing on either side, or of the roots
  plain_stands : (a b : Option Entry) → t ≡ a → s ≡ b → IsPlain a → IsPlain b → (by_kinds path (kind_there a) (kind_there b) ≡ action.Nothing) → Stands c w parts
  plain_stands a b is also plain plain_too nothing = record {
    target_plain = subst IsPlain (sym is) plain;
    source_plain = subst IsPlain (sym also) plain_too;
    differ = λ kept in_both e. cc (sym nothing ∙ ap₂ (λ x y. by_kinds path (kind_there x) (kind_there y)) (sym is) (sym also) ∙ e);
  }

module _ (c : Contents) (w : Between) (pairs : List Pair) (sides : Sides c w pairs) (room : AllHaveRoom w pairs) where
  pub paired-at : (part : List ℕ) (parts : List (List ℕ)) → (is_some (entry_at c (below w.target (part ∷ parts))) || is_some (entry_at c (below w.source (part ∷ parts)))) ≡ true → Paired c w (part ∷ parts)
  paired-at part parts there = found_in c w (part ∷ parts) pairs (sides.whole (part ∷ parts) (not_empty part parts) there) sides.paired room

  module _ (target_root : entry_at c w.target ≡ Some (FolderEntry false)) (source_root : entry_at c w.source ≡ Some (FolderEntry false)) where
    pub stands : (parts : List (List ℕ)) → Stands c w parts
    stands [] =
        plain_stands c w [] (Some (FolderEntry false)) (Some (FolderEntry false)) (ap (entry_at c) (root-itself w.target) ∙ target_root) (ap (entry_at c) (root-itself w.source) ∙ source_root) refl refl refl
    stands (part ∷ parts) = by (is_some (entry_at c (below w.target (part ∷ parts))) || is_some (entry_at c (below w.source (part ∷ parts)))) refl
      where
        by : (b : Bool) → (is_some (entry_at c (below w.target (part ∷ parts))) || is_some (entry_at c (below w.source (part ∷ parts)))) ≡ b → Stands c w (part ∷ parts)
        by true there = paired_stands c w (part ∷ parts) (paired-at part parts there)
        by false none =
            let both = neither (entry_at c (below w.target (part ∷ parts))) (entry_at c (below w.source (part ∷ parts))) none in
            plain_stands c w (part ∷ parts) None None both.0 both.1 tt tt refl

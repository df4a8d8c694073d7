-- What two clusters whose walks were paired have at a path.
use Rattle.std.proofs.Common.{◌≡◌, ◌≢◌, ℕ, ◌==◌, Bool, true, false, ◌||◌, List, [], ◌∷◌, length, Option, None, Some, is_some, refl, sym, ap, ◌∙◌, subst, true≢false}
use Rattle.std.specs.Prelude.{if◌then◌else◌}
use Rattle.std.specs.List.{list_any}
use Rattle.cluster_tree.specs.Contents.{Contents, Entry, entry_at}
use Rattle.cluster_tree.specs.PathOrder.{path_eq}
use Rattle.cluster_tree.specs.PathValue.{PathValue, below, path_of}
use Rattle.cluster_tree.proofs.OrderLemmas.{path_eq-same}
use Rattle.file_walk.specs.Actions.{action_at, by_kinds, cleared, is_kept}
use Rattle.file_walk.specs.Excluded.{is_excluded}
use Rattle.file_walk.specs.Relations.{relation_of}
use Rattle.file_walk.specs.declared.action.Action.TheVariants as action
use Rattle.file_walk.specs.declared.entry.EntryKind.{EntryKind}
use Rattle.file_walk.specs.declared.pair.Pair.{Pair}
use Rattle.rewind_plan.specs.Planned.{Between}
use Rattle.rewind_plan.specs.Sides.{AllPaired, IsKind, IsPaired, IsWhole, Sides, is_at}

-- the kinds of what stands there on both sides, which don't differ; files of main forks are of whole blocks
pub record FoundAt (c : Contents) (w : Between) (parts : List (List ℕ)) : Type 0 where
  pub old : Option EntryKind
  pub new : Option EntryKind
  pub target : IsKind old (entry_at c (below w.target parts))
  pub source : IsKind new (entry_at c (below w.source parts))
  pub agreed : action_at (path_of false parts) old new ≢ action.KindsDiffer
  pub blocks : is_some (relation_of (path_of false parts)) ≡ true → IsWhole old × IsWhole new

nothing_there : (path : PathValue) → action_at path None None ≡ action.Nothing
unfolding action_at
nothing_there path = by (is_kept path) (is_excluded path)
  where
    by : (a b : Bool) → (if a then action.Nothing else if b then cleared None else by_kinds path None None) ≡ action.Nothing
    by true b = refl
    by false true = refl
    by false false = refl

neither : (o p : Option Entry) → (is_some o || is_some p) ≡ false → (o ≡ None) × (p ≡ None)
neither None None h = (refl, refl)
neither None (Some e) h = absurd (true≢false h)
neither (Some e) p h = absurd (true≢false h)

module _ (c : Contents) (w : Between) (parts : List (List ℕ)) where
  of_pair : (x : Pair) → IsPaired c w x → path_eq (path_of false parts) x.path ≡ true → FoundAt c w parts
  of_pair x paired here =
      let same : path_of false parts ≡ x.path = path_eq-same (path_of false parts) x.path here in
      let own : x.path.parts ≡ parts = ap (λ (p : PathValue). p.parts) (sym same) in
      record {
        old = x.target;
        new = x.source;
        target = subst (λ l. IsKind x.target (entry_at c (below w.target l))) own paired.target;
        source = subst (λ l. IsKind x.source (entry_at c (below w.source l))) own paired.source;
        agreed = λ e. paired.agreed (ap (λ p. action_at p x.target x.source) (sym same) ∙ e);
        blocks = λ is. paired.blocks (ap (λ p. is_some (relation_of p)) (sym same) ∙ is);
      }

  among : (xs : List Pair) → AllPaired c w xs → list_any (is_at (path_of false parts)) xs ≡ true → FoundAt c w parts
  among [] paired h = absurd (true≢false (sym h))
  among (x ∷ xs) paired h = by (path_eq (path_of false parts) x.path) refl h (λ later. among xs paired.1 later)
    where
      by : (b : Bool) → path_eq (path_of false parts) x.path ≡ b → (b || list_any (is_at (path_of false parts)) xs) ≡ true
          → (list_any (is_at (path_of false parts)) xs ≡ true → FoundAt c w parts) → FoundAt c w parts
      by true here h rest = of_pair x paired.0 here
      by false off h rest = rest h

  absent : (is_some (entry_at c (below w.target parts)) || is_some (entry_at c (below w.source parts))) ≡ false → FoundAt c w parts
  absent h =
      let two = neither (entry_at c (below w.target parts)) (entry_at c (below w.source parts)) h in
      record {
        old = None;
        new = None;
        target = two.0;
        source = two.1;
        agreed = λ e. differs (sym (nothing_there (path_of false parts)) ∙ e);
        blocks = λ is. (tt, tt);
      }
    where
      differs : action.Nothing ≢ action.KindsDiffer
      differs e = absurd (cc e)

  pub found-at : (all : List Pair) → Sides c w all → length parts == 0 ≡ false → FoundAt c w parts
  found-at all sides deep = by (is_some (entry_at c (below w.target parts)) || is_some (entry_at c (below w.source parts))) refl
    where
      by : (b : Bool) → (is_some (entry_at c (below w.target parts)) || is_some (entry_at c (below w.source parts))) ≡ b → FoundAt c w parts
      by true h = among all sides.paired (sides.whole parts deep h)
      by false h = absent h

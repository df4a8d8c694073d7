-- Two clusters that were walked and whose paths were paired, side by side.
use Rattle.std.proofs.Common.{◌≡◌, ◌⊎◌, ℕ, ◌==◌, Bool, true, false, ◌||◌, cond, List, [], ◌∷◌, length, map, Option, None, Some, is_some, inl, inr, refl, sym, ap, ◌∙◌, subst, true≢false}
use Rattle.std.specs.List.{list_any}
use Rattle.cluster_tree.specs.Apart.{AreApart}
use Rattle.cluster_tree.specs.Contents.{Contents, IsTree, entry_at}
use Rattle.cluster_tree.specs.PathOrder.{path_eq}
use Rattle.cluster_tree.specs.PathValue.{PathValue, below, path_of}
use Rattle.cluster_tree.proofs.OrderLemmas.{path_eq-own, same_path}
use Rattle.control_file.specs.declared.control.Control.{Control}
use Rattle.file_walk.specs.declared.entry.Entry.{Entry}
use Rattle.file_walk.specs.declared.pair.Pair.{Pair}
use Rattle.file_walk.specs.Laws.{IsOwn}
use Rattle.file_walk.specs.Pairs.{kind_in, pair_at, pairs_of, paths_of}
use Rattle.file_walk.proofs.StandLemmas.{is-among, own-path}
use Rattle.rewind_plan.specs.Checks.{first_difference, first_path, is_difference}
use Rattle.rewind_plan.specs.Planned.{Between, action_of}
use Rattle.rewind_plan.specs.Sides.{AllPaired, IsKind, IsPaired, Sides, is_at}
use Rattle.rewind_plan.specs.Walks.{IsWalked}
use Rattle.rewind_plan.proofs.FoundOutLemmas.{control-read, kept-there, no-mark}
use Rattle.rewind_plan.proofs.KindLemmas.{there_kind}
use Rattle.rewind_plan.proofs.TurnLemmas.{at-paths, in-turn}
use Rattle.rewind_plan.proofs.WalkLemmas.{folder-stands, kind-stands, whole-blocks}

or_cases : (a b : Bool) → (a || b) ≡ true → (a ≡ true) ⊎ (b ≡ true)
or_cases true b h = inl refl
or_cases false b h = inr h

or_one : (a b : Bool) → a ≡ true → (a || b) ≡ true
or_one true b h = refl
or_one false b h = absurd (true≢false (sym h))

or_more : (a b : Bool) → b ≡ true → (a || b) ≡ true
or_more true b h = refl
or_more false b h = h

none_first : (b : Bool) (p : PathValue) (o : Option PathValue) → cond b (Some p) o ≡ None → (b ≡ false) × (o ≡ None)
none_first true p o h = absurd (cc h)
none_first false p o h = (refl, h)

module _ (c : Contents) (w : Between) (target source : Control) (ts ss : List Entry) (seen : IsWalked c w.target target ts) (other : IsWalked c w.source source ss) where
  one_of : (q : PathValue) → list_any (path_eq q) (paths_of ts ss) ≡ true → (is_some (kind_in ts q) || is_some (kind_in ss q)) ≡ true
  one_of q among = sym (is-among ts ss q) ∙ among

  own : (q : PathValue) → list_any (path_eq q) (paths_of ts ss) ≡ true → IsOwn q
  own q among = by (or_cases (is_some (kind_in ts q)) (is_some (kind_in ss q)) (one_of q among))
    where
      by : (is_some (kind_in ts q) ≡ true) ⊎ (is_some (kind_in ss q) ≡ true) → IsOwn q
      by (inl h) = own-path c w.target ts seen.walk q h
      by (inr h) = own-path c w.source ss other.walk q h

  -- what either walk has at a path stands there
  target_kind : (parts : List (List ℕ)) → length parts == 0 ≡ false → IsKind (kind_in ts (path_of false parts)) (entry_at c (below w.target parts))
  target_kind parts deep = kind-stands c w.target ts seen.walk seen.parts parts deep

  source_kind : (parts : List (List ℕ)) → length parts == 0 ≡ false → IsKind (kind_in ss (path_of false parts)) (entry_at c (below w.source parts))
  source_kind parts deep = kind-stands c w.source ss other.walk other.parts parts deep

  paired_at : (k : PathValue) → list_any (path_eq k) (paths_of ts ss) ≡ true → is_difference (action_of (pair_at ts ss k)) ≡ false → IsPaired c w (pair_at ts ss k)
  paired_at k among alike =
      let its = own k among in
      let whole : path_of false k.parts ≡ k = same_path (path_of false k.parts) k (sym its.0) refl in
      record {
        relative = its.0;
        deep = its.1;
        target = subst (λ p. IsKind (kind_in ts p) (entry_at c (below w.target k.parts))) whole (target_kind k.parts its.1);
        source = subst (λ p. IsKind (kind_in ss p) (entry_at c (below w.source k.parts))) whole (source_kind k.parts its.1);
        some = one_of k among;
        agreed = λ e. true≢false (sym (ap is_difference e) ∙ alike);
        blocks = λ is. (whole-blocks c w.target ts seen.walk seen.parts k is, whole-blocks c w.source ss other.walk other.parts k is);
      }

  abbrev differs : Pair → Bool
  differs pair = is_difference (action_of pair)

  paired_from : (ks : List PathValue) → ((k : PathValue) → list_any (path_eq k) ks ≡ true → list_any (path_eq k) (paths_of ts ss) ≡ true)
      → first_path differs (map (pair_at ts ss) ks) ≡ None → AllPaired c w (map (pair_at ts ss) ks)
  paired_from [] among none = tt
  paired_from (k ∷ ks) among none =
      let two = none_first (differs (pair_at ts ss k)) k (first_path differs (map (pair_at ts ss) ks)) none in (
        paired_at k (among k (or_one (path_eq k k) (list_any (path_eq k) ks) (path_eq-own k))) two.0,
        paired_from ks (λ x later. among x (or_more (path_eq x k) (list_any (path_eq x) ks) later)) two.1,
      )

  found : (parts : List (List ℕ)) → length parts == 0 ≡ false
      → (is_some (entry_at c (below w.target parts)) ≡ true) ⊎ (is_some (entry_at c (below w.source parts)) ≡ true)
      → (is_some (kind_in ts (path_of false parts)) || is_some (kind_in ss (path_of false parts))) ≡ true
  found parts deep (inl there) = or_one (is_some (kind_in ts (path_of false parts))) (is_some (kind_in ss (path_of false parts))) (there_kind (kind_in ts (path_of false parts)) (entry_at c (below w.target parts)) (target_kind parts deep) there)
  found parts deep (inr there) = or_more (is_some (kind_in ts (path_of false parts))) (is_some (kind_in ss (path_of false parts))) (there_kind (kind_in ss (path_of false parts)) (entry_at c (below w.source parts)) (source_kind parts deep) there)

  whole_at : (parts : List (List ℕ)) → length parts == 0 ≡ false → (is_some (entry_at c (below w.target parts)) || is_some (entry_at c (below w.source parts))) ≡ true
      → list_any (is_at (path_of false parts)) (map (pair_at ts ss) (paths_of ts ss)) ≡ true
  whole_at parts deep there =
      at-paths ts ss (path_of false parts) (paths_of ts ss)
      ∙ is-among ts ss (path_of false parts)
      ∙ found parts deep (or_cases (is_some (entry_at c (below w.target parts))) (is_some (entry_at c (below w.source parts))) there)

  pub walks-fit : IsTree c → AreApart w.target w.source → first_difference (pairs_of ts ss) ≡ None → Sides c w (pairs_of ts ss)
  unfolding pairs_of
  walks-fit tree apart none = record {
    apart = apart;
    tree = tree;
    target_root = folder-stands c w.target ts seen.walk;
    source_root = folder-stands c w.source ss other.walk;
    paired = paired_from (paths_of ts ss) (λ k among. among) none;
    turn = in-turn ts ss own;
    whole = whole_at;
    kept_target = λ parts kept. (kept-there c w.target target seen.finished seen.read parts kept).no_folder;
    kept_source = λ parts kept. (kept-there c w.source source other.finished other.read parts kept).no_folder;
    kept_alike = λ parts kept.
        (kept-there c w.source source other.finished other.read parts kept).alike ∙ sym (kept-there c w.target target seen.finished seen.read parts kept).alike;
    marks_target = no-mark c w.target seen.finished;
    marks_source = no-mark c w.source other.finished;
    control = control-read c w.target target seen.read;
  }

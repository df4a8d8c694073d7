-- Changes of which each is a sync or below some roots, made in turn, all or the first of them: they stay within these roots.
use Rattle.std.proofs.Common.{◌≡◌, ◌∙◌, ℕ, ◌+◌, ◌==◌, Bool, true, false, ◌&&◌, ◌||◌, inl, inr, cond, List, [], ◌∷◌, ◌++◌, map, None, Some, refl, sym, ap, subst, true≢false, append_assoc, append-nil}
use Rattle.std.specs.List.{list_any}
use Rattle.acts.specs.Acts.{AreBelow, Changes, IsBelow, Seen, Sunk, seen}
use Rattle.cluster_tree.specs.Change.{Change, Writes, Cuts, MakesFile, MakesFolder, Removes, Syncs, call_of, is_on}
use Rattle.cluster_tree.specs.Contents.{Contents, entry_at}
use Rattle.cluster_tree.specs.Joined.{joined_onto, joined_writes}
use Rattle.cluster_tree.specs.Laws.{changed_path}
use Rattle.cluster_tree.specs.PathOrder.{path_eq}
use Rattle.cluster_tree.specs.PathValue.{PathValue}
use Rattle.cluster_tree.specs.declared.tree.ChangeCall.{ChangeCall}
use Rattle.cluster_tree.specs.declared.tree.ChangeCall.TheVariants.{Write, Cut, MakeFile, MakeFolder, Remove, Sync}
use Rattle.cluster_tree.proofs.OrderLemmas.{path_eq-same}
use Rattle.marked_runs.specs.Runs.{Runs}

-- ---- lists of calls

module _ (roots : List PathValue) where
  pub both-below : (xs ys : List ChangeCall) → AreBelow roots xs → AreBelow roots ys → AreBelow roots (xs ++ ys)
  both-below [] ys one two = two
  both-below (x ∷ xs) ys one two = (one.0, both-below xs ys one.1 two)

  front-below : (xs ys : List ChangeCall) → AreBelow roots (xs ++ ys) → AreBelow roots xs
  front-below [] ys all = tt
  front-below (x ∷ xs) ys all = (all.0, front-below xs ys all.1)

  -- a write and the next, where they are joined, are at one path
  onto_by : (path next : PathValue) (at n from m : ℕ) (calls : List ChangeCall) (b c : Bool) → path_eq path next ≡ b
      → AreBelow roots (cond (b && c) (Write path at (n + m) ∷ calls) (Write path at n ∷ Write next from m ∷ calls)) → AreBelow roots (Write path at n ∷ Write next from m ∷ calls)
  onto_by path next at n from m calls true true same all = (all.0, (λ p is. all.0 p (ap Some (path_eq-same path next same) ∙ is), all.1))
  onto_by path next at n from m calls true false same all = all
  onto_by path next at n from m calls false c same all = all

  onto_below : (call : ChangeCall) (calls : List ChangeCall) → AreBelow roots (joined_onto call calls) → AreBelow roots (call ∷ calls)
  onto_below (Write path at n) [] all = all
  onto_below (Write path at n) (Write next from m ∷ calls) all = onto_by path next at n from m calls (path_eq path next) (from == at + n) refl all
  onto_below (Write path at n) (Cut next size ∷ calls) all = all
  onto_below (Write path at n) (MakeFile next ∷ calls) all = all
  onto_below (Write path at n) (MakeFolder next ∷ calls) all = all
  onto_below (Write path at n) (Remove next ∷ calls) all = all
  onto_below (Write path at n) (Sync ∷ calls) all = all
  onto_below (Cut path size) calls all = all
  onto_below (MakeFile path) calls all = all
  onto_below (MakeFolder path) calls all = all
  onto_below (Remove path) calls all = all
  onto_below Sync calls all = all

  joined_below : (calls : List ChangeCall) → AreBelow roots (joined_writes calls) → AreBelow roots calls
  joined_below [] all = tt
  joined_below (call ∷ calls) all =
      let two = onto_below call (joined_writes calls) all in
      (two.0, joined_below calls two.1)

  onto_joined : (call : ChangeCall) (calls : List ChangeCall) → AreBelow roots (call ∷ calls) → AreBelow roots (joined_onto call calls)
  onto_joined (Write path at n) [] all = all
  onto_joined (Write path at n) (Write next from m ∷ calls) all = by (path_eq path next && from == at + n)
    where
      by : (b : Bool) → AreBelow roots (cond b (Write path at (n + m) ∷ calls) (Write path at n ∷ Write next from m ∷ calls))
      by true = (all.0, all.1.1)
      by false = all
  onto_joined (Write path at n) (Cut next size ∷ calls) all = all
  onto_joined (Write path at n) (MakeFile next ∷ calls) all = all
  onto_joined (Write path at n) (MakeFolder next ∷ calls) all = all
  onto_joined (Write path at n) (Remove next ∷ calls) all = all
  onto_joined (Write path at n) (Sync ∷ calls) all = all
  onto_joined (Cut path size) calls all = all
  onto_joined (MakeFile path) calls all = all
  onto_joined (MakeFolder path) calls all = all
  onto_joined (Remove path) calls all = all
  onto_joined Sync calls all = all

  joins_below : (calls : List ChangeCall) → AreBelow roots calls → AreBelow roots (joined_writes calls)
  joins_below [] all = tt
  joins_below (call ∷ calls) all = onto_joined call (joined_writes calls) (all.0, joins_below calls all.1)

  -- ---- runs of changes

  on_path : (path : PathValue) (change : Change) → is_on path change ≡ true → changed_path (call_of change) ≡ Some path
  on_path path (Writes own at bytes) is = ap Some (sym (path_eq-same path own is))
  on_path path (Cuts own size) is = ap Some (sym (path_eq-same path own is))
  on_path path (MakesFile own) is = ap Some (sym (path_eq-same path own is))
  on_path path (MakesFolder own) is = ap Some (sym (path_eq-same path own is))
  on_path path (Removes own) is = ap Some (sym (path_eq-same path own is))
  on_path path Syncs is = absurd (true≢false (sym is))

  on_none : (path : PathValue) (changes : List Change) → (IsBelow roots path → ⊥) → AreBelow roots (map call_of changes) → list_any (is_on path) changes ≡ false
  on_none path [] apart all = refl
  on_none path (change ∷ changes) apart all =
      elim (is_on path change) as (λ (b : Bool). is_on path change ≡ b → (b || list_any (is_on path) changes) ≡ false) [
        | true ↦ λ is. absurd (apart (all.0 path (on_path path change is)))
        | false ↦ λ is. on_none path changes apart all.1
      ] refl

  pub ran-within : (changes : List Change) (k l : List ChangeCall) (c d : Contents) (done : Bool) (out err : Sunk) → AreBelow roots (map call_of changes) → Runs changes k l c d done
      → Changes roots (seen c k out err) (seen d l out err)
  ran-within changes k l c d done out err all ran = record {
    made = ran.made;
    grew = ran.grew;
    below = front-below ran.made ran.rest (joined_below (ran.made ++ ran.rest) (subst (AreBelow roots) (sym ran.joins) (joins_below (map call_of changes) all)));
    elsewhere = λ path apart. ran.elsewhere path (on_none path changes apart all);
  }

  -- ---- one after another

  pub none-within : (c : Contents) (k : List ChangeCall) (out err : Sunk) → Changes roots (seen c k out err) (seen c k out err)
  none-within c k out err = record { made = []; grew = sym (append-nil k); below = tt; elsewhere = λ path apart. refl }

  pub then-within : (a b c : Seen) → Changes roots a b → Changes roots b c → Changes roots a c
  then-within a b c one two = record {
    made = one.made ++ two.made;
    grew = two.grew ∙ ap (λ l. l ++ two.made) one.grew ∙ append_assoc a.calls one.made two.made;
    below = both-below one.made two.made one.below two.below;
    elsewhere = λ path apart. two.elsewhere path apart ∙ one.elsewhere path apart;
  }

-- ---- wider roots

wider_calls : (roots others : List PathValue) (calls : List ChangeCall) → ((path : PathValue) → IsBelow roots path → IsBelow others path) → AreBelow roots calls → AreBelow others calls
wider_calls roots others [] wider all = tt
wider_calls roots others (call ∷ calls) wider all = ((λ path is. wider path (all.0 path is)), wider_calls roots others calls wider all.1)

pub wider-within : (roots others : List PathValue) (a b : Seen) → ((path : PathValue) → IsBelow roots path → IsBelow others path) → Changes roots a b → Changes others a b
wider-within roots others a b wider changes = record {
  made = changes.made;
  grew = changes.grew;
  below = wider_calls roots others changes.made wider changes.below;
  elsewhere = λ path apart. changes.elsewhere path (λ in_roots. apart (wider path in_roots));
}

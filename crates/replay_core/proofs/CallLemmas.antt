-- Calls whose paths all have P, however their writes are joined: so the calls of changes that have it pass each test that asks no more.
use Rattle.std.proofs.Common.{◌≡◌, ℕ, ◌+◌, ◌==◌, Bool, true, false, cond, ◌&&◌, List, [], ◌∷◌, ◌++◌, map, Option, Some, refl, sym, ap, subst, append_assoc, append-nil}
use Rattle.cluster_tree.specs.Change.{Change, call_of}
use Rattle.cluster_tree.specs.Contents.{Contents}
use Rattle.cluster_tree.specs.Joined.{joined_onto, joined_writes}
use Rattle.cluster_tree.specs.Laws.{changed_path}
use Rattle.cluster_tree.specs.PathOrder.{path_eq}
use Rattle.cluster_tree.specs.PathValue.{PathValue}
use Rattle.cluster_tree.specs.declared.tree.ChangeCall.{ChangeCall}
use Rattle.cluster_tree.specs.declared.tree.ChangeCall.TheVariants.{Write, Cut, MakeFile, MakeFolder, Remove, Sync}
use Rattle.cluster_tree.proofs.OrderLemmas.{path_eq-same}
use Rattle.file_edits.specs.Own.{GoesBy, Same, More}
use Rattle.file_edits.proofs.OwnLemmas.{goes-by_on}
use Rattle.marked_runs.specs.Runs.{Runs}

abbrev pub AllAt : (Option PathValue → Type 0) → List ChangeCall → Type 0
AllAt P [] = Unit {0}
AllAt P (call ∷ calls) = P (changed_path call) × AllAt P calls

module _ (P : Option PathValue → Type 0) where
  front : (xs ys : List ChangeCall) → AllAt P (xs ++ ys) → AllAt P xs
  front [] ys all = tt
  front (x ∷ xs) ys all = (all.0, front xs ys all.1)

  onto_by : (path next : PathValue) (at n from m : ℕ) (calls : List ChangeCall) (b c : Bool) → path_eq path next ≡ b
      → AllAt P (cond (b && c) (Write path at (n + m) ∷ calls) (Write path at n ∷ Write next from m ∷ calls)) → AllAt P (Write path at n ∷ Write next from m ∷ calls)
  onto_by path next at n from m calls true true same all = (all.0, (subst P (ap Some (path_eq-same path next same)) all.0, all.1))
  onto_by path next at n from m calls true false same all = all
  onto_by path next at n from m calls false c same all = all

  onto : (call : ChangeCall) (calls : List ChangeCall) → AllAt P (joined_onto call calls) → AllAt P (call ∷ calls)
  onto (Write path at n) [] all = all
  onto (Write path at n) (Write next from m ∷ calls) all = onto_by path next at n from m calls (path_eq path next) (from == at + n) refl all
  onto (Write path at n) (Cut next size ∷ calls) all = all
  onto (Write path at n) (MakeFile next ∷ calls) all = all
  onto (Write path at n) (MakeFolder next ∷ calls) all = all
  onto (Write path at n) (Remove next ∷ calls) all = all
  onto (Write path at n) (Sync ∷ calls) all = all
  onto (Cut path size) calls all = all
  onto (MakeFile path) calls all = all
  onto (MakeFolder path) calls all = all
  onto (Remove path) calls all = all
  onto Sync calls all = all

  unjoined : (calls : List ChangeCall) → AllAt P (joined_writes calls) → AllAt P calls
  unjoined [] all = tt
  unjoined (call ∷ calls) all = let two = onto call (joined_writes calls) all in (two.0, unjoined calls two.1)

  joined_on : (call : ChangeCall) (calls : List ChangeCall) → AllAt P (call ∷ calls) → AllAt P (joined_onto call calls)
  joined_on (Write path at n) [] all = all
  joined_on (Write path at n) (Write next from m ∷ calls) all = by (path_eq path next && from == at + n)
    where
      by : (b : Bool) → AllAt P (cond b (Write path at (n + m) ∷ calls) (Write path at n ∷ Write next from m ∷ calls))
      by true = (all.0, all.1.1)
      by false = all
  joined_on (Write path at n) (Cut next size ∷ calls) all = all
  joined_on (Write path at n) (MakeFile next ∷ calls) all = all
  joined_on (Write path at n) (MakeFolder next ∷ calls) all = all
  joined_on (Write path at n) (Remove next ∷ calls) all = all
  joined_on (Write path at n) (Sync ∷ calls) all = all
  joined_on (Cut path size) calls all = all
  joined_on (MakeFile path) calls all = all
  joined_on (MakeFolder path) calls all = all
  joined_on (Remove path) calls all = all
  joined_on Sync calls all = all

  joined : (calls : List ChangeCall) → AllAt P calls → AllAt P (joined_writes calls)
  joined [] all = tt
  joined (call ∷ calls) all = joined_on call (joined_writes calls) (all.0, joined calls all.1)

  runs_at : (changes : List Change) (calls more : List ChangeCall) (c d : Contents) (done : Bool) → AllAt P (map call_of changes) → (ran : Runs changes calls more c d done) → AllAt P ran.made
  runs_at changes calls more c d done all ran = front ran.made ran.rest (unjoined (ran.made ++ ran.rest) (subst (AllAt P) (sym ran.joins) (joined (map call_of changes) all)))

  module _ (may : ChangeCall → Bool) (passes : (call : ChangeCall) → P (changed_path call) → may call ≡ true) where
    goes : (old made : List ChangeCall) → AllAt P made → GoesBy may old (old ++ made)
    goes old [] all = subst (GoesBy may old) (sym (append-nil old)) Same
    goes old (call ∷ calls) all =
        subst (GoesBy may old) (append_assoc old (call ∷ []) calls)
        (goes-by_on may old (old ++ call ∷ []) ((old ++ call ∷ []) ++ calls) (More call Same (passes call all.0) refl) (goes (old ++ call ∷ []) calls all.1))

    pub runs_go : (changes : List Change) (calls more : List ChangeCall) (c d : Contents) (done : Bool) → AllAt P (map call_of changes) → Runs changes calls more c d done → GoesBy may calls more
    runs_go changes calls more c d done all ran = subst (GoesBy may calls) (sym ran.grew) (goes calls ran.made (runs_at changes calls more c d done all ran))

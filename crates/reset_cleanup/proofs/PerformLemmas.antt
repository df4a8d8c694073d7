-- Removals, one after another.
use Rattle.std.proofs.Common.{◌≡◌, List, [], ◌∷◌, map, Result, Ok, Err, sym, subst}
use Rattle.cluster_tree.specs.Change.{Change, Removes}
use Rattle.cluster_tree.specs.PathValue.{PathValue}
use Rattle.cluster_tree.specs.declared.tree.Tree.{Ghosts}
use Rattle.marked_runs.specs.Performed.{Performs}
use Rattle.marked_runs.specs.declared.faults.PerformFault.{PerformFault}
use Rattle.marked_runs.proofs.CarriedLemmas.{performs-front, performs-nothing, performs-then}

-- whatever the rest comes to, all come to
abbrev pub Goes : {F : Type 0} → Ghosts F → List PathValue → F → List PathValue → F → Type 0
Goes {F} tree all first paths now = (end : F) (r : Result (Unit {0}) PerformFault) → Performs tree (map Removes paths) now end r → Performs tree (map Removes all) first end r

pub goes-on : {F : Type 0} (tree : Ghosts F) (all old new : List PathValue) (x : PathValue) (first now next : F) (u : Unit {0}) → old ≡ x ∷ new → Goes tree all first old now → Performs tree (Removes x ∷ []) now next (Ok u) → Goes tree all first new next
goes-on tree all old new x first now next u is goes one end r more =
    goes end r (subst (λ l. Performs tree (map Removes l) now end r) (sym is) (performs-then tree (Removes x ∷ []) (map Removes new) now next end u r one more))

pub goes-broken : {F : Type 0} (tree : Ghosts F) (all old new : List PathValue) (x : PathValue) (first now next : F) (e : PerformFault) → old ≡ x ∷ new → Goes tree all first old now → Performs tree (Removes x ∷ []) now next (Err e) → Performs tree (map Removes all) first next (Err e)
goes-broken tree all old new x first now next e is goes one =
    goes next (Err e) (subst (λ l. Performs tree (map Removes l) now next (Err e)) (sym is) (performs-front tree (Removes x ∷ []) (map Removes new) now next e one))

pub goes-all : {F : Type 0} (tree : Ghosts F) (all old : List PathValue) (first now : F) → old ≡ [] → Goes tree all first old now → Performs tree (map Removes all) first now (Ok tt)
goes-all tree all old first now none goes = goes now (Ok tt) (subst (λ l. Performs tree (map Removes l) now now (Ok tt)) (sym none) (performs-nothing tree now))

-- equal changes
pub performs-same : {F : Type 0} (tree : Ghosts F) (xs ys : List Change) (a b : F) (r : Result (Unit {0}) PerformFault) → xs ≡ ys → Performs tree xs a b r → Performs tree ys a b r
performs-same tree xs ys a b r is one = subst (λ l. Performs tree l a b r) is one

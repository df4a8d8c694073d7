-- Going through points in order.
use Rattle.std.proofs.Common.{◌≡◌, List, [], ◌∷◌, Option, None, Some, ap}
use Rattle.cluster_tree.specs.Causes.{first_of}

pub first_of-some : {E : Type 0} (p : Option E) (e : E) (points : List (Option E)) → p ≡ Some e → first_of (p ∷ points) ≡ Some e
unfolding first_of
first_of-some p e points is = ap (λ q. first_of (q ∷ points)) is

pub first_of-none : {E : Type 0} (p : Option E) (points : List (Option E)) → p ≡ None → first_of (p ∷ points) ≡ first_of points
unfolding first_of
first_of-none p points is = ap (λ q. first_of (q ∷ points)) is

pub first_of-end : {E : Type 0} (none : List (Option E)) → none ≡ [] → first_of none ≡ None
unfolding first_of
first_of-end none is = ap first_of is

pub ruleset points = (first_of-some, first_of-none, first_of-end)

-- Names of a folder that wait.
use Rattle.std.proofs.Common.{◌≡◌, ℕ, zero, suc, List, [], ◌∷◌, take, slice_get, Some, refl, ap}
use Rattle.file_walk.specs.declared.place.Place.{Place}
use Rattle.file_walk.specs.declared.waiting.Waiting.{Waiting}
use Rattle.file_walk.specs.Waiting.{put_name, put_names}

-- one name more
pub put_more : (folder : Place) (entries : List (List ℕ × Waiting)) (names : List (List ℕ)) (i : ℕ) (name : List ℕ) → Some name ≡ slice_get names i
    → put_name folder (put_names folder entries (take i names)) name ≡ put_names folder entries (take (suc i) names)
unfolding put_names
put_more folder entries [] i name h = absurd cc
put_more folder entries (x ∷ names) zero name h = let same : name ≡ x = cc in ap (put_name folder entries) same
put_more folder entries (x ∷ names) (suc i) name h = put_more folder (put_name folder entries x) names i name h

pub put_none : (folder : Place) (entries : List (List ℕ × Waiting)) (names : List (List ℕ)) → entries ≡ put_names folder entries (take 0 names)
unfolding put_names
put_none folder entries names = refl

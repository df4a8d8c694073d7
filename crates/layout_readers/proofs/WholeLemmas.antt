-- A layout is whole exactly where its bytes are there.
use Rattle.std.proofs.Common.{◌≡◌, ◌≤◌, ℕ, Bool, true, false, cond, ltb, List, length, Some, None, refl}
use Rattle.std.proofs.lemmas.Bool.{le-ltb, ltb-false}
use Rattle.layout_readers.specs.Whole.{whole}

-- one that is whole has its bytes, and the value that stands there
pub record Whole {A : Type 0} (size : ℕ) (bytes : List ℕ) (value found : A) : Type 0 where
  pub room : size ≤ length bytes
  pub same : value ≡ found

pub whole_is : {A : Type 0} (size : ℕ) (bytes : List ℕ) (value found : A) → whole size bytes value ≡ Some found → Whole size bytes value found
whole_is size bytes value found e = by (ltb (length bytes) size) refl e
  where
    by : (b : Bool) → ltb (length bytes) size ≡ b → cond b None (Some value) ≡ Some found → Whole size bytes value found
    by true h e = absurd cc
    by false h e = record { room = ltb-false _ _ h; same = cc }

pub whole_there : {A : Type 0} (size : ℕ) (bytes : List ℕ) (value : A) → size ≤ length bytes → whole size bytes value ≡ Some value
whole_there size bytes value room = rw (le-ltb (length bytes) size room) refl

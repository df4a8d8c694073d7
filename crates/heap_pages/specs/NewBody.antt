-- What is made of the bytes of an UPDATE's new tuple, in a room of a page's size.
use Rattle.std.specs.Prelude.{ℕ, ◌≡◌, ◌<◌, ◌≤◌, List, Bool, true, false, length, take}
use Rattle.heap_pages.specs.declared.new_body.Body.{Body}
use Rattle.heap_pages.specs.declared.new_body.Body.TheVariants.{Misfit, TooLong, Built}

-- they stand at the front of the room
pub record IsBuilt (bytes room : List ℕ) (size : ℕ) : Type 0 where
  pub whole : size ≡ length bytes
  pub fits : size ≤ 8192
  pub front : take size room ≡ bytes

-- the parts of the old tuple fit or not, and the bytes are too many or not
abbrev pub IsBody : Bool → List ℕ → List ℕ → Body → Type 0
IsBody fit bytes room Misfit = fit ≡ false
IsBody fit bytes room TooLong = (fit ≡ true) × (8192 < length bytes)
IsBody fit bytes room (Built size) = (fit ≡ true) × IsBuilt bytes room size

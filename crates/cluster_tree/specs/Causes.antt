-- How an answer is tied to the one that is meant, and a fault to its cause. Own: "Answers and their causes".
use Rattle.std.specs.Prelude.{◌≡◌, ℕ, ◌-◌, ◌^◌, ◌<◌, ◌≤◌, ◌⊎◌, List, [], ◌∷◌, Option, None, Some, Result, Ok, Err, MatchResult}

-- the count rose, or stands at its last value
abbrev pub Rose : ℕ → ℕ → Type 0
Rose before after = (before < after) ⊎ (2 ^ 64 - 1 ≤ before)

-- it is one of these
abbrev pub IsAmong : {A : Type 0} → List A → A → Type 0
IsAmong [] x = ⊥
IsAmong (y ∷ ys) x = (x ≡ y) ⊎ IsAmong ys x

-- the first point that refuses
unfoldable pub first_of : {E : Type 0} → List (Option E) → Option E
first_of [] = None
first_of (Some refusal ∷ points) = Some refusal
first_of (None ∷ points) = first_of points

-- the answer, unless something is refused
abbrev pub unless : {A E : Type 0} → Option E → Result A E → Result A E
unless None answer = answer
unless (Some refusal) answer = Err refusal

-- the answer at what was read, unless that is refused
abbrev pub given : {A B E : Type 0} → Result A E → (A → Result B E) → Result B E
given (Ok v) answer = answer v
given (Err refusal) answer = Err refusal

-- the answer is the one that is meant, or one that is free: a device's fault, or want of memory
abbrev pub Meets : {A E : Type 0} → (E → Type 0) → Result A E → Result A E → Type 0
Meets IsFree meant result = MatchResult result (λ v. meant ≡ Ok v) (λ e. IsFree e ⊎ (meant ≡ Err e))

-- the same of what a buffer then holds
abbrev pub MeetsInto : {A B E : Type 0} → (E → Type 0) → Result A E → A → Result B E → Type 0
MeetsInto IsFree meant into result = MatchResult result (λ _. meant ≡ Ok into) (λ e. IsFree e ⊎ (meant ≡ Err e))

-- a test is passed where nothing is refused, and else refused so, or with an answer that is free
abbrev pub Passes : {A E : Type 0} → (E → Type 0) → Option E → Result A E → Type 0
Passes IsFree refusal result = MatchResult result (λ _. refusal ≡ None) (λ e. IsFree e ⊎ (refusal ≡ Some e))

-- Small blocks and logs, on which one premise of the law doesn't hold. A page is a list of numbers; its LSN is the first of them.
use Rattle.std.specs.Prelude.{ℕ, ◌+◌, List, [], ◌∷◌, true, false, Option, Some, None, Ok}
use Rattle.page_masks.specs.Law.{PageView}
use Rattle.replay_law.specs.Effect.{FullPageImage, Change, Gone, Step, At}

-- a page's LSN
abbrev pub first : List ℕ → ℕ
first [] = 0
first (n ∷ rest) = n

-- a page's LSN, and one more than its number
abbrev pub one_more : List ℕ → List ℕ
one_more (at ∷ number ∷ rest) = at ∷ (number + 1) ∷ []
one_more page = page

-- a page's third number
abbrev pub third : List ℕ → ℕ
third (a ∷ b ∷ c ∷ rest) = c
third page = 0

-- what is shown of a page but for its LSN: the second number
abbrev pub second : List ℕ → List ℕ
second (a ∷ b ∷ rest) = b ∷ []
second page = []

-- every page is sound, and the mask shows all
abbrev pub clear_view : PageView
clear_view = record { is_page = λ p. true; lsn = first; mask = λ p. p; sound = λ p. true }

-- no page is sound, and the mask shows the second number
abbrev pub unsound_view : PageView
unsound_view = record { is_page = λ p. true; lsn = first; mask = second; sound = λ p. false }

-- a page with this LSN and nothing else
abbrev pub bare : ℕ → Option (List ℕ)
bare at = Some (at ∷ [])

-- a page with this LSN and a number
abbrev pub numbered : ℕ → ℕ → Option (List ℕ)
numbered at number = Some (at ∷ number ∷ [])

-- a record with this end puts a number on the page
abbrev pub puts : ℕ → ℕ → Step
puts end number = At end (Change (λ p. Ok (end ∷ number ∷ [])))

-- one change
abbrev pub one_change : List Step
one_change = puts 1 9 ∷ []

-- two changes by records with one end
abbrev pub equal_ends : List Step
equal_ends = puts 1 8 ∷ puts 1 9 ∷ []

-- a change that leaves the page's LSN as it was
abbrev pub keeps_lsn : List Step
keeps_lsn = At 1 (Change (λ p. Ok (one_more p))) ∷ []

-- a change, and then an image of zeros
abbrev pub then_zeros : List Step
then_zeros = puts 1 9 ∷ At 2 (FullPageImage None) ∷ []

-- a change that shows the third number as the second
abbrev pub shows_third : List Step
shows_third = At 1 (Change (λ p. Ok (1 ∷ third p ∷ []))) ∷ []

-- two pages of one LSN that differ where the mask of the unsound view doesn't show it
abbrev pub with_third : ℕ → Option (List ℕ)
with_third number = Some (0 ∷ 5 ∷ number ∷ [])

-- two changes, and then the block is gone
abbrev pub then_gone : List Step
then_gone = puts 1 9 ∷ puts 2 8 ∷ At 3 Gone ∷ []

-- two changes
abbrev pub two_changes : List Step
two_changes = puts 1 9 ∷ puts 2 8 ∷ []

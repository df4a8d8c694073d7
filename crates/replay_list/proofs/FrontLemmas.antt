-- What the lines at the front say.
use Rattle.std.proofs.Common.{◌≡◌, ℕ, ◌+◌, ◌<◌, ◌≤◌, List, [], ◌∷◌, ◌++◌, length, drop, map, slice_range, None, Some, Ok, refl, sym, ap, ◌∙◌, arith, append_assoc, length-append, length-drop}
use Rattle.std.proofs.lemmas.List.{append-nil, drop-drop}
use Rattle.cluster_tree.specs.PathValue.{PathValue}
use Rattle.mark_lines.specs.Lines.{and_then, led_by}
use Rattle.mark_lines.proofs.LineLemmas.{behind}
use Rattle.replay_list.specs.declared.listed.Listed.{Listed}
use Rattle.replay_list.specs.declared.listed.Listed.TheVariants.{Folder, Page, File}
use Rattle.replay_list.specs.Lines.{files_behind, way_to}
use Rattle.replay_list.specs.Reading.{closing_in, first_listed, front_in, listed_from, listed_of}

-- a line has at least two words, and fewer than five
pub without_words : (root : PathValue) (files : ℕ) (words : List (List ℕ)) → length words < 2 → None ≡ listed_of root files words
without_words root files [] few = refl
without_words root files (a ∷ []) few = refl
without_words root files (a ∷ b ∷ words) few = absurd (omega (arith, few))

pub with_more : (root : PathValue) (files : ℕ) (words : List (List ℕ)) → 5 ≤ length words → None ≡ listed_of root files words
with_more root files [] many = absurd (omega (arith, many))
with_more root files (a ∷ []) many = absurd (omega (arith, many))
with_more root files (a ∷ b ∷ []) many = absurd (omega (arith, many))
with_more root files (a ∷ b ∷ c ∷ []) many = absurd (omega (arith, many))
with_more root files (a ∷ b ∷ c ∷ d ∷ []) many = absurd (omega (arith, many))
with_more root files (a ∷ b ∷ c ∷ d ∷ e ∷ words) many = refl

-- a line in its place, and those behind it
pub led : (root : PathValue) (last : List ℕ) (files : ℕ) (pieces : List (List ℕ)) (one : Listed) → first_listed root last files pieces ≡ Some one
    → (0 < length pieces) × (front_in root last files pieces ≡ one ∷ front_in root (way_to root one) (files_behind files one) (drop 1 pieces))
unfolding front_in
led root last files [] one e = absurd cc
led root last files (line ∷ []) one e = absurd cc
led root last files (line ∷ next ∷ more) one e = (omega arith, ap (λ o. led_by o (λ l. front_in root (way_to root l) (files_behind files l) (next ∷ more))) e)

-- .. or none
pub ended : (root : PathValue) (last : List ℕ) (files : ℕ) (pieces : List (List ℕ)) → first_listed root last files pieces ≡ None → front_in root last files pieces ≡ []
unfolding front_in
ended root last files [] e = refl
ended root last files (line ∷ []) e = refl
ended root last files (line ∷ next ∷ more) e = ap (λ o. led_by o (λ l. front_in root (way_to root l) (files_behind files l) (next ∷ more))) e

-- so one more was read
pub one_more : (root : PathValue) (last way : List ℕ) (files count : ℕ) (done more all : List Listed) (pieces : List (List ℕ)) (one : Listed)
    → Some one ≡ first_listed root last files (drop (length done) pieces) → all ≡ done ++ front_in root last files (drop (length done) pieces)
    → more ≡ done ++ one ∷ [] → way ≡ way_to root one → count ≡ files_behind files one → all ≡ more ++ front_in root way count (drop (length more) pieces)
one_more root last way files count done more all pieces one e h pushed moved counted =
    let front = (led root last files (drop (length done) pieces) one (sym e)).1 in
    let size : length done + 1 ≡ length (done ++ one ∷ []) = omega (arith, length-append done (one ∷ [])) in
    let rest : drop 1 (drop (length done) pieces) ≡ drop (length (done ++ one ∷ [])) pieces = drop-drop 1 (length done) pieces ∙ ap (λ n. drop n pieces) size in
    let next : all ≡ (done ++ one ∷ []) ++ front_in root (way_to root one) (files_behind files one) (drop (length (done ++ one ∷ [])) pieces) =
    h ∙ ap (λ x. done ++ x) (front ∙ ap (λ p. one ∷ front_in root (way_to root one) (files_behind files one) p) rest)
    ∙ sym (append_assoc done (one ∷ []) (front_in root (way_to root one) (files_behind files one) (drop (length (done ++ one ∷ [])) pieces))) in
    next ∙ (λ i. (done ++ one ∷ []) ++ front_in root (sym moved i) (sym counted i) (drop (length (done ++ one ∷ [])) pieces))
    ∙ ap (λ d. d ++ front_in root way count (drop (length d) pieces)) (sym pushed)

pub one_within : (root : PathValue) (last : List ℕ) (files n : ℕ) (pieces : List (List ℕ)) (one : Listed) → Some one ≡ first_listed root last files (drop n pieces) → n + 1 ≤ length pieces
one_within root last files n pieces one e = omega (arith, (led root last files (drop n pieces) one (sym e)).0, length-drop n pieces)

-- and none is left
pub no_more : (root : PathValue) (last : List ℕ) (files : ℕ) (done all : List Listed) (pieces : List (List ℕ))
    → None ≡ first_listed root last files (drop (length done) pieces) → all ≡ done ++ front_in root last files (drop (length done) pieces) → done ≡ all
no_more root last files done all pieces e h = sym (h ∙ ap (λ x. done ++ x) (ended root last files (drop (length done) pieces) (sym e)) ∙ append-nil done)

-- a file more at most
pub counted_more : (files : ℕ) (one : Listed) → files_behind files one ≤ files + 1
counted_more files (Folder path) = omega arith
counted_more files (Page path size) = omega arith
counted_more files (File path size) = omega arith

-- what stands behind the lines at the front
pub closed : (root : PathValue) (pieces : List (List ℕ)) (listed : List Listed) → listed ≡ front_in root [] 0 pieces
    → listed_from root pieces ≡ and_then (closing_in (length listed + 1) (drop (length listed) pieces)) (λ end. Ok listed)
closed root pieces listed e = ap (λ x. and_then (closing_in (length x + 1) (drop (length x) pieces)) (λ end. Ok x)) (sym e)

pub closing_behind : {X : Type 0} (f : X → List ℕ) (pieces : List X) (k l n : ℕ) → k ≡ n → l ≡ n
    → closing_in (k + 1) (map f (slice_range pieces l (length pieces))) ≡ closing_in (n + 1) (drop n (map f pieces))
closing_behind f pieces k l n e g = ap (λ m. closing_in (m + 1) (map f (slice_range pieces l (length pieces)))) e ∙ ap (closing_in (n + 1)) (behind f pieces l n g)

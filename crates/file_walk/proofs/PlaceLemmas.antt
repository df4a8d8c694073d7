-- Texts and first parts of the paths of names in a folder.
use Rattle.std.proofs.Common.{◌≡◌, ℕ, ◌<◌, ◌≤◌, false, List, [], ◌∷◌, ◌++◌, length, take, refl, ap, sym, ◌∙◌, arith, length-append, take_all}
use Rattle.std.proofs.Math.Seq.{take-append_seam}
use Rattle.cluster_tree.specs.PathValue.{PathValue, below, front, path_text, text_of}
use Rattle.cluster_tree.proofs.OrderLemmas.{same_path}
use Rattle.cluster_tree.proofs.TextLemmas.{join_with_byte-more}

first_text : (parts : List (List ℕ)) (name : List ℕ) → length parts ≡ 0 → text_of false (parts ++ name ∷ []) ≡ name
first_text [] name h = refl
first_text (part ∷ parts) name h = absurd (omega arith)

more_text : (parts : List (List ℕ)) (name : List ℕ) → 0 < length parts → text_of false parts ++ 47 ∷ name ≡ text_of false (parts ++ name ∷ [])
more_text [] name h = absurd (omega arith)
more_text (part ∷ parts) name h = sym (join_with_byte-more 47 part parts name)

-- the text of a name in a folder: by itself at the root, and else behind the folder's
pub text_at_root : (own : PathValue) (name : List ℕ) → own.absolute ≡ false → length own.parts ≡ 0 → path_text (below own (name ∷ [])) ≡ name
text_at_root own name mark h = ap (λ b. text_of b (own.parts ++ name ∷ [])) mark ∙ first_text own.parts name h

pub text_below : (own : PathValue) (name : List ℕ) → own.absolute ≡ false → 0 < length own.parts → path_text own ++ 47 ∷ name ≡ path_text (below own (name ∷ []))
text_below own name mark h =
    ap (λ b. text_of b own.parts ++ 47 ∷ name) mark ∙ more_text own.parts name h ∙ sym (ap (λ b. text_of b (own.parts ++ name ∷ [])) mark)

-- the first 64 parts
pub front_whole : (own : PathValue) (name : List ℕ) → length own.parts < 64 → below own (name ∷ []) ≡ front 64 (below own (name ∷ []))
front_whole own name h =
    let short : length (own.parts ++ name ∷ []) ≤ 64 = omega (arith, length-append own.parts (name ∷ [])) in
    same_path (below own (name ∷ [])) (front 64 (below own (name ∷ []))) refl (sym (take_all 64 (own.parts ++ name ∷ []) short))

pub front_cut : (own : PathValue) (name : List ℕ) → length own.parts ≡ 64 → own ≡ front 64 (below own (name ∷ []))
front_cut own name h =
    same_path own (front 64 (below own (name ∷ []))) refl
    (sym (ap (λ n. take n (own.parts ++ name ∷ [])) (sym h) ∙ take-append_seam own.parts (name ∷ [])))

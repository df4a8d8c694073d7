-- A byte that is read, and laid over the file as something is made of it.
use Rattle.std.proofs.Common.{◌≡◌, ℕ, ◌<◌, List, [], ◌∷◌, ◌++◌, length, take, drop, get_or, slice_index, replicate, Option, None, Some, Result, Ok, Err, refl, ap, sym, subst, ◌∙◌, inl, inr, arith}
use Rattle.std.proofs.lemmas.Grind.{common_steps}
use Rattle.cluster_tree.specs.PathValue.{PathValue, Holds}
use Rattle.cluster_tree.specs.Causes.{given}
use Rattle.cluster_tree.specs.Contents.{Contents, Entry, FolderEntry, FileEntry, LinkEntry, entry_at}
use Rattle.cluster_tree.specs.Tree.{bytes_in, bytes_at}
use Rattle.cluster_tree.specs.declared.file_fault.FileFault.{FileFault}
use Rattle.cluster_tree.specs.declared.file_fault.FileFault.TheVariants as fault
use Rattle.file_edits.specs.Answers.{Does}
use Rattle.file_edits.specs.Asking.{file_asked, filled_from, read_of, read_asked}
use Rattle.file_edits.specs.Edits.{edited, file_edited, laid, way_for}
use Rattle.file_edits.proofs.AnswerLemmas.{Why, does-is}
use Rattle.file_edits.proofs.TwiceLemmas.{edited-same}

one_front : (xs : List ℕ) → take 1 (xs ++ replicate 1 0) ≡ get_or xs 0 0 ∷ []
one_front [] = refl
one_front (x ∷ xs) = refl

first_drop : (at : ℕ) (xs : List ℕ) → get_or (drop at xs) 0 0 ≡ get_or xs at 0
first_drop at xs = grind (arith, common_steps)

one_byte : (at : ℕ) (xs : List ℕ) → filled_from at 1 xs ≡ slice_index xs at ∷ []
one_byte at xs = one_front (drop at xs) ∙ ap (λ b. b ∷ []) (first_drop at xs)

pub read_into : (o : Option Entry) (path : PathValue) (at n : ℕ) (into : List ℕ) → read_of at n (bytes_in o) (file_asked path o) ≡ Ok into → into ≡ filled_from at n (bytes_in o)
read_into None path at n into is = cc
read_into (Some (FolderEntry bad)) path at n into is = absurd cc
read_into (Some (FileEntry bytes)) path at n into is = cc
read_into (Some LinkEntry) path at n into is = absurd cc

-- a file that isn't read isn't edited

refused : (o : Option Entry) (path : PathValue) (at n : ℕ) (e : FileFault) → read_of at n (bytes_in o) (file_asked path o) ≡ Err e → file_asked path o ≡ Err e
refused None path at n e is = absurd cc
refused (Some (FolderEntry bad)) path at n e is = let same : fault.IsFolder path ≡ e = cc in ap (λ x. Err x) same
refused (Some (FileEntry bytes)) path at n e is = absurd cc
refused (Some LinkEntry) path at n e is = let same : fault.Link path ≡ e = cc in ap (λ x. Err x) same

pub read-refused : (root path : PathValue) (edit : List ℕ → List ℕ) (c : Contents) (at n : ℕ) (e : FileFault) → Why (read_asked c path at n) e → Why (file_edited root path edit c) e
unfolding file_edited
read-refused root path edit c at n e (inl free) = inl free
read-refused root path edit c at n e (inr is) = inr (ap (λ r. given (given r (way_for root path c)) (λ d. Ok (edited path edit d))) (refused (entry_at c path) path at n e is))

-- what is made of the byte that was read
pub made-laid : {A : Type 0} (root path : PathValue) (edit : List ℕ → List ℕ) (make : ℕ → List ℕ) (size at : ℕ) (into bytes : List ℕ) (c d new : Contents) (r : Result A FileFault)
    → Holds root path → length root.parts < length path.parts → read_asked c path at 1 ≡ Ok into → bytes ≡ make (slice_index into 0) → d ≡ c
    → edit (bytes_at c path) ≡ laid size at (make (slice_index (bytes_at c path) at)) (bytes_at c path)
    → Does (file_edited root path (laid size at bytes) d) new r → Does (file_edited root path edit c) new r
made-laid root path edit make size at into bytes c d new r held deeper read made still meant done =
    let got : into ≡ slice_index (bytes_at c path) at ∷ [] = read_into (entry_at c path) path at 1 into read ∙ one_byte at (bytes_at c path) in
    let whole : make (slice_index (bytes_at c path) at) ≡ bytes = sym (made ∙ ap (λ (xs : List ℕ). make (slice_index xs 0)) got) in
    does-is (file_edited root path (laid size at bytes) c) _ new r
    (edited-same root path edit (laid size at bytes) c held deeper (meant ∙ ap (λ bs. laid size at bs (bytes_at c path)) whole))
    (subst (λ x. Does (file_edited root path (laid size at bytes) x) new r) still done)

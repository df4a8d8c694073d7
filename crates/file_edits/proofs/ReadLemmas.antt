-- Bytes of a file, with zeros past its end.
use Rattle.std.proofs.Common.{◌≡◌, ℕ, ◌+◌, ◌-◌, ◌<◌, ◌≤◌, min, true, false, cond, nat_lt, List, ◌++◌, length, take, drop, replicate, Option, None, Some, Result, Ok, Err, unwrap_or, refl, ap, ap₂, sym, ◌∙◌, inl, ⊎_elim, arith, rules}
use Rattle.std.proofs.lemmas.Grind.{common_steps}
use Rattle.std.proofs.lemmas.Bool.Decides.{nat_tests}
use Rattle.std.proofs.lemmas.List.{take-replicate, drop-replicate, length-drop}
use Rattle.std.proofs.Math.Seq.{take-append-add, take-length}
use Rattle.std.proofs.Math.Nat.{min-le_left}
use Rattle.cluster_tree.specs.Causes.{MeetsInto}
use Rattle.cluster_tree.specs.declared.file_fault.FileFault.{FileFault}
use Rattle.file_edits.specs.Answers.{IsFree}
use Rattle.cluster_tree.specs.PathValue.{PathValue}
use Rattle.cluster_tree.specs.Contents.{Entry, FolderEntry, FileEntry, LinkEntry, is_file}
use Rattle.cluster_tree.specs.Tree.{file_of, range_of, bytes_in}
use Rattle.cluster_tree.specs.declared.tree.TreeFault.TheVariants as tree_fault
use Rattle.file_edits.specs.Asking.{filled_from, file_asked, size_asked, read_of}

within : (n m : ℕ) → m ≤ n → nat_lt n m ≡ false
within n m l = grind (arith, rules)

pub range-there : (o : Option Entry) (at n : ℕ) → is_file o ≡ true → at + n ≤ length (bytes_in o) → range_of (file_of o) at n ≡ Ok (take n (drop at (bytes_in o)))
range-there None at n is l = absurd cc
range-there (Some (FolderEntry bad)) at n is l = absurd cc
range-there (Some (FileEntry bytes)) at n is l = ap (λ b. cond b (Err tree_fault.PastEnd) (Ok (take n (drop at bytes)))) (within (length bytes) (at + n) l)
range-there (Some LinkEntry) at n is l = absurd cc

pub ruleset there_steps = range-there

pub agree : {A E : Type 0} (r : Result A E) (x y : A) → r ≡ Ok x → r ≡ Ok y → x ≡ y
agree r x y e f = cc

-- bytes, and zeros where they are too few
whole : (xs zs : List ℕ) (n : ℕ) → length xs ≤ n → take n (xs ++ zs) ≡ xs ++ take (n - length xs) zs
whole xs zs n l = let m : ℕ = n - length xs in let sum : n ≡ length xs + m = omega arith in ap (λ k. take k (xs ++ zs)) sum ∙ take-append-add xs zs m

few : (xs : List ℕ) (n : ℕ) → length xs ≤ n → take (length xs) xs ++ drop (length xs) (replicate n 0) ≡ take n (xs ++ replicate n 0)
few xs n l =
    let back : take n (xs ++ replicate n 0) ≡ xs ++ replicate (n - length xs) 0 = whole xs (replicate n 0) n l ∙ ap (λ zs. xs ++ zs) (take-replicate (n - length xs) n 0 (omega arith)) in
    ap₂ (λ a b. a ++ b) (take-length xs) (drop-replicate (length xs) n 0) ∙ sym back

enough : (xs : List ℕ) (n : ℕ) → n ≤ length xs → take n xs ++ drop n (replicate n 0) ≡ take n (xs ++ replicate n 0)
enough xs n l = grind (arith, common_steps)

first_of_zeros : (xs : List ℕ) (n count : ℕ) → count ≡ min (length xs) n → take count xs ++ drop count (replicate n 0) ≡ take n (xs ++ replicate n 0)
first_of_zeros xs n count is = elim (nat_lt n (length xs)) as (λ b. nat_lt n (length xs) ≡ b → take count xs ++ drop count (replicate n 0) ≡ take n (xs ++ replicate n 0)) [
  | true ↦ λ e. let least : count ≡ n = grind (arith, nat_tests) in ap (λ k. take k xs ++ drop k (replicate n 0)) least ∙ enough xs n (grind (arith, nat_tests))
  | false ↦ λ e. let least : count ≡ length xs = grind (arith, nat_tests) in ap (λ k. take k xs ++ drop k (replicate n 0)) least ∙ few xs n (grind (arith, nat_tests))
] refl

pub filled : (at n count : ℕ) (bytes zeros : List ℕ) → count ≡ min (length bytes - at) n → zeros ≡ replicate n 0 → take count (drop at bytes) ++ drop count zeros ≡ filled_from at n bytes
filled at n count bytes zeros is none = ap (λ zs. take count (drop at bytes) ++ drop count zs) none ∙ first_of_zeros (drop at bytes) n count (is ∙ ap (λ k. min k n) (sym (length-drop at bytes)))

-- what a file's front gives, where the rest is zeros
pub filled-exact : (path : PathValue) (o : Option Entry) (found : Option ℕ) (at n count k : ℕ) (zeros part : List ℕ) (r : Result (Unit {0}) FileFault)
    → size_asked (file_asked path o) ≡ Ok found → count ≡ min (unwrap_or found 0 - at) n → k ≡ count → 0 < unwrap_or found 0 - at → zeros ≡ replicate n 0
    → (is_file o ≡ true → at + k ≤ length (bytes_in o) → MeetsInto IsFree (Ok (take k (drop at (bytes_in o)))) part r)
    → MeetsInto IsFree (read_of at n (bytes_in o) (file_asked path o)) (part ++ drop count zeros) r
filled-exact path None found at n count k zeros part r asked fits same some none there = absurd (omega (arith, ap (λ o. unwrap_or o 0) (agree _ None found refl asked)))
filled-exact path (Some (FolderEntry bad)) found at n count k zeros part r asked fits same some none there = absurd cc
filled-exact path (Some LinkEntry) found at n count k zeros part r asked fits same some none there = absurd cc
filled-exact path (Some (FileEntry bytes)) found at n count k zeros part (Ok v) asked fits same some none there =
    let size = ap (λ o. unwrap_or o 0) (agree _ found (Some (length bytes)) asked refl) in
    let got : part ≡ take k (drop at bytes) = sym (agree _ _ part refl (there refl (omega (arith, min-le_left (unwrap_or found 0 - at) n)))) in
    ap (λ b. Ok b) (sym (ap₂ (λ a b. a ++ drop count b) (got ∙ ap (λ j. take j (drop at bytes)) same) refl ∙ filled at n count bytes zeros (fits ∙ ap (λ j. min (j - at) n) size) none))
filled-exact path (Some (FileEntry bytes)) found at n count k zeros part (Err e) asked fits same some none there =
    let size = ap (λ o. unwrap_or o 0) (agree _ found (Some (length bytes)) asked refl) in
    ⊎_elim (λ free. inl free) (λ no. absurd cc) (there refl (omega (arith, min-le_left (unwrap_or found 0 - at) n)))

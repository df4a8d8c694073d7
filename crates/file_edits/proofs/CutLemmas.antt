-- Files that are cut.
use Rattle.std.proofs.Common.{◌≡◌, ◌≢◌, ℕ, ◌<◌, ◌≤◌, List, length, take, unwrap_or, Option, None, Some, Result, Ok, Err, ap, sym, ◌∙◌, inl, inr, arith}
use Rattle.std.proofs.lemmas.Grind.{common_steps}
use Rattle.std.specs.FinMap.{insert}
use Rattle.cluster_tree.specs.PathValue.{PathValue}
use Rattle.cluster_tree.specs.Causes.{given}
use Rattle.cluster_tree.specs.Contents.{Contents, FileEntry, entry_at}
use Rattle.cluster_tree.specs.Tree.{bytes_at, cut_refusal, shortened}
use Rattle.cluster_tree.specs.declared.file_fault.FileFault.{FileFault}
use Rattle.cluster_tree.proofs.ContentsLemmas.{entry-put, entry-put_other}
use Rattle.file_edits.specs.Answers.{Does}
use Rattle.file_edits.specs.Asking.{file_asked, size_asked}
use Rattle.file_edits.specs.Edits.{cut_to, file_cut}
use Rattle.file_edits.proofs.AnswerLemmas.{Why, does-is}
use Rattle.file_edits.proofs.EditLemmas.{bytes_there, file_there, none_is, past_end, put-same, refused_asked, size-there, size_is}

pub cut-refused : (path : PathValue) (size : ℕ) (c : Contents) (e : FileFault) → Why (size_asked (file_asked path (entry_at c path))) e → Why (file_cut path size c) e
unfolding file_cut
cut-refused path size c e (inl free) = inl free
cut-refused path size c e (inr is) = inr (ap (λ r. given r (cut_to path size c)) (refused_asked path (entry_at c path) e is))

all : (bytes : List ℕ) (size : ℕ) → length bytes ≤ size → take size bytes ≡ bytes
all bytes size l = grind (arith, common_steps)

pub cut-whole : (path : PathValue) (size : ℕ) (c : Contents) (found : Option ℕ) → size_asked (file_asked path (entry_at c path)) ≡ Ok found → unwrap_or found 0 ≤ size → file_cut path size c ≡ Ok c
unfolding file_cut
cut-whole path size c None is l = ap (λ r. given r (cut_to path size c)) (none_is path (entry_at c path) is)
cut-whole path size c (Some n) is l =
    let sized = size-there path (entry_at c path) n is in
    let there = bytes_there (entry_at c path) n sized in
    ap (λ r. given r (cut_to path size c)) (file_there path (entry_at c path) there)
    ∙ ap (λ b. Ok (insert c path (FileEntry b))) (all (bytes_at c path) size (omega (arith, l, size_is (entry_at c path) n sized)))
    ∙ ap (λ d. Ok d) (put-same c path (bytes_at c path) there)

pub cut-longer : {A : Type 0} (path : PathValue) (size : ℕ) (c new : Contents) (r : Result A FileFault) (found : Option ℕ) → size_asked (file_asked path (entry_at c path)) ≡ Ok found → size < unwrap_or found 0 → (cut_refusal c path size ≡ None → Does (Ok (shortened c path size)) new r) → Does (file_cut path size c) new r
unfolding file_cut
cut-longer path size c new r None is l done = absurd (omega (arith, l))
cut-longer path size c new r (Some n) is l done =
    let sized = size-there path (entry_at c path) n is in
    does-is (Ok (shortened c path size)) _ new r
    (ap (λ r. given r (cut_to path size c)) (file_there path (entry_at c path) (bytes_there (entry_at c path) n sized)))
    (done (past_end (entry_at c path) n size sized (omega (arith, l))))

-- what stands then

by_cut : {P : Type 0} (path : PathValue) (size : ℕ) (c d : Contents) → file_cut path size c ≡ Ok d → (d ≡ c → P) → ((bytes : List ℕ) → d ≡ insert c path (FileEntry bytes) → P) → P
unfolding file_cut
by_cut {P} path size c d made still cut =
    elim (file_asked path (entry_at c path)) as (λ r. given r (cut_to path size c) ≡ Ok d → P) [
      | Ok found ↦ elim found as (λ o. cut_to path size c o ≡ Ok d → P) [
        | None ↦ λ is. still (let same : c ≡ d = cc in sym same)
        | Some bytes ↦ λ is. cut (take size bytes) (let same : insert c path (FileEntry (take size bytes)) ≡ d = cc in sym same)
      ]
      | Err f ↦ λ is. absurd cc
    ] made

pub cut-stands : (path : PathValue) (size : ℕ) (bytes : List ℕ) (c d : Contents) → entry_at c path ≡ Some (FileEntry bytes) → file_cut path size c ≡ Ok d → entry_at d path ≡ Some (FileEntry (take size bytes))
unfolding file_cut
cut-stands path size bytes c d there made =
    let is : cut_to path size c (Some bytes) ≡ Ok d = sym (ap (λ o. given (file_asked path o) (cut_to path size c)) there) ∙ made in
    let same : insert c path (FileEntry (take size bytes)) ≡ d = cc in
    ap (λ x. entry_at x path) (sym same) ∙ entry-put c path (FileEntry (take size bytes))

pub cut-none : (path : PathValue) (size : ℕ) (c : Contents) → entry_at c path ≡ None → file_cut path size c ≡ Ok c
unfolding file_cut
cut-none path size c none = ap (λ o. given (file_asked path o) (cut_to path size c)) none

pub cut-elsewhere : (path : PathValue) (size : ℕ) (c d : Contents) (q : PathValue) → file_cut path size c ≡ Ok d → q ≢ path → entry_at d q ≡ entry_at c q
cut-elsewhere path size c d q made other = by_cut path size c d made
    (λ is. ap (λ x. entry_at x q) is)
    (λ bytes is. ap (λ x. entry_at x q) is ∙ entry-put_other c path q (FileEntry bytes) other)

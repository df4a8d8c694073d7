-- Edits of one file that make the same of it, and one edit after another.
use Rattle.std.proofs.Common.{◌≡◌, ℕ, ◌<◌, List, length, Some, None, Ok, Err, refl, ap, sym, ◌∙◌}
use Rattle.std.specs.FinMap.{insert}
use Rattle.cluster_tree.specs.PathValue.{PathValue, Holds}
use Rattle.cluster_tree.specs.Causes.{given}
use Rattle.cluster_tree.specs.Contents.{Contents, FileEntry, entry_at}
use Rattle.cluster_tree.specs.Tree.{bytes_in, bytes_at}
use Rattle.cluster_tree.specs.declared.file_fault.FileFault.{FileFault}
use Rattle.cluster_tree.proofs.ContentsLemmas.{entry-put, put-put}
use Rattle.file_edits.specs.Asking.{file_asked}
use Rattle.file_edits.specs.Edits.{edited, file_edited, way_for, way_made}
use Rattle.file_edits.proofs.WayLemmas.{way-ready}

-- edits that make the same of the file that is there are the same
pub edited-same : (root path : PathValue) (edit other : List ℕ → List ℕ) (c : Contents) → Holds root path → length root.parts < length path.parts → edit (bytes_at c path) ≡ other (bytes_at c path) → file_edited root path edit c ≡ file_edited root path other c
unfolding file_edited
edited-same root path edit other c held deeper same =
    elim (file_asked path (entry_at c path)) as (λ r. given (given r (way_for root path c)) (λ d. Ok (edited path edit d)) ≡ given (given r (way_for root path c)) (λ d. Ok (edited path other d))) [
      | Ok found ↦ elim found as (λ o. given (way_for root path c o) (λ d. Ok (edited path edit d)) ≡ given (way_for root path c o) (λ d. Ok (edited path other d))) [
        | Some bytes ↦ ap (λ b. Ok (insert c path (FileEntry b))) same
        | None ↦ elim (way_made root path c) as (λ w. way_made root path c ≡ w → given w (λ d. Ok (edited path edit d)) ≡ given w (λ d. Ok (edited path other d))) [
          | Ok d ↦ λ made.
              let still = ap bytes_in (way-ready root path c d held deeper made).0 in
              ap (λ b. Ok (insert d path (FileEntry b))) (ap edit still ∙ same ∙ ap other (sym still))
          | Err f ↦ λ made. refl
        ] refl
      ]
      | Err f ↦ refl
    ]

-- one edit after another

put-edited : (root path : PathValue) (g : List ℕ → List ℕ) (e : Contents) (bytes : List ℕ) → file_edited root path g (insert e path (FileEntry bytes)) ≡ Ok (insert e path (FileEntry (g bytes)))
unfolding file_edited
put-edited root path g e bytes =
    let x : Contents = insert e path (FileEntry bytes) in
    ap (λ o. given (given (file_asked path o) (way_for root path x)) (λ d. Ok (edited path g d))) (entry-put e path (FileEntry bytes))
    ∙ ap (λ o. Ok (insert x path (FileEntry (g (bytes_in o))))) (entry-put e path (FileEntry bytes))
    ∙ ap (λ d. Ok d) (put-put e path (FileEntry bytes) (FileEntry (g bytes)))

-- the second edit is one of what the first made
pub edited-again : (root path : PathValue) (f g : List ℕ → List ℕ) (c d : Contents) → file_edited root path f c ≡ Ok d → file_edited root path (λ b. g (f b)) c ≡ file_edited root path g d
unfolding file_edited
edited-again root path f g c d made =
    elim (given (file_asked path (entry_at c path)) (way_for root path c)) as (λ r. given r (λ e. Ok (edited path f e)) ≡ Ok d → given r (λ e. Ok (edited path (λ b. g (f b)) e)) ≡ file_edited root path g d) [
      | Ok e ↦ λ is. let same : edited path f e ≡ d = cc in sym (put-edited root path g e (f (bytes_at e path))) ∙ ap (file_edited root path g) same
      | Err x ↦ λ is. absurd cc
    ] made

-- and where one edit is refused, so is every other
pub edited-fails : (root path : PathValue) (f g : List ℕ → List ℕ) (c : Contents) (e : FileFault) → file_edited root path f c ≡ Err e → file_edited root path g c ≡ Err e
unfolding file_edited
edited-fails root path f g c e is =
    elim (given (file_asked path (entry_at c path)) (way_for root path c)) as (λ r. given r (λ d. Ok (edited path f d)) ≡ Err e → given r (λ d. Ok (edited path g d)) ≡ Err e) [
      | Ok d ↦ λ no. absurd cc
      | Err x ↦ λ no. let same : x ≡ e = cc in ap (λ y. Err y) same
    ] is

-- The names of those that go, of a listing.
use Rattle.std.proofs.Common.{◌≡◌, ◌∙◌, ℕ, ◌&&◌, Bool, true, false, cond, List, [], ◌∷◌, filter, Option, None, Some, option_map, unwrap_or, refl, ap}
use Rattle.std.specs.List.{list_all}
use Rattle.archive_names.specs.Cleanup.{goes, kept_of, removed_by_cleanup}
use Rattle.cluster_tree.specs.Contents.{Contents}
use Rattle.cluster_tree.specs.Folders.{IsListing}
use Rattle.cluster_tree.proofs.NamesLemmas.{listing_names}
use Rattle.commands.specs.declared.archivecleanup.ArchivecleanupWords.{ArchivecleanupWords}
use Rattle.cmd_archivecleanup.specs.Archivecleanup.{gone, going}
use Rattle.cmd_archivecleanup.proofs.PartLemmas.{both_true}

taken_out : (g : List (List ℕ)) (o : Option (List (List ℕ))) → Some g ≡ o → g ≡ unwrap_or o []
taken_out g None e = absurd (cc e)
taken_out g (Some h) e = cc e

-- the names that were found of those that were listed
pub gone_of : (words : ArchivecleanupWords) (names found : List (List ℕ)) (extension : Option (List ℕ)) → extension ≡ words.extension → Some found ≡ removed_by_cleanup names words.kept extension → found ≡ going names words
gone_of words names found extension same e =
    taken_out found (removed_by_cleanup names words.kept extension) e ∙ ap (λ x. unwrap_or (removed_by_cleanup names words.kept x) []) same

-- and of a listing
pub gone_listed : (c : Contents) (words : ArchivecleanupWords) (names found : List (List ℕ)) (extension : Option (List ℕ)) → IsListing c words.folder names → extension ≡ words.extension → Some found ≡ removed_by_cleanup names words.kept extension → found ≡ gone c words
unfolding gone
gone_listed c words names found extension listing same e = gone_of words names found extension same e ∙ ap (λ l. going l words) (listing_names c words.folder names listing)

kept_filter : (p q : List ℕ → Bool) (xs : List (List ℕ)) → list_all p xs ≡ true → list_all p (filter q xs) ≡ true
kept_filter p q [] all = refl
kept_filter p q (x ∷ xs) all =
    let two = both_true (p x) (list_all p xs) all in
    let rest = kept_filter p q xs two.1 in
    elim (q x) as (λ b. list_all p (cond b (x ∷ filter q xs) (filter q xs)) ≡ true) [
      | true ↦ ap (λ b. b && list_all p (filter q xs)) two.0 ∙ rest
      | false ↦ rest
    ]

of_kept : (p : List ℕ → Bool) (names found : List (List ℕ)) (extension o : Option (List ℕ)) → Some found ≡ option_map (λ first. filter (goes extension first) names) o → list_all p names ≡ true → list_all p found ≡ true
of_kept p names found extension None e all = absurd (cc e)
of_kept p names found extension (Some first) e all =
    let is : found ≡ filter (goes extension first) names = cc e in
    ap (list_all p) is ∙ kept_filter p (goes extension first) names all

-- what all names of a listing meet, those that are found do
pub found_all : (p : List ℕ → Bool) (names found : List (List ℕ)) (kept : List ℕ) (extension : Option (List ℕ)) → Some found ≡ removed_by_cleanup names kept extension → list_all p names ≡ true → list_all p found ≡ true
found_all p names found kept extension e all = of_kept p names found extension (kept_of extension kept) e all

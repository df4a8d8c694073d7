-- The least segment of a folder, by its listing.
use Rattle.std.proofs.Common.{◌≡◌, ◌⊎◌, ◌∙◌, ℕ, List, Option, None, Some, Result, Ok, Err, IfOk, IfErr, find, refl, ap, sym, subst, inl, inr}
use Rattle.cluster_tree.specs.PathValue.{PathValue}
use Rattle.cluster_tree.specs.Contents.{Contents, entry_at}
use Rattle.cluster_tree.specs.Folders.{list_refusal, IsListing}
use Rattle.cluster_tree.specs.Tree.{IsFreeOfListing}
use Rattle.cluster_tree.specs.Causes.{Meets}
use Rattle.cluster_tree.specs.declared.tree.TreeFault.{TreeFault}
use Rattle.cluster_tree.specs.declared.tree.TreeFault.TheVariants as tree_fault
use Rattle.log_folder.specs.declared.fault.FolderFault.{FolderFault}
use Rattle.log_folder.specs.declared.fault.FolderFault.TheVariants as fault
use Rattle.log_folder.specs.Faults.{IsFree, IsOfTree}
use Rattle.log_folder.specs.Listing.{is_segment, least_segment}
use Rattle.log_folder.specs.Folder.{listed_or, least_in, unlisted}
use Rattle.cluster_tree.proofs.NamesLemmas.{listing_names}

least_found : (c : Contents) (folder : PathValue) (names : List (List ℕ)) (first : Option (List ℕ)) → list_refusal (entry_at c folder) ≡ None → IsListing c folder names → first ≡ find (is_segment c folder) names → least_in c folder ≡ Ok first
unfolding least_in least_segment
least_found c folder names first none listing is =
    ap (λ o. listed_or folder o (least_segment c folder)) none ∙ ap (λ l. Ok l) (sym (is ∙ ap (find (is_segment c folder)) (listing_names c folder names listing)))

-- what the names of a folder give, where the contents stay
pub least_listed : (c d : Contents) (folder : PathValue) (names : List (List ℕ)) (r : Result (Option (List ℕ)) FolderFault) → d ≡ c → list_refusal (entry_at c folder) ≡ None → IsListing c folder names
    → IfOk r (λ first. first ≡ find (is_segment d folder) names) → IfErr r IsFree → Meets IsFree (least_in c folder) r
least_listed c d folder names (Ok first) same none listing is free = least_found c folder names first none listing (is ∙ ap (λ x. find (is_segment x folder) names) same)
least_listed c d folder names (Err e) same none listing is free = inl free

-- a fault of a device or want of memory in a listing is one here
unlisted_free : (folder : PathValue) (f : TreeFault) → IsFreeOfListing f → IsFree (unlisted folder f)
unlisted_free folder f (inl is) = inl (ap (unlisted folder) is)
unlisted_free folder f (inr (inl is)) = inr (ap (unlisted folder) is)
unlisted_free folder f (inr (inr none)) = absurd none

-- what a folder that isn't listed gives
pub least_refused : (c : Contents) (folder : PathValue) (f : TreeFault) (e : FolderFault) → IsFreeOfListing f ⊎ (list_refusal (entry_at c folder) ≡ Some f) → (e ≡ unlisted folder f) ⊎ (e ≡ fault.OutOfMemory) → IsFree e ⊎ (least_in c folder ≡ Err e)
unfolding least_in
least_refused c folder f e why (inr memory) = inl (inr memory)
least_refused c folder f e (inl free) (inl is) = inl (let P : FolderFault → Type 0 = IsFree in subst P (sym is) (unlisted_free folder f free))
least_refused c folder f e (inr refused) (inl is) = inr (ap (λ o. listed_or folder o (least_segment c folder)) refused ∙ ap (λ x. Err x) (sym is))

unlisted_of_tree : (folder : PathValue) (f : TreeFault) → IsOfTree (unlisted folder f)
unlisted_of_tree folder tree_fault.Link = tt
unlisted_of_tree folder tree_fault.NameNotText = tt
unlisted_of_tree folder tree_fault.Failed = tt
unlisted_of_tree folder tree_fault.OutOfMemory = tt
unlisted_of_tree folder tree_fault.Absent = tt
unlisted_of_tree folder tree_fault.NotFolder = tt
unlisted_of_tree folder tree_fault.IsFolder = tt
unlisted_of_tree folder tree_fault.Exists = tt
unlisted_of_tree folder tree_fault.NotEmpty = tt
unlisted_of_tree folder tree_fault.PastEnd = tt

pub refused_of_tree : (folder : PathValue) (f : TreeFault) (e : FolderFault) → (e ≡ unlisted folder f) ⊎ (e ≡ fault.OutOfMemory) → IsOfTree e
refused_of_tree folder f e (inl is) = subst IsOfTree (sym is) (unlisted_of_tree folder f)
refused_of_tree folder f e (inr is) = subst IsOfTree (sym is) tt

pub free_of_tree : (e : FolderFault) → IsFree e → IsOfTree e
free_of_tree e (inl is) = subst IsOfTree (sym is) tt
free_of_tree e (inr is) = subst IsOfTree (sym is) tt

unlisted_failed : (folder : PathValue) (f : TreeFault) → unlisted folder f ≡ fault.ReadFault → f ≡ tree_fault.Failed
unlisted_failed folder tree_fault.Failed is = refl
unlisted_failed folder tree_fault.Link is = absurd cc
unlisted_failed folder tree_fault.NameNotText is = absurd cc
unlisted_failed folder tree_fault.OutOfMemory is = absurd cc
unlisted_failed folder tree_fault.Absent is = absurd cc
unlisted_failed folder tree_fault.NotFolder is = absurd cc
unlisted_failed folder tree_fault.IsFolder is = absurd cc
unlisted_failed folder tree_fault.Exists is = absurd cc
unlisted_failed folder tree_fault.NotEmpty is = absurd cc
unlisted_failed folder tree_fault.PastEnd is = absurd cc

-- a read fault comes of a call that failed
pub refused_failed : (folder : PathValue) (f : TreeFault) (e : FolderFault) → (e ≡ unlisted folder f) ⊎ (e ≡ fault.OutOfMemory) → e ≡ fault.ReadFault → f ≡ tree_fault.Failed
refused_failed folder f e (inl is) read = unlisted_failed folder f (sym is ∙ read)
refused_failed folder f e (inr is) read = absurd (let no : fault.OutOfMemory ≡ fault.ReadFault = sym is ∙ read in cc)

pub ruleset list_steps = (least_refused, refused_of_tree, free_of_tree, refused_failed)

-- The names of folders that are listed, and why they aren't.
use Rattle.std.proofs.Common.{◌≡◌, ◌⊎◌, inl, inr, ℕ, Bool, true, false, List, [], Option, None, Some, option_map, Result, Ok, Err, IfOk, refl, sym, ap, ◌∙◌, subst}
use Rattle.std.specs.Prelude.{if◌then◌else◌}
use Rattle.cluster_tree.specs.PathValue.{PathValue}
use Rattle.cluster_tree.specs.Causes.{Meets}
use Rattle.cluster_tree.specs.Contents.{Contents, Entry, FolderEntry, FileEntry, LinkEntry, entry_at, is_folder}
use Rattle.cluster_tree.specs.Folders.{IsListing, list_refusal, names_in}
use Rattle.cluster_tree.specs.Tree.{IsFreeOfListing}
use Rattle.cluster_tree.specs.declared.tree.TreeFault.{TreeFault}
use Rattle.cluster_tree.specs.declared.tree.TreeFault.TheVariants as tree_fault
use Rattle.cluster_tree.proofs.NamesLemmas.{listing_names}
use Rattle.reset_plan.specs.Removals.{Looks, unlisted}
use Rattle.reset_plan.specs.Reset.{names_at, status_fault}
use Rattle.reset_plan.specs.ResetFaults.{IsFree, folder_fault, no_memory, read_failed}
use Rattle.reset_plan.specs.declared.fault.ResetFault.{ResetFault}
use Rattle.reset_plan.specs.declared.fault.ResetFault.TheVariants as fault

pub listed_folder : (o : Option Entry) → list_refusal o ≡ None → is_folder o ≡ true
listed_folder None e = absurd (cc e)
listed_folder (Some (FolderEntry bad)) e = refl
listed_folder (Some (FileEntry bytes)) e = absurd (cc e)
listed_folder (Some LinkEntry) e = absurd (cc e)

pub listed_status : (folder : PathValue) (o : Option Entry) → list_refusal o ≡ None → status_fault folder o ≡ None
listed_status folder None e = refl
listed_status folder (Some entry) e = ap (option_map (folder_fault folder)) e

pub listed_names : (c : Contents) (folder : PathValue) (names : List (List ℕ)) → list_refusal (entry_at c folder) ≡ None → IsListing c folder names → names ≡ names_at c folder
listed_names c folder names none listing =
    listing_names c folder names listing ∙ sym (ap (λ (b : Bool). if b then names_in c folder else []) (listed_folder (entry_at c folder) none))

-- ---- a listing that failed

-- of pg_wal
pub wal_from : (folder : PathValue) (o : Option Entry) (f : TreeFault) (e : ResetFault) → IsFreeOfListing f ⊎ (list_refusal o ≡ Some f) → (e ≡ folder_fault folder f) ⊎ (e ≡ no_memory) → IsFree e ⊎ (option_map (folder_fault folder) (list_refusal o) ≡ Some e)
wal_from folder o f e why (inr memory) = inl (inr (inr memory))
wal_from folder o f e (inl (inl failed)) (inl is) = inl (inl (is ∙ ap (folder_fault folder) failed))
wal_from folder o f e (inl (inr (inl memory))) (inl is) = inl (inr (inr (is ∙ ap (folder_fault folder) memory)))
wal_from folder o f e (inl (inr (inr none))) (inl is) = elim none [ ]
wal_from folder o f e (inr refused) (inl is) = inr (ap (option_map (folder_fault folder)) refused ∙ ap Some (sym is))

free_told : (r : Result (List (List ℕ)) ResetFault) (meant : Result (List (List ℕ)) ResetFault) (o : Option ResetFault) (e : ResetFault) → IsFree e → meant ≡ Err e → Meets (λ x. x ≡ no_memory) meant r → Looks o r
free_told (Ok names) meant o e free is told = absurd (cc (sym told ∙ is))
free_told (Err x) meant o e free is (inl memory) = inl (inr (inr memory))
free_told (Err x) meant o e free is (inr same) = inl (let one : e ≡ x = cc (sym is ∙ same) in subst IsFree one free)

refused_told : (r meant : Result (List (List ℕ)) ResetFault) (o : Option ResetFault) (e : ResetFault) → o ≡ Some e → meant ≡ Err e → Meets (λ x. x ≡ no_memory) meant r → Looks o r
refused_told (Ok names) meant o e some is told = absurd (cc (sym told ∙ is))
refused_told (Err x) meant o e some is (inl memory) = inl (inr (inr memory))
refused_told (Err x) meant o e some is (inr same) = inr (some ∙ (let one : e ≡ x = cc (sym is ∙ same) in ap Some one))

none_told : (r : Result (List (List ℕ)) ResetFault) (meant : Result (List (List ℕ)) ResetFault) (o : Option ResetFault) → o ≡ None → meant ≡ Ok [] → Meets (λ x. x ≡ no_memory) meant r → Looks o r
none_told (Ok names) meant o none is told = none
none_told (Err x) meant o none is (inl memory) = inl (inr (inr memory))
none_told (Err x) meant o none is (inr same) = absurd (cc (sym is ∙ same))

-- of archive_status
pub status_from : (folder : PathValue) (o : Option Entry) (f : TreeFault) (r : Result (List (List ℕ)) ResetFault) → IsFreeOfListing f ⊎ (list_refusal o ≡ Some f) → Meets (λ x. x ≡ no_memory) (unlisted folder f) r → Looks (status_fault folder o) r
status_from folder o f r (inl (inl failed)) told = free_told r (unlisted folder f) (status_fault folder o) read_failed (inl refl) (ap (unlisted folder) failed) told
status_from folder o f r (inl (inr (inl memory))) told = free_told r (unlisted folder f) (status_fault folder o) no_memory (inr (inr refl)) (ap (unlisted folder) memory) told
status_from folder o f r (inl (inr (inr none))) told = elim none [ ]
status_from folder None f r (inr refused) told =
    let absent : f ≡ tree_fault.Absent = cc (sym refused) in none_told r (unlisted folder f) None refl (ap (unlisted folder) absent) told
status_from folder (Some (FolderEntry true)) f r (inr refused) told =
    let is : f ≡ tree_fault.NameNotText = cc (sym refused) in refused_told r (unlisted folder f) (Some (fault.NameNotText folder)) (fault.NameNotText folder) refl (ap (unlisted folder) is) told
status_from folder (Some (FolderEntry false)) f r (inr refused) told = absurd (cc refused)
status_from folder (Some (FileEntry bytes)) f r (inr refused) told =
    let is : f ≡ tree_fault.NotFolder = cc (sym refused) in refused_told r (unlisted folder f) (Some (fault.NotFolder folder)) (fault.NotFolder folder) refl (ap (unlisted folder) is) told
status_from folder (Some LinkEntry) f r (inr refused) told =
    let is : f ≡ tree_fault.Link = cc (sym refused) in refused_told r (unlisted folder f) (Some (fault.Link folder)) (fault.Link folder) refl (ap (unlisted folder) is) told

absent_names : (c : Contents) (folder : PathValue) (o : Option Entry) (f : TreeFault) (names : List (List ℕ)) → IsFreeOfListing f ⊎ (list_refusal o ≡ Some f) → unlisted folder f ≡ Ok names → is_folder o ≡ false
absent_names c folder o f names (inl (inl failed)) told = absurd (cc (sym (ap (unlisted folder) failed) ∙ told))
absent_names c folder o f names (inl (inr (inl memory))) told = absurd (cc (sym (ap (unlisted folder) memory) ∙ told))
absent_names c folder o f names (inl (inr (inr none))) told = elim none [ ]
absent_names c folder None f names (inr refused) told = refl
absent_names c folder (Some (FolderEntry true)) f names (inr refused) told =
    let is : f ≡ tree_fault.NameNotText = cc (sym refused) in absurd (cc (sym (ap (unlisted folder) is) ∙ told))
absent_names c folder (Some (FolderEntry false)) f names (inr refused) told = absurd (cc refused)
absent_names c folder (Some (FileEntry bytes)) f names (inr refused) told = refl
absent_names c folder (Some LinkEntry) f names (inr refused) told = refl

pub status_names-from : (c : Contents) (folder : PathValue) (f : TreeFault) (r : Result (List (List ℕ)) ResetFault) → IsFreeOfListing f ⊎ (list_refusal (entry_at c folder) ≡ Some f) → Meets (λ x. x ≡ no_memory) (unlisted folder f) r → IfOk r (λ names. names ≡ []) → IfOk r (λ names. names ≡ names_at c folder)
status_names-from c folder f (Ok names) why told none =
    none ∙ sym (ap (λ (b : Bool). if b then names_in c folder else []) (absent_names c folder (entry_at c folder) f names why told))
status_names-from c folder f (Err e) why told none = tt

-- Refusals of listings of folders that are there.
use Rattle.std.proofs.Common.{◌≡◌, ◌⊎◌, true, false, inl, inr, Option, None, Some, refl, ap, sym, ◌∙◌, true≢false, subst}
use Rattle.cluster_tree.specs.Contents.{Contents, Entry, FolderEntry, FileEntry, LinkEntry, entry_at, is_folder}
use Rattle.cluster_tree.specs.Folders.{list_refusal}
use Rattle.cluster_tree.specs.PathValue.{PathValue}
use Rattle.cluster_tree.specs.Tree.{IsFreeOfListing}
use Rattle.cluster_tree.specs.declared.file_fault.FileFault.TheVariants as file
use Rattle.cluster_tree.specs.declared.tree.TreeFault.{TreeFault}
use Rattle.cluster_tree.specs.declared.tree.TreeFault.TheVariants as tree
use Rattle.file_walk.specs.declared.fault.WalkFault.{WalkFault}
use Rattle.file_walk.specs.declared.fault.WalkFault.TheVariants as fault
use Rattle.file_walk.specs.Faults.{IsFree, IsRowOf}
use Rattle.file_walk.specs.Seeing.{HasFlaw, told_as}

pub others_changed : (own full : PathValue) (e : TreeFault) → (e ≡ tree.Failed → ⊥) → (e ≡ tree.OutOfMemory → ⊥) → (e ≡ tree.NameNotText → ⊥) → told_as own full e ≡ fault.File (file.Changed full)
others_changed own full tree.Failed h k l = absurd (h refl)
others_changed own full tree.OutOfMemory h k l = absurd (k refl)
others_changed own full tree.NameNotText h k l = absurd (l refl)
others_changed own full tree.Absent h k l = refl
others_changed own full tree.IsFolder h k l = refl
others_changed own full tree.NotFolder h k l = refl
others_changed own full tree.Link h k l = refl
others_changed own full tree.Exists h k l = refl
others_changed own full tree.NotEmpty h k l = refl
others_changed own full tree.PastEnd h k l = refl

pub told_read : (own full : PathValue) (e : TreeFault) → told_as own full e ≡ fault.File file.ReadFault → e ≡ tree.Failed
told_read own full tree.Failed h = refl
told_read own full tree.OutOfMemory h = absurd cc
told_read own full tree.NameNotText h = absurd cc
told_read own full tree.Absent h = absurd cc
told_read own full tree.IsFolder h = absurd cc
told_read own full tree.NotFolder h = absurd cc
told_read own full tree.Link h = absurd cc
told_read own full tree.Exists h = absurd cc
told_read own full tree.NotEmpty h = absurd cc
told_read own full tree.PastEnd h = absurd cc

told_row : (own full : PathValue) (e : TreeFault) (p : PathValue) → IsRowOf p (told_as own full e)
told_row own full tree.Failed p = tt
told_row own full tree.OutOfMemory p = tt
told_row own full tree.NameNotText p = tt
told_row own full tree.Absent p = tt
told_row own full tree.IsFolder p = tt
told_row own full tree.NotFolder p = tt
told_row own full tree.Link p = tt
told_row own full tree.Exists p = tt
told_row own full tree.NotEmpty p = tt
told_row own full tree.PastEnd p = tt

-- what is told of a refusal, or want of memory
abbrev pub IsTold : (own full : PathValue) → TreeFault → WalkFault → Type 0
IsTold own full e w = (w ≡ told_as own full e) ⊎ (w ≡ fault.File file.OutOfMemory)

pub row_told : (own full : PathValue) (e : TreeFault) (w : WalkFault) → IsTold own full e w → (p : PathValue) → IsRowOf p w
row_told own full e w (inl t) p = subst (IsRowOf p) (sym t) (told_row own full e p)
row_told own full e w (inr t) p = subst (IsRowOf p) (sym t) tt

pub read_told : (own full : PathValue) (e : TreeFault) (w : WalkFault) → IsTold own full e w → w ≡ fault.File file.ReadFault → e ≡ tree.Failed
read_told own full e w (inl t) r = told_read own full e (sym t ∙ r)
read_told own full e w (inr t) r = absurd cc

-- of a folder that is there, the fault is free or that of a bad name
data FolderFault (own : PathValue) (o : Option Entry) (w : WalkFault) : Type 0 where
  Free : IsFree w → FolderFault own o w
  Bad : o ≡ Some (FolderEntry true) → w ≡ fault.NameNotText own → FolderFault own o w

folder_fault : (own full : PathValue) (o : Option Entry) → is_folder o ≡ true → (e : TreeFault) (w : WalkFault) → (IsFreeOfListing e ⊎ (list_refusal o ≡ Some e)) → IsTold own full e w → FolderFault own o w
folder_fault own full None h e w r t = absurd (true≢false (sym h))
folder_fault own full (Some (FileEntry bytes)) h e w r t = absurd (true≢false (sym h))
folder_fault own full (Some LinkEntry) h e w r t = absurd (true≢false (sym h))
folder_fault own full (Some (FolderEntry bad)) h e w r (inr t) = Free (inr t)
folder_fault own full (Some (FolderEntry bad)) h e w (inl (inl failed)) (inl t) = Free (inl (t ∙ ap (told_as own full) failed))
folder_fault own full (Some (FolderEntry bad)) h e w (inl (inr (inl wanting))) (inl t) = Free (inr (t ∙ ap (told_as own full) wanting))
folder_fault own full (Some (FolderEntry bad)) h e w (inl (inr (inr none))) (inl t) = absurd none
folder_fault own full (Some (FolderEntry true)) h e w (inr is) (inl t) = let named : e ≡ tree.NameNotText = cc in Bad refl (t ∙ ap (told_as own full) named)
folder_fault own full (Some (FolderEntry false)) h e w (inr is) (inl t) = absurd cc

from_fault : (c : Contents) (own full : PathValue) (w : WalkFault) → FolderFault own (entry_at c full) w → IsFree w ⊎ HasFlaw c own full w
from_fault c own full w (Free f) = inl f
from_fault c own full w (Bad there named) = inr (record { entry = FolderEntry true; there = there; flawed = ap (λ f. Some f) (sym named) })

pub folder_refused : (c : Contents) (own full : PathValue) → is_folder (entry_at c full) ≡ true → (e : TreeFault) (w : WalkFault) → (IsFreeOfListing e ⊎ (list_refusal (entry_at c full) ≡ Some e)) → IsTold own full e w → IsFree w ⊎ HasFlaw c own full w
folder_refused c own full h e w r t = from_fault c own full w (folder_fault own full (entry_at c full) h e w r t)

unchanged : (own : PathValue) (o : Option Entry) (w : WalkFault) → FolderFault own o w → (p : PathValue) → w ≡ fault.File (file.Changed p) → ⊥
unchanged own o w (Free (inl f)) p is = absurd (let no_way : fault.File file.ReadFault ≡ fault.File (file.Changed p) = cc in cc)
unchanged own o w (Free (inr f)) p is = absurd (let no_way : fault.File file.OutOfMemory ≡ fault.File (file.Changed p) = cc in cc)
unchanged own o w (Bad there named) p is = absurd (let no_way : fault.NameNotText own ≡ fault.File (file.Changed p) = cc in cc)

pub folder_unchanged : (c : Contents) (own full : PathValue) → is_folder (entry_at c full) ≡ true → (e : TreeFault) (w : WalkFault) → (IsFreeOfListing e ⊎ (list_refusal (entry_at c full) ≡ Some e)) → IsTold own full e w → (p : PathValue) → w ≡ fault.File (file.Changed p) → ⊥
folder_unchanged c own full h e w r t = unchanged own (entry_at c full) w (folder_fault own full (entry_at c full) h e w r t)

-- The rewound target of a pair before its replay: it is alike to the copy.
use Rattle.std.proofs.Common.{◌≡◌, ℕ, ◌==◌, ◌%◌, Bool, true, false, not, ◌&&◌, List, length, Option, None, Some, is_some, refl, sym, ap, ◌∙◌, subst, if◌then◌else◌}
use Rattle.alike_clusters.specs.Clusters.{AlikeClusters, is_alike}
use Rattle.alike_clusters.proofs.LikeLemmas.{same-size}
use Rattle.alike_clusters.proofs.NameLemmas.{file-lies, file-no_version, file_parts}
use Rattle.block_refs.specs.declared.names.Fork.TheVariants.{Main}
use Rattle.block_refs.specs.declared.names.RelName.{RelName}
use Rattle.cluster_tree.specs.Contents.{Contents, Entry, FileEntry, FolderEntry, entry_at}
use Rattle.cluster_tree.specs.PathValue.{PathValue, below, path_of}
use Rattle.file_edits.specs.Alike.{AlikeEntries, Files, Folders, Links, Neither}
use Rattle.file_walk.specs.Actions.{here, is_version}
use Rattle.file_walk.specs.Relations.{relation_of}
use Rattle.file_walk.specs.Walk.{entry_flaw}
use Rattle.file_walk.specs.declared.fault.WalkFault.{WalkFault}
use Rattle.file_walk.specs.declared.fault.WalkFault.TheVariants as fault
use Rattle.file_walk.proofs.RelationLemmas.{relation_read}
use Rattle.pair_laws.proofs.ThereLemmas.{relation-here}
use Rattle.pair_laws.proofs.compared.CloseLemmas.{relation-path, relation_parts}
use Rattle.pair_laws.proofs.compared.FineLemmas.{AreFine, IsFine}
use Rattle.pair_laws.proofs.compared.KeepLemmas.{HasRelation}

-- ---- files of relations tell no version

no_version : (parts : List (List ℕ)) (at : RelName × ℕ) → relation_of (path_of false parts) ≡ Some at → is_version (path_of false parts) ≡ false
no_version parts at is =
    let file = relation_read (path_of false parts) at.0 at.1 is in
    let own : parts ≡ file_parts at.0 Main at.1 = ap (λ (p : PathValue). p.parts) (file.lies ∙ file-lies here at.0 Main at.1) in
    ap (λ l. is_version (path_of false l)) own ∙ file-no_version at.0 Main at.1

-- so alike files have the same flaw, or none
abbrev flaw_by : Option (RelName × ℕ) → List (List ℕ) → ℕ → Option WalkFault
flaw_by o parts size = if is_some o && not (size % 8192 == 0) then Some (fault.OddSize (path_of false parts) size) else None

size_alike : (per : ℕ) (parts : List (List ℕ)) (a b : List ℕ) → is_alike per parts a b ≡ true → entry_flaw (path_of false parts) (FileEntry a) ≡ None → entry_flaw (path_of false parts) (FileEntry b) ≡ None
size_alike per parts a b like sound = by (relation_of (path_of false parts)) refl
  where
    by : (o : Option (RelName × ℕ)) → relation_of (path_of false parts) ≡ o → entry_flaw (path_of false parts) (FileEntry b) ≡ None
    by None is = ap (λ o. flaw_by o parts (length b)) is
    by (Some at) is = ap (λ n. flaw_by (relation_of (path_of false parts)) parts n) (sym (same-size per parts (no_version parts at is) a b like)) ∙ sound

alike_fine : (per : ℕ) (parts : List (List ℕ)) (o p : Option Entry) → AlikeEntries (is_alike per parts) o p → ((e : Entry) → o ≡ Some e → IsFine parts e) → (e : Entry) → p ≡ Some e → IsFine parts e
alike_fine per parts o p Neither fine e there = absurd (cc)
alike_fine per parts o p (Folders bad) fine e there = fine e there
alike_fine per parts o p (Files a b like) fine e there =
    let one = fine (FileEntry a) refl in
    let is : FileEntry b ≡ e = cc there in
    subst (IsFine parts) is (record { short = one.short; proper = one.proper; sound = size_alike per parts a b like one.sound })
alike_fine per parts o p Links fine e there = fine e there

file_alike : (per : ℕ) (parts : List (List ℕ)) (o p : Option Entry) → is_version (path_of false parts) ≡ false → AlikeEntries (is_alike per parts) o p → (a : List ℕ) → o ≡ Some (FileEntry a)
    → (b : List ℕ) × (p ≡ Some (FileEntry b)) × (length a ≡ length b)
file_alike per parts o p none Neither a there = absurd (cc)
file_alike per parts o p none (Folders bad) a there = absurd (cc)
file_alike per parts o p none (Files x b like) a there =
    let is : x ≡ a = cc there in
    (b, refl, ap length (sym is) ∙ same-size per parts none x b like)
file_alike per parts o p none Links a there = absurd (cc)

folder_alike : (per : ℕ) (parts : List (List ℕ)) (o p : Option Entry) → AlikeEntries (is_alike per parts) o p → (bad : Bool) → o ≡ Some (FolderEntry bad) → p ≡ Some (FolderEntry bad)
folder_alike per parts o p Neither bad there = absurd (cc)
folder_alike per parts o p (Folders b) bad there = there
folder_alike per parts o p (Files x b like) bad there = absurd (cc)
folder_alike per parts o p Links bad there = absurd (cc)

module _ (per blocks : ℕ) (c : Contents) (root : PathValue) (d : Contents) (other : PathValue) (both : AlikeClusters per c root d other) where
  pub alike-fine : AreFine root c → AreFine other d
  alike-fine fine parts e there = alike_fine per parts (entry_at c (below root parts)) (entry_at d (below other parts)) (both.alike parts) (fine parts) e there

  pub alike-folder : (parts : List (List ℕ)) (bad : Bool) → entry_at c (below root parts) ≡ Some (FolderEntry bad) → entry_at d (below other parts) ≡ Some (FolderEntry bad)
  alike-folder parts bad there = folder_alike per parts (entry_at c (below root parts)) (entry_at d (below other parts)) (both.alike parts) bad there

  pub alike-relation : HasRelation root blocks c → HasRelation other blocks d
  alike-relation has =
      let one = file_alike per relation_parts (entry_at c (below root relation_parts)) (entry_at d (below other relation_parts)) (no_version relation_parts _ relation-here) (both.alike relation_parts) has.bytes
      (ap (λ p. entry_at c p) (sym (relation-path root)) ∙ has.there) in
      record { bytes = one.0; there = ap (λ p. entry_at d p) (relation-path other) ∙ one.1; long = sym one.2 ∙ has.long }

-- What is brought back is alike what stood before.
use Rattle.std.proofs.Common.{◌≡◌, ◌⊎◌, ℕ, ◌-◌, ◌==◌, Bool, true, false, ◌&&◌, ◌||◌, List, length, take, replicate, Option, None, Some, is_some, refl, ap, sym, subst, ◌∙◌, inl, inr, true≢false, arith}
use Rattle.std.proofs.lemmas.List.{length-append, length-replicate, length-take}
use Rattle.alike_clusters.specs.Clusters.{AlikeClusters, is_alike, is_alike_file, is_bounded}
use Rattle.alike_clusters.proofs.NameLemmas.{file-lies, file-no_version, file_parts}
use Rattle.block_refs.specs.declared.names.Fork.TheVariants.{Main}
use Rattle.block_refs.specs.declared.names.RelName.{RelName}
use Rattle.cluster_tree.specs.Contents.{Contents, Entry, FileEntry, entry_at}
use Rattle.cluster_tree.specs.PathValue.{PathValue, below, path_of}
use Rattle.cluster_tree.specs.Tree.{bytes_at, bytes_in}
use Rattle.file_edits.specs.Alike.{AlikeEntries, Neither, Folders, Files, Links}
use Rattle.file_walk.specs.Actions.{here, is_version}
use Rattle.file_walk.specs.Laws.{IsMainFile}
use Rattle.file_walk.specs.Relations.{relation_of}
use Rattle.file_walk.proofs.RelationLemmas.{relation_read}
use Rattle.replay_restore.specs.Filled.{resized}
use Rattle.replayed_bytes.specs.Bytes.{HaveSameVersions}
use Rattle.restored_laws.specs.Back.{IsBack, IsResized}

pub resized-size : (size : ℕ) (bytes : List ℕ) → length (resized size bytes) ≡ size
resized-size size bytes = omega (arith, length-append {A = ℕ} (take size bytes) (replicate (size - length (take size bytes)) 0), length-replicate {A = ℕ} (size - length (take size bytes)) 0, length-take size bytes)

same_size : (a b : List ℕ) → length a ≡ length b → (length a == length b) ≡ true
same_size a b e = ap (λ n. length a == n) (sym e) ∙ own (length a)
  where
    own : (n : ℕ) → (n == n) ≡ true
    own n = grind (arith)

second_of : (a b : Bool) → (a && b) ≡ true → b ≡ true
second_of true b e = e
second_of false b e = absurd cc

like_resized : (per : ℕ) (at : Option (RelName × ℕ)) (version : Bool) (a b : List ℕ) → is_some at ≡ true → length a ≡ length b → (version || is_alike_file per at a a) ≡ true → (version || is_alike_file per at a b) ≡ true
like_resized per at true a b main same like = refl
like_resized per None false a b main same like = absurd cc
like_resized per (Some (rel, segment)) false a b main same like =
    ap (λ t. t && is_bounded per segment (length a)) (same_size a b same) ∙ second_of (length a == length a) (is_bounded per segment (length a)) like

own_file : (per : ℕ) (parts : List (List ℕ)) (a b : List ℕ) (o p : Option Entry) → o ≡ Some (FileEntry a) → p ≡ Some (FileEntry b) → AlikeEntries (is_alike per parts) o p → is_alike per parts a b ≡ true
own_file per parts a b o p is so Neither = absurd cc
own_file per parts a b o p is so (Folders bad) = absurd cc
own_file per parts a b o p is so (Files x y like) =
    let first : x ≡ a = cc in
    let second : y ≡ b = cc in
    subst (λ z. is_alike per parts z b ≡ true) first (subst (λ z. is_alike per parts x z ≡ true) second like)
own_file per parts a b o p is so Links = absurd cc

module _ (per : ℕ) (root : PathValue) (first left again : Contents) (back : IsBack root first left again) where
  entry_back : (parts : List (List ℕ)) → AlikeEntries (is_alike per parts) (entry_at first (below root parts)) (entry_at first (below root parts))
      → (entry_at again (below root parts) ≡ entry_at first (below root parts)) ⊎ IsResized root parts first left again
      → AlikeEntries (is_alike per parts) (entry_at first (below root parts)) (entry_at again (below root parts))
  entry_back parts own (inl same) = subst (AlikeEntries (is_alike per parts) (entry_at first (below root parts))) (sym same) own
  entry_back parts own (inr is) =
      subst (λ o. AlikeEntries (is_alike per parts) o (entry_at again (below root parts))) (sym is.had)
      (subst (AlikeEntries (is_alike per parts) (Some (FileEntry is.bytes))) (sym is.has)
      (Files is.bytes (resized (length is.bytes) (bytes_at left (below root parts)))
      (like_resized per (relation_of (path_of false parts)) (is_version (path_of false parts)) is.bytes (resized (length is.bytes) (bytes_at left (below root parts))) is.main
      (sym (resized-size (length is.bytes) (bytes_at left (below root parts))))
      (own_file per parts is.bytes is.bytes (entry_at first (below root parts)) (entry_at first (below root parts)) is.had is.had own))))

  pub back-alike : AlikeClusters per first root first root → AlikeClusters per first root again root
  back-alike own = record {
    alike = λ parts. entry_back parts (own.alike parts) (back parts);
    deep = inl refl;
    room = own.room;
    other_room = own.room;
  }

  no_version : (parts : List (List ℕ)) (at : Option (RelName × ℕ)) → relation_of (path_of false parts) ≡ at → is_some at ≡ true → is_version (path_of false parts) ≡ false
  no_version parts None is main = absurd cc
  no_version parts (Some (rel, segment)) is main =
      let read : IsMainFile (path_of false parts) rel segment = relation_read (path_of false parts) rel segment is in
      let lies : parts ≡ file_parts rel Main segment = ap (λ (p : PathValue). p.parts) (read.lies ∙ file-lies here rel Main segment) in
      ap (λ l. is_version (path_of false l)) lies ∙ file-no_version rel Main segment

  version_back : (parts : List (List ℕ)) → is_version (path_of false parts) ≡ true → (entry_at again (below root parts) ≡ entry_at first (below root parts)) ⊎ IsResized root parts first left again
      → bytes_at first (below root parts) ≡ bytes_at again (below root parts)
  version_back parts version (inl same) = ap bytes_in (sym same)
  version_back parts version (inr is) = absurd (true≢false (sym version ∙ no_version parts (relation_of (path_of false parts)) refl is.main))

  pub back-versions : HaveSameVersions first root again root
  back-versions parts version = version_back parts version (back parts)

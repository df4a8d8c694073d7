-- A block that a stop left as it stood before stands there again.
use Rattle.std.proofs.Common.{◌≡◌, ◌⊎◌, ℕ, ◌+◌, ◌-◌, ◌*◌, ◌/◌, ◌%◌, ◌≤◌, List, length, take, drop, replicate, true, false, None, Some, is_some, ap, sym, ◌∙◌, inl, inr, arith}
use Rattle.std.proofs.lemmas.List.{drop-append-le, drop-take, length-drop, length-take, take-append-le, take-take}
use Rattle.alike_clusters.proofs.NameLemmas.{file-lies, file_parts}
use Rattle.block_refs.specs.declared.names.BlockName.{BlockName}
use Rattle.cluster_tree.specs.Contents.{Contents, entry_at}
use Rattle.cluster_tree.specs.PathValue.{PathValue, below, path_of}
use Rattle.file_walk.specs.Actions.{here}
use Rattle.file_walk.specs.Relations.{relation_of}
use Rattle.cluster_tree.specs.Tree.{bytes_at, bytes_in}
use Rattle.replay_restore.specs.Filled.{resized}
use Rattle.storage_laws.specs.States.{block_in, whole_block}
use Rattle.storage_laws.proofs.NumberLemmas.{by_order}
use Rattle.storage_laws.proofs.WholeLemmas.{whole-none, whole-there}
use Rattle.restored_laws.specs.Back.{IsBack, IsInMain, IsResized}
use Rattle.restored_laws.proofs.AlikeLemmas.{resized-size}

-- a block that is there lies in the file
inside : (place : ℕ) (bytes page : List ℕ) → whole_block place bytes ≡ Some page → place * 8192 + 8192 ≤ length bytes
inside place bytes page is =
    by_order (length bytes) (place * 8192 + 8192)
    (λ short. let none : None ≡ Some page = sym (whole-none place bytes short) ∙ is in absurd (cc none))
    (λ long. long)

module _ (place size : ℕ) (bytes : List ℕ) (fits : place * 8192 + 8192 ≤ size) (long : place * 8192 + 8192 ≤ length bytes) where
  abbrev zeros : List ℕ
  zeros = replicate (size - length (take size bytes)) 0

  in_taken : take 8192 (drop (place * 8192) (take size bytes)) ≡ take 8192 (drop (place * 8192) bytes)
  in_taken =
      let whole : size ≡ place * 8192 + (size - place * 8192) = omega (arith, fits) in
      ap (λ n. take 8192 (drop (place * 8192) (take n bytes))) whole
      ∙ ap (take 8192) (drop-take (place * 8192) (size - place * 8192) bytes)
      ∙ take-take 8192 (size - place * 8192) (drop (place * 8192) bytes) (omega (arith, fits))

  in_resized : take 8192 (drop (place * 8192) (resized size bytes)) ≡ take 8192 (drop (place * 8192) (take size bytes))
  in_resized =
      ap (take 8192) (drop-append-le (place * 8192) (take size bytes) zeros (omega (arith, fits, long, length-take size bytes)))
      ∙ take-append-le 8192 (drop (place * 8192) (take size bytes)) zeros (omega (arith, fits, long, length-take size bytes, length-drop (place * 8192) (take size bytes)))

  same_block : whole_block place (resized size bytes) ≡ whole_block place bytes
  same_block =
      whole-there place (resized size bytes) (omega (arith, fits, resized-size size bytes))
      ∙ ap (λ b. Some b) (in_resized ∙ in_taken)
      ∙ sym (whole-there place bytes long)

module _ (root : PathValue) (per : ℕ) (first left again : Contents) (name : BlockName) (page : List ℕ) where
  abbrev parts : List (List ℕ)
  parts = file_parts name.rel name.fork (name.block / per)

  abbrev place : ℕ
  place = name.block % per

  lies : (c : Contents) → block_in root per name c ≡ whole_block place (bytes_in (entry_at c (below root parts)))
  lies c = ap (λ p. whole_block place (bytes_in (entry_at c p))) (file-lies root name.rel name.fork (name.block / per))

  -- where its file is one of a main fork, it is still there
  abbrev StillThere : Type 0
  StillThere = IsInMain per name → block_in root per name left ≡ Some page

  in_main : is_some (relation_of (path_of false parts)) ≡ true → IsInMain per name
  in_main main = ap (λ p. is_some (relation_of p)) (file-lies here name.rel name.fork (name.block / per)) ∙ main

  by_path : block_in root per name first ≡ Some page → StillThere → (entry_at again (below root parts) ≡ entry_at first (below root parts)) ⊎ IsResized root parts first left again
      → whole_block place (bytes_in (entry_at again (below root parts))) ≡ Some page
  by_path had kept (inl same) = ap (λ o. whole_block place (bytes_in o)) same ∙ sym (lies first) ∙ had
  by_path had kept (inr is) =
      ap (λ o. whole_block place (bytes_in o)) is.has
      ∙ same_block place (length is.bytes) (bytes_at left (below root parts))
      (inside place is.bytes page (sym (ap (λ o. whole_block place (bytes_in o)) is.had) ∙ sym (lies first) ∙ had))
      (inside place (bytes_at left (below root parts)) page (sym (lies left) ∙ kept (in_main is.main)))
      ∙ sym (lies left) ∙ kept (in_main is.main)

  pub block-back : IsBack root first left again → block_in root per name first ≡ Some page → StillThere → block_in root per name again ≡ Some page
  block-back back had kept = lies again ∙ by_path had kept (back parts)

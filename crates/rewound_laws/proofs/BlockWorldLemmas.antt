-- What a replay makes before its first record, its mark, leaves blocks as they were.
use Rattle.std.proofs.Common.{◌≡◌, ◌≢◌, ℕ, ◌/◌, ◌%◌, true, cond, List, [], ◌∷◌, codes, Option, None, Some, is_some, refl, sym, ap, ◌∙◌, subst, true≢false}
use Rattle.std.proofs.lemmas.List.{append_cancel_left}
use Rattle.std.specs.FinMap.{insert}
use Rattle.alike_clusters.proofs.NameLemmas.{file-lies, file_parts}
use Rattle.block_refs.specs.declared.names.BlockName.{BlockName}
use Rattle.block_refs.specs.declared.names.Fork.{Fork}
use Rattle.block_refs.specs.declared.names.Fork.TheVariants.{Init}
use Rattle.block_refs.specs.declared.names.RelName.{RelName}
use Rattle.cluster_compare.specs.Same.{has_init}
use Rattle.cluster_tree.specs.Change.{all_changed}
use Rattle.cluster_tree.specs.Contents.{Contents, Entry, FolderEntry, FileEntry, LinkEntry, IsTree, entry_at, is_file, is_folder, parent}
use Rattle.cluster_tree.specs.PathValue.{PathValue, below}
use Rattle.cluster_tree.specs.Tree.{bytes_in, refusal_in}
use Rattle.cluster_tree.specs.declared.tree.TreeFault.TheVariants as fault
use Rattle.cluster_tree.proofs.ContentsLemmas.{entry-put_other, written-new}
use Rattle.cluster_tree.proofs.TreeLemmas.{made-tree}
use Rattle.replay_core.specs.Replayed.{beginning, mark_text}
use Rattle.rewind_plan.proofs.SideLemmas.{parent-below}
use Rattle.storage_laws.specs.Forks.{HasNoGap}
use Rattle.storage_laws.specs.Names.{block_of}
use Rattle.storage_laws.specs.States.{block_in, whole_block}
use Rattle.rewound_laws.proofs.BlockPathLemmas.{file-plain}
use Rattle.file_walk.specs.Actions.{is_mark}

abbrev pub replay_mark : List (List ℕ)
replay_mark = codes "pg_walreplay.unfinished" ∷ []

folder_fine : (o : Option Entry) → is_folder o ≡ true → refusal_in o ≡ None
folder_fine None h = absurd (true≢false (sym h))
folder_fine (Some (FolderEntry bad)) h = refl
folder_fine (Some (FileEntry bytes)) h = absurd (true≢false (sym h))
folder_fine (Some LinkEntry) h = absurd (true≢false (sym h))

module _ (c : Contents) (root : PathValue) where
  abbrev begun : Contents
  begun = all_changed c (beginning root)

  begun_is : begun ≡ insert c (below root replay_mark) (FileEntry mark_text)
  begun_is = written-new c (below root replay_mark) mark_text

  -- a relation's file isn't the mark
  off_mark : (rel : RelName) (fork : Fork) (segment : ℕ) → below root (file_parts rel fork segment) ≢ below root replay_mark
  off_mark rel fork segment e =
      true≢false (sym (ap is_mark (append_cancel_left root.parts (file_parts rel fork segment) replay_mark (ap (λ (p : PathValue). p.parts) e))) ∙ (file-plain rel fork segment).mark)

  begun-file : (rel : RelName) (fork : Fork) (segment : ℕ) → entry_at begun (below root (file_parts rel fork segment)) ≡ entry_at c (below root (file_parts rel fork segment))
  begun-file rel fork segment =
      ap (λ d. entry_at d (below root (file_parts rel fork segment))) begun_is
      ∙ entry-put_other c (below root replay_mark) (below root (file_parts rel fork segment)) (FileEntry mark_text) (off_mark rel fork segment)

  pub begun-block : (per : ℕ) (name : BlockName) → block_in root per name begun ≡ block_in root per name c
  begun-block per name =
      ap (λ p. whole_block (name.block % per) (bytes_in (entry_at begun p))) (file-lies root name.rel name.fork (name.block / per))
      ∙ ap (λ o. whole_block (name.block % per) (bytes_in o)) (begun-file name.rel name.fork (name.block / per))
      ∙ sym (ap (λ p. whole_block (name.block % per) (bytes_in (entry_at c p))) (file-lies root name.rel name.fork (name.block / per)))

  pub begun-init : (rel : RelName) → has_init begun root rel ≡ is_file (entry_at c (below root (file_parts rel Init 0)))
  begun-init rel = ap (λ p. is_file (entry_at begun p)) (file-lies root rel Init 0) ∙ ap is_file (begun-file rel Init 0)

  pub begun-no_gap : (per : ℕ) (rel : RelName) (fork : Fork) → HasNoGap root per rel fork c → HasNoGap root per rel fork begun
  begun-no_gap per rel fork no_gap block next less most there =
      ap is_some (begun-block per (block_of rel fork block)) ∙ no_gap block next less most (sym (ap is_some (begun-block per (block_of rel fork next))) ∙ there)

  -- and a tree without a mark gets one
  pub begun-tree : IsTree c → is_folder (entry_at c root) ≡ true → entry_at c (below root replay_mark) ≡ None → IsTree begun
  begun-tree tree folder none =
      subst IsTree (sym begun_is) (made-tree c (below root replay_mark) (FileEntry mark_text) tree
      (ap (λ o. cond (is_some o) (Some fault.Exists) (refusal_in (entry_at c (parent (below root replay_mark))))) none
      ∙ ap (λ p. refusal_in (entry_at c p)) (parent-below root (codes "pg_walreplay.unfinished")) ∙ folder_fine (entry_at c root) folder))

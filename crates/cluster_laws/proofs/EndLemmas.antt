-- What a replay does before its first record and behind its last one leaves alike clusters alike, and blocks as they were.
use Rattle.std.proofs.Common.{◌≡◌, ◌≢◌, ℕ, ◌^◌, ◌<◌, ◌≤◌, ◌==◌, ◌%◌, ◌/◌, Bool, true, false, decimal, List, [], ◌∷◌, ◌++◌, codes, length, Option, None, Some, is_some, inl, inr, ⊎_elim, refl, sym, ap, subst, ◌∙◌, true≢false, arith}
use Rattle.std.specs.Prelude.{if◌then◌else◌}
use Rattle.std.proofs.lemmas.List.{append_cancel_left, length-append}
use Rattle.std.specs.FinMap.{get, insert, remove}
use Rattle.alike_clusters.specs.Clusters.{AlikeClusters, is_alike}
use Rattle.alike_clusters.proofs.LikeLemmas.{like-plain, same-bytes}
use Rattle.alike_clusters.proofs.NameLemmas.{file-lies, file_parts, main-unmarked}
use Rattle.alike_clusters.proofs.StepLemmas.{Shrinks, shrinks-shallow}
use Rattle.block_refs.specs.declared.names.BlockName.{BlockName}
use Rattle.block_refs.specs.declared.names.Fork.{Fork}
use Rattle.block_refs.specs.declared.names.Fork.TheVariants.{Init, Main}
use Rattle.block_refs.specs.declared.names.RelName.{RelName}
use Rattle.cluster_compare.specs.Same.{has_init}
use Rattle.cluster_tree.specs.Change.{all_changed}
use Rattle.cluster_tree.specs.Contents.{Contents, Entry, FileEntry, entry_at, is_file}
use Rattle.cluster_tree.specs.PathValue.{PathValue, below, path_of}
use Rattle.cluster_tree.specs.Tree.{bytes_at, bytes_in, written}
use Rattle.cluster_tree.proofs.ContentsLemmas.{entry-put, entry-put_other, entry-removed_other, get-removed, get-removed_other, written-new}
use Rattle.control_file.specs.Writing.{control_bytes}
use Rattle.control_file.specs.declared.control.Control.{Control}
use Rattle.file_edits.specs.Alike.{AlikeEntries, Files, Folders, IsShallow, Links, Neither}
use Rattle.file_edits.proofs.AlikeLemmas.{removed_alike}
use Rattle.file_edits.proofs.EditLemmas.{same_or_other}
use Rattle.file_walk.specs.Relations.{relation_of}
use Rattle.layout.specs.Splice.{splice}
use Rattle.relation_files.specs.Names.{name_of}
use Rattle.relation_files.specs.Paths.{database_parts, global_parts, relation_file}
use Rattle.relation_files.specs.Reading.{file_named}
use Rattle.relation_files.specs.declared.file_name.FileName.{FileName}
use Rattle.relation_files.proofs.CutLemmas.{without}
use Rattle.replay_core.specs.Replayed.{beginning, closing, mark_text}
use Rattle.replay_laws.specs.Held.{IsMainBlock}
use Rattle.storage_laws.specs.States.{page_in, page_or_none, whole_block}
use Rattle.storage_laws.proofs.FileLemmas.{file-named}
use Rattle.wal_base.specs.Decimal.{decimal_number}
use Rattle.std.specs.Option.{option_and_then}
use Rattle.cluster_laws.proofs.StartLemmas.{control-no_version, control-not_main, control-path}

abbrev pub control_parts : List (List ℕ)
control_parts = codes "global" ∷ codes "pg_control" ∷ []

abbrev pub label_parts : List (List ℕ)
label_parts = codes "backup_label" ∷ []

abbrev pub mark_parts : List (List ℕ)
mark_parts = codes "pg_walreplay.unfinished" ∷ []

mark_not_main : relation_of (path_of false mark_parts) ≡ None
unfolding relation_of
mark_not_main = refl

-- ---- alike clusters, with alike files put in both or the same removed

module _ (per : ℕ) (root other : PathValue) where
  put_shallow : (at : PathValue) (parts : List (List ℕ)) (v : Entry) (c : Contents) → length at.parts ≤ 61 → length parts ≤ 3 → IsShallow c at → IsShallow (insert c (below at parts) v) at
  put_shallow at parts v c room few shallow q held there = same_or_other q (below at parts)
      (λ same. omega (arith, ap (λ (p : PathValue). length p.parts) same, length-append at.parts parts))
      (λ different. shallow q held (ap is_some (sym (entry-put_other c (below at parts) q v different)) ∙ there))

  put_both : (parts : List (List ℕ)) (a b : List ℕ) (c d : Contents) → length parts ≤ 3 → is_alike per parts a b ≡ true → AlikeClusters per c root d other
      → AlikeClusters per (insert c (below root parts) (FileEntry a)) root (insert d (below other parts) (FileEntry b)) other
  put_both parts a b c d few like both = record {
    alike = λ q. same_or_other (below root q) (below root parts)
        (λ same.
        let own : q ≡ parts = append_cancel_left root.parts q parts (ap (λ (p : PathValue). p.parts) same) in
        let one : entry_at (insert c (below root parts) (FileEntry a)) (below root q) ≡ Some (FileEntry a) = ap (entry_at (insert c (below root parts) (FileEntry a))) same ∙ entry-put c (below root parts) (FileEntry a) in
        let two : entry_at (insert d (below other parts) (FileEntry b)) (below other q) ≡ Some (FileEntry b) = ap (λ l. entry_at (insert d (below other parts) (FileEntry b)) (below other l)) own ∙ entry-put d (below other parts) (FileEntry b) in
        subst (λ o. AlikeEntries (is_alike per q) o (entry_at (insert d (below other parts) (FileEntry b)) (below other q))) (sym one)
        (subst (λ o. AlikeEntries (is_alike per q) (Some (FileEntry a)) o) (sym two) (Files a b (ap (λ l. is_alike per l a b) own ∙ like))))
        (λ different.
        subst (λ o. AlikeEntries (is_alike per q) o (entry_at (insert d (below other parts) (FileEntry b)) (below other q))) (sym (entry-put_other c (below root parts) (below root q) (FileEntry a) different))
        (subst (λ o. AlikeEntries (is_alike per q) (entry_at c (below root q)) o)
        (sym (entry-put_other d (below other parts) (below other q) (FileEntry b) (λ e. different (ap (below root) (append_cancel_left other.parts q parts (ap (λ (p : PathValue). p.parts) e))))))
        (both.alike q)));
    deep = ⊎_elim (λ same. inl same) (λ two. inr (put_shallow root parts (FileEntry a) c both.room few two.0, put_shallow other parts (FileEntry b) d both.other_room few two.1)) both.deep;
    room = both.room;
    other_room = both.other_room;
  }

  gone_shrinks : (c : Contents) (path : PathValue) → Shrinks c (remove c path)
  gone_shrinks c path q there = same_or_other q path
      (λ same. absurd (true≢false (sym there ∙ ap (λ p. is_some (get (remove c path) p)) same ∙ ap is_some (get-removed c path))))
      (λ different. ap is_some (sym (get-removed_other c path q different)) ∙ there)

  removed_both : (parts : List (List ℕ)) (c d : Contents) → 0 < length parts → AlikeClusters per c root d other → AlikeClusters per (remove c (below root parts)) root (remove d (below other parts)) other
  removed_both parts c d some both = record {
    alike = removed_alike (is_alike per) c d root other parts some both.alike;
    deep = ⊎_elim (λ same. inl same) (λ two. inr (shrinks-shallow root c (remove c (below root parts)) (gone_shrinks c (below root parts)) two.0, shrinks-shallow other d (remove d (below other parts)) (gone_shrinks d (below other parts)) two.1)) both.deep;
    room = both.room;
    other_room = both.other_room;
  }

  -- ---- before the first record

  begun_is : (at : PathValue) (c : Contents) → all_changed c (beginning at) ≡ insert c (below at mark_parts) (FileEntry mark_text)
  begun_is at c = written-new c (below at mark_parts) mark_text

  pub begun-both : (c d : Contents) → AlikeClusters per c root d other → AlikeClusters per (all_changed c (beginning root)) root (all_changed d (beginning other)) other
  begun-both c d both =
      subst (λ e. AlikeClusters per e root (all_changed d (beginning other)) other) (sym (begun_is root c))
      (subst (λ f. AlikeClusters per (insert c (below root mark_parts) (FileEntry mark_text)) root f other) (sym (begun_is other d))
      (put_both mark_parts mark_text mark_text c d (omega arith) (like-plain per mark_parts mark_not_main mark_text) both))

  -- ---- behind the last one

  bytes_same : (c d : Contents) → AlikeClusters per c root d other → bytes_at c (below root control_parts) ≡ bytes_at d (below other control_parts)
  bytes_same c d both = by (entry_at c (below root control_parts)) (entry_at d (below other control_parts)) (both.alike control_parts)
    where
      by : (o p : Option Entry) → AlikeEntries (is_alike per control_parts) o p → bytes_in o ≡ bytes_in p
      by o p Neither = refl
      by o p (Folders bad) = refl
      by o p (Files a b is) = same-bytes per control_parts control-no_version control-not_main a b is
      by o p Links = refl

  abbrev closed_files : PathValue → Contents → List ℕ → Contents
  closed_files at c bytes = remove (remove (insert c (below at control_parts) (FileEntry (splice (bytes_at c (below at control_parts)) 0 bytes))) (below at label_parts)) (below at mark_parts)

  closed_is : (at : PathValue) (c : Contents) (v : Control) → all_changed c (closing at v) ≡ closed_files at c (control_bytes v)
  closed_is at c v = ap (λ p. remove (remove (written c p 0 (control_bytes v)) (below at label_parts)) (below at mark_parts)) (control-path at)

  pub closed-both : (c d : Contents) (v : Control) → AlikeClusters per c root d other → AlikeClusters per (all_changed c (closing root v)) root (all_changed d (closing other v)) other
  closed-both c d v both =
      subst (λ e. AlikeClusters per e root (all_changed d (closing other v)) other) (sym (closed_is root c v))
      (subst (λ f. AlikeClusters per (closed_files root c (control_bytes v)) root f other) (sym (closed_is other d v))
      (removed_both mark_parts _ _ (omega arith) (removed_both label_parts _ _ (omega arith)
      (put_both control_parts (splice (bytes_at c (below root control_parts)) 0 (control_bytes v)) (splice (bytes_at d (below other control_parts)) 0 (control_bytes v)) c d (omega arith)
      (ap (λ b. is_alike per control_parts (splice (bytes_at c (below root control_parts)) 0 (control_bytes v)) (splice b 0 (control_bytes v))) (sym (bytes_same c d both))
      ∙ like-plain per control_parts control-not_main (splice (bytes_at c (below root control_parts)) 0 (control_bytes v))) both))))

-- ---- none of these is a file of a relation

-- a name of a main fork has no underscore, and one of an init fork is read as a file's
control_marked : without 95 (codes "pg_control") ≡ false
unfolding without
control_marked = refl

control_unnamed : file_named (codes "pg_control") ≡ None
unfolding file_named decimal_number
control_unnamed = refl

main_other : (relation segment : ℕ) → name_of relation Main segment ≢ codes "pg_control"
main_other relation segment same = true≢false (sym (main-unmarked relation segment) ∙ ap (without 95) same ∙ control_marked)

some_none : {file : FileName} → Some file ≡ None → ⊥
some_none e = absurd cc

init_other : (relation : ℕ) → relation < 2 ^ 32 → name_of relation Init 0 ≢ codes "pg_control"
init_other relation small same = some_none (sym (file-named relation Init 0 small (omega arith)) ∙ ap file_named same ∙ control_unnamed)

one_part : (t : Bool) (database : ℕ) (name x : List ℕ) → (if t then global_parts else database_parts database) ++ name ∷ [] ≡ x ∷ [] → ⊥
one_part true database name x e = let more : name ∷ [] ≡ [] = cc in absurd cc
one_part false database name x e = let more : decimal database ∷ name ∷ [] ≡ [] = cc in absurd cc

two_parts : (t : Bool) (database : ℕ) (name : List ℕ) → name ≢ codes "pg_control" → (if t then global_parts else database_parts database) ++ name ∷ [] ≡ control_parts → ⊥
two_parts true database name other e = let same : name ≡ codes "pg_control" = cc in other same
two_parts false database name other e = let more : name ∷ [] ≡ [] = cc in absurd cc

apart_from : (root : PathValue) (rel : RelName) (fork : Fork) (segment : ℕ) (special : List (List ℕ)) → (file_parts rel fork segment ≡ special → ⊥) → relation_file root rel fork segment ≢ below root special
apart_from root rel fork segment special apart e = apart (append_cancel_left root.parts (file_parts rel fork segment) special (ap (λ (p : PathValue). p.parts) (sym (file-lies root rel fork segment) ∙ e)))

module _ (per : ℕ) (root : PathValue) (c : Contents) (v : Control) (rel : RelName) (fork : Fork) (segment : ℕ) (other : name_of rel.relation fork segment ≢ codes "pg_control") where
  entry_closed : entry_at (all_changed c (closing root v)) (relation_file root rel fork segment) ≡ entry_at c (relation_file root rel fork segment)
  entry_closed =
      let path = relation_file root rel fork segment in
      let name = name_of rel.relation fork segment in
      let put : Contents = insert c (below root control_parts) (FileEntry (splice (bytes_at c (below root control_parts)) 0 (control_bytes v))) in
      let control_apart : path ≢ below root control_parts = apart_from root rel fork segment control_parts (two_parts (rel.space == 1664) rel.database name other) in
      let label_apart : path ≢ below root label_parts = apart_from root rel fork segment label_parts (one_part (rel.space == 1664) rel.database name (codes "backup_label")) in
      let mark_apart : path ≢ below root mark_parts = apart_from root rel fork segment mark_parts (one_part (rel.space == 1664) rel.database name (codes "pg_walreplay.unfinished")) in
      ap (λ e. entry_at e path) (closed_is per root root root c v)
      ∙ entry-removed_other (remove put (below root label_parts)) (below root mark_parts) path mark_apart
      ∙ entry-removed_other put (below root label_parts) path label_apart
      ∙ entry-put_other c (below root control_parts) path (FileEntry (splice (bytes_at c (below root control_parts)) 0 (control_bytes v))) control_apart

pub page-closed : (root : PathValue) (per : ℕ) (c : Contents) (v : Control) (name : BlockName) → IsMainBlock name → page_in root per name (all_changed c (closing root v)) ≡ page_in root per name c
page-closed root per c v name main =
    subst (λ f. option_and_then page_or_none (whole_block (name.block % per) (bytes_at (all_changed c (closing root v)) (relation_file root name.rel f (name.block / per))))
    ≡ option_and_then page_or_none (whole_block (name.block % per) (bytes_at c (relation_file root name.rel f (name.block / per))))) (sym main.main)
    (ap (λ o. option_and_then page_or_none (whole_block (name.block % per) (bytes_in o))) (entry_closed per root c v name.rel Main (name.block / per) (main_other name.rel.relation (name.block / per))))

pub init-closed : (root : PathValue) (per : ℕ) (c : Contents) (v : Control) (rel : RelName) → rel.relation < 2 ^ 32 → has_init (all_changed c (closing root v)) root rel ≡ has_init c root rel
init-closed root per c v rel small = ap is_file (entry_closed per root c v rel Init 0 (init_other rel.relation small))

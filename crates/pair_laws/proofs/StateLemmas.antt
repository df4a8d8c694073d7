-- The state of each block of a pair's clusters, as their files have it.
use Rattle.std.proofs.Common.{◌≡◌, inl, inr, ℕ, ◌+◌, ◌*◌, ◌/◌, ◌%◌, ◌==◌, ◌<◌, ◌≤◌, ◌^◌, Bool, true, false, ◌&&◌, nat_lt, List, [], ◌∷◌, ◌++◌, length, take, drop, Option, None, Some, refl, sym, ap, ◌∙◌, true≢false, append_assoc, arith, eqb-true, if◌then◌else◌}
use Rattle.std.proofs.lemmas.Bool.{and_parts}
use Rattle.std.proofs.lemmas.Bool.Decides.{nat_tests}
use Rattle.std.specs.List.{fold}
use Rattle.std.specs.Option.{option_and_then}
use Rattle.block_refs.specs.declared.names.BlockName.{BlockName}
use Rattle.block_refs.specs.declared.names.Fork.TheVariants.{Main}
use Rattle.block_refs.specs.declared.names.RelName.{RelName}
use Rattle.cluster_tree.specs.Contents.{Contents, Entry, FileEntry, FolderEntry, LinkEntry, entry_at}
use Rattle.cluster_tree.specs.PathValue.{PathValue, below, path_of}
use Rattle.cluster_tree.specs.Tree.{bytes_in}
use Rattle.file_walk.specs.Laws.{IsMainFile, IsPlaced}
use Rattle.file_walk.proofs.RelationLemmas.{relation_written}
use Rattle.heap_tuples.proofs.HeapLemmas.{init_formed}
use Rattle.page_layout.specs.Edits.{init_bytes}
use Rattle.page_layout.specs.Lsn.{with_lsn}
use Rattle.page_masks.proofs.LsnLemmas.{stamped_page}
use Rattle.relation_files.specs.Names.{name_of}
use Rattle.relation_files.specs.Paths.{folder_parts, relation_file}
use Rattle.replay_laws.specs.Held.{IsMainBlock}
use Rattle.replay_profile.specs.Names.{is_rel}
use Rattle.storage_laws.specs.FileLaws.{IsProper}
use Rattle.storage_laws.specs.States.{block_in, page_in, page_or_none, whole_block}
use Rattle.storage_replay.specs.Reading.{is_zero}
use Rattle.wal_records.specs.Writer.{written}
use Rattle.pair_maker.specs.Blocks.{block_page, inserted, log_start}
use Rattle.pair_maker.specs.Files.{relation_bytes}
use Rattle.pair_maker.specs.Inserts.{inserts_into, pair_relation}
use Rattle.pair_maker.specs.Logs.{block_end, log_upto, origin_of, records_upto}
use Rattle.pair_maker.specs.declared.side.Side.{Side}
use Rattle.pair_laws.specs.Life.{page_of}
use Rattle.pair_laws.proofs.FileLemmas.{inserted-formed, page_of_side, relation-long, relation-page}
use Rattle.pair_laws.proofs.GrewLemmas.{cluster-file, empty-block, none-if}
use Rattle.pair_laws.proofs.PlannedLemmas.{IsCluster}
use Rattle.pair_laws.proofs.SmallLemmas.{upto_grown}
use Rattle.pair_laws.proofs.StepLemmas.{grows}
use Rattle.wal_records.specs.Writer.{appended, begun}

-- ---- a page isn't zeros

zero_test : (b : Bool) → (if b then false else true) ≡ true → b ≡ false
zero_test true h = sym h
zero_test false h = refl

stamped_some : (end : ℕ) (p : List ℕ) → 0 < end → length p ≡ 8192 → is_zero (with_lsn end p) ≡ false
stamped_some end p some long =
    zero_test (is_zero (with_lsn end p)) (and_parts (length (with_lsn end p) == 8192) (if is_zero (with_lsn end p) then false else true) (stamped_page end p some long)).1

end_some : (side : Side) (seed n : ℕ) → n ≤ 4096 → 0 < (log_upto side seed n).end
unfolding log_upto written
end_some side seed n few =
    let grown : 0x10_0000 ≤ (fold appended (begun (origin_of side)) (records_upto side seed n)).end = grows (begun (origin_of side)) (records_upto side seed n) (upto_grown side seed n few).each in
    omega (arith, grown)

page_some : (side : Side) (seed block : ℕ) → block < 4096 → is_zero (page_of_side side seed block) ≡ false
unfolding block_page block_end
page_some side seed block low = by (inserts_into side seed block)
  where
    by : (b : Bool) → is_zero (block_page seed block (if b then Some (log_upto side seed (block + 1)).end else None)) ≡ false
    by true = stamped_some (log_upto side seed (block + 1)).end (inserted seed block) (end_some side seed (block + 1) (omega (arith, low))) (inserted-formed seed block).size
    by false = stamped_some log_start (init_bytes 0) (omega arith) init_formed.size

-- ---- names of relations

pub rel-same : (a b : RelName) → is_rel a b ≡ true → a ≡ b
rel-same a b h =
    let one = and_parts (a.space == b.space) (a.database == b.database && a.relation == b.relation) h in
    let two = and_parts (a.database == b.database) (a.relation == b.relation) one.1 in
    let space = eqb-true a.space b.space one.0 in
    let database = eqb-true a.database b.database two.0 in
    let relation = eqb-true a.relation b.relation two.1 in
    λ i. record { space = space i; database = database i; relation = relation i }

placed : (rel : RelName) → rel.database < 2 ^ 32 → IsProper rel → IsPlaced rel
placed rel low (inl shared) = inl shared
placed rel low (inr other) = inr (other.0, (let some = other.1 in omega (arith, some), low))

-- ---- a block of a cluster

no_page : (o : Option (List ℕ)) → o ≡ None → option_and_then page_or_none o ≡ None
no_page o h = ap (λ x. option_and_then page_or_none x) h

module _ (side : Side) (seed blocks : ℕ) (few : blocks ≤ 4096) (c : Contents) (root : PathValue) (is : IsCluster c root (relation_bytes side seed blocks))
    (stands : entry_at c (relation_file root pair_relation Main 0) ≡ Some (FileEntry (relation_bytes side seed blocks))) (name : BlockName) (main : IsMainBlock name) where
  abbrev bytes : List ℕ
  bytes = relation_bytes side seed blocks

  abbrev segment : ℕ
  segment = name.block / 131072

  abbrev place : ℕ
  place = name.block % 131072

  abbrev path : PathValue
  path = relation_file root name.rel name.fork segment

  long : length bytes ≡ 8192 * blocks
  long = relation-long side seed blocks

  segment_small : segment < 2 ^ 32
  segment_small = let low = main.block.block in omega (arith, low)

  -- what is a file there is the pair's relation
  only_segment : (its : List ℕ) → entry_at c path ≡ Some (FileEntry its) → (name.rel.relation ≡ 16384) × (segment ≡ 0) × (its ≡ bytes)
  only_segment its there =
      let only = cluster-file c root bytes blocks few long is name.rel name.fork segment its main.block.rel.relation segment_small there in
      (ap (λ f. f.relation) only.0, ap (λ f. f.segment) only.0, only.1)

  is_pair : (its : List ℕ) → entry_at c path ≡ Some (FileEntry its) → is_rel name.rel pair_relation ≡ true
  is_pair its there =
      let only = only_segment its there in
      let number = only.0 in
      let low = main.block.rel.relation in
      let parts = folder_parts name.rel ++ name_of name.rel.relation Main segment ∷ [] in
      let file : IsMainFile (path_of false parts) name.rel segment = record { placed = placed name.rel main.block.rel.database main.proper; numbered = (omega (arith, number), low); small = segment_small; lies = refl } in
      let named = relation_written (path_of false parts) name.rel segment file in
      let here : entry_at c (below root parts) ≡ Some (FileEntry its) =
      ap (λ l. entry_at c (path_of root.absolute l)) (sym (append_assoc root.parts (folder_parts name.rel) (name_of name.rel.relation Main segment ∷ [])))
      ∙ ap (λ f. entry_at c (relation_file root name.rel f segment)) (sym main.main) ∙ there in
      let same = ((is.each parts (FileEntry its) here).relation (name.rel, segment) named).0 in
      ap (λ (at : RelName × ℕ). is_rel at.0 pair_relation) same

  none_by : (o : Option Entry) → entry_at c path ≡ o → ((its : List ℕ) → entry_at c path ≡ Some (FileEntry its) → whole_block place its ≡ None) → whole_block place (bytes_in o) ≡ None
  none_by None e all = empty-block c root bytes blocks few long is place
  none_by (Some (FolderEntry bad)) e all = empty-block c root bytes blocks few long is place
  none_by (Some (FileEntry its)) e all = all its e
  none_by (Some LinkEntry) e all = empty-block c root bytes blocks few long is place

  absent : ((its : List ℕ) → entry_at c path ≡ Some (FileEntry its) → whole_block place its ≡ None) → page_in root 131072 name c ≡ None
  absent all = no_page (block_in root 131072 name c) (none_by (entry_at c path) refl all)

  other_rel : is_rel name.rel pair_relation ≡ false → page_in root 131072 name c ≡ None
  other_rel other = absent (λ its there. absurd (true≢false (sym (is_pair its there) ∙ other)))

  past : (block n : ℕ) → n ≤ block → nat_lt block n ≡ false
  past block n high = grind (arith, nat_tests)

  past_end : blocks ≤ name.block → page_in root 131072 name c ≡ None
  past_end high =
      absent
      (λ its there.
      let only = only_segment its there in
      let zero = only.1 in
      let size : length its / 8192 ≡ blocks = ap (λ (l : List ℕ). length l / 8192) only.2 ∙ (let l = long in omega (arith, l)) in
      none-if (nat_lt place (length its / 8192)) (take 8192 (drop (place * 8192) its)) (past place (length its / 8192) (omega (arith, zero, size, high))))

  -- a block of the relation
  whole_at : (block n : ℕ) → block < n → length bytes / 8192 ≡ n → whole_block block bytes ≡ Some (take 8192 (drop (block * 8192) bytes))
  whole_at block n low size = ap (λ b. if b then Some (take 8192 (drop (block * 8192) bytes)) else None) (let test : nat_lt block (length bytes / 8192) ≡ true = grind (arith, nat_tests, size) in test)

  page_is : is_rel name.rel pair_relation ≡ true → name.block < blocks → page_in root 131072 name c ≡ Some (page_of_side side seed name.block)
  page_is same low =
      let rel = rel-same name.rel pair_relation same in
      let first : segment ≡ 0 = omega (arith, low, few) in
      let own : place ≡ name.block = omega (arith, low, few) in
      let there : entry_at c path ≡ Some (FileEntry bytes) =
      ap (λ r. entry_at c (relation_file root r name.fork segment)) rel ∙ ap (λ f. entry_at c (relation_file root pair_relation f segment)) main.main
      ∙ ap (λ n. entry_at c (relation_file root pair_relation Main n)) first ∙ stands in
      let size : length bytes / 8192 ≡ blocks = let l = long in omega (arith, l) in
      ap (λ o. option_and_then page_or_none (whole_block place (bytes_in o))) there
      ∙ ap (λ n. option_and_then page_or_none (whole_block n bytes)) own
      ∙ ap (λ o. option_and_then page_or_none o) (whole_at name.block blocks low size ∙ ap (λ p. Some p) (relation-page side seed blocks name.block low))
      ∙ ap (λ b. if b then None else Some (page_of_side side seed name.block)) (page_some side seed name.block (omega (arith, low, few)))

  pub page-there : page_in root 131072 name c ≡ page_of side seed blocks name
  page-there = by (is_rel name.rel pair_relation) refl (nat_lt name.block blocks) refl
    where
      by : (b : Bool) → is_rel name.rel pair_relation ≡ b → (d : Bool) → nat_lt name.block blocks ≡ d → page_in root 131072 name c ≡ (if b && d then Some (page_of_side side seed name.block) else None)
      by true same true low = page_is same (grind (arith, nat_tests, low))
      by true same false high = past_end (grind (arith, nat_tests, high))
      by false other d h = other_rel other

-- While what is listed is brought back, blocks in files of main forks stay.
use Rattle.std.proofs.Common.{◌≡◌, ℕ, ◌+◌, ◌-◌, ◌*◌, ◌/◌, ◌%◌, ◌<◌, ◌≤◌, ◌==◌, nat_le, nat_lt, Bool, true, false, not, ◌||◌, ◌&&◌, if◌then◌else◌, Less, List, [], ◌∷◌, ◌++◌, codes, decimal, drop, length, option_map, take, Option, None, Some, is_some, refl, ap, sym, ◌∙◌, true≢false, arith}
use Rattle.std.proofs.lemmas.Bool.Decides.{nat_tests}
use Rattle.std.proofs.lemmas.Map.Keys.{sorted_head}
use Rattle.std.proofs.lemmas.Map.Text.{is_eq-slice_cmp}
use Rattle.std.specs.Cmp.Lexicographic.{bytes_decides, slice_cmp}
use Rattle.std.specs.List.{AllByRecursion, list_all}
use Rattle.std.specs.List.Sorted.{IsStrictlySortedBy}
use Rattle.std.specs.Ordering.{is_eq, nat_cmp}
use Rattle.alike_clusters.proofs.NameLemmas.{file-lies, file_parts}
use Rattle.block_refs.specs.declared.names.BlockName.{BlockName}
use Rattle.block_refs.specs.declared.names.Fork.{Fork}
use Rattle.block_refs.specs.declared.names.RelName.{RelName}
use Rattle.cluster_tree.specs.Contents.{Contents, Entry, FileEntry, FolderEntry, LinkEntry, entry_at, is_file}
use Rattle.cluster_tree.specs.PathOrder.{path_eq}
use Rattle.cluster_tree.specs.PathValue.{PathValue, below, path_of}
use Rattle.cluster_tree.specs.Tree.{bytes_at, bytes_in}
use Rattle.cluster_tree.proofs.OrderLemmas.{path_eq-own, path_eq-same}
use Rattle.file_edits.specs.Sparing.{Piece, Shows}
use Rattle.file_effects.specs.Touched.{IsOfMain}
use Rattle.file_walk.specs.Actions.{here}
use Rattle.file_walk.specs.Relations.{relation_of}
use Rattle.file_walk.specs.Walk.{kind_there}
use Rattle.mark_lines.specs.Paths.{way_of}
use Rattle.relation_files.specs.Names.{name_of}
use Rattle.relation_files.specs.Paths.{database_parts, global_parts, relation_file}
use Rattle.replay_areas.specs.Laws.{TellsAreas, listed_at}
use Rattle.replay_areas.specs.Listing.{listed_by}
use Rattle.replay_core.specs.Sparing.{HasPage}
use Rattle.replay_list.specs.Lines.{path_at, way_to, ways_to}
use Rattle.replay_list.specs.declared.listed.Listed.{Listed}
use Rattle.replay_list.specs.declared.listed.Listed.TheVariants.{File, Folder, Page}
use Rattle.replay_restart.specs.Stopped.{IsBringingBack}
use Rattle.replay_restore.specs.Filled.{is_spared}
use Rattle.replay_restore.specs.Listing.{has_file, is_file_at}
use Rattle.replay_start.specs.Checked.{Start}
use Rattle.replay_world.specs.Touched.{touched_by}
use Rattle.restart_laws.specs.Stopped.{IsStoppedIn, WasBegun}
use Rattle.restart_laws.proofs.BegunLemmas.{begun-from}
use Rattle.restored_laws.specs.Back.{IsInMain}
use Rattle.rmgr_hooks.specs.Custom.{Extension}
use Rattle.storage_replay.specs.Sparing.{piece_of}

-- ---- a block, and the piece of its file

file_there : (o : Option Entry) → 0 < length (bytes_in o) → is_file o ≡ true
file_there None l = absurd (omega (arith, l))
file_there (Some (FolderEntry bad)) l = absurd (omega (arith, l))
file_there (Some (FileEntry _)) l = refl
file_there (Some LinkEntry) l = absurd (omega (arith, l))

module _ (root : PathValue) (per : ℕ) (name : BlockName) (page : List ℕ) (c : Contents) where
  abbrev p : ℕ
  p = name.block % per

  abbrev bytes : List ℕ
  bytes = bytes_at c (piece_of root per name).path

  one_page : (name.block % per + 1) * 8192 - name.block % per * 8192 ≡ 8192
  one_page = omega arith

  block-shows : HasPage root per name page c → Shows (piece_of root per name) page c
  block-shows has = by (nat_lt p (length bytes / 8192)) refl has
    where
      by : (b : Bool) → nat_lt p (length bytes / 8192) ≡ b → (if b then Some (take 8192 (drop (p * 8192) bytes)) else None) ≡ Some page → Shows (piece_of root per name) page c
      by true l is =
          let less : p < length bytes / 8192 = grind (arith, nat_tests, l) in
          let same : take 8192 (drop (p * 8192) bytes) ≡ page = cc is in
          record {
            file = file_there (entry_at c (piece_of root per name).path) (omega (arith, less));
            whole = omega (arith, less);
            shown = ap (λ n. take n (drop (p * 8192) bytes)) one_page ∙ same;
          }
      by false l is = absurd (cc is)

  shows-block : Shows (piece_of root per name) page c → HasPage root per name page c
  shows-block shows =
      let less : p < length bytes / 8192 = omega (arith, shows.whole) in
      let test : nat_lt p (length bytes / 8192) ≡ true = grind (arith, nat_tests, less) in
      ap (λ b. if b then Some (take 8192 (drop (p * 8192) bytes)) else None) test
      ∙ ap (λ n. Some (take n (drop (p * 8192) bytes))) (sym one_page) ∙ ap (λ x. Some x) shows.shown

-- ---- a list that has the file spares its pieces

or_true : (a b : Bool) → b ≡ true → (a || b) ≡ true
or_true true b is = refl
or_true false b is = is

not_less : (w : List ℕ) → slice_cmp nat_cmp w w ≡ Less → ⊥
not_less w less = true≢false (sym ((bytes_decides w w).1 refl) ∙ sym (is_eq-slice_cmp w w) ∙ ap is_eq less)

sorted_tail : (k : List ℕ) (ks : List (List ℕ)) → IsStrictlySortedBy (slice_cmp nat_cmp) (k ∷ ks) → IsStrictlySortedBy (slice_cmp nat_cmp) ks
unfolding IsStrictlySortedBy
sorted_tail k ks sorted = sorted.1

module _ (root : PathValue) (piece : Piece) (size : ℕ) (fits : piece.to ≤ size) where
  spared_by : (one : Listed) → path_eq piece.path (path_at one) ≡ false → is_spared piece one ≡ true
  spared_by (Folder path) off = refl
  spared_by (Page path n) off = ap (λ b. not b || nat_le piece.to n) off
  spared_by (File path n) off = ap not off

  none_after : (w : List ℕ) → way_of root piece.path ≡ w → (more : List Listed) → AllByRecursion (λ y. slice_cmp nat_cmp w y ≡ Less) (ways_to root more) → list_all (is_spared piece) more ≡ true
  none_after w is [] less = refl
  none_after w is (one ∷ more) less = ap (λ b. b && list_all (is_spared piece) more) (spared_by one (off (path_eq piece.path (path_at one)) refl)) ∙ none_after w is more less.1
    where
      off : (b : Bool) → path_eq piece.path (path_at one) ≡ b → b ≡ false
      off true same = absurd (not_less w (ap (slice_cmp nat_cmp w) (sym is ∙ ap (way_of root) (path_eq-same piece.path (path_at one) same)) ∙ less.0))
      off false other = refl

  abbrev own : Listed
  own = Page piece.path size

  own_spared : is_spared piece own ≡ true
  own_spared =
      let less : nat_le piece.to size ≡ true = grind (arith, nat_tests, fits) in
      ap (λ t. not t || nat_le piece.to size) (path_eq-own piece.path) ∙ less

  all-spared : (listed : List Listed) → IsStrictlySortedBy (slice_cmp nat_cmp) (ways_to root listed) → listed_at listed piece.path ≡ Some own → list_all (is_spared piece) listed ≡ true
  all-spared [] sorted is = absurd cc
  all-spared (one ∷ more) sorted is = by (λ found. all-spared more (sorted_tail (way_to root one) (ways_to root more) sorted) found) (path_eq piece.path (path_at one)) refl is
    where
      by : (listed_at more piece.path ≡ Some own → list_all (is_spared piece) more ≡ true) → (b : Bool) → path_eq piece.path (path_at one) ≡ b → (if b then Some one else listed_at more piece.path) ≡ Some own → (is_spared piece one && list_all (is_spared piece) more) ≡ true
      by rest true same found =
          let it : one ≡ own = cc in
          ap (λ l. is_spared piece l && list_all (is_spared piece) more) it ∙ ap (λ b. b && list_all (is_spared piece) more) own_spared
          ∙ none_after (way_to root one) (ap (way_of root) (path_eq-same piece.path (path_at one) same)) more (sorted_head (slice_cmp nat_cmp) (way_to root one) (ways_to root more) sorted)
      by rest false other found = ap (λ b. b && list_all (is_spared piece) more) (spared_by one other) ∙ rest found

  has-listed : (listed : List Listed) → listed_at listed piece.path ≡ Some own → has_file listed piece.path ≡ true
  has-listed [] is = absurd cc
  has-listed (one ∷ more) is = by (has-listed more) (path_eq piece.path (path_at one)) is
    where
      by : (listed_at more piece.path ≡ Some own → has_file more piece.path ≡ true) → (b : Bool) → (if b then Some one else listed_at more piece.path) ≡ Some own → (is_file_at piece.path one || has_file more piece.path) ≡ true
      by rest true found =
          let it : one ≡ own = cc in
          ap (λ l. is_file_at piece.path l || has_file more piece.path) it ∙ ap (λ b. b || has_file more piece.path) (path_eq-own piece.path)
      by rest false found = or_true (is_file_at piece.path one) (has_file more piece.path) (rest found)

-- ---- what stands while what is listed is brought back

file_bytes : (o : Option Entry) → is_file o ≡ true → o ≡ Some (FileEntry (bytes_in o))
file_bytes None is = absurd (true≢false (sym is))
file_bytes (Some (FolderEntry bad)) is = absurd (true≢false (sym is))
file_bytes (Some (FileEntry _)) is = refl
file_bytes (Some LinkEntry) is = absurd (true≢false (sym is))

module _ (custom : Option Extension) (root : PathValue) (s : Start) (listed : List Listed) (c d x y : Contents) (begun : WasBegun custom root s listed c d)
    (stopped : IsStoppedIn custom root s d x) (back : IsBringingBack root listed x y) where
  abbrev per : ℕ
  per = s.control.relseg

  -- what the list has at a file of a relation
  abbrev ListedAs : List (List ℕ) → Type 0
  ListedAs parts = listed_at listed (below root parts) ≡ option_map (listed_by (is_some (relation_of (path_of false parts))) (below root parts)) (kind_there (entry_at d (below root parts)))

  told_at : (rel : RelName) (fork : Fork) (segment : ℕ) → ListedAs (file_parts rel fork segment)
  told_at rel fork segment = by (rel.space == 1664)
    where
      tells : TellsAreas d root listed
      tells = (begun-from custom root s listed c d begun).tells

      by : (t : Bool) → ListedAs ((if t then global_parts else database_parts rel.database) ++ name_of rel.relation fork segment ∷ [])
      by true = tells.areas (codes "global") (name_of rel.relation fork segment ∷ []) refl
      by false = tells.areas (codes "base") (decimal rel.database ∷ name_of rel.relation fork segment ∷ []) refl

  page_listed : (name : BlockName) → IsInMain per name → (piece : PathValue) → piece ≡ relation_file root name.rel name.fork (name.block / per) → is_file (entry_at d piece) ≡ true
      → listed_at listed piece ≡ Some (Page piece (length (bytes_at d piece)))
  page_listed name main piece at file =
      let parts = file_parts name.rel name.fork (name.block / per) in
      let is : piece ≡ below root parts = at ∙ file-lies root name.rel name.fork (name.block / per) in
      let own : is_some (relation_of (path_of false parts)) ≡ true = ap (λ p. is_some (relation_of p)) (sym (file-lies here name.rel name.fork (name.block / per))) ∙ main in
      ap (listed_at listed) is ∙ told_at name.rel name.fork (name.block / per)
      ∙ ap (λ b. option_map (listed_by b (below root parts)) (kind_there (entry_at d (below root parts)))) own
      ∙ ap (λ p. option_map (listed_by true p) (kind_there (entry_at d p))) (sym is)
      ∙ ap (λ o. option_map (listed_by true piece) (kind_there o)) (file_bytes (entry_at d piece) file)

  block_kept : (name : BlockName) (page : List ℕ) → IsOfMain name → IsInMain per name → touched_by custom s.records name ≡ false → HasPage root per name page d → HasPage root per name page y
  block_kept name page main own free has =
      let piece = piece_of root per name in
      let first = block-shows root per name page d has in
      let is = page_listed name own piece.path refl first.file in
      shows-block root per name page y
      (back.pieces piece page (has-listed root piece (length (bytes_at d piece.path)) first.whole listed is)
      (all-spared root piece (length (bytes_at d piece.path)) first.whole listed begun.list.ascending is)
      (block-shows root per name page x (stopped.blocks name page main own free has)))

  pub restoring-stopped : IsStoppedIn custom root s d y
  restoring-stopped = record { beside = λ path off. back.beside path off ∙ stopped.beside path off; blocks = block_kept }

-- Which blocks of main forks the calls on files spare.
use Rattle.std.proofs.Common.{◌≡◌, ◌≢◌, ◌⊎◌, ℕ, zero, suc, ◌+◌, ◌*◌, ◌/◌, ◌%◌, ◌<◌, ◌^◌, ◌==◌, Bool, true, false, not, cond, ◌&&◌, ◌||◌, nat_le, nat_lt, List, [], ◌∷◌, length, codes, decimal, None, Some, refl, ap, sym, ◌∙◌, inl, inr, ⊎_elim, true≢false, arith}
use Rattle.std.specs.List.{slice_get}
use Rattle.std.proofs.lemmas.Bool.{and_parts}
use Rattle.std.proofs.lemmas.Bool.Decides.{nat_tests}
use Rattle.std.proofs.lemmas.List.{append_cancel_left}
use Rattle.block_refs.specs.declared.names.BlockName.{BlockName}
use Rattle.block_refs.specs.declared.names.Fork.TheVariants.{Main, Visibility}
use Rattle.block_refs.specs.declared.names.RelName.{RelName}
use Rattle.cluster_tree.specs.Apart.{is_held}
use Rattle.cluster_tree.specs.Contents.{parent}
use Rattle.cluster_tree.specs.Folders.{lies_in, last_part}
use Rattle.cluster_tree.specs.PathOrder.{path_eq}
use Rattle.cluster_tree.specs.PathValue.{PathValue, below}
use Rattle.cluster_tree.proofs.HoldLemmas.{holds-held}
use Rattle.cluster_tree.proofs.OrderLemmas.{path_eq-same}
use Rattle.file_edits.specs.Sparing.{spares}
use Rattle.relation_files.specs.Names.{name_of}
use Rattle.relation_files.specs.Paths.{database_parts, folder_parts, global_parts, relation_file, relation_folder}
use Rattle.relation_files.specs.Reading.{file_named}
use Rattle.relation_files.specs.declared.file_name.FileName.{FileName}
use Rattle.wal_base.specs.Decimal.{decimal_number}
use Rattle.slru_replay.specs.Area.{is_of_area}
use Rattle.slru_replay.specs.MultiXact.{is_of_multixacts}
use Rattle.slru_replay.specs.declared.area.Area.{Area}
use Rattle.slru_replay.specs.declared.area.Area.TheVariants.{Status, Offsets, Members}
use Rattle.storage_databases.specs.Databases.{database_folder, version_file}
use Rattle.storage_databases.specs.RelationMap.{map_file, map_parts}
use Rattle.storage_laws.specs.Names.{IsRel, in_fork, is_in_database, same_files, same_folder}
use Rattle.storage_laws.proofs.DatabaseLemmas.{held_database}
use Rattle.storage_laws.proofs.FileLemmas.{file-named, file-same, folder-same, fork-own, fork-is, named-same}
use Rattle.storage_laws.proofs.NumberLemmas.{and-both, eq-is, eq-yes, file-before, file-least, its-place}
use Rattle.storage_laws.proofs.SweepLemmas.{parent-is}
use Rattle.storage_replay.specs.Changes.{cuts_main}
use Rattle.storage_replay.specs.Cutting.{file_swept, name_swept, same_fork}
use Rattle.storage_replay.specs.Sparing.{block_cut, file_of_fork, is_of_fork, is_swept, keeps_piece, piece_of}
use Rattle.storage_replay.specs.declared.sweep.Sweep.{Sweep}
use Rattle.storage_replay.specs.declared.sweep.Sweep.TheVariants.{Remove, Empty}
use Rattle.storage_replay.proofs.OwnLemmas.{last-below}
use Rattle.file_effects.specs.Own.{is_at}
use Rattle.file_effects.specs.Touched.{IsOfMain, is_among_dropped, is_behind_cut}
use Rattle.file_effects.proofs.ApartLemmas.{differ, one-top}
use Rattle.file_effects.proofs.OwnLemmas.{at_area, file-top}

not_so : (b : Bool) → (b ≡ true → ⊥) → b ≡ false
not_so true f = absurd (f refl)
not_so false f = refl

pub whole-end : (p : ℕ) → (p + 1) * 8192 % 8192 ≡ 0
whole-end p = omega arith

module _ (root : PathValue) (per : ℕ) (some : 0 < per) (name : BlockName) (is : IsOfMain name) where
  abbrev segment : ℕ
  segment = name.block / per

  abbrev q : PathValue
  q = relation_file root name.rel name.fork (name.block / per)

  abbrev text : List ℕ
  text = name_of name.rel.relation name.fork (name.block / per)

  few : name.block / per < 2 ^ 32
  few = omega (arith, file-least per name.block some, is.block.block)

  its-name : file_named text ≡ Some (record { relation = name.rel.relation; fork = name.fork; segment = name.block / per })
  its-name = file-named name.rel.relation name.fork (name.block / per) is.block.rel.relation few

  -- areas of status and of multixacts

  its-top : (is_at root (codes "global") q ≡ true) ⊎ (is_at root (codes "base") q ≡ true)
  its-top = by (name.rel.space == 1664)
    where
      by : (b : Bool) → (is_at root (codes "global") (below (below root (cond b global_parts (database_parts name.rel.database))) (text ∷ [])) ≡ true) ⊎ (is_at root (codes "base") (below (below root (cond b global_parts (database_parts name.rel.database))) (text ∷ [])) ≡ true)
      by true = inl (holds-held (below root (codes "global" ∷ [])) (below (below root global_parts) (text ∷ [])) (file-top root (codes "global") text []))
      by false = inr (holds-held (below root (codes "base" ∷ [])) (below (below root (database_parts name.rel.database)) (text ∷ [])) (file-top root (codes "base") text (decimal name.rel.database ∷ [])))

  not-at : (top : List ℕ) → (top ≡ codes "global" → ⊥) → (top ≡ codes "base" → ⊥) → is_at root top q ≡ true → ⊥
  not-at top one two at = ⊎_elim (λ e. one (one-top root q top (codes "global") at e)) (λ e. two (one-top root q top (codes "base") at e)) its-top

  pub area-away : (area : Area) → is_of_area root area q ≡ false
  area-away Status = not_so _ (λ e. not-at (codes "pg_xact") (differ (codes "pg_xact") (codes "global") refl) (differ (codes "pg_xact") (codes "base") refl) (at_area root (codes "pg_xact") [] q e))
  area-away Offsets = not_so _ (λ e. not-at (codes "pg_multixact") (differ (codes "pg_multixact") (codes "global") refl) (differ (codes "pg_multixact") (codes "base") refl) (at_area root (codes "pg_multixact") (codes "offsets" ∷ []) q e))
  area-away Members = not_so _ (λ e. not-at (codes "pg_multixact") (differ (codes "pg_multixact") (codes "global") refl) (differ (codes "pg_multixact") (codes "base") refl) (at_area root (codes "pg_multixact") (codes "members" ∷ []) q e))

  neither : (a b : Bool) → a ≡ false → b ≡ false → (a || b) ≡ false
  neither true b e f = absurd (true≢false e)
  neither false b e f = f

  pub multis-away : is_of_multixacts root q ≡ false
  multis-away = neither (is_of_area root Offsets q) (is_of_area root Members q) (area-away Offsets) (area-away Members)

  -- files whose names aren't a relation's

  unnamed : (folder : PathValue) (other : List ℕ) → file_named other ≡ None → path_eq q (below folder (other ∷ [])) ≡ false
  unnamed folder other none = not_so _ (λ e.
      none_some (sym none ∙ ap file_named (sym (named-same (relation_folder root name.rel) folder text other (path_eq-same q (below folder (other ∷ [])) e)).1) ∙ its-name))
    where
      none_some : {file : FileName} → None ≡ Some file → ⊥
      none_some e = absurd cc

  version_unnamed : file_named (codes "PG_VERSION") ≡ None
  unfolding file_named decimal_number
  version_unnamed = refl

  map_unnamed : file_named (codes "pg_filenode.map") ≡ None
  unfolding file_named decimal_number
  map_unnamed = refl

  pub version-away : (database : ℕ) → path_eq q (version_file root database) ≡ false
  version-away database = unnamed (database_folder root database) (codes "PG_VERSION") version_unnamed

  pub map-away : (database : ℕ) → path_eq q (map_file root database) ≡ false
  map-away database = unnamed (below root (map_parts database)) (codes "pg_filenode.map") map_unnamed

  -- another database

  pub database-away : (database : ℕ) → database < 2 ^ 32 → is_in_database database name.rel ≡ false → is_held (database_folder root database) q ≡ false
  database-away database small other = not_so _ (λ held. true≢false (sym (held_database root name.rel database text is.block.rel.database small held) ∙ other))

  -- the map's files

  pub fork-away : (rel : RelName) → is_of_fork root rel Visibility q ≡ false
  fork-away rel =
      not_so _ (λ e.
      let forks : file_of_fork rel.relation Visibility (file_named (last_part q)) ≡ true = (and_parts (lies_in (relation_folder root rel) q) _ e).1 in
      let own : file_of_fork rel.relation Visibility (Some (record { relation = name.rel.relation; fork = name.fork; segment = name.block / per })) ≡ true
      = sym (ap (file_of_fork rel.relation Visibility) (ap file_named (last-below (relation_folder root name.rel) text) ∙ its-name)) ∙ forks in
      let one : same_fork Main Visibility ≡ true = ap (λ f. same_fork f Visibility) (sym is.main) ∙ (and_parts (name.rel.relation == rel.relation) (same_fork name.fork Visibility) own).1 in
      absurd cc)

  -- files that are swept

  pub record IsSwept (sweep : Sweep) (rel : RelName) : Type 0 where
    pub folder : same_folder rel name.rel ≡ true
    pub file : file_swept sweep rel.relation (record { relation = name.rel.relation; fork = name.fork; segment = name.block / per }) ≡ true

  swept-is : (sweep : Sweep) (rel : RelName) → IsRel rel → is_swept root sweep rel q ≡ true → IsSwept sweep rel
  swept-is sweep rel small e =
      let two = and_parts (lies_in (relation_folder root rel) q) (name_swept sweep rel.relation (file_named (last_part q))) e in
      let above : relation_folder root rel ≡ relation_folder root name.rel
      = path_eq-same (relation_folder root rel) (parent q) (and_parts (nat_lt 0 (length q.parts)) (path_eq (relation_folder root rel) (parent q)) two.0).1 ∙ parent-is (relation_folder root name.rel) text in
      record {
        folder = folder-same rel name.rel small is.block.rel (append_cancel_left root.parts (folder_parts rel) (folder_parts name.rel) (ap (λ (p : PathValue). p.parts) above));
        file = sym (ap (name_swept sweep rel.relation) (ap file_named (last-below (relation_folder root name.rel) text) ∙ its-name)) ∙ two.1;
      }

  pub relation-away : (rel : RelName) → IsRel rel → same_files rel name.rel ≡ false → is_swept root Remove rel q ≡ false
  relation-away rel small other = not_so _ (λ e.
      let swept = swept-is Remove rel small e in
      true≢false (sym (and-both (same_folder rel name.rel) (rel.relation == name.rel.relation) swept.folder (eq-yes rel.relation name.rel.relation (sym (eq-is name.rel.relation rel.relation swept.file)))) ∙ other))

  -- a fork that is cut behind the block

  before_cut : (blocks : ℕ) → (in_fork_it : Bool) → in_fork_it ≡ true → (in_fork_it && nat_le blocks name.block) ≡ false → name.block < blocks
  before_cut blocks true e late = grind (arith, nat_tests, late)
  before_cut blocks false e late = absurd (true≢false (sym e))

  pub cut-away : (rel : RelName) (blocks : ℕ) → IsRel rel → blocks < 2 ^ 32 → (in_fork rel Main name && nat_le blocks name.block) ≡ false → keeps_piece root per rel Main blocks (piece_of root per name) ≡ true
  cut-away rel blocks small low free = both (spares (piece_of root per name) (block_cut root per rel Main blocks)) (is_swept root (Empty Main (blocks / per)) rel q) (spared (path_eq q (relation_file root rel Main (blocks / per))) refl) (not_so _ unswept)
    where
      both : (a b : Bool) → a ≡ true → b ≡ false → (a && not b) ≡ true
      both true true e f = absurd (true≢false f)
      both true false e f = refl
      both false b e f = absurd (true≢false (sym e))

      cut_few : blocks / per < 2 ^ 32
      cut_few = omega (arith, file-least per blocks some, low)

      spared : (b : Bool) → path_eq q (relation_file root rel Main (blocks / per)) ≡ b → (not b || nat_le ((name.block % per + 1) * 8192) (blocks % per * 8192)) ≡ true
      spared true e =
          let one = file-same root rel Main name (blocks / per) (name.block / per) small is.block.rel cut_few few (sym (path_eq-same q (relation_file root rel Main (blocks / per)) e)) in
          let less : name.block < blocks = before_cut blocks (in_fork rel Main name) one.0 free in
          let place : name.block % per < blocks % per = omega (arith, less, (its-place per name.block some).is, (its-place per blocks some).is, ap (λ n. n * per) one.1) in
          grind (arith, nat_tests, place)
      spared false e = refl

      unswept : is_swept root (Empty Main (blocks / per)) rel q ≡ true → ⊥
      unswept e =
          let swept = swept-is (Empty Main (blocks / per)) rel small e in
          let three = and_parts (name.rel.relation == rel.relation && same_fork name.fork Main) (nat_lt (blocks / per) (name.block / per)) swept.file in
          let two = and_parts (name.rel.relation == rel.relation) (same_fork name.fork Main) three.0 in
          let inside : in_fork rel Main name ≡ true
          = and-both (same_files rel name.rel) (same_fork Main name.fork) (and-both (same_folder rel name.rel) (rel.relation == name.rel.relation) swept.folder (eq-yes rel.relation name.rel.relation (sym (eq-is name.rel.relation rel.relation two.0)))) (fork-own Main name.fork (sym (fork-is name.fork Main two.1))) in
          let less : name.block < blocks = before_cut blocks (in_fork rel Main name) inside free in
          let further : blocks / per < name.block / per = grind (arith, nat_tests, three.1) in
          let more : blocks < name.block = file-before per blocks name.block (blocks / per) (name.block / per) (blocks % per) (name.block % per) (its-place per blocks some) (its-place per name.block some) further in
          omega (arith, less, more)

-- a truncation that doesn't take the block
pub truncate-away : (root : PathValue) (per : ℕ) (some : 0 < per) (name : BlockName) (is : IsOfMain name) (rel : RelName) (blocks flags : ℕ) → IsRel rel → blocks < 2 ^ 32 → is_behind_cut rel blocks flags name ≡ false → (not (cuts_main flags) || keeps_piece root per rel Main blocks (piece_of root per name)) ≡ true
truncate-away root per some name is rel blocks flags small low free = by (cuts_main flags) free
  where
    by : (b : Bool) → (b && (in_fork rel Main name && nat_le blocks name.block)) ≡ false → (not b || keeps_piece root per rel Main blocks (piece_of root per name)) ≡ true
    by true e = cut-away root per some name is rel blocks small low e
    by false e = refl

-- one of some relations that are dropped
pub one-dropped : (rels : List RelName) (name : BlockName) (i : ℕ) (rel : RelName) → is_among_dropped rels name ≡ false → slice_get rels i ≡ Some rel → same_files rel name.rel ≡ false
one-dropped [] name zero rel free at = absurd cc
one-dropped [] name (suc i) rel free at = absurd cc
one-dropped (x ∷ xs) name zero rel free at = let same : x ≡ rel = cc in ap (λ (r : RelName). same_files r name.rel) (sym same) ∙ (none (same_files x name.rel) (is_among_dropped xs name) free).0
  where
    none : (a b : Bool) → (a || b) ≡ false → (a ≡ false) × (b ≡ false)
    none true b e = absurd (true≢false e)
    none false b e = (refl, e)
one-dropped (x ∷ xs) name (suc i) rel free at = one-dropped xs name i rel (none (same_files x name.rel) (is_among_dropped xs name) free).1 at
  where
    none : (a b : Bool) → (a || b) ≡ false → (a ≡ false) × (b ≡ false)
    none true b e = absurd (true≢false e)
    none false b e = (refl, e)

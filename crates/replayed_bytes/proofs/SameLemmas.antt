-- Alike clusters of whole blocks, the same pages and the same versions have the same files.
use Rattle.std.proofs.Common.{◌≡◌, ℕ, zero, suc, ◌+◌, ◌*◌, ◌/◌, ◌%◌, ◌^◌, ◌<◌, ◌≤◌, ◌==◌, Bool, true, false, ◌||◌, List, [], ◌∷◌, ◌++◌, length, take, drop, replicate, Option, None, Some, inl, inr, refl, sym, ap, ap₂, ◌∙◌, take-append-drop, arith}
use Rattle.std.specs.Prelude.{if◌then◌else◌}
use Rattle.std.specs.Option.{option_and_then}
use Rattle.std.proofs.lemmas.List.{drop-drop, length-drop, length-take}
use Rattle.std.proofs.lemmas.Slice.Eq.{bytes_eq-Decides}
use Rattle.alike_clusters.specs.Clusters.{AlikeClusters, is_alike, is_alike_file, is_bounded}
use Rattle.alike_clusters.proofs.LikeLemmas.{Bounded, bounded-is}
use Rattle.alike_clusters.proofs.NameLemmas.{file-lies, file_parts}
use Rattle.block_refs.specs.declared.names.BlockName.{BlockName}
use Rattle.block_refs.specs.declared.names.Fork.TheVariants.{Main}
use Rattle.block_refs.specs.declared.names.RelName.{RelName}
use Rattle.cluster_tree.specs.Contents.{Contents, Entry, FileEntry, entry_at, is_file}
use Rattle.cluster_tree.specs.PathValue.{PathValue, below, path_of}
use Rattle.cluster_tree.specs.Tree.{bytes_at, bytes_in}
use Rattle.file_edits.specs.Alike.{AlikeEntries, Neither, Folders, Files, Links}
use Rattle.file_walk.specs.Actions.{here, is_version}
use Rattle.file_walk.specs.Laws.{IsMainFile, IsPlaced}
use Rattle.file_walk.specs.Relations.{relation_of}
use Rattle.file_walk.proofs.RelationLemmas.{relation_read}
use Rattle.relation_files.specs.Paths.{relation_file}
use Rattle.replay_laws.specs.Held.{IsMainBlock}
use Rattle.storage_laws.specs.FileLaws.{IsProper}
use Rattle.storage_laws.specs.States.{page_in, page_or_none, whole_block}
use Rattle.storage_laws.proofs.NumberLemmas.{and-parts, eq-is, file-of, place-of}
use Rattle.storage_laws.proofs.WholeLemmas.{whole-there}
use Rattle.storage_replay.specs.Reading.{is_zero}
use Rattle.replayed_bytes.specs.Bytes.{HasWholeBlocks, HaveSameFiles, HaveSameVersions}
use Rattle.replayed_bytes.proofs.EndLemmas.{Ended, Ends}

-- ---- bytes of whole blocks

all_zeros : (xs : List ℕ) → is_zero xs ≡ true → xs ≡ replicate (length xs) 0
all_zeros [] h = refl
all_zeros (x ∷ xs) h =
    let two = and-parts (x == 0) (is_zero xs) h in
    ap₂ (λ (y : ℕ) (ys : List ℕ). y ∷ ys) (eq-is x 0 two.0) (all_zeros xs two.1)

-- two blocks that are no page are zeros
one_block : (p q : List ℕ) → length p ≡ length q → (z y : Bool) → is_zero p ≡ z → is_zero q ≡ y → (if z then None else Some p) ≡ (if y then None else Some q) → p ≡ q
one_block p q same true true is so e = all_zeros p is ∙ ap (λ k. replicate k 0) same ∙ sym (all_zeros q so)
one_block p q same true false is so e = absurd cc
one_block p q same false true is so e = absurd cc
one_block p q same false false is so e = cc

abbrev block_at : ℕ → List ℕ → List ℕ
block_at k xs = take 8192 (drop (k * 8192) xs)

behind : (k : ℕ) (xs : List ℕ) → block_at k (drop 8192 xs) ≡ block_at (k + 1) xs
behind k xs = ap (take 8192) (drop-drop (k * 8192) 8192 xs ∙ ap (λ n. drop n xs) (omega arith))

blocks_same : (n : ℕ) (xs ys : List ℕ) → length xs ≡ n * 8192 → length ys ≡ n * 8192 → ((k : ℕ) → k < n → block_at k xs ≡ block_at k ys) → xs ≡ ys
blocks_same zero xs ys one two each = none xs (omega (arith, one)) ∙ sym (none ys (omega (arith, two)))
  where
    none : (zs : List ℕ) → length zs ≡ 0 → zs ≡ []
    none [] e = refl
    none (z ∷ zs) e = absurd (omega (arith, e))
blocks_same (suc n) xs ys one two each =
    sym (take-append-drop 8192 xs)
    ∙ ap₂ (λ (f r : List ℕ). f ++ r) (each 0 (omega arith))
    (blocks_same n (drop 8192 xs) (drop 8192 ys) (omega (arith, one, length-drop 8192 xs)) (omega (arith, two, length-drop 8192 ys))
    (λ k l. behind k xs ∙ each (k + 1) (omega (arith, l)) ∙ sym (behind k ys)))
    ∙ take-append-drop 8192 ys

-- ---- a relation by its path

placed_proper : (rel : RelName) → IsPlaced rel → IsProper rel
placed_proper rel (inl shared) = inl shared
placed_proper rel (inr in_base) = inr (in_base.0, λ none. absurd (omega (arith, none, in_base.1.0)))

placed_small : (rel : RelName) → IsPlaced rel → rel.database < 2 ^ 32
placed_small rel (inl shared) = omega (arith, shared.1)
placed_small rel (inr in_base) = in_base.1.1

module _ (root other : PathValue) (per : ℕ) (some : 0 < per) (c d : Contents) (both : AlikeClusters per c root d other) (whole : HasWholeBlocks c root) (versions : HaveSameVersions c root d other)
    (pages : (name : BlockName) → IsMainBlock name → page_in root per name c ≡ page_in other per name d) where
  module _ (rel : RelName) (segment : ℕ) (parts : List (List ℕ)) (main : IsMainFile (path_of false parts) rel segment) (a b : List ℕ)
      (there : entry_at c (relation_file root rel Main segment) ≡ Some (FileEntry a)) (so_there : entry_at d (relation_file other rel Main segment) ≡ Some (FileEntry b))
      (same : length a ≡ length b) (bounded : Bounded per segment (length a)) (sized : length a % 8192 ≡ 0) where
    abbrev name : ℕ → BlockName
    name block = record { rel = rel; fork = Main; block = segment * per + block }

    is_main : (block : ℕ) → block < length a / 8192 → IsMainBlock (name block)
    is_main block l = record {
      main = refl;
      block = record {
        rel = record { database = placed_small rel main.placed; relation = main.numbered.1 };
        block = omega (arith, bounded.numbered (omega (arith, l)), l);
      };
      proper = placed_proper rel main.placed;
    }

    page_is : (at : PathValue) (e : Contents) (bytes : List ℕ) (block : ℕ) → entry_at e (relation_file at rel Main segment) ≡ Some (FileEntry bytes) → block < per → block * 8192 + 8192 ≤ length bytes
        → page_in at per (name block) e ≡ page_or_none (block_at block bytes)
    page_is at e bytes block entry few l =
        ap₂ (λ (f p : ℕ). option_and_then page_or_none (whole_block p (bytes_at e (relation_file at rel Main f)))) (file-of per segment block few) (place-of per segment block few)
        ∙ ap (λ o. option_and_then page_or_none (whole_block block (bytes_in o))) entry
        ∙ ap (option_and_then page_or_none) (whole-there block bytes l)

    block_same : (block : ℕ) → block < length a / 8192 → block_at block a ≡ block_at block b
    block_same block l =
        let few : block < per = omega (arith, bounded.few, l) in
        let long : block * 8192 + 8192 ≤ length a = omega (arith, l) in
        one_block (block_at block a) (block_at block b)
        (omega (arith, same, length-take 8192 (drop (block * 8192) a), length-take 8192 (drop (block * 8192) b), length-drop (block * 8192) a, length-drop (block * 8192) b))
        (is_zero (block_at block a)) (is_zero (block_at block b)) refl refl
        (sym (page_is root c a block there few long) ∙ pages (name block) (is_main block l) ∙ page_is other d b block so_there few (omega (arith, long, same)))

    main_same : a ≡ b
    main_same = blocks_same (length a / 8192) a b (omega (arith, sized)) (omega (arith, sized, same)) block_same

  module _ (parts : List (List ℕ)) (a b : List ℕ) (there : entry_at c (below root parts) ≡ Some (FileEntry a)) (so_there : entry_at d (below other parts) ≡ Some (FileEntry b)) where
    by_relation : (at : Option (RelName × ℕ)) → relation_of (path_of false parts) ≡ at → is_alike_file per at a b ≡ true → a ≡ b
    by_relation None is like = (bytes_eq-Decides a b).0 like
    by_relation (Some (rel, segment)) is like =
        let main : IsMainFile (path_of false parts) rel segment = relation_read (path_of false parts) rel segment is in
        let lies : parts ≡ file_parts rel Main segment = ap (λ (p : PathValue). p.parts) (main.lies ∙ file-lies here rel Main segment) in
        let two = and-parts (length a == length b) (is_bounded per segment (length a)) like in
        main_same rel segment parts main a b
        (ap (entry_at c) (file-lies root rel Main segment ∙ ap (below root) (sym lies)) ∙ there)
        (ap (entry_at d) (file-lies other rel Main segment ∙ ap (below other) (sym lies)) ∙ so_there)
        (eq-is (length a) (length b) two.0) (bounded-is per segment (length a) two.1)
        (ap (λ o. length (bytes_in o) % 8192) (sym there) ∙ whole parts (rel, segment) is)

    by_version : (v : Bool) → is_version (path_of false parts) ≡ v → (v || is_alike_file per (relation_of (path_of false parts)) a b) ≡ true → a ≡ b
    by_version true is like = sym (ap bytes_in there) ∙ versions parts is ∙ ap bytes_in so_there
    by_version false is like = by_relation (relation_of (path_of false parts)) refl like

  entries_same : (parts : List (List ℕ)) (o p : Option Entry) → AlikeEntries (is_alike per parts) o p → entry_at c (below root parts) ≡ o → entry_at d (below other parts) ≡ p → o ≡ p
  entries_same parts o p Neither is so = refl
  entries_same parts o p (Folders bad) is so = refl
  entries_same parts o p (Files a b like) is so = ap (λ bytes. Some (FileEntry bytes)) (by_version parts a b is so (is_version (path_of false parts)) refl like)
  entries_same parts o p Links is so = refl

  pub files-same : HaveSameFiles c root d other
  files-same parts = entries_same parts (entry_at c (below root parts)) (entry_at d (below other parts)) (both.alike parts) refl refl

-- ---- files that tell a version, behind a record

abbrev file_of : List ℕ → Option Entry
file_of bytes = Some (FileEntry bytes)

no_file : (o : Option Entry) (a : List ℕ) → o ≡ file_of a → is_file o ≡ false → ⊥
no_file o a is none = absurd cc

-- the files of two alike entries, each of which is what stood there, or new where nothing stood
version_same : (per : ℕ) (parts : List (List ℕ)) (o m p q : Option Entry) → AlikeEntries (is_alike per parts) o m → bytes_in o ≡ bytes_in m → Ended o p → Ended m q → (a b : List ℕ) → p ≡ file_of a → q ≡ file_of b → a ≡ b
version_same per parts o m p q alike same (inl one) (inl two) a b is so = sym (ap bytes_in is) ∙ ap bytes_in one ∙ same ∙ sym (ap bytes_in two) ∙ ap bytes_in so
version_same per parts o m p q alike same one (inr (inl none)) a b is so = absurd (no_file q b so none)
version_same per parts o m p q alike same (inr (inl none)) two a b is so = absurd (no_file p a is none)
version_same per parts o m p q alike same (inr (inr one)) (inr (inr two)) a b is so = sym (ap bytes_in is) ∙ ap bytes_in one.1 ∙ sym (ap bytes_in two.1) ∙ ap bytes_in so
version_same per parts o m p q alike same (inl one) (inr (inr two)) a b is so = absurd (first o m alike (sym one ∙ is) two.0)
  where
    first : (o m : Option Entry) → AlikeEntries (is_alike per parts) o m → o ≡ file_of a → m ≡ None → ⊥
    first o m Neither is none = absurd cc
    first o m (Folders bad) is none = absurd cc
    first o m (Files x y like) is none = absurd cc
    first o m Links is none = absurd cc
version_same per parts o m p q alike same (inr (inr one)) (inl two) a b is so = absurd (second o m alike one.0 (sym two ∙ so))
  where
    second : (o m : Option Entry) → AlikeEntries (is_alike per parts) o m → o ≡ None → m ≡ file_of b → ⊥
    second o m Neither none so = absurd cc
    second o m (Folders bad) none so = absurd cc
    second o m (Files x y like) none so = absurd cc
    second o m Links none so = absurd cc

module _ (root other : PathValue) (per : ℕ) (c d e f : Contents) (before : AlikeClusters per c root d other) (after : AlikeClusters per e root f other) (same : HaveSameVersions c root d other) where
  pub versions-kept : Ends root c e → Ends other d f → HaveSameVersions e root f other
  versions-kept one two parts is = by (entry_at e (below root parts)) (entry_at f (below other parts)) (after.alike parts) refl refl
    where
      by : (p q : Option Entry) → AlikeEntries (is_alike per parts) p q → entry_at e (below root parts) ≡ p → entry_at f (below other parts) ≡ q → bytes_in p ≡ bytes_in q
      by p q Neither at to = refl
      by p q (Folders bad) at to = refl
      by p q (Files a b like) at to =
          version_same per parts (entry_at c (below root parts)) (entry_at d (below other parts)) (entry_at e (below root parts)) (entry_at f (below other parts))
          (before.alike parts) (same parts is) (one.versions parts is) (two.versions parts is) a b at to
      by p q Links at to = refl

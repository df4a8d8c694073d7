-- Alike clusters whose blocks match are the same.
use Rattle.std.proofs.Common.{◌≡◌, ℕ, zero, suc, ◌+◌, ◌*◌, ◌/◌, ◌^◌, ◌<◌, ◌≤◌, ◌==◌, Bool, true, false, ◌&&◌, ◌||◌, List, [], ◌∷◌, length, take, drop, map, replicate, Option, None, Some, inl, inr, refl, sym, ap, ap₂, subst, ◌∙◌, true≢false, arith}
use Rattle.std.specs.Prelude.{if◌then◌else◌, option_map}
use Rattle.std.specs.Option.{option_and_then}
use Rattle.std.specs.List.{range_with_len}
use Rattle.std.proofs.lemmas.Bool.{or_parts}
use Rattle.std.proofs.lemmas.Bool.Decides.{nat_tests}
use Rattle.std.proofs.lemmas.Slice.Eq.{bytes_eq-Decides}
use Rattle.std.proofs.lemmas.List.{length-drop, length-take}
use Rattle.alike_clusters.specs.Clusters.{AlikeClusters, is_alike, is_alike_file, is_bounded}
use Rattle.alike_clusters.proofs.LikeLemmas.{Bounded, bounded-is}
use Rattle.alike_clusters.proofs.NameLemmas.{file-lies, file_parts}
use Rattle.block_refs.specs.declared.names.BlockName.{BlockName}
use Rattle.block_refs.specs.declared.names.Fork.TheVariants.{Main}
use Rattle.block_refs.specs.declared.names.RelName.{RelName}
use Rattle.cluster_compare.specs.Same.{IsSameCluster, block_difference, differ_at, files_differ, first_block, fork_block, has_init, is_left_out, is_plain, is_same_block, is_unlogged, unlogged_in}
use Rattle.cluster_tree.specs.Causes.{first_of}
use Rattle.cluster_tree.specs.Contents.{Contents, Entry, FileEntry, entry_at}
use Rattle.cluster_tree.specs.PathValue.{PathValue, below, path_of}
use Rattle.cluster_tree.specs.Tree.{bytes_at, bytes_in}
use Rattle.file_edits.specs.Alike.{AlikeEntries, Neither, Folders, Files, Links}
use Rattle.file_walk.specs.Actions.{here, is_version}
use Rattle.file_walk.specs.Laws.{IsMainFile, IsPlaced}
use Rattle.file_walk.specs.Relations.{relation_of}
use Rattle.file_walk.proofs.RelationLemmas.{relation_read}
use Rattle.page_masks.specs.Kind.{is_zero}
use Rattle.page_masks.specs.Law.{view}
use Rattle.page_masks.specs.Mask.{mask}
use Rattle.relation_files.specs.Paths.{relation_file}
use Rattle.replay_law.specs.Stage.{Matches}
use Rattle.replay_laws.specs.Held.{IsMainBlock}
use Rattle.rewound_tree.specs.Laws.{block_of}
use Rattle.storage_laws.specs.FileLaws.{IsProper}
use Rattle.storage_laws.specs.States.{page_in, page_or_none, whole_block}
use Rattle.storage_laws.proofs.NumberLemmas.{by_test, file-of, place-of}
use Rattle.storage_laws.proofs.WholeLemmas.{whole-there}

-- ---- blocks that match have one mask

eq_is : (n m : ℕ) → (n == m) ≡ true → n ≡ m
eq_is n m h = grind (arith, nat_tests, h)

and_parts : (a b : Bool) → (a && b) ≡ true → (a ≡ true) × (b ≡ true)
and_parts true b h = (refl, h)
and_parts false b h = absurd (true≢false (sym h))

all_zeros : (xs : List ℕ) → is_zero xs ≡ true → xs ≡ replicate (length xs) 0
all_zeros [] h = refl
all_zeros (x ∷ xs) h =
    let two = and_parts (x == 0) (is_zero xs) h in
    ap₂ (λ (y : ℕ) (ys : List ℕ). y ∷ ys) (eq_is x 0 two.0) (all_zeros xs two.1)

matched : (n : ℕ) (p q : List ℕ) → length p ≡ length q → (z y : Bool) → is_zero p ≡ z → is_zero q ≡ y
    → Matches (view n) (if z then None else Some p) (if y then None else Some q) → mask n p ≡ mask n q
matched n p q same true true is so match = ap (mask n) (all_zeros p is ∙ ap (λ k. replicate k 0) same ∙ sym (all_zeros q so))
matched n p q same true false is so match = absurd match
matched n p q same false true is so match = absurd match
matched n p q same false false is so match = match.mask

-- ---- nothing that is told

none_told : (f : ℕ → Option ℕ) (count from : ℕ) → ((k : ℕ) → from ≤ k → k < from + count → f k ≡ None) → first_of (map f (range_with_len from count)) ≡ None
unfolding first_of
none_told f zero from each = refl
none_told f (suc count) from each =
    ap (λ o. first_of (o ∷ map f (range_with_len (from + 1) count))) (each from (omega arith) (omega arith))
    ∙ none_told f count (from + 1) (λ k l m. each k (omega (arith, l)) (omega (arith, m)))

left_or : (b : Bool) (o : Option (Option ℕ)) → o ≡ None → (if b then None else o) ≡ None
left_or true o h = refl
left_or false o h = h

-- ---- a relation by its path

placed_proper : (rel : RelName) → IsPlaced rel → IsProper rel
placed_proper rel (inl shared) = inl shared
placed_proper rel (inr in_base) = inr (in_base.0, λ none. absurd (omega (arith, none, in_base.1.0)))

placed_small : (rel : RelName) → IsPlaced rel → rel.database < 2 ^ 32
placed_small rel (inl shared) = omega (arith, shared.1)
placed_small rel (inr in_base) = in_base.1.1

module _ (root other : PathValue) (per : ℕ) (some : 0 < per) (c d : Contents) (both : AlikeClusters per c root d other)
    (blocks : (name : BlockName) → IsMainBlock name → has_init c root name.rel ≡ false → Matches (view name.block) (page_in root per name c) (page_in other per name d)) where
  module _ (rel : RelName) (logged : has_init c root rel ≡ false) (segment : ℕ) (parts : List (List ℕ)) (main : IsMainFile (path_of false parts) rel segment) (a b : List ℕ)
      (there : entry_at c (relation_file root rel Main segment) ≡ Some (FileEntry a)) (so_there : entry_at d (relation_file other rel Main segment) ≡ Some (FileEntry b))
      (same : length a ≡ length b) (bounded : Bounded per segment (length a)) where
    some_blocks : (block : ℕ) → block < length a / 8192 → 0 < length a / 8192
    some_blocks block l = omega (arith, l)

    is_main : (block : ℕ) → block < length a / 8192 → IsMainBlock (record { rel = rel; fork = Main; block = segment * per + block })
    is_main block l = record {
      main = refl;
      block = record {
        rel = record { database = placed_small rel main.placed; relation = main.numbered.1 };
        block = omega (arith, bounded.numbered (some_blocks block l), l);
      };
      proper = placed_proper rel main.placed;
    }

    page_is : (at : PathValue) (e : Contents) (bytes : List ℕ) (block : ℕ) → entry_at e (relation_file at rel Main segment) ≡ Some (FileEntry bytes) → block < per → block * 8192 + 8192 ≤ length bytes
        → page_in at per (record { rel = rel; fork = Main; block = segment * per + block }) e ≡ page_or_none (take 8192 (drop (block * 8192) bytes))
    page_is at e bytes block entry few l =
        ap₂ (λ (f p : ℕ). option_and_then page_or_none (whole_block p (bytes_at e (relation_file at rel Main f)))) (file-of per segment block few) (place-of per segment block few)
        ∙ ap (λ o. option_and_then page_or_none (whole_block block (bytes_in o))) entry
        ∙ ap (option_and_then page_or_none) (whole-there block bytes l)

    one_mask : (block : ℕ) → block < length a / 8192 → mask (segment * per + block) (take 8192 (drop (block * 8192) a)) ≡ mask (segment * per + block) (take 8192 (drop (block * 8192) b))
    one_mask block l =
        let few : block < per = omega (arith, bounded.few, l) in
        let long : block * 8192 + 8192 ≤ length a = omega (arith, l) in
        let p : List ℕ = take 8192 (drop (block * 8192) a) in
        let q : List ℕ = take 8192 (drop (block * 8192) b) in
        let sizes : length p ≡ length q = omega (arith, same, length-take 8192 (drop (block * 8192) a), length-take 8192 (drop (block * 8192) b), length-drop (block * 8192) a, length-drop (block * 8192) b) in
        let match : Matches (view (segment * per + block)) (page_or_none p) (page_or_none q) =
        subst (λ o. Matches (view (segment * per + block)) o (page_or_none q)) (page_is root c a block there few long)
        (subst (λ o. Matches (view (segment * per + block)) (page_in root per (record { rel = rel; fork = Main; block = segment * per + block }) c) o) (page_is other d b block so_there few (omega (arith, long, same)))
        (blocks (record { rel = rel; fork = Main; block = segment * per + block }) (is_main block l) logged)) in
        matched (segment * per + block) p q sizes (is_zero p) (is_zero q) refl refl match

    number_is : (block : ℕ) → block < length a / 8192 → fork_block per segment block ≡ segment * per + block
    number_is block l = omega (arith, bounded.numbered (some_blocks block l), l)

    block_same : (block : ℕ) → 0 ≤ block → block < 0 + length a / 8192 → block_difference per segment a b block ≡ None
    block_same block least l =
        let less : block < length a / 8192 = omega (arith, l) in
        let swap : block * 8192 ≡ 8192 * block = omega arith in
        let masks : mask (fork_block per segment block) (block_of block a) ≡ mask (fork_block per segment block) (block_of block b) =
        subst (λ n. mask n (block_of block a) ≡ mask n (block_of block b)) (sym (number_is block less))
        (subst (λ k. mask (segment * per + block) (take 8192 (drop k a)) ≡ mask (segment * per + block) (take 8192 (drop k b))) swap (one_mask block less)) in
        let one : is_same_block (fork_block per segment block) block a b ≡ true = (bytes_eq-Decides (mask (fork_block per segment block) (block_of block a)) (mask (fork_block per segment block) (block_of block b))).1 masks in
        ap (λ t. if t then None else Some (fork_block per segment block)) one

    no_block : first_block per segment a b ≡ None
    no_block = none_told (block_difference per segment a b) (length a / 8192) 0 block_same

  abbrev unlogged : RelName → Bool
  unlogged = unlogged_in c root d other

  module _ (parts : List (List ℕ)) (a b : List ℕ) (there : entry_at c (below root parts) ≡ Some (FileEntry a)) (so_there : entry_at d (below other parts) ≡ Some (FileEntry b)) where
    files_same : (at : Option (RelName × ℕ)) → relation_of (path_of false parts) ≡ at → is_unlogged unlogged at ≡ false → is_alike_file per at a b ≡ true → files_differ per at a b ≡ None
    files_same None is compared like = ap (λ t. if t then None else Some None) like
    files_same (Some (rel, segment)) is compared like =
        let logged : has_init c root rel ≡ false = (or_parts (has_init c root rel) (has_init d other rel) compared).0 in
        let main : IsMainFile (path_of false parts) rel segment = relation_read (path_of false parts) rel segment is in
        let lies : parts ≡ file_parts rel Main segment = ap (λ (p : PathValue). p.parts) (main.lies ∙ file-lies here rel Main segment) in
        let first : entry_at c (relation_file root rel Main segment) ≡ Some (FileEntry a) = ap (entry_at c) (file-lies root rel Main segment ∙ ap (below root) (sym lies)) ∙ there in
        let second : entry_at d (relation_file other rel Main segment) ≡ Some (FileEntry b) = ap (entry_at d) (file-lies other rel Main segment ∙ ap (below other) (sym lies)) ∙ so_there in
        let two = and_parts (length a == length b) (is_bounded per segment (length a)) like in
        ap (λ t. if t then option_map (λ n. Some n) (first_block per segment a b) else Some None) two.0
        ∙ ap (option_map (λ n. Some n)) (no_block rel logged segment parts main a b first second (eq_is (length a) (length b) two.0) (bounded-is per segment (length a) two.1))

    by_version : (v : Bool) → (v || is_alike_file per (relation_of (path_of false parts)) a b) ≡ true
        → (if (v || is_unlogged unlogged (relation_of (path_of false parts))) && (is_plain (Some (FileEntry a)) && is_plain (Some (FileEntry b))) then None else files_differ per (relation_of (path_of false parts)) a b) ≡ None
    by_version true like = refl
    by_version false like = by_test (is_unlogged unlogged (relation_of (path_of false parts)))
        (λ so. ap (λ t. if t && true then None else files_differ per (relation_of (path_of false parts)) a b) so)
        (λ compared.
        ap (λ t. if t && true then None else files_differ per (relation_of (path_of false parts)) a b) compared
        ∙ files_same (relation_of (path_of false parts)) refl compared like)

  entry_same : (parts : List (List ℕ)) (o p : Option Entry) → AlikeEntries (is_alike per parts) o p → entry_at c (below root parts) ≡ o → entry_at d (below other parts) ≡ p
      → differ_at unlogged per (path_of false parts) o p ≡ None
  entry_same parts o p Neither is so = left_or (is_left_out unlogged (path_of false parts) o p) None refl
  entry_same parts o p (Folders bad) is so = left_or (is_left_out unlogged (path_of false parts) o p) None refl
  entry_same parts o p (Files a b like) is so = by_version parts a b is so (is_version (path_of false parts)) like
  entry_same parts o p Links is so = left_or (is_left_out unlogged (path_of false parts) o p) None refl

  pub are-same : IsSameCluster per c root d other
  are-same parts = entry_same parts (entry_at c (below root parts)) (entry_at d (below other parts)) (both.alike parts) refl refl

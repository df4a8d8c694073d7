-- What a walk tells hangs on the kinds and the sizes of what stands there alone.
use Rattle.std.proofs.Common.{◌≡◌, ℕ, ◌+◌, Bool, true, false, ◌&&◌, cond, List, [], ◌∷◌, length, map, nat_lt, replicate, option_map, None, Some, Ok, T, refl, ap, sym, subst, ◌∙◌}
use Rattle.std.proofs.lemmas.List.{length-replicate}
use Rattle.std.specs.Prelude.{if◌then◌else◌}
use Rattle.std.specs.FinMap.{entries, entries_sorted, get, get-entries}
use Rattle.std.specs.FinMap.Entries.{below_all, find, find-where_key, is_sorted, is_sorted-where_key, same_entries, where_key}
use Rattle.std.specs.Ordering.{eq_by_cmp, is_lt}
use Rattle.std.specs.List.{cons_option, filter_map}
use Rattle.cluster_tree.specs.Causes.{first_of, unless}
use Rattle.cluster_tree.specs.Contents.{Contents, Entry, FileEntry, FolderEntry, LinkEntry, entry_at}
use Rattle.cluster_tree.specs.PathValue.{PathValue, front, path_cmp}
use Rattle.cluster_tree.proofs.OrderLemmas.{path_cmp-IsAntisymmetric, path_cmp_total}
use Rattle.file_walk.specs.Walk.{entry_flaw, flaw_at, found_below, from_root, lies_below, root_flaw, size_flaw, walk_of, walked}
use Rattle.file_walk.specs.declared.entry.EntryKind.TheVariants.{File}
use Rattle.file_walk.specs.declared.fault.WalkFault.TheVariants as fault

abbrev Found : Type 0
Found = PathValue × Entry

-- an entry of that kind and size
abbrev pub plain : Entry → Entry
plain (FolderEntry bad) = FolderEntry bad
plain (FileEntry bytes) = FileEntry (replicate (length bytes) 0)
plain LinkEntry = LinkEntry

abbrev all_plain : List Found → List Found
all_plain es = map (λ e. (e.0, plain e.1)) es

below_plain : (x : PathValue) (es : List Found) → below_all path_cmp x (all_plain es) ≡ below_all path_cmp x es
below_plain x [] = refl
below_plain x (e ∷ es) = ap (λ b. is_lt (path_cmp x e.0) && b) (below_plain x es)

sorted_plain : (es : List Found) → is_sorted path_cmp (all_plain es) ≡ is_sorted path_cmp es
sorted_plain [] = refl
sorted_plain (e ∷ es) = ap (λ b. b && is_sorted path_cmp (all_plain es)) (below_plain e.0 es) ∙ ap (λ b. below_all path_cmp e.0 es && b) (sorted_plain es)

find_plain : (q : PathValue) (es : List Found) → find path_cmp q (all_plain es) ≡ option_map plain (find path_cmp q es)
find_plain q [] = refl
find_plain q (e ∷ es) = by (eq_by_cmp path_cmp q e.0) (find_plain q es)
  where
    by : (b : Bool) → find path_cmp q (all_plain es) ≡ option_map plain (find path_cmp q es) → cond b (Some (plain e.1)) (find path_cmp q (all_plain es)) ≡ option_map plain (cond b (Some e.1) (find path_cmp q es))
    by true rest = refl
    by false rest = rest

-- ---- each answer of a walk, by that

module _ (root : PathValue) where
  abbrev owned : List Found → List Found
  owned es = map (λ e. (from_root root e.0, e.1)) es

  plain_flaw : (own : PathValue) (e : Entry) → entry_flaw own (plain e) ≡ entry_flaw own e
  plain_flaw own (FolderEntry bad) = refl
  plain_flaw own (FileEntry bytes) = ap (size_flaw own) (length-replicate {A = ℕ} (length bytes) 0)
  plain_flaw own LinkEntry = refl

  flaws_plain : (depth : ℕ) (es : List Found) → map (flaw_at depth) (owned (all_plain es)) ≡ map (flaw_at depth) (owned es)
  flaws_plain depth [] = refl
  flaws_plain depth (e ∷ es) =
      let own = from_root root e.0 in
      ap (λ o. (if nat_lt 64 (depth + length own.parts) then Some (fault.TooDeep (front 64 own)) else o) ∷ map (flaw_at depth) (owned (all_plain es))) (plain_flaw own e.1)
      ∙ ap (λ l. flaw_at depth (own, e.1) ∷ l) (flaws_plain depth es)

  one_walked : (own : PathValue) (e : Entry) → walked (own, plain e) ≡ walked (own, e)
  one_walked own (FolderEntry bad) = refl
  one_walked own (FileEntry bytes) = ap (λ n. Some (record { path = own; kind = File n })) (length-replicate {A = ℕ} (length bytes) 0)
  one_walked own LinkEntry = refl

  walked_plain : (es : List Found) → filter_map walked (owned (all_plain es)) ≡ filter_map walked (owned es)
  walked_plain [] = refl
  walked_plain (e ∷ es) =
      ap (λ o. cons_option o (filter_map walked (owned (all_plain es)))) (one_walked (from_root root e.0) e.1)
      ∙ ap (cons_option (walked (from_root root e.0, e.1))) (walked_plain es)

  -- ---- of two trees

  module _ (c d : Contents) (same : (q : PathValue) → lies_below root q ≡ true → option_map plain (get c q) ≡ option_map plain (get d q)) where
    abbrev below_it : Contents → List Found
    below_it x = where_key path_cmp (lies_below root) (entries x)

    sorted_below : (x : Contents) → T (is_sorted path_cmp (all_plain (below_it x)))
    sorted_below x = subst T (sym (sorted_plain (below_it x))) (is_sorted-where_key path_cmp (lies_below root) (entries x) (entries_sorted x))

    find_below : (x : Contents) (q : PathValue) → find path_cmp q (all_plain (below_it x)) ≡ option_map plain (cond (lies_below root q) (get x q) None)
    find_below x q =
        find_plain q (below_it x)
        ∙ ap (option_map plain) (find-where_key path_cmp (lies_below root) q (λ y tied. ap (lies_below root) (sym (path_cmp-IsAntisymmetric q y tied))) (entries x)
        ∙ ap (λ o. cond (lies_below root q) o None) (sym (get-entries x q)))

    found_same : (q : PathValue) (b : Bool) → lies_below root q ≡ b → option_map plain (cond b (get c q) None) ≡ option_map plain (cond b (get d q) None)
    found_same q true low = same q low
    found_same q false off = refl

    plain_same : all_plain (below_it c) ≡ all_plain (below_it d)
    plain_same =
        same_entries path_cmp path_cmp_total path_cmp-IsAntisymmetric (all_plain (below_it c)) (all_plain (below_it d)) (sorted_below c) (sorted_below d)
        (λ q. find_below c q ∙ found_same q (lies_below root q) refl ∙ sym (find_below d q))

    pub walk-same : root_flaw root (entry_at c root) ≡ root_flaw root (entry_at d root) → walk_of c root ≡ walk_of d root
    unfolding walk_of found_below
    walk-same flaw =
        let depth = length root.parts in
        let flaws : map (flaw_at depth) (owned (below_it c)) ≡ map (flaw_at depth) (owned (below_it d)) =
        sym (flaws_plain depth (below_it c)) ∙ ap (λ es. map (flaw_at depth) (owned es)) plain_same ∙ flaws_plain depth (below_it d) in
        let all : filter_map walked (owned (below_it c)) ≡ filter_map walked (owned (below_it d)) =
        sym (walked_plain (below_it c)) ∙ ap (λ es. filter_map walked (owned es)) plain_same ∙ walked_plain (below_it d) in
        ap (λ o. unless o (unless (first_of (map (flaw_at depth) (owned (below_it c)))) (Ok (filter_map walked (owned (below_it c)))))) flaw
        ∙ ap (λ l. unless (root_flaw root (entry_at d root)) (unless (first_of l) (Ok (filter_map walked (owned (below_it c)))))) flaws
        ∙ ap (λ l. unless (root_flaw root (entry_at d root)) (unless (first_of (map (flaw_at depth) (owned (below_it d)))) (Ok l))) all

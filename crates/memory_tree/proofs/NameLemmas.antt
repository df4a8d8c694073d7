-- What lies in the folders of the nodes of a tree in memory, and the names of a listing of them.
use Rattle.std.proofs.Common.{◌≡◌, ℕ, ◌+◌, ◌<◌, get_or, bytes_eq, string_bytes, String, add-one, false, Bool, true, cond, ◌&&◌, ◌||◌, List, [], ◌∷◌, ◌++◌, length, map, take, Some, None, refl, ap, sym, ◌∙◌, is_some, true≢false, arith}
use Rattle.std.specs.declared.cmp.Ordering.TheVariants.{Less, Equal, Greater}
use Rattle.std.proofs.Math.Seq.{take-suc}
use Rattle.std.specs.BTreeSet.{insert_key}
use Rattle.std.specs.Ordering.{match_ordering, nat_cmp}
use Rattle.std.specs.Cmp.Lexicographic.{slice_cmp}
use Rattle.std.specs.String.{string_cmp}
use Rattle.std.specs.List.Sorted.{IsStrictlySortedBy}
use Rattle.std.specs.FinMap.{find, nat_cmp-IsAntisymmetric, slice_cmp-IsAntisymmetric, get, keys, entries, empty, entries-insert, len-entries, len-empty}
use Rattle.std.specs.FinMap.Entries.{put, by_order}
use Rattle.std.specs.List.{list_all, list_any, AllByRecursion}
use Rattle.std.specs.Cmp.Lexicographic.{bytes_decides}
use Rattle.std.proofs.lemmas.Grind.{common_steps}
use Rattle.cluster_tree.specs.PathValue.{PathValue, path_cmp, below}
use Rattle.cluster_tree.specs.PathOrder.{path_eq}
use Rattle.cluster_tree.proofs.OrderLemmas.{path_cmp_total, path_cmp-IsAntisymmetric, path_eq-other}
use Rattle.cluster_tree.specs.Contents.{Entry}
use Rattle.cluster_tree.specs.Folders.{lies_in}
use Rattle.memory_tree.specs.Memory.{pair_of, entry_of, contents_of}
use Rattle.memory_tree.specs.declared.nodes.Placed.{Placed}
use Rattle.cluster_tree.proofs.PathLemmas.{path_eq-decided}
use Rattle.cluster_tree.proofs.FolderLemmas.{lies_in-below}
use Rattle.memory_tree.proofs.NodeLemmas.{get-contents_of}

twice : (a b : Bool) → (a || b) ≡ (a || (a || b))
twice true b = refl
twice false b = refl

swapped : (a b c : Bool) → (a || (b || c)) ≡ (b || (a || c))
swapped true true c = refl
swapped true false c = refl
swapped false true c = refl
swapped false false c = refl

-- the paths with one more
put-any : (p : PathValue → Bool) (k : PathValue) (v : Entry) (es : List (PathValue × Entry)) → list_any p (map (λ e. e.0) (put path_cmp k v es)) ≡ (p k || list_any p (map (λ e. e.0) es))
put-any p k v [] = refl
put-any p k v (e ∷ es) =
    elim (path_cmp k e.0) as (λ r. path_cmp k e.0 ≡ r → list_any p (map (λ x. x.0) (by_order r ((k, v) ∷ e ∷ es) ((e.0, v) ∷ es) (e ∷ put path_cmp k v es))) ≡ (p k || (p e.0 || list_any p (map (λ x. x.0) es)))) [
      | Less ↦ λ _. refl
      | Equal ↦ λ same. ap (λ x. p x || list_any p (map (λ y. y.0) es)) (sym (path_cmp-IsAntisymmetric k e.0 same)) ∙ twice (p k) _ ∙ ap (λ x. p k || (p x || list_any p (map (λ y. y.0) es))) (path_cmp-IsAntisymmetric k e.0 same)
      | Greater ↦ λ _. ap (λ b. p e.0 || b) (put-any p k v es) ∙ swapped (p e.0) (p k) _
    ] refl

nil_of : {A : Type 0} (es : List A) → length es ≡ 0 → es ≡ []
nil_of [] e = refl
nil_of (x ∷ es) e = absurd (omega (arith, e))

no_entries : entries (empty {X = Entry} {R = path_cmp}) ≡ []
no_entries = nil_of _ (sym (len-entries (empty {X = Entry} {R = path_cmp})) ∙ len-empty path_cmp Entry)

-- a test of the paths of nodes is one of their contents
pub keys-contents_of : (p : PathValue → Bool) (nodes : List Placed) → list_any p (keys (contents_of nodes)) ≡ list_any (λ placed. p placed.path) nodes
keys-contents_of p [] = ap (λ es. list_any p (map (λ e. e.0) es)) (no_entries)
keys-contents_of p (x ∷ nodes) = ap (λ es. list_any p (map (λ e. e.0) es)) (entries-insert path_cmp_total (contents_of nodes) x.path _) ∙ put-any p x.path _ (entries (contents_of nodes)) ∙ ap (λ b. p x.path || b) (keys-contents_of p nodes)

swap_or : (a b : Bool) → (a || b) ≡ (b || a)
swap_or true true = refl
swap_or true false = refl
swap_or false true = refl
swap_or false false = refl

again : (a b : Bool) → (a || b) ≡ ((a || b) || a)
again true b = refl
again false true = refl
again false false = refl

or_assoc : (a b c : Bool) → ((a || b) || c) ≡ (a || (b || c))
or_assoc true b c = refl
or_assoc false b c = refl

or_false : (a : Bool) → (a || false) ≡ a
or_false true = refl
or_false false = refl

found-last : (xs : List Placed) (y : Placed) (q : PathValue) → is_some (find path_cmp q (map pair_of (xs ++ y ∷ []))) ≡ (is_some (find path_cmp q (map pair_of xs)) || path_eq q y.path)
unfolding path_eq
found-last [] y q = elim (path_eq q y.path) as (λ b. is_some (cond b (Some (entry_of y.node)) None) ≡ b) [ true ↦ refl | false ↦ refl ]
found-last (x ∷ xs) y q = elim (path_eq q x.path) as (λ b. is_some (cond b (Some (entry_of x.node)) (find path_cmp q (map pair_of (xs ++ y ∷ [])))) ≡ (is_some (cond b (Some (entry_of x.node)) (find path_cmp q (map pair_of xs))) || path_eq q y.path)) [ true ↦ refl | false ↦ found-last xs y q ]

same_text : {Z : Type 0} (k x : String Z) → string_cmp k x ≡ Equal → string_bytes k ≡ string_bytes x
same_text k x e = slice_cmp-IsAntisymmetric nat_cmp-IsAntisymmetric _ _ e

all_below : {Z : Type 0} (k : String Z) (ks : List (String Z)) → AllByRecursion (λ y. string_cmp k y ≡ Less) ks → AllByRecursion (λ y. slice_cmp nat_cmp (string_bytes k) y ≡ Less) (map string_bytes ks)
all_below k [] h = tt
all_below k (x ∷ ks) h = (h.0, all_below k ks h.1)

at_end : (parts : List (List ℕ)) (n d : List ℕ) → get_or (parts ++ n ∷ []) (length parts) d ≡ n
at_end parts n d = grind (arith, common_steps)

-- one node more
some-more : (nodes : List Placed) (i : ℕ) (d : Placed) (q : PathValue) → i < length nodes → is_some (get (contents_of (take (i + 1) nodes)) q) ≡ (is_some (get (contents_of (take i nodes)) q) || path_eq q (get_or nodes i d).path)
unfolding path_eq
some-more nodes i d q l = rw (add-one, take-suc nodes i d l) (ap is_some (get-contents_of (take i nodes ++ get_or nodes i d ∷ []) q) ∙ found-last (take i nodes) (get_or nodes i d) q ∙ ap (λ o. is_some o || path_eq q (get_or nodes i d).path) (sym (get-contents_of (take i nodes) q)))

-- names with one more
any-insert_key : {Z : Type 0} (n : List ℕ) (k : String Z) (ks : List (String Z)) → list_any (bytes_eq n) (map string_bytes (insert_key string_cmp ks k)) ≡ (list_any (bytes_eq n) (map string_bytes ks) || bytes_eq n (string_bytes k))
any-insert_key n k [] = swap_or (bytes_eq n (string_bytes k)) false
any-insert_key n k (x ∷ ks) =
    elim (string_cmp k x) as (λ r. string_cmp k x ≡ r → list_any (bytes_eq n) (map string_bytes (match_ordering r (k ∷ x ∷ ks) (x ∷ ks) (x ∷ insert_key string_cmp ks k))) ≡ ((bytes_eq n (string_bytes x) || list_any (bytes_eq n) (map string_bytes ks)) || bytes_eq n (string_bytes k))) [
      | Less ↦ λ _. swap_or (bytes_eq n (string_bytes k)) _
      | Equal ↦ λ same. ap (λ b. bytes_eq n b || list_any (bytes_eq n) (map string_bytes ks)) (sym (same_text k x same)) ∙ again (bytes_eq n (string_bytes k)) _ ∙ ap (λ b. (bytes_eq n b || list_any (bytes_eq n) (map string_bytes ks)) || bytes_eq n (string_bytes k)) (same_text k x same)
      | Greater ↦ λ _. ap (λ b. bytes_eq n (string_bytes x) || b) (any-insert_key n k ks) ∙ sym (or_assoc (bytes_eq n (string_bytes x)) _ _)
    ] refl

and_both : (a b : Bool) → a ≡ true → b ≡ true → (a && b) ≡ true
and_both a b h k = ap (λ x. x && b) h ∙ k

and_parts : (a b : Bool) → (a && b) ≡ true → (a ≡ true) × (b ≡ true)
and_parts true b h = (refl, h)
and_parts false b h = absurd (true≢false (sym h))

-- a test that all names pass, and one more
pub all-insert_key : {Z : Type 0} (p : List ℕ → Bool) (k : String Z) (ks : List (String Z)) → list_all p (map string_bytes ks) ≡ true → p (string_bytes k) ≡ true → list_all p (map string_bytes (insert_key string_cmp ks k)) ≡ true
all-insert_key p k [] h t = and_both (p (string_bytes k)) true t refl
all-insert_key p k (x ∷ ks) h t =
    let e = and_parts (p (string_bytes x)) (list_all p (map string_bytes ks)) h in
    elim (string_cmp k x) as (λ r. list_all p (map string_bytes (match_ordering r (k ∷ x ∷ ks) (x ∷ ks) (x ∷ insert_key string_cmp ks k))) ≡ true) [
      | Less ↦ and_both (p (string_bytes k)) _ t h
      | Equal ↦ h
      | Greater ↦ and_both (p (string_bytes x)) _ e.0 (all-insert_key p k ks e.1 t)
    ]

-- a name in a folder is another path only where it is another name
path_eq-names : (folder : PathValue) (n m : List ℕ) → path_eq (below folder (n ∷ [])) (below folder (m ∷ [])) ≡ bytes_eq n m
path_eq-names folder n m = sym (path_eq-decided _ _ (bytes_eq n m)
    (λ yes. ap (λ x. below folder (x ∷ [])) ((bytes_decides n m).0 yes))
    (λ same. (bytes_decides n m).1 (sym (at_end folder.parts n n) ∙ ap (λ p. get_or p.parts (length folder.parts) n) same ∙ at_end folder.parts m n)))

-- what doesn't lie in a folder has no name there
path_eq-apart : (folder p : PathValue) (n : List ℕ) → lies_in folder p ≡ false → path_eq (below folder (n ∷ [])) p ≡ false
path_eq-apart folder p n apart = path_eq-other _ _ (λ same. true≢false (sym (lies_in-below folder n) ∙ ap (lies_in folder) same ∙ apart))

-- names of what lies in a folder, with one node more that does
pub members-more : {Z : Type 0} (names : List (String Z)) (k : String Z) (folder : PathValue) (nodes : List Placed) (i : ℕ) (d : Placed) → i < length nodes → (get_or nodes i d).path ≡ below folder (string_bytes k ∷ [])
    → ((n : List ℕ) → list_any (bytes_eq n) (map string_bytes names) ≡ is_some (get (contents_of (take i nodes)) (below folder (n ∷ []))))
    → (n : List ℕ) → list_any (bytes_eq n) (map string_bytes (insert_key string_cmp names k)) ≡ is_some (get (contents_of (take (i + 1) nodes)) (below folder (n ∷ [])))
members-more names k folder nodes i d l is before n =
    any-insert_key n k names ∙ ap (λ b. b || bytes_eq n (string_bytes k)) (before n)
    ∙ ap (λ b. is_some (get (contents_of (take i nodes)) (below folder (n ∷ []))) || b) (sym (ap (path_eq (below folder (n ∷ []))) is ∙ path_eq-names folder n (string_bytes k)))
    ∙ sym (some-more nodes i d (below folder (n ∷ [])) l)

-- and with one that doesn't
pub members-kept : (names : List (List ℕ)) (folder : PathValue) (nodes : List Placed) (i : ℕ) (d : Placed) → i < length nodes → lies_in folder (get_or nodes i d).path ≡ false
    → ((n : List ℕ) → list_any (bytes_eq n) names ≡ is_some (get (contents_of (take i nodes)) (below folder (n ∷ []))))
    → (n : List ℕ) → list_any (bytes_eq n) names ≡ is_some (get (contents_of (take (i + 1) nodes)) (below folder (n ∷ [])))
members-kept names folder nodes i d l apart before n =
    before n ∙ sym (or_false (is_some (get (contents_of (take i nodes)) (below folder (n ∷ []))))) ∙ ap (λ b. is_some (get (contents_of (take i nodes)) (below folder (n ∷ []))) || b) (sym (path_eq-apart folder _ n apart))
    ∙ sym (some-more nodes i d (below folder (n ∷ [])) l)

-- the bytes of texts that ascend
pub ascending-texts : {Z : Type 0} (ks : List (String Z)) → IsStrictlySortedBy string_cmp ks → IsStrictlySortedBy (slice_cmp nat_cmp) (map string_bytes ks)
unfolding IsStrictlySortedBy
ascending-texts [] h = tt
ascending-texts (k ∷ ks) h = (all_below k ks h.0, ascending-texts ks h.1)

-- What stands in the map of pairs, path by path.
use Rattle.std.proofs.Common.{◌≡◌, ℕ, Bool, true, false, T, cond, not, ◌&&◌, ◌||◌, List, [], ◌∷◌, ◌++◌, length, map, Option, None, Some, is_some, refl, ap, ap₂, sym, subst, ◌∙◌, true≢false, arith}
use Rattle.std.proofs.lemmas.List.{map-append}
use Rattle.std.specs.declared.cmp.Ordering.{Ordering}
use Rattle.std.specs.declared.cmp.Ordering.TheVariants.{Less, Equal, Greater}
use Rattle.std.specs.BTreeMap.{insert_entry}
use Rattle.std.specs.Cmp.{tied_itself}
use Rattle.std.specs.Cmp.Lexicographic.{slice_cmp}
use Rattle.std.specs.FinMap.{FinMap, nat_cmp-IsAntisymmetric, slice_cmp-IsAntisymmetric, empty, find, get, get-empty, get-entries, get-from_entries, get-insert, insert, entries, entries-insert, len-empty, len-entries, entries_sorted, from_entries, put}
use Rattle.std.specs.FinMap.Entries.{below_all, by_order, is_sorted, same_entries}
use Rattle.std.specs.List.{AllByRecursion, list_all}
use Rattle.std.specs.List.Sorted.{IsStrictlySortedBy}
use Rattle.std.specs.Map.{lookup}
use Rattle.std.specs.Ordering.{bool_cmp, eq_by_cmp, is_eq, is_lt, match_ordering, nat_cmp, on, ordering_then, then_cmp}
use Rattle.cluster_tree.specs.PathOrder.{path_eq}
use Rattle.cluster_tree.specs.PathValue.{PathValue, is_part, path_cmp, path_text}
use Rattle.cluster_tree.proofs.OrderLemmas.{path_cmp-IsAntisymmetric, path_cmp_total, path_eq-same}
use Rattle.cluster_tree.proofs.PartLemmas.{told_by_text}
use Rattle.file_walk.specs.declared.entry.Entry.{Entry}
use Rattle.file_walk.specs.declared.entry.EntryKind.{EntryKind}
use Rattle.file_walk.specs.declared.pair.Pair.{Pair}
use Rattle.file_walk.specs.Listed.{AreInOrder, by_text, is_relative, texts_of}
use Rattle.file_walk.specs.Merging.{AreKeys, IsMerged, PairMap, of_source, of_target, pair_of, target_in, texted, with_sources, with_targets}
use Rattle.file_walk.specs.Pairs.{kind_at, kind_in, pair_at, pairs_of}
use Rattle.file_walk.proofs.AscendLemmas.{itself}
use Rattle.file_walk.proofs.QueueLemmas.{text_cmp}

less_tied : (o : Ordering) → o ≡ Less → o ≡ Equal → ⊥
less_tied o l e = absurd (let wrong : Less ≡ Equal = sym l ∙ e in cc)

-- ---- each path stands once

abbrev pub Apart : List Entry → Type 0
Apart [] = Unit {0}
Apart (e ∷ es) = (find path_cmp e.path (map kind_at es) ≡ None) × Apart es

not_found : (e : Entry) (es : List Entry) → AllByRecursion (λ t. text_cmp (path_text e.path) t ≡ Less) (texts_of es) → find path_cmp e.path (map kind_at es) ≡ None
unfolding path_eq
not_found e [] h = refl
not_found e (y ∷ es) h = by (not_found e es h.1) (path_eq e.path y.path) refl
  where
    by : find path_cmp e.path (map kind_at es) ≡ None → (b : Bool) → path_eq e.path y.path ≡ b → cond b (Some y.kind) (find path_cmp e.path (map kind_at es)) ≡ None
    by rest false is = rest
    by rest true is =
        let same : e.path ≡ y.path = path_eq-same e.path y.path is in
        absurd (less_tied (text_cmp (path_text e.path) (path_text e.path)) (ap (λ (p : PathValue). text_cmp (path_text e.path) (path_text p)) same ∙ h.0) (itself (path_text e.path)))

apart_of : (es : List Entry) → IsStrictlySortedBy (slice_cmp nat_cmp) (texts_of es) → Apart es
unfolding IsStrictlySortedBy
apart_of [] h = tt
apart_of (e ∷ es) h = (not_found e es h.0, apart_of es h.1)

-- ---- what the map has at a path

target_over : PathValue → Option EntryKind → Option Pair → Option Pair
target_over q None old = old
target_over q (Some k) old = Some (record { path = q; target = Some k; source = None })

source_over : PathValue → Option EntryKind → Option Pair → Option Pair
source_over q None old = old
source_over q (Some k) old = Some (record { path = q; target = target_in old; source = Some k })

get_targets : (es : List Entry) → Apart es → (m : PairMap) (q : PathValue) → get (with_targets m es) q ≡ target_over q (find path_cmp q (map kind_at es)) (get m q)
unfolding with_targets target_over path_eq
get_targets [] h m q = refl
get_targets (e ∷ es) h m q =
    get_targets es h.1 (insert m e.path (of_target e)) q
    ∙ ap (target_over q (find path_cmp q (map kind_at es))) (get-insert path_cmp_total m e.path (of_target e) q)
    ∙ by (path_eq q e.path) refl
  where
    by : (b : Bool) → path_eq q e.path ≡ b → target_over q (find path_cmp q (map kind_at es)) (cond b (Some (of_target e)) (get m q)) ≡ target_over q (cond b (Some e.kind) (find path_cmp q (map kind_at es))) (get m q)
    by false is = refl
    by true is =
        let same : q ≡ e.path = path_eq-same q e.path is in
        ap (λ (o : Option EntryKind). target_over q o (Some (of_target e))) (ap (λ (p : PathValue). find path_cmp p (map kind_at es)) same ∙ h.0)
        ∙ ap (λ (p : PathValue). Some (pair_of p (Some e.kind) None)) (sym same)

get_sources : (es : List Entry) → Apart es → (m : PairMap) (q : PathValue) → get (with_sources m es) q ≡ source_over q (find path_cmp q (map kind_at es)) (get m q)
unfolding with_sources source_over path_eq
get_sources [] h m q = refl
get_sources (e ∷ es) h m q =
    get_sources es h.1 (insert m e.path (of_source (get m e.path) e)) q
    ∙ ap (source_over q (find path_cmp q (map kind_at es))) (get-insert path_cmp_total m e.path (of_source (get m e.path) e) q)
    ∙ by (path_eq q e.path) refl
  where
    by : (b : Bool) → path_eq q e.path ≡ b → source_over q (find path_cmp q (map kind_at es)) (cond b (Some (of_source (get m e.path) e)) (get m q)) ≡ source_over q (cond b (Some e.kind) (find path_cmp q (map kind_at es))) (get m q)
    by false is = refl
    by true is =
        let same : q ≡ e.path = path_eq-same q e.path is in
        ap (λ (o : Option EntryKind). source_over q o (Some (of_source (get m e.path) e))) (ap (λ (p : PathValue). find path_cmp p (map kind_at es)) same ∙ h.0)
        ∙ ap (λ (p : PathValue). Some (pair_of p (target_in (get m p)) (Some e.kind))) (sym same)

abbrev pub either_at : PathValue → Option EntryKind → Option EntryKind → Option Pair
either_at q a b = cond (is_some a || is_some b) (Some (pair_of q a b)) None

over_both : (q : PathValue) (a b : Option EntryKind) → source_over q b (target_over q a None) ≡ either_at q a b
unfolding target_over source_over
over_both q None None = refl
over_both q None (Some k) = refl
over_both q (Some j) None = refl
over_both q (Some j) (Some k) = refl

or_group : (a b d : Bool) → (a || (b || d)) ≡ ((a || b) || d)
or_group true b d = refl
or_group false b d = refl

find_either : (p : PathValue) (xs ys : List (PathValue × EntryKind)) → is_some (find path_cmp p (xs ++ ys)) ≡ (is_some (find path_cmp p xs) || is_some (find path_cmp p ys))
find_either p [] ys = refl
find_either p (x ∷ xs) ys = by (eq_by_cmp path_cmp p x.0) (find_either p xs ys)
  where
    by : (b : Bool) → is_some (find path_cmp p (xs ++ ys)) ≡ (is_some (find path_cmp p xs) || is_some (find path_cmp p ys))
        → is_some (cond b (Some x.1) (find path_cmp p (xs ++ ys))) ≡ (is_some (cond b (Some x.1) (find path_cmp p xs)) || is_some (find path_cmp p ys))
    by true rest = refl
    by false rest = rest

-- what two walks tell, by paths
module _ (ts ss : List Entry) where
  abbrev pub all : FinMap path_cmp EntryKind
  all = from_entries {R = path_cmp} (map kind_at (ts ++ ss))

  some_either : (p : PathValue) → is_some (find path_cmp p (entries all)) ≡ (is_some (kind_in ts p) || is_some (kind_in ss p))
  some_either p =
      sym (ap is_some (get-entries all p))
      ∙ ap is_some (get-from_entries path_cmp_total (map kind_at (ts ++ ss)) p)
      ∙ ap (λ (l : List (PathValue × EntryKind)). is_some (find path_cmp p l)) (map-append kind_at ts ss)
      ∙ find_either p (map kind_at ts) (map kind_at ss)
      ∙ ap₂ (λ (a b : Option EntryKind). is_some a || is_some b) (sym (get-from_entries path_cmp_total (map kind_at ts) p)) (sym (get-from_entries path_cmp_total (map kind_at ss) p))

module _ (ts ss : List Entry) (t : AreInOrder ts) (s : AreInOrder ss) where
  abbrev pub merged : PairMap
  merged = with_sources (with_targets empty ts) ss

  get_merged : (q : PathValue) → get merged q ≡ either_at q (kind_in ts q) (kind_in ss q)
  get_merged q =
      get_sources ss (apart_of ss s.ascending) (with_targets empty ts) q
      ∙ ap (source_over q (find path_cmp q (map kind_at ss))) (get_targets ts (apart_of ts t.ascending) empty q ∙ ap (target_over q (find path_cmp q (map kind_at ts))) (get-empty path_cmp q))
      ∙ over_both q (find path_cmp q (map kind_at ts)) (find path_cmp q (map kind_at ss))
      ∙ ap₂ (either_at q) (sym (get-from_entries path_cmp_total (map kind_at ts) q)) (sym (get-from_entries path_cmp_total (map kind_at ss) q))

  paired : List (PathValue × EntryKind) → List (PathValue × Pair)
  paired es = map (λ (e : PathValue × EntryKind). (e.0, pair_at ts ss e.0)) es

  find_paired : (q : PathValue) (es : List (PathValue × EntryKind)) → find path_cmp q (paired es) ≡ cond (is_some (find path_cmp q es)) (Some (pair_at ts ss q)) None
  unfolding paired path_eq
  find_paired q [] = refl
  find_paired q (e ∷ es) = by (path_eq q e.0) refl (find_paired q es)
    where
      by : (b : Bool) → path_eq q e.0 ≡ b → find path_cmp q (paired es) ≡ cond (is_some (find path_cmp q es)) (Some (pair_at ts ss q)) None
          → cond b (Some (pair_at ts ss e.0)) (find path_cmp q (paired es)) ≡ cond (is_some (cond b (Some e.1) (find path_cmp q es))) (Some (pair_at ts ss q)) None
      by true is rest = ap (λ (p : PathValue). Some (pair_at ts ss p)) (sym (path_eq-same q e.0 is))
      by false is rest = rest

  paired_above : (p : PathValue) (es : List (PathValue × EntryKind)) → below_all path_cmp p (paired es) ≡ below_all path_cmp p es
  unfolding paired
  paired_above p [] = refl
  paired_above p (e ∷ es) = ap (λ b. is_lt (path_cmp p e.0) && b) (paired_above p es)

  paired_sorted : (es : List (PathValue × EntryKind)) → is_sorted path_cmp (paired es) ≡ is_sorted path_cmp es
  unfolding paired
  paired_sorted [] = refl
  paired_sorted (e ∷ es) = ap₂ (λ a b. a && b) (paired_above e.0 es) (paired_sorted es)

  second_of : (es : List (PathValue × EntryKind)) → map (λ (e : PathValue × Pair). e.1) (paired es) ≡ map (pair_at ts ss) (map (λ (e : PathValue × EntryKind). e.0) es)
  unfolding paired
  second_of [] = refl
  second_of (e ∷ es) = ap (λ (l : List Pair). pair_at ts ss e.0 ∷ l) (second_of es)

  -- the map has the pairs of the two
  pub merged_pairs : map (λ (e : PathValue × Pair). e.1) (entries merged) ≡ pairs_of ts ss
  unfolding pairs_of
  merged_pairs =
      let same : entries merged ≡ paired (entries (all ts ss)) =
      same_entries path_cmp path_cmp_total path_cmp-IsAntisymmetric (entries merged) (paired (entries (all ts ss))) (entries_sorted merged)
      (subst T (sym (paired_sorted (entries (all ts ss)))) (entries_sorted (all ts ss)))
      (λ q. sym (get-entries merged q) ∙ get_merged q
      ∙ ap (λ b. cond b (Some (pair_at ts ss q)) None) (sym (some_either ts ss q))
      ∙ sym (find_paired q (entries (all ts ss)))) in
      ap (map (λ (e : PathValue × Pair). e.1)) same ∙ second_of (entries (all ts ss))

-- ---- by texts

and_both : (a b : Bool) → (a && b) ≡ true → (a ≡ true) × (b ≡ true)
and_both true b h = (refl, h)
and_both false b h = absurd (true≢false (sym h))

rest_cmp : PathValue → PathValue → Ordering
rest_cmp = then_cmp (on (λ p. p.parts) (slice_cmp (slice_cmp nat_cmp))) (on (λ p. p.absolute) bool_cmp)

same_order : (p q : PathValue) → is_relative p ≡ true → is_relative q ≡ true → (o : Ordering) → text_cmp (path_text p) (path_text q) ≡ o → path_cmp p q ≡ o
unfolding rest_cmp
same_order p q h k Less is = ap (λ o. ordering_then o (rest_cmp p q)) is
same_order p q h k Greater is = ap (λ o. ordering_then o (rest_cmp p q)) is
same_order p q h k Equal is =
    let same : p ≡ q = told_by_text p q (and_both (not p.absolute) (list_all is_part p.parts) h).1 (and_both (not q.absolute) (list_all is_part q.parts) k).1 (slice_cmp-IsAntisymmetric nat_cmp-IsAntisymmetric (path_text p) (path_text q) is) in
    ap (path_cmp p) (sym same) ∙ tied_itself path_cmp_total p

-- putting in by the text is putting in by the path
pub put_texted : (p : PathValue) (v : Pair) (es : List (PathValue × Pair)) → is_relative p ≡ true → AreKeys es → insert_entry text_cmp (texted es) (path_text p) v ≡ texted (put path_cmp p v es)
put_texted p v [] h k = refl
put_texted p v (e ∷ es) h k = by (text_cmp (path_text p) (path_text e.0)) (path_cmp p e.0) (sym (same_order p e.0 h k.0 (text_cmp (path_text p) (path_text e.0)) refl)) (put_texted p v es h k.1)
  where
    by : (a b : Ordering) → a ≡ b → insert_entry text_cmp (texted es) (path_text p) v ≡ texted (put path_cmp p v es)
        → match_ordering a ((path_text p, v) ∷ texted (e ∷ es)) ((path_text e.0, v) ∷ texted es) ((path_text e.0, e.1) ∷ insert_entry text_cmp (texted es) (path_text p) v)
        ≡ texted (by_order b ((p, v) ∷ e ∷ es) ((e.0, v) ∷ es) (e ∷ put path_cmp p v es))
    by Less b i rest = ap (λ o. texted (by_order o ((p, v) ∷ e ∷ es) ((e.0, v) ∷ es) (e ∷ put path_cmp p v es))) i
    by Equal b i rest = ap (λ o. texted (by_order o ((p, v) ∷ e ∷ es) ((e.0, v) ∷ es) (e ∷ put path_cmp p v es))) i
    by Greater b i rest =
        ap (λ l. (path_text e.0, e.1) ∷ l) rest ∙ ap (λ o. texted (by_order o ((p, v) ∷ e ∷ es) ((e.0, v) ∷ es) (e ∷ put path_cmp p v es))) i

keys_by : (o : Ordering) (p : PathValue) (v : Pair) (e : PathValue × Pair) (es more : List (PathValue × Pair)) → is_relative p ≡ true → AreKeys (e ∷ es) → AreKeys more → AreKeys (by_order o ((p, v) ∷ e ∷ es) ((e.0, v) ∷ es) (e ∷ more))
keys_by Less p v e es more h k after = (h, k)
keys_by Equal p v e es more h k after = k
keys_by Greater p v e es more h k after = (k.0, after)

pub keys_put : (p : PathValue) (v : Pair) (es : List (PathValue × Pair)) → is_relative p ≡ true → AreKeys es → AreKeys (put path_cmp p v es)
keys_put p v [] h k = (h, tt)
keys_put p v (e ∷ es) h k = keys_by (path_cmp p e.0) p v e es (put path_cmp p v es) h k (keys_put p v es h k.1)

-- one more, put in by its text
pub put_merged : (m : PairMap) (kept : List (List ℕ × Pair)) (p : PathValue) (v : Pair) → IsMerged m kept → is_relative p ≡ true → IsMerged (insert m p v) (insert_entry text_cmp kept (path_text p) v)
put_merged m kept p v h relative = record {
  told = ap (λ (l : List (List ℕ × Pair)). insert_entry text_cmp l (path_text p) v) h.told ∙ put_texted p v (entries m) relative h.relative ∙ ap texted (sym (entries-insert path_cmp_total m p v));
  relative = subst AreKeys (sym (entries-insert path_cmp_total m p v)) (keys_put p v (entries m) relative h.relative);
}

nothing : (es : List (PathValue × Pair)) → length es ≡ 0 → es ≡ []
nothing [] h = refl
nothing (e ∷ es) h = absurd (omega arith)

no_entries : let m : PairMap = empty in entries m ≡ []
no_entries = nothing (entries empty) (sym (len-entries empty) ∙ len-empty path_cmp Pair)

pub none_merged : IsMerged empty []
none_merged = record { told = ap texted (sym no_entries); relative = subst AreKeys (sym no_entries) tt }

-- ---- what is at a path

look_by_text : {S : Type 0} (text_of : S → List ℕ) (es : List (S × Pair)) (text : List ℕ) → lookup (λ (s : S). is_eq (text_cmp text (text_of s))) es ≡ lookup (λ t. is_eq (text_cmp text t)) (by_text text_of es)
look_by_text text_of [] text = refl
look_by_text text_of (e ∷ es) text = ap (λ o. cond (is_eq (text_cmp text (text_of e.0))) (Some e.1) o) (look_by_text text_of es text)

look_texted : (p : PathValue) (es : List (PathValue × Pair)) → is_relative p ≡ true → AreKeys es → lookup (λ t. is_eq (text_cmp (path_text p) t)) (texted es) ≡ find path_cmp p es
look_texted p [] h k = refl
look_texted p (e ∷ es) h k =
    ap₂ (λ c (o : Option Pair). cond (is_eq c) (Some e.1) o) (sym (same_order p e.0 h k.0 (text_cmp (path_text p) (path_text e.0)) refl)) (look_texted p es h k.1)

-- looking by the text is looking by the path
pub look_merged : {S : Type 0} (text_of : S → List ℕ) (m : PairMap) (es : List (S × Pair)) (p : PathValue) → IsMerged m (by_text text_of es) → is_relative p ≡ true
    → lookup (λ (s : S). is_eq (text_cmp (path_text p) (text_of s))) es ≡ get m p
look_merged text_of m es p h relative =
    look_by_text text_of es (path_text p)
    ∙ ap (lookup (λ t. is_eq (text_cmp (path_text p) t))) h.told
    ∙ look_texted p (entries m) relative h.relative
    ∙ sym (get-entries m p)

-- one entry more
pub one_target : (m : PairMap) (xs : List Entry) (x : Entry) → insert (with_targets m xs) x.path (of_target x) ≡ with_targets m (xs ++ x ∷ [])
unfolding with_targets
one_target m [] x = refl
one_target m (y ∷ xs) x = one_target (insert m y.path (of_target y)) xs x

pub one_source : (m : PairMap) (xs : List Entry) (x : Entry) → insert (with_sources m xs) x.path (of_source (get (with_sources m xs) x.path) x) ≡ with_sources m (xs ++ x ∷ [])
unfolding with_sources
one_source m [] x = refl
one_source m (y ∷ xs) x = one_source (insert m y.path (of_source (get m y.path) y)) xs x

pub no_targets : (m : PairMap) → m ≡ with_targets m []
unfolding with_targets
no_targets m = refl

pub no_sources : (m : PairMap) → m ≡ with_sources m []
unfolding with_sources
no_sources m = refl

-- the values that are kept are those of the map
pub kept_values : {S : Type 0} (text_of : S → List ℕ) (m : PairMap) (es : List (S × Pair)) → IsMerged m (by_text text_of es) → map (λ (e : S × Pair). e.1) es ≡ map (λ (e : PathValue × Pair). e.1) (entries m)
kept_values {S} text_of m es h = sym (second_by_text es) ∙ ap (map (λ (e : List ℕ × Pair). e.1)) h.told ∙ second_texted (entries m)
  where
    second_by_text : (xs : List (S × Pair)) → map (λ (e : List ℕ × Pair). e.1) (by_text text_of xs) ≡ map (λ (e : S × Pair). e.1) xs
    second_by_text [] = refl
    second_by_text (x ∷ xs) = ap (λ l. x.1 ∷ l) (second_by_text xs)

    second_texted : (xs : List (PathValue × Pair)) → map (λ (e : List ℕ × Pair). e.1) (texted xs) ≡ map (λ (e : PathValue × Pair). e.1) xs
    second_texted [] = refl
    second_texted (x ∷ xs) = ap (λ l. x.1 ∷ l) (second_texted xs)

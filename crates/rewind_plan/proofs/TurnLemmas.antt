-- The paths of two walks, each once, in order, so that each stands behind the folder that it lies in.
use Rattle.std.proofs.Common.{◌≡◌, ℕ, ◌<◌, ◌==◌, Bool, true, false, ◌&&◌, ◌||◌, T, List, [], ◌∷◌, ◌++◌, length, map, refl, sym, ap, ap₂, ◌∙◌, true≢false, arith}
use Rattle.std.proofs.lemmas.Bool.Decides.{nat_tests}
use Rattle.std.specs.declared.cmp.Ordering.{Ordering}
use Rattle.std.specs.declared.cmp.Ordering.TheVariants.{Less, Equal, Greater}
use Rattle.std.specs.Cmp.{tied_itself}
use Rattle.std.specs.Cmp.Lexicographic.{slice_cmp}
use Rattle.std.specs.FinMap.{entries, entries_sorted, from_entries, is_sorted}
use Rattle.std.specs.FinMap.Entries.{below_all}
use Rattle.std.specs.List.{list_any}
use Rattle.std.specs.Ordering.{bool_cmp, is_lt, nat_cmp, on, ordering_reverse, ordering_then, then_cmp}
use Rattle.cluster_tree.specs.Contents.{parent}
use Rattle.cluster_tree.specs.PathOrder.{path_eq}
use Rattle.cluster_tree.specs.PathValue.{PathValue, path_cmp, path_of, path_text}
use Rattle.cluster_tree.proofs.OrderLemmas.{path_cmp_total, path_eq-other, path_eq-own, same_path}
use Rattle.file_walk.specs.declared.entry.Entry.{Entry}
use Rattle.file_walk.specs.declared.entry.EntryKind.{EntryKind}
use Rattle.file_walk.specs.Laws.{IsOwn}
use Rattle.file_walk.specs.Pairs.{kind_at, pair_at, paths_of}
use Rattle.file_walk.proofs.ClosedLemmas.{front_less}
use Rattle.file_walk.proofs.PlaceLemmas.{text_below}
use Rattle.file_walk.proofs.QueueLemmas.{text_cmp}
use Rattle.rewind_plan.specs.Sides.{AreInTurn, is_at}
use Rattle.rewind_plan.proofs.SideLemmas.{Ended, ended, parent-of}

-- a pair stands at its path
pub at-paths : (ts ss : List Entry) (q : PathValue) (ks : List PathValue) → list_any (is_at q) (map (pair_at ts ss) ks) ≡ list_any (path_eq q) ks
at-paths ts ss q [] = refl
at-paths ts ss q (k ∷ ks) = ap (λ b. path_eq q k || b) (at-paths ts ss q ks)

-- ---- the folder of a path has the lesser text

first : (a b : Bool) → T (a && b) → T a
first true b h = tt
first false b h = h

second : (a b : Bool) → T (a && b) → T b
second true b h = h
second false b h = absurd h

less : (o : Ordering) → T (is_lt o) → o ≡ Less
less Less h = refl
less Equal h = absurd h
less Greater h = absurd h

not_itself : (p : PathValue) → path_cmp p p ≡ Less → ⊥
not_itself p h = let tie : path_cmp p p ≡ Equal = tied_itself path_cmp_total p in absurd (let no_way : Less ≡ Equal = sym h ∙ tie in cc)

not_back : (p q : PathValue) → path_cmp p q ≡ Less → path_cmp q p ≡ Less → ⊥
not_back p q h k = let back : path_cmp q p ≡ Greater = path_cmp_total.antisymm q p ∙ ap ordering_reverse h in absurd (let no_way : Less ≡ Greater = sym k ∙ back in cc)

rest_cmp : PathValue → PathValue → Ordering
rest_cmp = then_cmp (on (λ p. p.parts) (slice_cmp (slice_cmp nat_cmp))) (on (λ p. p.absolute) bool_cmp)

text_less : (p q : PathValue) → text_cmp (path_text p) (path_text q) ≡ Less → path_cmp p q ≡ Less
unfolding rest_cmp
text_less p q h = ap (λ o. ordering_then o (rest_cmp p q)) h

some_parts : (parts : List (List ℕ)) → length parts == 0 ≡ false → 0 < length parts
some_parts parts deep = grind (arith, nat_tests, deep)

up_less : (front : List (List ℕ)) (name : List ℕ) → length front == 0 ≡ false → path_cmp (path_of false front) (path_of false (front ++ name ∷ [])) ≡ Less
up_less front name deep =
    text_less (path_of false front) (path_of false (front ++ name ∷ []))
    (ap (text_cmp (path_text (path_of false front))) (sym (text_below (path_of false front) name refl (some_parts front deep))) ∙ front_less (path_text (path_of false front)) 47 name)

-- what lies behind a path isn't the folder that it lies in
not_up : (k y : PathValue) → IsOwn k → IsOwn y → path_cmp k y ≡ Less → path_eq (parent k) y ≡ false
not_up k y own deep behind = path_eq-other (parent k) y (λ same. by (length e.front == 0) refl same)
  where
    e : Ended k.parts
    e = ended k.parts own.1

    whole : k ≡ path_of false (e.front ++ e.last ∷ [])
    whole = same_path k (path_of false (e.front ++ e.last ∷ [])) own.0 e.is

    up : parent k ≡ path_of false e.front
    up = ap parent whole ∙ parent-of (path_of false []) e.front e.last

    by : (b : Bool) → length e.front == 0 ≡ b → parent k ≡ y → ⊥
    by true none same = true≢false (sym none ∙ ap (λ (p : PathValue). length p.parts == 0) (sym up ∙ same) ∙ deep.1)
    by false some same =
        not_back (path_of false e.front) (path_of false (e.front ++ e.last ∷ [])) (up_less e.front e.last some)
        (ap₂ path_cmp (sym whole) (sym up ∙ same) ∙ behind)

or_more : (a b : Bool) → b ≡ true → (a || b) ≡ true
or_more true b h = refl
or_more false b h = h

neither : (a b : Bool) → a ≡ false → b ≡ false → (a || b) ≡ false
neither true b h k = h
neither false b h k = k

abbrev paths : List (PathValue × EntryKind) → List PathValue
paths es = map (λ e. e.0) es

-- what is nothing that lies behind a path isn't in a list behind it
none_behind : (k q : PathValue) (es : List (PathValue × EntryKind)) → ((y : PathValue) → list_any (path_eq y) (paths es) ≡ true → path_cmp k y ≡ Less → path_eq q y ≡ false)
    → T (below_all path_cmp k es) → list_any (path_eq q) (paths es) ≡ false
none_behind k q [] other up = refl
none_behind k q (e ∷ es) other up =
    neither (path_eq q e.0) (list_any (path_eq q) (paths es))
    (other e.0 (ap (λ b. b || list_any (path_eq e.0) (paths es)) (path_eq-own e.0)) (less (path_cmp k e.0) (first _ _ up)))
    (none_behind k q es (λ y among. other y (or_more (path_eq y e.0) (list_any (path_eq y) (paths es)) among)) (second _ _ up))

turn_from : (ts ss : List Entry) (es : List (PathValue × EntryKind)) → ((y : PathValue) → list_any (path_eq y) (paths es) ≡ true → IsOwn y) → T (is_sorted path_cmp es) → AreInTurn (map (pair_at ts ss) (paths es))
turn_from ts ss [] own sorted = tt
turn_from ts ss (e ∷ es) own sorted = (
  at-paths ts ss e.0 (paths es)
      ∙ none_behind e.0 e.0 es (λ y among behind. path_eq-other e.0 y (λ same. not_itself y (ap (λ p. path_cmp p y) (sym same) ∙ behind))) (first _ _ sorted),
  at-paths ts ss (parent e.0) (paths es)
      ∙ none_behind e.0 (parent e.0) es (λ y among behind. not_up e.0 y here (later y among) behind) (first _ _ sorted),
  turn_from ts ss es later (second _ _ sorted),
)
  where
    here : IsOwn e.0
    here = own e.0 (ap (λ b. b || list_any (path_eq e.0) (paths es)) (path_eq-own e.0))

    later : (y : PathValue) → list_any (path_eq y) (paths es) ≡ true → IsOwn y
    later y among = own y (or_more (path_eq y e.0) (list_any (path_eq y) (paths es)) among)

pub in-turn : (ts ss : List Entry) → ((y : PathValue) → list_any (path_eq y) (paths_of ts ss) ≡ true → IsOwn y) → AreInTurn (map (pair_at ts ss) (paths_of ts ss))
in-turn ts ss own = turn_from ts ss (entries (from_entries {R = path_cmp} (map kind_at (ts ++ ss)))) own (entries_sorted (from_entries {R = path_cmp} (map kind_at (ts ++ ss))))

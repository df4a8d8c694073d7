-- Proper parts: a text holds only such, and a path of such is read back from its text.
use Rattle.std.proofs.Common.{◌≡◌, ℕ, ◌+◌, ◌≤◌, ◌==◌, Bool, true, false, not, cond, ◌&&◌, ◌||◌, nat_lt, zero, suc, List, [], ◌∷◌, ◌++◌, String, string_bytes, length, map, filter, take, slice_get, Some, Result, Ok, Err, refl, ap, sym, ◌∙◌, arith, true≢false}
use Rattle.std.proofs.lemmas.Bool.Decides.{nat_tests}
use Rattle.std.proofs.lemmas.List.{length-map, length-append, length-take}
use Rattle.std.proofs.lemmas.List.Splits.{slice_split-cons_no, slice_split-cons_yes}
use Rattle.std.proofs.lemmas.List.Folds.{list_all-append}
use Rattle.std.specs.List.{list_all, list_any, onto_first, join_with_byte}
use Rattle.cluster_tree.specs.PathValue.{PathValue, path_of, no_slash, is_part, is_kept, is_dot_dot, is_rooted, pieces, kept_parts, parsed, path_text, text_of}
use Rattle.cluster_tree.specs.Paths.{checked}
use Rattle.cluster_tree.specs.declared.path_fault.PathFault.{PathFault}
use Rattle.cluster_tree.specs.declared.path_fault.PathFault.TheVariants.{DotDot, TooDeep}

and_parts : (a b : Bool) → (a && b) ≡ true → (a ≡ true) × (b ≡ true)
and_parts true b h = (refl, h)
and_parts false b h = absurd (true≢false (sym h))

and_both : (a b : Bool) → a ≡ true → b ≡ true → (a && b) ≡ true
and_both a b h k = ap (λ x. x && b) h ∙ k

or_parts : (a b : Bool) → (a || b) ≡ false → (a ≡ false) × (b ≡ false)
or_parts true b h = absurd (true≢false h)
or_parts false b h = (refl, h)

not_true : (b : Bool) → not b ≡ true → b ≡ false
not_true true h = absurd (true≢false (sym h))
not_true false h = refl

-- what a proper part is
pub record IsPart (name : List ℕ) : Type 0 where
  pub kept : is_kept name ≡ true
  pub other : is_dot_dot name ≡ false
  pub free : list_all no_slash name ≡ true

pub part_is : (name : List ℕ) → is_part name ≡ true → IsPart name
part_is name h =
    let e = and_parts (is_kept name && not (is_dot_dot name)) (list_all no_slash name) h in
    let f = and_parts (is_kept name) (not (is_dot_dot name)) e.0 in
    record { kept = f.0; other = not_true _ f.1; free = e.1 }

pub part_of : (name : List ℕ) → IsPart name → is_part name ≡ true
part_of name p = and_both _ _ (and_both (is_kept name) _ p.kept (ap not p.other)) p.free

one_piece : (name : List ℕ) → list_all no_slash name ≡ true → pieces name ≡ name ∷ []
one_piece [] h = refl
one_piece (b ∷ bs) h =
    let e = and_parts (no_slash b) (list_all no_slash bs) h in
    slice_split-cons_no (λ c. c == 47) b bs (not_true _ e.0) ∙ ap (onto_first b) (one_piece bs e.1)

-- a proper part is a text of itself alone
pub part_kept : (name : List ℕ) → is_part name ≡ true → kept_parts name ≡ name ∷ []
part_kept name h = let p = part_is name h in ap (filter is_kept) (one_piece name p.free) ∙ ap (λ b. cond b (name ∷ []) []) p.kept

not_deep : (have : ℕ) → have ≤ 63 → nat_lt 64 (have + 1) ≡ false
not_deep have h = grind (arith, nat_tests)

-- and isn't refused where there is room for it
pub part_admitted : (have : ℕ) (name : List ℕ) → have ≤ 63 → is_part name ≡ true → checked have name ≡ Ok tt
part_admitted have [] k h = absurd (true≢false (sym h))
part_admitted have (b ∷ bs) k h =
    let p = part_is (b ∷ bs) h in
    ap (λ x. cond x (Err DotDot) (cond (nat_lt 64 (have + length (kept_parts (b ∷ bs)))) (Err TooDeep) (Ok tt)))
    (ap (list_any is_dot_dot) (one_piece (b ∷ bs) p.free) ∙ ap (λ x. x || false) p.other)
    ∙ ap (λ parts. cond (nat_lt 64 (have + length parts)) (Err TooDeep) (Ok tt)) (part_kept (b ∷ bs) h)
    ∙ ap (λ x. cond x (Err TooDeep) (Ok tt)) (not_deep have k)

free_more : (b : ℕ) (parts : List (List ℕ)) (slash : Bool) → (b == 47) ≡ slash → list_all (list_all no_slash) parts ≡ true → list_all (list_all no_slash) (cond slash ([] ∷ parts) (onto_first b parts)) ≡ true
free_more b parts true e h = h
free_more b [] false e h = ap (λ x. (not x && true) && true) e
free_more b (part ∷ parts) false e h = ap (λ x. (not x && list_all no_slash part) && list_all (list_all no_slash) parts) e ∙ h

pieces_free : (text : List ℕ) → list_all (list_all no_slash) (pieces text) ≡ true
pieces_free [] = refl
pieces_free (b ∷ bs) = free_more b (pieces bs) (b == 47) refl (pieces_free bs)

kept_more : (piece : List ℕ) (parts : List (List ℕ)) (kept : Bool) → is_kept piece ≡ kept → list_all no_slash piece ≡ true → is_dot_dot piece ≡ false → list_all is_part parts ≡ true → list_all is_part (cond kept (piece ∷ parts) parts) ≡ true
kept_more piece parts true k f d h = and_both (is_part piece) _ (part_of piece (record { kept = k; other = d; free = f })) h
kept_more piece parts false k f d h = h

kept_proper : (texts : List (List ℕ)) → list_all (list_all no_slash) texts ≡ true → list_any is_dot_dot texts ≡ false → list_all is_part (filter is_kept texts) ≡ true
kept_proper [] f d = refl
kept_proper (piece ∷ texts) f d =
    let e = and_parts (list_all no_slash piece) (list_all (list_all no_slash) texts) f in
    let n = or_parts (is_dot_dot piece) (list_any is_dot_dot texts) d in
    kept_more piece (filter is_kept texts) (is_kept piece) refl e.0 n.0 (kept_proper texts e.1 n.1)

-- the refusal of a text by what it has: `..`, and too many parts
abbrev refusal_by : Bool → Bool → Result (Unit {0}) PathFault
refusal_by dotted deep = cond dotted (Err DotDot) (cond deep (Err TooDeep) (Ok tt))

undotted : (b c : Bool) → refusal_by b c ≡ Ok tt → b ≡ false
undotted true c e = absurd cc
undotted false c e = refl

-- the parts of a text that isn't refused
pub checked_parts : (have : ℕ) (text : List ℕ) → checked have text ≡ Ok tt → list_all is_part (kept_parts text) ≡ true
checked_parts have [] e = refl
checked_parts have (b ∷ bs) e = kept_proper (pieces (b ∷ bs)) (pieces_free (b ∷ bs)) (undotted (list_any is_dot_dot (pieces (b ∷ bs))) (nat_lt 64 (have + length (kept_parts (b ∷ bs)))) e)

-- and added to such parts
pub added_parts : (have : ℕ) (parts : List (List ℕ)) (text : List ℕ) → list_all is_part parts ≡ true → checked have text ≡ Ok tt → list_all is_part (parts ++ kept_parts text) ≡ true
added_parts have parts text h e = list_all-append is_part parts (kept_parts text) ∙ and_both _ _ h (checked_parts have text e)

split_at : (xs ys : List ℕ) → list_all no_slash xs ≡ true → pieces (xs ++ 47 ∷ ys) ≡ xs ∷ pieces ys
split_at [] ys h = slice_split-cons_yes (λ c. c == 47) 47 ys refl
split_at (x ∷ xs) ys h =
    let e = and_parts (no_slash x) (list_all no_slash xs) h in
    slice_split-cons_no (λ c. c == 47) x (xs ++ 47 ∷ ys) (not_true _ e.0) ∙ ap (onto_first x) (split_at xs ys e.1)

split_joined : (part : List ℕ) (parts : List (List ℕ)) → list_all is_part (part ∷ parts) ≡ true → pieces (join_with_byte 47 (part ∷ parts)) ≡ part ∷ parts
split_joined part [] h = one_piece part (part_is part (and_parts (is_part part) true h).0).free
split_joined part (next ∷ parts) h =
    let e = and_parts (is_part part) (list_all is_part (next ∷ parts)) h in
    split_at part (join_with_byte 47 (next ∷ parts)) (part_is part e.0).free ∙ ap (λ l. part ∷ l) (split_joined next parts e.1)

kept_all : (parts : List (List ℕ)) → list_all is_part parts ≡ true → filter is_kept parts ≡ parts
kept_all [] h = refl
kept_all (part ∷ parts) h =
    let e = and_parts (is_part part) (list_all is_part parts) h in
    ap (λ b. cond b (part ∷ filter is_kept parts) (filter is_kept parts)) (part_is part e.0).kept ∙ ap (λ l. part ∷ l) (kept_all parts e.1)

joined_kept : (part : List ℕ) (parts : List (List ℕ)) → list_all is_part (part ∷ parts) ≡ true → kept_parts (join_with_byte 47 (part ∷ parts)) ≡ part ∷ parts
joined_kept part parts h = ap (filter is_kept) (split_joined part parts h) ∙ kept_all (part ∷ parts) h

unrooted : (part : List ℕ) (parts : List (List ℕ)) → is_part part ≡ true → is_rooted (join_with_byte 47 (part ∷ parts)) ≡ false
unrooted [] parts h = absurd (true≢false (sym h))
unrooted (b ∷ bs) [] h = not_true _ (and_parts (no_slash b) (list_all no_slash bs) (part_is (b ∷ bs) h).free).0
unrooted (b ∷ bs) (next ∷ parts) h = not_true _ (and_parts (no_slash b) (list_all no_slash bs) (part_is (b ∷ bs) h).free).0

text_read : (absolute : Bool) (parts : List (List ℕ)) → list_all is_part parts ≡ true → parsed (text_of absolute parts) ≡ path_of absolute parts
text_read true [] h = refl
text_read true (part ∷ parts) h = ap (path_of true) (joined_kept part parts h)
text_read false [] h = refl
text_read false (part ∷ parts) h =
    let e = joined_kept part parts h in
    let mark = unrooted part parts (and_parts (is_part part) (list_all is_part parts) h).0 in
    λ i. path_of (mark i) (e i)

-- a path of proper parts is read back from its text
pub read_back : (path : PathValue) → list_all is_part path.parts ≡ true → parsed (path_text path) ≡ path
read_back path h = text_read path.absolute path.parts h

-- so the text tells the path
pub told_by_text : (path other : PathValue) → list_all is_part path.parts ≡ true → list_all is_part other.parts ≡ true → path_text path ≡ path_text other → path ≡ other
told_by_text path other h k e = sym (read_back path h) ∙ ap parsed e ∙ read_back other k

room_in : (n : ℕ) (b c : Bool) → nat_lt 64 n ≡ c → refusal_by b c ≡ Ok tt → n ≤ 64
room_in n true c is e = absurd cc
room_in n false true is e = absurd cc
room_in n false false is e = grind (arith, nat_tests)

-- the parts of a text that isn't refused have room
checked_room : (have : ℕ) (text : List ℕ) → checked have text ≡ Ok tt → have + length (kept_parts text) ≤ 64
checked_room have [] e = absurd cc
checked_room have (b ∷ bs) e = room_in (have + length (kept_parts (b ∷ bs))) (list_any is_dot_dot (pieces (b ∷ bs))) (nat_lt 64 (have + length (kept_parts (b ∷ bs)))) refl e

-- what a path of these parts and those of a text meets
pub joined_parts : {Z : Type 0} (items : List (String Z)) (parts : List (List ℕ)) (text : List ℕ) → map string_bytes items ≡ parts ++ kept_parts text → list_all is_part parts ≡ true → checked (length parts) text ≡ Ok tt
    → (length items ≤ 64) × (list_all is_part (map string_bytes items) ≡ true)
joined_parts items parts text is h e =
    let size : length items ≡ length parts + length (kept_parts text) = sym (length-map items string_bytes) ∙ ap length is ∙ length-append parts (kept_parts text) in
    (omega (arith, size, checked_room (length parts) text e), ap (list_all is_part) is ∙ added_parts (length parts) parts text h e)

-- a name of a list of parts
pub part_at : (names : List (List ℕ)) (i : ℕ) (name : List ℕ) → slice_get names i ≡ Some name → list_all is_part names ≡ true → is_part name ≡ true
part_at [] i name e h = absurd cc
part_at (part ∷ names) zero name e h = let same : name ≡ part = cc in ap is_part same ∙ (and_parts (is_part part) (list_all is_part names) h).0
part_at (part ∷ names) (suc i) name e h = part_at names i name e (and_parts (is_part part) (list_all is_part names) h).1

all_taken : (test : List ℕ → Bool) (n : ℕ) (xs : List (List ℕ)) → list_all test xs ≡ true → list_all test (take n xs) ≡ true
all_taken test zero xs h = refl
all_taken test (suc n) [] h = refl
all_taken test (suc n) (x ∷ xs) h = let e = and_parts (test x) (list_all test xs) h in and_both (test x) (list_all test (take n xs)) e.0 (all_taken test n xs e.1)

-- the first parts of a path are parts
pub front_parts : {Z : Type 0} (first parts : List (String Z)) (n : ℕ) → map string_bytes first ≡ take n (map string_bytes parts) → (length parts ≤ 64) × (list_all is_part (map string_bytes parts) ≡ true) → (length first ≤ 64) × (list_all is_part (map string_bytes first) ≡ true)
front_parts first parts n is good = (
  let short : length first ≤ length parts = rw (← length-map first string_bytes, ← length-map parts string_bytes, is, length-take) (omega arith) in
      omega arith,
  ap (list_all is_part) is ∙ all_taken is_part n (map string_bytes parts) good.1,
)

-- Ways that were written as digits, read again.
use Rattle.std.proofs.Common.{◌≡◌, ℕ, ◌+◌, ◌<◌, ◌≤◌, ◌&&◌, ◌||◌, true, false, cond, is_ok, List, [], ◌∷◌, length, nat_le, nat_lt, None, Some, option_and_then, option_map, Ok, Err, refl, ap, ◌∙◌, arith, if◌then◌else◌}
use Rattle.std.proofs.lemmas.Bool.Decides.{nat_tests}
use Rattle.std.proofs.lemmas.Bool.{and_parts}
use Rattle.std.proofs.lemmas.Slice.Eq.{bytes_eq-Decides}
use Rattle.std.proofs.lemmas.Str.{IsUtf8-from_is_utf8}
use Rattle.std.specs.List.{join_with_byte, list_all, list_any}
use Rattle.std.specs.Str.{is_utf8}
use Rattle.hex.specs.Hex.{encode_lower}
use Rattle.cluster_tree.specs.PathValue.{is_dot_dot, is_part, kept_parts, parsed, path_of, pieces}
use Rattle.cluster_tree.specs.Paths.{checked}
use Rattle.cluster_tree.specs.declared.path_fault.PathFault.TheVariants.{DotDot, TooDeep}
use Rattle.cluster_tree.proofs.PartLemmas.{part_is, read_back}
use Rattle.mark_lines.specs.Paths.{a_way, is_shown, is_way, parts_in, way_in}
use Rattle.mark_lines.specs.Ways.{MakeWay}
use Rattle.mark_lines.proofs.DigitLemmas.{bytes_back}
use Rattle.mark_lines.proofs.LineLemmas.{cut_at, uncut}
use Rattle.mark_lines.proofs.Utf8Lemmas.{utf8_bytes}

-- parts that were joined
pieces_back : (part : List ℕ) (parts : List (List ℕ)) → list_all is_part (part ∷ parts) ≡ true → pieces (join_with_byte 47 (part ∷ parts)) ≡ part ∷ parts
pieces_back part [] h = uncut 47 part (part_is part (and_parts (is_part part) true h).0).free
pieces_back part (next ∷ parts) h =
    let e = and_parts (is_part part) (list_all is_part (next ∷ parts)) h in
    cut_at 47 part (join_with_byte 47 (next ∷ parts)) (part_is part e.0).free ∙ ap (λ l. part ∷ l) (pieces_back next parts e.1)

no_dots : (parts : List (List ℕ)) → list_all is_part parts ≡ true → list_any is_dot_dot parts ≡ false
no_dots [] h = refl
no_dots (part ∷ parts) h =
    let e = and_parts (is_part part) (list_all is_part parts) h in
    ap (λ b. b || list_any is_dot_dot parts) (part_is part e.0).other ∙ no_dots parts e.1

some_text : (part : List ℕ) (parts : List (List ℕ)) → is_part part ≡ true → 0 < length (join_with_byte 47 (part ∷ parts))
some_text [] parts h = absurd cc
some_text (b ∷ bs) [] h = omega arith
some_text (b ∷ bs) (next ∷ parts) h = omega arith

-- a text is admitted
checked_by : (text : List ℕ) → 0 < length text → list_any is_dot_dot (pieces text) ≡ false → nat_lt 64 (0 + length (kept_parts text)) ≡ false → checked 0 text ≡ Ok tt
checked_by [] some undotted fits = absurd (omega (arith, some))
checked_by (b ∷ bs) some undotted fits = λ i. cond (undotted i) (Err DotDot) (cond (fits i) (Err TooDeep) (Ok tt))

kept_back : (part : List ℕ) (parts : List (List ℕ)) → list_all is_part (part ∷ parts) ≡ true → parsed (join_with_byte 47 (part ∷ parts)) ≡ path_of false (part ∷ parts)
kept_back part parts h = read_back (path_of false (part ∷ parts)) h

admitted : (part : List ℕ) (parts : List (List ℕ)) → list_all is_part (part ∷ parts) ≡ true → length (part ∷ parts) ≤ 64 → checked 0 (join_with_byte 47 (part ∷ parts)) ≡ Ok tt
admitted part parts h fits =
    let size = ap (λ p. length p.parts) (kept_back part parts h) in
    checked_by (join_with_byte 47 (part ∷ parts)) (some_text part parts (and_parts (is_part part) (list_all is_part parts) h).0)
    (ap (list_any is_dot_dot) (pieces_back part parts h) ∙ no_dots (part ∷ parts) h) (room_left (length (kept_parts (join_with_byte 47 (part ∷ parts)))) (omega (arith, size, fits)))
  where
    room_left : (n : ℕ) → n ≤ 64 → nat_lt 64 (0 + n) ≡ false
    room_left n le = grind (arith, nat_tests)

-- and is a way
shown : (room : ℕ) (part : List ℕ) (parts : List (List ℕ)) (text : List ℕ) → join_with_byte 47 (part ∷ parts) ≡ text → length (part ∷ parts) + room ≤ 64
    → is_shown room (path_of false (part ∷ parts)) text ≡ true
shown room part parts text e fits =
    let some : nat_lt 0 (length (part ∷ parts)) ≡ true = grind (arith, nat_tests) in
    let deep : nat_le (length (part ∷ parts) + room) 64 ≡ true = grind (arith, nat_tests, fits) in
    let same = (bytes_eq-Decides (join_with_byte 47 (part ∷ parts)) text).1 e in
    λ i. some i && deep i && same i

way_is : (room : ℕ) (part : List ℕ) (parts : List (List ℕ)) → MakeWay room (part ∷ parts) → is_way room (join_with_byte 47 (part ∷ parts)) ≡ true
way_is room part parts is =
    let text = join_with_byte 47 (part ∷ parts) in
    let fits = is.fits in
    let ok = ap is_ok (admitted part parts is.proper (omega (arith, fits))) in
    let read = ap (λ p. is_shown room p text) (kept_back part parts is.proper) ∙ shown room part parts text refl fits in
    λ i. ok i && read i

chosen : (room : ℕ) (part : List ℕ) (parts : List (List ℕ)) → MakeWay room (part ∷ parts) → is_utf8 (join_with_byte 47 (part ∷ parts)) ≡ true → a_way room (join_with_byte 47 (part ∷ parts)) ≡ Some (join_with_byte 47 (part ∷ parts))
chosen room part parts is text = let way = way_is room part parts is in λ i. if text i && way i then Some (join_with_byte 47 (part ∷ parts)) else None

-- so it is read from its digits, and has these parts
pub way_back : (room : ℕ) (parts : List (List ℕ)) → MakeWay room parts → is_utf8 (join_with_byte 47 parts) ≡ true → way_in room (encode_lower (join_with_byte 47 parts)) ≡ Some (join_with_byte 47 parts)
way_back room [] is utf8 = absurd (omega (arith, is.some))
way_back room (part ∷ parts) is utf8 =
    let text = join_with_byte 47 (part ∷ parts) in
    let bytes = utf8_bytes text (IsUtf8-from_is_utf8 text utf8) in
    ap (option_and_then (a_way room)) (bytes_back text bytes) ∙ chosen room part parts is utf8

pub kept_joined : (room : ℕ) (parts : List (List ℕ)) → MakeWay room parts → kept_parts (join_with_byte 47 parts) ≡ parts
kept_joined room [] is = absurd (omega (arith, is.some))
kept_joined room (part ∷ parts) is = ap (λ p. p.parts) (kept_back part parts is.proper)

pub parts_back : (room : ℕ) (parts : List (List ℕ)) → MakeWay room parts → is_utf8 (join_with_byte 47 parts) ≡ true → parts_in room (encode_lower (join_with_byte 47 parts)) ≡ Some parts
parts_back room parts is utf8 = ap (option_map kept_parts) (way_back room parts is utf8) ∙ ap Some (kept_joined room parts is)

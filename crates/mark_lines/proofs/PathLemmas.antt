-- Ways below a root.
use Rattle.std.proofs.Common.{◌≡◌, ℕ, ◌+◌, ◌≤◌, ◌&&◌, Bool, true, false, cond, is_ok, not, List, [], ◌∷◌, length, nat_le, nat_lt, Option, None, Some, option_and_then, Result, Ok, Err, refl, sym, ap, ◌∙◌, true≢false, arith, bytes_eq, if◌then◌else◌}
use Rattle.std.proofs.lemmas.Bool.Decides.{nat_tests}
use Rattle.std.specs.List.{list_any}
use Rattle.std.specs.Str.{is_utf8, IsUtf8}
use Rattle.std.proofs.lemmas.Str.{IsUtf8-from_is_utf8, is_utf8-from_IsUtf8}
use Rattle.wal_base.proofs.HexDigits.{and_parts}
use Rattle.cluster_tree.specs.PathValue.{is_dot_dot, kept_parts, parsed, path_text, pieces}
use Rattle.cluster_tree.specs.Paths.{checked}
use Rattle.cluster_tree.specs.declared.path_fault.PathFault.{PathFault}
use Rattle.cluster_tree.specs.declared.path_fault.PathFault.TheVariants.{DotDot, TooDeep}
use Rattle.mark_lines.specs.Paths.{a_way, is_shown, is_way, way_in}
use Rattle.mark_lines.specs.Words.{bytes_in}

-- a text that is admitted
pub ok_is : (d : Result (Unit {0}) PathFault) → is_ok d ≡ true → d ≡ Ok tt
ok_is (Ok u) e = refl
ok_is (Err fault) e = absurd (true≢false (sym e))

-- the refusal of a text by what it has: `..`, and too many parts
abbrev pub refusal_by : Bool → Bool → Result (Unit {0}) PathFault
refusal_by dotted deep = cond dotted (Err DotDot) (cond deep (Err TooDeep) (Ok tt))

deeper : (dots : Bool) (n d : ℕ) → refusal_by dots (nat_lt 64 (0 + n)) ≡ Ok tt → d + n ≤ 64 → refusal_by dots (nat_lt 64 (d + n)) ≡ Ok tt
deeper true n d e room = absurd cc
deeper false n d e room = let fits : nat_lt 64 (d + n) ≡ false = grind (arith, nat_tests) in ap (refusal_by false) fits

-- where a text isn't refused by itself, it isn't below a root that leaves room for it
below_root : (text : List ℕ) (d : ℕ) → checked 0 text ≡ Ok tt → d + length (kept_parts text) ≤ 64 → checked d text ≡ Ok tt
below_root [] d e room = absurd cc
below_root (b ∷ bs) d e room = deeper (list_any is_dot_dot (pieces (b ∷ bs))) (length (kept_parts (b ∷ bs))) d e room

chosen : (u w : Bool) (t text : List ℕ) → (if u && w then Some t else None) ≡ Some text → (u ≡ true) × (w ≡ true) × (t ≡ text)
chosen true true t text e = (refl, refl, cc)
chosen true false t text e = absurd cc
chosen false w t text e = absurd cc

-- what a word says is a way
of_bytes : (depth : ℕ) (bytes : Option (List ℕ)) (text : List ℕ) → option_and_then (a_way depth) bytes ≡ Some text → is_way depth text ≡ true
of_bytes depth None text e = absurd cc
of_bytes depth (Some t) text e = let w = chosen (is_utf8 t) (is_way depth t) t text e in ap (is_way depth) (sym w.2) ∙ w.1

pub is_a_way : (depth : ℕ) (word text : List ℕ) → way_in depth word ≡ Some text → is_way depth text ≡ true
is_a_way depth word text e = of_bytes depth (bytes_in word) text e

pub room_of : (n depth : ℕ) → nat_le (n + depth) 64 ≡ true → n + depth ≤ 64
room_of n depth e = grind (arith, nat_tests)

-- and so has room below each root of as many parts
pub way_room : (depth d : ℕ) (word text : List ℕ) → way_in depth word ≡ Some text → d ≤ depth → checked d text ≡ Ok tt
way_room depth d word text e le =
    let n = length (kept_parts text) in
    let both = and_parts (is_ok (checked 0 text)) (is_shown depth (parsed text) text) (is_a_way depth word text e) in
    let shown = and_parts (not (parsed text).absolute && nat_lt 0 n && nat_le (n + depth) 64) (bytes_eq (path_text (parsed text)) text) both.1 in
    let fits = and_parts (not (parsed text).absolute && nat_lt 0 n) (nat_le (n + depth) 64) shown.0 in
    below_root text d (ok_is (checked 0 text) both.0) (omega (arith, room_of n depth fits.1))

untext : (bytes : List ℕ) (u : Bool) → is_utf8 bytes ≡ u → (IsUtf8 bytes → ⊥) → u ≡ false
untext bytes true e broken = absurd (broken (IsUtf8-from_is_utf8 bytes e))
untext bytes false e broken = refl

way_by : (depth : ℕ) (word bytes : List ℕ) (u w : Bool) → Some bytes ≡ bytes_in word → is_utf8 bytes ≡ u → is_way depth bytes ≡ w
    → way_in depth word ≡ (if u && w then Some bytes else None)
way_by depth word bytes u w some e f = ap (option_and_then (a_way depth)) (sym some) ∙ (λ i. if e i && f i then Some bytes else None)

-- bytes that are no text are no way
pub no_text : (depth : ℕ) (word bytes : List ℕ) → Some bytes ≡ bytes_in word → (IsUtf8 bytes → ⊥) → None ≡ way_in depth word
no_text depth word bytes some broken = sym (way_by depth word bytes false (is_way depth bytes) some (untext bytes (is_utf8 bytes) refl broken) refl)

-- and a text is one where it is the way to a path
pub a_text : (depth : ℕ) (word bytes : List ℕ) → Some bytes ≡ bytes_in word → IsUtf8 bytes → true ≡ is_way depth bytes → Some bytes ≡ way_in depth word
a_text depth word bytes some text is = sym (way_by depth word bytes true true some (is_utf8-from_IsUtf8 bytes text) (sym is))

pub another_text : (depth : ℕ) (word bytes : List ℕ) → Some bytes ≡ bytes_in word → IsUtf8 bytes → false ≡ is_way depth bytes → None ≡ way_in depth word
another_text depth word bytes some text is = sym (way_by depth word bytes true false some (is_utf8-from_IsUtf8 bytes text) (sym is))

-- Ways that words say.
use Rattle.std.proofs.Common.{◌≡◌, ℕ, ◌+◌, ◌<◌, ◌&&◌, Bool, true, false, is_ok, not, List, [], ◌∷◌, length, nat_le, nat_lt, Some, sym, ap, ◌∙◌, subst, arith, bytes_eq}
use Rattle.std.proofs.lemmas.Bool.{and_parts}
use Rattle.std.proofs.lemmas.Bool.Decides.{nat_tests}
use Rattle.std.proofs.lemmas.Option.{option_and_then_some}
use Rattle.std.proofs.lemmas.Slice.Eq.{bytes_eq-Decides}
use Rattle.std.proofs.Math.Seq.{drop-append_seam}
use Rattle.std.specs.List.{join_with_byte}
use Rattle.std.specs.Str.{is_utf8}
use Rattle.hex.specs.Hex.{encode_lower}
use Rattle.cluster_tree.specs.PathValue.{PathValue, below, is_rooted, kept_parts, parsed, path_text, text_of}
use Rattle.cluster_tree.specs.Paths.{checked}
use Rattle.cluster_tree.proofs.PartLemmas.{checked_parts}
use Rattle.cluster_tree.proofs.RootLemmas.{holds-below}
use Rattle.mark_lines.specs.Words.{bytes_in}
use Rattle.mark_lines.specs.Paths.{a_way, is_shown, is_way, parts_below, parts_in, path_word, way_in, way_of}
use Rattle.mark_lines.specs.Ways.{LiesBelow, MakeWay}
use Rattle.mark_lines.proofs.DigitReadLemmas.{bytes_known}
use Rattle.mark_lines.proofs.LineLemmas.{not_true}
use Rattle.mark_lines.proofs.OptionLemmas.{if_some, map_some}
use Rattle.mark_lines.proofs.PathLemmas.{ok_is, room_of}

joined_is : (absolute : Bool) (parts : List (List ℕ)) (text : List ℕ) → absolute ≡ false → 0 < length parts → text_of absolute parts ≡ text → join_with_byte 47 parts ≡ text
joined_is true parts text rooted some e = absurd cc
joined_is false [] text rooted some e = absurd (omega (arith, some))
joined_is false (part ∷ parts) text rooted some e = e

-- what a way is
pub record IsKnown (room : ℕ) (text : List ℕ) : Type 0 where
  pub joined : join_with_byte 47 (kept_parts text) ≡ text
  pub way : MakeWay room (kept_parts text)

pub way_known : (room : ℕ) (text : List ℕ) → is_way room text ≡ true → IsKnown room text
way_known room text h =
    let parts = kept_parts text in
    let b = and_parts (is_ok (checked 0 text)) (is_shown room (parsed text) text) h in
    let c = and_parts (not (is_rooted text) && nat_lt 0 (length parts) && nat_le (length parts + room) 64) (bytes_eq (path_text (parsed text)) text) b.1 in
    let d = and_parts (not (is_rooted text) && nat_lt 0 (length parts)) (nat_le (length parts + room) 64) c.0 in
    let e = and_parts (not (is_rooted text)) (nat_lt 0 (length parts)) d.0 in
    let some : 0 < length parts = grind (arith, nat_tests, e.1) in
    let joined = joined_is (is_rooted text) parts text (not_true (is_rooted text) e.0) some ((bytes_eq-Decides (path_text (parsed text)) text).0 c.1) in
    record {
      joined = joined;
      way = record {
        proper = checked_parts 0 text (ok_is (checked 0 text) b.0);
        some = some;
        fits = room_of (length parts) room d.1;
      };
    }

-- the parts that a word says, below a root
pub record IsPlaced (room : ℕ) (root : PathValue) (word : List ℕ) (parts : List (List ℕ)) : Type 0 where
  pub behind : parts_below root (below root parts) ≡ parts
  pub placed : LiesBelow room root (below root parts)
  pub text : is_utf8 (way_of root (below root parts)) ≡ true
  pub digits : path_word root (below root parts) ≡ word

placed_at : (room : ℕ) (root : PathValue) (word text : List ℕ) (parts : List (List ℕ)) → is_utf8 text ≡ true → MakeWay room parts → join_with_byte 47 parts ≡ text
    → encode_lower text ≡ word → IsPlaced room root word parts
placed_at room root word text parts utf8 way joined written =
    let behind = drop-append_seam root.parts parts in
    let whole = ap (join_with_byte 47) behind ∙ joined in
    record {
      behind = behind;
      placed = record { held = holds-below root parts; way = subst (MakeWay room) (sym behind) way };
      text = ap is_utf8 whole ∙ utf8;
      digits = ap encode_lower whole ∙ written;
    }

pub parts_known : (room : ℕ) (root : PathValue) (word : List ℕ) (parts : List (List ℕ)) → parts_in room word ≡ Some parts → IsPlaced room root word parts
parts_known room root word parts e =
    map_some kept_parts (way_in room word) parts e (λ text et kept. option_and_then_some (a_way room) (bytes_in word) text et (λ bytes eb f.
    let g = if_some (is_utf8 bytes && is_way room bytes) (Some bytes) text f in
    let h = and_parts (is_utf8 bytes) (is_way room bytes) g.0 in
    let same : bytes ≡ text = let s = g.1 in cc in
    let known = way_known room text (ap (is_way room) (sym same) ∙ h.1) in
    let digits = ap encode_lower (sym same) ∙ (bytes_known word bytes eb).1 in
    let joined = ap (join_with_byte 47) (sym kept) ∙ known.joined in
    placed_at room root word text parts (ap is_utf8 (sym same) ∙ h.0) (subst (MakeWay room) kept known.way) joined digits))

-- Ways that a plan's steps have.
use Rattle.std.proofs.Common.{◌≡◌, ℕ, ◌≤◌, Bool, true, false, List, Option, None, Some, option_and_then, option_map, Result, Ok, Err, IfOk, IfSome, String, string_bytes, refl, sym, ap, ◌∙◌, if◌then◌else◌}
use Rattle.std.proofs.lemmas.Option.{option_and_then_some}
use Rattle.std.specs.List.{join_with_byte}
use Rattle.std.specs.Str.{is_utf8}
use Rattle.hex.specs.Hex.{encode_lower}
use Rattle.cluster_tree.specs.PathValue.{PathValue, below, kept_parts}
use Rattle.cluster_tree.specs.Paths.{checked}
use Rattle.mark_lines.specs.Paths.{parts_below, path_word, way_in, way_of}
use Rattle.mark_lines.specs.Ways.{MakeWay}
use Rattle.mark_lines.proofs.OptionLemmas.{map_some}
use Rattle.mark_lines.proofs.PathLemmas.{is_a_way, way_room}
use Rattle.mark_lines.proofs.WayBackLemmas.{kept_joined, way_back}
use Rattle.mark_lines.proofs.WayReadLemmas.{parts_known, way_known}
use Rattle.plan_text.specs.Paths.{is_kept_out, own_way, step_parts_in, step_way_in}
use Rattle.plan_text.specs.Laws.{IsBelow, IsWay}

own_known : (b : Bool) (t text : List ℕ) → is_kept_out t ≡ b → (if b then None else Some t) ≡ Some text → (t ≡ text) × (is_kept_out text ≡ false)
own_known true t text h e = absurd cc
own_known false t text h e = let same : t ≡ text = cc in (same, ap is_kept_out (sym same) ∙ h)

-- a way that a step's word says, which isn't kept out
pub own_way_known : (depth : ℕ) (word text : List ℕ) → step_way_in depth word ≡ Some text → (way_in depth word ≡ Some text) × (is_kept_out text ≡ false)
own_way_known depth word text e = option_and_then_some own_way (way_in depth word) text e (λ t et f.
    let k = own_known (is_kept_out t) t text refl f in (et ∙ ap Some k.0, k.1))

-- and so has room below each root of as many parts
pub step_way_room : (depth d : ℕ) (word text : List ℕ) → step_way_in depth word ≡ Some text → d ≤ depth → checked d text ≡ Ok tt
step_way_room depth d word text e le = way_room depth d word text (own_way_known depth word text e).0 le

pub ways_have_room : {Z E : Type 0} (r : Result (Option (String Z)) E) (depth d : ℕ) (word : List ℕ)
    → IfOk r (λ way. option_map string_bytes way ≡ step_way_in depth word) → d ≤ depth
    → IfOk r (λ way. IfSome way (λ text. checked d (string_bytes text) ≡ Ok tt))
ways_have_room (Err e) depth d word h le = tt
ways_have_room (Ok None) depth d word h le = tt
ways_have_room (Ok (Some text)) depth d word h le = step_way_room depth d word (string_bytes text) (sym h) le

-- parts that were written as digits are read
pub parts_back : (room : ℕ) (parts : List (List ℕ)) → IsWay room parts → is_utf8 (join_with_byte 47 parts) ≡ true → step_parts_in room (encode_lower (join_with_byte 47 parts)) ≡ Some parts
parts_back room parts is utf8 =
    let ways : MakeWay room parts = record { proper = is.proper; some = is.some; fits = is.fits } in
    ap (λ o. option_map kept_parts (option_and_then own_way o)) (way_back room parts ways utf8)
    ∙ ap (λ b. option_map kept_parts (if b then None else Some (join_with_byte 47 parts))) is.own
    ∙ ap Some (kept_joined room parts ways)

-- the parts that a word says, below a root
pub record IsPlaced (room : ℕ) (root : PathValue) (word : List ℕ) (parts : List (List ℕ)) : Type 0 where
  pub behind : parts_below root (below root parts) ≡ parts
  pub placed : IsBelow room root (below root parts)
  pub text : is_utf8 (way_of root (below root parts)) ≡ true
  pub digits : path_word root (below root parts) ≡ word

pub step_parts_known : (room : ℕ) (root : PathValue) (word : List ℕ) (parts : List (List ℕ)) → step_parts_in room word ≡ Some parts → IsPlaced room root word parts
step_parts_known room root word parts e =
    map_some kept_parts (step_way_in room word) parts e (λ text et kept.
    let own = own_way_known room word text et in
    let p = parts_known room root word parts (ap (option_map kept_parts) own.0 ∙ ap Some kept) in
    let joined : join_with_byte 47 parts ≡ text = ap (join_with_byte 47) (sym kept) ∙ (way_known room text (is_a_way room word text own.0)).joined in
    let out : is_kept_out (way_of root (below root parts)) ≡ false = ap is_kept_out (ap (join_with_byte 47) p.behind ∙ joined) ∙ own.1 in
    let way = p.placed.way in
    record {
      behind = p.behind;
      placed = record { held = p.placed.held; way = record { proper = way.proper; some = way.some; fits = way.fits; own = out } };
      text = p.text;
      digits = p.digits;
    })

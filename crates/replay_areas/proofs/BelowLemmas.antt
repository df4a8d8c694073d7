-- What a walk found, as it is listed.
use Rattle.std.proofs.Common.{◌≡◌, ℕ, zero, suc, ◌+◌, ◌<◌, ◌≤◌, Bool, true, false, ◌&&◌, List, [], ◌∷◌, ◌++◌, codes, length, map, nat_lt, slice_index, true≢false, take, Some, Result, Err, Ok, refl, ap, sym, ◌∙◌, subst, slice_get, append_assoc, arith}
use Rattle.std.proofs.Math.Seq.{drop-append_seam, take-suc}
use Rattle.std.proofs.lemmas.Bool.Decides.{nat_tests}
use Rattle.std.proofs.lemmas.List.{map-append}
use Rattle.std.proofs.lemmas.Str.{IsUtf8-from_ascii, is_utf8-from_IsUtf8}
use Rattle.std.proofs.lemmas.List.Elements.{All-cons, All-get_or, All-nil}
use Rattle.std.proofs.lemmas.Option.{get_or_from_slice_get, slice_get_within}
use Rattle.std.specs.List.{join_with_byte, list_all}
use Rattle.std.specs.Str.{is_utf8}
use Rattle.cluster_tree.specs.PathValue.{PathValue, below, is_part, kept_parts, path_text, text_of}
use Rattle.cluster_tree.specs.Paths.{checked, Refuses}
use Rattle.cluster_tree.specs.declared.path_fault.PathFault.{PathFault}
use Rattle.cluster_tree.specs.declared.path_fault.PathFault.TheVariants as path_fault
use Rattle.cluster_tree.proofs.PartLemmas.{read_back}
use Rattle.file_walk.specs.declared.entry.Entry.{Entry}
use Rattle.mark_lines.specs.Paths.{parts_below, path_word, way_of}
use Rattle.mark_lines.specs.Ways.{MakeWay}
use Rattle.mark_lines.proofs.PathLemmas.{way_room}
use Rattle.mark_lines.proofs.WayBackLemmas.{way_back}
use Rattle.replay_list.specs.declared.listed.Listed.{Listed}
use Rattle.replay_list.specs.declared.listed.Listed.TheVariants.{File}
use Rattle.replay_list.specs.Lines.{path_at}
use Rattle.replay_list.specs.Text.{IsHeld, IsSized}
use Rattle.replay_areas.specs.Fits.{AllFit, FitsBelow}
use Rattle.replay_areas.specs.Listing.{listed_as}

both : (a b : Bool) → a && b ≡ true → (a ≡ true) × (b ≡ true)
both true b e = (refl, e)
both false b e = absurd (true≢false (sym e))

pub full_is : (root own path : PathValue) (text : List ℕ) → text ≡ path_text own → list_all is_part own.parts ≡ true → path ≡ below root (kept_parts text) → path ≡ below root own.parts
full_is root own path text is proper e = e ∙ ap (below root) (ap kept_parts is ∙ ap (λ p. p.parts) (read_back own proper))

-- the text of a path that fits is the way to it
joined : (own : PathValue) (parts : List (List ℕ)) → own.absolute ≡ false → own.parts ≡ parts → 0 < length parts → path_text own ≡ join_with_byte 47 own.parts
joined own [] relative is some = absurd (omega (arith, some))
joined own (part ∷ parts) relative is some = by own.absolute relative own.parts is
  where
    by : (b : Bool) → b ≡ false → (l : List (List ℕ)) → l ≡ part ∷ parts → text_of b l ≡ join_with_byte 47 l
    by b e l f = subst (λ x. text_of b x ≡ join_with_byte 47 x) (sym f) (ap (λ x. text_of x (part ∷ parts)) e)

pub text_joined : (root own : PathValue) → FitsBelow root own → path_text own ≡ join_with_byte 47 own.parts
text_joined root own fits = joined own own.parts fits.relative refl fits.way.some

pub way_below : (root : PathValue) (parts : List (List ℕ)) → way_of root (below root parts) ≡ join_with_byte 47 parts
way_below root parts = ap (join_with_byte 47) (drop-append_seam root.parts parts)

pub way_text : (root own path : PathValue) (text : List ℕ) → FitsBelow root own → text ≡ path_text own → path ≡ below root own.parts → is_utf8 text ≡ true → is_utf8 (way_of root path) ≡ true
way_text root own path text fits is at utf8 = ap (λ p. is_utf8 (way_of root p)) at ∙ ap is_utf8 (way_below root own.parts ∙ sym (text_joined root own fits) ∙ sym is) ∙ utf8

pub admitted : (root own : PathValue) (text : List ℕ) → FitsBelow root own → text ≡ path_text own → is_utf8 text ≡ true → checked (length root.parts) text ≡ Ok tt
admitted root own text fits is utf8 =
    let full = below root own.parts in
    let same : way_of root full ≡ text = way_below root own.parts ∙ sym (text_joined root own fits) ∙ sym is in
    let way : MakeWay (length root.parts) (parts_below root full) = subst (MakeWay (length root.parts)) (sym (drop-append_seam root.parts own.parts)) fits.way in
    let le : length root.parts ≤ length root.parts = omega arith in
    ap (checked (length root.parts)) (sym same)
    ∙ way_room (length root.parts) (length root.parts) (path_word root full) (way_of root full) (way_back (length root.parts) (parts_below root full) way (ap is_utf8 same ∙ utf8)) le

-- a text of seven bits
ascii : (xs : List ℕ) → list_all (λ b. nat_lt b 128) xs ≡ true → (i : ℕ) → slice_index xs i < 128
ascii [] e i = omega arith
ascii (x ∷ xs) e zero = let small : nat_lt x 128 ≡ true = (both (nat_lt x 128) (list_all (λ b. nat_lt b 128) xs) e).0 in grind (arith, nat_tests)
ascii (x ∷ xs) e (suc i) = ascii xs (both (nat_lt x 128) (list_all (λ b. nat_lt b 128) xs) e).1 i

label_text : is_utf8 (codes "backup_label") ≡ true
label_text = is_utf8-from_IsUtf8 (codes "backup_label") (IsUtf8-from_ascii (codes "backup_label") (ascii (codes "backup_label") refl))

-- a label that is held
pub label_held : (root path : PathValue) (size : ℕ) (one : Listed) → path ≡ below root (codes "backup_label" ∷ []) → one ≡ File path size → IsSized one → IsHeld root (one ∷ [])
label_held root path size one is file small =
    let text : is_utf8 (way_of root (path_at one)) ≡ true = ap (λ o. is_utf8 (way_of root (path_at o))) file ∙ ap (λ p. is_utf8 (way_of root p)) is ∙ ap is_utf8 (way_below root (codes "backup_label" ∷ [])) ∙ label_text in
    record { texts = ap (λ b. b && true) text; sizes = All-cons IsSized one [] small (All-nil IsSized) }

-- a text that is refused is none of a path that fits
pub refused : (A : Type 0) (d : Result (Unit {0}) PathFault) (e : PathFault) → Refuses {A = A} d (Err e) → d ≡ Ok tt → e ≡ path_fault.OutOfMemory
refused A d e says ok = let known : Refuses {A = A} (Ok tt) (Err e) = subst (λ x. Refuses {A = A} x (Err e)) ok says in known

-- one entry more
module _ (root : PathValue) (entries : List Entry) (at : ℕ) (entry : Entry) (is : slice_get entries at ≡ Some entry) where
  within : at < length entries
  within = slice_get_within entries at entry is

  pub fits_there : AllFit root entries → FitsBelow root entry.path
  fits_there all = subst (λ e. FitsBelow root e.path) (get_or_from_slice_get entries at entry entry is) (All-get_or (λ e. FitsBelow root e.path) entries at entry within all)

  pub one_added : (start old new : List Listed) → old ≡ start ++ map (listed_as root) (take at entries) → new ≡ old ++ listed_as root entry ∷ [] → new ≡ start ++ map (listed_as root) (take (at + 1) entries)
  one_added start old new front added =
      added ∙ ap (λ l. l ++ listed_as root entry ∷ []) front ∙ append_assoc start (map (listed_as root) (take at entries)) (listed_as root entry ∷ [])
      ∙ ap (λ l. start ++ l) (sym (map-append (listed_as root) (take at entries) (entry ∷ [])) ∙ ap (map (listed_as root)) (sym more))
    where
      more : take (at + 1) entries ≡ take at entries ++ entry ∷ []
      more =
          let next : at + 1 ≡ suc at = omega arith in
          ap (λ n. take n entries) next ∙ take-suc entries at entry within ∙ ap (λ x. take at entries ++ x ∷ []) (get_or_from_slice_get entries at entry entry is)

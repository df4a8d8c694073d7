-- What a walk of the areas found.
use Rattle.std.proofs.Common.{◌≡◌, ℕ, ◌<◌, ◌==◌, Bool, true, false, not, ◌&&◌, cond, List, [], ◌∷◌, drop, length, map, Option, Some, Ok, is_some, option_map, refl, ap, sym, ◌∙◌, true≢false, arith, if◌then◌else◌}
use Rattle.std.proofs.Math.Seq.{drop-append_seam}
use Rattle.std.proofs.lemmas.List.Elements.{All-cons, All-nil}
use Rattle.std.specs.FinMap.{find, get-from_entries}
use Rattle.std.specs.List.{All, list_all}
use Rattle.std.specs.Ordering.{eq_by_cmp}
use Rattle.cluster_tree.specs.Contents.{Contents, entry_at}
use Rattle.cluster_tree.specs.PathOrder.{path_eq}
use Rattle.cluster_tree.specs.PathValue.{PathValue, below, is_part, path_cmp, path_of}
use Rattle.cluster_tree.proofs.OrderLemmas.{path_cmp_total, path_eq-other, path_eq-own, same_path}
use Rattle.cluster_tree.proofs.TreeLemmas.{same_or_other}
use Rattle.file_walk.specs.declared.entry.Entry.{Entry}
use Rattle.file_walk.specs.declared.entry.EntryKind.{EntryKind}
use Rattle.file_walk.specs.declared.entry.EntryKind.TheVariants as kind
use Rattle.file_walk.specs.Laws.{TellsAll}
use Rattle.file_walk.specs.Listed.{AreInOrder, is_relative}
use Rattle.file_walk.specs.Pairs.{kind_at, kind_in}
use Rattle.file_walk.specs.Relations.{relation_of}
use Rattle.file_walk.specs.Walk.{HasParts, kind_there, walk_of}
use Rattle.file_walk.proofs.InOrderLemmas.{walk_in_order}
use Rattle.file_walk.proofs.StandLemmas.{tells-all}
use Rattle.replay_list.specs.declared.listed.Listed.{Listed}
use Rattle.replay_list.specs.Areas.{is_area}
use Rattle.replay_list.specs.Lines.{path_at}
use Rattle.areas_alone.specs.Alone.{areas_of}
use Rattle.areas_alone.specs.Shown.{elsewhere-below, entry-elsewhere, entry-other, longer}
use Rattle.replay_areas.specs.Fits.{AllFit, FitsBelow}
use Rattle.replay_areas.specs.Laws.{listed_at}
use Rattle.replay_areas.specs.Listing.{listed_as, listed_by}

not_of : (b : Bool) → not b ≡ true → b ≡ false
not_of true e = absurd (true≢false (sym e))
not_of false e = refl

-- where what is listed is listed
pub at_path : (main : Bool) (path : PathValue) (kind : EntryKind) → path_at (listed_by main path kind) ≡ path
at_path main path kind.Folder = refl
at_path true path (kind.File size) = refl
at_path false path (kind.File size) = refl

-- the first entry of a path
abbrev pub found_at : List Entry → PathValue → Option EntryKind
found_at entries path = find path_cmp path (map kind_at entries)

pub kind-found : (entries : List Entry) (path : PathValue) → kind_in entries path ≡ found_at entries path
kind-found entries path = get-from_entries path_cmp_total (map kind_at entries) path

found_own : (entry : Entry) (more : List Entry) → is_some (found_at (entry ∷ more) entry.path) ≡ true
unfolding path_eq
found_own entry more = ap (λ b. is_some (cond b (Some entry.kind) (found_at more entry.path))) (path_eq-own entry.path)

still : (b : Bool) (k : EntryKind) (o : Option EntryKind) → is_some o ≡ true → is_some (cond b (Some k) o) ≡ true
still true k o e = refl
still false k o e = e

both : (a b : Bool) → a && b ≡ true → (a ≡ true) × (b ≡ true)
both true b e = (refl, e)
both false b e = absurd (true≢false (sym e))

-- what holds of each path that is found holds of each entry
pub all_found : (P : PathValue → Type 0) (entries : List Entry) → list_all (λ e. is_relative e.path) entries ≡ true
    → ((path : PathValue) → is_some (found_at entries path) ≡ true → is_relative path ≡ true → P path) → All (λ e. P e.path) entries
all_found P [] relative h = All-nil (λ e. P e.path)
all_found P (entry ∷ more) relative h =
    let two = both (is_relative entry.path) (list_all (λ e. is_relative e.path) more) relative in
    All-cons (λ e. P e.path) entry more (h entry.path (found_own entry more) two.0)
    (all_found P more two.1 (λ path e r. h path (still (eq_by_cmp path_cmp path entry.path) entry.kind (found_at more path) e) r))

-- the same is found in a list of what is found
module _ (root : PathValue) (parts : List (List ℕ)) where
  abbrev own : PathValue
  own = path_of false parts

  abbrev main : Bool
  main = is_some (relation_of own)

  same_below : (path : PathValue) → path.absolute ≡ false → below root parts ≡ below root path.parts → own ≡ path
  same_below path relative e =
      same_path own path (sym relative) (sym (drop-append_seam root.parts parts) ∙ ap (λ (p : PathValue). drop (length root.parts) p.parts) e ∙ drop-append_seam root.parts path.parts)

  first_found : (b d : Bool) (one : Listed) (kind : EntryKind) (l : Option Listed) (k : Option EntryKind) → b ≡ d → (b ≡ true → one ≡ listed_by main (below root parts) kind) → l ≡ option_map (listed_by main (below root parts)) k
      → (if b then Some one else l) ≡ option_map (listed_by main (below root parts)) (cond d (Some kind) k)
  first_found true true one kind l k e f g = ap Some (f refl)
  first_found true false one kind l k e f g = absurd (true≢false e)
  first_found false true one kind l k e f g = absurd (true≢false (sym e))
  first_found false false one kind l k e f g = g

  pub listed-found : (entries : List Entry) → list_all (λ e. is_relative e.path) entries ≡ true
      → listed_at (map (listed_as root) entries) (below root parts) ≡ option_map (listed_by main (below root parts)) (found_at entries own)
  unfolding path_eq
  listed-found [] relative = refl
  listed-found (entry ∷ more) relative =
      let two = both (is_relative entry.path) (list_all (λ e. is_relative e.path) more) relative in
      let mark = no_mark entry.path two.0 in
      same_or_other own entry.path
      (λ same.
      let one : listed_as root entry ≡ listed_by main (below root parts) entry.kind = ap (λ (p : PathValue). listed_by (is_some (relation_of p)) (below root p.parts) entry.kind) (sym same) in
      let at : path_at (listed_as root entry) ≡ below root parts = ap path_at one ∙ at_path main (below root parts) entry.kind in
      first_found (path_eq (below root parts) (path_at (listed_as root entry))) (path_eq own entry.path) (listed_as root entry) entry.kind _ _
      (ap (path_eq (below root parts)) at ∙ path_eq-own (below root parts) ∙ sym (ap (path_eq own) (sym same) ∙ path_eq-own own))
      (λ e. one) (listed-found more two.1))
      (λ other.
      let at : path_at (listed_as root entry) ≡ below root entry.path.parts = at_path (is_some (relation_of entry.path)) (below root entry.path.parts) entry.kind in
      let apart : path_eq (below root parts) (path_at (listed_as root entry)) ≡ false =
      ap (path_eq (below root parts)) at ∙ path_eq-other (below root parts) (below root entry.path.parts) (λ e. other (same_below entry.path mark e)) in
      first_found (path_eq (below root parts) (path_at (listed_as root entry))) (path_eq own entry.path) (listed_as root entry) entry.kind _ _
      (apart ∙ sym (path_eq-other own entry.path other))
      (λ e. absurd (true≢false (sym e ∙ apart))) (listed-found more two.1))
    where
      no_mark : (path : PathValue) → is_relative path ≡ true → path.absolute ≡ false
      no_mark path e = not_of path.absolute (both (not path.absolute) (list_all is_part path.parts) e).0

-- what stands in an area is seen
module _ (c : Contents) (root : PathValue) where
  pub area_seen : (name : List ℕ) (more : List (List ℕ)) → is_area name ≡ true → entry_at (areas_of c root) (below root (name ∷ more)) ≡ entry_at c (below root (name ∷ more))
  area_seen name more e = entry-other c root (below root (name ∷ more)) (longer root name more) (elsewhere-below root (name ∷ more) ∙ ap not e)

  -- and only that
  area_by : (name : List ℕ) (more : List (List ℕ)) (b : Bool) → is_area name ≡ b → is_some (kind_there (entry_at (areas_of c root) (below root (name ∷ more)))) ≡ true → b ≡ true
  area_by name more true e there = refl
  area_by name more false e there =
      absurd (true≢false (sym there ∙ ap (λ o. is_some (kind_there o)) (entry-elsewhere c root (below root (name ∷ more)) (elsewhere-below root (name ∷ more) ∙ ap not e))))

  pub seen_area : (name : List ℕ) (more : List (List ℕ)) → is_some (kind_there (entry_at (areas_of c root) (below root (name ∷ more)))) ≡ true → is_area name ≡ true
  seen_area name more there = area_by name more (is_area name) refl there

-- of parts that begin with the name of an area
pub record InArea (parts : List (List ℕ)) : Type 0 where
  pub name : List ℕ
  pub more : List (List ℕ)
  pub is : parts ≡ name ∷ more
  pub area : is_area name ≡ true

some_length : (parts : List (List ℕ)) → (length parts == 0) ≡ false → 0 < length parts
some_length [] e = absurd (true≢false e)
some_length (part ∷ parts) e = omega arith

module _ (c : Contents) (root : PathValue) (entries : List Entry) (told : walk_of (areas_of c root) root ≡ Ok entries) where
  tells : TellsAll (areas_of c root) root entries
  tells = tells-all (areas_of c root) root entries told

  pub found_in_order : AreInOrder entries
  found_in_order = walk_in_order (areas_of c root) root entries told

  found_kind : (path : PathValue) → is_some (found_at entries path) ≡ true → is_some (kind_in entries path) ≡ true
  found_kind path e = ap is_some (kind-found entries path) ∙ e

  pub all_fit : AllFit root entries
  all_fit = all_found (FitsBelow root) entries found_in_order.relative (λ path e relative.
      let own = tells.own path (found_kind path e) in
      let two = both (not path.absolute) (list_all is_part path.parts) relative in
      record {
        relative = own.0.0;
        way = record { proper = two.1; some = some_length path.parts own.0.1; fits = omega (arith, own.1) };
      })

  module _ (proper : HasParts (areas_of c root) root) where
    in_area : (path : PathValue) (parts : List (List ℕ)) → path.parts ≡ parts → path.absolute ≡ false → (length parts == 0) ≡ false → is_some (kind_in entries path) ≡ true → InArea path.parts
    in_area path [] is mark none e = absurd (true≢false none)
    in_area path (name ∷ more) is mark some e =
        let same : path_of false (name ∷ more) ≡ path = same_path (path_of false (name ∷ more)) path (sym mark) (sym is) in
        let there : is_some (kind_there (entry_at (areas_of c root) (below root (name ∷ more)))) ≡ true = ap is_some (sym (tells.kind proper (name ∷ more) some)) ∙ ap (λ p. is_some (kind_in entries p)) same ∙ e in
        record { name = name; more = more; is = is; area = seen_area c root name more there }

    pub all_in_areas : All (λ e. InArea e.path.parts) entries
    all_in_areas = all_found (λ path. InArea path.parts) entries found_in_order.relative (λ path e relative.
        let own = tells.own path (found_kind path e) in
        in_area path path.parts refl own.0.0 own.0.1 (found_kind path e))

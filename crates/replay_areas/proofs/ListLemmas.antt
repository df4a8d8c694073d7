-- What is listed of a cluster is a list below its root.
use Rattle.std.proofs.Common.{Less, ◌≡◌, ℕ, ◌+◌, ◌<◌, ◌≤◌, ◌^◌, ◌&&◌, ◌||◌, Bool, true, false, List, [], ◌∷◌, bytes_eq, codes, is_some, length, map, Option, None, Some, Result, Ok, Err, refl, ap, sym, ◌∙◌, subst, arith}
use Rattle.std.proofs.Math.Seq.{drop-append_seam}
use Rattle.std.proofs.lemmas.List.{length-map}
use Rattle.std.proofs.lemmas.List.Elements.{All-cons, All-head, All-map, All-tail, All-weaker}
use Rattle.std.proofs.lemmas.Slice.Eq.{bytes_eq-Decides}
use Rattle.std.specs.Cmp.Lexicographic.{slice_cmp}
use Rattle.std.specs.List.{All, AllByRecursion, cons_option, join_with_byte, list_all}
use Rattle.std.specs.List.Sorted.{IsStrictlySortedBy}
use Rattle.std.specs.Ordering.{nat_cmp}
use Rattle.cluster_tree.specs.Causes.{given}
use Rattle.cluster_tree.specs.Contents.{Contents, Entry as Standing, FileEntry, FolderEntry, LinkEntry, entry_at}
use Rattle.cluster_tree.specs.PathValue.{PathValue, below, path_text}
use Rattle.cluster_tree.proofs.RootLemmas.{holds-below}
use Rattle.file_walk.specs.declared.entry.Entry.{Entry}
use Rattle.file_walk.specs.declared.fault.WalkFault.{WalkFault}
use Rattle.file_walk.specs.Listed.{texts_of}
use Rattle.file_walk.specs.Relations.{relation_of}
use Rattle.file_walk.specs.Walk.{HasParts, walk_of}
use Rattle.mark_lines.specs.Paths.{parts_below, way_of}
use Rattle.mark_lines.specs.Ways.{LiesBelow, MakeWay}
use Rattle.replay_list.specs.declared.listed.Listed.{Listed}
use Rattle.replay_list.specs.declared.listed.Listed.TheVariants.{File, Folder, Page}
use Rattle.replay_list.specs.Areas.{is_area, is_listed}
use Rattle.replay_list.specs.Lines.{files_after, files_behind, path_at, way_to, ways_to}
use Rattle.areas_alone.specs.Alone.{areas_of}
use Rattle.replay_areas.specs.Fits.{AllFit, FitsBelow}
use Rattle.replay_areas.specs.Laws.{AreasAreLists}
use Rattle.replay_areas.specs.Listing.{areas_listed, label_listed, label_path, listed_as, listed_below}
use Rattle.replay_areas.proofs.BelowLemmas.{text_joined, way_below}
use Rattle.replay_areas.proofs.FoundLemmas.{InArea, all_fit, all_in_areas, at_path, found_in_order}

-- the label, if it is listed
pub with_label : (P : Option Listed → Type 0) (path : PathValue) → P None → ((size : ℕ) → P (Some (File path size))) → (o : Option Standing) → P (label_listed path o)
with_label P path none some None = none
with_label P path none some (Some (FolderEntry bad)) = none
with_label P path none some (Some (FileEntry bytes)) = some (length bytes)
with_label P path none some (Some LinkEntry) = none

-- where what is listed stands
pub at_own : (root : PathValue) (entry : Entry) → path_at (listed_as root entry) ≡ below root entry.path.parts
at_own root entry = at_path (is_some (relation_of entry.path)) (below root entry.path.parts) entry.kind

lies : (root : PathValue) (parts : List (List ℕ)) → MakeWay (length root.parts) parts → LiesBelow (length root.parts) root (below root parts)
lies root parts way = record { held = holds-below root parts; way = subst (MakeWay (length root.parts)) (sym (drop-append_seam root.parts parts)) way }

area_listed : (name : List ℕ) (more : List (List ℕ)) → is_area name ≡ true → is_listed (name ∷ more) ≡ true
area_listed name [] h = ap (λ b. b || bytes_eq name (codes "backup_label")) h
area_listed name (next ∷ more) h = h

-- the label's way is below those of the areas
or_of : {P : Type 0} (a b : Bool) → a || b ≡ true → (a ≡ true → P) → (b ≡ true → P) → P
or_of true b e f g = f refl
or_of false b e f g = g e

abbrev IsAbove : List ℕ → Type 0
IsAbove way = slice_cmp nat_cmp (codes "backup_label") way ≡ Less

above_xact : (more : List (List ℕ)) → IsAbove (join_with_byte 47 (codes "pg_xact" ∷ more))
above_xact [] = refl
above_xact (next ∷ more) = refl

above_multixact : (more : List (List ℕ)) → IsAbove (join_with_byte 47 (codes "pg_multixact" ∷ more))
above_multixact [] = refl
above_multixact (next ∷ more) = refl

above_global : (more : List (List ℕ)) → IsAbove (join_with_byte 47 (codes "global" ∷ more))
above_global [] = refl
above_global (next ∷ more) = refl

above_base : (more : List (List ℕ)) → IsAbove (join_with_byte 47 (codes "base" ∷ more))
above_base [] = refl
above_base (next ∷ more) = refl

above_label : (name : List ℕ) (more : List (List ℕ)) → is_area name ≡ true → IsAbove (join_with_byte 47 (name ∷ more))
above_label name more e =
    let by : (known : List ℕ) → bytes_eq name known ≡ true → IsAbove (join_with_byte 47 (known ∷ more)) → IsAbove (join_with_byte 47 (name ∷ more)) =
    λ known h above. subst (λ n. IsAbove (join_with_byte 47 (n ∷ more))) (sym ((bytes_eq-Decides name known).0 h)) above in
    or_of (bytes_eq name (codes "pg_xact") || bytes_eq name (codes "pg_multixact") || bytes_eq name (codes "global")) (bytes_eq name (codes "base")) e
    (λ three. or_of (bytes_eq name (codes "pg_xact") || bytes_eq name (codes "pg_multixact")) (bytes_eq name (codes "global")) three
    (λ two. or_of (bytes_eq name (codes "pg_xact")) (bytes_eq name (codes "pg_multixact")) two
    (λ h. by (codes "pg_xact") h (above_xact more))
    (λ h. by (codes "pg_multixact") h (above_multixact more)))
    (λ h. by (codes "global") h (above_global more)))
    (λ h. by (codes "base") h (above_base more))

-- what a list below a root asks of the paths alone
pub record ArePlaced (root : PathValue) (listed : List Listed) : Type 0 where
  placed : All (λ l. LiesBelow (length root.parts) root (path_at l)) listed
  areas : list_all (λ l. is_listed (parts_below root (path_at l))) listed ≡ true
  ascending : IsStrictlySortedBy (slice_cmp nat_cmp) (ways_to root listed)

module _ (root : PathValue) where
  way_own : (entry : Entry) → FitsBelow root entry.path → way_to root (listed_as root entry) ≡ path_text entry.path
  way_own entry fits = ap (way_of root) (at_own root entry) ∙ way_below root entry.path.parts ∙ sym (text_joined root entry.path fits)

  ways_own : (es : List Entry) → AllFit root es → ways_to root (map (listed_as root) es) ≡ texts_of es
  ways_own [] fit = refl
  ways_own (entry ∷ more) fit =
      let one = way_own entry (All-head (λ e. FitsBelow root e.path) entry more fit) in
      let rest = ways_own more (All-tail (λ e. FitsBelow root e.path) entry more fit) in
      λ i. one i ∷ rest i

  one_listed : (entry : Entry) → InArea entry.path.parts → is_listed (parts_below root (path_at (listed_as root entry))) ≡ true
  one_listed entry is =
      ap (λ p. is_listed (parts_below root p)) (at_own root entry) ∙ ap is_listed (drop-append_seam root.parts entry.path.parts ∙ is.is) ∙ area_listed is.name is.more is.area

  all_listed : (es : List Entry) → All (λ e. InArea e.path.parts) es → list_all (λ l. is_listed (parts_below root (path_at l))) (map (listed_as root) es) ≡ true
  all_listed [] are = refl
  all_listed (entry ∷ more) are =
      let one = one_listed entry (All-head (λ e. InArea e.path.parts) entry more are) in
      let rest = all_listed more (All-tail (λ e. InArea e.path.parts) entry more are) in
      λ i. one i && rest i

  one_above : (entry : Entry) → InArea entry.path.parts → IsAbove (way_to root (listed_as root entry))
  one_above entry is =
      subst IsAbove (sym (ap (way_of root) (at_own root entry) ∙ way_below root entry.path.parts ∙ ap (join_with_byte 47) is.is)) (above_label is.name is.more is.area)

  all_above : (es : List Entry) → All (λ e. InArea e.path.parts) es → AllByRecursion (λ y. slice_cmp nat_cmp (codes "backup_label") y ≡ Less) (ways_to root (map (listed_as root) es))
  all_above [] are = tt
  all_above (entry ∷ more) are =
      (one_above entry (All-head (λ e. InArea e.path.parts) entry more are), all_above more (All-tail (λ e. InArea e.path.parts) entry more are))

  label_way : (size : ℕ) → way_to root (File (label_path root) size) ≡ codes "backup_label"
  label_way size = way_below root (codes "backup_label" ∷ [])

  label_fits : length root.parts ≤ 63 → MakeWay (length root.parts) (codes "backup_label" ∷ [])
  label_fits room = record { proper = refl; some = omega arith; fits = omega (arith, room) }

  module _ (c : Contents) (entries : List Entry) (told : walk_of (areas_of c root) root ≡ Ok entries) (proper : HasParts (areas_of c root) root) where
    entries_placed : ArePlaced root (map (listed_as root) entries)
    entries_placed =
        let fit = all_fit c root entries told in
        record {
          placed = All-map (λ l. LiesBelow (length root.parts) root (path_at l)) (listed_as root) entries
              (All-weaker (λ e. FitsBelow root e.path) (λ e. LiesBelow (length root.parts) root (path_at (listed_as root e)))
              (λ e fits. subst (LiesBelow (length root.parts) root) (sym (at_own root e)) (lies root e.path.parts fits.way)) entries fit);
          areas = all_listed entries (all_in_areas c root entries told proper);
          ascending = subst (IsStrictlySortedBy (slice_cmp nat_cmp)) (sym (ways_own entries fit)) (found_in_order c root entries told).ascending;
        }

    with_one : length root.parts ≤ 63 → (size : ℕ) → ArePlaced root (File (label_path root) size ∷ map (listed_as root) entries)
    unfolding IsStrictlySortedBy
    with_one room size = record {
      placed = All-cons (λ l. LiesBelow (length root.parts) root (path_at l)) (File (label_path root) size) (map (listed_as root) entries) (lies root (codes "backup_label" ∷ []) (label_fits room)) entries_placed.placed;
      areas = (let own : is_listed (parts_below root (label_path root)) ≡ true = ap is_listed (drop-append_seam root.parts (codes "backup_label" ∷ [])) in
          let rest = entries_placed.areas in
          λ i. own i && rest i);
      ascending = (subst (λ w. AllByRecursion (λ y. slice_cmp nat_cmp w y ≡ Less) (ways_to root (map (listed_as root) entries))) (sym (label_way size)) (all_above entries (all_in_areas c root entries told proper)), entries_placed.ascending);
    }

    pub all_placed : length root.parts ≤ 63 → ArePlaced root (listed_below c root entries)
    all_placed room = with_label (λ o. ArePlaced root (cons_option o (map (listed_as root) entries))) (label_path root) entries_placed (with_one room) (entry_at c (label_path root))

-- what a list is of
pub record IsOf (c : Contents) (root : PathValue) (listed : List Listed) : Type 0 where
  pub entries : List Entry
  pub told : walk_of (areas_of c root) root ≡ Ok entries
  pub is : listed ≡ listed_below c root entries

pub list_is : (c : Contents) (root : PathValue) (listed : List Listed) → areas_listed c root ≡ Ok listed → IsOf c root listed
unfolding areas_listed
list_is c root listed e = by (walk_of (areas_of c root) root) refl e
  where
    by : (w : Result (List Entry) WalkFault) → walk_of (areas_of c root) root ≡ w → given w (λ entries. Ok (listed_below c root entries)) ≡ Ok listed → IsOf c root listed
    by (Ok entries) is e = record { entries = entries; told = is; is = cc }
    by (Err fault) is e = absurd cc

pub lists_below : AreasAreLists
lists_below c root listed e proper room held counts =
    let is = list_is c root listed e in
    let placed : ArePlaced root listed = subst (ArePlaced root) (sym is.is) (all_placed root c is.entries is.told proper room) in
    record { placed = placed.placed; areas = placed.areas; ascending = placed.ascending; held = held; counts = counts }

-- no more files are listed than entries and a label
behind_one : (files : ℕ) (one : Listed) → files_behind files one ≤ files + 1
behind_one files (Folder path) = omega arith
behind_one files (Page path size) = omega arith
behind_one files (File path size) = omega arith

after_all : (files : ℕ) (listed : List Listed) → files_after files listed ≤ files + length listed
after_all files [] = omega arith
after_all files (one ∷ more) = omega (arith, behind_one files one, after_all (files_behind files one) more)

one_longer : (label : Option Listed) (xs : List Listed) → length (cons_option label xs) ≤ 1 + length xs
one_longer None xs = omega arith
one_longer (Some one) xs = omega arith

pub few_files : (root : PathValue) (label : Option Listed) (entries : List Entry) (listed : List Listed) → listed ≡ cons_option label (map (listed_as root) entries) → length entries < 2 ^ 64 → files_after 0 listed ≤ 2 ^ 64
few_files root label entries listed is few =
    let size : length (map (listed_as root) entries) ≡ length entries = length-map entries (listed_as root) in
    let all = after_all 0 (cons_option label (map (listed_as root) entries)) in
    let counts : files_after 0 (cons_option label (map (listed_as root) entries)) ≤ 2 ^ 64 = omega (arith, all, one_longer label (map (listed_as root) entries), size, few) in
    subst (λ l. files_after 0 l ≤ 2 ^ 64) (sym is) counts

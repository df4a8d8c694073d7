-- Once the areas are freed, all that is listed can be brought back, and then stands.
use Rattle.std.proofs.Common.{◌≡◌, ◌≢◌, ℕ, ◌<◌, Bool, true, false, ◌&&◌, ◌||◌, List, [], ◌∷◌, ◌++◌, length, drop, codes, decimal, Option, None, Some, refl, ap, ap₂, sym, subst, ◌∙◌, true≢false, arith}
use Rattle.std.specs.Prelude.{if◌then◌else◌}
use Rattle.std.proofs.lemmas.Bool.{or_left, or_right}
use Rattle.std.proofs.lemmas.List.{drop_all, length-drop}
use Rattle.std.proofs.lemmas.List.Elements.{All-head, All-tail}
use Rattle.std.specs.Cmp.{tied_itself}
use Rattle.std.specs.Cmp.Lexicographic.{nat_list_cmp_total, slice_cmp}
use Rattle.std.specs.FinMap.{insert}
use Rattle.std.specs.List.{All, AllByRecursion, list_all}
use Rattle.std.specs.List.Sorted.{IsStrictlySortedBy}
use Rattle.std.specs.Ordering.{nat_cmp}
use Rattle.std.specs.declared.cmp.Ordering.TheVariants.{Less, Equal}
use Rattle.cluster_tree.specs.Apart.{is_held}
use Rattle.cluster_tree.specs.Contents.{Contents, Entry, FileEntry, FolderEntry, LinkEntry, entry_at, is_folder, parent}
use Rattle.cluster_tree.specs.PathOrder.{path_eq}
use Rattle.cluster_tree.specs.PathValue.{PathValue}
use Rattle.cluster_tree.specs.Tree.{bytes_at, bytes_in}
use Rattle.cluster_tree.proofs.ContentsLemmas.{entry-put, entry-put_other}
use Rattle.cluster_tree.proofs.HoldLemmas.{holds-held}
use Rattle.cluster_tree.proofs.OrderLemmas.{path_eq-own, path_eq-same}
use Rattle.cluster_tree.proofs.TreeLemmas.{same_or_other}
use Rattle.mark_lines.specs.Paths.{parts_below, way_of}
use Rattle.mark_lines.specs.Ways.{LiesBelow}
use Rattle.replay_list.specs.Areas.{is_area, is_listed}
use Rattle.replay_list.specs.Lines.{files_behind, path_at, ways_to}
use Rattle.replay_list.specs.declared.listed.Listed.{Listed}
use Rattle.replay_list.specs.declared.listed.Listed.TheVariants.{Folder, Page, File}
use Rattle.stored_replay.specs.Shadows.{first_lost, is_sized, lost_of, or_later, shadow_at}
use Rattle.replay_restore.specs.Filled.{CanBringAll, Fits, FitsFile, HasCopy, brought, brought_at, has_path, resized, with_all, with_one}
use Rattle.replay_restore.specs.Listing.{has_folder, is_closed, is_folder_at, is_named, is_restored_at, is_under}
use Rattle.replay_restore.proofs.FreeLemmas.{by_bool}

both : (a b : Bool) → (a && b) ≡ true → (a ≡ true) × (b ≡ true)
both true b h = (refl, h)
both false b h = absurd (true≢false (sym h))

or_is : {P : Type 0} (a b : Bool) → (a || b) ≡ true → (a ≡ true → P) → (b ≡ true → P) → P
or_is true b h left right = left refl
or_is false b h left right = right h

or_not : (a b : Bool) → (a || b) ≡ false → (a ≡ false) × (b ≡ false)
or_not true b h = absurd (true≢false h)
or_not false b h = (refl, h)

abbrev pub Each : (Listed → Type 0) → List Listed → Type 0
Each P [] = Unit {0}
Each P (one ∷ more) = P one × Each P more

each_map : (P Q : Listed → Type 0) → ((one : Listed) → P one → Q one) → (listed : List Listed) → Each P listed → Each Q listed
each_map P Q next [] all = tt
each_map P Q next (one ∷ more) all = (next one all.0, each_map P Q next more all.1)

-- ---- where what is listed lies

abbrev pub Placed : PathValue → Listed → Type 0
Placed root one = (is_restored_at root (path_at one) ≡ true) × (0 < length (path_at one).parts)

listed_named : (parts : List (List ℕ)) → is_listed parts ≡ true → is_named parts ≡ true
listed_named [] e = absurd (true≢false (sym e))
listed_named (name ∷ []) e = e
listed_named (name ∷ next ∷ more) e = or_left (is_area name) _ e

pub all-placed : (root : PathValue) (listed : List Listed) → All (λ l. LiesBelow (length root.parts) root (path_at l)) listed → list_all (λ l. is_listed (parts_below root (path_at l))) listed ≡ true → Each (Placed root) listed
all-placed root [] placed areas = tt
all-placed root (one ∷ more) placed areas =
    let two = both (is_listed (parts_below root (path_at one))) _ areas in
    let here = All-head (λ l. LiesBelow (length root.parts) root (path_at l)) one more placed in (
      (ap₂ (λ a b. a && b) (holds-held root (path_at one) here.held) (listed_named (parts_below root (path_at one)) two.0), longer here.way.some),
      all-placed root more (All-tail (λ l. LiesBelow (length root.parts) root (path_at l)) one more placed) two.1,
    )
  where
    longer : 0 < length (drop (length root.parts) (path_at one).parts) → 0 < length (path_at one).parts
    longer h = omega (arith, h, length-drop (length root.parts) (path_at one).parts)

behind : (xs ys : List (List ℕ)) → drop (length xs) (xs ++ ys) ≡ ys
behind [] ys = refl
behind (x ∷ xs) ys = behind xs ys

and_off : (a b : Bool) → b ≡ false → (a && b) ≡ false
and_off true b h = h
and_off false b h = refl

-- no copy is brought back, nor the root
pub shadow-off : (root : PathValue) (k : ℕ) → is_restored_at root (shadow_at root k) ≡ false
shadow-off root k = and_off (is_held root (shadow_at root k)) _ (ap is_named (behind root.parts (codes "pg_walreplay.shadow" ∷ decimal k ∷ [])))

pub root_off : (root : PathValue) → is_restored_at root root ≡ false
root_off root = and_off (is_held root root) _ (ap is_named (drop_all (length root.parts) root.parts (omega arith)))

pub off-other : (root p q : PathValue) → is_restored_at root p ≡ false → is_restored_at root q ≡ true → p ≢ q
off-other root p q off on same = true≢false (sym on ∙ ap (is_restored_at root) (sym same) ∙ off)

-- each path is listed once
abbrev pub Distinct : List Listed → Type 0
Distinct [] = Unit {0}
Distinct (one ∷ more) = ((q : PathValue) → has_path more q ≡ true → q ≢ path_at one) × Distinct more

not_less : Equal ≡ Less → ⊥
not_less e = absurd cc

later_way : (root : PathValue) (way : List ℕ) (more : List Listed) (q : PathValue) → AllByRecursion (λ y. slice_cmp nat_cmp way y ≡ Less) (ways_to root more) → has_path more q ≡ true → way_of root q ≡ way → ⊥
later_way root way [] q above is same = true≢false (sym is)
later_way root way (one ∷ more) q above is same = or_is (path_eq q (path_at one)) (has_path more q) is
    (λ here. not_less (sym (tied_itself nat_list_cmp_total way) ∙ ap (slice_cmp nat_cmp way) (sym same ∙ ap (way_of root) (path_eq-same q (path_at one) here)) ∙ above.0))
    (λ there. later_way root way more q above.1 there same)

pub all-distinct : (root : PathValue) (listed : List Listed) → IsStrictlySortedBy (slice_cmp nat_cmp) (ways_to root listed) → Distinct listed
unfolding IsStrictlySortedBy
all-distinct root [] sorted = tt
all-distinct root (one ∷ more) sorted = (λ q is same. later_way root (way_of root (path_at one)) more q sorted.0 is (ap (way_of root) same), all-distinct root more sorted.1)

pub path-placed : (root : PathValue) (listed : List Listed) (q : PathValue) → Each (Placed root) listed → has_path listed q ≡ true → is_restored_at root q ≡ true
path-placed root [] q placed is = absurd (true≢false (sym is))
path-placed root (one ∷ more) q placed is = or_is (path_eq q (path_at one)) (has_path more q) is
    (λ here. ap (is_restored_at root) (path_eq-same q (path_at one) here) ∙ placed.0.0) (λ there. path-placed root more q placed.1 there)

-- ---- all can be brought back

abbrev pub FitsAt : Contents → Listed → Type 0
FitsAt c one = Fits one (entry_at c (path_at one))

fits_still : (c d : Contents) (p : PathValue) (more : List Listed) → ((q : PathValue) → has_path more q ≡ true → q ≢ p) → ((q : PathValue) → q ≢ p → entry_at d q ≡ entry_at c q) → Each (FitsAt c) more → Each (FitsAt d) more
fits_still c d p [] apart same fits = tt
fits_still c d p (one ∷ more) apart same fits = (
  subst (Fits one) (sym (same (path_at one) (apart (path_at one) (or_left (path_eq (path_at one) (path_at one)) (has_path more (path_at one)) (path_eq-own (path_at one)))))) fits.0,
  fits_still c d p more (λ q is. apart q (or_right (path_eq q (path_at one)) (has_path more q) is)) same fits.1,
)

lost_one : (root : PathValue) (c d : Contents) (files : ℕ) (one : Listed) → ((k : ℕ) → entry_at d (shadow_at root k) ≡ entry_at c (shadow_at root k)) → lost_of d root files one ≡ lost_of c root files one
lost_one root c d files (Folder path) same = refl
lost_one root c d files (Page path size) same = refl
lost_one root c d files (File path size) same = ap (λ o. if is_sized size o then None else Some (shadow_at root files)) (same files)

pub lost_still : (root : PathValue) (c d : Contents) (files : ℕ) (listed : List Listed) → ((k : ℕ) → entry_at d (shadow_at root k) ≡ entry_at c (shadow_at root k)) → first_lost d root files listed ≡ first_lost c root files listed
unfolding first_lost
lost_still root c d files [] same = refl
lost_still root c d files (one ∷ more) same = ap₂ or_later (lost_one root c d files one same) (lost_still root c d (files_behind files one) more same)

neither_lost : (a b : Option PathValue) → or_later a b ≡ None → (a ≡ None) × (b ≡ None)
neither_lost None b e = (refl, e)
neither_lost (Some p) b e = absurd cc

lost_two : (root : PathValue) (c : Contents) (files : ℕ) (one : Listed) (more : List Listed) → first_lost c root files (one ∷ more) ≡ None → (lost_of c root files one ≡ None) × (first_lost c root (files_behind files one) more ≡ None)
unfolding first_lost
lost_two root c files one more e = neither_lost _ _ e

has_copy : (root : PathValue) (c : Contents) (files : ℕ) (one : Listed) → is_restored_at root (path_at one) ≡ true → lost_of c root files one ≡ None → HasCopy c root files one
has_copy root c files (Folder path) on none = tt
has_copy root c files (Page path size) on none = tt
has_copy root c files (File path size) on none = (by_bool (is_sized size (entry_at c (shadow_at root files))) (λ is. is) (λ off. absurd (none_some (sym (ap (λ b. if b then None else Some (shadow_at root files)) off) ∙ none))), off-other root (shadow_at root files) path (shadow-off root files) on)
  where
    none_some : Some (shadow_at root files) ≡ None → ⊥
    none_some e = absurd cc

-- a folder that stands is still one
folder_still : (root : PathValue) (files : ℕ) (one : Listed) (c : Contents) (q : PathValue) → FitsAt c one → is_folder (entry_at c q) ≡ true → is_folder (entry_at (with_one root files one c) q) ≡ true
folder_still root files (Folder path) c q fits folder = same_or_other q path
    (λ same. ap (λ p. is_folder (entry_at (insert c path (FolderEntry false)) p)) same ∙ ap is_folder (entry-put c path (FolderEntry false)))
    (λ other. ap is_folder (entry-put_other c path q (FolderEntry false) other) ∙ folder)
folder_still root files (Page path size) c q fits folder = same_or_other q path
    (λ same. absurd (no_file (entry_at c path) fits (ap (λ p. is_folder (entry_at c p)) (sym same) ∙ folder)))
    (λ other. ap is_folder (entry-put_other c path q _ other) ∙ folder)
  where
    no_file : (o : Option Entry) → FitsFile o → is_folder o ≡ true → ⊥
    no_file None f e = true≢false (sym e)
    no_file (Some (FolderEntry bad)) f e = f
    no_file (Some (FileEntry bytes)) f e = true≢false (sym e)
    no_file (Some LinkEntry) f e = f
folder_still root files (File path size) c q fits folder = same_or_other q path
    (λ same. absurd (no_file (entry_at c path) fits (ap (λ p. is_folder (entry_at c p)) (sym same) ∙ folder)))
    (λ other. ap is_folder (entry-put_other c path q _ other) ∙ folder)
  where
    no_file : (o : Option Entry) → FitsFile o → is_folder o ≡ true → ⊥
    no_file None f e = true≢false (sym e)
    no_file (Some (FolderEntry bad)) f e = f
    no_file (Some (FileEntry bytes)) f e = true≢false (sym e)
    no_file (Some LinkEntry) f e = f

new_folder : (root : PathValue) (files : ℕ) (one : Listed) (c : Contents) (q : PathValue) → is_folder_at q one ≡ true → is_folder (entry_at (with_one root files one c) q) ≡ true
new_folder root files (Folder path) c q e = ap (λ p. is_folder (entry_at (insert c path (FolderEntry false)) p)) (path_eq-same q path e) ∙ ap is_folder (entry-put c path (FolderEntry false))
new_folder root files (Page path size) c q e = absurd (true≢false (sym e))
new_folder root files (File path size) c q e = absurd (true≢false (sym e))

one_elsewhere : (root : PathValue) (files : ℕ) (one : Listed) (c : Contents) (q : PathValue) → q ≢ path_at one → entry_at (with_one root files one c) q ≡ entry_at c q
one_elsewhere root files one c q other = entry-put_other c (path_at one) q (brought c root files one) other

pub can-all : (root : PathValue) (files : ℕ) (before rest : List Listed) (c : Contents) → is_closed root before rest ≡ true → ((q : PathValue) → has_folder before q ≡ true → is_folder (entry_at c q) ≡ true) → is_folder (entry_at c root) ≡ true
    → Each (Placed root) rest → Each (FitsAt c) rest → first_lost c root files rest ≡ None → Distinct rest → CanBringAll root files rest c
unfolding CanBringAll
can-all root files before [] c closed folders rooted placed fits copies distinct = tt
can-all root files before (one ∷ more) c closed folders rooted placed fits copies distinct =
    let two = both (is_under root before (path_at one)) (is_closed root (one ∷ before) more) closed in
    let lost = lost_two root c files one more copies in (
      record {
        some = placed.0.1;
        above = or_is (path_eq root (parent (path_at one))) (has_folder before (parent (path_at one))) two.0
            (λ at. ap (λ p. is_folder (entry_at c p)) (sym (path_eq-same root (parent (path_at one)) at)) ∙ rooted)
            (λ at. folders (parent (path_at one)) at);
        fits = fits.0;
        copy = has_copy root c files one placed.0.0 lost.0;
      },
      can-all root (files_behind files one) (one ∷ before) more (with_one root files one c) two.1
          (λ q is. or_is (is_folder_at q one) (has_folder before q) is (λ here. new_folder root files one c q here) (λ there. folder_still root files one c q fits.0 (folders q there)))
          (folder_still root files one c root fits.0 rooted)
          placed.1
          (fits_still c (with_one root files one c) (path_at one) more distinct.0 (λ q other. one_elsewhere root files one c q other) fits.1)
          (lost_still root c (with_one root files one c) (files_behind files one) more (λ k. one_elsewhere root files one c (shadow_at root k) (off-other root (shadow_at root k) (path_at one) (shadow-off root k) placed.0.0)) ∙ lost.1)
          distinct.1,
    )

-- ---- what then stands

-- the bytes that are kept are as they were
abbrev pub SameBytes : (c d : Contents) → Listed → Type 0
SameBytes c d (Folder path) = Unit {0}
SameBytes c d (Page path size) = bytes_at d path ≡ bytes_at c path
SameBytes c d (File path size) = Unit {0}

brought_one : (root : PathValue) (c d : Contents) (files : ℕ) (one : Listed) → ((k : ℕ) → entry_at d (shadow_at root k) ≡ entry_at c (shadow_at root k)) → SameBytes c d one → brought d root files one ≡ brought c root files one
brought_one root c d files (Folder path) same bytes = refl
brought_one root c d files (Page path size) same bytes = ap (λ b. FileEntry (resized size b)) bytes
brought_one root c d files (File path size) same bytes = ap (λ o. FileEntry (bytes_in o)) (same files)

pub brought-still : (root : PathValue) (c d : Contents) (files : ℕ) (listed : List Listed) (q : PathValue) → ((k : ℕ) → entry_at d (shadow_at root k) ≡ entry_at c (shadow_at root k)) → Each (SameBytes c d) listed → brought_at d root files listed q ≡ brought_at c root files listed q
brought-still root c d files [] q same bytes = refl
brought-still root c d files (one ∷ more) q same bytes =
    ap₂ (λ e o. if path_eq q (path_at one) then Some e else o) (brought_one root c d files one same bytes.0) (brought-still root c d (files_behind files one) more q same bytes.1)

pub brought_none : (root : PathValue) (c : Contents) (files : ℕ) (listed : List Listed) (q : PathValue) → has_path listed q ≡ false → brought_at c root files listed q ≡ None
brought_none root c files [] q off = refl
brought_none root c files (one ∷ more) q off =
    let two = or_not (path_eq q (path_at one)) (has_path more q) off in
    ap (λ b. if b then Some (brought c root files one) else brought_at c root (files_behind files one) more q) two.0 ∙ brought_none root c (files_behind files one) more q two.1

abbrev pub or_else : Option Entry → Option Entry → Option Entry
or_else None o = o
or_else (Some e) o = Some e

bytes_still : (c d : Contents) (p : PathValue) (more : List Listed) → ((q : PathValue) → has_path more q ≡ true → q ≢ p) → ((q : PathValue) → q ≢ p → entry_at d q ≡ entry_at c q) → Each (SameBytes c d) more
bytes_still c d p [] apart same = tt
bytes_still c d p (Folder path ∷ more) apart same = (tt, bytes_still c d p more (λ q is. apart q (or_right (path_eq q path) (has_path more q) is)) same)
bytes_still c d p (Page path size ∷ more) apart same = (ap bytes_in (same path (apart path (or_left (path_eq path path) (has_path more path) (path_eq-own path)))), bytes_still c d p more (λ q is. apart q (or_right (path_eq q path) (has_path more q) is)) same)
bytes_still c d p (File path size ∷ more) apart same = (tt, bytes_still c d p more (λ q is. apart q (or_right (path_eq q path) (has_path more q) is)) same)

pub filled-entry : (root : PathValue) (files : ℕ) (rest : List Listed) (c : Contents) (q : PathValue) → Each (Placed root) rest → Distinct rest → entry_at (with_all root files rest c) q ≡ or_else (brought_at c root files rest q) (entry_at c q)
unfolding with_all
filled-entry root files [] c q placed distinct = refl
filled-entry root files (one ∷ more) c q placed distinct =
    let d = with_one root files one c in
    let n = files_behind files one in
    filled-entry root n more d q placed.1 distinct.1
    ∙ by_bool (path_eq q (path_at one))
    (λ here.
    let same = path_eq-same q (path_at one) here in
    ap₂ or_else (brought_none root d n more q (by_bool (has_path more q) (λ is. absurd (distinct.0 q is same)) (λ off. off))) (ap (entry_at d) same ∙ entry-put c (path_at one) (brought c root files one))
    ∙ ap (λ b. or_else (if b then Some (brought c root files one) else brought_at c root n more q) (entry_at c q)) (sym here))
    (λ away.
    let other : q ≢ path_at one = λ same. true≢false (sym (ap (path_eq q) (sym same) ∙ path_eq-own q) ∙ away) in
    ap₂ or_else (brought-still root c d n more q (λ k. one_elsewhere root files one c (shadow_at root k) (off-other root (shadow_at root k) (path_at one) (shadow-off root k) placed.0.0)) (bytes_still c d (path_at one) more distinct.0 (λ p far. one_elsewhere root files one c p far))) (one_elsewhere root files one c q other)
    ∙ ap (λ b. or_else (if b then Some (brought c root files one) else brought_at c root n more q) (entry_at c q)) (sym away))

pub else-some : (root : PathValue) (c : Contents) (files : ℕ) (listed : List Listed) (q : PathValue) (o : Option Entry) → has_path listed q ≡ true → or_else (brought_at c root files listed q) o ≡ brought_at c root files listed q
else-some root c files [] q o is = absurd (true≢false (sym is))
else-some root c files (one ∷ more) q o is = by_bool (path_eq q (path_at one))
    (λ here. ap (λ b. or_else (if b then Some (brought c root files one) else brought_at c root (files_behind files one) more q) o) here ∙ ap (λ b. if b then Some (brought c root files one) else brought_at c root (files_behind files one) more q) (sym here))
    (λ away. ap (λ b. or_else (if b then Some (brought c root files one) else brought_at c root (files_behind files one) more q) o) away
    ∙ else-some root c (files_behind files one) more q o (ap (λ b. b || has_path more q) (sym away) ∙ is)
    ∙ ap (λ b. if b then Some (brought c root files one) else brought_at c root (files_behind files one) more q) (sym away))

-- Of two clusters whose entries are of the same kinds at the same paths, no rewind is refused for kinds that differ.
use Rattle.std.proofs.Common.{◌≡◌, Bool, true, false, cond, ◌&&◌, ◌||◌, nat_lt, List, [], ◌∷◌, map, Option, None, Some, is_some, refl, sym, ap, ◌∙◌, true≢false, if◌then◌else◌}
use Rattle.std.specs.List.{list_any}
use Rattle.cluster_tree.specs.Contents.{Entry, FileEntry, FolderEntry, LinkEntry}
use Rattle.cluster_tree.specs.PathOrder.{path_eq}
use Rattle.cluster_tree.specs.PathValue.{PathValue}
use Rattle.cluster_tree.proofs.OrderLemmas.{path_eq-own}
use Rattle.file_walk.specs.Actions.{action_at, by_kinds, cleared, is_kept, is_version}
use Rattle.file_walk.specs.Excluded.{is_excluded}
use Rattle.file_walk.specs.Pairs.{pair_at}
use Rattle.file_walk.specs.Relations.{relation_of}
use Rattle.file_walk.specs.Walk.{kind_there}
use Rattle.file_walk.specs.declared.action.Action.TheVariants as action
use Rattle.file_walk.specs.declared.entry.Entry.{Entry as Walked}
use Rattle.file_walk.specs.declared.entry.EntryKind.{EntryKind}
use Rattle.file_walk.specs.declared.entry.EntryKind.TheVariants.{File, Folder}
use Rattle.file_walk.specs.declared.pair.Pair.{Pair}
use Rattle.rewind_plan.specs.Checks.{first_path, is_difference}
use Rattle.pair_laws.proofs.ThereLemmas.{IsOfKind}

-- ---- kinds

-- a folder where there is to be one, or a file; or nothing
abbrev pub IsSort : (is_folder : Bool) → Option EntryKind → Type 0
IsSort b None = Unit {0}
IsSort b (Some (File size)) = b ≡ false
IsSort b (Some Folder) = b ≡ true

pub sort-there : (b : Bool) (o : Option Entry) → ((e : Entry) → o ≡ Some e → IsOfKind b e) → IsSort b (kind_there o)
sort-there b None all = tt
sort-there b (Some (FolderEntry bad)) all = (all (FolderEntry bad) refl).0
sort-there b (Some (FileEntry bytes)) all = all (FileEntry bytes) refl
sort-there b (Some LinkEntry) all = tt

blocks_agree : (less more : Bool) → is_difference (if less then action.Tail else if more then action.Cut else action.Nothing) ≡ false
blocks_agree true more = refl
blocks_agree false true = refl
blocks_agree false false = refl

files_agree : (version relation less more : Bool) → is_difference (if version then action.Nothing else if relation then (if less then action.Tail else if more then action.Cut else action.Nothing) else action.Copy) ≡ false
files_agree true relation less more = refl
files_agree false true less more = blocks_agree less more
files_agree false false less more = refl

kinds_agree : (path : PathValue) (b : Bool) (target source : Option EntryKind) → IsSort b target → IsSort b source → is_difference (by_kinds path target source) ≡ false
kinds_agree path b None None t s = refl
kinds_agree path b None (Some (File size)) t s = refl
kinds_agree path b None (Some Folder) t s = refl
kinds_agree path b (Some kind) None t s = refl
kinds_agree path b (Some (File old)) (Some (File new)) t s = files_agree (is_version path) (is_some (relation_of path)) (nat_lt old new) (nat_lt new old)
kinds_agree path b (Some (File old)) (Some Folder) t s = absurd (true≢false (sym s ∙ t))
kinds_agree path b (Some Folder) (Some (File new)) t s = absurd (true≢false (sym t ∙ s))
kinds_agree path b (Some Folder) (Some Folder) t s = refl

cleared_agree : (target : Option EntryKind) → is_difference (cleared target) ≡ false
cleared_agree None = refl
cleared_agree (Some kind) = refl

tests_agree : (kept excluded : Bool) (path : PathValue) (b : Bool) (target source : Option EntryKind) → IsSort b target → IsSort b source
    → is_difference (if kept then action.Nothing else if excluded then cleared target else by_kinds path target source) ≡ false
tests_agree true excluded path b target source t s = refl
tests_agree false true path b target source t s = cleared_agree target
tests_agree false false path b target source t s = kinds_agree path b target source t s

pub same-sorts : (path : PathValue) (b : Bool) (target source : Option EntryKind) → IsSort b target → IsSort b source → is_difference (action_at path target source) ≡ false
unfolding action_at
same-sorts path b target source t s = tests_agree (is_kept path) (is_excluded path) path b target source t s

-- ---- no pair is so

or_one : (a b : Bool) → a ≡ true → (a || b) ≡ true
or_one true b h = refl
or_one false b h = absurd (true≢false (sym h))

or_more : (a b : Bool) → b ≡ true → (a || b) ≡ true
or_more true b h = refl
or_more false b h = h

pub no-path : (is_so : Pair → Bool) (ts ss : List Walked) (ks : List PathValue) → ((k : PathValue) → list_any (path_eq k) ks ≡ true → is_so (pair_at ts ss k) ≡ false) → first_path is_so (map (pair_at ts ss) ks) ≡ None
no-path is_so ts ss [] all = refl
no-path is_so ts ss (k ∷ ks) all =
    ap (λ b. cond b (Some k) (first_path is_so (map (pair_at ts ss) ks))) (all k (or_one (path_eq k k) (list_any (path_eq k) ks) (path_eq-own k)))
    ∙ no-path is_so ts ss ks (λ x later. all x (or_more (path_eq x k) (list_any (path_eq x) ks) later))

both_false : (x y : Bool) → (x && false) || (y && false) ≡ false
both_false true true = refl
both_false true false = refl
both_false false true = refl
both_false false false = refl

-- what isn't past either root lacks no room
pub not-past : (x y one other : Bool) → one ≡ false → other ≡ false → (x && one) || (y && other) ≡ false
not-past x y one other a b = rw (a, b) (both_false x y)

-- All that lies below a root, as the list that a walk goes through.
use Rattle.std.proofs.Common.{◌≡◌, ℕ, ◌-◌, ◌<◌, Bool, true, false, ◌&&◌, ◌||◌, nat_lt, List, [], ◌∷◌, ◌++◌, length, drop, Some, refl, ap, sym, subst, ◌∙◌, arith}
use Rattle.std.proofs.lemmas.Bool.Decides.{nat_tests}
use Rattle.std.proofs.lemmas.List.{length-drop}
use Rattle.std.specs.declared.cmp.Ordering.TheVariants.{Less}
use Rattle.std.specs.FinMap.{entries, entries_sorted}
use Rattle.std.specs.List.{list_any}
use Rattle.cluster_tree.specs.Contents.{Contents, Entry, FolderEntry, IsTree, is_folder, parent}
use Rattle.cluster_tree.specs.Folders.{last_part, lies_in}
use Rattle.cluster_tree.specs.PathOrder.{path_eq}
use Rattle.cluster_tree.specs.PathValue.{PathValue, below, path_text}
use Rattle.cluster_tree.proofs.OrderLemmas.{path_eq-own, same_path}
use Rattle.file_walk.specs.Actions.{here}
use Rattle.file_walk.specs.Walk.{found_below}
use Rattle.file_walk.proofs.AscendLemmas.{deeper, found_ascends, itself, key, value}
use Rattle.file_walk.proofs.ClosedLemmas.{In, any_in, found_stands, front_less, in_middle, parent_found, stands_before, Stands}
use Rattle.file_walk.proofs.FoundLemmas.{name_in}
use Rattle.file_walk.proofs.LoopLemmas.{closed_from}
use Rattle.file_walk.proofs.PlaceLemmas.{text_below}
use Rattle.file_walk.proofs.QueueLemmas.{text_cmp, Ascends, IsClosed}

-- what lies right in the root, and what lies right in a folder
abbrev pub top : PathValue × Entry → Bool
top x = lies_in here x.0

abbrev pub holds : PathValue × Entry → PathValue × Entry → Bool
holds x y = is_folder (Some x.1) && lies_in x.0 y.0

some_parts : (n : ℕ) → 0 < n → nat_lt 0 n ≡ true
some_parts n h = grind (arith, nat_tests)

or_left : (a b : Bool) → a ≡ true → (a || b) ≡ true
or_left true b h = refl
or_left false b h = absurd (let wrong : true ≡ false = sym h in cc)

or_right : (a b : Bool) → b ≡ true → (a || b) ≡ true
or_right true b h = refl
or_right false b h = h

-- a path from a root on that has a part lies in its parent
pub in_parent : (own : PathValue) → 0 < length own.parts → lies_in (parent own) own ≡ true
in_parent own h = ap (λ b. b && path_eq (parent own) (parent own)) (some_parts (length own.parts) h) ∙ path_eq-own (parent own)

at_top : (own : PathValue) → own.absolute ≡ false → 0 < length own.parts → (parent own).parts ≡ [] → lies_in here own ≡ true
at_top own relative some none =
    let same : parent own ≡ here = same_path (parent own) here relative none in
    ap (λ (p : PathValue). lies_in p own) (sym same) ∙ in_parent own some

pub found_in_order : (c : Contents) (root : PathValue) → Ascends (key root) (value root) (found_below c root)
unfolding found_below
found_in_order c root = found_ascends root (entries c) (entries_sorted c)

-- each lies right in the root, or in one that stands before it
pub found_closed : (c : Contents) → IsTree c → (root : PathValue) (x : PathValue × Entry) (before after : List (PathValue × Entry)) → found_below c root ≡ before ++ x ∷ after → (top x || list_any (λ p. holds p x) before) ≡ true
unfolding found_below
found_closed c tree root x before after split = by (parent x.0).parts refl
  where
    stands : Stands root (entries c) x
    stands = found_stands root (entries c) x (subst (In x) (sym split) (in_middle x before after))

    relative : x.0.absolute ≡ false
    relative = ap (λ (p : PathValue). p.absolute) stands.own

    some : 0 < length x.0.parts
    some =
        let low : length root.parts < length stands.path.parts = deeper root stands.path stands.low in
        let size : length (drop (length root.parts) stands.path.parts) ≡ length stands.path.parts - length root.parts = length-drop (length root.parts) stands.path.parts in
        let same : length x.0.parts ≡ length (drop (length root.parts) stands.path.parts) = ap (λ (p : PathValue). length p.parts) stands.own in
        omega (arith, low, size, same)

    named : x.0 ≡ below (parent x.0) (last_part x.0 ∷ [])
    named = name_in (parent x.0) x.0 (in_parent x.0 some)

    by : (parts : List (List ℕ)) → (parent x.0).parts ≡ parts → (top x || list_any (λ p. holds p x) before) ≡ true
    by [] none = or_left (top x) (list_any (λ p. holds p x) before) (at_top x.0 relative some none)
    by (part ∷ parts) is =
        let more : 0 < length (parent x.0).parts = let size = ap length is in omega (arith, size) in
        let up = parent_found c tree root stands.path x.1 stands.there stands.low (parent x.0) (last_part x.0) (sym stands.own ∙ named) relative more in
        let lesser : text_cmp (path_text (parent x.0)) (path_text x.0) ≡ Less =
        ap (text_cmp (path_text (parent x.0))) (ap path_text named ∙ sym (text_below (parent x.0) (last_part x.0) relative more)) ∙ front_less (path_text (parent x.0)) 47 (last_part x.0) in
        let ordered : Ascends (key root) (value root) (before ++ x ∷ after) = subst (Ascends (key root) (value root)) split (found_ascends root (entries c) (entries_sorted c)) in
        let stood = stands_before (key root) (value root) (parent x.0, FolderEntry up.0) x before after (λ z. itself (path_text z.0)) ordered (subst (In (parent x.0, FolderEntry up.0)) split up.1) lesser in
        or_right (top x) (list_any (λ p. holds p x) before) (any_in (λ p. holds p x) (parent x.0, FolderEntry up.0) before stood (in_parent x.0 some))

pub all_closed : (c : Contents) → IsTree c → (root : PathValue) → IsClosed top holds [] (found_below c root)
all_closed c tree root = closed_from top holds [] (found_below c root) (λ x before after is. found_closed c tree root x before after is)

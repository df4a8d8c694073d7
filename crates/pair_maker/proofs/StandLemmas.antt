-- What stands below a root once the entries of a pair were made, and that none of them is refused.
use Rattle.std.proofs.Common.{◌≡◌, ◌≢◌, ◌⊎◌, inl, inr, ℕ, ◌+◌, ◌-◌, ◌<◌, Bool, true, false, not, ◌&&◌, ◌||◌, cond, List, [], ◌∷◌, ◌++◌, length, map, take, Option, None, Some, is_some, refl, ap, sym, ◌∙◌, subst, arith, true≢false, append_assoc, codes, bytes_eq}
use Rattle.std.proofs.lemmas.Bool.{and_parts}
use Rattle.std.proofs.lemmas.List.{append-nil, append_cancel_left, length-append}
use Rattle.std.proofs.Math.Seq.{take-append-add}
use Rattle.std.proofs.lemmas.Slice.Eq.{bytes_eq-Decides, slice_eq-Decides}
use Rattle.std.specs.Bool.{Decides}
use Rattle.std.specs.Cmp.Lexicographic.{pointwise}
use Rattle.std.specs.FinMap.{get, insert}
use Rattle.std.specs.List.{list_all, list_any}
use Rattle.cluster_tree.specs.PathValue.{PathValue, below, path_of}
use Rattle.cluster_tree.specs.PathOrder.{path_eq}
use Rattle.cluster_tree.specs.Contents.{Contents, Entry, FolderEntry, FileEntry, LinkEntry, IsTree, entry_at, is_folder, or_root, parent}
use Rattle.cluster_tree.specs.Change.{Change, all_changed, first_refusal, is_on, or_next}
use Rattle.cluster_tree.specs.Tree.{make_refusal, refusal_in, write_refusal}
use Rattle.cluster_tree.specs.declared.tree.TreeFault.TheVariants as fault
use Rattle.cluster_tree.proofs.ChangeLemmas.{changed-in_turn}
use Rattle.cluster_tree.proofs.ContentsLemmas.{entry-put, entry-put_other, write_refusal-new, written-new}
use Rattle.cluster_tree.proofs.OrderLemmas.{path_eq-other}
use Rattle.marked_runs.proofs.CarriedLemmas.{unrefused-both}
use Rattle.pair_maker.specs.Clusters.{Named, pair_entries}
use Rattle.pair_maker.specs.Entries.{changes_at, changes_of, standing_at}
use Rattle.pair_maker.specs.Pair.{HasRoom, PairStands, is_in_pair, last_named, pair_changes}

-- ---- parts, and paths below a root

same_parts : (a b : List (List ℕ)) → Decides (pointwise bytes_eq a b) (a ≡ b)
same_parts a b = slice_eq-Decides bytes_eq-Decides a b (pointwise bytes_eq a b) refl

below-same : (root : PathValue) (a b : List (List ℕ)) → below root a ≡ below root b → a ≡ b
below-same root a b e = append_cancel_left root.parts a b (ap (λ (p : PathValue). p.parts) e)

front_parts : List (List ℕ) → List (List ℕ)
front_parts parts = take (length parts - 1) parts

parent-in : (root : PathValue) (parts : List (List ℕ)) → 0 < length parts → parent (below root parts) ≡ below root (front_parts parts)
unfolding front_parts
parent-in root parts some =
    let e : length (root.parts ++ parts) - 1 ≡ length root.parts + (length parts - 1) = omega (arith, some, length-append root.parts parts) in
    ap (λ l. path_of root.absolute l) (ap (λ n. take n (root.parts ++ parts)) e ∙ take-append-add root.parts parts (length parts - 1))

in_pair-some : (parts : List (List ℕ)) → is_in_pair parts ≡ true → 0 < length parts
in_pair-some [] h = absurd (true≢false (sym h))
in_pair-some (x ∷ parts) h = omega arith

below-root : (root : PathValue) (parts : List (List ℕ)) → 0 < length parts → root ≢ below root parts
below-root root parts some e =
    let long : length root.parts ≡ length (root.parts ++ parts) = ap (λ (p : PathValue). length p.parts) e in
    absurd (omega (arith, some, long, length-append root.parts parts))

-- ---- one entry

-- an entry that can be made
abbrev is_made : Entry → Bool
is_made (FolderEntry bad) = not bad
is_made (FileEntry bytes) = true
is_made LinkEntry = false

made-is : (c : Contents) (p : PathValue) (e : Entry) → is_made e ≡ true → all_changed c (changes_at p e) ≡ insert c p e
made-is c p (FolderEntry true) h = absurd (true≢false (sym h))
made-is c p (FolderEntry false) h = refl
made-is c p (FileEntry bytes) h = written-new c p bytes
made-is c p LinkEntry h = absurd (true≢false (sym h))

folder_in : (o : Option Entry) → is_folder o ≡ true → refusal_in o ≡ None
folder_in None e = absurd (true≢false (sym e))
folder_in (Some (FolderEntry bad)) e = refl
folder_in (Some (FileEntry bytes)) e = absurd (true≢false (sym e))
folder_in (Some LinkEntry) e = absurd (true≢false (sym e))

make-free : (c : Contents) (p : PathValue) → entry_at c p ≡ None → is_folder (entry_at c (parent p)) ≡ true → make_refusal c p ≡ None
make-free c p none up =
    ap (λ o. cond (is_some o) (Some fault.Exists) (refusal_in (entry_at c (parent p)))) none ∙ folder_in (entry_at c (parent p)) up

unrefused-one : (c : Contents) (p : PathValue) (e : Entry) → make_refusal c p ≡ None → first_refusal c (changes_at p e) ≡ None
unrefused-one c p (FolderEntry bad) none = ap (λ o. or_next o None) none
unrefused-one c p (FileEntry bytes) none =
    ap (λ o. or_next o (or_next (write_refusal (insert c p (FileEntry [])) p 0) None)) none ∙ ap (λ o. or_next o None) (write_refusal-new c p)
unrefused-one c p LinkEntry none = refl

-- ---- all entries, one after another

-- these were made below a root that is a folder, and nothing else stands there where a pair does
record StandsBy (c : Contents) (root : PathValue) (made : List Named) : Type 0 where
  top : is_folder (entry_at c root) ≡ true
  each : (parts : List (List ℕ)) → is_in_pair parts ≡ true → entry_at c (below root parts) ≡ last_named None made parts

-- a folder that was made, or the root
abbrev has_folder : List Named → List (List ℕ) → Bool
has_folder made [] = true
has_folder made (x ∷ parts) = is_in_pair (x ∷ parts) && is_folder (last_named None made (x ∷ parts))

abbrev is_absent : Option Entry → Bool
is_absent None = true
is_absent (Some e) = false

-- an entry of a pair that can be made behind these
abbrev fits : List Named → Named → Bool
fits made n = is_in_pair n.parts && (is_made n.entry && (is_absent (last_named None made n.parts) && has_folder made (take (length n.parts - 1) n.parts)))

abbrev all_fit : List Named → List Named → Bool
all_fit made [] = true
all_fit made (n ∷ rest) = fits made n && all_fit (made ++ n ∷ []) rest

absent-is : (o : Option Entry) → is_absent o ≡ true → o ≡ None
absent-is None e = refl
absent-is (Some v) e = absurd (true≢false (sym e))

folder-above : (c : Contents) (root : PathValue) (made : List Named) (parts : List (List ℕ)) → StandsBy c root made → has_folder made parts ≡ true → is_folder (entry_at c (below root parts)) ≡ true
folder-above c root made [] s h = ap (λ l. is_folder (entry_at c (path_of root.absolute l))) (append-nil root.parts) ∙ s.top
folder-above c root made (x ∷ parts) s h =
    let two = and_parts (is_in_pair (x ∷ parts)) (is_folder (last_named None made (x ∷ parts))) h in
    ap is_folder (s.each (x ∷ parts) two.0) ∙ two.1

named-more : (o : Option Entry) (made : List Named) (n : Named) (parts : List (List ℕ)) → last_named o (made ++ n ∷ []) parts ≡ cond (pointwise bytes_eq n.parts parts) (Some n.entry) (last_named o made parts)
named-more o [] n parts = refl
named-more o (m ∷ made) n parts = named-more (cond (pointwise bytes_eq m.parts parts) (Some m.entry) o) made n parts

record Fits (made : List Named) (n : Named) : Type 0 where
  within : is_in_pair n.parts ≡ true
  can : is_made n.entry ≡ true
  absent : last_named None made n.parts ≡ None
  above : has_folder made (take (length n.parts - 1) n.parts) ≡ true

fits-are : (made : List Named) (n : Named) → fits made n ≡ true → Fits made n
fits-are made n h =
    let one = and_parts (is_in_pair n.parts) (is_made n.entry && (is_absent (last_named None made n.parts) && has_folder made (take (length n.parts - 1) n.parts))) h in
    let two = and_parts (is_made n.entry) (is_absent (last_named None made n.parts) && has_folder made (take (length n.parts - 1) n.parts)) one.1 in
    let three = and_parts (is_absent (last_named None made n.parts)) (has_folder made (take (length n.parts - 1) n.parts)) two.1 in
    record { within = one.0; can = two.0; absent = absent-is (last_named None made n.parts) three.0; above = three.1 }

free-one : (c : Contents) (root : PathValue) (made : List Named) (n : Named) → StandsBy c root made → Fits made n → make_refusal c (below root n.parts) ≡ None
unfolding front_parts
free-one c root made n s f =
    make-free c (below root n.parts) (s.each n.parts f.within ∙ f.absent)
    (ap (λ p. is_folder (entry_at c p)) (parent-in root n.parts (in_pair-some n.parts f.within)) ∙ folder-above c root made (take (length n.parts - 1) n.parts) s f.above)

stands-more : (c : Contents) (root : PathValue) (made : List Named) (n : Named) → StandsBy c root made → Fits made n → StandsBy (insert c (below root n.parts) n.entry) root (made ++ n ∷ [])
stands-more c root made n s f = record {
  top = ap is_folder (entry-put_other c (below root n.parts) root n.entry (below-root root n.parts (in_pair-some n.parts f.within))) ∙ s.top;
  each = λ parts within.
      (elim (pointwise bytes_eq n.parts parts) as (λ b. pointwise bytes_eq n.parts parts ≡ b → entry_at (insert c (below root n.parts) n.entry) (below root parts) ≡ cond b (Some n.entry) (last_named None made parts)) [
        | true ↦ λ same.
            ap (λ l. entry_at (insert c (below root n.parts) n.entry) (below root l)) (sym ((same_parts n.parts parts).0 same))
            ∙ entry-put c (below root n.parts) n.entry
        | false ↦ λ other.
            entry-put_other c (below root n.parts) (below root parts) n.entry (λ e. true≢false (sym ((same_parts n.parts parts).1 (sym (below-same root parts n.parts e))) ∙ other))
            ∙ s.each parts within
      ] refl)
      ∙ sym (named-more None made n parts);
}

all-stand : (root : PathValue) (rest made : List Named) (c : Contents) → StandsBy c root made → all_fit made rest ≡ true
    → (first_refusal c (changes_of (map (standing_at root) rest)) ≡ None) × StandsBy (all_changed c (changes_of (map (standing_at root) rest))) root (made ++ rest)
all-stand root [] made c s h = (refl, subst (λ m. StandsBy c root m) (sym (append-nil made)) s)
all-stand root (n ∷ rest) made c s h =
    let two = and_parts (fits made n) (all_fit (made ++ n ∷ []) rest) h in
    let f = fits-are made n two.0 in
    let p = below root n.parts in
    let one = changes_at p n.entry in
    let more = changes_of (map (standing_at root) rest) in
    let made_one : all_changed c one ≡ insert c p n.entry = made-is c p n.entry f.can in
    let stands : StandsBy (all_changed c one) root (made ++ n ∷ []) = subst (λ d. StandsBy d root (made ++ n ∷ [])) (sym made_one) (stands-more c root made n s f) in
    let both = all-stand root rest (made ++ n ∷ []) (all_changed c one) stands two.1 in (
      unrefused-both c one more (unrefused-one c p n.entry (free-one c root made n s f)) both.0,
      subst (λ d. StandsBy d root (made ++ n ∷ rest)) (sym (changed-in_turn c one more))
          (subst (λ m. StandsBy (all_changed (all_changed c one) more) root m) (append_assoc made (n ∷ []) rest) both.1),
    )

-- ---- where a pair is to stand, nothing does yet

or_root-more : (xs : List (List ℕ)) (y : List ℕ) (ys : List (List ℕ)) (o : Option Entry) → or_root (xs ++ y ∷ ys) o ≡ o
or_root-more [] y ys None = refl
or_root-more [] y ys (Some e) = refl
or_root-more (x ∷ xs) y ys None = refl
or_root-more (x ∷ xs) y ys (Some e) = refl

child_absent : (c : Contents) (folder : PathValue) (name : List ℕ) → IsTree c → entry_at c folder ≡ None → entry_at c (below folder (name ∷ [])) ≡ None
unfolding front_parts
child_absent c folder name tree none =
    let path = below folder (name ∷ []) in
    let up : parent path ≡ folder = parent-in folder (name ∷ []) (omega arith) ∙ ap (λ l. path_of folder.absolute l) (append-nil folder.parts) in
    or_root-more folder.parts name [] (get c path)
    ∙ (elim (get c path) as (λ o. get c path ≡ o → o ≡ None) [
      | None ↦ λ e. refl
      | Some v ↦ λ e. absurd (true≢false (sym (tree path (ap is_some e)) ∙ ap (λ p. is_folder (entry_at c p)) up ∙ ap is_folder none))
    ] refl)

all_absent : (c : Contents) (rest : List (List ℕ)) (folder : PathValue) → IsTree c → entry_at c folder ≡ None → entry_at c (below folder rest) ≡ None
all_absent c [] folder tree none = ap (λ l. entry_at c (path_of folder.absolute l)) (append-nil folder.parts) ∙ none
all_absent c (name ∷ rest) folder tree none =
    ap (λ l. entry_at c (path_of folder.absolute l)) (sym (append_assoc folder.parts (name ∷ []) rest))
    ∙ all_absent c rest (below folder (name ∷ [])) tree (child_absent c folder name tree none)

either : (a b : Bool) → (a || b) ≡ true → (a ≡ true) ⊎ (b ≡ true)
either true b h = inl refl
either false b h = inr h

root_absent : (c : Contents) (root : PathValue) (name first : List ℕ) (rest : List (List ℕ)) → IsTree c → entry_at c (below root (name ∷ [])) ≡ None → bytes_eq first name ≡ true → entry_at c (below root (first ∷ rest)) ≡ None
root_absent c root name first rest tree none same =
    ap (λ l. entry_at c (path_of root.absolute (root.parts ++ l ∷ rest))) ((bytes_eq-Decides first name).0 same)
    ∙ ap (λ l. entry_at c (path_of root.absolute l)) (sym (append_assoc root.parts (name ∷ []) rest))
    ∙ all_absent c rest (below root (name ∷ [])) tree none

none_yet : (c : Contents) (root : PathValue) (parts : List (List ℕ)) → IsTree c → HasRoom c root → is_in_pair parts ≡ true → entry_at c (below root parts) ≡ None
none_yet c root [] tree room h = absurd (true≢false (sym h))
none_yet c root (first ∷ rest) tree room h =
    elim (either (bytes_eq first (codes "t")) (bytes_eq first (codes "s") || bytes_eq first (codes "c")) h) [
      | inl t ↦ root_absent c root (codes "t") first rest tree room.target t
      | inr more ↦ elim (either (bytes_eq first (codes "s")) (bytes_eq first (codes "c")) more) [
        | inl s ↦ root_absent c root (codes "s") first rest tree room.source s
        | inr t ↦ root_absent c root (codes "c") first rest tree room.copy t
      ]
    ]

-- ---- a pair

pair_fits : (seed blocks : ℕ) → all_fit [] (pair_entries seed blocks) ≡ true
unfolding pair_entries
pair_fits seed blocks = refl

both_of : (c : Contents) (root : PathValue) (seed blocks : ℕ) → IsTree c → HasRoom c root
    → (first_refusal c (pair_changes root seed blocks) ≡ None) × StandsBy (all_changed c (pair_changes root seed blocks)) root (pair_entries seed blocks)
both_of c root seed blocks tree room =
    all-stand root (pair_entries seed blocks) [] c (record { top = room.folder; each = λ parts within. none_yet c root parts tree room within }) (pair_fits seed blocks)

pub pair-unrefused : (c : Contents) (root : PathValue) (seed blocks : ℕ) → IsTree c → HasRoom c root → first_refusal c (pair_changes root seed blocks) ≡ None
pair-unrefused c root seed blocks tree room = (both_of c root seed blocks tree room).0

pub pair-stands : (c : Contents) (root : PathValue) (seed blocks : ℕ) → IsTree c → HasRoom c root → PairStands root seed blocks (all_changed c (pair_changes root seed blocks))
pair-stands c root seed blocks tree room parts within = (both_of c root seed blocks tree room).1.each parts within

-- ---- all else stays

off_one : (p q : PathValue) (e : Entry) (more : List Change) → path_eq p q ≡ false → list_any (is_on p) more ≡ false → list_any (is_on p) (changes_at q e ++ more) ≡ false
off_one p q (FolderEntry bad) more off rest = ap (λ b. b || list_any (is_on p) more) off ∙ rest
off_one p q (FileEntry bytes) more off rest = ap (λ b. b || (b || list_any (is_on p) more)) off ∙ rest
off_one p q LinkEntry more off rest = rest

-- a path that isn't in the pair
abbrev pub IsBeside : PathValue → PathValue → Type 0
IsBeside root path = (parts : List (List ℕ)) → is_in_pair parts ≡ true → path ≡ below root parts → ⊥

off_all : (root path : PathValue) (rest : List Named) → IsBeside root path → list_all (λ n. is_in_pair n.parts) rest ≡ true → list_any (is_on path) (changes_of (map (standing_at root) rest)) ≡ false
off_all root path [] beside within = refl
off_all root path (n ∷ rest) beside within =
    let two = and_parts (is_in_pair n.parts) (list_all (λ n. is_in_pair n.parts) rest) within in
    off_one path (below root n.parts) n.entry (changes_of (map (standing_at root) rest)) (path_eq-other path (below root n.parts) (beside n.parts two.0)) (off_all root path rest beside two.1)

all_within : (seed blocks : ℕ) → list_all (λ n. is_in_pair n.parts) (pair_entries seed blocks) ≡ true
unfolding pair_entries
all_within seed blocks = refl

pub pair-off : (root path : PathValue) (seed blocks : ℕ) → IsBeside root path → list_any (is_on path) (pair_changes root seed blocks) ≡ false
pair-off root path seed blocks beside = off_all root path (pair_entries seed blocks) beside (all_within seed blocks)

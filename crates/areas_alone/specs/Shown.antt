-- What stands where only some of what lies below a root is seen.
use Rattle.std.proofs.Common.{◌≡◌, ◌≢◌, ℕ, ◌<◌, Bool, true, false, not, ◌&&◌, cond, List, [], ◌∷◌, ◌++◌, length, Option, Some, None, refl, ap, sym, ◌∙◌, subst, true≢false, arith}
use Rattle.std.proofs.Math.Seq.{drop-append_seam}
use Rattle.std.specs.FinMap.{get, insert, retain_keys, get-retain_keys}
use Rattle.cluster_tree.specs.Apart.{is_held}
use Rattle.cluster_tree.specs.Contents.{Contents, Entry, FileEntry, FolderEntry, LinkEntry, entry_at, is_folder, or_root}
use Rattle.cluster_tree.specs.PathValue.{PathValue, below, path_of}
use Rattle.cluster_tree.proofs.ContentsLemmas.{entry-put, get-put_other}
use Rattle.cluster_tree.proofs.HoldLemmas.{held-holds, holds-held}
use Rattle.cluster_tree.proofs.OrderLemmas.{path_cmp-IsAntisymmetric}
use Rattle.cluster_tree.proofs.RootLemmas.{held-below, holds-below}
use Rattle.cluster_tree.proofs.TreeLemmas.{same_or_other}
use Rattle.mark_lines.specs.Paths.{parts_below}
use Rattle.replay_list.specs.Areas.{is_area}
use Rattle.areas_alone.specs.Alone.{areas_of, is_elsewhere, lies_elsewhere}

both_of : (a b : Bool) → a && b ≡ true → (a ≡ true) × (b ≡ true)
both_of true b e = (refl, e)
both_of false b e = absurd (true≢false (sym e))

not_of : (b : Bool) → not b ≡ true → b ≡ false
not_of true e = absurd (true≢false (sym e))
not_of false e = refl

-- which paths lie elsewhere, by their parts behind the root
pub elsewhere-below : (root : PathValue) (parts : List (List ℕ)) → lies_elsewhere root (below root parts) ≡ is_elsewhere parts
elsewhere-below root parts =
    ap (λ b. b && is_elsewhere (parts_below root (below root parts))) (holds-held root (below root parts) (holds-below root parts))
    ∙ ap is_elsewhere (drop-append_seam root.parts parts)

-- what one that does has behind the root
pub record Elsewhere (root path : PathValue) : Type 0 where
  pub name : List ℕ
  pub more : List (List ℕ)
  pub is : path ≡ below root (name ∷ more)
  pub other : is_area name ≡ false

named : (root path : PathValue) (parts : List (List ℕ)) → path ≡ below root parts → is_elsewhere parts ≡ true → Elsewhere root path
named root path [] is e = absurd (true≢false (sym e))
named root path (name ∷ more) is e = record { name = name; more = more; is = is; other = not_of (is_area name) e }

pub elsewhere-is : (root path : PathValue) → lies_elsewhere root path ≡ true → Elsewhere root path
elsewhere-is root path e =
    let two = both_of (is_held root path) (is_elsewhere (parts_below root path)) e in
    named root path (parts_below root path) (held-below root path (held-holds root path two.0)) two.1

pub is-elsewhere : (root path : PathValue) → Elsewhere root path → lies_elsewhere root path ≡ true
is-elsewhere root path is = ap (lies_elsewhere root) is.is ∙ elsewhere-below root (is.name ∷ is.more) ∙ ap not is.other

none_left : {A : Type 0} (xs : List A) → xs ++ [] ≡ xs
none_left [] = refl
none_left (x ∷ xs) = ap (λ l. x ∷ l) (none_left xs)

pub root-here : (root : PathValue) → lies_elsewhere root root ≡ false
root-here root = ap (λ l. lies_elsewhere root (path_of root.absolute l)) (sym (none_left root.parts)) ∙ elsewhere-below root []

-- what is kept of contents
turned : {A : Type 0} (b : Bool) (x y : A) → cond (not b) x y ≡ cond b y x
turned true x y = refl
turned false x y = refl

abbrev pub kept : Contents → PathValue → Contents
kept c root = retain_keys c (λ path. not (lies_elsewhere root path))

pub get-kept : (c : Contents) (root q : PathValue) → get (kept c root) q ≡ cond (lies_elsewhere root q) None (get c q)
get-kept c root q =
    get-retain_keys c (λ path. not (lies_elsewhere root path)) q (λ x t. ap (λ (p : PathValue). not (lies_elsewhere root p)) (sym (path_cmp-IsAntisymmetric q x t)))
    ∙ turned (lies_elsewhere root q) (get c q) None

sound-other : (c : Contents) (p q : PathValue) (b : Bool) → q ≢ p → get (cond b (insert c p (FolderEntry false)) c) q ≡ get c q
sound-other c p q true n = get-put_other c p q (FolderEntry false) n
sound-other c p q false n = refl

-- at a path that isn't the root
pub get-other : (c : Contents) (root q : PathValue) → q ≢ root → get (areas_of c root) q ≡ cond (lies_elsewhere root q) None (get c q)
unfolding areas_of
get-other c root q n = sound-other (kept c root) root q (is_folder (entry_at (kept c root) root)) n ∙ get-kept c root q

-- what is seen of a root
abbrev pub sound : Option Entry → Option Entry
sound None = None
sound (Some (FolderEntry bad)) = Some (FolderEntry false)
sound (Some (FileEntry bytes)) = Some (FileEntry bytes)
sound (Some LinkEntry) = Some LinkEntry

sound-own : (c : Contents) (p : PathValue) (o : Option Entry) → entry_at c p ≡ o → entry_at (cond (is_folder o) (insert c p (FolderEntry false)) c) p ≡ sound o
sound-own c p None e = e
sound-own c p (Some (FolderEntry bad)) e = entry-put c p (FolderEntry false)
sound-own c p (Some (FileEntry bytes)) e = e
sound-own c p (Some LinkEntry) e = e

pub kept-root : (c : Contents) (root : PathValue) → get (kept c root) root ≡ get c root
kept-root c root = get-kept c root root ∙ ap (λ b. cond b None (get c root)) (root-here root)

pub entry-root : (c : Contents) (root : PathValue) → entry_at (areas_of c root) root ≡ sound (entry_at c root)
unfolding areas_of
entry-root c root =
    sound-own (kept c root) root (entry_at (kept c root) root) refl
    ∙ ap (λ o. sound (or_root root.parts o)) (kept-root c root)

-- what is seen elsewhere and what is not
no_root : (parts : List (List ℕ)) (o : Option Entry) → 0 < length parts → or_root parts o ≡ o
no_root [] (Some e) h = refl
no_root [] None h = absurd (omega arith)
no_root (part ∷ parts) (Some e) h = refl
no_root (part ∷ parts) None h = refl

more_parts : (xs ys : List (List ℕ)) (y : List ℕ) → 0 < length (xs ++ y ∷ ys)
more_parts [] ys y = omega arith
more_parts (x ∷ xs) ys y = omega arith

rest : List (List ℕ) → List (List ℕ)
rest [] = []
rest (x ∷ xs) = xs

grow : (xs : List (List ℕ)) (name : List ℕ) (more : List (List ℕ)) → xs ++ name ∷ more ≡ xs → ⊥
unfolding rest
grow [] name more e = cc e
grow (x ∷ xs) name more e = grow xs name more (ap rest e)

pub longer : (root : PathValue) (name : List ℕ) (more : List (List ℕ)) → below root (name ∷ more) ≢ root
longer root name more e = grow root.parts name more (ap (λ (p : PathValue). p.parts) e)

pub not-root : (root path : PathValue) → Elsewhere root path → path ≢ root
not-root root path is e = longer root is.name is.more (sym is.is ∙ e)

pub entry-elsewhere : (c : Contents) (root path : PathValue) → lies_elsewhere root path ≡ true → entry_at (areas_of c root) path ≡ None
entry-elsewhere c root path e =
    let is = elsewhere-is root path e in
    ap (or_root path.parts) (get-other c root path (not-root root path is) ∙ ap (λ b. cond b None (get c path)) e)
    ∙ no_root path.parts None (subst (λ (p : PathValue). 0 < length p.parts) (sym is.is) (more_parts root.parts is.more is.name))

pub entry-other : (c : Contents) (root path : PathValue) → path ≢ root → lies_elsewhere root path ≡ false → entry_at (areas_of c root) path ≡ entry_at c path
entry-other c root path n e = ap (or_root path.parts) (get-other c root path n ∙ ap (λ b. cond b None (get c path)) e)

-- whatever is told alike of a folder, whatever its names are, is told alike of what is seen
pub told-here : {A : Type 0} (f : Option Entry → A) → ((o : Option Entry) → f (sound o) ≡ f o) → (c : Contents) (root path : PathValue) → lies_elsewhere root path ≡ false → f (entry_at (areas_of c root) path) ≡ f (entry_at c path)
told-here f alike c root path e = same_or_other path root
    (λ is. ap (λ (p : PathValue). f (entry_at (areas_of c root) p)) is ∙ ap f (entry-root c root) ∙ alike (entry_at c root) ∙ ap (λ (p : PathValue). f (entry_at c p)) (sym is))
    (λ n. ap f (entry-other c root path n e))

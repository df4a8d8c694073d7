-- Each path below a root lies right in it, or in a folder that stands before it.
use Rattle.std.proofs.Common.{◌≡◌, ◌⊎◌, ℕ, ◌-◌, ◌<◌, Bool, true, false, cond, ◌&&◌, ◌||◌, inl, inr, List, [], ◌∷◌, ◌++◌, length, take, Option, None, Some, is_some, refl, ap, sym, subst, ◌∙◌, true≢false, append_assoc, arith}
use Rattle.std.proofs.lemmas.Grind.{common_steps}
use Rattle.std.proofs.lemmas.List.{length-append}
use Rattle.std.specs.declared.cmp.Ordering.{Ordering}
use Rattle.std.specs.declared.cmp.Ordering.TheVariants.{Less, Equal, Greater}
use Rattle.std.specs.Cmp.{tied_itself, nat_cmp_total}
use Rattle.std.specs.FinMap.{find, get, get-entries, entries}
use Rattle.std.specs.List.{list_all, list_any}
use Rattle.std.specs.Ordering.{ordering_then}
use Rattle.cluster_tree.specs.Contents.{Contents, Entry, FolderEntry, FileEntry, LinkEntry, IsTree, entry_at, is_folder, or_root, parent}
use Rattle.cluster_tree.specs.PathOrder.{path_eq}
use Rattle.cluster_tree.specs.PathValue.{PathValue, below, is_part, path_cmp, path_of}
use Rattle.cluster_tree.proofs.OrderLemmas.{path_eq-own, path_eq-same, same_path}
use Rattle.std.proofs.lemmas.List.Folds.{list_all-append}
use Rattle.file_walk.proofs.FoundLemmas.{back_below, from_below, told_below}
use Rattle.file_walk.proofs.AscendLemmas.{found, found_by, proper_below}
use Rattle.file_walk.proofs.QueueLemmas.{text_cmp, AllAbove, Ascends}
use Rattle.file_walk.specs.Walk.{from_root, lies_below}

-- ---- members of lists

or_true : (a b : Bool) → b ≡ true → (a || b) ≡ true
or_true true b h = refl
or_true false b h = h

module _ {X : Type 0} where
  abbrev pub In : X → List X → Type 0
  In x [] = ⊥
  In x (y ∷ ys) = (x ≡ y) ⊎ In x ys

  pub any_in : (test : X → Bool) (y : X) (xs : List X) → In y xs → test y ≡ true → list_any test xs ≡ true
  any_in test y [] h k = absurd h
  any_in test y (x ∷ xs) (inl same) k = ap (λ b. b || list_any test xs) (ap test (sym same) ∙ k)
  any_in test y (x ∷ xs) (inr later) k = or_true (test x) (list_any test xs) (any_in test y xs later k)

  pub in_middle : (x : X) (before after : List X) → In x (before ++ x ∷ after)
  in_middle x [] after = inl refl
  in_middle x (b ∷ before) after = inr (in_middle x before after)

less_only : (o : Ordering) → o ≡ Less → o ≡ Greater → ⊥
less_only o l g = absurd (let no_way : Less ≡ Greater = sym l ∙ g in cc)

less_tied : (o : Ordering) → o ≡ Less → o ≡ Equal → ⊥
less_tied o l g = absurd (let no_way : Less ≡ Equal = sym l ∙ g in cc)

module _ {X V : Type 0} (key : X → List ℕ) (value : X → V) where
  not_behind : (y x : X) (after : List X) → In y after → text_cmp (key y) (key x) ≡ Less → AllAbove key value x after → ⊥
  not_behind y x [] h l up = h
  not_behind y x (z ∷ after) (inl same) l up = less_only (text_cmp (key z) (key x)) (ap (λ w. text_cmp (key w) (key x)) (sym same) ∙ l) up.0
  not_behind y x (z ∷ after) (inr later) l up = not_behind y x after later l up.2

  -- what has a lesser text stands before
  pub stands_before : (y x : X) (before after : List X) → ((z : X) → text_cmp (key z) (key z) ≡ Equal) → Ascends key value (before ++ x ∷ after) → In y (before ++ x ∷ after) → text_cmp (key y) (key x) ≡ Less → In y before
  stands_before y x [] after own up (inl same) l = less_tied (text_cmp (key x) (key x)) (ap (λ w. text_cmp (key w) (key x)) (sym same) ∙ l) (own x)
  stands_before y x [] after own up (inr later) l = not_behind y x after later l up.0
  stands_before y x (b ∷ before) after own up (inl same) l = inl same
  stands_before y x (b ∷ before) after own up (inr later) l = inr (stands_before y x before after own up.1 later l)

-- a text is below itself with more behind it
pub front_less : (t : List ℕ) (b : ℕ) (rest : List ℕ) → text_cmp t (t ++ b ∷ rest) ≡ Less
front_less [] b rest = refl
front_less (x ∷ t) b rest = ap (λ o. ordering_then o (text_cmp t (t ++ b ∷ rest))) (tied_itself nat_cmp_total x) ∙ front_less t b rest

-- ---- what stands somewhere is found below the root

pub found_entry : (es : List (PathValue × Entry)) (q : PathValue) (e : Entry) → find path_cmp q es ≡ Some e → In (q, e) es
unfolding path_eq
found_entry [] q e h = absurd cc
found_entry (x ∷ es) q e h = by (found_entry es q e) (path_eq q x.0) refl h
  where
    by : (find path_cmp q es ≡ Some e → In (q, e) es) → (b : Bool) → path_eq q x.0 ≡ b → cond b (Some x.1) (find path_cmp q es) ≡ Some e → In (q, e) (x ∷ es)
    by rest true is h = let same : q ≡ x.0 = path_eq-same q x.0 is in let its : x.1 ≡ e = cc in inl (λ i. (same i, sym its i))
    by rest false is h = inr (rest h)

module _ (root : PathValue) where
  pub in_found : (es : List (PathValue × Entry)) (q : PathValue) (e : Entry) → In (q, e) es → lies_below root q ≡ true → In (from_root root q, e) (found root es)
  in_found [] q e h low = h
  in_found (x ∷ es) q e (inl same) low =
      let its : lies_below root x.0 ≡ true = ap (λ (p : PathValue × Entry). lies_below root p.0) (sym same) ∙ low in
      subst (λ b. In (from_root root q, e) (found_by root b x es)) (sym its) (inl (ap (λ (p : PathValue × Entry). (from_root root p.0, p.1)) same))
  in_found (x ∷ es) q e (inr later) low = by (lies_below root x.0) (in_found es q e later low)
    where
      by : (b : Bool) → In (from_root root q, e) (found root es) → In (from_root root q, e) (found_by root b x es)
      by true rest = inr rest
      by false rest = rest

  -- and what is found stands there
  pub record Stands (es : List (PathValue × Entry)) (x : PathValue × Entry) : Type 0 where
    pub path : PathValue
    pub low : lies_below root path ≡ true
    pub own : x.0 ≡ from_root root path
    pub there : In (path, x.1) es

  pub found_stands : (es : List (PathValue × Entry)) (x : PathValue × Entry) → In x (found root es) → Stands es x
  found_stands [] x h = absurd h
  found_stands (e ∷ es) x h = by (found_stands es x) (lies_below root e.0) refl h
    where
      later : Stands es x → Stands (e ∷ es) x
      later s = record { path = s.path; low = s.low; own = s.own; there = inr s.there }

      by : (In x (found root es) → Stands es x) → (b : Bool) → lies_below root e.0 ≡ b → In x (found_by root b e es) → Stands (e ∷ es) x
      by rest false low h = later (rest h)
      by rest true low (inl same) = record { path = e.0; low = low; own = ap (λ (p : PathValue × Entry). p.0) same; there = inl (ap (λ (v : Entry). (e.0, v)) (ap (λ (p : PathValue × Entry). p.1) same)) }
      by rest true low (inr h) = later (rest h)

-- ---- the folder of what is found is found too

in_some : (es : List (PathValue × Entry)) (q : PathValue) (e : Entry) → In (q, e) es → is_some (find path_cmp q es) ≡ true
unfolding path_eq
in_some [] q e h = absurd h
in_some (x ∷ es) q e (inl same) =
    let own : path_eq q x.0 ≡ true = ap (path_eq q) (sym (ap (λ (p : PathValue × Entry). p.0) same)) ∙ path_eq-own q in
    ap (λ b. is_some (cond b (Some x.1) (find path_cmp q es))) own
in_some (x ∷ es) q e (inr later) = by (path_eq q x.0) (in_some es q e later)
  where
    by : (b : Bool) → is_some (find path_cmp q es) ≡ true → is_some (cond b (Some x.1) (find path_cmp q es)) ≡ true
    by true rest = refl
    by false rest = rest

pub folder_there : (o : Option Entry) (parts : List (List ℕ)) → is_folder (or_root parts o) ≡ true → 0 < length parts → (b : Bool) × (o ≡ Some (FolderEntry b))
folder_there None [] h k = absurd (omega arith)
folder_there None (part ∷ parts) h k = absurd (true≢false (sym h))
folder_there (Some (FolderEntry b)) parts h k = (b, refl)
folder_there (Some (FileEntry bytes)) parts h k = absurd (true≢false (sym h))
folder_there (Some LinkEntry) parts h k = absurd (true≢false (sym h))

all_but_last : (parts : List (List ℕ)) (n : List ℕ) → take (length (parts ++ n ∷ []) - 1) (parts ++ n ∷ []) ≡ parts
all_but_last parts n = grind (arith, common_steps)

and_first : (a b : Bool) → (a && b) ≡ true → a ≡ true
and_first true b h = refl
and_first false b h = absurd (true≢false (sym h))

pub low_front : (root : PathValue) (parts : List (List ℕ)) → 0 < length parts → list_all is_part (root.parts ++ parts) ≡ true → lies_below root (below root parts) ≡ true
low_front root [] h k = absurd (omega arith)
low_front root (part ∷ parts) h k = told_below root part parts k

-- the folder of what has a name below a root
pub parent_below : (root : PathValue) (parts : List (List ℕ)) (n : List ℕ) → parent (below root (parts ++ n ∷ [])) ≡ below root parts
parent_below root parts n =
    ap (λ l. parent (path_of root.absolute l)) (sym (append_assoc root.parts parts (n ∷ []))) ∙ ap (path_of root.absolute) (all_but_last (root.parts ++ parts) n)

pub parent_found : (c : Contents) → IsTree c → (root path : PathValue) (e : Entry) → In (path, e) (entries c) → lies_below root path ≡ true
    → (own : PathValue) (n : List ℕ) → from_root root path ≡ below own (n ∷ []) → own.absolute ≡ false → 0 < length own.parts
    → (b : Bool) × In (own, FolderEntry b) (found root (entries c))
parent_found c tree root path e h low own n is relative some =
    let whole : path ≡ below root (own.parts ++ n ∷ []) = back_below root path low ∙ ap (λ (p : PathValue). below root p.parts) is in
    let joined : root.parts ++ (own.parts ++ n ∷ []) ≡ (root.parts ++ own.parts) ++ n ∷ [] = sym (append_assoc root.parts own.parts (n ∷ [])) in
    let up : parent path ≡ below root own.parts = ap parent whole ∙ parent_below root own.parts n in
    let folder : is_folder (entry_at c (below root own.parts)) ≡ true = ap (λ (p : PathValue). is_folder (entry_at c p)) (sym up) ∙ tree path (ap is_some (get-entries c path) ∙ in_some (entries c) path e h) in
    let size : 0 < length (root.parts ++ own.parts) = omega (arith, length-append root.parts own.parts) in
    let there = folder_there (get c (below root own.parts)) (root.parts ++ own.parts) folder size in
    let proper : list_all is_part (root.parts ++ own.parts) ≡ true =
    and_first (list_all is_part (root.parts ++ own.parts)) (list_all is_part (n ∷ []))
    (sym (list_all-append is_part (root.parts ++ own.parts) (n ∷ [])) ∙ ap (list_all is_part) (sym joined) ∙ ap (λ (p : PathValue). list_all is_part p.parts) (sym whole) ∙ proper_below root path low) in
    let inside = in_found root (entries c) (below root own.parts) (FolderEntry there.0) (found_entry (entries c) (below root own.parts) (FolderEntry there.0) (sym (get-entries c (below root own.parts)) ∙ there.1)) (low_front root own.parts some proper) in
    let same : from_root root (below root own.parts) ≡ own = from_below root own.parts ∙ same_path (path_of false own.parts) own (sym relative) refl in
    (there.0, subst (λ (p : PathValue). In (p, FolderEntry there.0) (found root (entries c))) same inside)

-- What a walk below a root has at a path is what stands there.
use Rattle.std.proofs.Common.{◌≡◌, ◌≢◌, ℕ, suc, ◌+◌, ◌-◌, ◌<◌, ◌≤◌, ◌==◌, Bool, true, false, ◌||◌, cond, List, [], ◌∷◌, ◌++◌, length, drop, map, Option, None, Some, is_some, refl, sym, ap, ap₂, ◌∙◌, subst, true≢false, arith, rules}
use Rattle.std.proofs.lemmas.Bool.Decides.{nat_tests}
use Rattle.std.proofs.lemmas.List.{length-drop}
use Rattle.std.specs.Prelude.{Result, Ok, if◌then◌else◌, nat_lt}
use Rattle.std.specs.FinMap.{contains_key-keys, entries, find, from_entries, get, get-entries, get-from_entries}
use Rattle.std.specs.List.{filter_map, list_all, list_any}
use Rattle.cluster_tree.specs.Causes.{first_of, unless}
use Rattle.cluster_tree.specs.Contents.{Contents, Entry, FolderEntry, FileEntry, LinkEntry, entry_at, or_root}
use Rattle.cluster_tree.specs.PathOrder.{path_eq}
use Rattle.cluster_tree.specs.PathValue.{PathValue, below, front, is_part, path_cmp, path_of}
use Rattle.cluster_tree.proofs.OrderLemmas.{path_cmp_total, path_eq-other, path_eq-own, path_eq-same}
use Rattle.file_walk.specs.declared.entry.Entry.{Entry as Walked}
use Rattle.file_walk.specs.declared.entry.EntryKind.{EntryKind}
use Rattle.file_walk.specs.declared.entry.EntryKind.TheVariants as kind
use Rattle.file_walk.specs.declared.fault.WalkFault.{WalkFault}
use Rattle.file_walk.specs.declared.fault.WalkFault.TheVariants as fault
use Rattle.file_walk.specs.Laws.{IsOwn, IsSound, TellsAll}
use Rattle.file_walk.specs.Pairs.{kind_at, kind_in, paths_of}
use Rattle.file_walk.specs.Walk.{HasParts, entry_flaw, flaw_at, found_below, from_root, kind_of_entry, kind_there, lies_below, root_flaw, walk_of, walked}
use Rattle.file_walk.proofs.AscendLemmas.{deeper, found, found_by, proper_below}
use Rattle.file_walk.proofs.FoundLemmas.{back_below, told_below}

-- ---- parts

pub more_than_none : (n : ℕ) → suc n == 0 ≡ false
more_than_none n = grind (arith, rules)

deep_in : (xs ys : List (List ℕ)) → length ys == 0 ≡ false → length (xs ++ ys) == 0 ≡ false
deep_in [] ys deep = deep
deep_in (x ∷ xs) ys deep = more_than_none (length (xs ++ ys))

same_front : (front xs ys : List (List ℕ)) → front ++ xs ≡ front ++ ys → xs ≡ ys
same_front [] xs ys e = e
same_front (x ∷ front) xs ys e = same_front front xs ys (cc e)

below-same : (root : PathValue) (xs ys : List (List ℕ)) → below root xs ≡ below root ys → xs ≡ ys
below-same root xs ys e = same_front root.parts xs ys (ap (λ (p : PathValue). p.parts) e)

-- ---- what is found below a root at a path from it on stands there

-- paths below a root are the same just where they are from it on
below_tests : (root : PathValue) (xs ys : List (List ℕ)) → path_eq (below root xs) (below root ys) ≡ path_eq (path_of false xs) (path_of false ys)
below_tests root xs ys = by (path_eq (path_of false xs) (path_of false ys)) refl
  where
    by : (b : Bool) → path_eq (path_of false xs) (path_of false ys) ≡ b → path_eq (below root xs) (below root ys) ≡ b
    by true same = ap (λ (p : PathValue). path_eq (below root xs) (below root p.parts)) (sym (path_eq-same (path_of false xs) (path_of false ys) same)) ∙ path_eq-own (below root xs)
    by false other = path_eq-other (below root xs) (below root ys) (λ e.
        true≢false (sym (ap (λ l. path_eq (path_of false xs) (path_of false l)) (sym (below-same root xs ys e)) ∙ path_eq-own (path_of false xs)) ∙ other))

module _ (root : PathValue) (parts : List (List ℕ)) where
  find_found : lies_below root (below root parts) ≡ true → (es : List (PathValue × Entry)) → find path_cmp (path_of false parts) (found root es) ≡ find path_cmp (below root parts) es
  unfolding path_eq
  find_found low [] = refl
  find_found low (e ∷ es) = by (lies_below root e.0) refl (find_found low es)
    where
      by : (b : Bool) → lies_below root e.0 ≡ b → find path_cmp (path_of false parts) (found root es) ≡ find path_cmp (below root parts) es
          → find path_cmp (path_of false parts) (found_by root b e es) ≡ cond (path_eq (below root parts) e.0) (Some e.1) (find path_cmp (below root parts) es)
      by true is rest =
          ap₂ (λ b (o : Option Entry). cond b (Some e.1) o)
          (sym (below_tests root parts (from_root root e.0).parts) ∙ ap (path_eq (below root parts)) (sym (back_below root e.0 is))) rest
      by false is rest =
          rest ∙ ap (λ b. cond b (Some e.1) (find path_cmp (below root parts) es))
          (sym (path_eq-other (below root parts) e.0 (λ same. true≢false (sym low ∙ ap (lies_below root) same ∙ is))))

  find_none : list_all is_part (below root parts).parts ≡ false → (es : List (PathValue × Entry)) → find path_cmp (path_of false parts) (found root es) ≡ None
  unfolding path_eq
  find_none odd [] = refl
  find_none odd (e ∷ es) = by (lies_below root e.0) refl (find_none odd es)
    where
      by : (b : Bool) → lies_below root e.0 ≡ b → find path_cmp (path_of false parts) (found root es) ≡ None → find path_cmp (path_of false parts) (found_by root b e es) ≡ None
      by true is rest =
          ap (λ b. cond b (Some e.1) (find path_cmp (path_of false parts) (found root es)))
          (path_eq-other (path_of false parts) (from_root root e.0) (λ same.
          true≢false (sym (proper_below root e.0 is) ∙ ap (λ (p : PathValue). list_all is_part p.parts) (back_below root e.0 is ∙ ap (λ (p : PathValue). below root p.parts) (sym same)) ∙ odd)))
          ∙ rest
      by false is rest = rest

or_deep : (parts : List (List ℕ)) (o : Option Entry) → length parts == 0 ≡ false → or_root parts o ≡ o
or_deep parts (Some e) deep = refl
or_deep [] None deep = absurd (true≢false deep)
or_deep (part ∷ parts) None deep = refl

none_there : (o : Option Entry) → (is_some o ≡ true → ⊥) → o ≡ None
none_there None h = refl
none_there (Some e) h = absurd (h refl)

low_path : (root : PathValue) (parts : List (List ℕ)) → length parts == 0 ≡ false → list_all is_part (below root parts).parts ≡ true → lies_below root (below root parts) ≡ true
low_path root [] deep proper = absurd (true≢false deep)
low_path root (part ∷ parts) deep proper = told_below root part parts proper

found_there : (c : Contents) (root : PathValue) → HasParts c root → (parts : List (List ℕ)) → length parts == 0 ≡ false → find path_cmp (path_of false parts) (found_below c root) ≡ entry_at c (below root parts)
unfolding found_below
found_there c root proper parts deep = by (list_all is_part (below root parts).parts) refl
  where
    same : entry_at c (below root parts) ≡ find path_cmp (below root parts) (entries c)
    same = or_deep (below root parts).parts (get c (below root parts)) (deep_in root.parts parts deep) ∙ get-entries c (below root parts)

    by : (b : Bool) → list_all is_part (below root parts).parts ≡ b → find path_cmp (path_of false parts) (found root (entries c)) ≡ entry_at c (below root parts)
    by true is = find_found root parts (low_path root parts deep is) (entries c) ∙ sym same
    by false is = find_none root parts is (entries c) ∙ sym (none_there (entry_at c (below root parts)) (λ there. true≢false (sym (proper parts there) ∙ is)))

-- all that is found has a path from the root on, with a part or more
not_zero : (n m k : ℕ) → n < m → k ≡ m - n → k == 0 ≡ false
not_zero n m k h e = grind (arith, nat_tests, h, e)

own_root : (root path : PathValue) → lies_below root path ≡ true → IsOwn (from_root root path)
own_root root path low =
    (refl, not_zero (length root.parts) (length path.parts) (length (drop (length root.parts) path.parts)) (deeper root path low) (length-drop (length root.parts) path.parts))

found_own : (root q : PathValue) (es : List (PathValue × Entry)) → is_some (find path_cmp q (found root es)) ≡ true → IsOwn q
unfolding path_eq
found_own root q [] h = absurd (true≢false (sym h))
found_own root q (e ∷ es) h = by (lies_below root e.0) refl (found_own root q es) h
  where
    at : (b : Bool) → lies_below root e.0 ≡ true → path_eq q (from_root root e.0) ≡ b → (is_some (find path_cmp q (found root es)) ≡ true → IsOwn q) → is_some (cond b (Some e.1) (find path_cmp q (found root es))) ≡ true → IsOwn q
    at true low same rest h = subst IsOwn (sym (path_eq-same q (from_root root e.0) same)) (own_root root e.0 low)
    at false low other rest h = rest h

    by : (b : Bool) → lies_below root e.0 ≡ b → (is_some (find path_cmp q (found root es)) ≡ true → IsOwn q) → is_some (find path_cmp q (found_by root b e es)) ≡ true → IsOwn q
    by true low rest h = at (path_eq q (from_root root e.0)) low refl rest h
    by false low rest h = rest h

-- ---- and has no flaw

first_none : {E : Type 0} (o : Option E) (rest : List (Option E)) → first_of (o ∷ rest) ≡ None → (o ≡ None) × (first_of rest ≡ None)
unfolding first_of
first_none None rest h = (refl, h)
first_none (Some e) rest h = absurd (cc h)

-- what stands at a path has no flaw, and has no more than 64 parts with those of the root
abbrev IsFlawless : (depth : ℕ) → PathValue → Option Entry → Type 0
IsFlawless depth q None = Unit {0}
IsFlawless depth q (Some e) = (entry_flaw q e ≡ None) × (depth + length q.parts ≤ 64)

sound_of : (depth : ℕ) (q : PathValue) (o : Option Entry) → IsFlawless depth q o → IsSound q o
sound_of depth q None flawless = tt
sound_of depth q (Some e) flawless = flawless.0

not_less : (n : ℕ) → nat_lt 64 n ≡ false → n ≤ 64
not_less n h = grind (arith, nat_tests, h)

shallow : (n : ℕ) (deep : WalkFault) (o : Option WalkFault) → (if nat_lt 64 n then Some deep else o) ≡ None → (o ≡ None) × (n ≤ 64)
shallow n deep o h = by (nat_lt 64 n) refl h
  where
    by : (b : Bool) → nat_lt 64 n ≡ b → (if b then Some deep else o) ≡ None → (o ≡ None) × (n ≤ 64)
    by true is h = absurd (cc h)
    by false is h = (h, not_less n is)

flawless_at : (depth : ℕ) (xs : List (PathValue × Entry)) (q : PathValue) → first_of (map (flaw_at depth) xs) ≡ None → IsFlawless depth q (find path_cmp q xs)
unfolding path_eq
flawless_at depth [] q h = tt
flawless_at depth (x ∷ xs) q h = by (path_eq q x.0) refl (flawless_at depth xs q two.1)
  where
    two : (flaw_at depth x ≡ None) × (first_of (map (flaw_at depth) xs) ≡ None)
    two = first_none (flaw_at depth x) (map (flaw_at depth) xs) h

    none : IsFlawless depth x.0 (Some x.1)
    none = shallow (depth + length x.0.parts) (fault.TooDeep (front 64 x.0)) (entry_flaw x.0 x.1) two.0

    by : (b : Bool) → path_eq q x.0 ≡ b → IsFlawless depth q (find path_cmp q xs) → IsFlawless depth q (cond b (Some x.1) (find path_cmp q xs))
    by true same rest = subst (λ p. IsFlawless depth p (Some x.1)) (sym (path_eq-same q x.0 same)) none
    by false other rest = rest

told_one : (b : Bool) (k : EntryKind) (e : Entry) (o : Option EntryKind) (p : Option Entry) → kind_of_entry e ≡ Some k → o ≡ kind_there p → cond b (Some k) o ≡ kind_there (cond b (Some e) p)
told_one true k e o p is rest = sym is
told_one false k e o p is rest = rest

-- so each is told, with its kind
told_at : (depth : ℕ) (xs : List (PathValue × Entry)) (q : PathValue) → first_of (map (flaw_at depth) xs) ≡ None → find path_cmp q (map kind_at (filter_map walked xs)) ≡ kind_there (find path_cmp q xs)
unfolding path_eq
told_at depth [] q h = refl
told_at depth ((p, FolderEntry bad) ∷ xs) q h =
    told_one (path_eq q p) kind.Folder (FolderEntry bad) (find path_cmp q (map kind_at (filter_map walked xs))) (find path_cmp q xs) refl
    (told_at depth xs q (first_none (flaw_at depth (p, FolderEntry bad)) (map (flaw_at depth) xs) h).1)
told_at depth ((p, FileEntry bytes) ∷ xs) q h =
    told_one (path_eq q p) (kind.File (length bytes)) (FileEntry bytes) (find path_cmp q (map kind_at (filter_map walked xs))) (find path_cmp q xs) refl
    (told_at depth xs q (first_none (flaw_at depth (p, FileEntry bytes)) (map (flaw_at depth) xs) h).1)
told_at depth ((p, LinkEntry) ∷ xs) q h =
    absurd (let no_way : Some (fault.Link p) ≡ None = (shallow (depth + length p.parts) (fault.TooDeep (front 64 p)) (Some (fault.Link p)) (first_none (flaw_at depth (p, LinkEntry)) (map (flaw_at depth) xs) h).0).0 in cc)

-- ---- what a walk that isn't refused has

unless_ok : {A E : Type 0} (o : Option E) (answer : Result A E) (v : A) → unless o answer ≡ Ok v → (o ≡ None) × (answer ≡ Ok v)
unless_ok None answer v h = (refl, h)
unless_ok (Some e) answer v h = absurd (cc h)

some_there : (o : Option Entry) → is_some (kind_there o) ≡ true → is_some o ≡ true
some_there None h = h
some_there (Some e) h = refl

clean_root : (root : PathValue) (o : Option Entry) → root_flaw root o ≡ None → o ≡ Some (FolderEntry false)
clean_root root None h = absurd (cc h)
clean_root root (Some (FolderEntry true)) h = absurd (cc h)
clean_root root (Some (FolderEntry false)) h = refl
clean_root root (Some (FileEntry bytes)) h = absurd (cc h)
clean_root root (Some LinkEntry) h = absurd (cc h)

-- no kind is told of nothing and of a link alone
kindless : (o : Option Entry) → is_some (kind_there o) ≡ false → o ≢ Some LinkEntry → o ≡ None
kindless None h unlinked = refl
kindless (Some (FolderEntry bad)) h unlinked = absurd (true≢false h)
kindless (Some (FileEntry bytes)) h unlinked = absurd (true≢false h)
kindless (Some LinkEntry) h unlinked = absurd (unlinked refl)

module _ (c : Contents) (root : PathValue) (es : List Walked) (walk : walk_of c root ≡ Ok es) where
  record Read : Type 0 where
    folder : root_flaw root (entry_at c root) ≡ None
    flawless : first_of (map (flaw_at (length root.parts)) (found_below c root)) ≡ None
    entries_are : filter_map walked (found_below c root) ≡ es

  read : Read
  unfolding walk_of
  read =
      let one = unless_ok (root_flaw root (entry_at c root)) (unless (first_of (map (flaw_at (length root.parts)) (found_below c root))) (Ok (filter_map walked (found_below c root)))) es walk in
      let two = unless_ok (first_of (map (flaw_at (length root.parts)) (found_below c root))) (Ok (filter_map walked (found_below c root))) es one.1 in
      record { folder = one.0; flawless = two.0; entries_are = let same = two.1 in cc }

  kind_is : (q : PathValue) → kind_in es q ≡ kind_there (find path_cmp q (found_below c root))
  kind_is q =
      get-from_entries path_cmp_total (map kind_at es) q
      ∙ ap (λ l. find path_cmp q (map kind_at l)) (sym read.entries_are)
      ∙ told_at (length root.parts) (found_below c root) q read.flawless

  -- each path of it is one from the root on, with a part or more
  pub own-path : (q : PathValue) → is_some (kind_in es q) ≡ true → IsOwn q
  unfolding found_below
  own-path q h = found_own root q (entries c) (some_there (find path_cmp q (found_below c root)) (sym (ap is_some (kind_is q)) ∙ h))

  flawless_there : (q : PathValue) → IsFlawless (length root.parts) q (find path_cmp q (found_below c root))
  flawless_there q = flawless_at (length root.parts) (found_below c root) q read.flawless

  -- and with the root's parts of at most 64
  pub not-deep : (q : PathValue) → is_some (kind_in es q) ≡ true → length root.parts + length q.parts ≤ 64
  not-deep q h = by (find path_cmp q (found_below c root)) (flawless_there q) (some_there (find path_cmp q (found_below c root)) (sym (ap is_some (kind_is q)) ∙ h))
    where
      by : (o : Option Entry) → IsFlawless (length root.parts) q o → is_some o ≡ true → length root.parts + length q.parts ≤ 64
      by None flawless h = absurd (true≢false (sym h))
      by (Some e) flawless h = flawless.1

  pub root-folder : entry_at c root ≡ Some (FolderEntry false)
  root-folder = clean_root root (entry_at c root) read.folder

  module _ (proper : HasParts c root) (parts : List (List ℕ)) (deep : length parts == 0 ≡ false) where
    -- it has the kind of what stands there
    pub kind-told : kind_in es (path_of false parts) ≡ kind_there (entry_at c (below root parts))
    kind-told = kind_is (path_of false parts) ∙ ap kind_there (found_there c root proper parts deep)

    -- which has no flaw
    pub sound-there : IsSound (path_of false parts) (entry_at c (below root parts))
    sound-there =
        subst (IsSound (path_of false parts)) (found_there c root proper parts deep)
        (sound_of (length root.parts) (path_of false parts) (find path_cmp (path_of false parts) (found_below c root)) (flawless_there (path_of false parts)))

    -- and is no link
    pub no-link : entry_at c (below root parts) ≢ Some LinkEntry
    no-link link = absurd (let no_way : Some (fault.Link (path_of false parts)) ≡ None = subst (IsSound (path_of false parts)) link sound-there in cc)

    -- what it doesn't have isn't there
    pub not-there : is_some (kind_in es (path_of false parts)) ≡ false → entry_at c (below root parts) ≡ None
    not-there h = kindless (entry_at c (below root parts)) (sym (ap is_some kind-told) ∙ h) no-link

  pub tells-all : TellsAll c root es
  tells-all = record { folder = root-folder; own = λ q h. (own-path q h, not-deep q h); kind = kind-told; sound = sound-there }

-- ---- a path is one of both walks' where either has it

find_either : {X : Type 0} (q : PathValue) (xs ys : List (PathValue × X)) → is_some (find path_cmp q (xs ++ ys)) ≡ (is_some (find path_cmp q xs) || is_some (find path_cmp q ys))
unfolding path_eq
find_either q [] ys = refl
find_either q (x ∷ xs) ys = by (path_eq q x.0) (find_either q xs ys)
  where
    by : (b : Bool) → is_some (find path_cmp q (xs ++ ys)) ≡ (is_some (find path_cmp q xs) || is_some (find path_cmp q ys))
        → is_some (cond b (Some x.1) (find path_cmp q (xs ++ ys))) ≡ (is_some (cond b (Some x.1) (find path_cmp q xs)) || is_some (find path_cmp q ys))
    by true rest = refl
    by false rest = rest

both_kinds : (ts ss : List Walked) → map kind_at (ts ++ ss) ≡ map kind_at ts ++ map kind_at ss
both_kinds [] ss = refl
both_kinds (t ∷ ts) ss = ap (λ l. kind_at t ∷ l) (both_kinds ts ss)

pub is-among : (ts ss : List Walked) (q : PathValue) → list_any (path_eq q) (paths_of ts ss) ≡ (is_some (kind_in ts q) || is_some (kind_in ss q))
unfolding path_eq
is-among ts ss q =
    sym (contains_key-keys (from_entries {R = path_cmp} (map kind_at (ts ++ ss))) q)
    ∙ ap is_some (get-from_entries path_cmp_total (map kind_at (ts ++ ss)) q ∙ ap (find path_cmp q) (both_kinds ts ss))
    ∙ find_either q (map kind_at ts) (map kind_at ss)
    ∙ sym (ap₂ (λ (a b : Option EntryKind). is_some a || is_some b) (get-from_entries path_cmp_total (map kind_at ts) q) (get-from_entries path_cmp_total (map kind_at ss) q))

-- Where a block is there, putting a page in its place leaves paths, kinds and sizes.
use Rattle.std.proofs.Common.{◌≡◌, ℕ, zero, suc, ◌+◌, ◌-◌, ◌*◌, ◌/◌, ◌%◌, ◌<◌, ◌≤◌, ◌==◌, Bool, true, false, ◌&&◌, ◌||◌, List, [], ◌∷◌, length, Option, None, Some, Ok, is_some, refl, sym, ap, subst, ◌∙◌, ⊎_elim, inl, inr, true≢false, arith}
use Rattle.std.proofs.lemmas.Slice.Eq.{bytes_eq-Decides}
use Rattle.std.proofs.lemmas.Bool.Decides.{nat_tests}
use Rattle.std.proofs.lemmas.List.{append_cancel_left}
use Rattle.std.specs.FinMap.{get, insert}
use Rattle.alike_clusters.specs.Clusters.{AlikeClusters, is_alike, is_alike_file, is_bounded}
use Rattle.alike_clusters.proofs.NameLemmas.{file-lies, file_parts}
use Rattle.alike_clusters.proofs.StepLemmas.{Shrinks, shrinks-shallow}
use Rattle.alike_clusters.proofs.StorageLemmas.{padded-size, splice-size}
use Rattle.block_refs.specs.declared.names.BlockName.{BlockName}
use Rattle.block_refs.specs.declared.names.RelName.{RelName}
use Rattle.cluster_tree.specs.Causes.{given}
use Rattle.cluster_tree.specs.Contents.{Contents, Entry, FolderEntry, FileEntry, LinkEntry, entry_at, or_root}
use Rattle.cluster_tree.specs.PathValue.{PathValue, below, path_of}
use Rattle.cluster_tree.specs.Tree.{bytes_at, bytes_in}
use Rattle.cluster_tree.proofs.ContentsLemmas.{entry-put, entry-put_other, get-put_other}
use Rattle.file_edits.specs.Alike.{Alike, AlikeEntries, Neither, Folders, Files, Links}
use Rattle.file_edits.specs.Asking.{file_asked, size_asked}
use Rattle.file_edits.specs.Edits.{edited, file_edited, padded}
use Rattle.file_edits.proofs.EditLemmas.{edited-on, edited-there, put-same, same_or_other}
use Rattle.file_walk.specs.Actions.{is_version}
use Rattle.file_walk.specs.Relations.{relation_of}
use Rattle.layout.specs.Splice.{splice}
use Rattle.relation_files.specs.Paths.{relation_file}
use Rattle.storage_laws.specs.Forks.{HasNoGap}
use Rattle.storage_laws.specs.Names.{IsBlock, block_of}
use Rattle.storage_laws.specs.States.{block_in}
use Rattle.storage_laws.proofs.LengthLemmas.{whole-is}
use Rattle.storage_laws.proofs.NumberLemmas.{by_order, file-before, file-of, its-place, lt-no, place-of}
use Rattle.storage_replay.specs.Blocks.{block_in_file, block_laid, block_put, file_filled, files_filled, grown}
use Rattle.storage_replay.specs.Changes.{created}

-- ---- entries that are alike

eq_is : (n m : ℕ) → (n == m) ≡ true → n ≡ m
eq_is n m h = grind (arith, nat_tests, h)

eq_yes : (n m : ℕ) → n ≡ m → (n == m) ≡ true
eq_yes n m h = grind (arith, nat_tests, h)

and_parts : (a b : Bool) → (a && b) ≡ true → (a ≡ true) × (b ≡ true)
and_parts true b h = (refl, h)
and_parts false b h = absurd (true≢false (sym h))

and_both : (a b : Bool) → a ≡ true → b ≡ true → (a && b) ≡ true
and_both true b h k = k
and_both false b h k = absurd (true≢false (sym h))

file_left : (per : ℕ) (at : Option (RelName × ℕ)) (a b : List ℕ) → is_alike_file per at a b ≡ true → is_alike_file per at a a ≡ true
file_left per None a b is = (bytes_eq-Decides a a).1 refl
file_left per (Some at) a b is =
    and_both (length a == length a) (is_bounded per at.1 (length a)) (eq_yes (length a) (length a) refl) (and_parts (length a == length b) (is_bounded per at.1 (length a)) is).1

file_back : (per : ℕ) (at : Option (RelName × ℕ)) (a b : List ℕ) → is_alike_file per at a b ≡ true → is_alike_file per at b a ≡ true
file_back per None a b is = (bytes_eq-Decides b a).1 (sym ((bytes_eq-Decides a b).0 is))
file_back per (Some at) a b is =
    let two = and_parts (length a == length b) (is_bounded per at.1 (length a)) is in
    let same : length a ≡ length b = eq_is (length a) (length b) two.0 in
    and_both (length b == length a) (is_bounded per at.1 (length b)) (eq_yes (length b) (length a) (sym same)) (ap (is_bounded per at.1) (sym same) ∙ two.1)

file_on : (per : ℕ) (at : Option (RelName × ℕ)) (a b c : List ℕ) → is_alike_file per at a b ≡ true → is_alike_file per at b c ≡ true → is_alike_file per at a c ≡ true
file_on per None a b c is so = (bytes_eq-Decides a c).1 ((bytes_eq-Decides a b).0 is ∙ (bytes_eq-Decides b c).0 so)
file_on per (Some at) a b c is so =
    let one = and_parts (length a == length b) (is_bounded per at.1 (length a)) is in
    let two = and_parts (length b == length c) (is_bounded per at.1 (length b)) so in
    and_both (length a == length c) (is_bounded per at.1 (length a)) (eq_yes (length a) (length c) (eq_is (length a) (length b) one.0 ∙ eq_is (length b) (length c) two.0)) one.1

like_left : (per : ℕ) (v : Bool) (at : Option (RelName × ℕ)) (a b : List ℕ) → (v || is_alike_file per at a b) ≡ true → (v || is_alike_file per at a a) ≡ true
like_left per true at a b is = refl
like_left per false at a b is = file_left per at a b is

like_back : (per : ℕ) (v : Bool) (at : Option (RelName × ℕ)) (a b : List ℕ) → (v || is_alike_file per at a b) ≡ true → (v || is_alike_file per at b a) ≡ true
like_back per true at a b is = refl
like_back per false at a b is = file_back per at a b is

like_on : (per : ℕ) (v : Bool) (at : Option (RelName × ℕ)) (a b c : List ℕ) → (v || is_alike_file per at a b) ≡ true → (v || is_alike_file per at b c) ≡ true → (v || is_alike_file per at a c) ≡ true
like_on per true at a b c is so = refl
like_on per false at a b c is so = file_on per at a b c is so

entry_left : (per : ℕ) (parts : List (List ℕ)) (o p : Option Entry) → AlikeEntries (is_alike per parts) o p → AlikeEntries (is_alike per parts) o o
entry_left per parts o p Neither = Neither
entry_left per parts o p (Folders bad) = Folders bad
entry_left per parts o p (Files a b is) = Files a a (like_left per (is_version (path_of false parts)) (relation_of (path_of false parts)) a b is)
entry_left per parts o p Links = Links

entry_back : (per : ℕ) (parts : List (List ℕ)) (o p : Option Entry) → AlikeEntries (is_alike per parts) o p → AlikeEntries (is_alike per parts) p o
entry_back per parts o p Neither = Neither
entry_back per parts o p (Folders bad) = Folders bad
entry_back per parts o p (Files a b is) = Files b a (like_back per (is_version (path_of false parts)) (relation_of (path_of false parts)) a b is)
entry_back per parts o p Links = Links

-- what is like a file is a file, with alike bytes
abbrev IsLikeFile : (per : ℕ) → List (List ℕ) → List ℕ → Option Entry → Type 0
IsLikeFile per parts a None = ⊥
IsLikeFile per parts a (Some (FolderEntry bad)) = ⊥
IsLikeFile per parts a (Some (FileEntry b)) = is_alike per parts a b ≡ true
IsLikeFile per parts a (Some LinkEntry) = ⊥

abbrev IsLikeEntry : (per : ℕ) → List (List ℕ) → Option Entry → Option Entry → Type 0
IsLikeEntry per parts None q = Unit {0}
IsLikeEntry per parts (Some (FolderEntry bad)) q = Unit {0}
IsLikeEntry per parts (Some (FileEntry a)) q = IsLikeFile per parts a q
IsLikeEntry per parts (Some LinkEntry) q = Unit {0}

like_file : (per : ℕ) (parts : List (List ℕ)) (o q : Option Entry) → AlikeEntries (is_alike per parts) o q → IsLikeEntry per parts o q
like_file per parts o q Neither = tt
like_file per parts o q (Folders bad) = tt
like_file per parts o q (Files a b is) = is
like_file per parts o q Links = tt

file_entry : (per : ℕ) (parts : List (List ℕ)) (a b : List ℕ) (q : Option Entry) → is_alike per parts a b ≡ true → IsLikeFile per parts b q → AlikeEntries (is_alike per parts) (Some (FileEntry a)) q
file_entry per parts a b None is so = absurd so
file_entry per parts a b (Some (FolderEntry bad)) is so = absurd so
file_entry per parts a b (Some (FileEntry c)) is so = Files a c (like_on per (is_version (path_of false parts)) (relation_of (path_of false parts)) a b c is so)
file_entry per parts a b (Some LinkEntry) is so = absurd so

entry_on : (per : ℕ) (parts : List (List ℕ)) (o p q : Option Entry) → AlikeEntries (is_alike per parts) o p → AlikeEntries (is_alike per parts) p q → AlikeEntries (is_alike per parts) o q
entry_on per parts o p q Neither so = so
entry_on per parts o p q (Folders bad) so = so
entry_on per parts o p q (Files a b is) so = file_entry per parts a b q is (like_file per parts (Some (FileEntry b)) q so)
entry_on per parts o p q Links so = so

-- ---- what keeps a cluster

-- the same paths and kinds stand below a root, and alike files; and no path is new
pub record Kept (per : ℕ) (root : PathValue) (c : Contents) (d : Contents) : Type 0 where
  pub alike : Alike (is_alike per) c root d root
  pub shrinks : Shrinks c d

-- each file that has a like one is like itself
abbrev pub IsOwn : (per : ℕ) → PathValue → Contents → Type 0
IsOwn per root c = Alike (is_alike per) c root c root

pub own-first : (per : ℕ) (c d : Contents) (root other : PathValue) → AlikeClusters per c root d other → IsOwn per root c
own-first per c d root other both parts = entry_left per parts (entry_at c (below root parts)) (entry_at d (below other parts)) (both.alike parts)

pub own-second : (per : ℕ) (c d : Contents) (root other : PathValue) → AlikeClusters per c root d other → IsOwn per other d
own-second per c d root other both parts =
    entry_left per parts (entry_at d (below other parts)) (entry_at c (below root parts)) (entry_back per parts (entry_at c (below root parts)) (entry_at d (below other parts)) (both.alike parts))

pub kept-same : (per : ℕ) (root : PathValue) (c : Contents) → IsOwn per root c → Kept per root c c
kept-same per root c own = record { alike = own; shrinks = λ q there. there }

-- two clusters that are kept stay alike
pub kept-both : (per : ℕ) (root other : PathValue) (c e d f : Contents) → Kept per root c e → Kept per other d f → AlikeClusters per c root d other → AlikeClusters per e root f other
kept-both per root other c e d f one two both = record {
  alike = λ parts.
      entry_on per parts (entry_at e (below root parts)) (entry_at c (below root parts)) (entry_at f (below other parts))
      (entry_back per parts (entry_at c (below root parts)) (entry_at e (below root parts)) (one.alike parts))
      (entry_on per parts (entry_at c (below root parts)) (entry_at d (below other parts)) (entry_at f (below other parts)) (both.alike parts) (two.alike parts));
  deep = ⊎_elim (λ same. inl same) (λ shallow. inr (shrinks-shallow root c e one.shrinks shallow.0, shrinks-shallow other d f two.shrinks shallow.1)) both.deep;
  room = both.room;
  other_room = both.other_room;
}

-- a file that is there, edited to alike bytes
held_some : (parts : List (List ℕ)) (o : Option Entry) (bytes : List ℕ) → or_root parts o ≡ Some (FileEntry bytes) → is_some o ≡ true
held_some parts (Some v) bytes e = refl
held_some [] None bytes e = absurd cc
held_some (part ∷ parts) None bytes e = absurd cc

pub kept-edited : (per : ℕ) (root path : PathValue) (parts : List (List ℕ)) (edit : List ℕ → List ℕ) (c : Contents) → IsOwn per root c → path ≡ below root parts → entry_at c path ≡ Some (FileEntry (bytes_at c path))
    → is_alike per parts (bytes_at c path) (edit (bytes_at c path)) ≡ true → Kept per root c (edited path edit c)
kept-edited per root path parts edit c own_files lies there like = record {
  alike = λ q. same_or_other (below root q) path
      (λ same.
      let own : q ≡ parts = append_cancel_left root.parts q parts (ap (λ (p : PathValue). p.parts) (same ∙ lies)) in
      let old : entry_at c (below root q) ≡ Some (FileEntry (bytes_at c path)) = ap (entry_at c) same ∙ there in
      let new : entry_at (edited path edit c) (below root q) ≡ Some (FileEntry (edit (bytes_at c path))) = ap (entry_at (edited path edit c)) same ∙ entry-put c path (FileEntry (edit (bytes_at c path))) in
      subst (λ o. AlikeEntries (is_alike per q) o (entry_at (edited path edit c) (below root q))) (sym old)
      (subst (λ o. AlikeEntries (is_alike per q) (Some (FileEntry (bytes_at c path))) o) (sym new)
      (Files (bytes_at c path) (edit (bytes_at c path)) (ap (λ l. is_alike per l (bytes_at c path) (edit (bytes_at c path))) own ∙ like))))
      (λ different.
      subst (λ o. AlikeEntries (is_alike per q) (entry_at c (below root q)) o) (sym (entry-put_other c path (below root q) (FileEntry (edit (bytes_at c path))) different))
      (own_files q));
  shrinks = λ q now. same_or_other q path
      (λ same. ap (λ p. is_some (get c p)) same ∙ held_some path.parts (get c path) (bytes_at c path) there)
      (λ different. ap is_some (sym (get-put_other c path q (FileEntry (edit (bytes_at c path))) different)) ∙ now);
}

-- ---- a file that has its block

entry_is : (o : Option Entry) → 0 < length (bytes_in o) → o ≡ Some (FileEntry (bytes_in o))
entry_is None h = absurd (omega (arith, h))
entry_is (Some (FolderEntry bad)) h = absurd (omega (arith, h))
entry_is (Some (FileEntry bytes)) h = refl
entry_is (Some LinkEntry) h = absurd (omega (arith, h))

grown-none : (n : ℕ) (bytes : List ℕ) → n * 8192 ≤ length bytes → grown n bytes ≡ bytes
grown-none n bytes l = rw (lt-no (length bytes / 8192) n (omega (arith, l))) refl

laid-size : (place : ℕ) (page bytes : List ℕ) → length page ≡ 8192 → place * 8192 + 8192 ≤ length bytes → length (block_laid place page bytes) ≡ length bytes
laid-size place page bytes size l =
    ap (λ b. length (splice (padded (place * 8192) b) (place * 8192) page)) (grown-none place bytes (omega (arith, l)))
    ∙ splice-size (padded (place * 8192) bytes) (place * 8192) page
    ∙ omega (arith, padded-size (place * 8192) bytes, size, l)

module _ (root : PathValue) (per : ℕ) (some : 0 < per) (name : BlockName) (small : IsBlock name) (c : Contents)
    (gapless : HasNoGap root per name.rel name.fork c) (there : is_some (block_in root per name c) ≡ true) where
  abbrev file : ℕ → PathValue
  file s = relation_file root name.rel name.fork s

  present : (block : ℕ) → block ≤ name.block → is_some (block_in root per (block_of name.rel name.fork block) c) ≡ true
  present block l = by_order block name.block
      (λ less. gapless block name.block less small.block there)
      (λ more. subst (λ b. is_some (block_in root per (block_of name.rel name.fork b) c) ≡ true) (let same : name.block ≡ block = omega (arith, l, more) in same) there)

  place : (block : ℕ) → block ≤ name.block → block % per * 8192 + 8192 ≤ length (bytes_at c (file (block / per)))
  place block l = (whole-is (block % per) (bytes_at c (file (block / per))) (present block l)).0

  -- a file before the block's is full
  full : (s : ℕ) → s < name.block / per → per * 8192 ≤ length (bytes_at c (file s))
  full s l =
      let last : ℕ = s * per + (per - 1) in
      let below_per : per - 1 < per = omega (arith, some) in
      let before : last < name.block = file-before per last name.block s (name.block / per) (per - 1) (name.block % per) (record { is = refl; few = below_per }) (its-place per name.block some) l in
      let at = place last (omega (arith, before)) in
      let of : last / per ≡ s = file-of per s (per - 1) below_per in
      let in_it : last % per ≡ per - 1 = place-of per s (per - 1) below_per in
      omega (arith, some, subst (λ q. q * 8192 + 8192 ≤ length (bytes_at c (file s))) in_it (subst (λ t. last % per * 8192 + 8192 ≤ length (bytes_at c (file t))) of at))

  asked : (s : ℕ) → 0 < length (bytes_at c (file s)) → size_asked (file_asked (file s) (entry_at c (file s))) ≡ Ok (Some (length (bytes_at c (file s))))
  asked s some_bytes = ap (λ o. size_asked (file_asked (file s) o)) (entry_is (entry_at c (file s)) some_bytes)

  edit_there : (s : ℕ) (edit : List ℕ → List ℕ) → 0 < length (bytes_at c (file s)) → file_edited root (file s) edit c ≡ Ok (edited (file s) edit c)
  edit_there s edit some_bytes = edited-on root (file s) edit c c (edited-there root (file s) c (length (bytes_at c (file s))) (asked s some_bytes))

  filled : (s : ℕ) → s < name.block / per → file_filled root per name.rel name.fork s c ≡ Ok c
  filled s l =
      let bytes : 0 < length (bytes_at c (file s)) = omega (arith, some, full s l) in
      edit_there s (grown per) bytes
      ∙ ap (λ b. Ok (insert c (file s) (FileEntry b))) (grown-none per (bytes_at c (file s)) (full s l))
      ∙ ap (λ x. Ok x) (put-same c (file s) (bytes_at c (file s)) (entry_is (entry_at c (file s)) bytes))

  fills_nothing : (count s : ℕ) → s + count ≤ name.block / per → files_filled root per name.rel name.fork count s c ≡ Ok c
  unfolding files_filled
  fills_nothing zero s l = refl
  fills_nothing (suc count) s l =
      ap (λ r. given r (files_filled root per name.rel name.fork count (s + 1))) (filled s (omega (arith, l)))
      ∙ fills_nothing count (s + 1) (omega (arith, l))

  own : name.block % per * 8192 + 8192 ≤ length (bytes_at c (file (name.block / per)))
  own = place name.block (omega arith)

  pub own-entry : entry_at c (relation_file root name.rel name.fork (name.block / per)) ≡ Some (FileEntry (bytes_at c (relation_file root name.rel name.fork (name.block / per))))
  own-entry = entry_is (entry_at c (file (name.block / per))) (omega (arith, own))

  -- a page in its place
  pub put-there : (page : List ℕ) → block_put root per name page c ≡ Ok (edited (relation_file root name.rel name.fork (name.block / per)) (block_laid (name.block % per) page) c)
  unfolding block_put
  put-there page =
      ap (λ r. given r (block_in_file root per name page)) (fills_nothing (name.block / per) 0 (omega arith))
      ∙ edit_there (name.block / per) (block_laid (name.block % per) page) (omega (arith, own))

  -- where its file is one of a main fork
  like_sized : (at : Option (RelName × ℕ)) (v : Bool) (a b : List ℕ) → is_some at ≡ true → length a ≡ length b → (v || is_alike_file per at a a) ≡ true → (v || is_alike_file per at a b) ≡ true
  like_sized None v a b h same own_like = absurd (true≢false (sym h))
  like_sized (Some at) true a b h same own_like = refl
  like_sized (Some at) false a b h same own_like =
      and_both (length a == length b) (is_bounded per at.1 (length a)) (eq_yes (length a) (length b) same) (and_parts (length a == length a) (is_bounded per at.1 (length a)) own_like).1

  pub kept-put : IsOwn per root c → (page : List ℕ) → length page ≡ 8192 → is_some (relation_of (path_of false (file_parts name.rel name.fork (name.block / per)))) ≡ true
      → Kept per root c (edited (relation_file root name.rel name.fork (name.block / per)) (block_laid (name.block % per) page) c)
  kept-put own_files page size main =
      let parts = file_parts name.rel name.fork (name.block / per) in
      let bytes = bytes_at c (file (name.block / per)) in
      let entry : entry_at c (below root parts) ≡ Some (FileEntry bytes) = ap (entry_at c) (sym (file-lies root name.rel name.fork (name.block / per))) ∙ own-entry in
      let own_like : is_alike per parts bytes bytes ≡ true = like_file per parts (Some (FileEntry bytes)) (Some (FileEntry bytes)) (subst (λ o. AlikeEntries (is_alike per parts) o o) entry (own_files parts)) in
      kept-edited per root (file (name.block / per)) parts (block_laid (name.block % per) page) c own_files (file-lies root name.rel name.fork (name.block / per)) own-entry
      (like_sized (relation_of (path_of false parts)) (is_version (path_of false parts)) bytes (block_laid (name.block % per) page bytes) main (sym (laid-size (name.block % per) page bytes size own)) own_like)

  -- the first file of the fork is there
  first_file : 0 < length (bytes_at c (file 0))
  first_file =
      let at = place 0 (omega arith) in
      let start : 0 * per + 0 ≡ 0 = omega arith in
      let of : 0 / per ≡ 0 = ap (λ n. n / per) (sym start) ∙ file-of per 0 0 some in
      omega (arith, subst (λ t. 0 % per * 8192 + 8192 ≤ length (bytes_at c (file t))) of at)

  pub created-there : created root name.rel name.fork c ≡ Ok c
  created-there = edited-there root (file 0) c (length (bytes_at c (file 0))) (asked 0 first_file)

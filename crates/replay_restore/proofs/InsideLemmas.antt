-- What lies in a folder that is listed is freed name by name, the last one first.
use Rattle.std.proofs.Common.{◌≡◌, ◌⊎◌, ℕ, zero, suc, ◌+◌, ◌-◌, ◌<◌, ◌≤◌, Bool, true, false, not, ◌&&◌, ◌||◌, List, [], ◌∷◌, ◌++◌, length, take, drop, bytes_eq, get_or, Option, None, Some, is_some, Ok, Err, refl, ap, sym, subst, ◌∙◌, inl, inr, true≢false, append_assoc, arith}
use Rattle.std.proofs.lemmas.List.{append-nil, append_cancel_left, length-append, length-take}
use Rattle.std.specs.Cmp.{tied_itself}
use Rattle.std.specs.Cmp.Lexicographic.{bytes_decides, nat_list_cmp_total, slice_cmp}
use Rattle.std.specs.FinMap.{get}
use Rattle.std.specs.List.{AllByRecursion, list_any}
use Rattle.std.specs.List.Sorted.{IsStrictlySortedBy}
use Rattle.std.specs.Ordering.{nat_cmp}
use Rattle.std.specs.declared.cmp.Ordering.TheVariants.{Less, Equal}
use Rattle.cluster_tree.specs.Apart.{is_held}
use Rattle.cluster_tree.specs.Contents.{Contents, Entry, FileEntry, FolderEntry, LinkEntry, IsTree, entry_at, is_folder, or_root}
use Rattle.cluster_tree.specs.Folders.{IsListing, names_in}
use Rattle.cluster_tree.specs.PathValue.{PathValue, below}
use Rattle.cluster_tree.specs.declared.file_fault.FileFault.{FileFault}
use Rattle.cluster_tree.specs.declared.file_fault.FileFault.TheVariants as fault
use Rattle.cluster_tree.proofs.HoldLemmas.{held-holds, holds-held}
use Rattle.cluster_tree.proofs.NamesLemmas.{names_listing}
use Rattle.cluster_tree.proofs.OrderLemmas.{same_path}
use Rattle.cluster_tree.proofs.RootLemmas.{held-below, holds-below}
use Rattle.file_edits.specs.Asking.{names_asked}
use Rattle.file_edits.proofs.ClearLemmas.{held-above, held-own, next}
use Rattle.file_edits.proofs.LawLemmas.{rootless}
use Rattle.replay_list.specs.declared.listed.Listed.{Listed}
use Rattle.replay_restore.specs.Freed.{HasFolders, IsBlocked, IsFreed, IsFreeing, goes}
use Rattle.replay_restore.specs.Listing.{has_folder, stays}
use Rattle.replay_restore.proofs.FreeLemmas.{by_bool, freed-from, freed-to, goes-is, is-goes, none-below}

-- ---- names

-- a path below two names has one of them
cut : (n : ℕ) (xs ys zs : List (List ℕ)) → take n xs ≡ ys → take n xs ≡ zs → ys ≡ zs
cut n xs ys zs a b = sym a ∙ b

first_of : List (List ℕ) → List ℕ
first_of [] = []
first_of (x ∷ xs) = x

same_name : (folder : PathValue) (name other : List ℕ) (q : PathValue) → is_held (below folder (name ∷ [])) q ≡ true → is_held (below folder (other ∷ [])) q ≡ true → name ≡ other
unfolding first_of
same_name folder name other q a b =
    let h = held-holds (below folder (name ∷ [])) q a in
    let k = held-holds (below folder (other ∷ [])) q b in
    let long : length (folder.parts ++ name ∷ []) ≡ length (folder.parts ++ other ∷ []) = omega (arith, length-append folder.parts (name ∷ []), length-append folder.parts (other ∷ [])) in
    ap first_of (append_cancel_left folder.parts (name ∷ []) (other ∷ []) (sym h.prefix ∙ ap (λ n. take n q.parts) long ∙ k.prefix))

pub names-apart : (folder : PathValue) (name other : List ℕ) (q : PathValue) → bytes_eq name other ≡ false → is_held (below folder (name ∷ [])) q ≡ true → is_held (below folder (other ∷ [])) q ≡ false
names-apart folder name other q differ held = by_bool (is_held (below folder (other ∷ [])) q)
    (λ also. absurd (true≢false (sym ((bytes_decides name other).1 (same_name folder name other q held also)) ∙ differ)))
    (λ off. off)

-- a listing has no name twice
later_other : (name : List ℕ) (names : List (List ℕ)) → AllByRecursion (λ y. slice_cmp nat_cmp name y ≡ Less) names → list_any (bytes_eq name) names ≡ false
later_other name [] above = refl
later_other name (other ∷ names) above = by_bool (bytes_eq name other)
    (λ same. let is = (bytes_decides name other).0 same in
    absurd (not_less (sym (tied_itself nat_list_cmp_total name) ∙ ap (slice_cmp nat_cmp name) is ∙ above.0)))
    (λ differ. ap (λ b. b || list_any (bytes_eq name) names) differ ∙ later_other name names above.1)
  where
    not_less : Equal ≡ Less → ⊥
    not_less e = absurd cc

sorted_drop : (k : ℕ) (names : List (List ℕ)) → IsStrictlySortedBy (slice_cmp nat_cmp) names → IsStrictlySortedBy (slice_cmp nat_cmp) (drop k names)
unfolding IsStrictlySortedBy
sorted_drop zero names sorted = sorted
sorted_drop (suc k) [] sorted = sorted
sorted_drop (suc k) (name ∷ names) sorted = sorted_drop k names sorted.1

head_other : (name : List ℕ) (names : List (List ℕ)) → IsStrictlySortedBy (slice_cmp nat_cmp) (name ∷ names) → list_any (bytes_eq name) names ≡ false
unfolding IsStrictlySortedBy
head_other name names sorted = later_other name names sorted.0

pub once : (c : Contents) (folder : PathValue) (names : List (List ℕ)) (k : ℕ) (name : List ℕ) (rest : List (List ℕ)) → IsListing c folder names → drop k names ≡ name ∷ rest → list_any (bytes_eq name) rest ≡ false
once c folder names k name rest listing is = head_other name rest (subst (IsStrictlySortedBy (slice_cmp nat_cmp)) is (sorted_drop k names listing.ascending))

-- ---- name by name

pub freeing-none : (listed : List Listed) (folder : PathValue) (c d : Contents) → d ≡ c → IsFreeing listed folder [] c d
freeing-none listed folder c d same = record {
  freed = λ name is. absurd (true≢false (sym is));
  left = λ name is q held. ap (λ x. entry_at x q) same;
}

module _ (listed : List Listed) (folder : PathValue) (done rest : List (List ℕ)) (name : List ℕ) (first now next : Contents) (freeing : IsFreeing listed folder rest first now) (is : done ≡ name ∷ rest) (other : list_any (bytes_eq name) rest ≡ false) where
  pub freeing-on : ((q : PathValue) → is_held (below folder (name ∷ [])) q ≡ false → entry_at next q ≡ entry_at now q) → IsFreed listed (below folder (name ∷ [])) now next → IsFreeing listed folder done first next
  freeing-on elsewhere here = record {
    freed = λ n among. by_bool (bytes_eq n name)
        (λ same. subst (λ m. IsFreed listed (below folder (m ∷ [])) first next) (sym ((bytes_decides n name).0 same))
        (freed-from listed (below folder (name ∷ [])) first now next (freeing.left name other) here))
        (λ differ. freed-to listed (below folder (n ∷ [])) first now next (λ q held. elsewhere q (names-apart folder n name q differ held))
        (freeing.freed n (ap (λ b. b || list_any (bytes_eq n) rest) (sym differ) ∙ sym (ap (list_any (bytes_eq n)) is) ∙ among)));
    left = λ n none q held.
        let neither = either (bytes_eq n name) (list_any (bytes_eq n) rest) (sym (ap (list_any (bytes_eq n)) is) ∙ none) in
        elsewhere q (names-apart folder n name q neither.0 held) ∙ freeing.left n neither.1 q held;
  }
    where
      either : (a b : Bool) → (a || b) ≡ false → (a ≡ false) × (b ≡ false)
      either true b h = absurd (true≢false h)
      either false b h = (refl, h)

  -- calls that free a name are among those that free the folder
  pub goes-above : (q : PathValue) → goes listed now (below folder (name ∷ [])) q ≡ true → goes listed first folder q ≡ true
  goes-above q e =
      let two = goes-is listed now (below folder (name ∷ [])) q e in
      is-goes listed first folder q (held-above folder name q two.0) (ap (stays listed q) (sym (freeing.left name other q two.0)) ∙ two.1)

-- a path below a folder is below a name
pub below-name : {P : Type 0} (folder q : PathValue) → is_held folder q ≡ true → (q ≡ folder → P) → ((name : List ℕ) → is_held (below folder (name ∷ [])) q ≡ true → P) → P
below-name {P} folder q held here deeper = by (drop (length folder.parts) q.parts) (held-below folder q (held-holds folder q held))
  where
    by : (more : List (List ℕ)) → q ≡ below folder more → P
    by [] is = here (is ∙ same_path _ _ refl (append-nil folder.parts))
    by (name ∷ more) is = deeper name (ap (is_held (below folder (name ∷ []))) (is ∙ same_path _ _ refl (sym (append_assoc folder.parts (name ∷ []) more))) ∙ holds-held _ _ (holds-below (below folder (name ∷ [])) more))

module _ (listed : List Listed) (folder : PathValue) (first : Contents) (tree : IsTree first) (some : 0 < length folder.parts) where
  -- what is left of what was there, while names are gone through
  pub freeing-fewer : (done : List (List ℕ)) (now : Contents) → IsFreeing listed folder done first now → ((q : PathValue) → goes listed first folder q ≡ false → entry_at now q ≡ entry_at first q) → entry_at now folder ≡ entry_at first folder
      → (q : PathValue) → is_held folder q ≡ true → (entry_at now q ≡ entry_at first q) ⊎ (entry_at now q ≡ None)
  freeing-fewer done now freeing elsewhere own q held = below-name folder q held
      (λ same. inl (ap (entry_at now) same ∙ own ∙ ap (entry_at first) (sym same)))
      (λ name lies. by_bool (list_any (bytes_eq name) done)
      (λ among. by_bool (goes listed first (below folder (name ∷ [])) q)
      (λ on. inr ((freeing.freed name among).gone q on))
      (λ off. inl (elsewhere q (by_bool (goes listed first folder q)
      (λ on. absurd (true≢false (sym (is-goes listed first (below folder (name ∷ [])) q lies (goes-is listed first folder q on).1) ∙ off)))
      (λ no_go. no_go)))))
      (λ none. inl (freeing.left name none q lies)))

  none_named : (names : List (List ℕ)) (name : List ℕ) (q : PathValue) → IsListing first folder names → list_any (bytes_eq name) names ≡ false → is_held (below folder (name ∷ [])) q ≡ true → entry_at first q ≡ None
  none_named names name q listing none lies =
      none-below first (below folder (name ∷ [])) q tree longer (no_entry (get first (below folder (name ∷ []))) (sym (listing.members name) ∙ none)) lies
    where
      longer : 0 < length (folder.parts ++ name ∷ [])
      longer = omega (arith, length-append folder.parts (name ∷ []))

      no_entry : (o : Option Entry) → is_some o ≡ false → or_root (folder.parts ++ name ∷ []) o ≡ None
      no_entry None e = rootless (folder.parts ++ name ∷ []) longer
      no_entry (Some v) e = absurd (true≢false e)

  -- at the end all is freed
  pub freeing-end : (names : List (List ℕ)) (now : Contents) → IsListing first folder names → IsFreeing listed folder names first now → has_folder listed folder ≡ true → entry_at first folder ≡ Some (FolderEntry false) → entry_at now folder ≡ entry_at first folder → IsFreed listed folder first now
  freeing-end names now listing freeing has is own = record {
    gone = λ q e.
        let two = goes-is listed first folder q e in
        below-name folder q two.0
        (λ same. absurd (true≢false (sym has ∙ ap (stays listed folder) (sym is) ∙ ap (λ p. stays listed p (entry_at first p)) (sym same) ∙ two.1)))
        (λ name lies. by_bool (list_any (bytes_eq name) names)
        (λ among. (freeing.freed name among).gone q (is-goes listed first (below folder (name ∷ [])) q lies two.1))
        (λ none. freeing.left name none q lies ∙ none_named names name q listing none lies));
    sound = λ q bad held stands. below-name folder q held
        (λ same. sound_is bad (sym is ∙ sym own ∙ ap (entry_at now) (sym same) ∙ stands))
        (λ name lies. by_bool (list_any (bytes_eq name) names)
        (λ among. (freeing.freed name among).sound q bad lies stands)
        (λ none. let nothing = sym (freeing.left name none q lies ∙ none_named names name q listing none lies) ∙ stands in absurd cc));
  }
    where
      sound_is : (bad : Bool) → Some (FolderEntry false) ≡ Some (FolderEntry bad) → bad ≡ false
      sound_is bad e = cc

-- ---- the names that a folder tells

pub asked-listing : (c : Contents) (path : PathValue) (o : Option Entry) (names : List (List ℕ)) → is_folder o ≡ true → names_asked c path o ≡ Ok names → IsListing c path names × (o ≡ Some (FolderEntry false))
asked-listing c path None names folder e = absurd (true≢false (sym folder))
asked-listing c path (Some (FolderEntry true)) names folder e = absurd cc
asked-listing c path (Some (FolderEntry false)) names folder e = let same : names_in c path ≡ names = cc in (subst (IsListing c path) same (names_listing c path), refl)
asked-listing c path (Some (FileEntry bytes)) names folder e = absurd (true≢false (sym folder))
asked-listing c path (Some LinkEntry) names folder e = absurd (true≢false (sym folder))

pub asked-blocked : (c : Contents) (path : PathValue) (o : Option Entry) (e : FileFault) → entry_at c path ≡ o → is_folder o ≡ true → names_asked c path o ≡ Err e → IsBlocked path c e
asked-blocked c path None e at folder is = absurd (true≢false (sym folder))
asked-blocked c path (Some (FolderEntry true)) e at folder is = let same : fault.NameNotText path ≡ e = cc in subst (IsBlocked path c) same (held-own path, at)
asked-blocked c path (Some (FolderEntry false)) e at folder is = absurd cc
asked-blocked c path (Some (FileEntry bytes)) e at folder is = absurd (true≢false (sym folder))
asked-blocked c path (Some LinkEntry) e at folder is = absurd (true≢false (sym folder))

pub folders-above : (listed : List Listed) (folder : PathValue) (name : List ℕ) → HasFolders listed folder → HasFolders listed (below folder (name ∷ []))
folders-above listed folder name folders path q held = folders path q (held-above folder name path held)

pub not-below : (folder : PathValue) (name : List ℕ) → is_held (below folder (name ∷ [])) folder ≡ false
not-below folder name = by_bool (is_held (below folder (name ∷ [])) folder)
    (λ e. let h = held-holds (below folder (name ∷ [])) folder e in
    absurd (omega (arith, length-append folder.parts (name ∷ []), length-take (length (folder.parts ++ name ∷ [])) folder.parts, ap length h.prefix)))
    (λ off. off)

pub next-name : (names : List (List ℕ)) (at : ℕ) (name : List ℕ) → 0 < at → at ≤ length names → name ≡ get_or names (at - 1) [] → drop (at - 1) names ≡ name ∷ drop at names
next-name names at name some within is =
    let back : (at - 1) + 1 ≡ at = omega (arith, some) in
    next names (at - 1) (omega (arith, some, within)) ∙ ap (λ n. get_or names (at - 1) [] ∷ drop n names) back ∙ ap (λ n. n ∷ drop at names) (sym is)

pub goes-off : (listed : List Listed) (c : Contents) (top q : PathValue) → is_held top q ≡ false → goes listed c top q ≡ false
goes-off listed c top q e = ap (λ b. b && not (stays listed q (entry_at c q))) e

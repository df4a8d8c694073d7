-- Places that are freed of what isn't listed.
use Rattle.std.proofs.Common.{◌≡◌, ◌≢◌, ◌⊎◌, ℕ, ◌<◌, Bool, true, false, not, ◌&&◌, ◌||◌, List, [], ◌∷◌, length, Option, None, Some, Ok, Err, refl, ap, sym, subst, ◌∙◌, inl, inr, ⊎_elim, true≢false}
use Rattle.std.proofs.lemmas.Bool.{or_left, or_right}
use Rattle.std.specs.FinMap.{remove}
use Rattle.cluster_tree.specs.Apart.{is_held}
use Rattle.cluster_tree.specs.Contents.{Contents, Entry, FileEntry, FolderEntry, LinkEntry, IsTree, entry_at, is_file, is_folder}
use Rattle.cluster_tree.specs.Causes.{given}
use Rattle.cluster_tree.specs.Folders.{remove_refusal}
use Rattle.cluster_tree.specs.Frame.{Came}
use Rattle.cluster_tree.specs.PathOrder.{path_eq}
use Rattle.cluster_tree.specs.PathValue.{PathValue, below}
use Rattle.cluster_tree.specs.declared.file_fault.FileFault.{FileFault}
use Rattle.cluster_tree.specs.declared.file_fault.FileFault.TheVariants as fault
use Rattle.cluster_tree.specs.declared.tree.Tree.{Ghosts}
use Rattle.cluster_tree.proofs.ContentsLemmas.{entry-removed, entry-removed_other}
use Rattle.cluster_tree.proofs.OrderLemmas.{path_eq-same}
use Rattle.cluster_tree.proofs.RunLemmas.{run_of}
use Rattle.cluster_tree.proofs.TreeLemmas.{removed-tree, same_or_other}
use Rattle.file_edits.specs.Answers.{IsFree}
use Rattle.file_edits.specs.Asking.{file_asked, folder_asked}
use Rattle.file_edits.specs.Clearing.{tree_removed}
use Rattle.file_edits.specs.Edits.{file_removed, without}
use Rattle.file_edits.specs.Own.{OnOwn, Same}
use Rattle.file_edits.proofs.ClearLemmas.{held-above, held-own, held-same, tree-absent, tree-empty}
use Rattle.file_edits.proofs.LawLemmas.{own-elsewhere, removed-elsewhere, removed-gone, rootless}
use Rattle.replay_list.specs.declared.listed.Listed.{Listed}
use Rattle.replay_restore.specs.Freed.{HasFolders, IsBlocked, IsFreed, IsHindered, IsHinderedIn, goes}
use Rattle.replay_restore.specs.Listing.{has_file, has_folder, stays}

-- what lies elsewhere is as it was
pub came-elsewhere : {F : Type 0} (t : Ghosts F) (own : PathValue → Bool) (a b : F) (q : PathValue) → Came t a b → OnOwn t.calls own a b → own q ≡ false → entry_at (t.contents b) q ≡ entry_at (t.contents a) q
came-elsewhere t own a b q came on away = own-elsewhere own _ _ q (run_of t a b came) (on (t.calls a) Same) away

-- ---- tests

both : (a b : Bool) → (a && b) ≡ true → (a ≡ true) × (b ≡ true)
both true b h = (refl, h)
both false b h = absurd (true≢false (sym h))

not_is : (b : Bool) → not b ≡ true → b ≡ false
not_is true h = absurd (true≢false (sym h))
not_is false h = refl

is_not : (b : Bool) → b ≡ false → not b ≡ true
is_not b h = ap not h

pub by_bool : {P : Type 0} (b : Bool) → (b ≡ true → P) → (b ≡ false → P) → P
by_bool true is_so not_so = is_so refl
by_bool false is_so not_so = not_so refl

or_is : {P : Type 0} (a b : Bool) → (a || b) ≡ true → (a ≡ true → P) → (b ≡ true → P) → P
or_is true b h left right = left refl
or_is false b h left right = right h

pub goes-is : (listed : List Listed) (c : Contents) (top q : PathValue) → goes listed c top q ≡ true → (is_held top q ≡ true) × (stays listed q (entry_at c q) ≡ false)
goes-is listed c top q e = let two = both (is_held top q) (not (stays listed q (entry_at c q))) e in (two.0, not_is _ two.1)

pub is-goes : (listed : List Listed) (c : Contents) (top q : PathValue) → is_held top q ≡ true → stays listed q (entry_at c q) ≡ false → goes listed c top q ≡ true
is-goes listed c top q held free = ap (λ b. b && not (stays listed q (entry_at c q))) held ∙ is_not _ free

-- ---- where nothing, or a file, stands

pub none-below : (c : Contents) (path q : PathValue) → IsTree c → 0 < length path.parts → entry_at c path ≡ None → is_held path q ≡ true → entry_at c q ≡ None
none-below c path q tree some none held = tree-empty path c c q tree some (tree-absent path c (ap (folder_asked path) none)) held

file-unrefused : (c : Contents) (path : PathValue) (o : Option Entry) → entry_at c path ≡ o → is_file o ≡ true → remove_refusal c path ≡ None
file-unrefused c path None at e = absurd (true≢false (sym e))
file-unrefused c path (Some (FolderEntry bad)) at e = absurd (true≢false (sym e))
file-unrefused c path (Some (FileEntry bytes)) at e = cc
file-unrefused c path (Some LinkEntry) at e = absurd (true≢false (sym e))

pub file-below : (c : Contents) (path q : PathValue) → IsTree c → 0 < length path.parts → is_file (entry_at c path) ≡ true → is_held path q ≡ true → q ≢ path → entry_at c q ≡ None
file-below c path q tree some file held other =
    sym (entry-removed_other c path q other)
    ∙ none-below (remove c path) path q (removed-tree c path tree (file-unrefused c path (entry_at c path) refl file)) some (entry-removed c path ∙ rootless path.parts some) held

file_stays : (listed : List Listed) (path : PathValue) (o : Option Entry) → is_file o ≡ true → stays listed path o ≡ has_file listed path
file_stays listed path None e = absurd (true≢false (sym e))
file_stays listed path (Some (FolderEntry bad)) e = absurd (true≢false (sym e))
file_stays listed path (Some (FileEntry bytes)) e = refl
file_stays listed path (Some LinkEntry) e = absurd (true≢false (sym e))

folder_stays : (listed : List Listed) (path : PathValue) (o : Option Entry) → is_folder o ≡ true → stays listed path o ≡ has_folder listed path
folder_stays listed path None e = absurd (true≢false (sym e))
folder_stays listed path (Some (FolderEntry bad)) e = refl
folder_stays listed path (Some (FileEntry bytes)) e = absurd (true≢false (sym e))
folder_stays listed path (Some LinkEntry) e = absurd (true≢false (sym e))

-- what stays is listed
stays_listed : (listed : List Listed) (path : PathValue) (o : Option Entry) → stays listed path o ≡ true → (has_folder listed path || has_file listed path) ≡ true
stays_listed listed path None e = absurd (true≢false (sym e))
stays_listed listed path (Some (FolderEntry bad)) e = or_left (has_folder listed path) (has_file listed path) e
stays_listed listed path (Some (FileEntry bytes)) e = or_right (has_folder listed path) (has_file listed path) e
stays_listed listed path (Some LinkEntry) e = absurd (true≢false (sym e))

no_folder_none : {P : Type 0} (bad : Bool) (o : Option Entry) → o ≡ None → o ≡ Some (FolderEntry bad) → P
no_folder_none bad o none is = let both_is = sym none ∙ is in absurd cc

no_folder_file : {P : Type 0} (bad : Bool) (o : Option Entry) → is_file o ≡ true → o ≡ Some (FolderEntry bad) → P
no_folder_file bad o file is = absurd (true≢false (sym file ∙ ap is_file is))

-- nothing was there
pub none-freed : (listed : List Listed) (path : PathValue) (c d : Contents) → IsTree c → 0 < length path.parts → entry_at c path ≡ None → d ≡ c → IsFreed listed path c d
none-freed listed path c d tree some none same = subst (IsFreed listed path c) (sym same) (record {
  gone = λ q e. none-below c path q tree some none (goes-is listed c path q e).0;
  sound = λ q bad held is. no_folder_none bad (entry_at c q) (none-below c path q tree some none held) is;
})

-- a file that is listed
pub file-kept : (listed : List Listed) (path : PathValue) (c : Contents) → IsTree c → 0 < length path.parts → is_file (entry_at c path) ≡ true → has_file listed path ≡ true → IsFreed listed path c c
file-kept listed path c tree some file has = record {
  gone = λ q e. let two = goes-is listed c path q e in same_or_other q path
      (λ same. absurd (true≢false (sym (file_stays listed path (entry_at c path) file ∙ has) ∙ ap (λ p. stays listed p (entry_at c p)) (sym same) ∙ two.1)))
      (λ other. file-below c path q tree some file two.0 other);
  sound = λ q bad held is. same_or_other q path
      (λ same. no_folder_file bad (entry_at c path) file (ap (entry_at c) (sym same) ∙ is))
      (λ other. no_folder_none bad (entry_at c q) (file-below c path q tree some file held other) is);
}

-- .. or isn't
pub file-freed : (listed : List Listed) (path : PathValue) (c d : Contents) → IsTree c → 0 < length path.parts → is_file (entry_at c path) ≡ true → file_removed path c ≡ Ok d → IsFreed listed path c d
file-freed listed path c d tree some file removed =
    let gone : (q : PathValue) → is_held path q ≡ true → entry_at d q ≡ None = λ q held. same_or_other q path
    (λ same. ap (entry_at d) same ∙ removed-gone path c d some removed)
    (λ other. removed-elsewhere path c d q removed other ∙ file-below c path q tree some file held other) in
    record {
      gone = λ q e. gone q (goes-is listed c path q e).0;
      sound = λ q bad held is. no_folder_none bad (entry_at d q) (gone q held) is;
    }

file_removes : (c : Contents) (path : PathValue) (o : Option Entry) (e : FileFault) → entry_at c path ≡ o → is_file o ≡ true → file_removed path c ≡ Err e → ⊥
unfolding file_removed
file_removes c path None e at file is = true≢false (sym file)
file_removes c path (Some (FolderEntry bad)) e at file is = true≢false (sym file)
file_removes c path (Some (FileEntry bytes)) e at file is = let done = sym (ap (λ o. given (file_asked path o) (without path c)) at) ∙ is in absurd cc
file_removes c path (Some LinkEntry) e at file is = true≢false (sym file)

pub file-free : (c : Contents) (path : PathValue) (e : FileFault) → is_file (entry_at c path) ≡ true → IsFree e ⊎ (file_removed path c ≡ Err e) → IsFree e
file-free c path e file (inl free) = free
file-free c path e file (inr is) = absurd (file_removes c path (entry_at c path) e refl file is)

pub file-goes : (listed : List Listed) (path : PathValue) (c : Contents) (q : PathValue) → is_file (entry_at c path) ≡ true → has_file listed path ≡ false → path_eq q path ≡ true → goes listed c path q ≡ true
file-goes listed path c q file has e =
    let same = path_eq-same q path e in
    is-goes listed c path q (held-same path q e) (ap (λ p. stays listed p (entry_at c p)) same ∙ file_stays listed path (entry_at c path) file ∙ has)

-- ---- a folder that isn't listed

-- nothing below it is
pub unlisted-goes : (listed : List Listed) (path : PathValue) (c : Contents) (q : PathValue) → HasFolders listed path → is_folder (entry_at c path) ≡ true → has_folder listed path ≡ false → is_held path q ≡ true → goes listed c path q ≡ true
unlisted-goes listed path c q folders folder has held = is-goes listed c path q held (by_bool (stays listed q (entry_at c q)) (λ told. absurd (true≢false (sym (here told) ∙ has))) (λ off. off))
  where
    here : stays listed q (entry_at c q) ≡ true → has_folder listed path ≡ true
    here told = by_bool (path_eq q path)
        (λ same. let is = path_eq-same q path same in sym (folder_stays listed path (entry_at c path) folder) ∙ ap (λ p. stays listed p (entry_at c p)) (sym is) ∙ told)
        (λ other. folders path q (held-own path) held other (stays_listed listed q (entry_at c q) told))

pub tree-freed : (listed : List Listed) (path : PathValue) (c d : Contents) → IsTree d → 0 < length path.parts → tree_removed path c ≡ Ok d → IsFreed listed path c d
tree-freed listed path c d tree some removed = record {
  gone = λ q e. tree-empty path c d q tree some removed (goes-is listed c path q e).0;
  sound = λ q bad held is. no_folder_none bad (entry_at d q) (tree-empty path c d q tree some removed held) is;
}

-- ---- from one moment on

pub freed-from : (listed : List Listed) (top : PathValue) (first now next : Contents) → ((q : PathValue) → is_held top q ≡ true → entry_at now q ≡ entry_at first q) → IsFreed listed top now next → IsFreed listed top first next
freed-from listed top first now next same freed = record {
  gone = λ q e. let two = goes-is listed first top q e in freed.gone q (is-goes listed now top q two.0 (ap (stays listed q) (same q two.0) ∙ two.1));
  sound = freed.sound;
}

pub freed-to : (listed : List Listed) (top : PathValue) (first now next : Contents) → ((q : PathValue) → is_held top q ≡ true → entry_at next q ≡ entry_at now q) → IsFreed listed top first now → IsFreed listed top first next
freed-to listed top first now next same freed = record {
  gone = λ q e. same q (goes-is listed first top q e).0 ∙ freed.gone q e;
  sound = λ q bad held is. freed.sound q bad held (sym (same q held) ∙ is);
}

-- ---- what is in the way

pub blocked-as : (top : PathValue) (c d : Contents) (e : FileFault) → ((q : PathValue) → is_held top q ≡ true → (entry_at d q ≡ entry_at c q) ⊎ (entry_at d q ≡ None)) → IsBlocked top d e → IsBlocked top c e
blocked-as top c d fault.ReadFault fewer b = b
blocked-as top c d fault.WriteFault fewer b = b
blocked-as top c d (fault.Link path) fewer b = (b.0, ⊎_elim (λ same. sym same ∙ b.1) (λ none. let no_entry = sym none ∙ b.1 in absurd cc) (fewer path b.0))
blocked-as top c d (fault.NotFolder path) fewer b = b
blocked-as top c d (fault.IsFolder path) fewer b = b
blocked-as top c d (fault.NameNotText path) fewer b = (b.0, ⊎_elim (λ same. sym same ∙ b.1) (λ none. let no_entry = sym none ∙ b.1 in absurd cc) (fewer path b.0))
blocked-as top c d (fault.TooDeep path) fewer b = (b.0, b.1, ⊎_elim (λ same. ap is_folder (sym same) ∙ b.2) (λ none. let no_entry = ap is_folder (sym none) ∙ b.2 in absurd (true≢false (sym no_entry))) (fewer path b.0))
blocked-as top c d (fault.Changed path) fewer b = b
blocked-as top c d fault.OutOfMemory fewer b = b

pub blocked-above : (folder : PathValue) (name : List ℕ) (c : Contents) (e : FileFault) → IsBlocked (below folder (name ∷ [])) c e → IsBlocked folder c e
blocked-above folder name c fault.ReadFault b = b
blocked-above folder name c fault.WriteFault b = b
blocked-above folder name c (fault.Link path) b = (held-above folder name path b.0, b.1)
blocked-above folder name c (fault.NotFolder path) b = b
blocked-above folder name c (fault.IsFolder path) b = b
blocked-above folder name c (fault.NameNotText path) b = (held-above folder name path b.0, b.1)
blocked-above folder name c (fault.TooDeep path) b = (held-above folder name path b.0, b.1, b.2)
blocked-above folder name c (fault.Changed path) b = b
blocked-above folder name c fault.OutOfMemory b = b

pub hindered-above : (folder : PathValue) (name : List ℕ) (c : Contents) (e : FileFault) → IsHindered (below folder (name ∷ [])) c e → IsHindered folder c e
hindered-above folder name c e (inl free) = inl free
hindered-above folder name c e (inr b) = inr (blocked-above folder name c e b)

pub hindered-in : (folder : PathValue) (name : List ℕ) (c : Contents) (e : FileFault) → is_folder (entry_at c folder) ≡ true → IsHinderedIn folder name c e → IsHindered folder c e
hindered-in folder name c e stands (inl h) = hindered-above folder name c e h
hindered-in folder name c e stands (inr deep) = inr (subst (IsBlocked folder c) (sym deep.1) (held-own folder, deep.0, stands))

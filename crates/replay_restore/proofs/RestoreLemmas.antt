-- All that is listed is brought back, once the areas are freed.
use Rattle.std.proofs.Common.{◌≡◌, ℕ, Bool, true, false, not, ◌&&◌, ◌||◌, List, [], ◌∷◌, Option, None, Some, refl, ap, ap₂, sym, subst, ◌∙◌, inl, inr, true≢false}
use Rattle.std.proofs.lemmas.Bool.{or_left, or_right}
use Rattle.cluster_tree.specs.Contents.{Contents, Entry, FileEntry, FolderEntry, LinkEntry, entry_at, is_file, is_folder}
use Rattle.cluster_tree.specs.PathOrder.{path_eq}
use Rattle.cluster_tree.specs.PathValue.{PathValue}
use Rattle.cluster_tree.specs.Tree.{bytes_in}
use Rattle.cluster_tree.specs.declared.file_fault.FileFault.TheVariants as fault
use Rattle.cluster_tree.proofs.OrderLemmas.{path_eq-own, path_eq-same}
use Rattle.replay_list.specs.Lines.{path_at}
use Rattle.replay_list.specs.declared.listed.Listed.{Listed}
use Rattle.replay_list.specs.declared.listed.Listed.TheVariants.{Folder, Page, File}
use Rattle.stored_replay.specs.Shadows.{shadow_at}
use Rattle.replay_restore.specs.Filled.{CanBringAll, Fits, has_path, with_all}
use Rattle.replay_restore.specs.Freed.{AreFreed, IsRefusal, goes_in}
use Rattle.replay_restore.specs.Listing.{has_file, has_folder, is_file_at, is_folder_at, is_restored_at, stays}
use Rattle.replay_restore.specs.Restored.{CanRestore, IsRestored}
use Rattle.replay_restore.proofs.FreeLemmas.{by_bool}
use Rattle.replay_restore.proofs.ReadyLemmas.{Distinct, Each, FitsAt, Placed, SameBytes, all-distinct, all-placed, brought-still, brought_none, can-all, else-some, filled-entry, lost_still, or_else, path-placed, root_off, shadow-off}

or_is : {P : Type 0} (a b : Bool) → (a || b) ≡ true → (a ≡ true → P) → (b ≡ true → P) → P
or_is true b h left right = left refl
or_is false b h left right = right h

-- ---- a path is listed as one thing

folder_path : (listed : List Listed) (q : PathValue) → has_folder listed q ≡ true → has_path listed q ≡ true
folder_path [] q is = absurd (true≢false (sym is))
folder_path (Folder at ∷ more) q is = or_is (path_eq q at) (has_folder more q) is (λ here. or_left (path_eq q at) (has_path more q) here) (λ there. or_right (path_eq q at) (has_path more q) (folder_path more q there))
folder_path (Page at size ∷ more) q is = or_right (path_eq q at) (has_path more q) (folder_path more q is)
folder_path (File at size ∷ more) q is = or_right (path_eq q at) (has_path more q) (folder_path more q is)

file_path : (listed : List Listed) (q : PathValue) → has_file listed q ≡ true → has_path listed q ≡ true
file_path [] q is = absurd (true≢false (sym is))
file_path (Folder at ∷ more) q is = or_right (path_eq q at) (has_path more q) (file_path more q is)
file_path (Page at size ∷ more) q is = or_is (path_eq q at) (has_file more q) is (λ here. or_left (path_eq q at) (has_path more q) here) (λ there. or_right (path_eq q at) (has_path more q) (file_path more q there))
file_path (File at size ∷ more) q is = or_is (path_eq q at) (has_file more q) is (λ here. or_left (path_eq q at) (has_path more q) here) (λ there. or_right (path_eq q at) (has_path more q) (file_path more q there))

kind_once : (listed : List Listed) (q : PathValue) → Distinct listed → has_folder listed q ≡ true → has_file listed q ≡ true → ⊥
kind_once [] q distinct folder file = true≢false (sym folder)
kind_once (Folder at ∷ more) q distinct folder file = or_is (path_eq q at) (has_folder more q) folder
    (λ here. distinct.0 q (file_path more q file) (path_eq-same q at here))
    (λ there. kind_once more q distinct.1 there file)
kind_once (Page at size ∷ more) q distinct folder file = or_is (path_eq q at) (has_file more q) file
    (λ here. distinct.0 q (folder_path more q folder) (path_eq-same q at here))
    (λ there. kind_once more q distinct.1 folder there)
kind_once (File at size ∷ more) q distinct folder file = or_is (path_eq q at) (has_file more q) file
    (λ here. distinct.0 q (folder_path more q folder) (path_eq-same q at here))
    (λ there. kind_once more q distinct.1 folder there)

-- each of a list is in it
abbrev Among : List Listed → Listed → Type 0
Among listed (Folder path) = has_folder listed path ≡ true
Among listed (Page path size) = has_file listed path ≡ true
Among listed (File path size) = has_file listed path ≡ true

further : (first : Listed) (more : List Listed) (one : Listed) → Among more one → Among (first ∷ more) one
further first more (Folder path) is = or_right (is_folder_at path first) (has_folder more path) is
further first more (Page path size) is = or_right (is_file_at path first) (has_file more path) is
further first more (File path size) is = or_right (is_file_at path first) (has_file more path) is

own : (one : Listed) (more : List Listed) → Among (one ∷ more) one
own (Folder path) more = or_left (path_eq path path) (has_folder more path) (path_eq-own path)
own (Page path size) more = or_left (path_eq path path) (has_file more path) (path_eq-own path)
own (File path size) more = or_left (path_eq path path) (has_file more path) (path_eq-own path)

amid : (listed rest : List Listed) → ((one : Listed) → Among rest one → Among listed one) → Each (Among listed) rest
amid listed [] wider = tt
amid listed (one ∷ more) wider = (wider one (own one more), amid listed more (λ other is. wider other (further one more other is)))

each_with : (P Q R : Listed → Type 0) → ((one : Listed) → P one → Q one → R one) → (listed : List Listed) → Each P listed → Each Q listed → Each R listed
each_with P Q R next [] ps qs = tt
each_with P Q R next (one ∷ more) ps qs = (next one ps.0 qs.0, each_with P Q R next more ps.1 qs.1)

stays_path : (listed : List Listed) (q : PathValue) (o : Option Entry) → stays listed q o ≡ true → has_path listed q ≡ true
stays_path listed q None e = absurd (true≢false (sym e))
stays_path listed q (Some (FolderEntry bad)) e = folder_path listed q e
stays_path listed q (Some (FileEntry bytes)) e = file_path listed q e
stays_path listed q (Some LinkEntry) e = absurd (true≢false (sym e))

not_off : (b : Bool) → not b ≡ false → b ≡ true
not_off true h = refl
not_off false h = absurd (true≢false h)

not_on : (b : Bool) → not b ≡ true → b ≡ false
not_on true h = absurd (true≢false (sym h))
not_on false h = refl

-- ---- from the first contents over the freed ones

module _ (root : PathValue) (listed : List Listed) (c d : Contents) (can : CanRestore root listed c) (freed : AreFreed listed root c d) (same : (q : PathValue) → goes_in listed c root q ≡ false → entry_at d q ≡ entry_at c q) where
  distinct : Distinct listed
  distinct = all-distinct root listed can.list.ascending

  placed : Each (Placed root) listed
  placed = all-placed root listed can.list.placed can.list.areas

  away : (q : PathValue) → is_restored_at root q ≡ false → entry_at d q ≡ entry_at c q
  away q off = same q (ap (λ b. b && not (stays listed q (entry_at c q))) off)

  shadows : (k : ℕ) → entry_at d (shadow_at root k) ≡ entry_at c (shadow_at root k)
  shadows k = away (shadow_at root k) (shadow-off root k)

  -- what stands at a path that is brought back: nothing, or what stays
  left : {P : Type 0} (q : PathValue) → is_restored_at root q ≡ true → (entry_at d q ≡ None → stays listed q (entry_at c q) ≡ false → P) → (entry_at d q ≡ entry_at c q → stays listed q (entry_at c q) ≡ true → P) → P
  left q on none stayed = by_bool (stays listed q (entry_at c q))
      (λ is. stayed (same q (ap₂ (λ a b. a && not b) on is)) is)
      (λ off. none (freed.gone q (ap₂ (λ a b. a && not b) on off)) off)

  fits_of : (one : Listed) (o : Option Entry) → entry_at d (path_at one) ≡ o → is_restored_at root (path_at one) ≡ true → stays listed (path_at one) o ≡ true → Among listed one → Fits one o
  fits_of (Folder path) None at on stay is = absurd (true≢false (sym stay))
  fits_of (Folder path) (Some (FolderEntry bad)) at on stay is = inr (ap (λ b. Some (FolderEntry b)) (freed.sound path bad on at))
  fits_of (Folder path) (Some (FileEntry bytes)) at on stay is = absurd (kind_once listed path distinct is stay)
  fits_of (Folder path) (Some LinkEntry) at on stay is = absurd (true≢false (sym stay))
  fits_of (Page path size) None at on stay is = tt
  fits_of (Page path size) (Some (FolderEntry bad)) at on stay is = absurd (kind_once listed path distinct stay is)
  fits_of (Page path size) (Some (FileEntry bytes)) at on stay is = tt
  fits_of (Page path size) (Some LinkEntry) at on stay is = absurd (true≢false (sym stay))
  fits_of (File path size) None at on stay is = tt
  fits_of (File path size) (Some (FolderEntry bad)) at on stay is = absurd (kind_once listed path distinct stay is)
  fits_of (File path size) (Some (FileEntry bytes)) at on stay is = tt
  fits_of (File path size) (Some LinkEntry) at on stay is = absurd (true≢false (sym stay))

  fits_none : (one : Listed) → Fits one None
  fits_none (Folder path) = inl refl
  fits_none (Page path size) = tt
  fits_none (File path size) = tt

  fits_one : (one : Listed) → Placed root one → Among listed one → FitsAt d one
  fits_one one on is = left (path_at one) on.0
      (λ none off. subst (Fits one) (sym none) (fits_none one))
      (λ kept stay. fits_of one (entry_at d (path_at one)) refl on.0 (ap (stays listed (path_at one)) kept ∙ stay) is)

  among : Each (Among listed) listed
  among = amid listed listed (λ one is. is)

  pub restore-can : CanBringAll root 0 listed d
  restore-can = can-all root 0 [] listed d can.closed (λ q is. absurd (true≢false (sym is))) (ap is_folder (away root (root_off root)) ∙ can.rooted) placed
      (each_with (Placed root) (Among listed) (FitsAt d) fits_one listed placed among)
      (lost_still root c d 0 listed shadows ∙ can.copies) distinct

  no_bytes : (path : PathValue) (o : Option Entry) → stays listed path o ≡ false → has_file listed path ≡ true → bytes_in o ≡ []
  no_bytes path None off is = refl
  no_bytes path (Some (FolderEntry bad)) off is = refl
  no_bytes path (Some (FileEntry bytes)) off is = absurd (true≢false (sym is ∙ off))
  no_bytes path (Some LinkEntry) off is = refl

  bytes_one : (one : Listed) → Placed root one → Among listed one → SameBytes c d one
  bytes_one (Folder path) on is = tt
  bytes_one (Page path size) on is = left path on.0
      (λ none off. ap bytes_in none ∙ sym (no_bytes path (entry_at c path) off is))
      (λ kept stay. ap bytes_in kept)
  bytes_one (File path size) on is = tt

  pub restore-done : (e : Contents) → with_all root 0 listed d ≡ e → IsRestored root listed c e
  restore-done e is = record {
    restored = λ q on.
        ap (λ x. entry_at x q) (sym is) ∙ filled-entry root 0 listed d q placed distinct
        ∙ by_bool (has_path listed q)
        (λ has. else-some root d 0 listed q (entry_at d q) has)
        (λ off. ap₂ or_else (brought_none root d 0 listed q off) (left q on (λ none gone. none) (λ kept stay. absurd (true≢false (sym (stays_path listed q (entry_at c q) stay) ∙ off)))) ∙ sym (brought_none root d 0 listed q off))
        ∙ brought-still root c d 0 listed q shadows (each_with (Placed root) (Among listed) (SameBytes c d) bytes_one listed placed among);
    elsewhere = λ q off.
        ap (λ x. entry_at x q) (sym is) ∙ filled-entry root 0 listed d q placed distinct
        ∙ ap (λ b. or_else b (entry_at d q)) (brought_none root d 0 listed q (by_bool (has_path listed q) (λ has. absurd (true≢false (sym (path-placed root listed q placed has) ∙ off))) (λ none. none)))
        ∙ away q off;
  }

pub paths-placed : (root : PathValue) (listed : List Listed) (c : Contents) (q : PathValue) → CanRestore root listed c → has_path listed q ≡ true → is_restored_at root q ≡ true
paths-placed root listed c q can is = path-placed root listed q (all-placed root listed can.list.placed can.list.areas) is

pub goes_in-restored : (root : PathValue) (listed : List Listed) (c : Contents) (q : PathValue) → goes_in listed c root q ≡ true → is_restored_at root q ≡ true
goes_in-restored root listed c q is = first (is_restored_at root q) (not (stays listed q (entry_at c q))) is
  where
    first : (a b : Bool) → (a && b) ≡ true → a ≡ true
    first true b h = refl
    first false b h = h

-- a file that is listed doesn't go
pub file-stays : (root : PathValue) (listed : List Listed) (c : Contents) (q : PathValue) → is_file (entry_at c q) ≡ true → has_file listed q ≡ true → goes_in listed c root q ≡ false
file-stays root listed c q file has = by (entry_at c q) file
  where
    off : (a : Bool) → (a && false) ≡ false
    off true = refl
    off false = refl

    by : (o : Option Entry) → is_file o ≡ true → (is_restored_at root q && not (stays listed q o)) ≡ false
    by None e = absurd (true≢false (sym e))
    by (Some (FolderEntry bad)) e = absurd (true≢false (sym e))
    by (Some (FileEntry bytes)) e = ap (λ b. is_restored_at root q && not b) has ∙ off (is_restored_at root q)
    by (Some LinkEntry) e = absurd (true≢false (sym e))

-- no refusal tells of a change
pub refusal-unchanged : (root : PathValue) (c : Contents) (p : PathValue) → IsRefusal root c (fault.Changed p) → ⊥
refusal-unchanged root c p (inl (inl e)) = absurd cc
refusal-unchanged root c p (inl (inr (inl e))) = absurd cc
refusal-unchanged root c p (inl (inr (inr (inl e)))) = absurd cc
refusal-unchanged root c p (inl (inr (inr (inr none)))) = none
refusal-unchanged root c p (inr (inl label)) = absurd (cc label.0)
refusal-unchanged root c p (inr (inr blocked)) = blocked.2

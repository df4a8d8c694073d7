-- Copies that are laid one after another.
use Rattle.std.proofs.Common.{◌≡◌, ◌≢◌, ◌⊎◌, ℕ, zero, suc, ◌+◌, ◌<◌, ◌≤◌, ◌^◌, true, false, List, [], ◌∷◌, length, Option, None, Some, is_some, Result, Ok, Err, OnOk, IfErr, refl, ap, sym, ◌∙◌, subst, inl, inr, ⊎_elim, true≢false, arith}
use Rattle.std.proofs.lemmas.Bool.{cases_lt}
use Rattle.std.proofs.lemmas.Bool.Decides.{nat_tests}
use Rattle.std.proofs.lemmas.List.Elements.{All-cons, All-head, All-nil, All-tail}
use Rattle.std.specs.FinMap.{insert}
use Rattle.std.specs.List.{All}
use Rattle.cluster_tree.specs.Apart.{is_held}
use Rattle.cluster_tree.specs.Causes.{given}
use Rattle.cluster_tree.specs.Contents.{Contents, Entry, FileEntry, FolderEntry, LinkEntry, entry_at, is_folder}
use Rattle.cluster_tree.specs.PathValue.{PathValue}
use Rattle.cluster_tree.specs.Tree.{bytes_at, bytes_in}
use Rattle.cluster_tree.specs.declared.file_fault.FileFault.{FileFault}
use Rattle.cluster_tree.proofs.ContentsLemmas.{entry-put, entry-put_other, put-put}
use Rattle.cluster_tree.proofs.TreeLemmas.{same_or_other}
use Rattle.file_edits.specs.Answers.{Does, IsFree}
use Rattle.file_edits.specs.Asking.{file_asked}
use Rattle.file_edits.specs.Edits.{edited, file_edited, way_for, way_made}
use Rattle.file_edits.proofs.WayLemmas.{way-begun, way-end}
use Rattle.piece_copies.proofs.AnswerLemmas.{done-is, why-free}
use Rattle.replay_list.specs.Lines.{files_after, files_behind}
use Rattle.replay_list.specs.declared.listed.Listed.{Listed}
use Rattle.replay_list.specs.declared.listed.Listed.TheVariants.{Folder, Page, File}
use Rattle.stored_replay.specs.Shadows.{is_sized, shadow_at, shadow_folder}
use Rattle.replay_copies.specs.Copying.{IsEmptied, IsOpen, IsOutside, with_copies, with_copy}
use Rattle.replay_copies.specs.Laid.{AreCopied, HasCopies, IsCopy, IsFound}
use Rattle.replay_copies.proofs.FolderLemmas.{folder-unrefused}
use Rattle.replay_copies.proofs.PathLemmas.{copies-apart, copy-is_held, copy-off_folder, copy-size, folder-size}

-- ---- one file

-- an empty copy is made
module _ (root : PathValue) (n : ℕ) (c : Contents) (small : n < 2 ^ 64) (opened : IsOpen root n c) where
  abbrev to : PathValue
  to = shadow_at root n

  none : entry_at c to ≡ None
  none = opened.free n (omega arith) small

  ready : way_made (shadow_folder root) to c ≡ Ok c
  ready =
      way-begun (shadow_folder root) to c (folder-unrefused (shadow_folder root) (entry_at c (shadow_folder root)) opened.folder)
      ∙ way-end (length (shadow_folder root).parts + 1) (length to.parts) to c (omega (arith, folder-size root, copy-size root n))

  pub empty-made : file_edited (shadow_folder root) to (λ bytes. bytes) c ≡ Ok (insert c to (FileEntry []))
  unfolding file_edited
  empty-made =
      ap (λ o. given (given (file_asked to o) (way_for (shadow_folder root) to c)) (λ d. Ok (edited to (λ bytes. bytes) d))) none
      ∙ ap (λ r. given r (λ d. Ok (edited to (λ bytes. bytes) d))) ready
      ∙ ap (λ o. Ok (insert c to (FileEntry (bytes_in o)))) none

  pub file-opened : (d : Contents) → file_edited (shadow_folder root) to (λ bytes. bytes) c ≡ Ok d → d ≡ insert c to (FileEntry [])
  file-opened d made = let both = sym empty-made ∙ made in cc

  module _ (from : PathValue) (bytes : List ℕ) (is : entry_at c from ≡ Some (FileEntry bytes)) where
    pub source-other : from ≢ to
    source-other same = let both = sym is ∙ ap (entry_at c) same ∙ none in absurd cc

    pub file-copied : (mid new : Contents) (r : Result (Unit {0}) FileFault) → mid ≡ insert c to (FileEntry [])
        → (entry_at mid from ≡ Some (FileEntry bytes) → from ≢ to → entry_at mid to ≡ Some (FileEntry []) → Does (Ok (insert mid to (FileEntry bytes))) new r) → Does (Ok (insert c to (FileEntry bytes))) new r
    file-copied mid new r made copies =
        subst (λ x. Does (Ok x) new r) (ap (λ x. insert x to (FileEntry bytes)) made ∙ put-put c to (FileEntry []) (FileEntry bytes))
        (copies (ap (λ x. entry_at x from) made ∙ entry-put_other c to from (FileEntry []) source-other ∙ is) source-other (ap (λ x. entry_at x to) made ∙ entry-put c to (FileEntry [])))

-- a file of a size
pub sized-file : (size : ℕ) (o : Option Entry) → is_sized size o ≡ true → (o ≡ Some (FileEntry (bytes_in o))) × (length (bytes_in o) ≡ size)
sized-file size None e = absurd (true≢false (sym e))
sized-file size (Some (FolderEntry bad)) e = absurd (true≢false (sym e))
sized-file size (Some (FileEntry bytes)) e = (refl, grind (arith, nat_tests))
sized-file size (Some LinkEntry) e = absurd (true≢false (sym e))

-- ---- what is found is elsewhere

found-other : (root : PathValue) (n : ℕ) (c : Contents) (path : PathValue) (size : ℕ) → entry_at c (shadow_at root n) ≡ None → is_sized size (entry_at c path) ≡ true → path ≢ shadow_at root n
found-other root n c path size none found same = let both = sym (sized-file size (entry_at c path) found).0 ∙ ap (entry_at c) same ∙ none in absurd cc

-- what stands at each listed file is as it was
abbrev pub IsSame : (old new : Contents) → Listed → Type 0
IsSame old new (Folder path) = Unit {0}
IsSame old new (Page path size) = Unit {0}
IsSame old new (File path size) = entry_at new path ≡ entry_at old path

pub found-still : (old new : Contents) (one : Listed) → IsSame old new one → IsFound old one → IsFound new one
found-still old new (Folder path) same found = tt
found-still old new (Page path size) same found = tt
found-still old new (File path size) same found = ap (is_sized size) same ∙ found

pub all-still : (old new : Contents) (listed : List Listed) → All (IsSame old new) listed → All (IsFound old) listed → All (IsFound new) listed
all-still old new [] same found = All-nil (IsFound new)
all-still old new (one ∷ more) same found =
    All-cons (IsFound new) one more (found-still old new one (All-head (IsSame old new) one more same) (All-head (IsFound old) one more found)) (all-still old new more (All-tail (IsSame old new) one more same) (All-tail (IsFound old) one more found))

pub all-same : (P : Listed → Type 0) (old new : Contents) (listed : List Listed) → ((one : Listed) → P one → IsSame old new one) → All P listed → All (IsSame old new) listed
all-same P old new [] each all = All-nil (IsSame old new)
all-same P old new (one ∷ more) each all = All-cons (IsSame old new) one more (each one (All-head P one more all)) (all-same P old new more each (All-tail P one more all))

pub copied-from : (root : PathValue) (old mid new : Contents) (files : ℕ) (listed : List Listed) → All (IsSame old mid) listed → AreCopied root mid new files listed → AreCopied root old new files listed
copied-from root old mid new files [] same copied = tt
copied-from root old mid new files (Folder path ∷ more) same copied = (tt, copied-from root old mid new files more (All-tail (IsSame old mid) _ more same) copied.1)
copied-from root old mid new files (Page path size ∷ more) same copied = (tt, copied-from root old mid new files more (All-tail (IsSame old mid) _ more same) copied.1)
copied-from root old mid new files (File path size ∷ more) same copied =
    (copied.0 ∙ All-head (IsSame old mid) (File path size) more same, copied-from root old mid new (suc files) more (All-tail (IsSame old mid) _ more same) copied.1)

-- ---- one after another

with-next : (root : PathValue) (files : ℕ) (one : Listed) (more : List Listed) (c : Contents) → with_copies root files (one ∷ more) c ≡ with_copies root (files_behind files one) more (with_copy root files one c)
unfolding with_copies
with-next root files one more c = refl

pub with-none : (root : PathValue) (files : ℕ) (c : Contents) → with_copies root files [] c ≡ c
unfolding with_copies
with-none root files c = refl

-- a copy takes none of the later ones' places
module _ (root : PathValue) (files : ℕ) (c : Contents) (small : files < 2 ^ 64) (opened : IsOpen root files c) where
  free-still : (path : PathValue) (k : ℕ) → suc files ≤ k → k < 2 ^ 64 → entry_at (insert c (shadow_at root files) (FileEntry (bytes_at c path))) (shadow_at root k) ≡ None
  free-still path k later little =
      entry-put_other c (shadow_at root files) (shadow_at root k) (FileEntry (bytes_at c path)) (λ same. omega (arith, later, copies-apart root k files little small same))
      ∙ opened.free k (omega (arith, later)) little

  pub still-open : (one : Listed) → IsOpen root (files_behind files one) (with_copy root files one c)
  still-open (Folder path) = opened
  still-open (Page path size) = opened
  still-open (File path size) = record {
    folder = ap is_folder (entry-put_other c (shadow_at root files) (shadow_folder root) (FileEntry (bytes_at c path)) (λ same. copy-off_folder root files (sym same))) ∙ opened.folder;
    free = free-still path;
  }

  copy-same : (one other : Listed) → IsFound c other → IsSame c (with_copy root files one c) other
  copy-same one (Folder path) found = tt
  copy-same one (Page path size) found = tt
  copy-same (Folder at) (File path size) found = refl
  copy-same (Page at n) (File path size) found = refl
  copy-same (File at n) (File path size) found = entry-put_other c (shadow_at root files) path (FileEntry (bytes_at c at)) (found-other root files c path size (opened.free files (omega arith) small) found)

  pub copies-same : (one : Listed) (more : List Listed) → All (IsFound c) more → All (IsSame c (with_copy root files one c)) more
  copies-same one more found = all-same (IsFound c) c (with_copy root files one c) more (copy-same one) found

-- what is still to be copied, and what all will be
pub record AreBehind (root : PathValue) (all rest : List Listed) (files : ℕ) (first now : Contents) : Type 0 where
  pub opened : IsOpen root files now
  pub found : All (IsFound now) rest
  pub same : with_copies root 0 all first ≡ with_copies root files rest now

pub behind-none : (root : PathValue) (all : List Listed) (first : Contents) → IsOpen root 0 first → All (IsFound first) all → AreBehind root all all 0 first first
behind-none root all first opened found = record { opened = opened; found = found; same = refl }

module _ (root : PathValue) (all rest : List Listed) (files : ℕ) (first now : Contents) (behind : AreBehind root all rest files first now) (small : files < 2 ^ 64) (one : Listed) (more : List Listed) (is : rest ≡ one ∷ more) where
  there : All (IsFound now) (one ∷ more)
  there = subst (All (IsFound now)) is behind.found

  pub behind-found : IsFound now one
  behind-found = All-head (IsFound now) one more there

  pub behind-on : (next : Contents) (count : ℕ) → next ≡ with_copy root files one now → count ≡ files_behind files one → AreBehind root all more count first next
  behind-on next count made counted =
      let rest_found = All-tail (IsFound now) one more there in
      subst (λ x. AreBehind root all more count first x) (sym made) (subst (λ n. AreBehind root all more n first (with_copy root files one now)) (sym counted) (record {
        opened = still-open root files now small behind.opened one;
        found = all-still now (with_copy root files one now) more (copies-same root files now small behind.opened one more rest_found) rest_found;
        same = behind.same ∙ ap (λ l. with_copies root files l now) is ∙ with-next root files one more now;
      }))

pub behind-all : (root : PathValue) (all rest : List Listed) (files : ℕ) (first now : Contents) → AreBehind root all rest files first now → rest ≡ [] → with_copies root 0 all first ≡ now
behind-all root all rest files first now behind is = behind.same ∙ ap (λ l. with_copies root files l now) is ∙ with-none root files now

-- ---- what all copies are

after-grows : (files : ℕ) (listed : List Listed) → files ≤ files_after files listed
after-grows files [] = omega arith
after-grows files (Folder path ∷ more) = after-grows files more
after-grows files (Page path size ∷ more) = after-grows files more
after-grows files (File path size ∷ more) = omega (arith, after-grows (suc files) more)

pub with-elsewhere : (root : PathValue) (files : ℕ) (listed : List Listed) (c : Contents) (q : PathValue) → ((k : ℕ) → files ≤ k → k < files_after files listed → q ≢ shadow_at root k) → entry_at (with_copies root files listed c) q ≡ entry_at c q
with-elsewhere root files [] c q off = ap (λ x. entry_at x q) (with-none root files c)
with-elsewhere root files (Folder path ∷ more) c q off = ap (λ x. entry_at x q) (with-next root files (Folder path) more c) ∙ with-elsewhere root files more c q off
with-elsewhere root files (Page path size ∷ more) c q off = ap (λ x. entry_at x q) (with-next root files (Page path size) more c) ∙ with-elsewhere root files more c q off
with-elsewhere root files (File path size ∷ more) c q off =
    ap (λ x. entry_at x q) (with-next root files (File path size) more c)
    ∙ with-elsewhere root (suc files) more _ q (λ k later before. off k (omega (arith, later)) before)
    ∙ entry-put_other c (shadow_at root files) q (FileEntry (bytes_at c path)) (off files (omega arith) (omega (arith, after-grows (suc files) more)))

pub with-copied : (root : PathValue) (files : ℕ) (listed : List Listed) (c : Contents) → IsOpen root files c → All (IsFound c) listed → files_after files listed ≤ 2 ^ 64 → AreCopied root c (with_copies root files listed c) files listed
with-copied root files [] c opened found counts = tt
with-copied root files (Folder path ∷ more) c opened found counts =
    (tt, subst (λ x. AreCopied root c x files more) (sym (with-next root files (Folder path) more c)) (with-copied root files more c opened (All-tail (IsFound c) _ more found) counts))
with-copied root files (Page path size ∷ more) c opened found counts =
    (tt, subst (λ x. AreCopied root c x files more) (sym (with-next root files (Page path size) more c)) (with-copied root files more c opened (All-tail (IsFound c) _ more found) counts))
with-copied root files (File path size ∷ more) c opened found counts =
    let small : files < 2 ^ 64 = omega (arith, counts, after-grows (suc files) more) in
    let d : Contents = with_copy root files (File path size) c in
    let rest_found = All-tail (IsFound c) (File path size) more found in
    let same = copies-same root files c small opened (File path size) more rest_found in
    let first : entry_at (with_copies root (suc files) more d) (shadow_at root files) ≡ entry_at c path
    = with-elsewhere root (suc files) more d (shadow_at root files) (λ k later before is. omega (arith, later, copies-apart root files k small (omega (arith, before, counts)) is))
    ∙ entry-put c (shadow_at root files) (FileEntry (bytes_at c path)) ∙ sym (sized-file size (entry_at c path) (All-head (IsFound c) (File path size) more found)).0 in
    let rest = copied-from root c d (with_copies root (suc files) more d) (suc files) more same (with-copied root (suc files) more d (still-open root files c small opened (File path size)) (all-still c d more same rest_found) counts) in
    subst (λ x. AreCopied root c x files (File path size ∷ more)) (sym (with-next root files (File path size) more c)) (first, rest)

-- ---- in a folder that was emptied

pub emptied-open : (root : PathValue) (c : Contents) → IsEmptied root c → IsOpen root 0 c
emptied-open root c emptied = record {
  folder = ap is_folder emptied.folder;
  free = λ k later small. emptied.none (shadow_at root k) (copy-is_held root k) (copy-off_folder root k);
}

below-or : (k count : ℕ) → k < suc count → (k < count) ⊎ (k ≡ count)
below-or k count before = ⊎_elim (λ (lt : k < count). inl lt) (λ (past : count ≤ k). inr (omega (arith, before, past))) (cases_lt k count)

-- a path is one of so many copies, or none
which-copy : (root q : PathValue) (count : ℕ) → IsCopy root count q ⊎ ((k : ℕ) → k < count → q ≢ shadow_at root k)
which-copy root q zero = inr (λ k before same. omega (arith, before))
which-copy root q (suc count) = same_or_other q (shadow_at root count)
    (λ same. inl (count, omega arith, same))
    (λ other. ⊎_elim (λ (at : IsCopy root count q). inl (at.0, omega (arith, at.1), at.2))
    (λ off. inr (λ k before same. ⊎_elim (λ (lt : k < count). off k lt same) (λ (last : k ≡ count). other (same ∙ ap (shadow_at root) last)) (below-or k count before)))
    (which-copy root q count))

module _ (root : PathValue) (listed : List Listed) (old mid new : Contents) (emptied : IsEmptied root mid) (same : All (IsSame old mid) listed) (found : All (IsFound mid) listed) (counts : files_after 0 listed ≤ 2 ^ 64) (is : with_copies root 0 listed mid ≡ new) where
  elsewhere : (q : PathValue) → ((k : ℕ) → k < files_after 0 listed → q ≢ shadow_at root k) → entry_at new q ≡ entry_at mid q
  elsewhere q off = ap (λ x. entry_at x q) (sym is) ∙ with-elsewhere root 0 listed mid q (λ k later before. off k before)

  only : (q : PathValue) → is_held (shadow_folder root) q ≡ true → is_some (entry_at new q) ≡ true → (q ≡ shadow_folder root) ⊎ IsCopy root (files_after 0 listed) q
  only q held some = same_or_other q (shadow_folder root) (λ at. inl at) (λ other. ⊎_elim (λ copy. inr copy)
      (λ off. absurd (true≢false (sym some ∙ ap is_some (elsewhere q off ∙ emptied.none q held other))))
      (which-copy root q (files_after 0 listed)))

  pub copies-laid : HasCopies root listed old new
  copies-laid = record {
    folder = elsewhere (shadow_folder root) (λ k before at. copy-off_folder root k (sym at)) ∙ emptied.folder;
    copied = subst (λ x. AreCopied root old x 0 listed) is (copied-from root old mid (with_copies root 0 listed mid) 0 listed same (with-copied root 0 listed mid (emptied-open root mid emptied) found counts));
    only = only;
  }

-- what lies outside the folder is the same where only calls in it came
outside-each : (root : PathValue) (old mid : Contents) → ((q : PathValue) → is_held (shadow_folder root) q ≡ false → entry_at mid q ≡ entry_at old q) → (one : Listed) → IsOutside root one → IsSame old mid one
outside-each root old mid elsewhere (Folder path) off = tt
outside-each root old mid elsewhere (Page path size) off = tt
outside-each root old mid elsewhere (File path size) off = elsewhere path off

pub outside-same : (root : PathValue) (old mid : Contents) (listed : List Listed) → ((q : PathValue) → is_held (shadow_folder root) q ≡ false → entry_at mid q ≡ entry_at old q) → All (IsOutside root) listed → All (IsSame old mid) listed
outside-same root old mid listed elsewhere outside = all-same (IsOutside root) old mid listed (outside-each root old mid elsewhere) outside

-- ---- answers where nothing is to be refused

pub on-done : {P : Type 0} (meant new : Contents) (r : Result (Unit {0}) FileFault) → Does (Ok meant) new r → (meant ≡ new → P) → OnOk r P
on-done meant new (Ok u) done next = next (sym (done-is meant new done))
on-done meant new (Err e) done next = tt

pub if-refused : (P : FileFault → Type 0) (meant new : Contents) (r : Result (Unit {0}) FileFault) → Does (Ok meant) new r → ((e : FileFault) → IsFree e → P e) → IfErr r P
if-refused P meant new (Ok u) done free = tt
if-refused P meant new (Err e) done free = free e (why-free meant (Ok meant) e refl done)

-- From what a call of the tree answered to the page at a position.
use Rattle.std.proofs.Common.{◌≡◌, ℕ, ◌+◌, ◌%◌, ◌^◌, ◌<◌, ◌⊎◌, Bool, true, false, cond, nat_lt, List, [], ◌∷◌, take, drop, length, Option, Some, None, Result, Ok, Err, IfErr, refl, ap, sym, subst, ◌∙◌, inl, inr, arith}
use Rattle.std.specs.Prelude.{if◌then◌else◌}
use Rattle.std.proofs.lemmas.Bool.Decides.{nat_tests}
use Rattle.cluster_tree.specs.PathValue.{PathValue, below}
use Rattle.cluster_tree.specs.Contents.{Contents, Entry, FolderEntry, FileEntry, LinkEntry, entry_at}
use Rattle.cluster_tree.specs.Tree.{file_of, range_of}
use Rattle.std.specs.Result.{IsErr, IsErrAnd}
use Rattle.cluster_tree.specs.Causes.{given, IsAmong, Meets}
use Rattle.cluster_tree.specs.declared.tree.TreeFault.{TreeFault}
use Rattle.cluster_tree.specs.declared.tree.TreeFault.TheVariants as tree
use Rattle.wal_base.specs.Segment.{bytes_of, name_of}
use Rattle.wal_base.specs.declared.segment.Segment.{Segment}
use Rattle.wal_pages.specs.declared.log_path.LogPath.{LogPath}
use Rattle.wal_pages.specs.declared.fault.PageFault.{PageFault}
use Rattle.wal_pages.specs.declared.fault.PageFault.TheVariants as fault
use Rattle.wal_pages.specs.Folder.{Folder, file_in, folder_of}
use Rattle.wal_pages.specs.LogBytes.{segment_at, segment_bytes}
use Rattle.wal_pages.specs.ValidPage.{first_bad_field}
use Rattle.wal_pages.specs.Page.{Refusal, Short, bytes_from, unless_bad, page_at, told, answer_of, IsFree, NamesPage}

ok_within : (b : Bool) (e : TreeFault) (x y : List ℕ) → cond b (Err e) (Ok x) ≡ Ok y → (b ≡ false) × (x ≡ y)
ok_within true e x y h = absurd cc
ok_within false e x y h = (refl, cc)

err_past : (b : Bool) (e f : TreeFault) (x : List ℕ) → cond b (Err e) (Ok x) ≡ Err f → (b ≡ true) × (e ≡ f)
err_past true e f x h = (refl, cc)
err_past false e f x h = absurd cc

-- a range that was read
pub read_found : (segment : Segment) (entry : Option Entry) (offset n : ℕ) (page : List ℕ) → n ≡ 8192 → range_of (file_of entry) offset n ≡ Ok page → bytes_from segment offset (file_in entry) ≡ Ok page
read_found segment None offset n page is h = absurd cc
read_found segment (Some (FolderEntry b)) offset n page is h = absurd cc
read_found segment (Some LinkEntry) offset n page is h = absurd cc
read_found segment (Some (FileEntry bytes)) offset n page is h =
    let whole : range_of (Ok bytes) offset 8192 ≡ Ok page = sym (ap (λ n. range_of (Ok bytes) offset n) is) ∙ h in
    let e = ok_within (nat_lt (length bytes) (offset + 8192)) tree.PastEnd (take 8192 (drop offset bytes)) page whole in
    ap (λ b. if b then Err (Short segment) else Ok (take 8192 (drop offset bytes))) e.0 ∙ ap Ok e.1

-- and one that wasn't
pub read_past : (segment : Segment) (entry : Option Entry) (offset n : ℕ) → n ≡ 8192 → range_of (file_of entry) offset n ≡ Err tree.PastEnd → told (bytes_from segment offset (file_in entry)) ≡ Err (fault.ShortSegment segment)
read_past segment None offset n is h = absurd cc
read_past segment (Some (FolderEntry b)) offset n is h = absurd cc
read_past segment (Some LinkEntry) offset n is h = absurd cc
read_past segment (Some (FileEntry bytes)) offset n is h =
    let whole : range_of (Ok bytes) offset 8192 ≡ Err tree.PastEnd = sym (ap (λ n. range_of (Ok bytes) offset n) is) ∙ h in
    let e = err_past (nat_lt (length bytes) (offset + 8192)) tree.PastEnd tree.PastEnd (take 8192 (drop offset bytes)) whole in
    ap (λ b. told (if b then Err (Short segment) else Ok (take 8192 (drop offset bytes)))) e.0

pub read_missing : (segment : Segment) (entry : Option Entry) (offset n : ℕ) (e : TreeFault) → (e ≡ tree.PastEnd → ⊥) → range_of (file_of entry) offset n ≡ Err e → told (bytes_from segment offset (file_in entry)) ≡ Err (fault.SegmentMissing segment)
read_missing segment None offset n e other h = refl
read_missing segment (Some (FolderEntry b)) offset n e other h = refl
read_missing segment (Some LinkEntry) offset n e other h = refl
read_missing segment (Some (FileEntry bytes)) offset n e other h =
    absurd (other (sym (err_past (nat_lt (length bytes) (offset + n)) tree.PastEnd e (take n (drop offset bytes)) h).1))

-- the file of a segment is that of its name in the folder
pub file_bytes : (log : LogPath) (c : Contents) (path : PathValue) (segment : Segment) (at : ℕ) → at < 2 ^ 64 → segment ≡ segment_at log at → path ≡ below log.folder (name_of segment ∷ []) → segment_bytes log (folder_of c log.folder) at ≡ file_in (entry_at c path)
file_bytes log c path segment at h is named =
    let here : nat_lt at (2 ^ 64) ≡ true = grind (arith, nat_tests, h) in
    ap (λ b. if b then folder_of c log.folder (name_of (segment_at log at)) else None) here
    ∙ sym (ap (λ s. file_in (entry_at c (below log.folder (name_of s ∷ [])))) is)
    ∙ sym (ap (λ p. file_in (entry_at c p)) named)

-- the page at a position from the bytes of its file
page_from : (log : LogPath) (files : Folder) (at offset : ℕ) (segment : Segment) (bytes : Option (List ℕ)) → segment ≡ segment_at log at → offset ≡ at % bytes_of log.size → segment_bytes log files at ≡ bytes → page_at log files at ≡ given (bytes_from segment offset bytes) (λ page. unless_bad at page (first_bad_field log at page))
unfolding page_at
page_from log files at offset segment bytes is there e =
    ap (λ b. given (bytes_from (segment_at log at) (at % bytes_of log.size) b) (λ page. unless_bad at page (first_bad_field log at page))) e
    ∙ sym (ap (λ s. given (bytes_from s (at % bytes_of log.size) bytes) (λ page. unless_bad at page (first_bad_field log at page))) is)
    ∙ sym (ap (λ o. given (bytes_from segment o bytes) (λ page. unless_bad at page (first_bad_field log at page))) there)

-- a page that was read is the page at its position, unless it breaks a rule
pub page_read : (log : LogPath) (files : Folder) (at offset : ℕ) (segment : Segment) (bytes : Option (List ℕ)) (page : List ℕ) → segment ≡ segment_at log at → offset ≡ at % bytes_of log.size → segment_bytes log files at ≡ bytes → bytes_from segment offset bytes ≡ Ok page → page_at log files at ≡ unless_bad at page (first_bad_field log at page)
page_read log files at offset segment bytes page is there e found =
    page_from log files at offset segment bytes is there e ∙ ap (λ r. given r (λ page. unless_bad at page (first_bad_field log at page))) found

told_given : (r : Result (List ℕ) Refusal) (k : List ℕ → Result (List ℕ) Refusal) (e : PageFault) → told r ≡ Err e → answer_of (given r k) ≡ Err e
told_given (Ok page) k e h = absurd cc
told_given (Err refusal) k e h = cc

-- and why there is none
pub page_refused : (log : LogPath) (files : Folder) (at offset : ℕ) (segment : Segment) (bytes : Option (List ℕ)) (e : PageFault) → segment ≡ segment_at log at → offset ≡ at % bytes_of log.size → segment_bytes log files at ≡ bytes → told (bytes_from segment offset bytes) ≡ Err e → answer_of (page_at log files at) ≡ Err e
page_refused log files at offset segment bytes e is there b refused =
    ap answer_of (page_from log files at offset segment bytes is there b)
    ∙ told_given (bytes_from segment offset bytes) (λ page. unless_bad at page (first_bad_field log at page)) e refused

-- a refused read as the answer
pub refused_meets : (log : LogPath) (files : Folder) (at offset : ℕ) (segment : Segment) (bytes : Option (List ℕ)) (e : PageFault) → segment ≡ segment_at log at → offset ≡ at % bytes_of log.size → segment_bytes log files at ≡ bytes → (e ≡ fault.ReadFault) ⊎ (told (bytes_from segment offset bytes) ≡ Err e) → IsFree e ⊎ (answer_of (page_at log files at) ≡ Err e)
refused_meets log files at offset segment bytes e is there b (inl failed) = inl (inl failed)
refused_meets log files at offset segment bytes e is there b (inr refused) = inr (page_refused log files at offset segment bytes e is there b refused)

-- handed on
pub from_meets : {A : Type 0} (r : Result A PageFault) (e : PageFault) (meant : Result A PageFault) → IsErr r → IsErrAnd r (λ x. x ≡ e) → IsFree e ⊎ (meant ≡ Err e) → Meets IsFree meant r
from_meets (Ok v) e meant err is h = absurd cc
from_meets (Err x) e meant err is h = subst (λ y. IsFree y ⊎ (meant ≡ Err y)) (sym is) h

names_of : (e : PageFault) (log : LogPath) (at : ℕ) (segment : Segment) → segment ≡ segment_at log at → IsAmong (fault.ReadFault ∷ fault.ShortSegment segment ∷ fault.SegmentMissing segment ∷ []) e → NamesPage log at e
names_of e log at segment is (inl same) = subst (NamesPage log at) (sym same) tt
names_of e log at segment is (inr (inl same)) = subst (NamesPage log at) (sym same) is
names_of e log at segment is (inr (inr (inl same))) = subst (NamesPage log at) (sym same) is
names_of e log at segment is (inr (inr (inr none))) = absurd none

-- what a refused read names
pub row_names : {A : Type 0} (r : Result A PageFault) (e : PageFault) (log : LogPath) (at : ℕ) (segment : Segment) → segment ≡ segment_at log at → IsErrAnd r (λ x. x ≡ e) → IsAmong (fault.ReadFault ∷ fault.ShortSegment segment ∷ fault.SegmentMissing segment ∷ []) e → IfErr r (NamesPage log at)
row_names (Ok v) e log at segment is same among = tt
row_names (Err x) e log at segment is same among = subst (NamesPage log at) (sym same) (names_of e log at segment is among)

-- Files of main forks that are given their sizes.
use Rattle.std.proofs.Common.{◌≡◌, ◌⊎◌, ◌-◌, ◌<◌, ◌≤◌, ℕ, true, [], ◌++◌, length, replicate, take, None, Some, Ok, Err, Result, Option, refl, ap, sym, ◌∙◌, inl, inr, arith}
use Rattle.cluster_tree.specs.declared.file_fault.FileFault.{FileFault}
use Rattle.file_edits.specs.Answers.{Does, IsFree}
use Rattle.file_edits.proofs.AnswerLemmas.{does-is}
use Rattle.std.proofs.lemmas.Grind.{common_steps}
use Rattle.std.proofs.lemmas.List.{append-nil, take_all}
use Rattle.cluster_tree.specs.Contents.{Contents, Entry, FileEntry, FolderEntry, LinkEntry, entry_at, is_folder, parent}
use Rattle.cluster_tree.specs.PathValue.{PathValue}
use Rattle.cluster_tree.specs.Tree.{bytes_in, cut_refusal, file_of, make_refusal, size_of, shortened}
use Rattle.file_edits.specs.Asking.{file_asked, size_asked}
use Rattle.file_edits.specs.Edits.{edited, padded}
use Rattle.file_edits.proofs.EditLemmas.{none_is, past_end, size_is, size-there}
use Rattle.file_edits.proofs.WayLemmas.{unrefused}
use Rattle.cluster_tree.proofs.ContentsLemmas.{entry-put, put-put}
use Rattle.replay_restore.specs.Filled.{FitsFile, resized}
use Rattle.std.specs.FinMap.{insert}

-- a longer file is cut
pub resized-cut : (path : PathValue) (c : Contents) (there size : ℕ) → size_of (file_of (entry_at c path)) ≡ Ok there → size < there → edited path (resized size) c ≡ shortened c path size
resized-cut path c there size is longer =
    let whole = size_is (entry_at c path) there is in
    let bytes = bytes_in (entry_at c path) in
    let none : size - length (take size bytes) ≡ 0 = grind (arith, common_steps) in
    ap (λ k. insert c path (FileEntry (take size bytes ++ replicate k 0))) none
    ∙ ap (λ b. insert c path (FileEntry b)) (append-nil (take size bytes))

pub cut-unrefused : (path : PathValue) (c : Contents) (there size : ℕ) → size_of (file_of (entry_at c path)) ≡ Ok there → size < there → cut_refusal c path size ≡ None
cut-unrefused path c there size is longer = past_end (entry_at c path) there size is (omega (arith, longer))

-- a shorter one gets zeros
pub resized-padded : (path : PathValue) (c : Contents) (there size : ℕ) → size_of (file_of (entry_at c path)) ≡ Ok there → there ≤ size → edited path (resized size) c ≡ edited path (padded size) c
resized-padded path c there size is shorter =
    let whole = size_is (entry_at c path) there is in
    ap (λ b. insert c path (FileEntry (padded size b))) (take_all size (bytes_in (entry_at c path)) (omega (arith, whole, shorter)))

take_none : (n : ℕ) → take {A = ℕ} n [] ≡ []
take_none n = take_all n [] (omega arith)

-- and an empty one that was made too
pub resized-new : (path : PathValue) (c : Contents) (size : ℕ) → entry_at c path ≡ None → edited path (padded size) (insert c path (FileEntry [])) ≡ edited path (resized size) c
resized-new path c size none =
    ap (λ o. insert (insert c path (FileEntry [])) path (FileEntry (padded size (bytes_in o)))) (entry-put c path (FileEntry []))
    ∙ put-put c path (FileEntry []) (FileEntry (padded size []))
    ∙ ap (λ b. insert c path (FileEntry (padded size b))) (sym (take_none size))
    ∙ sym (ap (λ o. insert c path (FileEntry (resized size (bytes_in o)))) none)

pub made-size : (path : PathValue) (c d : Contents) → d ≡ insert c path (FileEntry []) → size_of (file_of (entry_at d path)) ≡ Ok 0
made-size path c d is = ap (λ x. size_of (file_of (entry_at x path))) is ∙ ap (λ o. size_of (file_of o)) (entry-put c path (FileEntry []))

pub file-unrefused : (path : PathValue) (c : Contents) → entry_at c path ≡ None → is_folder (entry_at c (parent path)) ≡ true → make_refusal c path ≡ None
file-unrefused path c none folder = unrefused c path (parent path) none refl folder

-- what is told of a file that fits
pub none_there : (path : PathValue) (o : Option Entry) → size_asked (file_asked path o) ≡ Ok None → o ≡ None
none_there path None e = refl
none_there path (Some (FolderEntry bad)) e = absurd cc
none_there path (Some (FileEntry bytes)) e = absurd cc
none_there path (Some LinkEntry) e = absurd cc

pub sized-new : (path : PathValue) (c mid new : Contents) (size : ℕ) (r : Result (Unit {0}) FileFault) → entry_at c path ≡ None → mid ≡ insert c path (FileEntry []) → Does (Ok (edited path (padded size) mid)) new r → Does (Ok (edited path (resized size) c)) new r
sized-new path c mid new size r none made done =
    does-is (Ok (edited path (padded size) mid)) (Ok (edited path (resized size) c)) new r
    (sym (ap (λ x. Ok (edited path (padded size) x)) made ∙ ap (λ x. Ok x) (resized-new path c size none))) done

-- what is told of a file's size
pub size-told : (path : PathValue) (o : Option Entry) (n : ℕ) → size_asked (file_asked path o) ≡ Ok (Some n) → length (bytes_in o) ≡ n
size-told path o n is = size_is o n (size-there path o n is)

pub size-refused : (path : PathValue) (o : Option Entry) (e : FileFault) → FitsFile o → IsFree e ⊎ (size_asked (file_asked path o) ≡ Err e) → IsFree e
size-refused path o e fits (inl free) = free
size-refused path None e fits (inr is) = absurd cc
size-refused path (Some (FolderEntry bad)) e fits (inr is) = absurd fits
size-refused path (Some (FileEntry bytes)) e fits (inr is) = absurd cc
size-refused path (Some LinkEntry) e fits (inr is) = absurd fits

pub ruleset page_steps = (resized-cut, cut-unrefused, resized-padded, none_there, size-there)

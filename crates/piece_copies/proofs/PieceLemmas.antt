-- A file that is copied piece by piece.
use Rattle.std.proofs.Common.{◌≡◌, ◌≢◌, ◌⊎◌, ℕ, ◌+◌, ◌≤◌, None, List, [], ◌++◌, length, take, drop, replicate, Some, Result, Ok, Err, ap, sym, ◌∙◌, inl, inr, arith}
use Rattle.std.proofs.lemmas.Grind.{common_steps}
use Rattle.std.proofs.lemmas.List.{append-nil, drop_all, length-drop, take-append-le, take_all}
use Rattle.std.proofs.Math.Seq.{take-add}
use Rattle.std.specs.FinMap.{insert}
use Rattle.cluster_tree.specs.Contents.{Contents, FileEntry, entry_at}
use Rattle.cluster_tree.specs.PathValue.{PathValue}
use Rattle.cluster_tree.specs.Tree.{bytes_in, file_of, refusal_past, write_refusal, written}
use Rattle.cluster_tree.specs.declared.file_fault.FileFault.{FileFault}
use Rattle.cluster_tree.proofs.ContentsLemmas.{entry-put, entry-put_other, put-put}
use Rattle.file_edits.specs.Answers.{Does, IsFree}
use Rattle.file_edits.specs.Asking.{file_asked, read_asked, read_of}
use Rattle.file_edits.proofs.AnswerLemmas.{does-is}
use Rattle.file_edits.proofs.EditLemmas.{past_end, put-same}
use Rattle.layout.specs.Splice.{splice}

read-meant : (c : Contents) (from : PathValue) (at n : ℕ) (bytes : List ℕ) → entry_at c from ≡ Some (FileEntry bytes) → at + n ≤ length bytes → read_asked c from at n ≡ Ok (take n (drop at bytes))
read-meant c from at n bytes is fits =
    ap (λ o. read_of at n (bytes_in o) (file_asked from o)) is
    ∙ ap (λ b. Ok b) (take-append-le n (drop at bytes) (replicate n 0) (omega (arith, fits, length-drop at bytes)))

ok_is : {A E : Type 0} (x y : A) (r : Result A E) → r ≡ Ok x → r ≡ Ok y → y ≡ x
ok_is x y r a b = cc

-- what was read
pub piece-read : (c : Contents) (from : PathValue) (at n : ℕ) (bytes part : List ℕ) → entry_at c from ≡ Some (FileEntry bytes) → at + n ≤ length bytes → read_asked c from at n ≡ Ok part → part ≡ take n (drop at bytes)
piece-read c from at n bytes part is fits read = ok_is (take n (drop at bytes)) part (read_asked c from at n) (read-meant c from at n bytes is fits) read

-- a read isn't refused
pub piece-unread : (c : Contents) (from : PathValue) (at n : ℕ) (bytes : List ℕ) (e : FileFault) → entry_at c from ≡ Some (FileEntry bytes) → at + n ≤ length bytes → IsFree e ⊎ (read_asked c from at n ≡ Err e) → IsFree e
piece-unread c from at n bytes e is fits (inl free) = free
piece-unread c from at n bytes e is fits (inr refused) = let no = sym (read-meant c from at n bytes is fits) ∙ refused in absurd cc

-- bytes behind all that are there
laid-behind : (at n : ℕ) (bytes : List ℕ) → at + n ≤ length bytes → splice (take at bytes) at (take n (drop at bytes)) ≡ take (at + n) bytes
unfolding splice
laid-behind at n bytes fits =
    let part = take n (drop at bytes) in
    let size : length (take at bytes) ≡ at = grind (arith, common_steps) in
    ap (λ x. x ++ part ++ drop (at + length part) (take at bytes)) (take_all at (take at bytes) (omega (arith, size)))
    ∙ ap (λ x. take at bytes ++ part ++ x) (drop_all (at + length part) (take at bytes) (omega (arith, size)))
    ∙ append-nil (take at bytes ++ part) ∙ sym (take-add at n bytes)

pub piece-unrefused : (to : PathValue) (c : Contents) (at n : ℕ) (bytes : List ℕ) → entry_at c to ≡ Some (FileEntry (take at bytes)) → at + n ≤ length bytes → write_refusal c to at ≡ None
piece-unrefused to c at n bytes is fits =
    let size : length (take at bytes) ≡ at = grind (arith, common_steps) in
    ap (λ o. refusal_past (file_of o) at) is ∙ past_end (Some (FileEntry (take at bytes))) at at (ap (λ k. Ok k) size) (omega arith)

-- what was laid
pub piece-laid : (to : PathValue) (c new : Contents) (at n : ℕ) (bytes part : List ℕ) (r : Result (Unit {0}) FileFault) → entry_at c to ≡ Some (FileEntry (take at bytes)) → at + n ≤ length bytes → part ≡ take n (drop at bytes)
    → (write_refusal c to at ≡ None → Does (Ok (written c to at part)) new r) → Does (Ok (insert c to (FileEntry (take (at + n) bytes)))) new r
piece-laid to c new at n bytes part r is fits same done =
    does-is (Ok (written c to at part)) (Ok (insert c to (FileEntry (take (at + n) bytes)))) new r
    (sym (ap (λ p. Ok (written c to at p)) same
    ∙ ap (λ o. Ok (insert c to (FileEntry (splice (bytes_in o) at (take n (drop at bytes)))))) is
    ∙ ap (λ b. Ok (insert c to (FileEntry b))) (laid-behind at n bytes fits)))
    (done (piece-unrefused to c at n bytes is fits))

-- ---- and piece for piece

-- so far the copy has the first bytes
abbrev pub IsFar : (from to : PathValue) (size done : ℕ) (first now : Contents) → Type 0
IsFar from to size done first now =
    (bytes : List ℕ) → entry_at first from ≡ Some (FileEntry bytes) → length bytes ≡ size → from ≢ to → entry_at first to ≡ Some (FileEntry [])
    → now ≡ insert first to (FileEntry (take done bytes))

module _ (from to : PathValue) (size done : ℕ) (first now : Contents) (far : IsFar from to size done first now) (bytes : List ℕ)
    (is : entry_at first from ≡ Some (FileEntry bytes)) (long : length bytes ≡ size) (other : from ≢ to) (empty : entry_at first to ≡ Some (FileEntry [])) where
  pub far-from : entry_at now from ≡ Some (FileEntry bytes)
  far-from = ap (λ x. entry_at x from) (far bytes is long other empty) ∙ entry-put_other first to from (FileEntry (take done bytes)) other ∙ is

  pub far-to : entry_at now to ≡ Some (FileEntry (take done bytes))
  far-to = ap (λ x. entry_at x to) (far bytes is long other empty) ∙ entry-put first to (FileEntry (take done bytes))

  pub far-more : (new : Contents) (n : ℕ) → Does {A = Unit {0}} (Ok (insert now to (FileEntry (take (done + n) bytes)))) new (Ok tt) → new ≡ insert first to (FileEntry (take (done + n) bytes))
  far-more new n put =
      let same : insert now to (FileEntry (take (done + n) bytes)) ≡ new = cc in
      sym same ∙ ap (λ x. insert x to (FileEntry (take (done + n) bytes))) (far bytes is long other empty) ∙ put-put first to (FileEntry (take done bytes)) (FileEntry (take (done + n) bytes))

  pub far-all : size ≤ done → insert first to (FileEntry bytes) ≡ now
  far-all whole = sym (far bytes is long other empty ∙ ap (λ b. insert first to (FileEntry b)) (take_all done bytes (omega (arith, long, whole))))

pub far-begun : (from to : PathValue) (size : ℕ) (first : Contents) → IsFar from to size 0 first first
far-begun from to size first bytes is long other empty = sym (put-same first to [] empty)

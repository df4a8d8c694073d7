-- Files that are grown by zeros.
use Rattle.std.proofs.Common.{◌≡◌, ℕ, ◌+◌, ◌-◌, ◌*◌, ◌/◌, ◌<◌, ◌≤◌, true, false, cond, nat_lt, List, ◌++◌, length, take, drop, replicate, Option, None, Some, Result, Ok, refl, ap, ap₂, sym, ◌∙◌, subst, append_assoc, arith}
use Rattle.std.proofs.lemmas.Bool.Decides.{nat_tests}
use Rattle.std.proofs.lemmas.Grind.{common_steps}
use Rattle.std.proofs.Math.Seq.{drop-append-add}
use Rattle.std.proofs.lemmas.List.{drop-replicate, replicate-append-replicate, length-replicate}
use Rattle.std.specs.FinMap.{insert}
use Rattle.layout.specs.Splice.{splice}
use Rattle.cluster_tree.specs.PathValue.{PathValue}
use Rattle.cluster_tree.specs.Contents.{Contents, Entry, FolderEntry, FileEntry, LinkEntry, entry_at}
use Rattle.cluster_tree.specs.Tree.{file_of, size_of, bytes_in, bytes_at}
use Rattle.cluster_tree.specs.declared.file_fault.FileFault.{FileFault}
use Rattle.file_edits.specs.Answers.{Does}
use Rattle.file_edits.specs.Asking.{file_asked, size_asked}
use Rattle.file_edits.specs.Edits.{file_edited, laid}
use Rattle.file_edits.proofs.EditLemmas.{edited-on, edited-there, put-same}
use Rattle.storage_replay.specs.Blocks.{grown}

-- the bytes of a file that is there

there : (o : Option Entry) (n : ℕ) → size_of (file_of o) ≡ Ok n → (length (bytes_in o) ≡ n) × (o ≡ Some (FileEntry (bytes_in o)))
there None n e = absurd cc
there (Some (FolderEntry bad)) n e = absurd cc
there (Some (FileEntry bytes)) n e = (cc, refl)
there (Some LinkEntry) n e = absurd cc

asked : (path : PathValue) (o : Option Entry) (n : ℕ) → size_of (file_of o) ≡ Ok n → size_asked (file_asked path o) ≡ Ok (Some n)
asked path None n e = absurd cc
asked path (Some (FolderEntry bad)) n e = absurd cc
asked path (Some (FileEntry bytes)) n e = let same : length bytes ≡ n = cc in ap (λ k. Ok (Some k)) same
asked path (Some LinkEntry) n e = absurd cc

-- zeros that are laid from the last whole block on

fewer : (xs : List ℕ) (k at : ℕ) → at ≤ length xs → take at (xs ++ replicate k 0) ≡ take at xs
fewer xs k at l = grind (arith, common_steps)

past : (xs : List ℕ) (k at : ℕ) → length xs ≤ at → drop at (xs ++ replicate k 0) ≡ replicate (k - (at - length xs)) 0
past xs k at l =
    let n : ℕ = at - length xs in
    let sum : at ≡ length xs + n = omega arith in
    ap (λ m. drop m (xs ++ replicate k 0)) sum ∙ drop-append-add xs (replicate k 0) n ∙ drop-replicate n k 0

zeros_laid : (bytes : List ℕ) (at size : ℕ) → at ≤ length bytes → length bytes ≤ at + 8192 → at + 8192 ≤ size → laid size at (replicate 8192 0) bytes ≡ take at bytes ++ replicate (size - at) 0
unfolding splice
zeros_laid bytes at size l m few =
    let k : ℕ = size - length bytes in
    let whole : 8192 + (size - (at + 8192)) ≡ size - at = omega arith in
    let left : k - (at + 8192 - length bytes) ≡ size - (at + 8192) = omega arith in
    let rest : drop (at + length {A = ℕ} (replicate 8192 0)) (bytes ++ replicate k 0) ≡ replicate (size - (at + 8192)) 0 =
    ap (λ n. drop (at + n) (bytes ++ replicate k 0)) (length-replicate {A = ℕ} 8192 0) ∙ past bytes k (at + 8192) m ∙ ap (λ n. replicate n 0) left in
    ap₂ (λ a b. a ++ replicate 8192 0 ++ b) (fewer bytes k at l) rest
    ∙ append_assoc (take at bytes) (replicate 8192 0) (replicate (size - (at + 8192)) 0)
    ∙ ap (λ zs. take at bytes ++ zs) (replicate-append-replicate 8192 (size - (at + 8192)) 0 ∙ ap (λ n. replicate n 0) whole)

grown_short : (bytes : List ℕ) (blocks size : ℕ) → length bytes ≡ size → size / 8192 < blocks → grown blocks bytes ≡ laid (blocks * 8192) (size / 8192 * 8192) (replicate 8192 0) bytes
grown_short bytes blocks size len l =
    let short : nat_lt (length bytes / 8192) blocks ≡ true = let is : length bytes / 8192 < blocks = omega arith in grind (arith, nat_tests) in
    let wide : (blocks - length bytes / 8192) * 8192 ≡ blocks * 8192 - length bytes / 8192 * 8192 = omega arith in
    ap (λ b. cond b (take (length bytes / 8192 * 8192) bytes ++ replicate ((blocks - length bytes / 8192) * 8192) 0) bytes) short
    ∙ ap (λ n. take (length bytes / 8192 * 8192) bytes ++ replicate n 0) wide
    ∙ sym (zeros_laid bytes (length bytes / 8192 * 8192) (blocks * 8192) (omega arith) (omega arith) (omega arith))
    ∙ ap (λ n. laid (blocks * 8192) (n / 8192 * 8192) (replicate 8192 0) bytes) len

grown_whole : (bytes : List ℕ) (blocks size : ℕ) → length bytes ≡ size → blocks ≤ size / 8192 → grown blocks bytes ≡ bytes
grown_whole bytes blocks size len l =
    let long : nat_lt (length bytes / 8192) blocks ≡ false = let is : blocks ≤ length bytes / 8192 = omega arith in grind (arith, nat_tests) in
    ap (λ b. cond b (take (length bytes / 8192 * 8192) bytes ++ replicate ((blocks - length bytes / 8192) * 8192) 0) bytes) long

module _ (root path : PathValue) (c d : Contents) (blocks size : ℕ) (made : file_edited root path (λ bytes. bytes) c ≡ Ok d) (sized : size_of (file_of (entry_at d path)) ≡ Ok size) where
  pub grown-whole : blocks ≤ size / 8192 → file_edited root path (grown blocks) c ≡ Ok d
  grown-whole l =
      let is = there (entry_at d path) size sized in
      edited-on root path (grown blocks) c d made
      ∙ ap (λ x. Ok x) (ap (λ b. insert d path (FileEntry b)) (grown_whole (bytes_at d path) blocks size is.0 l) ∙ put-same d path (bytes_at d path) is.1)

  pub grown-laid : {A : Type 0} (new : Contents) (r : Result A FileFault) (wanted : ℕ) → wanted ≡ blocks → size / 8192 < wanted → Does (file_edited root path (laid (wanted * 8192) (size / 8192 * 8192) (replicate 8192 0)) d) new r → Does (file_edited root path (grown blocks) c) new r
  grown-laid new r wanted is_blocks l done =
      let is = there (entry_at d path) size sized in
      let more : size / 8192 < blocks = omega arith in
      let first = edited-on root path (grown blocks) c d made in
      let second = edited-on root path (laid (blocks * 8192) (size / 8192 * 8192) (replicate 8192 0)) d d (edited-there root path d size (asked path (entry_at d path) size sized)) in
      let same : file_edited root path (grown blocks) c ≡ file_edited root path (laid (blocks * 8192) (size / 8192 * 8192) (replicate 8192 0)) d =
      first ∙ ap (λ b. Ok (insert d path (FileEntry b))) (grown_short (bytes_at d path) blocks size is.0 more) ∙ sym second in
      subst (λ m. Does m new r) (sym same) (subst (λ n. Does (file_edited root path (laid (n * 8192) (size / 8192 * 8192) (replicate 8192 0)) d) new r) is_blocks done)

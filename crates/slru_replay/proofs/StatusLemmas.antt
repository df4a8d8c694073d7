-- The byte of a transaction's status.
use Rattle.std.proofs.Common.{◌≡◌, ℕ, ◌+◌, ◌*◌, ◌/◌, ◌%◌, ◌<◌, ◌≤◌, List, [], ◌∷◌, length, slice_index, Result, Ok, ap, sym, ◌∙◌, subst, arith}
use Rattle.cluster_tree.specs.PathValue.{PathValue, Holds}
use Rattle.cluster_tree.specs.Contents.{Contents}
use Rattle.cluster_tree.specs.Tree.{bytes_at}
use Rattle.cluster_tree.specs.declared.file_fault.FileFault.{FileFault}
use Rattle.file_edits.specs.Answers.{Does}
use Rattle.file_edits.specs.Asking.{read_asked}
use Rattle.file_edits.specs.Edits.{file_edited, laid}
use Rattle.file_edits.proofs.LaidLemmas.{made-laid}
use Rattle.slru_replay.specs.Area.{page_file, page_start, page_end}
use Rattle.slru_replay.specs.Status.{with_pair, status_page, status_at, with_status, status_set}
use Rattle.slru_replay.specs.declared.area.Area.TheVariants.{Status}

-- pairs of bits

pub pair-0 : (bits byte : ℕ) → with_pair 0 bits byte ≡ byte / 4 * 4 + bits
unfolding with_pair
pair-0 bits byte = omega arith

pub pair-1 : (bits byte : ℕ) → with_pair 1 bits byte ≡ byte / 16 * 16 + bits * 4 + byte % 4
unfolding with_pair
pair-1 bits byte = omega arith

pub pair-2 : (bits byte : ℕ) → with_pair 2 bits byte ≡ byte / 64 * 64 + bits * 16 + byte % 16
unfolding with_pair
pair-2 bits byte = omega arith

three : (bits byte : ℕ) → byte < 256 → with_pair 3 bits byte ≡ bits * 64 + byte % 64
unfolding with_pair
three bits byte l = omega arith

pub pair-3 : (pair bits byte : ℕ) → 3 ≤ pair → pair < 4 → byte < 256 → with_pair pair bits byte ≡ bits * 64 + byte % 64
pair-3 pair bits byte low high l = let is : pair ≡ 3 = omega arith in ap (λ p. with_pair p bits byte) is ∙ three bits byte l

pub ruleset pair_steps = (pair-0, pair-1, pair-2, pair-3)

-- the byte that was read, with the status, laid over the file
pub status-exact : {A : Type 0} (root path : PathValue) (xid status start at b : ℕ) (into : List ℕ) (c d new : Contents) (r : Result A FileFault)
    → path ≡ page_file root Status (xid / 32768) → Holds root path → length root.parts < length path.parts → start ≡ page_start (xid / 32768) → at ≡ start + xid % 32768 / 4
    → read_asked c path at 1 ≡ Ok into → b ≡ with_pair (xid % 4) status (slice_index into 0) → d ≡ c
    → Does (file_edited root path (laid (start + 8192) at (b ∷ [])) d) new r → Does (status_set root xid status c) new r
status-exact root path xid status start at b into c d new r is held deeper begins place read byte still done =
    let make : ℕ → List ℕ = λ old. with_pair (xid % 4) status old ∷ [] in
    let old : List ℕ = bytes_at c path in
    let there : status_at xid ≡ at = sym (place ∙ ap (λ s. s + xid % 32768 / 4) begins) in
    let same : with_status xid status old ≡ laid (start + 8192) at (make (slice_index old at)) old =
    ap (λ a. laid (page_end (status_page xid)) a (make (slice_index old a)) old) there
    ∙ ap (λ s. laid (s + 8192) at (make (slice_index old at)) old) (sym begins) in
    subst (λ (p : PathValue). Does (file_edited root p (with_status xid status) c) new r) is
    (made-laid root path (with_status xid status) make (start + 8192) at into (b ∷ []) c d new r held deeper read (ap (λ x. x ∷ []) byte) still same done)

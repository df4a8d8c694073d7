-- The bytes of files after one of them is edited.
use Rattle.std.proofs.Common.{◌≡◌, ◌≢◌, ℕ, ◌/◌, ◌%◌, List, Result, Ok, Err, refl, ap, sym, ◌∙◌, ⊎_elim}
use Rattle.block_refs.specs.declared.names.BlockName.{BlockName}
use Rattle.block_refs.specs.declared.names.Fork.{Fork}
use Rattle.block_refs.specs.declared.names.RelName.{RelName}
use Rattle.cluster_tree.specs.PathValue.{PathValue}
use Rattle.cluster_tree.specs.Causes.{given}
use Rattle.cluster_tree.specs.Contents.{Contents}
use Rattle.cluster_tree.specs.Tree.{bytes_in, bytes_at}
use Rattle.cluster_tree.specs.declared.file_fault.FileFault.{FileFault}
use Rattle.file_edits.specs.Edits.{file_edited}
use Rattle.file_edits.proofs.EditLemmas.{same_or_other}
use Rattle.file_edits.proofs.LawLemmas.{edited-stands, edited-elsewhere}
use Rattle.relation_files.specs.Paths.{relation_file}
use Rattle.relation_files.proofs.PathLemmas.{file-is_held, file-is_deeper}
use Rattle.storage_replay.specs.Changes.{created}
use Rattle.storage_laws.specs.States.{block_in, whole_block}

-- one step, and then another
pub given-done : {A B : Type 0} (r : Result A FileFault) (next : A → Result B FileFault) (b : B) → given r next ≡ Ok b → (a : A) × (r ≡ Ok a) × (next a ≡ Ok b)
given-done (Ok a) next b is = (a, refl, is)
given-done (Err f) next b is = absurd cc

pub bytes-here : (root : PathValue) (rel : RelName) (fork : Fork) (segment : ℕ) (edit : List ℕ → List ℕ) (c d : Contents) → file_edited root (relation_file root rel fork segment) edit c ≡ Ok d → bytes_at d (relation_file root rel fork segment) ≡ edit (bytes_at c (relation_file root rel fork segment))
bytes-here root rel fork segment edit c d made =
    let path = relation_file root rel fork segment in
    ap bytes_in (edited-stands root path edit c d (file-is_held root path rel fork segment refl) (file-is_deeper root path rel fork segment refl) made)

pub bytes-elsewhere : (root path : PathValue) (edit : List ℕ → List ℕ) (c d : Contents) (q : PathValue) → file_edited root path edit c ≡ Ok d → q ≢ path → bytes_at d q ≡ bytes_at c q
bytes-elsewhere root path edit c d q made other =
    ⊎_elim (λ same. ap bytes_in same) (λ new. ap bytes_in new.2 ∙ sym (ap bytes_in new.1)) (edited-elsewhere root path edit c d q made other)

-- a fork that is made
pub created-is : (root : PathValue) (per : ℕ) (rel : RelName) (fork : Fork) (other : BlockName) (c d : Contents) → created root rel fork c ≡ Ok d → block_in root per other d ≡ block_in root per other c
created-is root per rel fork other c d made =
    let q : PathValue = relation_file root other.rel other.fork (other.block / per) in
    ap (whole_block (other.block % per)) (same_or_other q (relation_file root rel fork 0)
    (λ e. ap (bytes_at d) e ∙ bytes-here root rel fork 0 (λ bytes. bytes) c d made ∙ ap (bytes_at c) (sym e))
    (λ n. bytes-elsewhere root (relation_file root rel fork 0) (λ bytes. bytes) c d q made n))

-- Blocks that are read.
use Rattle.std.proofs.Common.{◌≡◌, ℕ, ◌*◌, ◌/◌, ◌%◌, Bool, true, false, List, ◌++◌, length, take, drop, replicate, arith, Result, Ok, Err, ap, ap₂, sym, subst, ◌∙◌, inl, inr}
use Rattle.std.specs.Prelude.{if◌then◌else◌}
use Rattle.std.proofs.lemmas.Grind.{common_steps}
use Rattle.block_refs.specs.declared.names.BlockName.{BlockName}
use Rattle.cluster_tree.specs.PathValue.{PathValue}
use Rattle.cluster_tree.specs.Causes.{MeetsInto}
use Rattle.cluster_tree.specs.Contents.{Contents, entry_at}
use Rattle.cluster_tree.specs.Tree.{bytes_at}
use Rattle.cluster_tree.specs.declared.file_fault.FileFault.{FileFault}
use Rattle.file_edits.specs.Answers.{IsFree}
use Rattle.file_edits.specs.Asking.{read_asked}
use Rattle.page_layout.proofs.Lent.{over_same}
use Rattle.relation_files.specs.Paths.{relation_file}
use Rattle.storage_replay.specs.Lengths.{has_block}
use Rattle.storage_replay.specs.Reading.{Reading, found_in, page_read, block_from_file, block_read, ReadsBlock}
use Rattle.storage_replay.specs.declared.found.Found.{Found}
use Rattle.storage_replay.specs.declared.found.Found.TheVariants as found
use Rattle.file_edits.proofs.AnswerLemmas.{Why, why-first, given-ok}
use Rattle.file_edits.proofs.LaidLemmas.{read_into}

pub handed-read : (meant : Result Reading FileFault) (new : List ℕ) (r : Result Found FileFault) (e : FileFault) → ((f : FileFault) × (r ≡ Err f) × (f ≡ e)) → Why meant e → ReadsBlock meant new r
handed-read meant new r e p why = subst (ReadsBlock meant new) (sym (p.1 ∙ ap (λ x. Err x) p.2)) why

pub page-refused : (meant : Result (List ℕ) FileFault) (e : FileFault) → Why meant e → Why (page_read meant) e
page-refused meant e (inl free) = inl free
page-refused meant e (inr is) = inr (ap page_read is)

pub page-found : (meant : Result (List ℕ) FileFault) (page : List ℕ) (f : Found) → meant ≡ Ok page → f ≡ found_in page → page_read meant ≡ Ok (record { found = f; bytes = page })
page-found meant page f is told = ap page_read is ∙ ap (λ (x : Found). let reading : Reading = record { found = x; bytes = page } in Ok reading) (sym told)

-- a page whose bytes were lent

filled_size : (xs : List ℕ) (n : ℕ) → length (take n (xs ++ replicate n 0)) ≡ n
filled_size xs n = grind (arith, common_steps)

pub lent-read : (path : PathValue) (c : Contents) (at n : ℕ) (into old : List ℕ) (r : Result (Unit {0}) FileFault) → n ≡ 8192 → MeetsInto IsFree (read_asked c path at n) into r → MeetsInto IsFree (read_asked c path at 8192) (take 8192 (into ++ drop (length into) old)) r
lent-read path c at n into old (Ok v) is done =
    let size : length into ≡ 8192 = ap length (read_into (entry_at c path) path at n into done) ∙ filled_size (drop at (bytes_at c path)) n ∙ is in
    sym (ap (λ k. read_asked c path at k) is) ∙ done ∙ ap (λ b. Ok b) (sym (over_same old into size))
lent-read path c at n into old (Err e) is (inl free) = inl free
lent-read path c at n into old (Err e) is (inr fails) = inr (sym (ap (λ k. read_asked c path at k) is) ∙ fails)

-- where the block's page is read
pub from-file : (root path : PathValue) (per place : ℕ) (name : BlockName) (c : Contents) → path ≡ relation_file root name.rel name.fork (name.block / per) → place ≡ name.block % per → read_asked c path (place * 8192) 8192 ≡ read_asked c (relation_file root name.rel name.fork (name.block / per)) (name.block % per * 8192) 8192
from-file root path per place name c is at = ap₂ (λ (p : PathValue) n. read_asked c p (n * 8192) 8192) is at

module _ (root : PathValue) (per : ℕ) (name : BlockName) (c : Contents) (old : List ℕ) where
  next : Bool → Result Reading FileFault
  next there = if there then block_from_file root per name c else Ok (record { found = found.Absent; bytes = old })

  pub read-refused : (e : FileFault) → Why (has_block root per name.rel name.fork name.block c) e → Why (block_read root per name c old) e
  unfolding block_read next
  read-refused e why = why-first (has_block root per name.rel name.fork name.block c) next e why

  pub read-absent : (b : Bool) → has_block root per name.rel name.fork name.block c ≡ Ok b → b ≡ false → block_read root per name c old ≡ Ok (record { found = found.Absent; bytes = old })
  unfolding block_read next
  read-absent b is no_block = given-ok (has_block root per name.rel name.fork name.block c) next b is ∙ ap next no_block

  pub read-there : (d : Contents) (new : List ℕ) (r : Result Found FileFault) (b : Bool) → has_block root per name.rel name.fork name.block c ≡ Ok b → b ≡ true → d ≡ c → ReadsBlock (block_from_file root per name d) new r → ReadsBlock (block_read root per name c old) new r
  unfolding block_read next
  read-there d new r b is yes_block same done =
      subst (λ m. ReadsBlock m new r) (sym (given-ok (has_block root per name.rel name.fork name.block c) next b is ∙ ap next yes_block))
      (subst (λ x. ReadsBlock (block_from_file root per name x) new r) same done)

-- Blocks that are written.
use Rattle.std.proofs.Common.{◌≡◌, ℕ, zero, suc, ◌+◌, ◌-◌, ◌*◌, ◌/◌, ◌<◌, ◌≤◌, ◌^◌, List, Result, Ok, ap, sym, subst, ◌∙◌, inl, inr, arith}
use Rattle.block_refs.specs.declared.names.Fork.{Fork}
use Rattle.block_refs.specs.declared.names.RelName.{RelName}
use Rattle.block_refs.specs.declared.names.BlockName.{BlockName}
use Rattle.cluster_tree.specs.PathValue.{PathValue}
use Rattle.cluster_tree.specs.PathOrder.{path_eq}
use Rattle.cluster_tree.specs.Causes.{given}
use Rattle.cluster_tree.specs.Contents.{Contents}
use Rattle.cluster_tree.specs.declared.tree.ChangeCall.{ChangeCall}
use Rattle.cluster_tree.specs.declared.file_fault.FileFault.{FileFault}
use Rattle.file_edits.specs.Answers.{Does}
use Rattle.file_edits.specs.Edits.{file_edited, laid, on_way}
use Rattle.file_edits.specs.Own.{OnOwn}
use Rattle.file_edits.proofs.OwnLemmas.{own-wider}
use Rattle.relation_files.specs.Paths.{relation_file}
use Rattle.storage_replay.specs.Blocks.{grown, file_filled, files_filled, block_laid, block_in_file, block_put}
use Rattle.storage_replay.specs.Files.{is_of_relation}
use Rattle.file_edits.proofs.AnswerLemmas.{Why, why-first, given-ok, does-is}
use Rattle.storage_replay.proofs.OwnLemmas.{file-way, file-own}
use Rattle.file_edits.proofs.TwiceLemmas.{edited-again, edited-fails}

-- what is done at a path that is a file's

pub at-file : {A : Type 0} (root path other : PathValue) (edit : List ℕ → List ℕ) (c new : Contents) (r : Result A FileFault) → path ≡ other → Does (file_edited root path edit c) new r → Does (file_edited root other edit c) new r
at-file root path other edit c new r is done = subst (λ p. Does (file_edited root p edit c) new r) is done

pub own-at : {F : Type 0} (calls : F → List ChangeCall) (root path : PathValue) (rel : RelName) (fork : Fork) (segment : ℕ) (a b : F) → path ≡ relation_file root rel fork segment → rel.relation < 2 ^ 32 → segment < 2 ^ 32 → OnOwn calls (on_way root path) a b → OnOwn calls (is_of_relation root rel) a b
own-at calls root path rel fork segment a b is small few own =
    own-wider calls (on_way root path) (is_of_relation root rel) a b
    (λ q e. file-way root rel fork segment small few q (ap (λ p. on_way root p q) (sym is) ∙ e)) own

pub own-here : {F : Type 0} (calls : F → List ChangeCall) (root path : PathValue) (rel : RelName) (fork : Fork) (segment : ℕ) (a b : F) → path ≡ relation_file root rel fork segment → rel.relation < 2 ^ 32 → segment < 2 ^ 32 → OnOwn calls (λ q. path_eq q path) a b → OnOwn calls (is_of_relation root rel) a b
own-here calls root path rel fork segment a b is small few own =
    own-wider calls (λ q. path_eq q path) (is_of_relation root rel) a b
    (λ q e. file-own root rel fork segment small few q (ap (path_eq q) (sym is) ∙ e)) own

-- files that are filled in turn

module _ (root : PathValue) (per : ℕ) (rel : RelName) (fork : Fork) (files file : ℕ) (c : Contents) where
  step : file < files → files_filled root per rel fork (files - file) file c ≡ given (file_filled root per rel fork file c) (files_filled root per rel fork (files - (file + 1)) (file + 1))
  unfolding files_filled
  step l = let n : files - file ≡ suc (files - (file + 1)) = omega arith in ap (λ k. files_filled root per rel fork k file c) n

  pub filled-more : (d : Contents) → file < files → file_filled root per rel fork file c ≡ Ok d → files_filled root per rel fork (files - (file + 1)) (file + 1) d ≡ files_filled root per rel fork (files - file) file c
  filled-more d l is = sym (step l ∙ given-ok (file_filled root per rel fork file c) (files_filled root per rel fork (files - (file + 1)) (file + 1)) d is)

  pub filled-refused : (meant : Result Contents FileFault) (e : FileFault) → file < files → files_filled root per rel fork (files - file) file c ≡ meant → Why (file_filled root per rel fork file c) e → Why meant e
  filled-refused meant e l is (inl free) = inl free
  filled-refused meant e l is (inr fails) = inr (sym is ∙ step l ∙ ap (λ r. given r (files_filled root per rel fork (files - (file + 1)) (file + 1))) fails)

  pub filled-end : files ≤ file → files_filled root per rel fork (files - file) file c ≡ Ok c
  unfolding files_filled
  filled-end l = let n : files - file ≡ zero = omega arith in ap (λ k. files_filled root per rel fork k file c) n

-- a page behind the blocks before it

pub put-refused : (root path : PathValue) (place : ℕ) (page : List ℕ) (c : Contents) (e : FileFault) → Why (file_edited root path (grown place) c) e → Why (file_edited root path (block_laid place page) c) e
put-refused root path place page c e (inl free) = inl free
put-refused root path place page c e (inr is) = inr (edited-fails root path (grown place) (block_laid place page) c e is)

pub put-laid : {A : Type 0} (root path : PathValue) (place start : ℕ) (page : List ℕ) (c d new : Contents) (r : Result A FileFault) → file_edited root path (grown place) c ≡ Ok d → start ≡ place → Does (file_edited root path (laid (start * 8192) (start * 8192) page) d) new r → Does (file_edited root path (block_laid place page) c) new r
put-laid root path place start page c d new r made at done =
    does-is (file_edited root path (laid (place * 8192) (place * 8192) page) d) _ new r (edited-again root path (grown place) (laid (place * 8192) (place * 8192) page) c d made)
    (subst (λ n. Does (file_edited root path (laid (n * 8192) (n * 8192) page) d) new r) at done)

-- a block of a fork

pub block-refused : (root : PathValue) (per : ℕ) (name : BlockName) (page : List ℕ) (c : Contents) (e : FileFault) → Why (files_filled root per name.rel name.fork (name.block / per) 0 c) e → Why (block_put root per name page c) e
unfolding block_put
block-refused root per name page c e why = why-first (files_filled root per name.rel name.fork (name.block / per) 0 c) (block_in_file root per name page) e why

pub block-then : {A : Type 0} (root : PathValue) (per : ℕ) (name : BlockName) (page : List ℕ) (c d new : Contents) (r : Result A FileFault) → files_filled root per name.rel name.fork (name.block / per) 0 c ≡ Ok d → Does (block_in_file root per name page d) new r → Does (block_put root per name page c) new r
unfolding block_put
block-then root per name page c d new r is done = does-is (block_in_file root per name page d) _ new r (given-ok (files_filled root per name.rel name.fork (name.block / per) 0 c) (block_in_file root per name page) d is) done

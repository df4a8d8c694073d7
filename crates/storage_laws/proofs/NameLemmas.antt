-- Names of one block, and files that are there.
use Rattle.std.proofs.Common.{◌≡◌, ◌↔◌, ℕ, ◌<◌, ◌^◌, ◌==◌, Bool, true, false, not, cond, ◌&&◌, None, Ok, refl, ap, ap₂, sym, ◌∙◌, true≢false, inl, inr, arith}
use Rattle.block_refs.specs.declared.names.BlockName.{BlockName}
use Rattle.block_refs.specs.declared.names.Fork.{Fork}
use Rattle.block_refs.specs.declared.names.RelName.{RelName}
use Rattle.cluster_tree.specs.PathValue.{PathValue}
use Rattle.cluster_tree.specs.Causes.{given}
use Rattle.cluster_tree.specs.Contents.{Contents, IsTree, entry_at, is_file}
use Rattle.file_edits.specs.Asking.{file_asked, size_asked}
use Rattle.file_edits.proofs.LawLemmas.{edited-stands}
use Rattle.relation_files.specs.Names.{name_of}
use Rattle.relation_files.specs.Paths.{relation_file, relation_folder}
use Rattle.relation_files.proofs.PathLemmas.{file-is_held, file-is_deeper}
use Rattle.storage_replay.specs.Changes.{created, relation_dropped}
use Rattle.storage_replay.specs.Cutting.{same_fork}
use Rattle.storage_replay.specs.Lengths.{file_size, fork_length, length_by}
use Rattle.storage_replay.specs.declared.sweep.Sweep.TheVariants.{Remove}
use Rattle.storage_laws.specs.FileLaws.{IsProper}
use Rattle.storage_laws.specs.Names.{IsRel, in_fork, is_shared, same_block, same_files, same_folder}
use Rattle.storage_laws.proofs.CutLemmas.{own-swept}
use Rattle.storage_laws.proofs.FileLemmas.{file-same, fork-is, one-file}
use Rattle.storage_laws.proofs.NumberLemmas.{and-parts, eq-is, eq-yes}
use Rattle.storage_laws.proofs.SweepLemmas.{sweep-away, tree-folder}

-- files

pub one-path : (root : PathValue) (rel : RelName) (fork : Fork) (other : BlockName) (segment to : ℕ)
    → IsRel rel → IsRel other.rel → segment < 2 ^ 32 → to < 2 ^ 32
    → (relation_file root rel fork segment ≡ relation_file root other.rel other.fork to) ↔ ((in_fork rel fork other ≡ true) × (segment ≡ to))
one-path root rel fork other segment to small few l m =
    ((λ e. file-same root rel fork other segment to small few l m e), (λ two. sym (one-file root rel fork other segment two.0) ∙ ap (relation_file root other.rel other.fork) two.1))

-- names

shared_is : (rel : RelName) → IsProper rel → (is_shared rel ≡ true) → (rel.space ≡ 1664) × (rel.database ≡ 0)
shared_is rel (inl proper) h = proper
shared_is rel (inr proper) h = absurd (omega (arith, proper.0, eq-is rel.space 1664 h))

default_is : (rel : RelName) → IsProper rel → (is_shared rel ≡ false) → rel.space ≡ 1663
default_is rel (inl proper) h = absurd (true≢false (sym (eq-yes rel.space 1664 proper.0) ∙ h))
default_is rel (inr proper) h = proper.0

record SamePlace (rel other : RelName) : Type 0 where
  space : rel.space ≡ other.space
  database : rel.database ≡ other.database

same_place : (rel other : RelName) → IsProper rel → IsProper other → same_folder rel other ≡ true → SamePlace rel other
same_place rel other one two h = by (is_shared rel) (is_shared other) refl refl h
  where
    by : (s t : Bool) → is_shared rel ≡ s → is_shared other ≡ t → cond s t (not t && (other.database == rel.database)) ≡ true → SamePlace rel other
    by true true s t e =
        let a = shared_is rel one s in
        let b = shared_is other two t in
        record { space = a.0 ∙ sym b.0; database = a.1 ∙ sym b.1 }
    by true false s t e = absurd cc
    by false true s t e = absurd cc
    by false false s t e = record { space = default_is rel one s ∙ sym (default_is other two t); database = sym (eq-is other.database rel.database e) }

rel_is : (a b : RelName) → a.space ≡ b.space → a.database ≡ b.database → a.relation ≡ b.relation → a ≡ b
rel_is a b s d r = ap₂ (λ (x : ℕ) (y : ℕ). let rel : RelName = record { space = x; database = y; relation = a.relation } in rel) s d ∙ ap (λ (z : ℕ). let rel : RelName = record { space = b.space; database = b.database; relation = z } in rel) r

name_is : (a b : BlockName) → a.rel ≡ b.rel → a.fork ≡ b.fork → a.block ≡ b.block → a ≡ b
name_is a b r f n = ap₂ (λ (x : RelName) (y : Fork). let name : BlockName = record { rel = x; fork = y; block = a.block } in name) r f ∙ ap (λ (z : ℕ). let name : BlockName = record { rel = b.rel; fork = b.fork; block = z } in name) n

pub one-block : (name other : BlockName) → IsProper name.rel → IsProper other.rel → same_block name other ≡ true → name ≡ other
one-block name other one two h =
    let block = and-parts (in_fork name.rel name.fork other) (name.block == other.block) h in
    let fork = and-parts (same_files name.rel other.rel) (same_fork name.fork other.fork) block.0 in
    let rels = and-parts (same_folder name.rel other.rel) (name.rel.relation == other.rel.relation) fork.0 in
    let place = same_place name.rel other.rel one two rels.0 in
    name_is name other (rel_is name.rel other.rel place.space place.database (eq-is name.rel.relation other.rel.relation rels.1)) (fork-is name.fork other.fork fork.1) (eq-is name.block other.block block.1)

-- files that are there

pub created-file : (root : PathValue) (rel : RelName) (fork : Fork) (c d : Contents) → created root rel fork c ≡ Ok d → is_file (entry_at d (relation_file root rel fork 0)) ≡ true
created-file root rel fork c d made = ap is_file (edited-stands root (relation_file root rel fork 0) (λ bytes. bytes) c d (file-is_held root (relation_file root rel fork 0) rel fork 0 refl) (file-is_deeper root (relation_file root rel fork 0) rel fork 0 refl) made)

pub dropped-file : (root : PathValue) (rel : RelName) (fork : Fork) (segment : ℕ) (c d : Contents) → IsRel rel → segment < 2 ^ 32 → IsTree c → relation_dropped root rel c ≡ Ok d → entry_at d (relation_file root rel fork segment) ≡ None
dropped-file root rel fork segment c d small few tree made =
    sweep-away root Remove rel (name_of rel.relation fork segment) c d (tree-folder c (relation_folder root rel) (name_of rel.relation fork segment) tree) (own-swept rel fork segment small few) made

pub dropped-length : (root : PathValue) (per : ℕ) (rel : RelName) (fork : Fork) (c d : Contents) → IsRel rel → IsTree c → relation_dropped root rel c ≡ Ok d → fork_length root per rel fork d ≡ Ok None
dropped-length root per rel fork c d small tree made =
    ap (λ o. given (size_asked (file_asked (relation_file root rel fork 0) o)) (length_by (file_size root rel fork d) per)) (dropped-file root rel fork 0 c d small (omega arith) tree made)

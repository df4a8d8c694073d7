-- What edits of the relation's file leave: it is as long as it was, and every other file as it was.
use Rattle.std.proofs.Common.{◌≡◌, ℕ, ◌-◌, ◌*◌, ◌/◌, ◌%◌, ◌<◌, ◌≤◌, List, ◌++◌, length, take, replicate, Some, Result, Ok, refl, ap, ap₂, sym, ◌∙◌, subst, arith}
use Rattle.std.specs.Prelude.{if◌then◌else◌}
use Rattle.std.specs.FinMap.{insert}
use Rattle.std.proofs.lemmas.List.{length-append, length-replicate}
use Rattle.block_refs.specs.declared.names.Fork.TheVariants.{Main}
use Rattle.cluster_tree.specs.Causes.{given}
use Rattle.cluster_tree.specs.Contents.{Contents, FileEntry, entry_at}
use Rattle.cluster_tree.specs.PathValue.{PathValue}
use Rattle.cluster_tree.specs.Tree.{bytes_in}
use Rattle.cluster_tree.proofs.ContentsLemmas.{entry-put, entry-put_other}
use Rattle.file_edits.specs.Asking.{file_asked}
use Rattle.file_edits.specs.Edits.{edited, file_edited, laid, padded, way_for}
use Rattle.layout.proofs.SpliceLemmas.{length-splice}
use Rattle.pair_laws.proofs.EffectLemmas.{block_at}
use Rattle.pair_maker.specs.Inserts.{pair_relation}
use Rattle.relation_files.specs.Paths.{relation_file}
use Rattle.storage_replay.specs.Blocks.{block_laid, block_put, files_filled, grown}
use Rattle.storage_replay.specs.Changes.{created}
use Rattle.storage_laws.proofs.NumberLemmas.{lt-no}
use Rattle.pair_laws.proofs.compared.KeepLemmas.{HasRelation, KeepsFiles, relation_at}

-- ---- files that are kept

pub keeps-same : (root : PathValue) (blocks : ℕ) (c d : Contents) → HasRelation root blocks c → c ≡ d → KeepsFiles root blocks c d
keeps-same root blocks c d has same = subst (KeepsFiles root blocks c) same (record { relation = has; others = λ q other. refl })

pub keeps-then : (root : PathValue) (blocks : ℕ) (c d e : Contents) → KeepsFiles root blocks c d → KeepsFiles root blocks d e → KeepsFiles root blocks c e
keeps-then root blocks c d e first rest = record { relation = rest.relation; others = λ q other. rest.others q other ∙ first.others q other }

-- ---- a file that is there is edited

-- an answer has one value
pub same-ok : {A E : Type 0} (r : Result A E) (a b : A) → r ≡ Ok a → r ≡ Ok b → a ≡ b
same-ok r a b is also = cc

edited-is : (root path : PathValue) (edit : List ℕ → List ℕ) (c : Contents) (bytes : List ℕ) → entry_at c path ≡ Some (FileEntry bytes) → file_edited root path edit c ≡ Ok (insert c path (FileEntry (edit bytes)))
unfolding file_edited
edited-is root path edit c bytes there =
    ap (λ o. given (given (file_asked path o) (way_for root path c)) (λ d. Ok (edited path edit d))) there ∙ ap (λ o. Ok (insert c path (FileEntry (edit (bytes_in o))))) there

put-keeps : (root : PathValue) (blocks : ℕ) (c : Contents) (bytes : List ℕ) → length bytes ≡ 8192 * blocks → KeepsFiles root blocks c (insert c (relation_at root) (FileEntry bytes))
put-keeps root blocks c bytes long = record {
  relation = record { bytes = bytes; there = entry-put c (relation_at root) (FileEntry bytes); long = long };
  others = λ q other. entry-put_other c (relation_at root) q (FileEntry bytes) other;
}

edited-keeps : (root : PathValue) (blocks : ℕ) (edit : List ℕ → List ℕ) (c d : Contents) (has : HasRelation root blocks c) → length (edit has.bytes) ≡ 8192 * blocks
    → file_edited root (relation_at root) edit c ≡ Ok d → KeepsFiles root blocks c d
edited-keeps root blocks edit c d has long made =
    subst (KeepsFiles root blocks c) (same-ok (file_edited root (relation_at root) edit c) (insert c (relation_at root) (FileEntry (edit has.bytes))) d (edited-is root (relation_at root) edit c has.bytes has.there) made)
    (put-keeps root blocks c (edit has.bytes) long)

-- the fork's first file is there
pub created-keeps : (root : PathValue) (blocks : ℕ) (c d : Contents) → HasRelation root blocks c → created root pair_relation Main c ≡ Ok d → KeepsFiles root blocks c d
created-keeps root blocks c d has made = edited-keeps root blocks (λ bytes. bytes) c d has has.long made

-- ---- a page is laid over one that is there

laid-long : (blocks block : ℕ) (page bytes : List ℕ) → block < blocks → length page ≡ 8192 → length bytes ≡ 8192 * blocks → length (block_laid block page bytes) ≡ 8192 * blocks
laid-long blocks block page bytes below size long =
    let all : length (padded (block * 8192) bytes) ≡ length bytes = omega (arith, length-append bytes (replicate (block * 8192 - length bytes) 0), length-replicate {A = ℕ} (block * 8192 - length bytes) 0, long, below) in
    let whole : grown block bytes ≡ bytes =
    ap (λ t. if t then take (length bytes / 8192 * 8192) bytes ++ replicate ((block - length bytes / 8192) * 8192) 0 else bytes) (lt-no (length bytes / 8192) block (omega (arith, long, below))) in
    ap (λ old. length (laid (block * 8192) (block * 8192) page old)) whole
    ∙ length-splice (padded (block * 8192) bytes) (block * 8192) page (omega (arith, all, size, long, below))
    ∙ all ∙ long

-- a block of the relation lies in the first file, before which none is filled
put-is : (root : PathValue) (block : ℕ) (page : List ℕ) (c : Contents) → block < 131072 → block_put root 131072 (block_at block) page c ≡ file_edited root (relation_at root) (block_laid block page) c
unfolding block_put files_filled
put-is root block page c low =
    let file : block / 131072 ≡ 0 = omega (arith, low) in
    let place : block % 131072 ≡ block = omega (arith, low) in
    ap₂ (λ f p. given (files_filled root 131072 pair_relation Main f 0 c) (λ d. file_edited root (relation_file root pair_relation Main f) (block_laid p page) d)) file place

pub block-keeps : (root : PathValue) (blocks block : ℕ) (page : List ℕ) (c d : Contents) → blocks ≤ 4096 → block < blocks → HasRelation root blocks c → length page ≡ 8192
    → block_put root 131072 (block_at block) page c ≡ Ok d → KeepsFiles root blocks c d
block-keeps root blocks block page c d few below has size made =
    edited-keeps root blocks (block_laid block page) c d has (laid-long blocks block page has.bytes below size has.long) (sym (put-is root block page c (omega (arith, few, below))) ∙ made)

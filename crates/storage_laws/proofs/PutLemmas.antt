-- The states of blocks once one is written.
use Rattle.std.proofs.Common.{◌≡◌, ◌≢◌, ℕ, zero, suc, ◌+◌, ◌*◌, ◌/◌, ◌%◌, ◌<◌, ◌≤◌, ◌^◌, ◌==◌, true, false, ◌&&◌, nat_lt, List, length, Option, Some, Ok, ap, ap₂, sym, ◌∙◌, true≢false, arith}
use Rattle.std.specs.Prelude.{if◌then◌else◌}
use Rattle.block_refs.specs.declared.names.BlockName.{BlockName}
use Rattle.block_refs.specs.declared.names.Fork.{Fork}
use Rattle.block_refs.specs.declared.names.RelName.{RelName}
use Rattle.cluster_tree.specs.PathValue.{PathValue}
use Rattle.cluster_tree.specs.Contents.{Contents}
use Rattle.cluster_tree.specs.Tree.{bytes_at}
use Rattle.relation_files.specs.Paths.{relation_file}
use Rattle.storage_replay.specs.Blocks.{grown, file_filled, files_filled, block_laid, block_in_file, block_put}
use Rattle.storage_laws.specs.After.{zeros_if, written_state}
use Rattle.storage_laws.specs.Names.{IsBlock, IsRel, block_of, in_fork}
use Rattle.storage_laws.specs.States.{whole_block, block_in}
use Rattle.storage_laws.proofs.EditedLemmas.{given-done, bytes-here, bytes-elsewhere}
use Rattle.storage_laws.proofs.FileLemmas.{one-file, file-same}
use Rattle.storage_laws.proofs.NumberLemmas.{by_order, lt-yes, lt-no, eq-no, eq-no_more, its-place, file-before, file-least, by_test, places-eq, places-lt}
use Rattle.storage_laws.proofs.WholeLemmas.{whole-grown, whole-laid}

-- files that are filled in turn

module _ (root : PathValue) (per : ℕ) (rel : RelName) (fork : Fork) where
  pub filled-elsewhere : (count file : ℕ) (c d : Contents) (q : PathValue) → files_filled root per rel fork count file c ≡ Ok d → ((s : ℕ) → file ≤ s → s < file + count → q ≢ relation_file root rel fork s) → bytes_at d q ≡ bytes_at c q
  unfolding files_filled
  filled-elsewhere zero file c d q made other = let same : c ≡ d = cc in ap (λ x. bytes_at x q) (sym same)
  filled-elsewhere (suc count) file c d q made other =
      let two = given-done (file_filled root per rel fork file c) (files_filled root per rel fork count (file + 1)) d made in
      filled-elsewhere count (file + 1) two.0 d q two.2 (λ s l m. other s (omega (arith, l)) (omega (arith, m)))
      ∙ bytes-elsewhere root (relation_file root rel fork file) (grown per) c two.0 q two.1 (other file (omega arith) (omega arith))

  -- segments of a fork have paths of their own
  pub segment-apart : IsRel rel → (s t : ℕ) → s < 2 ^ 32 → t < 2 ^ 32 → (s ≡ t → ⊥) → relation_file root rel fork s ≢ relation_file root rel fork t
  segment-apart small s t l m other e = other (file-same root rel fork (block_of rel fork 0) s t small small l m e).1

  pub filled-in : IsRel rel → (count file s : ℕ) (c d : Contents) → file + count < 2 ^ 32 → files_filled root per rel fork count file c ≡ Ok d → file ≤ s → s < file + count → bytes_at d (relation_file root rel fork s) ≡ grown per (bytes_at c (relation_file root rel fork s))
  unfolding files_filled
  filled-in small zero file s c d few made l m = absurd (omega (arith, l, m))
  filled-in small (suc count) file s c d few made l m =
      let two = given-done (file_filled root per rel fork file c) (files_filled root per rel fork count (file + 1)) d made in
      by_order file s
      (λ less.
      filled-in small count (file + 1) s two.0 d (omega (arith, few)) two.2 (omega (arith, less)) (omega (arith, m))
      ∙ ap (grown per) (bytes-elsewhere root (relation_file root rel fork file) (grown per) c two.0 (relation_file root rel fork s) two.1 (segment-apart small s file (omega (arith, m, few)) (omega (arith, few)) (λ e. omega (arith, e, less)))))
      (λ least.
      let own : file ≡ s = omega (arith, l, least) in
      filled-elsewhere count (file + 1) two.0 d (relation_file root rel fork s) two.2 (λ t a b. segment-apart small s t (omega (arith, m, few)) (omega (arith, b, few)) (λ e. omega (arith, e, own, a)))
      ∙ ap (λ n. bytes_at two.0 (relation_file root rel fork n)) (sym own)
      ∙ bytes-here root rel fork file (grown per) c two.0 two.1
      ∙ ap (λ n. grown per (bytes_at c (relation_file root rel fork n))) own)

-- the state of a block, by where it lies

pub state-fork : (root : PathValue) (per : ℕ) (rel : RelName) (fork : Fork) (other : BlockName) (c : Contents) → in_fork rel fork other ≡ true → block_in root per other c ≡ whole_block (other.block % per) (bytes_at c (relation_file root rel fork (other.block / per)))
state-fork root per rel fork other c is = ap (λ p. whole_block (other.block % per) (bytes_at c p)) (one-file root rel fork other (other.block / per) is)

pub written-fork_state : (name other : BlockName) (page : List ℕ) (old : Option (List ℕ)) → in_fork name.rel name.fork other ≡ true → written_state name page other old ≡ (if name.block == other.block then Some page else zeros_if (nat_lt other.block name.block) old)
written-fork_state name other page old is = ap (λ t. if t && (name.block == other.block) then Some page else zeros_if (t && nat_lt other.block name.block) old) is

pub written-other_state : (name other : BlockName) (page : List ℕ) (old : Option (List ℕ)) → in_fork name.rel name.fork other ≡ false → written_state name page other old ≡ old
written-other_state name other page old is = ap (λ t. if t && (name.block == other.block) then Some page else zeros_if (t && nat_lt other.block name.block) old) is

module _ (root : PathValue) (per : ℕ) (name other : BlockName) (page : List ℕ) (c d : Contents) (some : 0 < per) (small : IsBlock name) (few : IsBlock other) (size : length page ≡ 8192) (made : block_put root per name page c ≡ Ok d) where
  steps : (e : Contents) × (files_filled root per name.rel name.fork (name.block / per) 0 c ≡ Ok e) × (block_in_file root per name page e ≡ Ok d)
  unfolding block_put
  steps = given-done (files_filled root per name.rel name.fork (name.block / per) 0 c) (block_in_file root per name page) d made

  file_few : name.block / per < 2 ^ 32
  file_few = omega (arith, file-least per name.block some, small.block)

  to_few : other.block / per < 2 ^ 32
  to_few = omega (arith, file-least per other.block some, few.block)

  Plain : Type 0
  Plain = whole_block (other.block % per) (bytes_at d (relation_file root name.rel name.fork (other.block / per))) ≡ (if name.block == other.block then Some page else zeros_if (nat_lt other.block name.block) (whole_block (other.block % per) (bytes_at c (relation_file root name.rel name.fork (other.block / per)))))

  before : other.block / per < name.block / per → Plain
  unfolding Plain
  before l =
      let less : other.block < name.block = file-before per other.block name.block (other.block / per) (name.block / per) (other.block % per) (name.block % per) (its-place per other.block some) (its-place per name.block some) l in
      let old = whole_block (other.block % per) (bytes_at c (relation_file root name.rel name.fork (other.block / per))) in
      ap (whole_block (other.block % per))
      (bytes-elsewhere root (relation_file root name.rel name.fork (name.block / per)) (block_laid (name.block % per) page) steps.0 d (relation_file root name.rel name.fork (other.block / per)) steps.2 (segment-apart root per name.rel name.fork small.rel (other.block / per) (name.block / per) to_few file_few (λ e. omega (arith, e, l)))
      ∙ filled-in root per name.rel name.fork small.rel (name.block / per) 0 (other.block / per) c steps.0 (omega (arith, file_few)) steps.1 (omega arith) (omega (arith, l)))
      ∙ whole-grown (other.block % per) per (bytes_at c (relation_file root name.rel name.fork (other.block / per)))
      ∙ ap (λ t. zeros_if t old) (lt-yes (other.block % per) per (its-place per other.block some).few)
      ∙ sym (ap₂ (λ t u. if t then Some page else zeros_if u old) (eq-no_more name.block other.block less) (lt-yes other.block name.block less))

  after : name.block / per < other.block / per → Plain
  unfolding Plain
  after l =
      let more : name.block < other.block = file-before per name.block other.block (name.block / per) (other.block / per) (name.block % per) (other.block % per) (its-place per name.block some) (its-place per other.block some) l in
      let old = whole_block (other.block % per) (bytes_at c (relation_file root name.rel name.fork (other.block / per))) in
      ap (whole_block (other.block % per))
      (bytes-elsewhere root (relation_file root name.rel name.fork (name.block / per)) (block_laid (name.block % per) page) steps.0 d (relation_file root name.rel name.fork (other.block / per)) steps.2 (segment-apart root per name.rel name.fork small.rel (other.block / per) (name.block / per) to_few file_few (λ e. omega (arith, e, l)))
      ∙ filled-elsewhere root per name.rel name.fork (name.block / per) 0 c steps.0 (relation_file root name.rel name.fork (other.block / per)) steps.1 (λ s a b. segment-apart root per name.rel name.fork small.rel (other.block / per) s to_few (omega (arith, b, file_few)) (λ e. omega (arith, e, b, l))))
      ∙ sym (ap₂ (λ t u. if t then Some page else zeros_if u old) (eq-no name.block other.block more) (lt-no other.block name.block (omega (arith, more))))

  beside : other.block / per ≡ name.block / per → Plain
  unfolding Plain
  beside same =
      let old = bytes_at c (relation_file root name.rel name.fork (name.block / per)) in
      let kept : bytes_at steps.0 (relation_file root name.rel name.fork (name.block / per)) ≡ old = filled-elsewhere root per name.rel name.fork (name.block / per) 0 c steps.0 (relation_file root name.rel name.fork (name.block / per)) steps.1 (λ s a b. segment-apart root per name.rel name.fork small.rel (name.block / per) s file_few (omega (arith, b, file_few)) (λ e. omega (arith, e, b))) in
      let one : name.block + other.block % per ≡ other.block + name.block % per = omega (arith, (its-place per name.block some).is, (its-place per other.block some).is, ap (λ n. n * per) same) in
      ap (λ s. whole_block (other.block % per) (bytes_at d (relation_file root name.rel name.fork s))) same
      ∙ ap (whole_block (other.block % per)) (bytes-here root name.rel name.fork (name.block / per) (block_laid (name.block % per) page) steps.0 d steps.2 ∙ ap (block_laid (name.block % per) page) kept)
      ∙ whole-laid (other.block % per) (name.block % per) page old size
      ∙ ap₂ (λ t u. if t then Some page else zeros_if u (whole_block (other.block % per) old)) (places-eq (name.block % per) (other.block % per) name.block other.block one) (places-lt (name.block % per) (other.block % per) name.block other.block one)
      ∙ ap (λ s. if name.block == other.block then Some page else zeros_if (nat_lt other.block name.block) (whole_block (other.block % per) (bytes_at c (relation_file root name.rel name.fork s)))) (sym same)

  inside : in_fork name.rel name.fork other ≡ true → block_in root per other d ≡ written_state name page other (block_in root per other c)
  unfolding Plain
  inside is =
      state-fork root per name.rel name.fork other d is
      ∙ by_order (other.block / per) (name.block / per) before (λ m. by_order (name.block / per) (other.block / per) after (λ l. beside (omega (arith, l, m))))
      ∙ ap (λ o. if name.block == other.block then Some page else zeros_if (nat_lt other.block name.block) o) (sym (state-fork root per name.rel name.fork other c is))
      ∙ sym (written-fork_state name other page (block_in root per other c) is)

  outside : in_fork name.rel name.fork other ≡ false → block_in root per other d ≡ written_state name page other (block_in root per other c)
  outside is =
      let q : PathValue = relation_file root other.rel other.fork (other.block / per) in
      let apart : (s : ℕ) → s < 2 ^ 32 → q ≢ relation_file root name.rel name.fork s = λ s l e. true≢false (sym (file-same root name.rel name.fork other s (other.block / per) small.rel few.rel l to_few (sym e)).0 ∙ is) in
      ap (whole_block (other.block % per))
      (bytes-elsewhere root (relation_file root name.rel name.fork (name.block / per)) (block_laid (name.block % per) page) steps.0 d q steps.2 (apart (name.block / per) file_few)
      ∙ filled-elsewhere root per name.rel name.fork (name.block / per) 0 c steps.0 q steps.1 (λ s a b. apart s (omega (arith, b, file_few))))
      ∙ sym (written-other_state name other page (block_in root per other c) is)

  pub written-is : block_in root per other d ≡ written_state name page other (block_in root per other c)
  written-is = by_test (in_fork name.rel name.fork other) inside outside

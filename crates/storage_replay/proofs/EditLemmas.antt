-- Bytes of the map that are edited.
use Rattle.std.proofs.Common.{◌≡◌, ℕ, zero, suc, ◌+◌, ◌<◌, Bool, true, false, List, ◌∷◌, length, take, slice_index, replicate, Result, Ok, ap, sym, subst, ◌∙◌, inl, inr, arith}
use Rattle.std.specs.Prelude.{if◌then◌else◌}
use Rattle.std.proofs.lemmas.List.{take-replicate}
use Rattle.std.proofs.Math.ListN.{set}
use Rattle.block_refs.specs.declared.names.Fork.TheVariants.{Visibility}
use Rattle.block_refs.specs.declared.names.RelName.{RelName}
use Rattle.cluster_tree.specs.PathValue.{PathValue, Holds}
use Rattle.cluster_tree.specs.Causes.{given}
use Rattle.cluster_tree.specs.Contents.{Contents}
use Rattle.cluster_tree.specs.Tree.{bytes_at}
use Rattle.cluster_tree.specs.declared.file_fault.FileFault.{FileFault}
use Rattle.file_edits.specs.Answers.{Does}
use Rattle.file_edits.specs.Asking.{read_asked}
use Rattle.file_edits.specs.Edits.{file_edited, laid}
use Rattle.file_edits.proofs.LaidLemmas.{made-laid}
use Rattle.storage_replay.specs.Cutting.{fork_cut}
use Rattle.storage_replay.specs.Lengths.{has_block}
use Rattle.storage_replay.specs.MapBits.{fill_pages, map_at, map_page, new_byte, zeros_behind, bits_edited, map_in_file, map_edited, map_cut, map_cut_in_page}
use Rattle.storage_replay.specs.declared.map_edit.MapEdit.{MapEdit}
use Rattle.storage_replay.specs.declared.map_edit.MapEdit.TheVariants.{Cut}
use Rattle.file_edits.proofs.AnswerLemmas.{Why, why-first, given-ok, does-is}

-- a byte and the zeros of a buffer behind it
pub byte-zeros : (n k count b : ℕ) → count ≡ k + 1 → k < n → take count (set (replicate n 0) 0 b) ≡ b ∷ replicate k 0
byte-zeros zero k count b is l = absurd (omega arith)
byte-zeros (suc m) k count b is l =
    let one : count ≡ suc k = omega arith in
    ap (λ c. take c (set (replicate (suc m) 0) 0 b)) one ∙ ap (λ xs. b ∷ xs) (take-replicate k m 0 (omega arith))

-- that byte edited, with zeros behind it
pub bits-exact : {A : Type 0} (root path : PathValue) (per block : ℕ) (edit : MapEdit) (at b : ℕ) (into bytes : List ℕ) (c d new : Contents) (r : Result A FileFault)
    → Holds root path → length root.parts < length path.parts → at ≡ map_at per block → read_asked c path at 1 ≡ Ok into → b ≡ new_byte edit block (slice_index into 0) → bytes ≡ b ∷ replicate (zeros_behind edit block) 0 → d ≡ c
    → Does (file_edited root path (laid at at bytes) d) new r → Does (file_edited root path (bits_edited per block edit) c) new r
bits-exact root path per block edit at b into bytes c d new r held deeper place read byte whole still done =
    let make : ℕ → List ℕ = λ old. new_byte edit block old ∷ replicate (zeros_behind edit block) 0 in
    made-laid root path (bits_edited per block edit) make at at into bytes c d new r held deeper read
    (whole ∙ ap (λ x. x ∷ replicate (zeros_behind edit block) 0) byte) still
    (ap (λ a. laid a a (make (slice_index (bytes_at c path) a)) (bytes_at c path)) (sym place)) done

-- where the map has the page

module _ (root : PathValue) (per : ℕ) (rel : RelName) (block : ℕ) (edit : MapEdit) (c : Contents) (page : ℕ) (at : page ≡ map_page block) where
  if_there : Bool → Result Contents FileFault
  if_there there = if there then map_in_file root per rel block edit c else Ok c

  asked : {r : Result Bool FileFault} → has_block root per rel Visibility page c ≡ r → has_block root per rel Visibility (map_page block) c ≡ r
  asked is = ap (λ n. has_block root per rel Visibility n c) (sym at) ∙ is

  pub map-refused : (e : FileFault) → Why (has_block root per rel Visibility page c) e → Why (map_edited root per rel block edit c) e
  unfolding map_edited if_there
  map-refused e (inl free) = inl free
  map-refused e (inr is) = inr (ap (λ r. given r if_there) (asked is))

  pub map-absent : (b : Bool) → has_block root per rel Visibility page c ≡ Ok b → b ≡ false → map_edited root per rel block edit c ≡ Ok c
  unfolding map_edited if_there
  map-absent b is no_page = given-ok (has_block root per rel Visibility (map_page block) c) if_there b (asked is) ∙ ap if_there no_page

  pub map-there : {A : Type 0} (d new : Contents) (r : Result A FileFault) (b : Bool) → has_block root per rel Visibility page c ≡ Ok b → b ≡ true → d ≡ c → Does (map_in_file root per rel block edit d) new r → Does (map_edited root per rel block edit c) new r
  unfolding map_edited if_there
  map-there d new r b is yes_page same done =
      does-is (map_in_file root per rel block edit c) _ new r (given-ok (has_block root per rel Visibility (map_page block) c) if_there b (asked is) ∙ ap if_there yes_page)
      (subst (λ x. Does (map_in_file root per rel block edit x) new r) same done)

-- the map cut

module _ (root : PathValue) (per : ℕ) (rel : RelName) (blocks : ℕ) (c : Contents) where
  pub page-refused : (e : FileFault) → Why (map_edited root per rel blocks Cut c) e → Why (map_cut_in_page root per rel blocks c) e
  unfolding map_cut_in_page
  page-refused e why = why-first (map_edited root per rel blocks Cut c) (fork_cut root per rel Visibility (map_page blocks + 1)) e why

  pub page-cut : {A : Type 0} (pages : ℕ) (d new : Contents) (r : Result A FileFault) → pages ≡ map_page blocks → map_edited root per rel blocks Cut c ≡ Ok d → Does (fork_cut root per rel Visibility (pages + 1) d) new r → Does (map_cut_in_page root per rel blocks c) new r
  unfolding map_cut_in_page
  page-cut pages d new r at is done =
      does-is (fork_cut root per rel Visibility (pages + 1) d) _ new r
      (given-ok (map_edited root per rel blocks Cut c) (fork_cut root per rel Visibility (map_page blocks + 1)) d is ∙ ap (λ n. fork_cut root per rel Visibility (n + 1) d) (sym at)) done

  pub whole-cut : {A : Type 0} (pages : ℕ) (new : Contents) (r : Result A FileFault) → pages ≡ map_page blocks → true ≡ fill_pages blocks → Does (fork_cut root per rel Visibility pages c) new r → Does (map_cut root per rel blocks c) new r
  whole-cut pages new r at is done =
      does-is (fork_cut root per rel Visibility pages c) _ new r
      (ap (λ b. if b then fork_cut root per rel Visibility (map_page blocks) c else map_cut_in_page root per rel blocks c) (sym is) ∙ ap (λ n. fork_cut root per rel Visibility n c) (sym at)) done

  pub part-cut : {A : Type 0} (new : Contents) (r : Result A FileFault) → false ≡ fill_pages blocks → Does (map_cut_in_page root per rel blocks c) new r → Does (map_cut root per rel blocks c) new r
  part-cut new r is done =
      does-is (map_cut_in_page root per rel blocks c) _ new r
      (ap (λ b. if b then fork_cut root per rel Visibility (map_page blocks) c else map_cut_in_page root per rel blocks c) (sym is)) done

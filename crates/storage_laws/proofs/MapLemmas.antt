-- The states of blocks once a page of the map is edited.
use Rattle.std.proofs.Common.{◌≡◌, ◌≢◌, ℕ, ◌+◌, ◌-◌, ◌*◌, ◌/◌, ◌%◌, ◌<◌, ◌≤◌, ◌^◌, ◌==◌, Bool, true, false, ◌&&◌, List, ◌∷◌, ◌++◌, length, take, drop, slice_index, replicate, Option, Some, is_some, Ok, refl, ap, ap₂, sym, ◌∙◌, true≢false, append-nil, arith}
use Rattle.std.specs.Prelude.{if◌then◌else◌}
use Rattle.std.specs.Option.{option_map}
use Rattle.std.proofs.lemmas.Grind.{common_steps}
use Rattle.std.proofs.lemmas.List.{length-replicate}
use Rattle.layout.specs.Splice.{splice}
use Rattle.block_refs.specs.declared.names.BlockName.{BlockName}
use Rattle.block_refs.specs.declared.names.Fork.TheVariants.{Visibility}
use Rattle.block_refs.specs.declared.names.RelName.{RelName}
use Rattle.cluster_tree.specs.PathValue.{PathValue}
use Rattle.cluster_tree.specs.Contents.{Contents}
use Rattle.cluster_tree.specs.Tree.{bytes_at}
use Rattle.file_edits.specs.Edits.{padded}
use Rattle.relation_files.specs.Paths.{relation_file}
use Rattle.storage_replay.specs.Lengths.{has_block}
use Rattle.storage_replay.specs.MapBits.{bits_edited, map_at, map_byte, map_edited, map_in_file, map_page, new_byte, zeros_behind}
use Rattle.storage_replay.specs.declared.map_edit.MapEdit.{MapEdit}
use Rattle.storage_replay.specs.declared.map_edit.MapEdit.TheVariants.{Clear, Cut}
use Rattle.storage_laws.specs.After.{edited_state, page_edited}
use Rattle.storage_laws.specs.Names.{IsBlock, IsRel, block_of, in_fork}
use Rattle.storage_laws.specs.States.{block_in, whole_block}
use Rattle.storage_laws.proofs.EditedLemmas.{bytes-elsewhere, bytes-here, given-done}
use Rattle.storage_laws.proofs.FileLemmas.{file-same, one-file}
use Rattle.storage_laws.proofs.LengthLemmas.{whole-is, has-block}
use Rattle.storage_laws.proofs.NumberLemmas.{by_order, by_test, eq-no, eq-no_more, eq-yes, file-before, file-least, its-place, places-eq}
use Rattle.storage_laws.proofs.PutLemmas.{segment-apart}
use Rattle.storage_laws.proofs.WholeLemmas.{whole-there, whole-spliced_before, whole-spliced_behind, whole-spliced_in}

-- a page's bytes are the file's

byte_in : (xs : List ℕ) (at n a : ℕ) → a < n → slice_index (take n (drop at xs)) a ≡ slice_index xs (at + a)
byte_in xs at n a l = grind (arith, common_steps)

low_byte : (block : ℕ) → map_byte block ≤ 8191
low_byte block = omega arith

edit_fits : (edit : MapEdit) (block byte : ℕ) → map_byte block + length (byte ∷ replicate (zeros_behind edit block) 0) ≤ 8192
edit_fits (Clear bits) block byte = omega arith
edit_fits Cut block byte = omega (arith, low_byte block, length-replicate {A = ℕ} (8191 - map_byte block) 0)

unpadded : (n : ℕ) (y : List ℕ) → n ≤ length y → padded n y ≡ y
unpadded n y l = let none : n - length y ≡ 0 = omega (arith, l) in ap (λ k. y ++ replicate k 0) none ∙ append-nil y

module _ (per block : ℕ) (edit : MapEdit) (y : List ℕ) (there : map_page block % per * 8192 + 8192 ≤ length y) where
  laid_bytes : List ℕ
  laid_bytes = new_byte edit block (slice_index y (map_at per block)) ∷ replicate (zeros_behind edit block) 0

  as_splice : bits_edited per block edit y ≡ splice y (map_at per block) laid_bytes
  unfolding laid_bytes
  as_splice = ap (λ x. splice x (map_at per block) (new_byte edit block (slice_index y (map_at per block)) ∷ replicate (zeros_behind edit block) 0)) (unpadded (map_at per block) y (omega (arith, there, low_byte block)))

  within : map_at per block ≤ length y
  within = omega (arith, there, low_byte block)

  the_page : whole_block (map_page block % per) (bits_edited per block edit y) ≡ option_map (page_edited edit block) (whole_block (map_page block % per) y)
  unfolding laid_bytes
  the_page =
      let page : List ℕ = take 8192 (drop (map_page block % per * 8192) y) in
      let byte : slice_index page (map_byte block) ≡ slice_index y (map_at per block) = byte_in y (map_page block % per * 8192) 8192 (map_byte block) (omega (arith, low_byte block)) in
      ap (whole_block (map_page block % per)) as_splice
      ∙ whole-spliced_in y (map_at per block) (map_page block % per) (map_byte block) (new_byte edit block (slice_index y (map_at per block)) ∷ replicate (zeros_behind edit block) 0) refl (edit_fits edit block (new_byte edit block (slice_index y (map_at per block)))) there
      ∙ ap (λ b. Some (splice page (map_byte block) (new_byte edit block b ∷ replicate (zeros_behind edit block) 0))) (sym byte)
      ∙ ap (option_map (page_edited edit block)) (sym (whole-there (map_page block % per) y there))

  pub edited-file : (p : ℕ) → whole_block p (bits_edited per block edit y) ≡ (if map_page block % per == p then option_map (page_edited edit block) (whole_block p y) else whole_block p y)
  unfolding laid_bytes
  edited-file p =
      let q = map_page block % per in
      by_order p q
      (λ l.
      ap (whole_block p) as_splice ∙ whole-spliced_before y (map_at per block) laid_bytes within p q l (omega arith)
      ∙ sym (ap (λ t. if t then option_map (page_edited edit block) (whole_block p y) else whole_block p y) (eq-no_more q p l)))
      (λ m. by_order q p
      (λ l.
      ap (whole_block p) as_splice ∙ whole-spliced_behind y (map_at per block) laid_bytes within p q l (omega (arith, edit_fits edit block (new_byte edit block (slice_index y (map_at per block)))))
      ∙ sym (ap (λ t. if t then option_map (page_edited edit block) (whole_block p y) else whole_block p y) (eq-no q p l)))
      (λ l.
      let same : q ≡ p = omega (arith, l, m) in
      ap (λ k. whole_block k (bits_edited per block edit y)) (sym same) ∙ the_page
      ∙ ap (λ k. option_map (page_edited edit block) (whole_block k y)) same
      ∙ sym (ap (λ t. if t then option_map (page_edited edit block) (whole_block p y) else whole_block p y) (eq-yes q p same))))

-- in a fork

in_state : (rel : RelName) (block : ℕ) (edit : MapEdit) (other : BlockName) (old : Option (List ℕ)) (t : Bool) → in_fork rel Visibility other ≡ true → (map_page block == other.block) ≡ t → edited_state rel block edit other old ≡ (if t then option_map (page_edited edit block) old else old)
in_state rel block edit other old t is own = ap₂ (λ a b. if a && b then option_map (page_edited edit block) old else old) is own

out_state : (rel : RelName) (block : ℕ) (edit : MapEdit) (other : BlockName) (old : Option (List ℕ)) → in_fork rel Visibility other ≡ false → edited_state rel block edit other old ≡ old
out_state rel block edit other old is = ap (λ a. if a && (map_page block == other.block) then option_map (page_edited edit block) old else old) is

module _ (root : PathValue) (per : ℕ) (rel : RelName) (block : ℕ) (edit : MapEdit) (other : BlockName) (c d : Contents) (some : 0 < per) (small : IsRel rel) (few : IsBlock other) (low : block < 2 ^ 32) (there : is_some (block_in root per (block_of rel Visibility (map_page block)) c) ≡ true) (made : map_in_file root per rel block edit c ≡ Ok d) where
  page_few : map_page block < 2 ^ 32
  page_few = omega (arith, low)

  file_few : map_page block / per < 2 ^ 32
  file_few = omega (arith, file-least per (map_page block) some, page_few)

  to_few : other.block / per < 2 ^ 32
  to_few = omega (arith, file-least per other.block some, few.block)

  abbrev Plain : Type 0
  Plain = block_in root per other d ≡ edited_state rel block edit other (block_in root per other c)

  elsewhere : (relation_file root other.rel other.fork (other.block / per) ≢ relation_file root rel Visibility (map_page block / per)) → block_in root per other d ≡ block_in root per other c
  elsewhere apart = ap (whole_block (other.block % per)) (bytes-elsewhere root (relation_file root rel Visibility (map_page block / per)) (bits_edited per block edit) c d (relation_file root other.rel other.fork (other.block / per)) made apart)

  apart_in : in_fork rel Visibility other ≡ true → (other.block / per ≡ map_page block / per → ⊥) → relation_file root other.rel other.fork (other.block / per) ≢ relation_file root rel Visibility (map_page block / per)
  apart_in is differ e = segment-apart root per rel Visibility small (other.block / per) (map_page block / per) to_few file_few differ (sym (one-file root rel Visibility other (other.block / per) is) ∙ e)

  inside : in_fork rel Visibility other ≡ true → Plain
  inside is =
      let old = block_in root per other c in
      let at = its-place per other.block some in
      let to = its-place per (map_page block) some in
      by_order (other.block / per) (map_page block / per)
      (λ l.
      elsewhere (apart_in is (λ e. omega (arith, e, l)))
      ∙ sym (in_state rel block edit other old false is (eq-no_more (map_page block) other.block (file-before per other.block (map_page block) _ _ _ _ at to l))))
      (λ m. by_order (map_page block / per) (other.block / per)
      (λ l.
      elsewhere (apart_in is (λ e. omega (arith, e, l)))
      ∙ sym (in_state rel block edit other old false is (eq-no (map_page block) other.block (file-before per (map_page block) other.block _ _ _ _ to at l))))
      (λ l. beside is (omega (arith, l, m))))
    where
      beside : in_fork rel Visibility other ≡ true → other.block / per ≡ map_page block / per → Plain
      beside is same =
          let own : relation_file root other.rel other.fork (other.block / per) ≡ relation_file root rel Visibility (map_page block / per) = one-file root rel Visibility other (other.block / per) is ∙ ap (relation_file root rel Visibility) same in
          let y = bytes_at c (relation_file root rel Visibility (map_page block / per)) in
          let whole : map_page block % per * 8192 + 8192 ≤ length y = (whole-is (map_page block % per) y there).0 in
          let shifted : map_page block + other.block % per ≡ other.block + map_page block % per = omega (arith, (its-place per other.block some).is, (its-place per (map_page block) some).is, ap (λ n. n * per) same) in
          ap (whole_block (other.block % per)) (ap (bytes_at d) own ∙ bytes-here root rel Visibility (map_page block / per) (bits_edited per block edit) c d made)
          ∙ edited-file per block edit y whole (other.block % per)
          ∙ ap₂ (λ t o. if t then option_map (page_edited edit block) o else o) (places-eq (map_page block % per) (other.block % per) (map_page block) other.block shifted) (ap (λ p. whole_block (other.block % per) (bytes_at c p)) (sym own))
          ∙ sym (in_state rel block edit other (block_in root per other c) (map_page block == other.block) is refl)

  in-file : Plain
  in-file = by_test (in_fork rel Visibility other) inside
      (λ else_so.
      elsewhere (λ e. true≢false (sym (file-same root rel Visibility other (map_page block / per) (other.block / per) small few.rel file_few to_few (sym e)).0 ∙ else_so))
      ∙ sym (out_state rel block edit other (block_in root per other c) else_so))

pub map-is : (root : PathValue) (per : ℕ) (rel : RelName) (block : ℕ) (edit : MapEdit) (other : BlockName) (there : Bool) (c d : Contents)
    → 0 < per → IsRel rel → IsBlock other → block < 2 ^ 32
    → has_block root per rel Visibility (map_page block) c ≡ Ok there → map_edited root per rel block edit c ≡ Ok d
    → block_in root per other d ≡ (if there then edited_state rel block edit other (block_in root per other c) else block_in root per other c)
unfolding map_edited
map-is root per rel block edit other there c d some small few low has made =
    let two = given-done (has_block root per rel Visibility (map_page block) c) (λ t. if t then map_in_file root per rel block edit c else Ok c) d made in
    let both : Ok there ≡ Ok two.0 = sym has ∙ two.1 in
    let same : there ≡ two.0 = cc in
    by there has (ap (λ t. if t then map_in_file root per rel block edit c else Ok c) same ∙ two.2)
  where
    by : (t : Bool) → has_block root per rel Visibility (map_page block) c ≡ Ok t → (if t then map_in_file root per rel block edit c else Ok c) ≡ Ok d → block_in root per other d ≡ (if t then edited_state rel block edit other (block_in root per other c) else block_in root per other c)
    by true has run = in-file root per rel block edit other c d some small few low (has-block root per rel Visibility c some (map_page block) has) run
    by false has run = let stays : c ≡ d = cc in ap (block_in root per other) (sym stays)

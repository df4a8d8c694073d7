-- Entries that are added, one after another, and the bytes of their files.
use Rattle.std.proofs.Common.{◌≡◌, ℕ, zero, suc, ◌+◌, List, [], ◌∷◌, ◌++◌, map, codes, Option, OnOk, Result, Ok, Err, refl, ap, ap₂, sym, ◌∙◌, subst, append_assoc}
use Rattle.std.proofs.lemmas.List.{append-nil, map-append}
use Rattle.std.specs.List.{flat_map, range_with_len}
use Rattle.cluster_tree.specs.Contents.{Entry, FileEntry}
use Rattle.cluster_tree.specs.PathValue.{PathValue, below, path_of}
use Rattle.reset_plan.specs.Plan.{padded}
use Rattle.wal_records.specs.Writer.{NewRecord, Written, in_pages, written}
use Rattle.pair_maker.specs.Blocks.{block_page}
use Rattle.pair_maker.specs.Clusters.{Named, below_name, file, copy_entries, pair_entries, source_entries, target_entries}
use Rattle.pair_maker.specs.Files.{relation_bytes, segment_bytes}
use Rattle.pair_maker.specs.Entries.{AddsBelow, Standing, pages_from, standing_at, standing_of}
use Rattle.pair_maker.specs.declared.entries.Placed.{Placed}
use Rattle.pair_maker.specs.Logs.{block_end, origin_of}
use Rattle.pair_maker.specs.declared.side.Side.{Side}

-- ---- entries that are added

pub adds-more : {root : PathValue} {old mid new : List Placed} {xs ys : List Named} → AddsBelow root old mid xs → AddsBelow root mid new ys → AddsBelow root old new (xs ++ ys)
adds-more {root} {old} {mid} {new} {xs} {ys} one other = record {
  is = other.is ∙ ap (λ l. l ++ map (standing_at root) ys) one.is ∙ append_assoc (map standing_of old) (map (standing_at root) xs) (map (standing_at root) ys)
      ∙ ap (λ l. map standing_of old ++ l) (sym (map-append (standing_at root) xs ys));
}

pub adds-last : {E : Type 0} (root : PathValue) (old mid new : List Placed) (xs ys : List Named) (r : Result (Unit {0}) E) → AddsBelow root old mid xs → OnOk r (AddsBelow root mid new ys) → OnOk r (AddsBelow root old new (xs ++ ys))
adds-last root old mid new xs ys (Ok u) one other = adds-more one other
adds-last root old mid new xs ys (Err e) one other = tt

pub adds-as : {E : Type 0} (root : PathValue) (old new : List Placed) (xs ys : List Named) (r : Result (Unit {0}) E) → xs ≡ ys → OnOk r (AddsBelow root old new xs) → OnOk r (AddsBelow root old new ys)
adds-as root old new xs ys r is one = subst (λ l. OnOk r (AddsBelow root old new l)) is one

pub file-as : (root : PathValue) (old new : List Placed) (text bytes other : List ℕ) → bytes ≡ other → AddsBelow root old new (file text bytes ∷ []) → AddsBelow root old new (file text other ∷ [])
file-as root old new text bytes other is one = subst (λ b. AddsBelow root old new (file text b ∷ [])) is one

pub file-last : {E : Type 0} (root : PathValue) (old new : List Placed) (text bytes other : List ℕ) (r : Result (Unit {0}) E) → bytes ≡ other → OnOk r (AddsBelow root old new (file text bytes ∷ [])) → OnOk r (AddsBelow root old new (file text other ∷ []))
file-last root old new text bytes other r is one = subst (λ b. OnOk r (AddsBelow root old new (file text b ∷ []))) is one

-- the root itself
pub adds-own : (root own : PathValue) (old new : List Placed) (entry : Entry) → own ≡ root → map standing_of new ≡ map standing_of old ++ record { path = own; entry = entry } ∷ [] → AddsBelow root old new (record { parts = []; entry = entry } ∷ [])
adds-own root own old new entry is added = record {
  is = added ∙ ap (λ p. map standing_of old ++ record { path = p; entry = entry } ∷ []) (is ∙ ap (λ l. path_of root.absolute l) (sym (append-nil root.parts)));
}

-- ---- the bytes of files

pages-are : (side : Side) (seed from n : ℕ) → pages_from seed from (map (block_end side seed) (range_with_len from n)) ≡ flat_map (λ block. block_page seed block (block_end side seed block)) (range_with_len from n)
pages-are side seed from zero = refl
pages-are side seed from (suc n) = ap (λ l. block_page seed from (block_end side seed from) ++ l) (pages-are side seed (from + 1) n)

pub relation-is : (side : Side) (seed blocks : ℕ) (ends : List (Option ℕ)) → ends ≡ map (block_end side seed) (range_with_len 0 blocks) → FileEntry (pages_from seed 0 ends) ≡ FileEntry (relation_bytes side seed blocks)
unfolding relation_bytes
relation-is side seed blocks ends is = ap FileEntry (ap (pages_from seed 0) is ∙ pages-are side seed 0 blocks)

pub segment-is : (side : Side) (records : List NewRecord) (w : Written) → w ≡ written (origin_of side) records → FileEntry (padded (in_pages w.bytes) 0x10_0000) ≡ FileEntry (segment_bytes side records)
unfolding segment_bytes
segment-is side records w is = ap (λ (v : Written). FileEntry (padded (in_pages v.bytes) 0x10_0000)) is

-- ---- a pair

below-name : (root : PathValue) (name : List ℕ) (entries : List Named) → map (standing_at (below root (name ∷ []))) entries ≡ map (standing_at root) (below_name name entries)
below-name root name [] = refl
below-name root name (n ∷ entries) =
    ap₂ (λ (s : Standing) l. s ∷ l) (ap (λ l. record { path = path_of root.absolute l; entry = n.entry }) (append_assoc root.parts (name ∷ []) n.parts)) (below-name root name entries)

pub pair-added : (root target source copy : PathValue) (seed blocks : ℕ) (none one two three : List Placed)
    → target ≡ below root (codes "t" ∷ []) → source ≡ below root (codes "s" ∷ []) → copy ≡ below root (codes "c" ∷ []) → none ≡ []
    → AddsBelow target none one (target_entries seed blocks) → AddsBelow source one two (source_entries seed blocks) → AddsBelow copy two three (copy_entries seed blocks)
    → map standing_of three ≡ map (standing_at root) (pair_entries seed blocks)
unfolding pair_entries
pair-added root target source copy seed blocks none one two three is_target is_source is_copy is_none a b c =
    let t = below_name (codes "t") (target_entries seed blocks) in
    let s = below_name (codes "s") (source_entries seed blocks) in
    let u = below_name (codes "c") (copy_entries seed blocks) in
    let first : map standing_of one ≡ map (standing_at root) t =
    a.is ∙ ap₂ (λ (l : List Placed) p. map standing_of l ++ map (standing_at p) (target_entries seed blocks)) is_none is_target ∙ below-name root (codes "t") (target_entries seed blocks) in
    let second : map (standing_at source) (source_entries seed blocks) ≡ map (standing_at root) s = ap (λ p. map (standing_at p) (source_entries seed blocks)) is_source ∙ below-name root (codes "s") (source_entries seed blocks) in
    let third : map (standing_at copy) (copy_entries seed blocks) ≡ map (standing_at root) u = ap (λ p. map (standing_at p) (copy_entries seed blocks)) is_copy ∙ below-name root (codes "c") (copy_entries seed blocks) in
    c.is ∙ ap₂ (λ x y. x ++ y) (b.is ∙ ap₂ (λ x y. x ++ y) first second) third
    ∙ append_assoc (map (standing_at root) t) (map (standing_at root) s) (map (standing_at root) u)
    ∙ ap (λ l. map (standing_at root) t ++ l) (sym (map-append (standing_at root) s u))
    ∙ sym (map-append (standing_at root) t (s ++ u))

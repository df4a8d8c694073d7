-- Which paths replay changes.
use Rattle.std.proofs.Common.{◌≡◌, ℕ, zero, suc, ◌+◌, ◌-◌, ◌≤◌, ◌==◌, Bool, true, false, cond, nat_lt, not, get_or, ◌&&◌, ◌||◌, List, [], ◌∷◌, ◌++◌, length, take, codes, decimal, Option, None, Some, refl, ap, sym, ◌∙◌, subst, append_assoc, length-take, arith}
use Rattle.std.proofs.lemmas.Bool.{and_parts}
use Rattle.std.proofs.lemmas.Grind.{common_steps}
use Rattle.std.proofs.lemmas.List.{get_or-append-add, length-append}
use Rattle.block_refs.specs.declared.names.RelName.{RelName}
use Rattle.cluster_tree.specs.Apart.{is_held}
use Rattle.cluster_tree.specs.Contents.{parent}
use Rattle.cluster_tree.specs.Folders.{lies_in}
use Rattle.cluster_tree.specs.PathOrder.{path_eq}
use Rattle.cluster_tree.specs.PathValue.{PathValue, Holds, below, front}
use Rattle.cluster_tree.proofs.HoldLemmas.{holds-held}
use Rattle.cluster_tree.proofs.OrderLemmas.{path_eq-same, same_path}
use Rattle.cluster_tree.proofs.RootLemmas.{holds-below}
use Rattle.file_edits.proofs.ClearLemmas.{held-above}
use Rattle.file_edits.specs.Edits.{folders_between, leads, on_way}
use Rattle.record_layouts.specs.declared.relmap.RelMapUpdate.{RelMapUpdate}
use Rattle.relation_files.specs.Paths.{database_parts, global_parts}
use Rattle.slru_replay.specs.Area.{is_of_area}
use Rattle.slru_replay.specs.MultiXact.{is_of_multixacts}
use Rattle.slru_replay.specs.declared.area.Area.{Area}
use Rattle.slru_replay.specs.declared.area.Area.TheVariants.{Status, Offsets, Members}
use Rattle.storage_databases.specs.Databases.{database_folder, version_file}
use Rattle.storage_databases.specs.RelationMap.{is_of_map}
use Rattle.storage_replay.specs.Files.{is_file_in, is_of_relation}
use Rattle.file_effects.specs.Own.{control_file_of, is_at, is_replayed}
use Rattle.file_effects.proofs.ApartLemmas.{apart-control, file-control, way-control}

-- what lies below a folder, whole or in part

fewer-first : (parts : List (List ℕ)) (k n : ℕ) → k ≤ n → take k (take n parts) ≡ take k parts
fewer-first parts k n l = grind (arith, common_steps)

held_front : (folder path : PathValue) (n : ℕ) → Holds folder path → length folder.parts ≤ n → Holds folder (front n path)
held_front folder path n held l = record { mark = held.mark; prefix = fewer-first path.parts (length folder.parts) n l ∙ held.prefix }

held_leads : (k n : ℕ) (folder path q : PathValue) → Holds folder path → length folder.parts ≤ n → leads k n path q ≡ true → Holds folder q
unfolding leads
held_leads zero n folder path q held l e = subst (Holds folder) (sym (path_eq-same q path e)) held
held_leads (suc k) n folder path q held l e =
    elim (path_eq q (front n path)) as (λ b. path_eq q (front n path) ≡ b → (b || leads k (n + 1) path q) ≡ true → Holds folder q) [
      | true ↦ λ is _. subst (Holds folder) (sym (path_eq-same q (front n path) is)) (held_front folder path n held l)
      | false ↦ λ _ more. held_leads k (n + 1) folder path q held (omega arith) more
    ]
    refl e

held_way : (root : PathValue) (top : List ℕ) (path q : PathValue) → Holds (below root (top ∷ [])) path → on_way root path q ≡ true → is_at root top q ≡ true
held_way root top path q held e =
    holds-held (below root (top ∷ [])) q
    (held_leads (folders_between root path) (length root.parts + 1) (below root (top ∷ [])) path q held (omega (arith, length-append root.parts (top ∷ []))) e)

held_in : (folder above q : PathValue) → Holds folder above → lies_in above q ≡ true → is_held folder q ≡ true
held_in folder above q held e =
    let same : above ≡ parent q = path_eq-same above (parent q) (and_parts (nat_lt 0 (length q.parts)) (path_eq above (parent q)) e).1 in
    let fewer : length folder.parts ≤ length above.parts = omega (arith, ap length held.prefix, length-take (length folder.parts) above.parts) in
    let least : length above.parts ≤ length q.parts - 1 = omega (arith, ap (λ (p : PathValue). length p.parts) same, length-take (length q.parts - 1) q.parts) in
    let within : length folder.parts ≤ length q.parts - 1 = omega (arith, fewer, least) in
    let parts : take (length folder.parts) above.parts ≡ take (length folder.parts) q.parts =
    ap (λ (p : PathValue). take (length folder.parts) p.parts) same ∙ fewer-first q.parts (length folder.parts) (length q.parts - 1) within in
    holds-held folder q (record { mark = held.mark ∙ ap (λ (p : PathValue). p.absolute) same; prefix = sym parts ∙ held.prefix })

-- what lies below an entry of the root

below-top : (root : PathValue) (top : List ℕ) (more : List (List ℕ)) → Holds (below root (top ∷ [])) (below root (top ∷ more))
below-top root top more = subst (Holds (below root (top ∷ []))) (same_path _ _ refl (append_assoc root.parts (top ∷ []) more)) (holds-below (below root (top ∷ [])) more)

pub file-top : (root : PathValue) (top name : List ℕ) (more : List (List ℕ)) → Holds (below root (top ∷ [])) (below (below root (top ∷ more)) (name ∷ []))
file-top root top name more =
    subst (Holds (below root (top ∷ []))) (sym (same_path _ _ refl (append_assoc root.parts (top ∷ more) (name ∷ [])))) (below-top root top (more ++ name ∷ []))

either : {P : Type 0} (a b : Bool) → (a ≡ true → P) → (b ≡ true → P) → (a || b) ≡ true → P
either true b f g e = f refl
either false b f g e = g e

-- the way to a folder, and what lies in it
at_folder : (root : PathValue) (top : List ℕ) (more : List (List ℕ)) (q : PathValue) (t : Bool) → (on_way root (below root (top ∷ more)) q || (lies_in (below root (top ∷ more)) q && t)) ≡ true → is_at root top q ≡ true
at_folder root top more q t e =
    either (on_way root (below root (top ∷ more)) q) (lies_in (below root (top ∷ more)) q && t)
    (held_way root top (below root (top ∷ more)) q (below-top root top more))
    (λ both. held_in (below root (top ∷ [])) (below root (top ∷ more)) q (below-top root top more) (and_parts _ _ both).0) e

pub at_area : (root : PathValue) (top : List ℕ) (more : List (List ℕ)) (q : PathValue) → (on_way root (below root (top ∷ more)) q || lies_in (below root (top ∷ more)) q) ≡ true → is_at root top q ≡ true
at_area root top more q e =
    either (on_way root (below root (top ∷ more)) q) (lies_in (below root (top ∷ more)) q)
    (held_way root top (below root (top ∷ more)) q (below-top root top more))
    (held_in (below root (top ∷ [])) (below root (top ∷ more)) q (below-top root top more)) e

-- one of the four

first : (a b c d : Bool) → a ≡ true → (a || b || c || d) ≡ true
first true b c d e = refl
first false b c d e = absurd cc

second : (a b c d : Bool) → b ≡ true → (a || b || c || d) ≡ true
second true b c d e = refl
second false true c d e = refl
second false false c d e = absurd cc

third : (a b c d : Bool) → c ≡ true → (a || b || c || d) ≡ true
third true b c d e = refl
third false true c d e = refl
third false false true d e = refl
third false false false d e = absurd cc

fourth : (a b c d : Bool) → d ≡ true → (a || b || c || d) ≡ true
fourth true b c d e = refl
fourth false true c d e = refl
fourth false false true d e = refl
fourth false false false d e = e

kept : (x t : Bool) → (x ≡ true → ⊥) → t ≡ true → (not x && t) ≡ true
kept true t f e = absurd (f refl)
kept false t f e = e

module _ (root q : PathValue) where
  in_base : is_at root (codes "base") q ≡ true → is_replayed root q ≡ true
  in_base e =
      kept (path_eq q (control_file_of root)) _ (apart-control root q (codes "base") refl e)
      (first (is_at root (codes "base") q) (is_at root (codes "global") q) (is_at root (codes "pg_xact") q) (is_at root (codes "pg_multixact") q) e)

  in_global : (path_eq q (control_file_of root) ≡ true → ⊥) → is_at root (codes "global") q ≡ true → is_replayed root q ≡ true
  in_global f e =
      kept (path_eq q (control_file_of root)) _ f (second (is_at root (codes "base") q) (is_at root (codes "global") q) (is_at root (codes "pg_xact") q) (is_at root (codes "pg_multixact") q) e)

  in_status : is_at root (codes "pg_xact") q ≡ true → is_replayed root q ≡ true
  in_status e =
      kept (path_eq q (control_file_of root)) _ (apart-control root q (codes "pg_xact") refl e)
      (third (is_at root (codes "base") q) (is_at root (codes "global") q) (is_at root (codes "pg_xact") q) (is_at root (codes "pg_multixact") q) e)

  in_multis : is_at root (codes "pg_multixact") q ≡ true → is_replayed root q ≡ true
  in_multis e =
      kept (path_eq q (control_file_of root)) _ (apart-control root q (codes "pg_multixact") refl e)
      (fourth (is_at root (codes "base") q) (is_at root (codes "global") q) (is_at root (codes "pg_xact") q) (is_at root (codes "pg_multixact") q) e)

-- the paths of each call

pub relation-replayed : (root : PathValue) (rel : RelName) (q : PathValue) → is_of_relation root rel q ≡ true → is_replayed root q ≡ true
relation-replayed root rel q e = by (rel.space == 1664) e
  where
    by : (b : Bool) → (on_way root (below root (cond b global_parts (database_parts rel.database))) q || is_file_in (below root (cond b global_parts (database_parts rel.database))) rel.relation q) ≡ true → is_replayed root q ≡ true
    by true e =
        in_global root q
        (λ same. either (on_way root (below root global_parts) q) (is_file_in (below root global_parts) rel.relation q)
        (λ way. way-control root (below root global_parts) q [] (get_or-append-add root.parts global_parts 1 []) refl way same)
        (λ file. file-control root (below root global_parts) q rel.relation file same) e)
        (at_folder root (codes "global") [] q _ e)
    by false e = in_base root q (at_folder root (codes "base") (decimal rel.database ∷ []) q _ e)

pub area-replayed : (root : PathValue) (area : Area) (q : PathValue) → is_of_area root area q ≡ true → is_replayed root q ≡ true
area-replayed root Status q e = in_status root q (at_area root (codes "pg_xact") [] q e)
area-replayed root Offsets q e = in_multis root q (at_area root (codes "pg_multixact") (codes "offsets" ∷ []) q e)
area-replayed root Members q e = in_multis root q (at_area root (codes "pg_multixact") (codes "members" ∷ []) q e)

pub multis-replayed : (root q : PathValue) → is_of_multixacts root q ≡ true → is_replayed root q ≡ true
multis-replayed root q e = either (is_of_area root Offsets q) (is_of_area root Members q) (area-replayed root Offsets q) (area-replayed root Members q) e

pub version-replayed : (root : PathValue) (database : ℕ) (q : PathValue) → on_way root (version_file root database) q ≡ true → is_replayed root q ≡ true
version-replayed root database q e =
    in_base root q (held_way root (codes "base") (version_file root database) q (file-top root (codes "base") (codes "PG_VERSION") (decimal database ∷ [])) e)

pub database-replayed : (root : PathValue) (database : ℕ) (q : PathValue) → is_held (database_folder root database) q ≡ true → is_replayed root q ≡ true
database-replayed root database q e =
    let same : database_folder root database ≡ below (below root (codes "base" ∷ [])) (decimal database ∷ []) = sym (same_path _ _ refl (append_assoc root.parts (codes "base" ∷ []) (decimal database ∷ []))) in
    in_base root q (held-above (below root (codes "base" ∷ [])) (decimal database) q (subst (λ f. is_held f q ≡ true) same e))

map_part : (root : PathValue) → get_or (below (below root global_parts) (codes "pg_filenode.map" ∷ [])).parts (length root.parts + 1) [] ≡ codes "pg_filenode.map"
map_part root = ap (λ l. get_or l (length root.parts + 1) []) (append_assoc root.parts global_parts (codes "pg_filenode.map" ∷ [])) ∙ get_or-append-add root.parts (codes "global" ∷ codes "pg_filenode.map" ∷ []) 1 []

pub map-replayed : (root : PathValue) (update : Option RelMapUpdate) (q : PathValue) → is_of_map root update q ≡ true → is_replayed root q ≡ true
map-replayed root None q e = absurd cc
map-replayed root (Some update) q e = by (update.database == 0) e
  where
    by : (b : Bool) → on_way root (below (below root (cond b global_parts (database_parts update.database))) (codes "pg_filenode.map" ∷ [])) q ≡ true → is_replayed root q ≡ true
    by true e =
        in_global root q (way-control root (below (below root global_parts) (codes "pg_filenode.map" ∷ [])) q (codes "pg_filenode.map") (map_part root) refl e)
        (held_way root (codes "global") (below (below root global_parts) (codes "pg_filenode.map" ∷ [])) q (file-top root (codes "global") (codes "pg_filenode.map") []) e)
    by false e =
        in_base root q (held_way root (codes "base") (below (below root (database_parts update.database)) (codes "pg_filenode.map" ∷ [])) q (file-top root (codes "base") (codes "pg_filenode.map") (decimal update.database ∷ [])) e)

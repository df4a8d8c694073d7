-- The paths that a replay has of its own: which are others, and that records change none of them.
use Rattle.std.proofs.Common.{◌≡◌, ◌≢◌, false, List, [], ◌∷◌, ◌++◌, ℕ, length, bytes_eq, codes, refl, sym, ap, ◌∙◌, arith, true≢false, append_assoc, length-append}
use Rattle.std.proofs.lemmas.List.{append_cancel_left}
use Rattle.std.proofs.lemmas.Slice.Eq.{bytes_eq-Decides}
use Rattle.cluster_tree.specs.PathValue.{PathValue, below}
use Rattle.clusters.specs.Roots.{path_in, wal_folder}
use Rattle.file_effects.specs.Own.{is_replayed}
use Rattle.file_effects.proofs.ApartLemmas.{control-not-replayed, label-not-replayed, mark-not-replayed}
use Rattle.replay_core.specs.Replayed.{control_path, label_path, mark_of}

-- entries of a root with other names
beside : (root : PathValue) (a b : List ℕ) → bytes_eq a b ≡ false → below root (a ∷ []) ≢ below root (b ∷ [])
beside root a b other = λ e.
    let same : a ∷ [] ≡ b ∷ [] = append_cancel_left root.parts (a ∷ []) (b ∷ []) (ap (λ (p : PathValue). p.parts) e) in
    let is : a ≡ b = cc same in
    true≢false (sym ((bytes_eq-Decides a b).1 is) ∙ other)

-- and what lies deeper
deeper : (root : PathValue) (a b x : List ℕ) (xs : List (List ℕ)) → below root (b ∷ x ∷ xs) ≢ below root (a ∷ [])
deeper root a b x xs = λ e.
    let long : length (root.parts ++ b ∷ x ∷ xs) ≡ length (root.parts ++ a ∷ []) = ap (λ (p : PathValue). length p.parts) e in
    absurd (omega (arith, long, length-append root.parts (a ∷ []), length-append root.parts (b ∷ x ∷ xs)))

pub control_path-is : (root : PathValue) → control_path root ≡ below root (codes "global" ∷ codes "pg_control" ∷ [])
unfolding path_in
control_path-is root = refl

pub control-mark : (root : PathValue) → control_path root ≢ mark_of root
control-mark root = λ e. deeper root (codes "pg_walreplay.unfinished") (codes "global") (codes "pg_control") [] (sym (control_path-is root) ∙ e)

pub control-label : (root : PathValue) → control_path root ≢ label_path root
control-label root = λ e. deeper root (codes "backup_label") (codes "global") (codes "pg_control") [] (sym (control_path-is root) ∙ e)

pub label-mark : (root : PathValue) → label_path root ≢ mark_of root
label-mark root = beside root (codes "backup_label") (codes "pg_walreplay.unfinished") refl

pub log-mark : (root : PathValue) (name : List ℕ) → below (wal_folder root) (name ∷ []) ≢ mark_of root
log-mark root name = λ e.
    deeper root (codes "pg_walreplay.unfinished") (codes "pg_wal") name [] (ap (λ l. record root { parts = l }) (sym (append_assoc root.parts (codes "pg_wal" ∷ []) (name ∷ []))) ∙ e)

-- ---- records change none of them

pub mark-kept : (root : PathValue) → is_replayed root (mark_of root) ≡ false
mark-kept root = mark-not-replayed root

pub label-kept : (root : PathValue) → is_replayed root (label_path root) ≡ false
label-kept root = label-not-replayed root

pub control-kept : (root : PathValue) → is_replayed root (control_path root) ≡ false
control-kept root = ap (is_replayed root) (control_path-is root) ∙ control-not-replayed root

-- What replay changes is brought back.
use Rattle.std.proofs.Common.{◌≡◌, ℕ, Bool, true, false, not, ◌||◌, ◌&&◌, List, [], ◌∷◌, codes, refl, ap, sym, ◌∙◌, true≢false, append_assoc}
use Rattle.cluster_tree.specs.Contents.{Contents, entry_at}
use Rattle.cluster_tree.specs.PathOrder.{path_eq}
use Rattle.cluster_tree.specs.PathValue.{PathValue, below, path_of}
use Rattle.cluster_tree.proofs.HoldLemmas.{held-holds}
use Rattle.cluster_tree.proofs.OrderLemmas.{path_eq-same}
use Rattle.cluster_tree.proofs.RootLemmas.{held-below}
use Rattle.file_effects.specs.Own.{control_file_of, is_at, is_replayed}
use Rattle.mark_lines.specs.Paths.{parts_below}
use Rattle.replay_core.specs.Replayed.{control_path, label_path}
use Rattle.replay_core.specs.Under.{SameBesideReplay, is_changed_by_replay}
use Rattle.replay_core.proofs.PathLemmas.{control_path-is}
use Rattle.replay_restore.specs.Listing.{is_named, is_restored_at}
use Rattle.restored_laws.specs.Back.{SameBeside}
use Rattle.restored_laws.proofs.BackLemmas.{restored-below}

-- at or below an entry of the root whose name begins what is brought back
at-restored : (root path : PathValue) (name : List ℕ) → ((more : List (List ℕ)) → is_named (name ∷ more) ≡ true) → is_at root name path ≡ true → is_restored_at root path ≡ true
at-restored root path name named at =
    let more = parts_below (below root (name ∷ [])) path in
    let is : path ≡ below root (name ∷ more) = held-below (below root (name ∷ [])) path (held-holds (below root (name ∷ [])) path at) ∙ ap (path_of root.absolute) (append_assoc root.parts (name ∷ []) more) in
    ap (is_restored_at root) is ∙ restored-below root (name ∷ more) ∙ named more

one-of : {P : Type 0} (n a b c d : Bool) → (n && (a || b || c || d)) ≡ true → (a ≡ true → P) → (b ≡ true → P) → (c ≡ true → P) → (d ≡ true → P) → P
one-of false a b c d is fa fb fc fd = absurd (true≢false (sym is))
one-of true true b c d is fa fb fc fd = fa refl
one-of true false true c d is fa fb fc fd = fb refl
one-of true false false true d is fa fb fc fd = fc refl
one-of true false false false true is fa fb fc fd = fd refl
one-of true false false false false is fa fb fc fd = absurd (true≢false (sym is))

either : {P : Type 0} (a b : Bool) → (a || b) ≡ true → (a ≡ true → P) → (b ≡ true → P) → P
either true b is one two = one refl
either false b is one two = two is

pub changed-restored : (root path : PathValue) → is_changed_by_replay root path ≡ true → is_restored_at root path ≡ true
changed-restored root path is =
    either (is_replayed root path) (path_eq path (control_path root) || path_eq path (label_path root)) is
    (λ replayed. one-of (not (path_eq path (control_file_of root))) _ _ _ _ replayed
    (at-restored root path (codes "base") (λ more. refl)) (at-restored root path (codes "global") (λ more. refl))
    (at-restored root path (codes "pg_xact") (λ more. refl)) (at-restored root path (codes "pg_multixact") (λ more. refl)))
    (λ file. either (path_eq path (control_path root)) (path_eq path (label_path root)) file
    (λ same. ap (is_restored_at root) (path_eq-same path (control_path root) same ∙ control_path-is root) ∙ restored-below root (codes "global" ∷ codes "pg_control" ∷ []))
    (λ same. ap (is_restored_at root) (path_eq-same path (label_path root) same) ∙ restored-below root (codes "backup_label" ∷ [])))

-- so what isn't brought back isn't changed
pub beside-wider : (root : PathValue) (old new : Contents) → SameBesideReplay root old new → SameBeside root old new
beside-wider root old new beside path off =
    elim (is_changed_by_replay root path) as (λ b. is_changed_by_replay root path ≡ b → entry_at new path ≡ entry_at old path) [
      | true ↦ λ is. absurd (true≢false (sym (changed-restored root path is) ∙ off))
      | false ↦ λ is. beside path is
    ] refl

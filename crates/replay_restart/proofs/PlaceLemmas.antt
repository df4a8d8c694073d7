-- Which paths below a root are the mark and the copies, which replay changes, which are brought back, and which are the log's.
use Rattle.std.proofs.Common.{◌≡◌, Bool, true, false, not, ◌||◌, ◌&&◌, ℕ, List, [], ◌∷◌, bytes_eq, codes, refl, ap, sym, ◌∙◌, subst, true≢false, append_assoc}
use Rattle.std.proofs.Math.Seq.{drop-append_seam}
use Rattle.cluster_tree.specs.Apart.{is_held}
use Rattle.cluster_tree.specs.PathOrder.{path_eq}
use Rattle.cluster_tree.specs.PathValue.{PathValue, Holds, below, path_of}
use Rattle.cluster_tree.proofs.HoldLemmas.{held-holds, holds-held}
use Rattle.cluster_tree.proofs.OrderLemmas.{path_eq-own, path_eq-same}
use Rattle.cluster_tree.proofs.RootLemmas.{held-below, holds-below}
use Rattle.clusters.specs.Roots.{wal_folder}
use Rattle.file_edits.proofs.ClearLemmas.{held-own}
use Rattle.file_effects.specs.Own.{control_file_of, is_at, is_replayed}
use Rattle.file_effects.proofs.ApartLemmas.{differ, one-top}
use Rattle.mark_lines.specs.Paths.{parts_below}
use Rattle.replay_copies.specs.Laid.{is_laid_at, mark_of}
use Rattle.replay_core.specs.Replayed.{control_path, label_path}
use Rattle.replay_core.specs.Under.{is_changed_by_replay}
use Rattle.replay_core.proofs.PathLemmas.{control_path-is}
use Rattle.replay_restore.specs.Listing.{is_named, is_restored_at}
use Rattle.stored_replay.specs.Shadows.{shadow_folder}

-- ---- entries of the root

-- a path at an entry of the root is none at another
pub other-top : (root path : PathValue) (a b : List ℕ) → bytes_eq a b ≡ false → is_at root a path ≡ true → is_at root b path ≡ false
other-top root path a b other at =
    elim (is_at root b path) as (λ (v : Bool). is_at root b path ≡ v → v ≡ false) [
      | true ↦ λ is. absurd (differ a b other (one-top root path a b at is))
      | false ↦ λ is. refl
    ] refl

pub at-held : (root path : PathValue) (name : List ℕ) → is_at root name path ≡ true → Holds root path
at-held root path name is =
    let deep = held-below (below root (name ∷ [])) path (held-holds (below root (name ∷ [])) path is) in
    subst (Holds root) (sym (deep ∙ ap (λ (l : List (List ℕ)). record root { parts = l }) (append_assoc root.parts (name ∷ []) _))) (holds-below root _)

pub entry-own : (root : PathValue) (name : List ℕ) → is_at root name (below root (name ∷ [])) ≡ true
entry-own root name = held-own (below root (name ∷ []))

pub control-own : (root : PathValue) → is_at root (codes "global") (control_path root) ≡ true
control-own root =
    holds-held (below root (codes "global" ∷ [])) (control_path root)
    (subst (Holds (below root (codes "global" ∷ []))) (ap (λ (l : List (List ℕ)). record root { parts = l }) (append_assoc root.parts (codes "global" ∷ []) (codes "pg_control" ∷ [])) ∙ sym (control_path-is root))
    (holds-below (below root (codes "global" ∷ [])) (codes "pg_control" ∷ [])))

by-path : (P : PathValue → Type 0) (p q : PathValue) (b : Bool) → path_eq p q ≡ b → P q → b ≡ true → P p
by-path P p q true same at is = subst P (sym (path_eq-same p q same)) at
by-path P p q false same at is = absurd (true≢false (sym is))

-- a path at another entry isn't this one
not-path : (root p q : PathValue) (a b : List ℕ) → bytes_eq a b ≡ false → is_at root a p ≡ true → is_at root b q ≡ true → path_eq p q ≡ false
not-path root p q a b other at at_q =
    elim (path_eq p q) as (λ (v : Bool). path_eq p q ≡ v → v ≡ false) [
      | true ↦ λ is. absurd (true≢false (sym (subst (λ r. is_at root b r ≡ true) (sym (path_eq-same p q is)) at_q) ∙ other-top root p a b other at))
      | false ↦ λ is. refl
    ] refl

-- ---- what replay changes

-- names of entries at which nothing is replayed, and that aren't the label's
pub record IsBeside (name : List ℕ) : Type 0 where
  pub base : bytes_eq name (codes "base") ≡ false
  pub global : bytes_eq name (codes "global") ≡ false
  pub xact : bytes_eq name (codes "pg_xact") ≡ false
  pub multixact : bytes_eq name (codes "pg_multixact") ≡ false
  pub label : bytes_eq name (codes "backup_label") ≡ false

log-beside : IsBeside (codes "pg_wal")
log-beside = record { base = refl; global = refl; xact = refl; multixact = refl; label = refl }

mark-beside : IsBeside (codes "pg_walreplay.unfinished")
mark-beside = record { base = refl; global = refl; xact = refl; multixact = refl; label = refl }

copies-beside : IsBeside (codes "pg_walreplay.shadow")
copies-beside = record { base = refl; global = refl; xact = refl; multixact = refl; label = refl }

none-of : (n a b c d : Bool) → a ≡ false → b ≡ false → c ≡ false → d ≡ false → (n && (a || b || c || d)) ≡ false
none-of true a b c d ea eb ec ed = ap (λ v. v || b || c || d) ea ∙ ap (λ v. v || c || d) eb ∙ ap (λ v. v || d) ec ∙ ed
none-of false a b c d ea eb ec ed = refl

beside-unchanged : (root path : PathValue) (name : List ℕ) → IsBeside name → is_at root name path ≡ true → is_changed_by_replay root path ≡ false
beside-unchanged root path name off at =
    ap (λ v. v || (path_eq path (control_path root) || path_eq path (label_path root)))
    (none-of (not (path_eq path (control_file_of root))) _ _ _ _
    (other-top root path name (codes "base") off.base at) (other-top root path name (codes "global") off.global at)
    (other-top root path name (codes "pg_xact") off.xact at) (other-top root path name (codes "pg_multixact") off.multixact at))
    ∙ ap (λ v. v || path_eq path (label_path root)) (not-path root path (control_path root) name (codes "global") off.global at (control-own root))
    ∙ not-path root path (label_path root) name (codes "backup_label") off.label at (entry-own root (codes "backup_label"))

one-of : {P : Type 0} (n a b c d : Bool) → (n && (a || b || c || d)) ≡ true → (a ≡ true → P) → (b ≡ true → P) → (c ≡ true → P) → (d ≡ true → P) → P
one-of false a b c d is fa fb fc fd = absurd (true≢false (sym is))
one-of true true b c d is fa fb fc fd = fa refl
one-of true false true c d is fa fb fc fd = fb refl
one-of true false false true d is fa fb fc fd = fc refl
one-of true false false false true is fa fb fc fd = fd refl
one-of true false false false false is fa fb fc fd = absurd (true≢false (sym is))

either : {P : Type 0} (a b : Bool) → (a || b) ≡ true → (a ≡ true → P) → (b ≡ true → P) → P
either true b is one two = one refl
either false b is one two = two is

pub changed-held : (root path : PathValue) → is_changed_by_replay root path ≡ true → Holds root path
changed-held root path is =
    either (is_replayed root path) (path_eq path (control_path root) || path_eq path (label_path root)) is
    (λ replayed. one-of _ _ _ _ _ replayed (at-held root path (codes "base")) (at-held root path (codes "global")) (at-held root path (codes "pg_xact")) (at-held root path (codes "pg_multixact")))
    (λ file. either (path_eq path (control_path root)) (path_eq path (label_path root)) file
    (λ same. by-path (Holds root) path (control_path root) true same (at-held root (control_path root) (codes "global") (control-own root)) refl)
    (λ same. by-path (Holds root) path (label_path root) true same (holds-below root (codes "backup_label" ∷ [])) refl))

-- ---- the mark and the copies

pub laid-top : {P : Type 0} (root path : PathValue) → is_laid_at root path ≡ true → (is_at root (codes "pg_walreplay.unfinished") path ≡ true → P) → (is_at root (codes "pg_walreplay.shadow") path ≡ true → P) → P
laid-top root path is mark copies =
    either (path_eq path (mark_of root)) (is_held (shadow_folder root) path) is
    (λ same. mark (by-path (λ p. is_at root (codes "pg_walreplay.unfinished") p ≡ true) path (mark_of root) true same (entry-own root (codes "pg_walreplay.unfinished")) refl))
    copies

pub laid-held : (root path : PathValue) → is_laid_at root path ≡ true → Holds root path
laid-held root path is = laid-top root path is (at-held root path (codes "pg_walreplay.unfinished")) (at-held root path (codes "pg_walreplay.shadow"))

pub laid-unchanged : (root path : PathValue) → is_laid_at root path ≡ true → is_changed_by_replay root path ≡ false
laid-unchanged root path is =
    laid-top root path is (beside-unchanged root path (codes "pg_walreplay.unfinished") mark-beside) (beside-unchanged root path (codes "pg_walreplay.shadow") copies-beside)

pub mark-laid : (root : PathValue) → is_laid_at root (mark_of root) ≡ true
mark-laid root = ap (λ b. b || is_held (shadow_folder root) (mark_of root)) (path_eq-own (mark_of root))

-- a path at another entry of the root is neither
pub not-laid : (root path : PathValue) (name : List ℕ) → bytes_eq name (codes "pg_walreplay.unfinished") ≡ false → bytes_eq name (codes "pg_walreplay.shadow") ≡ false → is_at root name path ≡ true → is_laid_at root path ≡ false
not-laid root path name off other at =
    ap (λ b. b || is_held (shadow_folder root) path) (not-path root path (mark_of root) name (codes "pg_walreplay.unfinished") off at (entry-own root (codes "pg_walreplay.unfinished")))
    ∙ other-top root path name (codes "pg_walreplay.shadow") other at

-- ---- the log

module _ (root path : PathValue) (holds : Holds (wal_folder root) path) where
  log-top : is_at root (codes "pg_wal") path ≡ true
  log-top = holds-held (wal_folder root) path holds

  pub log-unchanged : is_changed_by_replay root path ≡ false
  log-unchanged = beside-unchanged root path (codes "pg_wal") log-beside log-top

  pub log-not_laid : is_laid_at root path ≡ false
  log-not_laid = not-laid root path (codes "pg_wal") refl refl log-top

-- ---- what is brought back

restored-named : (root path : PathValue) → is_restored_at root path ≡ true → is_named (parts_below root path) ≡ true
restored-named root path is = second (is_held root path) (is_named (parts_below root path)) is
  where
    second : (a b : Bool) → (a && b) ≡ true → b ≡ true
    second true b e = e
    second false b e = absurd (true≢false (sym e))

pub restored-held : (root path : PathValue) → is_restored_at root path ≡ true → Holds root path
restored-held root path is = held-holds root path (first (is_held root path) (is_named (parts_below root path)) is)
  where
    first : (a b : Bool) → (a && b) ≡ true → a ≡ true
    first true b e = refl
    first false b e = absurd (true≢false (sym e))

-- a path at an entry of the root that is neither an area nor the label isn't brought back
at-not_restored : (root path : PathValue) (name : List ℕ) → is_named (name ∷ []) ≡ false → is_at root name path ≡ true → is_restored_at root path ≡ false
at-not_restored root path name off at =
    let more = parts_below (below root (name ∷ [])) path in
    let is : path ≡ below root (name ∷ more) = held-below (below root (name ∷ [])) path (held-holds (below root (name ∷ [])) path at) ∙ ap (path_of root.absolute) (append_assoc root.parts (name ∷ []) more) in
    elim (is_restored_at root path) as (λ (v : Bool). is_restored_at root path ≡ v → v ≡ false) [
      | true ↦ λ yes. absurd (true≢false (sym (restored-named root path yes) ∙ ap (λ p. is_named (parts_below root p)) is ∙ ap is_named (drop-append_seam root.parts (name ∷ more)) ∙ off))
      | false ↦ λ no. refl
    ] refl

pub log-not_restored : (root path : PathValue) → Holds (wal_folder root) path → is_restored_at root path ≡ false
log-not_restored root path holds = at-not_restored root path (codes "pg_wal") refl (holds-held (wal_folder root) path holds)

pub laid-not_restored : (root path : PathValue) → is_laid_at root path ≡ true → is_restored_at root path ≡ false
laid-not_restored root path is =
    laid-top root path is (at-not_restored root path (codes "pg_walreplay.unfinished") refl) (at-not_restored root path (codes "pg_walreplay.shadow") refl)

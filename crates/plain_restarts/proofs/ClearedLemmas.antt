-- Contents without a replay's mark and copies.
use Rattle.std.proofs.Common.{◌≡◌, ◌<◌, ℕ, Bool, true, false, not, cond, List, [], ◌∷◌, ◌++◌, codes, drop, length, None, ap, sym, ◌∙◌, arith}
use Rattle.std.proofs.lemmas.List.{length-append}
use Rattle.std.specs.FinMap.{get, get-retain_keys}
use Rattle.cluster_tree.specs.Contents.{Contents, entry_at, or_root}
use Rattle.cluster_tree.specs.PathValue.{PathValue, below}
use Rattle.cluster_tree.proofs.HoldLemmas.{held-holds}
use Rattle.cluster_tree.proofs.OrderLemmas.{path_cmp-IsAntisymmetric}
use Rattle.cluster_tree.proofs.RootLemmas.{held-below}
use Rattle.file_edits.proofs.LawLemmas.{rootless}
use Rattle.file_effects.specs.Own.{is_at}
use Rattle.replay_copies.specs.Laid.{is_laid_at}
use Rattle.replay_restart.specs.Meant.{IsCleared}
use Rattle.replay_restart.proofs.PlaceLemmas.{laid-top}
use Rattle.plain_restarts.specs.Plain.{cleared}

at_some : (root path : PathValue) (name : List ℕ) → is_at root name path ≡ true → 0 < length path.parts
at_some root path name at =
    let more : List (List ℕ) = drop (length (root.parts ++ name ∷ [])) path.parts in
    omega (arith, ap (λ (p : PathValue). length p.parts) (held-below (below root (name ∷ [])) path (held-holds (below root (name ∷ [])) path at)), length-append (root.parts ++ name ∷ []) more, length-append root.parts (name ∷ []))

pub laid-some : (root path : PathValue) → is_laid_at root path ≡ true → 0 < length path.parts
laid-some root path is = laid-top root path is (at_some root path (codes "pg_walreplay.unfinished")) (at_some root path (codes "pg_walreplay.shadow"))

module _ (root : PathValue) (c : Contents) where
  there : (path : PathValue) → get (cleared root c) path ≡ cond (not (is_laid_at root path)) (get c path) None
  unfolding cleared
  there path = get-retain_keys c (λ p. not (is_laid_at root p)) path (λ p same. ap (λ q. not (is_laid_at root q)) (sym (path_cmp-IsAntisymmetric path p same)))

  by : (path : PathValue) (t : Bool) → is_laid_at root path ≡ t → entry_at (cleared root c) path ≡ or_root path.parts (cond (not t) (get c path) None)
  by path t is = ap (or_root path.parts) (there path ∙ ap (λ b. cond (not b) (get c path) None) is)

  pub is-cleared : IsCleared root c (cleared root c)
  is-cleared = record {
    gone = λ path is. by path true is ∙ rootless path.parts (laid-some root path is);
    elsewhere = λ path is. by path false is;
  }

-- What stands at the mark of a replay.
use Rattle.std.proofs.Common.{◌≡◌, ◌⊎◌, ◌<◌, ℕ, arith, Bool, cond, [], ◌∷◌, length, codes, Option, None, Some, Result, Ok, Err, inl, inr, refl, sym, ap, ap₂, subst, ◌∙◌}
use Rattle.std.proofs.lemmas.List.{length-append}
use Rattle.std.specs.Prelude.{Vec, option_map}
use Rattle.cluster_tree.specs.Causes.{unless}
use Rattle.cluster_tree.specs.Contents.{Contents, entry_at}
use Rattle.cluster_tree.specs.Marks.{marks_of}
use Rattle.cluster_tree.specs.PathValue.{PathValue}
use Rattle.cluster_tree.specs.Tree.{file_of}
use Rattle.clusters.specs.Faults.{IsFree}
use Rattle.clusters.specs.Marks.{unfinished}
use Rattle.clusters.specs.Roots.{path_in}
use Rattle.clusters.specs.WholeFile.{all_of}
use Rattle.clusters.specs.declared.fault.ClusterFault.{ClusterFault}
use Rattle.without_file.specs.Without.{without_file}
use Rattle.stored_replay.specs.Marks.{is_old_file, mark_at, marks_seen, own_bytes}

own-at : (root : PathValue) → path_in root (codes "pg_walreplay.unfinished") ≡ (marks_of root).replay
unfolding path_in
own-at root = refl

pub own-deep : (root mark : PathValue) → mark ≡ path_in root (codes "pg_walreplay.unfinished") → 0 < length mark.parts
own-deep root mark is = omega (arith, ap (λ (p : PathValue). length p.parts) (is ∙ own-at root), length-append root.parts (codes "pg_walreplay.unfinished" ∷ []))

-- the mark was read, and held against the others
module _ (c : Contents) (root mark copy : PathValue) {A : Type 0} (found : Option (Vec ℕ A)) (old : Bool)
    (at : mark ≡ path_in root (codes "pg_walreplay.unfinished")) (same : copy ≡ mark)
    (read : option_map (λ b. b.items) found ≡ all_of (file_of (entry_at c copy))) (is : old ≡ is_old_file (option_map (λ b. b.items) found)) where
  own-is : option_map (λ b. b.items) found ≡ own_bytes c root
  own-is = read ∙ ap (λ p. all_of (file_of (entry_at c p))) (same ∙ at ∙ own-at root)

  seen-is : cond old c (without_file c mark) ≡ marks_seen c root
  seen-is = ap₂ (λ b p. cond b c (without_file c p)) (is ∙ ap is_old_file own-is) (at ∙ own-at root)

  meant : (o : Option ClusterFault) → unfinished (cond old c (without_file c mark)) root ≡ o → mark_at c root ≡ unless o (Ok (option_map (λ b. b.items) found))
  meant o so = ap₂ (λ o b. unless o (Ok b)) (ap (λ d. unfinished d root) (sym seen-is) ∙ so) (sym own-is)

  pub mark-refused : (e : ClusterFault) → IsFree e ⊎ (unfinished (cond old c (without_file c mark)) root ≡ Some e) → IsFree e ⊎ (mark_at c root ≡ Err e)
  mark-refused e (inl free) = inl free
  mark-refused e (inr refused) = inr (meant (Some e) refused)

  pub mark-found : unfinished (cond old c (without_file c mark)) root ≡ None → mark_at c root ≡ Ok (option_map (λ b. b.items) found)
  mark-found none = meant None none

-- what is known of the fault that a callee gave holds of the one that is handed on
pub handed-mark : {A : Type 0} (P : Result A ClusterFault → Type 0) (r : Result A ClusterFault) (e : ClusterFault) → ((f : ClusterFault) × (r ≡ Err f) × (f ≡ e)) → P (Err e) → P r
handed-mark P r e (f, is, same) h = subst P (sym (is ∙ ap Err same)) h

-- Folders, files and removals, one kind after the other: where each fits by itself, none is refused.
use Rattle.std.proofs.Common.{◌≡◌, Bool, true, false, ◌&&◌, ◌||◌, cond, List, [], ◌∷◌, ◌++◌, Option, None, Some, refl, sym, ap, ◌∙◌, true≢false}
use Rattle.std.specs.List.{list_any}
use Rattle.cluster_tree.specs.PathValue.{PathValue}
use Rattle.cluster_tree.specs.PathOrder.{path_eq}
use Rattle.cluster_tree.specs.Contents.{Entry, FolderEntry, or_root}
use Rattle.cluster_tree.proofs.OrderLemmas.{path_eq-own, path_eq-same}
use Rattle.rewind_plan.proofs.Jobs.{Job, JobsFit, Standing, after_jobs, made_of}
use Rattle.rewind_plan.proofs.JobLemmas.{after-both, fit-both}
use Rattle.rewind_plan.proofs.Items.{Apart, Clears, Doing, Fills, Item, Leaves, Makes, clears_at, files, folders, here, is_clearing, is_making, makes_at, removals}
use Rattle.rewind_plan.proofs.FolderItems.{FoldersFit, after-same, any_both, folders-fit, folders-leave, jobs-same, none_here, or_none}
use Rattle.rewind_plan.proofs.FileItems.{Beyond, FilesFit, files-fit, files-leave, filled_at, filled_by, filling, is_filling, unfilled, with_files}
use Rattle.rewind_plan.proofs.RemovalItems.{RemovalsFit, removals-fit, with_removals}

-- what is left at a path
abbrev pub leaves_of : PathValue → Doing → Option Entry → Option Entry
leaves_of q Makes old = Some (FolderEntry false)
leaves_of q (Fills changes) old = made_of old changes
leaves_of q Clears old = or_root q.parts None
leaves_of q Leaves old = old

abbrev pub left_at : Standing → List Item → Standing
left_at s [] q = s q
left_at s (x ∷ xs) q = cond (path_eq q x.path) (leaves_of q x.doing (s q)) (left_at s xs q)

pub record ItemsFit (s : Standing) (items : List Item) : Type 0 where
  pub apart : Apart items
  pub folders : FoldersFit s [] items
  pub files : FilesFit s items items
  pub removals : RemovalsFit (with_files s items items) items

abbrev pub all_jobs : List Item → List Job
all_jobs items = folders items ++ (files items ++ removals items)

-- items that are apart are beyond those before them
beyond : (done items : List Item) → ((x : Item) → list_any (here x.path) items ≡ true → list_any (here x.path) done ≡ false) → Apart items → Beyond done items
beyond done [] off apart = tt
beyond done (x ∷ xs) off apart = (off x (ap (λ b. b || list_any (here x.path) xs) (path_eq-own x.path)), beyond (done ++ x ∷ []) xs later apart.1)
  where
    or_true : (b : Bool) → (b || true) ≡ true
    or_true true = refl
    or_true false = refl

    later : (y : Item) → list_any (here y.path) xs ≡ true → list_any (here y.path) (done ++ x ∷ []) ≡ false
    later y among =
        any_both (here y.path) done (x ∷ [])
        ∙ ap (λ b. b || (path_eq y.path x.path || false)) (off y (ap (λ b. path_eq y.path x.path || b) among ∙ or_true (path_eq y.path x.path)))
        ∙ or_none (path_eq y.path x.path) ∙ other (path_eq y.path x.path) refl
      where
        other : (b : Bool) → path_eq y.path x.path ≡ b → b ≡ false
        other false is = refl
        other true is = absurd (true≢false (sym among ∙ ap (λ q. list_any (here q) xs) (path_eq-same y.path x.path is) ∙ apart.0))

module _ (s : Standing) (items : List Item) (fit : ItemsFit s items) where
  beyond_none : Beyond [] items
  beyond_none = beyond [] items (λ x among. refl) fit.apart

  made : (q : PathValue) → with_files s items [] q ≡ after_jobs s (folders items) q
  made q = sym (folders-leave s [] items q)

  filled : (q : PathValue) → with_files s items items q ≡ after_jobs (after_jobs s (folders items)) (files items) q
  filled q =
      sym (files-leave s items [] items refl beyond_none fit.files q)
      ∙ after-same (after_jobs s (folders items)) (with_files s items []) made (files items) q

  -- none is refused in its turn
  pub items-fit : JobsFit s (all_jobs items)
  items-fit =
      fit-both s (folders items) (files items ++ removals items) (folders-fit s [] items fit.folders (λ x among. refl) fit.apart)
      (fit-both (after_jobs s (folders items)) (files items) (removals items)
      (jobs-same (with_files s items []) (after_jobs s (folders items)) (λ q. sym (made q)) (files items) (files-fit s items [] items refl beyond_none fit.files))
      (jobs-same (with_files s items items) (after_jobs (after_jobs s (folders items)) (files items)) (λ q. sym (filled q)) (removals items) (removals-fit (with_files s items items) items fit.apart fit.removals).0))

  left_behind : (q : PathValue) → after_jobs s (all_jobs items) q ≡ with_removals (with_files s items items) items q
  left_behind q =
      ap (λ (st : Standing). st q) (after-both s (folders items) (files items ++ removals items))
      ∙ ap (λ (st : Standing). st q) (after-both (after_jobs s (folders items)) (files items) (removals items))
      ∙ after-same (with_files s items items) (after_jobs (after_jobs s (folders items)) (files items)) (λ r. sym (filled r)) (removals items) q
      ∙ (removals-fit (with_files s items items) items fit.apart fit.removals).1 q

-- by the item at a path, where each path stands once
one_kind : (s : Standing) (items : List Item) → Apart items → (q : PathValue) → cond (clears_at q items) (or_root q.parts None) (filled_by (filled_at q items) (s q) (cond (makes_at q items) (Some (FolderEntry false)) (s q))) ≡ left_at s items q
one_kind s [] apart q = refl
one_kind s (x ∷ xs) apart q = by (path_eq q x.path) x.doing refl (one_kind s xs apart.1 q)
  where
    off : path_eq q x.path ≡ true → list_any (here q) xs ≡ false
    off is = ap (λ r. list_any (here r) xs) (path_eq-same q x.path is) ∙ apart.0

    by : (b : Bool) (d : Doing) → path_eq q x.path ≡ b
        → cond (clears_at q xs) (or_root q.parts None) (filled_by (filled_at q xs) (s q) (cond (makes_at q xs) (Some (FolderEntry false)) (s q))) ≡ left_at s xs q
        → cond ((b && is_clearing d) || clears_at q xs) (or_root q.parts None) (filled_by (filling b d (filled_at q xs)) (s q) (cond ((b && is_making d) || makes_at q xs) (Some (FolderEntry false)) (s q)))
        ≡ cond b (leaves_of q d (s q)) (left_at s xs q)
    by false d is rest = rest
    by true Makes is rest =
        ap (λ b. cond b (or_root q.parts None) (filled_by (filled_at q xs) (s q) (Some (FolderEntry false)))) (none_here q xs is_clearing (off is))
        ∙ ap (λ o. filled_by o (s q) (Some (FolderEntry false))) (unfilled q xs (none_here q xs is_filling (off is)))
    by true (Fills changes) is rest = ap (λ b. cond b (or_root q.parts None) (made_of (s q) changes)) (none_here q xs is_clearing (off is))
    by true Clears is rest = refl
    by true Leaves is rest =
        ap (λ b. cond b (or_root q.parts None) (filled_by (filled_at q xs) (s q) (cond (makes_at q xs) (Some (FolderEntry false)) (s q)))) (none_here q xs is_clearing (off is))
        ∙ ap (λ o. filled_by o (s q) (cond (makes_at q xs) (Some (FolderEntry false)) (s q))) (unfilled q xs (none_here q xs is_filling (off is)))
        ∙ ap (λ b. cond b (Some (FolderEntry false)) (s q)) (none_here q xs is_making (off is))

pub items-leave : (s : Standing) (items : List Item) → ItemsFit s items → (q : PathValue) → after_jobs s (all_jobs items) q ≡ left_at s items q
items-leave s items fit q = left_behind s items fit q ∙ one_kind s items fit.apart q

-- Removals, behind folders and files: where each fits by itself, none is refused.
use Rattle.std.proofs.Common.{◌≡◌, ◌⊎◌, ℕ, ◌==◌, Bool, true, false, ◌&&◌, ◌||◌, cond, List, [], ◌∷◌, ◌++◌, length, None, inl, inr, refl, sym, ap, ◌∙◌, subst, true≢false}
use Rattle.std.specs.Prelude.{nat_lt}
use Rattle.std.specs.List.{list_any}
use Rattle.std.proofs.lemmas.List.{append-nil}
use Rattle.cluster_tree.specs.PathValue.{PathValue}
use Rattle.cluster_tree.specs.PathOrder.{path_eq}
use Rattle.cluster_tree.specs.Contents.{or_root, parent}
use Rattle.cluster_tree.specs.Folders.{lies_in}
use Rattle.cluster_tree.proofs.OrderLemmas.{path_eq-own, path_eq-same}
use Rattle.rewind_plan.proofs.Jobs.{JobFits, JobsFit, Standing, after_job, after_jobs, is_plain}
use Rattle.rewind_plan.proofs.JobLemmas.{after-both, fit-both}
use Rattle.rewind_plan.proofs.Items.{Apart, Clears, Doing, Fills, Item, Leaves, Makes, clears_at, here, is_clearing, removal_job, removal_of, removals}
use Rattle.rewind_plan.proofs.FolderItems.{after-same, jobs-same, none_here}

-- what is removed is plain, and whatever lies right in it is removed before, or isn't there
abbrev pub RemovalFits : Standing → List Item → PathValue → Doing → Type 0
RemovalFits t later path Makes = Unit {0}
RemovalFits t later path (Fills changes) = Unit {0}
RemovalFits t later path Clears = (length path.parts == 0 ≡ false) × (is_plain (t path) ≡ true) × ((q : PathValue) → lies_in path q ≡ true → (t q ≡ None) ⊎ (clears_at q later ≡ true))
RemovalFits t later path Leaves = Unit {0}

abbrev pub RemovalsFit : Standing → List Item → Type 0
RemovalsFit t [] = Unit {0}
RemovalsFit t (x ∷ xs) = RemovalFits t xs x.path x.doing × RemovalsFit t xs

-- the state once these are removed
abbrev pub with_removals : Standing → List Item → Standing
with_removals t items q = cond (clears_at q items) (or_root q.parts None) (t q)

-- one more
removed_more : (t : Standing) (xs : List Item) (path q : PathValue) → list_any (here path) xs ≡ false → with_removals t (record { path = path; doing = Clears } ∷ xs) q ≡ after_job (with_removals t xs) (removal_job path) q
removed_more t xs path q off = by (path_eq q path) refl
  where
    by : (b : Bool) → path_eq q path ≡ b → cond ((b && true) || clears_at q xs) (or_root q.parts None) (t q) ≡ cond b (or_root path.parts None) (with_removals t xs q)
    by true here = ap (λ (r : PathValue). or_root r.parts None) (path_eq-same q path here)
    by false other = refl

unremoved_more : (t : Standing) (x : Item) (xs : List Item) (q : PathValue) → is_clearing x.doing ≡ false → with_removals t (x ∷ xs) q ≡ with_removals t xs q
unremoved_more t x xs q other = ap (λ b. cond ((path_eq q x.path && b) || clears_at q xs) (or_root q.parts None) (t q)) other ∙ by (path_eq q x.path)
  where
    by : (b : Bool) → cond ((b && false) || clears_at q xs) (or_root q.parts None) (t q) ≡ with_removals t xs q
    by true = refl
    by false = refl

abbrev pub LeaveRemoved : Standing → List Item → Type 0
LeaveRemoved t items = JobsFit t (removals items) × ((q : PathValue) → after_jobs t (removals items) q ≡ with_removals t items q)

none_root : (parts : List (List ℕ)) → nat_lt 0 (length parts) ≡ true → or_root parts None ≡ None
none_root [] deep = absurd (true≢false (sym deep))
none_root (part ∷ parts) deep = refl

removal_fits : (t : Standing) (xs : List Item) (path : PathValue) → list_any (here path) xs ≡ false → RemovalFits t xs path Clears → JobFits (with_removals t xs) (removal_job path)
removal_fits t xs path off f = record {
  deep = f.0;
  own = ap (λ b. b && true) (path_eq-own path);
  fits = ((ap is_plain (ap (λ b. cond b (or_root path.parts None) (t path)) (none_here path xs is_clearing off)) ∙ f.1, λ q child. gone q child (clears_at q xs) refl (f.2 q child)), tt);
}
  where
    gone : (q : PathValue) → lies_in path q ≡ true → (b : Bool) → clears_at q xs ≡ b → (t q ≡ None) ⊎ (clears_at q xs ≡ true) → cond b (or_root q.parts None) (t q) ≡ None
    gone q child true is how = none_root q.parts (left (nat_lt 0 (length q.parts)) (path_eq path (parent q)) child)
      where
        left : (a b : Bool) → (a && b) ≡ true → a ≡ true
        left true b e = refl
        left false b e = absurd (true≢false (sym e))
    gone q child false is (inl none) = none
    gone q child false is (inr cleared) = absurd (true≢false (sym cleared ∙ is))

pub removals-fit : (t : Standing) (items : List Item) → Apart items → RemovalsFit t items → LeaveRemoved t items
removals-fit t [] apart fit = (tt, λ q. refl)
removals-fit t (x ∷ xs) apart fit = by (removals-fit t xs apart.1 fit.1) x.doing refl fit.0
  where
    left_alone : LeaveRemoved t xs → is_clearing x.doing ≡ false → JobsFit t (removals xs ++ []) × ((q : PathValue) → after_jobs t (removals xs ++ []) q ≡ with_removals t (x ∷ xs) q)
    left_alone rest other = (
      subst (JobsFit t) (sym (append-nil (removals xs))) rest.0,
      λ q. ap (λ l. after_jobs t l q) (append-nil (removals xs)) ∙ rest.1 q ∙ sym (unremoved_more t x xs q other),
    )

    by : LeaveRemoved t xs → (d : Doing) → x.doing ≡ d → RemovalFits t xs x.path x.doing
        → JobsFit t (removals xs ++ removal_of x.path d) × ((q : PathValue) → after_jobs t (removals xs ++ removal_of x.path d) q ≡ with_removals t (x ∷ xs) q)
    by rest Makes kind f = left_alone rest (ap is_clearing kind)
    by rest (Fills changes) kind f = left_alone rest (ap is_clearing kind)
    by rest Leaves kind f = left_alone rest (ap is_clearing kind)
    by rest Clears kind f =
        let fits : RemovalFits t xs x.path Clears = subst (RemovalFits t xs x.path) kind f in
        let own : JobFits (with_removals t xs) (removal_job x.path) = removal_fits t xs x.path apart.0 fits in (
          fit-both t (removals xs) (removal_job x.path ∷ []) rest.0 (jobs-same (with_removals t xs) (after_jobs t (removals xs)) rest.1 (removal_job x.path ∷ []) (own, tt)),
          λ q. ap (λ (st : Standing). st q) (after-both t (removals xs) (removal_job x.path ∷ []))
              ∙ after-same (with_removals t xs) (after_jobs t (removals xs)) rest.1 (removal_job x.path ∷ []) q
              ∙ sym (removed_more t xs x.path q apart.0)
              ∙ ap (λ e. with_removals t (record { path = x.path; doing = e } ∷ xs) q) (sym kind),
        )

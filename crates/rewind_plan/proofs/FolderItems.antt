-- Folders that are made: where each fits by itself, none is refused.
use Rattle.std.proofs.Common.{◌≡◌, ◌⊎◌, ◌==◌, Bool, true, false, ◌&&◌, ◌||◌, cond, List, [], ◌∷◌, ◌++◌, length, Option, None, Some, inl, inr, refl, sym, ap, ◌∙◌, subst, true≢false, append_assoc}
use Rattle.std.specs.List.{list_any}
use Rattle.std.proofs.lemmas.List.{append-nil}
use Rattle.cluster_tree.specs.PathValue.{PathValue}
use Rattle.cluster_tree.specs.PathOrder.{path_eq}
use Rattle.cluster_tree.specs.Contents.{Entry, FolderEntry, FileEntry, LinkEntry, is_folder, parent}
use Rattle.cluster_tree.specs.Tree.{refusal_in}
use Rattle.cluster_tree.proofs.OrderLemmas.{path_eq-own, path_eq-same}
use Rattle.rewind_plan.proofs.Jobs.{AllFit, Job, JobFits, JobsFit, Standing, after_job, after_jobs, made_of}
use Rattle.rewind_plan.proofs.JobLemmas.{all-fit-same}
use Rattle.rewind_plan.proofs.Items.{Apart, Clears, Doing, Fills, Item, Leaves, Makes, folder_job, folder_of, folders, here, is_making, makes_at}

-- a folder that is made stands in one that is there, or that is made before it
abbrev pub FolderFits : Standing → List Item → PathValue → Doing → Type 0
FolderFits s done path Makes = (length path.parts == 0 ≡ false) × (s path ≡ None) × ((is_folder (s (parent path)) ≡ true) ⊎ (makes_at (parent path) done ≡ true))
FolderFits s done path (Fills changes) = Unit {0}
FolderFits s done path Clears = Unit {0}
FolderFits s done path Leaves = Unit {0}

abbrev pub FoldersFit : Standing → (done items : List Item) → Type 0
FoldersFit s done [] = Unit {0}
FoldersFit s done (x ∷ xs) = FolderFits s done x.path x.doing × FoldersFit s (done ++ x ∷ []) xs

-- the state once some folders are made
abbrev pub with_folders : Standing → List Item → Standing
with_folders s done q = cond (makes_at q done) (Some (FolderEntry false)) (s q)

pub or_both : (a b : Bool) → (a || b) ≡ false → (a ≡ false) × (b ≡ false)
or_both true b e = absurd (true≢false e)
or_both false b e = (refl, e)

pub or_none : (b : Bool) → (b || false) ≡ b
or_none true = refl
or_none false = refl

pub any_both : {X : Type 0} (p : X → Bool) (xs ys : List X) → list_any p (xs ++ ys) ≡ (list_any p xs || list_any p ys)
any_both p [] ys = refl
any_both p (x ∷ xs) ys = ap (λ b. p x || b) (any_both p xs ys) ∙ sym (group (p x) (list_any p xs) (list_any p ys))
  where
    group : (a b c : Bool) → ((a || b) || c) ≡ (a || (b || c))
    group true b c = refl
    group false b c = refl

-- what isn't there isn't made there
pub none_here : (q : PathValue) (items : List Item) (t : Doing → Bool) → list_any (here q) items ≡ false → list_any (λ x. path_eq q x.path && t x.doing) items ≡ false
none_here q [] t off = refl
none_here q (x ∷ xs) t off =
    let two = or_both (path_eq q x.path) (list_any (here q) xs) off in
    ap (λ b. (b && t x.doing) || list_any (λ y. path_eq q y.path && t y.doing) xs) two.0 ∙ none_here q xs t two.1

folder_above : (o : Option Entry) → is_folder o ≡ true → refusal_in o ≡ None
folder_above None e = absurd (true≢false (sym e))
folder_above (Some (FolderEntry bad)) e = refl
folder_above (Some (FileEntry bytes)) e = absurd (true≢false (sym e))
folder_above (Some LinkEntry) e = absurd (true≢false (sym e))

-- a folder that is there or made
pub above-fits : (s : Standing) (done : List Item) (q : PathValue) → (is_folder (s q) ≡ true) ⊎ (makes_at q done ≡ true) → refusal_in (with_folders s done q) ≡ None
above-fits s done q how = by (makes_at q done) refl how
  where
    by : (b : Bool) → makes_at q done ≡ b → (is_folder (s q) ≡ true) ⊎ (makes_at q done ≡ true) → refusal_in (cond b (Some (FolderEntry false)) (s q)) ≡ None
    by true is how = refl
    by false is (inl folder) = folder_above (s q) folder
    by false is (inr made) = absurd (true≢false (sym made ∙ is))

-- a job over states that agree
same_job : (s t : Standing) → ((q : PathValue) → t q ≡ s q) → (job : Job) → JobFits s job → JobFits t job
same_job s t same job fit = record {
  deep = fit.deep;
  own = fit.own;
  fits = subst (λ o. AllFit t job.path o job.changes) (sym (same job.path)) (all-fit-same s t job.path (s job.path) job.changes (same (parent job.path)) (λ q child. same q) fit.fits);
}

after_same : (s t : Standing) → ((q : PathValue) → t q ≡ s q) → (job : Job) (q : PathValue) → after_job t job q ≡ after_job s job q
after_same s t same job q = by (path_eq q job.path)
  where
    by : (b : Bool) → cond b (made_of (t job.path) job.changes) (t q) ≡ cond b (made_of (s job.path) job.changes) (s q)
    by true = ap (λ o. made_of o job.changes) (same job.path)
    by false = same q

pub jobs-same : (s t : Standing) → ((q : PathValue) → t q ≡ s q) → (jobs : List Job) → JobsFit s jobs → JobsFit t jobs
jobs-same s t same [] fit = tt
jobs-same s t same (job ∷ jobs) fit = (same_job s t same job fit.0, jobs-same (after_job s job) (after_job t job) (after_same s t same job) jobs fit.1)

pub after-same : (s t : Standing) → ((q : PathValue) → t q ≡ s q) → (jobs : List Job) (q : PathValue) → after_jobs t jobs q ≡ after_jobs s jobs q
after-same s t same [] q = same q
after-same s t same (job ∷ jobs) q = after-same (after_job s job) (after_job t job) (after_same s t same job) jobs q

-- one more folder
made_more : (s : Standing) (done : List Item) (path q : PathValue) → with_folders s (done ++ record { path = path; doing = Makes } ∷ []) q ≡ after_job (with_folders s done) (folder_job path) q
made_more s done path q = by (makes_at q done) (path_eq q path) (any_both (λ (x : Item). path_eq q x.path && is_making x.doing) done (record { path = path; doing = Makes } ∷ []))
  where
    by : (a b : Bool) → makes_at q (done ++ record { path = path; doing = Makes } ∷ []) ≡ (a || ((b && true) || false)) → cond (makes_at q (done ++ record { path = path; doing = Makes } ∷ [])) (Some (FolderEntry false)) (s q) ≡ cond b (Some (FolderEntry false)) (cond a (Some (FolderEntry false)) (s q))
    by true true is = ap (λ m. cond m (Some (FolderEntry false)) (s q)) is
    by true false is = ap (λ m. cond m (Some (FolderEntry false)) (s q)) is
    by false true is = ap (λ m. cond m (Some (FolderEntry false)) (s q)) is
    by false false is = ap (λ m. cond m (Some (FolderEntry false)) (s q)) is

kept_more : (s : Standing) (done : List Item) (path : PathValue) (d : Doing) (q : PathValue) → is_making d ≡ false → with_folders s (done ++ record { path = path; doing = d } ∷ []) q ≡ with_folders s done q
kept_more s done path d q other =
    ap (λ m. cond m (Some (FolderEntry false)) (s q))
    (any_both (λ (x : Item). path_eq q x.path && is_making x.doing) done (record { path = path; doing = d } ∷ [])
    ∙ ap (λ b. makes_at q done || ((path_eq q path && b) || false)) other ∙ none (makes_at q done) (path_eq q path))
  where
    none : (a b : Bool) → (a || ((b && false) || false)) ≡ a
    none true b = refl
    none false true = refl
    none false false = refl

pub folders-fit : (s : Standing) (done items : List Item) → FoldersFit s done items → ((x : Item) → list_any (here x.path) items ≡ true → list_any (here x.path) done ≡ false) → Apart items → JobsFit (with_folders s done) (folders items)
folders-fit s done [] fit off apart = tt
folders-fit s done (x ∷ xs) fit off apart = by (folders-fit s (done ++ x ∷ []) xs fit.1 later apart.1) x.doing refl fit.0
  where
    or_true : (b : Bool) → (b || true) ≡ true
    or_true true = refl
    or_true false = refl

    own : list_any (here x.path) done ≡ false
    own = off x (ap (λ b. b || list_any (here x.path) xs) (path_eq-own x.path))

    later : (y : Item) → list_any (here y.path) xs ≡ true → list_any (here y.path) (done ++ x ∷ []) ≡ false
    later y among = any_both (here y.path) done (x ∷ []) ∙ ap (λ b. b || (path_eq y.path x.path || false)) (off y (ap (λ b. path_eq y.path x.path || b) among ∙ or_true (path_eq y.path x.path))) ∙ or_none (path_eq y.path x.path) ∙ other y among (path_eq y.path x.path) refl
      where
        other : (y : Item) → list_any (here y.path) xs ≡ true → (b : Bool) → path_eq y.path x.path ≡ b → b ≡ false
        other y among false is = refl
        other y among true is = absurd (true≢false (sym among ∙ ap (λ q. list_any (here q) xs) (path_eq-same y.path x.path is) ∙ apart.0))

    by : JobsFit (with_folders s (done ++ x ∷ [])) (folders xs) → (d : Doing) → x.doing ≡ d → FolderFits s done x.path x.doing → JobsFit (with_folders s done) (folder_of x.path d ++ folders xs)
    by rest Makes is f =
        let fits : FolderFits s done x.path Makes = subst (FolderFits s done x.path) is f in (
          record {
            deep = fits.0;
            own = ap (λ b. b && true) (path_eq-own x.path);
            fits = ((ap (λ m. cond m (Some (FolderEntry false)) (s x.path)) (none_here x.path done is_making own) ∙ fits.1, above-fits s done (parent x.path) fits.2), tt);
          },
          jobs-same (with_folders s (done ++ x ∷ [])) (after_job (with_folders s done) (folder_job x.path))
              (λ q. sym (made_more s done x.path q) ∙ ap (λ e. with_folders s (done ++ record { path = x.path; doing = e } ∷ []) q) (sym is)) (folders xs) rest,
        )
    by rest (Fills changes) is f = jobs-same (with_folders s (done ++ x ∷ [])) (with_folders s done) (λ q. sym (kept_more s done x.path x.doing q (ap is_making is))) (folders xs) rest
    by rest Clears is f = jobs-same (with_folders s (done ++ x ∷ [])) (with_folders s done) (λ q. sym (kept_more s done x.path x.doing q (ap is_making is))) (folders xs) rest
    by rest Leaves is f = jobs-same (with_folders s (done ++ x ∷ [])) (with_folders s done) (λ q. sym (kept_more s done x.path x.doing q (ap is_making is))) (folders xs) rest

-- what making all folders leaves
pub folders-leave : (s : Standing) (done items : List Item) (q : PathValue) → after_jobs (with_folders s done) (folders items) q ≡ with_folders s (done ++ items) q
folders-leave s done [] q = ap (λ l. with_folders s l q) (sym (append-nil done))
folders-leave s done (x ∷ xs) q = by (folders-leave s (done ++ x ∷ []) xs q) x.doing refl
  where
    again : with_folders s ((done ++ x ∷ []) ++ xs) q ≡ with_folders s (done ++ x ∷ xs) q
    again = ap (λ l. with_folders s l q) (append_assoc done (x ∷ []) xs)

    by : after_jobs (with_folders s (done ++ x ∷ [])) (folders xs) q ≡ with_folders s ((done ++ x ∷ []) ++ xs) q → (d : Doing) → x.doing ≡ d → after_jobs (with_folders s done) (folder_of x.path d ++ folders xs) q ≡ with_folders s (done ++ x ∷ xs) q
    by rest Makes is =
        after-same (with_folders s (done ++ x ∷ [])) (after_job (with_folders s done) (folder_job x.path)) (λ r. sym (made_more s done x.path r) ∙ ap (λ e. with_folders s (done ++ record { path = x.path; doing = e } ∷ []) r) (sym is)) (folders xs) q
        ∙ rest ∙ again
    by rest (Fills changes) is = after-same (with_folders s (done ++ x ∷ [])) (with_folders s done) (λ r. sym (kept_more s done x.path x.doing r (ap is_making is))) (folders xs) q ∙ rest ∙ again
    by rest Clears is = after-same (with_folders s (done ++ x ∷ [])) (with_folders s done) (λ r. sym (kept_more s done x.path x.doing r (ap is_making is))) (folders xs) q ∙ rest ∙ again
    by rest Leaves is = after-same (with_folders s (done ++ x ∷ [])) (with_folders s done) (λ r. sym (kept_more s done x.path x.doing r (ap is_making is))) (folders xs) q ∙ rest ∙ again

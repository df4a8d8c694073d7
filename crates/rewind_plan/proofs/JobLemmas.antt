-- Jobs that fit are not refused, and leave what they make.
use Rattle.std.proofs.Common.{◌≡◌, ◌≢◌, ◌-◌, ◌==◌, Bool, true, false, ◌&&◌, ◌||◌, cond, List, [], ◌∷◌, ◌++◌, length, take, filter, fold, Option, None, Some, is_some, refl, sym, ap, ◌∙◌, subst, arith, rules, true≢false, append_assoc}
use Rattle.std.specs.Prelude.{nat_lt}
use Rattle.std.specs.List.{list_all, list_any}
use Rattle.std.specs.FinMap.{contains_key-keys, get, keys}
use Rattle.std.proofs.lemmas.List.{length-take-le}
use Rattle.cluster_tree.specs.PathValue.{PathValue}
use Rattle.cluster_tree.specs.PathOrder.{path_eq}
use Rattle.cluster_tree.specs.Contents.{Contents, Entry, FolderEntry, FileEntry, LinkEntry, entry_at, or_root, parent}
use Rattle.cluster_tree.specs.Change.{Change, Writes, Cuts, MakesFile, MakesFolder, Removes, Syncs, all_changed, changed_by, entry_after, first_refusal, is_on, or_next, refusal_of}
use Rattle.cluster_tree.specs.Folders.{has_child, lies_in, removal_refusal}
use Rattle.cluster_tree.specs.Tree.{file_of, refusal_in, refusal_past}
use Rattle.cluster_tree.specs.declared.tree.TreeFault.TheVariants as fault
use Rattle.cluster_tree.proofs.ChangeLemmas.{changed-elsewhere, changed-in_turn, changed-pointwise}
use Rattle.cluster_tree.proofs.OrderLemmas.{path_eq-other, path_eq-own, path_eq-same}
use Rattle.marked_runs.proofs.CarriedLemmas.{unrefused-both}
use Rattle.rewind_plan.proofs.Jobs.{AllFit, Fits, Job, JobFits, JobsFit, Standing, after_job, after_jobs, changes_in, is_own, is_plain, made_of}

-- ---- a change of one path

-- the path above another one
pub parent-other : (p : PathValue) → length p.parts == 0 ≡ false → parent p ≢ p
parent-other p deep e =
    let n = length p.parts in
    let short : length (take (n - 1) p.parts) ≡ n - 1 = length-take-le (n - 1) p.parts (omega arith) in
    let same : length (take (n - 1) p.parts) ≡ n = ap (λ (q : PathValue). length q.parts) e in
    absurd (grind (arith, rules, short, same, deep))

off_by : (path q : PathValue) (p : PathValue) → q ≢ path → path_eq path p ≡ true → path_eq q p ≡ false
off_by path q p other own = ap (path_eq q) (sym (path_eq-same path p own)) ∙ path_eq-other q path other

-- a change of a path is on no other
pub own-off : (path q : PathValue) (x : Change) → q ≢ path → is_own path x ≡ true → is_on q x ≡ false
own-off path q (Writes p at bytes) other own = off_by path q p other own
own-off path q (Cuts p size) other own = off_by path q p other own
own-off path q (MakesFile p) other own = off_by path q p other own
own-off path q (MakesFolder p) other own = off_by path q p other own
own-off path q (Removes p) other own = off_by path q p other own
own-off path q Syncs other own = refl

and_both : (a b : Bool) → (a && b) ≡ true → (a ≡ true) × (b ≡ true)
and_both true b e = (refl, e)
and_both false b e = absurd (true≢false (sym e))

pub owns-off : (path q : PathValue) (xs : List Change) → q ≢ path → list_all (is_own path) xs ≡ true → list_any (is_on q) xs ≡ false
owns-off path q [] other own = refl
owns-off path q (x ∷ xs) other own =
    let two = and_both (is_own path x) (list_all (is_own path) xs) own in
    ap (λ b. b || list_any (is_on q) xs) (own-off path q x other two.0) ∙ owns-off path q xs other two.1

-- what a change makes at its own path
on_own : (c : Contents) (path : PathValue) (x : Change) → is_own path x ≡ true → fold entry_after (entry_at c path) (filter (is_on path) (x ∷ [])) ≡ entry_after (entry_at c path) x
on_own c path (Writes p at bytes) own = ap (λ b. fold entry_after (entry_at c path) (cond b (Writes p at bytes ∷ []) [])) own
on_own c path (Cuts p size) own = ap (λ b. fold entry_after (entry_at c path) (cond b (Cuts p size ∷ []) [])) own
on_own c path (MakesFile p) own = ap (λ b. fold entry_after (entry_at c path) (cond b (MakesFile p ∷ []) [])) own
on_own c path (MakesFolder p) own = ap (λ b. fold entry_after (entry_at c path) (cond b (MakesFolder p ∷ []) [])) own
on_own c path (Removes p) own = ap (λ b. fold entry_after (entry_at c path) (cond b (Removes p ∷ []) [])) own
on_own c path Syncs own = refl

pub changed-own : (c : Contents) (path : PathValue) (x : Change) → is_own path x ≡ true → entry_at (changed_by c x) path ≡ entry_after (entry_at c path) x
changed-own c path x own = changed-pointwise c (x ∷ []) path ∙ on_own c path x own

one_off : (q : PathValue) (x : Change) → is_on q x ≡ false → list_any (is_on q) (x ∷ []) ≡ false
one_off q x off = ap (λ b. b || false) off

pub changed-other : (c : Contents) (path q : PathValue) (x : Change) → q ≢ path → is_own path x ≡ true → entry_at (changed_by c x) q ≡ entry_at c q
changed-other c path q x other own = changed-elsewhere c (x ∷ []) q (one_off q x (own-off path q x other own))

-- ---- what isn't refused

no_key : (c : Contents) (path q : PathValue) → or_root q.parts (get c q) ≡ None → is_some (get c q) ≡ false
no_key c path q none = by (get c q) none
  where
    by : (o : Option Entry) → or_root q.parts o ≡ None → is_some o ≡ false
    by None e = refl
    by (Some entry) e = cc e

or_true : (b : Bool) → (b || true) ≡ true
or_true true = refl
or_true false = refl

none_pass : (p : PathValue → Bool) (xs : List PathValue) → ((x : PathValue) → list_any (path_eq x) xs ≡ true → p x ≡ false) → list_any p xs ≡ false
none_pass p [] each = refl
none_pass p (x ∷ xs) each =
    ap (λ b. b || list_any p xs) (each x (ap (λ b. b || list_any (path_eq x) xs) (path_eq-own x)))
    ∙ none_pass p xs (λ y among. each y (ap (λ b. path_eq y x || b) among ∙ or_true (path_eq y x)))

-- nothing lies in a folder where nothing stands right below
pub childless : (c : Contents) (path : PathValue) → ((q : PathValue) → lies_in path q ≡ true → entry_at c q ≡ None) → has_child c path ≡ false
unfolding path_eq
childless c path none = none_pass (lies_in path) (keys c) (λ q among. not_there q (lies_in path q) refl (contains_key-keys c q ∙ among))
  where
    not_there : (q : PathValue) (b : Bool) → lies_in path q ≡ b → is_some (get c q) ≡ true → b ≡ false
    not_there q false is there = refl
    not_there q true is there = absurd (true≢false (sym there ∙ no_key c path q (none q is)))

plain_removed : (deep in_use : Bool) (o : Option Entry) → deep ≡ false → in_use ≡ false → is_plain o ≡ true → removal_refusal (deep || in_use) o ≡ None
plain_removed deep in_use None d u e = absurd (true≢false (sym e))
plain_removed deep in_use (Some (FolderEntry true)) d u e = absurd (true≢false (sym e))
plain_removed deep in_use (Some (FolderEntry false)) d u e = ap (λ b. removal_refusal b (Some (FolderEntry false))) (ap (λ b. b || in_use) d ∙ u)
plain_removed deep in_use (Some (FileEntry bytes)) d u e = refl
plain_removed deep in_use (Some LinkEntry) d u e = absurd (true≢false (sym e))

make_fits : (c : Contents) (path : PathValue) → entry_at c path ≡ None → refusal_in (entry_at c (parent path)) ≡ None → cond (is_some (entry_at c path)) (Some fault.Exists) (refusal_in (entry_at c (parent path))) ≡ None
make_fits c path none up = ap (λ o. cond (is_some o) (Some fault.Exists) (refusal_in (entry_at c (parent path)))) none ∙ up

pub unrefused-one : (c : Contents) (path : PathValue) (x : Change) → length path.parts == 0 ≡ false → is_own path x ≡ true → Fits (entry_at c) path (entry_at c path) x → refusal_of c x ≡ None
unrefused-one c path (Writes p at bytes) deep own fits = ap (λ q. refusal_past (file_of (entry_at c q)) at) (sym (path_eq-same path p own)) ∙ fits
unrefused-one c path (Cuts p size) deep own fits = ap (λ q. refusal_past (file_of (entry_at c q)) size) (sym (path_eq-same path p own)) ∙ fits
unrefused-one c path (MakesFile p) deep own fits = ap (λ q. refusal_of c (MakesFile q)) (sym (path_eq-same path p own)) ∙ make_fits c path fits.0 fits.1
unrefused-one c path (MakesFolder p) deep own fits = ap (λ q. refusal_of c (MakesFolder q)) (sym (path_eq-same path p own)) ∙ make_fits c path fits.0 fits.1
unrefused-one c path (Removes p) deep own fits =
    ap (λ q. refusal_of c (Removes q)) (sym (path_eq-same path p own))
    ∙ plain_removed (length path.parts == 0) (has_child c path) (entry_at c path) deep (childless c path fits.1) fits.0
unrefused-one c path Syncs deep own fits = refl

-- ---- changes of one path, one after another; what stands in the folder above and right below stays

child_other : (path q : PathValue) → length path.parts == 0 ≡ false → lies_in path q ≡ true → q ≢ path
child_other path q deep child e =
    let two = and_both (nat_lt 0 (length q.parts)) (path_eq path (parent q)) child in
    parent-other path deep (sym (path_eq-same path (parent q) two.1 ∙ ap parent e))

pub fits-same : (s t : Standing) (path : PathValue) (o : Option Entry) (x : Change) → t (parent path) ≡ s (parent path) → ((q : PathValue) → lies_in path q ≡ true → t q ≡ s q) → Fits s path o x → Fits t path o x
fits-same s t path o (Writes p at bytes) up down fits = fits
fits-same s t path o (Cuts p size) up down fits = fits
fits-same s t path o (MakesFile p) up down fits = (fits.0, ap refusal_in up ∙ fits.1)
fits-same s t path o (MakesFolder p) up down fits = (fits.0, ap refusal_in up ∙ fits.1)
fits-same s t path o (Removes p) up down fits = (fits.0, λ q child. down q child ∙ fits.1 q child)
fits-same s t path o Syncs up down fits = tt

pub all-fit-same : (s t : Standing) (path : PathValue) (o : Option Entry) (xs : List Change) → t (parent path) ≡ s (parent path) → ((q : PathValue) → lies_in path q ≡ true → t q ≡ s q) → AllFit s path o xs → AllFit t path o xs
all-fit-same s t path o [] up down fit = tt
all-fit-same s t path o (x ∷ xs) up down fit = (fits-same s t path o x up down fit.0, all-fit-same s t path (entry_after o x) xs up down fit.1)

changes-unrefused : (c : Contents) (path : PathValue) (xs : List Change) → length path.parts == 0 ≡ false → list_all (is_own path) xs ≡ true → AllFit (entry_at c) path (entry_at c path) xs → first_refusal c xs ≡ None
changes-unrefused c path [] deep own fit = refl
changes-unrefused c path (x ∷ xs) deep own fit =
    let two = and_both (is_own path x) (list_all (is_own path) xs) own in
    let next = changed_by c x in
    let goes : AllFit (entry_at next) path (entry_at next path) xs =
    subst (λ o. AllFit (entry_at next) path o xs) (sym (changed-own c path x two.0))
    (all-fit-same (entry_at c) (entry_at next) path (entry_after (entry_at c path) x) xs (changed-other c path (parent path) x (parent-other path deep) two.0) (λ q child. changed-other c path q x (child_other path q deep child) two.0) fit.1) in
    ap (λ o. or_next o (first_refusal next xs)) (unrefused-one c path x deep two.0 fit.0) ∙ changes-unrefused next path xs deep two.1 goes

-- ---- jobs, one after another

own_one : (path : PathValue) (o : Option Entry) (x : Change) (xs : List Change) → is_own path x ≡ true → fold entry_after o (filter (is_on path) (x ∷ xs)) ≡ fold entry_after (entry_after o x) (filter (is_on path) xs)
own_one path o (Writes p at bytes) xs own = ap (λ b. fold entry_after o (cond b (Writes p at bytes ∷ filter (is_on path) xs) (filter (is_on path) xs))) own
own_one path o (Cuts p size) xs own = ap (λ b. fold entry_after o (cond b (Cuts p size ∷ filter (is_on path) xs) (filter (is_on path) xs))) own
own_one path o (MakesFile p) xs own = ap (λ b. fold entry_after o (cond b (MakesFile p ∷ filter (is_on path) xs) (filter (is_on path) xs))) own
own_one path o (MakesFolder p) xs own = ap (λ b. fold entry_after o (cond b (MakesFolder p ∷ filter (is_on path) xs) (filter (is_on path) xs))) own
own_one path o (Removes p) xs own = ap (λ b. fold entry_after o (cond b (Removes p ∷ filter (is_on path) xs) (filter (is_on path) xs))) own
own_one path o Syncs xs own = refl

own_made : (path : PathValue) (o : Option Entry) (xs : List Change) → list_all (is_own path) xs ≡ true → fold entry_after o (filter (is_on path) xs) ≡ made_of o xs
own_made path o [] own = refl
own_made path o (x ∷ xs) own =
    let two = and_both (is_own path x) (list_all (is_own path) xs) own in
    own_one path o x xs two.0 ∙ own_made path (entry_after o x) xs two.1

-- what a job leaves
job_leaves : (c : Contents) (s : Standing) (job : Job) → ((q : PathValue) → entry_at c q ≡ s q) → list_all (is_own job.path) job.changes ≡ true → (q : PathValue) → entry_at (all_changed c job.changes) q ≡ after_job s job q
job_leaves c s job same own q = by (path_eq q job.path) refl
  where
    by : (b : Bool) → path_eq q job.path ≡ b → entry_at (all_changed c job.changes) q ≡ cond b (made_of (s job.path) job.changes) (s q)
    by true here =
        let is : q ≡ job.path = path_eq-same q job.path here in
        ap (entry_at (all_changed c job.changes)) is
        ∙ changed-pointwise c job.changes job.path ∙ own_made job.path (entry_at c job.path) job.changes own
        ∙ ap (λ o. made_of o job.changes) (same job.path)
    by false off = changed-elsewhere c job.changes q (owns-off job.path q job.changes (λ e. true≢false (sym (ap (path_eq q) (sym e) ∙ path_eq-own q) ∙ off)) own) ∙ same q

job_unrefused : (c : Contents) (s : Standing) (job : Job) → ((q : PathValue) → entry_at c q ≡ s q) → JobFits s job → first_refusal c job.changes ≡ None
job_unrefused c s job same fit =
    changes-unrefused c job.path job.changes fit.deep fit.own
    (subst (λ o. AllFit (entry_at c) job.path o job.changes) (sym (same job.path)) (all-fit-same s (entry_at c) job.path (s job.path) job.changes (same (parent job.path)) (λ q child. same q) fit.fits))

-- none is refused, and what they leave
pub jobs-unrefused : (c : Contents) (s : Standing) (jobs : List Job) → ((q : PathValue) → entry_at c q ≡ s q) → JobsFit s jobs → first_refusal c (changes_in jobs) ≡ None
jobs-unrefused c s [] same fit = refl
jobs-unrefused c s (job ∷ jobs) same fit =
    unrefused-both c job.changes (changes_in jobs) (job_unrefused c s job same fit.0)
    (jobs-unrefused (all_changed c job.changes) (after_job s job) jobs (job_leaves c s job same fit.0.own) fit.1)

pub jobs-leave : (c : Contents) (s : Standing) (jobs : List Job) → ((q : PathValue) → entry_at c q ≡ s q) → JobsFit s jobs → (q : PathValue) → entry_at (all_changed c (changes_in jobs)) q ≡ after_jobs s jobs q
jobs-leave c s [] same fit q = same q
jobs-leave c s (job ∷ jobs) same fit q =
    ap (λ d. entry_at d q) (changed-in_turn c job.changes (changes_in jobs))
    ∙ jobs-leave (all_changed c job.changes) (after_job s job) jobs (job_leaves c s job same fit.0.own) fit.1 q

-- ---- some jobs and then others

pub after-both : (s : Standing) (xs ys : List Job) → after_jobs s (xs ++ ys) ≡ after_jobs (after_jobs s xs) ys
after-both s [] ys = refl
after-both s (x ∷ xs) ys = after-both (after_job s x) xs ys

pub fit-both : (s : Standing) (xs ys : List Job) → JobsFit s xs → JobsFit (after_jobs s xs) ys → JobsFit s (xs ++ ys)
fit-both s [] ys one more = more
fit-both s (x ∷ xs) ys one more = (one.0, fit-both (after_job s x) xs ys one.1 more)

pub changes-both : (xs ys : List Job) → changes_in (xs ++ ys) ≡ changes_in xs ++ changes_in ys
changes-both [] ys = refl
changes-both (x ∷ xs) ys = ap (λ l. x.changes ++ l) (changes-both xs ys) ∙ sym (append_assoc x.changes (changes_in xs) (changes_in ys))

-- whether a job is on this path
abbrev pub is_at : PathValue → Job → Bool
is_at q job = path_eq q job.path

-- a path that no job is on
pub after-elsewhere : (s : Standing) (jobs : List Job) (q : PathValue) → list_any (is_at q) jobs ≡ false → after_jobs s jobs q ≡ s q
after-elsewhere s [] q off = refl
after-elsewhere s (job ∷ jobs) q off =
    let two = or_both (path_eq q job.path) (list_any (is_at q) jobs) off in
    after-elsewhere (after_job s job) jobs q two.1 ∙ ap (λ b. cond b (made_of (s job.path) job.changes) (s q)) two.0
  where
    or_both : (a b : Bool) → (a || b) ≡ false → (a ≡ false) × (b ≡ false)
    or_both true b e = absurd (true≢false e)
    or_both false b e = (refl, e)

-- the path of one job that no job behind it is on
pub after-own : (s : Standing) (job : Job) (jobs : List Job) → list_any (is_at job.path) jobs ≡ false → after_jobs s (job ∷ jobs) job.path ≡ made_of (s job.path) job.changes
after-own s job jobs off = after-elsewhere (after_job s job) jobs job.path off ∙ ap (λ b. cond b (made_of (s job.path) job.changes) (s job.path)) (path_eq-own job.path)

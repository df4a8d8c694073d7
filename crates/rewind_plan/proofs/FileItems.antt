-- Files that are filled, behind the folders: where each fits by itself, none is refused.
use Rattle.std.proofs.Common.{◌≡◌, ◌⊎◌, ◌==◌, Bool, true, false, ◌&&◌, cond, List, [], ◌∷◌, ◌++◌, length, Option, None, Some, refl, sym, ap, ◌∙◌, subst, true≢false, append_assoc}
use Rattle.std.specs.List.{list_all, list_any}
use Rattle.std.proofs.lemmas.List.{append-nil}
use Rattle.cluster_tree.specs.PathValue.{PathValue, below}
use Rattle.cluster_tree.specs.PathOrder.{path_eq}
use Rattle.cluster_tree.specs.Contents.{Entry, FolderEntry, is_folder, parent}
use Rattle.cluster_tree.specs.Change.{Change, Writes, Cuts, MakesFile, MakesFolder, Removes, Syncs, entry_after}
use Rattle.cluster_tree.specs.Tree.{refusal_in}
use Rattle.cluster_tree.proofs.FolderLemmas.{lies_in-below}
use Rattle.cluster_tree.proofs.OrderLemmas.{path_eq-same}
use Rattle.rewind_plan.proofs.Jobs.{AllFit, Fits, JobFits, JobsFit, Standing, after_job, after_jobs, is_own, made_of}
use Rattle.rewind_plan.proofs.Items.{Clears, Doing, Fills, Item, Leaves, Makes, file_of, files, here, makes_at}
use Rattle.rewind_plan.proofs.FolderItems.{above-fits, after-same, any_both, jobs-same, none_here, or_both, with_folders}

abbrev pub is_filling : Doing → Bool
is_filling Makes = false
is_filling (Fills changes) = true
is_filling Clears = false
is_filling Leaves = false

abbrev pub fills_at : PathValue → List Item → Bool
fills_at q items = list_any (λ x. path_eq q x.path && is_filling x.doing) items

-- a folder everywhere
abbrev pub all_folders : Standing
all_folders q = Some (FolderEntry false)

-- a file's changes fit what stands there, in a folder that is there or made
pub record Filled (s : Standing) (all : List Item) (path : PathValue) (changes : List Change) : Type 0 where
  pub deep : length path.parts == 0 ≡ false
  pub own : list_all (is_own path) changes ≡ true
  pub unmade : makes_at path all ≡ false
  pub up : (is_folder (s (parent path)) ≡ true) ⊎ (makes_at (parent path) all ≡ true)
  pub up_unfilled : fills_at (parent path) all ≡ false
  pub fits : AllFit all_folders path (s path) changes

abbrev pub FileFits : Standing → List Item → PathValue → Doing → Type 0
FileFits s all path Makes = Unit {0}
FileFits s all path (Fills changes) = Filled s all path changes
FileFits s all path Clears = Unit {0}
FileFits s all path Leaves = Unit {0}

abbrev pub FilesFit : Standing → (all items : List Item) → Type 0
FilesFit s all [] = Unit {0}
FilesFit s all (x ∷ xs) = FileFits s all x.path x.doing × FilesFit s all xs

-- in any folder
up_fits : (t : Standing) (path : PathValue) (o : Option Entry) (x : Change) → refusal_in (t (parent path)) ≡ None → Fits all_folders path o x → Fits t path o x
up_fits t path o (Writes p at bytes) up fits = fits
up_fits t path o (Cuts p size) up fits = fits
up_fits t path o (MakesFile p) up fits = (fits.0, up)
up_fits t path o (MakesFolder p) up fits = (fits.0, up)
up_fits t path o (Removes p) up fits = absurd (cc (fits.1 (below path ([] ∷ [])) (lies_in-below path [])))
up_fits t path o Syncs up fits = tt

all_up : (t : Standing) (path : PathValue) (o : Option Entry) (xs : List Change) → refusal_in (t (parent path)) ≡ None → AllFit all_folders path o xs → AllFit t path o xs
all_up t path o [] up fit = tt
all_up t path o (x ∷ xs) up fit = (up_fits t path o x up fit.0, all_up t path (entry_after o x) xs up fit.1)

-- the changes of the first of these that is filled at a path
abbrev pub filling : Bool → Doing → Option (List Change) → Option (List Change)
filling true (Fills changes) more = Some changes
filling true Makes more = more
filling true Clears more = more
filling true Leaves more = more
filling false d more = more

abbrev pub filled_at : PathValue → List Item → Option (List Change)
filled_at q [] = None
filled_at q (x ∷ xs) = filling (path_eq q x.path) x.doing (filled_at q xs)

abbrev pub filled_by : Option (List Change) → Option Entry → Option Entry → Option Entry
filled_by None old other = other
filled_by (Some changes) old other = made_of old changes

-- the state once all folders are made, and some files filled
abbrev pub with_files : Standing → (all done : List Item) → Standing
with_files s all done q = filled_by (filled_at q done) (s q) (with_folders s all q)

pub unfilled : (q : PathValue) (items : List Item) → fills_at q items ≡ false → filled_at q items ≡ None
unfilled q [] off = refl
unfilled q (x ∷ xs) off = by (path_eq q x.path) x.doing (or_both (path_eq q x.path && is_filling x.doing) (fills_at q xs) off).0 (unfilled q xs (or_both (path_eq q x.path && is_filling x.doing) (fills_at q xs) off).1)
  where
    by : (b : Bool) (d : Doing) → (b && is_filling d) ≡ false → filled_at q xs ≡ None → filling b d (filled_at q xs) ≡ None
    by true (Fills changes) h rest = absurd (true≢false h)
    by true Makes h rest = rest
    by true Clears h rest = rest
    by true Leaves h rest = rest
    by false d h rest = rest

-- one more at the end
filled_more : (q : PathValue) (done : List Item) (x : Item) → list_any (here x.path) done ≡ false → filled_at q (done ++ x ∷ []) ≡ filling (path_eq q x.path) x.doing (filled_at q done)
filled_more q [] x off = refl
filled_more q (y ∷ ys) x off = by (path_eq q y.path) y.doing (path_eq q x.path) x.doing refl refl (filled_more q ys x (or_both (path_eq x.path y.path) (list_any (here x.path) ys) off).1)
  where
    apart : path_eq q y.path ≡ true → path_eq q x.path ≡ true → ⊥
    apart a b = true≢false (sym (ap (λ p. path_eq p y.path) (sym (path_eq-same q x.path b)) ∙ a) ∙ (or_both (path_eq x.path y.path) (list_any (here x.path) ys) off).0)

    by : (a : Bool) (d : Doing) (b : Bool) (e : Doing) → path_eq q y.path ≡ a → path_eq q x.path ≡ b → filled_at q (ys ++ x ∷ []) ≡ filling (path_eq q x.path) x.doing (filled_at q ys) → filling a d (filled_at q (ys ++ x ∷ [])) ≡ filling (path_eq q x.path) x.doing (filling a d (filled_at q ys))
    by false d b e is1 is2 rest = rest
    by true Makes b e is1 is2 rest = rest
    by true Clears b e is1 is2 rest = rest
    by true Leaves b e is1 is2 rest = rest
    by true (Fills changes) true e is1 is2 rest = absurd (apart is1 is2)
    by true (Fills changes) false e is1 is2 rest = ap (λ b. filling b x.doing (Some changes)) (sym is2)

-- the state with one more file
file_more : (s : Standing) (all done : List Item) (x : Item) (changes : List Change) → x.doing ≡ Fills changes → list_any (here x.path) done ≡ false → makes_at x.path all ≡ false
    → (q : PathValue) → with_files s all (done ++ x ∷ []) q ≡ after_job (with_files s all done) (record { path = x.path; changes = changes }) q
file_more s all done x changes is off unmade q =
    ap (λ o. filled_by o (s q) (with_folders s all q)) (filled_more q done x off ∙ ap (λ d. filling (path_eq q x.path) d (filled_at q done)) is) ∙ by (path_eq q x.path) refl
  where
    own : with_files s all done x.path ≡ s x.path
    own = ap (λ o. filled_by o (s x.path) (with_folders s all x.path)) (unfilled x.path done (none_here x.path done is_filling off)) ∙ ap (λ m. cond m (Some (FolderEntry false)) (s x.path)) unmade

    by : (b : Bool) → path_eq q x.path ≡ b → filled_by (filling b (Fills changes) (filled_at q done)) (s q) (with_folders s all q) ≡ cond b (made_of (with_files s all done x.path) changes) (with_files s all done q)
    by true here = ap (λ r. made_of (s r) changes) (path_eq-same q x.path here) ∙ ap (λ o. made_of o changes) (sym own)
    by false other = refl

-- and with one that isn't filled
unfilled_more : (s : Standing) (all done : List Item) (x : Item) → is_filling x.doing ≡ false → list_any (here x.path) done ≡ false → (q : PathValue) → with_files s all (done ++ x ∷ []) q ≡ with_files s all done q
unfilled_more s all done x other off q = ap (λ o. filled_by o (s q) (with_folders s all q)) (filled_more q done x off ∙ by (path_eq q x.path) x.doing other)
  where
    by : (b : Bool) (d : Doing) → is_filling d ≡ false → filling b d (filled_at q done) ≡ filled_at q done
    by true Makes h = refl
    by true (Fills changes) h = absurd (true≢false h)
    by true Clears h = refl
    by true Leaves h = refl
    by false d h = refl

-- what no file of all is, none of some is
fills_front : (q : PathValue) (all done rest : List Item) → all ≡ done ++ rest → fills_at q all ≡ false → fills_at q done ≡ false
fills_front q all done rest is off = (or_both (fills_at q done) (fills_at q rest) (sym (any_both (λ (x : Item). path_eq q x.path && is_filling x.doing) done rest) ∙ ap (fills_at q) (sym is) ∙ off)).0

-- a file's job, in its turn
file_fits : (s : Standing) (all done rest : List Item) (path : PathValue) (changes : List Change) → all ≡ done ++ rest → list_any (here path) done ≡ false → Filled s all path changes → JobFits (with_files s all done) (record { path = path; changes = changes })
file_fits s all done rest path changes is off f = record {
  deep = f.deep;
  own = f.own;
  fits = subst (λ o. AllFit (with_files s all done) path o changes) (sym own) (all_up (with_files s all done) path (s path) changes up f.fits);
}
  where
    own : with_files s all done path ≡ s path
    own = ap (λ o. filled_by o (s path) (with_folders s all path)) (unfilled path done (none_here path done is_filling off)) ∙ ap (λ m. cond m (Some (FolderEntry false)) (s path)) f.unmade

    up : refusal_in (with_files s all done (parent path)) ≡ None
    up = ap (λ o. refusal_in (filled_by o (s (parent path)) (with_folders s all (parent path)))) (unfilled (parent path) done (fills_front (parent path) all done rest is f.up_unfilled)) ∙ above-fits s all (parent path) f.up

-- each path of the rest isn't among those before
abbrev pub Beyond : (done items : List Item) → Type 0
Beyond done [] = Unit {0}
Beyond done (x ∷ xs) = (list_any (here x.path) done ≡ false) × Beyond (done ++ x ∷ []) xs

next_split : (all done : List Item) (x : Item) (xs : List Item) → all ≡ done ++ x ∷ xs → all ≡ (done ++ x ∷ []) ++ xs
next_split all done x xs is = is ∙ sym (append_assoc done (x ∷ []) xs)

pub files-fit : (s : Standing) (all done items : List Item) → all ≡ done ++ items → Beyond done items → FilesFit s all items → JobsFit (with_files s all done) (files items)
files-fit s all done [] is beyond fit = tt
files-fit s all done (x ∷ xs) is beyond fit = by (files-fit s all (done ++ x ∷ []) xs (next_split all done x xs is) beyond.1 fit.1) x.doing refl fit.0
  where
    by : JobsFit (with_files s all (done ++ x ∷ [])) (files xs) → (d : Doing) → x.doing ≡ d → FileFits s all x.path x.doing → JobsFit (with_files s all done) (file_of x.path d ++ files xs)
    by rest Makes kind f = jobs-same (with_files s all (done ++ x ∷ [])) (with_files s all done) (λ q. sym (unfilled_more s all done x (ap is_filling kind) beyond.0 q)) (files xs) rest
    by rest Clears kind f = jobs-same (with_files s all (done ++ x ∷ [])) (with_files s all done) (λ q. sym (unfilled_more s all done x (ap is_filling kind) beyond.0 q)) (files xs) rest
    by rest Leaves kind f = jobs-same (with_files s all (done ++ x ∷ [])) (with_files s all done) (λ q. sym (unfilled_more s all done x (ap is_filling kind) beyond.0 q)) (files xs) rest
    by rest (Fills changes) kind f =
        let filled : Filled s all x.path changes = subst (FileFits s all x.path) kind f in (
          file_fits s all done (x ∷ xs) x.path changes is beyond.0 filled,
          jobs-same (with_files s all (done ++ x ∷ [])) (after_job (with_files s all done) (record { path = x.path; changes = changes })) (λ q. sym (file_more s all done x changes kind beyond.0 filled.unmade q)) (files xs) rest,
        )

pub files-leave : (s : Standing) (all done items : List Item) → all ≡ done ++ items → Beyond done items → FilesFit s all items → (q : PathValue) → after_jobs (with_files s all done) (files items) q ≡ with_files s all (done ++ items) q
files-leave s all done [] is beyond fit q = ap (λ l. with_files s all l q) (sym (append-nil done))
files-leave s all done (x ∷ xs) is beyond fit q = by (files-leave s all (done ++ x ∷ []) xs (next_split all done x xs is) beyond.1 fit.1 q) x.doing refl fit.0
  where
    again : with_files s all ((done ++ x ∷ []) ++ xs) q ≡ with_files s all (done ++ x ∷ xs) q
    again = ap (λ l. with_files s all l q) (append_assoc done (x ∷ []) xs)

    by : after_jobs (with_files s all (done ++ x ∷ [])) (files xs) q ≡ with_files s all ((done ++ x ∷ []) ++ xs) q → (d : Doing) → x.doing ≡ d → FileFits s all x.path x.doing → after_jobs (with_files s all done) (file_of x.path d ++ files xs) q ≡ with_files s all (done ++ x ∷ xs) q
    by rest Makes kind f = after-same (with_files s all (done ++ x ∷ [])) (with_files s all done) (λ r. sym (unfilled_more s all done x (ap is_filling kind) beyond.0 r)) (files xs) q ∙ rest ∙ again
    by rest Clears kind f = after-same (with_files s all (done ++ x ∷ [])) (with_files s all done) (λ r. sym (unfilled_more s all done x (ap is_filling kind) beyond.0 r)) (files xs) q ∙ rest ∙ again
    by rest Leaves kind f = after-same (with_files s all (done ++ x ∷ [])) (with_files s all done) (λ r. sym (unfilled_more s all done x (ap is_filling kind) beyond.0 r)) (files xs) q ∙ rest ∙ again
    by rest (Fills changes) kind f =
        let filled : Filled s all x.path changes = subst (FileFits s all x.path) kind f in
        after-same (with_files s all (done ++ x ∷ [])) (after_job (with_files s all done) (record { path = x.path; changes = changes })) (λ r. sym (file_more s all done x changes kind beyond.0 filled.unmade r)) (files xs) q ∙ rest ∙ again

-- A whole plan: the mark, the steps, the label, the control file, the mark's end. None is refused in its turn, and what they leave.
use Rattle.std.proofs.Common.{◌≡◌, ◌≢◌, ◌⊎◌, Bool, true, false, ◌||◌, cond, List, [], ◌∷◌, ◌++◌, None, Some, inl, inr, refl, sym, ap, ◌∙◌, subst, true≢false}
use Rattle.std.specs.List.{list_any}
use Rattle.cluster_tree.specs.PathValue.{PathValue}
use Rattle.cluster_tree.specs.PathOrder.{path_eq}
use Rattle.cluster_tree.specs.Contents.{FolderEntry, is_folder, parent}
use Rattle.cluster_tree.specs.Folders.{lies_in}
use Rattle.rewind_plan.proofs.Jobs.{AllFit, Standing, is_plain}
use Rattle.rewind_plan.proofs.Items.{Clears, Doing, Fills, Item, Leaves, Makes, clears_at, here, makes_at}
use Rattle.rewind_plan.proofs.FolderItems.{FolderFits, FoldersFit}
use Rattle.rewind_plan.proofs.FileItems.{FileFits, FilesFit, all_folders, filled_at, filled_by, with_files}
use Rattle.rewind_plan.proofs.RemovalItems.{RemovalFits, RemovalsFit}
use Rattle.rewind_plan.proofs.ItemLemmas.{ItemsFit, left_at, leaves_of}

-- ---- items fit too where something else stands beside all that they ask

-- no item is at a place, in it, or right above it
abbrev pub IsOff : PathValue → Item → Type 0
IsOff m x = (x.path ≢ m) × (parent x.path ≢ m) × (lies_in x.path m ≡ false)

abbrev pub AllOff : PathValue → List Item → Type 0
AllOff m [] = Unit {0}
AllOff m (x ∷ xs) = IsOff m x × AllOff m xs

module _ (s t : Standing) (m : PathValue) (same : (q : PathValue) → q ≢ m → t q ≡ s q) where
  folder_beside : (done : List Item) (path : PathValue) (d : Doing) → path ≢ m → parent path ≢ m → FolderFits s done path d → FolderFits t done path d
  folder_beside done path Makes off up fits = (fits.0, same path off ∙ fits.1, how fits.2)
    where
      how : (is_folder (s (parent path)) ≡ true) ⊎ (makes_at (parent path) done ≡ true) → (is_folder (t (parent path)) ≡ true) ⊎ (makes_at (parent path) done ≡ true)
      how (inl stands) = inl (ap is_folder (same (parent path) up) ∙ stands)
      how (inr made) = inr made
  folder_beside done path (Fills changes) off up fits = tt
  folder_beside done path Clears off up fits = tt
  folder_beside done path Leaves off up fits = tt

  folders_beside : (done items : List Item) → AllOff m items → FoldersFit s done items → FoldersFit t done items
  folders_beside done [] off fit = tt
  folders_beside done (x ∷ xs) off fit = (folder_beside done x.path x.doing off.0.0 off.0.1 fit.0, folders_beside (done ++ x ∷ []) xs off.1 fit.1)

  file_beside : (all : List Item) (path : PathValue) (d : Doing) → path ≢ m → parent path ≢ m → FileFits s all path d → FileFits t all path d
  file_beside all path Makes off up fits = tt
  file_beside all path (Fills changes) off up fits = record {
    deep = fits.deep;
    own = fits.own;
    unmade = fits.unmade;
    up = how fits.up;
    up_unfilled = fits.up_unfilled;
    fits = subst (λ o. AllFit all_folders path o changes) (sym (same path off)) fits.fits;
  }
    where
      how : (is_folder (s (parent path)) ≡ true) ⊎ (makes_at (parent path) all ≡ true) → (is_folder (t (parent path)) ≡ true) ⊎ (makes_at (parent path) all ≡ true)
      how (inl stands) = inl (ap is_folder (same (parent path) up) ∙ stands)
      how (inr made) = inr made
  file_beside all path Clears off up fits = tt
  file_beside all path Leaves off up fits = tt

  files_beside : (all items : List Item) → AllOff m items → FilesFit s all items → FilesFit t all items
  files_beside all [] off fit = tt
  files_beside all (x ∷ xs) off fit = (file_beside all x.path x.doing off.0.0 off.0.1 fit.0, files_beside all xs off.1 fit.1)

  state_beside : (all : List Item) (q : PathValue) → q ≢ m → with_files t all all q ≡ with_files s all all q
  state_beside all q off = ap (λ o. filled_by (filled_at q all) o (cond (makes_at q all) (Some (FolderEntry false)) o)) (same q off)

  removal_beside : (all later : List Item) (path : PathValue) (d : Doing) → path ≢ m → lies_in path m ≡ false → RemovalFits (with_files s all all) later path d → RemovalFits (with_files t all all) later path d
  removal_beside all later path Makes off child fits = tt
  removal_beside all later path (Fills changes) off child fits = tt
  removal_beside all later path Clears off child fits =
      (fits.0, ap is_plain (state_beside all path off) ∙ fits.1, λ q inside. how q inside (fits.2 q inside))
    where
      apart : (q : PathValue) → lies_in path q ≡ true → q ≢ m
      apart q inside e = true≢false (sym inside ∙ ap (lies_in path) e ∙ child)

      how : (q : PathValue) → lies_in path q ≡ true → (with_files s all all q ≡ None) ⊎ (clears_at q later ≡ true) → (with_files t all all q ≡ None) ⊎ (clears_at q later ≡ true)
      how q inside (inl none) = inl (state_beside all q (apart q inside) ∙ none)
      how q inside (inr cleared) = inr cleared
  removal_beside all later path Leaves off child fits = tt

  removals_beside : (all items : List Item) → AllOff m items → RemovalsFit (with_files s all all) items → RemovalsFit (with_files t all all) items
  removals_beside all [] off fit = tt
  removals_beside all (x ∷ xs) off fit = (removal_beside all xs x.path x.doing off.0.0 off.0.2 fit.0, removals_beside all xs off.1 fit.1)

  pub fit-beside : (items : List Item) → AllOff m items → ItemsFit s items → ItemsFit t items
  fit-beside items off fit = record {
    apart = fit.apart;
    folders = folders_beside [] items off fit.folders;
    files = files_beside items items off fit.files;
    removals = removals_beside items items off fit.removals;
  }

  pub left-beside : (items : List Item) (q : PathValue) → q ≢ m → left_at t items q ≡ left_at s items q
  left-beside [] q off = same q off
  left-beside (x ∷ xs) q off = ap (λ o. cond (path_eq q x.path) (leaves_of q x.doing o) (left_at t xs q)) (same q off) ∙ ap (λ o. cond (path_eq q x.path) (leaves_of q x.doing (s q)) o) (left-beside xs q off)

-- a path without an item
pub left-alone : (s : Standing) (items : List Item) (q : PathValue) → list_any (here q) items ≡ false → left_at s items q ≡ s q
left-alone s [] q off = refl
left-alone s (x ∷ xs) q off = by (path_eq q x.path) off (left-alone s xs q)
  where
    by : (b : Bool) → (b || list_any (here q) xs) ≡ false → (list_any (here q) xs ≡ false → left_at s xs q ≡ s q) → cond b (leaves_of q x.doing (s q)) (left_at s xs q) ≡ s q
    by true h rest = absurd (true≢false h)
    by false h rest = rest h

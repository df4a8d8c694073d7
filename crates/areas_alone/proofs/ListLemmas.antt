-- What list answers at the root, elsewhere and at every other path.
use Rattle.std.proofs.Common.{◌≡◌, ◌≢◌, ℕ, true, false, List, Some, Result, Ok, Err, IfOk, ap, sym, ◌∙◌, subst, true≢false}
use Rattle.cluster_tree.specs.Causes.{Passes}
use Rattle.cluster_tree.specs.Contents.{Contents, entry_at}
use Rattle.cluster_tree.specs.Folders.{IsListing, list_refusal}
use Rattle.cluster_tree.specs.PathOrder.{path_eq}
use Rattle.cluster_tree.specs.PathValue.{PathValue}
use Rattle.cluster_tree.specs.Tree.{IsFreeOfListing}
use Rattle.cluster_tree.specs.declared.tree.TreeFault.{TreeFault}
use Rattle.cluster_tree.specs.declared.tree.TreeFault.TheVariants as fault
use Rattle.cluster_tree.proofs.OrderLemmas.{path_eq-own, path_eq-same}
use Rattle.areas_alone.specs.Alone.{areas_of, lies_elsewhere}
use Rattle.areas_alone.specs.Shown.{entry-elsewhere, entry-other}
use Rattle.areas_alone.proofs.ShownLemmas.{listing-other}

pub refused_elsewhere : (c : Contents) (root path : PathValue) → lies_elsewhere root path ≡ true → list_refusal (entry_at (areas_of c root) path) ≡ Some fault.Absent
refused_elsewhere c root path e = ap list_refusal (entry-elsewhere c root path e)

pub listed_root : (c : Contents) (root path : PathValue) (r : Result (List (List ℕ)) TreeFault) → path_eq path root ≡ true → IfOk r (IsListing (areas_of c root) root) → IfOk r (IsListing (areas_of c root) path)
listed_root c root path r e is = subst (λ p. IfOk r (IsListing (areas_of c root) p)) (sym (path_eq-same path root e)) is

pub refused_root : (c : Contents) (root path : PathValue) (r : Result (List (List ℕ)) TreeFault) → path_eq path root ≡ true → Passes IsFreeOfListing (list_refusal (entry_at (areas_of c root) root)) r → Passes IsFreeOfListing (list_refusal (entry_at (areas_of c root) path)) r
refused_root c root path r e is = subst (λ p. Passes IsFreeOfListing (list_refusal (entry_at (areas_of c root) p)) r) (sym (path_eq-same path root e)) is

away : (root path : PathValue) → path_eq path root ≡ false → path ≢ root
away root path e is = true≢false (sym (path_eq-own root) ∙ ap (λ p. path_eq p root) (sym is) ∙ e)

pub listed_here : (c : Contents) (root path : PathValue) (r : Result (List (List ℕ)) TreeFault) → lies_elsewhere root path ≡ false → path_eq path root ≡ false → IfOk r (IsListing c path) → IfOk r (IsListing (areas_of c root) path)
listed_here c root path (Ok names) here e is = listing-other c root path names (away root path e) here is
listed_here c root path (Err f) here e is = tt

pub refused_here : (c : Contents) (root path : PathValue) (r : Result (List (List ℕ)) TreeFault) → lies_elsewhere root path ≡ false → path_eq path root ≡ false → Passes IsFreeOfListing (list_refusal (entry_at c path)) r → Passes IsFreeOfListing (list_refusal (entry_at (areas_of c root) path)) r
refused_here c root path r here e is = subst (λ o. Passes IsFreeOfListing (list_refusal o) r) (sym (entry-other c root path (away root path e) here)) is

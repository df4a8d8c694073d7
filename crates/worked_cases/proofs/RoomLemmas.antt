-- There is room for a pair below the root of an empty tree.
use Rattle.std.proofs.Common.{◌≡◌, ℕ, List, [], ◌∷◌, None, ap, sym, subst, codes}
use Rattle.std.specs.FinMap.{empty, get-empty}
use Rattle.cluster_tree.specs.Contents.{Contents, entry_at, is_folder, or_root}
use Rattle.cluster_tree.specs.PathValue.{PathValue, below, parsed, path_cmp}
use Rattle.pair_maker.specs.Pair.{HasRoom}

dot : PathValue
dot = parsed (codes ".")

none-below : (name : List ℕ) → entry_at empty (below dot (name ∷ [])) ≡ None
unfolding dot
none-below name = ap (λ o. or_root (name ∷ []) o) (get-empty path_cmp (below dot (name ∷ [])))

below-nothing : HasRoom empty dot
unfolding dot
below-nothing = record {
  folder = ap (λ o. is_folder (or_root [] o)) (get-empty path_cmp dot);
  target = none-below (codes "t");
  source = none-below (codes "s");
  copy = none-below (codes "c");
}

pub has_room : (c : Contents) (root : PathValue) → c ≡ empty → root ≡ parsed (codes ".") → HasRoom c root
unfolding dot
has_room c root none here = subst (λ x. HasRoom x root) (sym none) (subst (λ r. HasRoom empty r) (sym here) below-nothing)

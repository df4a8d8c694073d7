-- The definitions on small examples: where a change is refused.
use Rattle.std.proofs.Common.{◌≡◌, true, List, [], ◌∷◌, ◌++◌, None, Some, Ok, refl, ap, sym, ◌∙◌}
use Rattle.std.specs.FinMap.{remove}
use Rattle.cluster_tree.specs.Change.{Change, Cuts, is_on, or_next, refusal_of}
use Rattle.cluster_tree.specs.Contents.{Contents}
use Rattle.cluster_tree.specs.PathValue.{PathValue, path_of}
use Rattle.cluster_tree.specs.PathOrder.{path_eq}
use Rattle.cluster_tree.specs.Run.{State}
use Rattle.cluster_tree.specs.Tree.{file_of, refusal_past}
use Rattle.cluster_tree.specs.declared.tree.TreeFault.TheVariants as fault
use Rattle.cluster_tree.proofs.ContentsLemmas.{entry-removed}
use Rattle.resumed_writes.specs.Tried.{IsRefusedAt, Tried}

-- the paths /a and /b
abbrev a : PathValue
a = path_of true ((97 ∷ []) ∷ [])

abbrev b : PathValue
b = path_of true ((98 ∷ []) ∷ [])

-- a file that isn't there can't be cut
cut_on_literals : (d : Contents) → refusal_of (remove d b) (Cuts b 0) ≡ Some fault.Absent
cut_on_literals d = ap (λ o. refusal_past (file_of o) 0) (entry-removed d b)

-- so it isn't done
done_on_literals : (d : Contents) (s t : State) → s.contents ≡ remove d b → Tried (Cuts b 0 ∷ []) s t (Ok tt) → ⊥
done_on_literals d s t is tried = cc (sym (ap (λ o. or_next o None) (ap (λ e. refusal_of e (Cuts b 0)) is ∙ cut_on_literals d)) ∙ tried.done refl)

-- and no other path is told
only-one : (before rest : List Change) (x change : Change) → x ∷ [] ≡ before ++ change ∷ rest → change ≡ x
only-one [] rest x change e = cc e
only-one (y ∷ []) rest x change e = absurd (cc e)
only-one (y ∷ z ∷ before) rest x change e = absurd (cc e)

other_on_literals : (s t : State) → IsRefusedAt a (Cuts b 0 ∷ []) s t → ⊥
unfolding path_eq
other_on_literals s t at = cc (sym at.here ∙ ap (is_on a) (only-one at.before at.rest (Cuts b 0) at.change at.split))

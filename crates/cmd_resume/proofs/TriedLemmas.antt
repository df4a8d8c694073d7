-- How far changes come that are tried in turn.
use Rattle.std.proofs.Common.{◌≡◌, ◌≢◌, List, [], ◌∷◌, ◌++◌, Option, None, Some, refl, ap, ap₂, ◌∙◌}
use Rattle.cluster_tree.specs.Change.{Change, all_changed, call_of, changed_by, first_refusal, or_next, refusal_of}
use Rattle.cluster_tree.specs.Contents.{Contents}
use Rattle.cluster_tree.specs.Laws.{changed_path}
use Rattle.cluster_tree.specs.PathValue.{PathValue}
use Rattle.cluster_tree.specs.declared.tree.TreeFault.{TreeFault}
use Rattle.cmd_resume.specs.Changes.{Trial, tried, tried_by}

tried-next : (c : Contents) (change : Change) (changes : List Change) → tried c (change ∷ changes) ≡ tried_by change (refusal_of c change) (tried (changed_by c change) changes)
unfolding tried
tried-next c change changes = refl

tried-none : (c : Contents) → tried c [] ≡ record { before = []; differs = None }
unfolding tried
tried-none c = refl

-- a change that isn't refused, and then none that is
first-passes : (o next : Option TreeFault) → or_next o next ≡ None → o ≡ None
first-passes None next is = refl
first-passes (Some f) next is = cc is

rest-passes : (o next : Option TreeFault) → or_next o next ≡ None → next ≡ None
rest-passes None next is = is
rest-passes (Some f) next is = cc is

passes : (c : Contents) (change : Change) (changes : List Change) (t : Trial) → refusal_of c change ≡ None → tried (changed_by c change) changes ≡ t → tried c (change ∷ changes) ≡ tried_by change None t
passes c change changes t none rest = tried-next c change changes ∙ ap₂ (tried_by change) none rest

-- all come where none is refused
pub tried-all : (c : Contents) (changes : List Change) → first_refusal c changes ≡ None → tried c changes ≡ record { before = changes; differs = None }
tried-all c [] none = tried-none c
tried-all c (change ∷ changes) none =
    passes c change changes (record { before = changes; differs = None }) (first-passes (refusal_of c change) (first_refusal (changed_by c change) changes) none)
    (tried-all (changed_by c change) changes (rest-passes (refusal_of c change) (first_refusal (changed_by c change) changes) none))

refused-by : (change : Change) (o : Option TreeFault) (t : Trial) → o ≢ None → tried_by change o t ≡ record { before = []; differs = changed_path (call_of change) }
refused-by change None t is = absurd (is refl)
refused-by change (Some f) t is = refl

-- those before the first that is
pub tried-refused : (c : Contents) (before : List Change) (change : Change) (rest : List Change) (path : PathValue) → first_refusal c before ≡ None → refusal_of (all_changed c before) change ≢ None
    → changed_path (call_of change) ≡ Some path → tried c (before ++ change ∷ rest) ≡ record { before = before; differs = Some path }
tried-refused c [] change rest path none refused on =
    tried-next c change rest ∙ refused-by change (refusal_of c change) (tried (changed_by c change) rest) refused ∙ ap (λ o. record { before = []; differs = o }) on
tried-refused c (first ∷ before) change rest path none refused on =
    passes c first (before ++ change ∷ rest) (record { before = before; differs = Some path }) (first-passes (refusal_of c first) (first_refusal (changed_by c first) before) none)
    (tried-refused (changed_by c first) before change rest path (rest-passes (refusal_of c first) (first_refusal (changed_by c first) before) none) refused on)

-- How answers are tied to what is meant.
use Rattle.std.proofs.Common.{◌≡◌, ◌⊎◌, Option, None, Result, Ok, Err, OnOk, sym, ap, ◌∙◌, subst, refl, inl, inr}
use Rattle.cluster_tree.specs.PathValue.{PathValue}
use Rattle.cluster_tree.specs.Causes.{Meets, Passes, given}
use Rattle.cluster_tree.specs.Contents.{Contents}
use Rattle.cluster_tree.specs.Tree.{HasFailed}
use Rattle.cluster_tree.specs.declared.tree.TreeFault.{TreeFault}
use Rattle.cluster_tree.specs.declared.tree.TreeFault.TheVariants as tree_fault
use Rattle.cluster_tree.specs.declared.file_fault.FileFault.{FileFault}
use Rattle.cluster_tree.specs.declared.file_fault.FileFault.TheVariants as fault
use Rattle.cluster_tree.proofs.TreeLemmas.{some_none}
use Rattle.file_edits.specs.Answers.{IsFree, Does}

-- a changing call that nothing refuses
pub settled-exact : (after new : Contents) (refusal : Option TreeFault) (done : Result (Unit {0}) TreeFault) (result : Result (Unit {0}) FileFault) → refusal ≡ None → OnOk done (new ≡ after) → Passes HasFailed refusal done → OnOk done (result ≡ Ok tt) → (done ≡ Err tree_fault.Failed → result ≡ Err fault.WriteFault) → Does (Ok after) new result
settled-exact after new refusal (Ok v) result none is passes ok failed = subst (Does (Ok after) new) (sym ok) (ap (λ c. Ok c) (sym is))
settled-exact after new refusal (Err e) result none is (inl why) ok failed = subst (Does (Ok after) new) (sym (failed (ap (λ f. Err f) why))) (inl (inr (inl refl)))
settled-exact after new refusal (Err e) result none is (inr why) ok failed = some_none (sym why ∙ none)

changed_free : (p : PathValue) → IsFree (fault.Changed p) → ⊥
changed_free p (inl e) = absurd cc
changed_free p (inr (inl e)) = absurd cc
changed_free p (inr (inr (inl e))) = absurd cc
changed_free p (inr (inr (inr none))) = none

-- an answer that is meant tells of no change where what is meant doesn't
pub does-unchanged : {A : Type 0} (meant : Result Contents FileFault) (new : Contents) (r : Result A FileFault) → Does meant new r → ((p : PathValue) → meant ≡ Err (fault.Changed p) → ⊥) → (p : PathValue) → r ≡ Err (fault.Changed p) → ⊥
does-unchanged meant new (Ok v) does never p e = absurd cc
does-unchanged meant new (Err f) (inl free) never p e = let same : f ≡ fault.Changed p = cc in changed_free p (let P : FileFault → Type 0 = IsFree in subst P same free)
does-unchanged meant new (Err f) (inr is) never p e = let same : f ≡ fault.Changed p = cc in never p (is ∙ ap (λ x. Err x) same)

-- answers that are handed on

-- why a refusal comes
abbrev pub Why : {A : Type 0} → Result A FileFault → FileFault → Type 0
Why meant e = IsFree e ⊎ (meant ≡ Err e)

pub handed : {A : Type 0} (meant r : Result A FileFault) (e : FileFault) → ((f : FileFault) × (r ≡ Err f) × (f ≡ e)) → Why meant e → Meets IsFree meant r
handed meant r e p why = subst (Meets IsFree meant) (sym (p.1 ∙ ap (λ x. Err x) p.2)) why

pub handed-on : {A : Type 0} (meant : Result Contents FileFault) (new : Contents) (r : Result A FileFault) (e : FileFault) → ((f : FileFault) × (r ≡ Err f) × (f ≡ e)) → Why meant e → Does meant new r
handed-on meant new r e p why = subst (Does meant new) (sym (p.1 ∙ ap (λ x. Err x) p.2)) why

-- one step, and then another

pub why-first : {A B : Type 0} (meant : Result A FileFault) (next : A → Result B FileFault) (e : FileFault) → Why meant e → Why (given meant next) e
why-first meant next e (inl free) = inl free
why-first meant next e (inr is) = inr (ap (λ r. given r next) is)

pub why-is : {A : Type 0} (meant other : Result A FileFault) (e : FileFault) → other ≡ meant → Why meant e → Why other e
why-is meant other e is why = subst (λ m. Why m e) (sym is) why

pub given-ok : {A B : Type 0} (meant : Result A FileFault) (next : A → Result B FileFault) (a : A) → meant ≡ Ok a → given meant next ≡ next a
given-ok meant next a is = ap (λ r. given r next) is

pub does-is : {A : Type 0} (meant other : Result Contents FileFault) (new : Contents) (r : Result A FileFault) → other ≡ meant → Does meant new r → Does other new r
does-is meant other new r is done = subst (λ m. Does m new r) (sym is) done

-- Answers of steps.
use Rattle.std.proofs.Common.{◌≡◌, ◌⊎◌, Result, Ok, Err, OnOk, IfErr, ap, sym, subst, ◌∙◌}
use Rattle.cluster_tree.specs.Contents.{Contents}
use Rattle.cluster_tree.specs.declared.file_fault.FileFault.{FileFault}
use Rattle.file_edits.specs.Answers.{Does, IsFree}

pub ok-of : (meant : Result Contents FileFault) (new : Contents) (r : Result (Unit {0}) FileFault) (P : Type 0) → Does meant new r → (meant ≡ Ok new → P) → OnOk r P
ok-of meant new (Ok u) P done next = next done
ok-of meant new (Err e) P done next = tt

pub err-of : (meant : Result Contents FileFault) (new : Contents) (r : Result (Unit {0}) FileFault) (P : FileFault → Type 0) → Does meant new r → ((e : FileFault) → IsFree e ⊎ (meant ≡ Err e) → P e) → IfErr r P
err-of meant new (Ok u) P done next = tt
err-of meant new (Err e) P done next = next e done

-- a refusal that is handed on
pub err-given : (r : Result (Unit {0}) FileFault) (P : FileFault → Type 0) (e : FileFault) → ((f : FileFault) × (r ≡ Err f) × (f ≡ e)) → P e → IfErr r P
err-given r P e p is = subst (λ x. IfErr x P) (sym (p.1 ∙ ap (λ f. Err f) p.2)) is

pub err-wider : (r : Result (Unit {0}) FileFault) (P Q : FileFault → Type 0) → ((e : FileFault) → P e → Q e) → IfErr r P → IfErr r Q
err-wider (Ok u) P Q wider is = tt
err-wider (Err e) P Q wider is = wider e is

pub ok-wider : (r : Result (Unit {0}) FileFault) (P Q : Type 0) → (P → Q) → OnOk r P → OnOk r Q
ok-wider (Ok u) P Q wider is = wider is
ok-wider (Err e) P Q wider is = tt

pub if-err : (r : Result (Unit {0}) FileFault) (P : FileFault → Type 0) (e : FileFault) → IfErr r P → r ≡ Err e → P e
if-err (Ok u) P e is same = absurd cc
if-err (Err f) P e is same = let eq : f ≡ e = cc in subst P eq is

pub ok-same : (x y : Contents) (r : Result Contents FileFault) → r ≡ Ok x → r ≡ Ok y → x ≡ y
ok-same x y r a b = cc

-- A reset that was made ready, and then carried out.
use Rattle.std.proofs.Common.{◌≡◌, ◌≢◌, ◌⊎◌, inl, inr, ℤ, Bool, true, false, List, [], map, Result, Ok, Err, refl, sym, ap, ◌∙◌, subst, true≢false}
use Rattle.std.proofs.lemmas.List.{append-nil}
use Rattle.std.specs.Prelude.{IfErr, IfOk}
use Rattle.cluster_tree.specs.Causes.{Meets}
use Rattle.cluster_tree.specs.Change.{Change, call_of}
use Rattle.cluster_tree.specs.Contents.{Contents, entry_at}
use Rattle.cluster_tree.specs.PathValue.{PathValue}
use Rattle.cluster_tree.specs.declared.tree.ChangeCall.{ChangeCall}
use Rattle.control_file.specs.Admission.{IsControl}
use Rattle.control_file.specs.declared.control.Control.{Control}
use Rattle.marked_runs.specs.Runs.{Runs}
use Rattle.marked_runs.specs.declared.faults.PerformFault.{PerformFault}
use Rattle.marked_runs.specs.declared.faults.PerformFault.TheVariants as perform
use Rattle.reset_numbers.specs.declared.options.ResetOptions.{ResetOptions}
use Rattle.reset_plan.specs.Prepared.{IsDry, IsOfNames, control_in, reset_by}
use Rattle.reset_plan.specs.Reset.{Reset, control_told, reset_of}
use Rattle.reset_plan.specs.ResetFaults.{IsFree, changed_at, read_failed}
use Rattle.reset_plan.specs.declared.fault.ResetFault.{ResetFault}
use Rattle.reset_plan.specs.declared.fault.ResetFault.TheVariants as fault
use Rattle.reset_plan.specs.declared.plan.Prepared.{Prepared}
use Rattle.reset_plan.specs.declared.plan.Prepared.TheVariants.{Dry, Ready}
use Rattle.reset_cleanup.specs.Performing.{IsOfChange, fault_of}
use Rattle.reset_cleanup.specs.Resetting.{Forms}

-- ---- why the changes broke off

pub change-of : (f : PerformFault) → f ≢ perform.ReadFault → IsOfChange (fault_of f)
change-of perform.ReadFault never = absurd (never refl)
change-of perform.WriteFault never = inl refl
change-of (perform.Changed p) never = inr (p, refl)

pub changed-of : (f : PerformFault) (p : PathValue) → fault_of f ≡ changed_at p → f ≡ perform.Changed p
changed-of perform.ReadFault p h = absurd (cc h)
changed-of perform.WriteFault p h = absurd (cc h)
changed-of (perform.Changed q) p h = cc h

pub write-of : (f : PerformFault) → fault_of f ≡ fault.WriteFault → f ≡ perform.WriteFault
write-of perform.ReadFault h = absurd (cc h)
write-of perform.WriteFault h = refl
write-of (perform.Changed q) h = absurd (cc h)

-- ---- nothing was changed

pub runs-broken : (xs : List Change) (k l : List ChangeCall) (c d : Contents) → l ≡ k → d ≡ c → Runs xs k l c d false
runs-broken xs k l c d calls same = record {
  made = [];
  grew = calls ∙ sym (append-nil k);
  rest = map call_of xs;
  joins = refl;
  all = λ h. absurd (true≢false (sym h));
  after = λ h. absurd (true≢false (sym h));
  elsewhere = λ p off. ap (λ x. entry_at x p) same;
}

pub runs-nothing : (k : List ChangeCall) (c : Contents) → Runs [] k k c c true
runs-nothing k c = record {
  made = [];
  grew = sym (append-nil k);
  rest = [];
  joins = refl;
  all = λ h. refl;
  after = λ h. refl;
  elsewhere = λ p off. refl;
}

-- ---- the reset that was made ready is the one that is meant

abbrev reset_in : Reset → Result Reset ResetFault → Reset
reset_in other (Ok reset) = reset
reset_in other (Err e) = other

pub one-reset : (a b : Reset) (r : Result Reset ResetFault) → r ≡ Ok a → r ≡ Ok b → a ≡ b
one-reset a b r is other = ap (reset_in a) (sym is ∙ other)

-- what ran from a tree that had only been read
pub runs-from : (meant : Result Reset ResetFault) (a b : Reset) (k m l : List ChangeCall) (c e d : Contents) (done : Bool) → meant ≡ Ok a → meant ≡ Ok b → m ≡ k → e ≡ c → Runs a.changes m l e d done → Runs b.changes k l c d done
runs-from meant a b k m l c e d done is other calls same ran =
    subst (λ (r : Reset). Runs r.changes k l c d done) (one-reset a b meant is other)
    (subst (λ x. Runs a.changes x l c d done) calls (subst (λ x. Runs a.changes m l x d done) same ran))

-- the answer is its control file, or free
pub meets-of : (meant : Result Reset ResetFault) (reset : Reset) (result : Result Control ResetFault) → meant ≡ Ok reset → IfOk result (λ control. control ≡ reset.control) → IfErr result IsOfChange
    → ((p : PathValue) → result ≢ Err (changed_at p)) → Meets IsFree (control_told meant) result
meets-of meant reset (Ok control) is told only never = ap control_told is ∙ ap (λ x. Ok x) (sym told)
meets-of meant reset (Err e) is told (inl write) never = inl (inr (inl write))
meets-of meant reset (Err e) is told (inr (p, changed)) never = absurd (never p (ap (λ x. Err x) changed))

pub refused-told : (meant : Result Reset ResetFault) (e : ResetFault) → IsFree e ⊎ (meant ≡ Err e) → IsFree e ⊎ (control_told meant ≡ Err e)
refused-told meant e (inl free) = inl free
refused-told meant e (inr is) = inr (ap control_told is)

pub forms-of : (Tells : Type 0) (c : Contents) (root : PathValue) (options : ResetOptions) (now : ℤ) (reset : Reset) (result : Result Control ResetFault) → IsOfNames root options now reset
    → (Tells → reset_of c root options now ≡ Ok reset) → IfOk result (λ control. control ≡ reset.control) → Forms Tells c root options now result
forms-of Tells c root options now reset (Ok control) names meant told = (reset, names, told, meant)
forms-of Tells c root options now reset (Err e) names meant told = λ write. (reset, names, meant)

-- the time that is passed is the one that is given
pub told-at : (c : Contents) (root : PathValue) (options : ResetOptions) (n m : ℤ) (r : Result Reset ResetFault) → n ≡ m → reset_of c root options n ≡ r → reset_of c root options m ≡ r
told-at c root options n m r same is = ap (λ x. reset_of c root options x) (sym same) ∙ is

-- ---- what else is said of it

pub control-by : (p : Prepared) (result : Result Control ResetFault) → IsControl (control_in p) → IfOk result (λ control. control ≡ (reset_by p).control) → IfOk result IsControl
control-by (Dry old) (Ok control) is told = subst IsControl (sym told) is
control-by (Ready plan) (Ok control) is told = subst IsControl (sym told) is
control-by p (Err e) is told = tt

pub dry-none : (p : Prepared) → IsDry p → (reset_by p).changes ≡ []
dry-none (Dry control) dry = refl
dry-none (Ready plan) dry = absurd dry

-- a fault of a change is neither of a read nor of memory
pub not-read : (e : ResetFault) → IsOfChange e → e ≢ read_failed
not-read e (inl write) = λ h. cc (sym h ∙ write)
not-read e (inr (p, changed)) = λ h. cc (sym h ∙ changed)

pub only-change : (P : Type 0) (result : Result Control ResetFault) → IfErr result IsOfChange → IfErr result (λ e. e ≢ fault.WriteFault → ((p : PathValue) → e ≢ changed_at p) → P)
only-change P (Ok control) only = tt
only-change P (Err e) (inl write) = λ a b. absurd (a write)
only-change P (Err e) (inr (p, changed)) = λ a b. absurd (b p changed)

pub err-not_read : (result : Result Control ResetFault) → IfErr result IsOfChange → result ≢ Err read_failed
err-not_read (Ok control) only = λ h. cc h
err-not_read (Err e) only = λ h. not-read e only (cc h)

-- what is said of a dry run, which isn't broken off
pub only-of : (result : Result Control ResetFault) (D : Type 0) → IfErr result (λ e. IsOfChange e × (D → ⊥)) → IfErr result IsOfChange
only-of (Ok control) D only = tt
only-of (Err e) D only = only.0

pub no-write : (result : Result Control ResetFault) (D : Type 0) → IfErr result (λ e. IsOfChange e × (D → ⊥)) → D → result ≢ Err fault.WriteFault
no-write (Ok control) D only dry = λ h. cc h
no-write (Err e) D only dry = λ h. only.1 dry

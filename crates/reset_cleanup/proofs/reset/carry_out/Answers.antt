use Rattle.std.proofs.Common.{◌≡◌, ◌∙◌, ap, subst, sym, Err}
use Rattle.reset_plan.specs.ResetFaults.{changed_at}
use Rattle.reset_plan.specs.declared.fault.ResetFault.TheVariants as fault
use Rattle.reset_cleanup.specs.Performing.{IsOfChange}
use Rattle.reset_cleanup.proofs.ResetLemmas.{change-of, changed-of, write-of}
use Rattle.reset_cleanup.proofs.reset.carry_out.Goals as goal

pub returns-in-Ok-clause-runs : goal.returns-in-Ok-clause-runs
returns-in-Ok-clause-runs g c told none = (c.in-Ok.ensures.performs told none).runs

pub returns-in-Err-clause-runs : goal.returns-in-Err-clause-runs
returns-in-Err-clause-runs g c told none = (c.in-Err.ensures.performs told none).runs

pub returns-in-Err-clause-changed : goal.returns-in-Err-clause-changed
returns-in-Err-clause-changed g c told none p h =
    let e : c.fault_of.result ≡ changed_at p = cc h in
    (c.in-Err.ensures.performs told none).agreed p (ap Err (changed-of c.in-Err.fault p (sym c.fault_of.ensures ∙ e)))

pub returns-in-Err-clause-only : goal.returns-in-Err-clause-only
returns-in-Err-clause-only g c = subst IsOfChange (sym c.fault_of.ensures) (change-of c.in-Err.fault (λ h. c.in-Err.ensures.read_fault (ap Err h)))

pub returns-in-Err-clause-write_fault : goal.returns-in-Err-clause-write_fault
returns-in-Err-clause-write_fault g c h =
    let e : c.fault_of.result ≡ fault.WriteFault = cc h in
    c.in-Err.ensures.write_fault (ap Err (write-of c.in-Err.fault (sym c.fault_of.ensures ∙ e)))

pub returns-in-Ok-clause-stops : goal.returns-in-Ok-clause-stops
returns-in-Ok-clause-stops g c told none off = c.perform.ensures.stops told none off

pub returns-in-Err-clause-stops : goal.returns-in-Err-clause-stops
returns-in-Err-clause-stops g c told none off = c.perform.ensures.stops told none off

pub returns-in-Ok-clause-synced : goal.returns-in-Ok-clause-synced
returns-in-Ok-clause-synced g c told none = c.in-Ok.ensures.synced told none

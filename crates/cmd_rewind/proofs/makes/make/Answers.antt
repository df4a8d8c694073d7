use Rattle.std.proofs.Common.{◌≡◌, Err, ap, sym, ◌∙◌}
use Rattle.rewind_writes.specs.Plan.{plan_changes}
use Rattle.run_acts.specs.declared.cause.Cause.TheVariants as cause
use Rattle.run_acts.proofs.MadeSteps.{makes_told}
use Rattle.cmd_rewind.proofs.MakeLemmas.{broken_off, changed_by, on_ok}
use Rattle.cmd_rewind.proofs.makes.make.Goals as goal

pub returns-in-Ok-clause-performs : goal.returns-in-Ok-clause-performs
returns-in-Ok-clause-performs g c out_tells out =
    makes_told g.F.Tree.tells (λ d. plan_changes d c.args.plan.text c.args.plan.writes) (g.F.Tree.contents c.args.tree.now) (g.F.Tree.contents c.perform.new.tree) (g.F.Tree.calls c.args.tree.now) (g.F.Tree.calls c.perform.new.tree)
    c.tell.result (λ t. c.in-Ok.ensures.runs t (c.requires.planned t).0 (c.requires.planned t).1 (c.requires.planned t).2) c.tell.ensures.whole c.tell.ensures.part c.tell.ensures.only c.all_done.ensures

pub returns-in-Err-clause-performs : goal.returns-in-Err-clause-performs
returns-in-Err-clause-performs g c out_tells out =
    broken_off g.F.Tree.tells c.args.plan (g.F.Tree.contents c.args.tree.now) (g.F.Tree.contents c.perform.new.tree) (g.F.Tree.calls c.args.tree.now) (g.F.Tree.calls c.perform.new.tree)
    c.in-Err.fault _ c.perform_cause.ensures
    (λ t. c.in-Err.ensures.runs t (c.requires.planned t).0 (c.requires.planned t).1 (c.requires.planned t).2)
    (λ t p is. c.in-Err.ensures.changed t (c.requires.planned t).0 (c.requires.planned t).1 (c.requires.planned t).2 p (ap Err is))

pub returns-in-Ok-clause-rewound : goal.returns-in-Ok-clause-rewound
returns-in-Ok-clause-rewound g c t view n is = on_ok c.tell.result (c.in-Ok.ensures.rewound t view n is)

pub returns-in-Err-clause-changed : goal.returns-in-Err-clause-changed
returns-in-Err-clause-changed g c t p is =
    c.in-Err.ensures.changed t (c.requires.planned t).0 (c.requires.planned t).1 (c.requires.planned t).2 p
    (ap Err (changed_by c.in-Err.fault p (sym c.perform_cause.ensures ∙ let same : c.perform_cause.result ≡ cause.Changed p = cc is in same)))

pub returns-in-Ok-clause-synced : goal.returns-in-Ok-clause-synced
returns-in-Ok-clause-synced g c t view n is = on_ok c.tell.result (c.in-Ok.ensures.synced t view n is)

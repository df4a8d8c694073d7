use Rattle.std.proofs.Common.{sym, ◌∙◌, ap}
use Rattle.std.proofs.lemmas.Result.{on_ok_weaker}
use Rattle.record_effects.specs.Acts.{act_on}
use Rattle.rmgr_hooks.specs.Custom.{handed_in}
use Rattle.first_effects.specs.References.{is_change, is_effect}
use Rattle.first_effects.proofs.GatherLemmas.{does_change, does_meet, does_nothing, has_effect, no_effect, other_fork}
use Rattle.first_effects.proofs.first.FirstEffects.add_block.Goals as goal

pub returns-then-not-is_main-clause-ok : goal.returns-then-not-is_main-clause-ok
returns-then-not-is_main-clause-ok g c =
    let act = act_on (handed_in g.M.Manager c.args.custom) c.args.rec.now c.args.parts.now c.args.block.now in
    other_fork c.args.block.now.name (is_effect act) (is_change act) c.args.self.now (sym c.is_main.ensures ∙ c.if-not-is_main.true)

pub returns-in-Nothing-clause-ok : goal.returns-in-Nothing-clause-ok
returns-in-Nothing-clause-ok g c =
    let act = act_on (handed_in g.M.Manager c.args.custom) c.args.rec.now c.args.parts.now c.args.block.now in
    let none = no_effect c.act_on.result c.in-Nothing.is in
    does_nothing c.args.block.now.name (is_effect act) (is_change act) c.args.self.now (ap is_effect (sym c.act_on.ensures) ∙ none.0) (ap is_change (sym c.act_on.ensures) ∙ none.1)

pub returns-in-Image-clause-ok : goal.returns-in-Image-clause-ok
returns-in-Image-clause-ok g c =
    let act = act_on (handed_in g.M.Manager c.args.custom) c.args.rec.now c.args.parts.now c.args.block.now in
    let met = has_effect c.act_on.result c.in-Image.is in
    on_ok_weaker c.meet.result
    (does_meet c.args.block.now.name (is_effect act) (is_change act) c.args.self.now c.meet.new.self (ap is_effect (sym c.act_on.ensures) ∙ met.0) (ap is_change (sym c.act_on.ensures) ∙ met.1))
    c.meet.ensures.ok

pub returns-in-Change-clause-ok : goal.returns-in-Change-clause-ok
returns-in-Change-clause-ok g c =
    let act = act_on (handed_in g.M.Manager c.args.custom) c.args.rec.now c.args.parts.now c.args.block.now in
    on_ok_weaker c.change.result
    (does_change c.args.block.now.name (is_effect act) (is_change act) c.args.self.now c.change.new.self (ap is_effect (sym c.act_on.ensures ∙ c.in-Change.is)) (ap is_change (sym c.act_on.ensures ∙ c.in-Change.is)))
    c.change.ensures.ok

use Rattle.std.proofs.Common.{sym, ap, subst}
use Rattle.rmgr_hooks.specs.Custom.{handed_in}
use Rattle.first_effects.specs.First.{IsOneOf, is_changed}
use Rattle.block_effects.specs.Gone.{is_gone}
use Rattle.first_effects.specs.Gathered.{FirstView, with_record}
use Rattle.first_effects.specs.Taken.{Takes}
use Rattle.first_effects.proofs.EffectLemmas.{follows_then, on_err, one_mid, one_then}
use Rattle.first_effects.proofs.first.FirstEffects.add_record.Goals as goal

pub returns-in_err-add_references-clause-err : goal.returns-in_err-add_references-clause-err
returns-in_err-add_references-clause-err g c =
    on_err c.from_residual.result _ (λ log follows.
    one_then (handed_in g.M.Manager c.args.custom) c.args.rec.now c.args.parts.now c.requires.parts c.requires.known log c.args.self.now follows _
    (c.in_err-add_references.ensures.err (is_changed (handed_in g.M.Manager c.args.custom) log) follows.least))

pub returns-in_err-add_record-clause-err : goal.returns-in_err-add_record-clause-err
returns-in_err-add_record-clause-err g c =
    on_err c.from_residual-in_err-add_record.result _ (λ log follows.
    subst (λ v. IsOneOf (is_changed (handed_in g.M.Manager c.args.custom) (with_record log c.args.rec.now c.args.parts.now)) v.least) (sym c.self.view_is)
    (one_mid (handed_in g.M.Manager c.args.custom) c.args.rec.now c.args.parts.now c.requires.parts c.requires.known log c.args.self.now follows c.add_references.new.self c.in_ok-add_references.ensures.ok))

pub returns-clause-ok : goal.returns-clause-ok
returns-clause-ok g c = λ log follows.
    let after : FirstView = record { met = c.self.inside.met.keys; taken = c.add_record.new.self; least = c.self.inside.least } in
    follows_then (handed_in g.M.Manager c.args.custom) c.args.rec.now c.args.parts.now c.requires.parts c.requires.known log c.args.self.now follows c.add_references.new.self c.in_ok-add_references.ensures.ok
    after (ap (λ v. v.met) c.self.view_is) (ap (λ v. v.least) c.self.view_is)
    (subst (λ v. Takes (is_gone c.args.rec.now c.args.parts.now) v.taken c.add_record.new.self) c.self.view_is c.in_ok-add_record.ensures)

use Rattle.std.proofs.Common.{Err, FitsSigned, inl, inr, refl, rules, subst, w64, ap, sym, ◌∙◌}
use Rattle.std.proofs.lemmas.Int.{to_z-of_z}
use Rattle.cluster_tree.specs.Contents.{Contents}
use Rattle.cluster_tree.specs.Frame.{moment_of}
use Rattle.plan_text.specs.Text.{said_by}
use Rattle.run_acts.specs.Causes.{cause_of}
use Rattle.run_acts.proofs.AnswerSteps.{carries_look}
use Rattle.run_acts.proofs.UnseenSteps.{unseen_still}
use Rattle.cmd_resume.proofs.FoundCallLemmas.{fresh-tried, refused-tried, stored-tried}
use Rattle.cmd_resume.proofs.LookLemmas.{looks-only, refused-passes, resume-form, resume-looks}
use Rattle.cmd_resume.proofs.ResumeLemmas.{again-left, asked-readable, blames-on, exact_as, fresh-durable, fresh-leaves, fresh-left, fresh-meant, fresh-resumable, looks-left, made_as, stored-durable, stored-leaves, stored-left, stored-meant, stopped-looks, unseen_as}
use Rattle.stored_laws.proofs.StoredLemmas.{stopped-stored}
use Rattle.cmd_rewind.specs.Marks.{IsPassable}
use Rattle.cmd_rewind.specs.declared.marks.OwnMark.TheVariants as own
use Rattle.cmd_rewind.proofs.StopLemmas.{looks-same}
use Rattle.cmd_resume.proofs.ShutLemmas.{stored-shut}
use Rattle.cmd_resume.proofs.resumes.resume.Goals as goal

pub resume_stored-requires-clause-readable : goal.resume_stored-requires-clause-readable
resume_stored-requires-clause-readable g c t =
    let words = c.args.words.now in
    asked-readable (g.F.Tree.contents c.args.tree.now) (g.F.Tree.contents c.stored_rewind.new.tree) words.target words.source c.in-Ok-Some.stored c.stored_rewind.ensures.reads.same
    c.requires.apart (made_as c.args.words.now.target c.args.words.now.source c.in-Ok-Some.field-0-is c.in-Ok-Some.ensures.made) (exact_as c.in-Ok-Some.field-0-is (c.in-Ok-Some.ensures.exact t))

pub rewind-requires-clause-passable : goal.rewind-requires-clause-passable
rewind-requires-clause-passable g c t =
    let P : Contents → Type 0 = IsPassable own.PassedOver c.args.words.now.target in
    subst P (sym c.stored_rewind.ensures.reads.same)
    (stored-shut (g.F.Tree.contents c.args.tree.now) c.args.words.now.target c.args.words.now.source (exact_as c.in-Ok-None.field-0-is (c.in-Ok-None.ensures.exact t)))

pub returns-in-Ok-None-clause-carries : goal.returns-in-Ok-None-clause-carries
returns-in-Ok-None-clause-carries g c out_tells out =
    let fits : FitsSigned w64 c.args.now = search rules in
    let words = c.args.words.now in
    unseen_as c.stored_rewind.ensures.reads.same c.stored_rewind.ensures.reads.uncalled
    (λ t. fresh-meant words (g.F.Tree.contents c.args.tree.now) (g.F.Tree.contents c.stored_rewind.new.tree) (to_z-of_z w64 c.args.now fits) c.stored_rewind.ensures.reads.same (exact_as c.in-Ok-None.field-0-is (c.in-Ok-None.ensures.exact t)))
    (λ a form. inl form) (c.rewind.ensures.carries out_tells out)

pub returns-in-Ok-None-clause-resumed : goal.returns-in-Ok-None-clause-resumed
returns-in-Ok-None-clause-resumed g c t =
    let fits : FitsSigned w64 c.args.now = search rules in
    fresh-leaves c.rewind.result c.args.words.now (g.F.Tree.contents c.args.tree.now) (g.F.Tree.contents c.stored_rewind.new.tree) (g.F.Tree.contents c.rewind.new.tree)
    (to_z-of_z w64 c.args.now fits) c.stored_rewind.ensures.reads.same (exact_as c.in-Ok-None.field-0-is (c.in-Ok-None.ensures.exact t)) (c.rewind.ensures.rewound t)

pub returns-in-Ok-None-clause-stops : goal.returns-in-Ok-None-clause-stops
returns-in-Ok-None-clause-stops g c t =
    let fits : FitsSigned w64 c.args.now = search rules in
    fresh-left g.F.Tree c.args.words.now c.args.now c.args.tree.now c.stored_rewind.new.tree c.stored_rewind.ensures.reads c.rewind.new.tree (to_z-of_z w64 c.args.now fits)
    (exact_as c.in-Ok-None.field-0-is (c.in-Ok-None.ensures.exact t)) (c.rewind.ensures.stops t)

pub returns-in-Ok-None-clause-synced : goal.returns-in-Ok-None-clause-synced
returns-in-Ok-None-clause-synced g c t =
    let fits : FitsSigned w64 c.args.now = search rules in
    fresh-durable c.rewind.result c.args.words.now (g.F.Tree.contents c.args.tree.now) (g.F.Tree.contents c.stored_rewind.new.tree) (moment_of g.F.Tree c.rewind.new.tree)
    (to_z-of_z w64 c.args.now fits) c.stored_rewind.ensures.reads.same (exact_as c.in-Ok-None.field-0-is (c.in-Ok-None.ensures.exact t)) (c.rewind.ensures.synced t)

pub returns-in-Ok-None-clause-blames : goal.returns-in-Ok-None-clause-blames
returns-in-Ok-None-clause-blames g c n = blames-on g.F.Tree c.args.tree.now c.stored_rewind.new.tree c.stored_rewind.ensures.reads (c.rewind.ensures.blames n)

pub returns-in-Ok-Some-clause-carries : goal.returns-in-Ok-Some-clause-carries
returns-in-Ok-Some-clause-carries g c out_tells out =
    let words = c.args.words.now in
    unseen_as c.stored_rewind.ensures.reads.same c.stored_rewind.ensures.reads.uncalled
    (λ t. stored-meant words c.args.now (g.F.Tree.contents c.args.tree.now) (g.F.Tree.contents c.stored_rewind.new.tree) c.in-Ok-Some.stored c.stored_rewind.ensures.reads.same
    (made_as c.args.words.now.target c.args.words.now.source c.in-Ok-Some.field-0-is c.in-Ok-Some.ensures.made).placed (exact_as c.in-Ok-Some.field-0-is (c.in-Ok-Some.ensures.exact t)))
    (λ a form. form) (c.resume_stored.ensures.carries out_tells out)

pub returns-in-Ok-Some-clause-resumed : goal.returns-in-Ok-Some-clause-resumed
returns-in-Ok-Some-clause-resumed g c t =
    stored-leaves c.resume_stored.result c.args.words.now c.args.now (g.F.Tree.contents c.args.tree.now) (g.F.Tree.contents c.stored_rewind.new.tree) (g.F.Tree.contents c.resume_stored.new.tree)
    c.in-Ok-Some.stored c.stored_rewind.ensures.reads.same (made_as c.args.words.now.target c.args.words.now.source c.in-Ok-Some.field-0-is c.in-Ok-Some.ensures.made).placed (exact_as c.in-Ok-Some.field-0-is (c.in-Ok-Some.ensures.exact t)) (c.resume_stored.ensures.resumed t)

pub returns-in-Ok-Some-clause-stops : goal.returns-in-Ok-Some-clause-stops
returns-in-Ok-Some-clause-stops g c t =
    stored-left g.F.Tree c.args.words.now c.args.now c.args.tree.now c.stored_rewind.new.tree c.stored_rewind.ensures.reads c.resume_stored.new.tree c.in-Ok-Some.stored
    (made_as c.args.words.now.target c.args.words.now.source c.in-Ok-Some.field-0-is c.in-Ok-Some.ensures.made).placed (exact_as c.in-Ok-Some.field-0-is (c.in-Ok-Some.ensures.exact t)) (c.resume_stored.ensures.stops t)

pub returns-in-Ok-Some-clause-synced : goal.returns-in-Ok-Some-clause-synced
returns-in-Ok-Some-clause-synced g c t =
    stored-durable c.resume_stored.result c.args.words.now c.args.now (g.F.Tree.contents c.args.tree.now) (said_by c.in-Ok-Some.stored) (moment_of g.F.Tree c.resume_stored.new.tree)
    (exact_as c.in-Ok-Some.field-0-is (c.in-Ok-Some.ensures.exact t)) (c.resume_stored.ensures.synced t)

pub returns-in-Ok-Some-clause-blames : goal.returns-in-Ok-Some-clause-blames
returns-in-Ok-Some-clause-blames g c n = blames-on g.F.Tree c.args.tree.now c.stored_rewind.new.tree c.stored_rewind.ensures.reads (c.resume_stored.ensures.blames n)

pub returns-in-Err-clause-carries : goal.returns-in-Err-clause-carries
returns-in-Err-clause-carries g c out_tells out =
    let words = c.args.words.now in
    let contents = g.F.Tree.contents c.args.tree.now in
    let looks = looks-only c.in-Err.fault c.resume_cause.result (λ is. c.in-Err.ensures.never_writes (ap Err is)) c.resume_cause.ensures.look in
    unseen_still c.stored_rewind.ensures.reads.same c.stored_rewind.ensures.reads.uncalled
    (λ d j. carries_look c.resume_cause.result (resume-form contents words c.args.now) (resume-looks contents words c.args.now)
    (inl (inr (inr (inr (inr (c.resume_cause.result, looks, refl)))))) looks
    (λ t. refused-passes contents words c.args.now c.in-Err.fault c.resume_cause.result (c.in-Err.ensures.exact t) c.resume_cause.ensures.value) refl refl)

pub returns-in-Err-clause-stops : goal.returns-in-Err-clause-stops
returns-in-Err-clause-stops g c t = looks-left g.F.Tree c.args.words.now c.args.now _ _ c.stored_rewind.ensures.reads

pub returns-in-Err-clause-resumable : goal.returns-in-Err-clause-resumable
returns-in-Err-clause-resumable g c t none stands = looks-same g.F.Tree c.args.words.now c.args.now _ _ _ c.stored_rewind.ensures.reads stands

pub returns-in-Ok-None-clause-resumable : goal.returns-in-Ok-None-clause-resumable
returns-in-Ok-None-clause-resumable g c t none stands =
    let fits : FitsSigned w64 c.args.now = search rules in
    fresh-resumable g.F.Tree c.args.words.now c.args.now c.args.tree.now c.stored_rewind.new.tree c.stored_rewind.ensures.reads c.rewind.new.tree (to_z-of_z w64 c.args.now fits) stands (c.rewind.ensures.resumable t)

pub returns-in-Ok-Some-clause-resumable : goal.returns-in-Ok-Some-clause-resumable
returns-in-Ok-Some-clause-resumable g c t none stands = absurd (cc (sym none ∙ exact_as c.in-Ok-Some.field-0-is (c.in-Ok-Some.ensures.exact t)))

pub returns-in-Err-clause-again : goal.returns-in-Err-clause-again
returns-in-Err-clause-again g c t first before n plan stop stands = stopped-looks g.F.Tree c.args.words.now c.args.now _ _ c.stored_rewind.ensures.reads first before n plan stop stands

pub returns-in-Ok-None-clause-again : goal.returns-in-Ok-None-clause-again
returns-in-Ok-None-clause-again g c t first before n plan stop stands =
    absurd (cc (sym (exact_as c.in-Ok-None.field-0-is (c.in-Ok-None.ensures.exact t)) ∙ stopped-stored first c.args.words.now.target c.args.words.now.source before n plan (g.F.Tree.contents c.args.tree.now) stop))

pub returns-in-Ok-Some-clause-again : goal.returns-in-Ok-Some-clause-again
returns-in-Ok-Some-clause-again g c t first before n plan stop stands =
    again-left g.F.Tree c.args.words.now c.args.now c.args.tree.now c.stored_rewind.new.tree c.stored_rewind.ensures.reads c.resume_stored.new.tree first before n plan c.in-Ok-Some.stored stop stands
    (made_as c.args.words.now.target c.args.words.now.source c.in-Ok-Some.field-0-is c.in-Ok-Some.ensures.made).placed (exact_as c.in-Ok-Some.field-0-is (c.in-Ok-Some.ensures.exact t)) (c.resume_stored.ensures.again t)

pub returns-in-Ok-None-clause-tries : goal.returns-in-Ok-None-clause-tries
returns-in-Ok-None-clause-tries g c t =
    fresh-tried c.args.words.now (g.F.Tree.contents c.args.tree.now) (g.F.Tree.calls c.args.tree.now) (g.F.Tree.calls c.rewind.new.tree) (cause_of c.rewind.result)
    (exact_as c.in-Ok-None.field-0-is (c.in-Ok-None.ensures.exact t))

pub returns-in-Ok-Some-clause-tries : goal.returns-in-Ok-Some-clause-tries
returns-in-Ok-Some-clause-tries g c t =
    stored-tried c.args.words.now (g.F.Tree.contents c.args.tree.now) (g.F.Tree.contents c.stored_rewind.new.tree) (g.F.Tree.calls c.args.tree.now) (g.F.Tree.calls c.stored_rewind.new.tree)
    (g.F.Tree.calls c.resume_stored.new.tree) (cause_of c.resume_stored.result) c.in-Ok-Some.stored c.stored_rewind.ensures.reads.same c.stored_rewind.ensures.reads.uncalled
    (made_as c.args.words.now.target c.args.words.now.source c.in-Ok-Some.field-0-is c.in-Ok-Some.ensures.made).placed (exact_as c.in-Ok-Some.field-0-is (c.in-Ok-Some.ensures.exact t))
    (c.resume_stored.ensures.tries t)

pub returns-in-Err-clause-tries : goal.returns-in-Err-clause-tries
returns-in-Err-clause-tries g c t =
    refused-tried c.args.words.now (g.F.Tree.contents c.args.tree.now) (g.F.Tree.calls c.args.tree.now) (g.F.Tree.calls c.stored_rewind.new.tree) c.in-Err.fault c.resume_cause.result
    c.stored_rewind.ensures.reads.uncalled (c.in-Err.ensures.exact t) c.resume_cause.ensures.value

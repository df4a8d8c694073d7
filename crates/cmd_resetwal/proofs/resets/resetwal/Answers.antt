use Rattle.std.proofs.Common.{◌≡◌, FitsSigned, false, inl, inr, is_some, rules, true, w64}
use Rattle.std.proofs.lemmas.Int.{to_z-of_z}
use Rattle.run_acts.proofs.UnseenSteps.{told_wet, unseen_by, unseen_seen}
use Rattle.cluster_tree.specs.Frame.{moment_of}
use Rattle.reset_cleanup.proofs.StopLemmas.{reads-leave}
use Rattle.cmd_resetwal.specs.Resetwal.{IsLeftByReset}
use Rattle.cmd_resetwal.proofs.CarryLemmas.{left_at, unseen_at}
use Rattle.cmd_resetwal.proofs.resets.resetwal.Goals as goal

pub returns-then-is_some-clause-carries : goal.returns-then-is_some-clause-carries
returns-then-is_some-clause-carries g c err_tells err =
    let fits : FitsSigned w64 c.args.now = search rules in
    let dry : is_some c.args.words.now.options.dry ≡ true = search rules in
    unseen_at (g.F.Tree.contents c.args.tree.now) c.args.words.now (to_z-of_z w64 c.args.now fits) (unseen_seen (inr dry) (c.show.ensures.carries err_tells err))

pub returns-else-is_some-clause-carries : goal.returns-else-is_some-clause-carries
returns-else-is_some-clause-carries g c err_tells err =
    let fits : FitsSigned w64 c.args.now = search rules in
    let wet : is_some c.args.words.now.options.dry ≡ false = search rules in
    unseen_at (g.F.Tree.contents c.args.tree.now) c.args.words.now (to_z-of_z w64 c.args.now fits)
    (unseen_by (told_wet (is_some c.args.words.now.options.dry) wet) (λ told. inl told) (c.reset.ensures.carries err_tells err))

pub returns-then-is_some-clause-stops : goal.returns-then-is_some-clause-stops
returns-then-is_some-clause-stops g c told = reads-leave g.F.Tree (IsLeftByReset c.args.words.now c.args.now (moment_of g.F.Tree c.args.tree.now)) _ _ c.show.ensures.reads (λ x untouched. inl untouched)

pub returns-else-is_some-clause-stops : goal.returns-else-is_some-clause-stops
returns-else-is_some-clause-stops g c told =
    let fits : FitsSigned w64 c.args.now = search rules in
    left_at g.F.Tree c.args.words.now (to_z-of_z w64 c.args.now fits) _ _ (c.reset.ensures.stops told)

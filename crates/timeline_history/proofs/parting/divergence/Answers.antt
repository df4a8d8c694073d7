use Rattle.std.proofs.Common.{◌≡◌, ap, ◌∙◌, sym}
use Rattle.timeline_history.specs.Ancestor.{divergence_of}
use Rattle.timeline_history.proofs.ForkLemmas.{none_where}
use Rattle.timeline_history.proofs.LawLemmas.{fork_has_position}
use Rattle.timeline_history.proofs.parting.divergence.Goals as goal

value : (c : goal.After-fork) → c.fork.result ≡ divergence_of c.args.a.now c.args.b.now
value c = c.fork.ensures ∙ ap (λ a. divergence_of a c.spans-2.result.now) c.spans.ensures.value ∙ ap (divergence_of c.args.a.now) c.spans-2.ensures.value

pub returns-clause-ended : goal.returns-clause-ended
returns-clause-ended c = λ fork is.
    fork_has_position c.args.a.now c.args.b.now fork c.spans.ensures.history c.spans-2.ensures.history c.requires.parted (sym (value c) ∙ is)

pub returns-clause-none : goal.returns-clause-none
returns-clause-none c = rw (value c) (none_where c.args.a.now c.args.b.now)

use Rattle.std.proofs.Common.{◌≡◌, ◌-◌, ◌++◌, [], ◌∷◌, set, ap, ◌∙◌}
use Rattle.wal_base.specs.Spans.{open_span, ended, last_ended}
use Rattle.wal_base.proofs.SpanLemmas.{ended_and_added, open_at_end}
use Rattle.wal_base.proofs.spans.Spans.end_and_add.Goals as goal

added : (c : goal.After-self-1) → set c.push.new.self.items (c.len-last.result - 1) (ended c.args.end c.index_mut.result.now)
    ≡ last_ended c.self.inside.items.items c.args.end ++ open_span c.args.tli c.args.end ∷ []
added c =
    ended_and_added c.self.inside.items.items c.self.invariant c.args.tli c.args.end c.push.new.self.items (c.len-last.result - 1)
    c.index_mut.result.now c.in_ok-push.ensures.items (ap (λ k. k - 1) (c.len-last.ensures ∙ c.self.inside.items.ok.0)) c.index_mut.ensures.value

pub invariant_of-self-2 : goal.invariant_of-self-2
invariant_of-self-2 c = rw (added c) (open_at_end (last_ended c.self.inside.items.items c.args.end) c.args.tli c.args.end)

pub returns-clause-ok : goal.returns-clause-ok
returns-clause-ok c = added c ∙ ap (λ spans. last_ended spans c.args.end ++ open_span c.args.tli c.args.end ∷ []) c.self.view_is

use Rattle.std.proofs.Common.{rules, not, ap, ◌∙◌}
use Rattle.std.proofs.lemmas.Fn.{filter_same}
use Rattle.block_effects.specs.Gone.{is_gone}
use Rattle.block_replay.specs.World.{without_gone}
use Rattle.block_replay.proofs.skipped.Skipped.forget.Goals as goal

pub returns : goal.returns
returns c =
    filter_same _ (λ name. not (is_gone c.args.rec.now c.args.parts.now name)) _ (λ x b f' k. search rules) _ _ c.retain.ensures.filtered
    ∙ ap (without_gone c.args.rec.now c.args.parts.now) c.self.view_is

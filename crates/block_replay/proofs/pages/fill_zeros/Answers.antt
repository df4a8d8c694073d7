use Rattle.std.proofs.Common.{rules, replicate, ap, ◌∙◌}
use Rattle.block_replay.proofs.pages.fill_zeros.Goals as goal

pub returns : goal.returns
returns c = c.fill.ensures.after (λ y k. search rules) ∙ ap (λ n. replicate n 0) c.requires

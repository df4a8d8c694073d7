use Rattle.reset_numbers.proofs.OptionLemmas.{fit_log}
use Rattle.reset_numbers.proofs.segment.new_segment.Goals as goal

pub segment_behind-requires : goal.segment_behind-requires
segment_behind-requires c = fit_log c.args.options.now c.requires.fit

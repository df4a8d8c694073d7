use Rattle.std.proofs.Common.{FitsSigned, w8, rules, refl, ◌∙◌}
use Rattle.jiff_core.specs.Date.{epoch_day}
use Rattle.control_file.proofs.TimeLemmas.{date_is, cast_back}
use Rattle.backup_label.proofs.calendar.month_day_of.Goals as goal

pub returns : goal.returns
returns c =
    let fits : FitsSigned w8 c.day.result = search rules in
    let is = date_is c.args.day (epoch_day c.args.day) refl c.requires in
    cast_back w8 c.day.result c.args.day.day fits c.day.ensures ∙ is.day

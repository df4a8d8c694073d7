use Rattle.std.proofs.Common.{ℕ, [], ◌-◌, FitsSigned, w8, rules, get_or, refl, ap, ◌∙◌}
use Rattle.jiff_core.specs.Date.{epoch_day}
use Rattle.control_file.specs.Names.{month_names}
use Rattle.control_file.proofs.TimeLemmas.{date_is, cast_back}
use Rattle.control_file.proofs.calendar.month_of.Goals as goal

pub returns : goal.returns
returns c =
    let fits : FitsSigned w8 c.month.result = search rules in
    let is = date_is c.args.day (epoch_day c.args.day) refl c.requires in
    let same = cast_back w8 c.month.result c.args.day.month fits c.month.ensures ∙ is.month in
    c.month_name.ensures ∙ ap (λ (month : ℕ). get_or month_names (month - 1) []) same

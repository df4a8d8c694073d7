use Rattle.std.proofs.Common.{arith, ◌≡◌, FitsSigned, w16, rules, pos, ◌∙◌, refl}
use Rattle.std.proofs.lemmas.Int.{to_z-of_z}
use Rattle.jiff_core.specs.Date.{epoch_day}
use Rattle.control_file.specs.Time.{year_of}
use Rattle.control_file.proofs.TimeLemmas.{date_is, cast_back}
use Rattle.backup_label.proofs.calendar.year_of.Goals as goal

pub overflow_cast-result : goal.overflow_cast-result
overflow_cast-result c =
    let fits : FitsSigned w16 c.year.result = search rules in
    let is = date_is c.args.day (epoch_day c.args.day) refl c.requires in
    let year : c.year.result ≡ pos (year_of (epoch_day c.args.day)) = c.year.ensures ∙ is.year in
    let small = rw year at c.year.type_inv in
    rw (to_z-of_z w16 c.year.result fits, year) (tt, omega arith)

pub returns : goal.returns
returns c =
    let fits : FitsSigned w16 c.year.result = search rules in
    let is = date_is c.args.day (epoch_day c.args.day) refl c.requires in
    cast_back w16 c.year.result (year_of (epoch_day c.args.day)) fits (c.year.ensures ∙ is.year)

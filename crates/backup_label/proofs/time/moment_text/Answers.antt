use Rattle.jiff_core.specs.Date.{epoch_day}
use Rattle.backup_label.proofs.TimeTextLemmas.{moment_text-parts}
use Rattle.backup_label.proofs.time.moment_text.Goals as goal

pub returns : goal.returns
returns c =
    let written = rw (c.laid_out.ensures, c.laid_out-2.ensures, c.laid_out-3.ensures, c.laid_out-4.ensures, c.laid_out-5.ensures, c.laid_out-6.ensures, c.year_of-year.ensures, c.month_of-month.ensures, c.month_day_of-place.ensures) at c.in_ok-format.ensures.ok in
    rw (moment_text-parts (epoch_day c.args.day) c.args.second) written

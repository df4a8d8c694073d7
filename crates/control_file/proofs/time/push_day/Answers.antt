use Rattle.jiff_core.specs.Date.{epoch_day}
use Rattle.control_file.proofs.TimeTextLemmas.{day_text-parts}
use Rattle.control_file.proofs.time.push_day.Goals as goal

pub returns : goal.returns
returns c =
    let written = rw (c.laid_out.ensures, c.weekday_of-weekday.ensures, c.month_of-month.ensures, c.month_day_of-place.ensures) at c.write.ensures.bytes in
    rw (day_text-parts (epoch_day c.args.day)) written

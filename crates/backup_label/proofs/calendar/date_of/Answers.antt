use Rattle.std.proofs.Common.{arith, FitsSigned, w64, ◌≡◌, ◌∙◌, pos, ◌+ℤ◌}
use Rattle.jiff.proofs.SpanFacts.{signed_arith, date_add-days, can_add-days}
use Rattle.jiff_core.specs.Calendar.{IsEpochDay}
use Rattle.jiff_core.specs.Date.{epoch_day}
use Rattle.std.proofs.lemmas.Int.{to_z-of_z}
use Rattle.control_file.proofs.TimeLemmas.{epoch_day-epoch}
use Rattle.backup_label.proofs.calendar.date_of.Goals as goal

pub unwrap-requires : goal.unwrap-requires
unwrap-requires c =
    let fits : FitsSigned w64 c.args.day = c.ranges.day in
    let only = simp to_z-of_z at c.days.ensures in
    let zero : epoch_day c.date-epoch.result ≡ pos 0 = epoch_day-epoch c.date-epoch.result c.date-epoch.ensures in
    let can = can_add-days c.date-epoch.result c.args.day c.days.result only in
    let day : IsEpochDay (epoch_day c.date-epoch.result +ℤ c.args.day) = (omega (arith, signed_arith), omega (arith, signed_arith)) in
    c.checked_add.ensures.succeeds.1 (can.1 day)

pub returns : goal.returns
returns c =
    let fits : FitsSigned w64 c.args.day = c.ranges.day in
    let only = simp to_z-of_z at c.days.ensures in
    let zero : epoch_day c.date-epoch.result ≡ pos 0 = epoch_day-epoch c.date-epoch.result c.date-epoch.ensures in
    let added = rw c.unwrap.ensures at c.checked_add.ensures.value in
    let day : epoch_day c.date-epoch.result +ℤ c.args.day ≡ c.args.day = omega (arith, signed_arith) in
    added ∙ date_add-days c.date-epoch.result c.args.day c.days.result only ∙ day

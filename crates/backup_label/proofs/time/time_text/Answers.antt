use Rattle.std.proofs.Common.{rules, arith, FitsSigned, w64, to_z, of_z, ℤ, pos, neg_ℤ, unsigned_abs, ◌≡◌, ◌<ℤ◌, ◌≤ℤ◌, ap, ◌∙◌}
use Rattle.std.specs.Int.{int_div_euclid, int_rem_euclid}
use Rattle.std.proofs.lemmas.Int.{to_z-of_z}
use Rattle.jiff.proofs.SpanFacts.{signed_arith}
use Rattle.jiff_core.specs.Date.{epoch_day}
use Rattle.control_file.specs.Time.{day_of, second_of}
use Rattle.backup_label.proofs.TimeTextLemmas.{label_time-early, label_time-late, label_time-within}
use Rattle.backup_label.proofs.time.time_text.Goals as goal
use Rattle.backup_label.proofs.time.time_text.Goals.{then-seconds-lt-FIRST_SECOND-via-then-seconds-lt-FIRST_SECOND, then-seconds-lt-FIRST_SECOND-via-else-seconds-lt-FIRST_SECOND+then-seconds-gt-LAST_SECOND}

pub returns-then-seconds-lt-FIRST_SECOND : goal.returns-then-seconds-lt-FIRST_SECOND
returns-then-seconds-lt-FIRST_SECOND c =
    let fits : FitsSigned w64 c.args.seconds = c.ranges.seconds in
    let written = rw (to_z-of_z w64 c.args.seconds fits) at c.in_ok-format.ensures.ok in
    elim c.then-seconds-lt-FIRST_SECOND.branch [
      | then-seconds-lt-FIRST_SECOND-via-then-seconds-lt-FIRST_SECOND w ↦
          let test = simp to_z-of_z at w.if-seconds-lt-FIRST_SECOND.true in
          let early : c.args.seconds <ℤ neg_ℤ (pos 62_135_596_800) = omega (arith, signed_arith) in
          rw (label_time-early c.args.seconds early) written
      | then-seconds-lt-FIRST_SECOND-via-else-seconds-lt-FIRST_SECOND+then-seconds-gt-LAST_SECOND w ↦
          let test = simp to_z-of_z at w.if-seconds-gt-LAST_SECOND.true in
          let late : pos 253_402_300_799 <ℤ c.args.seconds = omega (arith, signed_arith) in
          rw (label_time-late c.args.seconds late) written
    ]

pub returns : goal.returns
returns c =
    let fits : FitsSigned w64 c.args.seconds = c.ranges.seconds in
    let back : to_z w64 (of_z w64 c.args.seconds) ≡ c.args.seconds = to_z-of_z w64 c.args.seconds fits in
    let first = simp to_z-of_z at c.if-seconds-lt-FIRST_SECOND.false in
    let last = simp to_z-of_z at c.if-seconds-gt-LAST_SECOND.false in
    let low : neg_ℤ (pos 62_135_596_800) ≤ℤ c.args.seconds = omega (arith, signed_arith) in
    let high : c.args.seconds ≤ℤ pos 253_402_300_799 = omega (arith, signed_arith) in
    let day_fits : FitsSigned w64 c.div_euclid.result = search rules in
    let day : epoch_day c.date_of.result ≡ day_of c.args.seconds =
    c.date_of.ensures ∙ to_z-of_z w64 c.div_euclid.result day_fits ∙ c.div_euclid.ensures ∙ ap (λ (z : ℤ). int_div_euclid z (pos 86400)) back in
    let second_fits : FitsSigned w64 c.rem_euclid.result = search rules in
    let second : unsigned_abs (to_z w64 (of_z w64 c.rem_euclid.result)) ≡ second_of c.args.seconds =
    ap unsigned_abs (to_z-of_z w64 c.rem_euclid.result second_fits ∙ c.rem_euclid.ensures.value ∙ ap (λ (z : ℤ). int_rem_euclid z (pos 86400)) back) in
    let written = rw (day, second) at c.moment_text.ensures in
    rw (label_time-within c.args.seconds low high) written

use Rattle.std.proofs.Common.{rules, ◌≡◌, ℕ, length, replicate, ap, ◌∙◌, arith}
use Rattle.control_file.proofs.TableLemmas.{parts_within, laid_of_parts, fits_of_parts}
use Rattle.control_file.proofs.writing.lay.Goals as goal

pub put_rows-requires : goal.put_rows-requires
put_rows-requires c =
    let size : length c.fill.new.self ≡ 8192 = omega arith in
    rw (c.head_rows.ensures.value, size) (parts_within c.args.control.now).head

pub put_rows-requires-2 : goal.put_rows-requires-2
put_rows-requires-2 c =
    let size : length c.put_rows.new.into ≡ 8192 = omega arith in
    rw (c.checkpoint_rows.ensures.value, size) (parts_within c.args.control.now).checkpoint

pub put_rows-requires-3 : goal.put_rows-requires-3
put_rows-requires-3 c =
    let size : length c.put_rows-2.new.into ≡ 8192 = omega arith in
    rw (c.recovery_rows.ensures.value, size) (parts_within c.args.control.now).recovery

pub put_rows-requires-4 : goal.put_rows-requires-4
put_rows-requires-4 c =
    let size : length c.put_rows-3.new.into ≡ 8192 = omega arith in
    rw (c.setting_rows.ensures.value, size) (parts_within c.args.control.now).settings

pub put_rows-requires-5 : goal.put_rows-requires-5
put_rows-requires-5 c =
    let size : length c.put_rows-4.new.into ≡ 8192 = omega arith in
    rw (c.build_rows.ensures.value, size) (parts_within c.args.control.now).build

pub returns-clause-bytes : goal.returns-clause-bytes
returns-clause-bytes c =
    let zeros : c.fill.new.self ≡ replicate (length c.args.file.now) 0 = search rules in
    let all = zeros ∙ ap (λ (n : ℕ). replicate n 0) c.requires in
    let parts = laid_of_parts c.args.control.now (replicate 8192 0) in
    cc

pub returns-clause-fits : goal.returns-clause-fits
returns-clause-fits c =
    fits_of_parts c.args.control.now
    (rw c.head_rows.ensures.value at c.head_rows.ensures.fits)
    (rw c.checkpoint_rows.ensures.value at c.checkpoint_rows.ensures.fits)
    (rw c.recovery_rows.ensures.value at c.recovery_rows.ensures.fits)
    (rw c.setting_rows.ensures.value at c.setting_rows.ensures.fits)
    (rw c.build_rows.ensures.value at c.build_rows.ensures.fits)

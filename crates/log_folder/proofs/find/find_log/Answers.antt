use Rattle.std.proofs.Common.{◌≡◌, Err}
use Rattle.log_folder.specs.declared.fault.FolderFault.TheVariants as fault
use Rattle.log_folder.specs.Bounds.{bounds_of}
use Rattle.log_folder.proofs.find.find_log.Goals as goal

pub returns-in_err-bounds-clause-usage : goal.returns-in_err-bounds-clause-usage
returns-in_err-bounds-clause-usage g c is =
    let value = c.in_err-bounds.ensures.value in
    let usage = c.in_err-bounds.ensures.fault in
    let refused : bounds_of c.in_ok-size.size c.args.words.now ≡ Err fault.Usage = cc in
    (c.in_ok-size.size, refused)

use Rattle.std.proofs.Common.{FitsSigned, rules, w64}
use Rattle.std.proofs.lemmas.Int.{to_z-of_z}
use Rattle.cmd_resetwal.proofs.CarryLemmas.{dry_form, form_at}
use Rattle.cmd_resetwal.proofs.resets.dry_text.Goals as goal

pub returns-in-Ok-control_text-clause-form : goal.returns-in-Ok-control_text-clause-form
returns-in-Ok-control_text-clause-form g c =
    let fits : FitsSigned w64 c.args.now = search rules in
    let (made, of_names, same, meant) = c.in-Ok.ensures.form in
    form_at c.args.words.now (to_z-of_z w64 c.args.now fits)
    (dry_form (g.F.Tree.contents c.args.tree.now) c.args.words.now _ made c.in-Ok.control c.in-Ok-control_text.text c.requires.dry of_names same c.in-Ok-control_text.ensures)

use Rattle.std.proofs.Common.{◌≡◌, ◌+◌, ◌-◌, length, take, drop, Some, ap, sym, ◌∙◌, arith, rules}
use Rattle.std.proofs.lemmas.Grind.{common_steps}
use Rattle.relation_files.proofs.CutLemmas.{behind-found}
use Rattle.relation_files.proofs.reading.behind.Goals as goal

pub returns-in-Some : goal.returns-in-Some
returns-in-Some c =
    let rest : take (length c.args.text.now - (c.in-Some.at + 1)) (drop (c.in-Some.at + 1) c.args.text.now) ≡ drop (c.in-Some.at + 1) c.args.text.now = grind (arith, common_steps) in
    ap (λ t. Some t) rest ∙ sym (behind-found c.args.byte c.args.text.now c.in-Some.at (search rules))

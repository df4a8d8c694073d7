use Rattle.std.proofs.Common.{sym, ◌∙◌, ap, Err}
use Rattle.btree_posting.proofs.InsertLemmas.{tid_refused}
use Rattle.btree_posting.proofs.insert.add_with_tid.Goals as goal

pub returns-in-Some : goal.returns-in-Some
returns-in-Some c =
    tid_refused c.args.page.now c.args.new.now c.args.tid.now c.args.place c.in_ok-require_btree.ensures.value c.requires.new c.requires.tid c.in-Some.why (sym c.in-Some.ensures.value)
    ∙ ap (λ w. Err w) (sym c.why_of.ensures)

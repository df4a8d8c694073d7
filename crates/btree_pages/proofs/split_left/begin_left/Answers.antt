use Rattle.std.proofs.Common.{sym, ◌∙◌, ap, subst}
use Rattle.page_laws.specs.Btree.{with_special}
use Rattle.btree_pages.specs.Split.{left_special}
use Rattle.btree_pages.proofs.SpecialLemmas.{HasSpecial, written, written_has, anew_has}
use Rattle.btree_pages.proofs.split_left.begin_left.Goals as goal

pub returns-clause-value : goal.returns-clause-value
returns-clause-value c =
    let change = left_special c.args.right c.args.op.now in
    written change c.begin_anew.new.room c.put_left_special.new.special c.put_left_special.ensures.value c.put_left_special.ensures.size
    ∙ ap (with_special change) c.begin_anew.ensures.value

pub returns-clause-formed : goal.returns-clause-formed
returns-clause-formed c =
    let anew = subst HasSpecial (sym c.begin_anew.ensures.value) (anew_has c.args.page.now c.requires.page.size) in
    let has = written_has c.begin_anew.new.room c.put_left_special.new.special anew c.put_left_special.ensures.size in
    has.formed

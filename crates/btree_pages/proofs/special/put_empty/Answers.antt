use Rattle.std.proofs.Common.{sym, ◌∙◌, ap, subst}
use Rattle.page_laws.specs.Btree.{with_special}
use Rattle.btree_pages.specs.Special.{with_fields}
use Rattle.btree_pages.proofs.SpecialLemmas.{HasSpecial, written, written_has, init_has}
use Rattle.btree_pages.proofs.special.put_empty.Goals as goal

pub returns-clause-value : goal.returns-clause-value
returns-clause-value c =
    written (with_fields c.args.special) c.put_init.new.page c.put_fields.new.special c.put_fields.ensures.value c.put_fields.ensures.size
    ∙ ap (with_special (with_fields c.args.special)) c.put_init.ensures

pub returns-clause-formed : goal.returns-clause-formed
returns-clause-formed c =
    let has = written_has c.put_init.new.page c.put_fields.new.special (subst HasSpecial (sym c.put_init.ensures) init_has) c.put_fields.ensures.size in
    has.formed

use Rattle.std.proofs.Common.{◌≡◌, false, length}
use Rattle.page_layout.specs.Edits.{add_refusal}
use Rattle.page_laws.proofs.Refused.{NotRefused}
use Rattle.btree_pages.proofs.ItemsLemmas.{put_formed}
use Rattle.btree_pages.proofs.items.add_at.Goals as goal

pub returns-clause-formed : goal.returns-clause-formed
returns-clause-formed c =
    let p = c.args.page.now in let bytes = c.args.item.now in
    let none : add_refusal p (length bytes) c.args.place false ≡ NotRefused = cc (c.add_refusal.ensures.value, c.in_default.is) in
    rw c.put_new.ensures (put_formed p bytes c.args.place c.requires none)

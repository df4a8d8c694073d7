use Rattle.std.proofs.Common.{List, Some, sym, ap, ◌∙◌}
use Rattle.std.specs.Prelude.{slice_get}
use Rattle.block_layouts.specs.declared.redirects.Redirect.{Redirect}
use Rattle.block_layouts.proofs.ListLemmas.{redirect_at-index, redirect_past}
use Rattle.block_layouts.proofs.redirects.Redirects.get.Goals as goal

pub returns-then-self-at : goal.returns-then-self-at
returns-then-self-at c =
    let list = c.self.inside in
    let none = redirect_past list.left list.at c.args.at list.bytes.now c.if-self-at.true in
    record { value = sym none ∙ ap (λ (xs : List Redirect). slice_get xs c.args.at) c.self.view_is }

pub returns : goal.returns
returns c =
    let list = c.self.inside in
    let there = redirect_at-index list.left list.at c.args.at list.bytes.now c.if-self-at.false in
    record { value = ap (λ (x : Redirect). Some x) c.pair_at.ensures.value ∙ sym there ∙ ap (λ (xs : List Redirect). slice_get xs c.args.at) c.self.view_is }

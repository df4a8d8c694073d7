use Rattle.std.proofs.Common.{ℕ, List, Some, sym, ap, ◌∙◌}
use Rattle.std.specs.Prelude.{slice_get}
use Rattle.block_layouts.proofs.ListLemmas.{place_at-index, place_past}
use Rattle.block_layouts.proofs.places.Places.get.Goals as goal

pub returns-then-self-at : goal.returns-then-self-at
returns-then-self-at c =
    let list = c.self.inside in
    let none = place_past list.left list.at c.args.at list.bytes.now c.if-self-at.true in
    record { value = sym none ∙ ap (λ (xs : List ℕ). slice_get xs c.args.at) c.self.view_is }

pub returns : goal.returns
returns c =
    let list = c.self.inside in
    let there = place_at-index list.left list.at c.args.at list.bytes.now c.if-self-at.false in
    record { value = ap (λ (x : ℕ). Some x) c.u16_at.ensures ∙ sym there ∙ ap (λ (xs : List ℕ). slice_get xs c.args.at) c.self.view_is }

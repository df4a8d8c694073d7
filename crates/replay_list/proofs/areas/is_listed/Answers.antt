use Rattle.std.proofs.Common.{◌≡◌, ◌+◌, length, nat_eq, slice_get, None, Some, ap, sym, ◌∙◌}
use Rattle.std.specs.Option.{option_copied}
use Rattle.replay_list.proofs.AreaLemmas.{by_area, by_label, by_neither, by_none}
use Rattle.replay_list.proofs.areas.is_listed.Goals as goal

pub returns-then-is_area : goal.returns-then-is_area
returns-then-is_area c =
    let first : slice_get c.args.path.now.parts (length c.args.root.now.parts) ≡ Some c.in-Some.name.now =
    ap (slice_get c.args.path.now.parts) (sym c.len.ensures.value) ∙ sym c.part.ensures ∙ ap option_copied c.in-Some.is in
    c.if-is_area.true ∙ by_area c.args.root.now c.args.path.now c.in-Some.name.now first (sym c.is_area.ensures ∙ c.if-is_area.true)

pub returns-then-eq : goal.returns-then-eq
returns-then-eq c =
    let first : slice_get c.args.path.now.parts (length c.args.root.now.parts) ≡ Some c.in-Some.name.now =
    ap (slice_get c.args.path.now.parts) (sym c.len.ensures.value) ∙ sym c.part.ensures ∙ ap option_copied c.in-Some.is in
    (λ i. nat_eq (c.len-then-eq.ensures.value i) (c.len-then-eq-2.ensures.value i + 1))
    ∙ by_label c.args.root.now c.args.path.now c.in-Some.name.now first (sym c.is_area.ensures ∙ c.if-is_area.false) (sym c.eq.ensures ∙ c.if-eq.true)

pub returns-else-eq : goal.returns-else-eq
returns-else-eq c =
    let first : slice_get c.args.path.now.parts (length c.args.root.now.parts) ≡ Some c.in-Some.name.now =
    ap (slice_get c.args.path.now.parts) (sym c.len.ensures.value) ∙ sym c.part.ensures ∙ ap option_copied c.in-Some.is in
    c.if-eq.false ∙ by_neither c.args.root.now c.args.path.now c.in-Some.name.now first (sym c.is_area.ensures ∙ c.if-is_area.false) (sym c.eq.ensures ∙ c.if-eq.false)

pub returns-in-None : goal.returns-in-None
returns-in-None c =
    let none : slice_get c.args.path.now.parts (length c.args.root.now.parts) ≡ None =
    ap (slice_get c.args.path.now.parts) (sym c.len.ensures.value) ∙ sym c.part.ensures ∙ ap option_copied c.in-None.is in
    by_none c.args.root.now c.args.path.now none

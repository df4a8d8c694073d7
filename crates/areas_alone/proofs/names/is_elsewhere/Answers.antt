use Rattle.std.proofs.Common.{◌≡◌, length, not, slice_get, None, Some, ap, sym, ◌∙◌}
use Rattle.std.specs.Option.{option_copied}
use Rattle.areas_alone.proofs.NameLemmas.{by_name, by_none}
use Rattle.areas_alone.proofs.names.is_elsewhere.Goals as goal

pub returns-in-Some : goal.returns-in-Some
returns-in-Some c =
    let first : slice_get c.args.path.now.parts (length c.args.root.now.parts) ≡ Some c.in-Some.name.now =
    ap (slice_get c.args.path.now.parts) (sym c.len.ensures.value) ∙ sym c.part.ensures ∙ ap option_copied c.in-Some.is in
    ap not c.is_area.ensures ∙ by_name c.args.root.now c.args.path.now c.in-Some.name.now first

pub returns-in-None : goal.returns-in-None
returns-in-None c =
    let none : slice_get c.args.path.now.parts (length c.args.root.now.parts) ≡ None =
    ap (slice_get c.args.path.now.parts) (sym c.len.ensures.value) ∙ sym c.part.ensures ∙ ap option_copied c.in-None.is in
    by_none c.args.root.now c.args.path.now none

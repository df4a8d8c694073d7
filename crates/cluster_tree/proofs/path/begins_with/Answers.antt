use Rattle.std.proofs.Common.{◌∙◌, sym, length, string_bytes}
use Rattle.std.specs.List.{take-map}
use Rattle.cluster_tree.proofs.path.begins_with.Goals as goal

pub returns-then-with-parts : goal.returns-then-with-parts
returns-then-with-parts c =
    let e = take-map string_bytes (length c.args.with.now) c.args.parts.now in
    (λ yes. e ∙ c.same_parts.ensures.0 yes, λ same. c.same_parts.ensures.1 (sym e ∙ same))

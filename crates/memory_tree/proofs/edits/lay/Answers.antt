use Rattle.std.proofs.Common.{◌≡◌, ◌++◌, ◌-◌, min, length, take, drop, ap, ◌∙◌, rules}
use Rattle.std.proofs.lemmas.List.{take_rest}
use Rattle.layout.specs.Splice.{splice}
use Rattle.memory_tree.proofs.SpliceLemmas.{laid}
use Rattle.memory_tree.proofs.edits.lay.Goals as goal

pub returns-clause-laid : goal.returns-clause-laid
returns-clause-laid c =
    let w = c.min-within.result in
    let more : c.extend_from_slice.new.self.items ≡ c.args.file.now.items ++ drop w c.args.bytes.now = c.in_ok-extend_from_slice.ensures.items ∙ ap (λ x. c.args.file.now.items ++ x) (take_rest c.args.bytes.now w) in
    let size : length c.extend_from_slice.new.self.items ≡ c.extend_from_slice.new.self.len = search rules in
    let over : c.put.new.into ≡ splice c.extend_from_slice.new.self.items c.args.at (take w c.args.bytes.now) = search rules in
    let same : length c.put.new.into ≡ c.extend_from_slice.new.self.len = search rules in
    let least : w ≡ min (length c.args.bytes.now) (length c.args.file.now.items - c.args.at) = search rules in
    laid _ _ _ _ _ _ _ more size over same least c.requires

use Rattle.std.proofs.Common.{◌≡◌, ◌<◌, length, ◌∙◌, ap, arith}
use Rattle.std.proofs.lemmas.Result.{IfOk-weaker}
use Rattle.cluster_tree.specs.PathValue.{below}
use Rattle.cluster_tree.proofs.PartLemmas.{part_admitted, part_kept}
use Rattle.file_walk.proofs.PlaceLemmas.{front_cut, front_whole}
use Rattle.file_walk.proofs.place.Place.first_parts.Goals as goal

pub below-requires : goal.below-requires
below-requires c = record { room = part_admitted (length c.args.self.now.own.parts) c.args.name.now (omega (arith, c.len.ensures.value)) c.requires.proper }

pub returns-then-len-lt-MAX_PARTS : goal.returns-then-len-lt-MAX_PARTS
returns-then-len-lt-MAX_PARTS c =
    let room : length c.args.self.now.own.parts < 64 = omega (arith, c.len.ensures.value) in
    IfOk-weaker c.below.result _ _
    (λ path e. e ∙ ap (below c.args.self.now.own) (part_kept c.args.name.now c.requires.proper) ∙ front_whole c.args.self.now.own c.args.name.now room)
    c.below.ensures

pub returns-else-len-lt-MAX_PARTS : goal.returns-else-len-lt-MAX_PARTS
returns-else-len-lt-MAX_PARTS c =
    let full : length c.args.self.now.own.parts ≡ 64 = omega (arith, c.len.ensures.value, c.requires.room) in
    IfOk-weaker c.copy.result _ _ (λ path e. e ∙ front_cut c.args.self.now.own c.args.name.now full) c.copy.ensures

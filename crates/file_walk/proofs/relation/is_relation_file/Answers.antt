use Rattle.std.proofs.Common.{◌<◌, ◌≤◌, None, length, ◌∙◌, arith}
use Rattle.file_walk.proofs.RelationLemmas.{by_mark, more_parts, no_first, no_second, none_absolute, three_parts, two_parts}
use Rattle.file_walk.proofs.relation.is_relation_file.Goals as goal

pub returns-then-is_absolute : goal.returns-then-is_absolute
returns-then-is_absolute c = record { value = none_absolute c.args.path.now c.is_absolute.result c.is_absolute.ensures c.if-is_absolute.true }

pub returns-in_err-first : goal.returns-in_err-first
returns-in_err-first c = record { value = c.from_residual.ensures ∙ by_mark c.args.path.now c.is_absolute.result None c.is_absolute.ensures c.if-is_absolute.false (no_first c.args.path.now.parts c.in_err-first.ensures) }

pub returns-in_err-second : goal.returns-in_err-second
returns-in_err-second c = record { value = c.from_residual-in_err-second.ensures ∙ by_mark c.args.path.now c.is_absolute.result None c.is_absolute.ensures c.if-is_absolute.false (no_second c.args.path.now.parts c.in_err-second.ensures) }

pub returns-in_default : goal.returns-in_default
returns-in_default c = record {
  value =
      by_mark c.args.path.now c.is_absolute.result c.shared.result c.is_absolute.ensures c.if-is_absolute.false
      (c.shared.ensures ∙ two_parts c.args.path.now.parts c.in_ok-first.first.now c.in_ok-second.second.now c.in_ok-first.ensures c.in_ok-second.ensures c.in_default.ensures);
}

pub returns-then-len-gt3 : goal.returns-then-len-gt3
returns-then-len-gt3 c =
    let more : 3 < length c.args.path.now.parts = omega (arith, c.len.ensures.value) in
    record { value = by_mark c.args.path.now c.is_absolute.result None c.is_absolute.ensures c.if-is_absolute.false (more_parts c.args.path.now.parts more) }

pub returns : goal.returns
returns c =
    let few : length c.args.path.now.parts ≤ 3 = omega (arith, c.len.ensures.value) in
    record {
      value =
          by_mark c.args.path.now c.is_absolute.result c.placed.result c.is_absolute.ensures c.if-is_absolute.false
          (c.placed.ensures ∙ three_parts c.args.path.now.parts c.in_ok-first.first.now c.in_ok-second.second.now c.in-Some.third.now c.in_ok-first.ensures c.in_ok-second.ensures c.in-Some.ensures few);
    }

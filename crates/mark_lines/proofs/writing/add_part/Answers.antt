use Rattle.std.proofs.Common.{string_bytes, sym}
use Rattle.mark_lines.proofs.WayLemmas.{first_part, next_part}
use Rattle.mark_lines.proofs.writing.add_part.Goals as goal

pub returns-then-first-at : goal.returns-then-first-at
returns-then-first-at c =
    next_part (string_bytes c.args.way.now) _ c.args.path.now.parts c.args.first c.args.at c.in-Some.part.now (sym c.in-Some.ensures) c.if-first-at.true
    c.requires.front c.in_ok-write.ensures.bytes

pub returns : goal.returns
returns c =
    first_part (string_bytes c.args.way.now) _ c.args.path.now.parts c.args.first c.args.at c.in-Some.part.now (sym c.in-Some.ensures) c.requires.behind
    c.if-first-at.false c.requires.front c.in_ok-push_str.ensures.bytes

use Rattle.std.proofs.Common.{◌≡◌, ◌∙◌, ◌+◌, ◌-◌, ◌<◌, length, drop, sym, ap, subst, arith, get_or}
use Rattle.page_layout.specs.Page.{count, IsFormed}
use Rattle.page_layout.specs.Deletes.{without_line, without_lines}
use Rattle.page_layout.proofs.PlacesLemmas.{place_at, lines_from}
use Rattle.page_layout.proofs.LineOut.{formed_out, line_out, count_out}
use Rattle.page_layout.proofs.delete.take_lines.Goals as goal

pub overflow_sub-places : goal.overflow_sub-places
overflow_sub-places c =
    let at = place_at (count c.args.page.now) 0 c.args.places.now (c.loop-i.i - 1) c.requires.places (omega arith) in omega (arith, at.above)

pub take_line-requires-clause-there : goal.take_line-requires-clause-there
take_line-requires-clause-there c =
    let at = place_at (count c.args.page.now) 0 c.args.places.now (c.loop-i.i - 1) c.requires.places (omega arith) in omega (arith, at.above, at.left)

pub loop-i-preserved : goal.loop-i-preserved
loop-i-preserved c =
    let i = c.loop-i.i - 1 in
    let s = c.args.places.now in
    let old = c.loop-i.page in
    let at = place_at (count c.args.page.now) 0 s i c.requires.places (omega arith) in
    let k = get_or s i 0 - 1 in
    let there : k < count old = omega (arith, at.above, at.left) in
    let f = c.loop-i.invariant.formed in
    let o = line_out old k f.size f.head there in
    let back : i + 1 ≡ c.loop-i.i = omega arith in
    let new = c.take_line.ensures in
    record {
      lines = new ∙ ap (λ p. without_line p k) c.loop-i.invariant.lines ∙ ap (λ n. without_line (without_lines c.args.page.now (drop n s)) k) (sym back) ∙ sym (lines_from c.args.page.now s i (omega arith));
      formed = subst IsFormed (sym new) (formed_out old k f there);
      left = ap (λ p. count p + length s) new ∙ omega (arith, count_out old k (without_line old k) f.head there o, there);
      bound = omega arith;
    }

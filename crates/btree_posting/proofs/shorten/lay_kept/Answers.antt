use Rattle.std.proofs.Common.{◌≡◌, ◌-◌, ◌*◌, ◌++◌, ◌∷◌, length, take, drop, sym, ◌∙◌, ap, arith}
use Rattle.std.specs.List.{concat}
use Rattle.std.proofs.lemmas.List.{length-drop, length-take-le}
use Rattle.btree_posting.specs.Tuple.{tid_count, tids_of}
use Rattle.btree_posting.specs.Form.{are_indexes, without_tids}
use Rattle.btree_posting.proofs.ShortenLemmas.{checked_next, kept_next, kept_last}
use Rattle.btree_posting.proofs.shorten.lay_kept.Goals as goal

pub loop-next-preserved : goal.loop-next-preserved
loop-next-preserved c =
    let t = c.args.tuple.now in
    let tids = c.list_of-tids.result.now in
    let from = c.loop-next.from in
    let index = c.from-index.result in
    let rest = c.next.new.self in
    let inv = c.loop-next.invariant in
    let gone : c.loop-next.gone ≡ index ∷ rest = c.in-Some.ensures.steps ∙ ap (λ x. x ∷ rest) (sym c.from-index.ensures) in
    let size : length (take (6 * index - 6 * from) (drop (6 * from) tids)) ≡ 6 * index - 6 * from = length-take-le (6 * index - 6 * from) (drop (6 * from) tids) (omega (arith, length-drop (6 * from) tids)) in
    let start = take c.args.at c.args.room.now ++ concat (without_tids c.args.gone 0 (tids_of t)) in
    record {
      bound = omega arith;
      above = omega arith;
      room = omega (arith, size);
      checked = inv.checked ∙ ap (are_indexes from (tid_count t)) gone ∙ checked_next t tids c.requires.list c.list_of-tids.ensures.value from index rest (omega arith) (omega arith);
      kept = kept_next t tids c.requires.list c.list_of-tids.ensures.value from index c.loop-next.end c.lay-end.result rest c.loop-next.room c.lay-end.new.room start (omega arith) (omega arith) c.lay-end.ensures.laid
          (λ rise. ap (λ g. take c.loop-next.end c.loop-next.room ++ concat (without_tids g from (drop from (tids_of t)))) (sym gone) ∙ inv.kept (ap (are_indexes from (tid_count t)) gone ∙ rise));
    }

pub returns : goal.returns
returns c =
    let t = c.args.tuple.now in
    let tids = c.list_of-tids.result.now in
    let from = c.loop-next.from in
    let inv = c.loop-next.invariant in
    let none = c.in_default.ensures.steps.0 in
    let size : length (take (length tids - 6 * from) (drop (6 * from) tids)) ≡ length tids - 6 * from = length-take-le (length tids - 6 * from) (drop (6 * from) tids) (omega (arith, length-drop (6 * from) tids)) in
    let start = take c.args.at c.args.room.now ++ concat (without_tids c.args.gone 0 (tids_of t)) in
    let rise = ap (are_indexes from (tid_count t)) none in (
      inv.checked ∙ rise,
      omega arith,
      omega (arith, size),
      kept_last t tids c.requires.list c.list_of-tids.ensures.value from c.loop-next.end c.lay.result c.loop-next.room c.lay.new.room start c.lay.ensures.laid
          (ap (λ g. take c.loop-next.end c.loop-next.room ++ concat (without_tids g from (drop from (tids_of t)))) (sym none) ∙ inv.kept rise),
    )

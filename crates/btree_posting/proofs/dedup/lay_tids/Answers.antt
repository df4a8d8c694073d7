use Rattle.std.proofs.Common.{◌≡◌, ◌-◌, ◌++◌, take, ◌∙◌, ap, arith}
use Rattle.std.specs.List.{concat}
use Rattle.std.proofs.lemmas.List.{length-append, length-take-le}
use Rattle.btree_posting.specs.Tuple.{tids_of}
use Rattle.page_layout.specs.Page.{item}
use Rattle.btree_posting.proofs.DedupLemmas.{tid_bytes_of, laid_next, too_long}
use Rattle.btree_posting.proofs.dedup.lay_tids.Goals as goal

pub returns-then-tids-behind : goal.returns-then-tids-behind
returns-then-tids-behind c =
    let p = c.args.page.now in
    let place = c.loop-place.place in
    let tids = c.tids_of-tids.result.now in
    let bytes : tids ≡ concat (tids_of (item p (place - 1))) = c.tids_of-tids.ensures.value ∙ ap (λ t. concat (tids_of t)) c.item_of.ensures in
    let start = take c.args.at c.args.room.now ++ tid_bytes_of p c.args.start c.args.end in
    let all = too_long p tids c.loop-place.room c.loop-place.room start place c.args.end c.loop-place.behind 0 (omega arith) bytes (omega arith) (omega arith) c.loop-place.invariant.laid in
    omega (arith, all, length-append (take c.args.at c.args.room.now) (tid_bytes_of p c.args.start c.args.end), length-take-le c.args.at c.args.room.now (omega arith))

pub loop-place-preserved : goal.loop-place-preserved
loop-place-preserved c =
    let p = c.args.page.now in
    let place = c.loop-place.place in
    let tids = c.tids_of-tids.result.now in
    let bytes : tids ≡ concat (tids_of (item p (place - 1))) = c.tids_of-tids.ensures.value ∙ ap (λ t. concat (tids_of t)) c.item_of.ensures in
    let start = take c.args.at c.args.room.now ++ tid_bytes_of p c.args.start c.args.end in
    record {
      above = omega arith;
      bound = omega arith;
      laid = laid_next p tids c.loop-place.room c.lay-behind.new.room start place c.args.end c.loop-place.behind c.lay-behind.result (omega arith) bytes c.lay-behind.ensures.laid c.loop-place.invariant.laid;
    }

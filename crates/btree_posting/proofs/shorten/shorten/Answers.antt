use Rattle.std.proofs.Common.{◌≡◌, ◌++◌, true, take, sym, ◌∙◌, ap, arith}
use Rattle.std.specs.List.{concat}
use Rattle.std.proofs.lemmas.List.{length-take-le}
use Rattle.btree_posting.specs.Tuple.{list_at, list_stands, tids_of}
use Rattle.btree_posting.specs.Form.{form_of, without_tids}
use Rattle.btree_posting.proofs.TupleLemmas.{has_list}
use Rattle.btree_posting.proofs.ShortenLemmas.{shortened_is, can_be_shortened}
use Rattle.btree_posting.proofs.shorten.shorten.Goals as goal

pub returns : goal.returns
returns c =
    let t = c.args.tuple.now in
    let gone = c.args.gone in
    let stands : list_stands t ≡ true = sym c.if-not-list_stands.ensures.value in
    let h = has_list t stands in
    let kept = c.in_ok-end.ensures in
    let at = c.list_at-key.result in
    let key : at ≡ list_at t = c.list_at-key.ensures.value in
    let size : at ≡ c.lay.result = omega (arith, length-take-le at t (omega (arith, h.within))) in
    let front : take at c.lay.new.room ≡ take at t = ap (λ n. take n c.lay.new.room) size ∙ c.lay.ensures.laid in
    let rest = concat (without_tids gone 0 (tids_of t)) in (
      can_be_shortened t gone stands kept.0 (omega arith),
      c.finish.ensures.bound,
      c.finish.ensures.made ∙ ap (form_of at) (kept.3 ∙ ap (λ x. x ++ rest) front) ∙ (λ i. form_of (key i) (take (key i) t ++ rest)) ∙ sym (shortened_is t gone stands),
    )

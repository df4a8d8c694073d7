use Rattle.std.proofs.Common.{◌≡◌, ◌+◌, ◌-◌, ◌≤◌, ◌++◌, length, take, sym, ◌∙◌, ap, arith}
use Rattle.page_layout.specs.Page.{item}
use Rattle.btree_posting.specs.Tuple.{key_of}
use Rattle.btree_posting.specs.Form.{form_of}
use Rattle.btree_posting.specs.Dedup.{merged}
use Rattle.btree_posting.proofs.PlaceLemmas.{item_small}
use Rattle.btree_posting.proofs.DedupLemmas.{tid_bytes_of, merged_is, merged_refused, made_of}
use Rattle.btree_posting.proofs.dedup.put_merged.Goals as goal

pub lay-requires : goal.lay-requires
lay-requires c =
    omega (arith, c.key_of-key.ensures.bound, ap length c.item_of.ensures, item_small c.args.page.now (c.from-base.result - 1) c.requires.page (omega arith))

pub lay_tids-requires-clause-at : goal.lay_tids-requires-clause-at
lay_tids-requires-clause-at c =
    omega (arith, c.key_of-key.ensures.bound, ap length c.item_of.ensures, item_small c.args.page.now (c.from-base.result - 1) c.requires.page (omega arith))

pub returns-in_default-clause-exact : goal.returns-in_default-clause-exact
returns-in_default-clause-exact c =
    let p = c.args.page.now in
    let i = c.args.interval in
    let base : c.from-base.result ≡ i.base = c.from-base.ensures in
    let end : c.from-base.result + c.from.result ≡ i.base + i.count = (λ j. base j + c.from.ensures j) in
    let key : c.key_of-key.result.now ≡ key_of (item p (i.base - 1)) = c.key_of-key.ensures.value ∙ ap key_of c.item_of.ensures ∙ ap (λ b. key_of (item p (b - 1))) base in
    let small : length (key_of (item p (i.base - 1))) ≤ 8168 =
    omega (arith, ap length key, c.key_of-key.ensures.bound, ap length c.item_of.ensures, item_small p (c.from-base.result - 1) c.requires.page (omega arith))
    in
    let tids : tid_bytes_of p c.from-base.result (c.from-base.result + c.from.result) ≡ tid_bytes_of p i.base (i.base + i.count) = (λ j. tid_bytes_of p (base j) (end j)) in
    merged_refused p i c.args.room.now c.requires.room small (omega (arith, c.in_default.ensures, ap length key, ap length tids))

pub returns-clause-exact : goal.returns-clause-exact
returns-clause-exact c =
    let p = c.args.page.now in
    let i = c.args.interval in
    let base : c.from-base.result ≡ i.base = c.from-base.ensures in
    let end : c.from-base.result + c.from.result ≡ i.base + i.count = (λ j. base j + c.from.ensures j) in
    let key : c.key_of-key.result.now ≡ key_of (item p (i.base - 1)) = c.key_of-key.ensures.value ∙ ap key_of c.item_of.ensures ∙ ap (λ b. key_of (item p (b - 1))) base in
    let tids : tid_bytes_of p c.from-base.result (c.from-base.result + c.from.result) ≡ tid_bytes_of p i.base (i.base + i.count) = (λ j. tid_bytes_of p (base j) (end j)) in
    let size : length c.key_of-key.result.now ≡ c.lay.result = omega (arith, c.lay.ensures.value) in
    let front : take (length c.key_of-key.result.now) c.lay.new.room ≡ c.key_of-key.result.now = ap (λ n. take n c.lay.new.room) size ∙ c.lay.ensures.laid in
    let tuple : take c.finish-size.result c.finish-size.new.room ≡ merged p i =
    c.finish-size.ensures.made ∙ ap (form_of (length c.key_of-key.result.now)) (c.in-Some.ensures.2 ∙ (λ j. front j ++ tids j))
    ∙ ap (λ k. form_of (length k) (k ++ tid_bytes_of p i.base (i.base + i.count))) key ∙ sym (merged_is p i)
    in
    made_of _ (merged p i) c.args.room.now c.put_last.new.page c.put_last.result tuple c.put_last.ensures.exact

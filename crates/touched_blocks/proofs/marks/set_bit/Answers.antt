use Rattle.std.specs.BTreeMap.{BTreeMap, is_at}
use Rattle.touched_blocks.specs.Set.{run_cmp}
use Rattle.std.proofs.Common.{rules, ◌∙◌, ap, cond, ◌||◌, ◌==◌, ℕ, Some, List}
use Rattle.touched_blocks.specs.Set.{chunk_at, is_set_in}
use Rattle.touched_blocks.specs.declared.marks.RunKey.{RunKey}
use Rattle.touched_blocks.proofs.MarkLemmas.{marked}
use Rattle.touched_blocks.proofs.marks.set_bit.Goals as goal

-- src/marks.rt:52:9
pub returns-in-Some-clause-bits : goal.returns-in-Some-clause-bits
returns-in-Some-clause-bits c =
    let w = c.set.new.self in
    marked (λ q. chunk_at c.args.chunks.now.entries q) (λ q. chunk_at (c.get_mut.follows.lender w).entries q) c.args.key w c.args.at
    (((c.get_mut.follows.holds w).3 (search rules)).0)
    (λ i. c.set.ensures i ∙ ap (λ o. is_set_in o i || c.args.at == i) c.in-Some.ensures.value)

-- src/marks.rt:38:1
pub returns-clause-bits : goal.returns-clause-bits
returns-clause-bits c =
    marked (λ q. chunk_at c.args.chunks.now.entries q) (λ q. chunk_at c.insert.new.self.entries q) c.args.key c.in_ok-chunk.chunk c.args.at
    (λ q. c.in_ok-insert.ensures.updates.0 q
    ∙ ap (λ (m : BTreeMap RunKey (List ℕ)). cond (is_at (run_cmp c.args.key) q) (Some c.in_ok-chunk.chunk) (chunk_at m.entries q)) c.get_mut.follows.holds-at-none)
    (λ i. c.in_ok-chunk.ensures i ∙ ap (λ o. is_set_in o i || c.args.at == i) c.in_default.ensures.value)

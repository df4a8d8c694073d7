-- How many inserts there are, block by block.
use Rattle.std.proofs.Common.{◌≡◌, ℕ, ◌+◌, true, false, cond, [], ◌∷◌, ◌++◌, filter, length, sym, ap, ◌∙◌, zero-add}
use Rattle.std.proofs.lemmas.List.{append-nil, length-append, map-id}
use Rattle.std.proofs.lemmas.List.FromFn.{filter_of_map_range_with_len_more}
use Rattle.std.specs.List.{range_with_len}
use Rattle.pair_maker.specs.Inserts.{insert_blocks, inserts_into}
use Rattle.pair_maker.specs.declared.side.Side.{Side}

blocks_more : (side : Side) (seed block : ℕ) → insert_blocks side seed (block + 1) ≡ insert_blocks side seed block ++ cond (inserts_into side seed block) (block ∷ []) []
blocks_more side seed block =
    ap (filter (inserts_into side seed)) (sym (map-id (range_with_len 0 (block + 1))))
    ∙ filter_of_map_range_with_len_more (inserts_into side seed) (λ b. b) 0 block block (zero-add block)
    ∙ ap (λ l. filter (inserts_into side seed) l ++ cond (inserts_into side seed block) (block ∷ []) []) (map-id (range_with_len 0 block))

pub count-more : (side : Side) (seed block : ℕ) → inserts_into side seed block ≡ true → length (insert_blocks side seed (block + 1)) ≡ length (insert_blocks side seed block) + 1
count-more side seed block inserts =
    ap length (blocks_more side seed block ∙ ap (λ b. insert_blocks side seed block ++ cond b (block ∷ []) []) inserts)
    ∙ length-append (insert_blocks side seed block) (block ∷ [])

pub count-same : (side : Side) (seed block : ℕ) → inserts_into side seed block ≡ false → length (insert_blocks side seed (block + 1)) ≡ length (insert_blocks side seed block)
count-same side seed block none =
    ap length (blocks_more side seed block ∙ ap (λ b. insert_blocks side seed block ++ cond b (block ∷ []) []) none ∙ append-nil (insert_blocks side seed block))

pub ruleset count_steps = (count-more, count-same)

use Rattle.std.proofs.Common.{List, ℕ, ◌≡◌, ◌+◌, ◌-◌, ◌≤◌, ◌++◌, length, take, drop, replicate, append_assoc, arith, sym, ◌∙◌, ap}
use Rattle.std.proofs.lemmas.List.{length-replicate, length-take-le, length-drop, drop-drop}
use Rattle.layout.specs.Splice.{splice}
use Rattle.block_refs.proofs.page.clear.Goals as goal

zeros : (p new : List ℕ) (at n k : ℕ) → k ≡ n → at + n ≤ length p → new ≡ replicate (length (take k (drop at p))) 0 → new ≡ replicate n 0
zeros p new at n k e fits h = h ∙ ap (λ j. replicate j 0) (length-take-le k (drop at p) (omega (arith, length-drop at p)) ∙ e)

pub returns : goal.returns
unfolding splice
returns c =
    let at = c.args.at in let n = c.args.size in
    let size : at + n - at ≡ n = omega arith in
    let filled = zeros c.args.into.now c.fill.new.self at n (at + n - at) size c.requires (c.fill.ensures.after (λ y h. h)) in
    rw (filled, size, length-replicate {A = ℕ} n 0)
    (ap (λ (rest : List ℕ). take at c.args.into.now ++ (replicate n 0 ++ rest)) (drop-drop n at c.args.into.now)
    ∙ sym (append_assoc (take at c.args.into.now) (replicate n 0) (drop (at + n) c.args.into.now)))

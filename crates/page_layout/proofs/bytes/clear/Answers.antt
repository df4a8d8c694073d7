use Rattle.std.proofs.Common.{List, ℕ, ◌≡◌, ◌+◌, ◌-◌, ◌≤◌, length, take, drop, replicate, arith, sym, ◌∙◌, ap}
use Rattle.std.proofs.lemmas.List.{length-replicate, take_all, length-take-le, length-drop}
use Rattle.std.proofs.lemmas.Slice.{put_mid-paste}
use Rattle.page_layout.proofs.BytesLemmas.{cleared}
use Rattle.page_layout.proofs.bytes.clear.Goals as goal

filled : (p new : List ℕ) (at n k : ℕ) → k ≡ n → at + n ≤ length p → new ≡ replicate (length (take k (drop at p))) 0 → new ≡ replicate n 0
filled p new at n k e fits h = h ∙ ap (λ j. replicate j 0) (length-take-le k (drop at p) (omega (arith, length-drop at p)) ∙ e)

pub returns : goal.returns
returns c =
    let at = c.args.at in let n = c.args.n in
    let size : at + n - at ≡ n = omega arith in
    let all = length-replicate n 0 in
    put_mid-paste at (at + n - at) c.args.page.now c.fill.new.self (replicate n 0) n (filled c.args.page.now c.fill.new.self at n (at + n - at) size c.requires (c.fill.ensures.after (λ y h. h))) (sym size) (sym all)
    ∙ rw (take_all {A = ℕ} n (replicate n 0) (omega (arith, all))) (cleared c.args.page.now at n)

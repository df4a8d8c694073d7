-- The line of a replay, put together from the front.
use Rattle.std.proofs.Common.{◌≡◌, ◌∙◌, ℕ, List, [], ◌++◌, codes, decimal, sym, ap, append_assoc, append-nil}
use Rattle.wal_base.specs.Lsn.{lsn_text}
use Rattle.cmd_walreplay.specs.Walreplay.{replayed_line}

seven : (a b c d e f g : List ℕ) → (((((a ++ b) ++ c) ++ d) ++ e) ++ f) ++ g ≡ a ++ (b ++ (c ++ (d ++ (e ++ (f ++ (g ++ []))))))
seven a b c d e f g =
    append_assoc ((((a ++ b) ++ c) ++ d) ++ e) f g
    ∙ append_assoc (((a ++ b) ++ c) ++ d) e (f ++ g)
    ∙ append_assoc ((a ++ b) ++ c) d (e ++ (f ++ g))
    ∙ append_assoc (a ++ b) c (d ++ (e ++ (f ++ g)))
    ∙ append_assoc a b (c ++ (d ++ (e ++ (f ++ g))))
    ∙ ap (λ x. a ++ (b ++ (c ++ (d ++ (e ++ (f ++ x)))))) (sym (append-nil g))

onto : {a a' : List ℕ} (x : List ℕ) → a ≡ a' → a ++ x ≡ a' ++ x
onto x is = ap (λ y. y ++ x) is

pub line_built : (records end tli : ℕ) (a b c d e f g h : List ℕ) → a ≡ [] → b ≡ a ++ codes "pg_walreplay: replayed " → c ≡ b ++ decimal records → d ≡ c ++ codes " records to " → e ≡ d ++ lsn_text end
    → f ≡ e ++ codes " on timeline " → g ≡ f ++ decimal tli → h ≡ g ++ codes "\n" → h ≡ replayed_line records end tli
unfolding replayed_line
line_built records end tli a b c d e f g h ai bi ci di ei fi gi hi =
    let b' = bi ∙ onto (codes "pg_walreplay: replayed ") ai in
    let c' = ci ∙ onto (decimal records) b' in
    let d' = di ∙ onto (codes " records to ") c' in
    let e' = ei ∙ onto (lsn_text end) d' in
    let f' = fi ∙ onto (codes " on timeline ") e' in
    let g' = gi ∙ onto (decimal tli) f' in
    hi ∙ onto (codes "\n") g' ∙ seven (codes "pg_walreplay: replayed ") (decimal records) (codes " records to ") (lsn_text end) (codes " on timeline ") (decimal tli) (codes "\n")

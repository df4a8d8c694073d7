-- What a page whose bytes were lent ends as.
use Rattle.std.specs.Prelude.{ℕ, List, take, drop, ◌++◌, length}
use Rattle.std.specs.Borrow.{Lends, MutBor, Fml, u8, Array}
use Rattle.page_layout.specs.contracts.page.Page.{the_row}

-- the bytes w over those of a page
abbrev pub over : List ℕ → List ℕ → List ℕ
over p w = take 8192 (w ++ drop (length w) p)

-- the page ends as the last bytes behind r
abbrev pub LendsBytes : MutBor (List ℕ) → MutBor (List ℕ) → Fml
LendsBytes s r = Lends the_row (Array u8 0) s r (over s.now)

-- A line that gets no item.
use Rattle.std.proofs.Common.{ℕ, ◌-◌, ◌<◌, ◌≤◌, List, arith}
use Rattle.page_layout.specs.Page.{count, IsFormed}
use Rattle.page_layout.specs.Edits.{with_pointer}
use Rattle.page_laws.proofs.SetLineLaw.{set_formed}

pub line_formed : (p : List ℕ) (place off flags : ℕ) → IsFormed p → 0 < place → place ≤ count p → off < 32768 → flags < 4 → IsFormed (with_pointer p (place - 1) off flags 0)
line_formed p place off flags f above there small kind = set_formed (place - 1) off flags small kind p f (omega (arith, above, there))

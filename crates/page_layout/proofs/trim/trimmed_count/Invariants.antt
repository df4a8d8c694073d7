use Rattle.std.proofs.Common.{◌≡◌, ◌≤◌}
use Rattle.page_layout.specs.Page.{count}
use Rattle.page_layout.specs.Edits.{trimmed_count}
use Rattle.page_layout.proofs.trim.trimmed_count.Given as goal

abbrev pub invariant-loop-n : goal.invariant-loop-n
invariant-loop-n l = record { bound : l.n ≤ count l.page; same : trimmed_count l.page l.n ≡ trimmed_count l.page (count l.page) }

abbrev pub decreases-loop-n : goal.decreases-loop-n
decreases-loop-n l = l.n

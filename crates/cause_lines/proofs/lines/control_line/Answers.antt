use Rattle.cause_lines.proofs.lines.control_line.Goals as goal

pub returns-in-Size : goal.returns-in-Size
returns-in-Size c = rw c.in-Size.is c.number_line.ensures

pub returns-in-Catalog : goal.returns-in-Catalog
returns-in-Catalog c = rw (c.in-Catalog.is, ← c.from-in-Catalog.ensures) c.number_line-in-Catalog.ensures

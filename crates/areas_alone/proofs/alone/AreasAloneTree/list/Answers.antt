-- What is seen of a folder.
use Rattle.std.proofs.Common.{inr, sym, ◌∙◌}
use Rattle.areas_alone.proofs.ListLemmas.{listed_here, listed_root, refused_elsewhere, refused_here, refused_root}
use Rattle.areas_alone.proofs.alone.AreasAloneTree.list.Goals as goal

pub returns-then-lies_elsewhere-clause-refused : goal.returns-then-lies_elsewhere-clause-refused
returns-then-lies_elsewhere-clause-refused g c tells = inr (refused_elsewhere _ _ _ (sym c.lies_elsewhere.ensures ∙ c.if-lies_elsewhere.true))

pub returns-then-are_same-clause-names : goal.returns-then-are_same-clause-names
returns-then-are_same-clause-names g c tells = listed_root _ c.args.self.now.root.now c.args.path.now _ (sym c.are_same.ensures ∙ c.if-are_same.true) (c.list_root.ensures.names tells)

pub returns-then-are_same-clause-refused : goal.returns-then-are_same-clause-refused
returns-then-are_same-clause-refused g c tells = refused_root _ c.args.self.now.root.now c.args.path.now _ (sym c.are_same.ensures ∙ c.if-are_same.true) (c.list_root.ensures.refused tells)

pub returns-clause-names : goal.returns-clause-names
returns-clause-names g c tells = listed_here _ c.args.self.now.root.now c.args.path.now _ (sym c.lies_elsewhere.ensures ∙ c.if-lies_elsewhere.false) (sym c.are_same.ensures ∙ c.if-are_same.false) (c.list.ensures.names tells)

pub returns-clause-refused : goal.returns-clause-refused
returns-clause-refused g c tells = refused_here _ c.args.self.now.root.now c.args.path.now _ (sym c.lies_elsewhere.ensures ∙ c.if-lies_elsewhere.false) (sym c.are_same.ensures ∙ c.if-are_same.false) (c.list.ensures.refused tells)

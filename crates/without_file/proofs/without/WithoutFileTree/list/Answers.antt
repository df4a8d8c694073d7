-- What is seen of a folder.
use Rattle.std.proofs.Common.{◌≡◌, ◌∙◌, Err, Ok, ap, subst, sym, true}
use Rattle.std.specs.List.{list_all}
use Rattle.cluster_tree.specs.Contents.{entry_at}
use Rattle.cluster_tree.specs.Folders.{IsListing}
use Rattle.cluster_tree.specs.PathValue.{is_part}
use Rattle.cluster_tree.specs.Tree.{kind_of}
use Rattle.without_file.specs.Without.{without_file}
use Rattle.without_file.proofs.ListLemmas.{file_kind, list-answer, listed, listing-inside, listing-outside, ok_of, others-parts}
use Rattle.without_file.proofs.without.WithoutFileTree.list.Goals as goal

pub returns-in-Err-clause-refused : goal.returns-in-Err-clause-refused
returns-in-Err-clause-refused g c tells = list-answer _ _ _ c.args.self.now.deep c.are_same.result c.are_same.ensures c.list-found.result (Err c.in-Err.fault) (c.list-found.ensures.refused tells) (sym c.in-Err.is ∙ c.unlisted.ensures)

pub returns-in_default-clause-names : goal.returns-in_default-clause-names
returns-in_default-clause-names g c tells =
    listing-outside _ _ _ _ (ok_of (IsListing (g.F.Tree.contents c.args.self.now.tree.now) c.args.path.now) c.list-found.result c.in-Ok.names (listed c.are_same.result c.list-found.result c.in-Ok.names (sym c.in-Ok.is ∙ c.unlisted.ensures)) (c.list-found.ensures.names tells)) c.in_default.ensures.outside

pub returns-in_default-clause-refused : goal.returns-in_default-clause-refused
returns-in_default-clause-refused g c tells = list-answer _ _ _ c.args.self.now.deep c.are_same.result c.are_same.ensures c.list-found.result (Ok c.in-Ok.names) (c.list-found.ensures.refused tells) (sym c.in-Ok.is ∙ c.unlisted.ensures)

pub returns-in_ok-without-in-Ok-File-clause-names : goal.returns-in_ok-without-in-Ok-File-clause-names
returns-in_ok-without-in-Ok-File-clause-names g c tells =
    subst (IsListing (without_file (g.F.Tree.contents c.args.self.now.tree.now) c.args.self.now.file.now) c.args.path.now) (sym c.in_ok-without-in-Ok-File.ensures)
    (listing-inside _ _ _ _ _ (ok_of (IsListing (g.F.Tree.contents c.args.self.now.tree.now) c.args.path.now) c.list-found.result c.in-Ok.names (listed c.are_same.result c.list-found.result c.in-Ok.names (sym c.in-Ok.is ∙ c.unlisted.ensures)) (c.list-found.ensures.names tells))
    c.in-Some.ensures.inside
    (file_kind _ (ap (λ d. kind_of (entry_at d c.args.self.now.file.now)) (sym c.list-found.ensures.frame.same) ∙ c.in-Ok-File.ensures.answer tells ∙ ap Ok c.in-Ok-File.field-0-is)))

pub returns-in_ok-without-in-Ok-File-clause-parts : goal.returns-in_ok-without-in-Ok-File-clause-parts
returns-in_ok-without-in-Ok-File-clause-parts g c =
    subst (λ n. list_all is_part n ≡ true) (sym c.in_ok-without-in-Ok-File.ensures)
    (others-parts is_part c.in-Some.name.now c.in-Ok.names (ok_of (λ n. list_all is_part n ≡ true) c.list-found.result c.in-Ok.names (listed c.are_same.result c.list-found.result c.in-Ok.names (sym c.in-Ok.is ∙ c.unlisted.ensures)) c.list-found.ensures.parts))

pub returns-in_ok-without-in-Ok-File-clause-refused : goal.returns-in_ok-without-in-Ok-File-clause-refused
returns-in_ok-without-in-Ok-File-clause-refused g c tells = list-answer _ _ _ c.args.self.now.deep c.are_same.result c.are_same.ensures c.list-found.result (Ok c.in-Ok.names) (c.list-found.ensures.refused tells) (sym c.in-Ok.is ∙ c.unlisted.ensures)

use Rattle.memory_tree.proofs.NameLemmas.{ascending-texts}
use Rattle.memory_tree.proofs.children.names_in.Goals as goal

pub returns-clause-listing : goal.returns-clause-listing
returns-clause-listing c = record {
  ascending = rw (c.of_texts.ensures, c.in_ok-in_order.ensures) (ascending-texts _ c.in_ok-names.ensures.ordered);
  members = λ n. rw (c.of_texts.ensures, c.in_ok-in_order.ensures) (c.in_ok-names.ensures.members n);
}

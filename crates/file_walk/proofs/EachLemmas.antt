-- What a list of entries gives as it is taken apart.
use Rattle.std.proofs.Common.{◌≡◌, List, [], ◌∷◌, length, map, Option, None, Some, refl, ap, sym, subst, ◌∙◌}
use Rattle.std.proofs.lemmas.List.Elements.{All-get_or}
use Rattle.std.proofs.lemmas.Iterator.Adapters.{YieldsList-from_vec}
use Rattle.std.proofs.lemmas.Iterator.Consumers.{YieldsList-end, YieldsList-turn}
use Rattle.std.specs.Iterator.{Yields}
use Rattle.std.specs.Vec.Iter.{into_iter_items, into_iter_len, into_iter_steps}
use Rattle.std.specs.declared.vec.IntoIter.{IntoIter}
use Rattle.file_walk.specs.declared.entries.Listed.{Listed}
use Rattle.file_walk.specs.Listed.{AreListed, IsListed, entries_in}

as_they_are : (xs : List Listed) → xs ≡ map (λ x. x) xs
as_they_are [] = refl
as_they_are (x ∷ xs) = ap (λ l. x ∷ l) (as_they_are xs)

module _ {Z : Type 0} (items : List Listed) (s : IntoIter Listed Z) (all : into_iter_items s ≡ items) (size : into_iter_len s ≡ length items) (xs : List Listed) (t : IntoIter Listed Z) (given : Yields into_iter_steps s xs t) where
  -- each is one of the list
  pub one_listed : (r : Option Listed) (u : IntoIter Listed Z) (x : Listed) → r ≡ Some x → into_iter_steps t r u → AreListed items → IsListed x
  one_listed r u x is step listed =
      let turn = YieldsList-turn (YieldsList-from_vec items all size) xs t given r u x is step in
      subst IsListed (sym turn.1) (All-get_or IsListed items (length xs) x turn.0 listed)

  -- and at the end all were given
  pub all_given : (r : Option Listed) (u : IntoIter Listed Z) → r ≡ None → into_iter_steps t r u → entries_in xs ≡ entries_in items
  all_given r u is step =
      let seen = YieldsList-end (YieldsList-from_vec items all size) xs t given r u is step in
      ap entries_in (as_they_are xs ∙ seen.0)

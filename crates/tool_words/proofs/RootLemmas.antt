-- A part `..` of a text.
use Rattle.std.proofs.Common.{◌≡◌, false, Result, Ok, Err, refl, ap, sym, subst}
use Rattle.cluster_tree.specs.Paths.{Refuses}
use Rattle.cluster_tree.specs.declared.path_fault.PathFault.{PathFault}
use Rattle.tool_words.specs.Command.{climbs}

-- a part `..` is told of what a text was read as just where it is told of the text
pub climbs-read : {A : Type 0} (c : Result (Unit {0}) PathFault) (r : Result A PathFault) → Refuses c r → climbs r ≡ climbs c
climbs-read (Err f) r is = ap climbs is
climbs-read (Ok u) (Ok v) is = refl
climbs-read (Ok u) (Err e) is = let P : PathFault → Type 0 = λ f. climbs {A = Unit {0}} (Err f) ≡ false in subst P (sym is) refl

pub ruleset climb_steps = (climbs-read)

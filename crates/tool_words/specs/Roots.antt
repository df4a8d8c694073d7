-- The roots of clusters in words. Own: "An empty root is a faulty command line".
use Rattle.std.specs.Prelude.{ℕ, List, [], ◌∷◌, Option, Some, None, codes, option_and_then}
use Rattle.clap.specs.Walk.{Row, first_of}

-- the one that is given, where it is one of the two alone
abbrev pub exactly_one : Option (List ℕ) → Option (List ℕ) → Option (List ℕ)
exactly_one (Some text) None = Some text
exactly_one None (Some text) = Some text
exactly_one _ _ = None

-- a root: any text that is not empty
abbrev pub root_of : List ℕ → Option (List ℕ)
root_of [] = None
root_of (c ∷ cs) = Some (c ∷ cs)

-- the root given by an option or a word, where it is given
abbrev pub root_given : Option (List ℕ) → Option (List ℕ)
root_given = option_and_then root_of

-- and by the option -D or the word DIR, which is given once
abbrev pub one_root : List Row → Option (List ℕ)
one_root rows = root_given (exactly_one (first_of (codes "pgdata") rows) (first_of (codes "DIR") rows))

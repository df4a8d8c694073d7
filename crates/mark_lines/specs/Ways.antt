-- Which paths a mark's text can have: those below a root, with room. Own: "The plan of a rewind as text".
use Rattle.std.specs.Prelude.{◌≡◌, ℕ, ◌+◌, ◌<◌, ◌≤◌, true, List, length}
use Rattle.std.specs.List.{list_all}
use Rattle.cluster_tree.specs.PathValue.{PathValue, Holds, is_part}
use Rattle.mark_lines.specs.Paths.{parts_below}

-- parts that make a way: proper ones, with room below a root of so many parts
pub record MakeWay (room : ℕ) (parts : List (List ℕ)) : Type 0 where
  pub proper : list_all is_part parts ≡ true
  pub some : 0 < length parts
  pub fits : length parts + room ≤ 64

-- a path below a root, at such parts
pub record LiesBelow (room : ℕ) (root path : PathValue) : Type 0 where
  pub held : Holds root path
  pub way : MakeWay room (parts_below root path)

-- What the calls on a path refuse. Own: "Paths".
use Rattle.std.specs.Prelude.{◌≡◌, ℕ, ◌+◌, cond, List, [], ◌∷◌, length, nat_lt, Result, Ok, Err, IfErr}
use Rattle.std.specs.List.{list_any}
use Rattle.cluster_tree.specs.PathValue.{pieces, kept_parts, is_dot_dot}
use Rattle.cluster_tree.specs.declared.path_fault.PathFault.{PathFault}
use Rattle.cluster_tree.specs.declared.path_fault.PathFault.TheVariants.{Empty, DotDot, TooDeep, OutOfMemory}

-- the first refusal of a text whose parts are to be added to this many parts
abbrev pub checked : ℕ → List ℕ → Result (Unit {0}) PathFault
checked have [] = Err Empty
checked have (b ∷ bs) = cond (list_any is_dot_dot (pieces (b ∷ bs))) (Err DotDot) (cond (nat_lt 64 (have + length (kept_parts (b ∷ bs)))) (Err TooDeep) (Ok tt))

-- a refusal comes exactly where one fits, and is that one; else only memory may be wanting
abbrev pub Refuses : {A : Type 0} → Result (Unit {0}) PathFault → Result A PathFault → Type 0
Refuses (Err fault) result = result ≡ Err fault
Refuses (Ok _) result = IfErr result (λ e. e ≡ OutOfMemory)

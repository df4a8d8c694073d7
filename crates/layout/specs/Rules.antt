-- What a field may hold.
use Rattle.std.specs.Prelude.{ℕ, ◌==◌, nat_le, ◌&&◌, Bool, true}
use Rattle.std.specs.Int.{is_power_of_two}
use Rattle.layout.specs.declared.rule.Rule.{Rule}
use Rattle.layout.specs.declared.rule.Rule.TheVariants.{Any, AtMost, Only, Between, PowerOfTwo}

-- the rule allows this number
abbrev pub allows : Rule → ℕ → Bool
allows Any n = true
allows (AtMost most) n = nat_le n most
allows (Only one) n = n == one
allows (Between least most) n = nat_le least n && nat_le n most
allows (PowerOfTwo least greatest) n = is_power_of_two n && nat_le least n && nat_le n greatest

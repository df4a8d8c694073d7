-- A tree that tells nothing owes nothing.
use Rattle.std.proofs.Common.{◌≡◌, true, false, sym, true≢false}

-- what holds of a tree that tells its contents, of one that doesn't
pub untold : {P : Type 0} → false ≡ true → P
untold told = absurd (true≢false (sym told))

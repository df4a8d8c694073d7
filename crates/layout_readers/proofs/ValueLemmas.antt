-- Values are read where their bytes stand behind others.
use Rattle.std.proofs.Common.{◌≡◌, ◌≤◌, ◌+◌, ◌-◌, ◌++◌, ℕ, List, length, refl, ◌∙◌, ap, arith, length-append, get_or}
use Rattle.std.proofs.lemmas.List.{get_or_append_left, get_or-append_right}
use Rattle.layout.specs.declared.value.Value.{Value}
use Rattle.layout.specs.Readers.{value_at}
use Rattle.layout.specs.Values.{ValueFits, width}
use Rattle.layout.specs.Writing.{value_bytes}
use Rattle.layout.proofs.PutLemmas.{value_again, length-value_bytes}
use Rattle.layout.proofs.SpliceLemmas.{Stands}

-- where a value's bytes stand behind others, it is read
pub stands_in : (v : Value) (before after : List ℕ) → Stands (length before) (value_bytes v) (before ++ (value_bytes v ++ after))
stands_in v before after i lt =
    get_or-append_right before (value_bytes v ++ after) (length before) (length before + i) 0 refl (omega arith)
    ∙ get_or_append_left (value_bytes v) after 0 (length before + i - length before) (omega arith)
    ∙ ap (λ (k : ℕ). get_or (value_bytes v) k 0) (omega arith)

pub value_in : (v : Value) (before after : List ℕ) → ValueFits v → value_at v (length before) (before ++ (value_bytes v ++ after)) ≡ v
value_in v before after fits =
    let room : length before + width v ≤ length (before ++ (value_bytes v ++ after)) = omega (arith, length-append before (value_bytes v ++ after), length-append (value_bytes v) after, length-value_bytes v fits) in
    value_again v (length before) (before ++ (value_bytes v ++ after)) fits room (stands_in v before after)

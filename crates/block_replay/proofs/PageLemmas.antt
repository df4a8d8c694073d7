-- An image as it is written over a page.
use Rattle.std.proofs.Common.{◌≡◌, ℕ, Bool, List, ◌++◌, length, Option, None, Some, arith, ap, sym, ◌∙◌}
use Rattle.std.specs.Prelude.{is_some, if◌then◌else◌}
use Rattle.std.proofs.lemmas.List.{append-nil, drop_all}
use Rattle.block_refs.specs.Bytes.{overwritten}

pub image-written : (image : Option (List ℕ)) (there : Bool) (old new : List ℕ) → length old ≡ 8192 → there ≡ is_some image → new ≡ overwritten image old → image ≡ (if there then Some new else None)
image-written None there old new size is left = ap (λ b. if b then Some new else None) (sym is)
image-written (Some image) there old new size is left =
    ap (λ i. Some i) (sym (append-nil image) ∙ ap (λ xs. image ++ xs) (sym (drop_all 8192 old (omega (arith, size)))) ∙ sym left) ∙ ap (λ b. if b then Some new else None) (sym is)

-- Steps that respect the mask, put together.
use Rattle.std.proofs.Common.{◌≡◌, ℕ, List, Bool, true, false, IsTrue, Ok, Err, length, refl, sym, ◌∙◌}
use Rattle.std.specs.Prelude.{if◌then◌else◌}
use Rattle.page_layout.specs.declared.refusal.RedoWhy.{RedoWhy}
use Rattle.page_masks.specs.Law.{Redone, view, SameMasks, IsOperation, Respects}
use Rattle.page_masks.specs.Mask.{mask}

abbrev OkPage : List ℕ → Redone
OkPage p = Ok p

-- pages of another shape are refused
pub refused_operation : (block : ℕ) (shape : List ℕ → Bool) (g : List ℕ → Redone) (why : RedoWhy) → ((p q : List ℕ) → length p ≡ 8192 → length q ≡ 8192 → mask block p ≡ mask block q → shape p ≡ shape q)
    → Respects (view block) shape g → IsOperation (view block) (λ p. if shape p then g p else Err why)
refused_operation block shape g why shows r = record {
  page = λ p q page_p e. kept p q page_p (shape p) refl e;
  mask = λ p q page_p page_q s same. both p q page_p page_q same.mask (shows p q page_p page_q same.mask) (shape p) refl;
}
  where
    yes : (p : List ℕ) → shape p ≡ true → IsTrue (shape p)
    yes p e = rw e refl

    kept : (p q : List ℕ) → length p ≡ 8192 → (x : Bool) → shape p ≡ x → (if x then g p else Err why) ≡ OkPage q → length q ≡ 8192
    kept p q page_p true e is = r.page p q page_p (yes p e) is
    kept p q page_p false e is = cc is

    both : (p q : List ℕ) → length p ≡ 8192 → length q ≡ 8192 → mask block p ≡ mask block q → shape p ≡ shape q → (x : Bool) → shape p ≡ x
        → SameMasks (view block) (if shape p then g p else Err why) (if shape q then g q else Err why)
    both p q page_p page_q same shown true e = rw (← shown, e) (r.mask p q page_p page_q (yes p e) (yes q (sym shown ∙ e)) same)
    both p q page_p page_q same shown false e = rw (← shown, e) refl

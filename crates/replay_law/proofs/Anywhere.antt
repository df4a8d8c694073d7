-- What goes wrong on every view.
use Rattle.std.proofs.Common.{◌≡◌, ℕ, ◌<◌, ◌≤◌, List, [], ◌∷◌, false, IsTrue, Some, None, Ok, refl, subst, arith}
use Rattle.std.proofs.lemmas.Bool.{le-ltb}
use Rattle.page_masks.specs.Law.{PageView, Redone, IsChange}
use Rattle.replay_law.specs.Effect.{FullPageImage, Change, At}
use Rattle.replay_law.specs.Replay.{after_change}
use Rattle.replay_law.specs.Law.{AreAlike, EndAlike}

pub no_page_differs : (v : PageView) (end : ℕ) (change : List ℕ → Redone) → EndAlike v None None (At end (Change change) ∷ []) → ⊥
no_page_differs v end change alike = cc alike.0

pub zeros_differ : (v : PageView) (end later : ℕ) (change : List ℕ → Redone) → EndAlike v None None (At end (Change change) ∷ At later (FullPageImage None) ∷ []) → ⊥
zeros_differ v end later change alike = cc alike.0

-- a page that is no older than the record is passed over
passed : (v : PageView) (end : ℕ) (change : List ℕ → Redone) (p : List ℕ) → end ≤ v.lsn p → after_change v end change false (Some p) ≡ Ok (record { page = Some p; skipped = false })
passed v end change p le = rw (le-ltb (v.lsn p) end le) refl

pub newer_differs : (v : PageView) (end : ℕ) (change : List ℕ → Redone) (p q : List ℕ) → IsTrue (v.is_page p) → IsChange v end change → change p ≡ Ok q → end < v.lsn p
    → EndAlike v (Some p) (Some q) (At end (Change change) ∷ []) → ⊥
newer_differs v end change p q page is made newer alike =
    let at : v.lsn q ≡ end = is.lsn p q page made in
    let one : AreAlike v (Ok (record { page = Some p; skipped = false })) (after_change v end change false (Some q)) =
    subst (λ a. AreAlike v a (after_change v end change false (Some q))) (passed v end change p (omega arith)) alike in
    let both : AreAlike v (Ok (record { page = Some p; skipped = false })) (Ok (record { page = Some q; skipped = false })) =
    subst (λ a. AreAlike v (Ok (record { page = Some p; skipped = false })) a) (passed v end change q (omega arith)) one in
    omega (arith, both.2.lsn)

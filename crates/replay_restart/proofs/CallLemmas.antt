-- Calls that stay below a root.
use Rattle.std.proofs.Common.{◌≡◌, ◌∙◌, Bool, true, false, inl, List, [], ◌∷◌, ◌++◌, Option, None, Some, refl, ap, sym, subst, true≢false, append_assoc, append-nil}
use Rattle.acts.specs.Acts.{AreBelow, IsBelow}
use Rattle.cluster_tree.specs.Contents.{entry_at}
use Rattle.cluster_tree.specs.Laws.{changed_path}
use Rattle.cluster_tree.specs.PathValue.{PathValue, Holds}
use Rattle.cluster_tree.specs.Run.{State}
use Rattle.cluster_tree.specs.declared.tree.ChangeCall.{ChangeCall}
use Rattle.file_edits.specs.Own.{GoesBy, GoesOn, More, Same, is_on, is_own}
use Rattle.replay_copies.specs.Calls.{LaysOnly, at_or_none, is_own_or_sync}
use Rattle.replay_copies.specs.Laid.{SameElsewhere, is_laid_at}
use Rattle.replay_core.specs.Within.{StaysWithin}
use Rattle.replay_restart.proofs.PlaceLemmas.{laid-held}

-- no path below the root is at none of these
pub apart-off : (own : PathValue → Bool) (root path : PathValue) → ((p : PathValue) → own p ≡ true → Holds root p) → (Holds root path → ⊥) → own path ≡ false
apart-off own root path held apart =
    elim (own path) as (λ (b : Bool). own path ≡ b → b ≡ false) [
      | true ↦ λ is. absurd (apart (held path is))
      | false ↦ λ is. refl
    ] refl

both-below : (root : PathValue) (xs ys : List ChangeCall) → AreBelow (root ∷ []) xs → AreBelow (root ∷ []) ys → AreBelow (root ∷ []) (xs ++ ys)
both-below root [] ys one two = two
both-below root (x ∷ xs) ys one two = (one.0, both-below root xs ys one.1 two)

-- calls that each pass a test which only such below the root pass
goes-below : (root : PathValue) (may : ChangeCall → Bool) (old new : List ChangeCall) → ((call : ChangeCall) → may call ≡ true → (p : PathValue) → changed_path call ≡ Some p → IsBelow (root ∷ []) p)
    → GoesBy may old new → (made : List ChangeCall) × (new ≡ old ++ made) × AreBelow (root ∷ []) made
goes-below root may old _ passes Same = ([], sym (append-nil old), tt)
goes-below root may old _ passes (More {mid} call before is grew) =
    let first = goes-below root may old mid passes before in
    (first.0 ++ call ∷ [], grew ∙ ap (λ l. l ++ call ∷ []) first.1 ∙ append_assoc old first.0 (call ∷ []), both-below root first.0 (call ∷ []) first.2 (passes call is, tt))

on-path : (own : PathValue → Bool) (o : Option PathValue) (p : PathValue) → is_on own o ≡ true → o ≡ Some p → own p ≡ true
on-path own None p is same = absurd (true≢false (sym is))
on-path own (Some path) p is same = let at : path ≡ p = cc in subst (λ q. own q ≡ true) at is

laid-path : (own : PathValue → Bool) (o : Option PathValue) (p : PathValue) → at_or_none own o ≡ true → o ≡ Some p → own p ≡ true
laid-path own None p is same = absurd cc
laid-path own (Some path) p is same = let at : path ≡ p = cc in subst (λ q. own q ≡ true) at is

-- calls at own paths alone stay within the root
pub own-within : (own : PathValue → Bool) (root : PathValue) (old new : State) → ((p : PathValue) → own p ≡ true → Holds root p) → GoesOn own old.calls new.calls
    → ((p : PathValue) → own p ≡ false → entry_at new.contents p ≡ entry_at old.contents p) → StaysWithin root old new
own-within own root old new held on same =
    let made = goes-below root (is_own own) old.calls new.calls (λ call is p at. inl (held p (on-path own (changed_path call) p is at))) on in
    record { made = made.0; grew = made.1; within = made.2; elsewhere = λ path apart. same path (apart-off own root path held apart) }

-- and so do those about the mark and the copies
pub lays-within : (root : PathValue) (old new : State) → LaysOnly root old.calls new.calls → SameElsewhere root old.contents new.contents → StaysWithin root old new
lays-within root old new on same =
    let made = goes-below root (is_own_or_sync (is_laid_at root)) old.calls new.calls (λ call is p at. inl (laid-held root p (laid-path (is_laid_at root) (changed_path call) p is at))) on in
    record { made = made.0; grew = made.1; within = made.2; elsewhere = λ path apart. same path (apart-off (is_laid_at root) root path (laid-held root) apart) }

-- nothing was called
pub still-within : (root : PathValue) (old new : State) → new ≡ old → StaysWithin root old new
still-within root old new same = record {
  made = [];
  grew = ap (λ (s : State). s.calls) same ∙ sym (append-nil old.calls);
  within = tt;
  elsewhere = λ path apart. ap (λ (s : State). entry_at s.contents path) same;
}

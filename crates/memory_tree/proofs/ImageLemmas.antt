-- The images that a tree in memory gives.
use Rattle.std.proofs.Common.{◌≡◌, ℕ, ◌==◌, List, [], ◌∷◌, replicate, refl, sym, subst, inl, inr, true, false, cond, Some, None, is_some, fold, Result, Ok, Err, IfOk}
use Rattle.std.proofs.lemmas.List.{length-replicate}
use Rattle.cluster_tree.specs.Contents.{Contents}
use Rattle.cluster_tree.specs.Tree.{written}
use Rattle.cluster_tree.specs.Step.{Step}
use Rattle.cluster_tree.specs.Stops.{Stops, IsImage, MayBeLeft}
use Rattle.cluster_tree.specs.Change.{refusal_of, changed_by}
use Rattle.memory_tree.specs.Image.{filling, filled_by, filled, image_of}
use Rattle.cluster_tree.specs.declared.tree.ChangeCall.{ChangeCall}
use Rattle.cluster_tree.specs.declared.tree.ChangeCall.TheVariants as call
use Rattle.cluster_tree.proofs.StepLemmas.{written-step, shortened-step}

-- no call has to happen
same-step : (ch : ChangeCall) (c : Contents) → Step ch c c
same-step (call.Write path at n) c = inl refl
same-step (call.Cut path size) c = inl refl
same-step (call.MakeFile path) c = inl refl
same-step (call.MakeFolder path) c = inl refl
same-step (call.Remove path) c = inl refl
same-step call.Sync c = refl

-- and each may happen whole
changed-step : (ch : ChangeCall) (c : Contents) → refusal_of c (filling ch) ≡ None → Step ch c (changed_by c (filling ch))
changed-step (call.Write path at n) c none = subst (λ m. Step (call.Write path at m) c (written c path at (replicate n 0xa5))) (length-replicate n 0xa5) (written-step c _ path at (replicate n 0xa5) none refl)
changed-step (call.Cut path size) c none = shortened-step c _ path size none refl
changed-step (call.MakeFile path) c none = inr (none, refl)
changed-step (call.MakeFolder path) c none = inr (none, refl)
changed-step (call.Remove path) c none = inr (none, refl)
changed-step call.Sync c none = refl

filled-step : (ch : ChangeCall) (c : Contents) → Step ch c (filled_by c ch)
filled-step ch c =
    elim (refusal_of c (filling ch)) as (λ o. refusal_of c (filling ch) ≡ o → Step ch c (cond (is_some o) c (changed_by c (filling ch)))) [
      | None ↦ changed-step ch c
      | Some e ↦ λ refused. same-step ch c
    ] refl

synced-image : (calls : List ChangeCall) (c : Contents) → IsImage c calls c
synced-image [] c = refl
synced-image (ch ∷ calls) c = (c, same-step ch c, synced-image calls c)

filled-image : (calls : List ChangeCall) (c : Contents) → IsImage c calls (fold filled_by c calls)
filled-image [] c = refl
filled-image (ch ∷ calls) c = (filled_by c ch, filled-step ch c, filled-image calls (filled_by c ch))

-- so each choice gives an image
image-chosen : (choice : ℕ) (s : Stops) (c : Contents) → ∥ MayBeLeft s c ∥₁ → ∥ MayBeLeft s (image_of choice s.now c) ∥₁
image-chosen choice s c left =
    elim (choice == 0) as (λ a. ∥ MayBeLeft s (cond a s.now.synced (cond (choice == 1) c (filled s.now))) ∥₁) [
      | true ↦ ∣ synced-image s.now.pending s.now.synced ∣₁
      | false ↦ elim (choice == 1) as (λ b. ∥ MayBeLeft s (cond b c (filled s.now)) ∥₁) [
        | true ↦ left
        | false ↦ ∣ filled-image s.now.pending s.now.synced ∣₁
      ]
    ]

pub image-left : {A E : Type 0} (contents : A → Contents) (choice : ℕ) (s : Stops) (c : Contents) (result : Result A E) → ∥ MayBeLeft s c ∥₁ → IfOk result (λ v. contents v ≡ image_of choice s.now c) → IfOk result (λ v. ∥ MayBeLeft s (contents v) ∥₁)
image-left contents choice s c (Ok v) left is = subst (λ d. ∥ MayBeLeft s d ∥₁) (sym is) (image-chosen choice s c left)
image-left contents choice s c (Err e) left is = tt

-- The folder of what a rewind keeps isn't excluded.
use Rattle.std.proofs.Common.{◌≡◌, ℕ, Bool, true, false, ◌||◌, ◌&&◌, List, [], ◌∷◌, ◌++◌, codes, length, ◌==◌, refl, sym, ap, ◌∙◌, true≢false}
use Rattle.std.specs.Prelude.{bytes_eq}
use Rattle.std.proofs.lemmas.Slice.Eq.{bytes_eq-Decides}
use Rattle.cluster_tree.specs.PathValue.{path_of}
use Rattle.file_walk.specs.Actions.{is_control, is_kept, is_mark}
use Rattle.file_walk.specs.Excluded.{is_excluded}

global_open : is_excluded (path_of false (codes "global" ∷ [])) ≡ false
unfolding is_excluded
global_open = refl

and_both : (a b : Bool) → (a && b) ≡ true → (a ≡ true) × (b ≡ true)
and_both true b e = (refl, e)
and_both false b e = absurd (true≢false (sym e))

no_more : (a b : List ℕ) (more : List (List ℕ)) (name : List ℕ) → is_control (a ∷ b ∷ (more ++ name ∷ [])) ≡ false
no_more a b [] name = refl
no_more a b (c ∷ more) name = refl

control_open : (parts : List (List ℕ)) (name : List ℕ) → length parts == 0 ≡ false → is_control (parts ++ name ∷ []) ≡ true → is_excluded (path_of false parts) ≡ false
control_open [] name deep h = absurd (true≢false deep)
control_open (a ∷ []) name deep h =
    let global : a ≡ codes "global" = (bytes_eq-Decides a (codes "global")).0 (and_both (bytes_eq a (codes "global")) (bytes_eq name (codes "pg_control")) h).0 in
    ap (λ x. is_excluded (path_of false (x ∷ []))) global ∙ global_open
control_open (a ∷ b ∷ more) name deep h = absurd (true≢false (sym h ∙ no_more a b more name))

mark_alone : (parts : List (List ℕ)) (name : List ℕ) → length parts == 0 ≡ false → is_mark (parts ++ name ∷ []) ≡ false
mark_alone [] name deep = absurd (true≢false deep)
mark_alone (a ∷ []) name deep = refl
mark_alone (a ∷ b ∷ more) name deep = refl

or_left : (a b : Bool) → b ≡ false → (a || b) ≡ true → a ≡ true
or_left true b n h = refl
or_left false b n h = absurd (true≢false (sym h ∙ n))

-- the folder of what is kept, where it isn't the root, isn't excluded
pub kept-open : (parts : List (List ℕ)) (name : List ℕ) → length parts == 0 ≡ false → is_kept (path_of false (parts ++ name ∷ [])) ≡ true → is_excluded (path_of false parts) ≡ false
kept-open parts name deep h = control_open parts name deep (or_left (is_control (parts ++ name ∷ [])) (is_mark (parts ++ name ∷ [])) (mark_alone parts name deep) h)

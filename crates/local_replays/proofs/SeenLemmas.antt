-- One step after another, in two clusters of which the same is seen.
use Rattle.std.proofs.Common.{◌≡◌, ◌≢◌, Bool, true, false, Result, Ok, Err, refl, ap, sym, subst, ◌∙◌, true≢false}
use Rattle.std.specs.Prelude.{if◌then◌else◌}
use Rattle.cluster_tree.specs.Causes.{given}
use Rattle.std.specs.FinMap.{insert, remove}
use Rattle.cluster_tree.specs.Contents.{Contents, Entry, entry_at}
use Rattle.cluster_tree.specs.PathValue.{PathValue}
use Rattle.cluster_tree.proofs.ContentsLemmas.{entry-put, entry-put_other, entry-removed, entry-removed_other}
use Rattle.cluster_tree.proofs.TreeLemmas.{same_or_other}
use Rattle.local_replays.specs.Seen.{EndSame, SameLeft, SameSeen}

-- what is seen is the same, and stays so where the same is put or removed in both
pub record Keeps (seen : PathValue → Bool) (Same : Contents → Contents → Type 0) : Type 0 where
  pub agrees : (c d : Contents) → Same c d → SameSeen seen c d
  pub puts : (c d : Contents) (path : PathValue) (v : Entry) → seen path ≡ true → Same c d → Same (insert c path v) (insert d path v)
  pub removes : (c d : Contents) (path : PathValue) → seen path ≡ true → Same c d → Same (remove c path) (remove d path)

-- what is done to contents that are the same leaves them so, or is refused alike
abbrev pub Local : {E : Type 0} → (Contents → Contents → Type 0) → (Contents → Result Contents E) → Type 0
Local Same op = (c d : Contents) → Same c d → EndSame Same (op c) (op d)

-- of such contents the same is told
abbrev pub Told : {A : Type 0} → (Contents → Contents → Type 0) → (Contents → A) → Type 0
Told Same ask = (c d : Contents) → Same c d → ask d ≡ ask c

pub then-same : {A B E : Type 0} (Same : A → A → Type 0) (More : B → B → Type 0) (r s : Result A E) (next after : A → Result B E) → EndSame Same r s
    → ((a b : A) → Same a b → EndSame More (next a) (after b)) → EndSame More (given r next) (given s after)
then-same Same More (Ok a) (Ok b) next after same later = later a b same
then-same Same More (Ok a) (Err f) next after same later = absurd same
then-same Same More (Err e) (Ok b) next after same later = absurd same
then-same Same More (Err e) (Err f) next after same later = same

pub told-same : {A B E : Type 0} (More : B → B → Type 0) (r s : Result A E) (next after : A → Result B E) → s ≡ r
    → ((a : A) → EndSame More (next a) (after a)) → EndSame More (given r next) (given s after)
told-same More r s next after same each = subst (λ x. EndSame More (given r next) (given x after)) (sym same) (by r)
  where
    by : (r : Result _ _) → EndSame More (given r next) (given r after)
    by (Ok a) = each a
    by (Err e) = refl

pub if-same : {A E : Type 0} (More : A → A → Type 0) (t : Bool) (x y z w : Result A E) → EndSame More x z → EndSame More y w
    → EndSame More (if t then x else y) (if t then z else w)
if-same More true x y z w first second = first
if-same More false x y z w first second = second

-- ---- what is kept

module _ (seen : PathValue → Bool) where
  pub put-seen : (c d : Contents) (p : PathValue) (v : Entry) → SameSeen seen c d → SameSeen seen (insert c p v) (insert d p v)
  put-seen c d p v same q is = same_or_other q p
      (λ e. subst (λ x. entry_at (insert d p v) x ≡ entry_at (insert c p v) x) (sym e) (entry-put d p v ∙ sym (entry-put c p v)))
      (λ n. entry-put_other d p q v n ∙ same q is ∙ sym (entry-put_other c p q v n))

  pub removed-seen : (c d : Contents) (p : PathValue) → SameSeen seen c d → SameSeen seen (remove c p) (remove d p)
  removed-seen c d p same q is = same_or_other q p
      (λ e. subst (λ x. entry_at (remove d p) x ≡ entry_at (remove c p) x) (sym e) (entry-removed d p ∙ sym (entry-removed c p)))
      (λ n. entry-removed_other d p q n ∙ same q is ∙ sym (entry-removed_other c p q n))

  hidden : (p q : PathValue) → seen p ≡ true → seen q ≡ false → q ≢ p
  hidden p q is not same = absurd (true≢false (sym is ∙ ap seen (sym same) ∙ not))

  pub left-keeps : (one other : Contents) → Keeps seen (SameLeft seen one other)
  left-keeps one other = record {
    agrees = λ c d left. left.same;
    puts = λ c d p v is left. record {
      same = put-seen c d p v left.same;
      first = λ q not. entry-put_other c p q v (hidden p q is not) ∙ left.first q not;
      second = λ q not. entry-put_other d p q v (hidden p q is not) ∙ left.second q not;
    };
    removes = λ c d p is left. record {
      same = removed-seen c d p left.same;
      first = λ q not. entry-removed_other c p q (hidden p q is not) ∙ left.first q not;
      second = λ q not. entry-removed_other d p q (hidden p q is not) ∙ left.second q not;
    };
  }

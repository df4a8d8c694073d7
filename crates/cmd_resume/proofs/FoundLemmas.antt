-- That a complete mark stands where one was found, and what it says.
use Rattle.std.proofs.Common.{◌≡◌, ◌≢◌, ◌∙◌, ℕ, true, List, Option, None, Some, option_map, refl, sym, ap, subst, Result, Ok, Err}
use Rattle.cluster_tree.specs.Causes.{given, unless}
use Rattle.cluster_tree.specs.Contents.{Contents, Entry, entry_at}
use Rattle.cluster_tree.specs.Marks.{is_there, marks_of}
use Rattle.cluster_tree.specs.PathValue.{PathValue}
use Rattle.clusters.specs.Marks.{unfinished}
use Rattle.clusters.specs.RootControl.{control_at}
use Rattle.clusters.specs.declared.fault.ClusterFault.{ClusterFault}
use Rattle.marked_runs.specs.Moments.{IsMarked}
use Rattle.plan_text.specs.Text.{Saying}
use Rattle.resume_core.specs.Faults.{of_cluster, told_by}
use Rattle.resume_core.specs.Marks.{mark_at, other_marks, own_mark}
use Rattle.resume_core.specs.Source.{source_difference}
use Rattle.resume_core.specs.Stored.{found_in, held_in, held_to, plan_in, stored_of, with_source}
use Rattle.resume_core.specs.declared.fault.ResumeFault.TheVariants as fault

-- a complete mark stands, and no file of the source differs from what it says
pub record Found (c : Contents) (target source : PathValue) (said : Saying) : Type 0 where
  pub marked : IsMarked (marks_of target).rewind c
  pub same : source_difference c source said ≡ None

held-same : (c : Contents) (source : PathValue) (said said' : Saying) → held_to c source said ≡ Ok said' → (said ≡ said') × (source_difference c source said ≡ None)
held-same c source said said' is = by (source_difference c source said) refl is
  where
    by : (o : Option PathValue) → source_difference c source said ≡ o → unless (option_map fault.SourceDiffers o) (Ok said) ≡ Ok said' → (said ≡ said') × (source_difference c source said ≡ None)
    by None none ok = (cc ok, none)
    by (Some path) at ok = absurd (cc ok)

pub given-ok : {A B E : Type 0} (r : Result A E) (f : A → Result B E) (v : B) → given r f ≡ Ok v → (u : A) × (r ≡ Ok u) × (f u ≡ Ok v)
given-ok (Ok u) f v is = (u, refl, is)
given-ok (Err e) f v is = absurd (cc is)

pub unless-ok : {A E : Type 0} (o : Option E) (r : Result A E) (v : A) → unless o r ≡ Ok v → r ≡ Ok v
unless-ok None r v is = is
unless-ok (Some e) r v is = absurd (cc is)

pub told-ok : {A : Type 0} (r : Result A ClusterFault) (v : A) → told_by r ≡ Ok v → r ≡ Ok v
told-ok (Ok u) v is = let same : u ≡ v = cc is in ap Ok same
told-ok (Err e) v is = absurd (cc is)

source-same : (c : Contents) (source : PathValue) (said said' : Saying) → with_source c source said ≡ Ok said' → (said ≡ said') × (source_difference c source said ≡ None)
source-same c source said said' is = held-same c source said said' (given-ok (told_by (control_at c source)) (λ control. held_to c source said) said' is).2

found-same : (c : Contents) (target source : PathValue) (bytes : Option (List ℕ)) (said : Saying) → found_in c target source bytes ≡ Ok (Some said) → (bytes ≢ None) × (source_difference c source said ≡ None)
found-same c target source None said is = absurd (cc is)
found-same c target source (Some bytes) said is =
    let held = given-ok (held_in c target source bytes) (λ s. Ok (Some s)) (Some said) is in
    let one : held.0 ≡ said = cc held.2 in
    let text = given-ok (plan_in target source bytes) (with_source c source) held.0 held.1 in
    let two = source-same c source text.0 held.0 text.2 in
    ((λ none. cc none), subst (λ s. source_difference c source s ≡ None) (two.0 ∙ one) two.1)

own-there : (mark : PathValue) (entry : Option Entry) (bytes : Option (List ℕ)) → own_mark mark entry ≡ Ok bytes → bytes ≢ None → entry ≢ None
own-there mark None bytes is some none = some (let same : ◌≡◌ {A = Result (Option (List ℕ)) ClusterFault} (Ok None) (Ok bytes) = is in cc same)
own-there mark (Some entry) bytes is some none = cc none

there-by : (c : Contents) (path : PathValue) → entry_at c path ≢ None → is_there c path ≡ true
there-by c path some = by (entry_at c path) refl
  where
    by : (o : Option Entry) → entry_at c path ≡ o → is_there c path ≡ true
    by None at = absurd (some at)
    by (Some entry) at = cc at

pub found-of : (c : Contents) (target source : PathValue) (said : Saying) → stored_of c target source ≡ Ok (Some said) → Found c target source said
found-of c target source said is =
    let mark = given-ok (told_by (mark_at c target)) (λ bytes. unless (option_map of_cluster (unfinished c source)) (found_in c target source bytes)) (Some said) is in
    let found = found-same c target source mark.0 said (unless-ok (option_map of_cluster (unfinished c source)) (found_in c target source mark.0) (Some said) mark.2) in
    let path = (marks_of target).rewind in
    let own = given-ok (own_mark path (entry_at c path)) (λ bytes. unless (other_marks c (marks_of target)) (Ok bytes)) mark.0 (told-ok (mark_at c target) mark.0 mark.1) in
    let same = unless-ok (other_marks c (marks_of target)) (Ok own.0) mark.0 own.2 in
    let bytes : own.0 ≡ mark.0 = cc same in
    record {
      marked = there-by c path (own-there path (entry_at c path) own.0 own.1 (λ none. found.0 (sym bytes ∙ none)));
      same = found.1;
    }

-- the text that says it stands in the mark
said-in : (c : Contents) (target source : PathValue) (bytes : Option (List ℕ)) (said : Saying) → found_in c target source bytes ≡ Ok (Some said) → (text : List ℕ) × (plan_in target source text ≡ Ok said)
said-in c target source None said is = absurd (cc is)
said-in c target source (Some bytes) said is =
    let held = given-ok (held_in c target source bytes) (λ s. Ok (Some s)) (Some said) is in
    let one : held.0 ≡ said = cc held.2 in
    let text = given-ok (plan_in target source bytes) (with_source c source) held.0 held.1 in
    let two = source-same c source text.0 held.0 text.2 in
    (bytes, text.1 ∙ ap Ok (two.0 ∙ one))

pub held-said : (c : Contents) (target source : PathValue) (said : Saying) → stored_of c target source ≡ Ok (Some said) → (text : List ℕ) × (plan_in target source text ≡ Ok said)
held-said c target source said is =
    let mark = given-ok (told_by (mark_at c target)) (λ bytes. unless (option_map of_cluster (unfinished c source)) (found_in c target source bytes)) (Some said) is in
    said-in c target source mark.0 said (unless-ok (option_map of_cluster (unfinished c source)) (found_in c target source mark.0) (Some said) mark.2)

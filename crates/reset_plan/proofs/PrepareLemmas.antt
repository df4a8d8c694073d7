-- A reset that is looked at, point by point.
use Rattle.std.proofs.Common.{◌≡◌, ◌⊎◌, inl, inr, ℕ, ℤ, ◌==◌, ◌||◌, Bool, true, false, List, [], Option, None, Some, is_some, option_map, Result, Ok, Err, IfOk, sym, ap, ap₂, ◌∙◌, subst}
use Rattle.std.specs.Prelude.{if◌then◌else◌}
use Rattle.cluster_tree.specs.PathValue.{PathValue}
use Rattle.cluster_tree.specs.Causes.{given, unless}
use Rattle.cluster_tree.specs.Change.{Change}
use Rattle.cluster_tree.specs.Contents.{Contents}
use Rattle.cluster_tree.specs.Folders.{names_in}
use Rattle.clusters.specs.Marks.{unfinished}
use Rattle.clusters.specs.RootControl.{control_at}
use Rattle.clusters.specs.Roots.{wal_folder}
use Rattle.control_file.specs.declared.control.Control.{Control}
use Rattle.wal_base.specs.declared.segment.Segment.{Segment}
use Rattle.reset_numbers.specs.Behind.{new_segment}
use Rattle.reset_numbers.specs.declared.options.ResetOptions.{ResetOptions}
use Rattle.reset_plan.specs.Prepared.{IsOfNames, Prepares, reset_by, reset_with}
use Rattle.reset_plan.specs.Reset.{Reset, changed_to, changes_of, control_after, gone_in, gone_of, gone_refusal, not_clean, reset_known, reset_of, reset_to, segment_found, wal_refusal}
use Rattle.reset_plan.specs.ResetFaults.{IsFree, no_memory, told_by}
use Rattle.reset_plan.specs.declared.fault.ResetFault.{ResetFault}
use Rattle.reset_plan.specs.declared.fault.ResetFault.TheVariants as fault
use Rattle.reset_plan.specs.declared.plan.Prepared.{Prepared}

abbrev made : Control → List Change → Reset
made control changes = record { control = control; changes = changes }

abbrev meant : Control → List Change → Result Reset ResetFault
meant control changes = Ok (made control changes)

-- ---- marks and the control file

abbrev at_control : Contents → PathValue → ResetOptions → ℤ → Result Control ResetFault → Result Reset ResetFault
at_control c root options now r = given r (λ old. reset_known c root options now old)

pub of-marks : (c : Contents) (root : PathValue) (options : ResetOptions) (now : ℤ) (e : ResetFault) → IsFree e ⊎ (option_map fault.Cluster (unfinished c root) ≡ Some e) → IsFree e ⊎ (reset_of c root options now ≡ Err e)
of-marks c root options now e (inl free) = inl free
of-marks c root options now e (inr is) = inr (ap (λ o. unless o (at_control c root options now (told_by (control_at c root)))) is)

unmarked : (c d : Contents) (root : PathValue) (options : ResetOptions) (now : ℤ) (r : Result Control ResetFault) → option_map fault.Cluster (unfinished c root) ≡ None → d ≡ c → told_by (control_at d root) ≡ r → reset_of c root options now ≡ at_control c root options now r
unmarked c d root options now r none same told =
    ap (λ o. unless o (at_control c root options now (told_by (control_at c root)))) none
    ∙ ap (at_control c root options now) (ap (λ x. told_by (control_at x root)) (sym same) ∙ told)

pub of-control : (c d : Contents) (root : PathValue) (options : ResetOptions) (now : ℤ) (e : ResetFault) → option_map fault.Cluster (unfinished c root) ≡ None → d ≡ c → IsFree e ⊎ (told_by (control_at d root) ≡ Err e) → IsFree e ⊎ (reset_of c root options now ≡ Err e)
of-control c d root options now e none same (inl free) = inl free
of-control c d root options now e none same (inr told) = inr (unmarked c d root options now (Err e) none same told)

pub of-known : (c d k : Contents) (root : PathValue) (options : ResetOptions) (now : ℤ) (old : Control) (r : Result Prepared ResetFault) → option_map fault.Cluster (unfinished c root) ≡ None → d ≡ c → k ≡ c → told_by (control_at d root) ≡ Ok old
    → Prepares (reset_known k root options now old) r → Prepares (reset_of c root options now) r
of-known c d k root options now old r none same again told prepared =
    subst (λ m. Prepares m r) (ap (λ x. reset_known x root options now old) again ∙ sym (unmarked c d root options now (Ok old) none same told)) prepared

-- ---- pg_wal and the new segment

abbrev at_segment : Contents → PathValue → ResetOptions → ℤ → Control → Result Segment ResetFault → Result Reset ResetFault
at_segment c root options now old r = given r (λ segment. reset_to c root options old (control_after options now segment old) segment)

abbrev found : Contents → PathValue → ResetOptions → Control → Result Segment ResetFault
found c wal options old = segment_found wal (new_segment options old (names_in c wal))

pub known-wal : (c : Contents) (root wal : PathValue) (options : ResetOptions) (now : ℤ) (old : Control) (e : ResetFault) → wal ≡ wal_folder root → IsFree e ⊎ (wal_refusal c wal ≡ Some e) → IsFree e ⊎ (reset_known c root options now old ≡ Err e)
unfolding reset_known
known-wal c root wal options now old e at (inl free) = inl free
known-wal c root wal options now old e at (inr is) = inr (ap (λ o. unless o (at_segment c root options now old (found c (wal_folder root) options old))) (ap (wal_refusal c) (sym at) ∙ is))

known_at : (c : Contents) (root wal : PathValue) (options : ResetOptions) (now : ℤ) (old : Control) (names : List (List ℕ)) (r : Result Segment ResetFault) → wal ≡ wal_folder root → wal_refusal c wal ≡ None → names ≡ names_in c wal
    → segment_found wal (new_segment options old names) ≡ r → reset_known c root options now old ≡ at_segment c root options now old r
unfolding reset_known
known_at c root wal options now old names r at none listed is =
    ap (λ o. unless o (at_segment c root options now old (found c (wal_folder root) options old))) (ap (wal_refusal c) (sym at) ∙ none)
    ∙ ap (at_segment c root options now old) (ap (λ w. found c w options old) (sym at) ∙ ap (λ l. segment_found wal (new_segment options old l)) (sym listed) ∙ is)

pub known-segment : (c : Contents) (root wal : PathValue) (options : ResetOptions) (now : ℤ) (old : Control) (names : List (List ℕ)) (e : ResetFault) → wal ≡ wal_folder root → wal_refusal c wal ≡ None → names ≡ names_in c wal
    → IsFree e ⊎ (segment_found wal (new_segment options old names) ≡ Err e) → IsFree e ⊎ (reset_known c root options now old ≡ Err e)
known-segment c root wal options now old names e at none listed (inl free) = inl free
known-segment c root wal options now old names e at none listed (inr is) = inr (known_at c root wal options now old names (Err e) at none listed is)

pub known-to : (c d : Contents) (root wal : PathValue) (options : ResetOptions) (now : ℤ) (old control : Control) (names : List (List ℕ)) (segment : Segment) (r : Result Prepared ResetFault) → wal ≡ wal_folder root → wal_refusal c wal ≡ None → names ≡ names_in c wal
    → segment_found wal (new_segment options old names) ≡ Ok segment → d ≡ c → control ≡ control_after options now segment old → Prepares (reset_to d root options old control segment) r → Prepares (reset_known c root options now old) r
known-to c d root wal options now old control names segment r at none listed is same after prepared =
    subst (λ m. Prepares m r) (ap₂ (λ x k. reset_to x root options old k segment) same after ∙ sym (known_at c root wal options now old names (Ok segment) at none listed is)) prepared

-- the names that were listed are those that are there
pub names-same : (c d : Contents) (wal : PathValue) (names : List (List ℕ)) → d ≡ c → names ≡ names_in c wal → names ≡ names_in d wal
names-same c d wal names same listed = listed ∙ ap (λ x. names_in x wal) (sym same)

-- ---- the state, and what goes

abbrev when_dry : Contents → PathValue → ResetOptions → Control → Control → Segment → Bool → Result Reset ResetFault
when_dry c root options old control segment dry = if dry then Ok (made control []) else changed_to c root options old control segment

pub to-dry : (c : Contents) (root : PathValue) (options : ResetOptions) (old control : Control) (segment : Segment) → is_some options.dry ≡ true → reset_to c root options old control segment ≡ Ok (made control [])
unfolding reset_to
to-dry c root options old control segment dry = ap (when_dry c root options old control segment) dry

abbrev unless_gone : Contents → PathValue → Control → Segment → PathValue → List (List ℕ) → Result Reset ResetFault
unless_gone c root control segment wal names = unless (gone_refusal c wal names) (Ok (made control (changes_of root (gone_in c wal names) control segment)))

pub to-clean : (c : Contents) (root : PathValue) (options : ResetOptions) (old control : Control) (segment : Segment) (e : ResetFault) → is_some options.dry ≡ false → IsFree e ⊎ (not_clean root old options.force ≡ Some e) → IsFree e ⊎ (reset_to c root options old control segment ≡ Err e)
unfolding reset_to
to-clean c root options old control segment e wet (inl free) = inl free
to-clean c root options old control segment e wet (inr is) = inr (
    ap (when_dry c root options old control segment) wet
    ∙ ap (λ o. unless o (unless_gone c root control segment (wal_folder root) (names_in c (wal_folder root)))) is)

cleanly : (c : Contents) (root wal : PathValue) (options : ResetOptions) (old control : Control) (segment : Segment) (names : List (List ℕ)) → is_some options.dry ≡ false → not_clean root old options.force ≡ None → wal ≡ wal_folder root → names ≡ names_in c wal
    → reset_to c root options old control segment ≡ unless_gone c root control segment wal names
unfolding reset_to
cleanly c root wal options old control segment names wet clean at listed =
    ap (when_dry c root options old control segment) wet
    ∙ ap (λ o. unless o (unless_gone c root control segment (wal_folder root) (names_in c (wal_folder root)))) clean
    ∙ ap (λ w. unless_gone c root control segment w (names_in c w)) (sym at)
    ∙ ap (unless_gone c root control segment wal) (sym listed)

pub to-gone : (c : Contents) (root wal : PathValue) (options : ResetOptions) (old control : Control) (segment : Segment) (names : List (List ℕ)) (e : ResetFault) → is_some options.dry ≡ false → not_clean root old options.force ≡ None → wal ≡ wal_folder root → names ≡ names_in c wal
    → IsFree e ⊎ (gone_refusal c wal names ≡ Some e) → IsFree e ⊎ (reset_to c root options old control segment ≡ Err e)
to-gone c root wal options old control segment names e wet clean at listed (inl free) = inl free
to-gone c root wal options old control segment names e wet clean at listed (inr is) = inr (
    cleanly c root wal options old control segment names wet clean at listed
    ∙ ap (λ o. unless o (Ok (made control (changes_of root (gone_in c wal names) control segment)))) is)

pub to-ready : (c : Contents) (root wal : PathValue) (options : ResetOptions) (old control said : Control) (segment : Segment) (names : List (List ℕ)) (changes : List Change) → is_some options.dry ≡ false → not_clean root old options.force ≡ None → wal ≡ wal_folder root → names ≡ names_in c wal
    → gone_refusal c wal names ≡ None → changes ≡ changes_of root (gone_in c wal names) control segment → said ≡ control → reset_to c root options old control segment ≡ Ok (made said changes)
to-ready c root wal options old control said segment names changes wet clean at listed none planned is =
    cleanly c root wal options old control segment names wet clean at listed
    ∙ ap (λ o. unless o (Ok (made control (changes_of root (gone_in c wal names) control segment)))) none
    ∙ ap₂ meant (sym is) (sym planned)

-- ---- a refusal that is made in memory

pub no-segment : (wal : PathValue) (o : Option Segment) (e : ResetFault) → None ≡ o → (e ≡ fault.BadSegment wal) ⊎ (e ≡ no_memory) → IsFree e ⊎ (segment_found wal o ≡ Err e)
no-segment wal o e none (inl bad) = inr (ap (segment_found wal) (sym none) ∙ ap (λ x. Err x) (sym bad))
no-segment wal o e none (inr memory) = inl (inr (inr memory))

abbrev unless_passed : PathValue → Control → Bool → Option ResetFault
unless_passed root old b = if b then None else Some (fault.NotClean root old.state)

pub clean : (root : PathValue) (old : Control) (options : ResetOptions) → ((old.state == 1) || is_some options.force) ≡ true → not_clean root old options.force ≡ None
unfolding not_clean
clean root old options is = ap (unless_passed root old) is

pub unclean : (root : PathValue) (old : Control) (options : ResetOptions) (e : ResetFault) → ((old.state == 1) || is_some options.force) ≡ false → (e ≡ fault.NotClean root old.state) ⊎ (e ≡ no_memory) → IsFree e ⊎ (not_clean root old options.force ≡ Some e)
unfolding not_clean
unclean root old options e is (inl state) = inr (ap (unless_passed root old) is ∙ ap (λ x. Some x) (sym state))
unclean root old options e is (inr memory) = inl (inr (inr memory))

-- ---- over every tree

abbrev with_dry : PathValue → Control → List PathValue → Segment → Bool → Reset
with_dry root control gone segment dry = if dry then made control [] else made control (changes_of root gone control segment)

pub dry-with : (root : PathValue) (options : ResetOptions) (control : Control) (gone : List PathValue) (segment : Segment) → is_some options.dry ≡ true → made control [] ≡ reset_with root options control gone segment
dry-with root options control gone segment dry = sym (ap (with_dry root control gone segment) dry)

pub ready-with : (root : PathValue) (options : ResetOptions) (control said : Control) (gone : List PathValue) (segment : Segment) (changes : List Change) → is_some options.dry ≡ false → changes ≡ changes_of root gone control segment → said ≡ control
    → made said changes ≡ reset_with root options control gone segment
ready-with root options control said gone segment changes wet planned is =
    ap₂ made is planned ∙ sym (ap (with_dry root control gone segment) wet)

behind : (wal : PathValue) (o : Option Segment) (segment : Segment) → segment_found wal o ≡ Ok segment → o ≡ Some segment
behind wal None segment e = absurd (cc e)
behind wal (Some other) segment e = let is : other ≡ segment = cc e in ap Some is

pub of-names : (root wal : PathValue) (options : ResetOptions) (now : ℤ) (old control : Control) (names : List (List ℕ)) (segment : Segment) (r : Result Prepared ResetFault) → wal ≡ wal_folder root → segment_found wal (new_segment options old names) ≡ Ok segment → control ≡ control_after options now segment old
    → IfOk r (λ prepared. (statuses : List (List ℕ)) × (reset_by prepared ≡ reset_with root options control (gone_of wal names statuses) segment)) → IfOk r (λ prepared. IsOfNames root options now (reset_by prepared))
of-names root wal options now old control names segment (Ok prepared) at is after some = record {
  old = old;
  names = names;
  statuses = some.0;
  segment = segment;
  behind = behind wal (new_segment options old names) segment is;
  is = some.1 ∙ ap₂ (λ w k. reset_with root options k (gone_of w names some.0) segment) at after;
}
of-names root wal options now old control names segment (Err e) at is after some = tt

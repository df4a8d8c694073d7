-- The first reading of a log, step by step.
use Rattle.std.proofs.Common.{Ok, Err, ◌≡◌, ◌||◌, Bool, true, false, List, [], ◌∷◌, Option, Some, IsSomeAnd, refl, ap, subst, ◌∙◌, inl, inr, option_map}
use Rattle.std.specs.List.{list_any}
use Rattle.backup_label.specs.declared.reading.LabelPlaces.{LabelPlaces}
use Rattle.block_refs.specs.Parts.{PartsView}
use Rattle.cluster_tree.specs.Contents.{Contents}
use Rattle.replay_profile.specs.Profile.{first_of, first_outside, judged}
use Rattle.replay_profile.specs.declared.fault.ProfileFault.{ProfileFault}
use Rattle.wal_base.specs.declared.lsn.Lsn.{Lsn}
use Rattle.wal_records.specs.Cursor.{CursorView, GoesOn, Moves, Steps, to_come}
use Rattle.wal_records.specs.declared.cursor.Step.{Step}
use Rattle.wal_records.specs.declared.cursor.Step.TheVariants as steps
use Rattle.wal_records.specs.declared.why.Why.{Why}
use Rattle.wal_records.specs.Log.{Log, end_after, with_first}
use Rattle.wal_records.specs.Reading.{LogRecord}
use Rattle.replay_start.specs.Faults.{of_profile}
use Rattle.replay_start.specs.Scanned.{is_labelled}
use Rattle.replay_start.specs.Steps.{IsFurther, IsRefused, IsScanned, MovesOn, Scans, ScansNext, with_record}
use Rattle.replay_start.specs.declared.fault.ReplayFault.{ReplayFault}
use Rattle.replay_start.specs.declared.scan.Seen.{Seen}
use Rattle.replay_start.specs.declared.scan.Turn.{Turn}
use Rattle.replay_start.specs.declared.scan.Turn.TheVariants.{Done, More}
use Rattle.rmgr_hooks.specs.Custom.{Extension}

-- no step
pub scans_none : (custom : Option Extension) (label : LabelPlaces) (records : List LogRecord) (seen : Seen) → Scans custom label records records seen seen
scans_none custom label records seen = record { outside = refl; end = refl; found = refl }

-- one step more
pub scans_more : (custom : Option Extension) (label : LabelPlaces) (first old new : List LogRecord) (s t u : Seen) → Scans custom label first old s t → Scans custom label old new t u → Scans custom label first new s u
scans_more custom label first old new s t u one two = record {
  outside = one.outside ∙ two.outside;
  end = one.end ∙ two.end;
  found = one.found ∙ two.found;
}

-- the last one
pub scans_last : (custom : Option Extension) (label : LabelPlaces) (first old : List LogRecord) (s t u : Seen) → Scans custom label first old s t → IsScanned custom label old t u → IsScanned custom label first s u
scans_last custom label first old s t u one two = record {
  taken = one.outside ∙ two.taken;
  end = one.end ∙ two.end;
  found = one.found ∙ two.found;
}

pub scans_refused : (custom : Option Extension) (label : LabelPlaces) (first old : List LogRecord) (s t : Seen) (e : ReplayFault) → Scans custom label first old s t → IsRefused custom old e → IsRefused custom first e
scans_refused custom label first old s t e one (inl free) = inl free
scans_refused custom label first old s t e one (inr is) = inr (ap (option_map of_profile) one.outside ∙ is)

or_more : (a b c : Bool) → (a || (b || c)) ≡ ((a || b) || c)
or_more true b c = refl
or_more false b c = refl

or_none : (a : Bool) → (a || false) ≡ a
or_none true = refl
or_none false = refl

-- a record that is taken
pub one_more : (custom : Option Extension) (label : LabelPlaces) (r : LogRecord) (parts : PartsView) (old new : List LogRecord) (s : Seen) → old ≡ r ∷ new → judged custom r ≡ Ok parts
    → Scans custom label old new s (with_record label r s)
one_more custom label r parts old new s is taken = record {
  outside = ap (first_outside custom) is ∙ ap (λ j. first_of j (first_outside custom new)) taken;
  end = ap (end_after s.end.0) is;
  found = ap (λ rs. s.found || list_any (is_labelled label) rs) is ∙ or_more s.found (is_labelled label r) (list_any (is_labelled label) new);
}

-- no record is left
pub none_left : (custom : Option Extension) (label : LabelPlaces) (old : List LogRecord) (s : Seen) → old ≡ [] → IsScanned custom label old s s
none_left custom label old s is = record {
  taken = ap (first_outside custom) is;
  end = ap (end_after s.end.0) is;
  found = ap (λ rs. s.found || list_any (is_labelled label) rs) is ∙ or_none s.found;
}

-- one that isn't taken
pub one_refused : (custom : Option Extension) (r : LogRecord) (old new : List LogRecord) (fault : ProfileFault) → old ≡ r ∷ new → judged custom r ≡ Err fault → option_map of_profile (first_outside custom old) ≡ Some (of_profile fault)
one_refused custom r old new fault is refused = ap (λ rs. option_map of_profile (first_outside custom rs)) is ∙ ap (λ j. option_map of_profile (first_of j (first_outside custom new))) refused

-- Steps of a cursor.

-- a value that is there under two names
current_is : (o : Option LogRecord) (P : LogRecord → Type 0) (r : LogRecord) → o ≡ Some r → IsSomeAnd o P → P r
current_is o P r is h = let Q : Option LogRecord → Type 0 = λ k. IsSomeAnd k P in subst Q is h

-- the records to come, behind one that was read
pub record_step : (old new : CursorView) (step : Step) (contents : Contents) (r : LogRecord) → step ≡ steps.Record → new.current ≡ Some r → Steps old new step contents
    → (to_come old contents).records ≡ r ∷ (to_come new contents).records
record_step old new step contents r is current moved =
    let P : Step → Type 0 = λ k. Steps old new k contents in
    ap (λ (l : Log). l.records) (current_is new.current (λ x. to_come old contents ≡ with_first x (to_come new contents)) r current (subst P is moved))

-- and at their end
pub end_step : (old new : CursorView) (step : Step) (contents : Contents) (place : Lsn) (reason : Why) → step ≡ steps.End place reason → Steps old new step contents → (to_come old contents).records ≡ []
end_step old new step contents place reason is moved =
    let P : Step → Type 0 = λ k. Steps old new k contents in ap (λ (l : Log). l.records) (subst P is moved)

-- where the cursor is then
pub record_moves : (old new : CursorView) (step : Step) (r : LogRecord) → step ≡ steps.Record → new.current ≡ Some r → Moves old new step → IsFurther old new
record_moves old new step r is current moved =
    let P : Step → Type 0 = λ k. Moves old new k in
    let goes = current_is new.current (GoesOn old new) r current (subst P is moved) in
    record { opened = goes.opened; up = goes.up; within = goes.within }

-- The turns of the loop.

pub further_in : (old new : CursorView) (turn : Turn) → turn ≡ More → MovesOn old new turn → IsFurther old new
further_in old new turn is moved = let P : Turn → Type 0 = λ k. MovesOn old new k in subst P is moved

-- where the contents are those that were found
module _ (custom : Option Extension) (label : LabelPlaces) (first : List LogRecord) (old new : CursorView) (c c' : Contents) (s t u : Seen) where
  pub more_in : (turn : Turn) → c' ≡ c → turn ≡ More → Scans custom label first (to_come old c).records s t
      → ScansNext custom label (to_come old c').records (to_come new c').records t u (Ok turn) → Scans custom label first (to_come new c).records s u
  more_in turn same is one two =
      let P : Contents → Type 0 = λ x. ScansNext custom label (to_come old x).records (to_come new x).records t u (Ok turn) in
      let Q : Turn → Type 0 = λ k. ScansNext custom label (to_come old c).records (to_come new c).records t u (Ok k) in
      scans_more custom label first (to_come old c).records (to_come new c).records s t u one (subst Q is (subst P same two))

  pub last_in : (turn : Turn) → c' ≡ c → turn ≡ Done → Scans custom label first (to_come old c).records s t
      → ScansNext custom label (to_come old c').records (to_come new c').records t u (Ok turn) → IsScanned custom label first s u
  last_in turn same is one two =
      let P : Contents → Type 0 = λ x. ScansNext custom label (to_come old x).records (to_come new x).records t u (Ok turn) in
      let Q : Turn → Type 0 = λ k. ScansNext custom label (to_come old c).records (to_come new c).records t u (Ok k) in
      scans_last custom label first (to_come old c).records s t u one (subst Q is (subst P same two))

  pub refused_in : (e : ReplayFault) → c' ≡ c → Scans custom label first (to_come old c).records s t
      → ScansNext custom label (to_come old c').records (to_come new c').records t u (Err e) → IsRefused custom first e
  refused_in e same one two =
      let P : Contents → Type 0 = λ x. ScansNext custom label (to_come old x).records (to_come new x).records t u (Err e) in
      scans_refused custom label first (to_come old c).records s t e one (subst P same two)

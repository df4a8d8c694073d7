-- Gathering the effects of a log, record by record.
use Rattle.std.proofs.Common.{◌≡◌, List, [], ◌∷◌, ◌++◌, Option, Ok, Err, inl, inr, refl, sym, ap, subst, ◌∙◌, append_assoc, append-nil}
use Rattle.std.specs.Prelude.{option_map}
use Rattle.std.proofs.lemmas.List.{map-append}
use Rattle.block_effects.specs.Lives.{Split}
use Rattle.block_refs.specs.Outcomes.{record_parts}
use Rattle.block_refs.specs.Parts.{PartsView}
use Rattle.cluster_tree.specs.Contents.{Contents}
use Rattle.first_effects.specs.Gathered.{FirstView, Follows, with_record}
use Rattle.replay_profile.specs.Profile.{first_of, first_outside, judged, parts_or_none}
use Rattle.replay_start.specs.Faults.{of_profile}
use Rattle.replay_start.specs.Steps.{IsFurther}
use Rattle.replay_start.specs.declared.fault.ReplayFault.{ReplayFault}
use Rattle.restart_start.specs.Gathered.{Gathers, GathersNext, HasGathered, IsRefused, splits_of}
use Rattle.restart_start.specs.Records.{MovesOn}
use Rattle.restart_start.specs.declared.gather.Turn.{Turn}
use Rattle.restart_start.specs.declared.gather.Turn.TheVariants.{More, Done}
use Rattle.rmgr_hooks.specs.Custom.{Extension}
use Rattle.wal_records.specs.Cursor.{CursorView, to_come}
use Rattle.wal_records.specs.Reading.{LogRecord}

-- a record that is taken is passed
pub passed : (custom : Option Extension) (rec : LogRecord) (parts : PartsView) (old new : List LogRecord) → old ≡ rec ∷ new → judged custom rec ≡ Ok parts → first_outside custom old ≡ first_outside custom new
passed custom rec parts old new is taken = ap (first_outside custom) is ∙ ap (λ j. first_of j (first_outside custom new)) taken

-- and its effects are gathered
pub gathered : (custom : Option Extension) (rec : LogRecord) (parts : PartsView) (before after : FirstView) → parts ≡ parts_or_none (record_parts rec)
    → ((log : List Split) → Follows custom log before → Follows custom (with_record log rec parts) after) → Gathers custom (rec ∷ []) before after
gathered custom rec parts before after own adds log follows = subst (λ p. Follows custom (with_record log rec p) after) own (adds log follows)

-- nothing was read yet
pub none_yet : (custom : Option Extension) (all : List LogRecord) (seen : FirstView) → HasGathered custom all all seen seen
none_yet custom all seen = record { done = []; joins = refl; outside = refl; gathers = λ log follows. subst (λ l. Follows custom l seen) (sym (append-nil log)) follows }

two_gathered : (custom : Option Extension) (xs ys : List LogRecord) (f g h : FirstView) → Gathers custom xs f g → Gathers custom ys g h → Gathers custom (xs ++ ys) f h
two_gathered custom xs ys f g h one two log follows =
    subst (λ l. Follows custom l h) (append_assoc log (splits_of xs) (splits_of ys) ∙ ap (λ l. log ++ l) (sym (map-append _ xs ys))) (two (log ++ splits_of xs) (one log follows))

-- one more
more : (custom : Option Extension) (all old new : List LogRecord) (f g h : FirstView) → HasGathered custom all old f g → GathersNext custom old new g h (Ok More) → HasGathered custom all new f h
more custom all old new f g h has (rec, is, pass, gathers) = record {
  done = has.done ++ rec ∷ [];
  joins = has.joins ∙ ap (λ l. has.done ++ l) is ∙ sym (append_assoc has.done (rec ∷ []) new);
  outside = has.outside ∙ pass;
  gathers = two_gathered custom has.done (rec ∷ []) f g h has.gathers gathers;
}

-- and none is left
last : (custom : Option Extension) (all old new : List LogRecord) (f g h : FirstView) → HasGathered custom all old f g → GathersNext custom old new g h (Ok Done) → Gathers custom all f h
last custom all old new f g h has (none, same) =
    let whole : has.done ≡ all = sym (has.joins ∙ ap (λ l. has.done ++ l) none ∙ append-nil has.done) in
    λ log follows. subst (λ l. Follows custom (log ++ splits_of l) h) whole (subst (λ s. Follows custom (log ++ splits_of has.done) s) (sym same) (has.gathers log follows))

refused : (custom : Option Extension) (all old : List LogRecord) (f g : FirstView) (e : ReplayFault) → HasGathered custom all old f g → IsRefused custom old e → IsRefused custom all e
refused custom all old f g e has (inl free) = inl free
refused custom all old f g e has (inr is) = inr (ap (option_map of_profile) has.outside ∙ is)

pub further_in : (old new : CursorView) (turn : Turn) → turn ≡ More → MovesOn old new turn → IsFurther old new
further_in old new turn is moved = let P : Turn → Type 0 = λ k. MovesOn old new k in subst P is moved

-- The turns of the loop, where the contents are those that were found.
module _ (custom : Option Extension) (all : List LogRecord) (old new : CursorView) (c c' : Contents) (f g h : FirstView) where
  pub more_in : (turn : Turn) → c' ≡ c → turn ≡ More → HasGathered custom all (to_come old c).records f g
      → GathersNext custom (to_come old c').records (to_come new c').records g h (Ok turn) → HasGathered custom all (to_come new c).records f h
  more_in turn same is has next =
      let P : Contents → Type 0 = λ x. GathersNext custom (to_come old x).records (to_come new x).records g h (Ok turn) in
      let Q : Turn → Type 0 = λ k. GathersNext custom (to_come old c).records (to_come new c).records g h (Ok k) in
      more custom all (to_come old c).records (to_come new c).records f g h has (subst Q is (subst P same next))

  pub last_in : (turn : Turn) → c' ≡ c → turn ≡ Done → HasGathered custom all (to_come old c).records f g
      → GathersNext custom (to_come old c').records (to_come new c').records g h (Ok turn) → Gathers custom all f h
  last_in turn same is has next =
      let P : Contents → Type 0 = λ x. GathersNext custom (to_come old x).records (to_come new x).records g h (Ok turn) in
      let Q : Turn → Type 0 = λ k. GathersNext custom (to_come old c).records (to_come new c).records g h (Ok k) in
      last custom all (to_come old c).records (to_come new c).records f g h has (subst Q is (subst P same next))

  pub refused_in : (e : ReplayFault) → c' ≡ c → HasGathered custom all (to_come old c).records f g
      → GathersNext custom (to_come old c').records (to_come new c').records g h (Err e) → IsRefused custom all e
  refused_in e same has next =
      let P : Contents → Type 0 = λ x. GathersNext custom (to_come old x).records (to_come new x).records g h (Err e) in
      refused custom all (to_come old c).records f g e has (subst P same next)

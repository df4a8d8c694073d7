-- What each point of a rewind found, where none refused.
use Rattle.std.proofs.Common.{◌≡◌, ℕ, ℤ, Bool, true, false, ◌==◌, List, [], ◌∷◌, Option, None, Some, Result, Ok, Err, option_map, if◌then◌else◌, refl, sym, ap, ◌∙◌, arith}
use Rattle.std.proofs.lemmas.Bool.Decides.{nat_tests}
use Rattle.cluster_tree.specs.Causes.{first_of, given, unless}
use Rattle.cluster_tree.specs.Contents.{Contents}
use Rattle.cluster_tree.specs.PathValue.{PathValue}
use Rattle.control_file.specs.declared.control.Control.{Control}
use Rattle.clusters.specs.Marks.{unfinished}
use Rattle.clusters.specs.RootControl.{control_at}
use Rattle.file_walk.specs.Pairs.{pairs_of}
use Rattle.file_walk.specs.Walk.{walk_of}
use Rattle.file_walk.specs.declared.entry.Entry.{Entry}
use Rattle.file_walk.specs.declared.pair.Pair.{Pair}
use Rattle.rewind_plan.specs.Checks.{first_difference}
use Rattle.rewind_plan.specs.Planned.{Between}
use Rattle.rewind_plan.specs.Room.{first_lacking}
use Rattle.rewind_survey.specs.Faults.{told_by}
use Rattle.rewind_survey.specs.Fitness.{no_hints, not_clean, other_sizes, pair_points, systems_differ}
use Rattle.rewind_survey.specs.Survey.{Parting, Survey, from_controls, survey_of}
use Rattle.rewind_survey.specs.Survey as survey
use Rattle.rewind_survey.specs.declared.fault.RewindFault.{RewindFault}
use Rattle.rewind_survey.specs.declared.fault.RewindFault.TheVariants as fault
use Rattle.rewind_core.proofs.PlanLemmas.{ok-walk}
use Rattle.rewind_core.proofs.SurveyLemmas.{ok-told, survey-finished}
use Rattle.rewind_core.specs.Faults.{seen}
use Rattle.rewind_core.specs.Planned.{Aim, Needing, Needs, aim_of, between_of, from_pairs, from_parting, from_size, from_survey, from_walks, pairs_refusal, planned_of}
use Rattle.wal_base.specs.SizeOfBytes.{size_of_bytes}
use Rattle.wal_base.specs.declared.seg_size.SegSize.{SegSize}
use Rattle.rewound_laws.specs.Needed.{IsNeeded}

-- ---- points that didn't refuse

-- what was read, and the answer at it
record Given {A B E : Type 0} (r : Result A E) (k : A → Result B E) (v : B) : Type 0 where
  at : A
  read : r ≡ Ok at
  is : k at ≡ Ok v

given_ok : {A B E : Type 0} (r : Result A E) (k : A → Result B E) (v : B) → given r k ≡ Ok v → Given r k v
given_ok (Ok a) k v h = record { at = a; read = refl; is = h }
given_ok (Err e) k v h = absurd (cc h)

unless_ok : {A E : Type 0} (o : Option E) (answer : Result A E) (v : A) → unless o answer ≡ Ok v → (o ≡ None) × (answer ≡ Ok v)
unless_ok None answer v h = (refl, h)
unless_ok (Some e) answer v h = absurd (cc h)

none_of : {A B : Type 0} (f : A → B) (o : Option A) → option_map f o ≡ None → o ≡ None
none_of f None h = refl
none_of f (Some x) h = absurd (cc h)

first_none : {E : Type 0} (o : Option E) (rest : List (Option E)) → first_of (o ∷ rest) ≡ None → (o ≡ None) × (first_of rest ≡ None)
unfolding first_of
first_none None rest h = (refl, h)
first_none (Some e) rest h = absurd (cc h)

-- ---- files of relations are cut at one size

same_number : (n m : ℕ) (b : Bool) (rest : Option RewindFault) (refusal : RewindFault) → n == m ≡ b → (if b then rest else Some refusal) ≡ None → n ≡ m
same_number n m true rest refusal e h = grind (arith, nat_tests, e)
same_number n m false rest refusal e h = absurd (cc h)

sizes_same : (source : PathValue) (t s : Control) → other_sizes source t s ≡ None → s.relseg ≡ t.relseg
unfolding other_sizes
sizes_same source t s h = same_number s.relseg t.relseg (s.relseg == t.relseg) _ _ refl h

module _ (c : Contents) (target source : PathValue) where
  survey_sized : (t s : Control) (v : Survey) → told_by (control_at c target) ≡ Ok t → told_by (control_at c source) ≡ Ok s → survey_of c target source ≡ Ok v → s.relseg ≡ t.relseg
  unfolding from_controls
  survey_sized t s v read other h =
      let one = unless_ok (option_map fault.Cluster (unfinished c target)) _ v h in
      let two = unless_ok (option_map fault.Cluster (unfinished c source)) _ v one.1 in
      let three : given (told_by (control_at c source)) (λ x. from_controls c target source t x) ≡ Ok v =
      sym (ap (λ r. given r (λ y. given (told_by (control_at c source)) (λ x. from_controls c target source y x))) read) ∙ two.1 in
      let four : from_controls c target source t s ≡ Ok v = sym (ap (λ r. given r (λ x. from_controls c target source t x)) other) ∙ three in
      let points = unless_ok (first_of (pair_points target source t s)) _ v four in
      sizes_same source t s (first_none (other_sizes source t s) (systems_differ t s ∷ no_hints target t ∷ not_clean target t ∷ not_clean source s ∷ []) points.0).0

-- ---- from the pairs back to the survey

module _ (c : Contents) (target source : PathValue) (now : ℤ) (n : Needing) where
  -- what the walks found
  record Walked (aim : Aim) : Type 0 where
    ts : List Entry
    here : walk_of c aim.between.target ≡ Ok ts
    ss : List Entry
    there : walk_of c aim.between.source ≡ Ok ss
    refused : pairs_refusal aim.between (pairs_of ts ss) ≡ None
    is : n ≡ record { aim = aim; pairs = pairs_of ts ss }

  from_pairs_ok : (aim : Aim) (pairs : List Pair) → from_pairs aim pairs ≡ Ok (Needs n) → (pairs_refusal aim.between pairs ≡ None) × (n ≡ record { aim = aim; pairs = pairs })
  from_pairs_ok aim pairs h =
      let two = unless_ok (pairs_refusal aim.between pairs) (Ok (Needs (record { aim = aim; pairs = pairs }))) (Needs n) h in
      (two.0, cc two.1)

  walked : (aim : Aim) → from_walks c aim ≡ Ok (Needs n) → Walked aim
  unfolding from_walks
  walked aim h =
      let one = given_ok (seen (walk_of c aim.between.target)) (λ ts. given (seen (walk_of c aim.between.source)) (λ ss. from_pairs aim (pairs_of ts ss))) (Needs n) h in
      let two = given_ok (seen (walk_of c aim.between.source)) (λ ss. from_pairs aim (pairs_of one.at ss)) (Needs n) one.is in
      let last = from_pairs_ok aim (pairs_of one.at two.at) two.is in
      record {
        ts = one.at;
        here = ok-walk (walk_of c aim.between.target) one.at one.read;
        ss = two.at;
        there = ok-walk (walk_of c aim.between.source) two.at two.read;
        refused = last.0;
        is = last.1;
      }

  needed_by : (part : Parting) (t s : Control) (size : SegSize) → survey_of c target source ≡ Ok (survey.Parted part) → told_by (control_at c target) ≡ Ok t → told_by (control_at c source) ≡ Ok s
      → size_of_bytes t.walSegSize ≡ Some size → Walked (aim_of target source part t s size now) → IsNeeded c target source now n
  needed_by part t s size surveyed read other sized w =
      let finished = survey-finished c target source (survey.Parted part) surveyed in
      let two = first_none (option_map fault.TooDeep (first_lacking (between_of target source t part) (pairs_of w.ts w.ss)))
      (option_map fault.KindsDiffer (first_difference (pairs_of w.ts w.ss)) ∷ []) w.refused in
      let three = first_none (option_map fault.KindsDiffer (first_difference (pairs_of w.ts w.ss))) [] two.1 in
      let lacking : first_lacking (between_of target source t part) (pairs_of w.ts w.ss) ≡ None = none_of fault.TooDeep (first_lacking (between_of target source t part) (pairs_of w.ts w.ss)) two.0 in
      let differing : first_difference (pairs_of w.ts w.ss) ≡ None = none_of fault.KindsDiffer (first_difference (pairs_of w.ts w.ss)) three.0 in
      record {
        part = part;
        surveyed = surveyed;
        target_finished = finished.0;
        source_finished = finished.1;
        t = t;
        target_read = ok-told (control_at c target) t read;
        s = s;
        source_read = ok-told (control_at c source) s other;
        one_size = survey_sized c target source t s (survey.Parted part) read other surveyed;
        size = size;
        sized = sized;
        aimed = ap (λ (x : Needing). x.aim) w.is;
        target_entries = w.ts;
        target_walked = w.here;
        source_entries = w.ss;
        source_walked = w.there;
        paired = ap (λ (x : Needing). x.pairs) w.is;
        lacking = ap (λ (x : Needing). first_lacking x.aim.between x.pairs) w.is ∙ lacking;
        differing = ap (λ (x : Needing). first_difference x.pairs) w.is ∙ differing;
      }

  by_size : (part : Parting) (t s : Control) (o : Option SegSize) → survey_of c target source ≡ Ok (survey.Parted part) → told_by (control_at c target) ≡ Ok t → told_by (control_at c source) ≡ Ok s
      → size_of_bytes t.walSegSize ≡ o → from_size c target source part t s o now ≡ Ok (Needs n) → IsNeeded c target source now n
  by_size part t s (Some size) surveyed read other sized h = needed_by part t s size surveyed read other sized (walked (aim_of target source part t s size now) h)
  by_size part t s None surveyed read other sized h = absurd (cc h)

  by_controls : (part : Parting) → survey_of c target source ≡ Ok (survey.Parted part) → from_parting c target source now part ≡ Ok (Needs n) → IsNeeded c target source now n
  unfolding from_parting
  by_controls part surveyed h =
      let one = given_ok (told_by (control_at c target)) (λ t. given (told_by (control_at c source)) (λ s. from_size c target source part t s (size_of_bytes t.walSegSize) now)) (Needs n) h in
      let two = given_ok (told_by (control_at c source)) (λ s. from_size c target source part one.at s (size_of_bytes one.at.walSegSize) now) (Needs n) one.is in
      by_size part one.at two.at (size_of_bytes one.at.walSegSize) surveyed one.read two.read refl two.is

  by_survey : (v : Survey) → survey_of c target source ≡ Ok v → from_survey c target source now v ≡ Ok (Needs n) → IsNeeded c target source now n
  by_survey survey.OneTimeline surveyed h = absurd (cc h)
  by_survey (survey.AtFork fork) surveyed h = absurd (cc h)
  by_survey (survey.Parted part) surveyed h = by_controls part surveyed h

  pub planned-needed : planned_of c target source now ≡ Ok (Needs n) → IsNeeded c target source now n
  unfolding planned_of
  planned-needed h =
      let one = given_ok (survey_of c target source) (from_survey c target source now) (Needs n) h in
      by_survey one.at one.read one.is

  module _ (k : IsNeeded c target source now n) where
    between-is : n.aim.between ≡ between_of target source k.t k.part
    between-is = ap (λ (x : Aim). x.between) k.aimed

    pub needed-target : n.aim.between.target ≡ target
    needed-target = ap (λ (x : Between). x.target) between-is

    pub needed-source : n.aim.between.source ≡ source
    needed-source = ap (λ (x : Between). x.source) between-is

    -- the control file that is written says how many blocks a segment has
    pub needed-relseg : n.aim.control.relseg ≡ n.aim.between.per_file
    needed-relseg = ap (λ (x : Aim). x.control.relseg) k.aimed ∙ k.one_size ∙ sym (ap (λ (x : Between). x.per_file) between-is)

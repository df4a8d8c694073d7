-- The small logs: which premises hold, and how replay ends.
use Rattle.std.proofs.Common.{ℕ, inl, List, [], ◌∷◌, Ok, refl, subst, arith}
use Rattle.page_masks.specs.Law.{Redone, SamePage, IsChange}
use Rattle.replay_law.specs.Stage.{Fits}
use Rattle.replay_law.specs.Premises.{EndsRise, IsNoNewer, AreEffects, RunsOn, IsHistory}
use Rattle.replay_law.specs.SmallLogs.{clear_view, unsound_view, third, bare, numbered, one_more, one_change, equal_ends, keeps_lsn, then_zeros, shows_third, two_changes, then_gone}

abbrev put : ℕ → ℕ → List ℕ → Redone
put end number p = Ok (end ∷ number ∷ [])

puts_is : (end number : ℕ) → IsChange clear_view end (put end number)
puts_is end number = record { page = λ p q h e. refl; lsn = λ p q h e. cc e; mask = λ p q a b s same. record { lsn = refl; mask = refl } }

pub one_effects : AreEffects clear_view one_change
one_effects = (puts_is 1 9, tt)

pub two_effects : AreEffects clear_view two_changes
two_effects = (puts_is 1 9, (puts_is 2 8, tt))

pub gone_effects : AreEffects clear_view then_gone
gone_effects = (puts_is 1 9, (puts_is 2 8, (tt, tt)))

pub equal_effects : AreEffects clear_view equal_ends
equal_effects = (puts_is 1 8, (puts_is 1 9, tt))

pub zeros_effects : AreEffects clear_view then_zeros
zeros_effects = (puts_is 1 9, (tt, tt))

abbrev show_third : List ℕ → Redone
show_third p = Ok (1 ∷ third p ∷ [])

shows_is : IsChange unsound_view 1 show_third
shows_is = record { page = λ p q h e. refl; lsn = λ p q h e. cc e; mask = λ p q a b s same. cc s }

pub third_effects : AreEffects unsound_view shows_third
third_effects = (shows_is, tt)

-- a record puts its number on a page that it finds
run_one : (at : ℕ) → RunsOn clear_view (bare at) one_change
run_one at = ((refl, (1 ∷ 9 ∷ [], refl)), tt)

pub two_history : IsHistory clear_view 0 (bare 0) two_changes
two_history = record {
  rises = (omega arith, (omega arith, tt));
  effects = two_effects;
  page = refl;
  old = omega arith;
  runs = ((refl, (1 ∷ 9 ∷ [], refl)), ((refl, (2 ∷ 8 ∷ [], refl)), tt));
}

pub gone_history : IsHistory clear_view 0 (bare 0) then_gone
gone_history = record {
  rises = (omega arith, (omega arith, (omega arith, tt)));
  effects = gone_effects;
  page = refl;
  old = omega arith;
  runs = ((refl, (1 ∷ 9 ∷ [], refl)), ((refl, (2 ∷ 8 ∷ [], refl)), (tt, tt)));
}

pub one_history : IsHistory clear_view 0 (bare 0) one_change
one_history = record { rises = (omega arith, tt); effects = one_effects; page = refl; old = omega arith; runs = run_one 0 }

pub newer_others : EndsRise 0 one_change × AreEffects clear_view one_change × RunsOn clear_view (bare 5) one_change
newer_others = ((omega arith, tt), one_effects, run_one 5)

pub zeros_others : EndsRise 0 then_zeros × AreEffects clear_view then_zeros × IsNoNewer clear_view 0 (bare 0) × RunsOn clear_view (bare 0) one_change
zeros_others = ((omega arith, (omega arith, tt)), zeros_effects, omega arith, run_one 0)

pub equal_others : AreEffects clear_view equal_ends × IsNoNewer clear_view 0 (bare 0) × RunsOn clear_view (bare 0) equal_ends
equal_others = (equal_effects, omega arith, ((refl, (1 ∷ 8 ∷ [], refl)), ((refl, (1 ∷ 9 ∷ [], refl)), tt)))

-- the last page of both is the one of the second record
pub equal_fits : Fits clear_view (bare 0) (bare 0) equal_ends × Fits clear_view (bare 0) (numbered 1 9) equal_ends
equal_fits = (inl (0, record { lsn = refl; mask = refl }), inl (2, record { lsn = refl; mask = refl }))

pub keeps_others : EndsRise 0 keeps_lsn × IsNoNewer clear_view 0 (numbered 0 5) × RunsOn clear_view (numbered 0 5) keeps_lsn
keeps_others = ((omega arith, tt), omega arith, ((refl, (0 ∷ 6 ∷ [], refl)), tt))

pub keeps_fits : Fits clear_view (numbered 0 5) (numbered 0 5) keeps_lsn × Fits clear_view (numbered 0 5) (numbered 0 6) keeps_lsn
keeps_fits = (inl (0, record { lsn = refl; mask = refl }), inl (1, record { lsn = refl; mask = refl }))

-- under a mask that shows all, pages that are the same are one
pub keeps_respects : (p q : List ℕ) → SamePage clear_view p q → SamePage clear_view (one_more p) (one_more q)
keeps_respects p q same = subst (λ x. SamePage clear_view (one_more p) (one_more x)) same.mask (record { lsn = refl; mask = refl })

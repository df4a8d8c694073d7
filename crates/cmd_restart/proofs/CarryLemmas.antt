-- How a replay that can be started again is carried out, from what its calls left.
use Rattle.std.proofs.Common.{Option, ◌≡◌, ◌≢◌, ◌⊎◌, Bool, true, false, IsTrue, List, [], ◌∷◌, inl, inr, refl, ap, subst, Result, Ok, Err, OnOk, OnErr, IfErr}
use Rattle.rmgr_hooks.specs.Custom.{Extension}
use Rattle.cluster_tree.specs.Contents.{Contents}
use Rattle.cluster_tree.specs.PathValue.{PathValue}
use Rattle.cluster_tree.specs.Run.{State}
use Rattle.cluster_tree.specs.declared.file_fault.FileFault.TheVariants as file
use Rattle.cluster_tree.specs.declared.tree.ChangeCall.{ChangeCall}
use Rattle.commands.specs.declared.walreplay.WalreplayWords.{WalreplayWords}
use Rattle.file_walk.specs.declared.fault.WalkFault.TheVariants as walk
use Rattle.replay_start.specs.declared.fault.ReplayFault.TheVariants as replay
use Rattle.replay_core.specs.Within.{StaysWithin}
use Rattle.replay_restart.specs.Faults.{IsFree as IsFreeFault}
use Rattle.replay_restart.specs.Meant.{IsLeftBy, WhyEnded, First, WhyFirst}
use Rattle.replay_restart.specs.declared.fault.RestartFault.{RestartFault}
use Rattle.replay_restart.specs.declared.fault.RestartFault.TheVariants as fault
use Rattle.replay_restart.specs.declared.outcome.Restarted.{Restarted}
use Rattle.acts.specs.Acts.{Breaks, Changes, Puts, Refused, Sunk, ends, seen}
use Rattle.acts.proofs.ActSteps.{look_breaks, look_goes_on, within_breaks, within_goes_on}
use Rattle.run_acts.specs.Answers.{Carries, does, refused}
use Rattle.run_acts.specs.Causes.{IsFree, IsOfLook, cause_of, ending_of}
use Rattle.run_acts.specs.Unseen.{CarriesUnseen}
use Rattle.run_acts.specs.declared.cause.Cause.{Cause}
use Rattle.run_acts.specs.declared.cause.Cause.TheVariants as cause
use Rattle.run_acts.proofs.AnswerSteps.{IsBreak, break_ends, break_free, carries_refused, last_exact, last_print}
use Rattle.run_acts.proofs.UnseenSteps.{still, unseen_seen}
use Rattle.run_acts.proofs.WithinSteps.{none-within}
use Rattle.cmd_walreplay.specs.Walreplay.{broken, done_acts}
use Rattle.cmd_restart.specs.Restart.{IsRestartIn, LeavesRestarted, restart_cause, told_line, unknown_answer}

-- ---- changes below the root

abbrev pub state : Contents → List ChangeCall → State
state c k = record { contents = c; calls = k }

changes_of : (root : PathValue) (c c' : Contents) (k k' : List ChangeCall) (out err : Sunk) → StaysWithin root (state c k) (state c' k') → Changes (root ∷ []) (seen c k out err) (seen c' k' out err)
changes_of root c c' k k' out err stays = record {
  made = stays.made;
  grew = stays.grew;
  below = stays.within;
  elsewhere = λ path apart. stays.elsewhere path (λ holds. apart (inl holds));
}

-- ---- causes

-- a change failed, as a fault of the replay or, which none answers, of the walk
abbrev pub IsOfWrite : RestartFault → Type 0
IsOfWrite f = (f ≡ fault.Replay replay.WriteFault) ⊎ (f ≡ fault.Walk (walk.File file.WriteFault))

-- it breaks off, or is refused
breaks_or_refused : (f : RestartFault) → IsOfLook (restart_cause f) ⊎ IsOfWrite f → IsBreak (restart_cause f) ⊎ (ending_of (restart_cause f) ≡ Refused)
breaks_or_refused f (inl (inl is)) = inl (inr (inl is))
breaks_or_refused f (inl (inr (inl is))) = inl (inr (inr is))
breaks_or_refused f (inl (inr (inr is))) = inr is
breaks_or_refused f (inr (inl is)) = inl (inl (ap restart_cause is))
breaks_or_refused f (inr (inr is)) = inl (inl (ap restart_cause is))

-- the cause under its own name
pub looks_by : (f : RestartFault) (why : Cause) → why ≡ restart_cause f → IsOfLook why ⊎ IsOfWrite f → IsOfLook (restart_cause f) ⊎ IsOfWrite f
looks_by f why is looks = subst (λ x. IsOfLook x ⊎ IsOfWrite f) is looks

of_look : (f : RestartFault) → IsOfLook (restart_cause f) ⊎ IsOfWrite f → f ≢ fault.Replay replay.WriteFault → f ≢ fault.Walk (walk.File file.WriteFault) → IsOfLook (restart_cause f)
of_look f (inl looks) other walked = looks
of_look f (inr (inl is)) other walked = absurd (other is)
of_look f (inr (inr is)) other walked = absurd (walked is)

-- a free fault has a free cause
pub free_cause : (f : RestartFault) → IsFreeFault f → IsFree (restart_cause f)
free_cause (fault.Replay e) (inl is) = inl (ap (λ x. restart_cause (fault.Replay x)) is)
free_cause (fault.Replay e) (inr (inl is)) = inr (inl (ap (λ x. restart_cause (fault.Replay x)) is))
free_cause (fault.Replay e) (inr (inr (inl is))) = inr (inr (inr (ap (λ x. restart_cause (fault.Replay x)) is)))
free_cause (fault.Replay e) (inr (inr (inr none))) = absurd none
free_cause (fault.Walk e) (inl is) = inl (ap (λ x. restart_cause (fault.Walk x)) is)
free_cause (fault.Walk e) (inr is) = inr (inr (inr (ap (λ x. restart_cause (fault.Walk x)) is)))
free_cause (fault.BadPlan root number) none = absurd none
free_cause (fault.ShadowDiffers path) none = absurd none
free_cause (fault.NotRestartable name) none = absurd none

-- ---- what it leaves

pub leaves_restarted : (custom : Option Extension) (words : WalreplayWords) (tells : Bool) (c c' : Contents) (out out' : Sunk) (what : Restarted) (r : Result (Unit {0}) Cause) → IsLeftBy custom c words.root c' what
    → OnOk r (Puts tells (told_line what) out out') → OnOk r (LeavesRestarted custom words tells c c' out.text out'.text)
leaves_restarted custom words tells c c' out out' what (Ok u) left puts = record { what = what; left = left; line = puts.added }
leaves_restarted custom words tells c c' out out' what (Err e) left puts = tt

-- ---- how it is carried out

-- what is known of a fault
pub record Faults (custom : Option Extension) (tells : Bool) (words : WalreplayWords) (c c' : Contents) (k k' : List ChangeCall) (f : RestartFault) : Type 0 where
  pub looks : IsOfLook (restart_cause f) ⊎ IsOfWrite f
  pub meant : IsTrue tells → IsFreeFault f ⊎ WhyEnded custom c words.root f
  pub within : IsTrue tells → StaysWithin words.root (state c k) (state c' k')
  pub checked : IsTrue tells → (g : RestartFault) → WhyFirst custom c words.root g → state c' k' ≡ state c k
  pub unwritten : IsTrue tells → (g : RestartFault) → WhyFirst custom c words.root g → f ≢ fault.Replay replay.WriteFault
  pub walked : f ≢ fault.Walk (walk.File file.WriteFault)

module _ (custom : Option Extension) {o e : Bool} (words : WalreplayWords) (c c' : Contents) (k k' : List ChangeCall) {out err : Sunk} where
  -- all was done, and then it was told
  pub restart_told : (tells : Bool) {out' : Sunk} (what : Restarted) (r : Result (Unit {0}) Cause) → (IsTrue tells → IsLeftBy custom c words.root c' what)
      → (IsTrue tells → StaysWithin words.root (state c k) (state c' k')) → OnOk r (Puts o (told_line what) out out') → OnErr r (Breaks o (told_line what) out out') → IfErr r (λ x. x ≡ cause.SinkFault)
      → CarriesUnseen (IsTrue tells) ⊥ unknown_answer (IsRestartIn (IsTrue tells) custom c words) o e (cause_of r) (seen c k out err) (seen c' k' out' err)
  restart_told true what r meant within puts breaks only = unseen_seen refl (record {
    answer = does (done_acts words c' (told_line what));
    known = λ never. absurd never;
    form = (inl (c', what, refl), (λ t. inl (c', what, meant refl, refl)));
    exact = last_exact r only;
    acts = look_goes_on (within_goes_on (changes_of words.root c c' k k' out err (within refl)) refl (last_print r puts breaks only refl));
  })
  restart_told false what r meant within puts breaks only = record {
    from = λ d j own. record {
      after = still d j (λ t. cc);
      carries = record {
        answer = does (done_acts words d (told_line what));
        known = λ never. absurd never;
        form = (inl (d, what, refl), (λ t. cc));
        exact = last_exact r only;
        acts = look_goes_on (within_goes_on (none-within (words.root ∷ []) d j out err) refl (last_print r puts breaks only refl));
      };
    };
  }

  -- it broke off, or was refused behind the first change
  later : (f : RestartFault) → IsFreeFault f ⊎ WhyEnded custom c words.root f → Changes (words.root ∷ []) (seen c k out err) (seen c' k' out err) → IsBreak (restart_cause f) ⊎ (ending_of (restart_cause f) ≡ Refused)
      → Carries ⊥ unknown_answer (IsRestartIn (IsTrue true) custom c words) o e (restart_cause f) (seen c k out err) (seen c' k' out err)
  later f why changes (inl breaks) = record {
    answer = broken words (restart_cause f);
    known = λ never. absurd never;
    form = (inr (inr (f, refl)), (λ t. inr (inr (f, why, refl))));
    exact = inr refl;
    acts = look_goes_on (within_breaks (break_ends breaks) changes);
  }
  later f why changes (inr refuses) = record {
    answer = broken words (restart_cause f);
    known = λ never. absurd never;
    form = (inr (inr (f, refl)), (λ t. inr (inr (f, why, refl))));
    exact = inr refl;
    acts = look_goes_on (within_goes_on changes tt (ends (inr refuses)));
  }

  -- it was refused before that
  first : (f : RestartFault) → WhyFirst custom c words.root f → IsOfLook (restart_cause f) → c' ≡ c → k' ≡ k
      → Carries ⊥ unknown_answer (IsRestartIn (IsTrue true) custom c words) o e (restart_cause f) (seen c k out err) (seen c' k' out err)
  first f why (inl is) ci ki = record {
    answer = refused (restart_cause f);
    known = λ never. absurd never;
    form = (inr (inl (restart_cause f, inl is, refl)), (λ t. inr (inl (f, why, refl))));
    exact = inr refl;
    acts = look_breaks (inl (ap ending_of is)) ci ki;
  }
  first f why (inr (inl is)) ci ki = record {
    answer = refused (restart_cause f);
    known = λ never. absurd never;
    form = (inr (inl (restart_cause f, inr (inl is), refl)), (λ t. inr (inl (f, why, refl))));
    exact = inr refl;
    acts = look_breaks (inr (ap ending_of is)) ci ki;
  }
  first f why (inr (inr is)) ci ki =
      carries_refused (restart_cause f) is (λ never. absurd never) (inr (inl (restart_cause f, inr (inr is), refl)), (λ t. inr (inl (f, why, refl)))) ci ki

  -- by the point that refuses
  by_why : (f : RestartFault) → IsFreeFault f ⊎ WhyEnded custom c words.root f → Faults custom true words c c' k k' f
      → Carries ⊥ unknown_answer (IsRestartIn (IsTrue true) custom c words) o e (restart_cause f) (seen c k out err) (seen c' k' out err)
  by_why f (inr (First g why)) faults =
      let same = faults.checked refl g why in
      first g why (of_look g faults.looks (faults.unwritten refl g why) faults.walked) (ap (λ (x : State). x.contents) same) (ap (λ (x : State). x.calls) same)
  by_why f why faults = later f why (changes_of words.root c c' k k' out err (faults.within refl)) (breaks_or_refused f faults.looks)

  -- the tree doesn't tell, so it may have stayed as it was
  untold : (f : RestartFault) → IsBreak (restart_cause f) ⊎ (ending_of (restart_cause f) ≡ Refused)
      → CarriesUnseen (IsTrue false) ⊥ unknown_answer (IsRestartIn (IsTrue false) custom c words) o e (restart_cause f) (seen c k out err) (seen c' k' out err)
  untold f (inl breaks) = record {
    from = λ d j own. record {
      after = still d j (λ t. cc);
      carries = record {
        answer = broken words (restart_cause f);
        known = λ never. absurd never;
        form = (inr (inr (f, refl)), (λ t. cc));
        exact = inl (break_free breaks);
        acts = look_goes_on (within_breaks (break_ends breaks) (none-within (words.root ∷ []) d j out err));
      };
    };
  }
  untold f (inr refuses) = record {
    from = λ d j own. record {
      after = still d j (λ t. cc);
      carries = carries_refused (restart_cause f) refuses (λ never. absurd never) (inr (inl (restart_cause f, inr (inr refuses), refl)), (λ t. cc)) refl refl;
    };
  }

  pub restart_faulted : (tells : Bool) (f : RestartFault) → Faults custom tells words c c' k k' f
      → CarriesUnseen (IsTrue tells) ⊥ unknown_answer (IsRestartIn (IsTrue tells) custom c words) o e (restart_cause f) (seen c k out err) (seen c' k' out err)
  restart_faulted true f faults = unseen_seen refl (by_why f (faults.meant refl) faults)
  restart_faulted false f faults = untold f (breaks_or_refused f faults.looks)

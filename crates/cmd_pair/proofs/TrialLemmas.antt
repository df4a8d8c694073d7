-- A pair that is rewound, replayed and compared, step by step.
use Rattle.std.proofs.Common.{None, ◌≡◌, ◌∙◌, ℕ, Result, Ok, Err, OnOk, inl, inr, refl, sym, ap, subst}
use Rattle.cluster_compare.specs.Compared.{compared}
use Rattle.cluster_compare.specs.Same.{IsSameCluster}
use Rattle.cluster_compare.specs.declared.compared.Compared.TheVariants.{Same}
use Rattle.cluster_tree.specs.Contents.{Contents, IsTree}
use Rattle.cluster_tree.specs.PathValue.{PathValue}
use Rattle.pair_laws.specs.Ends.{StaysBut}
use Rattle.pair_laws.specs.Grew.{pair_rewind}
use Rattle.pair_laws.specs.Stands.{HasCopy, HasPair, copy_of, target_of}
use Rattle.pair_laws.proofs.EndLemmas.{copy-stays, pairs-end}
use Rattle.pair_laws.proofs.PairLemmas.{pair-has_copy, pairs-follow}
use Rattle.replay_core.specs.Replayed.{After, after_replay}
use Rattle.replay_core.specs.Went.{IsAfter, IsCause}
use Rattle.replay_core.specs.declared.outcome.Replayed.{Replayed}
use Rattle.replay_start.specs.declared.fault.ReplayFault.{ReplayFault}
use Rattle.rewind_core.specs.Fits.{IsRewound}
use Rattle.run_acts.specs.Causes.{IsFree}
use Rattle.run_acts.specs.declared.cause.Cause.{Cause}
use Rattle.run_acts.specs.declared.cause.Cause.TheVariants as cause
use Rattle.run_acts.proofs.AnswerSteps.{unfree}
use Rattle.cmd_pair.specs.Tried.{Ends, IsFreeReplay, IsReplayedPair, IsTriedPair}
use Rattle.pair_laws.proofs.CompareLemmas.{pairs-compare}

-- what is free isn't what the tree contradicted
pub freed : {e : Cause} (path : PathValue) → IsFree e → ◌≡◌ {A = Result (Unit {0}) Cause} (Err e) (Err (cause.Changed path)) → ⊥
freed {e} path free is = let same : e ≡ cause.Changed path = cc is in unfree (cause.Changed path) refl (subst IsFree same free)

-- ---- one replay

after_same : (a b : After) → ◌≡◌ {A = Result After ReplayFault} (Ok a) (Ok b) → a ≡ b
after_same a b is = cc is

pub replayed-files : (c c' : Contents) (root : PathValue) (told : Replayed) → IsAfter (after_replay None c root) told c' → (ends : Ends c root) → c' ≡ ends.after.files
replayed-files c c' root told is ends = is.files_are ∙ ap (λ (a : After). a.files) (after_same is.after ends.after (sym is.is ∙ ends.ends))

pub replay-free : (c : Contents) (root : PathValue) (f : ReplayFault) → Ends c root → IsCause (after_replay None c root) f → IsFreeReplay f
replay-free c root f ends (inl (inl is)) = subst IsFreeReplay (sym is) (inl refl)
replay-free c root f ends (inl (inr (inl is))) = subst IsFreeReplay (sym is) tt
replay-free c root f ends (inl (inr (inr (inl is)))) = subst IsFreeReplay (sym is) (inr refl)
replay-free c root f ends (inl (inr (inr (inr none)))) = absurd none
replay-free c root f ends (inr meant) = absurd (cc (sym ends.ends ∙ meant))

-- what a replay leaves, at a path under another name
files_at : {c : Contents} {one other : PathValue} (is : one ≡ other) (ends : Ends c other) → (subst (Ends c) (sym is) ends).after.files ≡ ends.after.files
files_at {c} {one} {other} is ends =
    ap (λ (a : After). a.files) (after_same _ _ (sym (subst (Ends c) (sym is) ends).ends ∙ ap (after_replay None c) is ∙ ends.ends))

-- ---- both

module _ (root : PathValue) (seed blocks : ℕ) (c c' : Contents) (pair : HasPair root seed blocks c) (rewound : IsRewound c (pair_rewind root seed blocks c) c') where
  -- the replay of the rewound target ends
  pub target-ends : Ends c' (target_of root)
  target-ends =
      let both = pairs-follow root (copy_of root) seed blocks c c' c pair (pair-has_copy root seed blocks c pair) rewound in
      record { after = both.alike.after; ends = both.alike.ends }

  -- and so does that of the copy behind it
  pub copy-ends : (d : Contents) → IsTree d → StaysBut (target_of root) c' d → Ends d (copy_of root)
  copy-ends d tree alone =
      let stays : StaysBut (target_of root) c d = λ path out. alone path out ∙ rewound.elsewhere path out in
      let has : HasCopy root (copy_of root) seed blocks d =
      record { room = (pair-has_copy root seed blocks c pair).room; tree = tree; stands = copy-stays root seed blocks c d pair stays } in
      let both = pairs-follow root (copy_of root) seed blocks c c' d pair has rewound in
      record { after = both.after; ends = both.ends }

  -- what both leave
  pub both-replayed : (d e : Contents) → IsTree d → (one : Ends c' (target_of root)) → d ≡ one.after.files → StaysBut (target_of root) c' d
      → (two : Ends d (copy_of root)) → e ≡ two.after.files → StaysBut (copy_of root) d e → IsReplayedPair root seed blocks c e
  both-replayed d e tree one one_is one_alone two two_is two_alone = record {
    rewound = c';
    target = one.after;
    copy = two.after;
    tried = record {
      rewound = rewound;
      target_ends = one.ends;
      target_alone = subst (λ x. StaysBut (target_of root) c' x) one_is one_alone;
      tree = subst IsTree one_is tree;
      copy_ends = subst (λ x. after_replay None x (copy_of root) ≡ Ok two.after) one_is two.ends;
      copy_alone = subst (λ x. StaysBut (copy_of root) x two.after.files) one_is (subst (λ y. StaysBut (copy_of root) d y) two_is two_alone);
    };
    left = two_is;
  }

  -- the same of a run that is done, at its own paths
  pub both-at : (first second : PathValue) → first ≡ target_of root → second ≡ copy_of root → (d e : Contents) → IsTree d
      → ((ends : Ends c' first) → d ≡ ends.after.files) → StaysBut first c' d
      → (r : Result (Unit {0}) Cause) → ((ends : Ends d second) → OnOk r (e ≡ ends.after.files)) → StaysBut second d e → OnOk r (IsReplayedPair root seed blocks c e)
  both-at first second at_target at_copy d e tree one one_alone (Err why) two two_alone = tt
  both-at first second at_target at_copy d e tree one one_alone (Ok u) two two_alone =
      let ends_one = target-ends in
      let alone = subst (λ x. StaysBut x c' d) at_target one_alone in
      let ends_two = copy-ends d tree alone in
      both-replayed d e tree ends_one (one (subst (Ends c') (sym at_target) ends_one) ∙ files_at at_target ends_one) alone
      ends_two (two (subst (Ends d) (sym at_copy) ends_two) ∙ files_at at_copy ends_two) (subst (λ x. StaysBut x d e) at_copy two_alone)

-- ---- and their comparison

module _ (root : PathValue) (seed blocks : ℕ) (c d : Contents) (pair : HasPair root seed blocks c) (replayed : IsReplayedPair root seed blocks c d) where
  pub compares-same : compared d (copy_of root) (target_of root) ≡ Ok Same
  compares-same =
      subst (λ x. compared x (copy_of root) (target_of root) ≡ Ok Same) (sym replayed.left)
      (pairs-compare root seed blocks c replayed.rewound replayed.target replayed.copy pair replayed.tried)

  tried_pair : IsTriedPair root seed blocks d
  tried_pair = record {
    made = c;
    stands = pair;
    replayed = replayed;
    same = subst (λ x. IsSameCluster 131072 x (copy_of root) x (target_of root)) (sym replayed.left) (pairs-end root seed blocks c replayed.rewound replayed.target replayed.copy pair replayed.tried);
    compares = compares-same;
  }

pub tried-at : (root : PathValue) (seed blocks : ℕ) (c d e : Contents) → HasPair root seed blocks c → IsReplayedPair root seed blocks c d → e ≡ d → (r : Result (Unit {0}) Cause) → OnOk r (IsTriedPair root seed blocks e)
tried-at root seed blocks c d e pair replayed same (Ok u) = subst (IsTriedPair root seed blocks) (sym same) (tried_pair root seed blocks c d pair replayed)
tried-at root seed blocks c d e pair replayed same (Err why) = tt

-- A mark whose second gate is open is taken up as that of a replay that had ended.
use Rattle.std.proofs.Common.{◌≡◌, ℕ, true, false, List, [], ◌∷◌, codes, cond, option_map, Option, None, Some, Result, Ok, Err, refl, ap, sym, ◌∙◌}
use Rattle.cluster_tree.specs.Causes.{given, unless}
use Rattle.cluster_tree.specs.Contents.{Contents, FileEntry, entry_at}
use Rattle.cluster_tree.specs.PathOrder.{path_eq}
use Rattle.cluster_tree.specs.PathValue.{PathValue, below}
use Rattle.cluster_tree.proofs.OrderLemmas.{path_eq-own}
use Rattle.cluster_tree.specs.Tree.{file_of}
use Rattle.clusters.specs.Marks.{unfinished}
use Rattle.clusters.specs.WholeFile.{all_of}
use Rattle.gated_marks.specs.Gates.{plus}
use Rattle.replay_copies.specs.Ended.{with_gate}
use Rattle.replay_copies.specs.Laid.{mark_of}
use Rattle.replay_copies.proofs.TellLemmas.{ended-told}
use Rattle.replay_core.proofs.StartedLemmas.{is_given}
use Rattle.replay_list.specs.Mark.{mark_told}
use Rattle.replay_list.specs.declared.listed.Listed.{Listed}
use Rattle.replay_list.specs.declared.mark.ReplayMark.{ReplayMark}
use Rattle.replay_list.specs.declared.mark.ReplayMark.TheVariants.{Complete, Ended, NotComplete, Version1}
use Rattle.replay_restart.specs.Meant.{taken_of, taken_up}
use Rattle.replay_restart.proofs.ReadyLemmas.{can-lay}
use Rattle.replay_restart.proofs.TakenLemmas.{by-mark, taken-told, unbegun}
use Rattle.replay_start.specs.Checked.{Start}
use Rattle.restart_laws.specs.Stopped.{WasBegun}
use Rattle.restart_laws.proofs.BegunLemmas.{own-seen}
use Rattle.restart_laws.proofs.StartLemmas.{MarksSame, none-unfinished, unfinished-same}
use Rattle.restart_start.specs.Beginning.{without_own}
use Rattle.rmgr_hooks.specs.Custom.{Extension}
use Rattle.stored_replay.specs.Faults.{told_by}
use Rattle.stored_replay.specs.Marks.{is_old, is_old_file, marks_seen, own_bytes}
use Rattle.stored_replay.specs.Shadows.{first_lost}
use Rattle.stored_replay.specs.Stored.{Begun, HadEnded, list_in, told_as, told_in, with_copies}
use Rattle.stored_replay.specs.declared.fault.StoredReplayFault.{StoredReplayFault}
use Rattle.stored_replay.specs.declared.fault.StoredReplayFault.TheVariants as fault
use Rattle.without_file.specs.Without.{seen}

-- a mark that tells that is none of version 1
not_old : (y : Contents) (root : PathValue) (o : Option (List ℕ)) → told_in y root o ≡ Ok HadEnded → is_old_file o ≡ false
not_old y root None told = refl
not_old y root (Some bytes) told = by (mark_told bytes) told
  where
    by : (mark : ReplayMark) → told_as y root bytes mark ≡ Ok HadEnded → is_old mark ≡ false
    by Version1 e = absurd cc
    by NotComplete e = refl
    by Complete e = refl
    by Ended e = refl

-- it is taken up where no other mark stands
told-taken : (y : Contents) (root : PathValue) → told_in y root (own_bytes y root) ≡ Ok HadEnded → unfinished (without_own y root) root ≡ None → taken_of y root ≡ Ok HadEnded
told-taken y root told none =
    let seen_none : unfinished (marks_seen y root) root ≡ None = ap (λ b. unfinished (cond b y (without_own y root)) root) (not_old y root (own_bytes y root) told) ∙ none in
    ap (taken_up root) (ap (λ o. given (told_by (unless o (Ok (own_bytes y root)))) (told_in y root)) seen_none ∙ told)

module _ (custom : Option Extension) (root : PathValue) (s : Start) (listed : List Listed) (c d y : Contents) (begun : WasBegun custom root s listed c d)
    (rewind : entry_at y (below root (codes "pg_rewind.unfinished" ∷ [])) ≡ entry_at c (below root (codes "pg_rewind.unfinished" ∷ [])))
    (reset : entry_at y (below root (codes "pg_resetwal.unfinished" ∷ [])) ≡ entry_at c (below root (codes "pg_resetwal.unfinished" ∷ [])))
    (mark : entry_at y (mark_of root) ≡ Some (FileEntry (with_gate root d plus))) where
  abbrev e : Contents
  e = without_own c root

  as_seen : (path : PathValue) → entry_at y path ≡ entry_at c path → entry_at (without_own y root) path ≡ entry_at e path
  as_seen path same = own-seen y root path ∙ ap (seen (path_eq path (mark_of root))) same ∙ sym (own-seen c root path)

  marks : MarksSame root (without_own y root) e
  marks = record {
    rewind = as_seen (below root (codes "pg_rewind.unfinished" ∷ [])) rewind;
    replay = own-seen y root (mark_of root) ∙ ap (λ t. seen t (entry_at y (mark_of root))) (path_eq-own (mark_of root)) ∙ ap (seen true) mark ∙ sym (is_given custom e root s begun.may.passes).mark;
    reset = as_seen (below root (codes "pg_resetwal.unfinished" ∷ [])) reset;
  }

  pub ended-taken : taken_of y root ≡ Ok HadEnded
  ended-taken =
      told-taken y root (ended-told root listed c d y (can-lay c root custom s listed begun.tree (unbegun c root begun.anew) begun.may begun.list) begun.laid mark)
      (unfinished-same root (without_own y root) e marks ∙ none-unfinished custom root e s begun.may.passes)

-- ---- while its copies and its mark are removed

ended_by : (x y : Contents) (root : PathValue) (r : Result (List Listed) StoredReplayFault) → given r (with_copies x root) ≡ Ok HadEnded → given r (with_copies y root) ≡ Ok HadEnded
ended_by x y root (Ok listed) told = by (first_lost x root 0 listed) told
  where
    by : (o : Option PathValue) → unless (option_map fault.ShadowDiffers o) (Ok (Begun listed)) ≡ Ok HadEnded → given (Ok listed) (with_copies y root) ≡ Ok HadEnded
    by None e = absurd cc
    by (Some p) e = absurd cc
ended_by x y root (Err f) told = absurd cc

ended_in : (x y : Contents) (root : PathValue) (o : Option (List ℕ)) → told_in x root o ≡ Ok HadEnded → told_in y root o ≡ Ok HadEnded
ended_in x y root None told = absurd cc
ended_in x y root (Some bytes) told = by (mark_told bytes) told
  where
    by : (mark : ReplayMark) → told_as x root bytes mark ≡ Ok HadEnded → told_as y root bytes mark ≡ Ok HadEnded
    by Version1 e = absurd cc
    by NotComplete e = absurd cc
    by Complete e = ended_by x y root (list_in root bytes) e
    by Ended e = e

-- what has the same marks is taken up so too
pub still-ended : (x y : Contents) (root : PathValue) → entry_at y (mark_of root) ≡ entry_at x (mark_of root)
    → entry_at y (below root (codes "pg_rewind.unfinished" ∷ [])) ≡ entry_at x (below root (codes "pg_rewind.unfinished" ∷ []))
    → entry_at y (below root (codes "pg_resetwal.unfinished" ∷ [])) ≡ entry_at x (below root (codes "pg_resetwal.unfinished" ∷ [])) → taken_of x root ≡ Ok HadEnded → taken_of y root ≡ Ok HadEnded
still-ended x y root mark rewind reset taken =
    let by = by-mark x root HadEnded (taken-told x root HadEnded taken) in
    let none : unfinished (without_own x root) root ≡ None = ap (λ b. unfinished (cond b x (without_own x root)) root) (sym (not_old x root (own_bytes x root) by.told)) ∙ by.seen in
    let as_seen : (path : PathValue) → entry_at y path ≡ entry_at x path → entry_at (without_own y root) path ≡ entry_at (without_own x root) path =
    λ path same. own-seen y root path ∙ ap (seen (path_eq path (mark_of root))) same ∙ sym (own-seen x root path) in
    told-taken y root (ap (λ o. told_in y root (all_of (file_of o))) mark ∙ ended_in x y root (own_bytes x root) by.told)
    (unfinished-same root (without_own y root) (without_own x root)
    (record { rewind = as_seen (below root (codes "pg_rewind.unfinished" ∷ [])) rewind; replay = as_seen (mark_of root) mark; reset = as_seen (below root (codes "pg_resetwal.unfinished" ∷ [])) reset })
    ∙ none)

-- The stages of what is found out, each from the next one.
use Rattle.std.proofs.Common.{◌≡◌, ◌⊎◌, ◌≤◌, ◌<◌, ℕ, inl, inr, None, Some, Result, Ok, Err, option_map, refl, ap, sym, subst, ◌∙◌, if◌then◌else◌}
use Rattle.std.proofs.lemmas.Bool.{le-leb, lt-leb}
use Rattle.cluster_tree.specs.Contents.{Contents}
use Rattle.cluster_tree.specs.Causes.{given, unless}
use Rattle.wal_base.specs.Segment.{bytes_of}
use Rattle.wal_base.specs.declared.lsn.Lsn.{Lsn}
use Rattle.wal_base.specs.declared.seg_size.SegSize.{SegSize}
use Rattle.control_file.specs.declared.control.Control.{Control}
use Rattle.timeline_history.specs.declared.ancestor.Divergence.{Divergence}
use Rattle.wal_pages.specs.declared.log_path.LogPath.{LogPath}
use Rattle.wal_records.specs.Further.{Pages, pages_of}
use Rattle.wal_records.specs.Log.{log_of}
use Rattle.touched_blocks.specs.Set.{TouchedView}
use Rattle.log_walk.specs.Back.{common_checkpoint}
use Rattle.log_walk.specs.First.{end_of_target}
use Rattle.log_walk.specs.Needed.{needed, read_refusal}
use Rattle.log_walk.specs.declared.checkpoint.CommonCheckpoint.{CommonCheckpoint}
use Rattle.rewind_survey.specs.Faults.{IsFree, of_walk, walked}
use Rattle.rewind_survey.specs.Marks.{IsTouchedBy}
use Rattle.rewind_survey.specs.Survey.{AtFork, FitsFound, Parted, Surveys, Survey, parted, past_fork, read_from, told_of, walked_back}
use Rattle.rewind_survey.specs.declared.fault.RewindFault.{RewindFault}
use Rattle.rewind_survey.specs.declared.outcome.Surveyed.{Surveyed}
use Rattle.rewind_survey.specs.declared.outcome.Surveyed.TheVariants as surveyed
use Rattle.rewind_survey.proofs.GivenLemmas.{given-err, plans_given, unless-some}

module _ (pages : Pages) (size : ℕ) (fork : Divergence) where
  -- the log was read, and what its records touch is held
  pub read_parted : (end : ℕ) (found : CommonCheckpoint) (redo : Lsn) (touched : TouchedView) → option_map of_walk (read_refusal end (log_of pages size found.checkpoint.redo)) ≡ None
      → IsTouchedBy (needed end (log_of pages size found.checkpoint.redo)) touched → redo.0 ≡ found.checkpoint.redo
      → FitsFound (read_from pages size fork end found) (surveyed.Parted (record { told = told_of fork found; redo = redo; touched = touched }))
  unfolding read_from
  read_parted end found redo touched none marks is = record {
    survey = Parted (record { told = told_of fork found; redo = found.checkpoint.redo; records = needed end (log_of pages size found.checkpoint.redo) });
    found = ap (λ r. unless r (Ok (Parted (record { told = told_of fork found; redo = found.checkpoint.redo; records = needed end (log_of pages size found.checkpoint.redo) })))) none;
    fits = record { told = refl; redo = is; touched = marks };
  }

  -- or it is refused
  pub read_refused : (end : ℕ) (found : CommonCheckpoint) (e : RewindFault) → IsFree e ⊎ (option_map of_walk (read_refusal end (log_of pages size found.checkpoint.redo)) ≡ Some e)
      → IsFree e ⊎ (read_from pages size fork end found ≡ Err e)
  unfolding read_from
  read_refused end found e h = unless-some _ _ e h

  pub walk_plan : (end : ℕ) (found : CommonCheckpoint) (r : Result Surveyed RewindFault) → walked (common_checkpoint pages size fork.at.0) ≡ Ok found
      → Surveys (read_from pages size fork end found) r → Surveys (walked_back pages size fork end) r
  unfolding walked_back
  walk_plan end found r is p = plans_given r (read_from pages size fork end) is p

  pub walk_refused : (end : ℕ) (e : RewindFault) → IsFree e ⊎ (walked (common_checkpoint pages size fork.at.0) ≡ Err e)
      → IsFree e ⊎ (walked_back pages size fork end ≡ Err e)
  unfolding walked_back
  walk_refused end e h = given-err _ (read_from pages size fork end) e h

  -- the target's log ends at the fork
  fork_plan : (end : Lsn) → end.0 ≤ fork.at.0 → past_fork pages size fork end ≡ Ok (AtFork fork)
  fork_plan end le = ap (λ t. if t then Ok (AtFork fork) else walked_back pages size fork end.0) (le-leb end.0 fork.at.0 le)

  pub end_plan : (t : Control) (end : Lsn) → walked (end_of_target pages size t) ≡ Ok end → end.0 ≤ fork.at.0 → FitsFound (parted pages size t fork) (surveyed.EndsAtFork fork)
  unfolding parted
  end_plan t end is le = record { survey = AtFork fork; found = ap (λ m. given m (past_fork pages size fork)) is ∙ fork_plan end le; fits = refl }

  -- or past it
  pub past_plan : (t : Control) (end : Lsn) (r : Result Surveyed RewindFault) → walked (end_of_target pages size t) ≡ Ok end → fork.at.0 < end.0
      → Surveys (walked_back pages size fork end.0) r → Surveys (parted pages size t fork) r
  unfolding parted
  past_plan t end r is lt p =
      let P : Result Survey RewindFault → Type 0 = λ m. Surveys m r in
      plans_given r (past_fork pages size fork) is
      (subst P (sym (ap (λ t. if t then Ok (AtFork fork) else walked_back pages size fork end.0) (lt-leb end.0 fork.at.0 lt))) p)

  pub end_refused : (t : Control) (e : RewindFault) → IsFree e ⊎ (walked (end_of_target pages size t) ≡ Err e) → IsFree e ⊎ (parted pages size t fork ≡ Err e)
  unfolding parted
  end_refused t e h = given-err _ (past_fork pages size fork) e h

-- a fault that is handed on
pub handed-plan : (meant : Result Survey RewindFault) (r : Result Surveyed RewindFault) (e : RewindFault) → ((f : RewindFault) × (r ≡ Err f) × (f ≡ e)) → IsFree e ⊎ (meant ≡ Err e) → Surveys meant r
handed-plan meant r e p why = subst (Surveys meant) (sym (p.1 ∙ ap (λ x. Err x) p.2)) why

-- where the log and the contents stay, and the size is that of the log's segments
module _ {log log' : LogPath} {c c' : Contents} (size : SegSize) (fork : Divergence) (r : Result Surveyed RewindFault) where
  pub read_at : (end : ℕ) (found : CommonCheckpoint) → log' ≡ log → c' ≡ c → size ≡ log.size
      → Surveys (read_from (pages_of log' c') (bytes_of log'.size) fork end found) r → Surveys (read_from (pages_of log c) (bytes_of size) fork end found) r
  read_at end found li ci si p =
      let P : LogPath → Type 0 = λ l. Surveys (read_from (pages_of l c') (bytes_of l.size) fork end found) r in
      let Q : Contents → Type 0 = λ x. Surveys (read_from (pages_of log x) (bytes_of log.size) fork end found) r in
      let S : SegSize → Type 0 = λ s. Surveys (read_from (pages_of log c) (bytes_of s) fork end found) r in
      subst S (sym si) (subst Q ci (subst P li p))

  pub walked_at : (end : ℕ) → log' ≡ log → c' ≡ c
      → Surveys (walked_back (pages_of log' c') (bytes_of size) fork end) r → Surveys (walked_back (pages_of log c) (bytes_of size) fork end) r
  walked_at end li ci p =
      let P : LogPath → Type 0 = λ l. Surveys (walked_back (pages_of l c') (bytes_of size) fork end) r in
      let Q : Contents → Type 0 = λ x. Surveys (walked_back (pages_of log x) (bytes_of size) fork end) r in
      subst Q ci (subst P li p)

-- the size under another name
pub size_at : {A : Type 0} (f : ℕ → A) (v : A) (size size' : SegSize) → size ≡ size' → f (bytes_of size') ≡ v → f (bytes_of size) ≡ v
size_at f v size size' si is = ap (λ s. f (bytes_of s)) si ∙ is

pub size_or : {A : Type 0} (f : ℕ → A) (free : Type 0) (v : A) (size size' : SegSize) → size ≡ size' → free ⊎ (f (bytes_of size') ≡ v) → free ⊎ (f (bytes_of size) ≡ v)
size_or f free v size size' si (inl h) = inl h
size_or f free v size size' si (inr is) = inr (size_at f v size size' si is)

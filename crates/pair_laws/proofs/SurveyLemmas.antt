-- What a survey of a pair finds: the two have parted where the common checkpoint ends.
use Rattle.std.proofs.Common.{◌≡◌, ℕ, ◌<◌, ◌^◌, None, Ok, option_map, refl, ap, ◌∙◌, arith}
use Rattle.cluster_tree.specs.Causes.{first_of, given as given_read, unless}
use Rattle.cluster_tree.specs.Contents.{Contents}
use Rattle.cluster_tree.specs.PathValue.{PathValue}
use Rattle.clusters.specs.Marks.{unfinished}
use Rattle.clusters.specs.RootControl.{control_at}
use Rattle.clusters.specs.RootHistory.{history_at}
use Rattle.clusters.specs.RootLog.{log_at}
use Rattle.control_file.specs.declared.control.Control.{Control}
use Rattle.rewind_survey.specs.Faults.{told_by}
use Rattle.rewind_survey.specs.Fitness.{no_hints, not_clean, other_sizes, systems_differ}
use Rattle.rewind_survey.specs.Survey.{Parted, fork_in, from_controls, from_histories, in_log, survey_of, target_log}
use Rattle.rewind_survey.specs.declared.fault.RewindFault.TheVariants as fault
use Rattle.timeline_history.specs.Ancestor.{divergence_of}
use Rattle.wal_records.specs.Again.{log_records}
use Rattle.wal_records.specs.Further.{pages_of}
use Rattle.wal_records.specs.Writer.{begun}
use Rattle.pair_maker.specs.Files.{control_of}
use Rattle.pair_maker.specs.Logs.{last_place, megabyte, origin_of, records_of}
use Rattle.pair_maker.specs.declared.side.Side.TheVariants.{Target, Source}
use Rattle.pair_laws.specs.Read.{IsRead}
use Rattle.pair_laws.specs.Survey.{pair_fork, pair_parting}
use Rattle.pair_laws.specs.Stands.{HasPair, source_of, target_of}
use Rattle.pair_laws.proofs.ControlLemmas.{size-is, source-control_at, target-control_at}
use Rattle.pair_laws.proofs.HistoryLemmas.{forks-apart, source-history_at, target-history_at, target_spans}
use Rattle.pair_laws.proofs.NamesLemmas.{all-named, names_of_log}
use Rattle.pair_laws.proofs.PlaceLemmas.{source-finished, target-finished}
use Rattle.pair_laws.proofs.RecordLemmas.{AllHaveNames, all-given}
use Rattle.pair_laws.proofs.WalkLemmas.{parted-found, place-low}

module _ (root : PathValue) (seed blocks : ℕ) (c : Contents) (pair : HasPair root seed blocks c) (read : IsRead (pages_of (log_at (target_of root) None target_spans megabyte) c) Target (records_of Target seed blocks)) (low : last_place Source seed blocks < 2 ^ 64) where
  abbrev target : PathValue
  target = target_of root

  abbrev source : PathValue
  source = source_of root

  abbrev t : Control
  t = control_of Target seed blocks

  abbrev s : Control
  s = control_of Source seed blocks

  target_low : last_place Target seed blocks < 2 ^ 64
  target_low = place-low target target_spans c seed blocks read

  pub pair-names : AllHaveNames (log_records (begun (origin_of Target)) (records_of Target seed blocks)) (names_of_log Target seed blocks)
  pair-names =
      all-given (begun (origin_of Target)) (records_of Target seed blocks) (names_of_log Target seed blocks) read.each
      (all-named Target seed blocks (let few = pair.few in omega (arith, few)) target_low)

  pub target-read : control_at c target ≡ Ok t
  target-read = target-control_at root seed blocks c pair.stands target_low

  pub source-read : control_at c source ≡ Ok s
  source-read = source-control_at root seed blocks c pair.stands low

  histories_found : from_histories c target source t s ≡ Ok (Parted (pair_parting seed blocks))
  unfolding from_histories
  histories_found =
      ap (λ r. given_read (told_by r) (λ a. given_read (told_by (history_at c source 2)) (λ b. given_read (fork_in (divergence_of a b)) (λ fork. in_log c target t fork (target_log target t a))))) (target-history_at root seed blocks c pair.stands)
      ∙ ap (λ r. given_read (told_by r) (λ b. given_read (fork_in (divergence_of target_spans b)) (λ fork. in_log c target t fork (target_log target t target_spans)))) (source-history_at root seed blocks c pair.stands)
      ∙ ap (λ a. given_read (fork_in a) (λ fork. in_log c target t fork (target_log target t target_spans))) forks-apart
      ∙ ap (λ o. in_log c target t pair_fork (option_map (log_at target None target_spans) o)) size-is
      ∙ parted-found target target_spans c seed blocks read (names_of_log Target seed blocks) pair-names

  controls_pass : from_controls c target source t s ≡ from_histories c target source t s
  unfolding from_controls other_sizes systems_differ no_hints not_clean first_of
  controls_pass = refl

  pub survey-found : survey_of c target source ≡ Ok (Parted (pair_parting seed blocks))
  survey-found =
      ap (λ o. unless (option_map fault.Cluster o) (unless (option_map fault.Cluster (unfinished c source)) (given_read (told_by (control_at c target)) (λ t. given_read (told_by (control_at c source)) (λ s. from_controls c target source t s))))) (target-finished root seed blocks c pair.stands)
      ∙ ap (λ o. unless (option_map fault.Cluster o) (given_read (told_by (control_at c target)) (λ t. given_read (told_by (control_at c source)) (λ s. from_controls c target source t s)))) (source-finished root seed blocks c pair.stands)
      ∙ ap (λ r. given_read (told_by r) (λ t. given_read (told_by (control_at c source)) (λ s. from_controls c target source t s))) target-read
      ∙ ap (λ r. given_read (told_by r) (λ s. from_controls c target source t s)) source-read
      ∙ controls_pass
      ∙ histories_found

-- The changes behind the last record: the control file and the label, and then the mark's end.
use Rattle.std.proofs.Common.{◌≡◌, ◌⊎◌, ◌∙◌, ◌||◌, inl, inr, ℕ, Bool, true, false, IsTrue, List, [], ◌∷◌, map, Option, None, Some, option_map, Result, Ok, Err, refl, sym, ap, subst, true≢false, append-nil}
use Rattle.std.specs.List.{list_any}
use Rattle.block_refs.specs.declared.names.BlockName.{BlockName}
use Rattle.block_replay.specs.World.{least_name}
use Rattle.cluster_tree.specs.Causes.{unless}
use Rattle.cluster_tree.specs.Change.{Change, Removes, Writes, all_changed, call_of, first_refusal, is_on}
use Rattle.cluster_tree.specs.Contents.{Contents, entry_at, is_file}
use Rattle.cluster_tree.specs.PathOrder.{path_eq}
use Rattle.cluster_tree.specs.PathValue.{PathValue}
use Rattle.cluster_tree.specs.Run.{State, state_by}
use Rattle.cluster_tree.specs.declared.tree.Tree.{Ghosts}
use Rattle.cluster_tree.proofs.OrderLemmas.{path_eq-other}
use Rattle.control_file.specs.Writing.{control_bytes}
use Rattle.control_file.specs.declared.control.Control.{Control}
use Rattle.marked_runs.specs.Performed.{Performed, Performs}
use Rattle.marked_runs.specs.Runs.{Runs, ended, is_done}
use Rattle.marked_runs.specs.declared.faults.PerformFault.{PerformFault}
use Rattle.marked_runs.proofs.RunLemmas.{runs-front, runs-then}
use Rattle.replay_control.specs.Following.{control_left}
use Rattle.replay_start.specs.declared.fault.ReplayFault.{ReplayFault}
use Rattle.replay_start.specs.declared.fault.ReplayFault.TheVariants as fault
use Rattle.replay_world.specs.World.{World}
use Rattle.replay_core.specs.Faults.{IsFree}
use Rattle.replay_core.specs.Replayed.{After, closed, closed_or, closing, closing_files, control_path, label_path, mark_of}
use Rattle.replay_core.specs.Stages.{EndsStand}
use Rattle.replay_core.specs.Under.{left_under, left_under_or}
use Rattle.replay_core.specs.Went.{IsAfter, IsCause, Ran}
use Rattle.replay_core.specs.declared.outcome.Replayed.{Replayed}
use Rattle.replay_core.proofs.PathLemmas.{control-mark, label-mark}
use Rattle.replay_core.proofs.StandLemmas.{ended-unrefused, files-unrefused}

-- ---- the control file and the label

pub files-off : (root : PathValue) (k : Control) → list_any (is_on (mark_of root)) (closing_files root k) ≡ false
files-off root k =
    ap (λ b. b || (path_eq (mark_of root) (label_path root) || false)) (path_eq-other (mark_of root) (control_path root) (λ e. control-mark root (sym e)))
    ∙ ap (λ b. b || false) (path_eq-other (mark_of root) (label_path root) (λ e. label-mark root (sym e)))

pub files-ran : {F : Type 0} (tree : Ghosts F) (root path label : PathValue) (left k : Control) (a b : F) (r : Result (Unit {0}) PerformFault) → path ≡ control_path root → label ≡ label_path root → k ≡ left → IsTrue tree.tells
    → EndsStand (tree.contents a) root → Performs tree (Writes path 0 (control_bytes k) ∷ Removes label ∷ []) a b r
    → Performed (closing_files root left) (state_by tree.contents tree.calls a) (state_by tree.contents tree.calls b) r
files-ran tree root path label left k a b r control_is label_is is told stand performs =
    let same : (Writes path 0 (control_bytes k) ∷ Removes label ∷ []) ≡ closing_files root left =
    ap (λ p. Writes p 0 (control_bytes k) ∷ Removes label ∷ []) control_is
    ∙ ap (λ p. Writes (control_path root) 0 (control_bytes k) ∷ Removes p ∷ []) label_is
    ∙ ap (λ x. closing_files root x) is in
    subst (λ l. Performs tree l a b r) same performs told (files-unrefused (tree.contents a) root left stand)

-- none was begun
pub none-ran : (changes : List Change) (a : State) → Ran changes a a false
none-ran changes a = record {
  made = [];
  grew = sym (append-nil a.calls);
  rest = map call_of changes;
  joins = refl;
  all = λ e. absurd (true≢false (sym e));
  after = λ e. absurd (true≢false (sym e));
  elsewhere = λ p off. refl;
}

pub settled-ok : (root : PathValue) (tli n e : ℕ) (w : World) (told : Replayed) (d : Contents) → least_name w.skipped ≡ None → d ≡ all_changed w.files (closing_files root (control_left tli e w.control))
    → told.records ≡ n → told.end.0 ≡ e → told.tli ≡ tli → IsAfter (left_under_or root tli n e w) told d
settled-ok root tli n e w told d none files records end time = record {
  after = left_under root tli n e w;
  is = ap (λ o. unless (option_map fault.MissingPage o) (Ok (left_under root tli n e w))) none;
  files_are = files;
  records = records;
  end = end;
  tli = time;
}

-- so nothing is missing
pub record IsSettled (root : PathValue) (time n e : ℕ) (w : World) (told : Replayed) (d : Contents) : Type 0 where
  pub none : least_name w.skipped ≡ None
  pub files : d ≡ all_changed w.files (closing_files root (control_left time e w.control))
  pub records : told.records ≡ n
  pub end : told.end.0 ≡ e
  pub tli : told.tli ≡ time

pub settled-by : (root : PathValue) (tli n e : ℕ) (w : World) (told : Replayed) (d : Contents) → IsAfter (left_under_or root tli n e w) told d → IsSettled root tli n e w told d
settled-by root tli n e w told d is = by (least_name w.skipped) refl is.is
  where
    by : (o : Option BlockName) → least_name w.skipped ≡ o → unless (option_map fault.MissingPage o) (Ok (left_under root tli n e w)) ≡ Ok is.after → IsSettled root tli n e w told d
    by None none meant =
        let same : left_under root tli n e w ≡ is.after = cc meant in
        record {
          none = none;
          files = is.files_are ∙ sym (ap (λ (x : After). x.files) same);
          records = is.records ∙ sym (ap (λ (x : After). x.records) same);
          end = is.end ∙ sym (ap (λ (x : After). x.end) same);
          tli = is.tli ∙ sym (ap (λ (x : After). x.tli) same);
        }
    by (Some name) none meant = absurd (cc meant)

-- ---- and then the mark ends

module _ {F : Type 0} (tree : Ghosts F) (told : IsTrue tree.tells) (root mark : PathValue) (k : Control) (a b : F) (done : Bool) (is : mark ≡ mark_of root) (there : is_file (entry_at (tree.contents a) (mark_of root)) ≡ true)
    (ran : Runs (closing_files root k) (tree.calls a) (tree.calls b) (tree.contents a) (tree.contents b) done) where
  pub mark-still : is_file (entry_at (tree.contents b) (mark_of root)) ≡ true
  mark-still = ap is_file (ran.elsewhere (mark_of root) (files-off root k)) ∙ there

  pub end-unrefused : first_refusal (tree.contents b) (ended mark) ≡ None
  end-unrefused = ended-unrefused (tree.contents b) mark (ap (λ m. is_file (entry_at (tree.contents b) m)) is ∙ mark-still)

  pub mark-ended : (d : F) (r : Result (Unit {0}) PerformFault) → Performs tree (ended mark) b d r → Performed (ended (mark_of root)) (state_by tree.contents tree.calls b) (state_by tree.contents tree.calls d) r
  mark-ended d r performs = subst (λ m. Performed (ended m) (state_by tree.contents tree.calls b) (state_by tree.contents tree.calls d) r) is (performs told end-unrefused)

  pub closing-ran : (d : F) (r : Result (Unit {0}) PerformFault) → done ≡ true → Performs tree (ended mark) b d r → Runs (closing root k) (tree.calls a) (tree.calls d) (tree.contents a) (tree.contents d) (is_done r)
  closing-ran d r all performs =
      runs-then (closing_files root k) (ended (mark_of root)) (tree.calls a) (tree.calls b) (tree.calls d) (tree.contents a) (tree.contents b) (tree.contents d) (is_done r)
      (subst (λ x. Runs (closing_files root k) (tree.calls a) (tree.calls b) (tree.contents a) (tree.contents b) x) all ran) (mark-ended d r performs).runs

  pub closing-begun : done ≡ false → Runs (closing root k) (tree.calls a) (tree.calls b) (tree.contents a) (tree.contents b) false
  closing-begun broken =
      runs-front (closing_files root k) (ended (mark_of root)) (tree.calls a) (tree.calls b) (tree.contents a) (tree.contents b)
      (subst (λ x. Runs (closing_files root k) (tree.calls a) (tree.calls b) (tree.contents a) (tree.contents b) x) broken ran)

pub closed-ok : (root : PathValue) (tli n e : ℕ) (w : World) (told : Replayed) (c d : Contents) → IsAfter (left_under_or root tli n e w) told c → d ≡ all_changed c (ended (mark_of root)) → IsAfter (closed_or root tli n e w) told d
closed-ok root tli n e w told c d is after =
    let settled = settled-by root tli n e w told c is in
    record {
      after = closed root tli n e w;
      is = ap (λ o. unless (option_map fault.MissingPage o) (Ok (closed root tli n e w))) settled.none;
      files_are = after ∙ ap (λ x. all_changed x (ended (mark_of root))) settled.files;
      records = settled.records;
      end = settled.end;
      tli = settled.tli;
    }

-- a missing block is missing either way
pub closed-cause : (root : PathValue) (tli n e : ℕ) (w : World) (f : ReplayFault) → IsCause (left_under_or root tli n e w) f → IsCause (closed_or root tli n e w) f
closed-cause root tli n e w f (inl free) = inl free
closed-cause root tli n e w f (inr is) = by (least_name w.skipped) is
  where
    by : (o : Option BlockName) → unless (option_map fault.MissingPage o) (Ok (left_under root tli n e w)) ≡ Err f → IsFree f ⊎ (unless (option_map fault.MissingPage o) (Ok (closed root tli n e w)) ≡ Err f)
    by None refused = absurd (cc refused)
    by (Some name) refused = inr (cc refused)

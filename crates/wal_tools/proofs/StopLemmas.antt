-- What a stop may leave of a run, from the words on.
use Rattle.std.proofs.Common.{Option, ◌≡◌, ◌⊎◌, ℤ, refl, sym, ap, ◌∙◌, subst, inl, inr, IsTrue, None, Result, Ok, Err, OnOk}
use Rattle.rmgr_hooks.specs.Custom.{Extension}
use Rattle.cluster_tree.specs.Contents.{Contents}
use Rattle.cluster_tree.specs.Frame.{Reads, moment_of}
use Rattle.cluster_tree.specs.Run.{Moment}
use Rattle.cluster_tree.specs.Stops.{LeavesOnly, Stops}
use Rattle.cluster_tree.specs.declared.tree.Tree.{Ghosts}
use Rattle.cluster_tree.proofs.Images.{Within, holds_first, leaves_only}
use Rattle.commands.specs.declared.command.Command.{Command}
use Rattle.commands.specs.declared.command.Command.TheVariants as command
use Rattle.commands.specs.declared.fault.CommandFault.{CommandFault}
use Rattle.commands.specs.declared.archivecleanup.ArchivecleanupWords.{ArchivecleanupWords}
use Rattle.commands.specs.declared.pair.PairWords.{PairWords}
use Rattle.commands.specs.declared.resetwal.ResetwalWords.{ResetwalWords}
use Rattle.commands.specs.declared.rewind.RewindWords.{RewindWords}
use Rattle.commands.specs.declared.walreplay.WalreplayWords.{WalreplayWords}
use Rattle.cmd_archivecleanup.specs.Left.{IsLeftByCleanup}
use Rattle.cmd_pair.specs.Left.{IsLeftByPair}
use Rattle.cmd_resetwal.specs.Resetwal.{IsLeftByReset}
use Rattle.cmd_rewind.specs.Rewind.{IsDurable, IsLeftByRewind}
use Rattle.cmd_walreplay.specs.Walreplay.{IsLeftByWalreplay}
use Rattle.marked_runs.specs.Moments.{IsUntouched, StandsSynced}
use Rattle.marked_runs.proofs.StopLemmas.{leaves_weaker}
use Rattle.run_acts.specs.Causes.{cause_of, has_values}
use Rattle.run_acts.specs.declared.cause.Cause.{Cause}
use Rattle.run_acts.specs.declared.cause.Cause.TheVariants as cause
use Rattle.wal_tools.specs.Stopped.{IsDurableAsked, IsLeftAsked}

-- what is untouched is left by every command
within : (custom : Option Extension) (asked : Result Command CommandFault) (now : ℤ) (first : Moment) → Within (IsUntouched first) (IsLeftAsked custom asked now first)
within custom (Ok (command.Rewind words)) now first c u = inl u
within custom (Ok (command.Resume words)) now first c u = inl u
within custom (Ok (command.Controldata words)) now first c u = u
within custom (Ok (command.Waldump words)) now first c u = u
within custom (Ok (command.Resetwal words)) now first c u = inl u
within custom (Ok (command.Archivecleanup words)) now first c u = (c, u, λ path. inl refl)
within custom (Ok (command.Walreplay words)) now first c u = inl u
within custom (Ok (command.Restart words)) now first c u = inl u
within custom (Ok (command.Walcompare words)) now first c u = u
within custom (Ok (command.Pair words)) now first c u = (c, u, λ path beside. refl)
within custom (Err e) now first c u = u

-- nothing was done
pub still_left : (custom : Option Extension) (asked : Result Command CommandFault) (now : ℤ) (first : Moment) → LeavesOnly (IsLeftAsked custom asked now first) first.stops first.stops
still_left custom asked now first =
    let P : Contents → Type 0 = IsUntouched first in
    leaves_weaker P (IsLeftAsked custom asked now first) first.stops first.stops (within custom asked now first) (leaves_only P P first first (holds_first P P first (inl refl) (λ c i. inr i)) (λ c u. u))

-- something was read
pub read_left : (custom : Option Extension) {F : Type 0} (t : Ghosts F) (asked : Result Command CommandFault) (now : ℤ) (old new : F) → Reads t old new → LeavesOnly (IsLeftAsked custom asked now (moment_of t old)) (t.stops old) (t.stops new)
read_left custom t asked now old new reads = subst (LeavesOnly (IsLeftAsked custom asked now (moment_of t old)) (t.stops old)) (sym reads.unstopped) (still_left custom asked now (moment_of t old))

-- pg_archivecleanup was carried out
pub left_of_cleanup : (custom : Option Extension) {k : Command} {words : ArchivecleanupWords} (now : ℤ) (first : Moment) (a b : Stops) → k ≡ command.Archivecleanup words → LeavesOnly (IsLeftByCleanup words first) a b → LeavesOnly (IsLeftAsked custom (Ok k) now first) a b
left_of_cleanup custom {k} {words} now first a b is left = let P : Command → Type 0 = λ x. LeavesOnly (IsLeftAsked custom (Ok x) now first) a b in subst P (sym is) left

-- pair was
pub left_of_pair : (custom : Option Extension) {k : Command} {words : PairWords} (now : ℤ) (first : Moment) (a b : Stops) → k ≡ command.Pair words → LeavesOnly (IsLeftByPair words first) a b → LeavesOnly (IsLeftAsked custom (Ok k) now first) a b
left_of_pair custom {k} {words} now first a b is left = let P : Command → Type 0 = λ x. LeavesOnly (IsLeftAsked custom (Ok x) now first) a b in subst P (sym is) left

-- pg_rewind was, with the time under another name
pub left_of_rewind : (custom : Option Extension) {k : Command} {words : RewindWords} {n m : ℤ} (first : Moment) (a b : Stops) → k ≡ command.Rewind words → n ≡ m → LeavesOnly (IsLeftByRewind words n first.state.contents first) a b → LeavesOnly (IsLeftAsked custom (Ok k) m first) a b
left_of_rewind custom {k} {words} {n} {m} first a b is same left =
    let P : Command → Type 0 = λ x. LeavesOnly (IsLeftAsked custom (Ok x) m first) a b in
    subst P (sym is) (subst (λ x. LeavesOnly (IsLeftByRewind words x first.state.contents first) a b) same left)

-- pg_resetwal was
pub left_of_reset : (custom : Option Extension) {k : Command} {words : ResetwalWords} {n m : ℤ} (first : Moment) (a b : Stops) → k ≡ command.Resetwal words → n ≡ m → LeavesOnly (IsLeftByReset words n first) a b → LeavesOnly (IsLeftAsked custom (Ok k) m first) a b
left_of_reset custom {k} {words} {n} {m} first a b is same left =
    let P : Command → Type 0 = λ x. LeavesOnly (IsLeftAsked custom (Ok x) m first) a b in
    subst P (sym is) (subst (λ x. LeavesOnly (IsLeftByReset words x first) a b) same left)

-- pg_walreplay was
pub left_of_replay : (custom : Option Extension) {k : Command} {words : WalreplayWords} (now : ℤ) (first : Moment) (a b : Stops) → k ≡ command.Walreplay words → LeavesOnly (IsLeftByWalreplay custom words first) a b → LeavesOnly (IsLeftAsked custom (Ok k) now first) a b
left_of_replay custom {k} {words} now first a b is left = let P : Command → Type 0 = λ x. LeavesOnly (IsLeftAsked custom (Ok x) now first) a b in subst P (sym is) left

-- the words ask for this command
pub left_of_command : (custom : Option Extension) {k : Command} (asked : Result Command CommandFault) (now : ℤ) (first : Moment) (a b : Stops) → asked ≡ Ok k → LeavesOnly (IsLeftAsked custom (Ok k) now first) a b → LeavesOnly (IsLeftAsked custom asked now first) a b
left_of_command custom {k} asked now first a b is left = let P : Result Command CommandFault → Type 0 = λ x. LeavesOnly (IsLeftAsked custom x now first) a b in subst P (sym is) left

-- the time under another name
pub left_at : (custom : Option Extension) (asked : Result Command CommandFault) {n m : ℤ} (first : Moment) (a b : Stops) → n ≡ m → LeavesOnly (IsLeftAsked custom asked n first) a b → LeavesOnly (IsLeftAsked custom asked m first) a b
left_at custom asked first a b same left = subst (λ x. LeavesOnly (IsLeftAsked custom asked x first) a b) same left

-- ---- once it is done

-- of pg_rewind, with the time under another name
pub durable_rewind : {k : Command} {words : RewindWords} {n m : ℤ} (r : Result (Unit {0}) Cause) (c : Contents) (moment : Moment) → k ≡ command.Rewind words → n ≡ m → OnOk r (IsDurable words n c moment) → OnOk r (IsDurableAsked (Ok k) m c moment)
durable_rewind {k} {words} {n} {m} r c moment is same durable =
    let P : Command → Type 0 = λ x. OnOk r (IsDurableAsked (Ok x) m c moment) in
    subst P (sym is) (subst (λ x. OnOk r (IsDurable words x c moment)) same durable)

reset-kept : (words : ResetwalWords) (r : Result (Unit {0}) Cause) (moment : Moment) → (words.options.dry ≡ None → OnOk r (StandsSynced moment.state.contents moment)) → OnOk r (words.options.dry ≡ None → StandsSynced moment.state.contents moment)
reset-kept words (Ok u) moment durable = durable
reset-kept words (Err e) moment durable = tt

-- of pg_resetwal
pub durable_reset : {k : Command} {words : ResetwalWords} (r : Result (Unit {0}) Cause) (now : ℤ) (c : Contents) (moment : Moment) → k ≡ command.Resetwal words → (words.options.dry ≡ None → OnOk r (StandsSynced moment.state.contents moment)) → OnOk r (IsDurableAsked (Ok k) now c moment)
durable_reset {k} {words} r now c moment is durable = let P : Command → Type 0 = λ x. OnOk r (IsDurableAsked (Ok x) now c moment) in subst P (sym is) (reset-kept words r moment durable)

-- of pg_walreplay
pub durable_replay : {k : Command} {words : WalreplayWords} (r : Result (Unit {0}) Cause) (now : ℤ) (c : Contents) (moment : Moment) → k ≡ command.Walreplay words → OnOk r (StandsSynced moment.state.contents moment) → OnOk r (IsDurableAsked (Ok k) now c moment)
durable_replay {k} {words} r now c moment is durable = let P : Command → Type 0 = λ x. OnOk r (IsDurableAsked (Ok x) now c moment) in subst P (sym is) durable

-- the words ask for this command
pub durable_command : {k : Command} (r : Result (Unit {0}) Cause) (asked : Result Command CommandFault) {n m : ℤ} (c : Contents) (moment : Moment) → asked ≡ Ok k → n ≡ m → OnOk r (IsDurableAsked (Ok k) n c moment) → OnOk r (IsDurableAsked asked m c moment)
durable_command {k} r asked {n} {m} c moment is same durable =
    let P : Result Command CommandFault → Type 0 = λ x. OnOk r (IsDurableAsked x m c moment) in
    subst P (sym is) (subst (λ x. OnOk r (IsDurableAsked (Ok k) x c moment)) same durable)

-- a run that is done had that outcome
pub durable_done : (r : Result (Unit {0}) Cause) (asked : Result Command CommandFault) {n m : ℤ} (c : Contents) (moment : Moment) {own ended : Cause} → (r ≡ Err cause.Done → ⊥) → own ≡ cause_of r → (ended ≡ own) ⊎ (IsTrue (has_values own) × (ended ≡ cause.OutOfMemory)) → ended ≡ cause.Done
    → n ≡ m → OnOk r (IsDurableAsked asked n c moment) → IsDurableAsked asked m c moment
durable_done (Ok u) asked c moment undone own told done same durable = subst (λ x. IsDurableAsked asked x c moment) same durable
durable_done (Err e) asked c moment undone own (inl is) done same durable = absurd (undone (ap Err (sym own ∙ sym is ∙ done)))
durable_done (Err e) asked c moment undone own (inr m) done same durable = let no : cause.OutOfMemory ≡ cause.Done = sym m.1 ∙ done in absurd (cc no)

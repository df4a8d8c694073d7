-- A rewind that is resumed, as the command that was carried out.
use Rattle.std.proofs.Common.{◌≡◌, ◌⊎◌, ℕ, ℤ, Bool, true, false, not, IsTrue, List, Option, inl, inr, sym, ap, ◌∙◌, subst, Result, Ok, OnOk}
use Rattle.cluster_tree.specs.Contents.{Contents}
use Rattle.rmgr_hooks.specs.Custom.{Extension}
use Rattle.cluster_tree.specs.Run.{Moment}
use Rattle.cluster_tree.specs.Stops.{LeavesOnly, Stops}
use Rattle.commands.specs.declared.command.Command.{Command}
use Rattle.commands.specs.declared.command.Command.TheVariants as command
use Rattle.commands.specs.declared.rewind.RewindWords.{RewindWords}
use Rattle.acts.specs.Acts.{Seen}
use Rattle.run_acts.specs.Unseen.{CarriesUnseen}
use Rattle.run_acts.specs.declared.cause.Cause.{Cause}
use Rattle.run_acts.proofs.UnseenSteps.{unseen_by}
use Rattle.cmd_resume.specs.Resume.{IsLeftByResume, IsResume, IsResumedDurably, LeavesResumed, resume_answer}
use Rattle.wal_tools.specs.Leaves.{LeavesAsked}
use Rattle.wal_tools.specs.Stopped.{IsDurableAsked, IsLeftAsked}
use Rattle.wal_tools.specs.Words.{IsSeen, MayChange}
use Rattle.wal_tools.proofs.RunLemmas.{CarriesOut, undried}

-- what it does is seen where the tree tells, and of a dry run
seen_resume : (T : Type 0) (words : RewindWords) → IsSeen T (Ok (command.Resume words)) → T ⊎ IsTrue words.dry_run
seen_resume T words (inl t) = inl t
seen_resume T words (inr none) = inr (undried words.dry_run none)

resume_seen : (T : Type 0) (words : RewindWords) → T ⊎ IsTrue words.dry_run → IsSeen T (Ok (command.Resume words))
resume_seen T words (inl t) = inl t
resume_seen T words (inr dry) = inr (λ may. let same : true ≡ false = sym may ∙ ap not dry in cc same)

module _ {k : Command} {words : RewindWords} (is : k ≡ command.Resume words) where
  -- it was carried out
  pub of_resume : (custom : Option Extension) (tells : Bool) (c : Contents) (now : ℤ) {o e : Bool} {ended : Cause} {s u : Seen}
      → CarriesUnseen (IsTrue tells ⊎ IsTrue words.dry_run) (IsTrue tells) (resume_answer c words now) (IsResume words) o e ended s u → CarriesOut custom tells c now o e (Ok k) ended s u
  of_resume custom tells c now {o} {e} {ended} {s} {u} p =
      let P : Command → Type 0 = λ x. CarriesOut custom tells c now o e (Ok x) ended s u in
      subst P (sym is) (unseen_by (seen_resume (IsTrue tells) words) (resume_seen (IsTrue tells) words) p)

  -- it changes nothing in a dry run
  pub dried_resume : (MayChange (Ok k) → ⊥) → IsTrue words.dry_run
  dried_resume none = undried words.dry_run (let P : Command → Type 0 = λ x. MayChange (Ok x) → ⊥ in subst P is none)

  -- ---- with the time under another name

  module _ {n m : ℤ} (same : n ≡ m) where
    -- what it leaves
    pub resumed_at : (custom : Option Extension) (r : Result (Unit {0}) Cause) (tells : Bool) (c c' : Contents) (out out' : List ℕ) → OnOk r (LeavesResumed words n c c') → OnOk r (LeavesAsked custom (Ok k) m tells c c' out out')
    resumed_at custom r tells c c' out out' left =
        let Q : Command → Type 0 = λ x. OnOk r (LeavesAsked custom (Ok x) m tells c c' out out') in
        subst Q (sym is) (subst (λ x. OnOk r (LeavesResumed words x c c')) same left)

    -- what a stop may leave
    pub left_of_resume : (custom : Option Extension) (first : Moment) (a b : Stops) → LeavesOnly (IsLeftByResume words n first) a b → LeavesOnly (IsLeftAsked custom (Ok k) m first) a b
    left_of_resume custom first a b left =
        let P : Command → Type 0 = λ x. LeavesOnly (IsLeftAsked custom (Ok x) m first) a b in
        subst P (sym is) (subst (λ x. LeavesOnly (IsLeftByResume words x first) a b) same left)

    -- and once it is done
    pub durable_resume : (r : Result (Unit {0}) Cause) (c : Contents) (moment : Moment) → OnOk r (IsResumedDurably words n c moment) → OnOk r (IsDurableAsked (Ok k) m c moment)
    durable_resume r c moment durable =
        let P : Command → Type 0 = λ x. OnOk r (IsDurableAsked (Ok x) m c moment) in
        subst P (sym is) (subst (λ x. OnOk r (IsResumedDurably words x c moment)) same durable)

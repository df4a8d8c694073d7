-- A run, from the words to the line of the cause.
use Rattle.std.proofs.Common.{◌≡◌, ◌⊎◌, ℕ, ℤ, Bool, true, false, not, IsTrue, List, Option, Some, is_some, inl, inr, refl, sym, ap, ◌∙◌, subst, Result, Ok, Err, OnOk}
use Rattle.cluster_tree.specs.Contents.{Contents}
use Rattle.cluster_tree.specs.declared.tree.ChangeCall.{ChangeCall}
use Rattle.commands.specs.declared.command.Command.{Command}
use Rattle.commands.specs.declared.command.Command.TheVariants as command
use Rattle.commands.specs.declared.fault.CommandFault.{CommandFault}
use Rattle.commands.specs.declared.fault.CommandFault.TheVariants as fault
use Rattle.commands.specs.declared.waldump.WaldumpWords.{WaldumpWords}
use Rattle.commands.specs.declared.rewind.RewindWords.{RewindWords}
use Rattle.commands.specs.declared.controldata.ControldataWords.{ControldataWords}
use Rattle.cmd_controldata.specs.Controldata.{IsControldata, controldata_answer}
use Rattle.cmd_resume.proofs.LookLemmas.{resume-form, resume-looks}
use Rattle.cmd_rewind.specs.Rewind.{IsRewind, LeavesRewound, rewind_answer}
use Rattle.cmd_waldump.specs.Waldump.{AskForList, IsWaldump, waldump_answer}
use Rattle.clusters.specs.RootControl.{control_at}
use Rattle.acts.specs.Acts.{Seen, Sunk, seen}
use Rattle.run_acts.specs.Answers.{Answer, Carries, cause_in}
use Rattle.run_acts.specs.Causes.{IsFree, cause_of, has_values}
use Rattle.run_acts.specs.declared.cause.Cause.{Cause}
use Rattle.run_acts.specs.declared.cause.Cause.TheVariants as cause
use Rattle.run_acts.proofs.AnswerSteps.{Looks, carries_as, carries_fault, carries_refused, carries_exact, carries_told}
use Rattle.run_acts.proofs.UnseenSteps.{seen_of, unseen_by, unseen_seen, unseen_still, unseen_told}
use Rattle.run_acts.specs.Unseen.{CarriesUnseen}
use Rattle.cmd_archivecleanup.specs.Archivecleanup.{IsArchivecleanup, archivecleanup_answer}
use Rattle.cmd_archivecleanup.proofs.FormLemmas.{answer-form as cleanup-form, answer-looks as cleanup-looks}
use Rattle.cmd_resetwal.specs.Resetwal.{IsResetwal, resetwal_answer}
use Rattle.cmd_resetwal.proofs.FormLemmas.{answer-form as reset-form, answer-looks as reset-looks}
use Rattle.commands.specs.declared.resetwal.ResetwalWords.{ResetwalWords}
use Rattle.commands.specs.declared.archivecleanup.ArchivecleanupWords.{ArchivecleanupWords}
use Rattle.cmd_controldata.proofs.FormLemmas.{answer-form as control-form, answer-looks as control-looks}
use Rattle.cmd_rewind.proofs.FormLemmas.{answer-form as rewind-form, answer-looks as rewind-looks}
use Rattle.cmd_waldump.proofs.FormLemmas.{answer-form as waldump-form, answer-looks as waldump-looks}
use Rattle.cmd_walcompare.specs.Walcompare.{AreSame, IsWalcompare, walcompare_answer}
use Rattle.cmd_walcompare.proofs.FormLemmas.{answer-form as compare-form, answer-looks as compare-looks}
use Rattle.commands.specs.declared.walcompare.WalcompareWords.{WalcompareWords}
use Rattle.cmd_walreplay.specs.Walreplay.{IsWalreplay, LeavesReplayed, StaysMarked, walreplay_answer}
use Rattle.cmd_walreplay.proofs.FormLemmas.{answer-form as replay-form, answer-looks as replay-looks}
use Rattle.commands.specs.declared.walreplay.WalreplayWords.{WalreplayWords}
use Rattle.cmd_restart.proofs.FormLemmas.{memory-form, no_memory, unlined_stays, unmade_stays}
use Rattle.cmd_pair.specs.Pair.{IsPair, pair_answer}
use Rattle.cmd_pair.specs.Tried.{LeavesPair}
use Rattle.cmd_pair.proofs.FormLemmas.{answer-form as pair-form, answer-looks as pair-looks}
use Rattle.commands.specs.declared.pair.PairWords.{PairWords}
use Rattle.pair_maker.specs.Pair.{StaysBeside}
use Rattle.wal_tools.specs.Answers.{IsAnswer, answered}
use Rattle.wal_tools.specs.Leaves.{LeavesAsked, StaysAsked}
use Rattle.wal_tools.specs.Runs.{Runs}
use Rattle.wal_tools.specs.Words.{IsKnown, IsSeen, MayChange, refused_by_words, words_cause}
use Rattle.rmgr_hooks.specs.Custom.{Extension}

-- an answer of the command's form that begins with a look; where it is known which is meant, that one
pub record Formed (custom : Option Extension) (tells : Bool) (c : Contents) (now : ℤ) (asked : Result Command CommandFault) : Type 0 where
  pub answer : Answer
  pub known : IsKnown (IsTrue tells) asked → answer ≡ answered custom c now asked
  pub form : IsAnswer (IsTrue tells) custom c now asked answer
  pub looks : Looks answer.acts

module _ (custom : Option Extension) (tells : Bool) (c : Contents) (now : ℤ) where
  -- the one that is meant
  meant_formed : (asked : Result Command CommandFault) → IsAnswer (IsTrue tells) custom c now asked (answered custom c now asked) → Looks ((answered custom c now asked).acts) → Formed custom tells c now asked
  meant_formed asked form looks = record { answer = answered custom c now asked; known = λ h. refl; form = form; looks = looks }

  pub formed : (asked : Result Command CommandFault) → Formed custom tells c now asked
  formed (Ok (command.Rewind words)) = meant_formed (Ok (command.Rewind words)) (rewind-form c c words now) (rewind-looks c c words now)
  formed (Ok (command.Resume words)) = meant_formed (Ok (command.Resume words)) (resume-form c words now) (resume-looks c words now)
  formed (Ok (command.Controldata words)) = meant_formed (Ok (command.Controldata words)) (control-form (control_at c words.root)) (control-looks (control_at c words.root))
  formed (Ok (command.Waldump words)) = meant_formed (Ok (command.Waldump words)) (waldump-form custom c words) (waldump-looks custom c words)
  formed (Ok (command.Resetwal words)) = meant_formed (Ok (command.Resetwal words)) (reset-form c words now) (reset-looks c words now)
  formed (Ok (command.Archivecleanup words)) = meant_formed (Ok (command.Archivecleanup words)) (cleanup-form c words) (cleanup-looks c words)
  formed (Ok (command.Walreplay words)) = meant_formed (Ok (command.Walreplay words)) (replay-form custom c words) (replay-looks custom c words)
  formed (Ok (command.Restart words)) = record { answer = no_memory words; known = λ never. absurd never; form = memory-form custom (IsTrue tells) c words; looks = tt }
  formed (Ok (command.Walcompare words)) = meant_formed (Ok (command.Walcompare words)) (compare-form c words) (compare-looks c words)
  formed (Ok (command.Pair words)) = meant_formed (Ok (command.Pair words)) (pair-form c words) (pair-looks c words)
  formed (Err e) = meant_formed (Err e) refl tt

-- what is carried out of words
abbrev pub CarriesOut : Option Extension → Bool → Contents → ℤ → Bool → Bool → Result Command CommandFault → Cause → Seen → Seen → Type 0
CarriesOut custom tells c now o e asked ended s u = CarriesUnseen (IsSeen (IsTrue tells) asked) (IsKnown (IsTrue tells) asked) (answered custom c now asked) (IsAnswer (IsTrue tells) custom c now asked) o e ended s u

-- the words ask for this command
pub of_command : (custom : Option Extension) (tells : Bool) (c : Contents) (now : ℤ) {asked : Result Command CommandFault} {k : Command} {o e : Bool} {ended : Cause} {s u : Seen} → asked ≡ Ok k → CarriesOut custom tells c now o e (Ok k) ended s u → CarriesOut custom tells c now o e asked ended s u
of_command custom tells c now {asked} {k} {o} {e} {ended} {s} {u} is p = let P : Result Command CommandFault → Type 0 = λ a. CarriesOut custom tells c now o e a ended s u in subst P (sym is) p

-- the time under another name
pub at_time : (custom : Option Extension) (tells : Bool) (c : Contents) (asked : Result Command CommandFault) {n m : ℤ} {o e : Bool} {ended : Cause} {s u : Seen} → n ≡ m → CarriesOut custom tells c n o e asked ended s u → CarriesOut custom tells c m o e asked ended s u
at_time custom tells c asked {o = o} {e} {ended} {s} {u} is p = subst (λ x. CarriesOut custom tells c x o e asked ended s u) is p

-- a run's end under another name
pub runs_at : (custom : Option Extension) (tells : Bool) (c : Contents) (asked : Result Command CommandFault) {n m : ℤ} {o e : Bool} {ended : Cause} {line : List ℕ} {s u : Seen} → n ≡ m
    → Runs (IsSeen (IsTrue tells) asked) (IsKnown (IsTrue tells) asked) (answered custom c n asked) (IsAnswer (IsTrue tells) custom c n asked) o e ended line s u
    → Runs (IsSeen (IsTrue tells) asked) (IsKnown (IsTrue tells) asked) (answered custom c m asked) (IsAnswer (IsTrue tells) custom c m asked) o e ended line s u
runs_at custom tells c asked {o = o} {e} {ended} {line} {s} {u} is p =
    subst (λ x. Runs (IsSeen (IsTrue tells) asked) (IsKnown (IsTrue tells) asked) (answered custom c x asked) (IsAnswer (IsTrue tells) custom c x asked) o e ended line s u) is p

-- pg_controldata was
pub of_controldata : (custom : Option Extension) (tells : Bool) (c : Contents) (now : ℤ) {k : Command} {words : ControldataWords} {o e : Bool} {ended : Cause} {s u : Seen} → k ≡ command.Controldata words
    → Carries (IsTrue tells) (controldata_answer c words) IsControldata o e ended s u → CarriesOut custom tells c now o e (Ok k) ended s u
of_controldata custom tells c now {o = o} {e} {ended} {s} {u} is p =
    let P : Command → Type 0 = λ x. CarriesOut custom tells c now o e (Ok x) ended s u in
    subst P (sym is) (unseen_seen (inr (λ may. may)) p)

-- pg_walcompare was
pub of_walcompare : (custom : Option Extension) (tells : Bool) (c : Contents) (now : ℤ) {k : Command} {words : WalcompareWords} {o e : Bool} {ended : Cause} {s u : Seen} → k ≡ command.Walcompare words
    → Carries (IsTrue tells) (walcompare_answer c words) IsWalcompare o e ended s u → CarriesOut custom tells c now o e (Ok k) ended s u
of_walcompare custom tells c now {o = o} {e} {ended} {s} {u} is p =
    let P : Command → Type 0 = λ x. CarriesOut custom tells c now o e (Ok x) ended s u in
    subst P (sym is) (unseen_seen (inr (λ may. may)) p)

-- where it is done the clusters are the same
pub same_at : (custom : Option Extension) {k : Command} {words : WalcompareWords} (r : Result (Unit {0}) Cause) (now : ℤ) (tells : Bool) (c c' : Contents) (out out' : List ℕ) → k ≡ command.Walcompare words → OnOk r (AreSame c words)
    → OnOk r (LeavesAsked custom (Ok k) now tells c c' out out')
same_at custom {k} {words} r now tells c c' out out' is same = let Q : Command → Type 0 = λ x. OnOk r (LeavesAsked custom (Ok x) now tells c c' out out') in subst Q (sym is) same

-- pg_waldump was
pub of_waldump : (custom : Option Extension) (tells : Bool) (c : Contents) (now : ℤ) {k : Command} {words : WaldumpWords} {o e : Bool} {ended : Cause} {s u : Seen} → k ≡ command.Waldump words
    → Carries (IsTrue tells ⊎ AskForList words) (waldump_answer custom c words) (IsWaldump words) o e ended s u → CarriesOut custom tells c now o e (Ok k) ended s u
of_waldump custom tells c now {o = o} {e} {ended} {s} {u} is p = let P : Command → Type 0 = λ x. CarriesOut custom tells c now o e (Ok x) ended s u in subst P (sym is) (unseen_seen (inr (λ may. may)) p)

pub undried : (dry_run : Bool) → (IsTrue (not dry_run) → ⊥) → IsTrue dry_run
undried true h = refl
undried false h = absurd (h refl)

-- what pg_archivecleanup does is seen where the tree tells, and of a dry run
seen_dry : (T : Type 0) (words : ArchivecleanupWords) → IsSeen T (Ok (command.Archivecleanup words)) → T ⊎ IsTrue words.dry_run
seen_dry T words (inl t) = inl t
seen_dry T words (inr none) = inr (undried words.dry_run none)

dry_seen : (T : Type 0) (words : ArchivecleanupWords) → T ⊎ IsTrue words.dry_run → IsSeen T (Ok (command.Archivecleanup words))
dry_seen T words (inl t) = inl t
dry_seen T words (inr dry) = inr (λ may. let same : true ≡ false = sym may ∙ ap not dry in cc same)

-- it was carried out
pub of_archivecleanup : (custom : Option Extension) (tells : Bool) (c : Contents) (now : ℤ) {k : Command} {words : ArchivecleanupWords} {o e : Bool} {ended : Cause} {s u : Seen} → k ≡ command.Archivecleanup words
    → CarriesUnseen (IsTrue tells ⊎ IsTrue words.dry_run) (IsTrue tells) (archivecleanup_answer c words) (IsArchivecleanup words) o e ended s u → CarriesOut custom tells c now o e (Ok k) ended s u
of_archivecleanup custom tells c now {words = words} {o} {e} {ended} {s} {u} is p =
    let P : Command → Type 0 = λ x. CarriesOut custom tells c now o e (Ok x) ended s u in
    subst P (sym is) (unseen_by (seen_dry (IsTrue tells) words) (dry_seen (IsTrue tells) words) p)

-- it changes nothing in a dry run
pub dried_cleanup : {k : Command} {words : ArchivecleanupWords} → k ≡ command.Archivecleanup words → (MayChange (Ok k) → ⊥) → IsTrue words.dry_run
dried_cleanup {k} {words} is none = undried words.dry_run (let P : Command → Type 0 = λ x. MayChange (Ok x) → ⊥ in subst P is none)

-- and may else
wet : (dry_run : Bool) → dry_run ≡ false → IsTrue (not dry_run)
wet dry_run is = ap not is

pub wet_cleanup : {k : Command} {words : ArchivecleanupWords} → k ≡ command.Archivecleanup words → words.dry_run ≡ false → MayChange (Ok k)
wet_cleanup {k} {words} is dry = let P : Command → Type 0 = λ x. MayChange (Ok x) in subst P (sym is) (wet words.dry_run dry)

-- what pg_rewind does is seen where the tree tells, and of a dry run
seen_rewind : (T : Type 0) (words : RewindWords) → IsSeen T (Ok (command.Rewind words)) → T ⊎ IsTrue words.dry_run
seen_rewind T words (inl t) = inl t
seen_rewind T words (inr none) = inr (undried words.dry_run none)

rewind_seen : (T : Type 0) (words : RewindWords) → T ⊎ IsTrue words.dry_run → IsSeen T (Ok (command.Rewind words))
rewind_seen T words (inl t) = inl t
rewind_seen T words (inr dry) = inr (λ may. let same : true ≡ false = sym may ∙ ap not dry in cc same)

-- it was carried out
pub of_rewind : (custom : Option Extension) (tells : Bool) (c : Contents) (now : ℤ) {k : Command} {words : RewindWords} {o e : Bool} {ended : Cause} {s u : Seen} → k ≡ command.Rewind words
    → CarriesUnseen (IsTrue tells ⊎ IsTrue words.dry_run) (IsTrue tells) (rewind_answer c c words now) (IsRewind words) o e ended s u → CarriesOut custom tells c now o e (Ok k) ended s u
of_rewind custom tells c now {words = words} {o} {e} {ended} {s} {u} is p =
    let P : Command → Type 0 = λ x. CarriesOut custom tells c now o e (Ok x) ended s u in
    subst P (sym is) (unseen_by (seen_rewind (IsTrue tells) words) (rewind_seen (IsTrue tells) words) p)

-- it changes nothing in a dry run
pub dried_rewind : {k : Command} {words : RewindWords} → k ≡ command.Rewind words → (MayChange (Ok k) → ⊥) → IsTrue words.dry_run
dried_rewind {k} {words} is none = undried words.dry_run (let P : Command → Type 0 = λ x. MayChange (Ok x) → ⊥ in subst P is none)

-- and may else
pub wet_rewind : {k : Command} {words : RewindWords} → k ≡ command.Rewind words → words.dry_run ≡ false → MayChange (Ok k)
wet_rewind {k} {words} is dry = let P : Command → Type 0 = λ x. MayChange (Ok x) in subst P (sym is) (wet words.dry_run dry)

-- what it leaves, with the time under another name
pub rewound_at : (custom : Option Extension) {k : Command} {words : RewindWords} {n m : ℤ} (r : Result (Unit {0}) Cause) (tells : Bool) (c c' : Contents) (out out' : List ℕ) → k ≡ command.Rewind words → n ≡ m → OnOk r (LeavesRewound words n c c')
    → OnOk r (LeavesAsked custom (Ok k) m tells c c' out out')
rewound_at custom {k} {words} {n} {m} r tells c c' out out' is same left =
    let P : ℤ → Type 0 = λ x. OnOk r (LeavesRewound words x c c') in
    let Q : Command → Type 0 = λ x. OnOk r (LeavesAsked custom (Ok x) m tells c c' out out') in
    subst Q (sym is) (subst P same left)

-- what pg_walreplay does is seen where the tree tells
seen_replay : (T : Type 0) (words : WalreplayWords) → IsSeen T (Ok (command.Walreplay words)) → T
seen_replay T words (inl t) = t
seen_replay T words (inr none) = absurd (none tt)

-- it was carried out
pub of_walreplay : (custom : Option Extension) (tells : Bool) (c : Contents) (now : ℤ) {k : Command} {words : WalreplayWords} {o e : Bool} {ended : Cause} {s u : Seen} → k ≡ command.Walreplay words
    → CarriesUnseen (IsTrue tells) (IsTrue tells) (walreplay_answer custom c words) (IsWalreplay words) o e ended s u → CarriesOut custom tells c now o e (Ok k) ended s u
of_walreplay custom tells c now {words = words} {o} {e} {ended} {s} {u} is p =
    let P : Command → Type 0 = λ x. CarriesOut custom tells c now o e (Ok x) ended s u in
    subst P (sym is) (unseen_by (seen_replay (IsTrue tells) words) (λ t. inl t) p)

-- it may change files
pub replay_may : {k : Command} {words : WalreplayWords} → k ≡ command.Walreplay words → MayChange (Ok k)
replay_may {k} {words} is = let P : Command → Type 0 = λ x. MayChange (Ok x) in subst P (sym is) tt

-- what it leaves
pub replayed_at : (custom : Option Extension) {k : Command} {words : WalreplayWords} (r : Result (Unit {0}) Cause) (now : ℤ) (tells : Bool) (c c' : Contents) (out out' : List ℕ) → k ≡ command.Walreplay words → OnOk r (LeavesReplayed custom words tells c c' out out')
    → OnOk r (LeavesAsked custom (Ok k) now tells c c' out out')
replayed_at custom {k} {words} r now tells c c' out out' is left = let Q : Command → Type 0 = λ x. OnOk r (LeavesAsked custom (Ok x) now tells c c' out out') in subst Q (sym is) left

-- and what stays
pub stays_at : (custom : Option Extension) {k : Command} {words : WalreplayWords} (c c' : Contents) {ended : Cause} → k ≡ command.Walreplay words → StaysMarked custom words c c' ended → StaysAsked custom (Ok k) c c' ended
stays_at custom {k} {words} c c' {ended} is stays = let Q : Command → Type 0 = λ x. StaysAsked custom (Ok x) c c' ended in subst Q (sym is) stays

-- what pair does is seen where the tree tells
seen_pair : (T : Type 0) (words : PairWords) → IsSeen T (Ok (command.Pair words)) → T
seen_pair T words (inl t) = t
seen_pair T words (inr none) = absurd (none tt)

-- it was carried out
pub of_pair : (custom : Option Extension) (tells : Bool) (c : Contents) (now : ℤ) {k : Command} {words : PairWords} {o e : Bool} {ended : Cause} {s u : Seen} → k ≡ command.Pair words
    → CarriesUnseen (IsTrue tells) (IsTrue tells) (pair_answer c words) (IsPair words) o e ended s u → CarriesOut custom tells c now o e (Ok k) ended s u
of_pair custom tells c now {words = words} {o} {e} {ended} {s} {u} is p =
    let P : Command → Type 0 = λ x. CarriesOut custom tells c now o e (Ok x) ended s u in
    subst P (sym is) (unseen_by (seen_pair (IsTrue tells) words) (λ t. inl t) p)

-- it may change files
pub pair_may : {k : Command} {words : PairWords} → k ≡ command.Pair words → MayChange (Ok k)
pair_may {k} {words} is = let P : Command → Type 0 = λ x. MayChange (Ok x) in subst P (sym is) tt

-- what it leaves
pub paired_at : (custom : Option Extension) {k : Command} {words : PairWords} (r : Result (Unit {0}) Cause) (now : ℤ) (tells : Bool) (c c' : Contents) (out out' : List ℕ) → k ≡ command.Pair words → OnOk r (LeavesPair words tells c c' out out')
    → OnOk r (LeavesAsked custom (Ok k) now tells c c' out out')
paired_at custom {k} {words} r now tells c c' out out' is left = let Q : Command → Type 0 = λ x. OnOk r (LeavesAsked custom (Ok x) now tells c c' out out') in subst Q (sym is) left

-- and what stays
pub beside_at : (custom : Option Extension) {k : Command} {words : PairWords} (c c' : Contents) (ended : Cause) → k ≡ command.Pair words → StaysBeside words.root c c' → StaysAsked custom (Ok k) c c' ended
beside_at custom {k} {words} c c' ended is stays = let Q : Command → Type 0 = λ x. StaysAsked custom (Ok x) c c' ended in subst Q (sym is) stays

-- what stays does so where want of memory for its line stands in place of the cause
stays_unlined : (custom : Option Extension) (asked : Result Command CommandFault) (c c' : Contents) (own : Cause) {ended : Cause} → ended ≡ cause.OutOfMemory → StaysAsked custom asked c c' own → StaysAsked custom asked c c' ended
stays_unlined custom (Ok (command.Rewind words)) c c' own none stays = tt
stays_unlined custom (Ok (command.Resume words)) c c' own none stays = tt
stays_unlined custom (Ok (command.Controldata words)) c c' own none stays = tt
stays_unlined custom (Ok (command.Waldump words)) c c' own none stays = tt
stays_unlined custom (Ok (command.Resetwal words)) c c' own none stays = tt
stays_unlined custom (Ok (command.Archivecleanup words)) c c' own none stays = tt
stays_unlined custom (Ok (command.Walreplay words)) c c' own none stays = record { log = stays.log; mark = λ s is. inl (inr (inr (inr none))) }
stays_unlined custom (Ok (command.Restart words)) c c' own none stays = unlined_stays custom words c c' own _ none stays
stays_unlined custom (Ok (command.Walcompare words)) c c' own none stays = tt
stays_unlined custom (Ok (command.Pair words)) c c' own none stays = stays
stays_unlined custom (Err e) c c' own none stays = tt

-- where nothing was done, for want of memory
pub stays_unmade : (custom : Option Extension) (asked : Result Command CommandFault) (c : Contents) → StaysAsked custom asked c c cause.OutOfMemory
stays_unmade custom (Ok (command.Rewind words)) c = tt
stays_unmade custom (Ok (command.Resume words)) c = tt
stays_unmade custom (Ok (command.Controldata words)) c = tt
stays_unmade custom (Ok (command.Waldump words)) c = tt
stays_unmade custom (Ok (command.Resetwal words)) c = tt
stays_unmade custom (Ok (command.Archivecleanup words)) c = tt
stays_unmade custom (Ok (command.Walreplay words)) c = record { log = λ path holds. refl; mark = λ s is. inl (inr (inr (inr refl))) }
stays_unmade custom (Ok (command.Restart words)) c = unmade_stays custom words c
stays_unmade custom (Ok (command.Walcompare words)) c = tt
stays_unmade custom (Ok (command.Pair words)) c = λ path beside. refl
stays_unmade custom (Err e) c = tt

-- where the words are refused
pub stays_refused : (custom : Option Extension) (f : CommandFault) (asked : Result Command CommandFault) (c : Contents) {why : Cause} → why ≡ words_cause f → (f ≡ fault.OutOfMemory) ⊎ (asked ≡ Err f) → StaysAsked custom asked c c why
stays_refused custom f asked c is (inl m) = subst (StaysAsked custom asked c c) (sym (is ∙ ap words_cause m)) (stays_unmade custom asked c)
stays_refused custom f asked c {why} is (inr r) = let P : Result Command CommandFault → Type 0 = λ a. StaysAsked custom a c c why in subst P (sym r) tt

-- and with the cause that is told
pub stays_told : (custom : Option Extension) (asked : Result Command CommandFault) (c c' : Contents) {outcome own ended : Cause} → own ≡ outcome → (ended ≡ own) ⊎ (IsTrue (has_values own) × (ended ≡ cause.OutOfMemory)) → StaysAsked custom asked c c' outcome → StaysAsked custom asked c c' ended
stays_told custom asked c c' same (inl is) stays = subst (StaysAsked custom asked c c') (sym (is ∙ same)) stays
stays_told custom asked c c' {outcome} same (inr m) stays = stays_unlined custom asked c c' outcome m.1 stays

-- what pg_resetwal does is seen where the tree tells, and of a dry run
seen_reset : (T : Type 0) (words : ResetwalWords) → IsSeen T (Ok (command.Resetwal words)) → T ⊎ IsTrue (is_some words.options.dry)
seen_reset T words (inl t) = inl t
seen_reset T words (inr none) = inr (undried (is_some words.options.dry) none)

reset_seen : (T : Type 0) (words : ResetwalWords) → T ⊎ IsTrue (is_some words.options.dry) → IsSeen T (Ok (command.Resetwal words))
reset_seen T words (inl t) = inl t
reset_seen T words (inr dry) = inr (λ may. let same : true ≡ false = sym may ∙ ap not dry in cc same)

-- it was carried out
pub of_resetwal : (custom : Option Extension) (tells : Bool) (c : Contents) (now : ℤ) {k : Command} {words : ResetwalWords} {o e : Bool} {ended : Cause} {s u : Seen} → k ≡ command.Resetwal words
    → CarriesUnseen (IsTrue tells ⊎ IsTrue (is_some words.options.dry)) (IsTrue tells) (resetwal_answer c words now) (IsResetwal words now) o e ended s u → CarriesOut custom tells c now o e (Ok k) ended s u
of_resetwal custom tells c now {words = words} {o} {e} {ended} {s} {u} is p =
    let P : Command → Type 0 = λ x. CarriesOut custom tells c now o e (Ok x) ended s u in
    subst P (sym is) (unseen_by (seen_reset (IsTrue tells) words) (reset_seen (IsTrue tells) words) p)

-- it changes nothing in a dry run
pub dried_reset : {k : Command} {words : ResetwalWords} → k ≡ command.Resetwal words → (MayChange (Ok k) → ⊥) → IsTrue (is_some words.options.dry)
dried_reset {k} {words} is none = undried (is_some words.options.dry) (let P : Command → Type 0 = λ x. MayChange (Ok x) → ⊥ in subst P is none)

-- and may else
pub wet_reset : {k : Command} {words : ResetwalWords} → k ≡ command.Resetwal words → is_some words.options.dry ≡ false → MayChange (Ok k)
wet_reset {k} {words} is dry = let P : Command → Type 0 = λ x. MayChange (Ok x) in subst P (sym is) (wet (is_some words.options.dry) dry)

-- where it is known which answer is meant, what is done is seen
known_seen : (T : Type 0) (asked : Result Command CommandFault) → IsKnown T asked → IsSeen T asked
known_seen T (Ok (command.Rewind words)) t = inl t
known_seen T (Ok (command.Resume words)) t = inl t
known_seen T (Ok (command.Controldata words)) t = inl t
known_seen T (Ok (command.Waldump words)) (inl t) = inl t
known_seen T (Ok (command.Waldump words)) (inr list) = inr (λ may. may)
known_seen T (Ok (command.Resetwal words)) t = inl t
known_seen T (Ok (command.Archivecleanup words)) t = inl t
known_seen T (Ok (command.Walreplay words)) t = inl t
known_seen T (Ok (command.Restart words)) never = absurd never
known_seen T (Ok (command.Walcompare words)) t = inl t
known_seen T (Ok (command.Pair words)) t = inl t
known_seen T (Err e) u = inr (λ may. may)

module _ (custom : Option Extension) (tells : Bool) (c : Contents) (now : ℤ) (asked : Result Command CommandFault) {o e : Bool} {k : List ChangeCall} {out err : Sunk} where
  -- there was no memory for the words
  pub no_words : CarriesOut custom tells c now o e asked cause.OutOfMemory (seen c k out err) (seen c k out err)
  no_words =
      let own = formed custom tells c now asked in
      unseen_still refl refl (λ d j. carries_as (λ h. h) own.known refl refl (carries_fault own.form own.looks (inr refl) refl refl))

  refuses : (f : CommandFault) → CarriesOut custom tells c now o e (Err f) (words_cause f) (seen c k out err) (seen c k out err)
  refuses fault.Usage = unseen_still refl refl (λ d j. carries_refused cause.Usage refl (λ h. refl) refl refl refl)
  refuses fault.DotDot = unseen_still refl refl (λ d j. carries_refused (words_cause fault.DotDot) refl (λ h. refl) refl refl refl)
  refuses (fault.TooDeep path) = unseen_still refl refl (λ d j. carries_refused (words_cause (fault.TooDeep path)) refl (λ h. refl) refl refl refl)
  refuses fault.PathsOverlap = unseen_still refl refl (λ d j. carries_refused (words_cause fault.PathsOverlap) refl (λ h. refl) refl refl refl)
  refuses fault.OutOfMemory = unseen_still refl refl (λ d j. carries_fault refl tt (inr refl) refl refl)

  -- the words are refused
  pub words_refused : (f : CommandFault) (why : Cause) → why ≡ words_cause f → (f ≡ fault.OutOfMemory) ⊎ (asked ≡ Err f) → CarriesOut custom tells c now o e asked why (seen c k out err) (seen c k out err)
  words_refused f why is (inl m) = unseen_told (is ∙ ap words_cause m) no_words
  words_refused f why is (inr r) =
      let P : Result Command CommandFault → Type 0 = λ a. CarriesOut custom tells c now o e a why (seen c k out err) (seen c k out err) in
      subst P (sym r) (unseen_told is (refuses f))

-- why the words are refused is what they decide alone
pub refused_alone : (f : CommandFault) (asked : Result Command CommandFault) → (f ≡ fault.OutOfMemory) ⊎ (asked ≡ Err f) → (e : Cause) → refused_by_words asked ≡ Some e → (words_cause f ≡ e) ⊎ (words_cause f ≡ cause.OutOfMemory)
refused_alone f asked (inl m) e is = inr (ap words_cause m)
refused_alone f asked (inr r) e is = let same : Some (words_cause f) ≡ Some e = sym (ap refused_by_words r) ∙ is in inl (cc same)

-- the cause that is told is the outcome, or want of memory for its line
pub exact_told : (custom : Option Extension) (tells : Bool) (c : Contents) (now : ℤ) (asked : Result Command CommandFault) {o e : Bool} {outcome own ended : Cause} {s u : Seen} → own ≡ outcome → (ended ≡ own) ⊎ (IsTrue (has_values own) × (ended ≡ cause.OutOfMemory))
    → CarriesOut custom tells c now o e asked outcome s u → IsKnown (IsTrue tells) asked → IsFree ended ⊎ (ended ≡ cause_in (answered custom c now asked).refusal)
exact_told custom tells c now asked {o} {e} {outcome} {own} {ended} {s} {u} same (inl is) p h = carries_exact h (carries_told (is ∙ same) (seen_of (known_seen (IsTrue tells) asked h) p))
exact_told custom tells c now asked same (inr m) p h = inl (inr (inr (inr m.1)))

-- a run that is done had that outcome
pub leaves_done : (custom : Option Extension) (r : Result (Unit {0}) Cause) (asked : Result Command CommandFault) {n m : ℤ} (tells : Bool) (c c' : Contents) (out out' : List ℕ) {own ended : Cause} → (r ≡ Err cause.Done → ⊥) → own ≡ cause_of r → (ended ≡ own) ⊎ (IsTrue (has_values own) × (ended ≡ cause.OutOfMemory)) → ended ≡ cause.Done
    → n ≡ m → OnOk r (LeavesAsked custom asked n tells c c' out out') → LeavesAsked custom asked m tells c c' out out'
leaves_done custom (Ok u) asked tells c c' out out' undone own told done same left = let P : ℤ → Type 0 = λ x. LeavesAsked custom asked x tells c c' out out' in subst P same left
leaves_done custom (Err e) asked tells c c' out out' undone own (inl is) done same left = absurd (undone (ap Err (sym own ∙ sym is ∙ done)))
leaves_done custom (Err e) asked tells c c' out out' undone own (inr m) done same left = let no : cause.OutOfMemory ≡ cause.Done = sym m.1 ∙ done in absurd (cc no)

-- a line that is made in memory, where there was none, has values
pub values_of : (b : Bool) → (b ≡ false → ⊥) → b ≡ true
values_of true h = refl
values_of false h = absurd (h refl)

pub ruleset line_steps = (values_of)

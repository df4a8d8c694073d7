-- The forms of what pg_waldump does.
use Rattle.std.proofs.Common.{◌≡◌, ◌⊎◌, inl, inr, Bool, IsTrue, Option, List, ℕ, [], ◌∷◌, refl, sym, subst, Result, Ok, Err}
use Rattle.cluster_tree.specs.Contents.{Contents}
use Rattle.wal_base.specs.Segment.{bytes_of}
use Rattle.wal_records.specs.Further.{pages_of}
use Rattle.rmgr_hooks.specs.Custom.{Extension}
use Rattle.waldump_core.specs.Dump.{dump_of}
use Rattle.log_folder.specs.Found.{found_in}
use Rattle.log_folder.specs.declared.find.FoundLog.{FoundLog}
use Rattle.log_folder.specs.declared.fault.FolderFault.{FolderFault}
use Rattle.commands.specs.declared.waldump.WaldumpWords.{WaldumpWords}
use Rattle.commands.specs.declared.waldump.WaldumpWords.TheVariants as asked
use Rattle.cluster_tree.specs.declared.tree.ChangeCall.{ChangeCall}
use Rattle.commands.specs.declared.waldump.DumpWords.{DumpWords}
use Rattle.acts.specs.Acts.{Seen, Sunk, seen}
use Rattle.acts.specs.Texts.{prints}
use Rattle.run_acts.specs.Answers.{Carries}
use Rattle.run_acts.specs.declared.cause.Cause.{Cause}
use Rattle.run_acts.proofs.AnswerSteps.{Looks, carries_as}
use Rattle.cmd_waldump.specs.Waldump.{AskForList, CarriesList, IsDump, IsWaldump, found_answer, log_answer, waldump_answer}

pub prints-look : (lines : List (List ℕ)) → Looks (prints lines)
prints-look [] = tt
prints-look (line ∷ lines) = tt

pub found-form : (custom : Option Extension) (c : Contents) (r : Result FoundLog FolderFault) → IsDump (found_answer custom c r)
unfolding log_answer
found-form custom c (Ok found) = ((dump_of custom (pages_of found.log c) (bytes_of found.log.size) found.sel).lines, refl)
found-form custom c (Err fault) = ([], refl)

pub found-looks : (custom : Option Extension) (c : Contents) (r : Result FoundLog FolderFault) → Looks ((found_answer custom c r).acts)
unfolding log_answer
found-looks custom c (Ok found) = prints-look ((dump_of custom (pages_of found.log c) (bytes_of found.log.size) found.sel).lines)
found-looks custom c (Err fault) = tt

pub answer-form : (custom : Option Extension) (c : Contents) (words : WaldumpWords) → IsWaldump words (waldump_answer custom c words)
answer-form custom c asked.Managers = refl
answer-form custom c (asked.Dump words) = found-form custom c (found_in c words)

pub answer-looks : (custom : Option Extension) (c : Contents) (words : WaldumpWords) → Looks ((waldump_answer custom c words).acts)
answer-looks custom c asked.Managers = tt
answer-looks custom c (asked.Dump words) = found-looks custom c (found_in c words)

by_tree : (tells : Bool) → IsTrue tells ⊎ ⊥ → IsTrue tells
by_tree tells (inl t) = t
by_tree tells (inr none) = absurd none

-- the words ask for the list
pub of_list : (custom : Option Extension) (tells : Bool) {words : WaldumpWords} {c : Contents} {k : List ChangeCall} {o e : Bool} {ended : Cause} {out err : Sunk} {u : Seen} → words ≡ asked.Managers
    → CarriesList o e ended (seen c k out err) u → Carries (IsTrue tells ⊎ AskForList words) (waldump_answer custom c words) (IsWaldump words) o e ended (seen c k out err) u
of_list custom tells {c = c} {k = k} {o = o} {e} {ended} {out} {err} {u} is p =
    let P : WaldumpWords → Type 0 = λ w. Carries (IsTrue tells ⊎ AskForList w) (waldump_answer custom c w) (IsWaldump w) o e ended (seen c k out err) u in
    subst P (sym is) (carries_as (λ h. tt) (λ h. refl) refl refl p)

-- the words ask for a dump
pub of_dump : (custom : Option Extension) (tells : Bool) (c : Contents) {words : WaldumpWords} {dump : DumpWords} {o e : Bool} {ended : Cause} {s u : Seen} → words ≡ asked.Dump dump
    → Carries (IsTrue tells) (found_answer custom c (found_in c dump)) IsDump o e ended s u → Carries (IsTrue tells ⊎ AskForList words) (waldump_answer custom c words) (IsWaldump words) o e ended s u
of_dump custom tells c {dump = dump} {o} {e} {ended} {s} {u} is p =
    let P : WaldumpWords → Type 0 = λ w. Carries (IsTrue tells ⊎ AskForList w) (waldump_answer custom c w) (IsWaldump w) o e ended s u in
    subst P (sym is) (record { answer = p.answer; known = λ h. p.known (by_tree tells h); form = p.form; exact = p.exact; acts = p.acts })

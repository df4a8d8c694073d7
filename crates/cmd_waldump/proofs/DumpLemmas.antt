-- A dump's answer, from what the dump left on standard output.
use Rattle.std.proofs.Common.{◌≡◌, ℕ, ◌≤◌, ◌⊎◌, ◌++◌, Bool, true, false, IsTrue, List, [], ◌∷◌, length, drop, Option, inl, inr, refl, sym, ap, ◌∙◌, subst, Result, Ok, Err, IsErrOf}
use Rattle.std.proofs.lemmas.List.{take-append-drop}
use Rattle.cluster_tree.specs.Causes.{Meets, Rose}
use Rattle.cluster_tree.specs.Contents.{Contents}
use Rattle.cluster_tree.specs.declared.tree.ChangeCall.{ChangeCall}
use Rattle.cluster_tree.proofs.SinkLemmas.{whole-is_part}
use Rattle.rmgr_hooks.specs.Custom.{Extension}
use Rattle.waldump_core.specs.Dump.{Dump}
use Rattle.waldump_core.specs.Texts.{Extends, IsFree as IsFreeFault, ending_of as dump_ending}
use Rattle.waldump_core.specs.declared.dumped.Dumped.{Dumped}
use Rattle.waldump_core.specs.declared.fault.DumpFault.{DumpFault}
use Rattle.waldump_core.specs.declared.fault.DumpFault.TheVariants as fault
use Rattle.log_folder.specs.Faults.{IsFree as IsFreeOfFolder}
use Rattle.log_folder.specs.declared.fault.FolderFault.{FolderFault}
use Rattle.log_folder.specs.declared.find.FoundLog.{FoundLog}
use Rattle.acts.specs.Acts.{Ending, Done, Refused, ReadFailed, WriteFailed, SinkFailed, NoMemory, Sunk, seen, Puts, Performs, ends, breaks}
use Rattle.acts.specs.Texts.{prints}
use Rattle.acts.proofs.ActSteps.{after_reads, look_goes_on, print_goes_on, print_breaks}
use Rattle.run_acts.specs.Answers.{Carries, cause_in, refused}
use Rattle.run_acts.specs.Causes.{IsFree, ending_of}
use Rattle.run_acts.specs.declared.cause.Cause.{Cause}
use Rattle.run_acts.specs.declared.cause.Cause.TheVariants as cause
use Rattle.cmd_waldump.specs.Causes.{dump_cause, folder_cause}
use Rattle.cmd_waldump.specs.Waldump.{IsDump, dump_answer, dump_refusal, found_answer}

-- the cause that a dump's outcome has
abbrev pub told : Result Dumped DumpFault → Cause
told (Ok dumped) = cause.Done
told (Err e) = dump_cause e

ends_alike : (r : Result Dumped DumpFault) → dump_ending r ≡ ending_of (told r)
ends_alike (Ok dumped) = refl
ends_alike (Err (fault.NoRecordAt start)) = refl
ends_alike (Err (fault.LogEnds place why)) = refl
ends_alike (Err (fault.BadParts at offset)) = refl
ends_alike (Err (fault.Compressed at id)) = refl
ends_alike (Err fault.ReadFault) = refl
ends_alike (Err fault.SinkFault) = refl
ends_alike (Err fault.OutOfMemory) = refl

writes_none : (r : Result Dumped DumpFault) → dump_ending r ≡ WriteFailed → ⊥
writes_none (Ok dumped) is = cc is
writes_none (Err (fault.NoRecordAt start)) is = cc is
writes_none (Err (fault.LogEnds place why)) is = cc is
writes_none (Err (fault.BadParts at offset)) is = cc is
writes_none (Err (fault.Compressed at id)) is = cc is
writes_none (Err fault.ReadFault) is = cc is
writes_none (Err fault.SinkFault) is = cc is
writes_none (Err fault.OutOfMemory) is = cc is

sink_failed : (r : Result Dumped DumpFault) → dump_ending r ≡ SinkFailed → IsErrOf r fault.SinkFault
sink_failed (Ok dumped) is = cc is
sink_failed (Err (fault.NoRecordAt start)) is = cc is
sink_failed (Err (fault.LogEnds place why)) is = cc is
sink_failed (Err (fault.BadParts at offset)) is = cc is
sink_failed (Err (fault.Compressed at id)) is = cc is
sink_failed (Err fault.ReadFault) is = cc is
sink_failed (Err fault.SinkFault) is = refl
sink_failed (Err fault.OutOfMemory) is = cc is

free_fault : (e : DumpFault) → IsFreeFault e → IsFree (dump_cause e)
free_fault e (inl is) = inl (ap dump_cause is)
free_fault e (inr (inl is)) = inr (inr (inl (ap dump_cause is)))
free_fault e (inr (inr is)) = inr (inr (inr (ap dump_cause is)))

exact_by : (meant r : Result Dumped DumpFault) → Meets IsFreeFault meant r → IsFree (told r) ⊎ (told r ≡ cause_in (dump_refusal meant))
exact_by meant (Ok dumped) m = inr (sym (ap (λ (x : Result Dumped DumpFault). cause_in (dump_refusal x)) m))
exact_by meant (Err e) (inl f) = inl (free_fault e f)
exact_by meant (Err e) (inr m) = inr (sym (ap (λ (x : Result Dumped DumpFault). cause_in (dump_refusal x)) m))

own : (r : Result Dumped DumpFault) → told r ≡ cause_in (dump_refusal r)
own (Ok dumped) = refl
own (Err e) = refl

extended : (old new : List ℕ) → Extends old new → new ≡ old ++ drop (length old) new
extended old new is = sym (take-append-drop (length old) new) ∙ ap (λ l. l ++ drop (length old) new) is

-- a text was added, however the run then ended
any_text : {o e : Bool} {c c' : Contents} {k k' : List ChangeCall} {out out' err : Sunk} (ending : Ending) (text : List ℕ) → Puts o text out out' → (ending ≡ SinkFailed → Rose out.faults out'.faults)
    → (ending ≡ WriteFailed → ⊥) → c' ≡ c → k' ≡ k → Performs o e ending (prints (text ∷ [])) (seen c k out err) (seen c' k' out' err)
any_text Done text p rose no_write ci ki = after_reads ci ki (look_goes_on (print_goes_on p refl (look_goes_on (ends (inl refl)))))
any_text Refused text p rose no_write ci ki = after_reads ci ki (look_goes_on (print_goes_on p refl (look_goes_on (ends (inr refl)))))
any_text ReadFailed text p rose no_write ci ki = after_reads ci ki (look_goes_on (print_goes_on p refl (breaks (inl refl, refl))))
any_text NoMemory text p rose no_write ci ki = after_reads ci ki (look_goes_on (print_goes_on p refl (breaks (inr refl, refl))))
any_text SinkFailed text p rose no_write ci ki = after_reads ci ki (look_goes_on (print_breaks (record { part = λ t. whole-is_part text _ _ (p.added t); rose = rose refl }) refl refl))
any_text WriteFailed text p rose no_write ci ki = absurd (no_write refl)

-- a dump's lines as acts, where the tree tells and where it doesn't
pub dump_carries : (tells : Bool) {o e : Bool} {c c' : Contents} {k k' : List ChangeCall} {out out' err : Sunk} (dump : Dump) (r : Result Dumped DumpFault)
    → (IsTrue tells → Meets IsFreeFault dump.answer r)
    → (IsTrue tells → Performs o e (dump_ending r) (prints dump.lines) (seen c k out err) (seen c' k' out' err))
    → (IsTrue o → Extends out.text out'.text) → out.faults ≤ out'.faults → (IsErrOf r fault.SinkFault → Rose out.faults out'.faults) → c' ≡ c → k' ≡ k
    → Carries (IsTrue tells) (dump_answer dump) IsDump o e (told r) (seen c k out err) (seen c' k' out' err)
dump_carries true {o} {e} {c} {c'} {k} {k'} {out} {out'} {err} dump r exact shown extends later rose ci ki = record {
  answer = dump_answer dump;
  known = λ h. refl;
  form = (dump.lines, refl);
  exact = exact_by dump.answer r (exact refl);
  acts = subst (λ x. Performs o e x (prints dump.lines) (seen c k out err) (seen c' k' out' err)) (ends_alike r) (shown refl);
}
dump_carries false {o} {e} {c} {c'} {k} {k'} {out} {out'} {err} dump r exact shown extends later rose ci ki =
    let text : List ℕ = drop (length out.text) out'.text in
    let puts : Puts o text out out' = record { added = λ t. extended out.text out'.text (extends t); later = later } in
    record {
      answer = record { acts = prints (text ∷ []); refusal = dump_refusal r };
      known = λ h. absurd (cc h);
      form = (text ∷ [], refl);
      exact = inr (own r);
      acts = subst (λ x. Performs o e x (prints (text ∷ [])) (seen c k out err) (seen c' k' out' err)) (ends_alike r)
          (any_text (dump_ending r) text puts (λ is. rose (sink_failed r is)) (writes_none r) ci ki);
    }

folder_free : (e : FolderFault) → IsFreeOfFolder e → IsFree (folder_cause e)
folder_free e (inl is) = inl (ap folder_cause is)
folder_free e (inr is) = inr (inr (inr (ap folder_cause is)))

-- why no log was found is why there is no dump
pub folder_passes : (custom : Option Extension) (why : Cause) (e : FolderFault) (c : Contents) (r : Result FoundLog FolderFault) → why ≡ folder_cause e → IsFreeOfFolder e ⊎ (r ≡ Err e) → IsFree why ⊎ (found_answer custom c r ≡ refused why)
folder_passes custom why e c r is (inl f) = inl (subst IsFree (sym is) (folder_free e f))
folder_passes custom why e c r is (inr m) = inr (ap (found_answer custom c) m ∙ ap refused (sym is))

-- The lines of a dump on their way to a sink.
use Rattle.std.proofs.Common.{◌≡◌, ◌≢◌, ℕ, ◌-◌, ◌≤◌, ◌⊎◌, Bool, IsTrue, List, [], ◌∷◌, ◌++◌, length, take, drop, Result, Err, refl, ap, sym, ◌∙◌, subst, arith, inl, inr, append-nil, append_assoc}
use Rattle.std.proofs.lemmas.Grind.{common_steps}
use Rattle.std.proofs.lemmas.List.{length-take, take-append-le, take-append-drop}
use Rattle.cluster_tree.specs.Sink.{AddsPart}
use Rattle.cluster_tree.specs.Contents.{Contents}
use Rattle.cluster_tree.specs.declared.tree.ChangeCall.{ChangeCall}
use Rattle.acts.specs.Acts.{Act, Breaks, Ending, NoMemory, Performs, Puts, ReadFailed, Refused, Seen, SinkFailed, Sunk, seen}
use Rattle.acts.specs.Texts.{Flushes, prints, texts_of}
use Rattle.acts.proofs.ActSteps.{after_reads}
use Rattle.acts.proofs.LeadLemmas.{leads_start}
use Rattle.acts.proofs.PrintLemmas.{Gathers, flushed, gathers_more, last_flushed, prints_beside, prints_pause, stops_here}
use Rattle.waldump_core.specs.declared.dumped.Dumped.{Dumped}
use Rattle.waldump_core.specs.declared.fault.DumpFault.{DumpFault}
use Rattle.waldump_core.specs.declared.fault.DumpFault.TheVariants as fault
use Rattle.waldump_core.specs.Dump.{Dump}
use Rattle.waldump_core.specs.Steps.{EndsBy, Gives}
use Rattle.waldump_core.specs.Texts.{Extends, IsOfReads, ending_by, ending_of}

-- what stood on a sink stays
pub extends_same : (old : List ℕ) → Extends old old
extends_same old = grind (arith, common_steps)

no_shorter : (old new : List ℕ) → Extends old new → length old ≤ length new
no_shorter old new e = let size = ap length e in let taken = length-take (length old) new in omega (arith, size, taken)

extended : (old new more : List ℕ) → length old ≤ length new → take (length old) (new ++ more) ≡ take (length old) new
extended old new more h = take-append-le (length old) new more h

extends_more : (old new last more : List ℕ) → Extends old new → last ≡ new ++ more → Extends old last
extends_more old new last more e is = ap (take (length old)) is ∙ extended old new more (no_shorter old new e) ∙ e

pub extends_part : (old new last text : List ℕ) → Extends old new → AddsPart text new last → Extends old last
extends_part old new last text e is = extends_more old new last (take (length last - length new) text) e is

pub extends_added : (old new text : List ℕ) → new ≡ old ++ text → Extends old new
extends_added old new text is = extends_more old old new text (extends_same old) is

pub extends_some : (old new text : List ℕ) → AddsPart text old new → Extends old new
extends_some old new text is = extends_part old old new text (extends_same old) is

take_shorter : (n : ℕ) (l : List ℕ) (m : ℕ) → n ≤ length (take m l) → take n (take m l) ≡ take n l
take_shorter n l m h =
    ap (take n) (sym (append-nil (take m l))) ∙ take-append-le n (take m l) [] h ∙ sym (take-append-le n (take m l) (drop m l) h) ∙ ap (take n) (take-append-drop m l)

pub extends_again : (old new last : List ℕ) → Extends old new → Extends new last → Extends old last
extends_again old new last e f =
    let size : length old ≤ length (take (length new) last) = let same = ap length f in omega (arith, no_shorter old new e, same) in
    sym (take_shorter (length old) last (length new) size) ∙ ap (take (length old)) f ∙ e

pub extends_put : {tells : Bool} {text : List ℕ} {old new : Sunk} → Puts tells text old new → IsTrue tells → Extends old.text new.text
extends_put {text = text} {old} {new} p t = extends_added old.text new.text text (p.added t)

pub extends_broken : {tells : Bool} {text : List ℕ} {old new : Sunk} → Breaks tells text old new → IsTrue tells → Extends old.text new.text
extends_broken {text = text} {old} {new} p t = extends_some old.text new.text text (p.part t)

pub ruleset flush_steps = (extends_same, extends_put, extends_broken)

pub ruleset walk_steps = (extends_same, extends_again)

-- lines that were given are gathered
module _ {o e : Bool} {all : List Act} {start : Seen} where
  gathers_all : (added more : List (List ℕ)) (text text' : List ℕ) (here : Seen) → Gathers o e all start text (prints (added ++ more)) here → text' ≡ text ++ texts_of added → Gathers o e all start text' (prints more) here
  gathers_all [] more text text' here g new = subst (λ t. Gathers o e all start t (prints more) here) (sym (new ∙ append-nil text)) g
  gathers_all (line ∷ added) more text text' here g new =
      gathers_all added more (text ++ line) text' here (gathers_more g refl refl refl) (new ∙ sym (append_assoc text line (texts_of added)))

  pub gathers_given : {old new : Dump} {text text' : List ℕ} {here : Seen} → Gathers o e all start text (prints old.lines) here → Gives old text new text' → Gathers o e all start text' (prints new.lines) here
  gathers_given {old} {new} {text} {text'} {here} g s =
      gathers_all s.added new.lines text text' here (subst (λ l. Gathers o e all start text (prints l) here) s.lines g) s.text

pub gathers_kept : {o e : Bool} {all rest : List Act} {start here : Seen} {text text' : List ℕ} → Gathers o e all start text rest here → text' ≡ text → Gathers o e all start text' rest here
gathers_kept {o} {e} {all} {rest} {start} {here} g is = subst (λ t. Gathers o e all start t rest here) (sym is) g

pub sink_ending : (r : Result Dumped DumpFault) (e : DumpFault) → r ≡ Err e → e ≡ fault.SinkFault → ending_of r ≡ SinkFailed
sink_ending r e is e_is = ap ending_of is ∙ ap ending_by e_is

pub other_fault : {A : Type 0} (r : Result A DumpFault) (e : DumpFault) → r ≡ Err e → r ≢ Err fault.SinkFault → e ≢ fault.SinkFault
other_fault r e is other same = other (is ∙ ap (λ x. Err x) same)

-- how a dump ends by a fault that isn't one of a sink
data Stop (e : DumpFault) : Type 0 where
  paused : (ending_by e ≡ ReadFailed) ⊎ (ending_by e ≡ NoMemory) → Stop e
  refused : ending_by e ≡ Refused → Stop e

stop_by : (e : DumpFault) → e ≢ fault.SinkFault → Stop e
stop_by (fault.NoRecordAt start) other = refused refl
stop_by (fault.LogEnds place why) other = refused refl
stop_by (fault.BadParts at offset) other = refused refl
stop_by (fault.Compressed at id) other = refused refl
stop_by fault.ReadFault other = paused (inl refl)
stop_by fault.SinkFault other = absurd (other refl)
stop_by fault.OutOfMemory other = paused (inr refl)

pub pause_by : (e : DumpFault) → IsOfReads e → (ending_by e ≡ ReadFailed) ⊎ (ending_by e ≡ NoMemory)
pause_by e (inl is) = inl (ap ending_by is)
pause_by e (inr is) = inr (ap ending_by is)

pub pause_ending : (r : Result Dumped DumpFault) (e : DumpFault) → r ≡ Err e → IsOfReads e → (ending_of r ≡ ReadFailed) ⊎ (ending_of r ≡ NoMemory)
pause_ending r e is (inl read) = inl (ap ending_of is ∙ ap ending_by read)
pause_ending r e is (inr memory) = inr (ap ending_of is ∙ ap ending_by memory)

-- a fault before any line
pub paused_before : {o e : Bool} {c c' : Contents} {k k' : List ChangeCall} {out err : Sunk} (lines : List (List ℕ)) (r : Result Dumped DumpFault) (why : DumpFault) → r ≡ Err why → IsOfReads why → c' ≡ c → k' ≡ k
    → Performs o e (ending_of r) (prints lines) (seen c k out err) (seen c' k' out err)
paused_before lines r why is of_reads same uncalled = after_reads same uncalled (prints_pause lines (pause_ending r why is of_reads))

-- a refusal where there is no line
pub refused_before : {o e : Bool} {c c' : Contents} {k k' : List ChangeCall} {out err : Sunk} (dump : Dump) (other : Dump) → other ≡ dump → other.lines ≡ [] → c' ≡ c → k' ≡ k
    → Performs o e Refused (prints dump.lines) (seen c k out err) (seen c' k' out err)
refused_before dump other is none same uncalled =
    after_reads same uncalled (stops_here dump.lines leads_start refl (inr (inr (ap (λ (d : Dump). d.lines) (sym is) ∙ none, inr refl))))

-- lines that were put after reads, whatever stands on standard error
pub put_after_reads : {o e : Bool} {ending : Ending} {s u : Seen} {c c' : Contents} {k k' : List ChangeCall} (dump other : Dump) (e' : Bool) (err : Sunk) → other ≡ dump → c' ≡ c → k' ≡ k
    → Performs o e ending (prints other.lines) s u → Performs o e' ending (prints dump.lines) (seen c k s.out err) (seen c' k' u.out err)
put_after_reads {o} {e} {ending} {s} {u} {c} {c'} {k} {k'} dump other e' err is same uncalled p =
    let moved = prints_beside other.lines e' c' k' err p in
    after_reads same uncalled (subst (λ (d : Dump). Performs o e' ending (prints d.lines) (seen c' k' s.out err) (seen c' k' u.out err)) is moved)

module _ {o e : Bool} {all : List Act} {start : Seen} {c : Contents} {k : List ChangeCall} {out out' err : Sunk} where
  free_flushed : (lines : List (List ℕ)) (text : List ℕ) (why : DumpFault) → Gathers o e all start text (prints lines) (seen c k out err) → Flushes o text out out' → (ending_by why ≡ ReadFailed) ⊎ (ending_by why ≡ NoMemory) → Performs o e (ending_by why) all start (seen c k out' err)
  free_flushed lines text why g f (inl is) = stops_here lines (flushed text (prints lines) g f) refl (inl is)
  free_flushed lines text why g f (inr is) = stops_here lines (flushed text (prints lines) g f) refl (inr (inl is))

  stopped_so : (dump : Dump) (text : List ℕ) (why : DumpFault) → Gathers o e all start text (prints dump.lines) (seen c k out err) → Flushes o text out out' → Stop why → dump.lines ≡ [] → Performs o e (ending_by why) all start (seen c k out' err)
  stopped_so dump text why g f (paused is) none = free_flushed dump.lines text why g f is
  stopped_so dump text why g f (refused is) none = last_flushed text (prints dump.lines) (ending_by why) g (ap prints none) (inr is) f

  -- what was gathered was put, behind a fault of the walk
  pub fault_flushed : (dump : Dump) (text : List ℕ) (why : DumpFault) → Gathers o e all start text (prints dump.lines) (seen c k out err) → Flushes o text out out' → why ≢ fault.SinkFault → IsOfReads why ⊎ EndsBy dump why
      → Performs o e (ending_by why) all start (seen c k out' err)
  fault_flushed dump text why g f other (inl is) = free_flushed dump.lines text why g f (pause_by why is)
  fault_flushed dump text why g f other (inr by) = stopped_so dump text why g f (stop_by why other) by.lines

pub ruleset dump_steps = (extends_same)

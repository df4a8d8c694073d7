-- Texts that are gathered, and put on standard output by one write: each of them is an act.
use Rattle.std.proofs.Common.{◌≡◌, ◌≢◌, ℕ, ◌+◌, ◌-◌, ◌≤◌, ◌⊎◌, ◌++◌, Bool, true, false, List, [], ◌∷◌, length, take, inl, inr, refl, sym, ap, ◌∙◌, subst, append-nil, append_assoc, arith}
use Rattle.std.proofs.lemmas.Grind.{common_steps}
use Rattle.std.proofs.Math.Seq.{take-append-add}
use Rattle.cluster_tree.specs.Contents.{Contents}
use Rattle.cluster_tree.specs.declared.tree.ChangeCall.{ChangeCall}
use Rattle.cluster_tree.proofs.SinkLemmas.{taken-is_part}
use Rattle.acts.specs.Acts.{Act, Look, Print, Ending, Done, Refused, ReadFailed, SinkFailed, NoMemory, Sunk, sunk, Seen, seen, Puts, Breaks, Performs, ends, breaks, goes_on}
use Rattle.acts.specs.Texts.{texts_of, shown, prints, Flushes}
use Rattle.acts.proofs.ActSteps.{look_goes_on, print_goes_on, print_breaks}
use Rattle.acts.proofs.LeadLemmas.{Leads, leads_read}

same_part : (o : Bool) (text text' : List ℕ) (old new : Sunk) → text ≡ text' → Breaks o text old new → Breaks o text' old new
same_part o text text' old new is b = subst (λ t. Breaks o t old new) is b

le_refl' : (n : ℕ) → n ≤ n
le_refl' n = omega arith

-- the first of two texts is whole, of the second a part may be missing
put_first : (o : Bool) (a : List ℕ) (old : Sunk) → Puts o a old (sunk (old.text ++ a) old.faults)
put_first o a old = record { added = λ t. refl; later = le_refl' old.faults }

put_second : (o : Bool) (a b : List ℕ) (old new : Sunk) → Puts o (a ++ b) old new → Puts o b (sunk (old.text ++ a) old.faults) new
put_second o a b old new p = record { added = λ t. p.added t ∙ sym (append_assoc old.text a b); later = p.later }

in_first : (n : ℕ) (a b : List ℕ) → n ≤ length a → take n (a ++ b) ≡ take n a
in_first n a b h = grind (arith, common_steps)

past : (n m : ℕ) → n ≡ m + (n - m) ⊎ (n ≤ m)
past n m = grind arith

in_second : (n : ℕ) (a b : List ℕ) → n ≡ length a + (n - length a) → take n (a ++ b) ≡ a ++ take (n - length a) b
in_second n a b h = ap (λ k. take k (a ++ b)) h ∙ take-append-add a b (n - length a)

-- a write of two texts broke off in the first, or in the second
data Where (o : Bool) (a b : List ℕ) (old new : Sunk) : Type 0 where
  in_a : Breaks o a old new → Where o a b old new
  in_b : Breaks o b (sunk (old.text ++ a) old.faults) new → Where o a b old new

where_by : (n : ℕ) (a b : List ℕ) (old new : Sunk) → new.text ≡ old.text ++ take n (a ++ b) → Breaks true (a ++ b) old new → (n ≡ length a + (n - length a)) ⊎ (n ≤ length a) → Where true a b old new
where_by n a b old new is br (inl h) = in_b (record { part = λ t. taken-is_part (n - length a) b (old.text ++ a) new.text (is ∙ ap (λ l. old.text ++ l) (in_second n a b h) ∙ sym (append_assoc old.text a _)); rose = br.rose })
where_by n a b old new is br (inr h) = in_a (record { part = λ t. taken-is_part n a old.text new.text (is ∙ ap (λ l. old.text ++ l) (in_first n a b h)); rose = br.rose })

where_broken : (o : Bool) (a b : List ℕ) (old new : Sunk) → Breaks o (a ++ b) old new → Where o a b old new
where_broken false a b old new br = in_a (record { part = λ t. cc; rose = br.rose })
where_broken true a b old new br = where_by (length new.text - length old.text) a b old new (br.part refl) br (past (length new.text - length old.text) (length a))

module _ {o e : Bool} {ending : Ending} {c : Contents} {k : List ChangeCall} {err : Sunk} (acts : List Act) where
  prints_go_on : (first : List ℕ) (texts : List (List ℕ)) (out out' : Sunk) (u : Seen) → Puts o (texts_of (first ∷ texts)) out out'
      → Performs o e ending acts (seen c k out' err) u → Performs o e ending (shown (first ∷ texts) acts) (seen c k out err) u
  prints_go_on first [] out out' u p r = look_goes_on (print_goes_on p (append-nil first) r)
  prints_go_on first (second ∷ texts) out out' u p r =
      look_goes_on (print_goes_on (put_first o first out) refl
      (prints_go_on second texts (sunk (out.text ++ first) out.faults) out' u (put_second o first (texts_of (second ∷ texts)) out out' p) r))

  prints_break : (first : List ℕ) (texts : List (List ℕ)) (out out' : Sunk) → ending ≡ SinkFailed → Breaks o (texts_of (first ∷ texts)) out out'
      → Performs o e ending (shown (first ∷ texts) acts) (seen c k out err) (seen c k out' err)
  prints_break first [] out out' is b = look_goes_on (print_breaks b (append-nil first) is)
  prints_break first (second ∷ texts) out out' is b =
      elim (where_broken o first (texts_of (second ∷ texts)) out out' b) [
        | in_a h ↦ look_goes_on (print_breaks h refl is)
        | in_b h ↦ look_goes_on (print_goes_on (put_first o first out) refl (prints_break second texts (sunk (out.text ++ first) out.faults) out' is h))
      ]

-- texts are gathered that are acts before the rest
pub record Gathers (o e : Bool) (all : List Act) (start : Seen) (text : List ℕ) (rest : List Act) (here : Seen) : Type 0 where
  pub texts : List (List ℕ)
  pub is : text ≡ texts_of texts
  pub leads : Leads (λ _. Unit {0}) o e all start (shown texts rest) here

shown_append : (texts : List (List ℕ)) (text : List ℕ) (rest : List Act) → shown (texts ++ text ∷ []) rest ≡ shown texts (Look ∷ Print text ∷ rest)
shown_append [] text rest = refl
shown_append (first ∷ texts) text rest = ap (λ l. Look ∷ Print first ∷ l) (shown_append texts text rest)

texts_append : (texts : List (List ℕ)) (text : List ℕ) → texts_of (texts ++ text ∷ []) ≡ texts_of texts ++ text
texts_append [] text = append-nil text
texts_append (first ∷ texts) text = ap (λ l. first ++ l) (texts_append texts text) ∙ sym (append_assoc first (texts_of texts) text)

module _ {o e : Bool} {all : List Act} {start : Seen} where
  pub gathers_none : (acts : List Act) (here : Seen) (text : List ℕ) → text ≡ [] → Leads (λ _. Unit {0}) o e all start acts here → Gathers o e all start text acts here
  gathers_none acts here text is l = record { texts = []; is = is; leads = l }

  pub gathers_more : {text new more more' : List ℕ} {rest rest' : List Act} {here : Seen} → Gathers o e all start text rest here → rest ≡ Look ∷ Print more ∷ rest' → new ≡ text ++ more' → more' ≡ more → Gathers o e all start new rest' here
  gathers_more {text} {new} {more} {more'} {rest} {rest'} {here} g is new_is same = record {
    texts = g.texts ++ more ∷ [];
    is = new_is ∙ ap (λ l. l ++ more') g.is ∙ ap (λ l. texts_of g.texts ++ l) same ∙ sym (texts_append g.texts more);
    leads = subst (λ l. Leads (λ _. Unit {0}) o e all start l here) (ap (shown g.texts) is ∙ sym (shown_append g.texts more rest')) g.leads;
  }

  pub gathers_read : {text : List ℕ} {rest : List Act} {c c' : Contents} {k k' : List ChangeCall} {out err : Sunk} → c' ≡ c → k' ≡ k → Gathers o e all start text rest (seen c k out err) → Gathers o e all start text rest (seen c' k' out err)
  gathers_read ci ki g = record { texts = g.texts; is = g.is; leads = leads_read ci ki g.leads }

  module _ {c : Contents} {k : List ChangeCall} {out out' err : Sunk} where
    put_all : (texts : List (List ℕ)) (text : List ℕ) (rest : List Act) → text ≡ texts_of texts → Leads (λ _. Unit {0}) o e all start (shown texts rest) (seen c k out err) → Flushes o text out out'
        → Leads (λ _. Unit {0}) o e all start rest (seen c k out' err)
    put_all [] text rest is l (inl f) = subst (λ s. Leads (λ _. Unit {0}) o e all start rest (seen c k s err)) (sym f.1) l
    put_all [] text rest is l (inr f) = absurd (f.0 is)
    put_all (first ∷ texts) text rest is l (inl f) =
        let p : Puts o text out out' = subst (λ s. Puts o text out s) (sym f.1) (record { added = λ t. sym (append-nil out.text) ∙ ap (λ x. out.text ++ x) (sym f.0); later = le_refl' out.faults }) in
        record { on = λ ending u h r. l.on ending u h (prints_go_on rest first texts out out' u (subst (λ t. Puts o t out out') is p) r) }
    put_all (first ∷ texts) text rest is l (inr f) = record { on = λ ending u h r. l.on ending u h (prints_go_on rest first texts out out' u (subst (λ t. Puts o t out out') is f.1) r) }

    pub flushed : (text : List ℕ) (rest : List Act) → Gathers o e all start text rest (seen c k out err) → Flushes o text out out' → Leads (λ _. Unit {0}) o e all start rest (seen c k out' err)
    flushed text rest g f = put_all g.texts text rest g.is g.leads f

    -- what was gathered is put, or kept
    pub passed_on : (text text' : List ℕ) (rest : List Act) → Gathers o e all start text rest (seen c k out err) → (Flushes o text out out' × (text' ≡ [])) ⊎ ((out' ≡ out) × (text' ≡ text)) → Gathers o e all start text' rest (seen c k out' err)
    passed_on text text' rest g (inl f) = gathers_none rest (seen c k out' err) text' f.1 (flushed text rest g f.0)
    passed_on text text' rest g (inr h) = subst (λ s. Gathers o e all start text' rest (seen c k s err)) (sym h.0) (subst (λ t. Gathers o e all start t rest (seen c k out err)) (sym h.1) g)

    break_all : (texts : List (List ℕ)) (text : List ℕ) (rest : List Act) (ending : Ending) → text ≡ texts_of texts → Leads (λ _. Unit {0}) o e all start (shown texts rest) (seen c k out err) → text ≢ [] → Breaks o text out out' → ending ≡ SinkFailed
        → Performs o e ending all start (seen c k out' err)
    break_all [] text rest ending is l some b sf = absurd (some is)
    break_all (first ∷ texts) text rest ending is l some b sf = l.on ending _ tt (prints_break rest first texts out out' sf (same_part o text (texts_of (first ∷ texts)) out out' is b))

    pub broken : (text : List ℕ) (rest : List Act) (ending : Ending) → Gathers o e all start text rest (seen c k out err) → text ≢ [] → Breaks o text out out' → ending ≡ SinkFailed → Performs o e ending all start (seen c k out' err)
    broken text rest ending g some b sf = break_all g.texts text rest ending g.is g.leads some b sf

    -- what was gathered is put last
    pub last_flushed : (text : List ℕ) (rest : List Act) (ending : Ending) → Gathers o e all start text rest (seen c k out err) → rest ≡ prints [] → (ending ≡ Done) ⊎ (ending ≡ Refused) → Flushes o text out out' → Performs o e ending all start (seen c k out' err)
    last_flushed text rest ending g none is f = (flushed text rest g f).on ending _ tt (subst (λ l. Performs o e ending l (seen c k out' err) (seen c k out' err)) (sym none) (look_goes_on (ends is)))

module _ {o e : Bool} {ending : Ending} {s : Seen} where
  -- a run may stop before any of the texts
  pub prints_pause : (lines : List (List ℕ)) → (ending ≡ ReadFailed) ⊎ (ending ≡ NoMemory) → Performs o e ending (prints lines) s s
  prints_pause [] is = breaks (is, refl)
  prints_pause (first ∷ lines) is = breaks (is, refl)

  shown_pause : (texts lines : List (List ℕ)) → (ending ≡ ReadFailed) ⊎ (ending ≡ NoMemory) → Performs o e ending (shown texts (prints lines)) s s
  shown_pause [] lines is = prints_pause lines is
  shown_pause (first ∷ texts) lines is = breaks (is, refl)

module _ {o e : Bool} {ending : Ending} {all rest : List Act} {start here : Seen} where
  -- a read failed, memory is wanting, or no text is left
  pub stops_here : (lines : List (List ℕ)) → Leads (λ _. Unit {0}) o e all start rest here → rest ≡ prints lines
      → (ending ≡ ReadFailed) ⊎ (ending ≡ NoMemory) ⊎ ((lines ≡ []) × ((ending ≡ Done) ⊎ (ending ≡ Refused))) → Performs o e ending all start here
  stops_here lines l is (inl f) = l.on _ _ tt (subst (λ r. Performs o e ending r here here) (sym is) (prints_pause lines (inl f)))
  stops_here lines l is (inr (inl f)) = l.on _ _ tt (subst (λ r. Performs o e ending r here here) (sym is) (prints_pause lines (inr f)))
  stops_here lines l is (inr (inr f)) = l.on _ _ tt (subst (λ r. Performs o e ending r here here) (sym (is ∙ ap prints f.0)) (look_goes_on (ends f.1)))

  -- what was gathered is lost, since a read failed or memory is wanting
  pub lost : {text : List ℕ} (lines : List (List ℕ)) → Gathers o e all start text rest here → rest ≡ prints lines → (ending ≡ ReadFailed) ⊎ (ending ≡ NoMemory) → Performs o e ending all start here
  lost lines g is f = g.leads.on _ _ tt (subst (λ r. Performs o e ending (shown g.texts r) here here) (sym is) (shown_pause g.texts lines f))

-- texts that were put on standard output, whatever the tree and standard error hold
pub prints_beside : {o e : Bool} {ending : Ending} {s u : Seen} (texts : List (List ℕ)) (e' : Bool) (c : Contents) (k : List ChangeCall) (err : Sunk)
    → Performs o e ending (prints texts) s u → Performs o e' ending (prints texts) (seen c k s.out err) (seen c k u.out err)
prints_beside {s = s} [] e' c k err (breaks p) = breaks (p.0, ap (λ (x : Seen). seen c k x.out err) p.1)
prints_beside {s = s} [] e' c k err (goes_on w a (ends is)) = goes_on (ap (λ (x : Seen). seen c k x.out err) w) tt (ends is)
prints_beside (first ∷ texts) e' c k err (breaks p) = breaks (p.0, ap (λ (x : Seen). seen c k x.out err) p.1)
prints_beside (first ∷ texts) e' c k err (goes_on w a (breaks p)) = goes_on (ap (λ (x : Seen). seen c k x.out err) w) tt (print_breaks p.1 refl p.0)
prints_beside (first ∷ texts) e' c k err (goes_on w a (goes_on v b r)) = goes_on (ap (λ (x : Seen). seen c k x.out err) w) tt (print_goes_on v.0 refl (prints_beside texts e' c k err r))

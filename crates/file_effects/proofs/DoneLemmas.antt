-- What a record does to files, step by step.
use Rattle.std.proofs.Common.{◌≡◌, ℕ, zero, suc, ◌+◌, ◌≤◌, ◌==◌, true, false, List, [], ◌∷◌, ◌++◌, length, drop, slice_get, Option, None, Some, Result, Ok, Err, refl, ap, sym, ◌∙◌, subst, arith}
use Rattle.std.specs.Prelude.{if◌then◌else◌}
use Rattle.std.proofs.lemmas.Grind.{common_steps}
use Rattle.block_refs.specs.Parts.{PartsView}
use Rattle.cluster_tree.specs.Causes.{given}
use Rattle.cluster_tree.specs.Contents.{Contents}
use Rattle.cluster_tree.specs.PathValue.{PathValue}
use Rattle.cluster_tree.specs.declared.file_fault.FileFault.{FileFault}
use Rattle.file_edits.specs.Answers.{Does}
use Rattle.file_edits.proofs.AnswerLemmas.{Why, why-first, why-is, given-ok, does-is}
use Rattle.record_layouts.specs.declared.end.TransactionEnd.{TransactionEnd}
use Rattle.record_layouts.specs.declared.end_parts.Outcome.{Outcome}
use Rattle.record_layouts.specs.declared.multixact.MultiXactTruncate.{MultiXactTruncate}
use Rattle.slru_replay.specs.Cutting.{area_cut}
use Rattle.slru_replay.specs.Status.{status_set}
use Rattle.slru_replay.specs.declared.area.Area.TheVariants.{Offsets, Members}
use Rattle.storage_replay.specs.Changes.{relation_dropped}
use Rattle.wal_records.specs.Reading.{LogRecord}
use Rattle.file_effects.specs.Done.{bits_cleared, effect_done, files_after, for_each, multis_cut, own_xid, page_before, status_of, statuses_set, transaction_ended}
use Rattle.file_effects.specs.Effect.{effect_in}
use Rattle.file_effects.specs.MapClears.{all_listed, clears_in, listed, map_clears}
use Rattle.file_effects.specs.declared.clearing.Clearing.{Clearing}
use Rattle.file_effects.specs.declared.clearing.Clears.{Clears}
use Rattle.file_effects.specs.declared.effect.FileEffect.{FileEffect}

-- for each of a list

next : {A : Type 0} (xs : List A) (i : ℕ) (x : A) → slice_get xs i ≡ Some x → drop i xs ≡ x ∷ drop (i + 1) xs
next [] i x is = absurd cc
next (first ∷ rest) zero x is = let same : first ≡ x = cc in ap (λ y. y ∷ rest) same
next (first ∷ rest) (suc i) x is = let step : suc i + 1 ≡ suc (i + 1) = omega arith in next rest i x is ∙ ap (λ k. x ∷ drop k (first ∷ rest)) (sym step)

pub each-none : {A : Type 0} (step : A → Contents → Result Contents FileFault) (c : Contents) → for_each step [] c ≡ Ok c
unfolding for_each
each-none step c = refl

pub each-one : {A : Type 0} (step : A → Contents → Result Contents FileFault) (x : A) (c : Contents) → for_each step (x ∷ []) c ≡ step x c
unfolding for_each
each-one step x c = elim (step x c) as (λ m. given m (for_each step []) ≡ m) [ Ok d ↦ refl | Err e ↦ refl ]

pub each-end : {A : Type 0} (step : A → Contents → Result Contents FileFault) (xs : List A) (i : ℕ) (c : Contents) → length xs ≤ i → for_each step (drop i xs) c ≡ Ok c
each-end step xs i c l = let none : drop i xs ≡ [] = grind (arith, common_steps) in ap (λ ys. for_each step ys c) none ∙ each-none step c

pub each-more : {A : Type 0} (step : A → Contents → Result Contents FileFault) (xs : List A) (i : ℕ) (x : A) (c d : Contents) → slice_get xs i ≡ Some x → step x c ≡ Ok d → for_each step (drop i xs) c ≡ for_each step (drop (i + 1) xs) d
unfolding for_each
each-more step xs i x c d at done = ap (λ ys. for_each step ys c) (next xs i x at) ∙ given-ok (step x c) (for_each step (drop (i + 1) xs)) d done

pub each-refused : {A : Type 0} (step : A → Contents → Result Contents FileFault) (xs : List A) (i : ℕ) (x : A) (c : Contents) (e : FileFault) → slice_get xs i ≡ Some x → Why (step x c) e → Why (for_each step (drop i xs) c) e
unfolding for_each
each-refused step xs i x c e at why =
    why-is _ _ e (ap (λ ys. for_each step ys c) (next xs i x at)) (why-first (step x c) (for_each step (drop (i + 1) xs)) e why)

each-append : {A : Type 0} (step : A → Contents → Result Contents FileFault) (xs ys : List A) (c : Contents) → for_each step (xs ++ ys) c ≡ given (for_each step xs c) (for_each step ys)
unfolding for_each
each-append step [] ys c = refl
each-append step (x ∷ xs) ys c =
    elim (step x c) as (λ m. given m (for_each step (xs ++ ys)) ≡ given (given m (for_each step xs)) (for_each step ys)) [ Ok d ↦ each-append step xs ys d | Err e ↦ refl ]

pub append-refused : {A : Type 0} (step : A → Contents → Result Contents FileFault) (xs ys : List A) (c : Contents) (e : FileFault) → Why (for_each step xs c) e → Why (for_each step (xs ++ ys) c) e
append-refused step xs ys c e why = why-is _ _ e (each-append step xs ys c) (why-first (for_each step xs c) (for_each step ys) e why)

append-is : {A : Type 0} (step : A → Contents → Result Contents FileFault) (xs ys : List A) (c d : Contents) → for_each step xs c ≡ Ok d → for_each step (xs ++ ys) c ≡ for_each step ys d
append-is step xs ys c d is = each-append step xs ys c ∙ given-ok (for_each step xs c) (for_each step ys) d is

pub append-then : {A B : Type 0} (step : A → Contents → Result Contents FileFault) (xs ys : List A) (c d new : Contents) (r : Result B FileFault) → for_each step xs c ≡ Ok d → Does (for_each step ys d) new r → Does (for_each step (xs ++ ys) c) new r
append-then step xs ys c d new r is done = does-is (for_each step ys d) _ new r (append-is step xs ys c d is) done

-- bits that may be there to clear

pub clear-some : {B : Type 0} (root : PathValue) (per : ℕ) (o : Option Clearing) (one : Clearing) (c new : Contents) (r : Result B FileFault) → o ≡ Some one → Does (bits_cleared root per one c) new r → Does (for_each (bits_cleared root per) (listed o) c) new r
clear-some root per o one c new r is done =
    does-is (bits_cleared root per one c) _ new r (ap (λ x. for_each (bits_cleared root per) (listed x) c) is ∙ each-one (bits_cleared root per) one c) done

pub clear-none : (root : PathValue) (per : ℕ) (o : Option Clearing) (c : Contents) → o ≡ None → for_each (bits_cleared root per) (listed o) c ≡ Ok c
clear-none root per o c is = ap (λ x. for_each (bits_cleared root per) (listed x) c) is ∙ each-none (bits_cleared root per) c

-- the record's own transaction

pub own-none : (root : PathValue) (xid status : ℕ) (c : Contents) → (xid == 0) ≡ true → statuses_set root status (own_xid xid) c ≡ Ok c
own-none root xid status c is = ap (λ b. statuses_set root status (if b then [] else xid ∷ []) c) is ∙ each-none (λ xid. status_set root xid status) c

pub own-set : {B : Type 0} (root : PathValue) (xid status : ℕ) (c new : Contents) (r : Result B FileFault) → (xid == 0) ≡ false → Does (status_set root xid status c) new r → Does (statuses_set root status (own_xid xid) c) new r
own-set root xid status c new r is done =
    does-is (status_set root xid status c) _ new r
    (ap (λ b. statuses_set root status (if b then [] else xid ∷ []) c) is ∙ each-one (λ xid. status_set root xid status) xid c) done

-- the end of a transaction

module _ (root : PathValue) (xid : ℕ) (outcome : Outcome) (end : TransactionEnd) (status : ℕ) (is : status ≡ status_of outcome) (c : Contents) where
  statuses_refused : (e : FileFault) → Why (statuses_set root status (own_xid xid ++ end.subxacts) c) e → Why (transaction_ended root xid outcome end c) e
  unfolding transaction_ended
  statuses_refused e why =
      why-first (statuses_set root (status_of outcome) (own_xid xid ++ end.subxacts) c) (for_each (relation_dropped root) end.dropped) e
      (subst (λ s. Why (statuses_set root s (own_xid xid ++ end.subxacts) c) e) is why)

  pub own-refused : (e : FileFault) → Why (statuses_set root status (own_xid xid) c) e → Why (transaction_ended root xid outcome end c) e
  own-refused e why = statuses_refused e (append-refused (λ xid. status_set root xid status) (own_xid xid) end.subxacts c e why)

  pub subs-refused : (d : Contents) (e : FileFault) → statuses_set root status (own_xid xid) c ≡ Ok d → Why (statuses_set root status end.subxacts d) e → Why (transaction_ended root xid outcome end c) e
  subs-refused d e own why = statuses_refused e (why-is _ _ e (append-is (λ xid. status_set root xid status) (own_xid xid) end.subxacts c d own) why)

  pub ended-then : {B : Type 0} (d f new : Contents) (r : Result B FileFault) → statuses_set root status (own_xid xid) c ≡ Ok d → statuses_set root status end.subxacts d ≡ Ok f → Does (for_each (relation_dropped root) end.dropped f) new r → Does (transaction_ended root xid outcome end c) new r
  unfolding transaction_ended
  ended-then d f new r own subs done =
      does-is (for_each (relation_dropped root) end.dropped f) _ new r
      (given-ok (statuses_set root (status_of outcome) (own_xid xid ++ end.subxacts) c) (for_each (relation_dropped root) end.dropped) f
      (ap (λ s. statuses_set root s (own_xid xid ++ end.subxacts) c) (sym is) ∙ append-is (λ xid. status_set root xid status) (own_xid xid) end.subxacts c d own ∙ subs)) done

-- old multixacts

module _ (root : PathValue) (cut : MultiXactTruncate) (page : ℕ) (is : page ≡ page_before cut.end_multi) (c : Contents) where
  pub offsets-refused : (e : FileFault) → Why (area_cut root Offsets 0 page c) e → Why (multis_cut root cut c) e
  unfolding multis_cut
  offsets-refused e why =
      why-first (area_cut root Offsets 0 (page_before cut.end_multi) c) (area_cut root Members cut.first_offset cut.end_offset) e (subst (λ p. Why (area_cut root Offsets 0 p c) e) is why)

  pub members-then : {B : Type 0} (d new : Contents) (r : Result B FileFault) → area_cut root Offsets 0 page c ≡ Ok d → Does (area_cut root Members cut.first_offset cut.end_offset d) new r → Does (multis_cut root cut c) new r
  unfolding multis_cut
  members-then d new r offsets done =
      does-is (area_cut root Members cut.first_offset cut.end_offset d) _ new r
      (given-ok (area_cut root Offsets 0 (page_before cut.end_multi) c) (area_cut root Members cut.first_offset cut.end_offset) d (ap (λ p. area_cut root Offsets 0 p c) (sym is) ∙ offsets)) done

-- a record

module _ (root : PathValue) (per : ℕ) (rec : LogRecord) (parts : PartsView) (clears : Clears) (is : clears ≡ clears_in rec parts) (c : Contents) where
  pub bits-refused : (e : FileFault) → Why (for_each (bits_cleared root per) (all_listed clears) c) e → Why (files_after root per rec parts c) e
  unfolding files_after
  bits-refused e why =
      why-first (for_each (bits_cleared root per) (map_clears rec parts) c) (effect_done root per rec parts (effect_in rec parts)) e
      (subst (λ x. Why (for_each (bits_cleared root per) (all_listed x) c) e) is why)

  pub files-then : {B : Type 0} (effect : FileEffect) (d new : Contents) (r : Result B FileFault) → effect ≡ effect_in rec parts → for_each (bits_cleared root per) (all_listed clears) c ≡ Ok d → Does (effect_done root per rec parts effect d) new r → Does (files_after root per rec parts c) new r
  unfolding files_after
  files-then effect d new r means cleared done =
      does-is (effect_done root per rec parts effect d) _ new r
      (given-ok (for_each (bits_cleared root per) (map_clears rec parts) c) (effect_done root per rec parts (effect_in rec parts)) d
      (ap (λ x. for_each (bits_cleared root per) (all_listed x) c) (sym is) ∙ cleared) ∙ ap (λ x. effect_done root per rec parts x d) (sym means)) done

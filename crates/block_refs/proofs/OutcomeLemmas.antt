-- What an answer tells of a record's body.
use Rattle.std.proofs.Common.{◌≡◌, ℕ, Result, Ok, Err, sym, ap, ◌∙◌}
use Rattle.std.specs.Prelude.{IfOk, ◌↔◌}
use Rattle.wal_base.specs.declared.lsn.Lsn.{Lsn}
use Rattle.wal_records.specs.Reading.{LogRecord}
use Rattle.block_refs.specs.declared.fault.Flaw.{Flaw}
use Rattle.block_refs.specs.declared.fault.Flaw.TheVariants as flaw
use Rattle.block_refs.specs.declared.fault.PartsFault.{PartsFault}
use Rattle.block_refs.specs.declared.fault.PartsFault.TheVariants as fault
use Rattle.block_refs.specs.Parts.{PartsView, ArePartsOf, parts_of}
use Rattle.block_refs.specs.Spelling.{HasParts, IsFirstFlaw}
use Rattle.block_refs.specs.Outcomes.{told, start_of, record_parts}
use Rattle.block_refs.proofs.PartsLemmas.{has_parts, parts_are, first_flaw, flaw_is}

abbrev Told : Type 0
Told = Result PartsView PartsFault

told_ok : (start : Lsn) (r : Result PartsView Flaw) (parts : PartsView) → told start r ≡ Ok parts → r ≡ Ok parts
told_ok start (Ok p) parts e = ap (λ (x : PartsView). Ok x) (by p parts e)
  where
    by : (x y : PartsView) → told start (Ok x) ≡ Ok y → x ≡ y
    by x y e = cc
told_ok start (Err d) parts e = absurd cc

pub parts_told : (rec : LogRecord) (result : Told) → result ≡ record_parts rec → IfOk result (λ parts. ArePartsOf rec parts)
parts_told rec (Ok parts) h = told_ok (start_of rec) (parts_of rec.body) parts (sym h)
parts_told rec (Err e) h = tt

pub read_told : (rec : LogRecord) (result : Told) → result ≡ record_parts rec → (parts : PartsView) → (result ≡ Ok parts) ↔ HasParts rec.body parts
read_told rec result h parts =
    (λ e. has_parts rec.body parts (told_ok (start_of rec) (parts_of rec.body) parts (sym h ∙ e)), λ has. h ∙ ap (told (start_of rec)) (parts_are rec.body parts has))

told_bad : (start at : Lsn) (offset : ℕ) (r : Result PartsView Flaw) → told start r ≡ Err (fault.BadParts at offset) → (at ≡ start) × (r ≡ Err (flaw.Bad offset))
told_bad start at offset (Ok parts) e = absurd cc
told_bad start at offset (Err (flaw.Bad o)) e = (cc, ap (λ n. Err (flaw.Bad n)) (by o offset start at e))
  where
    by : (x y : ℕ) (a b : Lsn) → told a (Err (flaw.Bad x)) ≡ Err (fault.BadParts b y) → x ≡ y
    by x y a b e = cc
told_bad start at offset (Err (flaw.Compressed id)) e = absurd cc

told_compressed : (start at : Lsn) (id : ℕ) (r : Result PartsView Flaw) → told start r ≡ Err (fault.Compressed at id) → (at ≡ start) × (r ≡ Err (flaw.Compressed id))
told_compressed start at id (Ok parts) e = absurd cc
told_compressed start at id (Err (flaw.Bad o)) e = absurd cc
told_compressed start at id (Err (flaw.Compressed n)) e = (cc, ap (λ n. Err (flaw.Compressed n)) (by n id start at e))
  where
    by : (x y : ℕ) (a b : Lsn) → told a (Err (flaw.Compressed x)) ≡ Err (fault.Compressed b y) → x ≡ y
    by x y a b e = cc

pub bad_told : (rec : LogRecord) (result : Told) → result ≡ record_parts rec → (at : Lsn) (offset : ℕ)
    → (result ≡ Err (fault.BadParts at offset)) ↔ ((at ≡ start_of rec) × IsFirstFlaw rec.body (flaw.Bad offset))
bad_told rec result h at offset = (
  λ e. let t = told_bad (start_of rec) at offset (parts_of rec.body) (sym h ∙ e) in (t.0, first_flaw rec.body (flaw.Bad offset) t.1),
  λ k. h ∙ ap (told (start_of rec)) (flaw_is rec.body (flaw.Bad offset) k.1) ∙ ap (λ (s : Lsn). Err (fault.BadParts s offset)) (sym k.0),
)

pub compressed_told : (rec : LogRecord) (result : Told) → result ≡ record_parts rec → (at : Lsn) (id : ℕ)
    → (result ≡ Err (fault.Compressed at id)) ↔ ((at ≡ start_of rec) × IsFirstFlaw rec.body (flaw.Compressed id))
compressed_told rec result h at id = (
  λ e. let t = told_compressed (start_of rec) at id (parts_of rec.body) (sym h ∙ e) in (t.0, first_flaw rec.body (flaw.Compressed id) t.1),
  λ k. h ∙ ap (told (start_of rec)) (flaw_is rec.body (flaw.Compressed id) k.1) ∙ ap (λ (s : Lsn). Err (fault.Compressed s id)) (sym k.0),
)

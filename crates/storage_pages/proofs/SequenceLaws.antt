-- The page that a sequence's record makes.
use Rattle.std.proofs.Common.{◌≡◌, ℕ, ◌+◌, ◌-◌, ◌*◌, ◌<◌, ◌≤◌, ◌⊎◌, inl, inr, List, Bool, true, false, Option, Some, None, Result, Ok, Err, length, refl, sym, ◌∙◌, ap, arith}
use Rattle.std.specs.Prelude.{replicate, if◌then◌else◌, nat_le}
use Rattle.std.proofs.lemmas.Bool.Decides.{nat_tests}
use Rattle.layout.specs.Splice.{splice}
use Rattle.layout.proofs.SpliceLemmas.{length-splice, byte-splice_below}
use Rattle.block_refs.specs.Bytes.{main_bytes}
use Rattle.block_refs.specs.Parts.{PartsView}
use Rattle.page_layout.specs.Bytes.{byte, u16_at, u32_bytes, up8}
use Rattle.page_layout.specs.Edits.{add_item, added, init_bytes, lower_after, refuse_or}
use Rattle.page_layout.specs.Page.{count, pd_lower, pd_special, pd_upper, IsFormed}
use Rattle.page_layout.specs.declared.refusal.PageRefusal.{PageRefusal}
use Rattle.page_layout.specs.declared.refusal.PageRefusal.TheVariants.{NoRoom}
use Rattle.page_layout.specs.declared.refusal.RedoWhy.{RedoWhy}
use Rattle.page_layout.specs.declared.refusal.RedoWhy.TheVariants.{Layout, Room}
use Rattle.page_layout.proofs.ReadLemmas.{lower_u16, upper_u16, special_u16}
use Rattle.page_layout.proofs.ShapeLemmas.{lines_below}
use Rattle.page_masks.specs.Law.{Redone, view, SameMasks, IsOperation}
use Rattle.page_masks.proofs.Unshown.{well}
use Rattle.page_laws.proofs.BtreeAnew.{init_size, empty_size, empty_lower, empty_upper, empty_special, empty_layout}
use Rattle.page_laws.proofs.BtreeAdd.{insert_keeps}
use Rattle.record_layouts.specs.Sequence.{sequence_log_of}
use Rattle.record_layouts.specs.declared.sequence.SequenceLog.{SequenceLog}
use Rattle.redo_steps.specs.Redo.{laid_out, on_page, why_of}
use Rattle.storage_pages.specs.SequencePage.{empty_sequence, sequence_operation, sequence_page}
use Rattle.wal_records.specs.Reading.{LogRecord}

abbrev zeros : List ℕ
zeros = replicate 8192 0

abbrev magic : List ℕ
magic = u32_bytes 0x1717

start : List ℕ
start = init_bytes 4

abbrev end : ℕ
end = 8192 - up8 4

start_size : length (init_bytes 4) ≡ 8192
start_size = empty_size zeros init_size end

magic_fits : 8184 + length magic ≤ length (init_bytes 4)
magic_fits = omega (arith, start_size)

front : (i : ℕ) → i < 8183 → u16_at empty_sequence i ≡ u16_at (init_bytes 4) i
front i lt = λ t. byte-splice_below (init_bytes 4) 8184 magic i magic_fits (omega (arith, lt)) t + 256 * byte-splice_below (init_bytes 4) 8184 magic (i + 1) magic_fits (omega (arith, lt)) t

empty_is : length empty_sequence ≡ 8192
empty_is = length-splice (init_bytes 4) 8184 magic magic_fits ∙ start_size

lower : pd_lower empty_sequence ≡ 24
lower = lower_u16 empty_sequence ∙ (front 12 (omega arith) ∙ empty_lower zeros init_size end)

upper : pd_upper empty_sequence ≡ 8184
upper = upper_u16 empty_sequence ∙ (front 14 (omega arith) ∙ empty_upper zeros init_size end)

special : pd_special empty_sequence ≡ 8184
special = special_u16 empty_sequence ∙ (front 16 (omega arith) ∙ empty_special zeros init_size end)

-- it is well formed
pub empty_formed : IsFormed empty_sequence
empty_formed = record {
  size = empty_is;
  head = record {
    low = omega (arith, lower);
    mid = omega (arith, lower, upper);
    high = omega (arith, upper, special);
    top = omega (arith, special);
    by4 = rw lower refl;
    by8 = rw upper refl;
    special8 = rw special refl;
    layout = front 18 (omega arith) ∙ empty_layout zeros init_size end;
  };
  lines = lines_below empty_sequence (count empty_sequence) (λ k lt. absurd (omega (arith, lt, lower)));
}

-- what is added to it is 8192 bytes again, or there is no room
abbrev IsMade : Redone → Type 0
IsMade (Ok q) = length q ≡ 8192
IsMade (Err why) = why ≡ Room

added_is : (p tuple : List ℕ) → IsFormed p → (a : Result (List ℕ) PageRefusal) → add_item p tuple 1 false ≡ a → ((why : PageRefusal) → a ≡ Err why → why ≡ NoRoom) → IsMade (on_page a)
added_is p tuple f (Ok q) e only = let kept = insert_keeps p tuple q 1 f e in kept.formed.size
added_is p tuple f (Err why) e only = ap why_of (only why refl)

-- a well formed page with no line takes an item at 1, or has no room
no_room : (p tuple : List ℕ) (b : Bool) → (why : PageRefusal) → refuse_or {E = PageRefusal} (if b then None else Some NoRoom) (Ok (added p tuple 1 false)) ≡ Err why → why ≡ NoRoom
no_room p tuple true why e = cc e
no_room p tuple false why e = cc e

refused_for : (p tuple : List ℕ) → IsFormed p → (why : PageRefusal) → add_item p tuple 1 false ≡ Err why → why ≡ NoRoom
refused_for p tuple f why e =
    let near : nat_le 1 (count p + 1) ≡ true = grind (arith, nat_tests) in
    no_room p tuple (nat_le (lower_after p 1 false + up8 (length tuple)) (pd_upper p)) why (rw (well p f.head f.lines, near) at e)

pub page_made : (tuple : List ℕ) → IsMade (sequence_page tuple)
page_made tuple = added_is empty_sequence tuple empty_formed (add_item empty_sequence tuple 1 false) refl (λ why e. refused_for empty_sequence tuple empty_formed why e)

abbrev made : Option SequenceLog → Redone
made log = laid_out log (λ log. sequence_page log.tuple)

made_size : (log : Option SequenceLog) (q : List ℕ) → made log ≡ Ok q → length q ≡ 8192
made_size None q e = cc e
made_size (Some log) q e = from (sequence_page log.tuple) (page_made log.tuple) e
  where
    from : (a : Redone) → IsMade a → a ≡ Ok q → length q ≡ 8192
    from (Ok r) is h = let same : r ≡ q = cc h in ap length (sym same) ∙ is
    from (Err why) is h = cc h

pub size_is : (rec : LogRecord) (parts : PartsView) (id : ℕ) (p q : List ℕ) → sequence_operation rec parts id p ≡ Ok q → length q ≡ 8192
size_is rec parts id p q e = made_size (sequence_log_of (main_bytes rec.body parts)) q e

made_refusal : (log : Option SequenceLog) (w : RedoWhy) → made log ≡ Err w → (w ≡ Layout) ⊎ (w ≡ Room)
made_refusal None w e = inl (cc e)
made_refusal (Some log) w e = inr (from (sequence_page log.tuple) (page_made log.tuple) e)
  where
    from : (a : Redone) → IsMade a → a ≡ Err w → w ≡ Room
    from (Ok r) is h = cc h
    from (Err why) is h = cc (is, h)

pub refusal_is : (rec : LogRecord) (parts : PartsView) (id : ℕ) (p : List ℕ) (w : RedoWhy) → sequence_operation rec parts id p ≡ Err w → (w ≡ Layout) ⊎ (w ≡ Room)
refusal_is rec parts id p w e = made_refusal (sequence_log_of (main_bytes rec.body parts)) w e

same_made : (block : ℕ) (a : Redone) → SameMasks (view block) a a
same_made block (Ok p) = refl
same_made block (Err why) = refl

pub operation_is : (rec : LogRecord) (parts : PartsView) (id block : ℕ) → IsOperation (view block) (sequence_operation rec parts id)
operation_is rec parts id block = record {
  page = λ p q size e. size_is rec parts id p q e;
  mask = λ p q size_p size_q sound same. same_made block (sequence_operation rec parts id p);
}

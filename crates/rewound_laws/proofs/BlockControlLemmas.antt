-- What a control file that is written says again of the blocks of a file, whatever its other fields are.
use Rattle.std.proofs.Common.{◌≡◌, ℕ, ◌+◌, ◌^◌, ◌<◌, ◌≤◌, true, ◌&&◌, nat_le, List, [], ◌∷◌, length, take, drop, replicate, Ok, refl, sym, ap, ◌∙◌, arith}
use Rattle.std.proofs.lemmas.List.{length-drop, length-replicate, length-take}
use Rattle.std.specs.List.{AllByRecursion}
use Rattle.control_file.specs.Admission.{IsControlFile, control_of}
use Rattle.control_file.specs.Reading.{fields_at}
use Rattle.control_file.specs.Rows.{build_rows, checkpoint_rows, head_rows, recovery_rows, rows_of, setting_rows}
use Rattle.control_file.specs.Writing.{control_bytes, sealed}
use Rattle.control_file.specs.declared.control.Control.{Control}
use Rattle.control_file.specs.declared.field.Field.{Field}
use Rattle.control_file.proofs.ReadingLemmas.{fields_again, ok_is}
use Rattle.control_file.proofs.WritingLemmas.{ascends_file}
use Rattle.layout.specs.Readers.{u32_at}
use Rattle.layout.specs.Rows.{ascends, end_of}
use Rattle.layout.specs.Values.{width}
use Rattle.layout.specs.Writing.{laid, value_bytes, with_row}
use Rattle.layout.specs.declared.row.Row.{Row}
use Rattle.layout.specs.declared.value.Value.TheVariants.{Word}
use Rattle.layout.proofs.OrderLemmas.{both, le-ascends, le_of, step}
use Rattle.layout.proofs.PutLemmas.{value_again}
use Rattle.layout.proofs.SpliceLemmas.{Stands, length-splice, splice-keeps, splice-stands}
use Rattle.wal_base.specs.Crc.{crc32c}

-- ---- a table whose values have as many bytes as their forms say, whether or not they fit

abbrev IsSized : Row Field → Type 0
IsSized row = length (value_bytes row.value) ≡ width row.value

record Room (from : ℕ) (row : Row Field) (rows : List (Row Field)) (old : List ℕ) : Type 0 where
  here : from ≤ row.at
  room : row.at + length (value_bytes row.value) ≤ length old
  same : length (with_row old row) ≡ length old
  rest : ascends (end_of row) rows (length (with_row old row)) ≡ true

room_of : (from : ℕ) (row : Row Field) (rows : List (Row Field)) (old : List ℕ) → ascends from (row ∷ rows) (length old) ≡ true → IsSized row → Room from row rows old
room_of from row rows old asc size =
    let s = step from row rows (length old) asc in
    let end = le-ascends (end_of row) rows (length old) s.rest in
    let room : row.at + length (value_bytes row.value) ≤ length old = omega (arith, size, end) in
    let same = length-splice old row.at (value_bytes row.value) room in
    record { here = s.here; room = room; same = same; rest = rw same s.rest }

laid_length : (from : ℕ) (rows : List (Row Field)) (old : List ℕ) → ascends from rows (length old) ≡ true → AllByRecursion IsSized rows → length (laid rows old) ≡ length old
laid_length from [] old asc sized = refl
laid_length from (row ∷ rows) old asc sized =
    let r = room_of from row rows old asc sized.0 in
    laid_length (end_of row) rows (with_row old row) r.rest sized.1 ∙ r.same

laid_keeps : (at : ℕ) (new : List ℕ) (from : ℕ) (rows : List (Row Field)) (old : List ℕ) → at + length new ≤ from → ascends from rows (length old) ≡ true → AllByRecursion IsSized rows → Stands at new old → Stands at new (laid rows old)
laid_keeps at new from [] old before asc sized stands = stands
laid_keeps at new from (row ∷ rows) old before asc sized stands =
    let r = room_of from row rows old asc sized.0 in
    let here = r.here in
    let size = sized.0 in
    laid_keeps at new (end_of row) rows (with_row old row) (omega arith) r.rest sized.1
    (splice-keeps at new old row.at (value_bytes row.value) (omega arith) r.room stands)

abbrev RowStands : List ℕ → Row Field → Type 0
RowStands bytes row = Stands row.at (value_bytes row.value) bytes

laid_stands : (from : ℕ) (rows : List (Row Field)) (old : List ℕ) → ascends from rows (length old) ≡ true → AllByRecursion IsSized rows → AllByRecursion (RowStands (laid rows old)) rows
laid_stands from [] old asc sized = tt
laid_stands from (row ∷ rows) old asc sized =
    let r = room_of from row rows old asc sized.0 in
    let size = sized.0 in (
      laid_keeps row.at (value_bytes row.value) (end_of row) rows (with_row old row) (omega arith) r.rest sized.1 (splice-stands old row.at (value_bytes row.value) r.room),
      laid_stands (end_of row) rows (with_row old row) r.rest sized.1,
    )

-- ---- the bytes of a control file

module _ (control : Control) (nonce : length control.nonce ≡ 32) where
  all_sized : AllByRecursion IsSized (rows_of control)
  unfolding rows_of head_rows checkpoint_rows recovery_rows setting_rows build_rows value_bytes
  all_sized = (refl, (refl, (refl, (refl, (refl, (refl, (refl, (refl, (refl, (refl, (refl, (refl, (refl, (refl, (refl, (refl, (refl, (refl, (refl, (refl, (refl, (refl, (refl, (refl, (refl, (refl, (refl, (refl, (refl, (refl, (refl, (refl, (refl, (refl, (refl, (refl, (refl, (refl, (refl, (refl, (refl, (refl, (refl, (refl, (refl, (refl, (refl, (refl, (nonce, tt)))))))))))))))))))))))))))))))))))))))))))))))))

  abbrev zeros : List ℕ
  zeros = replicate 8192 0

  zeros_long : length zeros ≡ 8192
  zeros_long = length-replicate {A = ℕ} 8192 0

  abbrev table : List ℕ
  table = laid (rows_of control) zeros

  rising : ascends 0 (rows_of control) (length zeros) ≡ true
  rising = rw zeros_long (ascends_file control)

  table_long : length table ≡ 8192
  table_long = laid_length 0 (rows_of control) zeros rising all_sized ∙ zeros_long

  relseg_stands : Stands 220 (value_bytes (Word control.relseg)) table
  unfolding rows_of head_rows checkpoint_rows recovery_rows setting_rows build_rows
  relseg_stands = (laid_stands 0 (rows_of control) zeros rising all_sized).1.1.1.1.1.1.1.1.1.1.1.1.1.1.1.1.1.1.1.1.1.1.1.1.1.1.1.1.1.1.1.1.1.1.1.1.1.1.1.0

  crc_long : length (value_bytes (Word (crc32c (take 288 table)))) ≡ 4
  unfolding value_bytes
  crc_long = refl

  word_long : length (value_bytes (Word control.relseg)) ≡ 4
  unfolding value_bytes
  word_long = refl

  sealed_long : length (control_bytes control) ≡ 8192
  unfolding control_bytes sealed
  sealed_long = length-splice table 288 (value_bytes (Word (crc32c (take 288 table)))) (omega (arith, crc_long, table_long)) ∙ table_long

  sealed_stands : Stands 220 (value_bytes (Word control.relseg)) (control_bytes control)
  unfolding control_bytes sealed
  sealed_stands =
      splice-keeps 220 (value_bytes (Word control.relseg)) table 288 (value_bytes (Word (crc32c (take 288 table)))) (omega (arith, word_long)) (omega (arith, crc_long, table_long)) relseg_stands

  word_is : (n m : ℕ) → Word n ≡ Word m → n ≡ m
  word_is n m e = cc e

  relseg_read : control.relseg < 2 ^ 32 → u32_at 220 (control_bytes control) ≡ control.relseg
  relseg_read fits =
      word_is (u32_at 220 (control_bytes control)) control.relseg (value_again (Word control.relseg) 220 (control_bytes control) fits (omega (arith, sealed_long)) sealed_stands)

  -- it says as many blocks of a file as the control that was written
  pub relseg-again : (read : Control) → control.relseg < 2 ^ 32 → control_of (control_bytes control) ≡ Ok read → read.relseg ≡ control.relseg
  unfolding fields_at
  relseg-again read fits is =
      let file : IsControlFile (control_bytes control) read = ok_is (control_bytes control) read is in
      sym (ap (λ (x : Control). x.relseg) (fields_again read (control_bytes control) file.said)) ∙ relseg_read fits

-- ---- of a control file that was read

module _ (bytes : List ℕ) (control : Control) (is : control_of bytes ≡ Ok control) where
  file : IsControlFile bytes control
  file = ok_is bytes control is

  pub nonce-long : length control.nonce ≡ 32
  unfolding fields_at
  nonce-long = ap (λ (x : Control). length x.nonce) (sym (fields_again control bytes file.said)) ∙ omega (arith, length-take 32 (drop 256 bytes), length-drop 256 bytes, file.size)

  between : (nat_le 1 control.relseg && nat_le control.relseg 131072) ≡ true
  unfolding rows_of head_rows checkpoint_rows recovery_rows setting_rows build_rows
  between = file.shape.1.1.1.1.1.1.1.1.1.1.1.1.1.1.1.1.1.1.1.1.1.1.1.1.1.1.1.1.1.1.1.1.1.1.1.1.1.1.1.0

  -- files of relations have a block or more, and no more than 131072
  pub relseg-some : 0 < control.relseg
  relseg-some = omega (arith, le_of 1 control.relseg (both (nat_le 1 control.relseg) (nat_le control.relseg 131072) between).0)

  pub relseg-fits : control.relseg < 2 ^ 32
  relseg-fits = omega (arith, le_of control.relseg 131072 (both (nat_le 1 control.relseg) (nat_le control.relseg 131072) between).1)

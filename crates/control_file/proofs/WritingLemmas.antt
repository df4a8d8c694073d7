-- What is written is read again.
use Rattle.std.proofs.Common.{◌≡◌, ℕ, ◌^◌, ◌<◌, true, List, length, take, replicate, Ok, Some, refl, ◌∙◌, arith}
use Rattle.std.specs.List.{AllByRecursion}
use Rattle.layout.specs.Readers.{u32_at}
use Rattle.layout.specs.Rows.{ascends, RowFits, Says}
use Rattle.layout.specs.Splice.{splice}
use Rattle.layout.specs.Writing.{laid, value_bytes}
use Rattle.layout.specs.declared.value.Value.TheVariants.{Word}
use Rattle.layout.proofs.LaidLemmas.{laid_again, sealed_again}
use Rattle.layout.proofs.PutLemmas.{length-value_bytes, value_again}
use Rattle.layout.proofs.SpliceLemmas.{length-splice, splice-stands, take-splice}
use Rattle.wal_base.specs.Crc.{crc32c}
use Rattle.wal_base.proofs.CrcFold.{crc32c_below}
use Rattle.control_file.specs.Admission.{control_of, IsControl, IsControlFile}
use Rattle.control_file.specs.Reading.{checkpoint_at, checkpoint_of}
use Rattle.control_file.specs.Rows.{rows_of, head_rows, checkpoint_rows, recovery_rows, setting_rows, build_rows}
use Rattle.control_file.specs.Writing.{sealed, control_bytes, checkpoint_bytes}
use Rattle.control_file.specs.declared.checkpoint.Checkpoint.{Checkpoint}
use Rattle.control_file.specs.declared.control.Control.{Control}
use Rattle.control_file.proofs.ReadingLemmas.{file_is}
use Rattle.control_file.proofs.TableLemmas.{ascends_checkpoint, ascends_rows}

checkpoint_again : (cp : Checkpoint) (bytes : List ℕ) → Says (checkpoint_rows 0 cp) bytes → checkpoint_at 0 bytes ≡ cp
unfolding checkpoint_rows checkpoint_at
checkpoint_again cp bytes h =
    let e : checkpoint_at 0 bytes ≡ record cp { redo = cp.redo } = cc in
    e

pub copy_again : (cp : Checkpoint) → AllByRecursion RowFits (checkpoint_rows 0 cp) → checkpoint_of (checkpoint_bytes cp) ≡ Some cp
unfolding checkpoint_bytes
copy_again cp fits =
    let is = laid_again (checkpoint_rows 0 cp) 88 (ascends_checkpoint cp) fits in
    rw (is.len, checkpoint_again cp _ is.said) refl

pub ascends_file : (c : Control) → ascends 0 (rows_of c) 8192 ≡ true
unfolding rows_of head_rows checkpoint_rows recovery_rows setting_rows build_rows
ascends_file c = refl

-- bytes that end in their CRC
record IsSealed (bytes : List ℕ) : Type 0 where
  len : length bytes ≡ 8192
  crc : u32_at 288 bytes ≡ crc32c (take 288 bytes)

is_sealed : (old : List ℕ) → length old ≡ 8192 → IsSealed (sealed old)
unfolding sealed
is_sealed old len =
    let sum = crc32c (take 288 old) in
    let below : sum < 2 ^ 32 = crc32c_below (take 288 old) in
    let crc : List ℕ = value_bytes (Word sum) in
    let n : length crc ≡ 4 = length-value_bytes (Word sum) below in
    let size : length (splice old 288 crc) ≡ length old = length-splice old 288 crc (omega arith) in
    let said : Word (u32_at 288 (splice old 288 crc)) ≡ Word sum = value_again (Word sum) 288 (splice old 288 crc) below (omega arith) (splice-stands old 288 crc (omega arith)) in
    let front : take 288 (splice old 288 crc) ≡ take 288 old = take-splice old 288 crc (omega arith) in
    record { len = size ∙ len; crc = rw front cc }

written_is : (c : Control) → AllByRecursion RowFits (rows_of c) → IsControl c → IsControlFile (control_bytes c) c
unfolding control_bytes sealed
written_is c fits is_control =
    let old : List ℕ = laid (rows_of c) (replicate 8192 0) in
    let is = laid_again (rows_of c) 8192 (ascends_file c) fits in
    let seal = is_sealed old is.len in
    let n : length (value_bytes (Word (crc32c (take 288 old)))) ≡ 4 = length-value_bytes (Word (crc32c (take 288 old))) (crc32c_below (take 288 old)) in
    let whole = sealed_again (rows_of c) 288 (value_bytes (Word (crc32c (take 288 old)))) 8192 (ascends_rows c) (omega arith) fits in
    record {
      size = seal.len;
      crc = seal.crc;
      version = is_control.version;
      catalog = is_control.catalog;
      said = whole.said;
      shape = is_control.shape;
    }

pub control_again : (c : Control) → AllByRecursion RowFits (rows_of c) → IsControl c → control_of (control_bytes c) ≡ Ok c
control_again c fits is_control = file_is (control_bytes c) c (written_is c fits is_control)

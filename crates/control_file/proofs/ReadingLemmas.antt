-- What is read is what the table says.
use Rattle.std.proofs.Common.{rules, ◌≡◌, ℕ, Bool, true, false, cond, List, length, take, Result, Ok, Err, Option, Some, None, refl, sym, ap, subst, arith}
use Rattle.std.specs.Prelude.{nat_eq, IfOk}
use Rattle.std.proofs.lemmas.Bool.{eqb-true}
use Rattle.std.proofs.lemmas.Bool.Decides.{nat_tests}
use Rattle.layout.specs.Readers.{u32_at}
use Rattle.layout.specs.Rows.{Says, first_broken}
use Rattle.layout.specs.Values.{number}
use Rattle.layout.specs.declared.row.Row.{Row}
use Rattle.layout.proofs.BrokenLemmas.{is_first_broken, none_broken, all_hold}
use Rattle.wal_base.specs.Crc.{crc32c}
use Rattle.control_file.specs.Admission.{admitted, control_of, unless_broken, IsControl, IsControlFile, IsShapeFault}
use Rattle.control_file.specs.Reading.{fields_at, checkpoint_at}
use Rattle.control_file.specs.Rows.{rows_of, head_rows, checkpoint_rows, recovery_rows, setting_rows, build_rows}
use Rattle.control_file.specs.declared.control.Control.{Control}
use Rattle.control_file.specs.declared.fault.ControlFault.{ControlFault}
use Rattle.control_file.specs.declared.fault.ControlFault.TheVariants.{Size, Crc, Version, Catalog, Shape}
use Rattle.control_file.specs.declared.field.Field.{Field}
use Rattle.control_file.proofs.TableLemmas.{ascends_rows}

-- the table's offsets are those of the reader
said : (bytes : List ℕ) → Says (rows_of (fields_at bytes)) bytes
unfolding rows_of head_rows checkpoint_rows recovery_rows setting_rows build_rows fields_at checkpoint_at
said bytes = search rules

-- each field is read again where each value stands
pub fields_again : (c : Control) (bytes : List ℕ) → Says (rows_of c) bytes → fields_at bytes ≡ c
unfolding rows_of head_rows checkpoint_rows recovery_rows setting_rows build_rows fields_at checkpoint_at
fields_again c bytes h =
    let e : fields_at bytes ≡ record c { cp = record c.cp { redo = c.cp.redo } } = cc in
    e

eqb_same : (n : ℕ) → nat_eq n n ≡ true
eqb_same n = grind (arith, nat_tests)

pub admitted_is : (c : Control) → c.version ≡ 1300 → c.catalog ≡ 202307071 → first_broken (rows_of c) ≡ None → admitted c ≡ Ok c
unfolding admitted
admitted_is c version catalog shape =
    let v : nat_eq c.version 1300 ≡ true = ap (λ (n : ℕ). nat_eq n 1300) version in
    let k : nat_eq c.catalog 202307071 ≡ true = ap (λ (n : ℕ). nat_eq n 202307071) catalog in
    rw (v, k) (ap (λ r. unless_broken r c) shape)

guarded : {A E : Type 0} (b : Bool) (r : Result A E) (e : E) (x : A) → cond b r (Err e) ≡ Ok x → (b ≡ true) × (r ≡ Ok x)
guarded true r e x h = (refl, h)
guarded false r e x h = absurd cc

unbroken : (r : Option (Row Field)) (c d : Control) → unless_broken r c ≡ Ok d → (r ≡ None) × (c ≡ d)
unbroken None c d e = (refl, cc)
unbroken (Some row) c d e = absurd cc

-- what is read is a control file
pub ok_is : (bytes : List ℕ) (c : Control) → control_of bytes ≡ Ok c → IsControlFile bytes c
unfolding control_of admitted
ok_is bytes c e =
    let f = fields_at bytes in
    let stored = u32_at 288 bytes in
    let sum = crc32c (take 288 bytes) in
    let a = guarded (nat_eq (length bytes) 8192) (cond (nat_eq stored sum) (admitted f) (Err (Crc stored sum))) (Size (length bytes)) c e in
    let b = guarded (nat_eq stored sum) (admitted f) (Crc stored sum) c a.1 in
    let v = guarded (nat_eq f.version 1300) (cond (nat_eq f.catalog 202307071) (unless_broken (first_broken (rows_of f)) f) (Err (Catalog f.catalog))) (Version f.version) c b.1 in
    let k = guarded (nat_eq f.catalog 202307071) (unless_broken (first_broken (rows_of f)) f) (Catalog f.catalog) c v.1 in
    let u = unbroken (first_broken (rows_of f)) f c k.1 in
    subst (IsControlFile bytes) u.1 (record {
      size = eqb-true _ _ a.0;
      crc = eqb-true _ _ b.0;
      version = eqb-true _ _ v.0;
      catalog = eqb-true _ _ k.0;
      said = said bytes;
      shape = none_broken (rows_of f) u.0;
    })

-- what is read can be written
pub control_is : (bytes : List ℕ) (r : Result Control ControlFault) → r ≡ control_of bytes → IfOk r IsControl
control_is bytes (Ok c) e =
    let is = ok_is bytes c (sym e) in
    record { version = is.version; catalog = is.catalog; shape = is.shape }
control_is bytes (Err fault) e = tt

-- a control file is read
pub file_is : (bytes : List ℕ) (c : Control) → IsControlFile bytes c → control_of bytes ≡ Ok c
unfolding control_of
file_is bytes c is =
    let n : nat_eq (length bytes) 8192 ≡ true = rw is.size refl in
    let s : nat_eq (u32_at 288 bytes) (crc32c (take 288 bytes)) ≡ true = rw is.crc (eqb_same _) in
    rw (n, s, fields_again c bytes is.said) (admitted_is c is.version is.catalog (all_hold (rows_of c) is.shape))

broken_of : (r : Option (Row Field)) (c : Control) (field : Field) (value : ℕ) → unless_broken r c ≡ Err (Shape field value) → (row : Row Field) × (r ≡ Some row) × (row.field ≡ field) × (number row.value ≡ value)
broken_of None c field value e = absurd cc
broken_of (Some row) c field value e = (row, refl, cc, cc)

past : {A E : Type 0} (b : Bool) (r : Result A E) (e g : E) → (e ≡ g → ⊥) → cond b r (Err e) ≡ Err g → r ≡ Err g
past true r e g apart h = h
past false r e g apart h = absurd (apart cc)

-- a shape fault is the first
pub shape_is : (bytes : List ℕ) (field : Field) (value : ℕ) → control_of bytes ≡ Err (Shape field value) → IsShapeFault bytes field value
unfolding control_of admitted
shape_is bytes field value e =
    let f = fields_at bytes in
    let stored = u32_at 288 bytes in
    let sum = crc32c (take 288 bytes) in
    let a = past (nat_eq (length bytes) 8192) (cond (nat_eq stored sum) (admitted f) (Err (Crc stored sum))) (Size (length bytes)) (Shape field value) (λ e. absurd cc) e in
    let b = past (nat_eq stored sum) (admitted f) (Crc stored sum) (Shape field value) (λ e. absurd cc) a in
    let v = past (nat_eq f.version 1300) (cond (nat_eq f.catalog 202307071) (unless_broken (first_broken (rows_of f)) f) (Err (Catalog f.catalog))) (Version f.version) (Shape field value) (λ e. absurd cc) b in
    let k = past (nat_eq f.catalog 202307071) (unless_broken (first_broken (rows_of f)) f) (Catalog f.catalog) (Shape field value) (λ e. absurd cc) v in
    let u = broken_of (first_broken (rows_of f)) f field value k in
    (u.0, is_first_broken (rows_of f) 288 u.0 (ascends_rows f) u.1, u.2, u.3)

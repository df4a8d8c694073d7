-- Which bytes are a control file, and the first rule that others break.
use Rattle.std.specs.Prelude.{ℕ, ◌≡◌, ◌==◌, if◌then◌else◌, List, take, length, Option, Some, None, Result, Ok, Err}
use Rattle.std.specs.List.{AllByRecursion}
use Rattle.control_file.specs.declared.control.Control.{Control}
use Rattle.control_file.specs.declared.field.Field.{Field}
use Rattle.control_file.specs.declared.fault.ControlFault.{ControlFault}
use Rattle.control_file.specs.declared.fault.ControlFault.TheVariants.{Size, Crc, Version, Catalog, Shape}
use Rattle.layout.specs.declared.row.Row.{Row}
use Rattle.wal_base.specs.Crc.{crc32c}
use Rattle.layout.specs.Readers.{u32_at}
use Rattle.layout.specs.Rows.{first_broken, Says, Holds, IsFirstBroken}
use Rattle.layout.specs.Values.{number}
use Rattle.control_file.specs.Reading.{fields_at}
use Rattle.control_file.specs.Rows.{rows_of}

-- these fields, unless one breaks its shape rule
abbrev pub unless_broken : Option (Row Field) → Control → Result Control ControlFault
unless_broken (Some row) control = Err (Shape row.field (number row.value))
unless_broken None control = Ok control

-- a control of version 1300 and catalog 202307071 whose fields meet the shape rules
unfoldable pub admitted : Control → Result Control ControlFault
admitted control =
    if control.version == 1300
    then (if control.catalog == 202307071 then unless_broken (first_broken (rows_of control)) control else Err (Catalog control.catalog))
    else Err (Version control.version)

-- what a control file of these bytes says, or the first fault
unfoldable pub control_of : List ℕ → Result Control ControlFault
control_of bytes =
    if length bytes == 8192
    then (if u32_at 288 bytes == crc32c (take 288 bytes) then admitted (fields_at bytes) else Err (Crc (u32_at 288 bytes) (crc32c (take 288 bytes))))
    else Err (Size (length bytes))

-- a control that a control file of PostgreSQL 16 can say
pub record IsControl (control : Control) : Type 0 where
  pub version : control.version ≡ 1300
  pub catalog : control.catalog ≡ 202307071
  pub shape : AllByRecursion Holds (rows_of control)

-- the bytes are a control file that says this
pub record IsControlFile (bytes : List ℕ) (control : Control) : Type 0 where
  pub size : length bytes ≡ 8192
  pub crc : u32_at 288 bytes ≡ crc32c (take 288 bytes)
  pub version : control.version ≡ 1300
  pub catalog : control.catalog ≡ 202307071
  pub said : Says (rows_of control) bytes
  pub shape : AllByRecursion Holds (rows_of control)

-- a shape fault names the field of the least offset that breaks its rule, and its value
abbrev pub IsShapeFault : List ℕ → Field → ℕ → Type 0
IsShapeFault bytes field value = (row : Row Field) × IsFirstBroken row (rows_of (fields_at bytes)) × (row.field ≡ field) × (number row.value ≡ value)

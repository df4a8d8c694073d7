-- The first fault of a log, record by record.
use Rattle.std.proofs.Common.{◌≡◌, Option, List, [], ◌∷◌, ◌++◌, Some, None, Result, Ok, Err, refl}
use Rattle.block_refs.specs.Parts.{PartsView}
use Rattle.wal_records.specs.Reading.{LogRecord}
use Rattle.replay_profile.specs.Profile.{first_of, first_outside, judged}
use Rattle.replay_profile.specs.declared.fault.ProfileFault.{ProfileFault}
use Rattle.rmgr_hooks.specs.Custom.{Extension}

pub found_stays : (custom : Option Extension) (records more : List LogRecord) (fault : ProfileFault) → first_outside custom records ≡ Some fault → first_outside custom (records ++ more) ≡ Some fault
found_stays custom [] more fault e = cc e
found_stays custom (rec ∷ records) more fault e = by_case (judged custom rec) (λ h. found_stays custom records more fault h) e
  where
    by_case : (j : Result PartsView ProfileFault) → (first_outside custom records ≡ Some fault → first_outside custom (records ++ more) ≡ Some fault)
        → first_of j (first_outside custom records) ≡ Some fault → first_of j (first_outside custom (records ++ more)) ≡ Some fault
    by_case (Ok parts) later h = later h
    by_case (Err other) later h = h

pub next_decides : (custom : Option Extension) (records : List LogRecord) (rec : LogRecord) → first_outside custom records ≡ None → first_outside custom (records ++ rec ∷ []) ≡ first_of (judged custom rec) None
next_decides custom [] rec e = refl
next_decides custom (first ∷ records) rec e = by_case (judged custom first) (λ h. next_decides custom records rec h) e
  where
    by_case : (j : Result PartsView ProfileFault) → (first_outside custom records ≡ None → first_outside custom (records ++ rec ∷ []) ≡ first_of (judged custom rec) None)
        → first_of j (first_outside custom records) ≡ None → first_of j (first_outside custom (records ++ rec ∷ [])) ≡ first_of (judged custom rec) None
    by_case (Ok parts) later h = later h
    by_case (Err fault) later h = cc h

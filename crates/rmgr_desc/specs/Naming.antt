-- Resource managers by their names: PostgreSQL 16, src/bin/pg_waldump/pg_waldump.c, option --rmgr of main, which compares
-- them by pg_strcasecmp; src/include/access/rmgr.h, RmgrIdIsValid. Own: "Managers in words".
use Rattle.std.specs.Prelude.{ℕ, ◌&&◌, ◌||◌, Bool, List, Option, nat_le, nat_lt}
use Rattle.std.specs.List.{find, range_with_len}
use Rattle.std.specs.Str.{str_eq_ignore_ascii_case}
use Rattle.rmgr_desc.specs.Managers.{manager_name_of}

-- the managers that have a name of their own: those of PostgreSQL, and the custom ones
abbrev pub has_name : ℕ → Bool
has_name manager = nat_lt manager 22 || nat_le 128 manager

-- the text is the manager's name, but for the case of its letters
abbrev pub names_manager : List ℕ → ℕ → Bool
names_manager text manager = has_name manager && str_eq_ignore_ascii_case text (manager_name_of manager)

-- the manager that a text names
unfoldable pub manager_named : List ℕ → Option ℕ
manager_named text = find (names_manager text) (range_with_len 0 256)

-- The names of resource managers: PostgreSQL 16, src/include/access/rmgrlist.h; src/bin/pg_waldump/rmgrdesc.c,
-- initialize_custom_rmgrs.
use Rattle.std.specs.Prelude.{ℕ, List, [], ◌∷◌, ◌++◌, codes, decimal, get_or, nat_lt, if◌then◌else◌}

-- those of the managers 0 to 21
abbrev pub manager_names : List (List ℕ)
manager_names =
    codes "XLOG" ∷ codes "Transaction" ∷ codes "Storage" ∷ codes "CLOG" ∷ codes "Database" ∷ codes "Tablespace"
    ∷ codes "MultiXact" ∷ codes "RelMap" ∷ codes "Standby" ∷ codes "Heap2" ∷ codes "Heap" ∷ codes "Btree"
    ∷ codes "Hash" ∷ codes "Gin" ∷ codes "Gist" ∷ codes "Sequence" ∷ codes "SPGist" ∷ codes "BRIN"
    ∷ codes "CommitTs" ∷ codes "ReplicationOrigin" ∷ codes "Generic" ∷ codes "LogicalMessage" ∷ []

-- the name of a manager; custom%03d from RM_MIN_CUSTOM_ID, 128, on, where each number has three digits
unfoldable pub manager_name_of : ℕ → List ℕ
manager_name_of manager =
    if nat_lt manager 22 then get_or manager_names manager []
    else if nat_lt manager 128 then codes "UNKNOWN"
    else codes "custom" ++ decimal manager

-- What holds of all that stands in the clusters of a pair.
use Rattle.std.proofs.Common.{◌≡◌, ℕ, ◌+◌, ◌%◌, ◌==◌, ◌≤◌, Bool, true, false, not, ◌&&◌, nat_lt, List, [], ◌∷◌, ◌++◌, length, None, Some, is_some, bytes_eq, codes, refl, sym, ap, ◌∙◌, eq-eqb, arith, lit≤, if◌then◌else◌}
use Rattle.std.proofs.lemmas.Bool.Decides.{nat_tests}
use Rattle.std.specs.Cmp.Lexicographic.{pointwise}
use Rattle.std.specs.List.{list_all, list_any}
use Rattle.block_refs.specs.declared.names.Fork.TheVariants.{Main}
use Rattle.block_refs.specs.declared.names.RelName.{RelName}
use Rattle.cluster_laws.specs.Kinds.{IsAt, place_of}
use Rattle.cluster_tree.specs.Contents.{Entry, FileEntry, FolderEntry, LinkEntry}
use Rattle.cluster_tree.specs.Folders.{last_part}
use Rattle.cluster_tree.specs.PathValue.{PathValue, front, is_part, kept_parts, path_of}
use Rattle.control_file.specs.Writing.{control_bytes}
use Rattle.file_walk.specs.Excluded.{is_excluded}
use Rattle.file_walk.specs.Relations.{relation_of}
use Rattle.file_walk.specs.Walk.{entry_flaw, flaw_at}
use Rattle.file_walk.specs.declared.fault.WalkFault.TheVariants as fault
use Rattle.relation_files.specs.Reading.{file_named}
use Rattle.relation_files.specs.declared.file_name.FileName.{FileName}
use Rattle.reset_plan.specs.NewSegment.{checkpoint_record}
use Rattle.wal_base.specs.Decimal.{decimal_number}
use Rattle.pair_maker.specs.Clusters.{Named, common_entries, control_entry, first_log, second_log, shared_entries, source_entries, target_entries}
use Rattle.pair_maker.specs.Files.{control_of, history_bytes, relation_bytes, segment_bytes, version_bytes}
use Rattle.pair_maker.specs.Inserts.{pair_relation}
use Rattle.pair_maker.specs.Logs.{common_checkpoint, records_of}
use Rattle.pair_maker.specs.declared.side.Side.{Side}
use Rattle.pair_maker.specs.declared.side.Side.TheVariants.{Target, Source}
use Rattle.pair_laws.proofs.NamedLemmas.{AllNamed}
use Rattle.pair_laws.proofs.FileLemmas.{relation-whole}

-- ---- the folders of a cluster

abbrev pub in_folders : List (List ℕ) → Bool
in_folders parts = list_any (pointwise bytes_eq parts) (kept_parts (codes "") ∷ kept_parts (codes "base") ∷ kept_parts (codes "base/5") ∷ kept_parts (codes "global") ∷ kept_parts (codes "pg_wal") ∷ [])

-- a folder whose names are text, or a file
abbrev pub IsOfKind : (is_folder : Bool) → Entry → Type 0
IsOfKind b (FolderEntry bad) = (b ≡ true) × (bad ≡ false)
IsOfKind b (FileEntry bytes) = b ≡ false
IsOfKind b LinkEntry = ⊥

-- a file of a relation is the pair's one, whole
abbrev pub IsOnlyRelation : (bytes : List ℕ) → List (List ℕ) → Entry → Type 0
IsOnlyRelation bytes parts e = (at : RelName × ℕ) → relation_of (path_of false parts) ≡ Some at → (at ≡ (pair_relation, 0)) × (e ≡ FileEntry bytes)

-- so is a file with a relation file's name
abbrev pub only_file : FileName
only_file = record { relation = 16384; fork = Main; segment = 0 }

abbrev pub IsOnlyFile : (bytes : List ℕ) → List (List ℕ) → Entry → Type 0
IsOnlyFile bytes parts e = (file : FileName) (its : List ℕ) → e ≡ FileEntry its → file_named (last_part (path_of false parts)) ≡ Some file → (file ≡ only_file) × (its ≡ bytes)

-- what holds of whatever stands in a cluster of a pair, whose relation has these bytes
pub record Holds (bytes : List ℕ) (parts : List (List ℕ)) (e : Entry) : Type 0 where
  pub short : length parts ≤ 3
  pub proper : list_all is_part parts ≡ true
  pub kind : IsAt (place_of parts) (Some e)
  pub sort : IsOfKind (in_folders parts) e
  pub sound : entry_flaw (path_of false parts) e ≡ None
  pub relation : IsOnlyRelation bytes parts e
  pub named : IsOnlyFile bytes parts e
  pub kept : is_excluded (path_of false parts) ≡ false

-- ---- which paths are those of a relation's main fork

no_version : relation_of (path_of false (kept_parts (codes "PG_VERSION"))) ≡ None
unfolding relation_of
no_version = refl

no_database_version : relation_of (path_of false (kept_parts (codes "base/5/PG_VERSION"))) ≡ None
unfolding relation_of file_named decimal_number
no_database_version = refl

no_first_log : relation_of (path_of false (kept_parts (codes "pg_wal/000000010000000000000001"))) ≡ None
unfolding relation_of
no_first_log = refl

no_second_log : relation_of (path_of false (kept_parts (codes "pg_wal/000000020000000000000001"))) ≡ None
unfolding relation_of
no_second_log = refl

no_history : relation_of (path_of false (kept_parts (codes "pg_wal/00000002.history"))) ≡ None
unfolding relation_of
no_history = refl

no_control : relation_of (path_of false (kept_parts (codes "global/pg_control"))) ≡ None
unfolding relation_of file_named decimal_number
no_control = refl

pub relation-here : relation_of (path_of false (kept_parts (codes "base/5/16384"))) ≡ Some (pair_relation, 0)
unfolding relation_of file_named decimal_number
relation-here = refl

none_of : (bytes : List ℕ) (parts : List (List ℕ)) (e : Entry) → relation_of (path_of false parts) ≡ None → IsOnlyRelation bytes parts e
none_of bytes parts e none at is = absurd (cc)

-- a file that is none of a relation's
pub plain-sound : (parts : List (List ℕ)) (file : List ℕ) → relation_of (path_of false parts) ≡ None → entry_flaw (path_of false parts) (FileEntry file) ≡ None
plain-sound parts file none = ap (λ o. if is_some o && not (length file % 8192 == 0) then Some (fault.OddSize (path_of false parts) (length file)) else None) none

pub whole-sound : (b : Bool) (path : PathValue) (size : ℕ) → size % 8192 ≡ 0 → (if b && not (size % 8192 == 0) then Some (fault.OddSize path size) else None) ≡ None
whole-sound true path size whole = ap (λ b. if not b then Some (fault.OddSize path size) else None) (eq-eqb (size % 8192) 0 whole)
whole-sound false path size whole = refl

some_same : (a b : RelName × ℕ) → Some a ≡ Some b → a ≡ b
some_same a b h = cc h

no_file : (bytes : List ℕ) (parts : List (List ℕ)) → IsOnlyFile bytes parts (FolderEntry false)
no_file bytes parts file its is named = absurd (cc)

unnamed : (bytes : List ℕ) (parts : List (List ℕ)) (e : Entry) → file_named (last_part (path_of false parts)) ≡ None → IsOnlyFile bytes parts e
unnamed bytes parts e none file its is named = absurd (cc)

same_name : (bytes its : List ℕ) (file other : FileName) → FileEntry bytes ≡ FileEntry its → Some other ≡ Some file → (file ≡ other) × (its ≡ bytes)
same_name bytes its file other is named = (cc, cc)

-- ---- each entry

module _ (bytes : List ℕ) (whole : length bytes % 8192 ≡ 0) where
  root_holds : Holds bytes (kept_parts (codes "")) (FolderEntry false)
  unfolding is_excluded relation_of
  root_holds = record {
    short = lit≤ tt;
    proper = refl;
    kind = refl;
    sort = (refl, refl);
    sound = refl;
    relation = none_of bytes (kept_parts (codes "")) (FolderEntry false) refl;
    named = no_file bytes (kept_parts (codes ""));
    kept = refl;
  }

  base_holds : Holds bytes (kept_parts (codes "base")) (FolderEntry false)
  unfolding is_excluded relation_of
  base_holds = record {
    short = lit≤ tt;
    proper = refl;
    kind = refl;
    sort = (refl, refl);
    sound = refl;
    relation = none_of bytes (kept_parts (codes "base")) (FolderEntry false) refl;
    named = no_file bytes (kept_parts (codes "base"));
    kept = refl;
  }

  database_holds : Holds bytes (kept_parts (codes "base/5")) (FolderEntry false)
  unfolding is_excluded relation_of
  database_holds = record {
    short = lit≤ tt;
    proper = refl;
    kind = refl;
    sort = (refl, refl);
    sound = refl;
    relation = none_of bytes (kept_parts (codes "base/5")) (FolderEntry false) refl;
    named = no_file bytes (kept_parts (codes "base/5"));
    kept = refl;
  }

  global_holds : Holds bytes (kept_parts (codes "global")) (FolderEntry false)
  unfolding is_excluded relation_of
  global_holds = record {
    short = lit≤ tt;
    proper = refl;
    kind = refl;
    sort = (refl, refl);
    sound = refl;
    relation = none_of bytes (kept_parts (codes "global")) (FolderEntry false) refl;
    named = no_file bytes (kept_parts (codes "global"));
    kept = refl;
  }

  wal_holds : Holds bytes (kept_parts (codes "pg_wal")) (FolderEntry false)
  unfolding is_excluded relation_of
  wal_holds = record {
    short = lit≤ tt;
    proper = refl;
    kind = tt;
    sort = (refl, refl);
    sound = refl;
    relation = none_of bytes (kept_parts (codes "pg_wal")) (FolderEntry false) refl;
    named = no_file bytes (kept_parts (codes "pg_wal"));
    kept = refl;
  }

  version_holds : (file : List ℕ) → Holds bytes (kept_parts (codes "PG_VERSION")) (FileEntry file)
  unfolding is_excluded file_named decimal_number
  version_holds file = record {
    short = lit≤ tt;
    proper = refl;
    kind = tt;
    sort = refl;
    sound = plain-sound (kept_parts (codes "PG_VERSION")) file no_version;
    relation = none_of bytes (kept_parts (codes "PG_VERSION")) (FileEntry file) no_version;
    named = unnamed bytes (kept_parts (codes "PG_VERSION")) (FileEntry file) refl;
    kept = refl;
  }

  database_version_holds : (file : List ℕ) → Holds bytes (kept_parts (codes "base/5/PG_VERSION")) (FileEntry file)
  unfolding is_excluded file_named decimal_number
  database_version_holds file = record {
    short = lit≤ tt;
    proper = refl;
    kind = tt;
    sort = refl;
    sound = plain-sound (kept_parts (codes "base/5/PG_VERSION")) file no_database_version;
    relation = none_of bytes (kept_parts (codes "base/5/PG_VERSION")) (FileEntry file) no_database_version;
    named = unnamed bytes (kept_parts (codes "base/5/PG_VERSION")) (FileEntry file) refl;
    kept = refl;
  }

  relation_holds : Holds bytes (kept_parts (codes "base/5/16384")) (FileEntry bytes)
  unfolding is_excluded file_named decimal_number
  relation_holds = record {
    short = lit≤ tt;
    proper = refl;
    kind = tt;
    sort = refl;
    sound = whole-sound (is_some (relation_of (path_of false (kept_parts (codes "base/5/16384"))))) (path_of false (kept_parts (codes "base/5/16384"))) (length bytes) whole;
    relation = λ at is. (some_same at (pair_relation, 0) (sym is ∙ relation-here), refl);
    named = λ file its is named. same_name bytes its file only_file is named;
    kept = refl;
  }

  first_log_holds : (file : List ℕ) → Holds bytes (kept_parts (codes "pg_wal/000000010000000000000001")) (FileEntry file)
  unfolding is_excluded file_named decimal_number
  first_log_holds file = record {
    short = lit≤ tt;
    proper = refl;
    kind = tt;
    sort = refl;
    sound = plain-sound (kept_parts (codes "pg_wal/000000010000000000000001")) file no_first_log;
    relation = none_of bytes (kept_parts (codes "pg_wal/000000010000000000000001")) (FileEntry file) no_first_log;
    named = unnamed bytes (kept_parts (codes "pg_wal/000000010000000000000001")) (FileEntry file) refl;
    kept = refl;
  }

  history_holds : (file : List ℕ) → Holds bytes (kept_parts (codes "pg_wal/00000002.history")) (FileEntry file)
  unfolding is_excluded file_named decimal_number
  history_holds file = record {
    short = lit≤ tt;
    proper = refl;
    kind = tt;
    sort = refl;
    sound = plain-sound (kept_parts (codes "pg_wal/00000002.history")) file no_history;
    relation = none_of bytes (kept_parts (codes "pg_wal/00000002.history")) (FileEntry file) no_history;
    named = unnamed bytes (kept_parts (codes "pg_wal/00000002.history")) (FileEntry file) refl;
    kept = refl;
  }

  second_log_holds : (file : List ℕ) → Holds bytes (kept_parts (codes "pg_wal/000000020000000000000001")) (FileEntry file)
  unfolding is_excluded file_named decimal_number
  second_log_holds file = record {
    short = lit≤ tt;
    proper = refl;
    kind = tt;
    sort = refl;
    sound = plain-sound (kept_parts (codes "pg_wal/000000020000000000000001")) file no_second_log;
    relation = none_of bytes (kept_parts (codes "pg_wal/000000020000000000000001")) (FileEntry file) no_second_log;
    named = unnamed bytes (kept_parts (codes "pg_wal/000000020000000000000001")) (FileEntry file) refl;
    kept = refl;
  }

  control_holds : (file : List ℕ) → Holds bytes (kept_parts (codes "global/pg_control")) (FileEntry file)
  unfolding is_excluded file_named decimal_number
  control_holds file = record {
    short = lit≤ tt;
    proper = refl;
    kind = tt;
    sort = refl;
    sound = plain-sound (kept_parts (codes "global/pg_control")) file no_control;
    relation = none_of bytes (kept_parts (codes "global/pg_control")) (FileEntry file) no_control;
    named = unnamed bytes (kept_parts (codes "global/pg_control")) (FileEntry file) refl;
    kept = refl;
  }

-- ---- all entries

pub all-append : (P : List (List ℕ) → Entry → Type 0) (xs ys : List Named) → AllNamed P xs → AllNamed P ys → AllNamed P (xs ++ ys)
all-append P [] ys all more = more
all-append P (x ∷ xs) ys all more = (all.0, all-append P xs ys all.1 more)

module _ (seed blocks : ℕ) where
  common_hold : (side : Side) → AllNamed (Holds (relation_bytes side seed blocks)) (common_entries side seed blocks)
  common_hold side =
      let bytes = relation_bytes side seed blocks in
      let whole = relation-whole side seed blocks in (
        root_holds bytes whole,
        (
          base_holds bytes whole,
          (
            database_holds bytes whole,
            (
              global_holds bytes whole,
              (
                wal_holds bytes whole,
                (version_holds bytes whole version_bytes, (database_version_holds bytes whole version_bytes, (relation_holds bytes whole, tt))),
              ),
            ),
          ),
        ),
      )

  pub target-hold : AllNamed (Holds (relation_bytes Target seed blocks)) (target_entries seed blocks)
  target-hold =
      let bytes = relation_bytes Target seed blocks in
      let whole = relation-whole Target seed blocks in
      all-append (Holds bytes) (common_entries Target seed blocks) (first_log (segment_bytes Target (records_of Target seed blocks)) ∷ control_entry (control_of Target seed blocks) ∷ []) (common_hold Target)
      (first_log_holds bytes whole (segment_bytes Target (records_of Target seed blocks)), (control_holds bytes whole (control_bytes (control_of Target seed blocks)), tt))

  pub shared-hold : AllNamed (Holds (relation_bytes Source seed blocks)) (shared_entries seed blocks)
  shared-hold =
      let bytes = relation_bytes Source seed blocks in
      let whole = relation-whole Source seed blocks in
      all-append (Holds bytes) (common_entries Source seed blocks) (first_log (segment_bytes Target (checkpoint_record common_checkpoint ∷ [])) ∷ second_log (segment_bytes Source (records_of Source seed blocks))) (common_hold Source) (
        first_log_holds bytes whole (segment_bytes Target (checkpoint_record common_checkpoint ∷ [])),
        (history_holds bytes whole history_bytes, (second_log_holds bytes whole (segment_bytes Source (records_of Source seed blocks)), tt)),
      )

  pub source-hold : AllNamed (Holds (relation_bytes Source seed blocks)) (source_entries seed blocks)
  source-hold =
      all-append (Holds (relation_bytes Source seed blocks)) (shared_entries seed blocks) (control_entry (control_of Source seed blocks) ∷ []) shared-hold
      (control_holds (relation_bytes Source seed blocks) (relation-whole Source seed blocks) (control_bytes (control_of Source seed blocks)), tt)

-- ---- so no path below such a root is too deep, and nothing there has a flaw

not_deep : (depth n : ℕ) → depth ≤ 61 → n ≤ 3 → nat_lt 64 (depth + n) ≡ false
not_deep depth n room short = grind (arith, nat_tests)

pub flawless : (depth : ℕ) (bytes : List ℕ) (parts : List (List ℕ)) (e : Entry) → depth ≤ 61 → Holds bytes parts e → flaw_at depth (path_of false parts, e) ≡ None
flawless depth bytes parts e room holds =
    ap (λ b. if b then Some (fault.TooDeep (front 64 (path_of false parts))) else entry_flaw (path_of false parts) e) (not_deep depth (length parts) room holds.short) ∙ holds.sound

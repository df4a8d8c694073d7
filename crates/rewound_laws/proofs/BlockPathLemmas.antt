-- The path of a relation's file is none that a rewind writes of its own, keeps, or leaves out.
use Rattle.std.proofs.Common.{◌≡◌, ℕ, ◌==◌, Bool, true, false, not, ◌&&◌, ◌||◌, nat_eq, List, [], ◌∷◌, ◌++◌, codes, decimal, length, take, refl, sym, ap, ap₂, ◌∙◌, true≢false, arith}
use Rattle.std.proofs.lemmas.Bool.Decides.{nat_tests}
use Rattle.std.proofs.lemmas.Slice.Eq.{bytes_eq-Decides}
use Rattle.std.specs.Prelude.{bytes_eq, if◌then◌else◌}
use Rattle.std.specs.List.{starts_with}
use lib.Pointwise.{pointwise}
use Rattle.alike_clusters.proofs.NameLemmas.{decimal-free, file-no_version, file_parts}
use Rattle.block_refs.specs.declared.names.Fork.{Fork}
use Rattle.block_refs.specs.declared.names.Fork.TheVariants.{Main, FreeSpace, Visibility, Init}
use Rattle.block_refs.specs.declared.names.RelName.{RelName}
use Rattle.cluster_tree.specs.PathValue.{path_of}
use Rattle.file_walk.specs.Actions.{is_control, is_kept, is_mark, is_version}
use Rattle.file_walk.specs.Excluded.{cache_name, is_excluded, is_own_file, is_own_name}
use Rattle.relation_files.proofs.CutLemmas.{and_parts, without}
use Rattle.relation_files.proofs.NameLemmas.{both_free}
use Rattle.relation_files.specs.Names.{fork_suffix, name_of, segment_suffix}
use Rattle.relation_files.specs.Paths.{database_parts, global_parts}
use Rattle.rewound_tree.specs.Rewound.{is_label}

-- ---- names without a p (112), which each name that is left out has

or_off : (a b : Bool) → a ≡ false → b ≡ false → (a || b) ≡ false
or_off true b h k = absurd (true≢false h)
or_off false b h k = k

another : (name text : List ℕ) → without 112 name ≡ true → without 112 text ≡ false → bytes_eq name text ≡ false
another name text free has = by (bytes_eq name text) refl
  where
    by : (b : Bool) → bytes_eq name text ≡ b → b ≡ false
    by false e = refl
    by true e = absurd (true≢false (sym free ∙ ap (without 112) ((bytes_eq-Decides name text).0 e) ∙ has))

no_own_file : (name : List ℕ) → without 112 name ≡ true → is_own_file name ≡ false
unfolding without
no_own_file name free =
    or_off _ _ (another name (codes "postgresql.auto.conf.tmp") free refl)
    (or_off _ _ (another name (codes "current_logfiles.tmp") free refl)
    (or_off _ _ (another name (codes "backup_label") free refl)
    (or_off _ _ (another name (codes "tablespace_map") free refl)
    (or_off _ _ (another name (codes "backup_manifest") free refl)
    (or_off _ _ (another name (codes "postmaster.pid") free refl)
    (or_off _ _ (another name (codes "postmaster.opts") free refl) refl))))))

other_byte : (y : ℕ) → not (y == 112) ≡ true → nat_eq 112 y ≡ false
other_byte y h = grind (arith, nat_tests, h)

no_cache : (name : List ℕ) → without 112 name ≡ true → starts_with nat_eq name cache_name ≡ false
unfolding without
no_cache [] free = refl
no_cache (y ∷ ys) free = ap (λ b. b && pointwise nat_eq (codes "g_internal.init") (take 15 ys)) (other_byte y (and_parts (not (y == 112)) (without 112 ys) free).0)

no_own_name : (name : List ℕ) → without 112 name ≡ true → is_own_name name ≡ false
no_own_name name free = or_off (is_own_file name) (starts_with nat_eq name cache_name) (no_own_file name free) (no_cache name free)

-- ---- the names of files and databases

fork_free : (fork : Fork) → without 112 (fork_suffix fork) ≡ true
unfolding without
fork_free Main = refl
fork_free FreeSpace = refl
fork_free Visibility = refl
fork_free Init = refl

segment_free : (segment : ℕ) → without 112 (segment_suffix segment) ≡ true
unfolding without
segment_free segment = by (segment == 0)
  where
    by : (t : Bool) → without 112 (if t then [] else 46 ∷ decimal segment) ≡ true
    by true = refl
    by false = decimal-free 112 segment (omega arith)

name_free : (relation : ℕ) (fork : Fork) (segment : ℕ) → without 112 (name_of relation fork segment) ≡ true
name_free relation fork segment =
    both_free 112 (decimal relation) (fork_suffix fork ++ segment_suffix segment) (decimal-free 112 relation (omega arith))
    (both_free 112 (fork_suffix fork) (segment_suffix segment) (fork_free fork) (segment_free segment))

control_has : without 112 (codes "pg_control") ≡ false
unfolding without
control_has = refl

-- ---- the paths of files

abbrev parts_in : (shared : Bool) → (database : ℕ) → List ℕ → List (List ℕ)
parts_in shared database name = (if shared then global_parts else database_parts database) ++ name ∷ []

not_label : (t : Bool) (database : ℕ) (name : List ℕ) → is_label (parts_in t database name) ≡ false
not_label true database name = refl
not_label false database name = refl

not_control : (t : Bool) (database : ℕ) (name : List ℕ) → without 112 name ≡ true → is_control (parts_in t database name) ≡ false
not_control true database name free = another name (codes "pg_control") free control_has
not_control false database name free = refl

not_mark : (t : Bool) (database : ℕ) (name : List ℕ) → is_mark (parts_in t database name) ≡ false
not_mark true database name = refl
not_mark false database name = refl

not_excluded : (t : Bool) (database : ℕ) (name : List ℕ) → without 112 name ≡ true → is_excluded (path_of false (parts_in t database name)) ≡ false
unfolding is_excluded
not_excluded true database name free = ap (λ b. b || false) (no_own_name name free)
not_excluded false database name free =
    ap₂ (λ a b. a || (b || false)) (no_own_name (decimal database) (decimal-free 112 database (omega arith))) (no_own_name name free)

some_parts : (t : Bool) (database : ℕ) (name : List ℕ) → length (parts_in t database name) == 0 ≡ false
some_parts true database name = refl
some_parts false database name = refl

-- a path that the rules for single paths say nothing of
pub record IsPlain (parts : List (List ℕ)) : Type 0 where
  pub deep : length parts == 0 ≡ false
  pub label : is_label parts ≡ false
  pub control : is_control parts ≡ false
  pub mark : is_mark parts ≡ false
  pub free : is_excluded (path_of false parts) ≡ false
  pub version : is_version (path_of false parts) ≡ false

pub file-plain : (rel : RelName) (fork : Fork) (segment : ℕ) → IsPlain (file_parts rel fork segment)
file-plain rel fork segment = record {
  deep = some_parts (rel.space == 1664) rel.database (name_of rel.relation fork segment);
  label = not_label (rel.space == 1664) rel.database (name_of rel.relation fork segment);
  control = not_control (rel.space == 1664) rel.database (name_of rel.relation fork segment) (name_free rel.relation fork segment);
  mark = not_mark (rel.space == 1664) rel.database (name_of rel.relation fork segment);
  free = not_excluded (rel.space == 1664) rel.database (name_of rel.relation fork segment) (name_free rel.relation fork segment);
  version = file-no_version rel fork segment;
}

pub plain-loose : (parts : List (List ℕ)) → IsPlain parts → is_kept (path_of false parts) ≡ false
plain-loose parts plain = or_off (is_control parts) (is_mark parts) plain.control plain.mark

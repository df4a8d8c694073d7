-- What is there of a layout is what the whole layout has.
use Rattle.std.proofs.Common.{◌≡◌, ℕ, ◌*◌, ◌/◌, ◌<◌, ◌≤◌, Bool, true, false, cond, ltb, List, [], length, Option, Some, None, refl, ap, subst, ◌∙◌, arith}
use Rattle.std.specs.Prelude.{min, option_map}
use Rattle.std.proofs.lemmas.Bool.{ltb-false, le-ltb}
use Rattle.std.proofs.Math.Nat.{min-eq_left}
use Rattle.std.proofs.lemmas.Option.{slice_get-get_or}
use Rattle.control_file.specs.declared.checkpoint.Checkpoint.{Checkpoint}
use Rattle.control_file.specs.Reading.{checkpoint_of, checkpoint_at}
use Rattle.block_refs.specs.declared.names.Fork.{Fork}
use Rattle.block_refs.specs.Names.{fork_of}
use Rattle.layout.specs.Readers.{u8_at, u32_at}
use Rattle.record_layouts.specs.declared.bytes.Read.{Read}
use Rattle.record_layouts.specs.declared.database.DatabaseCreate.{DatabaseCreate}
use Rattle.record_layouts.specs.declared.database.DatabaseDrop.{DatabaseDrop}
use Rattle.record_layouts.specs.declared.database.DatabaseDropPrefix.{DatabaseDropPrefix}
use Rattle.record_layouts.specs.declared.storage.StorageCreate.{StorageCreate}
use Rattle.record_layouts.specs.declared.storage.StorageTruncate.{StorageTruncate}
use Rattle.record_layouts.specs.declared.xlog.ParameterChange.{ParameterChange}
use Rattle.layout_readers.specs.Whole.{whole}
use Rattle.layout_readers.proofs.WholeLemmas.{whole_is}
use Rattle.record_layouts.specs.Fields.{byte_if, given, given_or, taken, count, word}
use Rattle.record_layouts.specs.Items.{items, item_list, item_prefix}
use Rattle.record_layouts.specs.EndParts.{part}
use Rattle.record_layouts.specs.Database.{database_create_of, create_prefix_of, database_drop_of, drop_prefix_of}
use Rattle.record_layouts.specs.Storage.{storage_create_of, storage_create_with, storage_truncate_of, created_name_of, cut_name_of}
use Rattle.record_layouts.specs.Xlog.{parameter_change_of}
use Rattle.record_layouts.specs.XlogPrefixes.{checkpoint_prefix_of, parameter_prefix_of}
use Rattle.record_layouts.specs.PrefixLaws.{checkpoint_there, created_there, dropped_there, parameters_there}

there : {A : Type 0} (size at : ℕ) (bytes : List ℕ) (value : A) → size ≤ length bytes → at ≤ size → whole at bytes value ≡ Some value
there size at bytes value room low = rw (le-ltb (length bytes) at (omega (arith, room, low))) refl

byte_there : (size at : ℕ) (bytes : List ℕ) → size ≤ length bytes → at < size → byte_if at bytes ≡ Some (u8_at at bytes)
unfolding u8_at
byte_there size at bytes room low = slice_get-get_or bytes at 0 (omega (arith, room, low))

pub parameters : (bytes : List ℕ) (change : ParameterChange) → parameter_change_of bytes ≡ Some change → parameter_prefix_of bytes ≡ parameters_there change
parameters bytes change e =
    let w = whole_is 26 bytes _ change e in
    subst (λ c. parameter_prefix_of bytes ≡ parameters_there c) w.same (
    rw (
      there 26 4 bytes _ w.room (omega arith),
      there 26 8 bytes _ w.room (omega arith),
      there 26 12 bytes _ w.room (omega arith),
      there 26 16 bytes _ w.room (omega arith),
      there 26 20 bytes _ w.room (omega arith),
      there 26 24 bytes _ w.room (omega arith),
      byte_there 26 24 bytes w.room (omega arith),
      byte_there 26 25 bytes w.room (omega arith),
    ) refl)

pub checkpoints : (bytes : List ℕ) (cp : Checkpoint) → checkpoint_of bytes ≡ Some cp → checkpoint_prefix_of bytes ≡ checkpoint_there cp
unfolding checkpoint_at u8_at
checkpoints bytes cp e =
    let w = whole_is 88 bytes (checkpoint_at 0 bytes) cp e in
    subst (λ c. checkpoint_prefix_of bytes ≡ checkpoint_there c) w.same (rw (byte_there 88 16 bytes w.room (omega arith)) refl)

pub creations : (bytes : List ℕ) (create : DatabaseCreate) → database_create_of bytes ≡ Some create → create_prefix_of bytes ≡ created_there create
creations bytes create e =
    let w = whole_is 8 bytes _ create e in
    subst (λ c. create_prefix_of bytes ≡ created_there c) w.same (rw (there 8 4 bytes _ w.room (omega arith), there 8 8 bytes _ w.room (omega arith)) refl)

pub cuts : (bytes : List ℕ) (cut : StorageTruncate) → storage_truncate_of bytes ≡ Some cut → cut_name_of bytes ≡ Some cut.rel
cuts bytes cut e =
    let w = whole_is 20 bytes _ cut e in
    there 20 16 bytes _ w.room (omega arith) ∙ ap (λ (c : StorageTruncate). Some c.rel) w.same

pub names : (bytes : List ℕ) (create : StorageCreate) → storage_create_of bytes ≡ Some create → created_name_of bytes ≡ Some create.rel
names bytes create e = by (ltb (length bytes) 16) refl (fork_of (u32_at 12 bytes)) e
  where
    by : (b : Bool) → ltb (length bytes) 16 ≡ b → (o : Option Fork) → cond b None (option_map (storage_create_with bytes) o) ≡ Some create → created_name_of bytes ≡ Some create.rel
    by true h o e = absurd cc
    by false h None e = absurd cc
    by false h (Some fork) e =
        let same : storage_create_with bytes fork ≡ create = cc in
        there 16 12 bytes _ (ltb-false _ _ h) (omega arith) ∙ ap (λ (c : StorageCreate). Some c.rel) same

-- ---- lists

-- where an answer was given, a part was read
pub record Given {A B : Type 0} (part : Option (Read A)) (answer : A → List ℕ → Option B) (found : B) : Type 0 where
  pub read : Read A
  pub is : part ≡ Some read
  pub next : answer read.value read.rest ≡ Some found

pub given_some : {A B : Type 0} (part : Option (Read A)) (answer : A → List ℕ → Option B) (found : B) → given part answer ≡ Some found → Given part answer found
given_some None answer found e = absurd cc
given_some (Some read) answer found e = record { read = read; is = refl; next = e }

-- a list that is whole has as many items as are there
pub all_there : {A : Type 0} (size : ℕ) (item : ℕ → List ℕ → A) (bytes : List ℕ) (found : Read (List A)) → ((n m : ℕ) → size * n ≤ m → n ≤ m / size)
    → item_list size item bytes ≡ Some found → item_prefix size item bytes ≡ found.value
all_there size item bytes found fits e =
    let g = given_some (count bytes) (λ n rest. taken (size * n) rest (items size item n rest)) found e in
    let n = g.read.value in
    let rest = g.read.rest in
    let w = whole_is (size * n) rest _ found g.next in
    let few : n ≤ length rest / size = fits n (length rest) w.room in
    let all : min n (length rest / size) ≡ n = min-eq_left few in
    rw (g.is, all) (ap (λ (r : Read (List _)). r.value) w.same)

four : (n m : ℕ) → 4 * n ≤ m → n ≤ m / 4
four n m h = omega (arith, h)

pub twelve : (n m : ℕ) → 12 * n ≤ m → n ≤ m / 12
twelve n m h = omega (arith, h)

given_or_is : {A B : Type 0} (none : B) (part : Option (Read A)) (answer : A → List ℕ → B) (read : Read A) → part ≡ Some read → given_or none part answer ≡ answer read.value read.rest
given_or_is none part answer read is = ap (λ (o : Option (Read _)). given_or none o answer) is

abbrev with_spaces : ℕ → List ℕ → DatabaseDropPrefix
with_spaces database spaces = record { database = Some database; spaces = spaces }

pub drops : (bytes : List ℕ) (drop : DatabaseDrop) → database_drop_of bytes ≡ Some drop → drop_prefix_of bytes ≡ dropped_there drop
drops bytes drop e =
    let g = given_some (word bytes) _ drop e in
    let l = given_some (item_list 4 u32_at g.read.rest) _ drop g.next in
    let spaces = all_there 4 u32_at g.read.rest l.read four l.is in
    let same : record { database = g.read.value; spaces = l.read.value } ≡ drop = cc l.next in
    given_or_is record { database = None; spaces = [] } (word bytes) (λ (database : ℕ) (rest : List ℕ). with_spaces database (item_prefix 4 u32_at rest)) g.read g.is
    ∙ ap (with_spaces g.read.value) spaces ∙ ap dropped_there same

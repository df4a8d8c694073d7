-- What the fields of each kind name, by its layout.
use Rattle.std.proofs.Common.{◌≡◌, ℕ, zero, suc, ◌+◌, ◌-◌, ◌*◌, ◌<◌, ◌≤◌, ◌^◌, Bool, true, false, cond, ltb, List, [], ◌∷◌, length, drop, Option, Some, None, ◌⊎◌, inl, inr, refl, sym, ap, ◌∙◌, arith, length-drop}
use Rattle.std.specs.Prelude.{option_map}
use Rattle.std.specs.List.{flat_map}
use Rattle.std.proofs.lemmas.Bool.{cases_lt, le-ltb, lt-ltb, ltb-false, ltb-true, ne_eqb}
use Rattle.layout.specs.Readers.{u32_at}
use Rattle.layout_readers.proofs.WholeLemmas.{whole_is, whole_there}
use Rattle.block_refs.specs.Header.{relation_at}
use Rattle.block_refs.specs.Names.{fork_of}
use Rattle.block_refs.specs.declared.names.Fork.{Fork}
use Rattle.block_refs.specs.declared.names.Fork.TheVariants as fork
use Rattle.record_layouts.specs.declared.bytes.Read.{Read}
use Rattle.record_layouts.specs.declared.database.DatabaseCopy.{DatabaseCopy}
use Rattle.record_layouts.specs.declared.database.DatabaseCreate.{DatabaseCreate}
use Rattle.record_layouts.specs.declared.database.DatabaseDrop.{DatabaseDrop}
use Rattle.record_layouts.specs.declared.database.DatabaseOp.TheVariants as database
use Rattle.record_layouts.specs.declared.end.TransactionEnd.{TransactionEnd}
use Rattle.record_layouts.specs.declared.end_parts.Outcome.{Outcome}
use Rattle.record_layouts.specs.declared.storage.StorageOp.TheVariants as storage
use Rattle.record_layouts.specs.declared.storage.StorageTruncate.{StorageTruncate}
use Rattle.record_layouts.specs.declared.transaction.TransactionOp.TheVariants as transaction
use Rattle.record_layouts.specs.End.{end_of}
use Rattle.record_layouts.specs.Fields.{count, given, if_not_negative, taken, word}
use Rattle.record_layouts.specs.Items.{item_list, items}
use Rattle.record_layouts.specs.Storage.{storage_create_of, storage_create_with, storage_truncate_of}
use Rattle.record_layouts.proofs.PrefixLemmas.{Given, given_some}
use Rattle.touched_blocks.specs.Fields.{cut_names, database_names, storage_names, transaction_names}
use Rattle.touched_blocks.specs.Layouts.{DropSize}
use Rattle.touched_blocks.specs.Named.{whole_rel}
use Rattle.touched_blocks.specs.declared.named.Named.{Named}
use Rattle.touched_blocks.specs.declared.named.Named.TheVariants.{AllOf}

some_is : {X : Type 0} (x y : X) → Some x ≡ Some y → x ≡ y
some_is x y e = cc

-- what was made of a value that may be missing
mapped : {X Y : Type 0} (f : X → Y) (o : Option X) (y : Y) → option_map f o ≡ Some y → (x : X) × (o ≡ Some x) × (f x ≡ y)
mapped f None y e = absurd cc
mapped f (Some x) y e = (x, refl, cc)

-- ---- CREATE

no_fork : (n : ℕ) → 3 < n → fork_of n ≡ None
unfolding fork_of
no_fork n high = rw (ne_eqb n 0 (λ e. omega arith), ne_eqb n 1 (λ e. omega arith), ne_eqb n 2 (λ e. omega arith), ne_eqb n 3 (λ e. omega arith)) refl

fork_known : (n : ℕ) (f : Fork) → fork_of n ≡ Some f → n ≤ 3
fork_known n f e = elim (cases_lt 3 n) [ inl high ↦ absurd (let none : None ≡ Some f = sym (no_fork n high) ∙ e in cc) | inr low ↦ low ]

fork_there : (n : ℕ) → n ≤ 3 → (f : Fork) × (fork_of n ≡ Some f)
unfolding fork_of
fork_there zero low = (fork.Main, refl)
fork_there (suc zero) low = (fork.FreeSpace, refl)
fork_there (suc (suc zero)) low = (fork.Visibility, refl)
fork_there (suc (suc (suc zero))) low = (fork.Init, refl)
fork_there (suc (suc (suc (suc n)))) low = absurd (omega arith)

pub record Made (main : List ℕ) (more : List Named) : Type 0 where
  pub whole : 16 ≤ length main
  pub fork : u32_at 12 main ≤ 3
  pub names : more ≡ whole_rel (relation_at main 0)

pub create_found : (main : List ℕ) (more : List Named) → storage_names storage.Create main ≡ Some more → Made main more
create_found main more e = by (ltb (length main) 16) refl (fork_of (u32_at 12 main)) refl e
  where
    by : (b : Bool) → ltb (length main) 16 ≡ b → (o : Option Fork) → fork_of (u32_at 12 main) ≡ o
        → option_map (λ create. whole_rel create.rel) (cond b None (option_map (storage_create_with main) o)) ≡ Some more → Made main more
    by true h o k e = absurd cc
    by false h None k e = absurd cc
    by false h (Some f) k e = record { whole = ltb-false _ _ h; fork = fork_known _ f k; names = cc }

pub create_again : (main : List ℕ) → 16 ≤ length main → u32_at 12 main ≤ 3 → storage_names storage.Create main ≡ Some (whole_rel (relation_at main 0))
create_again main room low = let f = fork_there (u32_at 12 main) low in rw (le-ltb (length main) 16 room, f.1) refl

-- ---- TRUNCATE

-- its fields
abbrev pub cut_at_front : List ℕ → StorageTruncate
cut_at_front main = record { blocks = u32_at 0 main; rel = relation_at main 4; flags = u32_at 16 main }

pub record CutShort (main : List ℕ) (more : List Named) : Type 0 where
  pub whole : 20 ≤ length main
  pub names : more ≡ cut_names (cut_at_front main)

pub cut_found : (main : List ℕ) (more : List Named) → storage_names storage.Truncate main ≡ Some more → CutShort main more
cut_found main more e =
    let m = mapped cut_names (storage_truncate_of main) more e in
    let w = whole_is 20 main (cut_at_front main) m.0 m.1 in
    record { whole = w.room; names = sym m.2 ∙ ap cut_names (sym w.same) }

pub cut_again : (main : List ℕ) → 20 ≤ length main → storage_names storage.Truncate main ≡ Some (cut_names (cut_at_front main))
cut_again main room = ap (option_map cut_names) (whole_there 20 main (cut_at_front main) room)

-- ---- a commit or an abort

pub record EndIs (outcome : Outcome) (flags : Bool) (main : List ℕ) (more : List Named) : Type 0 where
  pub end : TransactionEnd
  pub is : end_of outcome flags main ≡ Some end
  pub names : more ≡ flat_map whole_rel end.dropped

pub end_found : (outcome : Outcome) (prepared flags : Bool) (main : List ℕ) (more : List Named)
    → transaction_names (transaction.End outcome prepared flags) main ≡ Some more → EndIs outcome flags main more
end_found outcome prepared flags main more e =
    let m = mapped (λ (end : TransactionEnd). flat_map whole_rel end.dropped) (end_of outcome flags main) more e in
    record { end = m.0; is = m.1; names = sym m.2 }

pub end_again : (outcome : Outcome) (prepared flags : Bool) (main : List ℕ) (end : TransactionEnd) → end_of outcome flags main ≡ Some end
    → transaction_names (transaction.End outcome prepared flags) main ≡ Some (flat_map whole_rel end.dropped)
end_again outcome prepared flags main end e = rw e refl

-- ---- databases

abbrev pub all_of_first : List ℕ → List Named
all_of_first main = AllOf (u32_at 0 main) ∷ []

pub copy_found : (main : List ℕ) (more : List Named) → database_names database.CreateFileCopy main ≡ Some more → (16 ≤ length main) × (more ≡ all_of_first main)
copy_found main more e = by (ltb (length main) 16) refl e
  where
    by : (b : Bool) → ltb (length main) 16 ≡ b → option_map (λ (copy : DatabaseCopy). AllOf copy.database ∷ []) (cond b None (Some record { database = u32_at 0 main; space = u32_at 4 main; from_database = u32_at 8 main; from_space = u32_at 12 main })) ≡ Some more
        → (16 ≤ length main) × (more ≡ all_of_first main)
    by true h e = absurd cc
    by false h e = (ltb-false _ _ h, cc)

pub copy_again : (main : List ℕ) → 16 ≤ length main → database_names database.CreateFileCopy main ≡ Some (all_of_first main)
copy_again main room = rw (le-ltb (length main) 16 room) refl

pub log_found : (main : List ℕ) (more : List Named) → database_names database.CreateWalLog main ≡ Some more → (8 ≤ length main) × (more ≡ all_of_first main)
log_found main more e = by (ltb (length main) 8) refl e
  where
    by : (b : Bool) → ltb (length main) 8 ≡ b → option_map (λ (create : DatabaseCreate). AllOf create.database ∷ []) (cond b None (Some record { database = u32_at 0 main; space = u32_at 4 main })) ≡ Some more
        → (8 ≤ length main) × (more ≡ all_of_first main)
    by true h e = absurd cc
    by false h e = (ltb-false _ _ h, cc)

pub log_again : (main : List ℕ) → 8 ≤ length main → database_names database.CreateWalLog main ≡ Some (all_of_first main)
log_again main room = rw (le-ltb (length main) 8 room) refl

-- a number of four bytes from the front
word_is : (bytes : List ℕ) (read : Read ℕ) → word bytes ≡ Some read → (4 ≤ length bytes) × (record { value = u32_at 0 bytes; rest = drop 4 bytes } ≡ read)
unfolding word
word_is bytes read e = let w = whole_is 4 bytes _ read e in (w.room, w.same)

word_there : (bytes : List ℕ) → 4 ≤ length bytes → word bytes ≡ Some record { value = u32_at 0 bytes; rest = drop 4 bytes }
unfolding word
word_there bytes room = whole_there 4 bytes _ room

second : (bytes : List ℕ) → u32_at 0 (drop 4 bytes) ≡ u32_at 4 bytes
unfolding u32_at
second bytes = refl

count_is : (bytes : List ℕ) (read : Read ℕ) → count bytes ≡ Some read → (4 ≤ length bytes) × (u32_at 0 bytes < 2 ^ 31) × (record { value = u32_at 0 bytes; rest = drop 4 bytes } ≡ read)
unfolding count
count_is bytes read e =
    let g = given_some (word bytes) if_not_negative read e in
    let w = word_is bytes g.read g.is in
    by (ltb (u32_at 0 bytes) 0x80000000) refl w.0 (ap (λ (r : Read ℕ). if_not_negative r.value r.rest) w.1 ∙ g.next)
  where
    by : (b : Bool) → ltb (u32_at 0 bytes) 0x80000000 ≡ b → 4 ≤ length bytes → cond b (Some record { value = u32_at 0 bytes; rest = drop 4 bytes }) None ≡ Some read
        → (4 ≤ length bytes) × (u32_at 0 bytes < 2 ^ 31) × (record { value = u32_at 0 bytes; rest = drop 4 bytes } ≡ read)
    by true h room e = (room, ltb-true _ _ h, cc)
    by false h room e = absurd cc

count_there : (bytes : List ℕ) → 4 ≤ length bytes → u32_at 0 bytes < 2 ^ 31 → count bytes ≡ Some record { value = u32_at 0 bytes; rest = drop 4 bytes }
unfolding count
count_there bytes room low = rw (word_there bytes room, lt-ltb (u32_at 0 bytes) 0x80000000 low) refl

-- of a drop its database is read, and how many tablespaces there are, and these
abbrev spaces_of : ℕ → List ℕ → Option (Read (List ℕ))
spaces_of n rest = taken (4 * n) rest (items 4 u32_at n rest)

pub drop_found : (main : List ℕ) (more : List Named) → database_names database.Drop main ≡ Some more → DropSize main × (more ≡ all_of_first main)
drop_found main more e =
    let m = mapped (λ (gone : DatabaseDrop). AllOf gone.database ∷ []) _ more e in
    let g = given_some (word main) _ m.0 m.1 in
    let w = word_is main g.read g.is in
    let h = given_some (item_list 4 u32_at g.read.rest) _ m.0 g.next in
    let k = given_some (count g.read.rest) spaces_of h.read h.is in
    let c = count_is g.read.rest k.read k.is in
    let t = whole_is (4 * k.read.value) k.read.rest _ h.read k.next in
    let rest : g.read.rest ≡ drop 4 main = sym (ap (λ (r : Read ℕ). r.rest) w.1) in
    let n : u32_at 0 g.read.rest ≡ u32_at 4 main = ap (u32_at 0) rest ∙ second main in
    let value : k.read.value ≡ u32_at 4 main = sym (ap (λ (r : Read ℕ). r.value) c.2) ∙ n in
    let behind : k.read.rest ≡ drop 4 g.read.rest = sym (ap (λ (r : Read ℕ). r.rest) c.2) in
    let one = ap length rest ∙ length-drop 4 main in
    let two = ap length behind ∙ length-drop 4 g.read.rest in
    let gone : record { database = g.read.value; spaces = h.read.value } ≡ m.0 = some_is _ _ h.next in
    let database : m.0.database ≡ u32_at 0 main = sym (ap (λ (d : DatabaseDrop). d.database) gone) ∙ sym (ap (λ (r : Read ℕ). r.value) w.1) in (
      record {
        front = omega (arith, w.0, c.0, one);
        count = omega (arith, c.1, n);
        spaces = omega (arith, t.room, value, one, two, w.0, c.0);
      },
      sym m.2 ∙ ap (λ (d : ℕ). AllOf d ∷ []) database,
    )

pub drop_again : (main : List ℕ) → DropSize main → database_names database.Drop main ≡ Some (all_of_first main)
drop_again main h =
    let rest = drop 4 main in
    let one : length rest ≡ length main - 4 = length-drop 4 main in
    let two : length (drop 4 rest) ≡ length rest - 4 = length-drop 4 rest in
    let n = second main in
    rw (
      word_there main (omega (arith, h.front)),
      count_there rest (omega (arith, one, h.front)) (omega (arith, n, h.count)),
      whole_there {A = Read (List ℕ)} (4 * u32_at 0 rest) (drop 4 rest) (record { value = items 4 u32_at (u32_at 0 rest) (drop 4 rest); rest = drop (4 * u32_at 0 rest) (drop 4 rest) })
          (omega (arith, n, one, two, h.spaces)),
    ) refl

-- Names and numbers in the main bytes of a record that replay takes.
use Rattle.std.proofs.Common.{◌≡◌, ◌≢◌, ℕ, ◌*◌, ◌/◌, ◌<◌, ◌^◌, nat_lt, Bool, true, false, cond, List, [], ◌∷◌, length, drop, map, min, Option, None, Some, ap, sym, subst, ◌∙◌, arith}
use Rattle.std.specs.List.{AllByRecursion, list_all, range_with_len}
use Rattle.std.proofs.lemmas.Bool.Decides.{nat_tests}
use Rattle.layout.specs.Readers.{i64_at, u32_at}
use Rattle.layout_readers.specs.Rows.{AreBytes}
use Rattle.layout_readers.specs.Whole.{whole}
use Rattle.layout_readers.proofs.WholeLemmas.{whole_is}
use Rattle.block_refs.specs.Bits.{has_bits}
use Rattle.block_refs.specs.declared.names.RelName.{RelName}
use Rattle.record_layouts.specs.declared.bytes.Read.{Read}
use Rattle.record_layouts.specs.declared.database.DatabaseDrop.{DatabaseDrop}
use Rattle.record_layouts.specs.declared.end.TransactionEnd.{TransactionEnd}
use Rattle.record_layouts.specs.declared.end_parts.Outcome.{Outcome}
use Rattle.record_layouts.specs.declared.storage.StorageTruncate.{StorageTruncate}
use Rattle.record_layouts.specs.Database.{database_drop_of, drop_prefix_of}
use Rattle.record_layouts.specs.End.{before_dropped, dropped_prefix_of, end_of, relations_behind}
use Rattle.record_layouts.specs.EndParts.{database, part, xinfo_part}
use Rattle.record_layouts.specs.Fields.{count, given, given_or, if_not_negative, relation, signed, taken, word}
use Rattle.record_layouts.specs.Items.{item_list, item_prefix, items}
use Rattle.record_layouts.specs.PrefixLaws.{dropped_there}
use Rattle.record_layouts.specs.Storage.{cut_name_of, storage_truncate_of}
use Rattle.record_layouts.proofs.DroppedLemmas.{ends}
use Rattle.record_layouts.proofs.PrefixLemmas.{cuts, drops, given_some}
use Rattle.replay_profile.specs.Fields.{takes_drop}
use Rattle.replay_profile.specs.Names.{is_known_database, is_known_rel, is_known_space}
use Rattle.replay_profile.specs.Values.{passes}
use Rattle.storage_laws.specs.FileLaws.{IsProper}
use Rattle.storage_laws.specs.Names.{IsRel}
use Rattle.storage_laws.proofs.NumberLemmas.{and-parts}
use Rattle.replay_laws.proofs.NameLemmas.{rel-proper}
use Rattle.replay_laws.proofs.ReadLemmas.{rel-fits, still-bytes, word-fits}

-- a relation that replay knows, by numbers that a record can name
pub record IsKnown (rel : RelName) : Type 0 where
  pub numbers : IsRel rel
  pub proper : IsProper rel

-- what stands behind a part are bytes

abbrev RestBytes : {A : Type 0} → Option (Read A) → Type 0
RestBytes None = Unit {0}
RestBytes (Some read) = AreBytes read.rest

whole_rest : {A : Type 0} (size : ℕ) (bytes : List ℕ) (read : Read A) → AreBytes read.rest → RestBytes (whole size bytes read)
whole_rest size bytes read are = by (nat_lt (length bytes) size)
  where
    by : (b : Bool) → RestBytes (cond b None (Some read))
    by true = tt
    by false = are

taken_rest : {A : Type 0} (size : ℕ) (bytes : List ℕ) (value : A) → AreBytes bytes → RestBytes (taken size bytes value)
taken_rest size bytes value are = whole_rest size bytes (record { value = value; rest = drop size bytes }) (still-bytes size bytes are)

given_rest : {A B : Type 0} (read : Option (Read A)) (answer : A → List ℕ → Option (Read B)) → RestBytes read → ((value : A) (rest : List ℕ) → AreBytes rest → RestBytes (answer value rest)) → RestBytes (given read answer)
given_rest None answer are next = tt
given_rest (Some read) answer are next = next read.value read.rest are

word_rest : (bytes : List ℕ) → AreBytes bytes → RestBytes (word bytes)
unfolding word
word_rest bytes are = taken_rest 4 bytes (u32_at 0 bytes) are

signed_rest : (bytes : List ℕ) → AreBytes bytes → RestBytes (signed bytes)
unfolding signed
signed_rest bytes are = taken_rest 8 bytes (i64_at 0 bytes) are

negative_rest : (n : ℕ) (rest : List ℕ) → AreBytes rest → RestBytes (if_not_negative n rest)
negative_rest n rest are = by (nat_lt n 0x80000000)
  where
    by : (b : Bool) → RestBytes {A = ℕ} (cond b (Some record { value = n; rest = rest }) None)
    by true = are
    by false = tt

count_rest : (bytes : List ℕ) → AreBytes bytes → RestBytes (count bytes)
unfolding count
count_rest bytes are = given_rest (word bytes) if_not_negative (word_rest bytes are) negative_rest

list_rest : {A : Type 0} (size : ℕ) (item : ℕ → List ℕ → A) (bytes : List ℕ) → AreBytes bytes → RestBytes (item_list size item bytes)
list_rest size item bytes are = given_rest (count bytes) (λ n rest. taken (size * n) rest (items size item n rest)) (count_rest bytes are) (λ n rest left. taken_rest (size * n) rest (items size item n rest) left)

database_rest : (bytes : List ℕ) → AreBytes bytes → RestBytes (database bytes)
unfolding database
database_rest bytes are = given_rest (word bytes) _ (word_rest bytes are) (λ number rest left. given_rest (word rest) _ (word_rest rest left) (λ space behind last. last))

part_rest : {A : Type 0} (xinfo bit : ℕ) (none : A) (read : Option (Read A)) (bytes : List ℕ) → AreBytes bytes → RestBytes read → RestBytes (part xinfo bit none read bytes)
part_rest xinfo bit none read bytes are left = by (has_bits xinfo bit)
  where
    by : (b : Bool) → RestBytes (cond b read (Some record { value = none; rest = bytes }))
    by true = left
    by false = are

xinfo_rest : (has_xinfo : Bool) (bytes : List ℕ) → AreBytes bytes → RestBytes (xinfo_part has_xinfo bytes)
xinfo_rest true bytes are = word_rest bytes are
xinfo_rest false bytes are = are

before_rest : (has_xinfo : Bool) (bytes : List ℕ) → AreBytes bytes → RestBytes (before_dropped has_xinfo bytes)
unfolding before_dropped
before_rest has_xinfo bytes are =
    given_rest (signed bytes) _ (signed_rest bytes are) (λ time rest left.
    given_rest (xinfo_part has_xinfo rest) _ (xinfo_rest has_xinfo rest left) (λ xinfo rest left.
    given_rest (part xinfo 0x01 None (database rest) rest) _ (part_rest xinfo 0x01 None (database rest) rest left (database_rest rest left)) (λ name rest left.
    given_rest (part xinfo 0x02 [] (item_list 4 u32_at rest) rest) _ (part_rest xinfo 0x02 [] (item_list 4 u32_at rest) rest left (list_rest 4 u32_at rest left)) (λ subxacts rest left. left))))

-- relations that are dropped

all_mapped : {A B : Type 0} (P : B → Type 0) (f : A → B) (xs : List A) → ((x : A) → P (f x)) → AllByRecursion P (map f xs)
all_mapped P f [] each = tt
all_mapped P f (x ∷ xs) each = (each x, all_mapped P f xs each)

prefix_fits : (read : Option (Read ℕ)) → RestBytes read → AllByRecursion IsRel (given_or [] read (λ n rest. items 12 relation (min n (length rest / 12)) rest))
prefix_fits None are = tt
prefix_fits (Some read) are = all_mapped IsRel (λ (i : ℕ). relation (12 * i) read.rest) (range_with_len 0 (min read.value (length read.rest / 12))) (λ i. rel-fits (12 * i) read.rest are)

behind_fits : (read : Option (Read ℕ)) → RestBytes read → AllByRecursion IsRel (given_or [] read relations_behind)
behind_fits None are = tt
behind_fits (Some read) are = by (has_bits read.value 0x04)
  where
    by : (b : Bool) → AllByRecursion IsRel (cond b (item_prefix 12 relation read.rest) [])
    by true = prefix_fits (count read.rest) (count_rest read.rest are)
    by false = tt

dropped_fit : (has_xinfo : Bool) (bytes : List ℕ) → AreBytes bytes → AllByRecursion IsRel (dropped_prefix_of has_xinfo bytes)
unfolding dropped_prefix_of
dropped_fit has_xinfo bytes are = behind_fits (before_dropped has_xinfo bytes) (before_rest has_xinfo bytes are)

all_known : (rels : List RelName) → AllByRecursion IsRel rels → list_all is_known_rel rels ≡ true → AllByRecursion IsKnown rels
all_known [] fit known = tt
all_known (rel ∷ rels) fit known =
    let two = and-parts (is_known_rel rel) (list_all is_known_rel rels) known in
    (record { numbers = fit.0; proper = rel-proper rel two.0 }, all_known rels fit.1 two.1)

pub end-known : (outcome : Outcome) (has_xinfo : Bool) (bytes : List ℕ) (end : TransactionEnd) → AreBytes bytes → list_all is_known_rel (dropped_prefix_of has_xinfo bytes) ≡ true → end_of outcome has_xinfo bytes ≡ Some end → AllByRecursion IsKnown end.dropped
end-known outcome has_xinfo bytes end are known read = subst (AllByRecursion IsKnown) (ends outcome has_xinfo bytes end read) (all_known (dropped_prefix_of has_xinfo bytes) (dropped_fit has_xinfo bytes are) known)

-- a relation that is cut

pub record CutIsKnown (cut : StorageTruncate) : Type 0 where
  pub rel : IsKnown cut.rel
  pub blocks : cut.blocks < 2 ^ 32

pub cut-known : (bytes : List ℕ) (cut : StorageTruncate) → AreBytes bytes → passes is_known_rel (cut_name_of bytes) ≡ true → storage_truncate_of bytes ≡ Some cut → CutIsKnown cut
cut-known bytes cut are known read =
    let w = whole_is 20 bytes _ cut read in
    record {
      rel = record {
        numbers = subst (λ (c : StorageTruncate). IsRel c.rel) w.same (rel-fits 4 bytes are);
        proper = rel-proper cut.rel (sym (ap (passes is_known_rel) (cuts bytes cut read)) ∙ known);
      };
      blocks = subst (λ (c : StorageTruncate). c.blocks < 2 ^ 32) w.same (word-fits 0 bytes are);
    }

-- a database that is dropped

pub record DropIsKnown (gone : DatabaseDrop) : Type 0 where
  pub number : gone.database < 2 ^ 32
  pub some : gone.database ≢ 0

word_read : (bytes : List ℕ) (read : Read ℕ) → AreBytes bytes → word bytes ≡ Some read → read.value < 2 ^ 32
unfolding word
word_read bytes read are is =
    let w = whole_is 4 bytes _ read is in
    subst (λ (r : Read ℕ). r.value < 2 ^ 32) w.same (word-fits 0 bytes are)

drop_same : (a b : DatabaseDrop) → Some a ≡ Some b → a ≡ b
drop_same a b e = cc

drop_number : (bytes : List ℕ) (gone : DatabaseDrop) → AreBytes bytes → database_drop_of bytes ≡ Some gone → gone.database < 2 ^ 32
drop_number bytes gone are read =
    let first = given_some (word bytes) (λ number rest. given (item_list 4 u32_at rest) (λ spaces rest. Some record { database = number; spaces = spaces })) gone read in
    let next = given_some (item_list 4 u32_at first.read.rest) (λ spaces rest. Some record { database = first.read.value; spaces = spaces }) gone first.next in
    subst (λ (g : DatabaseDrop). g.database < 2 ^ 32) (drop_same (record { database = first.read.value; spaces = next.read.value }) gone next.next) (word_read bytes first.read are first.is)

not_zero : (n : ℕ) → is_known_database n ≡ true → n ≢ 0
not_zero n h e = grind (arith, nat_tests, h, e)

pub drop-known : (bytes : List ℕ) (gone : DatabaseDrop) → AreBytes bytes → takes_drop (drop_prefix_of bytes) ≡ true → database_drop_of bytes ≡ Some gone → DropIsKnown gone
drop-known bytes gone are takes read =
    let there : takes_drop (dropped_there gone) ≡ true = sym (ap takes_drop (drops bytes gone read)) ∙ takes in
    record {
      number = drop_number bytes gone are read;
      some = not_zero gone.database (and-parts (is_known_database gone.database) (list_all is_known_space gone.spaces) there).0;
    }

-- A commit or an abort that is written is read again.
use Rattle.std.proofs.Common.{Bool, true, false, not, cond, ◌≡◌, ◌<◌, ◌+◌, ◌^◌, ◌++◌, ◌||◌, ℕ, List, [], ◌∷◌, suc, length, drop, take, Option, Some, None, refl, ◌∙◌, ap, sym, arith, append_assoc, length-append}
use Rattle.std.specs.Prelude.{is_some, nat_lt, option_and_then, if◌then◌else◌}
use Rattle.std.specs.List.{AllByRecursion, list_any, position, position_or_len}
use Rattle.std.proofs.lemmas.Bool.{lt-ltb}
use Rattle.std.proofs.lemmas.List.{drop_at, take_at}
use Rattle.layout.specs.declared.value.Value.TheVariants.{Word, Long, Signed}
use Rattle.layout.specs.Readers.{u32_at}
use Rattle.layout.specs.Writing.{value_bytes}
use Rattle.layout.proofs.PutLemmas.{length-value_bytes}
use Rattle.block_refs.specs.Bits.{has_bits}
use Rattle.block_refs.specs.declared.names.RelName.{RelName}
use Rattle.record_layouts.specs.declared.bytes.Read.{Read}
use Rattle.record_layouts.specs.declared.end.TransactionEnd.{TransactionEnd}
use Rattle.record_layouts.specs.declared.end_parts.DatabaseName.{DatabaseName}
use Rattle.record_layouts.specs.declared.end_parts.Origin.{Origin}
use Rattle.record_layouts.specs.declared.end_parts.Outcome.{Outcome}
use Rattle.record_layouts.specs.declared.end_parts.Outcome.TheVariants.{Commit, Abort}
use Rattle.record_layouts.specs.declared.end_parts.Prepared.{Prepared}
use Rattle.record_layouts.specs.declared.kinds.Message.{Message}
use Rattle.record_layouts.specs.declared.kinds.StatsItem.{StatsItem}
use Rattle.record_layouts.specs.Fields.{given, is_zero, relation, text, text_to}
use Rattle.record_layouts.specs.Items.{item_list, message, stats_item}
use Rattle.record_layouts.specs.EndParts.{database, gid_part, list_part, messages_part, origin, prepared}
use Rattle.record_layouts.specs.End.{end_of}
use Rattle.record_layouts.specs.Spelling.{word_bytes, rel_bytes, stats_bytes, list_bytes, listed, if_there, database_bytes, gid_bytes, prepared_bytes, origin_bytes, message_flags, end_then, IsWord, IsRel, IsStats, IsMessage, IsListed, IsThere, OfSome, IsDatabase, IsGid, IsPrepared, IsOrigin, IsEnd}
use Rattle.record_layouts.proofs.SpellingLemmas.{Writes, word_in, word_again, long_again, signed_again, list_again}

-- three words, wherever they stand
word_len : (n : ℕ) → IsWord n → length (word_bytes n) ≡ 4
word_len n fits = length-value_bytes (Word n) fits

three_len : (a b c : ℕ) → IsWord a → IsWord b → IsWord c → length (word_bytes a ++ (word_bytes b ++ word_bytes c)) ≡ 12
three_len a b c fa fb fc = omega (arith, length-append (word_bytes a) (word_bytes b ++ word_bytes c), length-append (word_bytes b) (word_bytes c), word_len a fa, word_len b fb, word_len c fc)

-- a word behind others of which so many are the item's own
word_behind : (n : ℕ) (before front after bytes : List ℕ) (at : ℕ) → IsWord n → bytes ≡ (before ++ front) ++ (word_bytes n ++ after) → length front ≡ at → u32_at (length before + at) bytes ≡ n
word_behind n before front after bytes at fits e len =
    ap (λ (k : ℕ). u32_at k bytes) (ap (λ (k : ℕ). length before + k) (sym len) ∙ sym (length-append before front))
    ∙ ap (u32_at (length (before ++ front))) e ∙ word_in n (before ++ front) after fits

record Three (a b c : ℕ) (before bytes : List ℕ) : Type 0 where
  first : u32_at (length before) bytes ≡ a
  second : u32_at (length before + 4) bytes ≡ b
  third : u32_at (length before + 8) bytes ≡ c

three_in : (a b c : ℕ) (before after : List ℕ) → IsWord a → IsWord b → IsWord c → Three a b c before (before ++ ((word_bytes a ++ (word_bytes b ++ word_bytes c)) ++ after))
three_in a b c before after fa fb fc =
    let bytes : List ℕ = before ++ ((word_bytes a ++ (word_bytes b ++ word_bytes c)) ++ after) in
    let e0 : bytes ≡ before ++ (word_bytes a ++ ((word_bytes b ++ word_bytes c) ++ after)) = simp append_assoc in
    let e1 : bytes ≡ (before ++ word_bytes a) ++ (word_bytes b ++ (word_bytes c ++ after)) = simp append_assoc in
    let e2 : bytes ≡ (before ++ (word_bytes a ++ word_bytes b)) ++ (word_bytes c ++ after) = simp append_assoc in
    let eight : length (word_bytes a ++ word_bytes b) ≡ 8 = omega (arith, length-append (word_bytes a) (word_bytes b), word_len a fa, word_len b fb) in
    record {
      first = ap (u32_at (length before)) e0 ∙ word_in a before ((word_bytes b ++ word_bytes c) ++ after) fa;
      second = word_behind b before (word_bytes a) (word_bytes c ++ after) bytes 4 fb e1 (word_len a fa);
      third = word_behind c before (word_bytes a ++ word_bytes b) after bytes 8 fc e2 eight;
    }

-- each kind of item
word_written : (n : ℕ) → IsWord n → Writes 4 u32_at word_bytes n
word_written n fits = record { len = word_len n fits; again = λ before after. word_in n before after fits }

rel_written : (rel : RelName) → IsRel rel → Writes 12 relation rel_bytes rel
rel_written rel fits = record {
  len = three_len rel.space rel.database rel.relation fits.0 fits.1 fits.2;
  again = λ before after. let t = three_in rel.space rel.database rel.relation before after fits.0 fits.1 fits.2 in rw (t.first, t.second, t.third) refl;
}

stats_written : (item : StatsItem) → IsStats item → Writes 12 stats_item stats_bytes item
stats_written item fits = record {
  len = three_len item.kind item.database item.object fits.0 fits.1 fits.2;
  again = λ before after. let t = three_in item.kind item.database item.object before after fits.0 fits.1 fits.2 in rw (t.first, t.second, t.third) refl;
}

message_written : (m : Message) → IsMessage m → Writes 16 message (λ (x : Message). x.bytes) m
message_written m fits = record {
  len = fits;
  again = λ before after. rw (drop_at before (m.bytes ++ after) (length before) refl, take_at m.bytes after 16 fits) refl;
}

all_written : {A : Type 0} (size : ℕ) (item : ℕ → List ℕ → A) (f : A → List ℕ) (IsItem : A → Type 0) → ((x : A) → IsItem x → Writes size item f x) → (xs : List A) → AllByRecursion IsItem xs → AllByRecursion (Writes size item f) xs
all_written size item f IsItem each [] all = tt
all_written size item f IsItem each (x ∷ xs) all = (each x all.0, all_written size item f IsItem each xs all.1)

-- a list that the flags announce or leave out
listed_by : {A : Type 0} (flag : Bool) (size : ℕ) (item : ℕ → List ℕ → A) (f : A → List ℕ) (xs : List A) (rest : List ℕ) → length xs < 2 ^ 31 → AllByRecursion (Writes size item f) xs → (flag ≡ false → xs ≡ [])
    → (if flag then item_list size item ((if flag then list_bytes f xs else []) ++ rest) else Some record { value = []; rest = (if flag then list_bytes f xs else []) ++ rest }) ≡ Some record { value = xs; rest = rest }
listed_by true size item f xs rest few each none = list_again size item f xs rest few each
listed_by false size item f xs rest few each none = rw (none refl) refl

pub listed_again : {A : Type 0} (xinfo bit size : ℕ) (item : ℕ → List ℕ → A) (f : A → List ℕ) (IsItem : A → Type 0) (xs : List A) (rest : List ℕ) → ((x : A) → IsItem x → Writes size item f x) → IsListed xinfo bit IsItem xs → list_part xinfo bit size item (listed xinfo bit f xs ++ rest) ≡ Some record { value = xs; rest = rest }
listed_again xinfo bit size item f IsItem xs rest each is =
    listed_by (has_bits xinfo bit) size item f xs rest is.few (all_written size item f IsItem each xs is.each) is.none

-- a part that may be missing
there_by : {A : Type 0} (flag : Bool) (IsPart : A → Type 0) (read : List ℕ → Option (Read (Option A))) (f : A → List ℕ) (value : Option A) (rest : List ℕ) → flag ≡ is_some value → OfSome IsPart value
    → ((x : A) → IsPart x → read (f x ++ rest) ≡ Some record { value = Some x; rest = rest })
    → (if flag then read (if_there f value ++ rest) else Some record { value = None; rest = if_there f value ++ rest }) ≡ Some record { value = value; rest = rest }
there_by true IsPart read f None rest e is again = absurd cc
there_by false IsPart read f None rest e is again = refl
there_by true IsPart read f (Some x) rest e is again = again x is
there_by false IsPart read f (Some x) rest e is again = absurd cc

database_again : (name : DatabaseName) (rest : List ℕ) → IsDatabase name → database (database_bytes name ++ rest) ≡ Some record { value = Some name; rest = rest }
unfolding database
database_again name rest is =
    rw (append_assoc (word_bytes name.database) (word_bytes name.space) rest, word_again name.database (word_bytes name.space ++ rest) is.0, word_again name.space rest is.1) refl

origin_again : (from : Origin) (rest : List ℕ) → IsOrigin from → origin (origin_bytes from ++ rest) ≡ Some record { value = Some from; rest = rest }
unfolding origin
origin_again from rest is =
    rw (append_assoc (value_bytes (Long from.lsn.0)) (value_bytes (Signed from.time)) rest, long_again from.lsn.0 (value_bytes (Signed from.time) ++ rest) is.0, signed_again from.time rest is.1) refl

-- a name ends at the first zero
zero_step : (is : Bool) (m n : ℕ) (gid : List ℕ) → (is || list_any is_zero gid) ≡ false → m ≡ n → cond (not is) (1 + m) 0 ≡ suc n
zero_step true m n gid none e = absurd cc
zero_step false m n gid none e = omega (arith, e)

later : (is : Bool) (gid : List ℕ) → (is || list_any is_zero gid) ≡ false → IsGid gid
later true gid none = absurd cc
later false gid none = none

zero_behind : (gid rest : List ℕ) → IsGid gid → position_or_len is_zero (gid ++ (0 ∷ rest)) ≡ length gid
zero_behind [] rest is = refl
zero_behind (c ∷ gid) rest is = zero_step (is_zero c) (position_or_len is_zero (gid ++ (0 ∷ rest))) (length gid) gid is (zero_behind gid rest (later (is_zero c) gid is))

zero_at : (gid rest : List ℕ) → IsGid gid → position is_zero (gid ++ (0 ∷ rest)) ≡ Some (length gid)
zero_at gid rest is =
    let place = zero_behind gid rest is in
    let within : length gid < length (gid ++ (0 ∷ rest)) = omega (arith, length-append gid (0 ∷ rest)) in
    ap (λ (n : ℕ). cond (nat_lt n (length (gid ++ (0 ∷ rest)))) (Some n) None) place ∙ rw (lt-ltb (length gid) (length (gid ++ (0 ∷ rest))) within) refl

text_again : (gid rest : List ℕ) → IsGid gid → text (gid_bytes gid ++ rest) ≡ Some record { value = gid; rest = rest }
unfolding text
text_again gid rest is =
    let bytes : List ℕ = gid_bytes gid ++ rest in
    let same : bytes ≡ gid ++ (0 ∷ rest) = append_assoc gid (0 ∷ []) rest in
    let at : position is_zero bytes ≡ Some (length gid) = ap (λ (xs : List ℕ). position is_zero xs) same ∙ zero_at gid rest is in
    let front : take (length gid) bytes ≡ gid = ap (λ (xs : List ℕ). take (length gid) xs) same ∙ take_at gid (0 ∷ rest) (length gid) refl in
    let behind : drop (length gid + 1) bytes ≡ rest = drop_at (gid ++ (0 ∷ [])) rest (length gid + 1) (length-append gid (0 ∷ [])) in
    ap (λ (p : Option ℕ). option_and_then (text_to bytes) p) at ∙ rw (front, behind) refl

gid_again : (xinfo : ℕ) (gid : Option (List ℕ)) (rest : List ℕ) → IsThere xinfo 0x80 IsGid gid → gid_part xinfo (if_there gid_bytes gid ++ rest) ≡ Some record { value = gid; rest = rest }
unfolding gid_part
gid_again xinfo gid rest is =
    there_by (has_bits xinfo 0x80) IsGid (λ (bytes : List ℕ). given (text bytes) (λ (name : List ℕ) (behind : List ℕ). Some record { value = Some name; rest = behind })) gid_bytes gid rest is.flag is.it
    (λ name it. rw (text_again name rest it) refl)

prepared_again : (xinfo : ℕ) (it : Prepared) (rest : List ℕ) → IsPrepared xinfo it → prepared xinfo (prepared_bytes it ++ rest) ≡ Some record { value = Some it; rest = rest }
unfolding prepared
prepared_again xinfo it rest is =
    rw (append_assoc (word_bytes it.xid) (if_there gid_bytes it.gid) rest, word_again it.xid (if_there gid_bytes it.gid ++ rest) is.0, gid_again xinfo it.gid rest is.1) refl

messages_again : (outcome : Outcome) (xinfo : ℕ) (xs : List Message) (rest : List ℕ) → IsListed (message_flags outcome xinfo) 0x08 IsMessage xs → messages_part outcome xinfo (listed (message_flags outcome xinfo) 0x08 (λ (x : Message). x.bytes) xs ++ rest) ≡ Some record { value = xs; rest = rest }
messages_again Commit xinfo xs rest is = listed_again xinfo 0x08 16 message (λ (x : Message). x.bytes) IsMessage xs rest message_written is
messages_again Abort xinfo xs rest is = rw (is.none refl) refl

pub end_again : (outcome : Outcome) (end : TransactionEnd) (rest : List ℕ) → IsEnd outcome end → end_of outcome true (end_then outcome end rest) ≡ Some end
unfolding end_of
end_again outcome end rest is =
    let r9 : List ℕ = if_there origin_bytes end.origin ++ rest in
    let r8 : List ℕ = if_there prepared_bytes end.prepared ++ r9 in
    let r7 : List ℕ = listed (message_flags outcome end.xinfo) 0x08 (λ (x : Message). x.bytes) end.messages ++ r8 in
    let r6 : List ℕ = listed end.xinfo 0x100 stats_bytes end.stats ++ r7 in
    let r5 : List ℕ = listed end.xinfo 0x04 rel_bytes end.dropped ++ r6 in
    let r4 : List ℕ = listed end.xinfo 0x02 word_bytes end.subxacts ++ r5 in
    let r3 : List ℕ = if_there database_bytes end.database ++ r4 in
    let r2 : List ℕ = word_bytes end.xinfo ++ r3 in
    rw (signed_again end.time r2 is.time) (
    rw (word_again end.xinfo r3 is.xinfo) (
    rw (there_by (has_bits end.xinfo 0x01) IsDatabase database database_bytes end.database r4 is.database.flag is.database.it (λ x it. database_again x r4 it)) (
    rw (listed_again end.xinfo 0x02 4 u32_at word_bytes IsWord end.subxacts r5 word_written is.subxacts) (
    rw (listed_again end.xinfo 0x04 12 relation rel_bytes IsRel end.dropped r6 rel_written is.dropped) (
    rw (listed_again end.xinfo 0x100 12 stats_item stats_bytes IsStats end.stats r7 stats_written is.stats) (
    rw (messages_again outcome end.xinfo end.messages r8 is.messages) (
    rw (there_by (has_bits end.xinfo 0x10) (IsPrepared end.xinfo) (prepared end.xinfo) prepared_bytes end.prepared r9 is.prepared.flag is.prepared.it (λ x it. prepared_again end.xinfo x r9 it)) (
    rw (there_by (has_bits end.xinfo 0x20) IsOrigin origin origin_bytes end.origin rest is.origin.flag is.origin.it (λ x it. origin_again x rest it))
    refl))))))))

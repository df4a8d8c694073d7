-- Lengths of forks and reading, by which blocks are there.
use Rattle.std.proofs.Common.{◌≡◌, ◌⊎◌, ℕ, zero, suc, ◌+◌, ◌-◌, ◌*◌, ◌/◌, ◌%◌, ◌<◌, ◌≤◌, true, false, nat_lt, min, unwrap_or, List, length, take, drop, replicate, Option, None, Some, is_some, Result, Ok, Err, refl, ap, ap₂, sym, subst, ◌∙◌, inl, inr, ⊎_elim, true≢false, arith}
use Rattle.std.specs.Prelude.{if◌then◌else◌}
use Rattle.std.proofs.Math.Nat.{add-mul, lt-div-mul-add, mul-le-mul_right}
use Rattle.std.proofs.lemmas.List.{length-drop, take-append-le}
use Rattle.block_refs.specs.declared.names.BlockName.{BlockName}
use Rattle.block_refs.specs.declared.names.Fork.{Fork}
use Rattle.block_refs.specs.declared.names.RelName.{RelName}
use Rattle.cluster_tree.specs.PathValue.{PathValue}
use Rattle.cluster_tree.specs.Contents.{Contents, Entry, FolderEntry, FileEntry, LinkEntry, entry_at}
use Rattle.cluster_tree.specs.Tree.{bytes_in, bytes_at}
use Rattle.cluster_tree.specs.declared.file_fault.FileFault.{FileFault}
use Rattle.file_edits.specs.Asking.{file_asked, filled_from, read_of, read_asked, size_asked}
use Rattle.relation_files.specs.Paths.{relation_file}
use Rattle.storage_replay.specs.Lengths.{all_files, blocks_of, counted, file_size, fork_length, has_block, length_by, most_blocks}
use Rattle.storage_replay.specs.Reading.{Reading, block_from_file, block_read, found_in, page_read}
use Rattle.storage_replay.specs.declared.found.Found.TheVariants as found
use Rattle.storage_laws.specs.Forks.{HasNoGap, IsLength}
use Rattle.storage_laws.specs.LengthLaws.{reading_of}
use Rattle.storage_laws.specs.Names.{IsBlock, block_of}
use Rattle.storage_laws.specs.States.{block_in, whole_block}
use Rattle.storage_laws.proofs.EditedLemmas.{given-done}
use Rattle.storage_laws.proofs.NumberLemmas.{by_order, by_test, file-of, lt-no, lt-yes, place-of}
use Rattle.storage_laws.proofs.WholeLemmas.{whole-none, whole-there}

-- files that are counted in turn

sized : (path : PathValue) (o : Option Entry) (size : Option ℕ) (per : ℕ) → size_asked (file_asked path o) ≡ Ok size → blocks_of per size ≡ min per (length (bytes_in o) / 8192)
sized path None size per is = let none : None ≡ size = cc in ap (blocks_of per) (sym none) ∙ (let least : 0 ≡ min per 0 = omega arith in least)
sized path (Some (FolderEntry bad)) size per is = absurd cc
sized path (Some (FileEntry bytes)) size per is = let found : Some (length bytes) ≡ size = cc in ap (blocks_of per) (sym found)
sized path (Some LinkEntry) size per is = absurd cc

abbrev Present : PathValue → ℕ → RelName → Fork → Contents → ℕ → Type 0
Present root per rel fork c block = is_some (block_in root per (block_of rel fork block) c) ≡ true

abbrev Absent : PathValue → ℕ → RelName → Fork → Contents → ℕ → Type 0
Absent root per rel fork c block = block_in root per (block_of rel fork block) c ≡ None

-- what counting the files from one up to another tells
record IsCounted (root : PathValue) (per : ℕ) (rel : RelName) (fork : Fork) (c : Contents) (from to n : ℕ) : Type 0 where
  least : from * per ≤ n
  most : n ≤ to * per
  there : (block : ℕ) → from * per ≤ block → block < n → Present root per rel fork c block
  past : n < to * per → Absent root per rel fork c n

module _ (root : PathValue) (per : ℕ) (rel : RelName) (fork : Fork) (c : Contents) (some : 0 < per) where
  -- the block of a file and a place
  at_place : (file place : ℕ) → place < per → block_in root per (block_of rel fork (file * per + place)) c ≡ whole_block place (bytes_at c (relation_file root rel fork file))
  at_place file place few = ap₂ (λ p f. whole_block p (bytes_at c (relation_file root rel fork f))) (place-of per file place few) (file-of per file place few)

  present : (file block : ℕ) → file * per ≤ block → block < file * per + min per (length (bytes_at c (relation_file root rel fork file)) / 8192) → Present root per rel fork c block
  present file block l m =
      let sum : block ≡ file * per + (block - file * per) = omega (arith, l) in
      ap (λ b. is_some (block_in root per (block_of rel fork b) c)) sum
      ∙ ap is_some (at_place file (block - file * per) (omega (arith, l, m)) ∙ whole-there (block - file * per) (bytes_at c (relation_file root rel fork file)) (omega (arith, l, m)))

  absent : (file blocks : ℕ) → blocks ≡ min per (length (bytes_at c (relation_file root rel fork file)) / 8192) → blocks < per → Absent root per rel fork c (file * per + blocks)
  absent file blocks is few = at_place file blocks few ∙ whole-none blocks (bytes_at c (relation_file root rel fork file)) (omega (arith, is, few))

  size_of_file : (file : ℕ) (size : Option ℕ) → file_size root rel fork c file ≡ Ok size → blocks_of per size ≡ min per (length (bytes_at c (relation_file root rel fork file)) / 8192)
  size_of_file file size asked = sized (relation_file root rel fork file) (entry_at c (relation_file root rel fork file)) size per asked

  counted-is : (count file to n : ℕ) → to ≡ file + count → counted (file_size root rel fork c) per count file ≡ Ok n → IsCounted root per rel fork c file to n
  unfolding counted
  counted-is zero file to n sum made =
      let end : file * per ≡ n = cc in
      let same : to * per ≡ file * per = ap (λ k. k * per) (let t : to ≡ file = omega (arith, sum) in t) in
      record { least = omega (arith, end); most = omega (arith, end, same); there = λ block l m. absurd (omega (arith, l, m, end)); past = λ l. absurd (omega (arith, l, end, same)) }
  counted-is (suc count) file to n sum made =
      let two = given-done (file_size root rel fork c file) (λ size. if nat_lt (blocks_of per size) per then Ok (file * per + blocks_of per size) else counted (file_size root rel fork c) per count (file + 1)) n made in
      let blocks = size_of_file file two.0 two.1 in
      let next : (file + 1) * per ≡ file * per + 1 * per = add-mul file 1 per in
      by_order (blocks_of per two.0) per
      (λ few.
      let both : Ok (file * per + blocks_of per two.0) ≡ Ok n = sym (ap (λ t. if t then Ok (file * per + blocks_of per two.0) else counted (file_size root rel fork c) per count (file + 1)) (lt-yes (blocks_of per two.0) per few)) ∙ two.2 in
      let end : file * per + blocks_of per two.0 ≡ n = cc in
      let within : (file + 1) * per ≤ to * per = mul-le-mul_right per (omega (arith, sum)) in
      record {
        least = omega (arith, end);
        most = omega (arith, end, few, next, within);
        there = λ block l m. present file block l (omega (arith, m, end, blocks));
        past = λ l. subst (Absent root per rel fork c) end (absent file (blocks_of per two.0) blocks few);
      })
      (λ full.
      let rest = counted-is count (file + 1) to n (omega (arith, sum)) (sym (ap (λ t. if t then Ok (file * per + blocks_of per two.0) else counted (file_size root rel fork c) per count (file + 1)) (lt-no (blocks_of per two.0) per full)) ∙ two.2) in
      record {
        least = omega (arith, rest.least, next);
        most = rest.most;
        there = λ block l m. by_order block ((file + 1) * per) (λ here. present file block l (omega (arith, here, next, blocks, full))) (λ behind. rest.there block behind m);
        past = rest.past;
      })

  -- the length of a fork

  all_enough : most_blocks < all_files per * per
  all_enough =
      let past : most_blocks < most_blocks / per * per + per = lt-div-mul-add some in
      omega (arith, past, add-mul (most_blocks / per) 1 per)

  pub length-is : (there : Option ℕ) → fork_length root per rel fork c ≡ Ok there → IsLength root per rel fork c (unwrap_or there 0)
  length-is there made =
      let two = given-done (file_size root rel fork c 0) (length_by (file_size root rel fork c) per) there made in
      by two.0 two.1 two.2
    where
      by : (size : Option ℕ) → file_size root rel fork c 0 ≡ Ok size → length_by (file_size root rel fork c) per size ≡ Ok there → IsLength root per rel fork c (unwrap_or there 0)
      by None asked rest =
          let none : None ≡ there = cc in
          let start : 0 * per + 0 ≡ 0 = omega arith in
          let first : Absent root per rel fork c 0 = subst (Absent root per rel fork c) start (absent 0 0 (size_of_file 0 None asked) some) in
          subst (λ o. IsLength root per rel fork c (unwrap_or o 0)) none (record { most = omega arith; there = λ block l. absurd (omega (arith, l)); past = λ l. first })
      by (Some size) asked rest =
          let more = given-done (counted (file_size root rel fork c) per (all_files per) 0) (λ blocks. Ok (Some (min most_blocks blocks))) there rest in
          let said : Ok (Some (min most_blocks more.0)) ≡ Ok there = more.2 in
          let whole : Some (min most_blocks more.0) ≡ there = cc in
          let all = counted-is (all_files per) 0 (all_files per) more.0 (omega arith) more.1 in
          let enough = all_enough in
          subst (λ o. IsLength root per rel fork c (unwrap_or o 0)) whole (record {
            most = omega arith;
            there = λ block l. all.there block (omega arith) (omega (arith, l));
            past = λ l. subst (Absent root per rel fork c) (let least : more.0 ≡ min most_blocks more.0 = omega (arith, l) in least) (all.past (omega (arith, l, enough)));
          })

  -- whether a fork has a block

  has_there : (block n : ℕ) → counted (file_size root rel fork c) per (block / per + 1) 0 ≡ Ok n → nat_lt block n ≡ true → Present root per rel fork c block
  has_there block n made is =
      let all = counted-is (block / per + 1) 0 (block / per + 1) n (omega arith) made in
      by_order block n (λ l. all.there block (omega arith) l) (λ m. absurd (true≢false (sym is ∙ lt-no block n m)))

  has_none : (block n : ℕ) → counted (file_size root rel fork c) per (block / per + 1) 0 ≡ Ok n → nat_lt block n ≡ false → (n ≤ block) × Absent root per rel fork c n
  has_none block n made is =
      let all = counted-is (block / per + 1) 0 (block / per + 1) n (omega arith) made in
      let next : block < block / per * per + per = lt-div-mul-add some in
      let behind : block < (block / per + 1) * per = omega (arith, next, add-mul (block / per) 1 per) in
      by_order block n (λ l. absurd (true≢false (sym (lt-yes block n l) ∙ is))) (λ m. (m, all.past (omega (arith, m, behind))))

  pub has-block : (block : ℕ) → has_block root per rel fork block c ≡ Ok true → is_some (block_in root per (block_of rel fork block) c) ≡ true
  has-block block has =
      let two = given-done (counted (file_size root rel fork c) per (block / per + 1) 0) (λ blocks. Ok (nat_lt block blocks)) true has in
      let told : Ok (nat_lt block two.0) ≡ Ok true = two.2 in
      has_there block two.0 two.1 (let is : nat_lt block two.0 ≡ true = cc in is)

  pub has-none : (block : ℕ) → has_block root per rel fork block c ≡ Ok false → (n : ℕ) × (n ≤ block) × (block_in root per (block_of rel fork n) c ≡ None)
  has-none block has =
      let two = given-done (counted (file_size root rel fork c) per (block / per + 1) 0) (λ blocks. Ok (nat_lt block blocks)) false has in
      let told : Ok (nat_lt block two.0) ≡ Ok false = two.2 in
      let none = has_none block two.0 two.1 (let is : nat_lt block two.0 ≡ false = cc in is) in
      (two.0, none.0, none.1)

-- a block that is read

some_is : (o : Option (List ℕ)) → is_some o ≡ true → (bytes : List ℕ) × (o ≡ Some bytes)
some_is None h = absurd cc
some_is (Some bytes) h = (bytes, refl)

filled_whole : (at : ℕ) (bytes : List ℕ) → at + 8192 ≤ length bytes → filled_from at 8192 bytes ≡ take 8192 (drop at bytes)
filled_whole at bytes l = take-append-le 8192 (drop at bytes) (replicate 8192 0) (omega (arith, l, length-drop at bytes))

read_is : (o : Option Entry) (path : PathValue) (at n : ℕ) (got : List ℕ) → read_of at n (bytes_in o) (file_asked path o) ≡ Ok got → filled_from at n (bytes_in o) ≡ got
read_is None path at n got is = cc
read_is (Some (FolderEntry bad)) path at n got is = absurd cc
read_is (Some (FileEntry bytes)) path at n got is = cc
read_is (Some LinkEntry) path at n got is = absurd cc

page_is : (meant : Result (List ℕ) FileFault) (reading : Reading) → page_read meant ≡ Ok reading → (got : List ℕ) × (meant ≡ Ok got) × (reading ≡ record { found = found_in got; bytes = got })
page_is (Ok got) reading is = (got, refl, (let same : record { found = found_in got; bytes = got } ≡ reading = cc in sym same))
page_is (Err e) reading is = absurd cc

pub whole-is : (place : ℕ) (bytes : List ℕ) → is_some (whole_block place bytes) ≡ true → (place * 8192 + 8192 ≤ length bytes) × (whole_block place bytes ≡ Some (take 8192 (drop (place * 8192) bytes)))
whole-is place bytes h = by_order (length bytes) (place * 8192 + 8192)
    (λ few. absurd (true≢false (sym h ∙ ap is_some (whole-none place bytes few))))
    (λ many. (many, whole-there place bytes many))

module _ (root : PathValue) (per : ℕ) (name : BlockName) (c : Contents) (old : List ℕ) (reading : Reading) (some : 0 < per) where
  from_file : is_some (block_in root per name c) ≡ true → block_from_file root per name c ≡ Ok reading → reading ≡ reading_of old (block_in root per name c)
  from_file is made =
      let path = relation_file root name.rel name.fork (name.block / per) in
      let at = name.block % per * 8192 in
      let got = page_is (read_asked c path at 8192) reading made in
      let whole = whole-is (name.block % per) (bytes_at c path) is in
      let bytes : got.0 ≡ take 8192 (drop at (bytes_at c path)) = sym (read_is (entry_at c path) path at 8192 got.0 got.1) ∙ filled_whole at (bytes_at c path) whole.0 in
      got.2 ∙ ap (λ b. reading_of old (Some b)) bytes ∙ ap (reading_of old) (sym whole.1)

  pub read-is : block_read root per name c old ≡ Ok reading → (reading ≡ reading_of old (block_in root per name c)) ⊎ ((reading ≡ reading_of old None) × ((block : ℕ) × (block < name.block) × (block_in root per (block_of name.rel name.fork block) c ≡ None)))
  unfolding block_read
  read-is made =
      let two = given-done (has_block root per name.rel name.fork name.block c) (λ there. if there then block_from_file root per name c else Ok (record { found = found.Absent; bytes = old })) reading made in
      let has = given-done (counted (file_size root name.rel name.fork c) per (name.block / per + 1) 0) (λ blocks. Ok (nat_lt name.block blocks)) two.0 two.1 in
      let asked : Ok (nat_lt name.block has.0) ≡ Ok two.0 = has.2 in
      let told : nat_lt name.block has.0 ≡ two.0 = cc in
      by_test (nat_lt name.block has.0)
      (λ so. inl (from_file (has_there root per name.rel name.fork c some name.block has.0 has.1 so)
      (sym (ap (λ t. if t then block_from_file root per name c else Ok (record { found = found.Absent; bytes = old })) (sym told ∙ so)) ∙ two.2)))
      (λ else_so.
      let kept : Ok (reading_of old None) ≡ Ok reading = sym (ap (λ t. if t then block_from_file root per name c else Ok (record { found = found.Absent; bytes = old })) (sym told ∙ else_so)) ∙ two.2 in
      let stays : reading_of old None ≡ reading = cc in
      let none = has_none root per name.rel name.fork c some name.block has.0 has.1 else_so in
      by_order has.0 name.block
      (λ l. inr (sym stays, (has.0, l, none.1)))
      (λ m.
      let own : has.0 ≡ name.block = omega (arith, m, none.0) in
      inl (sym stays ∙ ap (reading_of old) (sym (subst (λ b. block_in root per (block_of name.rel name.fork b) c ≡ None) own none.1)))))

-- a fork without a gap has no block past one that isn't there
pub gapless-past : (root : PathValue) (per : ℕ) (rel : RelName) (fork : Fork) (c : Contents) (block next : ℕ) → HasNoGap root per rel fork c → next < most_blocks → block ≤ next → block_in root per (block_of rel fork block) c ≡ None → block_in root per (block_of rel fork next) c ≡ None
gapless-past root per rel fork c block next gapless few l none = by_order block next
    (λ less. by_test (is_some (block_in root per (block_of rel fork next) c))
    (λ so. absurd (true≢false (sym (gapless block next less few so) ∙ ap is_some none)))
    (λ else_so. none_is (block_in root per (block_of rel fork next) c) else_so))
    (λ m. subst (λ b. block_in root per (block_of rel fork b) c ≡ None) (let same : block ≡ next = omega (arith, l, m) in same) none)
  where
    none_is : (o : Option (List ℕ)) → is_some o ≡ false → o ≡ None
    none_is None h = refl
    none_is (Some bytes) h = absurd cc

pub read-whole : (root : PathValue) (per : ℕ) (name : BlockName) (c : Contents) (old : List ℕ) (reading : Reading) → 0 < per → IsBlock name → HasNoGap root per name.rel name.fork c → block_read root per name c old ≡ Ok reading → reading ≡ reading_of old (block_in root per name c)
read-whole root per name c old reading some small gapless made = ⊎_elim (λ is. is)
    (λ none. none.0 ∙ ap (reading_of old) (sym (gapless-past root per name.rel name.fork c none.1.0 name.block gapless small.block (omega (arith, none.1.1)) none.1.2)))
    (read-is root per name c old reading some made)

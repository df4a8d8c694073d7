-- The files of a pair's logs hold bytes.
use Rattle.std.proofs.Common.{◌≡◌, ℕ, ◌+◌, ◌-◌, ◌%◌, ◌^◌, ◌<◌, Bool, true, false, true≢false, ◌&&◌, nat_lt, List, [], ◌∷◌, ◌++◌, length, map, Some, bytes_eq, codes, append_assoc, lit<, refl, ap, sym, ◌∙◌, subst, arith}
use Rattle.std.specs.Prelude.{pos, replicate}
use Rattle.std.specs.List.{AllByRecursion, flat_map, list_all}
use Rattle.std.specs.Int.{w64, cast_unsigned}
use Rattle.std.proofs.lemmas.Bool.Decides.{nat_tests}
use Rattle.byteorder.specs.Endian.{little_bytes}
use Rattle.cluster_tree.specs.Contents.{Entry, FileEntry, FolderEntry, entry_at}
use Rattle.cluster_tree.specs.PathValue.{below, path_of}
use Rattle.control_file.specs.Rows.{checkpoint_rows}
use Rattle.control_file.specs.Writing.{checkpoint_bytes}
use Rattle.control_file.specs.declared.checkpoint.Checkpoint.{Checkpoint}
use Rattle.layout.specs.Splice.{splice}
use Rattle.layout.specs.Writing.{value_bytes}
use Rattle.reset_plan.specs.NewSegment.{checkpoint_record}
use Rattle.wal_records.specs.Writer.{NewRecord, in_pages, written}
use Rattle.pair_maker.specs.Clusters.{copy_entries}
use Rattle.pair_maker.specs.Files.{history_bytes, segment_bytes}
use Rattle.pair_maker.specs.Inserts.{insert_blocks, insert_record}
use Rattle.pair_maker.proofs.BlockLemmas.{body-is, laid_body}
use Rattle.pair_maker.specs.Logs.{common_checkpoint, common_place, last_checkpoint, last_place, made_at, origin_of, records_of, records_upto}
use Rattle.pair_maker.specs.declared.side.Side.{Side}
use Rattle.pair_maker.specs.declared.side.Side.TheVariants.{Source, Target}
use Rattle.pair_laws.specs.Bytes.{CopyLogIsBytes}
use Rattle.pair_laws.proofs.BytesLemmas.{IsSmallRecord, Small, are-bytes, little-small, small-both, small-map, small-zeros, written-small}
use Rattle.pair_laws.proofs.NamedLemmas.{AllNamed, named-all}

-- ---- the records

-- bytes that a test finds to be so
tested : (xs : List ℕ) → list_all (λ b. nat_lt b 256) xs ≡ true → Small xs
tested [] e = tt
tested (x ∷ xs) e = (below x (front (nat_lt x 256) (list_all (λ b. nat_lt b 256) xs) e), tested xs (back (nat_lt x 256) (list_all (λ b. nat_lt b 256) xs) e))
  where
    front : (a b : Bool) → (a && b) ≡ true → a ≡ true
    front true b e = refl
    front false b e = absurd (true≢false (sym e))

    back : (a b : Bool) → (a && b) ≡ true → b ≡ true
    back true b e = e
    back false b e = absurd (true≢false (sym e))

    below : (n : ℕ) → nat_lt n 256 ≡ true → n < 256
    below n e = grind (arith, nat_tests, e)

insert-small : (seed block : ℕ) → IsSmallRecord (insert_record seed block)
insert-small seed block =
    let front : List ℕ = 0 ∷ 0x20 ∷ 10 ∷ 0 ∷ 127 ∷ 6 ∷ 0 ∷ 0 ∷ 5 ∷ 0 ∷ 0 ∷ 0 ∷ 0 ∷ 64 ∷ 0 ∷ 0 ∷ [] in
    let middle : List ℕ = 255 ∷ 3 ∷ 1 ∷ 0 ∷ 0 ∷ 8 ∷ 24 ∷ 0 ∷ [] in
    let number : List ℕ = little_bytes 4 block in
    let value : List ℕ = little_bytes 4 ((block + seed) % 2 ^ 32) in
    record {
      info = lit< tt;
      manager = lit< tt;
      body =
          subst Small (body-is seed block (laid_body seed block) refl)
          (small-both (((front ++ number) ++ middle) ++ value) (1 ∷ 0 ∷ 0 ∷ [])
          (small-both ((front ++ number) ++ middle) value
          (small-both (front ++ number) middle (small-both front number (tested front refl) (little-small 4 block)) (tested middle refl)) (little-small 4 ((block + seed) % 2 ^ 32)))
          (tested (1 ∷ 0 ∷ 0 ∷ []) refl));
    }

-- a checkpoint that differs in its redo, its timeline and its next transaction, by its numbers
abbrev checkpoint_with : (place tli xid : ℕ) → Checkpoint
checkpoint_with place tli xid = record common_checkpoint { redo = place; tli = tli; nextXid = xid }

abbrev words : List ℕ → List ℕ
words numbers = flat_map (little_bytes 4) numbers

abbrev moment : List ℕ
moment = little_bytes 8 (cast_unsigned w64 (pos made_at))

abbrev laid_checkpoint : (place tli xid : ℕ) → List ℕ
laid_checkpoint place tli xid =
    little_bytes 8 place ++ (words (tli ∷ 1 ∷ 1 ∷ 0 ∷ []) ++ (little_bytes 8 xid ++ (words (16385 ∷ 1 ∷ 0 ∷ 700 ∷ 1 ∷ 1 ∷ 1 ∷ 0 ∷ []) ++ (moment ++ words (0 ∷ 0 ∷ 0 ∷ 0 ∷ [])))))

checkpoint-is : (place tli xid : ℕ) → laid_checkpoint place tli xid ≡ checkpoint_bytes (checkpoint_with place tli xid)
unfolding checkpoint_bytes checkpoint_rows value_bytes splice
checkpoint-is place tli xid = refl

words-small : (numbers : List ℕ) → Small (words numbers)
words-small numbers = small-map (little_bytes 4) (little-small 4) numbers

laid-small : (place tli xid : ℕ) → Small (laid_checkpoint place tli xid)
laid-small place tli xid =
    let d : List ℕ = moment ++ words (0 ∷ 0 ∷ 0 ∷ 0 ∷ []) in
    let c : List ℕ = words (16385 ∷ 1 ∷ 0 ∷ 700 ∷ 1 ∷ 1 ∷ 1 ∷ 0 ∷ []) ++ d in
    let b : List ℕ = little_bytes 8 xid ++ c in
    small-both (little_bytes 8 place) (words (tli ∷ 1 ∷ 1 ∷ 0 ∷ []) ++ b) (little-small 8 place)
    (small-both (words (tli ∷ 1 ∷ 1 ∷ 0 ∷ [])) b (words-small (tli ∷ 1 ∷ 1 ∷ 0 ∷ []))
    (small-both (little_bytes 8 xid) c (little-small 8 xid)
    (small-both (words (16385 ∷ 1 ∷ 0 ∷ 700 ∷ 1 ∷ 1 ∷ 1 ∷ 0 ∷ [])) d (words-small (16385 ∷ 1 ∷ 0 ∷ 700 ∷ 1 ∷ 1 ∷ 1 ∷ 0 ∷ []))
    (small-both moment (words (0 ∷ 0 ∷ 0 ∷ 0 ∷ [])) (little-small 8 (cast_unsigned w64 (pos made_at))) (words-small (0 ∷ 0 ∷ 0 ∷ 0 ∷ []))))))

checkpoint-small : (place tli xid : ℕ) → IsSmallRecord (checkpoint_record (checkpoint_with place tli xid))
unfolding checkpoint_record
checkpoint-small place tli xid = record { info = lit< tt; manager = lit< tt; body = (lit< tt, (lit< tt, subst Small (checkpoint-is place tli xid) (laid-small place tli xid))) }

last-small : (side : Side) (place : ℕ) → IsSmallRecord (checkpoint_record (last_checkpoint side place))
last-small Target place = checkpoint-small place 1 701
last-small Source place = checkpoint-small place 2 701

inserts-small : (seed : ℕ) (blocks : List ℕ) → AllByRecursion IsSmallRecord (map (insert_record seed) blocks)
inserts-small seed [] = tt
inserts-small seed (b ∷ blocks) = (insert-small seed b, inserts-small seed blocks)

all-both : (xs ys : List NewRecord) → AllByRecursion IsSmallRecord xs → AllByRecursion IsSmallRecord ys → AllByRecursion IsSmallRecord (xs ++ ys)
all-both [] ys a b = b
all-both (x ∷ xs) ys a b = (a.0, all-both xs ys a.1 b)

records-small : (side : Side) (seed blocks : ℕ) → AllByRecursion IsSmallRecord (records_of side seed blocks)
records-small side seed blocks =
    all-both (records_upto side seed blocks) (checkpoint_record (last_checkpoint side (last_place side seed blocks)) ∷ [])
    (checkpoint-small common_place 1 700, inserts-small seed (insert_blocks side seed blocks)) (last-small side (last_place side seed blocks), tt)

segment-small : (side : Side) (records : List NewRecord) → AllByRecursion IsSmallRecord records → Small (segment_bytes side records)
unfolding segment_bytes
segment-small side records all =
    let bytes : List ℕ = in_pages (written (origin_of side) records).bytes in
    small-both bytes (replicate (0x10_0000 - length bytes) 0) (written-small (origin_of side) records all) (small-zeros (0x10_0000 - length bytes))

-- ---- the files

-- the name of a file in the folder of the log
abbrev is_log : List (List ℕ) → Bool
is_log [] = false
is_log (folder ∷ []) = false
is_log (folder ∷ name ∷ []) = bytes_eq folder (codes "pg_wal")
is_log (folder ∷ name ∷ more ∷ rest) = false

record HasBytes (parts : List (List ℕ)) (e : Entry) : Type 0 where
  all : is_log parts ≡ true → (bytes : List ℕ) → e ≡ FileEntry bytes → Small bytes

no-log : (parts : List (List ℕ)) (e : Entry) → is_log parts ≡ false → HasBytes parts e
no-log parts e other = record { all = λ h bytes is. absurd (true≢false (sym h ∙ other)) }

a-file : (parts : List (List ℕ)) (own : List ℕ) → Small own → HasBytes parts (FileEntry own)
a-file parts own holds = record { all = λ h bytes is. let same : own ≡ bytes = cc is in subst Small same holds }

a-folder : (parts : List (List ℕ)) → HasBytes parts (FolderEntry false)
a-folder parts = record { all = λ h bytes is. absurd (cc is) }

copy-have : (seed blocks : ℕ) → AllNamed HasBytes (copy_entries seed blocks)
copy-have seed blocks = (
  a-folder _,
  (
    a-folder _,
    (
      a-folder _,
      (
        a-folder _,
        (
          a-folder _,
          (
            no-log _ _ refl,
            (
              no-log _ _ refl,
              (
                no-log _ _ refl,
                (
                  a-file _ _ (segment-small Target (checkpoint_record common_checkpoint ∷ []) (checkpoint-small common_place 1 700, tt)),
                  (
                    a-file _ _ (tested history_bytes refl),
                    (
                      a-file _ _ (segment-small Source (records_of Source seed blocks) (records-small Source seed blocks)),
                      (no-log _ _ refl, (no-log _ _ refl, tt)),
                    ),
                  ),
                ),
              ),
            ),
          ),
        ),
      ),
    ),
  ),
)

pub copy-log_bytes : CopyLogIsBytes
copy-log_bytes other seed blocks c stands name bytes there =
    let parts : List (List ℕ) = codes "pg_wal" ∷ name ∷ [] in
    let here : entry_at c (below other parts) ≡ Some (FileEntry bytes) =
    ap (λ l. entry_at c (path_of other.absolute l)) (sym (append_assoc other.parts (codes "pg_wal" ∷ []) (name ∷ []))) ∙ there in
    are-bytes bytes ((named-all HasBytes (copy_entries seed blocks) parts (copy-have seed blocks) (FileEntry bytes) (sym (stands parts) ∙ here)).all refl bytes refl)

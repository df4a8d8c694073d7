-- What a survey finds in the log of a pair's target: its end, the common checkpoint, and the records from there on.
use Rattle.std.proofs.Common.{◌≡◌, ℕ, ◌+◌, ◌%◌, ◌<◌, ◌≤◌, ◌^◌, max, List, [], ◌∷◌, ◌++◌, length, map, Option, None, Some, Ok, Bool, true, false, ◌&&◌, nat_lt, nat_le, option_map, if◌then◌else◌, refl, sym, ap, ap₂, ◌∙◌, subst, arith, lit<, ◌==◌, eq-eqb, eqb-true, true≢false}
use Rattle.std.proofs.lemmas.Bool.Decides.{nat_tests}
use Rattle.block_refs.specs.Outcomes.{start_of, told}
use Rattle.cluster_tree.specs.Causes.{given as given_read, unless}
use Rattle.cluster_tree.specs.Contents.{Contents}
use Rattle.log_walk.specs.Back.{common_checkpoint as common_in}
use Rattle.log_walk.specs.Chain.{IsCommonCheckpoint, LinksTo}
use Rattle.log_walk.specs.Checkpoint.{checkpoint_in, checkpoint_or, is_checkpoint, parts_or}
use Rattle.log_walk.specs.First.{at_lsn, end_of_target, first_record}
use Rattle.log_walk.specs.Needed.{needed, read_refusal}
use Rattle.log_walk.proofs.ChainLemmas.{is_found}
use Rattle.rewind_survey.specs.Faults.{of_walk, walked}
use Rattle.rewind_survey.specs.Survey.{AtFork, Parted, parted, past_fork, read_from, told_of, walked_back}
use Rattle.timeline_history.specs.declared.ancestor.Divergence.{Divergence}
use Rattle.wal_base.specs.Segment.{bytes_of}
use Rattle.wal_pages.specs.declared.log_path.LogPath.{LogPath}
use Rattle.wal_records.specs.Again.{IsNew, log_records, new_log_record}
use Rattle.wal_records.specs.Extent.{behind_of, end_of}
use Rattle.wal_records.specs.Further.{Pages, further, further_in, pages_of}
use Rattle.wal_records.specs.Log.{Log, log_from, log_of}
use Rattle.wal_records.specs.Place.{place_at}
use Rattle.wal_records.specs.Reading.{LogRecord, Spelled, alone, lone, reading}
use Rattle.wal_records.specs.Sound.{AllNew}
use Rattle.wal_records.specs.Stored.{end_why}
use Rattle.wal_records.specs.Writer.{NewRecord, Written, appended, begun, end_from, link_to, record_bytes, written}
use Rattle.wal_records.specs.declared.log_origin.LogOrigin.{LogOrigin}
use Rattle.wal_records.specs.declared.why.Why.{Why}
use Rattle.wal_pages.specs.Folder.{folder_of}
use Rattle.wal_pages.specs.Header.{header_size}
use Rattle.wal_base.specs.declared.spans.Span.{Span}
use Rattle.clusters.specs.RootLog.{log_at}
use Rattle.cluster_tree.specs.PathValue.{PathValue}
use Rattle.control_file.specs.Reading.{checkpoint_of}
use Rattle.block_refs.specs.Bytes.{main_bytes}
use Rattle.record_layouts.specs.Operation.{operation_of}
use Rattle.record_layouts.specs.Xlog.{xlog_op_of}
use Rattle.wal_records.proofs.AgainLemmas.{records_again}
use Rattle.wal_records.proofs.AppendLemmas.{written_more}
use Rattle.wal_records.proofs.NextLemmas.{grown_end}
use Rattle.wal_records.proofs.PlaceLemmas.{place_at_up}
use Rattle.wal_records.proofs.WriterLemmas.{place_inside, place_of_page}
use Rattle.reset_plan.specs.NewSegment.{checkpoint_record}
use Rattle.pair_maker.specs.Files.{control_of}
use Rattle.pair_maker.specs.Inserts.{insert_blocks, insert_record}
use Rattle.pair_maker.specs.Logs.{common_checkpoint, common_place, last_checkpoint, last_place, log_upto, megabyte, origin_of, records_of, records_upto}
use Rattle.pair_maker.specs.declared.side.Side.{Side}
use Rattle.pair_maker.specs.declared.side.Side.TheVariants.{Target}
use Rattle.touched_blocks.specs.declared.named.Named.{Named}
use Rattle.pair_laws.specs.Read.{IsRead}
use Rattle.pair_laws.specs.Survey.{pair_checkpoint, pair_fork}
use Rattle.pair_laws.proofs.BodyLemmas.{checkpoint-parts, checkpoint-said, common-fits}
use Rattle.pair_laws.proofs.RecordLemmas.{AllHaveNames, given_in, new-given}
use Rattle.pair_laws.proofs.RunLemmas.{new-back, new-front, run-origin}
use Rattle.pair_laws.proofs.SmallLemmas.{checkpoint-long}
use Rattle.pair_laws.proofs.StepLemmas.{IsBehind, all-end, all-needed, grows, last-behind, log-alone, rises}

abbrev pub log_after : Side → List NewRecord → Written
log_after side records = written (origin_of side) records

-- ---- where a log goes on behind its page's header, it goes on from there

header_small : (b : Bool) → (0 < (if b then 40 else 24)) × ((if b then 40 else 24) < 8192)
header_small true = (lit< tt, lit< tt)
header_small false = (lit< tt, lit< tt)

beyond_header : (at h : ℕ) → at % 8192 ≡ 0 → 0 < h → h < 8192 → (at + h) % 8192 ≡ 0 → ⊥
beyond_header at h page some small is = omega (arith, page, some, small, is)

pub place-twice : (size at : ℕ) → place_at size (place_at size at) ≡ place_at size at
place-twice size at = by (at % 8192 == 0) refl
  where
    by : (b : Bool) → (at % 8192 == 0) ≡ b → place_at size (place_at size at) ≡ place_at size at
    by true e =
        let page : at % 8192 ≡ 0 = eqb-true (at % 8192) 0 e in
        let small = header_small (at % size == 0) in
        let is = place_of_page size at page in
        place_inside size (place_at size at) (λ z. beyond_header at (header_size size at) page small.0 small.1 (ap (λ n. n % 8192) (sym is) ∙ z))
    by false e = ap (λ n. place_at size n) (place_inside size at (λ z. true≢false (sym (eq-eqb (at % 8192) 0 z) ∙ e)))

-- ---- the common checkpoint

common : NewRecord
common = checkpoint_record common_checkpoint

body_long : length common.body ≡ 90
unfolding common checkpoint_record
body_long = let long = checkpoint-long common_checkpoint (common-fits 0) in omega (arith, long)

common_new : IsNew None common
unfolding common checkpoint_record
common_new = let long = body_long in record { xid = lit< tt; link = lit< tt; manager = λ h. absurd (omega (arith, h)); size = omega (arith, long) }

common_long : length (record_bytes None common) ≡ 114
common_long = let again = records_again None common common_new in let long = body_long in omega (arith, again.size, long)

-- its record ends where the source's timeline leaves the target's
pub common-end : (side : Side) → (log_after side (checkpoint_record common_checkpoint ∷ [])).end ≡ 0x10_00A0
unfolding written common end_from behind_of further further_in checkpoint_record
common-end side =
    grown_end (begun (origin_of side)) common
    ∙ ap₂ (λ header n. end_of 0x10_0000 header (behind_of 0x10_0000 0x10_0028 n)) (records_again None common common_new).header common_long

pub common-before : (side : Side) → (log_after side (checkpoint_record common_checkpoint ∷ [])).before ≡ Some common_place
unfolding written appended
common-before side = refl

-- what stands there, alone
pub first_log : Side → LogRecord
first_log side = new_log_record (begun (origin_of side)) (checkpoint_record common_checkpoint)

first_given : (side : Side) → first_log side ≡ given_in (begun (origin_of side)) common
unfolding first_log common
first_given side = new-given (begun (origin_of side)) common common_new

first_checkpoint : (side : Side) → is_checkpoint (first_log side) ≡ true
unfolding common checkpoint_record operation_of xlog_op_of
first_checkpoint side = ap is_checkpoint (first_given side)

first_says : (side : Side) → checkpoint_in (first_log side) ≡ Ok pair_checkpoint
unfolding common checkpoint_record checkpoint_in
first_says side =
    let g = given_in (begun (origin_of side)) common in
    ap checkpoint_in (first_given side)
    ∙ ap (λ p. given_read (parts_or (told (start_of g) p)) (λ parts. checkpoint_or g (checkpoint_of (main_bytes g.body parts)))) (checkpoint-parts common_checkpoint (common-fits 0))
    ∙ ap (λ o. checkpoint_or g o) (checkpoint-said common_checkpoint (common-fits 0))

-- ---- the first of some records and one more

record HasFirst (all : List NewRecord) : Type 0 where
  first : NewRecord
  rest : List NewRecord
  is : all ≡ first ∷ rest

has_first : (ns : List NewRecord) (x : NewRecord) → HasFirst (ns ++ x ∷ [])
has_first [] x = record { first = x; rest = []; is = refl }
has_first (n ∷ ns) x = record { first = n; rest = ns ++ x ∷ []; is = refl }

max_zero : (n : ℕ) → max n 0 ≡ n
max_zero n = omega arith

and_false : (b : Bool) → (b && false) ≡ false
and_false true = refl
and_false false = refl

-- ---- the log of a pair's target, wherever its folder is

module _ (root : PathValue) (spans : List Span) (c : Contents) (seed blocks : ℕ) (read : IsRead (pages_of (log_at root None spans megabyte) c) Target (records_of Target seed blocks)) where
  abbrev log : LogPath
  log = log_at root None spans megabyte

  abbrev pages : Pages
  pages = pages_of log c

  abbrev inserts : List NewRecord
  inserts = map (insert_record seed) (insert_blocks Target seed blocks)

  abbrev front : List NewRecord
  front = records_upto Target seed blocks

  abbrev last : NewRecord
  last = checkpoint_record (last_checkpoint Target (last_place Target seed blocks))

  abbrev all : List NewRecord
  all = records_of Target seed blocks

  abbrev start : Written
  start = begun (origin_of Target)

  abbrev end : ℕ
  end = (log_after Target all).end

  each_front : AllNew start front
  each_front = new-front front (last ∷ []) start read.each

  last_new : IsNew (log_after Target front).before last
  unfolding written
  last_new = (new-back front (last ∷ []) start read.each).0

  last_is : place_at 0x10_0000 (log_after Target front).end ≡ last_place Target seed blocks
  unfolding last_place log_upto
  last_is = refl

  end_is : end ≡ (appended (log_after Target front) last).end
  end_is = ap (λ (w : Written). w.end) (written_more (origin_of Target) front last)

  front_origin : (log_after Target front).origin ≡ origin_of Target
  unfolding written
  front_origin = run-origin front start

  last_below : last_place Target seed blocks + 24 ≤ end
  last_below =
      let size : bytes_of (log_after Target front).origin.size ≡ 0x10_0000 = ap (λ (o : LogOrigin). bytes_of o.size) front_origin in
      let up : place_at 0x10_0000 (log_after Target front).end + 24 ≤ (appended (log_after Target front) last).end =
      subst (λ n. place_at n (log_after Target front).end + 24 ≤ (appended (log_after Target front) last).end) size (rises (log_after Target front) last last_new) in
      omega (arith, up, last_is, end_is)

  fork_below : 0x10_00A0 ≤ last_place Target seed blocks
  unfolding written
  fork_below =
      let grown : (log_after Target (checkpoint_record common_checkpoint ∷ [])).end ≤ (log_after Target front).end = grows (appended start (checkpoint_record common_checkpoint)) inserts each_front.2 in
      let here = common-end Target in
      let up = place_at_up 0x10_0000 (log_after Target front).end in
      omega (arith, grown, here, up, last_is)

  pub end-low : end < 0x20_0000
  end-low = read.low

  pub place-low : last_place Target seed blocks < 2 ^ 64
  place-low = let low = read.low in let below = last_below in omega (arith, low, below)

  -- ---- where it ends

  front_behind : IsBehind (log_after Target front)
  unfolding written
  front_behind = last-behind start (checkpoint_record common_checkpoint) inserts each_front

  last_record : LogRecord
  last_record = new_log_record (log_after Target front) last

  abbrev why_ended : Why
  why_ended = end_why (log_after Target all)

  abbrev rest_of : Written → List NewRecord → Log
  rest_of w ns = record { records = log_records w ns; place = place_at 0x10_0000 end; why = why_ended }

  last_read : (before : Option ℕ) → (log_after Target front).before ≡ before → reading pages 0x10_0000 before (last_place Target seed blocks) ≡ Spelled last_record
  unfolding last_record
  last_read before is =
      subst (λ b. reading pages 0x10_0000 b (last_place Target seed blocks) ≡ Spelled (new_log_record (log_after Target front) last)) is
      (subst (λ p. reading pages 0x10_0000 (log_after Target front).before p ≡ Spelled (new_log_record (log_after Target front) last)) last_is (read.spelled front last [] refl))

  last_from : (before : Option ℕ) → (log_after Target front).before ≡ before → log_from pages 0x10_0000 before (last_place Target seed blocks) ≡ rest_of (log_after Target front) (last ∷ [])
  last_from before is =
      subst (λ b. log_from pages 0x10_0000 b (last_place Target seed blocks) ≡ rest_of (log_after Target front) (last ∷ [])) is
      (subst (λ p. log_from pages 0x10_0000 (log_after Target front).before p ≡ rest_of (log_after Target front) (last ∷ [])) last_is (read.from front (last ∷ []) refl))

  last_log : log_of pages 0x10_0000 (last_place Target seed blocks) ≡ rest_of (log_after Target front) (last ∷ [])
  last_log =
      let behind = front_behind in
      let low = place-low in
      let up = place_at_up 0x10_0000 (log_after Target front).end in
      let below : behind.start < last_place Target seed blocks = omega (arith, behind.below, up, last_is) in
      ap (λ p. log_from pages 0x10_0000 None p) (sym (ap (λ p. place_at 0x10_0000 p) last_is) ∙ place-twice 0x10_0000 (log_after Target front).end ∙ last_is)
      ∙ log-alone c log behind.start (last_place Target seed blocks) last_record below (lit< tt) low (last_read (Some behind.start) behind.is)
      ∙ last_from (Some behind.start) behind.is

  pub end-found : end_of_target pages 0x10_0000 (control_of Target seed blocks) ≡ Ok (at_lsn end)
  unfolding end_of_target
  end-found =
      ap (λ l. given_read (first_record l) (λ r. Ok (at_lsn (max r.end 0)))) last_log
      ∙ ap (λ n. Ok (at_lsn n)) (max_zero (new_log_record (log_after Target front) last).end ∙ sym (grown_end (log_after Target front) last) ∙ sym end_is)

  -- ---- the common checkpoint

  split : HasFirst (inserts ++ last ∷ [])
  split = has_first inserts last

  all_is : all ≡ (checkpoint_record common_checkpoint ∷ []) ++ split.first ∷ split.rest
  all_is = ap (λ l. checkpoint_record common_checkpoint ∷ l) split.is

  abbrev one : Written
  one = log_after Target (checkpoint_record common_checkpoint ∷ [])

  next : LogRecord
  next = new_log_record one split.first

  next_new : IsNew one.before split.first
  unfolding written
  next_new =
      (subst (λ l. AllNew (appended start (checkpoint_record common_checkpoint)) l) split.is read.each.2).0

  one_place : place_at 0x10_0000 one.end ≡ 0x10_00A0
  one_place = ap (λ n. place_at 0x10_0000 n) (common-end Target)

  next_link : next.header.prev.0 ≡ common_place
  unfolding next
  next_link = ap (λ (r : LogRecord). r.header.prev.0) (new-given one split.first next_new) ∙ ap link_to (common-before Target)

  next_start : next.start ≡ 0x10_00A0
  unfolding next written appended
  next_start = one_place

  next_read : reading pages 0x10_0000 (Some common_place) 0x10_00A0 ≡ Spelled next
  unfolding next
  next_read =
      subst (λ b. reading pages 0x10_0000 b 0x10_00A0 ≡ Spelled (new_log_record one split.first)) (common-before Target)
      (subst (λ p. reading pages 0x10_0000 one.before p ≡ Spelled (new_log_record one split.first)) one_place (read.spelled (checkpoint_record common_checkpoint ∷ []) split.first split.rest all_is))

  next_from : log_from pages 0x10_0000 (Some common_place) 0x10_00A0 ≡ rest_of one (split.first ∷ split.rest)
  next_from =
      subst (λ b. log_from pages 0x10_0000 b 0x10_00A0 ≡ rest_of one (split.first ∷ split.rest)) (common-before Target)
      (subst (λ p. log_from pages 0x10_0000 one.before p ≡ rest_of one (split.first ∷ split.rest)) one_place (read.from (checkpoint_record common_checkpoint ∷ []) (split.first ∷ split.rest) all_is))

  fork_log : log_of pages 0x10_0000 0x10_00A0 ≡ rest_of one (split.first ∷ split.rest)
  fork_log = log-alone c log common_place 0x10_00A0 next (lit< tt) (lit< tt) (lit< tt) next_read ∙ next_from

  first_read : lone pages 0x10_0000 common_place ≡ Spelled (first_log Target)
  unfolding written first_log
  first_read = ap alone (read.spelled [] (checkpoint_record common_checkpoint) (inserts ++ last ∷ []) refl)

  links : LinksTo pages 0x10_0000 0x10_00A0 next (first_log Target)
  links = record {
    passed = ap (λ n. is_checkpoint next && nat_lt n 0x10_00A0) next_start ∙ and_false (is_checkpoint next);
    link = λ z. absurd (let link = next_link in omega (arith, link, z));
    stands = ap (λ n. lone pages 0x10_0000 n) next_link ∙ first_read;
  }

  is_common_here : IsCommonCheckpoint pages 0x10_0000 0x10_00A0 pair_checkpoint
  unfolding next first_log
  is_common_here = record {
    first = new_log_record one split.first;
    rest = log_records (appended one split.first) split.rest;
    begins = ap (λ (l : Log). l.records) fork_log;
    way = first_log Target ∷ [];
    last = first_log Target;
    leads = (links, refl);
    checkpoint = first_checkpoint Target;
    below = lit< tt;
    says = first_says Target;
  }

  pub common-found : common_in pages 0x10_0000 0x10_00A0 ≡ Ok pair_checkpoint
  common-found = is_found log (folder_of c log.folder) 0x10_00A0 pair_checkpoint is_common_here

  -- ---- its records from there on

  whole_log : log_of pages 0x10_0000 common_place ≡ rest_of start all
  unfolding written
  whole_log = read.from [] all refl

  pub read-through : (fork : Divergence) (named : List (List Named)) → AllHaveNames (log_records start all) named
      → read_from pages 0x10_0000 fork end pair_checkpoint ≡ Ok (Parted (record { told = told_of fork pair_checkpoint; redo = common_place; records = log_records start all }))
  unfolding read_from written
  read-through fork named has =
      let up = place_at_up 0x10_0000 end in
      let whole = all-needed (at_lsn end) (log_records start all) named (place_at 0x10_0000 end) why_ended up (all-end start all read.each) has in
      ap (λ l. unless (option_map of_walk (read_refusal end l)) (Ok (Parted (record { told = told_of fork pair_checkpoint; redo = common_place; records = needed end l })))) whole_log
      ∙ ap₂ (λ o rs. unless (option_map of_walk o) (Ok (Parted (record { told = told_of fork pair_checkpoint; redo = common_place; records = rs })))) whole.refusal whole.needed

  past_it : nat_le end 0x10_00A0 ≡ false
  past_it = let below = last_below in let fork = fork_below in grind (arith, nat_tests)

  pub parted-found : (named : List (List Named)) → AllHaveNames (log_records start all) named
      → parted pages 0x10_0000 (control_of Target seed blocks) pair_fork ≡ Ok (Parted (record { told = told_of pair_fork pair_checkpoint; redo = common_place; records = log_records start all }))
  unfolding parted walked_back
  parted-found named has =
      ap (λ r. given_read (walked r) (past_fork pages 0x10_0000 pair_fork)) end-found
      ∙ ap (λ b. if b then Ok (AtFork pair_fork) else walked_back pages 0x10_0000 pair_fork end) past_it
      ∙ ap (λ r. given_read (walked r) (read_from pages 0x10_0000 pair_fork end)) common-found
      ∙ read-through pair_fork named has

-- The copy of a pair passes every check before a replay.
use Rattle.std.proofs.Common.{◌≡◌, ℕ, pos, ◌+◌, ◌*◌, ◌<◌, ◌≤◌, ◌^◌, cond, nat_le, true, false, [], ◌∷◌, None, Some, Ok, codes, append_assoc, lit<, refl, ap, ◌∙◌, arith}
use Rattle.std.proofs.lemmas.Bool.Decides.{nat_tests}
use Rattle.std.specs.Option.{option_map, option_map_or}
use Rattle.backup_label.proofs.LabelLemmas.{label_read}
use Rattle.backup_label.specs.Text.{places_of, label_text, start_file}
use Rattle.backup_label.specs.declared.reading.LabelPlaces.{LabelPlaces}
use Rattle.cluster_tree.specs.Causes.{first_of, given, unless}
use Rattle.cluster_tree.specs.Contents.{Contents, FileEntry, entry_at}
use Rattle.cluster_tree.specs.PathValue.{PathValue, below, kept_parts, path_of}
use Rattle.cluster_tree.specs.Tree.{file_of}
use Rattle.clusters.specs.Marks.{unfinished}
use Rattle.clusters.specs.RootControl.{at_root, control_at, control_in}
use Rattle.clusters.specs.RootHistory.{history_at, history_in, with_root}
use Rattle.clusters.specs.RootLog.{log_at}
use Rattle.clusters.specs.Roots.{history_name, history_path, path_in}
use Rattle.control_file.proofs.WritingLemmas.{control_again}
use Rattle.control_file.specs.Admission.{control_of as read_control}
use Rattle.control_file.specs.Writing.{control_bytes}
use Rattle.control_file.specs.declared.control.Control.{Control}
use Rattle.pair_maker.proofs.ControlLemmas.{rewound-holds}
use Rattle.pair_maker.specs.Files.{control_with, history_bytes, pair_label, segment_bytes}
use Rattle.pair_maker.specs.Logs.{common_place, last_checkpoint, last_place, made_at, origin_of, records_of}
use Rattle.pair_maker.specs.declared.side.Side.TheVariants.{Source}
use Rattle.replay_start.specs.Checked.{checksums_on, from_control, from_label, in_log, label_at, label_in, log_with, no_hints, start_of, with_label, with_records}
use Rattle.replay_start.specs.Faults.{told_by}
use Rattle.replay_start.specs.declared.fault.ReplayFault.TheVariants as fault
use Rattle.rewound_tree.specs.RewoundControl.{rewound_control}
use Rattle.wal_base.specs.Hex.{hex_digits, is_long_name}
use Rattle.wal_base.specs.Segment.{name_of}
use Rattle.wal_base.specs.Spans.{ended, open_span}
use Rattle.wal_base.specs.declared.spans.Span.{Span}
use Rattle.wal_pages.specs.LogBytes.{segment_of}
use Rattle.wal_records.specs.Further.{pages_of}
use Rattle.wal_records.specs.Log.{Log, log_of}
use Rattle.wal_records.specs.Stored.{IsPathOf}
use Rattle.wal_records.specs.Writer.{written}
use Rattle.pair_laws.specs.Life.{side_records}
use Rattle.pair_laws.specs.Read.{IsRead}
use Rattle.pair_laws.specs.Stands.{CopyStands}
use Rattle.pair_laws.specs.Start.{CopyStarts, copy_control, copy_log, copy_spans, copy_start}
use Rattle.pair_laws.proofs.ControlLemmas.{control-fits, size-is}
use Rattle.pair_laws.proofs.HistoryLemmas.{history-read}
use Rattle.pair_laws.proofs.ReadLemmas.{side-read}
use Rattle.pair_laws.proofs.SmallLemmas.{last_low}
use Rattle.pair_laws.proofs.TakenLemmas.{unrefused}

-- ---- the control file

abbrev control_for : ℕ → Control
control_for place = rewound_control (control_with (last_checkpoint Source place)) (pos made_at)

control-again : (place : ℕ) → place < 2 ^ 64 → read_control (control_bytes (control_for place)) ≡ Ok (control_for place)
control-again place low = control_again (control_for place) (control-fits Source place 5 place 2 low (lit< tt) low (lit< tt)) (rewound-holds Source place (control_for place) refl)

-- ---- where the log lies

no-reach : (number : ℕ) → 1 ≤ number → nat_le (number * 0x10_0000 + 0x10_0000) 0x10_00A0 ≡ false
no-reach number h = grind (arith, nat_tests, h)

tli-from : (other : PathValue) (number : ℕ) → 1 ≤ number → (segment_of (copy_log other) number).tli ≡ 2
tli-from other number h =
    ap (λ b. option_map_or (λ (span : Span). span.tli) (cond b (Some (ended (record { 0 = 0x10_00A0 }) (open_span 1 (record { 0 = 0 })))) (Some (open_span 2 (record { 0 = 0x10_00A0 })))) 0) (no-reach number h)

copy-path : (other : PathValue) → IsPathOf (copy_log other) (origin_of Source)
copy-path other = record {
  size = refl;
  timeline = lit< tt;
  later = λ number from. omega (arith, tli-from other number (omega (arith, from)));
  system = λ wanted e. cc;
}

label-name : is_long_name (start_file pair_label) ≡ true
unfolding hex_digits
label-name = refl

-- ---- what stands below the copy's root

module _ (other : PathValue) (seed blocks : ℕ) (c : Contents) (few : blocks ≤ 4096) (stands : CopyStands other seed blocks c) where
  copy-finished : unfinished c other ≡ None
  unfolding unfinished
  copy-finished =
      let one : entry_at c (below other (codes "pg_rewind.unfinished" ∷ [])) ≡ None = stands (codes "pg_rewind.unfinished" ∷ []) in
      let two : entry_at c (below other (codes "pg_walreplay.unfinished" ∷ [])) ≡ None = stands (codes "pg_walreplay.unfinished" ∷ []) in
      let three : entry_at c (below other (codes "pg_resetwal.unfinished" ∷ [])) ≡ None = stands (codes "pg_resetwal.unfinished" ∷ []) in
      rw (one, two, three) refl

  control-here : entry_at c (path_in other (codes "global/pg_control")) ≡ Some (FileEntry (control_bytes (copy_control seed blocks)))
  unfolding path_in
  control-here = stands (kept_parts (codes "global/pg_control"))

  control-said : control_at c other ≡ Ok (copy_control seed blocks)
  unfolding control_at
  control-said =
      ap (λ o. control_in other (file_of o)) control-here
      ∙ ap (λ r. at_root other r) (control-again (last_place Source seed blocks) (last_low Source seed blocks few))

  label-here : entry_at c (below other (codes "backup_label" ∷ [])) ≡ Some (FileEntry (label_text pair_label))
  label-here = stands (codes "backup_label" ∷ [])

  label-said : label_at c other ≡ Ok (places_of pair_label)
  unfolding label_at
  label-said =
      ap (λ o. label_in other (file_of o)) label-here
      ∙ ap (with_label other) (label_read pair_label (lit< tt) (lit< tt) label-name)

  history-here : entry_at c (history_path other 2) ≡ Some (FileEntry history_bytes)
  unfolding history_name hex_digits
  history-here =
      ap (λ l. entry_at c (path_of other.absolute l)) (append_assoc other.parts (codes "pg_wal" ∷ []) (history_name 2 ∷ []))
      ∙ stands (kept_parts (codes "pg_wal/00000002.history"))

  history-said : history_at c other 2 ≡ Ok copy_spans
  unfolding history_at
  history-said = ap (λ o. history_in other 2 (file_of o)) history-here ∙ ap (λ r. with_root other 2 r) history-read

  segment-here : entry_at c (below (copy_log other).folder (name_of (segment_of (copy_log other) 1) ∷ [])) ≡ Some (FileEntry (segment_bytes Source (records_of Source seed blocks)))
  unfolding hex_digits
  segment-here =
      ap (λ l. entry_at c (path_of other.absolute l)) (append_assoc other.parts (codes "pg_wal" ∷ []) (name_of (segment_of (copy_log other) 1) ∷ []))
      ∙ stands (kept_parts (codes "pg_wal/000000020000000000000001"))

  -- the copy's log is the source's
  pub copy-read : IsRead (pages_of (copy_log other) c) Source (records_of Source seed blocks)
  copy-read = side-read (copy_log other) c Source seed blocks few (copy-path other) segment-here

  all-read : (log_of (pages_of (copy_log other) c) 0x10_0000 common_place).records ≡ side_records Source seed blocks
  unfolding written
  all-read = ap (λ (l : Log). l.records) (copy-read.from [] (records_of Source seed blocks) refl)

  -- ---- the checks, one after another

  abbrev control : Control
  control = copy_control seed blocks

  abbrev label : LabelPlaces
  label = places_of pair_label

  log-passes : with_records None other control label (copy_log other) (log_of (pages_of (copy_log other) c) 0x10_0000 common_place).records ≡ Ok (copy_start other seed blocks)
  log-passes =
      ap (with_records None other control label (copy_log other)) all-read
      ∙ ap (λ o. unless o (Ok (copy_start other seed blocks))) (unrefused other seed blocks few)

  label-passes : from_label None c other control label ≡ Ok (copy_start other seed blocks)
  unfolding from_label
  label-passes =
      ap (λ h. given (told_by h) (λ spans. in_log None c other control label (log_with other control spans))) history-said
      ∙ ap (λ size. in_log None c other control label (option_map (log_at other (Some control.sysid) copy_spans) size)) size-is
      ∙ log-passes

  control-passes : from_control None c other control ≡ Ok (copy_start other seed blocks)
  unfolding from_control checksums_on no_hints first_of
  control-passes = ap (λ l. given l (from_label None c other control)) label-said ∙ label-passes

  copy-passes : start_of None c other ≡ Ok (copy_start other seed blocks)
  unfolding start_of
  copy-passes =
      ap (λ o. unless (option_map fault.Cluster o) (given (told_by (control_at c other)) (from_control None c other))) copy-finished
      ∙ ap (λ r. given (told_by r) (from_control None c other)) control-said
      ∙ control-passes

pub copy-starts : CopyStarts
copy-starts other seed blocks c few stands = copy-passes other seed blocks c few stands

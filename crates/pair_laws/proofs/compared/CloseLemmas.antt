-- What a replay of a pair's log leaves of a cluster, path by path.
use Rattle.std.proofs.Common.{◌≡◌, ◌≢◌, ℕ, ◌≤◌, List, [], ◌∷◌, length, codes, false, None, Some, Result, Ok, Err, refl, sym, ap, ◌∙◌, subst, append_assoc, arith, lit≤}
use Rattle.std.specs.Fmt.{digits}
use Rattle.std.specs.FinMap.{insert, remove}
use Rattle.block_refs.specs.declared.names.Fork.TheVariants.{Main}
use Rattle.block_replay.specs.declared.faults.RecordFault.{RecordFault}
use Rattle.cluster_laws.proofs.EndLemmas.{control_parts, label_parts, mark_parts}
use Rattle.cluster_laws.proofs.StartLemmas.{control-not_main, control-path}
use Rattle.cluster_tree.specs.Causes.{given}
use Rattle.cluster_tree.specs.Change.{all_changed}
use Rattle.cluster_tree.specs.Contents.{Contents, FileEntry, entry_at}
use Rattle.cluster_tree.specs.PathValue.{PathValue, below, kept_parts, path_of}
use Rattle.cluster_tree.specs.Tree.{bytes_at, bytes_in, written}
use Rattle.cluster_tree.proofs.ContentsLemmas.{entry-put, entry-put_other, entry-removed, entry-removed_other, written-new}
use Rattle.control_file.specs.Reading.{timeline_of}
use Rattle.control_file.specs.Writing.{control_bytes}
use Rattle.control_file.specs.declared.control.Control.{Control}
use Rattle.file_edits.proofs.EditLemmas.{same_or_other}
use Rattle.file_walk.specs.Relations.{relation_of}
use Rattle.layout.specs.Splice.{splice}
use Rattle.pair_laws.specs.Life.{side_records}
use Rattle.pair_maker.specs.Inserts.{pair_relation}
use Rattle.pair_maker.specs.declared.side.Side.TheVariants.{Source}
use Rattle.relation_files.specs.Names.{name_of}
use Rattle.relation_files.specs.Paths.{folder_parts}
use Rattle.replay_control.specs.Following.{control_left}
use Rattle.replay_core.specs.Faults.{recorded}
use Rattle.replay_core.specs.Replayed.{After, after_replay, closed, closed_or, closing, end_of, first_world, mark_text, missing_page, replayed_into}
use Rattle.replay_laws.proofs.WorldLemmas.{given-ok, not-refused}
use Rattle.replay_start.specs.Checked.{Start, start_of}
use Rattle.replay_start.specs.declared.fault.ReplayFault.{ReplayFault}
use Rattle.replay_world.specs.Records.{records_after}
use Rattle.replay_world.specs.World.{World}
use Rattle.pair_laws.proofs.compared.FineLemmas.{AreFine, IsFine, fine-put, fine-removed, nothing-left, own-parts}
use Rattle.pair_laws.proofs.compared.KeepLemmas.{HasRelation, KeepsFiles, relation_at}
use Rattle.pair_laws.proofs.compared.LogLemmas.{log-keeps}
use Rattle.pair_laws.proofs.compared.PlainLemmas.{plain-fine, relation-fine}

abbrev pub relation_parts : List (List ℕ)
relation_parts = kept_parts (codes "base/5/16384")

pub relation-path : (root : PathValue) → relation_at root ≡ below root relation_parts
unfolding digits
relation-path root = ap (λ l. path_of root.absolute l) (append_assoc root.parts (folder_parts pair_relation) (name_of 16384 Main 0 ∷ []))

-- ---- names apart

abbrev pub IsApart : List (List ℕ) → Type 0
IsApart parts = (parts ≢ control_parts) × (parts ≢ label_parts) × (parts ≢ mark_parts) × (parts ≢ relation_parts)

pub longer : (a b : List (List ℕ)) → (length a ≡ length b → ⊥) → a ≢ b
longer a b other same = other (ap length same)

control_no_label : control_parts ≢ label_parts
control_no_label = longer control_parts label_parts (λ e. let two : 2 ≡ 1 = e in omega (arith, two))

control_no_mark : control_parts ≢ mark_parts
control_no_mark = longer control_parts mark_parts (λ e. let two : 2 ≡ 1 = e in omega (arith, two))

control_no_relation : control_parts ≢ relation_parts
control_no_relation = longer control_parts relation_parts (λ e. let two : 2 ≡ 3 = e in omega (arith, two))

mark_no_relation : mark_parts ≢ relation_parts
mark_no_relation = longer mark_parts relation_parts (λ e. let two : 1 ≡ 3 = e in omega (arith, two))

pub root-apart : IsApart []
root-apart = (
  longer [] control_parts (λ e. let two : 0 ≡ 2 = e in omega (arith, two)),
  longer [] label_parts (λ e. let two : 0 ≡ 1 = e in omega (arith, two)),
  longer [] mark_parts (λ e. let two : 0 ≡ 1 = e in omega (arith, two)),
  longer [] relation_parts (λ e. let two : 0 ≡ 3 = e in omega (arith, two)),
)

mark_plain : relation_of (path_of false mark_parts) ≡ None
unfolding relation_of
mark_plain = refl

-- ---- replay

recorded_ok : (r : Result World RecordFault) (v : World) → recorded r ≡ Ok v → r ≡ Ok v
recorded_ok (Ok w) v e = let same : w ≡ v = cc in ap (λ x. Ok x) same
recorded_ok (Err f) v e = absurd cc

one_after : (a b : After) → ◌≡◌ {A = Result After ReplayFault} (Ok a) (Ok b) → a ≡ b
one_after a b e = cc

-- what a replay of the source's log leaves of a cluster whose relation has so many blocks
module _ (root : PathValue) (seed blocks : ℕ) (few : blocks ≤ 4096) (c : Contents) (s : Start) (after : After)
    (passes : start_of None c root ≡ Ok s) (log : s.records ≡ side_records Source seed blocks) (per : s.control.relseg ≡ 131072) (has : HasRelation root blocks c)
    (ends : after_replay None c root ≡ Ok after) where
  apart : {a b : List (List ℕ)} → a ≢ b → below root a ≢ below root b
  apart {a} {b} other same = other (own-parts root a b same)

  off_relation : {a : List (List ℕ)} → a ≢ relation_parts → below root a ≢ relation_at root
  off_relation other same = other (own-parts root _ relation_parts (same ∙ relation-path root))

  abbrev pub marked : Contents
  marked = insert c (below root mark_parts) (FileEntry mark_text)

  abbrev pub first : World
  first = record { files = marked; control = s.control; skipped = [] }

  first_is : first_world c root s ≡ first
  first_is = ap (λ d. record { files = d; control = s.control; skipped = [] }) (written-new c (below root mark_parts) mark_text)

  run : replayed_into None root s (first_world c root s) ≡ Ok after
  unfolding after_replay
  run = sym (ap (λ r. given r (λ t. replayed_into None root t (first_world c root t))) passes) ∙ ends

  pub record Ended : Type 0 where
    pub world : World
    pub is : records_after None root 131072 (side_records Source seed blocks) first ≡ Ok world
    pub after_is : closed root (timeline_of s.control) (length s.records) (end_of s) world ≡ after

  pub ended : Ended
  ended =
      let got = given-ok (recorded (records_after None root s.control.relseg s.records (first_world c root s))) (closed_or root (timeline_of s.control) (length s.records) (end_of s)) after run in
      let last = not-refused (missing_page got.0.skipped) (Ok (closed root (timeline_of s.control) (length s.records) (end_of s) got.0)) after got.2 in
      record {
        world = got.0;
        is =
            ap (λ w. records_after None root 131072 (side_records Source seed blocks) w) (sym first_is)
            ∙ ap (λ n. records_after None root n (side_records Source seed blocks) (first_world c root s)) (sym per)
            ∙ ap (λ rs. records_after None root s.control.relseg rs (first_world c root s)) (sym log)
            ∙ recorded_ok (records_after None root s.control.relseg s.records (first_world c root s)) got.0 got.1;
        after_is = one_after (closed root (timeline_of s.control) (length s.records) (end_of s) got.0) after last.1;
      }

  abbrev pub world : World
  world = ended.world

  abbrev pub left_control : Control
  left_control = control_left (timeline_of s.control) (end_of s) world.control

  pub control-run : (w : World) × (w.control ≡ s.control) × (records_after None root 131072 (side_records Source seed blocks) w ≡ Ok world)
  control-run = (first, refl, ended.is)

  has_first : HasRelation root blocks marked
  has_first = record {
    bytes = has.bytes;
    there = entry-put_other c (below root mark_parts) (relation_at root) (FileEntry mark_text) (λ e. off_relation mark_no_relation (sym e)) ∙ has.there;
    long = has.long;
  }

  keeps : KeepsFiles root blocks marked world.files
  keeps = log-keeps root seed blocks first world few has_first ended.is

  -- ---- behind the last record

  abbrev put : Contents
  put = insert world.files (below root control_parts) (FileEntry (splice (bytes_at world.files (below root control_parts)) 0 (control_bytes left_control)))

  abbrev unlabelled : Contents
  unlabelled = remove put (below root label_parts)

  closed_is : all_changed world.files (closing root left_control) ≡ remove unlabelled (below root mark_parts)
  closed_is = ap (λ p. remove (remove (written world.files p 0 (control_bytes left_control)) (below root label_parts)) (below root mark_parts)) (control-path root)

  files_are : after.files ≡ remove unlabelled (below root mark_parts)
  files_are = ap (λ (a : After). a.files) (sym ended.after_is) ∙ closed_is

  pub mark-gone : entry_at after.files (below root mark_parts) ≡ None
  mark-gone = ap (λ d. entry_at d (below root mark_parts)) files_are ∙ entry-removed unlabelled (below root mark_parts) ∙ nothing-left root.parts (codes "pg_walreplay.unfinished") []

  world_still : (parts : List (List ℕ)) → parts ≢ mark_parts → parts ≢ relation_parts → entry_at world.files (below root parts) ≡ entry_at c (below root parts)
  world_still parts no_mark no_relation = keeps.others (below root parts) (off_relation no_relation) ∙ entry-put_other c (below root mark_parts) (below root parts) (FileEntry mark_text) (apart no_mark)

  off_removed : (parts : List (List ℕ)) → parts ≢ label_parts → parts ≢ mark_parts → entry_at after.files (below root parts) ≡ entry_at put (below root parts)
  off_removed parts no_label no_mark =
      ap (λ d. entry_at d (below root parts)) files_are
      ∙ entry-removed_other unlabelled (below root mark_parts) (below root parts) (apart no_mark)
      ∙ entry-removed_other put (below root label_parts) (below root parts) (apart no_label)

  pub stays-apart : (parts : List (List ℕ)) → IsApart parts → entry_at after.files (below root parts) ≡ entry_at c (below root parts)
  stays-apart parts is =
      off_removed parts is.1 is.2
      ∙ entry-put_other world.files (below root control_parts) (below root parts) (FileEntry (splice (bytes_at world.files (below root control_parts)) 0 (control_bytes left_control))) (apart is.0)
      ∙ world_still parts is.2 is.3

  pub control-left : entry_at after.files (below root control_parts) ≡ Some (FileEntry (splice (bytes_at c (below root control_parts)) 0 (control_bytes left_control)))
  control-left =
      off_removed control_parts control_no_label control_no_mark
      ∙ entry-put world.files (below root control_parts) (FileEntry (splice (bytes_at world.files (below root control_parts)) 0 (control_bytes left_control)))
      ∙ ap (λ o. Some (FileEntry (splice (bytes_in o) 0 (control_bytes left_control)))) (world_still control_parts control_no_mark control_no_relation)

  -- ---- entries without a flaw

  module _ (fine : AreFine root c) where
    world_fine : AreFine root world.files
    world_fine parts e there = same_or_other (below root parts) (relation_at root)
        (λ same.
        let own : parts ≡ relation_parts = own-parts root parts relation_parts (same ∙ relation-path root) in
        let its : Some (FileEntry keeps.relation.bytes) ≡ Some e = sym (ap (entry_at world.files) same ∙ keeps.relation.there) ∙ there in
        let is : FileEntry keeps.relation.bytes ≡ e = cc its in
        subst (λ p. IsFine p e) (sym own) (subst (IsFine relation_parts) is (relation-fine blocks keeps.relation.bytes keeps.relation.long)))
        (λ other. fine-put root c fine mark_parts (FileEntry mark_text) (plain-fine mark_parts mark_text (lit≤ tt) refl mark_plain) parts e (sym (keeps.others (below root parts) other) ∙ there))

    pub left-fine : AreFine root after.files
    left-fine =
        subst (AreFine root) (sym files_are)
        (fine-removed root unlabelled
        (fine-removed root put (fine-put root world.files world_fine control_parts _ (plain-fine control_parts _ (lit≤ tt) refl control-not_main)) (codes "backup_label") [])
        (codes "pg_walreplay.unfinished") [])

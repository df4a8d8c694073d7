-- Files that are left, byte for byte, where a log is replayed again.
use Rattle.std.proofs.Common.{◌≡◌, ℕ, ◌<◌, false, List, [], ◌∷◌, Option, None, Some, Result, Ok, Err, inl, refl, sym, subst, ◌∙◌}
use Rattle.std.specs.FinMap.{insert, remove}
use Rattle.rmgr_hooks.specs.Custom.{Extension, IsSound}
use Rattle.alike_clusters.specs.Clusters.{AlikeClusters}
use Rattle.block_replay.specs.declared.faults.RecordFault.{RecordFault}
use Rattle.cluster_laws.specs.Agree.{AgreeOn}
use Rattle.cluster_laws.specs.Alike.{AlikeWorlds}
use Rattle.cluster_laws.proofs.EndLemmas.{control_parts, label_parts, mark_parts}
use Rattle.cluster_laws.proofs.RecordLemmas.{record-agree}
use Rattle.cluster_laws.proofs.StartLemmas.{control-no_version, control-not_main, control-path}
use Rattle.cluster_tree.specs.Change.{all_changed}
use Rattle.cluster_tree.specs.Contents.{Contents, Entry, FileEntry}
use Rattle.cluster_tree.specs.PathValue.{PathValue, below, path_of}
use Rattle.cluster_tree.specs.Tree.{bytes_at, written}
use Rattle.cluster_tree.proofs.ContentsLemmas.{entry-put_other, entry-removed_other}
use Rattle.control_file.specs.Writing.{control_bytes}
use Rattle.control_file.specs.declared.control.Control.{Control}
use Rattle.file_walk.specs.Actions.{is_version}
use Rattle.file_walk.specs.Relations.{relation_of}
use Rattle.layout.specs.Splice.{splice}
use Rattle.replay_core.specs.Replayed.{beginning, closing, control_path, mark_text}
use Rattle.replay_laws.specs.Log.{AreTaken}
use Rattle.replay_laws.proofs.LogLemmas.{first-taken, parts_in}
use Rattle.replay_laws.proofs.RecordLemmas.{one-world_of}
use Rattle.replay_laws.proofs.WorldLemmas.{given-ok}
use Rattle.replay_world.specs.Records.{record_after, records_after}
use Rattle.replay_world.specs.World.{World}
use Rattle.replayed_bytes.specs.Bytes.{HasWholeBlocks, HaveSameVersions}
use Rattle.replayed_bytes.proofs.EndLemmas.{ends-steps}
use Rattle.replayed_bytes.proofs.RecordLemmas.{log-keeps_blocks, record-ends}
use Rattle.replayed_bytes.proofs.SameLemmas.{files-same, versions-kept}
use Rattle.replayed_bytes.proofs.StepLemmas.{Steps, one-path, steps-then}
use Rattle.wal_records.specs.Reading.{LogRecord}
use Rattle.restarted_laws.specs.Again.{EndTheSame}
use Rattle.restarted_laws.specs.Files.{EndWithSameFiles}

-- ---- records of a log

both-ok : {A : Type 0} (P : A → A → Type 0) (root other : PathValue) (r s : Result A RecordFault) (a b : A) → AgreeOn P root other r s → r ≡ Ok a → s ≡ Ok b → P a b
both-ok P root other r s a b agree is so = subst (λ x. AgreeOn P root other x (Ok b)) is (subst (AgreeOn P root other r) so agree)

module _ (custom : Option Extension) (sound : IsSound custom) (root other : PathValue) (per : ℕ) (some : 0 < per) where
  log-keeps_versions : (start : ℕ) (records : List LogRecord) (w v x y : World) → AreTaken custom start records → AlikeWorlds root other per w x
      → records_after custom root per records w ≡ Ok v → records_after custom other per records x ≡ Ok y
      → HaveSameVersions w.files root x.files other → HaveSameVersions v.files root y.files other
  unfolding records_after
  log-keeps_versions start [] w v x y taken both made other_made same =
      subst (λ (u : World). HaveSameVersions u.files root y.files other) (one-world_of w v made)
      (subst (λ (u : World). HaveSameVersions w.files root u.files other) (one-world_of x y other_made) same)
  log-keeps_versions start (rec ∷ records) w v x y taken both made other_made same =
      let first = first-taken custom start rec records taken in
      let parts = parts_in rec in
      let one = given-ok (record_after custom root per rec parts w) (records_after custom root per records) v made in
      let two = given-ok (record_after custom other per rec parts x) (records_after custom other per records) y other_made in
      let left : AlikeWorlds root other per one.0 two.0 =
      both-ok (AlikeWorlds root other per) root other (record_after custom root per rec parts w) (record_after custom other per rec parts x) one.0 two.0
      (record-agree custom sound root other per some rec parts first.0 w x both) one.1 two.1 in
      log-keeps_versions rec.end records one.0 v two.0 y first.1 left one.2 two.2
      (versions-kept root other per w.files x.files one.0.files two.0.files both.files left.files same
      (record-ends custom sound root per some rec parts w one.0 first.0 both.whole one.1)
      (record-ends custom sound other per some rec parts x two.0 first.0 both.other_whole two.1))

  module _ (start : ℕ) (records : List LogRecord) (w x : World) (taken : AreTaken custom start records) (both : AlikeWorlds root other per w x)
      (whole : HasWholeBlocks w.files root) (same : HaveSameVersions w.files root x.files other) where
    abbrev first : Result World RecordFault
    first = records_after custom root per records w

    abbrev second : Result World RecordFault
    second = records_after custom other per records x

    pub left-whole : (v : World) → first ≡ Ok v → HasWholeBlocks v.files root
    left-whole v made = log-keeps_blocks custom sound root per some start records w v taken both.whole made whole

    pub left-versions : (v y : World) → first ≡ Ok v → second ≡ Ok y → HaveSameVersions v.files root y.files other
    left-versions v y made other_made = log-keeps_versions start records w v x y taken both made other_made same

    pub log-files : EndTheSame root other per first second → EndWithSameFiles root other per first second
    log-files end = by first second refl refl end
      where
        by : (r s : Result World RecordFault) → first ≡ r → second ≡ s → EndTheSame root other per r s → EndWithSameFiles root other per r s
        by (Ok v) (Ok y) made other_made end = record {
          same = end;
          files = files-same root other per some v.files y.files end.alike.files (left-whole v made) (left-versions v y made other_made) end.pages;
        }
        by (Ok v) (Err f) made other_made end = end
        by (Err e) (Ok y) made other_made end = end
        by (Err e) (Err f) made other_made end = tt

-- ---- before the first record, and behind the last one

mark_not_main : relation_of (path_of false mark_parts) ≡ None
unfolding relation_of
mark_not_main = refl

label_not_main : relation_of (path_of false label_parts) ≡ None
unfolding relation_of
label_not_main = refl

module _ (root : PathValue) (parts : List (List ℕ)) (none : is_version (path_of false parts) ≡ false) (plain : relation_of (path_of false parts) ≡ None) (path : PathValue) (lies : path ≡ below root parts) where
  not_main : {P : Type 0} (at : _) → relation_of (path_of false parts) ≡ Some at → P
  not_main at is = let wrong : None ≡ Some at = sym plain ∙ is in absurd cc

  put_steps : (c : Contents) (v : Entry) → Steps root c (insert c path v)
  put_steps c v = one-path root parts path c (insert c path v) lies none (λ at is sized. not_main at is) (λ q apart. inl (entry-put_other c path q v apart))

  gone_steps : (c : Contents) → Steps root c (remove c path)
  gone_steps c = one-path root parts path c (remove c path) lies none (λ at is sized. not_main at is) (λ q apart. inl (entry-removed_other c path q apart))

module _ (root : PathValue) (c : Contents) where
  abbrev mark : PathValue
  mark = below root mark_parts

  abbrev label : PathValue
  label = below root label_parts

  pub begun-steps : Steps root c (all_changed c (beginning root))
  begun-steps =
      let made : Contents = insert c mark (FileEntry []) in
      steps-then root c made (written made mark 0 mark_text)
      (put_steps root mark_parts refl mark_not_main mark refl c (FileEntry []))
      (put_steps root mark_parts refl mark_not_main mark refl made (FileEntry (splice (bytes_at made mark) 0 mark_text)))

  pub closed-steps : (v : Control) → Steps root c (all_changed c (closing root v))
  closed-steps v =
      let put : Contents = written c (control_path root) 0 (control_bytes v) in
      steps-then root c put (remove (remove put label) mark)
      (put_steps root control_parts control-no_version control-not_main (control_path root) (control-path root) c (FileEntry (splice (bytes_at c (control_path root)) 0 (control_bytes v))))
      (steps-then root put (remove put label) (remove (remove put label) mark)
      (gone_steps root label_parts refl label_not_main label refl put)
      (gone_steps root mark_parts refl mark_not_main mark refl (remove put label)))

-- what steps keep
pub whole-kept : (root : PathValue) (c d : Contents) → Steps root c d → HasWholeBlocks c root → HasWholeBlocks d root
whole-kept root c d steps whole parts at is = steps.blocks parts at is (whole parts at is)

pub versions-stay : (root other : PathValue) (per : ℕ) (c d e f : Contents) → AlikeClusters per c root d other → AlikeClusters per e root f other → HaveSameVersions c root d other
    → Steps root c e → Steps other d f → HaveSameVersions e root f other
versions-stay root other per c d e f before after same one two = versions-kept root other per c d e f before after same (ends-steps root c e one) (ends-steps other d f two)

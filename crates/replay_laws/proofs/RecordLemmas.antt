-- A record: its blocks first, and then all else.
use Rattle.std.proofs.Common.{Option, ◌≡◌, ℕ, ◌<◌, ◌&&◌, Bool, true, false, not, None, Result, Ok, Err, refl, ap, ap₂, sym, ◌∙◌}
use Rattle.rmgr_hooks.specs.Custom.{Extension, IsSound}
use Rattle.std.specs.Prelude.{if◌then◌else◌}
use Rattle.std.proofs.lemmas.Bool.{and_right}
use Rattle.block_effects.specs.Gone.{is_gone}
use Rattle.block_refs.specs.Bytes.{main_bytes}
use Rattle.block_refs.specs.Outcomes.{start_of, told}
use Rattle.block_refs.specs.Parts.{ArePartsOf, PartsView, parts_of}
use Rattle.block_refs.specs.declared.fault.Flaw.{Flaw}
use Rattle.block_refs.specs.declared.names.BlockName.{BlockName}
use Rattle.block_refs.proofs.PartsLemmas.{has_parts}
use Rattle.block_replay.specs.Blocks.{blocks_after}
use Rattle.block_replay.specs.Faults.{of_files}
use Rattle.block_replay.specs.World.{BlockWorld, without_gone}
use Rattle.block_replay.specs.declared.faults.RecordFault.{RecordFault}
use Rattle.cluster_tree.specs.Causes.{given}
use Rattle.cluster_tree.specs.Contents.{Contents}
use Rattle.cluster_tree.specs.PathValue.{PathValue}
use Rattle.file_effects.specs.Done.{files_after}
use Rattle.page_masks.specs.Law.{view}
use Rattle.record_effects.specs.Managers.{effect_on}
use Rattle.replay_control.specs.Following.{control_after}
use Rattle.replay_law.specs.Replay.{replay_step}
use Rattle.replay_profile.specs.Fields.{takes_fields}
use Rattle.replay_profile.specs.Names.{are_known}
use Rattle.replay_profile.specs.Profile.{done_by, is_in_profile, judged_by, outside, is_known}
use Rattle.replay_world.specs.Records.{others_after, record_after, short_refusal}
use Rattle.replay_world.specs.World.{World, blocks_of}
use Rattle.storage_laws.specs.States.{page_in}
use Rattle.storage_laws.proofs.NumberLemmas.{and-parts, by_test}
use Rattle.wal_records.specs.Reading.{LogRecord}
use Rattle.replay_laws.specs.Held.{IsMainBlock, held, is_among}
use Rattle.replay_laws.specs.Log.{IsTaken}
use Rattle.replay_laws.specs.Whole.{AreWhole}
use Rattle.replay_laws.proofs.DoneLemmas.{files-leave}
use Rattle.replay_laws.proofs.LeaveLemmas.{Leaves}
use Rattle.replay_laws.proofs.NameLemmas.{AreOwn, are-own}
use Rattle.replay_laws.proofs.ReadLemmas.{AreNumbered, parts-numbered}
use Rattle.replay_laws.proofs.RefLemmas.{blocks-step, blocks-whole}
use Rattle.replay_laws.proofs.SkippedLemmas.{among-without}
use Rattle.replay_laws.proofs.WorldLemmas.{OkHolding, and-true, files-ok, given-ok, not-refused}

-- a record of the profile

abbrev OkParts : PartsView → Result PartsView Flaw
OkParts parts = Ok parts

told_parts : (custom : Option Extension) (rec : LogRecord) (r : Result PartsView Flaw) (parts : PartsView) → judged_by custom rec (told (start_of rec) r) ≡ Ok parts → (r ≡ Ok parts) × (is_in_profile custom rec parts ≡ true)
told_parts custom rec (Err flaw) parts e = absurd cc
told_parts custom rec (Ok found) parts e = by (is_in_profile custom rec found) refl e
  where
    by : (b : Bool) → is_in_profile custom rec found ≡ b → (if b then Ok found else Err (outside rec)) ≡ Ok parts → (OkParts found ≡ OkParts parts) × (is_in_profile custom rec parts ≡ true)
    by true is run = let same : found ≡ parts = cc in (ap OkParts same, ap (is_in_profile custom rec) (sym same) ∙ is)
    by false is run = absurd cc

pub record IsRead (rec : LogRecord) (parts : PartsView) : Type 0 where
  pub of_rec : ArePartsOf rec parts
  pub known : are_known parts.blocks ≡ true
  pub fields : takes_fields (done_by rec) (main_bytes rec.body parts) ≡ true
  pub numbered : AreNumbered parts.blocks
  pub own : AreOwn parts.blocks

pub taken-read : (custom : Option Extension) (rec : LogRecord) (parts : PartsView) → IsTaken custom rec parts → IsRead rec parts
taken-read custom rec parts is =
    let two = told_parts custom rec (parts_of rec.body) parts is.judged in
    let most = and-parts (are_known parts.blocks && is_known custom rec) (takes_fields (done_by rec) (main_bytes rec.body parts)) two.1 in
    let known = (and-parts (are_known parts.blocks) (is_known custom rec) most.0).0 in
    let numbered = parts-numbered rec.body parts is.bytes (has_parts rec.body parts two.0) in
    record { of_rec = two.0; known = known; fields = most.1; numbered = numbered; own = are-own parts.blocks numbered known }

-- what a record leaves: its blocks, and then all else

pub record Done (custom : Option Extension) (root : PathValue) (per : ℕ) (rec : LogRecord) (parts : PartsView) (w v : World) : Type 0 where
  pub mid : BlockWorld
  pub blocks : blocks_after custom root per rec parts (blocks_of w) ≡ Ok mid
  pub files : files_after root per rec parts mid.files ≡ Ok v.files
  pub names : v.skipped ≡ without_gone rec parts mid.skipped

abbrev pub OkWorld : World → Result World RecordFault
OkWorld w = Ok w

pub one-world_of : (w v : World) → OkWorld w ≡ OkWorld v → w ≡ v
one-world_of w v e = cc

pub done : (custom : Option Extension) (root : PathValue) (per : ℕ) (rec : LogRecord) (parts : PartsView) (w v : World) → record_after custom root per rec parts w ≡ Ok v → Done custom root per rec parts w v
unfolding record_after
done custom root per rec parts w v made =
    let run = (not-refused (short_refusal rec parts) (given (blocks_after custom root per rec parts (blocks_of w)) (others_after root per rec parts w)) v made).1 in
    let two = given-ok (blocks_after custom root per rec parts (blocks_of w)) (others_after root per rec parts w) v run in
    let after : Contents → World = λ c. record { files = c; control = control_after rec parts w.control; skipped = without_gone rec parts two.0.skipped } in
    let last = given-ok (of_files (files_after root per rec parts two.0.files)) (λ c. OkWorld (after c)) v two.2 in
    let same : after last.0 ≡ v = one-world_of (after last.0) v last.2 in
    record {
      mid = two.0;
      blocks = two.1;
      files = files-ok (files_after root per rec parts two.0.files) last.0 last.1 ∙ ap (λ (u : World). Ok u.files) same;
      names = ap (λ (u : World). u.skipped) (sym same);
    }

module _ (custom : Option Extension) (sound : IsSound custom) (root : PathValue) (per : ℕ) (rec : LogRecord) (parts : PartsView) (w v : World) (some : 0 < per) (is : IsTaken custom rec parts) (whole : AreWhole root per w.files) (made : record_after custom root per rec parts w ≡ Ok v) where
  of : IsRead rec parts
  of = taken-read custom rec parts is

  after : Done custom root per rec parts w v
  after = done custom root per rec parts w v made

  mid_whole : AreWhole root per after.mid.files
  mid_whole = blocks-whole custom sound root per some rec parts of.of_rec is.ends (blocks_of w) after.mid of.known of.own whole after.blocks

  leaves : Leaves root per (is_gone rec parts) after.mid.files v.files
  leaves = files-leave root per some rec parts after.mid.files v.files is.bytes of.numbered of.fields mid_whole after.files

  pub record-whole : AreWhole root per v.files
  record-whole = leaves.whole

  module _ (name : BlockName) (main : IsMainBlock name) where
    page_left : page_in root per name v.files ≡ (if is_gone rec parts name then None else page_in root per name after.mid.files)
    page_left = leaves.page name main

    name_left : is_among name v.skipped ≡ (is_among name after.mid.skipped && not (is_gone rec parts name))
    name_left = ap (is_among name) after.names ∙ among-without rec parts name after.mid.skipped

    pub record-steps : replay_step (view name.block) (held root per w name) rec.end (effect_on custom rec parts name) ≡ Ok (held root per v name)
    record-steps = by_test (is_gone rec parts name)
        (λ gone.
        rw gone refl
        ∙ ap₂ OkHolding
        (sym (page_left ∙ ap (λ b. if b then None else page_in root per name after.mid.files) gone))
        (sym (name_left ∙ ap (λ b. is_among name after.mid.skipped && not b) gone ∙ and_right (is_among name after.mid.skipped) false refl)))
        (λ stays.
        blocks-step custom sound root per some rec parts of.of_rec is.ends name (blocks_of w) after.mid main stays of.known of.own whole after.blocks
        ∙ ap₂ OkHolding
        (sym (page_left ∙ ap (λ b. if b then None else page_in root per name after.mid.files) stays))
        (sym (name_left ∙ ap (λ b. is_among name after.mid.skipped && not b) stays ∙ and-true (is_among name after.mid.skipped))))

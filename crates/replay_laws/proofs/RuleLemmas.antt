-- The managers keep what they owe for their rules.
use Rattle.std.proofs.Common.{Bool, true, false, ◌==◌, Option, Some, None, ℕ, refl}
use Rattle.std.specs.Prelude.{if◌then◌else◌}
use Rattle.rmgr_hooks.specs.Custom.{Extension, IsSound, OwesPages}
use Rattle.block_refs.specs.Parts.{PartsView}
use Rattle.page_masks.specs.Law.{view, IsOperation}
use Rattle.record_layouts.specs.declared.operation.Operation.{Operation}
use Rattle.record_layouts.specs.declared.operation.Operation.TheVariants as op
use Rattle.wal_records.specs.Reading.{LogRecord}
use Rattle.block_effects.specs.Rules.{AreRules}
use Rattle.block_effects.proofs.MeetLemmas.{no_rules_are}
use Rattle.btree_laws.proofs.Fresh.{fresh_same as btree_fresh_same}
use Rattle.btree_laws.proofs.Replayed.{record_law as btree_record_law}
use Rattle.heap_laws.proofs.Fresh.{fresh_same}
use Rattle.heap_laws.proofs.Replayed.{record_law}
use Rattle.storage_pages.proofs.SequenceLaws.{operation_is}
use Rattle.record_effects.proofs.ExtensionLemmas.{extension_keeps}
use Rattle.record_effects.specs.Managers.{btree_rules, done_by, extension_rules, heap_rules, rules_for, rules_of, sequence_rules, without_image, xlog_rules}

-- what refuses every page can't tell any two
refusal_is : (rec : LogRecord) (parts : PartsView) (id block : ℕ) → IsOperation (view block) (without_image rec parts id)
refusal_is rec parts id block = record {
  page = λ p q size e. cc e;
  mask = λ p q size_p size_q sound same. refl;
}

xlog_rules_are : AreRules xlog_rules
xlog_rules_are = record {
  mask = λ rec parts placed of_rec named. refusal_is rec parts placed.block.id placed.block.name.block;
  fresh = λ rec parts id p q e. refl;
}

heap_rules_are : AreRules heap_rules
heap_rules_are = record {
  mask = λ rec parts placed of_rec named. record_law placed.block.name.block rec parts placed.block.id;
  fresh = λ rec parts id p q e. fresh_same rec parts id p q e;
}

btree_rules_are : AreRules btree_rules
btree_rules_are = record {
  mask = λ rec parts placed of_rec named. btree_record_law placed.block.name.block rec parts placed.block.id;
  fresh = λ rec parts id p q e. btree_fresh_same rec parts id p q e;
}

sequence_rules_are : AreRules sequence_rules
sequence_rules_are = record {
  mask = λ rec parts placed of_rec named. operation_is rec parts placed.block.id placed.block.name.block;
  fresh = λ rec parts id p q e. refl;
}

rules_are : (o : Operation) → AreRules (rules_for o)
rules_are (op.Xlog o) = xlog_rules_are
rules_are (op.Heap o) = heap_rules_are
rules_are (op.Heap2 o) = heap_rules_are
rules_are (op.Btree o) = btree_rules_are
rules_are (op.Sequence o) = sequence_rules_are
rules_are _ = no_rules_are

rules_by : (e : Extension) → OwesPages e → (b : Bool) (o : Operation) → AreRules (if b then extension_rules e else rules_for o)
rules_by e owes true o = extension_keeps e owes
rules_by e owes false o = rules_are o

pub managers_are : (custom : Option Extension) (sound : IsSound custom) (rec : LogRecord) → AreRules (rules_of custom rec)
managers_are None sound rec = rules_are (done_by rec)
managers_are (Some e) sound rec = rules_by e sound (rec.header.manager == e.id) (done_by rec)

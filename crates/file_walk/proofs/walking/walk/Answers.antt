use Rattle.std.proofs.Common.{◌≡◌, List, [], ◌∷◌, ◌++◌, Global, string_bytes, Option, Result, Ok, Err, IfSome, ap, sym, subst, ◌∙◌}
use Rattle.std.proofs.lemmas.List.{map-append}
use Rattle.std.proofs.lemmas.List.Elements.{All-nil}
use Rattle.std.proofs.lemmas.Result.{err_from_is_err_and}
use Rattle.cluster_tree.specs.Contents.{Contents, entry_at}
use Rattle.cluster_tree.specs.declared.file_fault.FileFault.TheVariants as file
use Rattle.cluster_tree.proofs.RunLemmas.{reads_on}
use Rattle.file_walk.specs.declared.entries.Listed.{Listed}
use Rattle.file_walk.specs.declared.entry.Entry.{Entry}
use Rattle.file_walk.specs.declared.fault.WalkFault.{WalkFault}
use Rattle.file_walk.specs.declared.fault.WalkFault.TheVariants as fault
use Rattle.file_walk.specs.Listed.{AreListed, IsListed, by_text, entries_in}
use Rattle.file_walk.specs.Stepping.{FitsNext, IsFirstThere}
use Rattle.file_walk.proofs.ListedLemmas.{more_listed}
use Rattle.file_walk.proofs.NamedLemmas.{named_by}
use Rattle.file_walk.proofs.ProgressLemmas.{Progress, at_end, first_there, parts_at_end, went_on, went_wrong}
use Rattle.file_walk.proofs.StartLemmas.{refused_at_root, root_unchanged, rose_on, started}
use Rattle.file_walk.proofs.walking.walk.Goals as goal

pub loop-init : goal.loop-init
loop-init g c = record {
  progress = λ told.
      subst (λ (l : List Listed). Progress (g.F.Tree.contents c.args.tree.now) c.args.root.now (entries_in l) (by_text (string_bytes {Z = Global}) c.in_ok-queue.queue.entries)) (sym c.new-listed.ensures.items)
      (started (g.F.Tree.contents c.args.tree.now) c.args.root.now (g.met.F.Tree.is_tree told c.args.tree.now) c.in_ok-queue.ensures.proper
      (by_text (string_bytes {Z = Global}) c.in_ok-queue.queue.entries) (c.in_ok-queue.ensures.begun told));
  sound = c.in_ok-queue.ensures.sound;
  listed = subst AreListed (sym c.new-listed.ensures.items) (All-nil IsListed);
  reads = c.in_ok-queue.ensures.reads;
}

pub of_listed-requires : goal.of_listed-requires
of_listed-requires g c = record { listed = c.loop.invariant.listed }

pub next-requires-clause-sound : goal.next-requires-clause-sound
next-requires-clause-sound g c = c.loop.invariant.sound

pub next-requires-clause-there : goal.next-requires-clause-there
next-requires-clause-there g c = λ told.
    subst (λ (t : Contents). IsFirstThere t (by_text (string_bytes {Z = Global}) c.loop.queue.entries)) (sym c.loop.invariant.reads.same)
    (first_there (g.F.Tree.contents c.args.tree.now) c.args.root.now (entries_in c.loop.listed.items) (by_text (string_bytes {Z = Global}) c.loop.queue.entries) (c.loop.invariant.progress told))

pub returns-in_err-queue-clause-exact : goal.returns-in_err-queue-clause-exact
returns-in_err-queue-clause-exact g c = λ told.
    let failed = err_from_is_err_and c.from_residual.result c.from_residual.ensures.1 in
    rw (failed.1, failed.2) (refused_at_root (g.F.Tree.contents c.args.tree.now) c.args.root.now c.in_err-queue.field-0.0 (c.in_err-queue.ensures.refused told))

pub returns-in_err-queue-clause-changed : goal.returns-in_err-queue-clause-changed
returns-in_err-queue-clause-changed g c = λ told path is.
    let failed = err_from_is_err_and c.from_residual.result c.from_residual.ensures.1 in
    root_unchanged c.args.root.now (entry_at (g.F.Tree.contents c.args.tree.now) c.args.root.now) c.in_err-queue.field-0.0 (c.in_err-queue.ensures.refused told) path (cc (failed.1, failed.2, is))

pub returns-in_err-entry-clause-exact : goal.returns-in_err-entry-clause-exact
returns-in_err-entry-clause-exact g c = λ told.
    let failed = err_from_is_err_and c.from_residual-in_err-entry.result c.from_residual-in_err-entry.ensures.1 in
    rw (failed.1, failed.2)
    (went_wrong (g.F.Tree.contents c.args.tree.now) c.args.root.now (entries_in c.loop.listed.items) (by_text (string_bytes {Z = Global}) c.loop.queue.entries) (by_text (string_bytes {Z = Global}) c.next.new.queue.entries)
    c.in_err-entry.field-0.0 (c.in_ok-queue.ensures.refused told) (c.loop.invariant.progress told)
    (subst (λ (t : Contents). FitsNext t (by_text (string_bytes {Z = Global}) c.loop.queue.entries) (by_text (string_bytes {Z = Global}) c.next.new.queue.entries) (Err c.in_err-entry.field-0.0)) c.loop.invariant.reads.same (c.in_err-entry.ensures.stepped told)))

pub returns-in_err-entry-clause-reads : goal.returns-in_err-entry-clause-reads
returns-in_err-entry-clause-reads g c = reads_on g.F.Tree c.args.tree.now c.loop.tree c.next.new.tree c.loop.invariant.reads c.in_err-entry.ensures.reads

pub returns-in_err-entry-clause-read_fault : goal.returns-in_err-entry-clause-read_fault
returns-in_err-entry-clause-read_fault g c = λ is.
    let failed = err_from_is_err_and c.from_residual-in_err-entry.result c.from_residual-in_err-entry.ensures.1 in
    rose_on (g.F.Tree.failed_reads c.args.tree.now) (g.F.Tree.failed_reads c.loop.tree) (g.F.Tree.failed_reads c.next.new.tree) c.loop.invariant.reads.reads c.in_err-entry.ensures.reads.reads
    (c.in_err-entry.ensures.read_fault (let same : c.in_err-entry.field-0.0 ≡ fault.File file.ReadFault = cc (failed.1, failed.2, is) in ap (λ (e : WalkFault). let r : Result (Option Listed) WalkFault = Err e in r) same))

pub returns-in_err-entry-clause-row : goal.returns-in_err-entry-clause-row
returns-in_err-entry-clause-row g c =
    let failed = err_from_is_err_and c.from_residual-in_err-entry.result c.from_residual-in_err-entry.ensures.1 in
    rw (failed.1, failed.2) (c.in_err-entry.ensures.row c.args.root.now)

pub returns-in_default-clause-exact : goal.returns-in_default-clause-exact
returns-in_default-clause-exact g c = λ told.
    at_end (g.F.Tree.contents c.args.tree.now) c.args.root.now (entries_in c.loop.listed.items) (by_text (string_bytes {Z = Global}) c.loop.queue.entries) (by_text (string_bytes {Z = Global}) c.next.new.queue.entries)
    (c.in_ok-queue.ensures.refused told) (c.loop.invariant.progress told)
    (subst (λ (r : Option Listed). FitsNext (g.F.Tree.contents c.args.tree.now) (by_text (string_bytes {Z = Global}) c.loop.queue.entries) (by_text (string_bytes {Z = Global}) c.next.new.queue.entries) (Ok r)) c.in_default.is
    (subst (λ (t : Contents). FitsNext t (by_text (string_bytes {Z = Global}) c.loop.queue.entries) (by_text (string_bytes {Z = Global}) c.next.new.queue.entries) (Ok c.in_ok-entry.field-0)) c.loop.invariant.reads.same (c.in_ok-entry.ensures.stepped told)))
    ∙ ap (λ (l : List Entry). Ok l) (sym c.of_listed.ensures.value)

pub returns-in_default-clause-parts : goal.returns-in_default-clause-parts
returns-in_default-clause-parts g c = λ told.
    let begun = c.in_ok-queue.ensures.begun told in
    parts_at_end (g.F.Tree.contents c.args.tree.now) c.args.root.now (entries_in c.loop.listed.items) (by_text (string_bytes {Z = Global}) c.loop.queue.entries) (by_text (string_bytes {Z = Global}) c.next.new.queue.entries)
    (g.met.F.Tree.is_tree told c.args.tree.now) c.in_ok-queue.ensures.proper (named_by (g.F.Tree.contents c.args.tree.now) c.args.root.now begun.names begun.listing begun.parts) (c.loop.invariant.progress told)
    (subst (λ (r : Option Listed). FitsNext (g.F.Tree.contents c.args.tree.now) (by_text (string_bytes {Z = Global}) c.loop.queue.entries) (by_text (string_bytes {Z = Global}) c.next.new.queue.entries) (Ok r)) c.in_default.is
    (subst (λ (t : Contents). FitsNext t (by_text (string_bytes {Z = Global}) c.loop.queue.entries) (by_text (string_bytes {Z = Global}) c.next.new.queue.entries) (Ok c.in_ok-entry.field-0)) c.loop.invariant.reads.same (c.in_ok-entry.ensures.stepped told)))

pub returns-in_default-clause-reads : goal.returns-in_default-clause-reads
returns-in_default-clause-reads g c = reads_on g.F.Tree c.args.tree.now c.loop.tree c.next.new.tree c.loop.invariant.reads c.in_ok-entry.ensures.reads

pub returns-in_err-push-clause-reads : goal.returns-in_err-push-clause-reads
returns-in_err-push-clause-reads g c = reads_on g.F.Tree c.args.tree.now c.loop.tree c.next.new.tree c.loop.invariant.reads c.in_ok-entry.ensures.reads

pub loop-preserved : goal.loop-preserved
loop-preserved g c =
    let pushed : c.push.new.self.items ≡ c.loop.listed.items ++ c.in-Some.entry ∷ [] = c.in_ok-push.ensures.items in
    record {
      progress = λ told.
          subst (λ (l : List Entry). Progress (g.F.Tree.contents c.args.tree.now) c.args.root.now l (by_text (string_bytes {Z = Global}) c.next.new.queue.entries))
          (sym (ap entries_in pushed ∙ map-append (λ (l : Listed). l.entry) c.loop.listed.items (c.in-Some.entry ∷ [])))
          (went_on (g.F.Tree.contents c.args.tree.now) c.args.root.now (entries_in c.loop.listed.items) (by_text (string_bytes {Z = Global}) c.loop.queue.entries) (by_text (string_bytes {Z = Global}) c.next.new.queue.entries)
          c.in-Some.entry (c.loop.invariant.progress told)
          (subst (λ (r : Option Listed). FitsNext (g.F.Tree.contents c.args.tree.now) (by_text (string_bytes {Z = Global}) c.loop.queue.entries) (by_text (string_bytes {Z = Global}) c.next.new.queue.entries) (Ok r)) c.in-Some.is
          (subst (λ (t : Contents). FitsNext t (by_text (string_bytes {Z = Global}) c.loop.queue.entries) (by_text (string_bytes {Z = Global}) c.next.new.queue.entries) (Ok c.in_ok-entry.field-0)) c.loop.invariant.reads.same (c.in_ok-entry.ensures.stepped told))));
      sound = c.in_ok-entry.ensures.sound;
      listed = subst AreListed (sym pushed) (more_listed c.loop.listed.items c.in-Some.entry c.loop.invariant.listed
          (subst (λ (r : Option Listed). IfSome r IsListed) c.in-Some.is c.in_ok-entry.ensures.listed));
      reads = reads_on g.F.Tree c.args.tree.now c.loop.tree c.next.new.tree c.loop.invariant.reads c.in_ok-entry.ensures.reads;
    }

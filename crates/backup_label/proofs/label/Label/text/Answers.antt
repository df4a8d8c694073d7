use Rattle.std.proofs.Common.{◌≡◌, ◌<◌, ◌^◌, ◌∙◌, ap, sym, true, rules, w64, FitsSigned}
use Rattle.std.proofs.lemmas.Int.{to_z-of_z}
use Rattle.wal_base.specs.Hex.{is_long_name}
use Rattle.wal_base.specs.Segment.{name_of}
use Rattle.backup_label.specs.Reading.{label_of}
use Rattle.backup_label.specs.Text.{start_file, label_text}
use Rattle.backup_label.specs.Time.{label_time}
use Rattle.backup_label.proofs.LabelLemmas.{label_shape, label_read, long_name}
use Rattle.backup_label.proofs.label.Label.text.Goals as goal

written : (c : goal.After-drop-file-inside-2) → c.from.result ≡ label_text c.args.self
written c =
    let file : c.as_str-file.result.now ≡ start_file c.args.self = c.as_str-file.ensures.value ∙ c.in_ok-file.ensures.value ∙ ap name_of c.of.ensures.value in
    let fits : FitsSigned w64 c.args.self.time = search rules in
    let time : c.as_str-time.result.now ≡ label_time c.args.self.time = c.as_str-time.ensures.value ∙ c.in_ok-time.ensures ∙ ap label_time (to_z-of_z w64 c.args.self.time fits) in
    let shown = rw (file, time) at c.in_ok-text.ensures.ok in
    c.from.ensures ∙ shown ∙ sym (label_shape c.args.self)

pub returns-clause-value : goal.returns-clause-value
returns-clause-value c = written c

pub returns-clause-again : goal.returns-clause-again
returns-clause-again c =
    let start : c.args.self.start.0 < 2 ^ 64 = search rules in
    let checkpoint : c.args.self.checkpoint.0 < 2 ^ 64 = search rules in
    let name : c.in_ok-file.file ≡ start_file c.args.self = c.in_ok-file.ensures.value ∙ ap name_of c.of.ensures.value in
    let long : is_long_name (start_file c.args.self) ≡ true = ap is_long_name (sym name) ∙ long_name c.of.result c.in_ok-file.file c.in_ok-file.ensures.again in
    ap label_of (written c) ∙ label_read c.args.self start checkpoint long

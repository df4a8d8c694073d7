use Rattle.std.proofs.Common.{ap, sym, ◌∙◌, string_bytes}
use Rattle.std.specs.Str.{is_utf8}
use Rattle.std.proofs.lemmas.Str.{IsUtf8-string_bytes, is_utf8-from_IsUtf8}
use Rattle.mark_lines.proofs.writing.path_word.Goals as goal

pub returns-clause-text : goal.returns-clause-text
returns-clause-text c = ap is_utf8 (sym c.in_ok-way.ensures.value) ∙ is_utf8-from_IsUtf8 (string_bytes c.in_ok-way.way) (IsUtf8-string_bytes c.in_ok-way.way)

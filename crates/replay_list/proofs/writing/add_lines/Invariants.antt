use Rattle.std.proofs.Common.{◌≡◌, ◌++◌, ◌≤◌, take, string_bytes}
use Rattle.replay_list.specs.Lines.{files_after, listed_lines}
use Rattle.replay_list.specs.Text.{IsHeld}
use Rattle.replay_list.proofs.writing.add_lines.Given as goal

abbrev pub invariant-loop-one : goal.invariant-loop-one
invariant-loop-one l = record {
  lines : string_bytes l.text ≡ string_bytes l.initial.text ++ listed_lines l.root 0 (take l.one-index l.listed);
  count : l.files ≡ files_after 0 (take l.one-index l.listed);
  files : l.files ≤ l.one-index;
  held : IsHeld l.root (take l.one-index l.listed);
}

use Rattle.std.proofs.Common.{◌≡◌, Some, option_map, sym, ap, ◌∙◌}
use Rattle.mark_lines.specs.Paths.{is_way}
use Rattle.mark_lines.specs.Words.{bytes_in}
use Rattle.mark_lines.proofs.PathLemmas.{a_text, another_text, no_text}
use Rattle.mark_lines.proofs.paths.way_in.Goals as goal

pub returns-in_default-from_utf8 : goal.returns-in_default-from_utf8
returns-in_default-from_utf8 c =
    let some : Some c.deref.result.now ≡ bytes_in c.args.word.now = ap Some c.deref.ensures.value ∙ (sym (ap (option_map (λ vec. vec.items)) c.in-Some.is) ∙ c.in_ok-bytes.ensures.value) in
    record { value = no_text c.args.depth c.args.word.now c.deref.result.now some c.in_default-from_utf8.ensures.cases.0 }

pub returns-then-branch : goal.returns-then-branch
returns-then-branch c =
    let some : Some c.deref.result.now ≡ bytes_in c.args.word.now = ap Some c.deref.ensures.value ∙ (sym (ap (option_map (λ vec. vec.items)) c.in-Some.is) ∙ c.in_ok-bytes.ensures.value) in
    record {
      value = ap Some (c.in_ok-from_str.ensures.ok ∙ c.in-Ok.ensures.cases.0)
          ∙ a_text c.args.depth c.args.word.now c.deref.result.now some c.in-Ok.ensures.cases.1 (sym c.if-branch.true ∙ (c.in_ok-is_way.ensures ∙ ap (is_way c.args.depth) c.in-Ok.ensures.cases.0));
    }

pub returns : goal.returns
returns c =
    let some : Some c.deref.result.now ≡ bytes_in c.args.word.now = ap Some c.deref.ensures.value ∙ (sym (ap (option_map (λ vec. vec.items)) c.in-Some.is) ∙ c.in_ok-bytes.ensures.value) in
    record { value = another_text c.args.depth c.args.word.now c.deref.result.now some c.in-Ok.ensures.cases.1 (sym c.if-branch.false ∙ (c.in_ok-is_way.ensures ∙ ap (is_way c.args.depth) c.in-Ok.ensures.cases.0)) }

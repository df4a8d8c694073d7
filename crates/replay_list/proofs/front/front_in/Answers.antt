use Rattle.std.proofs.Common.{◌≡◌, ◌∙◌, Some, length, length-append, drop, map, string_bytes, ap, sym, arith, ◌∷◌, []}
use Rattle.std.proofs.lemmas.List.{length-map}
use Rattle.mark_lines.proofs.LineLemmas.{behind}
use Rattle.replay_list.specs.Reading.{first_listed, front_in}
use Rattle.replay_list.proofs.FrontLemmas.{counted_more, no_more, one_more, one_within}
use Rattle.replay_list.proofs.front.front_in.Goals as goal

pub loop-place-preserved : goal.loop-place-preserved
loop-place-preserved c =
    let root = c.args.root.now in
    let last = string_bytes c.loop-place.place.last in
    let files = c.loop-place.place.files in
    let pieces = map (λ piece. piece.now) c.args.pieces.now in
    let done = c.loop-place.listed.items in
    let sized = c.loop-place.listed.ok.0 in
    let e : Some c.in-Some.next ≡ first_listed root last files (drop (length done) pieces) =
    sym c.in-Some.is ∙ c.in_ok-next.ensures ∙ ap (first_listed root last files) (behind (λ piece. piece.now) c.args.pieces.now c.len.result (length done) (c.len.ensures ∙ sized)) in
    let pushed = c.in_ok-push.ensures.items in
    let size = ap length pushed in
    record {
      within = omega (arith, one_within root last files (length done) pieces c.in-Some.next e, size, length-append done (c.in-Some.next ∷ []), length-map c.args.pieces.now (λ piece. piece.now));
      files = omega (arith, c.loop-place.invariant.files, c.in_ok-place.ensures.files, counted_more files c.in-Some.next, size, length-append done (c.in-Some.next ∷ []));
      listed = one_more root last (string_bytes c.in_ok-place.place.last) files c.in_ok-place.place.files done c.push.new.self.items (front_in root [] 0 pieces) pieces c.in-Some.next e
          c.loop-place.invariant.listed pushed c.in_ok-place.ensures.way c.in_ok-place.ensures.files;
    }

pub returns-clause-listed : goal.returns-clause-listed
returns-clause-listed c =
    let root = c.args.root.now in
    let last = string_bytes c.loop-place.place.last in
    let files = c.loop-place.place.files in
    let pieces = map (λ piece. piece.now) c.args.pieces.now in
    let done = c.loop-place.listed.items in
    let sized = c.loop-place.listed.ok.0 in
    no_more root last files done (front_in root [] 0 pieces) pieces
    (sym c.in_default.is ∙ c.in_ok-next.ensures ∙ ap (first_listed root last files) (behind (λ piece. piece.now) c.args.pieces.now c.len.result (length done) (c.len.ensures ∙ sized)))
    c.loop-place.invariant.listed

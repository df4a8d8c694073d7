-- Steps that lines say: they are between the roots, and written so.
use Rattle.std.proofs.Common.{◌≡◌, ℕ, ◌+◌, ◌<◌, ◌≤◌, ◌^◌, true, List, [], ◌∷◌, ◌++◌, codes, decimal, drop, length, nat_le, nat_lt, Option, None, Some, option_and_then, option_map, refl, sym, ap, ◌∙◌, subst, arith, append_assoc, bytes_eq}
use Rattle.std.proofs.lemmas.Bool.Decides.{nat_tests}
use Rattle.std.proofs.lemmas.Option.{option_and_then_some}
use Rattle.std.proofs.lemmas.Slice.Eq.{bytes_eq-Decides}
use Rattle.std.specs.List.{join_with_byte}
use Rattle.mark_lines.proofs.DigitReadLemmas.{size_known}
use Rattle.wal_base.proofs.HexDigits.{and_both}
use Rattle.cluster_tree.specs.PathValue.{PathValue, below}
use Rattle.rewind_writes.specs.declared.step.Step.{Step}
use Rattle.rewind_writes.specs.declared.step.Step.TheVariants.{Folder, Whole, Cut, Range, Remove}
use Rattle.mark_lines.specs.Words.{line, words_of, size_in}
use Rattle.plan_text.specs.Paths.{step_parts_in}
use Rattle.plan_text.specs.Steps.{cut_in, depth, folder_in, of_size, parts_both, pathed, range_in, ranged, removed_in, sized, step_of, step_words, turn, whole_in}
use Rattle.plan_text.specs.Text.{step_lines}
use Rattle.plan_text.specs.Reading.{in_turn, next_step, steps_in}
use Rattle.mark_lines.specs.Lines.{led_by}
use Rattle.plan_text.specs.Laws.{AllAreBetween, InTurn, IsBetween, IsCopied, are_texts, is_text}
use Rattle.mark_lines.proofs.LineReadLemmas.{line_joined}
use Rattle.mark_lines.proofs.OptionLemmas.{choice, if_some, map_some}
use Rattle.plan_text.proofs.OwnWayLemmas.{IsPlaced, step_parts_known}

-- what is known of a step that words say
record IsKnown (target source : PathValue) (words : List (List ℕ)) (step : Step) : Type 0 where
  between : IsBetween target source step
  text : is_text target step ≡ true
  same : step_words target step ≡ words

module _ (target source : PathValue) where
  verb_is : (verb name : List ℕ) → bytes_eq verb name ≡ true → name ≡ verb
  verb_is verb name e = sym ((bytes_eq-Decides verb name).0 e)

  copied : (word : List ℕ) (parts : List (List ℕ)) → IsPlaced (depth target source) target word parts → IsCopied target source (below source parts) (below target parts)
  copied word parts p = record { placed = p.placed; same = ap (below source) (sym p.behind) }

  folder_known : (verb word : List ℕ) (step : Step) → codes "folder" ≡ verb → folder_in target source word ≡ Some step → IsKnown target source (verb ∷ word ∷ []) step
  folder_known verb word step v e = map_some (λ parts. Folder (below target parts)) (parts_both target source word) step e (λ parts ep is.
      let p = step_parts_known (depth target source) target word parts ep in
      subst (IsKnown target source (verb ∷ word ∷ [])) is (record { between = p.placed; text = p.text; same = λ i. v i ∷ p.digits i ∷ [] }))

  removed_known : (verb word : List ℕ) (step : Step) → codes "remove" ≡ verb → removed_in target word ≡ Some step → IsKnown target source (verb ∷ word ∷ []) step
  removed_known verb word step v e = map_some (λ parts. Remove (below target parts)) (step_parts_in (length target.parts) word) step e (λ parts ep is.
      let p = step_parts_known (length target.parts) target word parts ep in
      subst (IsKnown target source (verb ∷ word ∷ [])) is (record { between = p.placed; text = p.text; same = λ i. v i ∷ p.digits i ∷ [] }))

  pathed_known : (verb word : List ℕ) (step : Step) → pathed target source verb word ≡ Some step → IsKnown target source (verb ∷ word ∷ []) step
  pathed_known verb word step e =
      choice (bytes_eq verb (codes "folder")) (folder_in target source word) _ step e (λ v f. folder_known verb word step (verb_is verb (codes "folder") v) f)
      (λ f. let g = if_some (bytes_eq verb (codes "remove")) (removed_in target word) step f in removed_known verb word step (verb_is verb (codes "remove") g.0) g.1)

  whole_known : (verb word size : List ℕ) (n : ℕ) (step : Step) → codes "whole" ≡ verb → (n < 2 ^ 64) × (decimal n ≡ size) → whole_in target source word n ≡ Some step
      → IsKnown target source (verb ∷ word ∷ size ∷ []) step
  whole_known verb word size n step v s e = map_some (λ parts. Whole (below source parts) (below target parts) n) (parts_both target source word) step e (λ parts ep is.
      let p = step_parts_known (depth target source) target word parts ep in
      subst (IsKnown target source (verb ∷ word ∷ size ∷ [])) is
      (record { between = (copied word parts p, s.0); text = p.text; same = λ i. v i ∷ p.digits i ∷ s.1 i ∷ [] }))

  cut_known : (verb word size : List ℕ) (n : ℕ) (step : Step) → codes "cut" ≡ verb → (n < 2 ^ 64) × (decimal n ≡ size) → cut_in target source word n ≡ Some step
      → IsKnown target source (verb ∷ word ∷ size ∷ []) step
  cut_known verb word size n step v s e = map_some (λ parts. Cut (below target parts) n) (parts_both target source word) step e (λ parts ep is.
      let p = step_parts_known (depth target source) target word parts ep in
      subst (IsKnown target source (verb ∷ word ∷ size ∷ [])) is (record { between = (p.placed, s.0); text = p.text; same = λ i. v i ∷ p.digits i ∷ s.1 i ∷ [] }))

  sized_known : (verb word size : List ℕ) (step : Step) → sized target source verb word size ≡ Some step → IsKnown target source (verb ∷ word ∷ size ∷ []) step
  sized_known verb word size step e = option_and_then_some (of_size target source verb word) (size_in size) step e (λ n en f.
      let s = size_known size n en in
      choice (bytes_eq verb (codes "whole")) (whole_in target source word n) _ step f (λ v g. whole_known verb word size n step (verb_is verb (codes "whole") v) s g)
      (λ g. let h = if_some (bytes_eq verb (codes "cut")) (cut_in target source word n) step g in cut_known verb word size n step (verb_is verb (codes "cut") h.0) s h.1))

  range_known : (verb word at size : List ℕ) (m n : ℕ) (step : Step) → codes "range" ≡ verb → decimal m ≡ at → decimal n ≡ size → range_in target source word m n ≡ Some step
      → IsKnown target source (verb ∷ word ∷ at ∷ size ∷ []) step
  range_known verb word at size m n step v a s e =
      let f = if_some (nat_lt (m + n) (2 ^ 64)) (option_map (λ parts. Range (below source parts) (below target parts) m n) (parts_both target source word)) step e in
      let fits : m + n < 2 ^ 64 = grind (arith, nat_tests, f.0) in
      map_some (λ parts. Range (below source parts) (below target parts) m n) (parts_both target source word) step f.1 (λ parts ep is.
      let p = step_parts_known (depth target source) target word parts ep in
      subst (IsKnown target source (verb ∷ word ∷ at ∷ size ∷ [])) is
      (record { between = (copied word parts p, fits); text = p.text; same = λ i. v i ∷ p.digits i ∷ a i ∷ s i ∷ [] }))

  ranged_known : (verb word at size : List ℕ) (step : Step) → ranged target source verb word at size ≡ Some step → IsKnown target source (verb ∷ word ∷ at ∷ size ∷ []) step
  ranged_known verb word at size step e =
      let f = if_some (bytes_eq verb (codes "range")) (option_and_then (λ n. option_and_then (range_in target source word n) (size_in size)) (size_in at)) step e in
      option_and_then_some (λ n. option_and_then (range_in target source word n) (size_in size)) (size_in at) step f.1 (λ m em g.
      option_and_then_some (range_in target source word m) (size_in size) step g (λ n en h.
      range_known verb word at size m n step (verb_is verb (codes "range") f.0) (size_known at m em).1 (size_known size n en).1 h))

  step_known : (words : List (List ℕ)) (step : Step) → step_of target source words ≡ Some step → IsKnown target source words step
  step_known [] step e = absurd cc
  step_known (a ∷ []) step e = absurd cc
  step_known (a ∷ b ∷ []) step e = pathed_known a b step e
  step_known (a ∷ b ∷ c ∷ []) step e = sized_known a b c step e
  step_known (a ∷ b ∷ c ∷ d ∷ []) step e = ranged_known a b c d step e
  step_known (a ∷ b ∷ c ∷ d ∷ f ∷ words) step e = absurd cc

-- what is known of the steps at the front
pub record AreKnown (target source : PathValue) (least : ℕ) (pieces : List (List ℕ)) (steps : List Step) : Type 0 where
  pub between : AllAreBetween target source steps
  pub turns : InTurn least steps
  pub texts : are_texts target steps ≡ true
  pub lines : join_with_byte 10 pieces ≡ step_lines target steps ++ join_with_byte 10 (drop (length steps) pieces)

module _ (target source : PathValue) where
  none_known : (least : ℕ) (pieces : List (List ℕ)) → AreKnown target source least pieces []
  none_known least pieces = record { between = tt; turns = tt; texts = refl; lines = refl }

  one_known : (least : ℕ) (piece next : List ℕ) (more : List (List ℕ)) (step : Step) (steps : List Step) → IsKnown target source (words_of piece) step → least ≤ turn step
      → AreKnown target source (turn step) (next ∷ more) steps → AreKnown target source least (piece ∷ next ∷ more) (step ∷ steps)
  one_known least piece next more step steps is le are =
      let words = step_words target step in
      let rest = join_with_byte 10 (drop (length steps) (next ∷ more)) in
      record {
        between = (is.between, are.between);
        turns = (le, are.turns);
        texts = and_both (is_text target step) (are_texts target steps) is.text are.texts;
        lines = line_joined piece next more words (sym is.same) ∙ ap (λ t. line words ++ t) are.lines ∙ sym (append_assoc (line words) (step_lines target steps) rest);
      }

  led_known : (least : ℕ) (piece next : List ℕ) (more : List (List ℕ)) (o : Option Step) → next_step target source least piece ≡ o
      → ((step : Step) → AreKnown target source (turn step) (next ∷ more) (steps_in target source (turn step) (next ∷ more)))
      → AreKnown target source least (piece ∷ next ∷ more) (led_by o (λ step. steps_in target source (turn step) (next ∷ more)))
  led_known least piece next more None e behind = none_known least (piece ∷ next ∷ more)
  led_known least piece next more (Some step) e behind =
      option_and_then_some (in_turn least) (step_of target source (words_of piece)) step e (λ s es f.
      let g = if_some (nat_le least (turn s)) (Some s) step f in
      let same : s ≡ step = let h = g.1 in cc in
      let le : least ≤ turn step = let test = ap (λ x. nat_le least (turn x)) (sym same) ∙ g.0 in grind (arith, nat_tests, test) in
      one_known least piece next more step (steps_in target source (turn step) (next ∷ more)) (step_known target source (words_of piece) step (es ∙ ap Some same)) le (behind step))

  pub steps_known : (least : ℕ) (pieces : List (List ℕ)) → AreKnown target source least pieces (steps_in target source least pieces)
  unfolding steps_in
  steps_known least [] = none_known least []
  steps_known least (piece ∷ []) = none_known least (piece ∷ [])
  steps_known least (piece ∷ next ∷ more) = led_known least piece next more (next_step target source least piece) refl (λ step. steps_known (turn step) (next ∷ more))

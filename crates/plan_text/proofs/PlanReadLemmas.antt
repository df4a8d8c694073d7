-- What a text says is a plan, and the text is that of this plan.
use Rattle.std.proofs.Common.{◌≡◌, ℕ, ◌+◌, ◌<◌, ◌^◌, ◌==◌, true, List, [], ◌∷◌, ◌++◌, codes, decimal, drop, length, Some, Ok, sym, ap, ◌∙◌, subst, arith, bytes_eq}
use Rattle.std.proofs.lemmas.Bool.Decides.{nat_tests}
use Rattle.std.proofs.lemmas.List.Splits.{join_with_byte-slice_split}
use Rattle.std.proofs.lemmas.Option.{option_and_then_some}
use Rattle.std.proofs.lemmas.Slice.Eq.{bytes_eq-Decides}
use Rattle.std.specs.List.{join_with_byte}
use Rattle.hex.specs.Hex.{IsBytes}
use Rattle.wal_base.proofs.DecimalLemmas.{decimal_read}
use Rattle.cluster_tree.specs.PathValue.{PathValue}
use Rattle.rewind_survey.specs.declared.outcome.Told.{Told}
use Rattle.mark_lines.specs.Words.{bytes_in, line}
use Rattle.plan_text.specs.Words.{lsn_in, sum_in}
use Rattle.plan_text.specs.Text.{Saying, bytes_line, plan_text, source_line, step_lines, told_line}
use Rattle.plan_text.specs.Reading.{Closing, behind_head, bytes_of, closing_in, control_of, said_in, sized_control, source_of, steps_in, tli_in, told_by, told_of, told_with, with_closing}
use Rattle.mark_lines.specs.Lines.{end_of, pieces_of, said_first}
use Rattle.plan_text.specs.Laws.{IsSaid, IsTold, PlansHaveOneText, ReadPlansAreSaid}
use Rattle.mark_lines.proofs.DigitReadLemmas.{bytes_known}
use Rattle.plan_text.proofs.PositionLemmas.{lsn_known}
use Rattle.mark_lines.proofs.LineReadLemmas.{end_known, first_known}
use Rattle.mark_lines.proofs.OptionLemmas.{and_then_ok, if_some, map_some}
use Rattle.plan_text.proofs.StepReadLemmas.{steps_known}
use Rattle.plan_text.proofs.SumLemmas.{sum_known}

name_is : (verb name : List ℕ) → bytes_eq verb name ≡ true → name ≡ verb
name_is verb name e = sym ((bytes_eq-Decides verb name).0 e)

-- the sum
source_known : (words : List (List ℕ)) (sum : ℕ) → source_of words ≡ Some sum → (sum < 2 ^ 32) × (line words ≡ source_line sum)
source_known [] sum e = absurd cc
source_known (verb ∷ []) sum e = absurd cc
source_known (verb ∷ word ∷ []) sum e =
    let f = if_some (bytes_eq verb (codes "source")) (sum_in word) sum e in
    let s = sum_known word sum f.1 in
    let v = name_is verb (codes "source") f.0 in
    (s.0, sym (λ i. line (v i ∷ s.1 i ∷ [])))
source_known (verb ∷ a ∷ b ∷ words) sum e = absurd cc

-- from where is rewound
tli_known : (word : List ℕ) (n : ℕ) → tli_in word ≡ Some n → (n < 2 ^ 32) × (decimal n ≡ word)
tli_known word n e = let r = decimal_read (2 ^ 32) n word (omega arith) e in (r.0, sym r.1)

told_words_known : (verb a b c d : List ℕ) (told : Told) → codes "told" ≡ verb → told_by a b c d ≡ Some told → IsTold told × (line (verb ∷ a ∷ b ∷ c ∷ d ∷ []) ≡ told_line told)
told_words_known verb a b c d told v e =
    option_and_then_some _ (tli_in a) told e (λ tli ea f. option_and_then_some _ (lsn_in b) told f (λ at eb g. option_and_then_some _ (lsn_in c) told g (λ checkpoint ec h.
    map_some (told_with tli at checkpoint) (tli_in d) told h (λ theirs ed is.
    let ta = tli_known a tli ea in
    let lb = lsn_known b at eb in
    let lc = lsn_known c checkpoint ec in
    let td = tli_known d theirs ed in
    let P : Told → Type 0 = λ t. IsTold t × (line (verb ∷ a ∷ b ∷ c ∷ d ∷ []) ≡ told_line t) in
    subst P is (record { tli = ta.0; at = lb.0; checkpoint = lc.0; theirs = td.0 }, sym (λ i. line (v i ∷ ta.1 i ∷ lb.1 i ∷ lc.1 i ∷ td.1 i ∷ [])))))))

told_known : (words : List (List ℕ)) (told : Told) → told_of words ≡ Some told → IsTold told × (line words ≡ told_line told)
told_known [] told e = absurd cc
told_known (v ∷ []) told e = absurd cc
told_known (v ∷ a ∷ []) told e = absurd cc
told_known (v ∷ a ∷ b ∷ []) told e = absurd cc
told_known (v ∷ a ∷ b ∷ c ∷ []) told e = absurd cc
told_known (v ∷ a ∷ b ∷ c ∷ d ∷ []) told e =
    let f = if_some (bytes_eq v (codes "told")) (told_by a b c d) told e in told_words_known v a b c d told (name_is v (codes "told") f.0) f.1
told_known (v ∷ a ∷ b ∷ c ∷ d ∷ f ∷ words) told e = absurd cc

-- bytes behind a word
line_known : (name : List ℕ) (words : List (List ℕ)) (bytes : List ℕ) → bytes_of name words ≡ Some bytes → IsBytes bytes × (line words ≡ bytes_line name bytes)
line_known name [] bytes e = absurd cc
line_known name (verb ∷ []) bytes e = absurd cc
line_known name (verb ∷ word ∷ []) bytes e =
    let f = if_some (bytes_eq verb name) (bytes_in word) bytes e in
    let b = bytes_known word bytes f.1 in
    let v = name_is verb name f.0 in
    (b.0, sym (λ i. line (v i ∷ b.1 i ∷ [])))
line_known name (verb ∷ a ∷ b ∷ words) bytes e = absurd cc

control_known : (words : List (List ℕ)) (bytes : List ℕ) → control_of words ≡ Some bytes → IsBytes bytes × (length bytes ≡ 8192) × (line words ≡ bytes_line (codes "control") bytes)
control_known words bytes e = option_and_then_some sized_control (bytes_of (codes "control") words) bytes e (λ b eb f.
    let g = if_some (length b == 8192) (Some b) bytes f in
    let same : b ≡ bytes = let h = g.1 in cc in
    let k = line_known (codes "control") words bytes (eb ∙ ap Some same) in
    let size : length bytes ≡ 8192 = let t = ap (λ x. length x == 8192) (sym same) ∙ g.0 in grind (arith, nat_tests, t) in
    (k.0, size, k.1))

end_line_known : (words : List (List ℕ)) (u : Unit {0}) → end_of words ≡ Some u → line words ≡ line (codes "end" ∷ [])
end_line_known [] u e = absurd cc
end_line_known (verb ∷ []) u e = let f = if_some (bytes_eq verb (codes "end")) (Some tt) u e in sym (ap (λ v. line (v ∷ [])) (name_is verb (codes "end") f.0))
end_line_known (verb ∷ a ∷ words) u e = absurd cc

-- the label, the control file and the end
record IsClosing (pieces : List (List ℕ)) (closing : Closing) : Type 0 where
  label : IsBytes closing.label
  control : IsBytes closing.control
  size : length closing.control ≡ 8192
  text : join_with_byte 10 pieces ≡ bytes_line (codes "label") closing.label ++ (bytes_line (codes "control") closing.control ++ line (codes "end" ∷ []))

closing_known : (n : ℕ) (pieces : List (List ℕ)) (closing : Closing) → closing_in n pieces ≡ Ok closing → IsClosing pieces closing
closing_known n pieces closing e =
    and_then_ok (said_first (bytes_of (codes "label")) n pieces) _ closing e (λ label el f.
    and_then_ok (said_first control_of (n + 1) label.1) _ closing f (λ control ec g.
    and_then_ok (said_first end_of (n + 2) control.1) _ closing g (λ end ee h.
    let fl = first_known (bytes_of (codes "label")) n pieces label.0 label.1 el in
    let fc = first_known control_of (n + 1) label.1 control.0 control.1 ec in
    let fe = first_known end_of (n + 2) control.1 end.0 end.1 ee in
    let l = line_known (codes "label") fl.words label.0 fl.says in
    let k = control_known fc.words control.0 fc.says in
    let last = end_known (record { label = label.0; control = control.0 }) closing (n + 3) end.1 h in
    let behind : join_with_byte 10 control.1 ≡ line (codes "end" ∷ []) =
    fe.text ∙ (λ i. end_line_known fe.words end.0 fe.says i ++ last.1 i) in
    subst (IsClosing pieces) last.0 (record {
      label = l.0;
      control = k.0;
      size = k.1;
      text = fl.text ∙ (λ i. l.1 i ++ (fc.text ∙ (λ j. k.2 j ++ behind j)) i);
    }))))

-- what stands behind the first two lines
behind_known : (target source : PathValue) (sum : ℕ) (told : Told) (pieces : List (List ℕ)) (said : Saying) (P : Saying → Type 0) → behind_head target source sum told pieces ≡ Ok said
    → ((closing : Closing) → IsClosing (drop (length (steps_in target source 0 pieces)) pieces) closing → P (with_closing sum told (steps_in target source 0 pieces) closing)) → P said
behind_known target source sum told pieces said P e k =
    let steps = steps_in target source 0 pieces in
    let rest = drop (length steps) pieces in
    and_then_ok (closing_in (length steps + 3) rest) (λ closing. Ok (with_closing sum told steps closing)) said e (λ closing ec f.
    let same : with_closing sum told steps closing ≡ said = cc in
    subst P same (k closing (closing_known (length steps + 3) rest closing ec)))

-- the whole plan
plan_known : (target source : PathValue) (pieces : List (List ℕ)) (said : Saying) → said_in target source pieces ≡ Ok said → IsSaid target source said × (join_with_byte 10 pieces ≡ plan_text target said)
unfolding said_in plan_text
plan_known target source pieces said e =
    and_then_ok (said_first source_of 1 pieces) _ said e (λ sum es f.
    and_then_ok (said_first told_of 2 sum.1) _ said f (λ told et g.
    let fs = first_known source_of 1 pieces sum.0 sum.1 es in
    let ft = first_known told_of 2 sum.1 told.0 told.1 et in
    let s = source_known fs.words sum.0 fs.says in
    let t = told_known ft.words told.0 ft.says in
    let steps = steps_in target source 0 told.1 in
    let are = steps_known target source 0 told.1 in
    behind_known target source sum.0 told.0 told.1 said (λ x. IsSaid target source x × (join_with_byte 10 pieces ≡ plan_text target x)) g (λ closing c. (
      record { sum = s.0; told = t.0; steps = are.between; turns = are.turns; texts = are.texts; label = c.label; control = c.control; size = c.size },
      fs.text ∙ (λ i. s.1 i ++ (ft.text ∙ (λ j. t.1 j ++ (are.lines ∙ ap (λ x. step_lines target steps ++ x) c.text) j)) i),
    ))))

pub all_said : ReadPlansAreSaid
all_said target source text said e = (plan_known target source (pieces_of text) said e).0

pub one_text : PlansHaveOneText
one_text target source text said e = sym (join_with_byte-slice_split 10 text) ∙ (plan_known target source (pieces_of text) said e).1

-- What was written is read again, and what is read is so written.
use Rattle.std.proofs.Common.{◌≡◌, ℕ, ◌+◌, List, [], ◌∷◌, ◌++◌, codes, drop, length, None, Some, Ok, refl, sym, ap, ◌∙◌, subst, bytes_eq, arith}
use Rattle.std.proofs.lemmas.List.Splits.{join_with_byte-slice_split}
use Rattle.std.proofs.lemmas.Slice.Eq.{bytes_eq-Decides}
use Rattle.std.specs.List.{join_with_byte}
use Rattle.cluster_tree.specs.PathValue.{PathValue}
use Rattle.mark_lines.specs.Words.{line}
use Rattle.mark_lines.specs.Lines.{and_then, end_of, ended_by, pieces_of, said_first}
use Rattle.mark_lines.proofs.LineReadLemmas.{end_known, first_known}
use Rattle.mark_lines.proofs.OptionLemmas.{and_then_ok, if_some}
use Rattle.replay_list.specs.declared.listed.Listed.{Listed}
use Rattle.replay_list.specs.Lines.{listed_lines}
use Rattle.replay_list.specs.Text.{list_text}
use Rattle.replay_list.specs.Reading.{closing_in, first_listed, front_in, listed_from}
use Rattle.replay_list.specs.Laws.{ListTextsAreRead, ListsHaveOneText, ReadListsAreListed}
use Rattle.replay_list.proofs.FrontLemmas.{closed}
use Rattle.replay_list.proofs.LineBackLemmas.{AreNext, behind_lines, front_back}
use Rattle.replay_list.proofs.LineReadLemmas.{front_known}
use Rattle.replay_list.proofs.OrderLemmas.{list_in_turn, list_of}

abbrev end_line : List ℕ
end_line = line (codes "end" ∷ [])

-- the last line says no path
no_line : (root : PathValue) (way : List ℕ) (n : ℕ) → first_listed root way n (pieces_of end_line) ≡ None
no_line root way n = refl

closing_back : (n : ℕ) → closing_in n (pieces_of end_line) ≡ Ok tt
closing_back n = refl

pub all_read : ListTextsAreRead
all_read root listed is =
    let are = list_in_turn root listed is in
    closed root (pieces_of (list_text root listed)) listed (sym (front_back root [] 0 listed end_line are (no_line root)))
    ∙ ap (λ p. and_then (closing_in (length listed + 1) p) (λ end. Ok listed)) (behind_lines root [] 0 listed end_line are)
    ∙ ap (λ r. and_then r (λ end. Ok listed)) (closing_back (length listed + 1))

-- the last line
end_line_known : (words : List (List ℕ)) (u : Unit {0}) → end_of words ≡ Some u → line words ≡ end_line
end_line_known [] u e = absurd cc
end_line_known (verb ∷ []) u e = let f = if_some (bytes_eq verb (codes "end")) (Some tt) u e in ap (λ v. line (v ∷ [])) ((bytes_eq-Decides verb (codes "end")).0 f.0)
end_line_known (verb ∷ a ∷ words) u e = absurd cc

closing_known : (n : ℕ) (pieces : List (List ℕ)) (u : Unit {0}) → closing_in n pieces ≡ Ok u → join_with_byte 10 pieces ≡ end_line
closing_known n pieces u e = and_then_ok (said_first end_of n pieces) (λ end. ended_by tt (n + 1) end.1) u e (λ end ee f.
    let first = first_known end_of n pieces end.0 end.1 ee in
    let last = end_known tt u (n + 1) end.1 f in
    first.text ∙ (λ i. end_line_known first.words end.0 first.says i ++ last.1 i))

list_known : (root : PathValue) (pieces : List (List ℕ)) (listed : List Listed) → listed_from root pieces ≡ Ok listed → AreNext root [] 0 listed × (join_with_byte 10 pieces ≡ list_text root listed)
list_known root pieces listed e =
    let front = front_in root [] 0 pieces in
    and_then_ok (closing_in (length front + 1) (drop (length front) pieces)) (λ end. Ok front) listed e (λ end ec f.
    let same : front ≡ listed = cc in
    let known = front_known root [] 0 pieces in
    let P : List Listed → Type 0 = λ l. AreNext root [] 0 l × (join_with_byte 10 pieces ≡ list_text root l) in
    subst P same (known.next (omega arith), known.lines ∙ ap (λ t. listed_lines root 0 front ++ t) (closing_known (length front + 1) (drop (length front) pieces) end ec)))

pub all_listed : ReadListsAreListed
all_listed root text listed e = list_of root listed (list_known root (pieces_of text) listed e).0

pub one_text : ListsHaveOneText
one_text root text listed e = sym (join_with_byte-slice_split 10 text) ∙ (list_known root (pieces_of text) listed e).1

-- One line more.
use Rattle.std.proofs.Common.{◌≡◌, ℕ, suc, ◌+◌, ◌<◌, arith, take, length, get_or, true, List, [], ◌∷◌, ◌++◌, refl, ap, ◌∙◌, sym, append_assoc}
use Rattle.std.proofs.Math.Seq.{take-suc}
use Rattle.std.proofs.lemmas.List.{append-nil}
use Rattle.std.proofs.lemmas.List.Elements.{All-push}
use Rattle.std.proofs.lemmas.List.Folds.{list_all-append}
use Rattle.std.specs.List.{list_all}
use Rattle.wal_base.proofs.HexDigits.{and_both}
use Rattle.cluster_tree.specs.PathValue.{PathValue}
use Rattle.mark_lines.specs.Words.{line}
use Rattle.replay_list.specs.declared.listed.Listed.{Listed}
use Rattle.replay_list.specs.Lines.{files_after, files_behind, listed_lines, listed_words}
use Rattle.replay_list.specs.Text.{IsHeld, IsSized, is_text}

pub taken_more : (listed : List Listed) (at : ℕ) (one : Listed) → at < length listed → one ≡ get_or listed at one → take (at + 1) listed ≡ take at listed ++ one ∷ []
taken_more listed at one within is =
    let next : at + 1 ≡ suc at = omega arith in
    ap (λ n. take n listed) next ∙ take-suc listed at one within ∙ ap (λ x. take at listed ++ x ∷ []) (sym is)

pub after_more : (files : ℕ) (listed : List Listed) (one : Listed) → files_after files (listed ++ one ∷ []) ≡ files_behind (files_after files listed) one
after_more files [] one = refl
after_more files (first ∷ more) one = after_more (files_behind files first) more one

pub lines_more : (root : PathValue) (files : ℕ) (listed : List Listed) (one : Listed)
    → listed_lines root files (listed ++ one ∷ []) ≡ listed_lines root files listed ++ line (listed_words root (files_after files listed) one)
lines_more root files [] one = append-nil (line (listed_words root files one))
lines_more root files (first ∷ more) one =
    ap (λ t. line (listed_words root files first) ++ t) (lines_more root (files_behind files first) more one)
    ∙ sym (append_assoc (line (listed_words root files first)) (listed_lines root (files_behind files first) more) (line (listed_words root (files_after (files_behind files first) more) one)))

pub held_more : (root : PathValue) (listed : List Listed) (one : Listed) → IsHeld root listed → is_text root one ≡ true → IsSized one → IsHeld root (listed ++ one ∷ [])
held_more root listed one held text size = record {
  texts = list_all-append (is_text root) listed (one ∷ []) ∙ and_both (list_all (is_text root) listed) (list_all (is_text root) (one ∷ [])) held.texts (and_both (is_text root one) true text refl);
  sizes = All-push IsSized listed one held.sizes size;
}

-- so the text has one line more
pub lines_added : (root : PathValue) (start old new : List ℕ) (done next : List Listed) (one : Listed) (files : ℕ) → next ≡ done ++ one ∷ [] → old ≡ start ++ listed_lines root 0 done
    → files ≡ files_after 0 done → new ≡ old ++ line (listed_words root files one) → new ≡ start ++ listed_lines root 0 next
lines_added root start old new done next one files more front count added =
    added ∙ (λ i. front i ++ line (listed_words root (count i) one)) ∙ append_assoc start (listed_lines root 0 done) (line (listed_words root (files_after 0 done) one))
    ∙ ap (λ t. start ++ t) (sym (ap (listed_lines root 0) more ∙ lines_more root 0 done one))

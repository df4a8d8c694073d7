-- Lines of a list that were written, read again.
use Rattle.std.proofs.Common.{Less, ◌≡◌, ℕ, suc, ◌<◌, ◌≤◌, ◌^◌, ◌==◌, ◌&&◌, true, List, [], ◌∷◌, ◌++◌, decimal, drop, length, None, Some, option_and_then, option_map, refl, sym, ap, ◌∙◌, arith, append_assoc, if◌then◌else◌}
use Rattle.std.proofs.lemmas.Bool.Decides.{nat_tests}
use Rattle.std.specs.Cmp.Lexicographic.{slice_cmp}
use Rattle.std.specs.Ordering.{is_lt, nat_cmp}
use Rattle.std.specs.List.{join_with_byte, list_all}
use Rattle.std.specs.Str.{is_utf8}
use Rattle.wal_base.proofs.HexDigits.{and_both}
use Rattle.cluster_tree.specs.PathValue.{PathValue, below}
use Rattle.cluster_tree.proofs.RootLemmas.{held-below}
use Rattle.mark_lines.specs.Words.{line, size_in}
use Rattle.mark_lines.specs.Paths.{parts_below, path_word, way_of}
use Rattle.mark_lines.specs.Ways.{LiesBelow}
use Rattle.mark_lines.specs.Lines.{pieces_of}
use Rattle.mark_lines.proofs.DigitLemmas.{plain_decimal, plain_path, size_back}
use Rattle.mark_lines.proofs.LineLemmas.{are_plain, first_back, is_plain, line_back, words_back}
use Rattle.mark_lines.proofs.WayBackLemmas.{parts_back}
use Rattle.replay_list.specs.declared.listed.Listed.{Listed}
use Rattle.replay_list.specs.declared.listed.Listed.TheVariants.{Folder, Page, File}
use Rattle.replay_list.specs.Areas.{is_listed}
use Rattle.replay_list.specs.Lines.{files_behind, listed_lines, listed_words, path_at, way_to}
use Rattle.replay_list.specs.Text.{IsSized, is_text}
use Rattle.replay_list.specs.Reading.{file_of, first_listed, front_in, in_place, is_count, is_this, listed_of, next_listed, page_of, path_in}
use Rattle.replay_list.proofs.FrontLemmas.{ended, led}

-- what has its place behind a way and so many files
pub record IsNext (root : PathValue) (last : List ℕ) (files : ℕ) (one : Listed) : Type 0 where
  pub placed : LiesBelow (length root.parts) root (path_at one)
  pub area : is_listed (parts_below root (path_at one)) ≡ true
  pub above : slice_cmp nat_cmp last (way_to root one) ≡ Less
  pub text : is_text root one ≡ true
  pub size : IsSized one
  pub count : files_behind files one ≤ 2 ^ 64

-- .. each behind those before it
abbrev pub AreNext : (root : PathValue) → List ℕ → ℕ → List Listed → Type 0
AreNext root last files [] = Unit {0}
AreNext root last files (one ∷ more) = IsNext root last files one × AreNext root (way_to root one) (files_behind files one) more

path_back : (root path : PathValue) → LiesBelow (length root.parts) root path → is_utf8 (way_of root path) ≡ true → path_in root (path_word root path) ≡ Some path
path_back root path is text = ap (option_map (below root)) (parts_back (length root.parts) (parts_below root path) is.way text) ∙ ap Some (sym (held-below root path is.held))

count_back : (files : ℕ) → files < 2 ^ 64 → is_count files (decimal files) ≡ true
count_back files small = ap (is_this files) (size_back files small) ∙ same
  where
    same : (files == files) ≡ true
    same = grind (arith, nat_tests)

said_back : (root : PathValue) (last : List ℕ) (files : ℕ) (one : Listed) → IsNext root last files one → listed_of root files (listed_words root files one) ≡ Some one
said_back root last files (Folder path) is = ap (option_map Folder) (path_back root path is.placed is.text)
said_back root last files (Page path size) is =
    ap (option_and_then (page_of root (path_word root path))) (size_back size is.size) ∙ ap (option_map (λ p. Page p size)) (path_back root path is.placed is.text)
said_back root last files (File path size) is =
    ap (λ b. if b then option_and_then (file_of root (path_word root path)) (size_in (decimal size)) else None) (count_back files (omega (arith, is.count)))
    ∙ ap (option_and_then (file_of root (path_word root path))) (size_back size is.size) ∙ ap (option_map (λ p. File p size)) (path_back root path is.placed is.text)

-- its words are plain
plain : (root : PathValue) (last : List ℕ) (files : ℕ) (one : Listed) → IsNext root last files one → are_plain (listed_words root files one) ≡ true
plain root last files (Folder path) is = and_both (list_all is_plain (path_word root path)) true (plain_path root path is.text) refl
plain root last files (Page path size) is =
    and_both (list_all is_plain (path_word root path)) _ (plain_path root path is.text) (and_both (list_all is_plain (decimal size)) true (plain_decimal size is.size) refl)
plain root last files (File path size) is =
    and_both (list_all is_plain (path_word root path)) _ (plain_path root path is.text)
    (and_both (list_all is_plain (decimal size)) _ (plain_decimal size is.size)
    (and_both (list_all is_plain (decimal files)) true (plain_decimal files (omega (arith, is.count))) refl))

some_words : (root : PathValue) (files : ℕ) (one : Listed) → 0 < length (listed_words root files one)
some_words root files (Folder path) = omega arith
some_words root files (Page path size) = omega arith
some_words root files (File path size) = omega arith

-- and it has its place
placed_back : (root : PathValue) (last : List ℕ) (files : ℕ) (one : Listed) → IsNext root last files one → in_place root last one ≡ Some one
placed_back root last files one is = λ i. if is.area i && is_lt (is.above i) then Some one else None

first_read : (root : PathValue) (last : List ℕ) (files : ℕ) (one : Listed) (rest : List ℕ) → IsNext root last files one
    → first_listed root last files (join_with_byte 32 (listed_words root files one) ∷ pieces_of rest) ≡ Some one
first_read root last files one rest is =
    ap (option_and_then (λ cut. next_listed root last files cut.0)) (first_back (join_with_byte 32 (listed_words root files one)) rest)
    ∙ ap (λ words. option_and_then (in_place root last) (listed_of root files words)) (words_back (listed_words root files one) (some_words root files one) (plain root last files one is))
    ∙ ap (option_and_then (in_place root last)) (said_back root last files one is)
    ∙ placed_back root last files one is

lines_cut : (root : PathValue) (last : List ℕ) (files : ℕ) (one : Listed) (more : List Listed) (rest : List ℕ) → IsNext root last files one
    → pieces_of (listed_lines root files (one ∷ more) ++ rest) ≡ join_with_byte 32 (listed_words root files one) ∷ pieces_of (listed_lines root (files_behind files one) more ++ rest)
lines_cut root last files one more rest is =
    ap pieces_of (append_assoc (line (listed_words root files one)) (listed_lines root (files_behind files one) more) rest)
    ∙ line_back (listed_words root files one) (listed_lines root (files_behind files one) more ++ rest) (plain root last files one is)

-- all lines, where no further one stands behind them
pub front_back : (root : PathValue) (last : List ℕ) (files : ℕ) (listed : List Listed) (rest : List ℕ) → AreNext root last files listed
    → ((way : List ℕ) (n : ℕ) → first_listed root way n (pieces_of rest) ≡ None) → front_in root last files (pieces_of (listed_lines root files listed ++ rest)) ≡ listed
front_back root last files [] rest are stop = ended root last files (pieces_of rest) (stop last files)
front_back root last files (one ∷ more) rest are stop =
    let text = listed_lines root (files_behind files one) more ++ rest in
    let first = led root last files (join_with_byte 32 (listed_words root files one) ∷ pieces_of text) one (first_read root last files one text are.0) in
    ap (front_in root last files) (lines_cut root last files one more rest are.0) ∙ first.1
    ∙ ap (λ l. one ∷ l) (front_back root (way_to root one) (files_behind files one) more rest are.1 stop)

pub behind_lines : (root : PathValue) (last : List ℕ) (files : ℕ) (listed : List Listed) (rest : List ℕ) → AreNext root last files listed
    → drop (length listed) (pieces_of (listed_lines root files listed ++ rest)) ≡ pieces_of rest
behind_lines root last files [] rest are = refl
behind_lines root last files (one ∷ more) rest are =
    ap (drop (suc (length more))) (lines_cut root last files one more rest are.0) ∙ behind_lines root (way_to root one) (files_behind files one) more rest are.1

-- Lines of a list that are read: each is in its place, and written so.
use Rattle.std.proofs.Common.{Ordering, Less, Equal, Greater, ◌≡◌, ℕ, ◌<◌, ◌≤◌, ◌^◌, ◌&&◌, true, List, [], ◌∷◌, ◌++◌, codes, decimal, drop, length, Option, None, Some, option_and_then, option_map, refl, sym, ap, ◌∙◌, subst, arith, append_assoc, bytes_eq}
use Rattle.std.proofs.lemmas.Bool.{and_parts}
use Rattle.std.proofs.lemmas.Bool.Decides.{nat_tests}
use Rattle.std.proofs.lemmas.Option.{option_and_then_some}
use Rattle.std.proofs.lemmas.Slice.Eq.{bytes_eq-Decides}
use Rattle.std.specs.Cmp.Lexicographic.{slice_cmp}
use Rattle.std.specs.Ordering.{is_lt, nat_cmp}
use Rattle.std.specs.List.{join_with_byte}
use Rattle.std.specs.Str.{is_utf8}
use Rattle.cluster_tree.specs.PathValue.{PathValue, below}
use Rattle.mark_lines.specs.Words.{line, size_in, words_of}
use Rattle.mark_lines.specs.Paths.{parts_below, parts_in, path_word, way_of}
use Rattle.mark_lines.specs.Ways.{LiesBelow}
use Rattle.mark_lines.specs.Lines.{led_by}
use Rattle.mark_lines.proofs.DigitReadLemmas.{size_known}
use Rattle.mark_lines.proofs.LineReadLemmas.{line_joined}
use Rattle.mark_lines.proofs.OptionLemmas.{if_some, map_some}
use Rattle.mark_lines.proofs.WayReadLemmas.{parts_known}
use Rattle.replay_list.specs.declared.listed.Listed.{Listed}
use Rattle.replay_list.specs.declared.listed.Listed.TheVariants.{Folder, Page, File}
use Rattle.replay_list.specs.Areas.{is_listed}
use Rattle.replay_list.specs.Lines.{files_behind, listed_lines, listed_words, path_at, way_to}
use Rattle.replay_list.specs.Text.{IsSized, is_text}
use Rattle.replay_list.specs.Reading.{counted, file_of, front_in, has_place, in_place, is_count, is_this, listed_of, next_listed, page_of, path_in, pathed, sized}
use Rattle.replay_list.proofs.LineBackLemmas.{AreNext}

-- a path that a word says
record IsPath (root : PathValue) (word : List ℕ) (path : PathValue) : Type 0 where
  placed : LiesBelow (length root.parts) root path
  text : is_utf8 (way_of root path) ≡ true
  digits : path_word root path ≡ word

path_known : (root : PathValue) (word : List ℕ) (path : PathValue) → path_in root word ≡ Some path → IsPath root word path
path_known root word path e = map_some (below root) (parts_in (length root.parts) word) path e (λ parts ep is.
    let p = parts_known (length root.parts) root word parts ep in
    subst (IsPath root word) is (record { placed = p.placed; text = p.text; digits = p.digits }))

-- what is known of what words say
record IsKnown (root : PathValue) (files : ℕ) (words : List (List ℕ)) (one : Listed) : Type 0 where
  placed : LiesBelow (length root.parts) root (path_at one)
  text : is_text root one ≡ true
  size : IsSized one
  count : files ≤ 2 ^ 64 → files_behind files one ≤ 2 ^ 64
  same : listed_words root files one ≡ words

module _ (root : PathValue) (files : ℕ) where
  verb_is : (verb name : List ℕ) → bytes_eq verb name ≡ true → name ≡ verb
  verb_is verb name e = sym ((bytes_eq-Decides verb name).0 e)

  pathed_known : (verb word : List ℕ) (one : Listed) → pathed root verb word ≡ Some one → IsKnown root files (verb ∷ word ∷ []) one
  pathed_known verb word one e =
      let f = if_some (bytes_eq verb (codes "folder")) (option_map Folder (path_in root word)) one e in
      let v = verb_is verb (codes "folder") f.0 in
      map_some Folder (path_in root word) one f.1 (λ path ep is.
      let p = path_known root word path ep in
      subst (IsKnown root files (verb ∷ word ∷ [])) is (record { placed = p.placed; text = p.text; size = tt; count = λ h. h; same = λ i. v i ∷ p.digits i ∷ [] }))

  sized_known : (verb word size : List ℕ) (one : Listed) → sized root verb word size ≡ Some one → IsKnown root files (verb ∷ word ∷ size ∷ []) one
  sized_known verb word size one e =
      let f = if_some (bytes_eq verb (codes "page")) (option_and_then (page_of root word) (size_in size)) one e in
      let v = verb_is verb (codes "page") f.0 in
      option_and_then_some (page_of root word) (size_in size) one f.1 (λ n en g. map_some (λ p. Page p n) (path_in root word) one g (λ path ep is.
      let p = path_known root word path ep in
      let s = size_known size n en in
      subst (IsKnown root files (verb ∷ word ∷ size ∷ [])) is (record { placed = p.placed; text = p.text; size = s.0; count = λ h. h; same = λ i. v i ∷ p.digits i ∷ s.1 i ∷ [] })))

  count_by : (word : List ℕ) (o : Option ℕ) → size_in word ≡ o → is_this files o ≡ true → (files < 2 ^ 64) × (decimal files ≡ word)
  count_by word None e h = absurd cc
  count_by word (Some n) e h =
      let same : n ≡ files = grind (arith, nat_tests, h) in
      size_known word files (e ∙ ap Some same)

  counted_known : (verb word size count : List ℕ) (one : Listed) → counted root files verb word size count ≡ Some one → IsKnown root files (verb ∷ word ∷ size ∷ count ∷ []) one
  counted_known verb word size count one e =
      let f = if_some (bytes_eq verb (codes "file") && is_count files count) (option_and_then (file_of root word) (size_in size)) one e in
      let both = and_parts (bytes_eq verb (codes "file")) (is_count files count) f.0 in
      let v = verb_is verb (codes "file") both.0 in
      let k = count_by count (size_in count) refl both.1 in
      option_and_then_some (file_of root word) (size_in size) one f.1 (λ n en g. map_some (λ p. File p n) (path_in root word) one g (λ path ep is.
      let p = path_known root word path ep in
      let s = size_known size n en in
      subst (IsKnown root files (verb ∷ word ∷ size ∷ count ∷ [])) is
      (record { placed = p.placed; text = p.text; size = s.0; count = λ h. omega (arith, k.0); same = λ i. v i ∷ p.digits i ∷ s.1 i ∷ k.1 i ∷ [] })))

  said_known : (words : List (List ℕ)) (one : Listed) → listed_of root files words ≡ Some one → IsKnown root files words one
  said_known [] one e = absurd cc
  said_known (a ∷ []) one e = absurd cc
  said_known (a ∷ b ∷ []) one e = pathed_known a b one e
  said_known (a ∷ b ∷ c ∷ []) one e = sized_known a b c one e
  said_known (a ∷ b ∷ c ∷ d ∷ []) one e = counted_known a b c d one e
  said_known (a ∷ b ∷ c ∷ d ∷ f ∷ words) one e = absurd cc

less_is : (o : Ordering) → is_lt o ≡ true → o ≡ Less
less_is Less e = refl
less_is Equal e = absurd cc
less_is Greater e = absurd cc

-- what is known of the lines at the front
pub record AreKnown (root : PathValue) (last : List ℕ) (files : ℕ) (pieces : List (List ℕ)) (listed : List Listed) : Type 0 where
  pub next : files ≤ 2 ^ 64 → AreNext root last files listed
  pub lines : join_with_byte 10 pieces ≡ listed_lines root files listed ++ join_with_byte 10 (drop (length listed) pieces)

module _ (root : PathValue) where
  none_known : (last : List ℕ) (files : ℕ) (pieces : List (List ℕ)) → AreKnown root last files pieces []
  none_known last files pieces = record { next = λ h. tt; lines = refl }

  one_known : (last : List ℕ) (files : ℕ) (piece next : List ℕ) (more : List (List ℕ)) (one : Listed) (listed : List Listed) → IsKnown root files (words_of piece) one
      → has_place root last (path_at one) ≡ true → AreKnown root (way_to root one) (files_behind files one) (next ∷ more) listed
      → AreKnown root last files (piece ∷ next ∷ more) (one ∷ listed)
  one_known last files piece next more one listed is has are =
      let words = listed_words root files one in
      let rest = join_with_byte 10 (drop (length listed) (next ∷ more)) in
      let place = and_parts (is_listed (parts_below root (path_at one))) (is_lt (slice_cmp nat_cmp last (way_to root one))) has in
      record {
        next = λ h. (
          record { placed = is.placed; area = place.0; above = less_is (slice_cmp nat_cmp last (way_to root one)) place.1; text = is.text; size = is.size; count = is.count h },
          are.next (is.count h),
        );
        lines = line_joined piece next more words (sym is.same) ∙ ap (λ t. line words ++ t) are.lines
            ∙ sym (append_assoc (line words) (listed_lines root (files_behind files one) listed) rest);
      }

  led_known : (last : List ℕ) (files : ℕ) (piece next : List ℕ) (more : List (List ℕ)) (o : Option Listed) → next_listed root last files piece ≡ o
      → ((one : Listed) → AreKnown root (way_to root one) (files_behind files one) (next ∷ more) (front_in root (way_to root one) (files_behind files one) (next ∷ more)))
      → AreKnown root last files (piece ∷ next ∷ more) (led_by o (λ one. front_in root (way_to root one) (files_behind files one) (next ∷ more)))
  led_known last files piece next more None e behind = none_known last files (piece ∷ next ∷ more)
  led_known last files piece next more (Some one) e behind =
      option_and_then_some (in_place root last) (listed_of root files (words_of piece)) one e (λ l el f.
      let g = if_some (has_place root last (path_at l)) (Some l) one f in
      let same : l ≡ one = let h = g.1 in cc in
      one_known last files piece next more one (front_in root (way_to root one) (files_behind files one) (next ∷ more)) (said_known root files (words_of piece) one (el ∙ ap Some same))
      (ap (λ x. has_place root last (path_at x)) (sym same) ∙ g.0) (behind one))

  pub front_known : (last : List ℕ) (files : ℕ) (pieces : List (List ℕ)) → AreKnown root last files pieces (front_in root last files pieces)
  unfolding front_in
  front_known last files [] = none_known last files []
  front_known last files (piece ∷ []) = none_known last files (piece ∷ [])
  front_known last files (piece ∷ next ∷ more) = led_known last files piece next more (next_listed root last files piece) refl (λ one. front_known (way_to root one) (files_behind files one) (next ∷ more))

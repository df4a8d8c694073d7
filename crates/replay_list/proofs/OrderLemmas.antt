-- A list below a root, and what each of its lines knows of those before it.
use Rattle.std.proofs.Common.{Less, ◌≡◌, ℕ, ◌≤◌, ◌^◌, true, List, [], ◌∷◌, length, refl, arith}
use Rattle.std.proofs.lemmas.Bool.{and_parts}
use Rattle.std.proofs.lemmas.Cmp.{nat_list_cmp_total}
use Rattle.std.proofs.lemmas.List.Elements.{All-cons, All-head, All-nil, All-tail}
use Rattle.std.specs.Cmp.Lexicographic.{slice_cmp}
use Rattle.std.specs.Ordering.{nat_cmp}
use Rattle.std.specs.List.{All, AllByRecursion, join_with_byte, list_all}
use Rattle.std.specs.List.Sorted.{IsStrictlySortedBy}
use Rattle.wal_base.proofs.HexDigits.{and_both}
use Rattle.cluster_tree.specs.PathValue.{PathValue, is_part}
use Rattle.mark_lines.specs.Paths.{parts_below}
use Rattle.mark_lines.specs.Ways.{LiesBelow, MakeWay}
use Rattle.replay_list.specs.declared.listed.Listed.{Listed}
use Rattle.replay_list.specs.declared.listed.Listed.TheVariants.{Folder, Page, File}
use Rattle.replay_list.specs.Areas.{is_listed}
use Rattle.replay_list.specs.Lines.{files_after, files_behind, path_at, way_to, ways_to}
use Rattle.replay_list.specs.Text.{IsSized, is_text}
use Rattle.replay_list.specs.Laws.{IsListOf}
use Rattle.replay_list.proofs.LineBackLemmas.{AreNext}

-- a count never falls
least_behind : (files : ℕ) (one : Listed) → files ≤ files_behind files one
least_behind files (Folder path) = omega arith
least_behind files (Page path size) = omega arith
least_behind files (File path size) = omega arith

least_after : (files : ℕ) (listed : List Listed) → files ≤ files_after files listed
least_after files [] = omega arith
least_after files (one ∷ more) = omega (arith, least_behind files one, least_after (files_behind files one) more)

-- no way is empty
some_text : (part : List ℕ) (parts : List (List ℕ)) → is_part part ≡ true → slice_cmp nat_cmp [] (join_with_byte 47 (part ∷ parts)) ≡ Less
some_text [] parts h = absurd cc
some_text (b ∷ bs) [] h = refl
some_text (b ∷ bs) (next ∷ parts) h = refl

above_none : (room : ℕ) (parts : List (List ℕ)) → MakeWay room parts → slice_cmp nat_cmp [] (join_with_byte 47 parts) ≡ Less
above_none room [] is = absurd (omega (arith, is.some))
above_none room (part ∷ parts) is = some_text part parts (and_parts (is_part part) (list_all is_part parts) is.proper).0

-- a list whose lines are each in their place
record AreInPlace (root : PathValue) (last : List ℕ) (files : ℕ) (listed : List Listed) : Type 0 where
  placed : All (λ l. LiesBelow (length root.parts) root (path_at l)) listed
  areas : list_all (λ l. is_listed (parts_below root (path_at l))) listed ≡ true
  ascending : IsStrictlySortedBy (slice_cmp nat_cmp) (last ∷ ways_to root listed)
  texts : list_all (is_text root) listed ≡ true
  sizes : All IsSized listed
  counts : files_after files listed ≤ 2 ^ 64

module _ (root : PathValue) where
  in_turn : (last : List ℕ) (files : ℕ) (listed : List Listed) → AreInPlace root last files listed → AreNext root last files listed
  unfolding IsStrictlySortedBy
  in_turn last files [] are = tt
  in_turn last files (one ∷ more) are =
      let a = and_parts (is_listed (parts_below root (path_at one))) (list_all (λ l. is_listed (parts_below root (path_at l))) more) are.areas in
      let t = and_parts (is_text root one) (list_all (is_text root) more) are.texts in
      let sizes = are.sizes in
      let placed = are.placed in (
        record {
          placed = All-head (λ l. LiesBelow (length root.parts) root (path_at l)) one more placed;
          area = a.0;
          above = are.ascending.0.0;
          text = t.0;
          size = All-head IsSized one more sizes;
          count = omega (arith, are.counts, least_after (files_behind files one) more);
        },
        in_turn (way_to root one) (files_behind files one) more (record {
          placed = All-tail (λ l. LiesBelow (length root.parts) root (path_at l)) one more placed;
          areas = a.1;
          ascending = are.ascending.1;
          texts = t.1;
          sizes = All-tail IsSized one more sizes;
          counts = are.counts;
        }),
      )

  all_above : (low high : List ℕ) (ways : List (List ℕ)) → slice_cmp nat_cmp low high ≡ Less → AllByRecursion (λ y. slice_cmp nat_cmp high y ≡ Less) ways → AllByRecursion (λ y. slice_cmp nat_cmp low y ≡ Less) ways
  all_above low high [] less above = tt
  all_above low high (way ∷ ways) less above = (nat_list_cmp_total.trans low high way less above.0, all_above low high ways less above.1)

  placed_all : (last : List ℕ) (files : ℕ) (listed : List Listed) → files ≤ 2 ^ 64 → AreNext root last files listed → AreInPlace root last files listed
  unfolding IsStrictlySortedBy
  placed_all last files [] low are = record { placed = All-nil (λ l. LiesBelow (length root.parts) root (path_at l)); areas = refl; ascending = (tt, tt); texts = refl; sizes = All-nil IsSized; counts = low }
  placed_all last files (one ∷ more) low are =
      let first = are.0 in
      let rest = placed_all (way_to root one) (files_behind files one) more first.count are.1 in
      record {
        placed = All-cons (λ l. LiesBelow (length root.parts) root (path_at l)) one more first.placed rest.placed;
        areas = and_both (is_listed (parts_below root (path_at one))) (list_all (λ l. is_listed (parts_below root (path_at l))) more) first.area rest.areas;
        ascending = ((first.above, all_above last (way_to root one) (ways_to root more) first.above rest.ascending.0), rest.ascending);
        texts = and_both (is_text root one) (list_all (is_text root) more) first.text rest.texts;
        sizes = All-cons IsSized one more first.size rest.sizes;
        counts = rest.counts;
      }

  above_nothing : (listed : List Listed) → All (λ l. LiesBelow (length root.parts) root (path_at l)) listed → AllByRecursion (λ y. slice_cmp nat_cmp [] y ≡ Less) (ways_to root listed)
  above_nothing [] placed = tt
  above_nothing (one ∷ more) placed = (
    above_none (length root.parts) (parts_below root (path_at one)) (All-head (λ l. LiesBelow (length root.parts) root (path_at l)) one more placed).way,
    above_nothing more (All-tail (λ l. LiesBelow (length root.parts) root (path_at l)) one more placed),
  )

  pub list_in_turn : (listed : List Listed) → IsListOf root listed → AreNext root [] 0 listed
  unfolding IsStrictlySortedBy
  list_in_turn listed is = in_turn [] 0 listed (record {
    placed = is.placed;
    areas = is.areas;
    ascending = (above_nothing listed is.placed, is.ascending);
    texts = is.held.texts;
    sizes = is.held.sizes;
    counts = is.counts;
  })

  pub list_of : (listed : List Listed) → AreNext root [] 0 listed → IsListOf root listed
  unfolding IsStrictlySortedBy
  list_of listed are =
      let all = placed_all [] 0 listed (omega arith) are in
      record {
        placed = all.placed;
        areas = all.areas;
        ascending = all.ascending.1;
        held = record { texts = all.texts; sizes = all.sizes };
        counts = all.counts;
      }

-- The states of blocks once a relation is cut.
use Rattle.std.proofs.Common.{◌≡◌, ◌≢◌, ℕ, ◌+◌, ◌/◌, ◌%◌, ◌*◌, ◌<◌, ◌^◌, ◌==◌, Bool, true, false, ◌&&◌, List, [], ◌∷◌, length, Option, None, Some, is_some, Ok, refl, ap, sym, subst, ◌∙◌, ⊎_elim, true≢false, arith}
use Rattle.std.specs.Prelude.{if◌then◌else◌}
use Rattle.std.specs.Option.{option_map}
use Rattle.block_refs.specs.declared.names.BlockName.{BlockName}
use Rattle.block_refs.specs.declared.names.Fork.{Fork}
use Rattle.block_refs.specs.declared.names.Fork.TheVariants.{Main, Visibility}
use Rattle.block_refs.specs.declared.names.RelName.{RelName}
use Rattle.cluster_tree.specs.PathValue.{PathValue, Holds, below}
use Rattle.cluster_tree.specs.Causes.{given}
use Rattle.cluster_tree.specs.Contents.{Contents, Entry, FileEntry, IsTree, entry_at, is_folder, parent}
use Rattle.cluster_tree.specs.Tree.{bytes_at}
use Rattle.cluster_tree.proofs.ContentsLemmas.{entry-put_other}
use Rattle.file_edits.specs.Asking.{file_asked}
use Rattle.file_edits.specs.Edits.{edited, file_cut, file_edited, way_for, way_made}
use Rattle.file_edits.proofs.CutLemmas.{cut-elsewhere}
use Rattle.file_edits.proofs.LawLemmas.{edited-elsewhere}
use Rattle.file_edits.proofs.WayLemmas.{way-ready}
use Rattle.relation_files.specs.Names.{name_of}
use Rattle.relation_files.specs.Paths.{relation_file, relation_folder}
use Rattle.relation_files.proofs.PathLemmas.{file-is_held, file-is_deeper}
use Rattle.storage_replay.specs.Changes.{created, cuts_main, cuts_map, main_by, main_cut, map_by, truncated}
use Rattle.storage_replay.specs.Cutting.{files_cut, files_swept, fork_cut, is_longer}
use Rattle.storage_replay.specs.Lengths.{fork_length, has_block, most_blocks}
use Rattle.storage_replay.specs.MapBits.{bits_edited, fill_pages, map_cut, map_cut_in_page, map_edited, map_in_file, map_page}
use Rattle.storage_replay.specs.declared.map_edit.MapEdit.TheVariants.{Cut}
use Rattle.storage_replay.specs.declared.sweep.Sweep.TheVariants.{Empty}
use Rattle.storage_laws.specs.After.{cut_state, edited_state, main_by_state, map_by_state, map_cut_state, page_edited, truncated_state}
use Rattle.storage_laws.specs.Forks.{HasNoGap}
use Rattle.storage_laws.specs.Names.{IsBlock, IsRel, block_of, in_fork, same_files}
use Rattle.storage_laws.specs.States.{block_in}
use Rattle.storage_laws.proofs.CutLemmas.{cut-other_state, folder-apart}
use Rattle.storage_laws.proofs.EditedLemmas.{created-is, given-done}
use Rattle.storage_laws.proofs.ForkLemmas.{cut-whole_of, map-whole}
use Rattle.storage_laws.proofs.NumberLemmas.{by_test}
use Rattle.storage_laws.proofs.SweepLemmas.{Lies, cut-nothing, parent-is, sweep-keeps, sweep-nothing, tree-lies}

-- the folder of a relation is there once a file in it was edited

no_folder : (o : Option Entry) → o ≡ None → is_folder o ≡ true → ⊥
no_folder o none there = true≢false (sym there ∙ ap is_folder none)

folder_made : (root path : PathValue) (edit : List ℕ → List ℕ) (c d : Contents) → Holds root path → length root.parts < length path.parts → parent path ≢ path → entry_at c path ≡ None → file_edited root path edit c ≡ Ok d → is_folder (entry_at d (parent path)) ≡ true
unfolding file_edited
folder_made root path edit c d held deeper apart none made =
    let two = given-done (given (file_asked path (entry_at c path)) (way_for root path c)) (λ e. Ok (edited path edit e)) d made in
    let way : way_made root path c ≡ Ok two.0 = sym (ap (λ o. given (file_asked path o) (way_for root path c)) none) ∙ two.1 in
    let last : Ok (edited path edit two.0) ≡ Ok d = two.2 in
    let same : edited path edit two.0 ≡ d = cc in
    ap (λ x. is_folder (entry_at x (parent path))) (sym same)
    ∙ ap is_folder (entry-put_other two.0 path (parent path) (FileEntry (edit (bytes_at two.0 path))) apart)
    ∙ (way-ready root path c two.0 held deeper way).1

edited_lies : (root : PathValue) (rel : RelName) (fork : Fork) (segment : ℕ) (edit : List ℕ → List ℕ) (c d : Contents) → Lies root rel c → file_edited root (relation_file root rel fork segment) edit c ≡ Ok d → Lies root rel d
edited_lies root rel fork segment edit c d lies made none name =
    let path : PathValue = relation_file root rel fork segment in
    let own : parent path ≡ relation_folder root rel = parent-is (relation_folder root rel) (name_of rel.relation fork segment) in
    let apart : relation_folder root rel ≢ path = folder-apart (relation_folder root rel) (name_of rel.relation fork segment) in
    let there : entry_at c path ≡ None → is_folder (entry_at d (relation_folder root rel)) ≡ true = λ absent.
    ap (λ p. is_folder (entry_at d p)) (sym own)
    ∙ folder_made root path edit c d (file-is_held root path rel fork segment refl) (file-is_deeper root path rel fork segment refl) (λ e. apart (sym own ∙ e)) absent made in
    absurd (⊎_elim
    (λ same. no_folder (entry_at d (relation_folder root rel)) none (there (lies (sym same ∙ none) (name_of rel.relation fork segment))))
    (λ new. no_folder (entry_at d (relation_folder root rel)) none (ap is_folder new.2))
    (edited-elsewhere root path edit c d (relation_folder root rel) made apart))

-- and where a fork was cut

cut_lies : (root : PathValue) (per : ℕ) (rel : RelName) (fork : Fork) (blocks : ℕ) (c d : Contents) → Lies root rel c → fork_cut root per rel fork blocks c ≡ Ok d → Lies root rel d
unfolding fork_cut files_cut
cut_lies root per rel fork blocks c d lies made =
    let two = given-done (fork_length root per rel fork c) (λ o. if is_longer blocks o then files_cut root per rel fork blocks c else Ok c) d made in
    by (is_longer blocks two.0) two.2
  where
    cut : files_cut root per rel fork blocks c ≡ Ok d → Lies root rel d
    cut run none name =
        let path : PathValue = relation_file root rel fork (blocks / per) in
        let steps = given-done (file_cut path (blocks % per * 8192) c) (files_swept root (Empty fork (blocks / per)) rel) d run in
        let before : entry_at c (relation_folder root rel) ≡ entry_at steps.0 (relation_folder root rel) = sym (cut-elsewhere path (blocks % per * 8192) c steps.0 (relation_folder root rel) steps.1 (folder-apart (relation_folder root rel) (name_of rel.relation fork (blocks / per)))) in
        let after : entry_at steps.0 (relation_folder root rel) ≡ entry_at d (relation_folder root rel) = sym (sweep-keeps root (Empty fork (blocks / per)) rel steps.0 d (relation_folder root rel) steps.2 (λ n is. folder-apart (relation_folder root rel) n)) in
        let absent = lies (before ∙ after ∙ none) in
        let first : c ≡ steps.0 = cut-nothing path (blocks % per * 8192) c steps.0 (absent (name_of rel.relation fork (blocks / per))) steps.1 in
        let second : steps.0 ≡ d = sweep-nothing root (Empty fork (blocks / per)) rel steps.0 d (after ∙ none) steps.2 in
        ap (λ x. entry_at x (below (relation_folder root rel) (name ∷ []))) (sym (first ∙ second)) ∙ absent name

    by : (t : Bool) → (if t then files_cut root per rel fork blocks c else Ok c) ≡ Ok d → Lies root rel d
    by true run = cut run
    by false run = let same : c ≡ d = cc in subst (Lies root rel) same lies

-- forks whose blocks are there alike

pub gapless-alike : (root : PathValue) (per : ℕ) (rel : RelName) (fork : Fork) (c d : Contents) → ((b : ℕ) → b < most_blocks → is_some (block_in root per (block_of rel fork b) d) ≡ is_some (block_in root per (block_of rel fork b) c)) → HasNoGap root per rel fork c → HasNoGap root per rel fork d
gapless-alike root per rel fork c d alike gapless block next l m there = alike block (omega (arith, l, m)) ∙ gapless block next l m (sym (alike next m) ∙ there)

other_fork : (rel : RelName) (b blocks : ℕ) (old : Option (List ℕ)) → cut_state rel Main blocks (block_of rel Visibility b) old ≡ old
other_fork rel b blocks old = cut-other_state rel Main blocks (block_of rel Visibility b) old (never (same_files rel rel))
  where
    never : (t : Bool) → (t && false) ≡ false
    never true = refl
    never false = refl

-- the main fork

record MainCut (root : PathValue) (per : ℕ) (rel : RelName) (blocks flags : ℕ) (c e : Contents) : Type 0 where
  states : (x : BlockName) → IsBlock x → block_in root per x e ≡ main_by_state rel blocks flags x (block_in root per x c)
  lies : Lies root rel e

main-is : (root : PathValue) (per : ℕ) (rel : RelName) (blocks flags : ℕ) (c e : Contents) → 0 < per → IsRel rel → blocks < 2 ^ 32 → Lies root rel c → HasNoGap root per rel Main c → main_by root per rel blocks flags c ≡ Ok e → MainCut root per rel blocks flags c e
unfolding main_cut
main-is root per rel blocks flags c e some small low lies gapless made = by_test (cuts_main flags)
    (λ cuts.
    let run : main_cut root per rel blocks c ≡ Ok e = sym (ap (λ t. if t then main_cut root per rel blocks c else Ok c) cuts) ∙ made in
    let two = given-done (created root rel Main c) (fork_cut root per rel Main blocks) e run in
    let kept : (x : BlockName) → block_in root per x two.0 ≡ block_in root per x c = λ x. created-is root per rel Main x c two.0 two.1 in
    let on : Lies root rel two.0 = edited_lies root rel Main 0 (λ bytes. bytes) c two.0 lies two.1 in
    let whole = gapless-alike root per rel Main c two.0 (λ b l. ap is_some (kept (block_of rel Main b))) gapless in
    record {
      states = λ x small_x.
          cut-whole_of root per rel Main blocks x two.0 e some small small_x low on whole two.2
          ∙ ap (cut_state rel Main blocks x) (kept x)
          ∙ sym (ap (λ t. if t then cut_state rel Main blocks x (block_in root per x c) else block_in root per x c) cuts);
      lies = cut_lies root per rel Main blocks two.0 e on two.2;
    })
    (λ stays.
    let both : Ok c ≡ Ok e = sym (ap (λ t. if t then main_cut root per rel blocks c else Ok c) stays) ∙ made in
    let same : c ≡ e = cc in
    record {
      states = λ x small_x. ap (block_in root per x) (sym same) ∙ sym (ap (λ t. if t then cut_state rel Main blocks x (block_in root per x c) else block_in root per x c) stays);
      lies = subst (Lies root rel) same lies;
    })

-- the map

pub page_there : (t : Bool) (f : List ℕ → List ℕ) (old : Option (List ℕ)) → is_some (if t then option_map f old else old) ≡ is_some old
page_there true f None = refl
page_there true f (Some bytes) = refl
page_there false f old = refl

map_lies : (root : PathValue) (per : ℕ) (rel : RelName) (blocks : ℕ) (c e : Contents) → Lies root rel c → map_edited root per rel blocks Cut c ≡ Ok e → Lies root rel e
unfolding map_edited
map_lies root per rel blocks c e lies run =
    let has = given-done (has_block root per rel Visibility (map_page blocks) c) (λ t. if t then map_in_file root per rel blocks Cut c else Ok c) e run in
    by has.0 has.2
  where
    by : (t : Bool) → (if t then map_in_file root per rel blocks Cut c else Ok c) ≡ Ok e → Lies root rel e
    by true edits = edited_lies root rel Visibility (map_page blocks / per) (bits_edited per blocks Cut) c e lies edits
    by false stays = let same : c ≡ e = cc in subst (Lies root rel) same lies

module _ (root : PathValue) (per : ℕ) (rel : RelName) (blocks : ℕ) (other : BlockName) (c d : Contents) (some : 0 < per) (small : IsRel rel) (few : IsBlock other) (low : blocks < 2 ^ 32) (lies : Lies root rel c) (gapless : HasNoGap root per rel Visibility c) where
  in_page : map_cut_in_page root per rel blocks c ≡ Ok d → block_in root per other d ≡ cut_state rel Visibility (map_page blocks + 1) other (edited_state rel blocks Cut other (block_in root per other c))
  unfolding map_cut_in_page
  in_page made =
      let two = given-done (map_edited root per rel blocks Cut c) (fork_cut root per rel Visibility (map_page blocks + 1)) d made in
      let states : (x : BlockName) → IsBlock x → block_in root per x two.0 ≡ edited_state rel blocks Cut x (block_in root per x c) = λ x small_x. map-whole root per rel blocks Cut x c two.0 some small small_x low gapless two.1 in
      let whole = gapless-alike root per rel Visibility c two.0 (λ b l. ap is_some (states (block_of rel Visibility b) (record { rel = small; block = l })) ∙ page_there (in_fork rel Visibility (block_of rel Visibility b) && (map_page blocks == b)) (page_edited Cut blocks) (block_in root per (block_of rel Visibility b) c)) gapless in
      cut-whole_of root per rel Visibility (map_page blocks + 1) other two.0 d some small few (omega (arith, low)) (map_lies root per rel blocks c two.0 lies two.1) whole two.2
      ∙ ap (cut_state rel Visibility (map_page blocks + 1) other) (states other few)

  map-cut_is : map_cut root per rel blocks c ≡ Ok d → block_in root per other d ≡ map_cut_state rel blocks other (block_in root per other c)
  map-cut_is made = by_test (fill_pages blocks)
      (λ fills.
      cut-whole_of root per rel Visibility (map_page blocks) other c d some small few (omega (arith, low)) lies gapless (sym (ap (λ t. if t then fork_cut root per rel Visibility (map_page blocks) c else map_cut_in_page root per rel blocks c) fills) ∙ made)
      ∙ sym (ap which fills))
      (λ part.
      in_page (sym (ap (λ t. if t then fork_cut root per rel Visibility (map_page blocks) c else map_cut_in_page root per rel blocks c) part) ∙ made)
      ∙ sym (ap which part))
    where
      which : Bool → Option (List ℕ)
      which t = if t then cut_state rel Visibility (map_page blocks) other (block_in root per other c) else cut_state rel Visibility (map_page blocks + 1) other (edited_state rel blocks Cut other (block_in root per other c))

  pub map-by_is : (flags : ℕ) → map_by root per rel blocks flags c ≡ Ok d → block_in root per other d ≡ map_by_state rel blocks flags other (block_in root per other c)
  map-by_is flags made = by_test (cuts_map flags)
      (λ cuts.
      map-cut_is (sym (ap (λ t. if t then map_cut root per rel blocks c else Ok c) cuts) ∙ made)
      ∙ sym (ap (λ t. if t then map_cut_state rel blocks other (block_in root per other c) else block_in root per other c) cuts))
      (λ stays.
      let both : Ok c ≡ Ok d = sym (ap (λ t. if t then map_cut root per rel blocks c else Ok c) stays) ∙ made in
      let same : c ≡ d = cc in
      ap (block_in root per other) (sym same) ∙ sym (ap (λ t. if t then map_cut_state rel blocks other (block_in root per other c) else block_in root per other c) stays))

-- a relation

pub truncated-is : (root : PathValue) (per : ℕ) (rel : RelName) (blocks flags : ℕ) (other : BlockName) (c d : Contents)
    → 0 < per → IsRel rel → IsBlock other → blocks < 2 ^ 32 → IsTree c
    → HasNoGap root per rel Main c → HasNoGap root per rel Visibility c
    → truncated root per rel blocks flags c ≡ Ok d
    → block_in root per other d ≡ truncated_state rel blocks flags other (block_in root per other c)
unfolding truncated
truncated-is root per rel blocks flags other c d some small few low tree main map made =
    let two = given-done (main_by root per rel blocks flags c) (map_by root per rel blocks flags) d made in
    let first = main-is root per rel blocks flags c two.0 some small low (tree-lies root rel c tree) main two.1 in
    let kept : (b : ℕ) → b < most_blocks → block_in root per (block_of rel Visibility b) two.0 ≡ block_in root per (block_of rel Visibility b) c = λ b l.
    first.states (block_of rel Visibility b) (record { rel = small; block = l }) ∙ by (cuts_main flags) b in
    let whole = gapless-alike root per rel Visibility c two.0 (λ b l. ap is_some (kept b l)) map in
    map-by_is root per rel blocks other two.0 d some small few low first.lies whole flags two.2
    ∙ ap (map_by_state rel blocks flags other) (first.states other few)
  where
    by : (t : Bool) (b : ℕ) → (if t then cut_state rel Main blocks (block_of rel Visibility b) (block_in root per (block_of rel Visibility b) c) else block_in root per (block_of rel Visibility b) c) ≡ block_in root per (block_of rel Visibility b) c
    by true b = other_fork rel b blocks (block_in root per (block_of rel Visibility b) c)
    by false b = refl

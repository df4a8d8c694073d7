-- The states of blocks once a fork is cut, or a relation dropped.
use Rattle.std.proofs.Common.{◌≡◌, ◌≢◌, ℕ, ◌+◌, ◌*◌, ◌/◌, ◌%◌, ◌<◌, ◌≤◌, ◌^◌, ◌==◌, Bool, true, false, not, ◌&&◌, nat_lt, List, [], ◌∷◌, length, take, Option, None, Some, Ok, refl, ap, ap₂, sym, ◌∙◌, true≢false, arith}
use Rattle.std.specs.Prelude.{if◌then◌else◌}
use Rattle.std.proofs.lemmas.List.{append_cancel_left, length-append}
use Rattle.block_refs.specs.declared.names.BlockName.{BlockName}
use Rattle.block_refs.specs.declared.names.Fork.{Fork}
use Rattle.block_refs.specs.declared.names.RelName.{RelName}
use Rattle.cluster_tree.specs.PathValue.{PathValue, below}
use Rattle.cluster_tree.specs.Contents.{Contents, IsTree, entry_at}
use Rattle.cluster_tree.specs.Tree.{bytes_in, bytes_at}
use Rattle.file_edits.specs.Edits.{file_cut}
use Rattle.file_edits.proofs.CutLemmas.{cut-elsewhere}
use Rattle.relation_files.specs.Names.{name_of}
use Rattle.relation_files.specs.Paths.{folder_parts, relation_file, relation_folder}
use Rattle.relation_files.specs.Reading.{file_named}
use Rattle.storage_replay.specs.Changes.{relation_dropped}
use Rattle.storage_replay.specs.Cutting.{files_cut, files_swept, fork_cut, is_longer, name_swept, same_fork}
use Rattle.storage_replay.specs.Lengths.{fork_length}
use Rattle.storage_replay.specs.declared.sweep.Sweep.{Sweep}
use Rattle.storage_replay.specs.declared.sweep.Sweep.TheVariants.{Remove, Empty}
use Rattle.storage_laws.specs.After.{cut_state, dropped_state}
use Rattle.storage_laws.specs.Names.{IsBlock, IsRel, in_fork, same_files, same_folder}
use Rattle.storage_laws.specs.States.{whole_block, block_in}
use Rattle.storage_laws.proofs.EditedLemmas.{given-done}
use Rattle.storage_laws.proofs.FileLemmas.{file-named, file-same, one-file, folder-same, fork-is, fork-own, named-same}
use Rattle.storage_laws.proofs.NumberLemmas.{by_order, by_test, and-both, and-parts, eq-is, eq-yes, file-before, file-least, its-place, lt-no, lt-yes}
use Rattle.storage_laws.proofs.PutLemmas.{segment-apart, state-fork}
use Rattle.storage_laws.proofs.SweepLemmas.{Lies, away-bytes, cut-here, sweep-away, sweep-keeps, tree-folder, tree-lies}
use Rattle.storage_laws.proofs.WholeLemmas.{whole-none, whole-past, whole-taken}

-- which files a sweep finds

abbrev Swept : Sweep → RelName → List ℕ → Type 0
Swept sweep rel name = name_swept sweep rel.relation (file_named name) ≡ true

record Is (root : PathValue) (rel : RelName) (other : BlockName) (at : ℕ) (name : List ℕ) : Type 0 where
  folder : same_folder rel other.rel ≡ true
  named : file_named name ≡ Some (record { relation = other.rel.relation; fork = other.fork; segment = at })

its_name : (root : PathValue) (rel : RelName) (other : BlockName) (at : ℕ) (name : List ℕ) → IsRel rel → IsRel other.rel → at < 2 ^ 32 → relation_file root other.rel other.fork at ≡ below (relation_folder root rel) (name ∷ []) → Is root rel other at name
its_name root rel other at name small few l e =
    let two = named-same (relation_folder root other.rel) (relation_folder root rel) (name_of other.rel.relation other.fork at) name e in
    record {
      folder = folder-same rel other.rel small few (sym (append_cancel_left root.parts (folder_parts other.rel) (folder_parts rel) two.0));
      named = ap file_named (sym two.1) ∙ file-named other.rel.relation other.fork at few.relation l;
    }

swept_fork : (root : PathValue) (rel : RelName) (fork : Fork) (segment : ℕ) (other : BlockName) (at : ℕ) (name : List ℕ) → IsRel rel → IsRel other.rel → at < 2 ^ 32 → Swept (Empty fork segment) rel name → relation_file root other.rel other.fork at ≡ below (relation_folder root rel) (name ∷ []) → (in_fork rel fork other ≡ true) × (nat_lt segment at ≡ true)
swept_fork root rel fork segment other at name small few l is e =
    let its = its_name root rel other at name small few l e in
    let three = and-parts _ (nat_lt segment at) (sym (ap (name_swept (Empty fork segment) rel.relation) its.named) ∙ is) in
    let two = and-parts (other.rel.relation == rel.relation) (same_fork other.fork fork) three.0 in
    (and-both _ _ (and-both _ _ its.folder (eq-yes rel.relation other.rel.relation (sym (eq-is other.rel.relation rel.relation two.0)))) (fork-own fork other.fork (sym (fork-is other.fork fork two.1))), three.1)

swept_rel : (root : PathValue) (rel : RelName) (other : BlockName) (at : ℕ) (name : List ℕ) → IsRel rel → IsRel other.rel → at < 2 ^ 32 → Swept Remove rel name → relation_file root other.rel other.fork at ≡ below (relation_folder root rel) (name ∷ []) → same_files rel other.rel ≡ true
swept_rel root rel other at name small few l is e =
    let its = its_name root rel other at name small few l e in
    let one : (other.rel.relation == rel.relation) ≡ true = sym (ap (name_swept Remove rel.relation) its.named) ∙ is in
    and-both _ _ its.folder (eq-yes rel.relation other.rel.relation (sym (eq-is other.rel.relation rel.relation one)))

later_swept : (rel : RelName) (fork : Fork) (segment at : ℕ) → IsRel rel → at < 2 ^ 32 → segment < at → Swept (Empty fork segment) rel (name_of rel.relation fork at)
later_swept rel fork segment at small few l =
    ap (name_swept (Empty fork segment) rel.relation) (file-named rel.relation fork at small.relation few)
    ∙ and-both _ _ (and-both _ _ (eq-yes rel.relation rel.relation refl) (fork-own fork fork refl)) (lt-yes segment at l)

pub own-swept : (rel : RelName) (fork : Fork) (at : ℕ) → IsRel rel → at < 2 ^ 32 → Swept Remove rel (name_of rel.relation fork at)
own-swept rel fork at small few = ap (name_swept Remove rel.relation) (file-named rel.relation fork at small.relation few) ∙ eq-yes rel.relation rel.relation refl

pub folder-apart : (folder : PathValue) (name : List ℕ) → folder ≢ below folder (name ∷ [])
folder-apart folder name e = omega (arith, ap (λ (p : PathValue). length p.parts) e, length-append folder.parts (name ∷ []))

pub no-block : (p : ℕ) (bytes : List ℕ) → bytes ≡ [] → whole_block p bytes ≡ None
no-block p bytes e = ap (whole_block p) e ∙ whole-none p [] (omega arith)

-- a fork that is cut

pub cut-fork_state : (rel : RelName) (fork : Fork) (blocks : ℕ) (other : BlockName) (old : Option (List ℕ)) (t : Bool) → in_fork rel fork other ≡ true → nat_lt other.block blocks ≡ t → cut_state rel fork blocks other old ≡ (if not t then None else old)
cut-fork_state rel fork blocks other old t is under = ap₂ (λ a b. if a && not b then None else old) is under

pub cut-other_state : (rel : RelName) (fork : Fork) (blocks : ℕ) (other : BlockName) (old : Option (List ℕ)) → in_fork rel fork other ≡ false → cut_state rel fork blocks other old ≡ old
cut-other_state rel fork blocks other old is = ap (λ a. if a && not (nat_lt other.block blocks) then None else old) is

module _ (root : PathValue) (per : ℕ) (rel : RelName) (fork : Fork) (blocks : ℕ) (other : BlockName) (c d : Contents) (some : 0 < per) (small : IsRel rel) (few : IsBlock other) (low : blocks < 2 ^ 32) (lies : Lies root rel c) (made : files_cut root per rel fork blocks c ≡ Ok d) where
  steps : (e : Contents) × (file_cut (relation_file root rel fork (blocks / per)) (blocks % per * 8192) c ≡ Ok e) × (files_swept root (Empty fork (blocks / per)) rel e ≡ Ok d)
  unfolding files_cut
  steps = given-done (file_cut (relation_file root rel fork (blocks / per)) (blocks % per * 8192) c) (files_swept root (Empty fork (blocks / per)) rel) d made

  cut_few : blocks / per < 2 ^ 32
  cut_few = omega (arith, file-least per blocks some, low)

  to_few : other.block / per < 2 ^ 32
  to_few = omega (arith, file-least per other.block some, few.block)

  -- a file up to the one that is cut isn't swept
  kept : other.block / per ≤ blocks / per → in_fork rel fork other ≡ true → bytes_at d (relation_file root other.rel other.fork (other.block / per)) ≡ bytes_at steps.0 (relation_file root other.rel other.fork (other.block / per))
  kept l is = ap bytes_in (sweep-keeps root (Empty fork (blocks / per)) rel steps.0 d (relation_file root other.rel other.fork (other.block / per)) steps.2
      (λ name sweeps e. true≢false (sym (swept_fork root rel fork (blocks / per) other (other.block / per) name small few.rel to_few sweeps e).1 ∙ lt-no (blocks / per) (other.block / per) l)))

  as_fork : in_fork rel fork other ≡ true → relation_file root other.rel other.fork (other.block / per) ≡ relation_file root rel fork (other.block / per)
  as_fork is = one-file root rel fork other (other.block / per) is

  Plain : Type 0
  Plain = block_in root per other d ≡ cut_state rel fork blocks other (block_in root per other c)

  before : in_fork rel fork other ≡ true → other.block / per < blocks / per → Plain
  unfolding Plain
  before is l =
      let less : other.block < blocks = file-before per other.block blocks (other.block / per) (blocks / per) (other.block % per) (blocks % per) (its-place per other.block some) (its-place per blocks some) l in
      ap (whole_block (other.block % per)) (kept (omega (arith, l)) is
      ∙ ap bytes_in (cut-elsewhere (relation_file root rel fork (blocks / per)) (blocks % per * 8192) c steps.0 (relation_file root other.rel other.fork (other.block / per)) steps.1
      (λ e. segment-apart root per rel fork small (other.block / per) (blocks / per) to_few cut_few (λ same. omega (arith, same, l)) (sym (as_fork is) ∙ e))))
      ∙ sym (cut-fork_state rel fork blocks other (block_in root per other c) true is (lt-yes other.block blocks less))

  after : in_fork rel fork other ≡ true → blocks / per < other.block / per → Plain
  unfolding Plain
  after is l =
      let more : blocks < other.block = file-before per blocks other.block (blocks / per) (other.block / per) (blocks % per) (other.block % per) (its-place per blocks some) (its-place per other.block some) l in
      let name = name_of rel.relation fork (other.block / per) in
      let lies_on : entry_at steps.0 (relation_folder root rel) ≡ None → entry_at steps.0 (relation_file root rel fork (other.block / per)) ≡ None = λ none.
      cut-elsewhere (relation_file root rel fork (blocks / per)) (blocks % per * 8192) c steps.0 (relation_file root rel fork (other.block / per)) steps.1 (segment-apart root per rel fork small (other.block / per) (blocks / per) to_few cut_few (λ same. omega (arith, same, l)))
      ∙ lies (sym (cut-elsewhere (relation_file root rel fork (blocks / per)) (blocks % per * 8192) c steps.0 (relation_folder root rel) steps.1 (folder-apart (relation_folder root rel) (name_of rel.relation fork (blocks / per)))) ∙ none) name in
      state-fork root per rel fork other d is
      ∙ no-block (other.block % per) (bytes_at d (relation_file root rel fork (other.block / per)))
      (away-bytes (Empty fork (blocks / per)) (entry_at d (relation_file root rel fork (other.block / per))) (sweep-away root (Empty fork (blocks / per)) rel name steps.0 d lies_on (later_swept rel fork (blocks / per) (other.block / per) small to_few l) steps.2))
      ∙ sym (cut-fork_state rel fork blocks other (block_in root per other c) false is (lt-no other.block blocks (omega (arith, more))))

  beside : in_fork rel fork other ≡ true → other.block / per ≡ blocks / per → Plain
  unfolding Plain
  beside is same =
      let shifted : other.block + blocks % per ≡ blocks + other.block % per = omega (arith, (its-place per other.block some).is, (its-place per blocks some).is, ap (λ n. n * per) same) in
      let own : relation_file root other.rel other.fork (other.block / per) ≡ relation_file root rel fork (blocks / per) = as_fork is ∙ ap (relation_file root rel fork) same in
      let old = bytes_at c (relation_file root rel fork (blocks / per)) in
      let left : block_in root per other d ≡ whole_block (other.block % per) (take (blocks % per * 8192) old) =
      ap (whole_block (other.block % per)) (kept (omega (arith, same)) is ∙ ap (bytes_at steps.0) own ∙ cut-here (relation_file root rel fork (blocks / per)) (blocks % per * 8192) c steps.0 steps.1) in
      by_order (other.block % per) (blocks % per)
      (λ l.
      left ∙ whole-taken (other.block % per) (blocks % per) old l ∙ ap (λ p. whole_block (other.block % per) (bytes_at c p)) (sym own)
      ∙ sym (cut-fork_state rel fork blocks other (block_in root per other c) true is (lt-yes other.block blocks (omega (arith, shifted, l)))))
      (λ m.
      left ∙ whole-past (other.block % per) (blocks % per) old m
      ∙ sym (cut-fork_state rel fork blocks other (block_in root per other c) false is (lt-no other.block blocks (omega (arith, shifted, m)))))

  outside : in_fork rel fork other ≡ false → Plain
  unfolding Plain
  outside is =
      let q : PathValue = relation_file root other.rel other.fork (other.block / per) in
      ap (λ o. whole_block (other.block % per) (bytes_in o))
      (sweep-keeps root (Empty fork (blocks / per)) rel steps.0 d q steps.2 (λ name sweeps e. true≢false (sym (swept_fork root rel fork (blocks / per) other (other.block / per) name small few.rel to_few sweeps e).0 ∙ is))
      ∙ cut-elsewhere (relation_file root rel fork (blocks / per)) (blocks % per * 8192) c steps.0 q steps.1 (λ e. true≢false (sym (file-same root rel fork other (blocks / per) (other.block / per) small few.rel cut_few to_few (sym e)).0 ∙ is)))
      ∙ sym (cut-other_state rel fork blocks other (block_in root per other c) is)

  pub files-cut : block_in root per other d ≡ cut_state rel fork blocks other (block_in root per other c)
  unfolding Plain
  files-cut = by_test (in_fork rel fork other)
      (λ is. by_order (other.block / per) (blocks / per) (before is) (λ m. by_order (blocks / per) (other.block / per) (after is) (λ l. beside is (omega (arith, l, m)))))
      outside

pub cut-is_of : (root : PathValue) (per : ℕ) (rel : RelName) (fork : Fork) (blocks : ℕ) (other : BlockName) (there : Option ℕ) (c d : Contents)
    → 0 < per → IsRel rel → IsBlock other → blocks < 2 ^ 32 → Lies root rel c
    → fork_length root per rel fork c ≡ Ok there → fork_cut root per rel fork blocks c ≡ Ok d
    → block_in root per other d ≡ (if is_longer blocks there then cut_state rel fork blocks other (block_in root per other c) else block_in root per other c)
unfolding fork_cut
cut-is_of root per rel fork blocks other there c d some small few low lies len made =
    let two = given-done (fork_length root per rel fork c) (λ o. if is_longer blocks o then files_cut root per rel fork blocks c else Ok c) d made in
    let both : Ok there ≡ Ok two.0 = sym len ∙ two.1 in
    let same : there ≡ two.0 = cc in
    let run : (if is_longer blocks there then files_cut root per rel fork blocks c else Ok c) ≡ Ok d = ap (λ o. if is_longer blocks o then files_cut root per rel fork blocks c else Ok c) same ∙ two.2 in
    let old = block_in root per other c in
    by_test (is_longer blocks there)
    (λ so.
    files-cut root per rel fork blocks other c d some small few low lies (sym (ap (λ t. if t then files_cut root per rel fork blocks c else Ok c) so) ∙ run)
    ∙ sym (ap (λ t. if t then cut_state rel fork blocks other old else old) so))
    (λ else_so.
    let kept : Ok c ≡ Ok d = sym (ap (λ t. if t then files_cut root per rel fork blocks c else Ok c) else_so) ∙ run in
    let stays : c ≡ d = cc in
    ap (block_in root per other) (sym stays) ∙ sym (ap (λ t. if t then cut_state rel fork blocks other old else old) else_so))

pub cut-is : (root : PathValue) (per : ℕ) (rel : RelName) (fork : Fork) (blocks : ℕ) (other : BlockName) (there : Option ℕ) (c d : Contents)
    → 0 < per → IsRel rel → IsBlock other → blocks < 2 ^ 32 → IsTree c
    → fork_length root per rel fork c ≡ Ok there → fork_cut root per rel fork blocks c ≡ Ok d
    → block_in root per other d ≡ (if is_longer blocks there then cut_state rel fork blocks other (block_in root per other c) else block_in root per other c)
cut-is root per rel fork blocks other there c d some small few low tree len made = cut-is_of root per rel fork blocks other there c d some small few low (tree-lies root rel c tree) len made

-- a relation that is dropped

pub dropped-is : (root : PathValue) (per : ℕ) (rel : RelName) (other : BlockName) (c d : Contents) → 0 < per → IsRel rel → IsBlock other → IsTree c → relation_dropped root rel c ≡ Ok d → block_in root per other d ≡ dropped_state rel other (block_in root per other c)
dropped-is root per rel other c d some small few tree made =
    let to_few : other.block / per < 2 ^ 32 = omega (arith, file-least per other.block some, few.block) in
    let q : PathValue = relation_file root other.rel other.fork (other.block / per) in
    let old = block_in root per other c in
    by_test (same_files rel other.rel)
    (λ so.
    let is : in_fork rel other.fork other ≡ true = and-both _ _ so (fork-own other.fork other.fork refl) in
    let name = name_of rel.relation other.fork (other.block / per) in
    state-fork root per rel other.fork other d is
    ∙ no-block (other.block % per) (bytes_at d (relation_file root rel other.fork (other.block / per)))
    (away-bytes Remove (entry_at d (relation_file root rel other.fork (other.block / per))) (sweep-away root Remove rel name c d (tree-folder c (relation_folder root rel) name tree) (own-swept rel other.fork (other.block / per) small to_few) made))
    ∙ sym (ap (λ t. if t then None else old) so))
    (λ else_so.
    ap (λ o. whole_block (other.block % per) (bytes_in o)) (sweep-keeps root Remove rel c d q made (λ name sweeps e. true≢false (sym (swept_rel root rel other (other.block / per) name small few.rel to_few sweeps e) ∙ else_so)))
    ∙ sym (ap (λ t. if t then None else old) else_so))

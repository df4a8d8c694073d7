-- Which pieces of files the calls on forks spare.
use Rattle.std.proofs.Common.{◌≡◌, ℕ, ◌+◌, ◌*◌, ◌/◌, ◌%◌, ◌<◌, ◌≤◌, ◌^◌, ◌==◌, Bool, true, false, not, ◌&&◌, ◌||◌, nat_le, List, [], ◌∷◌, length, Option, None, Some, Ok, refl, ap, sym, ◌∙◌, true≢false, arith}
use Rattle.std.proofs.lemmas.Bool.{and_parts, or_right}
use Rattle.std.proofs.lemmas.Bool.Decides.{nat_tests}
use Rattle.block_refs.specs.declared.names.Fork.{Fork}
use Rattle.block_refs.specs.declared.names.RelName.{RelName}
use Rattle.cluster_tree.specs.Contents.{Contents, entry_at}
use Rattle.cluster_tree.specs.Folders.{lies_in, last_part}
use Rattle.cluster_tree.specs.PathValue.{PathValue, below}
use Rattle.cluster_tree.specs.PathOrder.{path_eq}
use Rattle.cluster_tree.specs.Tree.{bytes_at, file_of, size_of}
use Rattle.cluster_tree.specs.declared.tree.Tree.{Ghosts}
use Rattle.cluster_tree.specs.declared.tree.ChangeCall.TheVariants as call
use Rattle.cluster_tree.proofs.FolderLemmas.{lies_in-below}
use Rattle.cluster_tree.proofs.OrderLemmas.{path_eq-same}
use Rattle.file_edits.specs.Sparing.{Piece, Shows, spares, Spares}
use Rattle.file_edits.proofs.EditLemmas.{size_is}
use Rattle.relation_files.specs.Names.{name_of}
use Rattle.relation_files.specs.Paths.{relation_file, relation_folder}
use Rattle.relation_files.specs.Reading.{file_named}
use Rattle.relation_files.specs.declared.file_name.FileName.{FileName}
use Rattle.relation_files.proofs.NameLemmas.{named-written}
use Rattle.storage_replay.specs.Cutting.{name_swept, same_fork}
use Rattle.storage_replay.specs.Sparing.{EndsABlock, block_cut, file_of_fork, is_of_fork, is_swept, is_swept_in, keeps_piece}
use Rattle.storage_replay.specs.declared.sweep.Sweep.{Sweep}
use Rattle.storage_replay.specs.declared.sweep.Sweep.TheVariants.{Empty}
use Rattle.storage_replay.proofs.OwnLemmas.{last-below}

-- a call at another path
pub write-apart : (piece : Piece) (path : PathValue) (at n : ℕ) → path_eq piece.path path ≡ false → spares piece (call.Write path at n) ≡ true
write-apart piece path at n e = ap (λ b. not b || nat_le (at + n) piece.from || nat_le piece.to at) e

-- a file that grows from its last whole block on

whole_end : (to n : ℕ) → to % 8192 ≡ 0 → to ≤ n → to ≤ n / 8192 * 8192
whole_end to n ends l = omega (arith, ends, l)

pub zeros-spare : (piece : Piece) (bytes : List ℕ) (c : Contents) (path : PathValue) (n at : ℕ) → EndsABlock piece → Shows piece bytes c → size_of (file_of (entry_at c path)) ≡ Ok n → at ≡ n / 8192 * 8192 → spares piece (call.Write path at 8192) ≡ true
zeros-spare piece bytes c path n at ends s sized is = by (path_eq piece.path path) refl
  where
    by : (b : Bool) → path_eq piece.path path ≡ b → (not b || nat_le (at + 8192) piece.from || nat_le piece.to at) ≡ true
    by true e =
        let same : piece.path ≡ path = path_eq-same piece.path path e in
        let few : piece.to ≤ n = omega (arith, s.whole, ap (λ p. length (bytes_at c p)) same, size_is (entry_at c path) n sized) in
        let low : piece.to ≤ n / 8192 * 8192 = whole_end piece.to n ends few in
        let m : piece.to ≤ at = omega (arith, low, is) in
        or_right (nat_le (at + 8192) piece.from) (nat_le piece.to at) (grind (arith, nat_tests))
    by false e = refl

pub grown-spares : {F : Type 0} (t : Ghosts F) (piece : Piece) (path : PathValue) (n at : ℕ) (a b c : F) → EndsABlock piece → Spares t piece a b → size_of (file_of (entry_at (t.contents b) path)) ≡ Ok n → at ≡ n / 8192 * 8192 → (spares piece (call.Write path at 8192) ≡ true → Spares t piece b c) → Spares t piece a c
grown-spares t piece path n at a b c ends made sized is lay bytes first s =
    let mid = made bytes first s in
    lay (zeros-spare piece bytes (t.contents b) path n at ends mid.shows sized is) bytes first mid

-- files that are swept

pub swept-in : (folder q : PathValue) (sweep : Sweep) (relation : ℕ) (name : List ℕ) → name_swept sweep relation (file_named name) ≡ true → path_eq q (below folder (name ∷ [])) ≡ true → is_swept_in folder sweep relation q ≡ true
swept-in folder q sweep relation name is e =
    ap (is_swept_in folder sweep relation) (path_eq-same q (below folder (name ∷ [])) e)
    ∙ ap (λ b. b && name_swept sweep relation (file_named (last_part (below folder (name ∷ []))))) (lies_in-below folder name)
    ∙ ap (λ n. name_swept sweep relation (file_named n)) (last-below folder name) ∙ is

falls : (a b : Bool) → (a ≡ true → b ≡ true) → b ≡ false → a ≡ false
falls true b then e = absurd (true≢false (sym (then refl) ∙ e))
falls false b then e = refl

pub unswept-apart : (folder path q : PathValue) (sweep : Sweep) (relation : ℕ) (name : List ℕ) → name_swept sweep relation (file_named name) ≡ true → path ≡ below folder (name ∷ []) → is_swept_in folder sweep relation q ≡ false → path_eq q path ≡ false
unswept-apart folder path q sweep relation name is at e = falls (path_eq q path) (is_swept_in folder sweep relation q) (λ same. swept-in folder q sweep relation name is (ap (path_eq q) (sym at) ∙ same)) e

-- files of a fork

fork_in : (a b c : Bool) → (a && b && c) ≡ true → (a && b) ≡ true
fork_in true true c e = refl
fork_in true false c e = e
fork_in false b c e = e

swept_fork : (fork : Fork) (segment relation : ℕ) (o : Option FileName) → name_swept (Empty fork segment) relation o ≡ true → file_of_fork relation fork o ≡ true
swept_fork fork segment relation None e = e
swept_fork fork segment relation (Some file) e = (and_parts _ _ e).0

and_then : (a b c : Bool) → (b ≡ true → c ≡ true) → (a && b) ≡ true → (a && c) ≡ true
and_then true b c next e = next e
and_then false b c next e = e

pub fork-unswept : (root : PathValue) (rel : RelName) (fork : Fork) (segment : ℕ) (q : PathValue) → is_of_fork root rel fork q ≡ false → is_swept root (Empty fork segment) rel q ≡ false
fork-unswept root rel fork segment q = falls (is_swept root (Empty fork segment) rel q) (is_of_fork root rel fork q)
    (and_then (lies_in (relation_folder root rel) q) (name_swept (Empty fork segment) rel.relation (file_named (last_part q))) (file_of_fork rel.relation fork (file_named (last_part q))) (swept_fork fork segment rel.relation (file_named (last_part q))))

own_fork : (relation : ℕ) (fork : Fork) (segment : ℕ) → relation < 2 ^ 32 → segment < 2 ^ 32 → file_of_fork relation fork (file_named (name_of relation fork segment)) ≡ true
own_fork relation fork segment small few =
    let own : (relation == relation) ≡ true = grind (arith, nat_tests) in
    let number : same_fork fork fork ≡ true = grind (arith, nat_tests) in
    ap (file_of_fork relation fork) (named-written (record { relation = relation; fork = fork; segment = segment }) (record { relation = small; segment = few }))
    ∙ ap (λ b. b && same_fork fork fork) own ∙ number

file_is : (root : PathValue) (rel : RelName) (fork : Fork) (segment : ℕ) (q : PathValue) → rel.relation < 2 ^ 32 → segment < 2 ^ 32 → path_eq q (relation_file root rel fork segment) ≡ true → is_of_fork root rel fork q ≡ true
file_is root rel fork segment q small few e =
    let folder = relation_folder root rel in
    let name = name_of rel.relation fork segment in
    ap (is_of_fork root rel fork) (path_eq-same q (relation_file root rel fork segment) e)
    ∙ ap (λ b. b && file_of_fork rel.relation fork (file_named (last_part (below folder (name ∷ []))))) (lies_in-below folder name)
    ∙ ap (λ n. file_of_fork rel.relation fork (file_named n)) (last-below folder name) ∙ own_fork rel.relation fork segment small few

-- a piece of a file of another fork
pub fork-apart : (root path : PathValue) (rel : RelName) (fork : Fork) (segment : ℕ) (q : PathValue) → rel.relation < 2 ^ 32 → segment < 2 ^ 32 → path ≡ relation_file root rel fork segment → is_of_fork root rel fork q ≡ false → path_eq q path ≡ false
fork-apart root path rel fork segment q small few at = falls (path_eq q path) (is_of_fork root rel fork q) (λ e. file_is root rel fork segment q small few (ap (path_eq q) (sym at) ∙ e))

pub cut-apart : (piece : Piece) (path : PathValue) (size : ℕ) → path_eq piece.path path ≡ false → spares piece (call.Cut path size) ≡ true
cut-apart piece path size e = ap (λ b. not b || nat_le piece.to size) e

both : (a b : Bool) → a ≡ true → b ≡ false → (a && not b) ≡ true
both a b e f = ap (λ x. x && not b) e ∙ ap not f

-- so a fork that is cut keeps it
pub fork-keeps : (root : PathValue) (per : ℕ) (rel : RelName) (fork : Fork) (blocks : ℕ) (piece : Piece) → rel.relation < 2 ^ 32 → blocks / per < 2 ^ 32 → is_of_fork root rel fork piece.path ≡ false → keeps_piece root per rel fork blocks piece ≡ true
fork-keeps root per rel fork blocks piece small few apart =
    both (spares piece (block_cut root per rel fork blocks)) (is_swept root (Empty fork (blocks / per)) rel piece.path)
    (cut-apart piece (relation_file root rel fork (blocks / per)) (blocks % per * 8192) (fork-apart root (relation_file root rel fork (blocks / per)) rel fork (blocks / per) piece.path small few refl apart))
    (fork-unswept root rel fork (blocks / per) piece.path apart)

-- the parts of a test
pub keeps-cut : (root : PathValue) (per : ℕ) (rel : RelName) (fork : Fork) (blocks : ℕ) (piece : Piece) → keeps_piece root per rel fork blocks piece ≡ true → (spares piece (block_cut root per rel fork blocks) ≡ true) × (is_swept root (Empty fork (blocks / per)) rel piece.path ≡ false)
keeps-cut root per rel fork blocks piece e =
    let two = and_parts (spares piece (block_cut root per rel fork blocks)) (not (is_swept root (Empty fork (blocks / per)) rel piece.path)) e in
    (two.0, not_is (is_swept root (Empty fork (blocks / per)) rel piece.path) two.1)
  where
    not_is : (b : Bool) → not b ≡ true → b ≡ false
    not_is true n = absurd (true≢false (sym n))
    not_is false n = refl

pub cuts-then : (cuts keeps : Bool) → (not cuts || keeps) ≡ true → cuts ≡ true → keeps ≡ true
cuts-then true keeps e is = e
cuts-then false keeps e is = absurd (true≢false (sym is))

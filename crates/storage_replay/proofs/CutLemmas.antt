-- Files that are swept from a folder, and forks that are cut.
use Rattle.std.proofs.Common.{◌≡◌, ℕ, ◌*◌, ◌/◌, ◌%◌, ◌==◌, Bool, true, false, List, [], ◌∷◌, Option, None, Some, Result, Ok, ap, subst, ◌∙◌}
use Rattle.std.specs.Prelude.{if◌then◌else◌}
use Rattle.std.proofs.lemmas.Bool.{and_parts}
use Rattle.block_refs.specs.declared.names.Fork.{Fork}
use Rattle.block_refs.specs.declared.names.RelName.{RelName}
use Rattle.cluster_tree.specs.PathValue.{PathValue, below}
use Rattle.cluster_tree.specs.Contents.{Contents, entry_at}
use Rattle.cluster_tree.specs.declared.file_fault.FileFault.{FileFault}
use Rattle.file_edits.specs.Answers.{Does}
use Rattle.file_edits.specs.Asking.{names_asked}
use Rattle.file_edits.specs.Clearing.{in_turn}
use Rattle.file_edits.specs.Edits.{file_cut}
use Rattle.relation_files.specs.Paths.{relation_file, relation_folder}
use Rattle.relation_files.specs.Reading.{file_named, file_of_number}
use Rattle.relation_files.specs.declared.file_name.FileName.{FileName}
use Rattle.storage_replay.specs.Cutting.{name_swept, swept, entry_swept, files_swept, files_cut, fork_cut, is_longer}
use Rattle.storage_replay.specs.Lengths.{fork_length}
use Rattle.storage_replay.specs.declared.sweep.Sweep.{Sweep}
use Rattle.storage_replay.specs.declared.sweep.Sweep.TheVariants.{Remove, Empty}
use Rattle.file_edits.proofs.AnswerLemmas.{Why, why-first, given-ok, does-is}

-- an entry that is swept

pub entry-kept : (sweep : Sweep) (relation : ℕ) (folder : PathValue) (name : List ℕ) (c : Contents) → name_swept sweep relation (file_named name) ≡ false → entry_swept sweep relation folder name c ≡ Ok c
unfolding entry_swept
entry-kept sweep relation folder name c h = ap (λ b. if b then swept sweep (below folder (name ∷ [])) c else Ok c) h

pub entry-goes : {A : Type 0} (sweep : Sweep) (relation : ℕ) (folder path : PathValue) (name : List ℕ) (c new : Contents) (r : Result A FileFault) → name_swept sweep relation (file_named name) ≡ true → path ≡ below folder (name ∷ []) → Does (swept sweep path c) new r → Does (entry_swept sweep relation folder name c) new r
unfolding entry_swept
entry-goes sweep relation folder path name c new r h is done =
    does-is (swept sweep (below folder (name ∷ [])) c) _ new r (ap (λ b. if b then swept sweep (below folder (name ∷ [])) c else Ok c) h) (subst (λ p. Does (swept sweep p c) new r) is done)

swept_number : (sweep : Sweep) (relation : ℕ) (o : Option FileName) → name_swept sweep relation o ≡ true → file_of_number relation o ≡ true
swept_number sweep relation None h = absurd cc
swept_number Remove relation (Some file) h = h
swept_number (Empty fork segment) relation (Some file) h = (and_parts (file.relation == relation) _ (and_parts _ _ h).0).0

pub swept-number : (sweep : Sweep) (relation : ℕ) (name : List ℕ) → name_swept sweep relation (file_named name) ≡ true → file_of_number relation (file_named name) ≡ true
swept-number sweep relation name h = swept_number sweep relation (file_named name) h

-- a folder that is swept

pub sweep-refused : (root folder : PathValue) (sweep : Sweep) (rel : RelName) (c : Contents) (e : FileFault) → folder ≡ relation_folder root rel → Why (names_asked c folder (entry_at c folder)) e → Why (files_swept root sweep rel c) e
unfolding files_swept
sweep-refused root folder sweep rel c e is why =
    why-first (names_asked c (relation_folder root rel) (entry_at c (relation_folder root rel))) (λ names. in_turn (entry_swept sweep rel.relation (relation_folder root rel)) names c) e
    (subst (λ f. Why (names_asked c f (entry_at c f)) e) is why)

pub sweep-listed : {A : Type 0} (root folder : PathValue) (sweep : Sweep) (rel : RelName) (names : List (List ℕ)) (c d new : Contents) (r : Result A FileFault) → folder ≡ relation_folder root rel → names_asked c folder (entry_at c folder) ≡ Ok names → d ≡ c → Does (in_turn (entry_swept sweep rel.relation folder) names d) new r → Does (files_swept root sweep rel c) new r
unfolding files_swept
sweep-listed root folder sweep rel names c d new r is listed same done =
    let meant = given-ok (names_asked c (relation_folder root rel) (entry_at c (relation_folder root rel))) (λ names. in_turn (entry_swept sweep rel.relation (relation_folder root rel)) names c) names (subst (λ f. names_asked c f (entry_at c f) ≡ Ok names) is listed) in
    does-is (in_turn (entry_swept sweep rel.relation (relation_folder root rel)) names c) _ new r meant
    (subst (λ f. Does (in_turn (entry_swept sweep rel.relation f) names c) new r) is (subst (λ x. Does (in_turn (entry_swept sweep rel.relation folder) names x) new r) same done))

-- a fork that is cut

module _ (root : PathValue) (per : ℕ) (rel : RelName) (fork : Fork) (blocks : ℕ) (c : Contents) where
  pub files-refused : (e : FileFault) → Why (file_cut (relation_file root rel fork (blocks / per)) (blocks % per * 8192) c) e → Why (files_cut root per rel fork blocks c) e
  unfolding files_cut
  files-refused e why = why-first (file_cut (relation_file root rel fork (blocks / per)) (blocks % per * 8192) c) (files_swept root (Empty fork (blocks / per)) rel) e why

  pub files-then : {A : Type 0} (d new : Contents) (r : Result A FileFault) → file_cut (relation_file root rel fork (blocks / per)) (blocks % per * 8192) c ≡ Ok d → Does (files_swept root (Empty fork (blocks / per)) rel d) new r → Does (files_cut root per rel fork blocks c) new r
  unfolding files_cut
  files-then d new r is done = does-is (files_swept root (Empty fork (blocks / per)) rel d) _ new r (given-ok (file_cut (relation_file root rel fork (blocks / per)) (blocks % per * 8192) c) (files_swept root (Empty fork (blocks / per)) rel) d is) done

  pub fork-refused : (e : FileFault) → Why (fork_length root per rel fork c) e → Why (fork_cut root per rel fork blocks c) e
  unfolding fork_cut
  fork-refused e why = why-first (fork_length root per rel fork c) (λ there. if is_longer blocks there then files_cut root per rel fork blocks c else Ok c) e why

  by_length : (there : Option ℕ) (b : Bool) → fork_length root per rel fork c ≡ Ok there → is_longer blocks there ≡ b → fork_cut root per rel fork blocks c ≡ (if b then files_cut root per rel fork blocks c else Ok c)
  unfolding fork_cut
  by_length there b is h =
      given-ok (fork_length root per rel fork c) (λ there. if is_longer blocks there then files_cut root per rel fork blocks c else Ok c) there is
      ∙ ap (λ t. if t then files_cut root per rel fork blocks c else Ok c) h

  pub fork-short : (there : Option ℕ) → fork_length root per rel fork c ≡ Ok there → is_longer blocks there ≡ false → fork_cut root per rel fork blocks c ≡ Ok c
  fork-short there is h = by_length there false is h

  pub fork-longer : {A : Type 0} (there : Option ℕ) (d new : Contents) (r : Result A FileFault) → fork_length root per rel fork c ≡ Ok there → is_longer blocks there ≡ true → d ≡ c → Does (files_cut root per rel fork blocks d) new r → Does (fork_cut root per rel fork blocks c) new r
  fork-longer there d new r is h same done = does-is (files_cut root per rel fork blocks c) _ new r (by_length there true is h) (subst (λ x. Does (files_cut root per rel fork blocks x) new r) same done)

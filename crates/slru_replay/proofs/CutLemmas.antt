-- Files that are removed in turn.
use Rattle.std.proofs.Common.{◌≡◌, ℕ, true, false, List, [], ◌∷◌, Ok, Err, ap}
use Rattle.std.specs.Prelude.{if◌then◌else◌}
use Rattle.cluster_tree.specs.PathValue.{PathValue, below}
use Rattle.cluster_tree.specs.Contents.{Contents, entry_at}
use Rattle.cluster_tree.specs.Causes.{given}
use Rattle.cluster_tree.specs.declared.file_fault.FileFault.{FileFault}
use Rattle.file_edits.specs.Asking.{names_asked}
use Rattle.file_edits.specs.Clearing.{in_turn}
use Rattle.file_edits.specs.Edits.{file_removed}
use Rattle.slru_replay.specs.Area.{folder_of}
use Rattle.slru_replay.specs.Cutting.{name_cut, file_cut, area_cut}
use Rattle.slru_replay.specs.declared.area.Area.{Area}

pub cut-kept : (area : Area) (first last : ℕ) (folder : PathValue) (name : List ℕ) (c : Contents) → name_cut area first last name ≡ false → file_cut area first last folder name c ≡ Ok c
unfolding file_cut
cut-kept area first last folder name c h = ap (λ b. if b then file_removed (below folder (name ∷ [])) c else Ok c) h

pub cut-removed : (area : Area) (first last : ℕ) (folder : PathValue) (name : List ℕ) (c : Contents) → name_cut area first last name ≡ true → file_cut area first last folder name c ≡ file_removed (below folder (name ∷ [])) c
unfolding file_cut
cut-removed area first last folder name c h = ap (λ b. if b then file_removed (below folder (name ∷ [])) c else Ok c) h

pub ruleset one_steps = (cut-kept, cut-removed)

pub area-refused : (root : PathValue) (area : Area) (first last : ℕ) (c : Contents) (e : FileFault) → names_asked c (folder_of root area) (entry_at c (folder_of root area)) ≡ Err e → area_cut root area first last c ≡ Err e
unfolding area_cut
area-refused root area first last c e is = ap (λ r. given r (λ names. in_turn (file_cut area first last (folder_of root area)) names c)) is

pub area-listed : (root : PathValue) (area : Area) (first last : ℕ) (c : Contents) (names : List (List ℕ)) → names_asked c (folder_of root area) (entry_at c (folder_of root area)) ≡ Ok names → area_cut root area first last c ≡ in_turn (file_cut area first last (folder_of root area)) names c
unfolding area_cut
area-listed root area first last c names is = ap (λ r. given r (λ names. in_turn (file_cut area first last (folder_of root area)) names c)) is

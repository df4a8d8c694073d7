-- How the answer of an edit of files is tied to the one that is meant. Own: "Answers and their causes".
use Rattle.std.specs.Prelude.{◌≡◌, ◌⊎◌, [], ◌∷◌, Result, Ok, Err, MatchResult}
use Rattle.cluster_tree.specs.Causes.{IsAmong}
use Rattle.cluster_tree.specs.Contents.{Contents}
use Rattle.cluster_tree.specs.declared.file_fault.FileFault.{FileFault}
use Rattle.cluster_tree.specs.declared.file_fault.FileFault.TheVariants as fault

-- what is answered whatever stands there: a device failed, or memory was wanting
abbrev pub IsFree : FileFault → Type 0
IsFree = IsAmong (fault.ReadFault ∷ fault.WriteFault ∷ fault.OutOfMemory ∷ [])

-- the contents are those that are meant, or the refusal is; else the answer is free
abbrev pub Does : {A : Type 0} → Result Contents FileFault → Contents → Result A FileFault → Type 0
Does meant new result = MatchResult result (λ _. meant ≡ Ok new) (λ e. IsFree e ⊎ (meant ≡ Err e))

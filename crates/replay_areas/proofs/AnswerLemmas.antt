-- What a list is answered with.
use Rattle.std.proofs.Common.{◌≡◌, ◌⊎◌, ◌≤◌, ◌<◌, ◌^◌, List, length, map, Option, Ok, Err, ap, sym, ◌∙◌, inl, inr}
use Rattle.std.specs.List.{cons_option}
use Rattle.cluster_tree.specs.Causes.{given}
use Rattle.cluster_tree.specs.Contents.{Contents}
use Rattle.cluster_tree.specs.PathValue.{PathValue}
use Rattle.cluster_tree.specs.declared.file_fault.FileFault.TheVariants as file
use Rattle.file_walk.specs.declared.entry.Entry.{Entry}
use Rattle.file_walk.specs.declared.fault.WalkFault.{WalkFault}
use Rattle.file_walk.specs.declared.fault.WalkFault.TheVariants as fault
use Rattle.file_walk.specs.Faults.{IsFree, IsMemory}
use Rattle.file_walk.specs.Walk.{HasParts, walk_of}
use Rattle.replay_list.specs.declared.listed.Listed.{Listed}
use Rattle.replay_list.specs.Laws.{IsListOf}
use Rattle.replay_list.specs.Text.{IsHeld}
use Rattle.areas_alone.specs.Alone.{areas_of}
use Rattle.replay_areas.specs.Fits.{AllFit}
use Rattle.replay_areas.specs.Listing.{areas_listed, label_in, listed_as, listed_below}
use Rattle.replay_areas.proofs.FoundLemmas.{all_fit}
use Rattle.replay_areas.proofs.ListLemmas.{few_files, lists_below}

-- the walk's fault
pub walk_failed : (c : Contents) (root : PathValue) (e : WalkFault) → IsFree e ⊎ (walk_of (areas_of c root) root ≡ Err e) → IsFree e ⊎ (areas_listed c root ≡ Err e)
unfolding areas_listed
walk_failed c root e (inl free) = inl free
walk_failed c root e (inr is) = inr (ap (λ w. given w (λ entries. Ok (listed_below c root entries))) is)

module _ (c : Contents) (root : PathValue) (entries : List Entry) (told : walk_of (areas_of c root) root ≡ Ok entries) where
  -- and want of memory behind it
  pub only_memory : (e : WalkFault) → (AllFit root entries → IsMemory e) → IsMemory e
  only_memory e memory = memory (all_fit c root entries told)

  pub not_changed : {P : Type 0} (e : WalkFault) (p : PathValue) → (AllFit root entries → IsMemory e) → e ≡ fault.File (file.Changed p) → P
  not_changed e p memory changed = let wrong : fault.File (file.Changed p) ≡ fault.File file.OutOfMemory = sym changed ∙ only_memory e memory in absurd (cc wrong)

  module _ (d : Contents) (label : Option Listed) (listed : List Listed) (same : d ≡ c) (labelled : label ≡ label_in d root) (is : listed ≡ cons_option label (map (listed_as root) entries)) where
    pub is_listed : areas_listed c root ≡ Ok listed
    unfolding areas_listed
    is_listed =
        ap (λ w. given w (λ entries. Ok (listed_below c root entries))) told
        ∙ ap (λ l. Ok (cons_option l (map (listed_as root) entries))) (ap (λ x. label_in x root) (sym same) ∙ sym labelled)
        ∙ ap Ok (sym is)

    pub is_list : HasParts (areas_of c root) root → length root.parts ≤ 63 → (AllFit root entries → IsHeld root listed) → length entries < 2 ^ 64 → IsListOf root listed
    is_list proper room held few = lists_below c root listed is_listed proper room (held (all_fit c root entries told)) (few_files root label entries listed is few)

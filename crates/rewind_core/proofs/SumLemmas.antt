-- The CRC in the control file of a root.
use Rattle.std.proofs.Common.{◌≡◌, ℕ, ◌==◌, List, length, Ok, Result, IfOk, refl, sym, ap, ◌∙◌, subst}
use Rattle.std.specs.Prelude.{if◌then◌else◌, codes}
use Rattle.cluster_tree.specs.Contents.{Contents, entry_at}
use Rattle.cluster_tree.specs.PathValue.{PathValue, below}
use Rattle.cluster_tree.specs.Tree.{bytes_in, file_of}
use Rattle.clusters.specs.Roots.{path_in}
use Rattle.clusters.specs.WholeFile.{found_of}
use Rattle.clusters.specs.declared.whole_file.Found.TheVariants as found
use Rattle.layout.specs.Readers.{u32_at}
use Rattle.rewind_plan.proofs.FoundOutLemmas.{control-read}
use Rattle.rewind_plan.specs.Sides.{control_parts}
use Rattle.rewind_survey.specs.declared.fault.RewindFault.{RewindFault}
use Rattle.rewind_core.specs.Rooted.{IsRooted}
use Rattle.rewind_core.specs.Text.{sum_at}

path-is : (root : PathValue) → path_in root (codes "global/pg_control") ≡ below root control_parts
unfolding path_in
path-is root = refl

full : (bytes : List ℕ) → length bytes ≡ 8192 → found_of 8192 (Ok bytes) ≡ found.Filled
full bytes long = ap (λ n. if n == 8192 then found.Filled else found.OtherSize n) long

module _ (c : Contents) (root path : PathValue) (is : path ≡ path_in root (codes "global/pg_control")) (rooted : IsRooted c root) where
  there : entry_at c path ≡ entry_at c (below root control_parts)
  there = ap (entry_at c) (is ∙ path-is root)

  pub found-whole : found_of 8192 (file_of (entry_at c path)) ≡ found.Filled
  found-whole =
      let file = control-read c root rooted.1 rooted.2 in
      ap (λ o. found_of 8192 (file_of o)) (there ∙ file.1) ∙ full file.0 file.2

  pub sum-is : (r : Result ℕ RewindFault) → ((bytes : List ℕ) → file_of (entry_at c path) ≡ Ok bytes → IfOk r (λ sum. sum ≡ u32_at 288 bytes)) → IfOk r (λ sum. sum ≡ sum_at c root)
  sum-is r read =
      let file = control-read c root rooted.1 rooted.2 in
      subst (λ bytes. IfOk r (λ sum. sum ≡ u32_at 288 bytes)) (sym (ap bytes_in file.1)) (read file.0 (ap file_of (there ∙ file.1)))

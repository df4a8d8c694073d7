-- Relations that are truncated.
use Rattle.std.proofs.Common.{◌≡◌, ℕ, true, false, Result, Ok, ap, ◌∙◌}
use Rattle.std.specs.Prelude.{if◌then◌else◌}
use Rattle.block_refs.specs.declared.names.Fork.TheVariants.{Main}
use Rattle.block_refs.specs.declared.names.RelName.{RelName}
use Rattle.cluster_tree.specs.PathValue.{PathValue}
use Rattle.cluster_tree.specs.Contents.{Contents}
use Rattle.cluster_tree.specs.declared.file_fault.FileFault.{FileFault}
use Rattle.file_edits.specs.Answers.{Does}
use Rattle.storage_replay.specs.Changes.{created, cuts_main, cuts_map, main_cut, main_by, map_by, truncated}
use Rattle.storage_replay.specs.Cutting.{fork_cut}
use Rattle.storage_replay.specs.MapBits.{map_cut}
use Rattle.file_edits.proofs.AnswerLemmas.{Why, why-first, why-is, given-ok, does-is}

module _ (root : PathValue) (per : ℕ) (rel : RelName) (blocks : ℕ) (c : Contents) (flags : ℕ) where
  pub main-unset : cuts_main flags ≡ false → main_by root per rel blocks flags c ≡ Ok c
  main-unset unset = ap (λ b. if b then main_cut root per rel blocks c else Ok c) unset

  main_set : cuts_main flags ≡ true → main_by root per rel blocks flags c ≡ main_cut root per rel blocks c
  main_set set = ap (λ b. if b then main_cut root per rel blocks c else Ok c) set

  pub main-refused : cuts_main flags ≡ true → (e : FileFault) → Why (created root rel Main c) e → Why (main_by root per rel blocks flags c) e
  unfolding main_cut
  main-refused set e why = why-is _ _ e (main_set set) (why-first (created root rel Main c) (fork_cut root per rel Main blocks) e why)

  pub main-then : {A : Type 0} → cuts_main flags ≡ true → (d new : Contents) (r : Result A FileFault) → created root rel Main c ≡ Ok d → Does (fork_cut root per rel Main blocks d) new r → Does (main_by root per rel blocks flags c) new r
  unfolding main_cut
  main-then set d new r is done = does-is (fork_cut root per rel Main blocks d) _ new r (main_set set ∙ given-ok (created root rel Main c) (fork_cut root per rel Main blocks) d is) done

  pub truncated-refused : (e : FileFault) → Why (main_by root per rel blocks flags c) e → Why (truncated root per rel blocks flags c) e
  unfolding truncated
  truncated-refused e why = why-first (main_by root per rel blocks flags c) (map_by root per rel blocks flags) e why

  by_map : (d : Contents) → main_by root per rel blocks flags c ≡ Ok d → truncated root per rel blocks flags c ≡ map_by root per rel blocks flags d
  unfolding truncated
  by_map d is = given-ok (main_by root per rel blocks flags c) (map_by root per rel blocks flags) d is

  pub truncated-unset : (d : Contents) → cuts_map flags ≡ false → main_by root per rel blocks flags c ≡ Ok d → truncated root per rel blocks flags c ≡ Ok d
  truncated-unset d unset is = by_map d is ∙ ap (λ b. if b then map_cut root per rel blocks d else Ok d) unset

  pub truncated-then : {A : Type 0} (d new : Contents) (r : Result A FileFault) → cuts_map flags ≡ true → main_by root per rel blocks flags c ≡ Ok d → Does (map_cut root per rel blocks d) new r → Does (truncated root per rel blocks flags c) new r
  truncated-then d new r set is done =
      does-is (map_cut root per rel blocks d) _ new r (by_map d is ∙ ap (λ b. if b then map_cut root per rel blocks d else Ok d) set) done

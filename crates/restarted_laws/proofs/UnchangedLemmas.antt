-- Blocks of a log that changes none of them first.
use Rattle.std.proofs.Common.{◌≡◌, ◌⊎◌, ◌&&◌, ◌||◌, ◌==◌, ◌*◌, ◌/◌, ◌%◌, ℕ, Bool, true, false, List, [], ◌∷◌, length, take, drop, Option, None, Some, map, nat_lt, refl, inl, inr, ap, sym, ◌∙◌, true≢false}
use Rattle.std.specs.Prelude.{if◌then◌else◌}
use Rattle.std.proofs.lemmas.Slice.Eq.{bytes_eq-Decides}
use Rattle.std.specs.Option.{option_and_then}
use Rattle.rmgr_hooks.specs.Custom.{Extension}
use Rattle.alike_clusters.specs.Clusters.{AlikeClusters, is_alike, is_alike_file, is_bounded}
use Rattle.alike_clusters.proofs.NameLemmas.{file-lies, file-no_version, file_parts}
use Rattle.block_effects.specs.Gone.{is_main}
use Rattle.block_refs.specs.declared.names.BlockName.{BlockName}
use Rattle.block_refs.specs.declared.names.Fork.{Fork}
use Rattle.block_refs.specs.declared.names.RelName.{RelName}
use Rattle.cluster_tree.specs.Below.{tree_below}
use Rattle.cluster_tree.specs.Contents.{Contents, Entry}
use Rattle.cluster_tree.specs.PathValue.{PathValue, path_of}
use Rattle.cluster_tree.specs.Tree.{bytes_at, bytes_in}
use Rattle.file_edits.specs.Alike.{AlikeEntries, Neither, Folders, Files, Links}
use Rattle.file_walk.specs.Actions.{is_version}
use Rattle.file_walk.specs.Relations.{relation_of}
use Rattle.first_effects.specs.First.{IsLeastChanged, is_changed_first, is_met}
use Rattle.first_effects.proofs.LawLemmas.{either}
use Rattle.relation_files.specs.Paths.{relation_file}
use Rattle.replay_law.specs.Effect.{Step, At, Nothing, FullPageImage, Init, Change, Gone}
use Rattle.replay_law.specs.Stage.{BeginsAnew}
use Rattle.replay_laws.specs.Held.{IsMainBlock}
use Rattle.replay_laws.specs.Log.{split_of, steps}
use Rattle.replay_laws.specs.Touched.{HaveNoEffect}
use Rattle.replay_world.specs.World.{World}
use Rattle.storage_laws.specs.States.{block_in, page_or_none, whole_block}
use Rattle.storage_laws.proofs.NumberLemmas.{and-parts, eq-is}
use Rattle.wal_records.specs.Reading.{LogRecord}
use Rattle.restarted_laws.specs.Again.{IsAgain}
use Rattle.restarted_laws.specs.Unchanged.{KeepsUntouched}

unmet : (log : List Step) → is_met log ≡ false → HaveNoEffect log
unmet [] e = tt
unmet (At end Nothing ∷ log) e = (refl, unmet log e)
unmet (At end (FullPageImage page) ∷ log) e = cc e
unmet (At end (Init made) ∷ log) e = cc e
unmet (At end (Change change) ∷ log) e = cc e
unmet (At end Gone ∷ log) e = cc e

-- ---- alike files have as many blocks

like_size : (per : ℕ) (at : Option (RelName × ℕ)) (version : Bool) (a b : List ℕ) → version ≡ false → (version || is_alike_file per at a b) ≡ true → length a ≡ length b
like_size per at true a b none is = absurd (true≢false none)
like_size per None false a b none is = ap length ((bytes_eq-Decides a b).0 is)
like_size per (Some (rel, segment)) false a b none is = eq-is (length a) (length b) (and-parts (length a == length b) (is_bounded per segment (length a)) is).0

entry_size : (per : ℕ) (parts : List (List ℕ)) (o p : Option Entry) → is_version (path_of false parts) ≡ false → AlikeEntries (is_alike per parts) o p → length (bytes_in o) ≡ length (bytes_in p)
entry_size per parts o p none Neither = refl
entry_size per parts o p none (Folders bad) = refl
entry_size per parts o p none (Files a b is) = like_size per (relation_of (path_of false parts)) (is_version (path_of false parts)) a b none is
entry_size per parts o p none Links = refl

module _ (root other : PathValue) (per : ℕ) (c d : Contents) (both : AlikeClusters per c root d other) where
  size_same : (rel : RelName) (fork : Fork) (segment : ℕ) → length (bytes_at c (relation_file root rel fork segment)) ≡ length (bytes_at d (relation_file other rel fork segment))
  size_same rel fork segment =
      ap (λ p. length (bytes_at c p)) (file-lies root rel fork segment)
      ∙ entry_size per (file_parts rel fork segment) (tree_below c root (file_parts rel fork segment)) (tree_below d other (file_parts rel fork segment))
      (file-no_version rel fork segment) (both.alike (file_parts rel fork segment))
      ∙ sym (ap (λ p. length (bytes_at d p)) (file-lies other rel fork segment))

  none_same : (place : ℕ) (a b : List ℕ) → length a ≡ length b → whole_block place a ≡ None → whole_block place b ≡ None
  none_same place a b same none = by (nat_lt place (length a / 8192)) refl none
    where
      by : (is : Bool) → nat_lt place (length a / 8192) ≡ is → (if is then Some (take 8192 (drop (place * 8192) a)) else None) ≡ None → whole_block place b ≡ None
      by true is e = absurd cc
      by false is e = ap (λ t. if t then Some (take 8192 (drop (place * 8192) b)) else None) (sym (ap (λ n. nat_lt place (n / 8192)) same) ∙ is)

  block_same : (name : BlockName) → ((page : List ℕ) → block_in root per name c ≡ Some page → block_in other per name d ≡ Some page) → block_in root per name c ≡ block_in other per name d
  block_same name keeps = by (block_in root per name c) refl
    where
      by : (state : Option (List ℕ)) → block_in root per name c ≡ state → block_in root per name c ≡ block_in other per name d
      by None is =
          is ∙ sym (none_same (name.block % per) (bytes_at c (relation_file root name.rel name.fork (name.block / per))) (bytes_at d (relation_file other name.rel name.fork (name.block / per)))
          (size_same name.rel name.fork (name.block / per)) is)
      by (Some page) is = is ∙ sym (keeps page is)

-- ---- and so each block is again

pub block-again : (custom : Option Extension) (root other : PathValue) (per : ℕ) (records : List LogRecord) (w x : World)
    → IsLeastChanged custom (map split_of records) None → AlikeClusters per w.files root x.files other → KeepsUntouched custom root other per records w x
    → (name : BlockName) → IsMainBlock name → IsAgain custom root other per records w x name
block-again custom root other per records w x least both keeps name main =
    by (either (steps custom name records) (sym (ap (λ f. is_main f && is_changed_first (steps custom name records)) main.main) ∙ least name))
  where
    by : (is_met (steps custom name records) ≡ false) ⊎ BeginsAnew (steps custom name records) → IsAgain custom root other per records w x name
    by (inl none) = inl (ap (option_and_then page_or_none)
        (block_same root other per w.files x.files both name (λ page has. keeps name page main (unmet (steps custom name records) none) has)))
    by (inr anew) = inr anew

-- What a walk below a root tells at a path is what stands there, as a plan asks it.
use Rattle.std.proofs.Common.{◌≡◌, ℕ, ◌%◌, ◌==◌, Bool, true, false, not, ◌&&◌, cond, List, length, Option, None, Some, is_some, refl, sym, ap, ◌∙◌, subst, true≢false, arith}
use Rattle.std.proofs.lemmas.Bool.Decides.{nat_tests}
use Rattle.std.specs.Prelude.{Ok, if◌then◌else◌}
use Rattle.cluster_tree.specs.Contents.{Contents, Entry, FolderEntry, FileEntry, LinkEntry, entry_at, is_folder}
use Rattle.cluster_tree.specs.PathValue.{PathValue, below, path_of}
use Rattle.cluster_tree.proofs.OrderLemmas.{same_path}
use Rattle.file_walk.specs.declared.entry.Entry.{Entry as Walked}
use Rattle.file_walk.specs.declared.entry.EntryKind.{EntryKind}
use Rattle.file_walk.specs.declared.entry.EntryKind.TheVariants as kind
use Rattle.file_walk.specs.declared.fault.WalkFault.{WalkFault}
use Rattle.file_walk.specs.declared.fault.WalkFault.TheVariants as fault
use Rattle.file_walk.specs.Laws.{IsSound}
use Rattle.file_walk.specs.Pairs.{kind_in}
use Rattle.file_walk.specs.Relations.{relation_of}
use Rattle.file_walk.specs.Walk.{HasParts, kind_there, walk_of}
use Rattle.file_walk.proofs.StandLemmas.{kind-told, own-path, root-folder, sound-there}
use Rattle.rewind_plan.specs.Sides.{IsKind, IsWhole}

clean : (bad : Bool) (flaw : WalkFault) → cond bad (Some flaw) None ≡ None → bad ≡ false
clean true flaw h = absurd (cc h)
clean false flaw h = refl

kind_of_sound : (q : PathValue) (o : Option Entry) → IsSound q o → IsKind (kind_there o) o
kind_of_sound q None h = refl
kind_of_sound q (Some (FolderEntry bad)) h = ap (λ b. Some (FolderEntry b)) (clean bad (fault.NameNotText q) h)
kind_of_sound q (Some (FileEntry bytes)) h = (bytes, refl, refl)
kind_of_sound q (Some LinkEntry) h = absurd (cc h)

sound : (b whole : Bool) (flaw : WalkFault) → (if b && not whole then Some flaw else None) ≡ None → b ≡ true → whole ≡ true
sound true true flaw h is = refl
sound true false flaw h is = absurd (cc h)
sound false whole flaw h is = absurd (true≢false (sym is))

is_zero : (n : ℕ) → n == 0 ≡ true → n ≡ 0
is_zero n h = grind (arith, nat_tests, h)

whole_of_sound : (q : PathValue) (o : Option Entry) → IsSound q o → is_some (relation_of q) ≡ true → IsWhole (kind_there o)
whole_of_sound q None h is = tt
whole_of_sound q (Some (FolderEntry bad)) h is = tt
whole_of_sound q (Some (FileEntry bytes)) h is = is_zero (length bytes % 8192) (sound (is_some (relation_of q)) (length bytes % 8192 == 0) (fault.OddSize q (length bytes)) h is)
whole_of_sound q (Some LinkEntry) h is = tt

nothing : (k : Option EntryKind) → is_some k ≡ false → IsWhole k
nothing None h = tt
nothing (Some kind.Folder) h = tt
nothing (Some (kind.File size)) h = absurd (true≢false h)

module _ (c : Contents) (root : PathValue) (es : List Walked) (walk : walk_of c root ≡ Ok es) where
  pub folder-stands : is_folder (entry_at c root) ≡ true
  folder-stands = ap is_folder (root-folder c root es walk)

  module _ (proper : HasParts c root) where
    -- what is told has the kind of what stands there
    pub kind-stands : (parts : List (List ℕ)) → length parts == 0 ≡ false → IsKind (kind_in es (path_of false parts)) (entry_at c (below root parts))
    kind-stands parts deep =
        subst (λ k. IsKind k (entry_at c (below root parts))) (sym (kind-told c root es walk proper parts deep))
        (kind_of_sound (path_of false parts) (entry_at c (below root parts)) (sound-there c root es walk proper parts deep))

    -- and a main fork's file has whole blocks
    pub whole-blocks : (q : PathValue) → is_some (relation_of q) ≡ true → IsWhole (kind_in es q)
    whole-blocks q is = by (is_some (kind_in es q)) refl
      where
        by : (b : Bool) → is_some (kind_in es q) ≡ b → IsWhole (kind_in es q)
        by false none = nothing (kind_in es q) none
        by true some =
            let own = own-path c root es walk q some in
            let same : path_of false q.parts ≡ q = same_path (path_of false q.parts) q (sym own.0) refl in
            subst IsWhole (sym (kind-told c root es walk proper q.parts own.1) ∙ ap (kind_in es) same)
            (whole_of_sound q (entry_at c (below root q.parts)) (subst (λ p. IsSound p (entry_at c (below root q.parts))) same (sound-there c root es walk proper q.parts own.1)) is)

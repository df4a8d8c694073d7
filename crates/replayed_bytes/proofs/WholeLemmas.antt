-- Clusters whose files of main forks have whole blocks alone.
use Rattle.std.proofs.Common.{◌≡◌, ℕ, ◌%◌, ◌==◌, Bool, true, false, not, ◌&&◌, List, [], ◌∷◌, length, Option, None, Some, Ok, is_some, refl, sym, ap, ◌∙◌, arith}
use Rattle.std.specs.Prelude.{if◌then◌else◌}
use Rattle.alike_clusters.specs.Clusters.{AlikeClusters, is_alike}
use Rattle.alike_clusters.proofs.LikeLemmas.{same-size}
use Rattle.alike_clusters.proofs.NameLemmas.{file-lies, file-no_version, file_parts}
use Rattle.block_refs.specs.declared.names.Fork.TheVariants.{Main}
use Rattle.block_refs.specs.declared.names.RelName.{RelName}
use Rattle.cluster_tree.specs.Contents.{Contents, Entry, FolderEntry, FileEntry, LinkEntry, entry_at}
use Rattle.cluster_tree.specs.PathValue.{PathValue, below, path_of}
use Rattle.cluster_tree.specs.Tree.{bytes_in}
use Rattle.file_edits.specs.Alike.{AlikeEntries, Neither, Folders, Files, Links}
use Rattle.file_walk.specs.Actions.{here, is_version}
use Rattle.file_walk.specs.Laws.{IsSound}
use Rattle.file_walk.specs.Relations.{relation_of}
use Rattle.file_walk.specs.Walk.{HasParts, walk_of}
use Rattle.file_walk.specs.declared.entry.Entry.{Entry as Walked}
use Rattle.file_walk.specs.declared.fault.WalkFault.TheVariants as fault
use Rattle.file_walk.proofs.RelationLemmas.{relation_read}
use Rattle.file_walk.proofs.StandLemmas.{tells-all}
use Rattle.storage_laws.proofs.NumberLemmas.{eq-is, eq-no_more}
use Rattle.replayed_bytes.specs.Bytes.{HasWholeBlocks}

-- ---- as a walk finds them

no_root : {P : Type 0} (at : RelName × ℕ) → relation_of (path_of false []) ≡ Some at → P
unfolding relation_of
no_root at is = absurd cc

-- a size that is no flaw
even : (own : PathValue) (size : ℕ) (at : Option (RelName × ℕ)) (t : Bool) → is_some at ≡ true → (size % 8192 == 0) ≡ t
    → (if is_some at && not t then Some (fault.OddSize own size) else None) ≡ None → size % 8192 ≡ 0
even own size None t main is fine = absurd cc
even own size (Some at) true main is fine = eq-is (size % 8192) 0 is
even own size (Some at) false main is fine = absurd cc

sound_even : (own : PathValue) (at : RelName × ℕ) → relation_of own ≡ Some at → (o : Option Entry) → IsSound own o → length (bytes_in o) % 8192 ≡ 0
sound_even own at is None sound = refl
sound_even own at is (Some (FolderEntry bad)) sound = refl
sound_even own at is (Some (FileEntry bytes)) sound = even own (length bytes) (relation_of own) (length bytes % 8192 == 0) (ap is_some is) refl sound
sound_even own at is (Some LinkEntry) sound = refl

pub walked-whole : (c : Contents) (root : PathValue) (entries : List Walked) → HasParts c root → walk_of c root ≡ Ok entries → HasWholeBlocks c root
walked-whole c root entries proper walked [] at is = no_root at is
walked-whole c root entries proper walked (part ∷ parts) at is =
    sound_even (path_of false (part ∷ parts)) at is (entry_at c (below root (part ∷ parts))) ((tells-all c root entries walked).sound proper (part ∷ parts) (eq-no_more (length (part ∷ parts)) 0 (omega arith)))

-- ---- in alike clusters

no_version : (parts : List (List ℕ)) (at : RelName × ℕ) → relation_of (path_of false parts) ≡ Some at → is_version (path_of false parts) ≡ false
no_version parts at is =
    let file = relation_read (path_of false parts) at.0 at.1 is in
    let own : parts ≡ file_parts at.0 Main at.1 = ap (λ (p : PathValue). p.parts) (file.lies ∙ file-lies here at.0 Main at.1) in
    ap (λ l. is_version (path_of false l)) own ∙ file-no_version at.0 Main at.1

pub alike-whole : (root other : PathValue) (per : ℕ) (c d : Contents) → AlikeClusters per c root d other → HasWholeBlocks c root → HasWholeBlocks d other
alike-whole root other per c d both whole parts at is = by (entry_at c (below root parts)) (entry_at d (below other parts)) (both.alike parts) (whole parts at is)
  where
    by : (o p : Option Entry) → AlikeEntries (is_alike per parts) o p → length (bytes_in o) % 8192 ≡ 0 → length (bytes_in p) % 8192 ≡ 0
    by o p Neither sized = sized
    by o p (Folders bad) sized = sized
    by o p (Files a b like) sized = ap (λ n. n % 8192) (sym (same-size per parts (no_version parts at is) a b like)) ∙ sized
    by o p Links sized = sized

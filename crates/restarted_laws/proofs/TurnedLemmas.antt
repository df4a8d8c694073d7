-- Alike clusters the other way round.
use Rattle.std.proofs.Common.{◌≡◌, ℕ, ◌==◌, Bool, true, false, ◌||◌, List, length, Option, None, Some, inl, inr, refl, sym, ap, ◌∙◌, arith}
use Rattle.std.proofs.lemmas.Slice.Eq.{bytes_eq-Decides}
use Rattle.alike_clusters.specs.Clusters.{AlikeClusters, is_alike, is_alike_file, is_bounded}
use Rattle.block_refs.specs.declared.names.RelName.{RelName}
use Rattle.cluster_laws.specs.Alike.{AlikeWorlds}
use Rattle.cluster_tree.specs.Contents.{Contents, Entry, entry_at}
use Rattle.cluster_tree.specs.PathValue.{PathValue, below, path_of}
use Rattle.file_edits.specs.Alike.{AlikeEntries, AsDeep, Files, Folders, Links, Neither}
use Rattle.file_walk.specs.Actions.{is_version}
use Rattle.file_walk.specs.Relations.{relation_of}
use Rattle.replay_world.specs.World.{World}
use Rattle.storage_laws.proofs.NumberLemmas.{and-both, and-parts, eq-is, eq-yes}

file_turned : (per : ℕ) (at : Option (RelName × ℕ)) (a b : List ℕ) → is_alike_file per at a b ≡ true → is_alike_file per at b a ≡ true
file_turned per None a b like = grind (arith, bytes_eq-Decides, like)
file_turned per (Some at) a b like =
    let two = and-parts (length a == length b) (is_bounded per at.1 (length a)) like in
    let size : length a ≡ length b = eq-is (length a) (length b) two.0 in
    and-both (length b == length a) (is_bounded per at.1 (length b)) (eq-yes (length b) (length a) (sym size)) (ap (is_bounded per at.1) (sym size) ∙ two.1)

or_turned : (v a b : Bool) → (a ≡ true → b ≡ true) → (v || a) ≡ true → (v || b) ≡ true
or_turned true a b turn h = refl
or_turned false a b turn h = turn h

turned_entries : (per : ℕ) (parts : List (List ℕ)) (o p : Option Entry) → AlikeEntries (is_alike per parts) o p → AlikeEntries (is_alike per parts) p o
turned_entries per parts o p Neither = Neither
turned_entries per parts o p (Folders bad) = Folders bad
turned_entries per parts o p (Files a b like) =
    Files b a
    (or_turned (is_version (path_of false parts)) (is_alike_file per (relation_of (path_of false parts)) a b) (is_alike_file per (relation_of (path_of false parts)) b a)
    (file_turned per (relation_of (path_of false parts)) a b) like)
turned_entries per parts o p Links = Links

turned_depth : (c d : Contents) (root other : PathValue) → AsDeep c root d other → AsDeep d other c root
turned_depth c d root other (inl same) = inl (sym same)
turned_depth c d root other (inr two) = inr (two.1, two.0)

clusters_turned : (per : ℕ) (c d : Contents) (root other : PathValue) → AlikeClusters per c root d other → AlikeClusters per d other c root
clusters_turned per c d root other both = record {
  alike = λ parts. turned_entries per parts (entry_at c (below root parts)) (entry_at d (below other parts)) (both.alike parts);
  deep = turned_depth c d root other both.deep;
  room = both.other_room;
  other_room = both.room;
}

pub worlds-turned : (root other : PathValue) (per : ℕ) (w x : World) → AlikeWorlds root other per w x → AlikeWorlds other root per x w
worlds-turned root other per w x both = record {
  files = clusters_turned per w.files x.files root other both.files;
  whole = both.other_whole;
  other_whole = both.whole;
  control = sym both.control;
}

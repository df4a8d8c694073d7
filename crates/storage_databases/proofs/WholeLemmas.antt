-- Files that become given bytes, and versions of databases.
use Rattle.std.proofs.Common.{◌≡◌, ℕ, true, List, length, take, Option, None, Some, Result, Ok, Err, refl, ap, sym, subst, ◌∙◌, inl, inr, arith}
use Rattle.std.proofs.lemmas.Grind.{common_steps}
use Rattle.std.specs.FinMap.{insert}
use Rattle.layout.specs.Splice.{splice}
use Rattle.cluster_tree.specs.PathValue.{PathValue}
use Rattle.cluster_tree.specs.Causes.{given}
use Rattle.cluster_tree.specs.Contents.{Contents, Entry, FolderEntry, FileEntry, LinkEntry, entry_at}
use Rattle.cluster_tree.specs.Tree.{bytes_in, bytes_at}
use Rattle.cluster_tree.specs.declared.file_fault.FileFault.{FileFault}
use Rattle.cluster_tree.proofs.ContentsLemmas.{entry-put}
use Rattle.file_edits.specs.Answers.{Does}
use Rattle.file_edits.specs.Asking.{file_asked, size_asked}
use Rattle.file_edits.specs.Edits.{edited, file_edited, laid, on_way, way_for}
use Rattle.record_layouts.specs.declared.relmap.RelMapUpdate.{RelMapUpdate}
use Rattle.storage_databases.specs.Databases.{version_file, version_by, version_text, database_made}
use Rattle.storage_databases.specs.RelationMap.{is_of_map, map_file, map_written}
use Rattle.file_edits.specs.Edits.{cut_to, file_cut}
use Rattle.file_edits.proofs.AnswerLemmas.{Why, does-is}
use Rattle.file_edits.proofs.TwiceLemmas.{edited-again, edited-fails}

-- bytes laid at the front, and the rest cut off

front_alone : (old bytes : List ℕ) → take (length bytes) (laid 0 0 bytes old) ≡ bytes
unfolding splice
front_alone old bytes = grind (arith, common_steps)

left : (root path : PathValue) (f : List ℕ → List ℕ) (c d : Contents) → file_edited root path f c ≡ Ok d → (b : List ℕ) × (entry_at d path ≡ Some (FileEntry b))
unfolding file_edited
left root path f c d made =
    elim (given (file_asked path (entry_at c path)) (way_for root path c)) as (λ r. given r (λ e. Ok (edited path f e)) ≡ Ok d → (b : List ℕ) × (entry_at d path ≡ Some (FileEntry b))) [
      | Ok e ↦ λ is. let same : edited path f e ≡ d = cc in (f (bytes_at e path), ap (λ x. entry_at x path) (sym same) ∙ entry-put e path (FileEntry (f (bytes_at e path))))
      | Err x ↦ λ is. absurd cc
    ] made

cut_there : (root path : PathValue) (n : ℕ) (d : Contents) (bytes : List ℕ) → entry_at d path ≡ Some (FileEntry bytes) → file_cut path n d ≡ file_edited root path (take n) d
unfolding file_cut file_edited
cut_there root path n d bytes is =
    ap (λ o. given (file_asked path o) (cut_to path n d)) is
    ∙ ap (λ b. Ok (insert d path (FileEntry (take n b)))) (sym (ap bytes_in is))
    ∙ sym (ap (λ o. given (given (file_asked path o) (way_for root path d)) (λ e. Ok (edited path (take n) e))) is)

pub whole-exact : {A : Type 0} (root path : PathValue) (n : ℕ) (bytes : List ℕ) (c d new : Contents) (r : Result A FileFault) → n ≡ length bytes → file_edited root path (laid 0 0 bytes) c ≡ Ok d → Does (file_cut path n d) new r → Does (file_edited root path (λ _. bytes) c) new r
whole-exact root path n bytes c d new r size made done =
    let there = left root path (laid 0 0 bytes) c d made in
    let same : file_edited root path (λ _. bytes) c ≡ file_cut path n d =
    sym (ap (λ (e : List ℕ → List ℕ). file_edited root path e c) (λ i b. front_alone b bytes i))
    ∙ edited-again root path (laid 0 0 bytes) (take (length bytes)) c d made
    ∙ sym (cut_there root path (length bytes) d there.0 there.1)
    ∙ ap (λ k. file_cut path k d) (sym size) in
    does-is (file_cut path n d) _ new r same done

pub whole-refused : (root path : PathValue) (bytes : List ℕ) (c : Contents) (e : FileFault) → Why (file_edited root path (laid 0 0 bytes) c) e → Why (file_edited root path (λ _. bytes) c) e
whole-refused root path bytes c e (inl free) = inl free
whole-refused root path bytes c e (inr is) = inr (edited-fails root path (laid 0 0 bytes) (λ _. bytes) c e is)

-- a map that a record holds

module _ (root : PathValue) (o : Option RelMapUpdate) (update : RelMapUpdate) (c : Contents) (is : o ≡ Some update) where
  meant : map_written root o c ≡ file_edited root (map_file root update.database) (λ _. update.map) c
  meant = ap (λ x. map_written root x c) is

  pub map-refused : (e : FileFault) → Why (file_edited root (map_file root update.database) (λ _. update.map) c) e → Why (map_written root o c) e
  map-refused e why = subst (λ m. Why m e) (sym meant) why

  pub map-done : (new : Contents) → file_edited root (map_file root update.database) (λ _. update.map) c ≡ Ok new → map_written root o c ≡ Ok new
  map-done new done = meant ∙ done

  pub map-own : (q : PathValue) → on_way root (map_file root update.database) q ≡ true → is_of_map root o q ≡ true
  map-own q e = ap (λ x. is_of_map root x q) is ∙ e

-- the version of a database

asked_some : (path : PathValue) (o : Option Entry) (n : ℕ) → size_asked (file_asked path o) ≡ Ok (Some n) → (b : List ℕ) × (file_asked path o ≡ Ok (Some b))
asked_some path None n is = absurd cc
asked_some path (Some (FolderEntry bad)) n is = absurd cc
asked_some path (Some (FileEntry bytes)) n is = (bytes, refl)
asked_some path (Some LinkEntry) n is = absurd cc

asked_none : (path : PathValue) (o : Option Entry) → size_asked (file_asked path o) ≡ Ok None → o ≡ None
asked_none path None is = refl
asked_none path (Some (FolderEntry bad)) is = absurd cc
asked_none path (Some (FileEntry bytes)) is = absurd cc
asked_none path (Some LinkEntry) is = absurd cc

asked_err : (path : PathValue) (o : Option Entry) (e : FileFault) → size_asked (file_asked path o) ≡ Err e → file_asked path o ≡ Err e
asked_err path o e is = by (file_asked path o) is
  where
    by : (r : Result (Option (List ℕ)) FileFault) → size_asked r ≡ Err e → r ≡ Err e
    by (Ok found) no_error = absurd cc
    by (Err f) same = let own : f ≡ e = cc in ap (λ x. Err x) own

module _ (root path : PathValue) (database : ℕ) (c : Contents) (at : path ≡ version_file root database) where
  pub made-refused : (e : FileFault) → Why (size_asked (file_asked path (entry_at c path))) e → Why (database_made root database c) e
  unfolding database_made
  made-refused e (inl free) = inl free
  made-refused e (inr is) =
      let file : PathValue = version_file root database in
      inr (ap (λ r. given r (version_by root file c)) (asked_err file (entry_at c file) e (subst (λ p. size_asked (file_asked p (entry_at c p)) ≡ Err e) at is)))

  pub made-there : (n : ℕ) → size_asked (file_asked path (entry_at c path)) ≡ Ok (Some n) → database_made root database c ≡ Ok c
  unfolding database_made
  made-there n is =
      let file : PathValue = version_file root database in
      let found = asked_some file (entry_at c file) n (subst (λ p. size_asked (file_asked p (entry_at c p)) ≡ Ok (Some n)) at is) in
      ap (λ r. given r (version_by root file c)) found.1

  pub made-new : {A : Type 0} (d new : Contents) (r : Result A FileFault) → size_asked (file_asked path (entry_at c path)) ≡ Ok None → d ≡ c → Does (file_edited root path (laid 0 0 version_text) d) new r → Does (database_made root database c) new r
  unfolding database_made
  made-new d new r is same done =
      let file : PathValue = version_file root database in
      let none = asked_none file (entry_at c file) (subst (λ p. size_asked (file_asked p (entry_at c p)) ≡ Ok None) at is) in
      does-is (file_edited root file (laid 0 0 version_text) c) _ new r (ap (λ o. given (file_asked file o) (version_by root file c)) none)
      (subst (λ p. Does (file_edited root p (laid 0 0 version_text) c) new r) at (subst (λ x. Does (file_edited root path (laid 0 0 version_text) x) new r) same done))

-- How a walk begins: the names in the root wait.
use Rattle.std.proofs.Common.{◌≡◌, ◌⊎◌, ℕ, ◌≤◌, Bool, true, false, ◌||◌, inl, inr, List, [], ◌∷◌, ◌++◌, length, map, filter, Option, None, Some, Ok, Err, refl, ap, ap₂, sym, subst, ◌∙◌, append-nil, arith}
use Rattle.std.specs.FinMap.{entries}
use Rattle.std.specs.List.{filter_map, list_all}
use Rattle.cluster_tree.specs.Causes.{first_of, unless, Rose}
use Rattle.cluster_tree.specs.Contents.{Contents, Entry, FolderEntry, FileEntry, LinkEntry, IsTree, entry_at}
use Rattle.cluster_tree.specs.Folders.{IsListing, names_in}
use Rattle.cluster_tree.specs.PathValue.{PathValue, below, is_part}
use Rattle.cluster_tree.proofs.NamesLemmas.{listing_names}
use Rattle.cluster_tree.proofs.OrderLemmas.{same_path}
use Rattle.cluster_tree.specs.declared.file_fault.FileFault.TheVariants as file
use Rattle.file_walk.specs.declared.fault.WalkFault.{WalkFault}
use Rattle.file_walk.specs.declared.fault.WalkFault.TheVariants as fault
use Rattle.file_walk.specs.declared.place.Place.{Place}
use Rattle.file_walk.specs.declared.waiting.Waiting.{Waiting}
use Rattle.file_walk.specs.Actions.{here}
use Rattle.file_walk.specs.Stepping.{IsBegun}
use Rattle.file_walk.specs.Waiting.{put_names}
use Rattle.file_walk.specs.Faults.{IsFree}
use Rattle.file_walk.specs.Walk.{flaw_at, found_below, root_flaw, walk_of, walked}
use Rattle.file_walk.proofs.AscendLemmas.{itself, key, value}
use Rattle.file_walk.proofs.FoundLemmas.{children}
use Rattle.file_walk.proofs.LoopLemmas.{same_pass}
use Rattle.file_walk.proofs.ProgressLemmas.{Progress, queue_of}
use Rattle.file_walk.proofs.QueueLemmas.{entry, put_all, put_part, waits}
use Rattle.file_walk.proofs.StepLemmas.{found_put, names_put, place_of, put_paths}
use Rattle.file_walk.proofs.WholeLemmas.{all_closed, found_in_order, holds, top}

none_pass : {X : Type 0} (xs : List X) → filter (λ (x : X). false) xs ≡ []
none_pass [] = refl
none_pass (x ∷ xs) = none_pass xs

or_none : (b : Bool) → b ≡ (b || false)
or_none true = refl
or_none false = refl

module _ (c : Contents) (root : PathValue) where
  same_root : root ≡ below root []
  same_root = same_path root (below root []) refl (sym (append-nil root.parts))

  top_waits : put_all (key root) (value root) [] (filter top (found_below c root)) ≡ queue_of root [] (found_below c root)
  top_waits =
      ap (λ (l : List (PathValue × Entry)). put_all (key root) (value root) (map (entry (key root) (value root)) l) (filter top (found_below c root))) (sym (none_pass (found_below c root)))
      ∙ put_part (key root) (value root) (λ x. false) top (found_below c root) (λ x. itself (key root x)) (found_in_order c root)
      ∙ ap (map (entry (key root) (value root))) (same_pass top (waits top holds []) (found_below c root) (λ y. or_none (top y)))

  -- the names in the root, put into nothing
  names_wait : list_all is_part root.parts ≡ true → (names : List (List ℕ)) → IsListing c (below root []) names → list_all is_part names ≡ true
      → put_names (place_of root here) [] names ≡ queue_of root [] (found_below c root)
  unfolding found_below names_in
  names_wait proper names listing parts =
      let named : names ≡ names_in c (below root []) = listing_names c (below root []) names listing in
      let good : list_all is_part (names_in c (below root [])) ≡ true = ap (list_all is_part) (sym named) ∙ parts in
      let whole : list_all is_part (root.parts ++ []) ≡ true = ap (list_all is_part) (append-nil root.parts) ∙ proper in
      names_put root here names []
      ∙ ap (λ (l : List (List ℕ)). put_paths root [] (map (λ (n : List ℕ). below here (n ∷ [])) l)) named
      ∙ ap (put_paths root []) (sym (children root here refl whole (entries c) good))
      ∙ sym (found_put root (filter top (found_below c root)) [])
      ∙ top_waits

  -- what waits at first, by the root's own place
  pub begun_with : (place : Place) → place.own ≡ here → place.full ≡ root → (names : List (List ℕ)) → IsListing c root names → list_all is_part names ≡ true
      → (queue : List (List ℕ × Waiting)) → queue ≡ put_names place [] names → IsBegun c root queue
  begun_with place own full names listing parts queue is = record {
    names = names;
    listing = listing;
    parts = parts;
    put = is ∙ ap₂ (λ (o f : PathValue). put_names (record { own = o; full = f }) [] names) own full;
  }

  -- so the walk begins
  pub started : IsTree c → list_all is_part root.parts ≡ true → (queue : List (List ℕ × Waiting)) → IsBegun c root queue → Progress c root [] queue
  unfolding first_of
  started tree proper queue begun = record {
    done = [];
    others = found_below c root;
    split = refl;
    listed_is = refl;
    flawless = refl;
    queue_is = begun.put ∙ ap (λ (f : PathValue). put_names (record { own = here; full = f }) [] begun.names) same_root
        ∙ names_wait proper begun.names (subst (λ (p : PathValue). IsListing c p begun.names) same_root begun.listing) begun.parts;
    closed = all_closed c tree root;
    ascends = found_in_order c root;
    named = λ x none folder. absurd none;
  }

-- ---- a root that can't be listed

pub refused_at_root : (c : Contents) (root : PathValue) (e : WalkFault) → (IsFree e ⊎ (root_flaw root (entry_at c root) ≡ Some e)) → IsFree e ⊎ (walk_of c root ≡ Err e)
unfolding walk_of
refused_at_root c root e (inl free) = inl free
refused_at_root c root e (inr flaw) =
    inr (ap (λ o. unless o (unless (first_of (map (flaw_at (length root.parts)) (found_below c root))) (Ok (filter_map walked (found_below c root))))) flaw)

flaw_unchanged : (root : PathValue) (o : Option Entry) (p : PathValue) → root_flaw root o ≡ Some (fault.File (file.Changed p)) → ⊥
flaw_unchanged root None p h = absurd (let wrong : fault.File (file.NotFolder root) ≡ fault.File (file.Changed p) = cc in cc)
flaw_unchanged root (Some (FolderEntry true)) p h = absurd (let wrong : fault.NameNotText here ≡ fault.File (file.Changed p) = cc in cc)
flaw_unchanged root (Some (FolderEntry false)) p h = absurd cc
flaw_unchanged root (Some (FileEntry bytes)) p h = absurd (let wrong : fault.File (file.NotFolder root) ≡ fault.File (file.Changed p) = cc in cc)
flaw_unchanged root (Some LinkEntry) p h = absurd (let wrong : fault.File (file.NotFolder root) ≡ fault.File (file.Changed p) = cc in cc)

pub root_unchanged : (root : PathValue) (o : Option Entry) (e : WalkFault) → (IsFree e ⊎ (root_flaw root o ≡ Some e)) → (p : PathValue) → e ≡ fault.File (file.Changed p) → ⊥
root_unchanged root o e (inl (inl free)) p is = absurd (let wrong : fault.File file.ReadFault ≡ fault.File (file.Changed p) = cc in cc)
root_unchanged root o e (inl (inr free)) p is = absurd (let wrong : fault.File file.OutOfMemory ≡ fault.File (file.Changed p) = cc in cc)
root_unchanged root o e (inr flaw) p is = flaw_unchanged root o p (flaw ∙ ap (λ (v : WalkFault). Some v) is)

-- a count that rose at the end rose on the whole way
pub rose_on : (a b c : ℕ) → a ≤ b → b ≤ c → Rose b c → Rose a c
rose_on a b c h k rose = grind arith

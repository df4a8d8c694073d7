-- A rewind of a pair's target to its source is needed: both walks find what stands, each path has room, and no kinds differ.
use Rattle.std.proofs.Common.{◌≡◌, ◌⊎◌, inl, inr, ℕ, ℤ, ◌+◌, ◌<◌, ◌≤◌, ◌^◌, Bool, true, false, ◌&&◌, ◌||◌, nat_lt, List, [], ◌∷◌, ◌++◌, length, Option, None, Some, is_some, Ok, option_map, refl, sym, ap, ap₂, ◌∙◌, subst, true≢false, arith, codes}
use Rattle.std.proofs.lemmas.Bool.Decides.{nat_tests}
use Rattle.std.proofs.lemmas.List.{append-nil, length-append}
use Rattle.std.proofs.lemmas.List.Folds.{list_all-append}
use Rattle.std.specs.List.{filter_map, list_all, list_any}
use Rattle.cluster_tree.specs.Causes.{first_of, given as given_read, unless}
use Rattle.cluster_tree.specs.Contents.{Contents, Entry, FolderEntry, entry_at}
use Rattle.cluster_tree.specs.PathOrder.{path_eq}
use Rattle.cluster_tree.specs.PathValue.{PathValue, below, is_part, path_of}
use Rattle.cluster_tree.proofs.OrderLemmas.{same_path}
use Rattle.clusters.specs.RootControl.{control_at}
use Rattle.clusters.specs.RootLog.{log_at}
use Rattle.file_walk.specs.Laws.{IsOwn, TellsAll}
use Rattle.file_walk.specs.Pairs.{kind_in, pair_at, pairs_of, paths_of}
use Rattle.file_walk.specs.Walk.{HasParts, found_below, kind_there, walk_of, walked}
use Rattle.file_walk.specs.declared.entry.Entry.{Entry as Walked}
use Rattle.file_walk.proofs.StandLemmas.{is-among, tells-all}
use Rattle.rewind_core.specs.Faults.{seen}
use Rattle.rewind_core.specs.Planned.{Needs, from_pairs, from_parting, from_size, from_survey, from_walks, planned_of}
use Rattle.rewind_plan.specs.Checks.{first_difference, is_difference}
use Rattle.rewind_plan.specs.Planned.{Between, action_of}
use Rattle.rewind_plan.specs.Room.{first_lacking, lacks_room, makes}
use Rattle.rewind_survey.specs.Faults.{told_by}
use Rattle.rewind_survey.specs.declared.fault.RewindFault.TheVariants as fault
use Rattle.wal_base.specs.SizeOfBytes.{size_of_bytes}
use Rattle.wal_records.specs.Further.{pages_of}
use Rattle.pair_maker.specs.Clusters.{source_entries, target_entries}
use Rattle.pair_maker.specs.Files.{control_of, relation_bytes}
use Rattle.pair_maker.specs.Logs.{last_place, megabyte, records_of}
use Rattle.pair_maker.specs.declared.side.Side.TheVariants.{Target, Source}
use Rattle.pair_laws.specs.Read.{IsRead}
use Rattle.pair_laws.specs.Stands.{HasPair, source_of, target_of}
use Rattle.pair_laws.specs.Survey.{pair_aim, pair_needing, pair_pairs, pair_parting}
use Rattle.pair_laws.proofs.ControlLemmas.{size-is}
use Rattle.pair_laws.proofs.FlawLemmas.{walk-sound}
use Rattle.pair_laws.proofs.HistoryLemmas.{target_spans}
use Rattle.pair_laws.proofs.KindLemmas.{IsSort, no-path, not-past, same-sorts, sort-there}
use Rattle.pair_laws.proofs.NamedLemmas.{named-all, pair-at-s, pair-at-t}
use Rattle.pair_laws.proofs.PlaceLemmas.{source-root, target-root}
use Rattle.pair_laws.proofs.SurveyLemmas.{source-read, survey-found, target-read}
use Rattle.pair_laws.proofs.ThereLemmas.{Holds, flawless, in_folders, source-hold, target-hold}

-- ---- a root below which all that stands is as it is in a pair

pub record IsThere {A : Type 0} (o : Option A) : Type 0 where
  pub at : A
  pub is : o ≡ Some at

pub there-is : {A : Type 0} (o : Option A) → is_some o ≡ true → IsThere o
there-is None h = absurd (true≢false (sym h))
there-is (Some a) h = record { at = a; is = refl }

kind_is : (o : Option Entry) → is_some (kind_there o) ≡ true → IsThere o
kind_is None h = absurd (true≢false (sym h))
kind_is (Some e) h = record { at = e; is = refl }

-- what stands at any path below it holds as that of a pair
pub record IsCluster (c : Contents) (root : PathValue) (bytes : List ℕ) : Type 0 where
  pub room : length root.parts ≤ 61
  pub proper : list_all is_part root.parts ≡ true
  pub top : entry_at c root ≡ Some (FolderEntry false)
  pub each : (parts : List (List ℕ)) (e : Entry) → entry_at c (below root parts) ≡ Some e → Holds bytes parts e

module _ (c : Contents) (root : PathValue) (bytes : List ℕ) (is : IsCluster c root bytes) where
  abbrev pub walked_in : List Walked
  walked_in = filter_map walked (found_below c root)

  pub cluster-walked : walk_of c root ≡ Ok (filter_map walked (found_below c root))
  cluster-walked = walk-sound c root is.top (λ parts e there. flawless (length root.parts) bytes parts e is.room (is.each parts e there))

  pub cluster-parts : HasParts c root
  cluster-parts parts some =
      let there = there-is (entry_at c (below root parts)) some in
      list_all-append is_part root.parts parts ∙ ap (λ b. b && list_all is_part parts) is.proper ∙ (is.each parts there.at there.is).proper

  tells : TellsAll c root (filter_map walked (found_below c root))
  tells = tells-all c root (filter_map walked (found_below c root)) cluster-walked

  pub cluster-own : (k : PathValue) → is_some (kind_in (filter_map walked (found_below c root)) k) ≡ true → IsOwn k
  cluster-own k some = (tells.own k some).0

  kind_at : (k : PathValue) → IsOwn k → kind_in (filter_map walked (found_below c root)) k ≡ kind_there (entry_at c (below root k.parts))
  kind_at k own =
      let whole : path_of false k.parts ≡ k = same_path (path_of false k.parts) k (sym own.0) refl in
      subst (λ p. kind_in (filter_map walked (found_below c root)) p ≡ kind_there (entry_at c (below root k.parts))) whole (tells.kind cluster-parts k.parts own.1)

  pub cluster-short : (k : PathValue) → is_some (kind_in (filter_map walked (found_below c root)) k) ≡ true → length k.parts ≤ 3
  cluster-short k some =
      let own = cluster-own k some in
      let there = kind_is (entry_at c (below root k.parts)) (ap is_some (sym (kind_at k own)) ∙ some) in
      (is.each k.parts there.at there.is).short

  pub cluster-sort : (k : PathValue) → IsOwn k → IsSort (in_folders k.parts) (kind_in (filter_map walked (found_below c root)) k)
  cluster-sort k own = subst (λ o. IsSort (in_folders k.parts) o) (sym (kind_at k own)) (sort-there (in_folders k.parts) (entry_at c (below root k.parts)) (λ e there. (is.each k.parts e there).sort))

-- ---- two such roots

or_cases : (a b : Bool) → (a || b) ≡ true → (a ≡ true) ⊎ (b ≡ true)
or_cases true b h = inl refl
or_cases false b h = inr h

near : (depth n : ℕ) → depth ≤ 61 → n ≤ 3 → nat_lt 64 (depth + n) ≡ false
near depth n room short = grind (arith, nat_tests)

module _ (c : Contents) (w : Between) (old new : List ℕ) (one : IsCluster c w.target old) (other : IsCluster c w.source new) where
  abbrev ts : List Walked
  ts = filter_map walked (found_below c w.target)

  abbrev ss : List Walked
  ss = filter_map walked (found_below c w.source)

  either : (k : PathValue) → list_any (path_eq k) (paths_of ts ss) ≡ true → (is_some (kind_in ts k) ≡ true) ⊎ (is_some (kind_in ss k) ≡ true)
  either k among = or_cases (is_some (kind_in ts k)) (is_some (kind_in ss k)) (sym (is-among ts ss k) ∙ among)

  own_by : (k : PathValue) → (is_some (kind_in ts k) ≡ true) ⊎ (is_some (kind_in ss k) ≡ true) → IsOwn k
  own_by k (inl t) = cluster-own c w.target old one k t
  own_by k (inr s) = cluster-own c w.source new other k s

  short_by : (k : PathValue) → (is_some (kind_in ts k) ≡ true) ⊎ (is_some (kind_in ss k) ≡ true) → length k.parts ≤ 3
  short_by k (inl t) = cluster-short c w.target old one k t
  short_by k (inr s) = cluster-short c w.source new other k s

  pub none-lacking : first_lacking w (pairs_of ts ss) ≡ None
  unfolding pairs_of
  none-lacking =
      no-path (lacks_room w) ts ss (paths_of ts ss)
      (λ k among.
      let short = short_by k (either k among) in
      let pair = pair_at ts ss k in
      not-past (is_some pair.target || makes (action_of pair)) (is_some pair.source) (nat_lt 64 (length w.target.parts + length k.parts)) (nat_lt 64 (length w.source.parts + length k.parts))
      (near (length w.target.parts) (length k.parts) one.room short) (near (length w.source.parts) (length k.parts) other.room short))

  pub none-differing : first_difference (pairs_of ts ss) ≡ None
  unfolding pairs_of
  none-differing =
      no-path (λ pair. is_difference (action_of pair)) ts ss (paths_of ts ss)
      (λ k among.
      let own = own_by k (either k among) in
      same-sorts k (in_folders k.parts) (kind_in ts k) (kind_in ss k) (cluster-sort c w.target old one k own) (cluster-sort c w.source new other k own))

-- ---- a pair

module _ (root : PathValue) (seed blocks : ℕ) (c : Contents) (pair : HasPair root seed blocks c) where
  longer : (name : List ℕ) → length (root.parts ++ name ∷ []) ≤ 61
  longer name = let room = pair.room in omega (arith, room, length-append root.parts (name ∷ []))

  proper_with : (name : List ℕ) → is_part name ≡ true → list_all is_part (root.parts ++ name ∷ []) ≡ true
  proper_with name part = list_all-append is_part root.parts (name ∷ []) ∙ ap₂ (λ a b. a && (b && true)) pair.proper part

  at_root : (folder : PathValue) → entry_at c (below folder []) ≡ Some (FolderEntry false) → entry_at c folder ≡ Some (FolderEntry false)
  at_root folder is = ap (λ l. entry_at c (path_of folder.absolute l)) (sym (append-nil folder.parts)) ∙ is

  pub target-cluster : IsCluster c (target_of root) (relation_bytes Target seed blocks)
  target-cluster = record {
    room = longer (codes "t");
    proper = proper_with (codes "t") refl;
    top = at_root (target_of root) (target-root root seed blocks c pair.stands);
    each = λ parts e there.
        named-all (Holds (relation_bytes Target seed blocks)) (target_entries seed blocks) parts (target-hold seed blocks) e
        (sym (pair-at-t root seed blocks c pair.stands parts) ∙ there);
  }

  pub source-cluster : IsCluster c (source_of root) (relation_bytes Source seed blocks)
  source-cluster = record {
    room = longer (codes "s");
    proper = proper_with (codes "s") refl;
    top = at_root (source_of root) (source-root root seed blocks c pair.stands);
    each = λ parts e there.
        named-all (Holds (relation_bytes Source seed blocks)) (source_entries seed blocks) parts (source-hold seed blocks) e
        (sym (pair-at-s root seed blocks c pair.stands parts) ∙ there);
  }

module _ (root : PathValue) (seed blocks : ℕ) (c : Contents) (pair : HasPair root seed blocks c) (read : IsRead (pages_of (log_at (target_of root) None target_spans megabyte) c) Target (records_of Target seed blocks)) (low : last_place Source seed blocks < 2 ^ 64) (now : ℤ) where
  one : IsCluster c (target_of root) (relation_bytes Target seed blocks)
  one = target-cluster root seed blocks c pair

  other : IsCluster c (source_of root) (relation_bytes Source seed blocks)
  other = source-cluster root seed blocks c pair

  abbrev w : Between
  w = (pair_aim root seed blocks now).between

  pairs_pass : first_lacking w (pair_pairs root c) ≡ None → first_difference (pair_pairs root c) ≡ None → from_pairs (pair_aim root seed blocks now) (pair_pairs root c) ≡ Ok (Needs (pair_needing root seed blocks c now))
  unfolding first_of
  pairs_pass a b =
      ap₂ (λ x y. unless (first_of (option_map fault.TooDeep x ∷ option_map fault.KindsDiffer y ∷ [])) (Ok (Needs (pair_needing root seed blocks c now)))) a b

  pub planned-found : planned_of c (target_of root) (source_of root) now ≡ Ok (Needs (pair_needing root seed blocks c now))
  unfolding planned_of from_parting from_walks
  planned-found =
      let target = target_of root in
      let source = source_of root in
      let part = pair_parting seed blocks in
      let aim = pair_aim root seed blocks now in
      let bytes = relation_bytes Target seed blocks in
      let others = relation_bytes Source seed blocks in
      ap (λ r. given_read r (from_survey c target source now)) (survey-found root seed blocks c pair read low)
      ∙ ap (λ r. given_read (told_by r) (λ t. given_read (told_by (control_at c source)) (λ s. from_size c target source part t s (size_of_bytes t.walSegSize) now))) (target-read root seed blocks c pair read low)
      ∙ ap (λ r. given_read (told_by r) (λ s. from_size c target source part (control_of Target seed blocks) s (size_of_bytes 0x10_0000) now)) (source-read root seed blocks c pair read low)
      ∙ ap (λ o. from_size c target source part (control_of Target seed blocks) (control_of Source seed blocks) o now) size-is
      ∙ ap (λ r. given_read (seen r) (λ ts. given_read (seen (walk_of c source)) (λ ss. from_pairs aim (pairs_of ts ss)))) (cluster-walked c target bytes one)
      ∙ ap (λ r. given_read (seen r) (λ ss. from_pairs aim (pairs_of (filter_map walked (found_below c target)) ss))) (cluster-walked c source others other)
      ∙ pairs_pass (none-lacking c w bytes others one other) (none-differing c w bytes others one other)

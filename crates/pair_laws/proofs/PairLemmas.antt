-- A pair has parted, its rewind is needed, and it grew from one state.
use Rattle.std.proofs.Common.{◌≡◌, inl, ℕ, pos, ◌+◌, ◌<◌, ◌≤◌, max, Bool, true, false, ◌&&◌, nat_lt, List, [], ◌∷◌, length, None, Some, codes, refl, sym, ap, ◌∙◌, subst, true≢false, append_assoc, arith, if◌then◌else◌}
use Rattle.std.proofs.lemmas.Bool.Decides.{nat_tests}
use Rattle.std.proofs.lemmas.List.{length-append}
use Rattle.std.specs.Fmt.{digits}
use Rattle.block_refs.specs.declared.names.BlockName.{BlockName}
use Rattle.block_refs.specs.declared.names.Fork.TheVariants.{Main}
use Rattle.cluster_tree.specs.Contents.{Contents, FileEntry, entry_at}
use Rattle.cluster_tree.specs.PathValue.{PathValue, below, kept_parts, path_of}
use Rattle.page_masks.specs.Law.{PageView, view}
use Rattle.relation_files.specs.Names.{name_of}
use Rattle.relation_files.specs.Paths.{folder_parts, relation_file}
use Rattle.replay_law.specs.Stage.{Fits, Matches}
use Rattle.replay_laws.specs.Held.{IsMainBlock}
use Rattle.replay_laws.specs.Log.{steps}
use Rattle.replay_profile.specs.Names.{is_rel}
use Rattle.rewound_laws.specs.Grew.{GrewFrom, GrewFromOneState}
use Rattle.rewound_laws.proofs.ConvergeLemmas.{follows}
use Rattle.storage_laws.specs.States.{page_in}
use Rattle.touched_blocks.specs.Named.{is_rel as is_touched}
use Rattle.touched_blocks.specs.Touched.{touches}
use Rattle.pair_maker.specs.Blocks.{block_page}
use Rattle.pair_maker.specs.Files.{relation_bytes}
use Rattle.pair_maker.specs.Inserts.{inserts_into, pair_relation}
use Rattle.pair_maker.specs.Logs.{block_end, log_upto, made_at}
use Rattle.pair_maker.specs.declared.side.Side.TheVariants.{Target, Source}
use Rattle.pair_laws.specs.Grew.{PairsFollow, PairsGrewFromOneState, pair_rewind}
use Rattle.pair_laws.specs.Life.{base_of, side_records}
use Rattle.pair_laws.specs.Stands.{HasCopy, HasPair, PairHasCopy, copy_of, source_of, target_of}
use Rattle.pair_laws.specs.Start.{copy_start}
use Rattle.pair_laws.specs.Survey.{PairHasParted, PairIsNeeded}
use Rattle.pair_laws.proofs.CopyLemmas.{pair-copied}
use Rattle.pair_laws.proofs.FileLemmas.{page_of_side, relation-long}
use Rattle.pair_laws.proofs.GrewLemmas.{cluster-bounded, cluster-kinds, cluster-logged, cluster-no_gap}
use Rattle.pair_laws.proofs.LifeLemmas.{pair-enough, pair-lives}
use Rattle.pair_laws.proofs.LogLemmas.{target-log_read}
use Rattle.pair_laws.proofs.NamedLemmas.{pair-at-c, pair-at-s, pair-at-t}
use Rattle.pair_laws.proofs.NamesLemmas.{names_of_log, unnamed-block}
use Rattle.pair_laws.proofs.PlannedLemmas.{IsCluster, planned-found, source-cluster, target-cluster}
use Rattle.pair_laws.proofs.RecordLemmas.{touches-named}
use Rattle.pair_laws.proofs.SmallLemmas.{last_low}
use Rattle.pair_laws.proofs.StartLemmas.{copy-starts}
use Rattle.pair_laws.proofs.StateLemmas.{page-there, rel-same}
use Rattle.pair_laws.proofs.SurveyLemmas.{pair-names, survey-found}
use Rattle.pair_laws.proofs.WalLemmas.{copy-log_bytes}

pub pair-parted : PairHasParted
pair-parted root seed blocks c pair = survey-found root seed blocks c pair (target-log_read root seed blocks c pair) (last_low Source seed blocks pair.few)

pub pair-needed : PairIsNeeded
pair-needed root seed blocks c now pair = planned-found root seed blocks c pair (target-log_read root seed blocks c pair) (last_low Source seed blocks pair.few) now

-- ---- the target's page of a block that its log doesn't touch is the base's

same_page : (v : PageView) (p q : List ℕ) → p ≡ q → Matches v (Some p) (Some q)
same_page v p q e = record { lsn = ap v.lsn e; mask = ap v.mask e }

matches_by : (v : PageView) (there : Bool) (p q : List ℕ) → (there ≡ true → p ≡ q) → Matches v (if there then Some p else None) (if there then Some q else None)
matches_by v true p q same = same_page v p q (same refl)
matches_by v false p q same = tt

both_true : (a b : Bool) → (a && b) ≡ true → (a ≡ true) × (b ≡ true)
both_true true b h = (refl, h)
both_true false b h = absurd (true≢false (sym h))

empty_page : (seed block : ℕ) → block_page 0 0 None ≡ block_page seed block None
unfolding block_page
empty_page seed block = refl

module _ (root : PathValue) (seed blocks : ℕ) (c : Contents) (pair : HasPair root seed blocks c) where
  target_is : IsCluster c (target_of root) (relation_bytes Target seed blocks)
  target_is = target-cluster root seed blocks c pair

  source_is : IsCluster c (source_of root) (relation_bytes Source seed blocks)
  source_is = source-cluster root seed blocks c pair

  relation_path : (folder : PathValue) → relation_file folder pair_relation Main 0 ≡ below folder (kept_parts (codes "base/5/16384"))
  unfolding digits
  relation_path folder = ap (λ l. path_of folder.absolute l) (append_assoc folder.parts (folder_parts pair_relation) (name_of 16384 Main 0 ∷ []))

  target_file : entry_at c (relation_file (target_of root) pair_relation Main 0) ≡ Some (FileEntry (relation_bytes Target seed blocks))
  target_file = ap (λ p. entry_at c p) (relation_path (target_of root)) ∙ pair-at-t root seed blocks c pair.stands (kept_parts (codes "base/5/16384"))

  source_file : entry_at c (relation_file (source_of root) pair_relation Main 0) ≡ Some (FileEntry (relation_bytes Source seed blocks))
  source_file = ap (λ p. entry_at c p) (relation_path (source_of root)) ∙ pair-at-s root seed blocks c pair.stands (kept_parts (codes "base/5/16384"))

  untouched : (name : BlockName) → is_rel name.rel pair_relation ≡ true → name.block < blocks → touches (side_records Target seed blocks) name.rel name.block ≡ false → inserts_into Target seed name.block ≡ false
  untouched name same low none =
      let names = pair-names root seed blocks c pair (target-log_read root seed blocks c pair) (last_low Source seed blocks pair.few) in
      let own : is_touched pair_relation name.rel ≡ true = ap (λ r. is_touched pair_relation r) (rel-same name.rel pair_relation same) in
      unnamed-block Target seed blocks name.rel name.block own low (sym (touches-named (side_records Target seed blocks) (names_of_log Target seed blocks) name.rel name.block names) ∙ none)

  base_page : (name : BlockName) → touches (side_records Target seed blocks) name.rel name.block ≡ false → (is_rel name.rel pair_relation && nat_lt name.block blocks) ≡ true
      → block_page 0 0 None ≡ page_of_side Target seed name.block
  unfolding block_end
  base_page name none there =
      let both = both_true (is_rel name.rel pair_relation) (nat_lt name.block blocks) there in
      let low : name.block < blocks = grind (arith, nat_tests, both.1) in
      empty_page seed name.block ∙ ap (λ b. block_page seed name.block (if b then Some (log_upto Target seed (name.block + 1)).end else None)) (sym (untouched name both.0 low none))

  target_matches : (name : BlockName) → IsMainBlock name → touches (side_records Target seed blocks) name.rel name.block ≡ false
      → Matches (view name.block) (base_of blocks name) (page_in (target_of root) 131072 name c)
  target_matches name main none =
      subst (λ state. Matches (view name.block) (base_of blocks name) state) (sym (page-there Target seed blocks pair.few c (target_of root) target_is target_file name main))
      (matches_by (view name.block) (is_rel name.rel pair_relation && nat_lt name.block blocks) (block_page 0 0 None) (page_of_side Target seed name.block) (base_page name none))

  source_fits : (name : BlockName) → IsMainBlock name → Fits (view name.block) (base_of blocks name) (page_in (source_of root) 131072 name c) (steps None name (side_records Source seed blocks))
  source_fits name main =
      subst (λ state. Fits (view name.block) (base_of blocks name) state (steps None name (side_records Source seed blocks)))
      (sym (page-there Source seed blocks pair.few c (source_of root) source_is source_file name main)) (pair-lives seed blocks name pair.few main).1

  grew_from : (other : PathValue) (name : BlockName) → IsMainBlock name → GrewFrom None (base_of blocks name) c (pair_rewind root seed blocks c).aim.between (copy_start other seed blocks) name
  grew_from other name main = record { life = (pair-lives seed blocks name pair.few main).0; source = source_fits name main; target = λ some unwanted. target_matches name main unwanted }

  pub own-copy : HasCopy root (copy_of root) seed blocks c
  own-copy = record { room = omega (arith, length-append root.parts (codes "c" ∷ [])); tree = pair.tree; stands = pair-at-c root seed blocks c pair.stands }

  module _ (other : PathValue) (d : Contents) (copy : HasCopy root other seed blocks d) where
    copy_room : length other.parts ≤ 61
    copy_room = let room = pair.room in let near = copy.room in omega (arith, room, near)

    no_deeper : length other.parts ≤ max (length (target_of root).parts) (length (source_of root).parts)
    no_deeper = let near = copy.room in omega (arith, near, length-append root.parts (codes "t" ∷ []), length-append root.parts (codes "s" ∷ []))

    pub pair-grew : GrewFromOneState None (base_of blocks) c (pair_rewind root seed blocks c) d other (copy_start other seed blocks)
    pair-grew =
        let bytes = relation_bytes Source seed blocks in
        let long = relation-long Source seed blocks in record {
          log = record { tree = copy.tree; bytes = copy-log_bytes other seed blocks d copy.stands; starts = copy-starts other seed blocks d pair.few copy.stands; enough = pair-enough seed blocks pair.few };
          files = record {
            kinds = cluster-kinds c (source_of root) bytes blocks pair.few long source_is;
            no_gap = λ rel fork rels. cluster-no_gap c (source_of root) bytes blocks pair.few long source_is rel fork rels;
          };
          room = record { room = target_is.room; other_room = copy_room; deep = inl no_deeper; bounded = cluster-bounded c (source_of root) bytes blocks pair.few long source_is };
          logged = λ name main logged. grew_from other name main;
          unlogged = λ name main init. absurd (true≢false (sym init ∙ cluster-logged c (source_of root) bytes blocks pair.few long source_is name.rel main.block.rel.relation));
        }

pub pair-has_copy : PairHasCopy
pair-has_copy root seed blocks c pair = own-copy root seed blocks c pair

pub pairs-grew : PairsGrewFromOneState
pairs-grew root other seed blocks c d pair copy = record { copied = pair-copied root other seed blocks c d pair.stands copy.stands; grew = pair-grew root seed blocks c pair other d copy }

pub pairs-follow : PairsFollow
pairs-follow root other seed blocks c c' d pair copy left =
    let grown = pairs-grew root other seed blocks c d pair copy in
    follows None tt c c' (target_of root) (source_of root) (pos made_at) (pair_rewind root seed blocks c) (pair-needed root seed blocks c (pos made_at) pair) left (base_of blocks) d other
    (copy_start other seed blocks) grown.copied grown.grew

-- What calls on files leave of whole files: of each block of a main fork its page, or none where the block is gone.
use Rattle.std.proofs.Common.{◌≡◌, ◌≢◌, ℕ, ◌+◌, ◌*◌, ◌/◌, ◌%◌, ◌<◌, ◌^◌, ◌==◌, ◌&&◌, ◌||◌, nat_lt, nat_le, Bool, true, false, not, List, Option, None, Ok, is_some, inl, inr, refl, ap, subst, ◌∙◌, arith}
use Rattle.std.specs.Prelude.{if◌then◌else◌, bit_and}
use Rattle.std.specs.Option.{option_and_then}
use Rattle.std.proofs.lemmas.Bool.{and_right}
use Rattle.std.proofs.lemmas.Bool.Decides.{nat_tests}
use Rattle.std.proofs.lemmas.Nat.Bits.{and_pow}
use Rattle.block_effects.specs.Gone.{is_cut, is_in_dropped}
use Rattle.block_refs.specs.Bits.{has_bits}
use Rattle.block_refs.specs.declared.names.BlockName.{BlockName}
use Rattle.block_refs.specs.declared.names.Fork.{Fork}
use Rattle.block_refs.specs.declared.names.Fork.TheVariants.{Main, Visibility}
use Rattle.block_refs.specs.declared.names.RelName.{RelName}
use Rattle.cluster_tree.specs.PathValue.{PathValue}
use Rattle.cluster_tree.specs.Contents.{Contents, IsTree}
use Rattle.record_layouts.specs.declared.database.DatabaseDrop.{DatabaseDrop}
use Rattle.record_layouts.specs.declared.relmap.RelMapUpdate.{RelMapUpdate}
use Rattle.record_layouts.specs.declared.storage.StorageTruncate.{StorageTruncate}
use Rattle.replay_profile.specs.Names.{is_rel}
use Rattle.storage_databases.specs.Databases.{database_dropped, database_made}
use Rattle.storage_databases.specs.RelationMap.{map_written}
use Rattle.storage_replay.specs.Changes.{created, cuts_main, cuts_map, relation_dropped, truncated}
use Rattle.storage_replay.specs.Cutting.{same_fork}
use Rattle.storage_replay.specs.MapBits.{fill_pages, map_edited, map_page}
use Rattle.storage_replay.specs.declared.map_edit.MapEdit.{MapEdit}
use Rattle.storage_replay.specs.declared.map_edit.MapEdit.TheVariants.{Cut}
use Rattle.storage_laws.specs.After.{cut_state, edited_state, main_by_state, map_by_state}
use Rattle.storage_laws.specs.FileLaws.{IsProper}
use Rattle.storage_laws.specs.Names.{IsBlock, IsRel, block_of, in_fork, is_in_database, same_files}
use Rattle.storage_laws.specs.States.{block_in, page_in, page_or_none}
use Rattle.storage_laws.proofs.CutLemmas.{dropped-is}
use Rattle.storage_laws.proofs.DatabaseLemmas.{database-dropped-is, made-is, map-written-is}
use Rattle.storage_laws.proofs.EditedLemmas.{created-is}
use Rattle.storage_laws.proofs.ForkLemmas.{map-whole}
use Rattle.storage_laws.proofs.GapLemmas.{database-dropped-gaps, dropped-gaps, edited-gaps, truncated-gaps}
use Rattle.storage_laws.proofs.TreeLemmas.{created-tree, database-dropped_tree, dropped-tree, made-database_tree, map-tree, map-written_tree, truncated-tree}
use Rattle.storage_laws.proofs.TruncateLemmas.{gapless-alike, truncated-is}
use Rattle.replay_laws.specs.Held.{IsMainBlock}
use Rattle.replay_laws.specs.Whole.{AreWhole}
use Rattle.replay_laws.proofs.NameLemmas.{rel-same}

-- whole files after a call, and the pages of blocks: of those that pass the test none
pub record Leaves (root : PathValue) (per : ℕ) (gone : BlockName → Bool) (c d : Contents) : Type 0 where
  pub whole : AreWhole root per d
  pub page : (name : BlockName) → IsMainBlock name → page_in root per name d ≡ (if gone name then None else page_in root per name c)

abbrev pub none_gone : BlockName → Bool
none_gone name = false

abbrev pub Stays : PathValue → ℕ → Contents → Contents → Type 0
Stays root per c d = Leaves root per none_gone c d

twice : (a b : Bool) (o : Option (List ℕ)) → (if b then None else (if a then None else o)) ≡ (if a || b then None else o)
twice true true o = refl
twice true false o = refl
twice false true o = refl
twice false false o = refl

pub leaves-then : (root : PathValue) (per : ℕ) (gone more : BlockName → Bool) (c d e : Contents) → Leaves root per gone c d → Leaves root per more d e → Leaves root per (λ name. gone name || more name) c e
leaves-then root per gone more c d e first next = record {
  whole = next.whole;
  page = λ name is. next.page name is ∙ ap (λ o. if more name then None else o) (first.page name is) ∙ twice (gone name) (more name) (page_in root per name c);
}

pub leaves-same : (root : PathValue) (per : ℕ) (c d : Contents) → AreWhole root per c → c ≡ d → Stays root per c d
leaves-same root per c d whole same = subst (Stays root per c) same (record { whole = whole; page = λ name is. refl })

-- where every block stays, so do whole files
pub leaves-blocks : (root : PathValue) (per : ℕ) (c d : Contents) → AreWhole root per c → IsTree d → ((other : BlockName) → IsBlock other → block_in root per other d ≡ block_in root per other c) → Stays root per c d
leaves-blocks root per c d whole tree same = record {
  whole = record {
    tree = tree;
    no_gap = λ rel fork small. gapless-alike root per rel fork c d (λ b l. ap is_some (same (block_of rel fork b) (record { rel = small; block = l }))) (whole.no_gap rel fork small);
  };
  page = λ name is. ap (option_and_then page_or_none) (same name is.block);
}

module _ (root : PathValue) (per : ℕ) (some : 0 < per) (c d : Contents) (whole : AreWhole root per c) where
  pub created-leaves : (rel : RelName) (fork : Fork) → created root rel fork c ≡ Ok d → Stays root per c d
  created-leaves rel fork made = leaves-blocks root per c d whole (created-tree root rel fork c d whole.tree made) (λ other few. created-is root per rel fork other c d made)

  pub made-leaves : (database : ℕ) → database_made root database c ≡ Ok d → Stays root per c d
  made-leaves database made = leaves-blocks root per c d whole (made-database_tree root database c d whole.tree made) (λ other few. made-is root per database other c d some few made)

  pub map-written-leaves : (update : Option RelMapUpdate) → map_written root update c ≡ Ok d → Stays root per c d
  map-written-leaves update made = leaves-blocks root per c d whole (map-written_tree root update c d whole.tree made) (λ other few. map-written-is root per update other c d some few made)

  -- the state of a block that is no page of the map

  no_map : (rel : RelName) (name : BlockName) → IsMainBlock name → in_fork rel Visibility name ≡ false
  no_map rel name is = ap (λ (f : Fork). same_files rel name.rel && same_fork Visibility f) is.main ∙ and_right (same_files rel name.rel) false refl

  edited_stays : (rel : RelName) (block : ℕ) (edit : MapEdit) (name : BlockName) (old : Option (List ℕ)) → IsMainBlock name → edited_state rel block edit name old ≡ old
  edited_stays rel block edit name old is = rw (no_map rel name is) refl

  cut_stays : (rel : RelName) (blocks : ℕ) (name : BlockName) (old : Option (List ℕ)) → IsMainBlock name → cut_state rel Visibility blocks name old ≡ old
  cut_stays rel blocks name old is = rw (no_map rel name is) refl

  pub edited-leaves : (rel : RelName) (block : ℕ) (edit : MapEdit) → IsRel rel → block < 2 ^ 32 → map_edited root per rel block edit c ≡ Ok d → Stays root per c d
  edited-leaves rel block edit small low made = record {
    whole = record {
      tree = map-tree root per rel block edit c d whole.tree made;
      no_gap = λ of fork few. edited-gaps root per rel block edit of fork c d some small few low (whole.no_gap rel Visibility small) made (whole.no_gap of fork few);
    };
    page = λ name is. ap (option_and_then page_or_none)
        (map-whole root per rel block edit name c d some small is.block low (whole.no_gap rel Visibility small) made ∙ edited_stays rel block edit name (block_in root per name c) is);
  }

  -- relations that are dropped

  none_or : (t : Bool) (o : Option (List ℕ)) → option_and_then page_or_none (if t then None else o) ≡ (if t then None else option_and_then page_or_none o)
  none_or true o = refl
  none_or false o = refl

  pub dropped-leaves : (rel : RelName) → IsRel rel → IsProper rel → relation_dropped root rel c ≡ Ok d → Leaves root per (λ name. is_rel rel name.rel) c d
  dropped-leaves rel small proper made = record {
    whole = record {
      tree = dropped-tree root rel c d whole.tree made;
      no_gap = λ of fork few. dropped-gaps root per rel of fork c d some small few whole.tree made (whole.no_gap of fork few);
    };
    page = λ name is.
        ap (option_and_then page_or_none) (dropped-is root per rel name c d some small is.block whole.tree made)
        ∙ none_or (same_files rel name.rel) (block_in root per name c)
        ∙ ap (λ t. if t then None else page_in root per name c) (rel-same rel name.rel proper is.proper);
  }

  -- a database that is dropped

  in_database : (database : ℕ) (rel : RelName) → database ≢ 0 → IsProper rel → is_in_database database rel ≡ (database == rel.database)
  in_database database rel numbered (inl p) = grind (arith, nat_tests, p.0, p.1, numbered)
  in_database database rel numbered (inr p) = grind (arith, nat_tests, p.0, p.1, numbered)

  pub database-leaves : (gone : DatabaseDrop) → gone.database < 2 ^ 32 → gone.database ≢ 0 → database_dropped root gone.database c ≡ Ok d → Leaves root per (λ name. is_in_dropped name gone) c d
  database-leaves gone low numbered made = record {
    whole = record {
      tree = database-dropped_tree root gone.database c d whole.tree made;
      no_gap = λ of fork few. database-dropped-gaps root per gone.database of fork c d some few low whole.tree made (whole.no_gap of fork few);
    };
    page = λ name is.
        ap (option_and_then page_or_none) (database-dropped-is root per gone.database name c d some is.block low whole.tree made)
        ∙ none_or (is_in_database gone.database name.rel) (block_in root per name c)
        ∙ ap (λ t. if t then None else page_in root per name c) (in_database gone.database name.rel numbered is.proper);
  }

  -- a relation that is cut

  map_stays : (rel : RelName) (blocks flags : ℕ) (name : BlockName) (old : Option (List ℕ)) → IsMainBlock name → map_by_state rel blocks flags name old ≡ old
  map_stays rel blocks flags name old is = by (cuts_map flags) (fill_pages blocks)
    where
      by : (t f : Bool) → (if t then (if f then cut_state rel Visibility (map_page blocks) name old else cut_state rel Visibility (map_page blocks + 1) name (edited_state rel blocks Cut name old)) else old) ≡ old
      by false f = refl
      by true true = cut_stays rel (map_page blocks) name old is
      by true false = cut_stays rel (map_page blocks + 1) name (edited_state rel blocks Cut name old) is ∙ edited_stays rel blocks Cut name old is

  flag_one : (flags : ℕ) → cuts_main flags ≡ has_bits flags 1
  flag_one flags = let e : bit_and flags 1 ≡ flags / 1 % 2 * 1 = and_pow flags 0 in grind (arith, nat_tests, e)

  not_less : (a b : ℕ) → not (nat_lt a b) ≡ nat_le b a
  not_less a b = grind (arith, nat_tests)

  cut_tests : (cuts same less : Bool) (o : Option (List ℕ)) → (if cuts then (if (same && true) && less then None else o) else o) ≡ (if cuts && true && same && less then None else o)
  cut_tests true true less o = refl
  cut_tests true false less o = refl
  cut_tests false same less o = refl

  main_cut : (cut : StorageTruncate) (name : BlockName) (old : Option (List ℕ)) → IsProper cut.rel → IsMainBlock name
      → main_by_state cut.rel cut.blocks cut.flags name old ≡ (if is_cut name cut then None else old)
  main_cut cut name old proper is =
      rw (is.main, rel-same cut.rel name.rel proper is.proper, not_less name.block cut.blocks, flag_one cut.flags)
      (cut_tests (has_bits cut.flags 1) (is_rel cut.rel name.rel) (nat_le cut.blocks name.block) old)

  pub truncated-leaves : (cut : StorageTruncate) → IsRel cut.rel → IsProper cut.rel → cut.blocks < 2 ^ 32 → truncated root per cut.rel cut.blocks cut.flags c ≡ Ok d → Leaves root per (λ name. is_cut name cut) c d
  truncated-leaves cut small proper low made = record {
    whole = record {
      tree = truncated-tree root per cut.rel cut.blocks cut.flags c d whole.tree made;
      no_gap = λ of fork few. truncated-gaps root per cut.rel cut.blocks cut.flags of fork c d some small few low whole.tree (whole.no_gap cut.rel Main small) (whole.no_gap cut.rel Visibility small) made (whole.no_gap of fork few);
    };
    page = λ name is.
        let old = block_in root per name c in
        ap (option_and_then page_or_none)
        (truncated-is root per cut.rel cut.blocks cut.flags name c d some small is.block low whole.tree (whole.no_gap cut.rel Main small) (whole.no_gap cut.rel Visibility small) made
        ∙ map_stays cut.rel cut.blocks cut.flags name (main_by_state cut.rel cut.blocks cut.flags name old) is
        ∙ main_cut cut name old proper is)
        ∙ none_or (is_cut name cut) old;
  }

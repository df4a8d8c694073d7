-- Forks without a gap after each call.
use Rattle.std.proofs.Common.{◌≡◌, ℕ, ◌+◌, ◌<◌, ◌^◌, ◌==◌, Bool, true, false, not, ◌&&◌, nat_lt, List, Option, None, is_some, Ok, refl, ap, sym, ◌∙◌, true≢false, arith}
use Rattle.std.specs.Prelude.{if◌then◌else◌}
use Rattle.block_refs.specs.declared.names.BlockName.{BlockName}
use Rattle.block_refs.specs.declared.names.Fork.{Fork}
use Rattle.block_refs.specs.declared.names.Fork.TheVariants.{Main, Visibility}
use Rattle.block_refs.specs.declared.names.RelName.{RelName}
use Rattle.cluster_tree.specs.PathValue.{PathValue}
use Rattle.cluster_tree.specs.Contents.{Contents, IsTree}
use Rattle.record_layouts.specs.declared.relmap.RelMapUpdate.{RelMapUpdate}
use Rattle.storage_databases.specs.Databases.{database_dropped, database_made}
use Rattle.storage_databases.specs.RelationMap.{map_written}
use Rattle.storage_replay.specs.Changes.{created, cuts_main, cuts_map, relation_dropped, truncated}
use Rattle.storage_replay.specs.MapBits.{fill_pages, map_edited, map_page}
use Rattle.storage_replay.specs.declared.map_edit.MapEdit.{MapEdit}
use Rattle.storage_replay.specs.declared.map_edit.MapEdit.TheVariants.{Cut}
use Rattle.storage_laws.specs.After.{cut_state, database_dropped_state, dropped_state, edited_state, main_by_state, map_by_state, map_cut_state, page_edited, truncated_state}
use Rattle.storage_laws.specs.Forks.{HasNoGap}
use Rattle.storage_laws.specs.Names.{IsBlock, IsRel, block_of, in_fork, is_in_database, same_files}
use Rattle.storage_laws.specs.States.{block_in}
use Rattle.storage_laws.proofs.CutLemmas.{dropped-is}
use Rattle.storage_laws.proofs.DatabaseLemmas.{database-dropped-is, made-is, map-written-is}
use Rattle.storage_laws.proofs.EditedLemmas.{created-is}
use Rattle.storage_laws.proofs.ForkLemmas.{map-whole}
use Rattle.storage_laws.proofs.NumberLemmas.{by_order, lt-no, lt-yes}
use Rattle.storage_laws.proofs.TruncateLemmas.{gapless-alike, page_there, truncated-is}

-- what goes of a fork goes from some block on

record Falls (of : RelName) (fork : Fork) (f : BlockName → Option (List ℕ) → Option (List ℕ)) : Type 0 where
  was : (b : ℕ) (o : Option (List ℕ)) → is_some (f (block_of of fork b) o) ≡ true → is_some o ≡ true
  stays : (b n : ℕ) (o p : Option (List ℕ)) → b < n → is_some (f (block_of of fork n) p) ≡ true → is_some o ≡ true → is_some (f (block_of of fork b) o) ≡ true

falls_gapless : (root : PathValue) (per : ℕ) (of : RelName) (fork : Fork) (f : BlockName → Option (List ℕ) → Option (List ℕ)) (c d : Contents) → IsRel of → Falls of fork f → ((x : BlockName) → IsBlock x → block_in root per x d ≡ f x (block_in root per x c)) → HasNoGap root per of fork c → HasNoGap root per of fork d
falls_gapless root per of fork f c d small falls state gapless block next l m there =
    let left : is_some (f (block_of of fork next) (block_in root per (block_of of fork next) c)) ≡ true = sym (ap is_some (state (block_of of fork next) (record { rel = small; block = m }))) ∙ there in
    ap is_some (state (block_of of fork block) (record { rel = small; block = omega (arith, l, m) }))
    ∙ falls.stays block next _ (block_in root per (block_of of fork next) c) l left (gapless block next l m (falls.was next (block_in root per (block_of of fork next) c) left))

none_left : {P : Type 0} → is_some {T = List ℕ} None ≡ true → P
none_left h = absurd cc

gone_or : (t : Bool) (o : Option (List ℕ)) → is_some (if t then None else o) ≡ true → (t ≡ false) × (is_some o ≡ true)
gone_or true o h = none_left h
gone_or false o h = (refl, h)

kept_or : (t : Bool) (o : Option (List ℕ)) → t ≡ false → is_some o ≡ true → is_some (if t then None else o) ≡ true
kept_or t o h there = ap (λ b. is_some (if b then None else o)) h ∙ there

-- the test for what is cut only turns on as blocks rise
cut_on : (t : Bool) (blocks b n : ℕ) → b < n → (t && not (nat_lt n blocks)) ≡ false → (t && not (nat_lt b blocks)) ≡ false
cut_on false blocks b n l h = refl
cut_on true blocks b n l h = by_order n blocks
    (λ less. ap not (lt-yes b blocks (omega (arith, l, less))))
    (λ more. absurd (true≢false (sym (ap not (lt-no n blocks more)) ∙ h)))

cut_falls : (rel : RelName) (main : Fork) (blocks : ℕ) (of : RelName) (fork : Fork) → Falls of fork (cut_state rel main blocks)
cut_falls rel main blocks of fork = record {
  was = λ b o h. (gone_or (in_fork rel main (block_of of fork b) && not (nat_lt b blocks)) o h).1;
  stays = λ b n o p l h there. kept_or _ o (cut_on (in_fork rel main (block_of of fork b)) blocks b n l (gone_or (in_fork rel main (block_of of fork n) && not (nat_lt n blocks)) p h).0) there;
}

edited_falls : (rel : RelName) (block : ℕ) (edit : MapEdit) (of : RelName) (fork : Fork) → Falls of fork (edited_state rel block edit)
edited_falls rel block edit of fork = record {
  was = λ b o h. sym (page_there (in_fork rel Visibility (block_of of fork b) && (map_page block == b)) (page_edited edit block) o) ∙ h;
  stays = λ b n o p l h there. page_there (in_fork rel Visibility (block_of of fork b) && (map_page block == b)) (page_edited edit block) o ∙ there;
}

same_falls : (of : RelName) (fork : Fork) → Falls of fork (λ x o. o)
same_falls of fork = record { was = λ b o h. h; stays = λ b n o p l h there. there }

both_fall : (of : RelName) (fork : Fork) (f g : BlockName → Option (List ℕ) → Option (List ℕ)) → Falls of fork f → Falls of fork g → Falls of fork (λ x o. g x (f x o))
both_fall of fork f g first second = record {
  was = λ b o h. first.was b o (second.was b (f (block_of of fork b) o) h);
  stays = λ b n o p l h there. second.stays b n (f (block_of of fork b) o) (f (block_of of fork n) p) l h (first.stays b n o p l (second.was n (f (block_of of fork n) p) h) there);
}

if_falls : (t : Bool) (of : RelName) (fork : Fork) (f g : BlockName → Option (List ℕ) → Option (List ℕ)) → Falls of fork f → Falls of fork g → Falls of fork (λ x o. if t then f x o else g x o)
if_falls true of fork f g first second = first
if_falls false of fork f g first second = second

truncated_falls : (rel : RelName) (blocks flags : ℕ) (of : RelName) (fork : Fork) → Falls of fork (truncated_state rel blocks flags)
truncated_falls rel blocks flags of fork =
    let main = if_falls (cuts_main flags) of fork (cut_state rel Main blocks) (λ x o. o) (cut_falls rel Main blocks of fork) (same_falls of fork) in
    let page = both_fall of fork (edited_state rel blocks Cut) (cut_state rel Visibility (map_page blocks + 1)) (edited_falls rel blocks Cut of fork) (cut_falls rel Visibility (map_page blocks + 1) of fork) in
    let map = if_falls (fill_pages blocks) of fork (cut_state rel Visibility (map_page blocks)) (λ x o. cut_state rel Visibility (map_page blocks + 1) x (edited_state rel blocks Cut x o)) (cut_falls rel Visibility (map_page blocks) of fork) page in
    both_fall of fork (main_by_state rel blocks flags) (map_by_state rel blocks flags) main (if_falls (cuts_map flags) of fork (map_cut_state rel blocks) (λ x o. o) map (same_falls of fork))

-- the calls

pub truncated-gaps : (root : PathValue) (per : ℕ) (rel : RelName) (blocks flags : ℕ) (of : RelName) (fork : Fork) (c d : Contents)
    → 0 < per → IsRel rel → IsRel of → blocks < 2 ^ 32 → IsTree c
    → HasNoGap root per rel Main c → HasNoGap root per rel Visibility c
    → truncated root per rel blocks flags c ≡ Ok d → HasNoGap root per of fork c → HasNoGap root per of fork d
truncated-gaps root per rel blocks flags of fork c d some small few low tree main map made =
    falls_gapless root per of fork (truncated_state rel blocks flags) c d few (truncated_falls rel blocks flags of fork) (λ x small_x. truncated-is root per rel blocks flags x c d some small small_x low tree main map made)

pub created-gaps : (root : PathValue) (per : ℕ) (rel : RelName) (new : Fork) (of : RelName) (fork : Fork) (c d : Contents) → created root rel new c ≡ Ok d → HasNoGap root per of fork c → HasNoGap root per of fork d
created-gaps root per rel new of fork c d made = gapless-alike root per of fork c d (λ b l. ap is_some (created-is root per rel new (block_of of fork b) c d made))

pub dropped-gaps : (root : PathValue) (per : ℕ) (rel of : RelName) (fork : Fork) (c d : Contents) → 0 < per → IsRel rel → IsRel of → IsTree c → relation_dropped root rel c ≡ Ok d → HasNoGap root per of fork c → HasNoGap root per of fork d
dropped-gaps root per rel of fork c d some small few tree made =
    falls_gapless root per of fork (dropped_state rel) c d few
    (record { was = λ b o h. (gone_or (same_files rel of) o h).1; stays = λ b n o p l h there. kept_or (same_files rel of) o (gone_or (same_files rel of) p h).0 there })
    (λ x small_x. dropped-is root per rel x c d some small small_x tree made)

pub edited-gaps : (root : PathValue) (per : ℕ) (rel : RelName) (block : ℕ) (edit : MapEdit) (of : RelName) (fork : Fork) (c d : Contents) → 0 < per → IsRel rel → IsRel of → block < 2 ^ 32 → HasNoGap root per rel Visibility c → map_edited root per rel block edit c ≡ Ok d → HasNoGap root per of fork c → HasNoGap root per of fork d
edited-gaps root per rel block edit of fork c d some small few low map made =
    falls_gapless root per of fork (edited_state rel block edit) c d few (edited_falls rel block edit of fork) (λ x small_x. map-whole root per rel block edit x c d some small small_x low map made)

pub made-gaps : (root : PathValue) (per database : ℕ) (of : RelName) (fork : Fork) (c d : Contents) → 0 < per → IsRel of → database_made root database c ≡ Ok d → HasNoGap root per of fork c → HasNoGap root per of fork d
made-gaps root per database of fork c d some few made = gapless-alike root per of fork c d (λ b l. ap is_some (made-is root per database (block_of of fork b) c d some (record { rel = few; block = l }) made))

pub map-written-gaps : (root : PathValue) (per : ℕ) (update : Option RelMapUpdate) (of : RelName) (fork : Fork) (c d : Contents) → 0 < per → IsRel of → map_written root update c ≡ Ok d → HasNoGap root per of fork c → HasNoGap root per of fork d
map-written-gaps root per update of fork c d some few made = gapless-alike root per of fork c d (λ b l. ap is_some (map-written-is root per update (block_of of fork b) c d some (record { rel = few; block = l }) made))

pub database-dropped-gaps : (root : PathValue) (per database : ℕ) (of : RelName) (fork : Fork) (c d : Contents) → 0 < per → IsRel of → database < 2 ^ 32 → IsTree c → database_dropped root database c ≡ Ok d → HasNoGap root per of fork c → HasNoGap root per of fork d
database-dropped-gaps root per database of fork c d some few low tree made =
    falls_gapless root per of fork (database_dropped_state database) c d few
    (record { was = λ b o h. (gone_or (is_in_database database of) o h).1; stays = λ b n o p l h there. kept_or (is_in_database database of) o (gone_or (is_in_database database of) p h).0 there })
    (λ x small_x. database-dropped-is root per database x c d some small_x low tree made)

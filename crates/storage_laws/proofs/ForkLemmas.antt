-- Forks without a gap, and their lengths, once a block is written or a fork cut.
use Rattle.std.proofs.Common.{◌≡◌, ℕ, zero, suc, ◌+◌, ◌<◌, ◌≤◌, ◌^◌, ◌==◌, Bool, true, false, ◌&&◌, nat_lt, min, max, unwrap_or, List, length, replicate, Option, None, Some, is_some, Ok, refl, ap, ap₂, sym, ◌∙◌, true≢false, arith}
use Rattle.std.specs.Prelude.{if◌then◌else◌}
use Rattle.std.specs.List.{list_all}
use Rattle.std.specs.Option.{option_and_then, option_map}
use Rattle.block_refs.specs.declared.names.BlockName.{BlockName}
use Rattle.block_refs.specs.declared.names.Fork.{Fork}
use Rattle.block_refs.specs.declared.names.Fork.TheVariants.{Visibility}
use Rattle.block_refs.specs.declared.names.RelName.{RelName}
use Rattle.cluster_tree.specs.PathValue.{PathValue}
use Rattle.cluster_tree.specs.Contents.{Contents, IsTree}
use Rattle.storage_replay.specs.Blocks.{block_put}
use Rattle.storage_replay.specs.Cutting.{files_cut, fork_cut, is_longer}
use Rattle.storage_replay.specs.Lengths.{fork_length, has_block, most_blocks}
use Rattle.storage_replay.specs.MapBits.{map_edited, map_in_file, map_page}
use Rattle.storage_replay.specs.declared.map_edit.MapEdit.{MapEdit}
use Rattle.storage_laws.specs.After.{cut_state, edited_state, page_edited, zeros_if}
use Rattle.storage_laws.specs.Forks.{HasNoGap, IsLength}
use Rattle.storage_laws.specs.Names.{IsBlock, IsRel, block_of, in_fork, same_block}
use Rattle.storage_laws.specs.States.{block_in, page_in, page_or_none}
use Rattle.storage_laws.proofs.CutLemmas.{cut-fork_state, cut-is, cut-is_of, cut-other_state}
use Rattle.storage_laws.proofs.EditedLemmas.{given-done}
use Rattle.storage_laws.proofs.FileLemmas.{own-fork}
use Rattle.storage_laws.proofs.LengthLemmas.{gapless-past, has-none, length-is}
use Rattle.storage_laws.proofs.MapLemmas.{map-is}
use Rattle.storage_laws.proofs.NumberLemmas.{and-parts, by_order, by_test, eq-is, eq-no, eq-no_more, eq-yes, lt-no, lt-yes}
use Rattle.storage_laws.proofs.PutLemmas.{state-fork, written-fork_state, written-is, written-other_state}
use Rattle.storage_laws.proofs.SweepLemmas.{Lies, tree-lies}

-- pages

all_zero : (n : ℕ) → list_all (λ b. b == 0) (replicate n 0) ≡ true
all_zero zero = refl
all_zero (suc n) = all_zero n

no_page : page_or_none (replicate 8192 0) ≡ None
no_page = ap (λ t. if t then None else Some (replicate 8192 0)) (all_zero 8192)

grown_page : (t : Bool) (old : Option (List ℕ)) → option_and_then page_or_none (zeros_if t old) ≡ option_and_then page_or_none old
grown_page true None = no_page
grown_page true (Some bytes) = refl
grown_page false old = refl

pub written-page : (root : PathValue) (per : ℕ) (name other : BlockName) (page : List ℕ) (c d : Contents)
    → 0 < per → IsBlock name → IsBlock other → length page ≡ 8192 → block_put root per name page c ≡ Ok d
    → page_in root per other d ≡ (if same_block name other then page_or_none page else page_in root per other c)
written-page root per name other page c d some small few size made =
    ap (option_and_then page_or_none) (written-is root per name other page c d some small few size made)
    ∙ by (same_block name other) (in_fork name.rel name.fork other && nat_lt other.block name.block)
  where
    by : (s t : Bool) → option_and_then page_or_none (if s then Some page else zeros_if t (block_in root per other c)) ≡ (if s then page_or_none page else page_in root per other c)
    by true t = refl
    by false t = grown_page t (block_in root per other c)

-- no gap comes where a block is written

here : (a b : ℕ) (page : List ℕ) (old : Option (List ℕ)) → b ≤ a → is_some (if a == b then Some page else zeros_if (nat_lt b a) old) ≡ true
here a b page old l = by_order b a
    (λ less. ap₂ (λ t u. is_some (if t then Some page else zeros_if u old)) (eq-no_more a b less) (lt-yes b a less))
    (λ m. ap (λ t. is_some (if t then Some page else zeros_if (nat_lt b a) old)) (eq-yes a b (omega (arith, l, m))))

above : (a b : ℕ) (page : List ℕ) (old : Option (List ℕ)) → a < b → (if a == b then Some page else zeros_if (nat_lt b a) old) ≡ old
above a b page old l = ap₂ (λ t u. if t then Some page else zeros_if u old) (eq-no a b l) (lt-no b a (omega (arith, l)))

pub written-gapless : (root : PathValue) (per : ℕ) (name : BlockName) (page : List ℕ) (rel : RelName) (fork : Fork) (c d : Contents)
    → 0 < per → IsBlock name → IsRel rel → length page ≡ 8192 → block_put root per name page c ≡ Ok d
    → HasNoGap root per rel fork c → HasNoGap root per rel fork d
written-gapless root per name page rel fork c d some small few size made gapless block next l m there =
    let low : IsBlock (block_of rel fork block) = record { rel = few; block = omega (arith, l, m) } in
    let high : IsBlock (block_of rel fork next) = record { rel = few; block = m } in
    let at = written-is root per name (block_of rel fork block) page c d some small low size made in
    let to = written-is root per name (block_of rel fork next) page c d some small high size made in
    by_test (in_fork name.rel name.fork (block_of rel fork block))
    (λ is.
    let own = at ∙ written-fork_state name (block_of rel fork block) page (block_in root per (block_of rel fork block) c) is in
    let other = to ∙ written-fork_state name (block_of rel fork next) page (block_in root per (block_of rel fork next) c) is in
    by_order name.block block
    (λ more.
    ap is_some (own ∙ above name.block block page (block_in root per (block_of rel fork block) c) more)
    ∙ gapless block next l m (sym (ap is_some (other ∙ above name.block next page (block_in root per (block_of rel fork next) c) (omega (arith, more, l)))) ∙ there))
    (λ less. ap is_some own ∙ here name.block block page (block_in root per (block_of rel fork block) c) less))
    (λ isnt.
    ap is_some (at ∙ written-other_state name (block_of rel fork block) page (block_in root per (block_of rel fork block) c) isnt)
    ∙ gapless block next l m (sym (ap is_some (to ∙ written-other_state name (block_of rel fork next) page (block_in root per (block_of rel fork next) c) isnt)) ∙ there))

-- and the fork is as long as it was, or as the block asks

none_some : (o : Option (List ℕ)) → o ≡ None → is_some o ≡ true → ⊥
none_some o none there = true≢false (sym there ∙ ap is_some none)

pub written-length : (root : PathValue) (per : ℕ) (name : BlockName) (page : List ℕ) (there now : Option ℕ) (c d : Contents)
    → 0 < per → IsBlock name → length page ≡ 8192 → HasNoGap root per name.rel name.fork c
    → fork_length root per name.rel name.fork c ≡ Ok there → block_put root per name page c ≡ Ok d
    → fork_length root per name.rel name.fork d ≡ Ok now
    → unwrap_or now 0 ≡ max (unwrap_or there 0) (name.block + 1)
written-length root per name page there now c d some small size gapless before made after =
    let n : ℕ = unwrap_or there 0 in
    let m : ℕ = unwrap_or now 0 in
    let was : IsLength root per name.rel name.fork c n = length-is root per name.rel name.fork c some there before in
    let is : IsLength root per name.rel name.fork d m = length-is root per name.rel name.fork d some now after in
    let state : (b : ℕ) → b < most_blocks → block_in root per (block_of name.rel name.fork b) d ≡ (if name.block == b then Some page else zeros_if (nat_lt b name.block) (block_in root per (block_of name.rel name.fork b) c)) = λ b l.
    written-is root per name (block_of name.rel name.fork b) page c d some small (record { rel = small.rel; block = l }) size made
    ∙ written-fork_state name (block_of name.rel name.fork b) page (block_in root per (block_of name.rel name.fork b) c) (own-fork name.rel name.fork b) in
    by_order m (name.block + 1)
    (λ l.
    let low : m < most_blocks = omega (arith, l, small.block) in
    absurd (none_some (block_in root per (block_of name.rel name.fork m) d) (is.past low) (ap is_some (state m low) ∙ here name.block m page (block_in root per (block_of name.rel name.fork m) c) (omega (arith, l)))))
    (λ more. by_order m n
    (λ l.
    let low : m < most_blocks = omega (arith, l, was.most) in
    absurd (none_some (block_in root per (block_of name.rel name.fork m) d) (is.past low)
    (ap is_some (state m low ∙ above name.block m page (block_in root per (block_of name.rel name.fork m) c) (omega (arith, more))) ∙ was.there m l)))
    (λ least. by_order n m
    (λ l. by_order (name.block + 1) m
    (λ k.
    let x : ℕ = max n (name.block + 1) in
    let low : x < most_blocks = omega (arith, l, k, is.most) in
    let none : block_in root per (block_of name.rel name.fork x) c ≡ None = gapless-past root per name.rel name.fork c n x gapless low (omega arith) (was.past (omega (arith, l, is.most))) in
    absurd (none_some (block_in root per (block_of name.rel name.fork x) d) (state x low ∙ above name.block x page (block_in root per (block_of name.rel name.fork x) c) (omega arith) ∙ none) (is.there x (omega (arith, l, k)))))
    (λ k. omega (arith, k, more, l)))
    (λ l. omega (arith, l, least, more))))

-- a fork that is cut

short_enough : (blocks : ℕ) (there : Option ℕ) → is_longer blocks there ≡ false → unwrap_or there 0 ≤ blocks
short_enough blocks None h = omega arith
short_enough blocks (Some n) h = by_order blocks n (λ l. absurd (true≢false (sym (lt-yes blocks n l) ∙ h))) (λ m. m)

long_enough : (blocks : ℕ) (there : Option ℕ) → is_longer blocks there ≡ true → blocks < unwrap_or there 0
long_enough blocks None h = absurd cc
long_enough blocks (Some n) h = by_order blocks n (λ l. l) (λ m. absurd (true≢false (sym h ∙ lt-no blocks n m)))

pub cut-whole_of : (root : PathValue) (per : ℕ) (rel : RelName) (fork : Fork) (blocks : ℕ) (other : BlockName) (c d : Contents)
    → 0 < per → IsRel rel → IsBlock other → blocks < 2 ^ 32 → Lies root rel c → HasNoGap root per rel fork c
    → fork_cut root per rel fork blocks c ≡ Ok d
    → block_in root per other d ≡ cut_state rel fork blocks other (block_in root per other c)
unfolding fork_cut
cut-whole_of root per rel fork blocks other c d some small few low lies gapless made =
    let two = given-done (fork_length root per rel fork c) (λ o. if is_longer blocks o then files_cut root per rel fork blocks c else Ok c) d made in
    let old = block_in root per other c in
    let is = cut-is_of root per rel fork blocks other two.0 c d some small few low lies two.1 made in
    by_test (is_longer blocks two.0)
    (λ long. is ∙ ap (λ t. if t then cut_state rel fork blocks other old else old) long)
    (λ short.
    let size = length-is root per rel fork c some two.0 two.1 in
    let enough = short_enough blocks two.0 short in
    is ∙ ap (λ t. if t then cut_state rel fork blocks other old else old) short
    ∙ by_test (in_fork rel fork other)
    (λ own. by_order other.block blocks
    (λ l. sym (cut-fork_state rel fork blocks other old true own (lt-yes other.block blocks l)))
    (λ m.
    state-fork root per rel fork other c own
    ∙ gapless-past root per rel fork c (unwrap_or two.0 0) other.block gapless few.block (omega (arith, enough, m)) (size.past (omega (arith, enough, m, few.block)))
    ∙ sym (cut-fork_state rel fork blocks other old false own (lt-no other.block blocks m))))
    (λ apart. sym (cut-other_state rel fork blocks other old apart)))

pub cut-whole : (root : PathValue) (per : ℕ) (rel : RelName) (fork : Fork) (blocks : ℕ) (other : BlockName) (c d : Contents)
    → 0 < per → IsRel rel → IsBlock other → blocks < 2 ^ 32 → IsTree c → HasNoGap root per rel fork c
    → fork_cut root per rel fork blocks c ≡ Ok d
    → block_in root per other d ≡ cut_state rel fork blocks other (block_in root per other c)
cut-whole root per rel fork blocks other c d some small few low tree gapless made = cut-whole_of root per rel fork blocks other c d some small few low (tree-lies root rel c tree) gapless made

pub cut-length : (root : PathValue) (per : ℕ) (rel : RelName) (fork : Fork) (blocks : ℕ) (there now : Option ℕ) (c d : Contents)
    → 0 < per → IsRel rel → blocks < 2 ^ 32 → IsTree c
    → fork_length root per rel fork c ≡ Ok there → fork_cut root per rel fork blocks c ≡ Ok d
    → fork_length root per rel fork d ≡ Ok now
    → unwrap_or now 0 ≡ min blocks (unwrap_or there 0)
cut-length root per rel fork blocks there now c d some small low tree before made after =
    let n : ℕ = unwrap_or there 0 in
    let m : ℕ = unwrap_or now 0 in
    let was : IsLength root per rel fork c n = length-is root per rel fork c some there before in
    let is : IsLength root per rel fork d m = length-is root per rel fork d some now after in
    let state : (b : ℕ) → b < most_blocks → block_in root per (block_of rel fork b) d ≡ (if is_longer blocks there then cut_state rel fork blocks (block_of rel fork b) (block_in root per (block_of rel fork b) c) else block_in root per (block_of rel fork b) c) = λ b l.
    cut-is root per rel fork blocks (block_of rel fork b) there c d some small (record { rel = small; block = l }) low tree before made in
    by_test (is_longer blocks there)
    (λ long.
    let less = long_enough blocks there long in
    let cut : (b : ℕ) → b < most_blocks → block_in root per (block_of rel fork b) d ≡ cut_state rel fork blocks (block_of rel fork b) (block_in root per (block_of rel fork b) c) = λ b l.
    state b l ∙ ap (λ t. if t then cut_state rel fork blocks (block_of rel fork b) (block_in root per (block_of rel fork b) c) else block_in root per (block_of rel fork b) c) long in
    by_order m blocks
    (λ l.
    let under : m < most_blocks = omega (arith, l, less, was.most) in
    absurd (none_some (block_in root per (block_of rel fork m) d) (is.past under)
    (ap is_some (cut m under ∙ cut-fork_state rel fork blocks (block_of rel fork m) (block_in root per (block_of rel fork m) c) true (own-fork rel fork m) (lt-yes m blocks l)) ∙ was.there m (omega (arith, l, less)))))
    (λ more. by_order blocks m
    (λ l.
    absurd (none_some (block_in root per (block_of rel fork blocks) d)
    (cut blocks (omega (arith, l, is.most)) ∙ cut-fork_state rel fork blocks (block_of rel fork blocks) (block_in root per (block_of rel fork blocks) c) false (own-fork rel fork blocks) (lt-no blocks blocks (omega arith)))
    (is.there blocks l)))
    (λ k. omega (arith, k, more, less))))
    (λ short.
    let enough = short_enough blocks there short in
    let same : (b : ℕ) → b < most_blocks → block_in root per (block_of rel fork b) d ≡ block_in root per (block_of rel fork b) c = λ b l.
    state b l ∙ ap (λ t. if t then cut_state rel fork blocks (block_of rel fork b) (block_in root per (block_of rel fork b) c) else block_in root per (block_of rel fork b) c) short in
    by_order m n
    (λ l. absurd (none_some (block_in root per (block_of rel fork m) d) (is.past (omega (arith, l, was.most))) (ap is_some (same m (omega (arith, l, was.most))) ∙ was.there m l)))
    (λ more. by_order n m
    (λ l. absurd (none_some (block_in root per (block_of rel fork n) d) (same n (omega (arith, l, is.most)) ∙ was.past (omega (arith, l, is.most))) (is.there n l)))
    (λ k. omega (arith, k, more, enough))))

-- a map without a gap

pub map-whole : (root : PathValue) (per : ℕ) (rel : RelName) (block : ℕ) (edit : MapEdit) (other : BlockName) (c d : Contents)
    → 0 < per → IsRel rel → IsBlock other → block < 2 ^ 32 → HasNoGap root per rel Visibility c
    → map_edited root per rel block edit c ≡ Ok d
    → block_in root per other d ≡ edited_state rel block edit other (block_in root per other c)
unfolding map_edited
map-whole root per rel block edit other c d some small few low gapless made =
    let two = given-done (has_block root per rel Visibility (map_page block) c) (λ t. if t then map_in_file root per rel block edit c else Ok c) d made in
    by two.0 two.1 (map-is root per rel block edit other two.0 c d some small few low two.1 made)
  where
    nothing : (is : in_fork rel Visibility other ≡ true) (at : (map_page block == other.block) ≡ true) → has_block root per rel Visibility (map_page block) c ≡ Ok false → block_in root per other c ≡ None
    nothing is at has =
        let none = has-none root per rel Visibility c some (map_page block) has in
        let page : map_page block ≡ other.block = eq-is (map_page block) other.block at in
        state-fork root per rel Visibility other c is
        ∙ gapless-past root per rel Visibility c none.0 other.block gapless few.block (omega (arith, none.1, page)) none.2

    by : (t : Bool) → has_block root per rel Visibility (map_page block) c ≡ Ok t → block_in root per other d ≡ (if t then edited_state rel block edit other (block_in root per other c) else block_in root per other c) → block_in root per other d ≡ edited_state rel block edit other (block_in root per other c)
    by true has is = is
    by false has is = is ∙ by_test (in_fork rel Visibility other && (map_page block == other.block))
        (λ so.
        let own = and-parts (in_fork rel Visibility other) (map_page block == other.block) so in
        nothing own.0 own.1 has ∙ ap (option_map (page_edited edit block)) (sym (nothing own.0 own.1 has)) ∙ sym (ap (λ t. if t then option_map (page_edited edit block) (block_in root per other c) else block_in root per other c) so))
        (λ else_so. sym (ap (λ t. if t then option_map (page_edited edit block) (block_in root per other c) else block_in root per other c) else_so))

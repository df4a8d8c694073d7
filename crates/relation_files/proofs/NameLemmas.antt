-- Names are read as they are written.
use Rattle.std.proofs.Common.{◌≡◌, ℕ, zero, suc, ◌<◌, ◌≤◌, ◌^◌, ◌==◌, Bool, true, false, not, cond, ◌&&◌, List, [], ◌∷◌, ◌++◌, lit≤, codes, decimal, bytes_eq, Option, None, Some, refl, ap, ap₂, sym, ◌∙◌, append_assoc, arith, true≢false}
use Rattle.std.proofs.lemmas.Bool.Decides.{nat_tests}
use Rattle.std.proofs.lemmas.Grind.{common_steps}
use Rattle.std.proofs.lemmas.Slice.Eq.{bytes_eq-Decides}
use Rattle.std.proofs.lemmas.List.Folds.{list_all-append}
use Rattle.std.specs.Char.{is_ascii_digit}
use Rattle.std.specs.List.{list_all}
use Rattle.wal_base.specs.Decimal.{decimal_number}
use Rattle.wal_base.proofs.DecimalLemmas.{digits_read, decimal_read, decimal_written}
use Rattle.block_refs.specs.declared.names.Fork.{Fork}
use Rattle.block_refs.specs.declared.names.Fork.TheVariants.{Main, FreeSpace, Visibility, Init}
use Rattle.relation_files.specs.Names.{fork_suffix, segment_suffix, file_name}
use Rattle.relation_files.specs.Reading.{before, behind, fork_named, fork_read, later, segment_read, named_by, file_named}
use Rattle.relation_files.specs.Laws.{IsSmall}
use Rattle.relation_files.specs.declared.file_name.FileName.{FileName}
use Rattle.relation_files.proofs.CutLemmas.{joined, joined-is, without, before-joined, and_parts}

-- names of forks

fork_behind : Fork → Option (List ℕ)
fork_behind Main = None
fork_behind FreeSpace = Some (codes "fsm")
fork_behind Visibility = Some (codes "vm")
fork_behind Init = Some (codes "init")

suffix_joined : (fork : Fork) (front : List ℕ) → joined 95 front (fork_behind fork) ≡ front ++ fork_suffix fork
unfolding joined fork_behind
suffix_joined Main front = grind (arith, common_steps)
suffix_joined FreeSpace front = refl
suffix_joined Visibility front = refl
suffix_joined Init front = refl

fork_again : (fork : Fork) → fork_read (fork_behind fork) ≡ Some fork
unfolding fork_behind
fork_again Main = refl
fork_again FreeSpace = refl
fork_again Visibility = refl
fork_again Init = refl

suffix_free : (fork : Fork) → without 46 (fork_suffix fork) ≡ true
unfolding without
suffix_free Main = refl
suffix_free FreeSpace = refl
suffix_free Visibility = refl
suffix_free Init = refl

same : (name text : List ℕ) → bytes_eq name text ≡ true → name ≡ text
same name text e = (bytes_eq-Decides name text).0 e

suffix_read : (behind : Option (List ℕ)) (fork : Fork) → fork_read behind ≡ Some fork → behind ≡ fork_behind fork
unfolding fork_behind
suffix_read None fork is = ap fork_behind (let P : Main ≡ fork = cc in P)
suffix_read (Some name) fork is = by (bytes_eq name (codes "fsm")) (bytes_eq name (codes "vm")) (bytes_eq name (codes "init")) refl refl refl is
  where
    by : (a b c : Bool) → bytes_eq name (codes "fsm") ≡ a → bytes_eq name (codes "vm") ≡ b → bytes_eq name (codes "init") ≡ c → cond a (Some FreeSpace) (cond b (Some Visibility) (cond c (Some Init) None)) ≡ Some fork → Some name ≡ fork_behind fork
    by true b c e f g is = let k : FreeSpace ≡ fork = cc in ap (λ t. Some t) (same name (codes "fsm") e) ∙ ap fork_behind k
    by false true c e f g is = let k : Visibility ≡ fork = cc in ap (λ t. Some t) (same name (codes "vm") f) ∙ ap fork_behind k
    by false false true e f g is = let k : Init ≡ fork = cc in ap (λ t. Some t) (same name (codes "init") g) ∙ ap fork_behind k
    by false false false e f g is = absurd cc

-- numbers of segments

segment_behind : ℕ → Option (List ℕ)
segment_behind segment = cond (segment == 0) None (Some (decimal segment))

segment_joined : (segment : ℕ) (front : List ℕ) → joined 46 front (segment_behind segment) ≡ front ++ segment_suffix segment
unfolding joined segment_behind
segment_joined segment front = elim (segment == 0) as (λ t. joined 46 front (cond t None (Some (decimal segment))) ≡ front ++ cond t [] (46 ∷ decimal segment)) [
  | true ↦ grind (arith, common_steps)
  | false ↦ refl
]

segment_again : (segment : ℕ) → segment < 2 ^ 32 → segment_read (segment_behind segment) ≡ Some segment
unfolding segment_behind
segment_again segment small = elim (segment == 0) as (λ t. (segment == 0) ≡ t → segment_read (cond t None (Some (decimal segment))) ≡ Some segment) [
  | true ↦ λ e. let zero : segment ≡ 0 = grind (arith, nat_tests) in ap (λ n. Some n) (sym zero)
  | false ↦ λ e. ap later (decimal_written (2 ^ 32) segment (decimal segment) (lit≤ tt) small refl) ∙ ap (λ t. cond t None (Some segment)) e
] refl

segment_is : (behind : Option (List ℕ)) (segment : ℕ) → segment_read behind ≡ Some segment → (segment < 2 ^ 32) × (behind ≡ segment_behind segment)
unfolding segment_behind
segment_is None segment is = let zero : 0 ≡ segment = cc in (omega (arith, zero), ap (λ n. cond (n == 0) None (Some (decimal n))) zero)
segment_is (Some text) segment is = by (decimal_number (2 ^ 32) text) refl is
  where
    by : (o : Option ℕ) → decimal_number (2 ^ 32) text ≡ o → later o ≡ Some segment → (segment < 2 ^ 32) × (Some text ≡ segment_behind segment)
    by None e is = absurd cc
    by (Some n) e is =
        elim (n == 0) as (λ t. (n == 0) ≡ t → cond t None (Some n) ≡ Some segment → (segment < 2 ^ 32) × (Some text ≡ segment_behind segment)) [
          | true ↦ λ zero no. absurd cc
          | false ↦ λ some it.
              let own : n ≡ segment = cc in
              let read = decimal_read (2 ^ 32) n text (lit≤ tt) e in
              (omega (arith, own, read.0), ap (λ t. Some t) read.1 ∙ sym (ap (λ t. cond t None (Some (decimal n))) some) ∙ ap (λ m. cond (m == 0) None (Some (decimal m))) own)
        ] refl is

-- names

free_digit : (b c : ℕ) → is_ascii_digit b ≡ false → is_ascii_digit c ≡ true → (c == b) ≡ false
free_digit b c e d = elim (c == b) as (λ t. (c == b) ≡ t → t ≡ false) [
  | true ↦ λ is. let own : c ≡ b = grind (arith, nat_tests) in absurd (true≢false (sym d ∙ ap is_ascii_digit own ∙ e))
  | false ↦ λ is. refl
] refl

free_digits : (b : ℕ) (text : List ℕ) → is_ascii_digit b ≡ false → list_all is_ascii_digit text ≡ true → without b text ≡ true
unfolding without
free_digits b [] e d = refl
free_digits b (c ∷ cs) e d = let two = and_parts (is_ascii_digit c) (list_all is_ascii_digit cs) d in ap₂ (λ x y. not x && y) (free_digit b c e two.0) (free_digits b cs e two.1)

pub number_free : (b n : ℕ) → is_ascii_digit b ≡ false → n < 2 ^ 32 → without b (decimal n) ≡ true
number_free b n e small = free_digits b (decimal n) e (digits_read (2 ^ 32) n (decimal n) (decimal_written (2 ^ 32) n (decimal n) (lit≤ tt) small refl)).1

pub both_free : (b : ℕ) (xs ys : List ℕ) → without b xs ≡ true → without b ys ≡ true → without b (xs ++ ys) ≡ true
unfolding without
both_free b xs ys h k = list_all-append _ xs ys ∙ ap₂ (λ x y. x && y) h k

front_of : ℕ → Fork → List ℕ
front_of relation fork = decimal relation ++ fork_suffix fork

name_joined : (file : FileName) → joined 46 (front_of file.relation file.fork) (segment_behind file.segment) ≡ file_name file
unfolding front_of
name_joined file = segment_joined file.segment (front_of file.relation file.fork) ∙ append_assoc (decimal file.relation) (fork_suffix file.fork) (segment_suffix file.segment)

front_joined : (relation : ℕ) (fork : Fork) → joined 95 (decimal relation) (fork_behind fork) ≡ front_of relation fork
unfolding front_of
front_joined relation fork = suffix_joined fork (decimal relation)

front_free : (relation : ℕ) (fork : Fork) → relation < 2 ^ 32 → without 46 (front_of relation fork) ≡ true
unfolding front_of
front_free relation fork small = both_free 46 (decimal relation) (fork_suffix fork) (number_free 46 relation refl small) (suffix_free fork)

pub named-written : (file : FileName) → IsSmall file → file_named (file_name file) ≡ Some file
unfolding file_named
named-written file small =
    let name : List ℕ = file_name file in
    let cut = before-joined 46 (front_of file.relation file.fork) (segment_behind file.segment) (front_free file.relation file.fork small.relation) in
    let at : before 46 name ≡ front_of file.relation file.fork = ap (before 46) (sym (name_joined file)) ∙ cut.0 in
    let dot : behind 46 name ≡ segment_behind file.segment = ap (behind 46) (sym (name_joined file)) ∙ cut.1 in
    let two = before-joined 95 (decimal file.relation) (fork_behind file.fork) (number_free 95 file.relation refl small.relation) in
    let number : before 95 (before 46 name) ≡ decimal file.relation = ap (before 95) (at ∙ sym (front_joined file.relation file.fork)) ∙ two.0 in
    let under : behind 95 (before 46 name) ≡ fork_behind file.fork = ap (behind 95) (at ∙ sym (front_joined file.relation file.fork)) ∙ two.1 in
    ap (λ o. named_by o (fork_read (behind 95 (before 46 name))) (segment_read (behind 46 name))) (decimal_written (2 ^ 32) file.relation (before 95 (before 46 name)) (lit≤ tt) small.relation number)
    ∙ ap (λ o. named_by (Some file.relation) o (segment_read (behind 46 name))) (ap fork_read under ∙ fork_again file.fork)
    ∙ ap (λ o. named_by (Some file.relation) (Some file.fork) o) (ap segment_read dot ∙ segment_again file.segment small.segment)

record Named (number : Option ℕ) (fork : Option Fork) (segment : Option ℕ) (file : FileName) : Type 0 where
  number_is : number ≡ Some file.relation
  fork_is : fork ≡ Some file.fork
  segment_is : segment ≡ Some file.segment

by_three : (number : Option ℕ) (fork : Option Fork) (segment : Option ℕ) (file : FileName) → named_by number fork segment ≡ Some file → Named number fork segment file
by_three (Some r) (Some f) (Some s) file is =
    let own : record { relation = r; fork = f; segment = s } ≡ file = cc in
    record { number_is = ap (λ (x : FileName). Some x.relation) own; fork_is = ap (λ (x : FileName). Some x.fork) own; segment_is = ap (λ (x : FileName). Some x.segment) own }
by_three (Some r) (Some f) None file is = absurd cc
by_three (Some r) None s file is = absurd cc
by_three None f s file is = absurd cc

pub written-named : (name : List ℕ) (file : FileName) → file_named name ≡ Some file → IsSmall file × (name ≡ file_name file)
unfolding file_named
written-named name file is =
    let three = by_three _ _ _ file is in
    let number = decimal_read (2 ^ 32) file.relation (before 95 (before 46 name)) (lit≤ tt) three.number_is in
    let fork = suffix_read (behind 95 (before 46 name)) file.fork three.fork_is in
    let segment = segment_is (behind 46 name) file.segment three.segment_is in
    let front : before 46 name ≡ front_of file.relation file.fork = sym (joined-is 95 (before 46 name)) ∙ ap₂ (joined 95) number.1 fork ∙ front_joined file.relation file.fork in
    (record { relation = number.0; segment = segment.0 }, sym (joined-is 46 name) ∙ ap₂ (joined 46) front segment.1 ∙ name_joined file)

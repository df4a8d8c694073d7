-- What one call leaves of the files and the skipped names, block by block.
use Rattle.std.proofs.Common.{◌≡◌, ℕ, ◌<◌, ◌&&◌, ◌||◌, Bool, true, false, List, length, Option, None, Some, Result, Ok, Err, refl, ap, ap₂, sym, subst, ◌∙◌, arith}
use Rattle.std.specs.Prelude.{if◌then◌else◌}
use Rattle.std.proofs.lemmas.Bool.{and_right}
use Rattle.std.proofs.lemmas.Bool.Decides.{nat_tests}
use Rattle.block_refs.specs.declared.names.BlockName.{BlockName}
use Rattle.block_replay.specs.Blocks.{with_files}
use Rattle.block_replay.specs.Faults.{of_files, of_redo}
use Rattle.block_replay.specs.World.{BlockWorld, with_name}
use Rattle.block_replay.specs.declared.faults.RecordFault.{RecordFault}
use Rattle.cluster_tree.specs.Causes.{given, unless}
use Rattle.cluster_tree.specs.Contents.{Contents}
use Rattle.cluster_tree.specs.PathValue.{PathValue}
use Rattle.cluster_tree.specs.declared.file_fault.FileFault.{FileFault}
use Rattle.page_layout.specs.declared.refusal.RedoWhy.{RedoWhy}
use Rattle.page_masks.specs.Law.{Redone}
use Rattle.replay_law.specs.Replay.{Held}
use Rattle.replay_profile.specs.Names.{is_block}
use Rattle.storage_laws.specs.FileLaws.{IsProper}
use Rattle.storage_laws.specs.Names.{IsBlock}
use Rattle.storage_laws.specs.States.{page_in, page_or_none}
use Rattle.storage_laws.proofs.ForkLemmas.{written-gapless, written-page}
use Rattle.storage_laws.proofs.NumberLemmas.{by_test}
use Rattle.storage_laws.proofs.TreeLemmas.{written-tree}
use Rattle.storage_replay.specs.Blocks.{block_put}
use Rattle.storage_replay.specs.Changes.{created}
use Rattle.wal_records.specs.Reading.{LogRecord}
use Rattle.replay_laws.specs.Held.{IsMainBlock, is_among}
use Rattle.replay_laws.specs.Whole.{AreWhole}
use Rattle.replay_laws.proofs.LeaveLemmas.{Stays, created-leaves}
use Rattle.replay_laws.proofs.NameLemmas.{block-same, name-is}
use Rattle.replay_laws.proofs.SkippedLemmas.{among-with}

-- answers that are handed on

pub given-ok : {A B E : Type 0} (r : Result A E) (next : A → Result B E) (b : B) → given r next ≡ Ok b → (a : A) × (r ≡ Ok a) × (next a ≡ Ok b)
given-ok (Ok a) next b is = (a, refl, is)
given-ok (Err e) next b is = absurd cc

pub not-refused : {A E : Type 0} (o : Option E) (r : Result A E) (v : A) → unless o r ≡ Ok v → (o ≡ None) × (r ≡ Ok v)
not-refused None r v e = (refl, e)
not-refused (Some fault) r v e = absurd cc

pub files-ok : {A : Type 0} (r : Result A FileFault) (a : A) → of_files r ≡ Ok a → r ≡ Ok a
files-ok (Ok x) a is = cc
files-ok (Err e) a is = absurd cc

pub redo-ok : (rec : LogRecord) (name : BlockName) (r : Redone) (page : List ℕ) → of_redo rec name r ≡ Ok page → r ≡ Ok page
redo-ok rec name (Ok p) page is = cc
redo-ok rec name (Err why) page is = absurd cc

-- these files and these names
abbrev pub world : Contents → List BlockName → BlockWorld
world c skipped = record { files = c; skipped = skipped }

abbrev OkWorld : BlockWorld → Result BlockWorld RecordFault
OkWorld w = Ok w

pub one_world : (w v : BlockWorld) → OkWorld w ≡ OkWorld v → w ≡ v
one_world w v e = cc

pub with-files_ok : (skipped : List BlockName) (files : Result Contents RecordFault) (v : BlockWorld) → with_files skipped files ≡ Ok v → (d : Contents) × (files ≡ Ok d) × (world d skipped ≡ v)
with-files_ok skipped files v is =
    let two = given-ok files (λ c. Ok (world c skipped)) v is in
    (two.0, two.1, one_world (world two.0 skipped) v two.2)

-- what is held of a block, and as an answer
abbrev pub OkHeld : Held → Result Held RedoWhy
OkHeld held = Ok held

abbrev pub holding : Option (List ℕ) → Bool → Held
holding page skipped = record { page = page; skipped = skipped }

abbrev pub OkHolding : Option (List ℕ) → Bool → Result Held RedoWhy
OkHolding page skipped = Ok (holding page skipped)

abbrev pub held_in : PathValue → ℕ → BlockName → BlockWorld → Held
held_in root per name w = record { page = page_in root per name w.files; skipped = is_among name w.skipped }

-- a call on a block: files that are whole, its page, its name among those skipped, and every other block as it was
pub record Left (root : PathValue) (per : ℕ) (p : BlockName) (w v : BlockWorld) (page : Option (List ℕ)) (skips : Bool) : Type 0 where
  pub whole : AreWhole root per v.files
  pub pages : (other : BlockName) → IsMainBlock other → page_in root per other v.files ≡ (if is_block other p then page else page_in root per other w.files)
  pub names : (other : BlockName) → is_among other v.skipped ≡ (is_among other w.skipped || (skips && is_block other p))

pub is-own : (a : BlockName) → is_block a a ≡ true
is-own a = grind (arith, nat_tests)

is_either : (a b : BlockName) → is_block a b ≡ is_block b a
is_either a b = grind (arith, nat_tests)

pub or-false : (a : Bool) → (a || false) ≡ a
or-false true = refl
or-false false = refl

pub and-true : (a : Bool) → (a && true) ≡ a
and-true true = refl
and-true false = refl

pub left-other : (root : PathValue) (per : ℕ) (p : BlockName) (w v : BlockWorld) (page : Option (List ℕ)) (skips : Bool) (other : BlockName) → Left root per p w v page skips → IsMainBlock other → is_block other p ≡ false → held_in root per other v ≡ held_in root per other w
left-other root per p w v page skips other left is differs =
    ap₂ holding (left.pages other is ∙ ap (λ b. if b then page else page_in root per other w.files) differs)
    (left.names other ∙ ap (λ b. is_among other w.skipped || (skips && b)) differs ∙ ap (λ b. is_among other w.skipped || b) (and_right skips false refl) ∙ or-false (is_among other w.skipped))

pub left-own : (root : PathValue) (per : ℕ) (p : BlockName) (w v : BlockWorld) (page : Option (List ℕ)) (skips : Bool) → Left root per p w v page skips → IsMainBlock p → held_in root per p v ≡ record { page = page; skipped = is_among p w.skipped || skips }
left-own root per p w v page skips left is =
    ap₂ holding (left.pages p is ∙ ap (λ b. if b then page else page_in root per p w.files) (is-own p))
    (left.names p ∙ ap (λ b. is_among p w.skipped || (skips && b)) (is-own p) ∙ ap (λ b. is_among p w.skipped || b) (and-true skips))

module _ (root : PathValue) (per : ℕ) (some : 0 < per) (p : BlockName) (w : BlockWorld) (whole : AreWhole root per w.files) where
  kept : (other : BlockName) → page_in root per other w.files ≡ (if is_block other p then page_in root per p w.files else page_in root per other w.files)
  kept other = by_test (is_block other p)
      (λ so. ap (λ n. page_in root per n w.files) (name-is other p so) ∙ sym (ap (λ b. if b then page_in root per p w.files else page_in root per other w.files) so))
      (λ else_so. sym (ap (λ b. if b then page_in root per p w.files else page_in root per other w.files) else_so))

  pub left-same : (v : BlockWorld) → w ≡ v → Left root per p w v (page_in root per p w.files) false
  left-same v same = subst (λ (u : BlockWorld). Left root per p w u (page_in root per p w.files) false) same (record {
    whole = whole;
    pages = λ other is. kept other;
    names = λ other. sym (or-false (is_among other w.skipped));
  })

  pub left-put : (page : List ℕ) (d : Contents) → IsBlock p → IsProper p.rel → length page ≡ 8192 → block_put root per p page w.files ≡ Ok d → Left root per p w (world d w.skipped) (page_or_none page) false
  left-put page d small proper size made = record {
    whole = record {
      tree = written-tree root per p page w.files d whole.tree made;
      no_gap = λ rel fork few. written-gapless root per p page rel fork w.files d some small few size made (whole.no_gap rel fork few);
    };
    pages = λ other is.
        written-page root per p other page w.files d some small is.block size made
        ∙ ap (λ b. if b then page_or_none page else page_in root per other w.files) (block-same p other proper is.proper ∙ is_either p other);
    names = λ other. sym (or-false (is_among other w.skipped));
  }

  pub left-skipped : (d : Contents) → created root p.rel p.fork w.files ≡ Ok d → Left root per p w (world d (with_name p w.skipped)) (page_in root per p w.files) true
  left-skipped d made =
      let stays : Stays root per w.files d = created-leaves root per some w.files d whole p.rel p.fork made in
      record {
        whole = stays.whole;
        pages = λ other is. stays.page other is ∙ kept other;
        names = λ other. among-with other p w.skipped;
      }

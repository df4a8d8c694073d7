-- The blocks of a rewound target, and of a whole copy of its source.
use Rattle.std.proofs.Common.{◌≡◌, ◌⊎◌, ℕ, ◌+◌, ◌-◌, ◌*◌, ◌/◌, ◌%◌, ◌^◌, ◌<◌, ◌==◌, true, false, List, Option, Some, is_some, inl, inr, refl, sym, ap, ap₂, ◌∙◌, subst, arith}
use Rattle.alike_clusters.proofs.NameLemmas.{file-lies, file_parts}
use Rattle.block_refs.specs.declared.names.BlockName.{BlockName}
use Rattle.block_refs.specs.declared.names.Fork.{Fork}
use Rattle.block_refs.specs.declared.names.Fork.TheVariants.{Main}
use Rattle.block_refs.specs.declared.names.RelName.{RelName}
use Rattle.cluster_tree.specs.Contents.{Contents, Entry, entry_at, is_file}
use Rattle.cluster_tree.specs.PathValue.{PathValue, below, path_of}
use Rattle.cluster_tree.specs.Tree.{bytes_in}
use Rattle.file_walk.specs.Actions.{here}
use Rattle.file_walk.specs.Laws.{IsMainFile, IsNumber, IsPlaced}
use Rattle.file_walk.specs.Relations.{relation_of}
use Rattle.file_walk.proofs.RelationLemmas.{relation_read}
use Rattle.relation_files.specs.Paths.{relation_file}
use Rattle.replay_laws.specs.Held.{IsMainBlock}
use Rattle.rewind_core.specs.Fits.{IsRewound}
use Rattle.rewind_core.specs.Planned.{Needing}
use Rattle.rewind_plan.specs.Planned.{Between, wants}
use Rattle.rewind_plan.specs.Sides.{Sides}
use Rattle.rewound_tree.specs.Mixed.{capped, is_wanted, mixed}
use Rattle.storage_laws.specs.FileLaws.{IsProper}
use Rattle.storage_laws.specs.Names.{IsRel, block_of, in_fork}
use Rattle.storage_laws.specs.States.{block_in, whole_block}
use Rattle.storage_laws.proofs.FileLemmas.{file-same}
use Rattle.storage_laws.proofs.NameLemmas.{one-block}
use Rattle.storage_laws.proofs.NumberLemmas.{and-both, eq-yes, file-least, its-place}
use Rattle.rewound_laws.specs.Copy.{IsWholeCopy}
use Rattle.rewound_laws.proofs.BlockEntryLemmas.{IsMixed, LeftAs, copied-as, left-as}
use Rattle.rewound_laws.proofs.BlockPathLemmas.{file-plain}
use Rattle.rewound_laws.proofs.BlockStateLemmas.{mixed-block, mixed-there}

-- a block by what stands at its file
block_at : (root : PathValue) (per : ℕ) (name : BlockName) (c : Contents)
    → block_in root per name c ≡ whole_block (name.block % per) (bytes_in (entry_at c (below root (file_parts name.rel name.fork (name.block / per)))))
block_at root per name c = ap (λ p. whole_block (name.block % per) (bytes_in (entry_at c p))) (file-lies root name.rel name.fork (name.block / per))

-- ---- a whole copy

module _ (c d : Contents) (n : Needing) (other : PathValue) (copy : IsWholeCopy c n d other) where
  pub copied-file : (rel : RelName) (fork : Fork) (segment : ℕ) → entry_at d (below other (file_parts rel fork segment)) ≡ entry_at c (below n.aim.between.source (file_parts rel fork segment))
  copied-file rel fork segment =
      copy (file_parts rel fork segment) ∙ copied-as c n.aim.between n.aim.control n.aim.label (file_parts rel fork segment) (file-plain rel fork segment)

  pub copied-block : (per : ℕ) (name : BlockName) → block_in other per name d ≡ block_in n.aim.between.source per name c
  copied-block per name =
      block_at other per name d ∙ ap (λ o. whole_block (name.block % per) (bytes_in o)) (copied-file name.rel name.fork (name.block / per)) ∙ sym (block_at n.aim.between.source per name c)

-- ---- which relation and segment a main fork's file is of

record IsOf (name : BlockName) (per : ℕ) (rel : RelName) (segment : ℕ) : Type 0 where
  relation : rel ≡ name.rel
  number : segment * per + name.block % per ≡ name.block

small_number : (n : ℕ) → IsNumber n → n < 2 ^ 32
small_number n is = is.1

placed_small : (rel : RelName) → IsPlaced rel → rel.database < 2 ^ 32
placed_small rel (inl placed) = omega (arith, placed.1)
placed_small rel (inr placed) = placed.1.1

placed_proper : (rel : RelName) → IsPlaced rel → IsProper rel
placed_proper rel (inl placed) = inl placed
placed_proper rel (inr placed) = inr (placed.0, λ zero. omega (arith, placed.1.0, zero))

segment_small : (per block : ℕ) → 0 < per → block < 2 ^ 32 - 1 → block / per < 2 ^ 32
segment_small per block some few = omega (arith, file-least per block some, few)

is-of : (name : BlockName) (per : ℕ) (rel : RelName) (segment : ℕ) → 0 < per → IsMainBlock name
    → relation_of (path_of false (file_parts name.rel name.fork (name.block / per))) ≡ Some (rel, segment) → IsOf name per rel segment
is-of name per rel segment some main is =
    let file : IsMainFile (path_of false (file_parts name.rel name.fork (name.block / per))) rel segment = relation_read (path_of false (file_parts name.rel name.fork (name.block / per))) rel segment is in
    let few : IsRel rel = record { database = placed_small rel file.placed; relation = small_number rel.relation file.numbered } in
    let one : relation_file here name.rel name.fork (name.block / per) ≡ relation_file here rel Main segment = file-lies here name.rel name.fork (name.block / per) ∙ file.lies in
    let two = file-same here name.rel name.fork (block_of rel Main 0) (name.block / per) segment main.block.rel few (segment_small per name.block some main.block.block) file.small one in
    let same : block_of name.rel name.fork 0 ≡ block_of rel Main 0 =
    one-block (block_of name.rel name.fork 0) (block_of rel Main 0) main.proper (placed_proper rel file.placed) (and-both (in_fork name.rel name.fork (block_of rel Main 0)) (0 == 0) two.0 (eq-yes 0 0 refl)) in
    record {
      relation = sym (ap (λ (x : BlockName). x.rel) same);
      number = ap (λ s. s * per + name.block % per) (sym two.1) ∙ sym (its-place per name.block some).is;
    }

uncapped : (block : ℕ) → block < 2 ^ 32 - 1 → capped block ≡ block
uncapped block few = omega (arith, few)

-- ---- a rewound target

module _ (c c' : Contents) (n : Needing) (sides : Sides c n.aim.between n.pairs) (done : IsRewound c n c') where
  abbrev w : Between
  w = n.aim.between

  -- what stands at a relation's file
  pub left-file : (rel : RelName) (fork : Fork) (segment : ℕ) → LeftAs w (file_parts rel fork segment)
      (entry_at c (below w.target (file_parts rel fork segment))) (entry_at c (below w.source (file_parts rel fork segment))) (entry_at c' (below w.target (file_parts rel fork segment)))
  left-file rel fork segment =
      let parts : List (List ℕ) = file_parts rel fork segment in
      subst (LeftAs w parts (entry_at c (below w.target parts)) (entry_at c (below w.source parts))) (sym (done.inside parts))
      (left-as c w n.aim.control n.aim.label parts (file-plain rel fork segment) n.pairs sides)

  -- it is a file just where the source's is
  pub left-is_file : (rel : RelName) (fork : Fork) (segment : ℕ) → is_file (entry_at c' (below w.target (file_parts rel fork segment))) ≡ is_file (entry_at c (below w.source (file_parts rel fork segment)))
  left-is_file rel fork segment = by (left-file rel fork segment)
    where
      by : LeftAs w (file_parts rel fork segment) (entry_at c (below w.target (file_parts rel fork segment))) (entry_at c (below w.source (file_parts rel fork segment))) (entry_at c' (below w.target (file_parts rel fork segment)))
          → is_file (entry_at c' (below w.target (file_parts rel fork segment))) ≡ is_file (entry_at c (below w.source (file_parts rel fork segment)))
      by (inl same) = ap is_file same
      by (inr mix) = ap is_file mix.left ∙ sym (ap is_file mix.source)

  module _ (per : ℕ) (name : BlockName) where
    abbrev parts : List (List ℕ)
    parts = file_parts name.rel name.fork (name.block / per)

    abbrev block : Option Entry → Option (List ℕ)
    block o = whole_block (name.block % per) (bytes_in o)

    abbrev Left : Type 0
    Left = LeftAs w parts (entry_at c (below w.target parts)) (entry_at c (below w.source parts)) (entry_at c' (below w.target parts))

    there_by : Left → is_some (block (entry_at c' (below w.target parts))) ≡ is_some (block (entry_at c (below w.source parts)))
    there_by (inl same) = ap (λ o. is_some (block o)) same
    there_by (inr mix) =
        ap (λ o. is_some (block o)) mix.left ∙ mixed-there (wants w mix.rel mix.segment) mix.old mix.new (name.block % per)
        ∙ sym (ap (λ o. is_some (block o)) mix.source)

    -- and has the blocks that the source's has
    pub left-there : is_some (block_in w.target per name c') ≡ is_some (block_in w.source per name c)
    left-there = ap is_some (block_at w.target per name c') ∙ there_by (left-file name.rel name.fork (name.block / per)) ∙ sym (ap is_some (block_at w.source per name c))

    -- the block is the source's, or the target's, which isn't wanted
    abbrev OfOneSide : Type 0
    OfOneSide = (block_in w.target per name c' ≡ block_in w.source per name c)
        ⊎ ((is_some (block_in w.target per name c) ≡ true) × (w.wanted name.rel name.block ≡ false) × (block_in w.target per name c' ≡ block_in w.target per name c))

    module _ (mix : IsMixed w parts (entry_at c (below w.target parts)) (entry_at c (below w.source parts)) (entry_at c' (below w.target parts)))
        (wanted : wants w mix.rel mix.segment (name.block % per) ≡ w.wanted name.rel name.block) where
      new_is : block_in w.target per name c' ≡ whole_block (name.block % per) (mixed (wants w mix.rel mix.segment) mix.old mix.new)
      new_is = block_at w.target per name c' ∙ ap block mix.left

      old_is : block_in w.target per name c ≡ whole_block (name.block % per) mix.old
      old_is = block_at w.target per name c ∙ ap block mix.target

      source_is : block_in w.source per name c ≡ whole_block (name.block % per) mix.new
      source_is = block_at w.source per name c ∙ ap block mix.source

      mixed_by : (whole_block (name.block % per) (mixed (wants w mix.rel mix.segment) mix.old mix.new) ≡ whole_block (name.block % per) mix.new)
          ⊎ ((is_some (whole_block (name.block % per) mix.old) ≡ true) × (wants w mix.rel mix.segment (name.block % per) ≡ false)
          × (whole_block (name.block % per) (mixed (wants w mix.rel mix.segment) mix.old mix.new) ≡ whole_block (name.block % per) mix.old))
          → OfOneSide
      mixed_by (inl new) = inl (new_is ∙ new ∙ sym source_is)
      mixed_by (inr (has, free, old)) = inr (ap is_some old_is ∙ has, sym wanted ∙ free, new_is ∙ old ∙ sym old_is)

      mixed_side : OfOneSide
      mixed_side = mixed_by (mixed-block (wants w mix.rel mix.segment) mix.old mix.new (name.block % per) mix.whole)

    wanted_is : IsMainBlock name → (rel : RelName) (segment : ℕ) → IsOf name per rel segment → is_wanted w.wanted per rel segment (name.block % per) ≡ w.wanted name.rel name.block
    wanted_is main rel segment of = ap₂ w.wanted of.relation (ap capped of.number ∙ uncapped name.block main.block.block)

  side_by : (name : BlockName) → 0 < w.per_file → IsMainBlock name → Left w.per_file name → OfOneSide w.per_file name
  side_by name some main (inl same) = inl (block_at w.target w.per_file name c' ∙ ap (block w.per_file name) same ∙ sym (block_at w.source w.per_file name c))
  side_by name some main (inr mix) =
      mixed_side w.per_file name mix (wanted_is w.per_file name main mix.rel mix.segment (is-of name w.per_file mix.rel mix.segment some main mix.is))

  pub left-block : (name : BlockName) → 0 < w.per_file → IsMainBlock name → OfOneSide w.per_file name
  left-block name some main = side_by name some main (left-file name.rel name.fork (name.block / w.per_file))

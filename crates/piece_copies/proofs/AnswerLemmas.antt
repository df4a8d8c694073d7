-- Answers of a call that nothing is to refuse.
use Rattle.std.proofs.Common.{◌≡◌, ◌⊎◌, Result, Ok, Err, sym, ◌∙◌, inl, inr}
use Rattle.cluster_tree.specs.Contents.{Contents}
use Rattle.cluster_tree.specs.declared.file_fault.FileFault.{FileFault}
use Rattle.file_edits.specs.Answers.{Does, IsFree}

pub done-is : (meant new : Contents) → Does {A = Unit {0}} (Ok meant) new (Ok tt) → new ≡ meant
done-is meant new done = cc

-- a free answer of one that isn't refused
pub why-free : (meant : Contents) (r : Result Contents FileFault) (e : FileFault) → r ≡ Ok meant → IsFree e ⊎ (r ≡ Err e) → IsFree e
why-free meant r e is (inl free) = free
why-free meant r e is (inr refused) = let both = sym is ∙ refused in absurd cc

-- What a step about the mark leaves elsewhere.
use Rattle.std.proofs.Common.{◌≡◌, ◌≢◌, ℕ, ◌||◌, Bool, true, false, cond, List, [], ◌∷◌, ◌++◌, ap, refl}
use Rattle.std.specs.List.{list_any}
use Rattle.cluster_tree.specs.Change.{Cuts, MakesFile, Syncs, Writes, is_on}
use Rattle.cluster_tree.specs.Contents.{Contents, entry_at, is_file}
use Rattle.cluster_tree.specs.PathOrder.{path_eq}
use Rattle.cluster_tree.specs.PathValue.{PathValue}
use Rattle.cluster_tree.proofs.OrderLemmas.{path_eq-other}
use Rattle.marked_runs.specs.Runs.{ended}
use Rattle.gated_marks.specs.Changes.{gate_opened, head_laid, text_laid}

off-emptied : (mark p : PathValue) (head : List ℕ) (stood : Bool) → path_eq p mark ≡ false → list_any (is_on p) (cond stood (Cuts mark 0 ∷ Syncs ∷ []) (MakesFile mark ∷ []) ++ Writes mark 0 head ∷ Syncs ∷ []) ≡ false
off-emptied mark p head true off = ap (λ b. b || (b || false)) off
off-emptied mark p head false off = ap (λ b. b || (b || false)) off

pub off-head : (c : Contents) (mark p : PathValue) (head : List ℕ) → p ≢ mark → list_any (is_on p) (head_laid c mark head) ≡ false
off-head c mark p head other = off-emptied mark p head (is_file (entry_at c mark)) (path_eq-other p mark other)

pub off-text : (mark p : PathValue) (at : ℕ) (text : List ℕ) → p ≢ mark → list_any (is_on p) (text_laid mark at text) ≡ false
off-text mark p at [] other = refl
off-text mark p at (byte ∷ text) other = ap (λ b. b || false) (path_eq-other p mark other)

pub off-gate : (mark p : PathValue) (at : ℕ) → p ≢ mark → list_any (is_on p) (gate_opened mark at) ≡ false
off-gate mark p at other = ap (λ b. b || false) (path_eq-other p mark other)

pub off-end : (mark p : PathValue) → p ≢ mark → list_any (is_on p) (ended mark) ≡ false
off-end mark p other = ap (λ b. b || false) (path_eq-other p mark other)

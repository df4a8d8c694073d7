-- The changes that lay such a mark, and changes under it. Own: "A mark that holds its plan".
use Rattle.std.specs.Prelude.{ℕ, cond, List, [], ◌∷◌, ◌++◌, length}
use Rattle.cluster_tree.specs.Change.{Change, Cuts, MakesFile, Syncs, Writes}
use Rattle.cluster_tree.specs.Contents.{Contents, entry_at, is_file}
use Rattle.cluster_tree.specs.PathValue.{PathValue}
use Rattle.marked_runs.specs.Runs.{ended, writes_at}
use Rattle.gated_marks.specs.Gates.{plus}

-- an empty mark: where a file stands it is cut to nothing and synced, and else one is made
abbrev pub emptied : Contents → PathValue → List Change
emptied c mark = cond (is_file (entry_at c mark)) (Cuts mark 0 ∷ Syncs ∷ []) (MakesFile mark ∷ [])

-- and its head, synced
abbrev pub head_laid : Contents → PathValue → (head : List ℕ) → List Change
head_laid c mark head = emptied c mark ++ Writes mark 0 head ∷ Syncs ∷ []

-- a text, synced
abbrev pub text_laid : PathValue → (at : ℕ) (text : List ℕ) → List Change
text_laid mark at text = writes_at mark at text ++ Syncs ∷ []

-- a gate that is opened, synced
abbrev pub gate_opened : PathValue → (at : ℕ) → List Change
gate_opened mark at = Writes mark at (plus ∷ []) ∷ Syncs ∷ []

-- all three in turn, the text behind the head
abbrev pub begun_gated : Contents → PathValue → (head : List ℕ) (gate : ℕ) (text : List ℕ) → List Change
begun_gated c mark head gate text = head_laid c mark head ++ text_laid mark (length head) text ++ gate_opened mark gate

-- changes under such a mark
abbrev pub gated : Contents → PathValue → (head : List ℕ) (gate : ℕ) (text : List ℕ) → List Change → List Change
gated c mark head gate text body = begun_gated c mark head gate text ++ body ++ ended mark

-- What is listed: each with the text of its path, which is one from a root on.
use Rattle.std.proofs.Common.{◌≡◌, true, false, not, ◌&&◌, List, [], ◌∷◌, ◌++◌, string_bytes, ap, sym, ◌∙◌}
use Rattle.std.proofs.lemmas.List.Elements.{All-append, All-nil, All-cons}
use Rattle.std.specs.List.{list_all}
use Rattle.cluster_tree.specs.PathValue.{PathValue, is_part, path_text}
use Rattle.file_walk.specs.declared.entries.Listed.{Listed}
use Rattle.file_walk.specs.declared.waiting.Waiting.{Waiting}
use Rattle.file_walk.specs.declared.waiting.Waiting.TheVariants.{At, TooDeep}
use Rattle.file_walk.specs.Listed.{AreListed, IsListed, is_relative}
use Rattle.file_walk.specs.Stepping.{IsToldOf}
use Rattle.file_walk.specs.Waiting.{IsSoundAt}

relative_of : (p : PathValue) → p.absolute ≡ false → list_all is_part p.parts ≡ true → is_relative p ≡ true
relative_of p mark proper = ap (λ b. not b && list_all is_part p.parts) mark ∙ proper

pub listed_of : (l : Listed) (w : Waiting) → IsSoundAt (string_bytes l.text) w → IsToldOf w l.entry → IsListed l
listed_of l (At place) sound told = record {
  told = sound.2 ∙ ap path_text (sym told);
  relative = relative_of l.entry.path (ap (λ (p : PathValue). p.absolute) told ∙ sound.0.0) (ap (λ (p : PathValue). list_all is_part p.parts) told ∙ sound.1);
}
listed_of l (TooDeep path) sound told = absurd told

pub more_listed : (ls : List Listed) (l : Listed) → AreListed ls → IsListed l → AreListed (ls ++ l ∷ [])
more_listed ls l all one = All-append IsListed ls (l ∷ []) all (All-cons IsListed l [] one (All-nil IsListed))

-- A way from a root that grows by the next part of a path.
use Rattle.std.proofs.Common.{◌≡◌, ℕ, ◌+◌, ◌<◌, ◌≤◌, List, [], ◌∷◌, ◌++◌, false, length, Some, slice_get, slice_range, sym, ap, ◌∙◌, arith}
use Rattle.std.proofs.lemmas.List.Edits.{between_more, between_none, length-between}
use Rattle.std.proofs.lemmas.Option.{slice_get_within, get_or_from_slice_get}
use Rattle.std.proofs.lemmas.Slice.{between_to_end}
use Rattle.cluster_tree.specs.PathValue.{PathValue, below, path_of}
use Rattle.cmd_resume.specs.Resume.{way_from}

-- the path of the parts between two places
abbrev pub way_between : List (List ℕ) → ℕ → ℕ → PathValue
way_between parts first at = path_of false (slice_range parts first at)

module _ (root path : PathValue) where
  abbrev depth : ℕ
  depth = length root.parts

  pub way_none : (at : ℕ) → at ≡ depth → path_of false [] ≡ way_between path.parts depth at
  way_none at is = ap (path_of false) (sym (between_none path.parts depth)) ∙ ap (way_between path.parts depth) (sym is)

  -- what was gone through leaves room
  pub way_room : (way : PathValue) (at : ℕ) → way ≡ way_between path.parts depth at → depth ≤ at → at < length path.parts → length path.parts ≤ 64 → length way.parts ≤ 63
  way_room way at is le lt deep =
      let size : length way.parts ≡ length (slice_range path.parts depth at) = ap (λ w. length w.parts) is in
      omega (arith, size, length-between path.parts depth at (omega arith))

  pub way_more : (way : PathValue) (at : ℕ) (part : List ℕ) → way ≡ way_between path.parts depth at → depth ≤ at → Some part ≡ slice_get path.parts at → below way (part ∷ []) ≡ way_between path.parts depth (at + 1)
  way_more way at part is le got =
      let more = between_more path.parts depth at part le (slice_get_within path.parts at part (sym got)) ∙ ap (λ x. slice_range path.parts depth at ++ x ∷ []) (get_or_from_slice_get path.parts at part part (sym got)) in
      ap (λ w. below w (part ∷ [])) is ∙ ap (path_of false) (sym more)

  pub way_whole : (way : PathValue) (at : ℕ) → way ≡ way_between path.parts depth at → length path.parts ≤ at → way ≡ way_from root path
  way_whole way at is le = is ∙ ap (path_of false) (between_to_end path.parts depth at le)

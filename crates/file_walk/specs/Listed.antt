-- How entries are kept: with the texts of their paths. Own: "The order of a walk".
use Rattle.std.specs.Prelude.{◌≡◌, ℕ, Bool, true, not, ◌&&◌, List, map, string_bytes}
use Rattle.std.specs.List.{All, list_all}
use Rattle.std.specs.List.Sorted.{IsStrictlySortedBy}
use Rattle.std.specs.Cmp.Lexicographic.{slice_cmp}
use Rattle.std.specs.Ordering.{nat_cmp}
use Rattle.cluster_tree.specs.PathValue.{PathValue, is_part, path_text}
use Rattle.file_walk.specs.declared.entry.Entry.{Entry}
use Rattle.file_walk.specs.declared.entries.Listed.{Listed}

-- the texts of the paths of entries
abbrev pub texts_of : List Entry → List (List ℕ)
texts_of entries = map (λ entry. path_text entry.path) entries

-- a path from a root on, of proper parts
abbrev pub is_relative : PathValue → Bool
is_relative path = not path.absolute && list_all is_part path.parts

-- paths from a root on, in strictly ascending order of their texts, so that each stands there once
pub record AreInOrder (entries : List Entry) : Type 0 where
  pub relative : list_all (λ entry. is_relative entry.path) entries ≡ true
  pub ascending : IsStrictlySortedBy (slice_cmp nat_cmp) (texts_of entries)

-- the entries that are kept
abbrev pub entries_in : List Listed → List Entry
entries_in listed = map (λ l. l.entry) listed

-- one with the text of its path, which is one from a root on
pub record IsListed (listed : Listed) : Type 0 where
  pub told : string_bytes listed.text ≡ path_text listed.entry.path
  pub relative : is_relative listed.entry.path ≡ true

abbrev pub AreListed : List Listed → Type 0
AreListed listed = All IsListed listed

-- a map's entries by the texts that its keys are
abbrev pub by_text : {S X : Type 0} → (S → List ℕ) → List (S × X) → List (List ℕ × X)
by_text text_of entries = map (λ e. (text_of e.0, e.1)) entries

-- Paths below a root, in a mark's text. Own: "The plan of a rewind as text".
use Rattle.std.specs.Prelude.{ℕ, ◌+◌, ◌&&◌, Bool, not, List, length, drop, bytes_eq, is_ok, nat_le, nat_lt, Option, None, Some, option_and_then, option_map, if◌then◌else◌}
use Rattle.std.specs.List.{join_with_byte}
use Rattle.std.specs.Str.{is_utf8}
use Rattle.hex.specs.Hex.{encode_lower}
use Rattle.cluster_tree.specs.PathValue.{PathValue, kept_parts, parsed, path_text}
use Rattle.cluster_tree.specs.Paths.{checked}
use Rattle.mark_lines.specs.Words.{bytes_in}

-- the parts of a path behind those of a root
abbrev pub parts_below : (root path : PathValue) → List (List ℕ)
parts_below root path = drop (length root.parts) path.parts

-- the way from a root to a path below it: these parts, joined by slashes
abbrev pub way_of : (root path : PathValue) → List ℕ
way_of root path = join_with_byte 47 (parts_below root path)

-- .. as digits
abbrev pub path_word : (root path : PathValue) → List ℕ
path_word root path = encode_lower (way_of root path)

-- a path below a root of so many parts, with room for it, and shown as this text
abbrev pub is_shown : ℕ → PathValue → List ℕ → Bool
is_shown depth path text =
    not path.absolute && nat_lt 0 (length path.parts) && nat_le (length path.parts + depth) 64 && bytes_eq (path_text path) text

-- a text is the way to a path below a root of so many parts
abbrev pub is_way : ℕ → List ℕ → Bool
is_way depth text = is_ok (checked 0 text) && is_shown depth (parsed text) text

-- .. which is in UTF-8
abbrev pub a_way : ℕ → List ℕ → Option (List ℕ)
a_way depth text = if is_utf8 text && is_way depth text then Some text else None

-- the way below a root of so many parts that a word says
abbrev pub way_in : ℕ → List ℕ → Option (List ℕ)
way_in depth word = option_and_then (a_way depth) (bytes_in word)

-- .. as its parts
abbrev pub parts_in : ℕ → List ℕ → Option (List (List ℕ))
parts_in depth word = option_map kept_parts (way_in depth word)

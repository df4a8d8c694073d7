-- What stands at a path of a pair, and what holds of all that stands there.
use Rattle.std.proofs.Common.{◌≡◌, ℕ, true, false, cond, ◌&&◌, List, [], ◌∷◌, ◌++◌, Option, None, Some, refl, ap, ◌∙◌, subst, append_assoc, codes, bytes_eq}
use Rattle.std.proofs.lemmas.Slice.Eq.{bytes_eq-Decides, slice_eq-Decides}
use Rattle.std.specs.Bool.{Decides}
use Rattle.std.specs.Cmp.Lexicographic.{pointwise}
use Rattle.cluster_tree.specs.Contents.{Contents, Entry, entry_at}
use Rattle.cluster_tree.specs.PathValue.{PathValue, below, path_of}
use Rattle.pair_maker.specs.Clusters.{Named, below_name, copy_entries, pair_entries, source_entries, target_entries}
use Rattle.pair_maker.specs.Pair.{PairStands, last_named, pair_of}
use Rattle.pair_laws.specs.Stands.{copy_of, source_of, target_of}

-- ---- entries below a name

pub named-append : (old : Option Entry) (a b : List Named) (parts : List (List ℕ)) → last_named old (a ++ b) parts ≡ last_named (last_named old a parts) b parts
named-append old [] b parts = refl
named-append old (n ∷ a) b parts = named-append (cond (pointwise bytes_eq n.parts parts) (Some n.entry) old) a b parts

named-own : (name : List ℕ) → bytes_eq name name ≡ true → (old : Option Entry) (entries : List Named) (parts : List (List ℕ))
    → last_named old (below_name name entries) (name ∷ parts) ≡ last_named old entries parts
named-own name same old [] parts = refl
named-own name same old (n ∷ entries) parts =
    ap (λ b. last_named (cond (b && pointwise bytes_eq n.parts parts) (Some n.entry) old) (below_name name entries) (name ∷ parts)) same
    ∙ named-own name same (cond (pointwise bytes_eq n.parts parts) (Some n.entry) old) entries parts

named-other : (name other : List ℕ) → bytes_eq name other ≡ false → (old : Option Entry) (entries : List Named) (parts : List (List ℕ))
    → last_named old (below_name name entries) (other ∷ parts) ≡ old
named-other name other differ old [] parts = refl
named-other name other differ old (n ∷ entries) parts =
    ap (λ b. last_named (cond (b && pointwise bytes_eq n.parts parts) (Some n.entry) old) (below_name name entries) (other ∷ parts)) differ
    ∙ named-other name other differ old entries parts

-- ---- the three clusters

module _ (seed blocks : ℕ) (parts : List (List ℕ)) where
  t_all : List Named
  t_all = below_name (codes "t") (target_entries seed blocks)

  s_all : List Named
  s_all = below_name (codes "s") (source_entries seed blocks)

  c_all : List Named
  c_all = below_name (codes "c") (copy_entries seed blocks)

  at_name : (name : List ℕ) → pair_of seed blocks (name ∷ parts) ≡ last_named (last_named (last_named None t_all (name ∷ parts)) s_all (name ∷ parts)) c_all (name ∷ parts)
  unfolding pair_entries t_all s_all c_all
  at_name name =
      named-append None t_all (s_all ++ c_all) (name ∷ parts)
      ∙ named-append (last_named None t_all (name ∷ parts)) s_all c_all (name ∷ parts)

  in_target : pair_of seed blocks (codes "t" ∷ parts) ≡ last_named None (target_entries seed blocks) parts
  unfolding t_all s_all c_all
  in_target =
      at_name (codes "t")
      ∙ named-other (codes "c") (codes "t") refl (last_named (last_named None t_all (codes "t" ∷ parts)) s_all (codes "t" ∷ parts)) (copy_entries seed blocks) parts
      ∙ named-other (codes "s") (codes "t") refl (last_named None t_all (codes "t" ∷ parts)) (source_entries seed blocks) parts
      ∙ named-own (codes "t") refl None (target_entries seed blocks) parts

  in_source : pair_of seed blocks (codes "s" ∷ parts) ≡ last_named None (source_entries seed blocks) parts
  unfolding t_all s_all c_all
  in_source =
      at_name (codes "s")
      ∙ named-other (codes "c") (codes "s") refl (last_named (last_named None t_all (codes "s" ∷ parts)) s_all (codes "s" ∷ parts)) (copy_entries seed blocks) parts
      ∙ ap (λ o. last_named o s_all (codes "s" ∷ parts)) (named-other (codes "t") (codes "s") refl None (target_entries seed blocks) parts)
      ∙ named-own (codes "s") refl None (source_entries seed blocks) parts

  in_copy : pair_of seed blocks (codes "c" ∷ parts) ≡ last_named None (copy_entries seed blocks) parts
  unfolding t_all s_all c_all
  in_copy =
      at_name (codes "c")
      ∙ ap (λ o. last_named (last_named o s_all (codes "c" ∷ parts)) c_all (codes "c" ∷ parts)) (named-other (codes "t") (codes "c") refl None (target_entries seed blocks) parts)
      ∙ ap (λ o. last_named o c_all (codes "c" ∷ parts)) (named-other (codes "s") (codes "c") refl None (source_entries seed blocks) parts)
      ∙ named-own (codes "c") refl None (copy_entries seed blocks) parts

-- ---- what stands at a path

module _ (root : PathValue) (seed blocks : ℕ) (c : Contents) (stands : PairStands root seed blocks c) (parts : List (List ℕ)) where
  at_path : (name : List ℕ) → entry_at c (below (below root (name ∷ [])) parts) ≡ entry_at c (below root (name ∷ parts))
  at_path name = ap (λ l. entry_at c (path_of root.absolute l)) (append_assoc root.parts (name ∷ []) parts)

  pub pair-at-t : entry_at c (below (target_of root) parts) ≡ last_named None (target_entries seed blocks) parts
  pair-at-t = at_path (codes "t") ∙ stands (codes "t" ∷ parts) refl ∙ in_target seed blocks parts

  pub pair-at-s : entry_at c (below (source_of root) parts) ≡ last_named None (source_entries seed blocks) parts
  pair-at-s = at_path (codes "s") ∙ stands (codes "s" ∷ parts) refl ∙ in_source seed blocks parts

  pub pair-at-c : entry_at c (below (copy_of root) parts) ≡ last_named None (copy_entries seed blocks) parts
  pair-at-c = at_path (codes "c") ∙ stands (codes "c" ∷ parts) refl ∙ in_copy seed blocks parts

-- ---- what holds of each entry holds of what stands at any path

abbrev pub AllNamed : (List (List ℕ) → Entry → Type 0) → List Named → Type 0
AllNamed P [] = Unit {0}
AllNamed P (n ∷ rest) = P n.parts n.entry × AllNamed P rest

same_parts : (a b : List (List ℕ)) → Decides (pointwise bytes_eq a b) (a ≡ b)
same_parts a b = slice_eq-Decides bytes_eq-Decides a b (pointwise bytes_eq a b) refl

named-step : (P : List (List ℕ) → Entry → Type 0) (entries : List Named) (old : Option Entry) (parts : List (List ℕ)) → AllNamed P entries
    → ((e : Entry) → old ≡ Some e → P parts e) → (e : Entry) → last_named old entries parts ≡ Some e → P parts e
named-step P [] old parts all before e is = before e is
named-step P (n ∷ rest) old parts all before e is =
    (elim (pointwise bytes_eq n.parts parts) as (λ b. pointwise bytes_eq n.parts parts ≡ b → last_named (cond b (Some n.entry) old) rest parts ≡ Some e → P parts e) [
      | true ↦ λ same at.
          let here : n.parts ≡ parts = (same_parts n.parts parts).0 same in
          named-step P rest (Some n.entry) parts all.1 (λ f is_f. subst (λ g. P parts g) (some_is n.entry f is_f) (subst (λ p. P p n.entry) here all.0)) e at
      | false ↦ λ other at. named-step P rest old parts all.1 before e at
    ] refl) is
  where
    some_is : (a b : Entry) → Some a ≡ Some b → a ≡ b
    some_is a b h = cc h

pub named-all : (P : List (List ℕ) → Entry → Type 0) (entries : List Named) (parts : List (List ℕ)) → AllNamed P entries
    → (e : Entry) → last_named None entries parts ≡ Some e → P parts e
named-all P entries parts all e is = named-step P entries None parts all (λ f h. absurd (cc h)) e is

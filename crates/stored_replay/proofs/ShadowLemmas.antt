-- The copies of files: their names are parts of paths, and a list is gone through for the first that isn't as it was.
use Rattle.std.proofs.Common.{◌≡◌, ◌⊎◌, ℕ, ◌+◌, ◌<◌, ◌≤◌, ◌^◌, ◌==◌, Bool, true, false, not, ◌&&◌, List, [], ◌∷◌, length, drop, bytes_eq, codes, decimal, get_or, Option, None, Some, Result, Ok, Err, inl, inr, refl, sym, ap, ap₂, subst, ◌∙◌, append_assoc, lit≤, arith}
use Rattle.std.proofs.lemmas.Bool.Decides.{nat_tests}
use Rattle.std.proofs.lemmas.List.{drop_more, length-append}
use Rattle.std.specs.Char.{is_ascii_digit}
use Rattle.std.specs.List.{list_all}
use Rattle.std.specs.Prelude.{option_map}
use Rattle.wal_base.proofs.DecimalLemmas.{digits_read, decimal_written}
use Rattle.cluster_tree.specs.Contents.{Contents}
use Rattle.cluster_tree.specs.PathValue.{PathValue, below, is_part, kept_parts, no_slash}
use Rattle.cluster_tree.specs.Paths.{checked}
use Rattle.cluster_tree.proofs.OrderLemmas.{same_path}
use Rattle.cluster_tree.proofs.PartLemmas.{part_of, part_kept, part_admitted}
use Rattle.replay_list.specs.Lines.{files_behind}
use Rattle.replay_list.specs.declared.listed.Listed.{Listed}
use Rattle.stored_replay.specs.Faults.{IsFree}
use Rattle.stored_replay.specs.Shadows.{first_lost, lost_of, or_later, shadow_at, shadow_folder}
use Rattle.stored_replay.specs.declared.fault.StoredReplayFault.{StoredReplayFault}
use Rattle.stored_replay.specs.declared.fault.StoredReplayFault.TheVariants as fault

-- ---- a number in decimal digits is a part of a path

and_parts : (a b : Bool) → (a && b) ≡ true → (a ≡ true) × (b ≡ true)
and_parts true b h = (refl, h)
and_parts false b h = absurd cc

not_dot : (c : ℕ) → is_ascii_digit c ≡ true → (c == 46) ≡ false
not_dot c d = grind (arith, nat_tests)

not_slash : (c : ℕ) → is_ascii_digit c ≡ true → no_slash c ≡ true
not_slash c d = grind (arith, nat_tests)

digits_free : (text : List ℕ) → list_all is_ascii_digit text ≡ true → list_all no_slash text ≡ true
digits_free [] h = refl
digits_free (c ∷ cs) h =
    let two = and_parts (is_ascii_digit c) (list_all is_ascii_digit cs) h in
    ap₂ (λ a b. a && b) (not_slash c two.0) (digits_free cs two.1)

digits_part : (text : List ℕ) → (0 < length text) × (list_all is_ascii_digit text ≡ true) → is_part text ≡ true
digits_part [] h = absurd (omega (arith, h.0))
digits_part (c ∷ cs) h =
    let first = not_dot c (and_parts (is_ascii_digit c) (list_all is_ascii_digit cs) h.1).0 in
    part_of (c ∷ cs) (record {
      kept = ap (λ t. not (t && bytes_eq cs [])) first;
      other = ap (λ t. t && bytes_eq cs (46 ∷ [])) first;
      free = digits_free (c ∷ cs) h.1;
    })

number_part : (n : ℕ) → n < 2 ^ 64 → is_part (decimal n) ≡ true
number_part n small = digits_part (decimal n) (digits_read (2 ^ 64) n (decimal n) (decimal_written (2 ^ 64) n (decimal n) (lit≤ tt) small refl))

module _ (root folder : PathValue) (n : ℕ) (text : List ℕ) (small : n < 2 ^ 64) (is : folder ≡ shadow_folder root) (told : text ≡ decimal n) where
  pub number_admitted : length root.parts ≤ 61 → checked (length folder.parts) text ≡ Ok tt
  number_admitted room =
      let size : length folder.parts ≡ length root.parts + 1 = ap (λ (p : PathValue). length p.parts) is ∙ length-append root.parts (codes "pg_walreplay.shadow" ∷ []) in
      part_admitted (length folder.parts) text (omega (arith, room, size)) (ap is_part told ∙ number_part n small)

  pub copy_is : (path : PathValue) → path ≡ below folder (kept_parts text) → path ≡ shadow_at root n
  copy_is path made =
      made ∙ ap₂ below is (ap kept_parts told ∙ part_kept (decimal n) (number_part n small))
      ∙ same_path _ _ refl (append_assoc root.parts (codes "pg_walreplay.shadow" ∷ []) (decimal n ∷ []))

-- ---- going through a list

-- one more was looked at
pub rest_is : (listed : List Listed) (at : ℕ) (one : Listed) → at < length listed → one ≡ get_or listed at one → drop at listed ≡ one ∷ drop (at + 1) listed
rest_is listed at one within is = drop_more listed at one within ∙ ap (λ x. x ∷ drop (at + 1) listed) (sym is)

abbrev pub differs : Option PathValue → Option StoredReplayFault
differs o = option_map fault.ShadowDiffers o

lost-next : (c : Contents) (root : PathValue) (files : ℕ) (one : Listed) (more : List Listed)
    → first_lost c root files (one ∷ more) ≡ or_later (lost_of c root files one) (first_lost c root (files_behind files one) more)
unfolding first_lost
lost-next c root files one more = refl

pub lost-none : (c : Contents) (root : PathValue) (files : ℕ) → first_lost c root files [] ≡ None
unfolding first_lost
lost-none c root files = refl

none-found : (o : Option PathValue) → differs o ≡ None → o ≡ None
none-found None is = refl
none-found (Some p) is = cc is

found-first : (o later : Option PathValue) (e : StoredReplayFault) → differs o ≡ Some e → differs (or_later o later) ≡ Some e
found-first None later e is = cc is
found-first (Some p) later e is = is

-- what is still to be looked at decides, behind so many files
module _ (c : Contents) (root : PathValue) (listed rest : List Listed) (files : ℕ) (so : first_lost c root 0 listed ≡ first_lost c root files rest) where
  pub goes-on : (one : Listed) (more : List Listed) (behind : ℕ) → rest ≡ one ∷ more → behind ≡ files_behind files one → differs (lost_of c root files one) ≡ None → first_lost c root 0 listed ≡ first_lost c root behind more
  goes-on one more behind is count none =
      so ∙ ap (first_lost c root files) is ∙ lost-next c root files one more ∙ ap (λ o. or_later o (first_lost c root (files_behind files one) more)) (none-found (lost_of c root files one) none)
      ∙ ap (λ n. first_lost c root n more) (sym count)

  pub breaks : (one : Listed) (more : List Listed) (e : StoredReplayFault) → rest ≡ one ∷ more → IsFree e ⊎ (differs (lost_of c root files one) ≡ Some e) → IsFree e ⊎ (differs (first_lost c root 0 listed) ≡ Some e)
  breaks one more e is (inl free) = inl free
  breaks one more e is (inr found) =
      inr (ap differs (so ∙ ap (first_lost c root files) is ∙ lost-next c root files one more) ∙ found-first (lost_of c root files one) (first_lost c root (files_behind files one) more) e found)

  pub ends : rest ≡ [] → differs (first_lost c root 0 listed) ≡ None
  ends is = ap differs (so ∙ ap (first_lost c root files) is ∙ lost-none c root files)

pub counted_more : (files : ℕ) (one : Listed) → files_behind files one ≤ files + 1
counted_more files one = grind arith

-- what is known of the fault that a callee gave holds of the one that is handed on
pub handed : {A : Type 0} (P : Result A StoredReplayFault → Type 0) (r : Result A StoredReplayFault) (e : StoredReplayFault) → ((f : StoredReplayFault) × (r ≡ Err f) × (f ≡ e)) → P (Err e) → P r
handed P r e (f, is, same) h = subst P (sym (is ∙ ap Err same)) h

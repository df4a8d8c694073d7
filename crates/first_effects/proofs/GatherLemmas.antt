-- What is gathered, a reference at a time.
use Rattle.std.proofs.Common.{◌≡◌, refl, ◌∙◌, sym, ap, subst, ◌&&◌, ◌||◌, ℕ, zero, suc, ◌+◌, Bool, true, false, not, cond, List, [], ◌∷◌, take, length, ◌≤◌, Option, None, Some, ◌⊎◌, inl, inr}
use Rattle.std.specs.List.{list_any, slice_get}
use Rattle.std.specs.Option.{option_map_or}
use Rattle.std.specs.BTreeMap.{is_at}
use Rattle.std.proofs.lemmas.Bool.{and_parts}
use Rattle.std.proofs.lemmas.List.{take_all}
use Rattle.block_refs.specs.Order.{compared}
use Rattle.block_refs.specs.declared.block_ref.BlockRef.{BlockRef}
use Rattle.block_refs.specs.declared.names.BlockName.{BlockName}
use Rattle.block_refs.specs.declared.placed.Placed.{Placed}
use Rattle.block_effects.specs.Gone.{is_main}
use Rattle.replay_profile.specs.Names.{are_known, is_block}
use Rattle.first_effects.specs.First.{IsLeastOf, IsOneOf}
use Rattle.record_effects.specs.declared.acts.Act.{Act}
use Rattle.record_effects.specs.declared.acts.Act.TheVariants.{Nothing, Image, Make, MapPage, Gone}
use Rattle.first_effects.specs.Gathered.{FirstView, is_known}
use Rattle.first_effects.specs.References.{Gathers, is_change, is_changed_anew, is_effect, lesser}
use Rattle.first_effects.proofs.NameLemmas.{block_at, block_refl, block_sym, same_block}
use Rattle.first_effects.proofs.PlaceLemmas.{alone, any_more, or_assoc}
use Rattle.first_effects.proofs.LeastLemmas.{least_more, least_one, least_same}

-- nothing is done

or_none : (a b : Bool) → b ≡ false → a ≡ (a || b)
or_none true b e = refl
or_none false b e = sym e

and_none : (a b : Bool) → (a ≡ true → b ≡ false) → (a && b) ≡ false
and_none true b e = e refl
and_none false b e = refl

and_same : (a b c : Bool) → (a ≡ true → b ≡ c) → (a && b) ≡ (a && c)
and_same true b c e = e refl
and_same false b c e = refl

pub gathers_none : (met changed : BlockName → Bool) (seen : FirstView) → ((q : BlockName) → is_main q.fork ≡ true → (is_known q seen || met q) ≡ is_known q seen)
    → ((q : BlockName) → is_main q.fork ≡ true → (changed q && not (is_known q seen)) ≡ false) → Gathers met changed seen seen
gathers_none met changed seen none still = record {
  known = λ q main. sym (none q main);
  least = λ is_it least. least_same is_it (λ q. is_it q || is_changed_anew seen changed q) seen.least (λ q. or_none (is_it q) (is_changed_anew seen changed q) (and_none (is_main q.fork) (changed q && not (is_known q seen)) (still q))) least;
}

-- the same is done
pub gathers_same : (met changed met' changed' : BlockName → Bool) (before after : FirstView) → ((q : BlockName) → is_main q.fork ≡ true → met q ≡ met' q)
    → ((q : BlockName) → is_main q.fork ≡ true → changed q ≡ changed' q) → Gathers met changed before after → Gathers met' changed' before after
gathers_same met changed met' changed' before after m c g = record {
  known = λ q main. g.known q main ∙ ap (λ b. is_known q before || b) (m q main);
  least = λ is_it least.
      least_same (λ q. is_it q || is_changed_anew before changed q) (λ q. is_it q || is_changed_anew before changed' q) after.least
      (λ q. ap (λ b. is_it q || b) (and_same (is_main q.fork) (changed q && not (is_known q before)) (changed' q && not (is_known q before)) (λ main. ap (λ b. b && not (is_known q before)) (c q main))))
      (g.least is_it least);
}

-- a block is met

met_more : (q name : BlockName) (new old taken : Bool) → new ≡ cond (is_at (compared name) q) true old → (new || taken) ≡ ((old || taken) || is_block q name)
met_more q name new old taken e = by_case (is_block q name) (e ∙ ap (λ b. cond b true old) (block_at name q ∙ block_sym name q))
  where
    or_true : (a : Bool) → true ≡ (a || true)
    or_true true = refl
    or_true false = refl

    or_false : (a : Bool) → a ≡ (a || false)
    or_false true = refl
    or_false false = refl

    by_case : (b : Bool) → new ≡ cond b true old → (new || taken) ≡ ((old || taken) || b)
    by_case true e = ap (λ b. b || taken) e ∙ or_true (old || taken)
    by_case false e = ap (λ b. b || taken) e ∙ or_false (old || taken)

module _ (name : BlockName) (before after : FirstView) (taken : after.taken ≡ before.taken)
    (met : (q : BlockName) → list_any (is_at (compared q)) after.met ≡ cond (is_at (compared name) q) true (list_any (is_at (compared q)) before.met)) where
  known_more : (q : BlockName) → is_known q after ≡ (is_known q before || is_block q name)
  known_more q = rw taken (met_more q name _ _ _ (met q))

  pub meets_one : after.least ≡ before.least → Gathers (λ q. is_block q name) (λ _. false) before after
  meets_one same = record {
    known = λ q main. known_more q;
    least = λ is_it least.
        subst (IsLeastOf (λ q. is_it q || is_changed_anew before (λ _. false) q)) (sym same)
        (least_same is_it (λ q. is_it q || is_changed_anew before (λ _. false) q) before.least (λ q. or_none (is_it q) (is_changed_anew before (λ _. false) q) (and_none (is_main q.fork) false (λ _. refl))) least);
  }

  -- a block that wasn't known is changed
  pub changes_one : is_main name.fork ≡ true → is_known name before ≡ false → after.least ≡ Some (lesser before.least name) → Gathers (λ q. is_block q name) (λ q. is_block q name) before after
  changes_one main anew same = record {
    known = λ q m. known_more q;
    least = λ is_it least.
        subst (IsLeastOf (λ q. is_it q || is_changed_anew before (λ r. is_block r name) q)) (sym same)
        (least_same (λ q. is_it q || is_block q name) (λ q. is_it q || is_changed_anew before (λ r. is_block r name) q) (Some (lesser before.least name)) (λ q. ap (λ b. is_it q || b) (here q (is_block q name) refl)) (least_more is_it name before.least least));
  }
    where
      here : (q : BlockName) (b : Bool) → is_block q name ≡ b → is_block q name ≡ is_changed_anew before (λ r. is_block r name) q
      here q true e = let same : q ≡ name = same_block q name e in
          e ∙ sym (ap (λ n. is_changed_anew before (λ r. is_block r name) n) same ∙ rw (main, anew, block_refl name) refl)
      here q false e = e ∙ sym (rw e (and_none (is_main q.fork) false (λ _. refl)))

-- a block that was known is changed
pub changes_known : (name : BlockName) (seen : FirstView) → is_known name seen ≡ true → Gathers (λ q. is_block q name) (λ q. is_block q name) seen seen
changes_known name seen known = gathers_none (λ q. is_block q name) (λ q. is_block q name) seen (λ q main. had q (is_block q name) refl) (λ q main. still q (is_block q name) refl)
  where
    or_true : (a b : Bool) → a ≡ true → (a || b) ≡ a
    or_true true b e = refl
    or_true false b e = cc e

    or_false : (a : Bool) → (a || false) ≡ a
    or_false true = refl
    or_false false = refl

    same_known : (q : BlockName) → is_block q name ≡ true → is_known q seen ≡ true
    same_known q e = ap (λ n. is_known n seen) (same_block q name e) ∙ known

    had : (q : BlockName) (b : Bool) → is_block q name ≡ b → (is_known q seen || is_block q name) ≡ is_known q seen
    had q true e = or_true (is_known q seen) (is_block q name) (same_known q e)
    had q false e = ap (λ b. is_known q seen || b) e ∙ or_false (is_known q seen)

    still : (q : BlockName) (b : Bool) → is_block q name ≡ b → (is_block q name && not (is_known q seen)) ≡ false
    still q true e = ap (λ b. is_block q name && not b) (same_known q e) ∙ ap (λ b. b && false) e
    still q false e = ap (λ b. b && not (is_known q seen)) e

-- a reference of another fork, and one that does nothing, or meets its block, or changes it
and_true : (b : Bool) → b ≡ (b && true)
and_true true = refl
and_true false = refl

and_false : (b : Bool) → (b && false) ≡ false
and_false true = refl
and_false false = refl

pub does_nothing : (name : BlockName) (f g : Bool) (seen : FirstView) → f ≡ false → g ≡ false → Gathers (λ q. is_block q name && f) (λ q. is_block q name && g) seen seen
does_nothing name f g seen no_f no_g =
    gathers_none (λ q. is_block q name && f) (λ q. is_block q name && g) seen
    (λ q main. sym (or_none (is_known q seen) (is_block q name && f) (ap (λ b. is_block q name && b) no_f ∙ and_false (is_block q name))))
    (λ q main. ap (λ b. b && not (is_known q seen)) (ap (λ b. is_block q name && b) no_g ∙ and_false (is_block q name)))

pub other_fork : (name : BlockName) (f g : Bool) (seen : FirstView) → is_main name.fork ≡ false → Gathers (λ q. is_block q name && f) (λ q. is_block q name && g) seen seen
other_fork name f g seen other =
    gathers_none (λ q. is_block q name && f) (λ q. is_block q name && g) seen
    (λ q main. sym (or_none (is_known q seen) (is_block q name && f) (ap (λ b. b && f) (differs q main (is_block q name) refl))))
    (λ q main. ap (λ b. (b && g) && not (is_known q seen)) (differs q main (is_block q name) refl))
  where
    differs : (q : BlockName) → is_main q.fork ≡ true → (b : Bool) → is_block q name ≡ b → is_block q name ≡ false
    differs q main true e = let same : is_main q.fork ≡ is_main name.fork = ap (λ (n : BlockName). is_main n.fork) (same_block q name e) in cc
    differs q main false e = e

pub does_meet : (name : BlockName) (f g : Bool) (before after : FirstView) → f ≡ true → g ≡ false → Gathers (λ q. is_block q name) (λ _. false) before after → Gathers (λ q. is_block q name && f) (λ q. is_block q name && g) before after
does_meet name f g before after is_f no_g it =
    gathers_same (λ q. is_block q name) (λ _. false) (λ q. is_block q name && f) (λ q. is_block q name && g) before after
    (λ q main. and_true (is_block q name) ∙ ap (λ b. is_block q name && b) (sym is_f)) (λ q main. sym (ap (λ b. is_block q name && b) no_g ∙ and_false (is_block q name))) it

pub does_change : (name : BlockName) (f g : Bool) (before after : FirstView) → f ≡ true → g ≡ true → Gathers (λ q. is_block q name) (λ q. is_block q name) before after → Gathers (λ q. is_block q name && f) (λ q. is_block q name && g) before after
does_change name f g before after is_f is_g it =
    gathers_same (λ q. is_block q name) (λ q. is_block q name) (λ q. is_block q name && f) (λ q. is_block q name && g) before after
    (λ q main. and_true (is_block q name) ∙ ap (λ b. is_block q name && b) (sym is_f)) (λ q main. and_true (is_block q name) ∙ ap (λ b. is_block q name && b) (sym is_g)) it

pub no_effect : (act : Act) → (act ≡ Nothing) ⊎ ((act ≡ MapPage) ⊎ (act ≡ Gone)) → (is_effect act ≡ false) × (is_change act ≡ false)
no_effect act (inl e) = (ap is_effect e, ap is_change e)
no_effect act (inr (inl e)) = (ap is_effect e, ap is_change e)
no_effect act (inr (inr e)) = (ap is_effect e, ap is_change e)

pub has_effect : (act : Act) → (act ≡ Image) ⊎ (act ≡ Make) → (is_effect act ≡ true) × (is_change act ≡ false)
has_effect act (inl e) = (ap is_effect e, ap is_change e)
has_effect act (inr e) = (ap is_effect e, ap is_change e)

-- one after another
module _ (f g : BlockRef → Bool) (xs : List Placed) (first : FirstView) where
  abbrev pub met_in : List Placed → BlockName → Bool
  met_in blocks name = list_any (λ placed. is_block name placed.block.name && f placed.block) blocks

  abbrev pub changed_in : List Placed → BlockName → Bool
  changed_in blocks name = list_any (λ placed. is_block name placed.block.name && g placed.block) blocks

  abbrev pub met_at : ℕ → BlockName → Bool
  met_at i name = option_map_or (λ placed. is_block name placed.block.name && f placed.block) (slice_get xs i) false

  abbrev pub changed_at : ℕ → BlockName → Bool
  changed_at i name = option_map_or (λ placed. is_block name placed.block.name && g placed.block) (slice_get xs i) false

  -- the block of a reference isn't met by those before it
  fresh : (i : ℕ) (q : BlockName) (o : Option Placed) → are_known xs ≡ true → slice_get xs i ≡ o → option_map_or (λ placed. is_block q placed.block.name && g placed.block) o false ≡ true → met_in (take i xs) q ≡ false
  fresh i q None known e is = cc is
  fresh i q (Some placed) known e is = alone f xs i placed q known e (and_parts (is_block q placed.block.name) (g placed.block) is).0

  pub gathers_next : (i : ℕ) (mid last : FirstView) → are_known xs ≡ true → Gathers (met_in (take i xs)) (changed_in (take i xs)) first mid → Gathers (met_at i) (changed_at i) mid last
      → Gathers (met_in (take (i + 1) xs)) (changed_in (take (i + 1) xs)) first last
  gathers_next i mid last known one two = record {
    known = λ q main.
        two.known q main ∙ ap (λ b. b || met_at i q) (one.known q main) ∙ sym (or_assoc (is_known q first) (met_in (take i xs) q) (met_at i q))
        ∙ ap (λ b. is_known q first || b) (sym (any_more (λ (placed : Placed). is_block q placed.block.name && f placed.block) xs i));
    least = λ is_it least.
        least_same (λ q. (is_it q || is_changed_anew first (changed_in (take i xs)) q) || is_changed_anew mid (changed_at i) q) (λ q. is_it q || is_changed_anew first (changed_in (take (i + 1) xs)) q) last.least
        (λ q. sym (or_assoc (is_it q) (is_changed_anew first (changed_in (take i xs)) q) (is_changed_anew mid (changed_at i) q)) ∙ ap (λ b. is_it q || b) (joined q (is_main q.fork) refl))
        (two.least (λ q. is_it q || is_changed_anew first (changed_in (take i xs)) q) (one.least is_it least));
  }
    where
      spread : (k m c d : Bool) → (d ≡ true → m ≡ false) → ((c && not k) || (d && not (k || m))) ≡ ((c || d) && not k)
      spread true m true true h = refl
      spread true m true false h = refl
      spread true m false true h = refl
      spread true m false false h = refl
      spread false m true d h = refl
      spread false m false true h = ap not (h refl)
      spread false m false false h = refl

      joined : (q : BlockName) (b : Bool) → is_main q.fork ≡ b → (is_changed_anew first (changed_in (take i xs)) q || is_changed_anew mid (changed_at i) q) ≡ is_changed_anew first (changed_in (take (i + 1) xs)) q
      joined q false e = rw e refl
      joined q true e =
          rw e
          (ap (λ b. (changed_in (take i xs) q && not (is_known q first)) || (changed_at i q && not b)) (one.known q e)
          ∙ spread (is_known q first) (met_in (take i xs) q) (changed_in (take i xs) q) (changed_at i q) (fresh i q (slice_get xs i) known refl)
          ∙ ap (λ b. b && not (is_known q first)) (sym (any_more (λ (placed : Placed). is_block q placed.block.name && g placed.block) xs i)))

  pub gathers_start : Gathers (met_in (take 0 xs)) (changed_in (take 0 xs)) first first
  gathers_start = gathers_none (met_in (take 0 xs)) (changed_in (take 0 xs)) first (λ q main. or_false (is_known q first)) (λ q main. refl)
    where
      or_false : (a : Bool) → (a || false) ≡ a
      or_false true = refl
      or_false false = refl

  -- all of them
  pub gathers_all : (i : ℕ) (last : FirstView) → length xs ≤ i → Gathers (met_in (take i xs)) (changed_in (take i xs)) first last → Gathers (met_in xs) (changed_in xs) first last
  gathers_all i last l g' = subst (λ ys. Gathers (met_in ys) (changed_in ys) first last) (take_all i xs l) g'

  -- what some first ones leave as the least is one of those of all
  pub gathers_one : (i : ℕ) (last : FirstView) (is_it : BlockName → Bool) → Gathers (met_in (take i xs)) (changed_in (take i xs)) first last → IsLeastOf is_it first.least
      → IsOneOf (λ q. is_it q || is_changed_anew first (changed_in xs) q) last.least
  gathers_one i last is_it g' least =
      least_one (λ q. is_it q || is_changed_anew first (changed_in (take i xs)) q) (λ q. is_it q || is_changed_anew first (changed_in xs) q) last.least
      (λ q is. wider (is_it q) (is_main q.fork) (changed_in (take i xs) q) (changed_in xs q) (not (is_known q first)) (any_taken (λ (placed : Placed). is_block q placed.block.name && g placed.block) xs i) is)
      (g'.least is_it least)
    where
      any_taken : (p : Placed → Bool) (ys : List Placed) (i : ℕ) → list_any p (take i ys) ≡ true → list_any p ys ≡ true
      any_taken p [] zero e = e
      any_taken p [] (suc i) e = e
      any_taken p (y ∷ ys) zero e = cc e
      any_taken p (y ∷ ys) (suc i) e = step (p y) (λ h. any_taken p ys i h) e
        where
          step : (b : Bool) → (list_any p (take i ys) ≡ true → list_any p ys ≡ true) → (b || list_any p (take i ys)) ≡ true → (b || list_any p ys) ≡ true
          step true h e = refl
          step false h e = h e

      wider : (a m c d k : Bool) → (c ≡ true → d ≡ true) → (a || (m && (c && k))) ≡ true → (a || (m && (d && k))) ≡ true
      wider true m c d k h e = refl
      wider false false c d k h e = e
      wider false true false d k h e = cc e
      wider false true true d k h e = ap (λ b. b && k) (h refl) ∙ e

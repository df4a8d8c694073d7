-- What kinds and entries tell of each other, and small facts on lists.
use Rattle.std.proofs.Common.{◌≡◌, ℕ, ◌==◌, Bool, true, false, ◌||◌, List, [], ◌∷◌, ◌++◌, length, Option, None, Some, is_some, refl, sym, ap, ◌∙◌, append_assoc, true≢false}
use Rattle.cluster_tree.specs.Contents.{Contents, Entry, is_folder}
use Rattle.file_walk.specs.declared.entry.EntryKind.{EntryKind}
use Rattle.file_walk.specs.declared.entry.EntryKind.TheVariants as kind
use Rattle.file_walk.specs.declared.pair.Pair.{Pair}
use Rattle.rewind_plan.proofs.Jobs.{is_plain}
use Rattle.rewind_plan.specs.Planned.{Between}
use Rattle.rewind_plan.specs.Sides.{IsKind}
use Rattle.rewind_plan.proofs.PairLemmas.{item_of, items_of}
use Rattle.rewind_plan.proofs.SideLemmas.{ended, some_left}

pub or_right : (a b : Bool) → b ≡ true → (a || b) ≡ true
or_right true b h = refl
or_right false b h = h

pub or_first : (a b : Bool) → a ≡ true → (a || b) ≡ true
or_first true b h = refl
or_first false b h = absurd (true≢false (sym h))

-- ---- kinds and entries

pub folder_kind : (k : Option EntryKind) (o : Option Entry) → IsKind k o → is_folder o ≡ true → k ≡ Some kind.Folder
folder_kind None o is f = absurd (true≢false (sym f ∙ ap is_folder is))
folder_kind (Some (kind.File size)) o is f = absurd (true≢false (sym f ∙ ap is_folder is.1))
folder_kind (Some kind.Folder) o is f = refl

pub kind_folder : (k : Option EntryKind) (o : Option Entry) → IsKind k o → k ≡ Some kind.Folder → is_folder o ≡ true
kind_folder None o is e = absurd (cc e)
kind_folder (Some (kind.File size)) o is e = absurd (cc e)
kind_folder (Some kind.Folder) o is e = ap is_folder is

pub kind_none : (k : Option EntryKind) (o : Option Entry) → IsKind k o → k ≡ None → o ≡ None
kind_none None o is e = is
kind_none (Some k) o is e = absurd (cc e)

pub none_kind : (k : Option EntryKind) (o : Option Entry) → IsKind k o → o ≡ None → k ≡ None
none_kind None o is e = refl
none_kind (Some (kind.File size)) o is e = absurd (cc (sym e ∙ is.1))
none_kind (Some kind.Folder) o is e = absurd (cc (sym e ∙ is))

pub kind_there : (k : Option EntryKind) (o : Option Entry) → IsKind k o → is_some k ≡ true → is_some o ≡ true
kind_there None o is e = absurd (true≢false (sym e))
kind_there (Some (kind.File size)) o is e = ap is_some is.1
kind_there (Some kind.Folder) o is e = ap is_some is

pub there_kind : (k : Option EntryKind) (o : Option Entry) → IsKind k o → is_some o ≡ true → is_some k ≡ true
there_kind None o is e = absurd (true≢false (sym e ∙ ap is_some is))
there_kind (Some k) o is e = refl

pub kind_plain : (k : Option EntryKind) (o : Option Entry) → IsKind k o → is_some k ≡ true → is_plain o ≡ true
kind_plain None o is e = absurd (true≢false (sym e))
kind_plain (Some (kind.File size)) o is e = ap is_plain is.1
kind_plain (Some kind.Folder) o is e = ap is_plain is

pub some_eq : {X : Type 0} (k : Option X) → is_some k ≡ true → (x : X) × (k ≡ Some x)
some_eq None e = absurd (true≢false (sym e))
some_eq (Some x) e = (x, refl)

pub deep_in : (xs ys : List (List ℕ)) → length ys == 0 ≡ false → length (xs ++ ys) == 0 ≡ false
deep_in xs ys deep =
    let e = ended ys deep in
    ap (λ l. length l == 0) (ap (λ l. xs ++ l) e.is ∙ sym (append_assoc xs e.front (e.last ∷ []))) ∙ some_left (xs ++ e.front) e.last

pub items_both : (c : Contents) (w : Between) (xs ys : List Pair) → items_of c w (xs ++ ys) ≡ items_of c w xs ++ items_of c w ys
items_both c w [] ys = refl
items_both c w (x ∷ xs) ys = ap (λ l. item_of c w x ∷ l) (items_both c w xs ys)

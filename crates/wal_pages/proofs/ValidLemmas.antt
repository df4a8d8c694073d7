-- Unbroken pages are valid ones.
use Rattle.std.proofs.Common.{◌≡◌, ℕ, ◌<◌, ◌≤◌, ◌==◌, Bool, true, false, cond, not, ◌&&◌, ◌||◌, nat_lt, nat_le, List, [], ◌∷◌, Option, Some, None, refl, ap, ◌∙◌, arith}
use Rattle.std.proofs.lemmas.Bool.Decides.{nat_tests}
use Rattle.std.specs.Prelude.{find}
use Rattle.wal_pages.specs.declared.log_path.LogPath.{LogPath}
use Rattle.wal_pages.specs.declared.field.PageField.{PageField}
use Rattle.wal_pages.specs.declared.field.PageField.TheVariants.{Magic, Info, Timeline, Address, System, SegmentSize, BlockSize}
use Rattle.wal_pages.specs.ValidPage.{set_where, is_wanted, keeps, fields, first_bad_field, IsValidPage}

-- each rule is kept
pub record KeepsAll (log : LogPath) (at : ℕ) (page : List ℕ) : Type 0 where
  pub magic : keeps log at page Magic ≡ true
  pub info : keeps log at page Info ≡ true
  pub timeline : keeps log at page Timeline ≡ true
  pub address : keeps log at page Address ≡ true
  pub system : keeps log at page System ≡ true
  pub size : keeps log at page SegmentSize ≡ true
  pub block : keeps log at page BlockSize ≡ true

none_by : {X : Type 0} (b : Bool) (x : X) (rest : Option X) → cond (not b) (Some x) rest ≡ None → (b ≡ true) × (rest ≡ None)
none_by true x rest h = (refl, h)
none_by false x rest h = absurd cc

none_here : {X : Type 0} (p : X → Bool) (x : X) (xs : List X) → find (λ y. not (p y)) (x ∷ xs) ≡ None → (p x ≡ true) × (find (λ y. not (p y)) xs ≡ None)
none_here p x xs h = none_by (p x) x (find (λ y. not (p y)) xs) h

still_none : {X : Type 0} (p : X → Bool) (x : X) (xs : List X) → p x ≡ true → find (λ y. not (p y)) xs ≡ None → find (λ y. not (p y)) (x ∷ xs) ≡ None
still_none p x xs k h = ap (λ b. cond (not b) (Some x) (find (λ y. not (p y)) xs)) k ∙ h

keeps_all : (log : LogPath) (at : ℕ) (page : List ℕ) → find (λ field. not (keeps log at page field)) fields ≡ None → KeepsAll log at page
keeps_all log at page h =
    let p : PageField → Bool = keeps log at page in
    let magic = none_here p Magic (Info ∷ Timeline ∷ Address ∷ System ∷ SegmentSize ∷ BlockSize ∷ []) h in
    let info = none_here p Info (Timeline ∷ Address ∷ System ∷ SegmentSize ∷ BlockSize ∷ []) magic.1 in
    let timeline = none_here p Timeline (Address ∷ System ∷ SegmentSize ∷ BlockSize ∷ []) info.1 in
    let address = none_here p Address (System ∷ SegmentSize ∷ BlockSize ∷ []) timeline.1 in
    let system = none_here p System (SegmentSize ∷ BlockSize ∷ []) address.1 in
    let size = none_here p SegmentSize (BlockSize ∷ []) system.1 in
    let block = none_here p BlockSize [] size.1 in
    record { magic = magic.0; info = info.0; timeline = timeline.0; address = address.0; system = system.0; size = size.0; block = block.0 }

none_broken : (log : LogPath) (at : ℕ) (page : List ℕ) → KeepsAll log at page → find (λ field. not (keeps log at page field)) fields ≡ None
none_broken log at page k =
    let p : PageField → Bool = keeps log at page in
    still_none p Magic (Info ∷ Timeline ∷ Address ∷ System ∷ SegmentSize ∷ BlockSize ∷ []) k.magic (still_none p Info (Timeline ∷ Address ∷ System ∷ SegmentSize ∷ BlockSize ∷ []) k.info (still_none p Timeline (Address ∷ System ∷ SegmentSize ∷ BlockSize ∷ []) k.timeline (still_none p Address (System ∷ SegmentSize ∷ BlockSize ∷ []) k.address (still_none p System (SegmentSize ∷ BlockSize ∷ []) k.system (still_none p SegmentSize (BlockSize ∷ []) k.size (still_none p BlockSize [] k.block refl))))))

and_parts : (a b : Bool) → (a && b) ≡ true → (a ≡ true) × (b ≡ true)
and_parts true b h = (refl, h)
and_parts false b h = absurd cc

set_there : (holds bit : Bool) → set_where holds bit ≡ true → bit ≡ holds
set_there true bit h = h
set_there false true h = absurd cc
set_there false false h = refl

there_set : (holds bit : Bool) → bit ≡ holds → set_where holds bit ≡ true
there_set true bit h = h
there_set false true h = absurd cc
there_set false false h = refl

and_both : (a b : Bool) → a ≡ true → b ≡ true → (a && b) ≡ true
and_both true b h k = k
and_both false b h k = absurd cc

where_first : (first b : Bool) → (not first || b) ≡ true → first ≡ true → b ≡ true
where_first true b h k = h
where_first false b h k = absurd cc

first_where : (first b : Bool) → (first ≡ true → b ≡ true) → (not first || b) ≡ true
first_where true b h = h refl
first_where false b h = refl

wanted_is : (system : Option ℕ) (found wanted : ℕ) → is_wanted system found ≡ true → system ≡ Some wanted → found ≡ wanted
wanted_is None found wanted h e = absurd cc
wanted_is (Some s) found wanted h e =
    let same : found ≡ s = grind (arith, nat_tests, h) in
    let is : s ≡ wanted = cc in
    same ∙ is

is_the_wanted : (system : Option ℕ) (found : ℕ) → ((wanted : ℕ) → system ≡ Some wanted → found ≡ wanted) → is_wanted system found ≡ true
is_the_wanted None found h = refl
is_the_wanted (Some s) found h = let same = h s refl in grind (arith, nat_tests, same)

same_number : (a b : ℕ) → (a == b) ≡ true → a ≡ b
same_number a b h = grind (arith, nat_tests, h)

number_same : (a b : ℕ) → a ≡ b → (a == b) ≡ true
number_same a b h = grind (arith, nat_tests, h)

below : (a b : ℕ) → nat_lt a b ≡ true → a < b
below a b h = grind (arith, nat_tests, h)

is_below : (a b : ℕ) → a < b → nat_lt a b ≡ true
is_below a b h = grind (arith, nat_tests, h)

within : (a b : ℕ) → nat_le a b ≡ true → a ≤ b
within a b h = grind (arith, nat_tests, h)

is_within : (a b : ℕ) → a ≤ b → nat_le a b ≡ true
is_within a b h = grind (arith, nat_tests, h)

valid : (log : LogPath) (at : ℕ) (page : List ℕ) → KeepsAll log at page → IsValidPage log at page
valid log at page k =
    let info = and_parts _ _ k.info in
    let timeline = and_parts _ _ k.timeline in
    record {
      magic = same_number _ _ k.magic;
      known_bits = below _ _ info.0;
      long = set_there _ _ info.1;
      timeline = (within _ _ timeline.0, within _ _ timeline.1);
      address = same_number _ _ k.address;
      system = λ first wanted e. wanted_is log.system _ wanted (where_first _ _ k.system first) e;
      segment_size = λ first. same_number _ _ (where_first _ _ k.size first);
      block_size = λ first. same_number _ _ (where_first _ _ k.block first);
    }

kept : (log : LogPath) (at : ℕ) (page : List ℕ) → IsValidPage log at page → KeepsAll log at page
kept log at page v = record {
  magic = number_same _ _ v.magic;
  info = and_both _ _ (is_below _ _ v.known_bits) (there_set _ _ v.long);
  timeline = and_both _ _ (is_within _ _ v.timeline.0) (is_within _ _ v.timeline.1);
  address = number_same _ _ v.address;
  system = first_where _ _ (λ first. is_the_wanted log.system _ (v.system first));
  size = first_where _ _ (λ first. number_same _ _ (v.segment_size first));
  block = first_where _ _ (λ first. number_same _ _ (v.block_size first));
}

pub unbroken_valid : (log : LogPath) (at : ℕ) (page : List ℕ) → first_bad_field log at page ≡ None → IsValidPage log at page
unfolding first_bad_field
unbroken_valid log at page h = valid log at page (keeps_all log at page h)

pub valid_unbroken : (log : LogPath) (at : ℕ) (page : List ℕ) → IsValidPage log at page → first_bad_field log at page ≡ None
unfolding first_bad_field
valid_unbroken log at page v = none_broken log at page (kept log at page v)

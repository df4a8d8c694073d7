-- What redo of a record makes of a page, and why it can't. Own: "Redo on pages".
use Rattle.std.specs.Prelude.{ℕ, ◌≡◌, List, Option, Some, None, Result, Ok, Err}
use Rattle.page_layout.specs.declared.refusal.PageRefusal.{PageRefusal}
use Rattle.page_layout.specs.declared.refusal.PageRefusal.TheVariants.{BadPlace, NoRoom, BadPage}
use Rattle.page_layout.specs.declared.refusal.RedoWhy.{RedoWhy}
use Rattle.page_layout.specs.declared.refusal.RedoWhy.TheVariants.{Layout, Place, Room, PageShape}
use Rattle.page_masks.specs.Law.{Redone}

-- the refusal of a page's call, as redo tells it
abbrev pub why_of : PageRefusal → RedoWhy
why_of BadPlace = Place
why_of NoRoom = Room
why_of BadPage = PageShape

-- a page's call as a step of redo
abbrev pub on_page : Result (List ℕ) PageRefusal → Redone
on_page (Ok p) = Ok p
on_page (Err refusal) = Err (why_of refusal)

-- redo by what the record's bytes hold, if they hold it
abbrev pub laid_out : {A : Type 0} → Option A → (A → Redone) → Redone
laid_out (Some value) redo = redo value
laid_out None redo = Err Layout

-- the answer and the page left are those meant; a refused call leaves the page as it was
abbrev pub Redoes : Redone → List ℕ → Result (Unit {0}) RedoWhy → List ℕ → Type 0
Redoes meant old (Ok done) new = meant ≡ Ok new
Redoes meant old (Err why) new = (meant ≡ Err why) × (new ≡ old)

-- the same, but a refused call may leave any page
abbrev pub Makes : Redone → Result (Unit {0}) RedoWhy → List ℕ → Type 0
Makes meant (Ok done) new = meant ≡ Ok new
Makes meant (Err why) new = meant ≡ Err why

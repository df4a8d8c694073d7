-- Two clusters of which a replay sees the same: PostgreSQL 16, the manual's section "Database File Layout". Own: "What a replay looks at".
use Rattle.std.specs.Prelude.{◌≡◌, Bool, true, false, ◌||◌, codes, Result, Ok, Err}
use Rattle.cluster_tree.specs.Contents.{Contents, entry_at}
use Rattle.cluster_tree.specs.PathOrder.{path_eq}
use Rattle.cluster_tree.specs.PathValue.{PathValue}
use Rattle.file_effects.specs.Own.{is_at}
use Rattle.replay_world.specs.World.{World}

-- the root, and what stands at or below the folders that replay changes
abbrev pub is_looked_at : PathValue → PathValue → Bool
is_looked_at root path =
    path_eq path root || (is_at root (codes "base") path || is_at root (codes "global") path || is_at root (codes "pg_xact") path || is_at root (codes "pg_multixact") path)

-- all that is seen, and maybe more
abbrev pub Sees : PathValue → (PathValue → Bool) → Type 0
Sees root seen = (path : PathValue) → is_looked_at root path ≡ true → seen path ≡ true

-- the same stands at each path that is seen
abbrev pub SameSeen : (PathValue → Bool) → (old new : Contents) → Type 0
SameSeen seen old new = (path : PathValue) → seen path ≡ true → entry_at new path ≡ entry_at old path

-- of the one these are left, of the other those: the same at each path that is seen, and at every other what it had
pub record SameLeft (seen : PathValue → Bool) (one other left right : Contents) : Type 0 where
  pub same : SameSeen seen left right
  pub first : (path : PathValue) → seen path ≡ false → entry_at left path ≡ entry_at one path
  pub second : (path : PathValue) → seen path ≡ false → entry_at right path ≡ entry_at other path

-- files that are the same so, control files that are to be written the same, and the same changes skipped
pub record SameWorlds (Same : Contents → Contents → Type 0) (w v : World) : Type 0 where
  pub files : Same w.files v.files
  pub control : v.control ≡ w.control
  pub skipped : v.skipped ≡ w.skipped

-- what is left of both is the same so, or both are refused alike
abbrev pub EndSame : {A E : Type 0} → (A → A → Type 0) → Result A E → Result A E → Type 0
EndSame Same (Ok a) (Ok b) = Same a b
EndSame Same (Ok a) (Err f) = ⊥
EndSame Same (Err e) (Ok b) = ⊥
EndSame Same (Err e) (Err f) = f ≡ e

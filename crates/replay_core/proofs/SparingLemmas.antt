-- A replay spares each block of a main fork that no record touches.
use Rattle.std.proofs.Common.{Option, ◌≡◌, ◌∙◌, ℕ, ◌+◌, ◌-◌, ◌*◌, ◌/◌, ◌%◌, ◌<◌, ◌^◌, nat_lt, nat_le, Bool, true, false, not, ◌||◌, List, ◌∷◌, length, take, drop, map, None, Some, Ok, refl, sym, ap, true≢false, arith}
use Rattle.std.specs.Prelude.{if◌then◌else◌}
use Rattle.std.proofs.lemmas.Bool.Decides.{nat_tests}
use Rattle.block_refs.specs.Outcomes.{record_parts}
use Rattle.block_refs.specs.Parts.{PartsView}
use Rattle.block_refs.specs.declared.names.BlockName.{BlockName}
use Rattle.cluster_tree.specs.Change.{Change, call_of}
use Rattle.cluster_tree.specs.Contents.{Contents, Entry, FolderEntry, FileEntry, LinkEntry, entry_at, is_file}
use Rattle.cluster_tree.specs.Frame.{Came, moment_of}
use Rattle.cluster_tree.specs.Laws.{changed_path}
use Rattle.cluster_tree.specs.PathOrder.{path_eq}
use Rattle.cluster_tree.specs.PathValue.{PathValue}
use Rattle.cluster_tree.specs.Tree.{bytes_in, bytes_at}
use Rattle.cluster_tree.specs.Run.{Moment}
use Rattle.cluster_tree.specs.declared.tree.ChangeCall.{ChangeCall}
use Rattle.cluster_tree.specs.declared.tree.ChangeCall.TheVariants.{Write, Cut, MakeFile, MakeFolder, Remove, Sync}
use Rattle.cluster_tree.specs.declared.tree.Tree.{Ghosts}
use Rattle.cluster_tree.proofs.Images.{holds_first, leaves_only}
use Rattle.cluster_tree.proofs.OrderLemmas.{path_eq-own, path_eq-same}
use Rattle.cluster_tree.proofs.RunLemmas.{course_of}
use Rattle.control_file.specs.declared.control.Control.{Control}
use Rattle.file_edits.specs.Own.{Same}
use Rattle.file_edits.specs.Sparing.{Piece, Shows, Spares, spares}
use Rattle.file_edits.proofs.SparingLemmas.{spared-run, spared-stop}
use Rattle.file_effects.specs.Own.{is_replayed}
use Rattle.file_effects.specs.Touched.{IsOfMain}
use Rattle.file_effects.proofs.OwnLemmas.{relation-replayed}
use Rattle.marked_runs.specs.Runs.{Runs}
use Rattle.replay_profile.specs.Profile.{judged, parts_or_none}
use Rattle.replay_world.specs.Touched.{touched_by, touches}
use Rattle.rmgr_hooks.specs.Custom.{Extension}
use Rattle.storage_laws.proofs.NumberLemmas.{file-least}
use Rattle.storage_replay.specs.Sparing.{piece_of}
use Rattle.storage_replay.proofs.OwnLemmas.{file-own}
use Rattle.wal_records.specs.Reading.{LogRecord}
use Rattle.replay_core.specs.Replayed.{beginning, closing, closing_files, control_path, label_path, mark_of}
use Rattle.replay_core.specs.Sparing.{HasPage, StandsThere, StaysThrough}
use Rattle.replay_core.proofs.CallLemmas.{AllAt, runs_go}
use Rattle.replay_core.proofs.PathLemmas.{control-kept, label-kept, mark-kept}
use Rattle.replay_core.proofs.RunLemmas.{parts_taken}

-- ---- calls at paths that aren't replayed spare what is

module _ (root : PathValue) (piece : Piece) (replayed : is_replayed root piece.path ≡ true) where
  abbrev Off : PathValue → Type 0
  Off p = is_replayed root p ≡ false

  -- of the path of a call, if it has one
  abbrev OffAt : Option PathValue → Type 0
  OffAt o = (p : PathValue) → o ≡ Some p → Off p

  other : (path : PathValue) → Off path → path_eq piece.path path ≡ false
  other path off = by (path_eq piece.path path) refl
    where
      by : (b : Bool) → path_eq piece.path path ≡ b → b ≡ false
      by true e = absurd (true≢false (sym replayed ∙ ap (is_replayed root) (path_eq-same piece.path path e) ∙ off))
      by false e = refl

  off_spares : (call : ChangeCall) → OffAt (changed_path call) → spares piece call ≡ true
  off_spares (Write path at n) off = ap (λ b. not b || nat_le (at + n) piece.from || nat_le piece.to at) (other path (off path refl))
  off_spares (Cut path size) off = ap (λ b. not b || nat_le piece.to size) (other path (off path refl))
  off_spares (MakeFile path) off = refl
  off_spares (MakeFolder path) off = refl
  off_spares (Remove path) off = ap not (other path (off path refl))
  off_spares Sync off = refl

  runs_spare : {F : Type 0} (t : Ghosts F) (changes : List Change) (a b : F) (done : Bool) → AllAt OffAt (map call_of changes) → Came t a b → Runs changes (t.calls a) (t.calls b) (t.contents a) (t.contents b) done → Spares t piece a b
  runs_spare t changes a b done all came ran = spared-run t piece a b came (runs_go OffAt (spares piece) off_spares changes (t.calls a) (t.calls b) (t.contents a) (t.contents b) done all ran)

  at_off : (path : PathValue) → Off path → OffAt (Some path)
  at_off path off p is = let same : path ≡ p = cc is in ap (is_replayed root) (sym same) ∙ off

  at_none : OffAt None
  at_none p is = cc is

  mark_off : OffAt (Some (mark_of root))
  mark_off = at_off (mark_of root) (mark-kept root)

  pub beginning-spares : {F : Type 0} (t : Ghosts F) (a b : F) (done : Bool) → Came t a b → Runs (beginning root) (t.calls a) (t.calls b) (t.contents a) (t.contents b) done → Spares t piece a b
  beginning-spares t a b done came ran = runs_spare t (beginning root) a b done (mark_off, (mark_off, (at_none, tt))) came ran

  control_off : OffAt (Some (control_path root))
  control_off = at_off (control_path root) (control-kept root)

  label_off : OffAt (Some (label_path root))
  label_off = at_off (label_path root) (label-kept root)

  pub files-spare : {F : Type 0} (t : Ghosts F) (control : Control) (a b : F) (done : Bool) → Came t a b → Runs (closing_files root control) (t.calls a) (t.calls b) (t.contents a) (t.contents b) done → Spares t piece a b
  files-spare t control a b done came ran = runs_spare t (closing_files root control) a b done (control_off, (label_off, tt)) came ran

  pub closing-spares : {F : Type 0} (t : Ghosts F) (control : Control) (a b : F) (done : Bool) → Came t a b → Runs (closing root control) (t.calls a) (t.calls b) (t.contents a) (t.contents b) done → Spares t piece a b
  closing-spares t control a b done came ran = runs_spare t (closing root control) a b done (control_off, (label_off, (at_none, (mark_off, (at_none, tt))))) came ran

-- the file of a block is one that records change
pub block-replayed : (root : PathValue) (per : ℕ) (name : BlockName) → 0 < per → IsOfMain name → is_replayed root (piece_of root per name).path ≡ true
block-replayed root per name some is =
    let few : name.block / per < 2 ^ 32 = omega (arith, file-least per name.block some, is.block.block) in
    relation-replayed root name.rel (piece_of root per name).path
    (file-own root name.rel name.fork (name.block / per) is.block.rel.relation few (piece_of root per name).path (path_eq-own (piece_of root per name).path))

-- ---- records

neither : (a b : Bool) → (a || b) ≡ false → (a ≡ false) × (b ≡ false)
neither true b e = absurd (true≢false e)
neither false b e = (refl, e)

module _ (custom : Option Extension) (rec : LogRecord) (old rest : List LogRecord) (name : BlockName) (is : old ≡ rec ∷ rest) (free : touched_by custom old name ≡ false) where
  parted : (touches custom rec (parts_or_none (record_parts rec)) name ≡ false) × (touched_by custom rest name ≡ false)
  parted = neither (touches custom rec (parts_or_none (record_parts rec)) name) (touched_by custom rest name) (ap (λ rs. touched_by custom rs name) (sym is) ∙ free)

  pub untouched-record : (parts : PartsView) → judged custom rec ≡ Ok parts → touches custom rec parts name ≡ false
  untouched-record parts taken = ap (λ p. touches custom rec p name) (sym (parts_taken custom rec parts taken)) ∙ parted.0

  pub untouched-rest : touched_by custom rest name ≡ false
  untouched-rest = parted.1

-- ---- a block, and the piece of its file

nothing_file : (o : Option Entry) → 0 < length (bytes_in o) → is_file o ≡ true
nothing_file None l = absurd (omega (arith, l))
nothing_file (Some (FolderEntry bad)) l = absurd (omega (arith, l))
nothing_file (Some (FileEntry bytes)) l = refl
nothing_file (Some LinkEntry) l = absurd (omega (arith, l))

module _ (root : PathValue) (per : ℕ) (name : BlockName) (page : List ℕ) (c : Contents) where
  abbrev p : ℕ
  p = name.block % per

  abbrev bytes : List ℕ
  bytes = bytes_at c (piece_of root per name).path

  one_page : (name.block % per + 1) * 8192 - name.block % per * 8192 ≡ 8192
  one_page = omega arith

  block-shows : HasPage root per name page c → Shows (piece_of root per name) page c
  block-shows has = by (nat_lt p (length bytes / 8192)) refl has
    where
      by : (b : Bool) → nat_lt p (length bytes / 8192) ≡ b → (if b then Some (take 8192 (drop (p * 8192) bytes)) else None) ≡ Some page → Shows (piece_of root per name) page c
      by true l is =
          let less : p < length bytes / 8192 = grind (arith, nat_tests, l) in
          let same : take 8192 (drop (p * 8192) bytes) ≡ page = cc is in
          record {
            file = nothing_file (entry_at c (piece_of root per name).path) (omega (arith, less));
            whole = omega (arith, less);
            shown = ap (λ n. take n (drop (p * 8192) bytes)) one_page ∙ same;
          }
      by false l is = absurd (cc is)

  shows-block : Shows (piece_of root per name) page c → HasPage root per name page c
  shows-block shows =
      let less : p < length bytes / 8192 = omega (arith, shows.whole) in
      let test : nat_lt p (length bytes / 8192) ≡ true = grind (arith, nat_tests, less) in
      ap (λ b. if b then Some (take 8192 (drop (p * 8192) bytes)) else None) test
      ∙ ap (λ n. Some (take n (drop (p * 8192) bytes))) (sym one_page) ∙ ap (λ x. Some x) shows.shown

-- what is spared stays through
pub spared-stays : {F : Type 0} (t : Ghosts F) (root : PathValue) (per : ℕ) (name : BlockName) (page : List ℕ) (a b : F) → Came t a b → Spares t (piece_of root per name) a b → StandsThere root per name page (moment_of t a) → StaysThrough root per name page (moment_of t a) (moment_of t b)
spared-stays t root per name page a b came spared stands =
    let first = block-shows root per name page (t.contents a) stands.now in
    let last = spared page (t.calls a) (record { calls = Same; shows = first }) in
    let stop = spared-stop (piece_of root per name) page (moment_of t a) (moment_of t b) (course_of t a b came) last.calls first (λ c left. block-shows root per name page c (stands.left c left)) in
    record {
      now = shows-block root per name page (t.contents b) last.shows;
      at_any_stop = record { each = λ c left. shows-block root per name page c (stop.each c left) };
    }

-- and where no call came
pub still-there : (root : PathValue) (per : ℕ) (name : BlockName) (page : List ℕ) (a : Moment) → StandsThere root per name page a → StaysThrough root per name page a a
still-there root per name page a stands =
    let P = HasPage root per name page in
    record { now = stands.now; at_any_stop = leaves_only P P a a (holds_first P P a stands.now stands.left) (λ c has. has) }

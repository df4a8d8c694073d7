-- What the grammar comes to at the words that are usual, for every value.
use Rattle.std.specs.Prelude.{ℕ, Bool, true, false, ◌≡◌, ◌≢◌, ◌++◌, List, [], ◌∷◌, Option, None, Some, codes, slice_index}
use Rattle.wal_base.specs.declared.lsn.Lsn.{Lsn}
use Rattle.wal_base.specs.Lsn.{lsn_of}
use Rattle.tool_words.specs.Controldata.{controldata_of}
use Rattle.tool_words.specs.Rewind.{rewind_from, rewind_of}
use Rattle.tool_words.specs.Roots.{root_of}
use Rattle.tool_words.specs.Forms.{segment_word, with_value}
use Rattle.tool_words.specs.Waldump.{waldump_of}
use Rattle.tool_words.specs.Walreplay.{walreplay_from, walreplay_of}
use Rattle.tool_words.specs.declared.rewind.RewindTexts.{RewindTexts}
use Rattle.commands.specs.declared.waldump.Filters.{Filters}
use Rattle.tool_words.specs.declared.waldump.SegmentWord.{SegmentWord}
use Rattle.tool_words.specs.declared.waldump.WaldumpTexts.{WaldumpTexts}
use Rattle.tool_words.specs.declared.waldump.WaldumpTexts.TheVariants.{Managers, Dump}
use Rattle.tool_words.specs.declared.walreplay.WalreplayTexts.{WalreplayTexts}

-- a text that no option looks like: it does not begin with a hyphen (45)
abbrev pub IsPlainText : List ℕ → Type 0
IsPlainText text = slice_index text 0 ≢ 45

-- the root of pg_controldata stands alone, behind its option, or attached to it
pub record ReadsRoot (name dir : List ℕ) : Type 0 where
  pub as_word : controldata_of (name ∷ dir ∷ []) ≡ root_of dir
  pub by_letter : controldata_of (name ∷ codes "-D" ∷ dir ∷ []) ≡ root_of dir
  pub by_name : controldata_of (name ∷ codes "--pgdata" ∷ dir ∷ []) ≡ root_of dir
  pub attached : controldata_of (name ∷ (codes "--pgdata=" ++ dir) ∷ []) ≡ root_of dir
  pub twice : controldata_of (name ∷ codes "-D" ∷ dir ∷ dir ∷ []) ≡ None
  pub neither : controldata_of (name ∷ []) ≡ None
  pub help : controldata_of (name ∷ codes "--help" ∷ []) ≡ None

-- these two roots, neither of them empty, for a rewind from its start
abbrev pub both : List ℕ → List ℕ → Bool → Option RewindTexts
both target source dry_run = rewind_from (root_of target) (root_of source) dry_run false

-- and for one that is gone on with
abbrev pub resumed : List ℕ → List ℕ → Bool → Option RewindTexts
resumed target source dry_run = rewind_from (root_of target) (root_of source) dry_run true

-- the two roots of pg_rewind
pub record ReadsRoots (name target source : List ℕ) : Type 0 where
  pub target_first : rewind_of (name ∷ codes "-D" ∷ target ∷ codes "--source-pgdata" ∷ source ∷ []) ≡ both target source false
  pub source_first : rewind_of (name ∷ codes "--source-pgdata" ∷ source ∷ codes "-D" ∷ target ∷ []) ≡ both target source false
  pub by_name : rewind_of (name ∷ codes "--target-pgdata" ∷ target ∷ codes "--source-pgdata" ∷ source ∷ []) ≡ both target source false
  pub dry : rewind_of (name ∷ codes "-D" ∷ target ∷ codes "--source-pgdata" ∷ source ∷ codes "-n" ∷ []) ≡ both target source true
  pub no_source : rewind_of (name ∷ codes "-D" ∷ target ∷ []) ≡ None
  pub no_target : rewind_of (name ∷ codes "--source-pgdata" ∷ source ∷ []) ≡ None
  pub further : rewind_of (name ∷ codes "-D" ∷ target ∷ codes "--source-pgdata" ∷ source ∷ target ∷ []) ≡ None
  pub help : rewind_of (name ∷ codes "--help" ∷ []) ≡ None

-- a rewind is resumed where the flag for it stands behind its roots, as a dry run too; given twice it is refused
pub record ReadsResume (name target source : List ℕ) : Type 0 where
  pub resume : rewind_of (name ∷ codes "-D" ∷ target ∷ codes "--source-pgdata" ∷ source ∷ codes "--resume" ∷ []) ≡ resumed target source false
  pub dry : rewind_of (name ∷ codes "-D" ∷ target ∷ codes "--source-pgdata" ∷ source ∷ codes "--resume" ∷ codes "-n" ∷ []) ≡ resumed target source true
  pub twice : rewind_of (name ∷ codes "-D" ∷ target ∷ codes "--source-pgdata" ∷ source ∷ codes "--resume" ∷ codes "--resume" ∷ []) ≡ None

-- this root, which is not empty, for a replay, or for one that can be started again
abbrev pub replayed : List ℕ → Bool → Option WalreplayTexts
replayed dir restart = walreplay_from (root_of dir) restart

-- the root of pg_walreplay stands alone, or with the flag before or behind it; given twice the flag is refused, and so is a root after an `=`
pub record ReadsRestart (name dir : List ℕ) : Type 0 where
  pub plain : walreplay_of (name ∷ dir ∷ []) ≡ replayed dir false
  pub before : walreplay_of (name ∷ codes "--restart" ∷ dir ∷ []) ≡ replayed dir true
  pub behind : walreplay_of (name ∷ dir ∷ codes "--restart" ∷ []) ≡ replayed dir true
  pub twice : walreplay_of (name ∷ codes "--restart" ∷ codes "--restart" ∷ dir ∷ []) ≡ None
  pub attached : walreplay_of (name ∷ (codes "--restart=" ++ dir) ∷ []) ≡ None
  pub alone : walreplay_of (name ∷ codes "--restart" ∷ []) ≡ None
  pub further : walreplay_of (name ∷ codes "--restart" ∷ dir ∷ dir ∷ []) ≡ None
  pub help : walreplay_of (name ∷ codes "--help" ∷ []) ≡ None

-- ---- pg_waldump

-- every record is shown, in a line each
abbrev pub no_filters : Filters
no_filters = record {
  limit = 0;
  details = false;
  quiet = false;
  images_only = false;
  manager = None;
  rel = None;
  block = None;
  fork = None;
  xid = None;
}

-- a dump that begins with a segment, or in a folder at a position
abbrev pub dump_at : Option (List ℕ) → Option SegmentWord → Option Lsn → Option WaldumpTexts
dump_at path first start = Some (Dump (record {
  path = path;
  first = first;
  last = None;
  start = start;
  stop = None;
  timeline = None;
  filters = no_filters;
}))

-- a dump needs a start, which is a segment's file or a position; the list of the managers needs none
pub record ReadsStart (name word dir at : List ℕ) : Type 0 where
  pub segment : waldump_of (name ∷ word ∷ []) ≡ with_value (segment_word word) (λ first. dump_at None (Some first) None)
  pub by_letter : waldump_of (name ∷ codes "-s" ∷ at ∷ []) ≡ with_value (lsn_of at) (λ start. dump_at None None (Some start))
  pub attached : waldump_of (name ∷ (codes "--path=" ++ dir) ∷ (codes "--start=" ++ at) ∷ []) ≡ with_value (root_of dir) (λ path. with_value (lsn_of at) (λ start. dump_at (Some path) None (Some start)))
  pub list : waldump_of (name ∷ codes "-r" ∷ codes "list" ∷ []) ≡ Some Managers
  pub neither : waldump_of (name ∷ []) ≡ None
  pub help : waldump_of (name ∷ codes "--help" ∷ []) ≡ None

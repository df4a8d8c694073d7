-- The grammar of pg_waldump at words that are usual.
use Rattle.std.proofs.Common.{◌≡◌, ◌==◌, ℕ, List, [], ◌∷◌, ◌++◌, Option, Some, None, codes, arith, false, refl, ◌∙◌}
use Rattle.std.specs.Prelude.{option_map}
use Rattle.clap.proofs.OnLiterals.{clap_on_literals}
use Rattle.command_words.specs.Table.{found_in}
use Rattle.wal_base.specs.declared.lsn.Lsn.{Lsn}
use Rattle.wal_base.specs.Lsn.{lsn_of}
use Rattle.tool_words.specs.Forms.{segment_word, with_value}
use Rattle.tool_words.specs.Laws.{IsPlainText, dump_at, no_filters}
use Rattle.tool_words.specs.Roots.{root_of}
use Rattle.tool_words.specs.Waldump.{asked_for, dump_in, filters_in, waldump_of, waldump_table}
use Rattle.tool_words.specs.declared.waldump.SegmentWord.{SegmentWord}
use Rattle.tool_words.specs.declared.waldump.DumpTexts.{DumpTexts}
use Rattle.tool_words.specs.declared.waldump.WaldumpTexts.TheVariants.{Managers}

pub no_start : (name : List ℕ) → waldump_of (name ∷ []) ≡ None
unfolding waldump_table found_in clap_on_literals filters_in dump_in
no_start name = refl

pub no_help_of_dump : (name : List ℕ) → waldump_of (name ∷ codes "--help" ∷ []) ≡ None
unfolding waldump_table found_in clap_on_literals filters_in dump_in
no_help_of_dump name = refl

pub list_is_read : (name : List ℕ) → waldump_of (name ∷ codes "-r" ∷ codes "list" ∷ []) ≡ Some Managers
unfolding waldump_table found_in clap_on_literals filters_in dump_in
list_is_read name = refl

-- a dump of these
abbrev begun : Option (List ℕ) → Option SegmentWord → Option Lsn → Option DumpTexts
begun path first start = Some (record {
  path = path;
  first = first;
  last = None;
  start = start;
  stop = None;
  timeline = None;
  filters = no_filters;
})

segment_given : (o : Option SegmentWord) → with_value (with_value (option_map Some o) (λ first. begun None first None)) (asked_for false) ≡ with_value o (λ first. dump_at None (Some first) None)
segment_given None = refl
segment_given (Some first) = refl

segment_found : (name word : List ℕ) → IsPlainText word
    → waldump_of (name ∷ word ∷ []) ≡ with_value (with_value (option_map Some (segment_word word)) (λ first. begun None first None)) (asked_for false)
unfolding waldump_table found_in clap_on_literals filters_in dump_in
segment_found name [] plain = refl
segment_found name (c ∷ cs) plain =
    let e : (c == 45) ≡ false = grind arith in
    rw (e, e) refl

pub segment_is_read : (name word : List ℕ) → IsPlainText word
    → waldump_of (name ∷ word ∷ []) ≡ with_value (segment_word word) (λ first. dump_at None (Some first) None)
segment_is_read name word plain = segment_found name word plain ∙ segment_given (segment_word word)

position_given : (o : Option Lsn) (p : Option (List ℕ))
    → with_value (with_value (option_map Some o) (λ start. with_value (option_map Some p) (λ path. begun path None start))) (asked_for false)
    ≡ with_value p (λ path. with_value o (λ start. dump_at (Some path) None (Some start)))
position_given None None = refl
position_given None (Some path) = refl
position_given (Some start) None = refl
position_given (Some start) (Some path) = refl

position_found : (name dir at : List ℕ)
    → waldump_of (name ∷ (codes "--path=" ++ dir) ∷ (codes "--start=" ++ at) ∷ [])
    ≡ with_value (with_value (option_map Some (lsn_of at)) (λ start. with_value (option_map Some (root_of dir)) (λ path. begun path None start))) (asked_for false)
unfolding waldump_table found_in clap_on_literals filters_in dump_in
position_found name dir at = refl

pub position_is_read : (name dir at : List ℕ)
    → waldump_of (name ∷ (codes "--path=" ++ dir) ∷ (codes "--start=" ++ at) ∷ []) ≡ with_value (root_of dir) (λ path. with_value (lsn_of at) (λ start. dump_at (Some path) None (Some start)))
position_is_read name dir at = position_found name dir at ∙ position_given (lsn_of at) (root_of dir)

start_given : (o : Option Lsn) → with_value (with_value (option_map Some o) (λ start. begun None None start)) (asked_for false) ≡ with_value o (λ start. dump_at None None (Some start))
start_given None = refl
start_given (Some start) = refl

start_found : (name at : List ℕ) → IsPlainText at
    → waldump_of (name ∷ codes "-s" ∷ at ∷ []) ≡ with_value (with_value (option_map Some (lsn_of at)) (λ start. begun None None start)) (asked_for false)
unfolding waldump_table found_in clap_on_literals filters_in dump_in
start_found name [] plain = refl
start_found name (c ∷ cs) plain =
    let e : (c == 45) ≡ false = grind arith in
    rw (e, e) refl

pub start_is_read : (name at : List ℕ) → IsPlainText at
    → waldump_of (name ∷ codes "-s" ∷ at ∷ []) ≡ with_value (lsn_of at) (λ start. dump_at None None (Some start))
start_is_read name at plain = start_found name at plain ∙ start_given (lsn_of at)

-- The grammar at words that are usual.
use Rattle.std.proofs.Common.{◌≡◌, ◌==◌, ℕ, List, [], ◌∷◌, ◌++◌, None, codes, arith, true, false, refl}
use Rattle.clap.proofs.OnLiterals.{clap_on_literals}
use Rattle.command_words.specs.Table.{found_in}
use Rattle.tool_words.specs.Controldata.{controldata_of, controldata_table}
use Rattle.tool_words.specs.Rewind.{rewind_of, rewind_table}
use Rattle.tool_words.specs.Laws.{IsPlainText, both, resumed}
use Rattle.tool_words.specs.Roots.{root_of}

pub help_is_refused : (name : List ℕ) → controldata_of (name ∷ codes "--help" ∷ []) ≡ None
unfolding controldata_table found_in clap_on_literals
help_is_refused name = refl

pub no_word_is_refused : (name : List ℕ) → controldata_of (name ∷ []) ≡ None
unfolding controldata_table found_in clap_on_literals
no_word_is_refused name = refl

pub word_is_read : (name dir : List ℕ) → IsPlainText dir → controldata_of (name ∷ dir ∷ []) ≡ root_of dir
unfolding controldata_table found_in clap_on_literals
word_is_read name [] plain = refl
word_is_read name (c ∷ cs) plain =
    let e : (c == 45) ≡ false = grind arith in
    rw (e, e) refl

pub letter_is_read : (name dir : List ℕ) → IsPlainText dir → controldata_of (name ∷ codes "-D" ∷ dir ∷ []) ≡ root_of dir
unfolding controldata_table found_in clap_on_literals
letter_is_read name [] plain = refl
letter_is_read name (c ∷ cs) plain =
    let e : (c == 45) ≡ false = grind arith in
    rw (e, e) refl

pub name_is_read : (name dir : List ℕ) → IsPlainText dir → controldata_of (name ∷ codes "--pgdata" ∷ dir ∷ []) ≡ root_of dir
unfolding controldata_table found_in clap_on_literals
name_is_read name [] plain = refl
name_is_read name (c ∷ cs) plain =
    let e : (c == 45) ≡ false = grind arith in
    rw (e, e) refl

pub attached_is_read : (name dir : List ℕ) → controldata_of (name ∷ (codes "--pgdata=" ++ dir) ∷ []) ≡ root_of dir
unfolding controldata_table found_in clap_on_literals
attached_is_read name dir = refl

pub two_are_refused : (name dir : List ℕ) → IsPlainText dir → controldata_of (name ∷ codes "-D" ∷ dir ∷ dir ∷ []) ≡ None
unfolding controldata_table found_in clap_on_literals
two_are_refused name [] plain = refl
two_are_refused name (c ∷ cs) plain =
    let e : (c == 45) ≡ false = grind arith in
    rw (e, e, e, e) refl

pub target_first : (name target source : List ℕ) → IsPlainText target → IsPlainText source → rewind_of (name ∷ codes "-D" ∷ target ∷ codes "--source-pgdata" ∷ source ∷ []) ≡ both target source false
unfolding rewind_table found_in clap_on_literals
target_first name [] [] p q = refl
target_first name [] (d ∷ ds) p q =
    let f : (d == 45) ≡ false = grind arith in
    rw (f, f) refl
target_first name (c ∷ cs) [] p q =
    let e : (c == 45) ≡ false = grind arith in
    rw (e, e) refl
target_first name (c ∷ cs) (d ∷ ds) p q =
    let e : (c == 45) ≡ false = grind arith in
    let f : (d == 45) ≡ false = grind arith in
    rw (e, e, f, f) refl

pub source_first : (name target source : List ℕ) → IsPlainText target → IsPlainText source → rewind_of (name ∷ codes "--source-pgdata" ∷ source ∷ codes "-D" ∷ target ∷ []) ≡ both target source false
unfolding rewind_table found_in clap_on_literals
source_first name [] [] p q = refl
source_first name [] (d ∷ ds) p q =
    let f : (d == 45) ≡ false = grind arith in
    rw (f, f) refl
source_first name (c ∷ cs) [] p q =
    let e : (c == 45) ≡ false = grind arith in
    rw (e, e) refl
source_first name (c ∷ cs) (d ∷ ds) p q =
    let e : (c == 45) ≡ false = grind arith in
    let f : (d == 45) ≡ false = grind arith in
    rw (f, f, e, e) refl

pub long_names : (name target source : List ℕ) → IsPlainText target → IsPlainText source → rewind_of (name ∷ codes "--target-pgdata" ∷ target ∷ codes "--source-pgdata" ∷ source ∷ []) ≡ both target source false
unfolding rewind_table found_in clap_on_literals
long_names name [] [] p q = refl
long_names name [] (d ∷ ds) p q =
    let f : (d == 45) ≡ false = grind arith in
    rw (f, f) refl
long_names name (c ∷ cs) [] p q =
    let e : (c == 45) ≡ false = grind arith in
    rw (e, e) refl
long_names name (c ∷ cs) (d ∷ ds) p q =
    let e : (c == 45) ≡ false = grind arith in
    let f : (d == 45) ≡ false = grind arith in
    rw (e, e, f, f) refl

pub dry_run : (name target source : List ℕ) → IsPlainText target → IsPlainText source → rewind_of (name ∷ codes "-D" ∷ target ∷ codes "--source-pgdata" ∷ source ∷ codes "-n" ∷ []) ≡ both target source true
unfolding rewind_table found_in clap_on_literals
dry_run name [] [] p q = refl
dry_run name [] (d ∷ ds) p q =
    let f : (d == 45) ≡ false = grind arith in
    rw (f, f) refl
dry_run name (c ∷ cs) [] p q =
    let e : (c == 45) ≡ false = grind arith in
    rw (e, e) refl
dry_run name (c ∷ cs) (d ∷ ds) p q =
    let e : (c == 45) ≡ false = grind arith in
    let f : (d == 45) ≡ false = grind arith in
    rw (e, e, f, f) refl

pub resume : (name target source : List ℕ) → IsPlainText target → IsPlainText source → rewind_of (name ∷ codes "-D" ∷ target ∷ codes "--source-pgdata" ∷ source ∷ codes "--resume" ∷ []) ≡ resumed target source false
unfolding rewind_table found_in clap_on_literals
resume name [] [] p q = refl
resume name [] (d ∷ ds) p q =
    let f : (d == 45) ≡ false = grind arith in
    rw (f, f) refl
resume name (c ∷ cs) [] p q =
    let e : (c == 45) ≡ false = grind arith in
    rw (e, e) refl
resume name (c ∷ cs) (d ∷ ds) p q =
    let e : (c == 45) ≡ false = grind arith in
    let f : (d == 45) ≡ false = grind arith in
    rw (e, e, f, f) refl

pub dry_resume : (name target source : List ℕ) → IsPlainText target → IsPlainText source → rewind_of (name ∷ codes "-D" ∷ target ∷ codes "--source-pgdata" ∷ source ∷ codes "--resume" ∷ codes "-n" ∷ []) ≡ resumed target source true
unfolding rewind_table found_in clap_on_literals
dry_resume name [] [] p q = refl
dry_resume name [] (d ∷ ds) p q =
    let f : (d == 45) ≡ false = grind arith in
    rw (f, f) refl
dry_resume name (c ∷ cs) [] p q =
    let e : (c == 45) ≡ false = grind arith in
    rw (e, e) refl
dry_resume name (c ∷ cs) (d ∷ ds) p q =
    let e : (c == 45) ≡ false = grind arith in
    let f : (d == 45) ≡ false = grind arith in
    rw (e, e, f, f) refl

pub resume_twice : (name target source : List ℕ) → IsPlainText target → IsPlainText source → rewind_of (name ∷ codes "-D" ∷ target ∷ codes "--source-pgdata" ∷ source ∷ codes "--resume" ∷ codes "--resume" ∷ []) ≡ None
unfolding rewind_table found_in clap_on_literals
resume_twice name [] [] p q = refl
resume_twice name [] (d ∷ ds) p q =
    let f : (d == 45) ≡ false = grind arith in
    rw (f, f) refl
resume_twice name (c ∷ cs) [] p q =
    let e : (c == 45) ≡ false = grind arith in
    rw (e, e) refl
resume_twice name (c ∷ cs) (d ∷ ds) p q =
    let e : (c == 45) ≡ false = grind arith in
    let f : (d == 45) ≡ false = grind arith in
    rw (e, e, f, f) refl

pub no_source : (name dir : List ℕ) → IsPlainText dir → rewind_of (name ∷ codes "-D" ∷ dir ∷ []) ≡ None
unfolding rewind_table found_in clap_on_literals
no_source name [] plain = refl
no_source name (c ∷ cs) plain =
    let e : (c == 45) ≡ false = grind arith in
    rw (e, e) refl

pub no_target : (name dir : List ℕ) → IsPlainText dir → rewind_of (name ∷ codes "--source-pgdata" ∷ dir ∷ []) ≡ None
unfolding rewind_table found_in clap_on_literals
no_target name [] plain = refl
no_target name (c ∷ cs) plain =
    let e : (c == 45) ≡ false = grind arith in
    rw (e, e) refl

pub further_word : (name target source : List ℕ) → IsPlainText target → IsPlainText source → rewind_of (name ∷ codes "-D" ∷ target ∷ codes "--source-pgdata" ∷ source ∷ target ∷ []) ≡ None
unfolding rewind_table found_in clap_on_literals
further_word name [] [] p q = refl
further_word name [] (d ∷ ds) p q =
    let f : (d == 45) ≡ false = grind arith in
    rw (f, f) refl
further_word name (c ∷ cs) [] p q =
    let e : (c == 45) ≡ false = grind arith in
    rw (e, e, e, e) refl
further_word name (c ∷ cs) (d ∷ ds) p q =
    let e : (c == 45) ≡ false = grind arith in
    let f : (d == 45) ≡ false = grind arith in
    rw (e, e, f, f, e, e) refl

pub no_help : (name : List ℕ) → rewind_of (name ∷ codes "--help" ∷ []) ≡ None
unfolding rewind_table found_in clap_on_literals
no_help name = refl

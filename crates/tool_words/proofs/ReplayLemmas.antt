-- The grammar of pg_walreplay at words that are usual.
use Rattle.std.proofs.Common.{◌≡◌, ◌==◌, ℕ, List, [], ◌∷◌, ◌++◌, None, codes, arith, true, false, refl}
use Rattle.clap.proofs.OnLiterals.{clap_on_literals}
use Rattle.command_words.specs.Table.{found_in}
use Rattle.tool_words.specs.Laws.{IsPlainText, replayed}
use Rattle.tool_words.specs.Walreplay.{walreplay_of, walreplay_table}

pub plain_root : (name dir : List ℕ) → IsPlainText dir → walreplay_of (name ∷ dir ∷ []) ≡ replayed dir false
unfolding walreplay_table found_in clap_on_literals
plain_root name [] plain = refl
plain_root name (c ∷ cs) plain =
    let e : (c == 45) ≡ false = grind arith in
    rw (e, e) refl

pub flag_before : (name dir : List ℕ) → IsPlainText dir → walreplay_of (name ∷ codes "--restart" ∷ dir ∷ []) ≡ replayed dir true
unfolding walreplay_table found_in clap_on_literals
flag_before name [] plain = refl
flag_before name (c ∷ cs) plain =
    let e : (c == 45) ≡ false = grind arith in
    rw (e, e) refl

pub flag_behind : (name dir : List ℕ) → IsPlainText dir → walreplay_of (name ∷ dir ∷ codes "--restart" ∷ []) ≡ replayed dir true
unfolding walreplay_table found_in clap_on_literals
flag_behind name [] plain = refl
flag_behind name (c ∷ cs) plain =
    let e : (c == 45) ≡ false = grind arith in
    rw (e, e) refl

pub flag_twice : (name dir : List ℕ) → walreplay_of (name ∷ codes "--restart" ∷ codes "--restart" ∷ dir ∷ []) ≡ None
unfolding walreplay_table found_in clap_on_literals
flag_twice name dir = refl

pub flag_with_value : (name dir : List ℕ) → walreplay_of (name ∷ (codes "--restart=" ++ dir) ∷ []) ≡ None
unfolding walreplay_table found_in clap_on_literals
flag_with_value name dir = refl

pub flag_alone : (name : List ℕ) → walreplay_of (name ∷ codes "--restart" ∷ []) ≡ None
unfolding walreplay_table found_in clap_on_literals
flag_alone name = refl

pub two_roots : (name dir : List ℕ) → IsPlainText dir → walreplay_of (name ∷ codes "--restart" ∷ dir ∷ dir ∷ []) ≡ None
unfolding walreplay_table found_in clap_on_literals
two_roots name [] plain = refl
two_roots name (c ∷ cs) plain =
    let e : (c == 45) ≡ false = grind arith in
    rw (e, e, e, e) refl

pub no_help_of_replay : (name : List ℕ) → walreplay_of (name ∷ codes "--help" ∷ []) ≡ None
unfolding walreplay_table found_in clap_on_literals
no_help_of_replay name = refl

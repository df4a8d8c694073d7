-- Changing calls that spare a piece of a file leave its bytes.
use Rattle.std.proofs.Common.{◌≡◌, ◌≢◌, ℕ, zero, suc, ◌+◌, ◌-◌, ◌≤◌, Bool, true, false, not, ◌||◌, nat_le, List, [], ◌∷◌, ◌++◌, length, take, drop, Option, None, Some, Result, Ok, Err, is_some, refl, ap, sym, subst, ◌∙◌, inl, inr, true≢false, arith, append_assoc, append-nil}
use Rattle.std.proofs.lemmas.Grind.{common_steps}
use Rattle.std.proofs.lemmas.Bool.{or_right}
use Rattle.std.proofs.lemmas.Bool.Decides.{nat_tests}
use Rattle.std.proofs.lemmas.List.{length-append}
use Rattle.cluster_tree.specs.PathValue.{PathValue}
use Rattle.cluster_tree.specs.PathOrder.{path_eq}
use Rattle.cluster_tree.specs.Contents.{Contents, Entry, FolderEntry, FileEntry, LinkEntry, entry_at, is_file}
use Rattle.cluster_tree.specs.Frame.{Reads, Came, state_of}
use Rattle.cluster_tree.specs.Run.{Moment, State, Run, Course, Still, Call, Makes}
use Rattle.cluster_tree.specs.Stops.{MayBeLeft, LeavesOnly}
use Rattle.cluster_tree.specs.Step.{Step}
use Rattle.cluster_tree.specs.Tree.{bytes_in, bytes_at, file_of, make_refusal, size_of}
use Rattle.cluster_tree.specs.declared.tree.Tree.{Ghosts}
use Rattle.cluster_tree.specs.declared.tree.ChangeCall.{ChangeCall}
use Rattle.cluster_tree.specs.declared.tree.ChangeCall.TheVariants as call
use Rattle.cluster_tree.specs.declared.tree.TreeFault.{TreeFault}
use Rattle.cluster_tree.proofs.ContentsLemmas.{entry-put}
use Rattle.cluster_tree.proofs.Images.{Each, KeptBy, holds_first, holds_run, leaves_only}
use Rattle.cluster_tree.proofs.OrderLemmas.{path_eq-own, path_eq-same}
use Rattle.cluster_tree.proofs.RunLemmas.{run_of}
use Rattle.cluster_tree.proofs.StepLemmas.{step-elsewhere}
use Rattle.file_edits.specs.Own.{is_own, GoesBy, GoesOn, Same, More, OnOwn}
use Rattle.file_edits.specs.Sparing.{Piece, spares, Shows, Spared, Spares}
use Rattle.file_edits.proofs.EditLemmas.{size_is}
use Rattle.file_edits.proofs.LawLemmas.{last_call, run_longer}
use Rattle.file_edits.proofs.OwnLemmas.{goes-by_on, goes-by_wider}

-- bytes

taken_less : (n m : ℕ) (xs : List ℕ) → n ≤ m → take n (take m xs) ≡ take n xs
taken_less n m xs l = grind (arith, common_steps)

from_taken : (from to : ℕ) (xs : List ℕ) → take (to - from) (drop from xs) ≡ drop from (take to xs)
from_taken zero to xs = ap (λ n. take n xs) (let e : to - 0 ≡ to = omega arith in e)
from_taken (suc from) zero xs = grind (arith, common_steps)
from_taken (suc from) (suc to) [] = grind (arith, common_steps)
from_taken (suc from) (suc to) (x ∷ xs) = ap (λ n. take n (drop from xs)) (let e : suc to - suc from ≡ to - from = omega arith in e) ∙ from_taken from to xs

-- the first bytes are the same, and the piece is one of them
front-same : (at from to : ℕ) (old new : List ℕ) → to ≤ at → take at new ≡ take at old → take (to - from) (drop from new) ≡ take (to - from) (drop from old)
front-same at from to old new l same =
    from_taken from to new
    ∙ ap (drop from) (sym (taken_less to at new l) ∙ ap (take to) same ∙ taken_less to at old l)
    ∙ sym (from_taken from to old)

dropped_more : (n k : ℕ) (xs : List ℕ) → drop (n + k) xs ≡ drop k (drop n xs)
dropped_more n k xs = grind (arith, common_steps)

-- the last bytes are the same, and the piece is one of them
back-same : (end from to : ℕ) (old new : List ℕ) → end ≤ from → drop end new ≡ drop end old → take (to - from) (drop from new) ≡ take (to - from) (drop from old)
back-same end from to old new l same =
    let k : ℕ = from - end in
    let sum : end + k ≡ from = omega arith in
    ap (take (to - from))
    (ap (λ n. drop n new) (sym sum) ∙ dropped_more end k new ∙ ap (drop k) same ∙ sym (dropped_more end k old) ∙ ap (λ n. drop n old) sum)

whole_take : (xs : List ℕ) → take (length xs) xs ≡ xs
whole_take xs = grind (arith, common_steps)

-- tests

le_is : (a b : ℕ) → nat_le a b ≡ true → a ≤ b
le_is a b e = grind (arith, nat_tests)

by_or : {P : Type 0} (a b : Bool) → (a || b) ≡ true → (a ≡ true → P) → (b ≡ true → P) → P
by_or true b e left right = left refl
by_or false b e left right = right e

not_is : (b : Bool) → not b ≡ true → b ≡ false
not_is true e = absurd (true≢false (sym e))
not_is false e = refl

apart : (q p : PathValue) → path_eq q p ≡ false → Some p ≢ Some q
apart q p e is = let same : p ≡ q = cc in true≢false (sym (path_eq-own q) ∙ ap (path_eq q) (sym same) ∙ e)

-- a call at another path, or one that left all
shows_as : (piece : Piece) (bytes : List ℕ) (c d : Contents) → entry_at d piece.path ≡ entry_at c piece.path → Shows piece bytes c → Shows piece bytes d
shows_as piece bytes c d same s = record {
  file = ap is_file same ∙ s.file;
  whole = subst (λ o. piece.to ≤ length (bytes_in o)) (sym same) s.whole;
  shown = ap (λ o. take (piece.to - piece.from) (drop piece.from (bytes_in o))) same ∙ s.shown;
}

shows_still : (piece : Piece) (bytes : List ℕ) (c d : Contents) → d ≡ c → Shows piece bytes c → Shows piece bytes d
shows_still piece bytes c d same s = subst (Shows piece bytes) (sym same) s

shows_put : (piece : Piece) (bytes new : List ℕ) (c d : Contents) → entry_at d piece.path ≡ Some (FileEntry new) → piece.to ≤ length new → take (piece.to - piece.from) (drop piece.from new) ≡ bytes → Shows piece bytes d
shows_put piece bytes new c d is l same = record {
  file = ap is_file is;
  whole = subst (λ o. piece.to ≤ length (bytes_in o)) (sym is) l;
  shown = ap (λ o. take (piece.to - piece.from) (drop piece.from (bytes_in o))) is ∙ same;
}

there_refused : (c : Contents) (path : PathValue) → is_file (entry_at c path) ≡ true → make_refusal c path ≡ None → ⊥
there_refused c path is none = by (entry_at c path) refl is
  where
    by : (o : Option Entry) → entry_at c path ≡ o → is_file o ≡ true → ⊥
    by None at e = absurd cc
    by (Some (FolderEntry bad)) at e = absurd cc
    by (Some (FileEntry bytes)) at e = let some : is_some (entry_at c path) ≡ true = ap is_some at in absurd cc
    by (Some LinkEntry) at e = absurd cc

pub shows_step : (piece : Piece) (bytes : List ℕ) (ch : ChangeCall) (c d : Contents) → spares piece ch ≡ true → Step ch c d → Shows piece bytes c → Shows piece bytes d
shows_step piece bytes (call.Write path at n) c d is (inl same) s = shows_still piece bytes c d same s
shows_step piece bytes (call.Write path at n) c d is (inr torn) s =
    by_or (not (path_eq piece.path path) || nat_le (at + n) piece.from) (nat_le piece.to at) is
    (λ left. by_or (not (path_eq piece.path path)) (nat_le (at + n) piece.from) left
    (λ other. shows_as piece bytes c d (step-elsewhere (call.Write path at n) c d piece.path (inr torn) (apart piece.path path (not_is (path_eq piece.path path) other))) s)
    (λ behind. here (λ same. back-same (at + n) piece.from piece.to (bytes_at c path) torn.torn (le_is (at + n) piece.from behind) torn.range.after)))
    (λ before. here (λ same. front-same at piece.from piece.to (bytes_at c path) torn.torn (le_is piece.to at before) torn.range.before))
  where
    here : (piece.path ≡ path → take (piece.to - piece.from) (drop piece.from torn.torn) ≡ take (piece.to - piece.from) (drop piece.from (bytes_at c path))) → Shows piece bytes d
    here kept = by_path (path_eq piece.path path) refl
      where
        by_path : (b : Bool) → path_eq piece.path path ≡ b → Shows piece bytes d
        by_path true e =
            let same : piece.path ≡ path = path_eq-same piece.path path e in
            shows_put piece bytes torn.torn c d (ap (λ x. entry_at x piece.path) torn.is ∙ ap (entry_at _) same ∙ entry-put c path (FileEntry torn.torn))
            (omega (arith, s.whole, ap (λ p. length (bytes_at c p)) same, torn.range.no_shorter))
            (kept same ∙ ap (λ p. take (piece.to - piece.from) (drop piece.from (bytes_at c p))) (sym same) ∙ s.shown)
        by_path false e = shows_as piece bytes c d (step-elsewhere (call.Write path at n) c d piece.path (inr torn) (apart piece.path path e)) s
shows_step piece bytes (call.Cut path size) c d is (inl same) s = shows_still piece bytes c d same s
shows_step piece bytes (call.Cut path size) c d is (inr cut) s = by_path (path_eq piece.path path) refl is
  where
    by_path : (b : Bool) → path_eq piece.path path ≡ b → (not b || nat_le piece.to size) ≡ true → Shows piece bytes d
    by_path true e l =
        let same : piece.path ≡ path = path_eq-same piece.path path e in
        let few : piece.to ≤ length cut.cut = omega (arith, le_is piece.to size l, cut.range.no_shorter) in
        let own : take (length cut.cut) cut.cut ≡ take (length cut.cut) (bytes_at c path) = whole_take cut.cut ∙ sym cut.range.front in
        shows_put piece bytes cut.cut c d (ap (λ x. entry_at x piece.path) cut.is ∙ ap (entry_at _) same ∙ entry-put c path (FileEntry cut.cut)) few
        (front-same (length cut.cut) piece.from piece.to (bytes_at c path) cut.cut few own ∙ ap (λ p. take (piece.to - piece.from) (drop piece.from (bytes_at c p))) (sym same) ∙ s.shown)
    by_path false e l = shows_as piece bytes c d (step-elsewhere (call.Cut path size) c d piece.path (inr cut) (apart piece.path path e)) s
shows_step piece bytes (call.MakeFile path) c d is (inl same) s = shows_still piece bytes c d same s
shows_step piece bytes (call.MakeFile path) c d is (inr made) s = by_path (path_eq piece.path path) refl
  where
    by_path : (b : Bool) → path_eq piece.path path ≡ b → Shows piece bytes d
    by_path true e = absurd (there_refused c path (ap (λ p. is_file (entry_at c p)) (sym (path_eq-same piece.path path e)) ∙ s.file) made.0)
    by_path false e = shows_as piece bytes c d (step-elsewhere (call.MakeFile path) c d piece.path (inr made) (apart piece.path path e)) s
shows_step piece bytes (call.MakeFolder path) c d is (inl same) s = shows_still piece bytes c d same s
shows_step piece bytes (call.MakeFolder path) c d is (inr made) s = by_path (path_eq piece.path path) refl
  where
    by_path : (b : Bool) → path_eq piece.path path ≡ b → Shows piece bytes d
    by_path true e = absurd (there_refused c path (ap (λ p. is_file (entry_at c p)) (sym (path_eq-same piece.path path e)) ∙ s.file) made.0)
    by_path false e = shows_as piece bytes c d (step-elsewhere (call.MakeFolder path) c d piece.path (inr made) (apart piece.path path e)) s
shows_step piece bytes (call.Remove path) c d is step s =
    shows_as piece bytes c d (step-elsewhere (call.Remove path) c d piece.path step (apart piece.path path (not_is (path_eq piece.path path) is))) s
shows_step piece bytes call.Sync c d is same s = shows_still piece bytes c d same s

-- one call

pub spared-made : {A F : Type 0} (t : Ghosts F) (piece : Piece) (ch : ChangeCall) (a b : F) (result : Result A TreeFault) → spares piece ch ≡ true → Makes ch (state_of t a) (state_of t b) result → Spares t piece a b
spared-made t piece ch a b (Ok v) is made bytes first s = record { calls = More ch s.calls is made.listed; shows = shows_step piece bytes ch (t.contents a) (t.contents b) is made.step s.shows }
spared-made t piece ch a b (Err e) is (inl same) bytes first s = subst (Spared piece bytes first) (sym same) s
spared-made t piece ch a b (Err e) is (inr made) bytes first s = record { calls = More ch s.calls is made.1.listed; shows = shows_step piece bytes ch (t.contents a) (t.contents b) is made.1.step s.shows }

-- what only reads makes none
pub spared-read : {F : Type 0} (t : Ghosts F) (piece : Piece) (a b : F) → Reads t a b → Spares t piece a b
spared-read t piece a b reads bytes first s = record {
  calls = subst (GoesBy (spares piece) first) (sym reads.uncalled) s.calls;
  shows = subst (Shows piece bytes) (sym reads.same) s.shows;
}

pub spared-on : {F : Type 0} (t : Ghosts F) (piece : Piece) (a b c : F) → Spares t piece a b → Spares t piece b c → Spares t piece a c
spared-on t piece a b c p q bytes first s = q bytes first (p bytes first s)

-- calls by a run

module _ (may : ChangeCall → Bool) (P : Contents → Type 0) (keeps : (ch : ChangeCall) (c d : Contents) → may ch ≡ true → Step ch c d → P c → P d) where
  by_last : (old mid new : State) (ch : ChangeCall) (calls : List ChangeCall) → length old.calls ≤ length mid.calls → Step ch mid.contents new.contents → new.calls ≡ mid.calls ++ ch ∷ [] → (GoesBy may old.calls mid.calls → P mid.contents) → GoesBy may old.calls calls → calls ≡ new.calls → P new.contents
  by_last old mid new ch calls longer step made rest Same is = absurd (omega (arith, longer, length-append mid.calls (ch ∷ []), ap length made, ap length is))
  by_last old mid new ch calls longer step made rest (More {mid = front} last before on listed) is =
      let two = last_call front mid.calls last ch (sym listed ∙ is ∙ made) in
      keeps ch mid.contents new.contents (ap may (sym two.1) ∙ on) step (rest (subst (GoesBy may old.calls) two.0 before))

  pub kept-by_run : (old new : State) → Run old new → GoesBy may old.calls new.calls → P old.contents → P new.contents
  kept-by_run old new Still on p = p
  kept-by_run old new (Call {mid} ch run happened) on p = by_last old mid new ch new.calls (run_longer old mid run) happened.step happened.listed (λ before. kept-by_run old mid run before p) on refl

pub shows-by_run : (piece : Piece) (bytes : List ℕ) (old new : State) → Run old new → GoesBy (spares piece) old.calls new.calls → Shows piece bytes old.contents → Shows piece bytes new.contents
shows-by_run piece bytes = kept-by_run (spares piece) (Shows piece bytes) (λ ch c d. shows_step piece bytes ch c d)

-- the calls that came spared it
pub spared-run : {F : Type 0} (t : Ghosts F) (piece : Piece) (a b : F) → Came t a b → GoesBy (spares piece) (t.calls a) (t.calls b) → Spares t piece a b
spared-run t piece a b came on bytes first s = record {
  calls = goes-by_on (spares piece) first (t.calls a) (t.calls b) s.calls on;
  shows = shows-by_run piece bytes (state_of t a) (state_of t b) (run_of t a b came) on s.shows;
}

-- calls at own paths spare what lies elsewhere

elsewhere_spares : (own : PathValue → Bool) (piece : Piece) (ch : ChangeCall) → own piece.path ≡ false → is_own own ch ≡ true → spares piece ch ≡ true
elsewhere_spares own piece (call.Write path at n) away is = by (path_eq piece.path path) refl
  where
    by : (b : Bool) → path_eq piece.path path ≡ b → (not b || nat_le (at + n) piece.from || nat_le piece.to at) ≡ true
    by true e = absurd (true≢false (sym is ∙ ap own (sym (path_eq-same piece.path path e)) ∙ away))
    by false e = refl
elsewhere_spares own piece (call.Cut path size) away is = by (path_eq piece.path path) refl
  where
    by : (b : Bool) → path_eq piece.path path ≡ b → (not b || nat_le piece.to size) ≡ true
    by true e = absurd (true≢false (sym is ∙ ap own (sym (path_eq-same piece.path path e)) ∙ away))
    by false e = refl
elsewhere_spares own piece (call.MakeFile path) away is = refl
elsewhere_spares own piece (call.MakeFolder path) away is = refl
elsewhere_spares own piece (call.Remove path) away is = by (path_eq piece.path path) refl
  where
    by : (b : Bool) → path_eq piece.path path ≡ b → not b ≡ true
    by true e = absurd (true≢false (sym is ∙ ap own (sym (path_eq-same piece.path path e)) ∙ away))
    by false e = refl
elsewhere_spares own piece call.Sync away is = refl

pub own-spares : (own : PathValue → Bool) (piece : Piece) (old new : List ChangeCall) → own piece.path ≡ false → GoesOn own old new → GoesBy (spares piece) old new
own-spares own piece old new away on = goes-by_wider (is_own own) (spares piece) old new (λ ch. elsewhere_spares own piece ch away) on

pub spared-own : {F : Type 0} (t : Ghosts F) (own : PathValue → Bool) (piece : Piece) (a b : F) → own piece.path ≡ false → Came t a b → OnOwn t.calls own a b → Spares t piece a b
spared-own t own piece a b away came on = spared-run t piece a b came (own-spares own piece (t.calls a) (t.calls b) away (on (t.calls a) Same))

-- what a stop may leave

each-listed : (may : ChangeCall → Bool) (Q : ChangeCall → Type 0) → ((ch : ChangeCall) → may ch ≡ true → Q ch) → (old new : List ChangeCall) → GoesBy may old new → (xs : List ChangeCall) × (new ≡ old ++ xs) × Each Q xs
each-listed may Q is old new Same = ([], sym (append-nil old), tt)
each-listed may Q is old new (More {mid} ch on test listed) =
    let (xs, e, all) = each-listed may Q is old mid on in
    (xs ++ ch ∷ [], listed ∙ ap (λ l. l ++ ch ∷ []) e ∙ append_assoc old xs (ch ∷ []), one-more xs all)
  where
    one-more : (xs : List ChangeCall) → Each Q xs → Each Q (xs ++ ch ∷ [])
    one-more [] all = (is ch test, tt)
    one-more (x ∷ xs) all = (all.0, one-more xs all.1)

pub spared-stop : (piece : Piece) (bytes : List ℕ) (old new : Moment) → Course old new → GoesBy (spares piece) old.state.calls new.state.calls → Shows piece bytes old.state.contents → ((c : Contents) → MayBeLeft old.stops c → Shows piece bytes c) → LeavesOnly (Shows piece bytes) old.stops new.stops
spared-stop piece bytes old new course on now left =
    let P = Shows piece bytes in
    let (xs, e, all) = each-listed (spares piece) (KeptBy P) (λ ch is c d s step. shows_step piece bytes ch c d is step s) old.state.calls new.state.calls on in
    leaves_only P P old new (holds_run P P old old new xs (holds_first P P old now left) (λ c p. p) course e all) (λ c p. p)

-- bytes that are laid over a file

-- zeros behind its end spare each piece that it has
pub end-spares : (piece : Piece) (bytes : List ℕ) (c : Contents) (path : PathValue) (n : ℕ) → Shows piece bytes c → size_of (file_of (entry_at c path)) ≡ Ok n → spares piece (call.Cut path n) ≡ true
end-spares piece bytes c path n s sized = by (path_eq piece.path path) refl
  where
    by : (b : Bool) → path_eq piece.path path ≡ b → (not b || nat_le piece.to n) ≡ true
    by true e =
        let same : piece.path ≡ path = path_eq-same piece.path path e in
        let l : piece.to ≤ n = omega (arith, s.whole, ap (λ p. length (bytes_at c p)) same, size_is (entry_at c path) n sized) in
        grind (arith, nat_tests)
    by false e = refl

pub later-spares : (piece : Piece) (path : PathValue) (n at k : ℕ) → n ≤ at → spares piece (call.Cut path n) ≡ true → spares piece (call.Write path at k) ≡ true
later-spares piece path n at k l is = by (path_eq piece.path path) is
  where
    by : (b : Bool) → (not b || nat_le piece.to n) ≡ true → (not b || nat_le (at + k) piece.from || nat_le piece.to at) ≡ true
    by true few =
        let m : piece.to ≤ at = omega (arith, l, le_is piece.to n few) in
        let yes : nat_le piece.to at ≡ true = grind (arith, nat_tests) in
        or_right (nat_le (at + k) piece.from) (nat_le piece.to at) yes
    by false few = refl

pub padded-spares : {F : Type 0} (t : Ghosts F) (piece : Piece) (path : PathValue) (n : ℕ) (a b c : F) → Spares t piece a b → size_of (file_of (entry_at (t.contents b) path)) ≡ Ok n → (spares piece (call.Cut path n) ≡ true → Spares t piece b c) → Spares t piece a c
padded-spares t piece path n a b c made sized pad bytes first s =
    let mid = made bytes first s in
    pad (end-spares piece bytes (t.contents b) path n mid.shows sized) bytes first mid

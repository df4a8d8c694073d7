-- What a mark that was laid tells.
use Rattle.std.proofs.Common.{◌≡◌, ◌≢◌, ℕ, suc, ◌<◌, ◌&&◌, ◌==◌, Bool, true, false, if◌then◌else◌, List, [], ◌∷◌, ◌++◌, length, codes, nat_eq, nat_lt, bytes_eq, None, Some, Ok, refl, ap, sym, ◌∙◌, true≢false, arith}
use Rattle.std.proofs.lemmas.Bool.Decides.{nat_tests}
use Rattle.std.proofs.lemmas.List.Elements.{All-head, All-tail}
use Rattle.std.specs.Cmp.Lexicographic.{same_text}
use Rattle.std.specs.List.{All, starts_with}
use Rattle.std.proofs.lemmas.List.{length-append}
use Rattle.std.specs.Prelude.{option_map}
use Rattle.cluster_tree.specs.Causes.{given, unless}
use Rattle.cluster_tree.specs.Contents.{Contents, FileEntry, entry_at}
use Rattle.cluster_tree.specs.PathValue.{PathValue}
use Rattle.cluster_tree.specs.Tree.{bytes_in, file_of}
use Rattle.clusters.specs.WholeFile.{all_of}
use Rattle.gated_marks.specs.Gates.{IsComplete, plus, whole_mark}
use Rattle.layout.specs.Splice.{splice}
use Rattle.mark_lines.specs.Words.{line}
use Rattle.replay_list.specs.Lines.{files_behind, listed_lines}
use Rattle.replay_list.specs.Mark.{is_complete, is_open, mark_told}
use Rattle.replay_list.specs.Reading.{listed_in}
use Rattle.replay_list.specs.Text.{list_text}
use Rattle.replay_list.specs.declared.listed.Listed.{Listed}
use Rattle.replay_list.specs.declared.listed.Listed.TheVariants.{Folder, Page, File}
use Rattle.replay_list.specs.declared.mark.ReplayMark.TheVariants as mark
use Rattle.replay_list.proofs.LawLemmas.{all_read}
use Rattle.stored_replay.specs.Marks.{own_bytes}
use Rattle.stored_replay.specs.Shadows.{first_lost, is_sized, lost_of, or_later, shadow_at}
use Rattle.stored_replay.specs.declared.fault.StoredReplayFault.TheVariants as fault
use Rattle.stored_replay.proofs.ShadowLemmas.{lost-none}
use Rattle.stored_replay.specs.Stored.{Begun, HadEnded, NotBegun, or_bad, told_as, told_in, with_copies}
use Rattle.replay_copies.specs.Ended.{StandsLaid, ended_gate, with_gate}
use Rattle.replay_copies.specs.Laid.{AreCopied, IsFound, IsReady, mark_head, mark_of, whole_gate}
use Rattle.replay_copies.specs.Laws.{EndedIsTold, LaidIsTold, LaidStands, ShutIsNotBegun, StandingIsTold}

-- ---- bytes

-- a mark of a text, with its first gate open and this byte in the place of the second one
abbrev gated : ℕ → List ℕ → List ℕ
gated byte text = codes "pg_walreplay 2\n+" ++ byte ∷ (codes "\n" ++ text)

whole-gated : (text : List ℕ) → whole_mark mark_head whole_gate text ≡ gated 45 text
unfolding splice
whole-gated text = refl

gated-over : (old byte : ℕ) (text : List ℕ) → splice (gated old text) ended_gate (byte ∷ []) ≡ gated byte text
unfolding splice
gated-over old byte text = refl

longer : (n : ℕ) → 18 < n → nat_lt 18 n ≡ true
longer n more = grind (arith, nat_tests)

gated-longer : (byte : ℕ) (text : List ℕ) → 0 < length text → nat_lt 18 (length (gated byte text)) ≡ true
gated-longer byte text some = longer (length (gated byte text)) (omega (arith, some, length-append (codes "pg_walreplay 2\n+") (byte ∷ (codes "\n" ++ text))))

shut-gate : (byte : ℕ) → byte ≢ plus → (byte == 43) ≡ false
shut-gate byte shut = by (byte == 43) refl
  where
    by : (b : Bool) → (byte == 43) ≡ b → b ≡ false
    by true is = absurd (shut (grind (arith, nat_tests)))
    by false is = refl

gated-told : (byte : ℕ) (text : List ℕ) → byte ≢ plus → 0 < length text → mark_told (gated byte text) ≡ mark.Complete
gated-told byte text shut some =
    ap (λ b. if (b && true && true) && (byte == 43) then mark.Ended else if b && true && true then mark.Complete else mark.NotComplete) (gated-longer byte text some)
    ∙ ap (λ b. if b then mark.Ended else mark.Complete) (shut-gate byte shut)

both-told : (text : List ℕ) → 0 < length text → mark_told (gated plus text) ≡ mark.Ended
both-told text some =
    ap (λ b. if (b && true && true) && true then mark.Ended else if b && true && true then mark.Complete else mark.NotComplete) (gated-longer plus text some)

text-some : (root : PathValue) (listed : List Listed) → 0 < length (list_text root listed)
text-some root listed = omega (arith, length-append (listed_lines root 0 listed) (line (codes "end" ∷ [])))

-- ---- copies

lost-next : (c : Contents) (root : PathValue) (files : ℕ) (one : Listed) (more : List Listed) → first_lost c root files (one ∷ more) ≡ or_later (lost_of c root files one) (first_lost c root (files_behind files one) more)
unfolding first_lost
lost-next c root files one more = refl

none-lost : (root : PathValue) (c d : Contents) (files : ℕ) (listed : List Listed) → All (IsFound c) listed → AreCopied root c d files listed → first_lost d root files listed ≡ None
none-lost root c d files [] found copied = lost-none d root files
none-lost root c d files (Folder path ∷ more) found copied = lost-next d root files (Folder path) more ∙ none-lost root c d files more (All-tail (IsFound c) _ more found) copied.1
none-lost root c d files (Page path size ∷ more) found copied = lost-next d root files (Page path size) more ∙ none-lost root c d files more (All-tail (IsFound c) _ more found) copied.1
none-lost root c d files (File path size ∷ more) found copied =
    lost-next d root files (File path size) more
    ∙ ap (λ b. or_later (if b then None else Some (shadow_at root files)) (first_lost d root (suc files) more)) (ap (is_sized size) copied.0 ∙ All-head (IsFound c) (File path size) more found)
    ∙ none-lost root c d (suc files) more (All-tail (IsFound c) _ more found) copied.1

-- ---- what is told

list-read : (root : PathValue) (listed : List Listed) (c d : Contents) → IsReady root listed c → listed_in root (list_text root listed) ≡ Ok listed
list-read root listed c d ready = all_read root listed ready.list

told-by : (d : Contents) (root : PathValue) (bytes : List ℕ) → entry_at d (mark_of root) ≡ Some (FileEntry bytes) → told_in d root (own_bytes d root) ≡ told_as d root bytes (mark_told bytes)
told-by d root bytes is = ap (λ o. told_in d root (all_of (file_of o))) is

-- the mark that stands
abbrev pub standing : PathValue → List Listed → (byte : ℕ) → List ℕ
standing root listed byte = splice (whole_mark mark_head whole_gate (list_text root listed)) ended_gate (byte ∷ [])

standing-is : (root : PathValue) (listed : List Listed) (byte : ℕ) → standing root listed byte ≡ gated byte (list_text root listed)
standing-is root listed byte = ap (λ b. splice b ended_gate (byte ∷ [])) (whole-gated (list_text root listed)) ∙ gated-over 45 byte (list_text root listed)

pub laid-stands : LaidStands
laid-stands root listed c d laid = record {
  byte = 45;
  shut = λ e. omega (arith, e);
  mark = laid.mark ∙ ap (λ b. Some (FileEntry b)) (whole-gated (list_text root listed) ∙ sym (standing-is root listed 45));
  copies = laid.copies;
  elsewhere = laid.elsewhere;
}

pub standing-told : StandingIsTold
standing-told root listed c d ready laid =
    let text = list_text root listed in
    told-by d root (gated laid.byte text) (laid.mark ∙ ap (λ b. Some (FileEntry b)) (standing-is root listed laid.byte))
    ∙ ap (told_as d root (gated laid.byte text)) (gated-told laid.byte text laid.shut (text-some root listed))
    ∙ ap (λ r. given (or_bad root r) (with_copies d root)) (list-read root listed c d ready)
    ∙ ap (λ o. unless (option_map fault.ShadowDiffers o) (Ok (Begun listed))) (none-lost root c d 0 listed ready.found laid.copies.copied)

pub laid-told : LaidIsTold
laid-told root listed c d ready laid = standing-told root listed c d ready (laid-stands root listed c d laid)

-- the same mark with another byte there
pub standing-over : (root : PathValue) (listed : List Listed) (c d : Contents) (byte : ℕ) → StandsLaid root listed c d → with_gate root d byte ≡ standing root listed byte
standing-over root listed c d byte laid =
    ap (λ o. splice (bytes_in o) ended_gate (byte ∷ [])) laid.mark ∙ ap (λ b. splice b ended_gate (byte ∷ [])) (standing-is root listed laid.byte)
    ∙ gated-over laid.byte byte (list_text root listed) ∙ sym (standing-is root listed byte)

pub ended-told : EndedIsTold
ended-told root listed c d e ready laid is =
    let text = list_text root listed in
    let gate : with_gate root d plus ≡ gated plus text = standing-over root listed c d plus laid ∙ standing-is root listed plus in
    told-by e root (gated plus text) (is ∙ ap (λ b. Some (FileEntry b)) gate)
    ∙ ap (told_as e root (gated plus text)) (both-told text (text-some root listed))
    ∙ ap (λ r. given (or_bad root r) (λ l. Ok HadEnded)) (list-read root listed c d ready)

-- ---- a mark that is shut

and-three : (a b c : Bool) → (a && b && c) ≡ true → (a ≡ true) × (b ≡ true) × (c ≡ true)
and-three true true c e = (refl, refl, e)
and-three true false c e = absurd (true≢false (sym e))
and-three false b c e = absurd (true≢false (sym e))

complete-is : (bytes : List ℕ) → is_complete bytes ≡ true → IsComplete mark_head whole_gate bytes
complete-is bytes e =
    let (long, first, gate) = and-three (nat_lt 18 (length bytes)) (starts_with nat_eq bytes (codes "pg_walreplay 2\n")) (is_open 15 bytes) e in
    record {
      front = sym (same_text _ _ (sym first));
      is_open = grind (arith, nat_tests);
      longer = grind (arith, nat_tests);
    }

told-cases : (c : Contents) (root : PathValue) (bytes : List ℕ) (old whole ended : Bool) → (whole ≡ true → ⊥)
    → told_as c root bytes (if old then mark.Version1 else if whole && ended then mark.Ended else if whole then mark.Complete else mark.NotComplete) ≡ Ok NotBegun
told-cases c root bytes true whole ended never = refl
told-cases c root bytes false true ended never = absurd (never refl)
told-cases c root bytes false false ended never = refl

pub shut-not_begun : ShutIsNotBegun
shut-not_begun root c bytes shut =
    told-cases c root bytes (bytes_eq bytes (codes "pg_walreplay 1\n")) (is_complete bytes) (is_open 16 bytes) (λ e. shut (complete-is bytes e))

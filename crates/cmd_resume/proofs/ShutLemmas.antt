-- That the mark isn't whole where no complete one was found.
use Rattle.std.proofs.Common.{◌≡◌, ◌∙◌, ◌<◌, ◌&&◌, ◌∷◌, ◌++◌, [], ℕ, true, nat_lt, List, length, drop, Option, None, Some, option_map, refl, sym, ap, ap₂, Result, Ok, arith}
use Rattle.std.proofs.lemmas.Bool.Decides.{nat_tests}
use Rattle.std.proofs.lemmas.List.{drop_more, take-append-drop}
use Rattle.std.specs.List.{starts_with}
use Rattle.std.specs.Prelude.{bytes_eq, codes, if◌then◌else◌, nat_eq}
use Rattle.cluster_tree.specs.Causes.{unless}
use Rattle.cluster_tree.specs.Contents.{Contents, Entry, FileEntry, FolderEntry, LinkEntry, entry_at}
use Rattle.cluster_tree.specs.Marks.{marks_of}
use Rattle.cluster_tree.specs.PathValue.{PathValue}
use Rattle.cluster_tree.specs.Tree.{bytes_at, bytes_in}
use Rattle.clusters.specs.Marks.{unfinished}
use Rattle.gated_marks.specs.Gates.{IsComplete}
use Rattle.gated_marks.proofs.ByteLemmas.{short-incomplete}
use Rattle.plan_text.specs.Mark.{mark_told}
use Rattle.plan_text.specs.Text.{Saying}
use Rattle.plan_text.specs.declared.mark.MarkText.TheVariants.{Version1, NotComplete, Complete}
use Rattle.rewind_writes.specs.Plan.{mark_gate, mark_head}
use Rattle.resume_core.specs.Faults.{of_cluster, told_by}
use Rattle.resume_core.specs.Marks.{mark_at, other_marks, own_mark, told_bytes}
use Rattle.resume_core.specs.Stored.{found_in, held_in, stored_of}
use Rattle.cmd_resume.proofs.FoundLemmas.{given-ok, told-ok, unless-ok}

-- bytes that read as a complete mark tell that they are one
longer : (n : ℕ) → 14 < n → nat_lt 14 n ≡ true
longer n more = grind (arith, nat_tests)

whole-bytes : (bytes : List ℕ) → IsComplete mark_head mark_gate bytes → bytes ≡ codes "pg_rewind 2\n" ++ 43 ∷ drop 13 bytes
whole-bytes bytes is =
    let long : 12 < length bytes = omega (arith, is.longer) in
    sym (take-append-drop 12 bytes) ∙ ap₂ (λ xs ys. xs ++ ys) is.front (drop_more bytes 12 0 long ∙ ap (λ b. b ∷ drop 13 bytes) is.is_open)

told-whole : (bytes : List ℕ) → IsComplete mark_head mark_gate bytes → mark_told bytes ≡ Complete
told-whole bytes is =
    ap (λ b. if bytes_eq b (codes "pg_rewind 1\n") then Version1 else if nat_lt 14 (length bytes) && starts_with nat_eq b (codes "pg_rewind 2\n+") then Complete else NotComplete) (whole-bytes bytes is)
    ∙ ap (λ b. if b && true then Complete else NotComplete) (longer (length bytes) is.longer)

-- so no file there is one
own-shut : (mark : PathValue) (o : Option Entry) → own_mark mark o ≡ Ok None → IsComplete mark_head mark_gate (bytes_in o) → ⊥
own-shut mark None is = short-incomplete mark_head mark_gate [] (omega arith)
own-shut mark (Some (FileEntry bytes)) is = λ whole. let found : ◌≡◌ {A = Result (Option (List ℕ)) _} (Ok None) (Ok (Some bytes)) = sym is ∙ ap (told_bytes mark bytes) (told-whole bytes whole) in cc found
own-shut mark (Some (FolderEntry bad)) is = absurd (cc is)
own-shut mark (Some LinkEntry) is = absurd (cc is)

none-found : (c : Contents) (target source : PathValue) (bytes : Option (List ℕ)) → found_in c target source bytes ≡ Ok None → bytes ≡ None
none-found c target source None is = refl
none-found c target source (Some bytes) is = let found = given-ok (held_in c target source bytes) (λ (said : Saying). Ok (Some said)) None is in absurd (cc found.2)

pub stored-shut : (c : Contents) (target source : PathValue) → stored_of c target source ≡ Ok None → IsComplete mark_head mark_gate (bytes_at c (marks_of target).rewind) → ⊥
stored-shut c target source is =
    let path = (marks_of target).rewind in
    let mark = given-ok (told_by (mark_at c target)) (λ bytes. unless (option_map of_cluster (unfinished c source)) (found_in c target source bytes)) None is in
    let none = none-found c target source mark.0 (unless-ok (option_map of_cluster (unfinished c source)) (found_in c target source mark.0) None mark.2) in
    let own = given-ok (own_mark path (entry_at c path)) (λ bytes. unless (other_marks c (marks_of target)) (Ok bytes)) mark.0 (told-ok (mark_at c target) mark.0 mark.1) in
    let same = unless-ok (other_marks c (marks_of target)) (Ok own.0) mark.0 own.2 in
    let bytes : own.0 ≡ mark.0 = cc same in
    own-shut path (entry_at c path) (own.1 ∙ ap Ok (bytes ∙ none))

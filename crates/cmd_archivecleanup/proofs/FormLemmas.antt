-- The forms of what pg_archivecleanup does.
use Rattle.std.proofs.Common.{◌≡◌, ◌∙◌, ◌==◌, length, ℕ, ◌⊎◌, Bool, true, false, List, [], ◌∷◌, map, Option, None, Some, inl, inr, refl, sym, ap, subst}
use Rattle.std.proofs.lemmas.Bool.{eqb-true}
use Rattle.std.proofs.lemmas.List.{nil_from_length}
use Rattle.std.specs.List.{flat_map}
use Rattle.cluster_tree.specs.Contents.{Contents, Entry, FolderEntry, FileEntry, LinkEntry, entry_at}
use Rattle.cluster_tree.specs.Folders.{list_refusal, names_in}
use Rattle.cluster_tree.specs.declared.tree.TreeFault.{TreeFault}
use Rattle.cluster_tree.specs.declared.tree.TreeFault.TheVariants as fault
use Rattle.commands.specs.declared.archivecleanup.ArchivecleanupWords.{ArchivecleanupWords}
use Rattle.acts.specs.Acts.{Act, Print, Ending, Done, Seen, Performs, ends}
use Rattle.run_acts.specs.Answers.{does, refused}
use Rattle.run_acts.specs.Causes.{IsFree, IsOfLook}
use Rattle.run_acts.specs.declared.cause.Cause.{Cause}
use Rattle.run_acts.proofs.AnswerSteps.{Looks}
use Rattle.cluster_tree.specs.PathValue.{PathValue}
use Rattle.cmd_archivecleanup.specs.Archivecleanup.{IsArchivecleanup, archivecleanup_answer, entry_refusal, folder_cause, going, gone, in_folder, known_answer, listed_answer, named_answer, or_else, path_line, printed, refused_or, removal, removals, unremoved}
use Rattle.cmd_archivecleanup.specs.declared.plan.Removal.{Removal}

folder_looks : (folder : PathValue) (f : TreeFault) → IsOfLook (folder_cause folder f)
folder_looks folder fault.Link = inr (inr refl)
folder_looks folder fault.NameNotText = inr (inr refl)
folder_looks folder fault.Failed = inl refl
folder_looks folder fault.OutOfMemory = inr (inl refl)
folder_looks folder fault.Absent = inr (inr refl)
folder_looks folder fault.NotFolder = inr (inr refl)
folder_looks folder fault.IsFolder = inr (inr refl)
folder_looks folder fault.Exists = inr (inr refl)
folder_looks folder fault.NotEmpty = inr (inr refl)
folder_looks folder fault.PastEnd = inr (inr refl)

-- a refusal is of the look, if there is one
abbrev OfLook : Option Cause → Type 0
OfLook None = Unit {0}
OfLook (Some e) = IsOfLook e

entry_looks : (path : PathValue) (o : Option Entry) → OfLook (entry_refusal path o)
entry_looks path None = tt
entry_looks path (Some (FolderEntry bad)) = inr (inr refl)
entry_looks path (Some (FileEntry bytes)) = tt
entry_looks path (Some LinkEntry) = inr (inr refl)

either_looks : (o next : Option Cause) → OfLook o → OfLook next → OfLook (or_else o next)
either_looks (Some e) next h g = h
either_looks None next h g = g

unremoved_looks : (c : Contents) (folder : PathValue) (names : List (List ℕ)) → OfLook (unremoved c folder names)
unremoved_looks c folder [] = tt
unremoved_looks c folder (name ∷ names) =
    either_looks (entry_refusal (in_folder folder name) (entry_at c (in_folder folder name))) (unremoved c folder names) (entry_looks (in_folder folder name) (entry_at c (in_folder folder name))) (unremoved_looks c folder names)

-- ---- each answer has its form

-- names that go of some that were listed
pub dry_form : (c : Contents) (words : ArchivecleanupWords) (names : List (List ℕ)) (text : List ℕ) → words.dry_run ≡ true → text ≡ flat_map (path_line words.folder) (going names words) → IsArchivecleanup words (does (printed text))
dry_form c words names text dry made = inl (record { names = names; contents = c; is = ap (λ t. does (printed t)) made ∙ sym (ap (named_answer c words names) dry) })

pub wet_form : (words : ArchivecleanupWords) (names : List (List ℕ)) (items : List Removal) → words.dry_run ≡ false → items ≡ map (removal words.debug words.folder) (going names words) → (c : Contents) → IsArchivecleanup words (does (removals c items))
wet_form words names items wet made c = inl (record { names = names; contents = c; is = ap (λ l. does (removals c l)) made ∙ sym (ap (named_answer c words names) wet) })

form_or : (c : Contents) (words : ArchivecleanupWords) (o : Option Cause) (rs : List Removal) → OfLook o → IsArchivecleanup words (does (removals c rs)) → IsArchivecleanup words (refused_or o (removals c rs))
form_or c words (Some e) rs looks form = inr (e, looks, refl)
form_or c words None rs looks form = form

form_known : (c : Contents) (words : ArchivecleanupWords) (dry_run : Bool) → words.dry_run ≡ dry_run → IsArchivecleanup words (known_answer c words dry_run)
unfolding gone
form_known c words true dry = dry_form c words (names_in c words.folder) _ dry refl
form_known c words false wet = form_or c words (unremoved c words.folder (gone c words)) (map (removal words.debug words.folder) (gone c words)) (unremoved_looks c words.folder (gone c words)) (wet_form words (names_in c words.folder) _ wet refl c)

form_listed : (c : Contents) (words : ArchivecleanupWords) (o : Option TreeFault) → IsArchivecleanup words (listed_answer c words o)
form_listed c words (Some f) = inr (folder_cause words.folder f, folder_looks words.folder f, refl)
form_listed c words None = form_known c words words.dry_run refl

pub answer-form : (c : Contents) (words : ArchivecleanupWords) → IsArchivecleanup words (archivecleanup_answer c words)
answer-form c words = form_listed c words (list_refusal (entry_at c words.folder))

looks_or : (o : Option Cause) (acts : List Act) → Looks ((refused_or o acts).acts)
looks_or (Some e) acts = tt
looks_or None acts = tt

looks_known : (c : Contents) (words : ArchivecleanupWords) (dry_run : Bool) → Looks ((known_answer c words dry_run).acts)
looks_known c words true = tt
looks_known c words false = looks_or (unremoved c words.folder (gone c words)) (removals c (map (removal words.debug words.folder) (gone c words)))

looks_listed : (c : Contents) (words : ArchivecleanupWords) (o : Option TreeFault) → Looks ((listed_answer c words o).acts)
looks_listed c words (Some f) = tt
looks_listed c words None = looks_known c words words.dry_run

pub answer-looks : (c : Contents) (words : ArchivecleanupWords) → Looks ((archivecleanup_answer c words).acts)
answer-looks c words = looks_listed c words (list_refusal (entry_at c words.folder))

-- ---- an empty text is not printed, and every other is one act

printed_nothing : {o e : Bool} {s : Seen} (text text' : List ℕ) → text' ≡ text → text' ≡ [] → Performs o e Done (printed text) s s
printed_nothing {o} {e} {s} text text' same none = subst (λ t. Performs o e Done (printed t) s s) (sym none ∙ same) (ends (inl refl))

some_printed : {o e : Bool} {ending : Ending} {s u : Seen} (text : List ℕ) → (text ≡ [] → ⊥) → Performs o e ending (Print text ∷ []) s u → Performs o e ending (printed text) s u
some_printed [] some p = absurd (some refl)
some_printed (byte ∷ bytes) some p = p

pub printed_text : {o e : Bool} {ending : Ending} {s u : Seen} (text text' : List ℕ) → text' ≡ text → (text' ≡ [] → ⊥) → Performs o e ending (Print text ∷ []) s u → Performs o e ending (printed text) s u
printed_text text text' same some p = some_printed text (λ none. some (same ∙ none)) p

no_bytes : (text : List ℕ) (empty : Bool) → empty ≡ (length text == 0) → empty ≡ true → text ≡ []
no_bytes text empty is holds = nil_from_length text (eqb-true (length text) 0 (sym is ∙ holds))

pub printed_empty : {o e : Bool} {s : Seen} (text text' : List ℕ) (empty : Bool) → text' ≡ text → empty ≡ (length text' == 0) → empty ≡ true → Performs o e Done (printed text) s s
printed_empty text text' empty same is holds = printed_nothing text text' same (no_bytes text' empty is holds)

-- ---- what is known makes the answer

known : (c : Contents) (words : ArchivecleanupWords) (dry_run : Bool) → list_refusal (entry_at c words.folder) ≡ None → words.dry_run ≡ dry_run → archivecleanup_answer c words ≡ known_answer c words dry_run
known c words dry_run none is = ap (listed_answer c words) none ∙ ap (known_answer c words) is

pub dry_answer : (c : Contents) (words : ArchivecleanupWords) (names : List (List ℕ)) (text : List ℕ) → words.dry_run ≡ true → (list_refusal (entry_at c words.folder) ≡ None) × (names ≡ gone c words) → text ≡ flat_map (path_line words.folder) names
    → does (printed text) ≡ archivecleanup_answer c words
dry_answer c words names text dry (none, is) made =
    ap (λ t. does (printed t)) (made ∙ ap (flat_map (path_line words.folder)) is) ∙ sym (known c words true none dry)

pub wet_answer : (c d : Contents) (words : ArchivecleanupWords) (names : List (List ℕ)) (items : List Removal) → d ≡ c → words.dry_run ≡ false → (list_refusal (entry_at c words.folder) ≡ None) × (names ≡ gone c words)
    → unremoved d words.folder names ≡ None → items ≡ map (removal words.debug words.folder) names → does (removals c items) ≡ archivecleanup_answer c words
wet_answer c d words names items same wet (none, is) files made =
    ap (λ l. does (removals c l)) (made ∙ ap (map (removal words.debug words.folder)) is)
    ∙ ap (λ o. refused_or o (removals c (map (removal words.debug words.folder) (gone c words)))) (sym (ap (unremoved c words.folder) (sym is) ∙ ap (λ x. unremoved x words.folder names) (sym same) ∙ files))
    ∙ sym (known c words false none wet)

pub wet_refused : (c d : Contents) (words : ArchivecleanupWords) (names : List (List ℕ)) (e : Cause) → d ≡ c → words.dry_run ≡ false → (list_refusal (entry_at c words.folder) ≡ None) × (names ≡ gone c words)
    → IsFree e ⊎ (unremoved d words.folder names ≡ Some e) → IsFree e ⊎ (archivecleanup_answer c words ≡ refused e)
wet_refused c d words names e same wet found (inl free) = inl free
wet_refused c d words names e same wet (none, is) (inr some) =
    inr (known c words false none wet ∙ ap (λ o. refused_or o (removals c (map (removal words.debug words.folder) (gone c words)))) (ap (unremoved c words.folder) (sym is) ∙ ap (λ x. unremoved x words.folder names) (sym same) ∙ some))

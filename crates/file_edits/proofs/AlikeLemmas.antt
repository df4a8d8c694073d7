-- Edits of trees that are alike below two roots.
use Rattle.std.proofs.Common.{◌≡◌, ℕ, zero, suc, ◌+◌, ◌-◌, ◌<◌, Bool, true, false, List, [], ◌∷◌, ◌++◌, length, take, drop, Option, None, Some, Result, Ok, Err, is_some, refl, ap, sym, subst, ◌∙◌, append-nil, append_assoc, arith}
use Rattle.std.proofs.lemmas.Grind.{common_steps}
use Rattle.std.proofs.lemmas.List.{length-append, append_cancel_left}
use Rattle.std.proofs.Math.Seq.{take-append-add}
use Rattle.std.specs.FinMap.{get, insert, remove}
use Rattle.cluster_tree.specs.PathValue.{PathValue, below, front}
use Rattle.cluster_tree.specs.Below.{tree_below}
use Rattle.cluster_tree.specs.Contents.{Contents, Entry, FolderEntry, FileEntry, or_root, entry_at}
use Rattle.cluster_tree.specs.Causes.{given, unless}
use Rattle.cluster_tree.specs.Folders.{names_in}
use Rattle.cluster_tree.specs.Tree.{bytes_in, bytes_at}
use Rattle.cluster_tree.specs.declared.file_fault.FileFault.{FileFault}
use Rattle.cluster_tree.specs.declared.file_fault.FileFault.TheVariants as fault
use Rattle.cluster_tree.proofs.ContentsLemmas.{entry-put, entry-put_other, entry-removed, entry-removed_other}
use Rattle.cluster_tree.proofs.NamesLemmas.{names_listing, listing_names}
use Rattle.cluster_tree.proofs.OrderLemmas.{same_path}
use Rattle.file_edits.specs.Alike.{AlikeEntries, Neither, Folders, Files, Links, Alike, moved_path, AlikeAnswers, SameAnswers}
use Rattle.file_edits.specs.Asking.{file_asked, folder_asked, root_refusal, size_asked, names_asked, filled_from, read_of, read_asked}
use Rattle.file_edits.specs.Edits.{folder_left, folder_made, folders_made, folders_between, way_made, way_for, edited, file_edited, cut_to, file_cut, without, file_removed}
use Rattle.file_edits.proofs.EditLemmas.{same_or_other}
use Rattle.file_edits.proofs.LawLemmas.{rootless}

-- paths below a root

behind : (xs ys : List (List ℕ)) → drop (length xs) (xs ++ ys) ≡ ys
behind xs ys = grind (arith, common_steps)

pub moved_below : (root other : PathValue) (parts : List (List ℕ)) → below other parts ≡ moved_path root other (below root parts)
moved_below root other parts = ap (below other) (sym (behind root.parts parts))

itself : (root : PathValue) → below root [] ≡ root
itself root = same_path _ _ refl (append-nil root.parts)

front_below : (root : PathValue) (parts : List (List ℕ)) (m : ℕ) → front (length root.parts + m) (below root parts) ≡ below root (take m parts)
front_below root parts m = same_path _ _ refl (take-append-add root.parts parts m)

same_parts : (root : PathValue) (parts others : List (List ℕ)) → below root parts ≡ below root others → parts ≡ others
same_parts root parts others e = append_cancel_left root.parts parts others (ap (λ p. p.parts) e)

-- what is put or removed at alike paths

put_alike : (like : List (List ℕ) → List ℕ → List ℕ → Bool) (c d : Contents) (root other : PathValue) (parts : List (List ℕ)) (v w : Entry) → Alike like c root d other → AlikeEntries (like parts) (Some v) (Some w) → Alike like (insert c (below root parts) v) root (insert d (below other parts) w) other
put_alike like c d root other parts v w alike entry q = same_or_other (below root q) (below root parts)
    (λ e.
    let is = same_parts root q parts e in
    let one : tree_below (insert c (below root parts) v) root q ≡ Some v = ap (entry_at (insert c (below root parts) v)) (ap (below root) is) ∙ entry-put c (below root parts) v in
    let two : tree_below (insert d (below other parts) w) other q ≡ Some w = ap (entry_at (insert d (below other parts) w)) (ap (below other) is) ∙ entry-put d (below other parts) w in
    rw (one, two, is) entry)
    (λ n.
    let one : tree_below (insert c (below root parts) v) root q ≡ tree_below c root q = entry-put_other c (below root parts) (below root q) v n in
    let two : tree_below (insert d (below other parts) w) other q ≡ tree_below d other q = entry-put_other d (below other parts) (below other q) w (λ e. n (ap (below root) (same_parts other q parts e))) in
    rw (one, two) (alike q))

gone : (c : Contents) (root : PathValue) (parts : List (List ℕ)) → 0 < length parts → entry_at (remove c (below root parts)) (below root parts) ≡ None
gone c root parts some = entry-removed c (below root parts) ∙ rootless (root.parts ++ parts) (omega (arith, length-append root.parts parts))

pub removed_alike : (like : List (List ℕ) → List ℕ → List ℕ → Bool) (c d : Contents) (root other : PathValue) (parts : List (List ℕ)) → 0 < length parts → Alike like c root d other → Alike like (remove c (below root parts)) root (remove d (below other parts)) other
removed_alike like c d root other parts some alike q = same_or_other (below root q) (below root parts)
    (λ e.
    let is = same_parts root q parts e in
    let one : tree_below (remove c (below root parts)) root q ≡ None = ap (entry_at (remove c (below root parts))) (ap (below root) is) ∙ gone c root parts some in
    let two : tree_below (remove d (below other parts)) other q ≡ None = ap (entry_at (remove d (below other parts))) (ap (below other) is) ∙ gone d other parts some in
    rw (one, two) Neither)
    (λ n.
    let one : tree_below (remove c (below root parts)) root q ≡ tree_below c root q = entry-removed_other c (below root parts) (below root q) n in
    let two : tree_below (remove d (below other parts)) other q ≡ tree_below d other q = entry-removed_other d (below other parts) (below other q) (λ e. n (ap (below root) (same_parts other q parts e))) in
    rw (one, two) (alike q))

-- one after another

given_alike : (like : List (List ℕ) → List ℕ → List ℕ → Bool) (root other : PathValue) (r s : Result Contents FileFault) (next after : Contents → Result Contents FileFault) → AlikeAnswers like root other r s → ((c d : Contents) → Alike like c root d other → AlikeAnswers like root other (next c) (after d)) → AlikeAnswers like root other (given r next) (given s after)
given_alike like root other (Ok c) (Ok d) next after alike then = then c d alike
given_alike like root other (Ok c) (Err f) next after alike then = absurd alike
given_alike like root other (Err e) (Ok d) next after alike then = absurd alike
given_alike like root other (Err e) (Err f) next after alike then = alike

-- folders

folder_alike : (like : List (List ℕ) → List ℕ → List ℕ → Bool) (root other : PathValue) (parts : List (List ℕ)) (c d : Contents) (o p : Option Entry) → AlikeEntries (like parts) o p → Alike like c root d other
    → AlikeAnswers like root other (given (folder_asked (below root parts) o) (λ there. Ok (folder_left c (below root parts) there))) (given (folder_asked (below other parts) p) (λ there. Ok (folder_left d (below other parts) there)))
folder_alike like root other parts c d o p Neither alike = put_alike like c d root other parts (FolderEntry false) (FolderEntry false) alike (Folders false)
folder_alike like root other parts c d o p (Folders bad) alike = alike
folder_alike like root other parts c d o p (Files a b is) alike = ap (λ x. fault.NotFolder x) (moved_below root other parts)
folder_alike like root other parts c d o p Links alike = ap (λ x. fault.Link x) (moved_below root other parts)

made_alike : (like : List (List ℕ) → List ℕ → List ℕ → Bool) (root other : PathValue) (parts : List (List ℕ)) (c d : Contents) → Alike like c root d other → AlikeAnswers like root other (folder_made (below root parts) c) (folder_made (below other parts) d)
unfolding folder_made
made_alike like root other parts c d alike = folder_alike like root other parts c d (entry_at c (below root parts)) (entry_at d (below other parts)) (alike parts) alike

folders_alike : (like : List (List ℕ) → List ℕ → List ℕ → Bool) (root other : PathValue) (parts : List (List ℕ)) (k n m i : ℕ) (c d : Contents) → n ≡ length root.parts + i → m ≡ length other.parts + i → Alike like c root d other → AlikeAnswers like root other (folders_made k n (below root parts) c) (folders_made k m (below other parts) d)
unfolding folders_made
folders_alike like root other parts zero n m i c d at to alike = alike
folders_alike like root other parts (suc k) n m i c d at to alike =
    let one : front n (below root parts) ≡ below root (take i parts) = ap (λ j. front j (below root parts)) at ∙ front_below root parts i in
    let two : front m (below other parts) ≡ below other (take i parts) = ap (λ j. front j (below other parts)) to ∙ front_below other parts i in
    given_alike like root other (folder_made (front n (below root parts)) c) (folder_made (front m (below other parts)) d) (folders_made k (n + 1) (below root parts)) (folders_made k (m + 1) (below other parts))
    (rw (one, two) (made_alike like root other (take i parts) c d alike))
    (λ e f alike. folders_alike like root other parts k (n + 1) (m + 1) (i + 1) e f (omega arith) (omega arith) alike)

between : (root : PathValue) (parts : List (List ℕ)) → folders_between root (below root parts) ≡ length parts - 1
between root parts = omega (arith, length-append root.parts parts)

root_moved : (root other : PathValue) → other ≡ moved_path root other root
root_moved root other = sym (itself other) ∙ moved_below root other [] ∙ ap (moved_path root other) (itself root)

root_alike : (like : List (List ℕ) → List ℕ → List ℕ → Bool) (root other : PathValue) (o p : Option Entry) (r s : Result Contents FileFault) → AlikeEntries (like []) o p → AlikeAnswers like root other r s → AlikeAnswers like root other (unless (root_refusal root o) r) (unless (root_refusal other p) s)
root_alike like root other o p r s Neither alike = ap (λ x. fault.NotFolder x) (root_moved root other)
root_alike like root other o p r s (Folders bad) alike = alike
root_alike like root other o p r s (Files a b is) alike = ap (λ x. fault.NotFolder x) (root_moved root other)
root_alike like root other o p r s Links alike = ap (λ x. fault.Link x) (root_moved root other)

pub way_alike : (like : List (List ℕ) → List ℕ → List ℕ → Bool) (root other : PathValue) (parts : List (List ℕ)) (c d : Contents) → Alike like c root d other → AlikeAnswers like root other (way_made root (below root parts) c) (way_made other (below other parts) d)
unfolding way_made
way_alike like root other parts c d alike =
    let roots : AlikeEntries (like []) (entry_at c root) (entry_at d other) =
    subst (λ (r : PathValue). AlikeEntries (like []) (entry_at c r) (entry_at d other)) (itself root)
    (subst (λ (o : PathValue). AlikeEntries (like []) (entry_at c (below root [])) (entry_at d o)) (itself other) (alike [])) in
    let way : AlikeAnswers like root other (folders_made (length parts - 1) (length root.parts + 1) (below root parts) c) (folders_made (length parts - 1) (length other.parts + 1) (below other parts) d) = folders_alike like root other parts (length parts - 1) (length root.parts + 1) (length other.parts + 1) 1 c d refl refl alike in
    root_alike like root other (entry_at c root) (entry_at d other) (folders_made (folders_between root (below root parts)) (length root.parts + 1) (below root parts) c) (folders_made (folders_between other (below other parts)) (length other.parts + 1) (below other parts) d) roots
    (rw (between root parts, between other parts) way)

-- files

bytes_alike : (like : List ℕ → List ℕ → Bool) (o p : Option Entry) → AlikeEntries like o p → like [] [] ≡ true → like (bytes_in o) (bytes_in p) ≡ true
bytes_alike like o p Neither none = none
bytes_alike like o p (Folders bad) none = none
bytes_alike like o p (Files a b is) none = is
bytes_alike like o p Links none = none

reached_alike : (like : List (List ℕ) → List ℕ → List ℕ → Bool) (root other : PathValue) (parts : List (List ℕ)) (c d : Contents) (o p : Option Entry) → AlikeEntries (like parts) o p → Alike like c root d other
    → AlikeAnswers like root other (given (file_asked (below root parts) o) (way_for root (below root parts) c)) (given (file_asked (below other parts) p) (way_for other (below other parts) d))
reached_alike like root other parts c d o p Neither alike = way_alike like root other parts c d alike
reached_alike like root other parts c d o p (Folders bad) alike = ap (λ x. fault.IsFolder x) (moved_below root other parts)
reached_alike like root other parts c d o p (Files a b is) alike = alike
reached_alike like root other parts c d o p Links alike = ap (λ x. fault.Link x) (moved_below root other parts)

pub edited-alike : (like : List (List ℕ) → List ℕ → List ℕ → Bool) (root other : PathValue) (parts : List (List ℕ)) (edit after : List ℕ → List ℕ) (c d : Contents) → like parts [] [] ≡ true → ((a b : List ℕ) → like parts a b ≡ true → like parts (edit a) (after b) ≡ true) → Alike like c root d other → AlikeAnswers like root other (file_edited root (below root parts) edit c) (file_edited other (below other parts) after d)
unfolding file_edited
edited-alike like root other parts edit after c d none edits alike =
    given_alike like root other (given (file_asked (below root parts) (entry_at c (below root parts))) (way_for root (below root parts) c)) (given (file_asked (below other parts) (entry_at d (below other parts))) (way_for other (below other parts) d)) (λ e. Ok (edited (below root parts) edit e)) (λ f. Ok (edited (below other parts) after f))
    (reached_alike like root other parts c d (entry_at c (below root parts)) (entry_at d (below other parts)) (alike parts) alike)
    (λ e f alike. put_alike like e f root other parts (FileEntry (edit (bytes_at e (below root parts)))) (FileEntry (after (bytes_at f (below other parts)))) alike
    (Files (edit (bytes_at e (below root parts))) (after (bytes_at f (below other parts))) (edits _ _ (bytes_alike (like parts) (entry_at e (below root parts)) (entry_at f (below other parts)) (alike parts) none))))

removed_by : (like : List (List ℕ) → List ℕ → List ℕ → Bool) (root other : PathValue) (parts : List (List ℕ)) (c d : Contents) (o p : Option Entry) → 0 < length parts → AlikeEntries (like parts) o p → Alike like c root d other
    → AlikeAnswers like root other (given (file_asked (below root parts) o) (without (below root parts) c)) (given (file_asked (below other parts) p) (without (below other parts) d))
removed_by like root other parts c d o p some Neither alike = alike
removed_by like root other parts c d o p some (Folders bad) alike = ap (λ x. fault.IsFolder x) (moved_below root other parts)
removed_by like root other parts c d o p some (Files a b is) alike = removed_alike like c d root other parts some alike
removed_by like root other parts c d o p some Links alike = ap (λ x. fault.Link x) (moved_below root other parts)

pub removed-alike : (like : List (List ℕ) → List ℕ → List ℕ → Bool) (root other : PathValue) (parts : List (List ℕ)) (c d : Contents) → 0 < length parts → Alike like c root d other → AlikeAnswers like root other (file_removed (below root parts) c) (file_removed (below other parts) d)
unfolding file_removed
removed-alike like root other parts c d some alike = removed_by like root other parts c d (entry_at c (below root parts)) (entry_at d (below other parts)) some (alike parts) alike

cut_by : (like : List (List ℕ) → List ℕ → List ℕ → Bool) (root other : PathValue) (parts : List (List ℕ)) (size : ℕ) (c d : Contents) (o p : Option Entry) → ((a b : List ℕ) → like parts a b ≡ true → like parts (take size a) (take size b) ≡ true) → AlikeEntries (like parts) o p → Alike like c root d other
    → AlikeAnswers like root other (given (file_asked (below root parts) o) (cut_to (below root parts) size c)) (given (file_asked (below other parts) p) (cut_to (below other parts) size d))
cut_by like root other parts size c d o p cuts Neither alike = alike
cut_by like root other parts size c d o p cuts (Folders bad) alike = ap (λ x. fault.IsFolder x) (moved_below root other parts)
cut_by like root other parts size c d o p cuts (Files a b is) alike = put_alike like c d root other parts (FileEntry (take size a)) (FileEntry (take size b)) alike (Files (take size a) (take size b) (cuts a b is))
cut_by like root other parts size c d o p cuts Links alike = ap (λ x. fault.Link x) (moved_below root other parts)

pub cut-alike : (like : List (List ℕ) → List ℕ → List ℕ → Bool) (root other : PathValue) (parts : List (List ℕ)) (size : ℕ) (c d : Contents) → ((a b : List ℕ) → like parts a b ≡ true → like parts (take size a) (take size b) ≡ true) → Alike like c root d other → AlikeAnswers like root other (file_cut (below root parts) size c) (file_cut (below other parts) size d)
unfolding file_cut
cut-alike like root other parts size c d cuts alike = cut_by like root other parts size c d (entry_at c (below root parts)) (entry_at d (below other parts)) cuts (alike parts) alike

-- what is asked

there_alike : (like : List ℕ → List ℕ → Bool) (o p : Option Entry) → AlikeEntries like o p → is_some o ≡ is_some p
there_alike like o p Neither = refl
there_alike like o p (Folders bad) = refl
there_alike like o p (Files a b is) = refl
there_alike like o p Links = refl

not_root : (parts : List (List ℕ)) (o : Option Entry) → 0 < length parts → or_root parts o ≡ o
not_root [] None l = absurd (omega arith)
not_root (part ∷ parts) None l = refl
not_root parts (Some v) l = refl

in_folder : (c : Contents) (root : PathValue) (parts : List (List ℕ)) (name : List ℕ) → tree_below c root (parts ++ name ∷ []) ≡ get c (below (below root parts) (name ∷ []))
in_folder c root parts name =
    let path : below root (parts ++ name ∷ []) ≡ below (below root parts) (name ∷ []) = same_path _ _ refl (sym (append_assoc root.parts parts (name ∷ []))) in
    ap (entry_at c) path ∙ not_root ((root.parts ++ parts) ++ name ∷ []) (get c (below (below root parts) (name ∷ []))) (omega (arith, length-append (root.parts ++ parts) (name ∷ [])))

pub folder-same : (like : List (List ℕ) → List ℕ → List ℕ → Bool) (root other : PathValue) (parts : List (List ℕ)) (c d : Contents) → Alike like c root d other → SameAnswers root other (folder_asked (below root parts) (entry_at c (below root parts))) (folder_asked (below other parts) (entry_at d (below other parts)))
folder-same like root other parts c d alike = told (entry_at c (below root parts)) (entry_at d (below other parts)) (alike parts)
  where
    told : (o p : Option Entry) → AlikeEntries (like parts) o p → SameAnswers root other (folder_asked (below root parts) o) (folder_asked (below other parts) p)
    told o p Neither = refl
    told o p (Folders bad) = refl
    told o p (Files a b is) = ap (λ x. fault.NotFolder x) (moved_below root other parts)
    told o p Links = ap (λ x. fault.Link x) (moved_below root other parts)

pub size-same : (like : List (List ℕ) → List ℕ → List ℕ → Bool) (root other : PathValue) (parts : List (List ℕ)) (c d : Contents) → ((a b : List ℕ) → like parts a b ≡ true → length a ≡ length b) → Alike like c root d other → SameAnswers root other (size_asked (file_asked (below root parts) (entry_at c (below root parts)))) (size_asked (file_asked (below other parts) (entry_at d (below other parts))))
size-same like root other parts c d sizes alike = told (entry_at c (below root parts)) (entry_at d (below other parts)) (alike parts)
  where
    told : (o p : Option Entry) → AlikeEntries (like parts) o p → SameAnswers root other (size_asked (file_asked (below root parts) o)) (size_asked (file_asked (below other parts) p))
    told o p Neither = refl
    told o p (Folders bad) = ap (λ x. fault.IsFolder x) (moved_below root other parts)
    told o p (Files a b is) = ap (λ n. Some n) (sizes a b is)
    told o p Links = ap (λ x. fault.Link x) (moved_below root other parts)

names_alike : (like : List (List ℕ) → List ℕ → List ℕ → Bool) (root other : PathValue) (parts : List (List ℕ)) (c d : Contents) → Alike like c root d other → names_in c (below root parts) ≡ names_in d (below other parts)
names_alike like root other parts c d alike =
    let one = names_listing c (below root parts) in
    listing_names d (below other parts) (names_in c (below root parts)) (record {
      ascending = one.ascending;
      members = λ name.
          one.members name ∙ ap is_some (sym (in_folder c root parts name))
          ∙ there_alike (like (parts ++ name ∷ [])) (tree_below c root (parts ++ name ∷ [])) (tree_below d other (parts ++ name ∷ [])) (alike (parts ++ name ∷ []))
          ∙ ap is_some (in_folder d other parts name);
    })

listed_alike : (like : List (List ℕ) → List ℕ → List ℕ → Bool) (root other : PathValue) (parts : List (List ℕ)) (c d : Contents) (o p : Option Entry) → AlikeEntries (like parts) o p → Alike like c root d other → SameAnswers root other (names_asked c (below root parts) o) (names_asked d (below other parts) p)
listed_alike like root other parts c d o p Neither alike = refl
listed_alike like root other parts c d o p (Folders true) alike = ap (λ x. fault.NameNotText x) (moved_below root other parts)
listed_alike like root other parts c d o p (Folders false) alike = names_alike like root other parts c d alike
listed_alike like root other parts c d o p (Files a b is) alike = ap (λ x. fault.NotFolder x) (moved_below root other parts)
listed_alike like root other parts c d o p Links alike = ap (λ x. fault.Link x) (moved_below root other parts)

pub names-alike : (like : List (List ℕ) → List ℕ → List ℕ → Bool) (root other : PathValue) (parts : List (List ℕ)) (c d : Contents) → Alike like c root d other → SameAnswers root other (names_asked c (below root parts) (entry_at c (below root parts))) (names_asked d (below other parts) (entry_at d (below other parts)))
names-alike like root other parts c d alike = listed_alike like root other parts c d (entry_at c (below root parts)) (entry_at d (below other parts)) (alike parts) alike

read_by : (like : List ℕ → List ℕ → Bool) (root other : PathValue) (parts : List (List ℕ)) (at n : ℕ) (o p : Option Entry) → ((a b : List ℕ) → like a b ≡ true → a ≡ b) → AlikeEntries like o p → SameAnswers root other (read_of at n (bytes_in o) (file_asked (below root parts) o)) (read_of at n (bytes_in p) (file_asked (below other parts) p))
read_by like root other parts at n o p same Neither = refl
read_by like root other parts at n o p same (Folders bad) = ap (λ x. fault.IsFolder x) (moved_below root other parts)
read_by like root other parts at n o p same (Files a b is) = ap (filled_from at n) (same a b is)
read_by like root other parts at n o p same Links = ap (λ x. fault.Link x) (moved_below root other parts)

pub read-alike : (like : List (List ℕ) → List ℕ → List ℕ → Bool) (root other : PathValue) (parts : List (List ℕ)) (at n : ℕ) (c d : Contents) → ((a b : List ℕ) → like parts a b ≡ true → a ≡ b) → Alike like c root d other → SameAnswers root other (read_asked c (below root parts) at n) (read_asked d (below other parts) at n)
read-alike like root other parts at n c d same alike = read_by (like parts) root other parts at n (entry_at c (below root parts)) (entry_at d (below other parts)) same (alike parts)

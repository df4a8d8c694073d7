-- What is left at any moment from the start to a synced head of the mark, and to all that is laid.
use Rattle.std.proofs.Common.{◌≡◌, ◌≢◌, ℕ, ◌-◌, List, [], ◌∷◌, ◌++◌, length, take, codes, Option, None, Some, is_some, Result, Err, refl, ap, sym, ◌∙◌, subst, inl, inr, ⊎_elim, append-nil, arith}
use Rattle.std.proofs.lemmas.List.{length-append, take_at}
use Rattle.std.specs.FinMap.{insert}
use Rattle.cluster_tree.specs.Change.{first_refusal}
use Rattle.cluster_tree.specs.Contents.{Contents, Entry, FileEntry, FolderEntry, LinkEntry, entry_at, is_file, parent}
use Rattle.cluster_tree.specs.PathValue.{PathValue}
use Rattle.cluster_tree.specs.Run.{Course, Moment}
use Rattle.cluster_tree.specs.Stops.{LeavesOnly}
use Rattle.cluster_tree.specs.Tree.{bytes_at, bytes_in}
use Rattle.cluster_tree.specs.declared.file_fault.FileFault.{FileFault}
use Rattle.cluster_tree.proofs.ContentsLemmas.{entry-put, entry-put_other}
use Rattle.cluster_tree.proofs.Images.{holds_first, leaves_only}
use Rattle.cluster_tree.proofs.OrderLemmas.{same_path}
use Rattle.file_edits.specs.Answers.{IsFree}
use Rattle.file_edits.proofs.WayLemmas.{unrefused}
use Rattle.gated_marks.specs.Changes.{head_laid}
use Rattle.gated_marks.specs.Gates.{IsReady as IsGateReady, IsTold, plus, whole_mark}
use Rattle.gated_marks.specs.Left.{IsHead, IsHeadLaid, IsMark}
use Rattle.gated_marks.proofs.BeginLemmas.{begun-allowed, begun-head}
use Rattle.gated_marks.proofs.ByteLemmas.{mark-told, short-incomplete}
use Rattle.layout.specs.Splice.{splice}
use Rattle.layout.proofs.SpliceLemmas.{length-splice}
use Rattle.marked_runs.specs.Moments.{IsBegun, IsUntouched, StandsSynced}
use Rattle.marked_runs.proofs.StopLemmas.{leaves_on, leaves_weaker}
use Rattle.replay_list.specs.declared.listed.Listed.{Listed}
use Rattle.replay_copies.specs.Copying.{Begins, Fills, IsFilling}
use Rattle.replay_copies.specs.Left.{IsBeginLeft}
use Rattle.replay_copies.specs.Laid.{IsReady, IsShut, mark_head, mark_of, whole_gate}
use Rattle.replay_copies.proofs.ListLemmas.{off-both}

-- ---- bytes of a mark whose head is laid

gate-ready : (o : Option Entry) → IsShut (bytes_in o) → IsGateReady (is_file o) mark_head whole_gate (bytes_in o)
gate-ready None shut = omega arith
gate-ready (Some (FolderEntry bad)) shut = omega arith
gate-ready (Some (FileEntry bytes)) shut = shut
gate-ready (Some LinkEntry) shut = omega arith

no-text : (bytes : List ℕ) → bytes ≡ whole_mark mark_head whole_gate [] → IsShut bytes
no-text bytes is =
    short-incomplete mark_head whole_gate bytes (omega (arith, ap length is, ap length (append-nil (splice mark_head whole_gate (plus ∷ []))), length-splice mark_head whole_gate (plus ∷ []) (omega arith)))

told-shut : (bytes : List ℕ) → IsTold mark_head whole_gate [] bytes → IsShut bytes
told-shut bytes (inl shut) = shut
told-shut bytes (inr is) = no-text bytes is

head-shut : (o : Option Entry) (bytes : List ℕ) → IsShut (bytes_in o) → IsHead (is_file o) (length mark_head) (bytes_in o) bytes → IsShut bytes
head-shut o bytes shut head =
    let as_mark : IsMark (is_file o) mark_head whole_gate [] (bytes_in o) bytes = ⊎_elim (λ emptying. inl emptying) (λ short. inr (inl (inl short))) head in
    told-shut bytes (mark-told (is_file o) mark_head whole_gate [] (bytes_in o) bytes (gate-ready o shut) as_mark)

pub parent_is : (root : PathValue) → parent (mark_of root) ≡ root
parent_is root =
    let name : List ℕ = codes "pg_walreplay.unfinished" in
    let size : length (root.parts ++ name ∷ []) - 1 ≡ length root.parts = omega (arith, length-append root.parts (name ∷ [])) in
    same_path _ _ refl (ap (λ n. take n (root.parts ++ name ∷ [])) size ∙ take_at root.parts (name ∷ []) (length root.parts) refl)

pub handed : (P : Result (Unit {0}) FileFault → Type 0) (r : Result (Unit {0}) FileFault) (e : FileFault) → ((f : FileFault) × (r ≡ Err f) × (f ≡ e)) → P (Err e) → P r
handed P r e (f, is, same) h = subst P (sym (is ∙ ap Err same)) h

-- ---- from the start on

module _ (root : PathValue) (listed : List Listed) (a : Moment) where
  abbrev c : Contents
  c = a.state.contents

  abbrev mark : PathValue
  mark = mark_of root

  pub begun-still : LeavesOnly (IsBegun mark a) a.stops a.stops
  begun-still = leaves_only (IsBegun mark a) (IsBegun mark a) a a (holds_first (IsBegun mark a) (IsBegun mark a) a (inl (inl refl)) (λ x image. inl (inr image))) (λ x q. q)

  head-begun : (x : Contents) → IsHeadLaid a mark (length mark_head) x → IsBegun mark a x
  head-begun x (inl untouched) = inl untouched
  head-begun x (inr but) = inr (ap is_some (ap (λ y. entry_at y mark) but.is ∙ entry-put but.before mark (FileEntry but.bytes)))

  filling-begun : (x : Contents) → IsFilling root listed c x → IsBegun mark a x
  filling-begun x filling = inr (ap is_some filling.mark)

  filling-left : (x : Contents) → IsFilling root listed c x → IsBeginLeft root listed c x
  filling-left x filling = record {
    elsewhere = filling.elsewhere;
    told = ⊎_elim (λ shut. inl (subst IsShut (sym (ap bytes_in filling.mark)) shut)) (λ laid. inr laid) filling.told;
  }

  module _ (ready : IsReady root listed c) where
    here : IsBeginLeft root listed c c
    here = record { elsewhere = λ q off. refl; told = inl ready.shut }

    pub left-still : StandsSynced c a → LeavesOnly (IsBeginLeft root listed c) a.stops a.stops
    left-still synced =
        let P : Contents → Type 0 = IsBeginLeft root listed c in
        leaves_only P P a a (holds_first P P a here (λ x left. subst P (sym (synced.left x left)) here)) (λ x q. q)

    pub head-allowed : first_refusal c (head_laid c mark mark_head) ≡ None
    head-allowed =
        begun-head c mark mark_head whole_gate [] (begun-allowed c mark mark_head whole_gate [] (omega arith)
        (⊎_elim (λ file. inl file) (λ none. inr (unrefused c mark root none (parent_is root) ready.rooted)) ready.mark))

    untouched-same : StandsSynced c a → (x : Contents) → IsUntouched a x → x ≡ c
    untouched-same synced x (inl is) = is
    untouched-same synced x (inr image) = synced.left x image

    head-left : StandsSynced c a → (x : Contents) → IsHeadLaid a mark (length mark_head) x → IsBeginLeft root listed c x
    head-left synced x (inl untouched) = subst (IsBeginLeft root listed c) (sym (untouched-same synced x untouched)) here
    head-left synced x (inr but) =
        let same = untouched-same synced but.before but.untouched in
        let is : x ≡ insert c mark (FileEntry but.bytes) = but.is ∙ ap (λ y. insert y mark (FileEntry but.bytes)) same in
        let so : IsHead (is_file (entry_at c mark)) (length mark_head) (bytes_at c mark) but.bytes = subst (λ y. IsHead (is_file (entry_at c mark)) (length mark_head) (bytes_at y mark) but.bytes) same but.so in
        record {
          elsewhere = λ q off. ap (λ y. entry_at y q) is ∙ entry-put_other c mark q (FileEntry but.bytes) (off-both root q off).0;
          told = inl (subst IsShut (sym (ap (λ y. bytes_at y mark) is ∙ ap bytes_in (entry-put c mark (FileEntry but.bytes)))) (head-shut (entry_at c mark) but.bytes ready.shut so));
        }

    module _ (b : Moment) (torn : LeavesOnly (IsHeadLaid a mark (length mark_head)) a.stops b.stops) where
      pub head-broken : (e : FileFault) → IsFree e → ((p : PathValue) → p ≢ mark → entry_at b.state.contents p ≡ entry_at c p) → Begins root listed a b (Err e)
      head-broken e free elsewhere = record {
        elsewhere = λ q off. elsewhere q (off-both root q off).0;
        done = tt;
        refused = inl free;
        stands = inl free;
        left = λ synced. leaves_weaker (IsHeadLaid a mark (length mark_head)) (IsBeginLeft root listed c) a.stops b.stops (head-left synced) torn;
        marked = leaves_weaker (IsHeadLaid a mark (length mark_head)) (IsBegun mark a) a.stops b.stops head-begun torn;
      }

      pub all-begun : (d : Moment) (r : Result (Unit {0}) FileFault) → Course a b → Course b d → Fills root listed c b d r → Begins root listed a d r
      all-begun d r one other fills = record {
        elsewhere = fills.elsewhere;
        done = fills.done;
        refused = fills.refused;
        stands = fills.stands;
        left = λ synced. leaves_on (IsBeginLeft root listed c) a b d one other
            (leaves_weaker (IsHeadLaid a mark (length mark_head)) (IsBeginLeft root listed c) a.stops b.stops (head-left synced) torn)
            (leaves_weaker (IsFilling root listed c) (IsBeginLeft root listed c) b.stops d.stops filling-left fills.left);
        marked = leaves_on (IsBegun mark a) a b d one other
            (leaves_weaker (IsHeadLaid a mark (length mark_head)) (IsBegun mark a) a.stops b.stops head-begun torn)
            (leaves_weaker (IsFilling root listed c) (IsBegun mark a) b.stops d.stops filling-begun fills.left);
      }

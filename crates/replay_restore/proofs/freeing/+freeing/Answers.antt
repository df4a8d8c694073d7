use Rattle.std.proofs.Common.{◌≡◌, ◌-◌, ◌<◌, ◌∷◌, [], drop, length, refl, Ok, false, ap, sym, ◌∙◌, inl, inr, ⊎_elim, subst, arith, rules}
use Rattle.std.proofs.lemmas.Result.{err_from_is_err_and}
use Rattle.std.proofs.lemmas.List.{length-append}
use Rattle.cluster_tree.specs.Contents.{entry_at, is_folder}
use Rattle.cluster_tree.specs.PathValue.{PathValue, below}
use Rattle.file_edits.proofs.ClearLemmas.{held-own}
use Rattle.file_edits.proofs.OwnLemmas.{came-on, own-on, own-read, own-wider}
use Rattle.replay_restore.specs.Freed.{IsBlocked, IsFreeing, goes}
use Rattle.replay_restore.specs.Listing.{has_folder}
use Rattle.replay_restore.proofs.AnswerLemmas.{err-given, err-of, err-wider, ok-of}
use Rattle.replay_restore.proofs.BlockLemmas.{tree-blocked}
use Rattle.replay_restore.proofs.FreeLemmas.{blocked-as, came-elsewhere, hindered-in, none-freed, tree-freed, unlisted-goes}
use Rattle.replay_restore.proofs.InsideLemmas.{asked-blocked, asked-listing, folders-above, freeing-end, freeing-fewer, freeing-on, goes-above, goes-off, next-name, not-below, once}
use Rattle.replay_restore.proofs.KindLemmas.{told-absent, told-folder, told-link}
use Rattle.replay_restore.proofs.freeing.+freeing.Goals as goal

pub free_entry-returns-in_err-path-clause-refused : goal.free_entry-returns-in_err-path-clause-refused
free_entry-returns-in_err-path-clause-refused g t c told folders =
    let p = err_from_is_err_and c.from_residual.result c.from_residual.ensures.1 in
    err-given _ _ _ p (⊎_elim (λ out. inl (inl (inr (inr (inl out))))) (λ deep. inr deep) c.in_err-path.ensures.refused)

pub free_entry-returns-in_err-standing-clause-refused : goal.free_entry-returns-in_err-standing-clause-refused
free_entry-returns-in_err-standing-clause-refused g t c told folders =
    let p = err_from_is_err_and c.from_residual-in_err-standing.result c.from_residual-in_err-standing.ensures.1 in
    let path : PathValue = below c.args.folder.now (c.args.name.now ∷ []) in
    let why = rw c.in_ok-path.ensures.value at (c.in_err-standing.ensures.exact told) in
    err-given _ _ _ p
    (⊎_elim (λ free. inl (inl free))
    (λ is. let link = told-link path (entry_at (g.F.Tree.contents c.args.tree.now) path) _ is in
    inl (inr (subst (IsBlocked path (g.F.Tree.contents c.args.tree.now)) (sym link.0) (held-own path, link.1))))
    why)

pub free_entry-returns-in-Absent-clause-done : goal.free_entry-returns-in-Absent-clause-done
free_entry-returns-in-Absent-clause-done g t c told folders =
    let path : PathValue = below c.args.folder.now (c.args.name.now ∷ []) in
    let some : 0 < length path.parts = omega (arith, length-append c.args.folder.now.parts (c.args.name.now ∷ [])) in
    none-freed c.args.listed.now path (g.F.Tree.contents c.args.tree.now) (g.F.Tree.contents c.standing.new.tree) (g.met.F.Tree.is_tree told c.args.tree.now) some
    (told-absent path (entry_at (g.F.Tree.contents c.args.tree.now) path) (rw c.in_ok-path.ensures.value at (c.in_ok-standing.ensures.exact told) ∙ ap (λ k. Ok k) c.in-Absent.is))
    c.standing.ensures.frame.same

pub free_folder-returns-else-has_folder-clause-done : goal.free_folder-returns-else-has_folder-clause-done
free_folder-returns-else-has_folder-clause-done g t c told folders folder =
    ok-of _ _ c.remove_tree.result _ (c.remove_tree.ensures.exact told)
    (λ removed. tree-freed c.args.listed.now c.args.path.now (g.F.Tree.contents c.args.tree.now) (g.F.Tree.contents c.remove_tree.new.tree) (g.met.F.Tree.is_tree told c.remove_tree.new.tree) c.requires.some removed)

pub free_folder-returns-else-has_folder-clause-refused : goal.free_folder-returns-else-has_folder-clause-refused
free_folder-returns-else-has_folder-clause-refused g t c told folders folder =
    err-of _ _ c.remove_tree.result _ (c.remove_tree.ensures.exact told)
    (λ e. ⊎_elim (λ free. inl free) (λ is. inr (tree-blocked c.args.path.now (g.F.Tree.contents c.args.tree.now) e c.requires.some (omega (arith, c.requires.depth)) folder is)))

pub free_folder-returns-else-has_folder-clause-own : goal.free_folder-returns-else-has_folder-clause-own
free_folder-returns-else-has_folder-clause-own g t c told folders folder =
    let has : has_folder c.args.listed.now c.args.path.now ≡ false = search rules in
    own-wider g.F.Tree.calls _ _ _ _ (λ q held. unlisted-goes c.args.listed.now c.args.path.now (g.F.Tree.contents c.args.tree.now) q folders folder has held) (c.remove_tree.ensures.own told)

pub free_entry-returns-clause-refused : goal.free_entry-returns-clause-refused
free_entry-returns-clause-refused g t c told folders =
    let path : PathValue = below c.args.folder.now (c.args.name.now ∷ []) in
    let asked = rw c.in_ok-path.ensures.value at (c.in_ok-standing.ensures.exact told) in
    let stands = told-folder path (entry_at (g.F.Tree.contents c.args.tree.now) path) (asked ∙ ap (λ k. Ok k) c.in-Folder.is) in
    let why = rw (c.in_ok-path.ensures.value, c.standing.ensures.frame.same) at (c.free_folder.ensures.refused told) in
    err-wider c.free_folder.result _ _ (λ e is. inl is) (why folders stands)

pub free_inside-returns-in_err-names-clause-refused : goal.free_inside-returns-in_err-names-clause-refused
free_inside-returns-in_err-names-clause-refused g t c told folders folder =
    let p = err_from_is_err_and c.from_residual.result c.from_residual.ensures.1 in
    err-given _ _ _ p (⊎_elim (λ free. inl free)
    (λ is. inr (asked-blocked (g.F.Tree.contents c.args.tree.now) c.args.path.now (entry_at (g.F.Tree.contents c.args.tree.now) c.args.path.now) _ refl folder is))
    (c.in_err-names.ensures.exact told))

pub free_inside-returns-clause-done : goal.free_inside-returns-clause-done
free_inside-returns-clause-done g t c told folders has folder =
    let asked = asked-listing (g.F.Tree.contents c.args.tree.now) c.args.path.now (entry_at (g.F.Tree.contents c.args.tree.now) c.args.path.now) c.in_ok-names.names folder (c.in_ok-names.ensures.exact told) in
    let done = rw c.names_of.ensures.frame.same at (c.free_names.ensures.done told) in
    done folders asked.0 has asked.1

pub free_inside-returns-clause-refused : goal.free_inside-returns-clause-refused
free_inside-returns-clause-refused g t c told folders folder =
    let asked = asked-listing (g.F.Tree.contents c.args.tree.now) c.args.path.now (entry_at (g.F.Tree.contents c.args.tree.now) c.args.path.now) c.in_ok-names.names folder (c.in_ok-names.ensures.exact told) in
    let why = rw c.names_of.ensures.frame.same at (c.free_names.ensures.refused told) in
    why folders asked.0 folder

pub free_inside-returns-clause-own : goal.free_inside-returns-clause-own
free_inside-returns-clause-own g t c told folders folder =
    let asked = asked-listing (g.F.Tree.contents c.args.tree.now) c.args.path.now (entry_at (g.F.Tree.contents c.args.tree.now) c.args.path.now) c.in_ok-names.names folder (c.in_ok-names.ensures.exact told) in
    let went = rw c.names_of.ensures.frame.same at (c.free_names.ensures.own told) in
    own-on g.F.Tree.calls _ _ _ _ (own-read g.F.Tree _ _ _ c.names_of.ensures.frame) (went folders asked.0)

pub free_names-returns-in_err-free_entry-clause-refused : goal.free_names-returns-in_err-free_entry-clause-refused
free_names-returns-in_err-free_entry-clause-refused g t c told folders listing folder =
    let first = g.F.Tree.contents c.args.tree.now in
    let now = g.F.Tree.contents c.loop-at.tree in
    let p = err_from_is_err_and c.from_residual.result c.from_residual.ensures.1 in
    let same = c.loop-at.invariant.same told folders listing in
    let why = c.in_err-free_entry.ensures.refused told (folders-above c.args.listed.now c.args.path.now c.name_at.result.now folders) in
    err-given _ _ _ p (⊎_elim (λ free. inl free)
    (λ blocked. inr (blocked-as c.args.path.now first now _
    (freeing-fewer c.args.listed.now c.args.path.now first (g.met.F.Tree.is_tree told c.args.tree.now) c.requires.some (drop c.loop-at.at c.args.names.now) now (c.loop-at.invariant.freeing told folders listing)
    (λ q away. came-elsewhere g.F.Tree (goes c.args.listed.now first c.args.path.now) _ _ q c.loop-at.invariant.frame (c.loop-at.invariant.own told folders listing) away) same) blocked))
    (hindered-in c.args.path.now c.name_at.result.now now _ (ap is_folder same ∙ folder) why))

pub free_names-returns-in_err-free_entry-clause-own : goal.free_names-returns-in_err-free_entry-clause-own
free_names-returns-in_err-free_entry-clause-own g t c told folders listing =
    let first = g.F.Tree.contents c.args.tree.now in
    let now = g.F.Tree.contents c.loop-at.tree in
    let rest = next-name c.args.names.now c.loop-at.at c.name_at.result.now (omega arith) c.loop-at.invariant.within c.name_at.ensures in
    let other = once first c.args.path.now c.args.names.now (c.loop-at.at - 1) c.name_at.result.now (drop c.loop-at.at c.args.names.now) listing rest in
    own-on g.F.Tree.calls _ _ _ _ (c.loop-at.invariant.own told folders listing)
    (own-wider g.F.Tree.calls _ _ _ _ (goes-above c.args.listed.now c.args.path.now _ (drop c.loop-at.at c.args.names.now) c.name_at.result.now first now (g.F.Tree.contents c.free_entry.new.tree) (c.loop-at.invariant.freeing told folders listing) rest other)
    (c.free_entry.ensures.own told (folders-above c.args.listed.now c.args.path.now c.name_at.result.now folders)))

pub free_names-loop-at-preserved : goal.free_names-loop-at-preserved
free_names-loop-at-preserved g t c =
    let first = g.F.Tree.contents c.args.tree.now in
    let now = g.F.Tree.contents c.loop-at.tree in
    let next = g.F.Tree.contents c.free_entry.new.tree in
    let rest = next-name c.args.names.now c.loop-at.at c.name_at.result.now (omega arith) c.loop-at.invariant.within c.name_at.ensures in
    record {
      frame = came-on g.F.Tree _ _ _ c.loop-at.invariant.frame c.free_entry.ensures.frame;
      within = omega (arith, c.loop-at.invariant.within);
      own = λ told folders listing.
          let other = once first c.args.path.now c.args.names.now (c.loop-at.at - 1) c.name_at.result.now (drop c.loop-at.at c.args.names.now) listing rest in
          own-on g.F.Tree.calls _ _ _ _ (c.loop-at.invariant.own told folders listing)
          (own-wider g.F.Tree.calls _ _ _ _ (goes-above c.args.listed.now c.args.path.now _ (drop c.loop-at.at c.args.names.now) c.name_at.result.now first now next (c.loop-at.invariant.freeing told folders listing) rest other)
          (c.free_entry.ensures.own told (folders-above c.args.listed.now c.args.path.now c.name_at.result.now folders)));
      same = λ told folders listing.
          came-elsewhere g.F.Tree _ _ _ c.args.path.now c.free_entry.ensures.frame (c.free_entry.ensures.own told (folders-above c.args.listed.now c.args.path.now c.name_at.result.now folders))
          (goes-off c.args.listed.now now (below c.args.path.now (c.name_at.result.now ∷ [])) c.args.path.now (not-below c.args.path.now c.name_at.result.now))
          ∙ c.loop-at.invariant.same told folders listing;
      freeing = λ told folders listing.
          let other = once first c.args.path.now c.args.names.now (c.loop-at.at - 1) c.name_at.result.now (drop c.loop-at.at c.args.names.now) listing rest in
          let above = folders-above c.args.listed.now c.args.path.now c.name_at.result.now folders in
          freeing-on c.args.listed.now c.args.path.now (drop (c.loop-at.at - 1) c.args.names.now) (drop c.loop-at.at c.args.names.now) c.name_at.result.now first now next (c.loop-at.invariant.freeing told folders listing) rest other
          (λ q away. came-elsewhere g.F.Tree _ _ _ q c.free_entry.ensures.frame (c.free_entry.ensures.own told above) (goes-off c.args.listed.now now (below c.args.path.now (c.name_at.result.now ∷ [])) q away))
          (c.in_ok-free_entry.ensures.done told above);
    }

pub free_names-returns-clause-done : goal.free_names-returns-clause-done
free_names-returns-clause-done g t c told folders listing has folder =
    let none : c.loop-at.at ≡ 0 = omega (arith, c.loop-at-test.false) in
    let first = g.F.Tree.contents c.args.tree.now in
    let now = g.F.Tree.contents c.loop-at.tree in
    freeing-end c.args.listed.now c.args.path.now first (g.met.F.Tree.is_tree told c.args.tree.now) c.requires.some c.args.names.now now listing
    (subst (λ n. IsFreeing c.args.listed.now c.args.path.now (drop n c.args.names.now) first now) none (c.loop-at.invariant.freeing told folders listing)) has folder (c.loop-at.invariant.same told folders listing)

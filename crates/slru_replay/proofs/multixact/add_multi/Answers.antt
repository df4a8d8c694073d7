use Rattle.std.proofs.Common.{◌≡◌, ◌∙◌, Some, None, ap, sym, inl, inr, ⊎_elim}
use Rattle.std.proofs.lemmas.Result.{err_from_is_err_and}
use Rattle.file_edits.proofs.OwnLemmas.{own-on, own-wider}
use Rattle.record_layouts.specs.MultiXact.{multixact_create_of}
use Rattle.slru_replay.specs.Area.{is_of_area}
use Rattle.slru_replay.specs.MultiXact.{create_in, is_of_multixacts}
use Rattle.slru_replay.specs.declared.area.Area.TheVariants.{Offsets, Members}
use Rattle.slru_replay.proofs.MultiXactLemmas.{multi-short, multi-first, multi-then, of-offsets, of-members}
use Rattle.slru_replay.proofs.multixact.add_multi.Goals as goal

pub returns-in_err-set_offset-in-Some-clause-exact : goal.returns-in_err-set_offset-in-Some-clause-exact
returns-in_err-set_offset-in-Some-clause-exact g c told =
    let p = err_from_is_err_and c.from_residual.result c.from_residual.ensures.1 in
    let some : create_in c.args.rec.now c.args.parts.now ≡ Some c.in-Some.create = ap multixact_create_of (sym c.main_bytes.ensures.value) ∙ sym c.read.ensures ∙ c.in-Some.is in
    rw (p.1, p.2) (⊎_elim (λ free. inl free) (λ is. inr (multi-first c.args.root.now _ c.in-Some.create (g.F.Tree.contents c.args.tree.now) _ some is)) (c.in_err-set_offset-in-Some.ensures.exact told))

pub returns-in_err-set_offset-in-Some-clause-own : goal.returns-in_err-set_offset-in-Some-clause-own
returns-in_err-set_offset-in-Some-clause-own g c told =
    own-wider g.F.Tree.calls (is_of_area c.args.root.now Offsets) (is_of_multixacts c.args.root.now) _ _ (of-offsets c.args.root.now) (c.set_offset.ensures.own told)

pub returns-in_err-set_members-in-Some-clause-exact : goal.returns-in_err-set_members-in-Some-clause-exact
returns-in_err-set_members-in-Some-clause-exact g c told =
    let p = err_from_is_err_and c.from_residual-in_err-set_members-in-Some.result c.from_residual-in_err-set_members-in-Some.ensures.1 in
    let some : create_in c.args.rec.now c.args.parts.now ≡ Some c.in-Some.create = ap multixact_create_of (sym c.main_bytes.ensures.value) ∙ sym c.read.ensures ∙ c.in-Some.is in
    let then = multi-then c.args.root.now _ c.in-Some.create (g.F.Tree.contents c.args.tree.now) (g.F.Tree.contents c.set_offset.new.tree) some (c.in_ok-set_offset-in-Some.ensures.exact told) in
    rw (p.1, p.2) (⊎_elim (λ free. inl free) (λ is. inr (then ∙ is)) (c.in_err-set_members-in-Some.ensures.exact told))

pub returns-in_err-set_members-in-Some-clause-own : goal.returns-in_err-set_members-in-Some-clause-own
returns-in_err-set_members-in-Some-clause-own g c told =
    own-on g.F.Tree.calls _ _ _ _
    (own-wider g.F.Tree.calls (is_of_area c.args.root.now Offsets) (is_of_multixacts c.args.root.now) _ _ (of-offsets c.args.root.now) (c.set_offset.ensures.own told))
    (own-wider g.F.Tree.calls (is_of_area c.args.root.now Members) (is_of_multixacts c.args.root.now) _ _ (of-members c.args.root.now) (c.set_members.ensures.own told))

pub returns-in-None-clause-exact : goal.returns-in-None-clause-exact
returns-in-None-clause-exact g c told =
    let none : create_in c.args.rec.now c.args.parts.now ≡ None = ap multixact_create_of (sym c.main_bytes.ensures.value) ∙ sym c.read.ensures ∙ c.in-None.is in
    multi-short c.args.root.now _ (g.F.Tree.contents c.args.tree.now) none

pub returns-in_ok-set_members-in-Some-clause-exact : goal.returns-in_ok-set_members-in-Some-clause-exact
returns-in_ok-set_members-in-Some-clause-exact g c told =
    let some : create_in c.args.rec.now c.args.parts.now ≡ Some c.in-Some.create = ap multixact_create_of (sym c.main_bytes.ensures.value) ∙ sym c.read.ensures ∙ c.in-Some.is in
    multi-then c.args.root.now _ c.in-Some.create (g.F.Tree.contents c.args.tree.now) (g.F.Tree.contents c.set_offset.new.tree) some (c.in_ok-set_offset-in-Some.ensures.exact told)
    ∙ c.in_ok-set_members-in-Some.ensures.exact told

pub returns-in_ok-set_members-in-Some-clause-own : goal.returns-in_ok-set_members-in-Some-clause-own
returns-in_ok-set_members-in-Some-clause-own g c told =
    own-on g.F.Tree.calls _ _ _ _
    (own-wider g.F.Tree.calls (is_of_area c.args.root.now Offsets) (is_of_multixacts c.args.root.now) _ _ (of-offsets c.args.root.now) (c.set_offset.ensures.own told))
    (own-wider g.F.Tree.calls (is_of_area c.args.root.now Members) (is_of_multixacts c.args.root.now) _ _ (of-members c.args.root.now) (c.set_members.ensures.own told))

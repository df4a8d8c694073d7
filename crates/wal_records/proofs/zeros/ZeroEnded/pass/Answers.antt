use Rattle.std.proofs.Common.{◌≡◌, ◌+◌, ◌-◌, ◌++◌, ℕ, List, length, replicate, take, ap, sym, ◌∙◌}
use Rattle.std.proofs.lemmas.List.{length-replicate}
use Rattle.wal_records.specs.Zeros.{ZeroEnded}
use Rattle.wal_records.proofs.ZerosLemmas.{ends_so, seen_so, passed_over, length_with, view_is}
use Rattle.wal_records.proofs.zeros.ZeroEnded.pass.Goals as goal

pub invariant_of-self : goal.invariant_of-self
invariant_of-self c =
    let all : List ℕ = c.self.inside.bytes.items in
    let used : ℕ = c.self.inside.used in
    let zeros : List ℕ = replicate c.args.count 0 in
    let size : used + c.args.count ≡ length (take used all ++ zeros) = ap (λ n. used + n) (sym (length-replicate c.args.count 0)) ∙ length_with used all zeros c.self.invariant.0 in
    ends_so (take used all ++ zeros) _ all (used + c.args.count) size (passed_over used c.args.count all c.self.invariant (rw (← c.self.view_is) at c.requires.room))

pub returns : goal.returns
returns c =
    let all : List ℕ = c.self.inside.bytes.items in
    let used : ℕ = c.self.inside.used in
    let zeros : List ℕ = replicate c.args.count 0 in
    let size : used + c.args.count ≡ length (take used all ++ zeros) = ap (λ n. used + n) (sym (length-replicate c.args.count 0)) ∙ length_with used all zeros c.self.invariant.0 in
    seen_so (take used all ++ zeros) _ all (used + c.args.count) size (passed_over used c.args.count all c.self.invariant (rw (← c.self.view_is) at c.requires.room))
    ∙ view_is _ _ _ _ (ap (λ (z : ZeroEnded). z.bytes ++ zeros) c.self.view_is) (ap (λ (z : ZeroEnded). z.zeros - c.args.count) c.self.view_is ∙ ap (λ n. c.args.self.now.zeros - n) (sym (length-replicate c.args.count 0)))

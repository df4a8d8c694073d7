use Rattle.std.proofs.Common.{◌≡◌, ◌+◌, ◌-◌, ◌≤◌, ◌++◌, ℕ, List, length, replicate, take, ap, sym, ◌∙◌}
use Rattle.layout.specs.Splice.{splice}
use Rattle.wal_records.specs.Zeros.{with_bytes, ZeroEnded}
use Rattle.wal_records.proofs.ZerosLemmas.{ends_so, seen_so, written_over, length_with, kept_len, length_over}
use Rattle.wal_records.proofs.zeros.ZeroEnded.add.Goals as goal

pub invariant_of-self : goal.invariant_of-self
invariant_of-self c =
    let all : List ℕ = c.self.inside.bytes.items in
    let used : ℕ = c.self.inside.used in
    let piece : List ℕ = c.args.bytes.now in
    let fits : length piece ≤ length all - used = rw (← c.self.view_is) at c.requires.room in
    let same : c.put.new.into ≡ (take used all ++ piece) ++ replicate (length all - used - length piece) 0 =
    c.put.ensures ∙ ap (λ (b : List ℕ). splice b used piece) c.deref_mut.ensures.value ∙ written_over used all piece c.self.invariant fits in
    let size : length c.put.new.into ≡ length all = length_over used all piece c.put.new.into c.self.invariant fits same in
    let len : c.self.inside.bytes.len ≡ length c.put.new.into = sym c.deref_mut.ensures.len ∙ ap length c.deref_mut.ensures.value ∙ sym size in
    ends_so (take used all ++ piece) _ _ (used + length piece) (length_with used all piece c.self.invariant.0) (kept_len _ c.put.new.into all len ∙ same)

pub returns : goal.returns
returns c =
    let all : List ℕ = c.self.inside.bytes.items in
    let used : ℕ = c.self.inside.used in
    let piece : List ℕ = c.args.bytes.now in
    let fits : length piece ≤ length all - used = rw (← c.self.view_is) at c.requires.room in
    let same : c.put.new.into ≡ (take used all ++ piece) ++ replicate (length all - used - length piece) 0 =
    c.put.ensures ∙ ap (λ (b : List ℕ). splice b used piece) c.deref_mut.ensures.value ∙ written_over used all piece c.self.invariant fits in
    let size : length c.put.new.into ≡ length all = length_over used all piece c.put.new.into c.self.invariant fits same in
    let len : c.self.inside.bytes.len ≡ length c.put.new.into = sym c.deref_mut.ensures.len ∙ ap length c.deref_mut.ensures.value ∙ sym size in
    seen_so (take used all ++ piece) _ _ (used + length piece) (length_with used all piece c.self.invariant.0) (kept_len _ c.put.new.into all len ∙ same)
    ∙ ap (λ (z : ZeroEnded). with_bytes z piece) c.self.view_is

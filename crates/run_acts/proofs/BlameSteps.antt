-- Counts of faults over two calls, one after the other.
use Rattle.std.proofs.Common.{ℕ, ◌≤◌, ◌⊎◌, inl, inr, arith}
use Rattle.cluster_tree.specs.Causes.{Rose}
use Rattle.run_acts.specs.Answers.{Blames}
use Rattle.run_acts.specs.declared.cause.Cause.{Cause}
use Rattle.run_acts.specs.declared.cause.Cause.TheVariants as cause

pub rose_later : (a b c : ℕ) → a ≤ b → b ≤ c → Rose b c → Rose a c
rose_later a b c l m r = grind arith

pub either_later : (a b c d e f : ℕ) → a ≤ b → b ≤ c → d ≤ e → e ≤ f → Rose b c ⊎ Rose e f → Rose a c ⊎ Rose d f
either_later a b c d e f l m n p (inl r) = inl (rose_later a b c l m r)
either_later a b c d e f l m n p (inr r) = inr (rose_later d e f n p r)

pub blames_after_reads : {ended : Cause} {r r' r'' w w' w'' o o' e e' : ℕ} → r ≤ r' → w ≤ w'
    → Blames ended r' r'' w' w'' o o' e e' → Blames ended r r'' w w'' o o' e e'
blames_after_reads {r = r} {r'} {r''} {w} {w'} {w''} {o} {o'} {e} {e'} rl wl b = record {
  read = λ is. rose_later r r' r'' rl b.reads_later (b.read is);
  write = λ is. rose_later w w' w'' wl b.changes_later (b.write is);
  sink = b.sink;
  reads_later = omega (arith, b.reads_later);
  changes_later = omega (arith, b.changes_later);
  out_later = b.out_later;
  err_later = b.err_later;
}

pub blames_then : {first ended : Cause} {r r' r'' w w' w'' o o' o'' e e' e'' : ℕ}
    → Blames first r r' w w' o o' e e' → Blames ended r' r'' w' w'' o' o'' e' e'' → Blames ended r r'' w w'' o o'' e e''
blames_then {r = r} {r'} {r''} {w} {w'} {w''} {o} {o'} {o''} {e} {e'} {e''} a b = record {
  read = λ is. rose_later r r' r'' a.reads_later b.reads_later (b.read is);
  write = λ is. rose_later w w' w'' a.changes_later b.changes_later (b.write is);
  sink = λ is. either_later o o' o'' e e' e'' a.out_later b.out_later a.err_later b.err_later (b.sink is);
  reads_later = omega arith;
  changes_later = omega arith;
  out_later = omega arith;
  err_later = omega arith;
}

pub blames_none : {r w o e : ℕ} → Blames cause.Done r r w w o o e e
blames_none {r} {w} {o} {e} = record { read = λ h. cc; write = λ h. cc; sink = λ h. cc; reads_later = omega arith; changes_later = omega arith; out_later = omega arith; err_later = omega arith }

pub ruleset blame_steps = (blames_after_reads, blames_then)

-- Files that are counted in turn.
use Rattle.std.proofs.Common.{◌≡◌, ℕ, zero, suc, ◌+◌, ◌-◌, ◌*◌, ◌<◌, ◌≤◌, true, false, nat_lt, Option, Result, Ok, ap, sym, ◌∙◌, inl, inr, arith}
use Rattle.std.specs.Prelude.{if◌then◌else◌}
use Rattle.std.proofs.lemmas.Bool.Decides.{nat_tests}
use Rattle.cluster_tree.specs.Causes.{given}
use Rattle.cluster_tree.specs.Contents.{Contents}
use Rattle.cluster_tree.specs.declared.file_fault.FileFault.{FileFault}
use Rattle.storage_replay.specs.Lengths.{blocks_of, counted}
use Rattle.file_edits.proofs.AnswerLemmas.{Why}

module _ (sizes : Contents → ℕ → Result (Option ℕ) FileFault) (c d : Contents) (per files file : ℕ) where
  next : Option ℕ → Result ℕ FileFault
  next size = if nat_lt (blocks_of per size) per then Ok (file * per + blocks_of per size) else counted (sizes c) per (files - (file + 1)) (file + 1)

  step : file < files → counted (sizes c) per (files - file) file ≡ given (sizes c file) next
  unfolding counted next
  step l = let n : files - file ≡ suc (files - (file + 1)) = omega arith in ap (λ k. counted (sizes c) per k file) n

  asked : {r : Result (Option ℕ) FileFault} → d ≡ c → sizes d file ≡ r → given r next ≡ given (sizes c file) next
  asked same is = ap (λ r. given r next) (sym (ap (λ x. sizes x file) (sym same) ∙ is))

  pub counted-refused : d ≡ c → file < files → counted (sizes c) per (files - file) file ≡ counted (sizes c) per files 0 → (e : FileFault) → Why (sizes d file) e → Why (counted (sizes c) per files 0) e
  counted-refused same l meant e (inl free) = inl free
  counted-refused same l meant e (inr is) = inr (sym meant ∙ step l ∙ sym (asked same is))

  pub counted-short : d ≡ c → file < files → counted (sizes c) per (files - file) file ≡ counted (sizes c) per files 0 → (size : Option ℕ) (there : ℕ) → sizes d file ≡ Ok size → there ≡ blocks_of per size → there < per → counted (sizes c) per files 0 ≡ Ok (file * per + there)
  unfolding next
  counted-short same l meant size there is blocks few =
      let short : nat_lt (blocks_of per size) per ≡ true = grind (arith, nat_tests) in
      sym meant ∙ step l ∙ sym (asked same is) ∙ ap (λ b. if b then Ok (file * per + blocks_of per size) else counted (sizes c) per (files - (file + 1)) (file + 1)) short ∙ ap (λ n. Ok (file * per + n)) (sym blocks)

  pub counted-full : d ≡ c → file < files → counted (sizes c) per (files - file) file ≡ counted (sizes c) per files 0 → (size : Option ℕ) (there : ℕ) → sizes d file ≡ Ok size → there ≡ blocks_of per size → (there < per → ⊥) → counted (sizes c) per (files - (file + 1)) (file + 1) ≡ counted (sizes c) per files 0
  unfolding next
  counted-full same l meant size there is blocks full =
      let long : nat_lt (blocks_of per size) per ≡ false = grind (arith, nat_tests) in
      sym (ap (λ b. if b then Ok (file * per + blocks_of per size) else counted (sizes c) per (files - (file + 1)) (file + 1)) long) ∙ asked same is ∙ sym (step l) ∙ meant

  pub counted-end : files ≤ file → file ≤ files → counted (sizes c) per (files - file) file ≡ counted (sizes c) per files 0 → counted (sizes c) per files 0 ≡ Ok (files * per)
  unfolding counted
  counted-end l m meant =
      let none : files - file ≡ zero = omega arith in
      let same : file ≡ files = omega arith in
      sym meant ∙ ap (λ k. counted (sizes c) per k file) none ∙ ap (λ k. Ok (k * per)) same

-- What the public laws cite.
use Rattle.std.proofs.Common.{◌≡◌, ℕ, ◌<◌, List, sym, ◌∙◌, ap}
use Rattle.page_layout.specs.Bytes.{byte}
use Rattle.page_layout.proofs.BytesLemmas.{byte-page_of}
use Rattle.page_masks.specs.Mask.{mask, masked_byte}
use Rattle.page_masks.proofs.LsnLemmas.{lsn-with_lsn}

at : (block i : ℕ) (p : List ℕ) → i < 8192 → byte (mask block p) i ≡ masked_byte block p i
unfolding mask
at block i p lt = byte-page_of (masked_byte block p) i lt

pub shows : (block i : ℕ) (p q : List ℕ) → mask block p ≡ mask block q → i < 8192 → masked_byte block p i ≡ masked_byte block q i
shows block i p q same lt = sym (at block i p lt) ∙ ap (λ m. byte m i) same ∙ at block i q lt

pub ruleset lsn_rules = (lsn-with_lsn)

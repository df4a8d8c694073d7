-- Chunks of bytes, one after another.
use Rattle.std.proofs.Common.{◌≡◌, ℕ, zero, suc, ◌+◌, ◌*◌, ◌<◌, ◌≤◌, List, [], ◌∷◌, get_or, drop, take, length, refl, sym, ap, ◌∙◌, arith, add-one, drop-cons}
use Rattle.std.proofs.lemmas.List.{drop_all, drop-drop, take-append-drop}
use Rattle.std.specs.Simd.{first_chunks}
use Rattle.wal_base.specs.Crc.{crc_fold}
use Rattle.wal_base.proofs.CrcFold.{fold_append}

-- the state after more chunks
unfoldable pub chunks_fold : ℕ → List (List ℕ) → ℕ
chunks_fold c [] = c
chunks_fold c (chunk ∷ chunks) = chunks_fold (crc_fold c chunk) chunks

pub chunks_step : (c : ℕ) (chunks : List (List ℕ)) (i : ℕ) → i < length chunks
    → chunks_fold c (drop i chunks) ≡ chunks_fold (crc_fold c (get_or chunks i [])) (drop (i + 1) chunks)
unfolding chunks_fold
chunks_step c chunks i h = rw (add-one, drop-cons chunks i []) refl

pub chunks_end : (c : ℕ) (chunks : List (List ℕ)) (i : ℕ) → length chunks ≤ i → chunks_fold c (drop i chunks) ≡ c
unfolding chunks_fold
chunks_end c chunks i h = rw (drop_all i chunks h) refl

none : (n : ℕ) → 0 ≡ 0 * n
none n = omega arith

one_more : (k n : ℕ) → n + k * n ≡ suc k * n
one_more k n = omega arith

-- all bytes are the first chunks, and then the rest
pub chunks_whole : (c n k : ℕ) (bytes : List ℕ) → crc_fold c bytes ≡ crc_fold (chunks_fold c (first_chunks n k bytes)) (drop (k * n) bytes)
unfolding chunks_fold
chunks_whole c n zero bytes = ap (λ k. crc_fold c (drop k bytes)) (none n)
chunks_whole c n (suc k) bytes =
    let first : List ℕ = take n bytes in
    let rest : List ℕ = drop n bytes in
    ap (crc_fold c) (sym (take-append-drop n bytes)) ∙ fold_append c first rest
    ∙ chunks_whole (crc_fold c first) n k rest
    ∙ ap (crc_fold (chunks_fold (crc_fold c first) (first_chunks n k rest))) (drop-drop (k * n) n bytes ∙ ap (λ j. drop j bytes) (one_more k n))

-- A long piece as it is folded for its CRC-32C. Own: "The CRC folds long pieces".
use Rattle.std.specs.Prelude.{ℕ, ◌-◌, List, drop, bit_xor}
use Rattle.std.specs.Simd.Lanes.{zip2}

-- for each place of a piece the byte that stands so far before it, in a list that begins 304
-- bytes before the piece
abbrev pub earlier : ℕ → List ℕ → List ℕ
earlier distance sums = drop (304 - distance) sums

-- each byte of a piece mixed with those at five distances before it. Over the polynomials modulo
-- the CRC's, x^(8·290) is x^(8·136) + x^(8·113) + x^(8·107) + x^(8·32) + 1: a byte adds to the sum
-- what it adds at these five places after its own
unfoldable pub folded : List ℕ → List ℕ → List ℕ
folded piece sums =
    zip2 bit_xor (zip2 bit_xor (zip2 bit_xor (zip2 bit_xor (zip2 bit_xor piece (earlier 154 sums))
    (earlier 177 sums)) (earlier 183 sums)) (earlier 258 sums)) (earlier 290 sums)

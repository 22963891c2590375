-- Words as bytes, where small words take one, and so do up to 32 zeros in a row.
use Rattle.std.specs.Prelude.{ℕ, ◌≡◌, ◌+◌, ◌-◌, ◌*◌, nat_lt, if◌then◌else◌, List, [], ◌∷◌, ◌++◌, replicate}

-- the words that bytes spell, the first of which goes on behind what was read of it, by so many times each byte
abbrev pub words_from : ℕ → ℕ → List ℕ → List ℕ
words_from read times [] = []
words_from read times (b ∷ bytes) =
    if nat_lt b 96 then (read + b * times) ∷ words_from 0 1 bytes
    else if nat_lt b 128 then replicate (b - 95) 0 ++ words_from 0 1 bytes
    else words_from (read + (b - 128) * times) (times * 128) bytes

-- the words that bytes spell: below 96 a byte ends one, below 128 it is so many zeros less 95, else the word goes on
abbrev pub unpacked : List ℕ → List ℕ
unpacked bytes = words_from 0 1 bytes

-- bytes spell these words, whatever comes behind
abbrev pub AreSpelt : List ℕ → List ℕ → Type 0
AreSpelt bytes words = (rest : List ℕ) → unpacked (bytes ++ rest) ≡ words ++ unpacked rest

-- bytes spell these words but the last, which are so many zeros
abbrev pub AreSpeltTo : List ℕ → List ℕ → ℕ → Type 0
AreSpeltTo bytes words n = (first : List ℕ) × AreSpelt bytes first × (words ≡ first ++ replicate n 0)

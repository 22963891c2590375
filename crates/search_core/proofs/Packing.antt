-- Words as bytes: one byte more of a word, and its last.
use Rattle.std.proofs.Common.{ℕ, ◌≡◌, ◌+◌, ◌-◌, ◌*◌, ◌/◌, ◌%◌, ◌<◌, ◌≤◌, List, [], ◌∷◌, ◌++◌, refl, sym, ◌∙◌, ap, subst, arith, append_assoc, replicate}
use Rattle.std.proofs.lemmas.Bool.{lt-ltb, le-ltb, cond-true, cond-false}
use Rattle.std.proofs.lemmas.List.{append-nil, replicate_more}
use Rattle.std.proofs.lemmas.Nat.{div-add-mod'}
use Rattle.search_core.specs.Packed.{words_from, unpacked, AreSpelt, AreSpeltTo}

-- of a word so much is left to write, behind words that were there
pub record IsLeft (old now : List ℕ) (word left : ℕ) : Type 0 where
  pub read : ℕ
  pub times : ℕ
  pub value : word ≡ read + left * times
  pub spelt : (words : List ℕ) → AreSpelt old words → (rest : List ℕ) → unpacked (now ++ rest) ≡ words ++ words_from read times rest

pub all_left : (bytes : List ℕ) (word : ℕ) → IsLeft bytes bytes word word
all_left bytes word =
    record {
      read = 0;
      times = 1;
      value = omega arith;
      spelt = λ (words : List ℕ) (s : AreSpelt bytes words) (rest : List ℕ). s rest;
    }

-- a byte behind which more follow
goes_on : (read times low : ℕ) (rest : List ℕ) → words_from read times ((128 + low) ∷ rest) ≡ words_from (read + low * times) (times * 128) rest
goes_on read times low rest =
    let s : (128 + low) - 128 ≡ low = omega arith in
    cond-false _ _ _ (le-ltb (128 + low) 96 (omega arith))
    ∙ cond-false _ _ _ (le-ltb (128 + low) 128 (omega arith))
    ∙ ap (λ (z : ℕ). words_from (read + z * times) (times * 128) rest) s

value_left : (word read times left : ℕ) → word ≡ read + left * times → word ≡ (read + left % 128 * times) + left / 128 * (times * 128)
value_left word read times left e =
    let d : left / 128 * 128 + left % 128 ≡ left = div-add-mod' left 128 in
    e ∙ ap (λ (z : ℕ). read + z * times) (sym d) ∙ omega arith

pub less_left : (old now new : List ℕ) (word left : ℕ) → IsLeft old now word left → new ≡ now ++ (128 + left % 128) ∷ [] → IsLeft old new word (left / 128)
less_left old now new word left s e =
    record {
      read = s.read + left % 128 * s.times;
      times = s.times * 128;
      value = value_left word s.read s.times left s.value;
      spelt = λ (words : List ℕ) (o : AreSpelt old words) (rest : List ℕ).
          ap (λ (z : List ℕ). unpacked (z ++ rest)) e
          ∙ ap unpacked (append_assoc now ((128 + left % 128) ∷ []) rest)
          ∙ s.spelt words o ((128 + left % 128) ∷ rest)
          ∙ ap (λ (z : List ℕ). words ++ z) (goes_on s.read s.times (left % 128) rest);
    }

-- the last byte
ends : (read times low : ℕ) (rest : List ℕ) → low < 96 → words_from read times (low ∷ rest) ≡ (read + low * times) ∷ unpacked rest
ends read times low rest l = cond-true _ _ _ (lt-ltb low 96 l)

pub none_left : (old now new : List ℕ) (word left : ℕ) → IsLeft old now word left → left < 96 → new ≡ now ++ left ∷ [] → (words : List ℕ) → AreSpelt old words → AreSpelt new (words ++ word ∷ [])
none_left old now new word left s l e words o rest =
    ap (λ (z : List ℕ). unpacked (z ++ rest)) e
    ∙ ap unpacked (append_assoc now (left ∷ []) rest)
    ∙ s.spelt words o (left ∷ rest)
    ∙ ap (λ (z : List ℕ). words ++ z) (ends s.read s.times left rest l)
    ∙ ap (λ (z : ℕ). words ++ z ∷ unpacked rest) (sym s.value)
    ∙ sym (append_assoc words (word ∷ []) (unpacked rest))

-- a byte of zeros
zeros_there : (n : ℕ) (rest : List ℕ) → 0 < n → n ≤ 32 → unpacked ((95 + n) ∷ rest) ≡ replicate n 0 ++ unpacked rest
zeros_there n rest l f =
    let s : (95 + n) - 95 ≡ n = omega arith in
    cond-false _ _ _ (le-ltb (95 + n) 96 (omega arith))
    ∙ cond-true _ _ _ (lt-ltb (95 + n) 128 (omega arith))
    ∙ ap (λ (z : ℕ). replicate z 0 ++ unpacked rest) s

pub zeros_more : (old new : List ℕ) (n : ℕ) → 0 < n → n ≤ 32 → new ≡ old ++ (95 + n) ∷ [] → (words : List ℕ) → AreSpelt old words → AreSpelt new (words ++ replicate n 0)
zeros_more old new n l f e words o rest =
    ap (λ (z : List ℕ). unpacked (z ++ rest)) e
    ∙ ap unpacked (append_assoc old ((95 + n) ∷ []) rest)
    ∙ o ((95 + n) ∷ rest)
    ∙ ap (λ (z : List ℕ). words ++ z) (zeros_there n rest l f)
    ∙ sym (append_assoc words (replicate n 0) (unpacked rest))

pub no_zeros : (bytes : List ℕ) (n : ℕ) → n ≤ 0 → (words : List ℕ) → AreSpelt bytes words → AreSpelt bytes (words ++ replicate n 0)
no_zeros bytes n l words o =
    let z : n ≡ 0 = omega arith in
    subst (λ (n : List ℕ). AreSpelt bytes n) (sym (append-nil words) ∙ ap (λ (n : ℕ). words ++ replicate n 0) (sym z)) o

-- one zero more that is not written yet
pub counted : (bytes : List ℕ) (word n : ℕ) → word ≡ 0 → (words : List ℕ) → AreSpeltTo bytes words n → AreSpeltTo bytes (words ++ word ∷ []) (n + 1)
counted bytes word n e words s = (
  s.0,
  s.1,
  ap (λ (z : List ℕ). z ++ word ∷ []) s.2
      ∙ append_assoc s.0 (replicate n 0) (word ∷ [])
      ∙ ap (λ (z : ℕ). s.0 ++ (replicate n 0 ++ z ∷ [])) e
      ∙ ap (λ (z : List ℕ). s.0 ++ z) (replicate_more n 0),
)

-- all zeros, and a word behind them
pub written : (old mid new : List ℕ) (word n : ℕ) → ((words : List ℕ) → AreSpelt old words → AreSpelt mid (words ++ replicate n 0))
    → ((words : List ℕ) → AreSpelt mid words → AreSpelt new (words ++ word ∷ []))
    → (words : List ℕ) → AreSpeltTo old words n → AreSpeltTo new (words ++ word ∷ []) 0
written old mid new word n f g words s = (
  words ++ word ∷ [],
  g words (subst (λ (z : List ℕ). AreSpelt mid z) (sym s.2) (f s.0 s.1)),
  sym (append-nil (words ++ word ∷ [])),
)

pub none_spelt : AreSpeltTo [] [] 0
none_spelt = ([], (λ (rest : List ℕ). refl), refl)

-- all words, behind the last zeros
pub spelt_all : (old new words : List ℕ) (n : ℕ) → ((w : List ℕ) → AreSpelt old w → AreSpelt new (w ++ replicate n 0))
    → AreSpeltTo old words n → unpacked new ≡ words
spelt_all old new words n f s =
    ap unpacked (sym (append-nil new)) ∙ f s.0 s.1 [] ∙ append-nil (s.0 ++ replicate n 0) ∙ sym s.2

-- Words from which what they are the words of is read again, whatever comes behind them.
use Rattle.std.proofs.Common.{Option, None, Some, ℕ, zero, suc, ◌≡◌, List, [], ◌∷◌, ◌++◌, length, refl, sym, ◌∙◌, ap, arith, append_assoc}
use Rattle.std.specs.List.{flat_map}
use Rattle.std.proofs.lemmas.Option.{some_pair_parts}
use Rattle.ipc_ids.specs.declared.message.PhoneState.{PhoneState}
use Rattle.ipc_ids.specs.declared.message.PhoneState.TheVariants.{Free, Connecting, Connected, HungUp, Slammed}
use Rattle.state_words.specs.Words.{number_words, option_words, list_words, phone_words, row_words, rows_words}

pub record Splits {A : Type 0} (words : A → List ℕ) : Type 0 where
  pub split : (a b : A) (s t : List ℕ) → words a ++ s ≡ words b ++ t → (a ≡ b) × (s ≡ t)

-- so many in a row
each_splits : {A : Type 0} (words : A → List ℕ) → Splits words → (xs ys : List A) (s t : List ℕ) → length xs ≡ length ys → flat_map words xs ++ s ≡ flat_map words ys ++ t → (xs ≡ ys) × (s ≡ t)
each_splits words w [] [] s t l e = (refl, e)
each_splits words w [] (y ∷ ys) s t l e = absurd (omega arith)
each_splits words w (x ∷ xs) [] s t l e = absurd (omega arith)
each_splits words w (x ∷ xs) (y ∷ ys) s t l e =
    let f : words x ++ (flat_map words xs ++ s) ≡ words y ++ (flat_map words ys ++ t) = sym (append_assoc (words x) (flat_map words xs) s) ∙ e ∙ append_assoc (words y) (flat_map words ys) t in
    let h = w.split x y (flat_map words xs ++ s) (flat_map words ys ++ t) f in
    let k : length xs ≡ length ys = omega arith in
    let r = each_splits words w xs ys s t k h.1 in
    (cc, r.1)

pair_split : {A B : Type 0} (f : A → List ℕ) (g : B → List ℕ) → Splits f → Splits g → (p q : A × B) (s t : List ℕ) → (f p.0 ++ g p.1) ++ s ≡ (f q.0 ++ g q.1) ++ t → (p ≡ q) × (s ≡ t)
pair_split f g v w p q s t e =
    let h : f p.0 ++ (g p.1 ++ s) ≡ f q.0 ++ (g q.1 ++ t) = sym (append_assoc (f p.0) (g p.1) s) ∙ e ∙ append_assoc (f q.0) (g q.1) t in
    let a = v.split p.0 q.0 (g p.1 ++ s) (g q.1 ++ t) h in
    let b = w.split p.1 q.1 s t a.1 in
    (ap (λ z. (z, p.1)) a.0 ∙ ap (λ z. (q.0, z)) b.0, b.1)

pub list_splits : {A : Type 0} (words : A → List ℕ) → Splits words → Splits (list_words words)
list_splits words w = record { split = λ xs ys s t e. each_splits words w xs ys s t (cc) (cc) }

-- what is read again from the words
pub read_splits : {A : Type 0} (words : A → List ℕ) (read : List ℕ → Option (A × List ℕ)) → ((a : A) (s : List ℕ) → read (words a ++ s) ≡ Some (a, s)) → Splits words
read_splits words read h =
    record { split = λ a b s t e. some_pair_parts a b s t (sym (h a s) ∙ ap read e ∙ h b t) }

pub pair_splits : {A B : Type 0} (f : A → List ℕ) (g : B → List ℕ) → Splits f → Splits g → Splits (λ (p : A × B). f p.0 ++ g p.1)
pair_splits f g v w =
    record { split = λ p q s t e. pair_split f g v w p q s t e }

pub by_splits : {A B : Type 0} (f : B → List ℕ) → Splits f → (to : A → B) (from : B → A) → ((a : A) → from (to a) ≡ a) → Splits (λ (a : A). f (to a))
by_splits f w to from back =
    record {
      split = λ a b s t e.
          (let h : (to a ≡ to b) × (s ≡ t) = w.split (to a) (to b) s t e in
          (sym (back a) ∙ ap from h.0 ∙ back b, h.1));
    }

read_number : List ℕ → Option (ℕ × List ℕ)
read_number [] = None
read_number (n ∷ s) = Some (n, s)

pub number_splits : Splits number_words
unfolding read_number
number_splits = read_splits number_words read_number (λ n s. refl)

read_phone : List ℕ → Option (PhoneState × List ℕ)
read_phone [] = None
read_phone (zero ∷ s) = Some (Free, s)
read_phone (suc zero ∷ s) = Some (Connecting, s)
read_phone (suc (suc zero) ∷ s) = Some (HungUp, s)
read_phone (suc (suc (suc zero)) ∷ s) = Some (Slammed, s)
read_phone (suc (suc (suc (suc n))) ∷ []) = None
read_phone (suc (suc (suc (suc n))) ∷ (u ∷ s)) = Some (Connected (record { 0 = u }), s)

phone_read : (a : PhoneState) (s : List ℕ) → read_phone (phone_words a ++ s) ≡ Some (a, s)
unfolding read_phone
phone_read Free s = refl
phone_read Connecting s = refl
phone_read HungUp s = refl
phone_read Slammed s = refl
phone_read (Connected u) s = refl

pub phone_splits : Splits phone_words
phone_splits = read_splits phone_words read_phone phone_read

pub rows_splits : Splits rows_words
rows_splits = list_splits row_words (list_splits phone_words phone_splits)

-- options
option_split : {A : Type 0} (words : A → List ℕ) → Splits words → (a b : Option A) (s t : List ℕ) → option_words words a ++ s ≡ option_words words b ++ t → (a ≡ b) × (s ≡ t)
option_split words w None None s t e = (refl, cc)
option_split words w None (Some y) s t e = absurd (cc)
option_split words w (Some x) None s t e = absurd (cc)
option_split words w (Some x) (Some y) s t e =
    let f : words x ++ s ≡ words y ++ t = cc in
    let h : (x ≡ y) × (s ≡ t) = w.split x y s t f in
    (ap Some h.0, h.1)

pub option_splits : {A : Type 0} (words : A → List ℕ) → Splits words → Splits (option_words words)
option_splits words w = record { split = option_split words w }

-- ---- the same, of words that the type tells

-- the words of both
abbrev pub both : {A B : Type 0} → (A → List ℕ) → (B → List ℕ) → A × B → List ℕ
both f g p = f p.0 ++ g p.1

pub and_split : {A B : Type 0} {f : A → List ℕ} {g : B → List ℕ} → Splits f → Splits g → Splits (both f g)
and_split {A} {B} {f} {g} v w = pair_splits f g v w

pub each_split : {A : Type 0} {f : A → List ℕ} → Splits f → Splits (list_words f)
each_split {A} {f} w = list_splits f w

pub some_split : {A : Type 0} {f : A → List ℕ} → Splits f → Splits (option_words f)
some_split {A} {f} w = option_splits f w

pub as_split : {A B : Type 0} {f : B → List ℕ} → Splits f → (to : A → B) (from : B → A)
    → ((a : A) → from (to a) ≡ a) → Splits (λ (a : A). f (to a))
as_split {A} {B} {f} w to from back = by_splits f w to from back

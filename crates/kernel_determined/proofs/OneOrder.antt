-- Things in an order are determined by which they are, and what is done in turn by what each turn does.
use Rattle.std.proofs.Common.{◌≡◌, ℕ, ◌<◌, ◌⊎◌, inl, inr, List, [], ◌∷◌, ◌++◌, refl, sym, ap, subst, ◌∙◌, arith}
use Rattle.std.proofs.lemmas.Option.{same_Some}
use Rattle.ipc_ids.specs.declared.entry.Entry.{Entry}
use Rattle.call_slab.specs.declared.call.Call.{Call}
use Rattle.answerbox.specs.Calls.{CallTable}
use Rattle.switchboard.specs.State.{KernelState}
use Rattle.kernel_determined.specs.Frames.{CameBefore}
use Rattle.kernel_determined.specs.Turns.{IsAmong, ComesBeforeEach, AreInOrder, InTurn, EachInTurn, Then}

-- no two calls came before each other
pub came_apart : (q : CallTable) (m n : ℕ) → CameBefore q m n → CameBefore q n m → ⊥
came_apart q m n x y =
    let c : x.0 ≡ y.1 = same_Some x.0 y.1 (sym x.2 ∙ y.3) in
    let d : x.1 ≡ y.0 = same_Some x.1 y.0 (sym x.3 ∙ y.2) in
    let less : x.0.stamp < x.1.stamp = x.4 in
    let more : y.0.stamp < y.1.stamp = y.4 in
    let e : x.0.stamp ≡ y.1.stamp = ap (λ (z : Call). z.stamp) c in
    let f : x.1.stamp ≡ y.0.stamp = ap (λ (z : Call). z.stamp) d in
    omega (arith, less, more, e, f)

-- two orders of the same things are one, where no two come before each other
module _ {A : Type 0} (Before : A → A → Type 0) (apart : (x y : A) → Before x y → Before y x → ⊥) where
  before_one : (x y : A) (ys : List A) → ComesBeforeEach Before x ys → IsAmong y ys → Before x y
  before_one x y [] h is = absurd is
  before_one x y (z ∷ zs) h (inl e) = subst (Before x) (sym e) h.0
  before_one x y (z ∷ zs) h (inr later) = before_one x y zs h.1 later

  -- the first of both is one
  heads : (x y : A) (xs ys : List A) → ComesBeforeEach Before x xs → ComesBeforeEach Before y ys
      → (x ≡ y) ⊎ IsAmong x ys → (y ≡ x) ⊎ IsAmong y xs → x ≡ y
  heads x y xs ys bx by (inl e) g = e
  heads x y xs ys bx by (inr f) (inl e) = sym e
  heads x y xs ys bx by (inr f) (inr g) = absurd (apart x y (before_one x y xs bx g) (before_one y x ys by f))

  behind : (x y z : A) (xs ys : List A) → ComesBeforeEach Before x xs → x ≡ y → IsAmong z xs
      → (z ≡ y) ⊎ IsAmong z ys → IsAmong z ys
  behind x y z xs ys bx e is (inr later) = later
  behind x y z xs ys bx e is (inl f) =
      let own : Before x x = subst (Before x) (f ∙ sym e) (before_one x z xs bx is) in
      absurd (apart x x own own)

  pub order_same : (xs ys : List A) → AreInOrder Before xs → AreInOrder Before ys
      → ((x : A) → IsAmong x xs → IsAmong x ys) → ((x : A) → IsAmong x ys → IsAmong x xs) → xs ≡ ys
  order_same [] [] f g to from = refl
  order_same [] (y ∷ ys) f g to from = absurd (from y (inl refl))
  order_same (x ∷ xs) [] f g to from = absurd (to x (inl refl))
  order_same (x ∷ xs) (y ∷ ys) f g to from =
      let head : x ≡ y = heads x y xs ys f.0 g.0 (to x (inl refl)) (from y (inl refl)) in
      let tail : xs ≡ ys = order_same xs ys f.1 g.1 (λ n h. behind x y n xs ys f.0 head h (to n (inr h)))
      (λ n h. behind y x n ys xs g.0 (sym head) h (from n (inr h))) in
      cc

-- a turn of one thing is determined, and keeps what that needs
pub record IsDetermined {A : Type 0} (Turn : KernelState → A → KernelState → List Entry → Type 0)
    (I : KernelState → Type 0) : Type 0 where
  pub same : (k : KernelState) (x : A) (a b : KernelState) (m n : List Entry) → I k → Turn k x a m → Turn k x b n
      → (a ≡ b) × (m ≡ n)
  pub keeps : (k : KernelState) (x : A) (a : KernelState) (m : List Entry) → I k → Turn k x a m → I a

module _ {A : Type 0} (Turn : KernelState → A → KernelState → List Entry → Type 0) (I : KernelState → Type 0)
    (one : IsDetermined Turn I) where
  turns_same : (xs : List A) (k a b : KernelState) (m n : List Entry) → I k → InTurn Turn xs k a m
      → InTurn Turn xs k b n
      → (a ≡ b) × (m ≡ n)
  turns_same [] k a b m n i f g = (f.0 ∙ sym g.0, f.1 ∙ sym g.1)
  turns_same (x ∷ xs) k a b m n i f g =
      let now = one.same k x f.0 g.0 f.1 g.1 i f.3 g.3 in
      let rest : InTurn Turn xs g.0 a f.2 = subst (λ (j : KernelState). InTurn Turn xs j a f.2) now.0 f.4 in
      let later = turns_same xs g.0 a b f.2 g.2 (one.keeps k x g.0 g.1 i g.3) rest g.4 in
      (later.0, f.5 ∙ ap (λ es. es ++ f.2) now.1 ∙ ap (λ es. g.1 ++ es) later.1 ∙ sym g.5)

  turns_keep : (xs : List A) (k a : KernelState) (m : List Entry) → I k → InTurn Turn xs k a m → I a
  turns_keep [] k a m i f = subst I (sym f.0) i
  turns_keep (x ∷ xs) k a m i f = turns_keep xs f.0 a f.2 (one.keeps k x f.0 f.1 i f.3) f.4

  module _ (IsSo : A → Type 0) (Before : A → A → Type 0) (apart : (x y : A) → Before x y → Before y x → ⊥) where
    pub each_same : (k a b : KernelState) (m n : List Entry) → I k → EachInTurn IsSo Before Turn k a m
        → EachInTurn IsSo Before Turn k b n → (a ≡ b) × (m ≡ n)
    each_same k a b m n i x y =
        let same : x.things ≡ y.things = order_same Before apart x.things y.things x.order y.order
        (λ z h. y.all z (x.each z h)) (λ z h. x.all z (y.each z h)) in
        turns_same y.things k a b m n i (subst (λ xs. InTurn Turn xs k a m) same x.turns) y.turns

    pub each_keeps : (k a : KernelState) (m : List Entry) → I k → EachInTurn IsSo Before Turn k a m → I a
    each_keeps k a m i x = turns_keep x.things k a m i x.turns

-- a part is determined where this holds before it, and brings this about
pub record IsPart (Part : KernelState → KernelState → List Entry → Type 0) (I J : KernelState → Type 0) : Type 0 where
  pub same : (k a b : KernelState) (m n : List Entry) → I k → Part k a m → Part k b n → (a ≡ b) × (m ≡ n)
  pub keeps : (k a : KernelState) (m : List Entry) → I k → Part k a m → J a

pub each_part : {A : Type 0} (IsSo : KernelState → A → Type 0) (Before : KernelState → A → A → Type 0)
    (Turn : KernelState → A → KernelState → List Entry → Type 0) (I : KernelState → Type 0) → IsDetermined Turn I
    → ((k : KernelState) (x y : A) → Before k x y → Before k y x → ⊥)
    → IsPart (λ k a m. EachInTurn (IsSo k) (Before k) Turn k a m) I I
each_part IsSo Before Turn I one apart = record {
  same = λ k a b m n i x y. each_same Turn I one (IsSo k) (Before k) (apart k) k a b m n i x y;
  keeps = λ k a m i x. each_keeps Turn I one (IsSo k) (Before k) (apart k) k a m i x;
}

-- so are two parts, one after another
pub then_part : (First Next : KernelState → KernelState → List Entry → Type 0) (I J L : KernelState → Type 0)
    → IsPart First I J → IsPart Next J L → IsPart (Then First Next) I L
then_part First Next I J L p q = record {
  same = λ k a b m n i x y.
      let now = p.same k x.0 y.0 x.1 y.1 i x.3 y.3 in
      let rest : Next y.0 a x.2 = subst (λ (j : KernelState). Next j a x.2) now.0 x.4 in
      let later = q.same y.0 a b x.2 y.2 (p.keeps k y.0 y.1 i y.3) rest y.4 in
      (later.0, x.5 ∙ ap (λ es. es ++ x.2) now.1 ∙ ap (λ es. y.1 ++ es) later.1 ∙ sym y.5);
  keeps = λ k a m i x. q.keeps x.0 a x.2 (p.keeps k x.0 x.1 i x.3) x.4;
}

-- A text that is written part by part, as pens keep it.
use Rattle.std.proofs.Common.{◌≡◌, ℕ, List, ◌++◌, map, ap, sym, ◌∙◌, append_assoc}
use Rattle.trace_print.proofs.Marks.{map_append}

pub two : {m n : List ℕ} (f : ℕ → ℕ) (s a b : List ℕ) → m ≡ s ++ map f a → n ≡ m ++ map f b → n ≡ s ++ map f (a ++ b)
two f s a b x y =
    y ∙ ap (λ (t : List ℕ). t ++ map f b) x ∙ append_assoc s (map f a) (map f b)
    ∙ ap (λ (t : List ℕ). s ++ t) (sym (map_append f a b))

pub three :
    {l m n : List ℕ} (f : ℕ → ℕ) (s a b c : List ℕ) → l ≡ s ++ map f a → m ≡ l ++ map f b → n ≡ m ++ map f c →
    n ≡ s ++ map f (a ++ b ++ c)
three f s a b c x y z = two f s (a ++ b) c (two f s a b x y) z

pub four :
    {k l m n : List ℕ} (f : ℕ → ℕ) (s a b c d : List ℕ) → k ≡ s ++ map f a → l ≡ k ++ map f b → m ≡ l ++ map f c →
    n ≡ m ++ map f d → n ≡ s ++ map f (a ++ b ++ c ++ d)
four f s a b c d x y z u = two f s (a ++ b ++ c) d (three f s a b c x y z) u

pub five :
    {j k l m n : List ℕ} (f : ℕ → ℕ) (s a b c d e : List ℕ) → j ≡ s ++ map f a → k ≡ j ++ map f b → l ≡ k ++ map f c →
    m ≡ l ++ map f d → n ≡ m ++ map f e → n ≡ s ++ map f (a ++ b ++ c ++ d ++ e)
five f s a b c d e x y z u v = two f s (a ++ b ++ c ++ d) e (four f s a b c d x y z u) v

pub six :
    {i j k l m n : List ℕ} (f : ℕ → ℕ) (s a b c d e h : List ℕ) → i ≡ s ++ map f a → j ≡ i ++ map f b → k ≡ j ++ map f c →
    l ≡ k ++ map f d → m ≡ l ++ map f e → n ≡ m ++ map f h → n ≡ s ++ map f (a ++ b ++ c ++ d ++ e ++ h)
six f s a b c d e h x y z u v w = two f s (a ++ b ++ c ++ d ++ e) h (five f s a b c d e x y z u v) w

-- two parts that were added as one
pub joined :
    {m n : List ℕ} (f : ℕ → ℕ) (s a b c : List ℕ) → m ≡ s ++ map f a → n ≡ m ++ map f (b ++ c) → n ≡ s ++ map f (a ++ b ++ c)
joined f s a b c x y = two f s a (b ++ c) x y ∙ ap (λ (t : List ℕ). s ++ map f t) (sym (append_assoc a b c))

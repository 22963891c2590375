-- Things that have their turn one after another: which of them, in which order, and what each turn does.
use Rattle.std.specs.Prelude.{◌≡◌, ◌⊎◌, ⊤, List, [], ◌∷◌, ◌++◌}
use Rattle.ipc_ids.specs.declared.entry.Entry.{Entry}
use Rattle.switchboard.specs.State.{KernelState}

-- a thing is one of these
abbrev pub IsAmong : {A : Type 0} → A → List A → Type 0
IsAmong x [] = ⊥
IsAmong x (y ∷ ys) = (x ≡ y) ⊎ IsAmong x ys

-- it comes before each of these
abbrev pub ComesBeforeEach : {A : Type 0} → (A → A → Type 0) → A → List A → Type 0
ComesBeforeEach Before x [] = ⊤
ComesBeforeEach Before x (y ∷ ys) = Before x y × ComesBeforeEach Before x ys

-- each of these comes before those behind it
abbrev pub AreInOrder : {A : Type 0} → (A → A → Type 0) → List A → Type 0
AreInOrder Before [] = ⊤
AreInOrder Before (x ∷ xs) = ComesBeforeEach Before x xs × AreInOrder Before xs

-- a turn for each of these, one after another, and the entries of each behind those of the one before
abbrev pub InTurn : {A : Type 0} → (KernelState → A → KernelState → List Entry → Type 0) → List A
    → KernelState → KernelState → List Entry → Type 0
InTurn Turn [] before after told = (after ≡ before) × (told ≡ [])
InTurn Turn (x ∷ xs) before after told =
    (between : KernelState) × (now : List Entry) × (later : List Entry) × Turn before x between now
    × InTurn Turn xs between after later × (told ≡ now ++ later)

-- each thing that is so has its turn, and no other, in this order
pub record EachInTurn {A : Type 0} (IsSo : A → Type 0) (Before : A → A → Type 0)
    (Turn : KernelState → A → KernelState → List Entry → Type 0) (before after : KernelState)
    (told : List Entry) : Type 0 where
  pub things : List A
  pub each : (x : A) → IsAmong x things → IsSo x
  pub all : (x : A) → IsSo x → IsAmong x things
  pub order : AreInOrder Before things
  pub turns : InTurn Turn things before after told

-- one part, and then another on what it leaves
abbrev pub Then : (KernelState → KernelState → List Entry → Type 0)
    → (KernelState → KernelState → List Entry → Type 0) → KernelState → KernelState → List Entry → Type 0
Then First Next before after told =
    (between : KernelState) × (now : List Entry) × (later : List Entry) × First before between now
    × Next between after later × (told ≡ now ++ later)

-- What is written of a state, so that states are told apart.
use Rattle.std.specs.Prelude.{ℕ, List, [], ◌∷◌, length, Option, None, Some, Bool, if◌then◌else◌}
use Rattle.std.specs.List.{flat_map}
use Rattle.ipc_ids.specs.declared.message.PhoneState.{PhoneState}
use Rattle.ipc_ids.specs.declared.message.PhoneState.TheVariants.{Free, Connecting, Connected, HungUp, Slammed}

abbrev pub number_words : ℕ → List ℕ
number_words n = n ∷ []

abbrev pub bool_words : Bool → List ℕ
bool_words b = (if b then 1 else 0) ∷ []

-- how many there are, and the words of each
abbrev pub list_words : {A : Type 0} → (A → List ℕ) → List A → List ℕ
list_words words xs = length xs ∷ flat_map words xs

abbrev pub option_words : {A : Type 0} → (A → List ℕ) → Option A → List ℕ
option_words words None = 0 ∷ []
option_words words (Some x) = 1 ∷ words x

-- the words of what is there
abbrev pub at_words : {A : Type 0} → (A → List ℕ) → Option A → List ℕ
at_words words None = []
at_words words (Some x) = words x

abbrev pub phone_words : PhoneState → List ℕ
phone_words Free = 0 ∷ []
phone_words Connecting = 1 ∷ []
phone_words HungUp = 2 ∷ []
phone_words Slammed = 3 ∷ []
phone_words (Connected u) = 4 ∷ u.0 ∷ []

abbrev pub row_words : List PhoneState → List ℕ
row_words row = list_words phone_words row

abbrev pub rows_words : List (List PhoneState) → List ℕ
rows_words rows = list_words row_words rows

-- The codes that are kept of the places that were seen, and how a search has come so far by them.
use Rattle.std.specs.Prelude.{ℕ, ◌≡◌, ◌+◌, ◌≤◌, ◌++◌, ◌⊎◌, List, [], ◌∷◌, Some, slice_get, length}
use Rattle.std.specs.List.{between}
use Rattle.search_core.specs.Packed.{unpacked}
use Rattle.search_core.specs.Node.{IsUnderWay, with_node}
use Rattle.search_core.specs.declared.codes.Codes.{Codes}
use Rattle.search_core.specs.declared.nodes.Node.{Node}

-- these bytes are kept of the place of this number
pub record IsKept (codes : Codes) (at : ℕ) (bytes : List ℕ) : Type 0 where
  pub from : ℕ
  pub to : ℕ
  pub begins : slice_get codes.bounds.items at ≡ Some from
  pub ends : slice_get codes.bounds.items (at + 1) ≡ Some to
  pub same : between from to codes.bytes.items ≡ bytes

-- of each place the code is kept, packed, and nothing more
pub record AreKept (code : List ℕ → List ℕ) (trails : List (List ℕ)) (codes : Codes) : Type 0 where
  pub each : (k : ℕ) (p bytes : List ℕ) → slice_get trails k ≡ Some p → IsKept codes k bytes → unpacked bytes ≡ code p
  pub whole : length codes.bounds.items ≡ length trails + 1
  pub within : (k n : ℕ) → slice_get codes.bounds.items k ≡ Some n → n ≤ length codes.bytes.items
  pub last : slice_get codes.bounds.items (length trails) ≡ Some (length codes.bytes.items)

-- ---- how far a search has come

-- it has done all moves from the places before number i, and the moves below m from that one, and the codes are kept
pub record HasCome (moves most : ℕ) (meets : List ℕ → Type 0) (code : List ℕ → List ℕ) (trails : List (List ℕ))
    (codes : Codes) (i m : ℕ) : Type 0 where
  pub under_way : IsUnderWay moves most meets code trails i m
  pub kept : AreKept code trails codes

-- it is at a place to which these moves lead
pub record IsAt (moves most : ℕ) (meets : List ℕ → Type 0) (code : List ℕ → List ℕ) (trails : List (List ℕ))
    (codes : Codes) (i m : ℕ) (p : List ℕ) : Type 0 where
  pub come : HasCome moves most meets code trails codes i m
  pub there : slice_get trails i ≡ Some p

-- ---- what becomes of a place to which a move leads

-- nothing has changed, and one of the places is known to have this code
pub record IsKnown (old new : List (List ℕ)) (kept now : Codes) (words : List ℕ) : Type 0 where
  pub places : new ≡ old
  pub codes : now ≡ kept
  pub number : ℕ
  pub bytes : List ℕ
  pub there : IsKept kept number bytes
  pub spelt : unpacked bytes ≡ words

-- there is one place more, that of this node, and its code is kept
pub record IsAdded (old new : List (List ℕ)) (kept now : Codes) (node : Node) (words : List ℕ) : Type 0 where
  pub places : new ≡ with_node old node
  pub bytes : List ℕ
  pub spelt : unpacked bytes ≡ words
  pub behind : now.bytes.items ≡ kept.bytes.items ++ bytes
  pub bounds : now.bounds.items ≡ kept.bounds.items ++ length now.bytes.items ∷ []

-- one of the two
abbrev pub IsNoted : (old new : List (List ℕ)) → (kept now : Codes) → Node → List ℕ → Type 0
IsNoted old new kept now node words = IsKnown old new kept now words ⊎ IsAdded old new kept now node words

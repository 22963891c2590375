-- What the handles of a fibril name, by their numbers and their marks.
use Rattle.std.proofs.Common.{ℕ, zero, suc, ◌≡◌, ◌<◌, ◌≤◌, Bool, true, false, List, [], ◌∷◌}
use Rattle.std.proofs.Common.{length, refl, ap, arith}
use Rattle.std.specs.Prelude.{if◌then◌else◌, Option, None, Some, slice_get, slice_index_or}
use Rattle.std.specs.Prelude.{slice_set}
use Rattle.ipc_ids.specs.declared.numbers.ExchangeNo.{ExchangeNo}
use Rattle.async_task.specs.Contexts.{handle_in}
use Rattle.async_task.specs.Handles.{names_of}

-- what a handle names

pub named_at : (es : List ExchangeNo) (bs : List Bool) (k : ℕ) (e : ExchangeNo) →
    slice_index_or bs k false ≡ true → k < length es →
    handle_in (slice_get (names_of es bs) k) ≡ Some (slice_index_or es k e)
named_at [] bs k e is less = absurd (omega (arith, less))
named_at (d ∷ es) [] k e is less = absurd (cc is)
named_at (d ∷ es) (b ∷ bs) zero e is less = rw is refl
named_at (d ∷ es) (b ∷ bs) (suc k) e is less = named_at es bs k e is (omega (arith, less))

pub unnamed_at : (es : List ExchangeNo) (bs : List Bool) (k : ℕ) →
    slice_index_or bs k false ≡ false → handle_in (slice_get (names_of es bs) k) ≡ None
unnamed_at [] bs k is = refl
unnamed_at (e ∷ es) [] k is = refl
unnamed_at (e ∷ es) (b ∷ bs) zero is = rw is refl
unnamed_at (e ∷ es) (b ∷ bs) (suc k) is = unnamed_at es bs k is

pub named_past : (es : List ExchangeNo) (bs : List Bool) (k : ℕ) → length es ≤ k →
    handle_in (slice_get (names_of es bs) k) ≡ None
named_past [] bs k past = refl
named_past (e ∷ es) [] k past = refl
named_past (e ∷ es) (b ∷ bs) zero past = absurd (omega (arith, past))
named_past (e ∷ es) (b ∷ bs) (suc k) past = named_past es bs k (omega (arith, past))

-- there are as many as there are numbers and marks

pub length_names : (es : List ExchangeNo) (bs : List Bool) → length es ≡ length bs →
    length (names_of es bs) ≡ length es
length_names [] bs same = refl
length_names (e ∷ es) [] same = absurd (omega (arith, same))
length_names (e ∷ es) (b ∷ bs) same = ap suc (length_names es bs (omega (arith, same)))

-- a handle names another exchange, or none

pub set_some : (es : List ExchangeNo) (bs : List Bool) (k : ℕ) (e : ExchangeNo) →
    names_of (slice_set es k e) (slice_set bs k true) ≡ slice_set (names_of es bs) k (Some e)
set_some [] bs k e = refl
set_some (d ∷ es) [] zero e = refl
set_some (d ∷ es) [] (suc k) e = refl
set_some (d ∷ es) (b ∷ bs) zero e = refl
set_some (d ∷ es) (b ∷ bs) (suc k) e =
    ap (λ (hs : List (Option ExchangeNo)). (if b then Some d else None) ∷ hs) (set_some es bs k e)

pub set_none : (es : List ExchangeNo) (bs : List Bool) (k : ℕ) →
    names_of es (slice_set bs k false) ≡ slice_set (names_of es bs) k None
set_none [] bs k = refl
set_none (e ∷ es) [] k = refl
set_none (e ∷ es) (b ∷ bs) zero = refl
set_none (e ∷ es) (b ∷ bs) (suc k) =
    ap (λ (hs : List (Option ExchangeNo)). (if b then Some e else None) ∷ hs) (set_none es bs k)

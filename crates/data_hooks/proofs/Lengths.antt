-- How many bytes a call carries.
use Rattle.std.proofs.Common.{◌≡◌, ℕ, ◌≤◌, ◌+◌, Bool, true, false, List, [], ◌∷◌, length, refl, sym, subst, arith, Result, Err}
use Rattle.std.specs.Prelude.{nat_lt, Ok, if◌then◌else◌, slice_index}
use Rattle.std.proofs.lemmas.Bool.Decides.{nat_tests}
use Rattle.ipc_ids.specs.declared.numbers.TaskNo.{TaskNo}
use Rattle.ipc_ids.specs.declared.message.Reply.{Reply}
use Rattle.ipc_ids.specs.Codes.{elimit, enomem}
use Rattle.ipc_ids.specs.declared.numbers.Code.{Code}
use Rattle.ipc_ids.specs.Tables.{most_data, most_buffered}
use Rattle.address_space.specs.Memory.{Memory, read}
use Rattle.address_space.specs.Sound.{IsSound}
use Rattle.address_space.proofs.Lengths.{length_read}
use Rattle.data_hooks.specs.DataMoments.{address_of, count_of, is_restricted, kept_count, cut_args, pooled, write_kept, write_before_send, read_accept}

not_above : (most count : ℕ) → nat_lt most count ≡ false → count ≤ most
not_above most count h = grind (arith, nat_tests)

pooled_ok : (used count : ℕ) (told : Result (List ℕ) Code) (bytes : List ℕ) → pooled used count told ≡ Ok bytes → (told ≡ Ok bytes) × (used + count ≤ most_buffered)
pooled_ok used count (Err code) bytes e = absurd (cc e)
pooled_ok used count (Ok got) bytes e = by_room (nat_lt most_buffered (used + count)) refl e where
  ok : List ℕ → Result (List ℕ) Code
  ok x = Ok x

  by_room : (above : Bool) → nat_lt most_buffered (used + count) ≡ above → (if above then Err enomem else ok got) ≡ Ok bytes → (ok got ≡ Ok bytes) × (used + count ≤ most_buffered)
  by_room true is f = absurd (cc f)
  by_room false is f = (f, not_above most_buffered (used + count) is)

-- there are just so many bytes, and room for them
pub record ArePooled (bytes : List ℕ) (count used : ℕ) : Type 0 where
  pub all : length bytes ≡ count
  pub room : used + length bytes ≤ most_buffered

pooled_length : (m : Memory) (t : TaskNo) (at count used : ℕ) (bytes : List ℕ) → IsSound m → pooled used count (read m t at count) ≡ Ok bytes → ArePooled bytes count used
pooled_length m t at count used bytes s e =
    let got = pooled_ok used count (read m t at count) bytes e in
    let all : length bytes ≡ count = length_read m t at count bytes s got.0 in
    let room = got.1 in
    record { all = all; room = omega (arith, all, room) }

-- the count that a call keeps is its second argument, cut down
kept_is : (args : List ℕ) (count : ℕ) → kept_count args ≡ Ok count → slice_index (cut_args args) 1 ≡ count
kept_is args count e = by_above (nat_lt most_data (count_of args)) (is_restricted args) e where
  ok : ℕ → Result ℕ Code
  ok x = Ok x

  by_above : (above cut : Bool) → (if above then (if cut then ok most_data else Err elimit) else ok (count_of args)) ≡ Ok count
      → slice_index (if above then slice_index args 0 ∷ most_data ∷ slice_index args 2 ∷ slice_index args 3 ∷ slice_index args 4 ∷ [] else args) 1 ≡ count
  by_above true true f = cc f
  by_above true false f = absurd (cc f)
  by_above false cut f = cc f

-- a DATA_WRITE carries as many bytes as its call says, cut down, and there is room for them
pub write_length : (m : Memory) (caller : TaskNo) (args bytes : List ℕ) (used : ℕ) → IsSound m → write_before_send m caller args used ≡ Ok bytes → ArePooled bytes (slice_index (cut_args args) 1) used
write_length m caller args bytes used s e = by_kept (kept_count args) refl e where
  by_kept : (o : Result ℕ Code) → kept_count args ≡ o → write_kept m caller args used o ≡ Ok bytes → ArePooled bytes (slice_index (cut_args args) 1) used
  by_kept (Err code) is f = absurd (cc f)
  by_kept (Ok count) is f = subst (λ (n : ℕ). ArePooled bytes n used) (sym (kept_is args count is)) (pooled_length m caller (address_of args) count used bytes s f)

-- the answer of a DATA_READ carries as many bytes as the reply says, and there is room for them
pub read_length : (m : Memory) (answerer : TaskNo) (args bytes : List ℕ) (reply : Reply) (used : ℕ) → IsSound m → read_accept m answerer args reply used ≡ Ok bytes → ArePooled bytes (count_of reply.args) used
read_length m answerer args bytes reply used s e = by_above (nat_lt (count_of args) (count_of reply.args)) e where
  by_above : (above : Bool) → (if above then Err elimit else pooled used (count_of reply.args) (read m answerer (address_of reply.args) (count_of reply.args))) ≡ Ok bytes → ArePooled bytes (count_of reply.args) used
  by_above true f = absurd (cc f)
  by_above false f = pooled_length m answerer (address_of reply.args) (count_of reply.args) used bytes s f

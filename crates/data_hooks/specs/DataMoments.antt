-- What the data methods do to memory, moment by moment of their calls. Bytes of a call stand from its
-- first argument on, as many as its second says; those of a reply likewise.
use Rattle.std.specs.Prelude.{ℕ, ◌+◌, ◌==◌, Bool, [], ◌∷◌, if◌then◌else◌, nat_lt, List, length, take, slice_index, Option, Result, Ok, Err}
use Rattle.ipc_ids.specs.declared.numbers.Code.{Code}
use Rattle.ipc_ids.specs.declared.numbers.StoreNo.{StoreNo}
use Rattle.ipc_ids.specs.declared.numbers.TaskNo.{TaskNo}
use Rattle.ipc_ids.specs.declared.message.Reply.{Reply}
use Rattle.ipc_ids.specs.Codes.{elimit, enomem}
use Rattle.ipc_ids.specs.Tables.{most_data, most_buffered}
use Rattle.address_space.specs.Memory.{Memory, Step, refused, read, write}

-- where the bytes begin
abbrev pub address_of : List ℕ → ℕ
address_of args = slice_index args 0

-- how many bytes
abbrev pub count_of : List ℕ → ℕ
count_of args = slice_index args 1

-- whether the caller asks to be cut down
abbrev pub is_restricted : List ℕ → Bool
is_restricted args = slice_index args 2 == 1

-- how many bytes a call keeps: as many as it asks for, or the most where it asks for more and to be cut down
abbrev pub kept_count : List ℕ → Result ℕ Code
kept_count args =
    if nat_lt most_data (count_of args) then (if is_restricted args then Ok most_data else Err elimit) else Ok (count_of args)

-- the arguments of a call, with the second cut down to the most
abbrev pub cut_args : List ℕ → List ℕ
cut_args args =
    if nat_lt most_data (count_of args)
    then slice_index args 0 ∷ most_data ∷ slice_index args 2 ∷ slice_index args 3 ∷ slice_index args 4 ∷ [] else args

-- so many bytes go into a buffer where there is room for them beside those of all buffers
abbrev pub pooled : ℕ → ℕ → Result (List ℕ) Code → Result (List ℕ) Code
pooled used count (Ok bytes) = if nat_lt most_buffered (used + count) then Err enomem else Ok bytes
pooled used count (Err code) = Err code

-- so many of the caller's bytes are copied
abbrev pub write_kept : Memory → TaskNo → List ℕ → ℕ → Result ℕ Code → Result (List ℕ) Code
write_kept m caller args used (Ok count) = pooled used count (read m caller (address_of args) count)
write_kept m caller args used (Err code) = Err code

-- the caller's bytes are copied before a DATA_WRITE is sent
abbrev pub write_before_send : Memory → TaskNo → List ℕ → ℕ → Result (List ℕ) Code
write_before_send m caller args used = write_kept m caller args used (kept_count args)

-- the first of these bytes are written where the task that accepts a DATA_WRITE wants them
abbrev pub write_accept : Memory → TaskNo → List ℕ → Reply → Step (Option StoreNo)
write_accept m answerer buffer reply =
    if nat_lt (length buffer) (count_of reply.args) then refused m elimit else write m answerer (address_of reply.args) (take (count_of reply.args) buffer)

-- a DATA_READ may be sent where it asks for few bytes, or to be cut down
abbrev pub read_before_send : List ℕ → Result ℕ Code
read_before_send args = kept_count args

-- the bytes of the task that accepts a DATA_READ are copied
abbrev pub read_accept : Memory → TaskNo → List ℕ → Reply → ℕ → Result (List ℕ) Code
read_accept m answerer args reply used =
    if nat_lt (count_of args) (count_of reply.args) then Err elimit
    else pooled used (count_of reply.args) (read m answerer (address_of reply.args) (count_of reply.args))

-- they are written to the caller as the answer is delivered
abbrev pub read_deliver : Memory → TaskNo → List ℕ → List ℕ → Step (Option StoreNo)
read_deliver m caller args buffer = write m caller (address_of args) buffer

-- What the sharing methods do to memory, moment by moment of their calls. The first three arguments of a
-- call are the base of the caller's area, its pages and the rights; the first of a reply is the base of the
-- other task's area.
use Rattle.std.specs.Prelude.{ℕ, ◌==◌, Bool, ◌&&◌, if◌then◌else◌, nat_le, List, slice_index, Option, None, Some, Result, Ok, Err}
use Rattle.ipc_ids.specs.declared.numbers.Code.{Code}
use Rattle.ipc_ids.specs.declared.numbers.StoreNo.{StoreNo}
use Rattle.ipc_ids.specs.declared.numbers.TaskNo.{TaskNo}
use Rattle.ipc_ids.specs.declared.message.Reply.{Reply}
use Rattle.ipc_ids.specs.Codes.{enoent, eperm}
use Rattle.address_space.specs.Areas.{Area, is_subset}
use Rattle.address_space.specs.Memory.{Memory, Step, area_at, share}

-- where an area begins
abbrev pub base_of : List ℕ → ℕ
base_of args = slice_index args 0

-- how many pages it has
abbrev pub pages_of : List ℕ → ℕ
pages_of args = slice_index args 1

-- what may be done with its bytes
abbrev pub rights_of : List ℕ → ℕ
rights_of args = slice_index args 2

-- whether a number is among these two and those between them
abbrev pub is_between : ℕ → ℕ → ℕ → Bool
is_between low high n = nat_le low n && nat_le n high

-- an area may be offered with all its pages, and rights that it has
abbrev pub offer : List ℕ → Option Area → Result Unit Code
offer args None = Err enoent
offer args (Some a) =
    if (a.pages == pages_of args) && (is_between 1 3 (rights_of args) && is_subset (rights_of args) a.rights) then Ok tt else Err eperm

-- a SHARE_OUT may be sent where the caller has such an area
abbrev pub out_before_send : Memory → TaskNo → List ℕ → Result Unit Code
out_before_send m caller args = offer args (area_at m caller (base_of args))

-- a SHARE_IN may be sent where an area can have so many pages and such rights
abbrev pub in_before_send : List ℕ → Result Unit Code
in_before_send args = if is_between 1 16 (pages_of args) && is_between 1 3 (rights_of args) then Ok tt else Err eperm

-- the task that accepts a SHARE_OUT gets an area over the store of the caller's
abbrev pub out_accept : Memory → TaskNo → TaskNo → List ℕ → Reply → Step StoreNo
out_accept m caller answerer args reply = share m caller (base_of args) answerer (base_of reply.args) (pages_of args) (rights_of args)

-- where a task accepts a SHARE_IN, the caller gets an area over the store of that task's
abbrev pub in_accept : Memory → TaskNo → TaskNo → List ℕ → Reply → Step StoreNo
in_accept m caller answerer args reply = share m answerer (base_of reply.args) caller (base_of args) (pages_of args) (rights_of args)

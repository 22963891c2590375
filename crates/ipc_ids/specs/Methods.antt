-- The methods of calls by their names: the kernel's own, and where users' methods begin.
use Rattle.std.specs.Prelude.{ℕ, ◌==◌, if◌then◌else◌, nat_lt}
use Rattle.ipc_ids.specs.declared.methods.MethodKind.{MethodKind}
use Rattle.ipc_ids.specs.declared.methods.MethodKind.TheVariants.{PhoneHungUp, ConnectToMe, ConnectMeTo, DataWrite, DataRead, ShareOut, ShareIn, Unused, User}

-- a phone that led to the receiver was hung up
abbrev pub phone_hungup : ℕ
phone_hungup = 0

-- the receiver is asked to keep a phone that leads to the caller
abbrev pub connect_to_me : ℕ
connect_to_me = 1

-- the caller wants a phone that leads to the task that answers
abbrev pub connect_me_to : ℕ
connect_me_to = 2

-- bytes of the caller's memory go to the receiver
abbrev pub data_write : ℕ
data_write = 3

-- bytes of the receiver's memory go to the caller
abbrev pub data_read : ℕ
data_read = 4

-- an area of the caller goes to the receiver
abbrev pub share_out : ℕ
share_out = 5

-- an area of the receiver goes to the caller
abbrev pub share_in : ℕ
share_in = 6

-- methods below this one are the system's
abbrev pub first_user_method : ℕ
first_user_method = 512

-- the kind of the method with this number
abbrev pub kind_of : ℕ → MethodKind
kind_of method =
    if method == phone_hungup then PhoneHungUp
    else if method == connect_to_me then ConnectToMe
    else if method == connect_me_to then ConnectMeTo
    else if method == data_write then DataWrite
    else if method == data_read then DataRead
    else if method == share_out then ShareOut
    else if method == share_in then ShareIn
    else if nat_lt method first_user_method then Unused
    else User

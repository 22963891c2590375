-- The four moments of a call at which its method does more than carry a message: before it is sent, as it is received,
-- as it is accepted, and as its answer is delivered. Each hands the state, the record of the call and one entry more
-- at most to a join.
use Rattle.std.specs.Prelude.{ℕ, ◌+◌, ◌*◌, Bool, false, if◌then◌else◌, List, Option, None, Some, Result, Ok, Err, slice_set}
use Rattle.ipc_ids.specs.declared.numbers.TaskNo.{TaskNo}
use Rattle.ipc_ids.specs.declared.numbers.Label.{Label}
use Rattle.ipc_ids.specs.declared.numbers.Code.{Code}
use Rattle.ipc_ids.specs.declared.message.Msg.{Msg}
use Rattle.ipc_ids.specs.declared.message.Reply.{Reply}
use Rattle.ipc_ids.specs.declared.message.PhoneState.TheVariants.{Connecting}
use Rattle.ipc_ids.specs.declared.methods.MethodKind.{MethodKind}
use Rattle.ipc_ids.specs.declared.methods.MethodKind.TheVariants.{ConnectToMe, ConnectMeTo, DataWrite, DataRead, ShareOut, ShareIn}
use Rattle.ipc_ids.specs.Codes.{elimit}
use Rattle.ipc_ids.specs.Methods.{kind_of}
use Rattle.call_slab.specs.declared.call.Call.{Call}
use Rattle.switchboard.specs.State.{KernelState}
use Rattle.switchboard.specs.Kept.{accepts, first_usable_of, kept_note, with_kept}
use Rattle.data_hooks.specs.DataMoments.{cut_args, write_before_send, read_before_send}
use Rattle.answerbox.specs.Calls.{used}
use Rattle.switchboard.specs.Joins.{accepted_to_me, accepted_me_to, with_delivery}
use Rattle.share_hooks.specs.ShareMoments.{out_before_send, in_before_send}
use Rattle.switchboard.specs.declared.sharing.Share.TheVariants.{Out, In}
use Rattle.switchboard.specs.Sharing.{accepted_share}
use Rattle.switchboard.specs.Data.{accepted_write, accepted_read, delivered_read}
use Rattle.switchboard.specs.Serving.{Handed, as_it_is}

-- the message, and the reply, with this fifth argument
abbrev pub with_fifth : Msg → ℕ → Msg
with_fifth msg n = record { method = msg.method; args = slice_set msg.args 4 n }

abbrev pub reply_with_fifth : Reply → ℕ → Reply
reply_with_fifth reply n = record { code = reply.code; args = slice_set reply.args 4 n }

-- before a CONNECT_ME_TO is sent, the caller keeps its first usable phone; the message names task and phone
abbrev pub keeping_to_send : KernelState → Call → Option Label → Result Handed Code
keeping_to_send k c None = Err elimit
keeping_to_send k c (Some l) =
    Ok (record {
      state = with_kept k (Some l) Connecting;
      call = record c { msg = with_fifth c.msg (64 * c.from.task.0 + l.phone.0); reserved = Some l };
      note = kept_note (Some l) Connecting;
    })

-- the message of a data call, where the second argument is cut down to the most
abbrev pub cut_down : Msg → Msg
cut_down msg = record { method = msg.method; args = cut_args msg.args }

-- a data call that is cut down, in what it asks and in what is received of it
abbrev pub cut_call : Call → Call
cut_call c = record c { request = cut_down c.request; msg = cut_down c.msg }

-- before a DATA_WRITE is sent, the caller's bytes are copied
abbrev pub carrying : KernelState → Call → Result (List ℕ) Code → Result Handed Code
carrying k c (Ok bytes) = Ok (as_it_is k (record (cut_call c) { buffer = bytes }))
carrying k c (Err code) = Err code

-- a DATA_READ is sent where it asks for few bytes, or to be cut down
abbrev pub bringing : KernelState → Call → Result ℕ Code → Result Handed Code
bringing k c (Ok count) = Ok (as_it_is k (cut_call c))
bringing k c (Err code) = Err code

-- a share is sent where the area can be shared
abbrev pub asking : KernelState → Call → Result Unit Code → Result Handed Code
asking k c (Ok done) = Ok (as_it_is k c)
asking k c (Err code) = Err code

abbrev pub before_send_of : MethodKind → KernelState → Call → Result Handed Code
before_send_of ConnectMeTo k c = keeping_to_send k c (first_usable_of k c.from.task)
before_send_of DataWrite k c = carrying k c (write_before_send k.memory c.from.task c.request.args (used k.calls))
before_send_of DataRead k c = bringing k c (read_before_send c.request.args)
before_send_of ShareOut k c = asking k c (out_before_send k.memory c.from.task c.request.args)
before_send_of ShareIn k c = asking k c (in_before_send c.request.args)
before_send_of _ k c = Ok (as_it_is k c)

abbrev pub before_send : KernelState → Call → Result Handed Code
before_send k c = before_send_of (kind_of c.request.method) k c

-- as a CONNECT_TO_ME is received, the receiver keeps its first usable phone; the message names the phone, or 64
abbrev pub number_of : Option Label → ℕ
number_of None = 64
number_of (Some l) = l.phone.0

abbrev pub keeping_to_receive : KernelState → Call → Option Label → Handed
keeping_to_receive k c kept =
    record {
      state = with_kept k kept Connecting;
      call = record c { msg = with_fifth c.msg (number_of kept); reserved = kept };
      note = kept_note kept Connecting;
    }

abbrev pub on_receive_of : MethodKind → KernelState → Call → TaskNo → Handed
on_receive_of ConnectToMe k c t = keeping_to_receive k c (first_usable_of k t)
on_receive_of _ k c t = as_it_is k c

abbrev pub on_receive : KernelState → Call → TaskNo → Handed
on_receive k c t = on_receive_of (kind_of c.request.method) k c t

-- as task t accepts a call of this caller, the kept phone leads to the other of the two; a DATA_WRITE writes its bytes, a
-- DATA_READ reads those that it takes with it, and a share gives one of the two an area
abbrev pub on_accept_of : MethodKind → KernelState → Call → Reply → TaskNo → TaskNo → Handed
on_accept_of ConnectToMe k c reply t caller = accepted_to_me k c reply caller
on_accept_of ConnectMeTo k c reply t caller = accepted_me_to k c reply t
on_accept_of DataWrite k c reply t caller = accepted_write k c reply t
on_accept_of DataRead k c reply t caller = accepted_read k c reply t
on_accept_of ShareOut k c reply t caller = accepted_share Out k c reply t caller
on_accept_of ShareIn k c reply t caller = accepted_share In k c reply t caller
on_accept_of _ k c reply t caller = as_it_is k (record c { reply = reply })

abbrev pub on_accept : KernelState → Call → Reply → TaskNo → TaskNo → Handed
on_accept k c reply t caller = on_accept_of (kind_of c.request.method) k c reply t caller

-- as the answer of a CONNECT_ME_TO is delivered that was accepted, it names the phone
abbrev pub with_phone_named : Option Label → Reply → Reply
with_phone_named None reply = reply
with_phone_named (Some l) reply = reply_with_fifth reply l.phone.0

abbrev pub reply_of : MethodKind → Call → Reply
reply_of ConnectMeTo c = if accepts c.reply.code then with_phone_named c.reserved c.reply else c.reply
reply_of _ c = c.reply

-- whether the answer brings bytes: that of a DATA_READ that was accepted
abbrev pub brings_bytes_of : MethodKind → Code → Bool
brings_bytes_of DataRead code = accepts code
brings_bytes_of _ code = false

abbrev pub brings_bytes : Call → Bool
brings_bytes c = brings_bytes_of (kind_of c.request.method) c.reply.code

-- as the answer is delivered to task t
abbrev pub on_delivery : KernelState → Call → TaskNo → Handed
on_delivery k c t = if brings_bytes c then delivered_read k c t else with_delivery k c (reply_of (kind_of c.request.method) c)

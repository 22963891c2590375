-- What a live call may be given.
use Rattle.call_slab.specs.declared.call.Call.{Call}
use Rattle.call_slab.specs.declared.change.Change.{Change}
use Rattle.call_slab.specs.declared.change.Change.TheVariants as change

-- the call with what it is given
abbrev pub changed : Change → Call → Call
changed (change.Receipt msg reserved) c = record c { msg = msg; reserved = reserved }
changed (change.Answer reply reserved) c = record c { reply = reply; reserved = reserved }
changed (change.AnswerWith reply bytes) c = record c { reply = reply; buffer = bytes }
changed (change.Address msg label reserved) c = record c { msg = msg; label = label; reserved = reserved }
changed (change.Message msg label) c = record c { msg = msg; label = label }
changed (change.Request request) c = record c { request = request }
changed (change.Reply reply) c = record c { reply = reply }
changed (change.Reserved reserved) c = record c { reserved = reserved }
changed (change.Bytes bytes) c = record c { buffer = bytes }

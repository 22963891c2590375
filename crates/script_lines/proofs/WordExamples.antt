-- What each word of a script is: first words, numbers, registers, names and tables; and the text of each reason.
use Rattle.std.proofs.Common.{◌≡◌, [], ◌∷◌, Some, None, codes, refl}
use Rattle.ipc_ids.specs.declared.message.Mode.TheVariants.{Plain, Route}
use Rattle.ipc_ids.specs.declared.message.ExchangeMode.TheVariants.{Atomic, Serialize, Parallel}
use Rattle.ipc_ids.specs.declared.op.Value.TheVariants.{Number, Register}
use Rattle.script_lines.specs.declared.word.Verb.TheVariants as verb
use Rattle.script_lines.specs.declared.word.OpVerb.TheVariants as ops
use Rattle.script_lines.specs.declared.fault.Reason.TheVariants as reason
use Rattle.ipc_ids.specs.Digits.{in_base}
use Rattle.script_lines.specs.Word.{verb_of, number, number_below, named, register, register_number, value, hex_digit, bytes_of, is_name, name_of, mode_of, exchange_mode_of}
use Rattle.script_lines.specs.Text.{text_of_reason}

word_ns : verb_of (codes "ns") ≡ Some verb.Ns
unfolding verb_of
word_ns = refl

word_task : verb_of (codes "task") ≡ Some verb.Task
unfolding verb_of
word_task = refl

word_template : verb_of (codes "template") ≡ Some verb.Template
unfolding verb_of
word_template = refl

word_fibril : verb_of (codes "fibril") ≡ Some verb.Fibril
unfolding verb_of
word_fibril = refl

word_connection : verb_of (codes "connection") ≡ Some verb.Connection
unfolding verb_of
word_connection = refl

word_wire : verb_of (codes "wire") ≡ Some verb.Wire
unfolding verb_of
word_wire = refl

word_call : verb_of (codes "call") ≡ Some (verb.Op ops.Call)
unfolding verb_of
word_call = refl

word_receive : verb_of (codes "receive") ≡ Some (verb.Op ops.Receive)
unfolding verb_of
word_receive = refl

word_answer : verb_of (codes "answer") ≡ Some (verb.Op ops.Answer)
unfolding verb_of
word_answer = refl

word_forward : verb_of (codes "forward") ≡ Some (verb.Op ops.Forward)
unfolding verb_of
word_forward = refl

word_hangup : verb_of (codes "hangup") ≡ Some (verb.Op ops.Hangup)
unfolding verb_of
word_hangup = refl

word_area : verb_of (codes "area") ≡ Some (verb.Op ops.Area)
unfolding verb_of
word_area = refl

word_unarea : verb_of (codes "unarea") ≡ Some (verb.Op ops.Unarea)
unfolding verb_of
word_unarea = refl

word_poke : verb_of (codes "poke") ≡ Some (verb.Op ops.Poke)
unfolding verb_of
word_poke = refl

word_peek : verb_of (codes "peek") ≡ Some (verb.Op ops.Peek)
unfolding verb_of
word_peek = refl

word_set : verb_of (codes "set") ≡ Some (verb.Op ops.Set)
unfolding verb_of
word_set = refl

word_jump : verb_of (codes "jump") ≡ Some (verb.Op ops.Jump)
unfolding verb_of
word_jump = refl

word_jumpeq : verb_of (codes "jumpeq") ≡ Some (verb.Op ops.JumpEqual)
unfolding verb_of
word_jumpeq = refl

word_jumpne : verb_of (codes "jumpne") ≡ Some (verb.Op ops.JumpDiffer)
unfolding verb_of
word_jumpne = refl

word_wait : verb_of (codes "wait") ≡ Some (verb.Op ops.Wait)
unfolding verb_of
word_wait = refl

word_next : verb_of (codes "next") ≡ Some (verb.Op ops.Next)
unfolding verb_of
word_next = refl

word_yield : verb_of (codes "yield") ≡ Some (verb.Op ops.Yield)
unfolding verb_of
word_yield = refl

word_send : verb_of (codes "send") ≡ Some (verb.Op ops.Send)
unfolding verb_of
word_send = refl

word_open : verb_of (codes "open") ≡ Some (verb.Op ops.Open)
unfolding verb_of
word_open = refl

word_begin : verb_of (codes "begin") ≡ Some (verb.Op ops.Begin)
unfolding verb_of
word_begin = refl

word_end : verb_of (codes "end") ≡ Some (verb.Op ops.End)
unfolding verb_of
word_end = refl

word_close : verb_of (codes "close") ≡ Some (verb.Op ops.Close)
unfolding verb_of
word_close = refl

no_such_word : verb_of (codes "calls") ≡ None
unfolding verb_of
no_such_word = refl

method_phone_hungup : value (codes "PHONE_HUNGUP") ≡ Some (Number 0)
unfolding value number in_base register register_number named
method_phone_hungup = refl

method_connect_to_me : value (codes "CONNECT_TO_ME") ≡ Some (Number 1)
unfolding value number in_base register register_number named
method_connect_to_me = refl

method_connect_me_to : value (codes "CONNECT_ME_TO") ≡ Some (Number 2)
unfolding value number in_base register register_number named
method_connect_me_to = refl

method_data_write : value (codes "DATA_WRITE") ≡ Some (Number 3)
unfolding value number in_base register register_number named
method_data_write = refl

method_data_read : value (codes "DATA_READ") ≡ Some (Number 4)
unfolding value number in_base register register_number named
method_data_read = refl

method_share_out : value (codes "SHARE_OUT") ≡ Some (Number 5)
unfolding value number in_base register register_number named
method_share_out = refl

method_share_in : value (codes "SHARE_IN") ≡ Some (Number 6)
unfolding value number in_base register register_number named
method_share_in = refl

code_eok : value (codes "EOK") ≡ Some (Number 0)
unfolding value number in_base register register_number named
code_eok = refl

code_enoent : value (codes "ENOENT") ≡ Some (Number 1)
unfolding value number in_base register register_number named
code_enoent = refl

code_eperm : value (codes "EPERM") ≡ Some (Number 2)
unfolding value number in_base register register_number named
code_eperm = refl

code_eexist : value (codes "EEXIST") ≡ Some (Number 3)
unfolding value number in_base register register_number named
code_eexist = refl

code_einval : value (codes "EINVAL") ≡ Some (Number 4)
unfolding value number in_base register register_number named
code_einval = refl

code_elimit : value (codes "ELIMIT") ≡ Some (Number 5)
unfolding value number in_base register register_number named
code_elimit = refl

code_ehangup : value (codes "EHANGUP") ≡ Some (Number 6)
unfolding value number in_base register register_number named
code_ehangup = refl

code_eforward : value (codes "EFORWARD") ≡ Some (Number 7)
unfolding value number in_base register register_number named
code_eforward = refl

code_ebusy : value (codes "EBUSY") ≡ Some (Number 8)
unfolding value number in_base register register_number named
code_ebusy = refl

code_enomem : value (codes "ENOMEM") ≡ Some (Number 9)
unfolding value number in_base register register_number named
code_enomem = refl

right_r : value (codes "R") ≡ Some (Number 1)
unfolding value number in_base register register_number named
right_r = refl

right_w : value (codes "W") ≡ Some (Number 2)
unfolding value number in_base register register_number named
right_w = refl

right_rw : value (codes "RW") ≡ Some (Number 3)
unfolding value number in_base register register_number named
right_rw = refl

restrict : value (codes "RESTRICT") ≡ Some (Number 1)
unfolding value number in_base register register_number named
restrict = refl

decimal_number : value (codes "512") ≡ Some (Number 512)
unfolding value number in_base register register_number named
decimal_number = refl

leading_zeros : value (codes "00000000000000000007") ≡ Some (Number 7)
unfolding value number in_base register register_number named
leading_zeros = refl

too_many_digits : value (codes "000000000000000000007") ≡ None
unfolding value number in_base register register_number named
too_many_digits = refl

greatest_number : value (codes "18446744073709551615") ≡ Some (Number 18446744073709551615)
unfolding value number in_base register register_number named
greatest_number = refl

one_more_than_that : value (codes "18446744073709551616") ≡ None
unfolding value number in_base register register_number named
one_more_than_that = refl

hexadecimal_number : value (codes "0xfF") ≡ Some (Number 255)
unfolding value number in_base register register_number named
hexadecimal_number = refl

greatest_hexadecimal : value (codes "0xffffffffffffffff") ≡ Some (Number 18446744073709551615)
unfolding value number in_base register register_number named
greatest_hexadecimal = refl

too_many_hexadecimals : value (codes "0x0ffffffffffffffff") ≡ None
unfolding value number in_base register register_number named
too_many_hexadecimals = refl

no_hexadecimals : value (codes "0x") ≡ None
unfolding value number in_base register register_number named
no_hexadecimals = refl

register_0 : value (codes "r0") ≡ Some (Register 0)
unfolding value number in_base register register_number named
register_0 = refl

register_31 : value (codes "r31") ≡ Some (Register 31)
unfolding value number in_base register register_number named
register_31 = refl

register_32 : value (codes "r32") ≡ None
unfolding value number in_base register register_number named
register_32 = refl

register_07 : value (codes "r07") ≡ None
unfolding value number in_base register register_number named
register_07 = refl

no_value : value (codes "eok") ≡ None
unfolding value number in_base register register_number named
no_value = refl

hex_bytes_of : bytes_of (codes "0aFf") ≡ Some (10 ∷ 255 ∷ [])
unfolding bytes_of hex_digit
hex_bytes_of = refl

odd_digits : bytes_of (codes "0af") ≡ None
unfolding bytes_of hex_digit
odd_digits = refl

no_hex_digit : bytes_of (codes "0g") ≡ None
unfolding bytes_of hex_digit
no_hex_digit = refl

no_bytes : bytes_of (codes "") ≡ None
unfolding bytes_of hex_digit
no_bytes = refl

mode_plain : mode_of (codes "plain") ≡ Some Plain
unfolding mode_of
mode_plain = refl

mode_route : mode_of (codes "route") ≡ Some Route
unfolding mode_of
mode_route = refl

exchange_atomic : exchange_mode_of (codes "atomic") ≡ Some Atomic
unfolding exchange_mode_of
exchange_atomic = refl

exchange_serialize : exchange_mode_of (codes "serialize") ≡ Some Serialize
unfolding exchange_mode_of
exchange_serialize = refl

exchange_parallel : exchange_mode_of (codes "parallel") ≡ Some Parallel
unfolding exchange_mode_of
exchange_parallel = refl

name_of_15 : name_of (codes "a23456789_12345") ≡ Some (codes "a23456789_12345")
unfolding name_of is_name
name_of_15 = refl

name_of_16 : name_of (codes "a23456789_123456") ≡ None
unfolding name_of is_name
name_of_16 = refl

name_from_digit : name_of (codes "1a") ≡ None
unfolding name_of is_name
name_from_digit = refl

name_in_capitals : name_of (codes "Ab") ≡ None
unfolding name_of is_name
name_in_capitals = refl

no_name : name_of (codes "") ≡ None
unfolding name_of is_name
no_name = refl

slot_7 : number_below 8 (codes "7") ≡ Some 7
unfolding number_below number in_base
slot_7 = refl

slot_8 : number_below 8 (codes "8") ≡ None
unfolding number_below number in_base
slot_8 = refl

session_15 : number_below 16 (codes "15") ≡ Some 15
unfolding number_below number in_base
session_15 = refl

session_16 : number_below 16 (codes "16") ≡ None
unfolding number_below number in_base
session_16 = refl

place_65535 : number_below 65536 (codes "65535") ≡ Some 65535
unfolding number_below number in_base
place_65535 = refl

place_65536 : number_below 65536 (codes "65536") ≡ None
unfolding number_below number in_base
place_65536 = refl

reason_too_long : text_of_reason reason.TooLong ≡ codes "too long"
reason_too_long = refl

reason_bad_byte : text_of_reason reason.BadByte ≡ codes "bad byte"
reason_bad_byte = refl

reason_unknown_operation : text_of_reason reason.UnknownOperation ≡ codes "unknown operation"
reason_unknown_operation = refl

reason_out_of_place : text_of_reason reason.OutOfPlace ≡ codes "out of place"
reason_out_of_place = refl

reason_wrong_number_of_words : text_of_reason reason.WrongCount ≡ codes "wrong number of words"
reason_wrong_number_of_words = refl

reason_bad_word : text_of_reason reason.BadWord ≡ codes "bad word"
reason_bad_word = refl

reason_unknown_name : text_of_reason reason.UnknownName ≡ codes "unknown name"
reason_unknown_name = refl

reason_name_taken : text_of_reason reason.NameTaken ≡ codes "name taken"
reason_name_taken = refl

reason_bad_phone : text_of_reason reason.BadPhone ≡ codes "bad phone"
reason_bad_phone = refl

reason_too_many : text_of_reason reason.TooMany ≡ codes "too many"
reason_too_many = refl

reason_too_many_events : text_of_reason reason.TooManyEvents ≡ codes "too many events"
reason_too_many_events = refl

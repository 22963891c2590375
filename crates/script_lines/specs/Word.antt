-- What one word can be: a number, a register, a name, or a word of a table.
use Rattle.std.specs.Prelude.{ℕ, ◌+◌, ◌*◌, List, [], ◌∷◌, ◌++◌, length, drop, Bool, ◌&&◌, ◌||◌, Option, Some, None, option_map, ◌==◌, nat_lt, nat_le, nat_eq, if◌then◌else◌, codes, slice_index}
use Rattle.std.specs.List.{list_all, starts_with}
use Rattle.std.specs.Char.{is_digit, digit_value, is_ascii_digit, is_ascii_lowercase}
use Rattle.std.specs.Option.{option_or, option_and_then}
use Rattle.ipc_ids.specs.Digits.{in_base}
use Rattle.ipc_ids.specs.Tables.{Names, method_names, code_names, right_names, restrict_names, named_in, most_short}
use Rattle.ipc_ids.specs.declared.message.Mode.{Mode}
use Rattle.ipc_ids.specs.declared.message.Mode.TheVariants.{Plain, Route}
use Rattle.ipc_ids.specs.declared.message.ExchangeMode.{ExchangeMode}
use Rattle.ipc_ids.specs.declared.message.ExchangeMode.TheVariants.{Atomic, Serialize, Parallel}
use Rattle.ipc_ids.specs.declared.op.Value.{Value}
use Rattle.ipc_ids.specs.declared.op.Value.TheVariants.{Number, Register}
use Rattle.script_lines.specs.declared.word.Verb.{Verb}
use Rattle.script_lines.specs.declared.word.Verb.TheVariants.{Ns, Task, Template, Fibril, Connection, Wire, Op}
use Rattle.script_lines.specs.declared.word.OpVerb.TheVariants.{Call, Receive, Answer, Forward, Hangup, Area, Unarea, Poke, Peek, Set, Jump, JumpEqual, JumpDiffer, Wait, Next, Yield, Send, Open, Begin, End, Close}

-- the first words of a script's lines
abbrev pub verbs : List (List ℕ × Verb)
verbs =
    (codes "ns", Ns) ∷ (codes "task", Task) ∷ (codes "template", Template) ∷ (codes "fibril", Fibril)
    ∷ (codes "connection", Connection) ∷ (codes "wire", Wire)
    ∷ (codes "call", Op Call) ∷ (codes "receive", Op Receive) ∷ (codes "answer", Op Answer)
    ∷ (codes "forward", Op Forward) ∷ (codes "hangup", Op Hangup) ∷ (codes "area", Op Area)
    ∷ (codes "unarea", Op Unarea) ∷ (codes "poke", Op Poke) ∷ (codes "peek", Op Peek)
    ∷ (codes "set", Op Set) ∷ (codes "jump", Op Jump) ∷ (codes "jumpeq", Op JumpEqual) ∷ (codes "jumpne", Op JumpDiffer)
    ∷ (codes "wait", Op Wait) ∷ (codes "next", Op Next) ∷ (codes "yield", Op Yield)
    ∷ (codes "send", Op Send) ∷ (codes "open", Op Open) ∷ (codes "begin", Op Begin)
    ∷ (codes "end", Op End) ∷ (codes "close", Op Close) ∷ []

unfoldable pub verb_of : List ℕ → Option Verb
verb_of word = named_in verbs word

-- up to 20 decimal digits, or 0x and up to 16 hexadecimal ones
unfoldable pub number : List ℕ → Option ℕ
number word =
    if starts_with nat_eq word (codes "0x") then in_base 16 16 (drop 2 word) else in_base 10 20 word

-- a number below a limit
unfoldable pub number_below : ℕ → List ℕ → Option ℕ
number_below limit word =
    option_and_then (λ n. if nat_lt n limit then Some n else None) (number word)

-- the words that stand for numbers
abbrev pub number_names : Names
number_names = method_names ++ code_names ++ right_names ++ restrict_names

unfoldable pub named : List ℕ → Option ℕ
named word = named_in number_names word

-- below 32, and without leading zeros
unfoldable pub register_number : List ℕ → Option ℕ
register_number digits =
    option_and_then
    (λ n. if nat_lt n 32 && (length digits == 1 || nat_le 10 n) then Some n else None)
    (in_base 10 2 digits)

-- r0 to r31
unfoldable pub register : List ℕ → Option ℕ
register word = if starts_with nat_eq word (codes "r") then register_number (drop 1 word) else None

-- a number, a register, or a word that stands for a number
unfoldable pub value : List ℕ → Option Value
value word =
    option_or (option_map Number (number word))
    (option_or (option_map Register (register word)) (option_map Number (named word)))

-- the value of a hexadecimal digit, in lower or upper case
unfoldable pub hex_digit : ℕ → Option ℕ
hex_digit b = if is_digit b 16 then Some (digit_value b) else None

-- the byte of two digits, the high one first
abbrev pub hex_byte : ℕ → ℕ → Option ℕ
hex_byte high low =
    option_and_then (λ h. option_map (λ l. h * 16 + l) (hex_digit low)) (hex_digit high)

-- a byte from each two digits, and no digit left over
abbrev pub hex_bytes : List ℕ → Option (List ℕ)
hex_bytes [] = Some []
hex_bytes (_ ∷ []) = None
hex_bytes (high ∷ low ∷ others) =
    option_and_then
    (λ byte. option_map (λ bytes. byte ∷ bytes) (hex_bytes others))
    (hex_byte high low)

-- 1 to 64 bytes, two hexadecimal digits for each
unfoldable pub bytes_of : List ℕ → Option (List ℕ)
bytes_of word =
    if nat_le 2 (length word) && nat_le (length word) (2 * most_short) then hex_bytes word else None

abbrev pub is_name_byte : ℕ → Bool
is_name_byte b = is_ascii_lowercase b || is_ascii_digit b || b == 95

-- 1 to 15 of a to z, 0 to 9 and _, the first a letter
unfoldable pub is_name : List ℕ → Bool
is_name word =
    is_ascii_lowercase (slice_index word 0) && nat_le (length word) 15 && list_all is_name_byte word

unfoldable pub name_of : List ℕ → Option (List ℕ)
name_of word = if is_name word then Some word else None

abbrev pub modes : List (List ℕ × Mode)
modes = (codes "plain", Plain) ∷ (codes "route", Route) ∷ []

unfoldable pub mode_of : List ℕ → Option Mode
mode_of word = named_in modes word

-- how a session gives its phone to exchanges
abbrev pub exchange_modes : List (List ℕ × ExchangeMode)
exchange_modes =
    (codes "atomic", Atomic) ∷ (codes "serialize", Serialize) ∷ (codes "parallel", Parallel) ∷ []

unfoldable pub exchange_mode_of : List ℕ → Option ExchangeMode
exchange_mode_of word = named_in exchange_modes word

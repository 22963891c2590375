-- What is read in a word of a line. Each reader gives something for any bytes.
use Rattle.std.specs.Prelude.{Bool, true, false, ℕ, zero, suc, ◌+◌, ◌*◌, ◌-◌, ◌%◌, ◌^◌, ◌==◌, nat_lt, if◌then◌else◌, List, [], ◌∷◌, Option, Some, None}
use Rattle.ipc_ids.specs.declared.numbers.TaskNo.{TaskNo}
use Rattle.ipc_ids.specs.declared.numbers.Label.{Label}
use Rattle.ipc_ids.specs.declared.numbers.Code.{Code}
use Rattle.ipc_ids.specs.declared.numbers.FibrilNo.{FibrilNo}
use Rattle.ipc_ids.specs.Tables.{code_names, named_in}

-- what stands before the first mark, or all
abbrev pub before : ℕ → List ℕ → List ℕ
before mark [] = []
before mark (b ∷ text) = if b == mark then [] else b ∷ before mark text

-- what stands behind it, or nothing
abbrev pub behind : ℕ → List ℕ → List ℕ
behind mark [] = []
behind mark (b ∷ text) = if b == mark then text else behind mark text

-- no byte of the word is the mark
abbrev pub lacks : ℕ → List ℕ → Bool
lacks mark [] = true
lacks mark (b ∷ w) = if b == mark then false else lacks mark w

-- the part with this index, as the text is cut at each mark
abbrev pub part : ℕ → ℕ → List ℕ → List ℕ
part mark zero text = before mark text
part mark (suc index) text = part mark index (behind mark text)

-- the number that these digits and this one write, as far as 64 bits have it
abbrev pub digit_on : ℕ → ℕ → ℕ
digit_on n c = ((n * 10 % 2 ^ 64 + c) % 2 ^ 64 + (2 ^ 64 - 48)) % 2 ^ 64

-- the number that these digits write when they follow those of n
abbrev pub number_after : ℕ → List ℕ → ℕ
number_after n [] = n
number_after n (c ∷ word) = number_after (digit_on n c) word

-- a number in decimal
unfoldable pub number_of : List ℕ → ℕ
number_of word = number_after 0 word

-- a number of 32 bits; 0 where it is larger
abbrev pub small_of : List ℕ → ℕ
small_of word = if nat_lt (number_of word) 4294967296 then number_of word else 0

-- the number of a task, behind one letter
abbrev pub task_of : List ℕ → TaskNo
task_of [] = record { 0 = 0 }
task_of (b ∷ digits) = record { 0 = number_of digits }

-- a task and its phone, with a dot between them
abbrev pub label_of : List ℕ → Label
label_of word = record { task = task_of (part 46 0 word); phone = record { 0 = small_of (part 46 1 word) } }

-- the code with this name, or else with the number that the word is
abbrev pub code_or : Option ℕ → List ℕ → Code
code_or (Some n) word = record { 0 = n }
code_or None word = record { 0 = number_of word }

-- a code, by its name or its number
abbrev pub code_of : List ℕ → Code
code_of word = code_or (named_in code_names word) word

-- the task of a fibril, before the stroke
abbrev pub owner_of : List ℕ → TaskNo
owner_of word = task_of (part 47 0 word)

-- the number of a fibril, behind the stroke
abbrev pub fibril_of : List ℕ → FibrilNo
fibril_of word = record { 0 = number_of (part 47 1 word) }

-- what a digit is worth
abbrev pub digit_of : ℕ → ℕ
digit_of c = if nat_lt c 58 then c - 48 else if nat_lt c 103 then c - 87 else 0

-- a byte for each two digits, so many at most
abbrev pub bytes_from : ℕ → List ℕ → List ℕ
bytes_from zero digits = []
bytes_from (suc k) [] = []
bytes_from (suc k) (high ∷ []) = []
bytes_from (suc k) (high ∷ low ∷ digits) = (digit_of high * 16 + digit_of low) ∷ bytes_from k digits

-- bytes by their digits, at most 64; none where the word has none
abbrev pub bytes_of : List ℕ → List ℕ
bytes_of word = bytes_from 64 word

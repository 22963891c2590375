-- A text is lines, and a line is words.
use Rattle.std.specs.Prelude.{ℕ, List, [], ◌∷◌, Option, None, Some, if◌then◌else◌, Bool, not, ◌&&◌, ◌||◌, ◌==◌, nat_le, length, filter, map, codes}
use Rattle.std.specs.Borrow.{Bor}
use Rattle.std.specs.List.{slice_split, before_first}
use Rattle.script_lines.specs.declared.fault.Reason.{Reason}
use Rattle.script_lines.specs.declared.fault.Reason.TheVariants.{TooLong, BadByte, UnknownOperation, OutOfPlace, WrongCount, BadWord, UnknownName, NameTaken, BadPhone, TooMany, TooManyEvents}

-- a tab, or from the space to ~
abbrev pub is_allowed : ℕ → Bool
is_allowed b = b == 9 || (nat_le 32 b && nat_le b 126)

-- what stands before each line feed, and behind the last one
abbrev pub lines : List ℕ → List (List ℕ)
lines text = slice_split (λ b. b == 10) text

-- what stands before the first line feed
abbrev pub first_line : List ℕ → List ℕ
first_line text = before_first (λ b. b == 10) text

-- what stands behind the first line feed; None where there is none
abbrev pub behind : List ℕ → Option (List ℕ)
behind [] = None
behind (b ∷ text) = if b == 10 then Some text else behind text

-- what stands before the first #
abbrev pub without_comment : List ℕ → List ℕ
without_comment line = before_first (λ b. b == 35) line

abbrev pub is_blank : ℕ → Bool
is_blank b = b == 32 || b == 9

-- a word is over at this byte: a blank, a #, or a byte that may not stand in a line
abbrev pub ends_word : ℕ → Bool
ends_word b = is_blank b || (b == 35 || not (is_allowed b))

-- what stands behind the space at the front, if one stands there
abbrev pub after_space : List ℕ → List ℕ
after_space [] = []
after_space (b ∷ text) = if b == 32 then text else b ∷ text

-- what stands between spaces and tabs, where that is something
abbrev pub words : List ℕ → List (List ℕ)
words line = filter (λ word. not (length word == 0)) (slice_split is_blank (without_comment line))

-- words as bytes
abbrev pub texts : List (Bor (List ℕ)) → List (List ℕ)
texts words = map (λ word. word.now) words

-- how a reason is written
abbrev pub text_of_reason : Reason → List ℕ
text_of_reason TooLong = codes "too long"
text_of_reason BadByte = codes "bad byte"
text_of_reason UnknownOperation = codes "unknown operation"
text_of_reason OutOfPlace = codes "out of place"
text_of_reason WrongCount = codes "wrong number of words"
text_of_reason BadWord = codes "bad word"
text_of_reason UnknownName = codes "unknown name"
text_of_reason NameTaken = codes "name taken"
text_of_reason BadPhone = codes "bad phone"
text_of_reason TooMany = codes "too many"
text_of_reason TooManyEvents = codes "too many events"

-- Which lines a trace can have: the shape of each kind of line, word by word.
use Rattle.std.specs.Prelude.{ℕ, Bool, true, false, ◌||◌, ◌&&◌, ◌==◌, List, [], ◌∷◌, length, take, drop, is_some, codes, nat_eq, nat_lt, if◌then◌else◌}
use Rattle.std.specs.Char.{is_ascii_digit}
use Rattle.std.specs.List.{list_all, list_any, starts_with, position_or_len}
use Rattle.std.specs.Str.{bytes_eq}
use Rattle.ipc_ids.specs.Tables.{code_names, named_in}
use Rattle.search_goals.specs.Goals.{text_words}

-- ---- kinds of words

-- decimal digits
abbrev pub is_number : List ℕ → Bool
is_number word = nat_lt 0 (length word) && list_all is_ascii_digit word

-- t and a number
abbrev pub is_task : List ℕ → Bool
is_task word = if starts_with nat_eq word (codes "t") then is_number (drop 1 word) else false

-- where a byte stands first in a word; its length where it has none
abbrev pub mark_place : ℕ → List ℕ → ℕ
mark_place mark word = position_or_len (λ b. b == mark) word

-- a task and a number, with this byte between them
abbrev pub is_numbered : ℕ → List ℕ → Bool
is_numbered mark word =
    is_task (take (mark_place mark word) word) && is_number (drop 1 (drop (mark_place mark word) word))

-- the name of a code, or a number
abbrev pub is_code : List ℕ → Bool
is_code word = is_number word || is_some (named_in code_names word)

-- what a word of a shape stands for: N for a number, T for a task, P for a phone, F for a fibril, C for a code, B for
-- any word, and each other word for itself
unfoldable pub is_of_kind : (kind word : List ℕ) → Bool
is_of_kind kind word =
    if bytes_eq kind (codes "N") then is_number word
    else (if bytes_eq kind (codes "T") then is_task word
    else (if bytes_eq kind (codes "P") then is_numbered 46 word
    else (if bytes_eq kind (codes "F") then is_numbered 47 word
    else (if bytes_eq kind (codes "C") then is_code word
    else (if bytes_eq kind (codes "B") then true else bytes_eq kind word)))))

-- ---- shapes of lines

-- heads of events
unfoldable pub head_shapes : List (List ℕ)
head_shapes =
    codes "T call N N N N N N N"
    ∷ codes "T receive"
    ∷ codes "T answer N C N N N N N"
    ∷ codes "T forward N N plain"
    ∷ codes "T forward N N plain N N N N N N"
    ∷ codes "T forward N N route"
    ∷ codes "T forward N N route N N N N N N"
    ∷ codes "T hangup N"
    ∷ codes "T area N N N"
    ∷ codes "T unarea N"
    ∷ codes "T poke N B"
    ∷ codes "T peek N N"
    ∷ codes "T nothing"
    ∷ codes "T ended"
    ∷ codes "kill T"
    ∷ codes "spawn T"
    ∷ []

-- outcomes
unfoldable pub outcome_shapes : List (List ℕ)
outcome_shapes =
    codes "= EOK"
    ∷ codes "= C"
    ∷ codes "= call N"
    ∷ codes "= received N N N N N N N from P"
    ∷ codes "= answer N C N N N N N"
    ∷ codes "= EMPTY"
    ∷ codes "= bytes B"
    ∷ []

-- what happened to calls, to phones and to memory
unfoldable pub effect_shapes : List (List ℕ)
effect_shapes =
    codes "call N accepted P method N to T"
    ∷ codes "call N accepted P method N back"
    ∷ codes "call N received T"
    ∷ codes "call N forwarded T to T label P"
    ∷ codes "call N answered C N N N N N by T"
    ∷ codes "call N answered C N N N N N by kernel"
    ∷ codes "call N delivered T"
    ∷ codes "call N dropped T"
    ∷ codes "call N vanished"
    ∷ codes "call N forgotten"
    ∷ codes "phone P free"
    ∷ codes "phone P connecting"
    ∷ codes "phone P connected T"
    ∷ codes "phone P hungup"
    ∷ codes "phone P slammed"
    ∷ codes "area T N N N store N"
    ∷ codes "unarea T N"
    ∷ codes "write T N N store N"
    ∷ []

-- what fibrils do
unfoldable pub fibril_shapes : List (List ℕ)
fibril_shapes =
    codes "F sent N slot N"
    ∷ codes "F sent N begin"
    ∷ codes "F gets N slot N C N N N N N"
    ∷ codes "F gets N begin C N N N N N"
    ∷ codes "F blocks answer N"
    ∷ codes "F blocks mutex N"
    ∷ codes "F blocks phone"
    ∷ codes "F blocks message"
    ∷ codes "F starts P"
    ∷ codes "F ends"
    ∷ codes "F refused C"
    ∷ codes "F begins exchange N atomic session N phone N"
    ∷ codes "F begins exchange N serialize session N phone N"
    ∷ codes "F begins exchange N parallel session N phone N"
    ∷ codes "F ends exchange N"
    ∷ codes "F drops exchange N"
    ∷ []

-- ---- what may be asked

-- a word that is asked for is *, or of its kind
abbrev pub may_be : (asked kind : List ℕ) → Bool
may_be asked kind = bytes_eq asked (codes "*") || is_of_kind kind asked

-- a line of this shape may begin with the words that are asked for
abbrev pub begins_as : (asked shape : List (List ℕ)) → Bool
begins_as [] shape = true
begins_as (a ∷ asked) [] = false
begins_as (a ∷ asked) (kind ∷ shape) = may_be a kind && begins_as asked shape

-- so may one of some of these shapes
abbrev pub begins_one : (shapes asked : List (List ℕ)) → Bool
begins_one shapes asked = list_any (λ shape. begins_as asked (text_words shape)) shapes

-- so may a line of a trace
unfoldable pub may_begin : List (List ℕ) → Bool
may_begin asked =
    begins_one head_shapes asked
    || (begins_one outcome_shapes asked || (begins_one effect_shapes asked || begins_one fibril_shapes asked))

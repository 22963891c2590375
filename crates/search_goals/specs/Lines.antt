-- How the lines of a schedule are written.
use Rattle.std.specs.Prelude.{ℕ, List, [], ◌++◌, codes, decimal, nat_lt, if◌then◌else◌}

-- a comment
abbrev pub comment_text : List ℕ → List ℕ
comment_text comment = codes "# " ++ (comment ++ codes "\n")

-- ` x N`, where there is more than one step
abbrev pub times_text : ℕ → List ℕ
times_text count = if nat_lt 1 count then codes " x " ++ decimal count else []

-- so many steps of a task
abbrev pub step_text : List ℕ → ℕ → List ℕ
step_text name count = codes "step " ++ (name ++ (times_text count ++ codes "\n"))

-- a kill of a task
abbrev pub kill_text : List ℕ → List ℕ
kill_text name = codes "kill " ++ (name ++ codes "\n")

-- a hangup of a phone of a task
abbrev pub hangup_text : List ℕ → ℕ → List ℕ
hangup_text name phone = codes "hangup " ++ (name ++ (codes " " ++ (decimal phone ++ codes "\n")))

-- a task of a template is made, and has this name
abbrev pub spawn_text : (template name : List ℕ) → List ℕ
spawn_text template name = codes "spawn " ++ (template ++ (codes " " ++ (name ++ codes "\n")))

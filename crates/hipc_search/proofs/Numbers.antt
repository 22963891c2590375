-- A status is known by its number.
use Rattle.std.proofs.Common.{◌≡◌, ℕ, ◌==◌, refl, sym, ap, ◌∙◌}
use Rattle.std.specs.Prelude.{if◌then◌else◌}
use Rattle.hipc_search.specs.declared.status.Status.{Status}
use Rattle.hipc_search.specs.declared.status.Status.TheVariants.{Found, NoneAtAll, Usage, CannotRead, BadScript, BadSchedule, WriteFailed, NoMemory, NoneWithin, BadGoal, NotKnown, FoundWithin}
use Rattle.hipc_search.specs.Status.{number_of}

-- the status that has a number
abbrev status_of : ℕ → Status
status_of n =
    if n == 0 then Found else (if n == 1 then NoneAtAll else (if n == 2 then Usage else (if n == 3 then CannotRead
    else (if n == 4 then BadScript else (if n == 5 then BadSchedule else (if n == 6 then WriteFailed
    else (if n == 7 then NoMemory else (if n == 9 then NoneWithin else (if n == 10 then BadGoal
    else (if n == 11 then NotKnown else FoundWithin))))))))))

-- it is the one whose number that is
known : (s : Status) → status_of (number_of s) ≡ s
known Found = refl
known NoneAtAll = refl
known Usage = refl
known CannotRead = refl
known BadScript = refl
known BadSchedule = refl
known WriteFailed = refl
known NoMemory = refl
known NoneWithin = refl
known BadGoal = refl
known NotKnown = refl
known FoundWithin = refl

-- two statuses with the same number are the same
pub same_status : (s t : Status) (n : ℕ) → n ≡ number_of s → n ≡ number_of t → s ≡ t
same_status s t n one other = sym (known s) ∙ ap status_of (sym one ∙ other) ∙ known t

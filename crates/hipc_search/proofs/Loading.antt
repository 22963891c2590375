-- What is due for files, from what their loads give.
use Rattle.std.proofs.Common.{◌≡◌, ℕ, ◌<◌, ◌⊎◌, inl, inr, Bool, true, false, List, ◌++◌, length, take, Option, Some, None, Result, Ok, Err, refl, sym, ap, subst, ◌∙◌, arith, cond}
use Rattle.std.specs.Prelude.{codes}
use Rattle.std.specs.Option.{option_map}
use Rattle.std.proofs.lemmas.Bool.{cases_lt, lt-ltb}
use Rattle.std.proofs.lemmas.List.{take_all, length-take-le}
use Rattle.std.proofs.lemmas.Option.{same_Some}
use Rattle.io_edge.specs.Edge.{Gives, Holds, file_of}
use Rattle.script_lines.specs.declared.fault.Reason.{Reason}
use Rattle.script_lines.specs.declared.fault.Reason.TheVariants.{TooLong}
use Rattle.script_lines.specs.Plan.{Plan}
use Rattle.script_reader.specs.EventLine.{EventsAndNames, no_events, after_event}
use Rattle.script_reader.specs.Reading.{reading, script_of}
use Rattle.command_line.specs.Due.{Files, cannot_line}
use Rattle.command_line.proofs.Dues as loads
use Rattle.hipc_search.specs.declared.status.Status.{Status}
use Rattle.hipc_search.specs.declared.status.Status.TheVariants.{CannotRead}
use Rattle.hipc_search.specs.Asking.{few_first, first_events}
use Rattle.hipc_search.specs.Command.{Command}
use Rattle.hipc_search.specs.Due.{Says, DueForEvents, DueForPlan, DueForScript, DueForBytes, DueForOne, DueForBoth}

-- ---- which bytes a load gave

-- these bytes are all of those, or both are too many for a schedule that comes first
abbrev pub AreEnough : (bytes all : List ℕ) → Type 0
AreEnough bytes all = (bytes ≡ all) ⊎ ((524288 < length bytes) × (524288 < length all))

cut : (all : List ℕ) → AreEnough (take 1048577 all) all
cut all = elim (cases_lt 1048577 (length all)) [
  | inl more ↦
      let long : length (take 1048577 all) ≡ 1048577 = length-take-le 1048577 all (omega (arith, more)) in
      inr (omega (arith, long), omega (arith, more))
  | inr less ↦ inl (take_all 1048577 all less)
]

found : (known : Option (List ℕ)) (bytes : List ℕ) → option_map (λ all. take 1048577 all) known ≡ Some bytes
    → (all : List ℕ) × (known ≡ Some all) × AreEnough bytes all
found None bytes h = cc
found (Some all) bytes h = (all, refl, subst (λ (x : List ℕ). AreEnough x all) (same_Some (take 1048577 all) bytes h) (cut all))

held : (files : Files) (name bytes : List ℕ) → Gives files name 1048577 bytes
    → (all : List ℕ) × Holds files name all × AreEnough bytes all
held None name bytes h = (bytes, tt, inl refl)
held (Some files) name bytes h = found (file_of files name) bytes h

-- ---- they are answered alike

too_long : (plan : Plan) (bytes : List ℕ) → 524288 < length bytes → first_events plan bytes ≡ Err (0, TooLong)
unfolding first_events
too_long plan bytes l =
    ap (λ (b : Bool). cond b (Err (0, TooLong)) (few_first (reading (after_event plan) (no_events plan) bytes)))
    (lt-ltb 524288 (length bytes) l)

first_alike : (c : Command) (plan : Plan) (bytes all : List ℕ) (s : Status) (t : List ℕ) → AreEnough bytes all
    → DueForPlan c plan (Some bytes) s t → DueForPlan c plan (Some all) s t
first_alike c plan bytes all s t (inl same) d = subst (λ (x : List ℕ). DueForPlan c plan (Some x) s t) same d
first_alike c plan bytes all s t (inr long) d =
    let mine = too_long plan bytes long.0 in
    let theirs = too_long plan all long.1 in
    let fault : DueForEvents c plan (all ++ codes "\n") (Err (0, TooLong)) s t =
    subst (λ (r : Result EventsAndNames (ℕ × Reason)). DueForEvents c plan (bytes ++ codes "\n") r s t) mine d in
    subst (λ (r : Result EventsAndNames (ℕ × Reason)). DueForEvents c plan (all ++ codes "\n") r s t) (sym theirs) fault

script_alike : (c : Command) (r : Result Plan (ℕ × Reason)) (bytes all : List ℕ) (s : Status) (t : List ℕ)
    → AreEnough bytes all → DueForScript c r (Some bytes) s t → DueForScript c r (Some all) s t
script_alike c (Ok plan) bytes all s t enough d = first_alike c plan bytes all s t enough d
script_alike c (Err fault) bytes all s t enough d = d

-- ---- a script alone

pub script_lost : (files : Files) (c : Command) (b : Bool) (s : Status) (t : List ℕ) → b ≡ true
    → Says CannotRead (cannot_line c.script) s t → DueForOne files c b s t
script_lost files c true s t e says = says
script_lost files c false s t e says = cc

by_bytes : (c : Command) (bytes all : List ℕ) (first : Option (List ℕ)) (s : Status) (t : List ℕ)
    → script_of bytes ≡ script_of all → DueForBytes c bytes first s t → DueForBytes c all first s t
by_bytes c bytes all first s t same d = subst (λ (r : Result Plan (ℕ × Reason)). DueForScript c r first s t) same d

pub script_loaded : (files : Files) (c : Command) (bytes : List ℕ) (b : Bool) (s : Status) (t : List ℕ) → b ≡ false
    → Gives files c.script 1048577 bytes → DueForBytes c bytes None s t → DueForOne files c b s t
script_loaded files c bytes true s t e gives d = cc
script_loaded files c bytes false s t e gives d =
    let script = loads.held files c.script bytes gives in
    (script.0, script.1, by_bytes c bytes script.0 None s t script.2.0 d)

-- ---- a script, and a schedule that comes first

pub first_lost : (files : Files) (c : Command) (name : List ℕ) (x y : Bool) (s : Status) (t : List ℕ) → x ≡ true
    → Says CannotRead (cannot_line c.script) s t → DueForBoth files c name x y s t
first_lost files c name true y s t e says = says
first_lost files c name false y s t e says = cc

-- the schedule was lost, and the script only if it has the same name
pub second_lost : (files : Files) (c : Command) (name : List ℕ) (x y : Bool) (s : Status) (t : List ℕ)
    → (x ≡ true → c.script ≡ name) → y ≡ true → Says CannotRead (cannot_line name) s t → DueForBoth files c name x y s t
second_lost files c name true y s t same h says = (says.0, says.1 ∙ ap cannot_line (sym (same refl)))
second_lost files c name false true s t same h says = says
second_lost files c name false false s t same h says = cc

pub both_loaded : (files : Files) (c : Command) (name bytes first : List ℕ) (x y : Bool) (s : Status) (t : List ℕ)
    → x ≡ false → y ≡ false → Gives files c.script 1048577 bytes → Gives files name 1048577 first
    → DueForBytes c bytes (Some first) s t → DueForBoth files c name x y s t
both_loaded files c name bytes first true y s t e f gives also d = cc
both_loaded files c name bytes first false true s t e f gives also d = cc
both_loaded files c name bytes first false false s t e f gives also d =
    let script = loads.held files c.script bytes gives in
    let whole = held files name first also in (
      script.0,
      whole.0,
      script.1,
      whole.1,
      script_alike c (script_of script.0) first whole.0 s t whole.2
          (by_bytes c bytes script.0 (Some first) s t script.2.0 d),
    )

-- What is due, from what the calls of the program say.
use Rattle.std.proofs.Common.{◌≡◌, ◌<◌, ◌⊎◌, List, ℕ, Bool, true, false, refl, ap, sym, ◌∙◌, subst, nat_lt, arith, take, length, Option, Some, None, Result, Ok, Err, inl, inr, cond}
use Rattle.std.proofs.lemmas.Bool.{lt-ltb, ltb-true, ltb-false}
use Rattle.std.proofs.lemmas.List.{take_all, length-take-le}
use Rattle.std.specs.Io.KnownBytes.{Keeps}
use Rattle.std.specs.Option.{option_map}
use Rattle.std.proofs.lemmas.Option.{same_Some}
use Rattle.ipc_ids.specs.Tables.{most_bytes}
use Rattle.io_edge.specs.Edge.{Gives, Holds, file_of}
use Rattle.script_lines.specs.declared.fault.Reason.{Reason}
use Rattle.script_lines.specs.declared.fault.Reason.TheVariants.{TooLong}
use Rattle.script_lines.specs.Text.{lines}
use Rattle.script_lines.specs.Plan.{Plan}
use Rattle.script_reader.specs.Reading.{reading, lines_from, plan_from_parts, events_alone, script_of, schedule_of}
use Rattle.script_lines.specs.Line.{after_line}
use Rattle.script_lines.specs.ScriptParts.{no_parts}
use Rattle.script_reader.specs.EventLine.{no_events, after_event}
use Rattle.command_line.specs.Answer.{answer_of, answer_for_script, answer_for_events}
use Rattle.command_line.specs.Command.{Command, command_of}
use Rattle.command_line.specs.Due.{Files, Names, Answers, cannot_line, Due, DueForBytes, DueForNames, DueForCommand, Whole, Part}
use Rattle.command_line.specs.declared.status.Status.{Status}
use Rattle.command_line.specs.declared.status.Status.TheVariants.{CannotRead}

-- the script was lost
pub first_lost : (files : Files) (a b : List ℕ) (x y : Bool) (s : Status)
    → s ≡ CannotRead → x ≡ true
    → DueForNames files a b x y s (cannot_line a)
first_lost files a b true y s e h = (e, refl)
first_lost files a b false y s e h = cc

-- the schedule was lost, and the script only if it is the same name
pub second_lost : (files : Files) (a b : List ℕ) (x y : Bool) (s : Status)
    → s ≡ CannotRead → (x ≡ true → a ≡ b) → y ≡ true
    → DueForNames files a b x y s (cannot_line b)
second_lost files a b true y s e same h = (e, ap cannot_line (sym (same refl)))
second_lost files a b false true s e same h = (e, refl)
second_lost files a b false false s e same h = cc

-- a text that is too long is at fault before its first line
too_long : {A : Type 0} (after : A → List ℕ → Result A Reason) (nothing : A) (bytes : List ℕ)
    → most_bytes < length bytes → reading after nothing bytes ≡ Err (0, TooLong)
unfolding reading
too_long after nothing bytes h =
    let read = lines_from after 1 nothing (lines bytes) in
    ap (λ b. cond b (Err (0, TooLong)) read) (lt-ltb most_bytes (length bytes) h)

-- a text that is too long is so too when it is cut
cut_at : {A : Type 0} (after : A → List ℕ → Result A Reason) (nothing : A) (all : List ℕ) (b : Bool)
    → nat_lt 1048577 (length all) ≡ b → reading after nothing (take 1048577 all) ≡ reading after nothing all
cut_at after nothing all false h =
    ap (reading after nothing) (take_all 1048577 all (ltb-false 1048577 (length all) h))
cut_at after nothing all true h =
    let long : 1048577 < length all = ltb-true 1048577 (length all) h in
    let cut : length (take 1048577 all) ≡ 1048577 = length-take-le 1048577 all (omega arith) in
    too_long after nothing (take 1048577 all) (omega arith)
    ∙ sym (too_long after nothing all (omega arith))

-- these bytes spell what those spell
abbrev pub SpellTheSame : List ℕ → List ℕ → Type 0
SpellTheSame bytes all =
    (script_of bytes ≡ script_of all) × ((script : Plan) → schedule_of script bytes ≡ schedule_of script all)

cut : (all : List ℕ) → SpellTheSame (take 1048577 all) all
cut all =
    let long = nat_lt 1048577 (length all) in
    (ap plan_from_parts (cut_at after_line no_parts all long refl), λ script. ap events_alone (cut_at (after_event script) (no_events script) all long refl))

found : (known : Option (List ℕ)) (bytes : List ℕ) → option_map (λ all. take 1048577 all) known ≡ Some bytes
    → (all : List ℕ) × (known ≡ Some all) × SpellTheSame bytes all
found None bytes h = cc
found (Some all) bytes h =
    (all, refl, subst (λ x. SpellTheSame x all) (same_Some (take 1048577 all) bytes h) (cut all))

-- the bytes that a load gave spell what the file spells
pub held : (files : Files) (name bytes : List ℕ) → Gives files name 1048577 bytes
    → (all : List ℕ) × Holds files name all × SpellTheSame bytes all
held None name bytes h = (bytes, tt, (refl, λ script. refl))
held (Some files) name bytes h = found (file_of files name) bytes h

script_alike : (b y : List ℕ) → ((script : Plan) → schedule_of script b ≡ schedule_of script y)
    → (r : Result Plan (ℕ × Reason)) → answer_for_script r b ≡ answer_for_script r y
script_alike b y h (Ok script) = ap (answer_for_events script) (h script)
script_alike b y h (Err fault) = refl

-- files that spell the same are answered alike
pub alike : (a b x y : List ℕ) → SpellTheSame a x → SpellTheSame b y → answer_of a b ≡ answer_of x y
alike a b x y h k = script_alike b y k.1 (script_of a) ∙ ap (λ r. answer_for_script r y) h.0

-- what is due for the bytes that were loaded is due for the names, of which none was lost
pub named : (files : Files) (script schedule a b : List ℕ) (p q : Bool)
    → p ≡ false → q ≡ false → Gives files script 1048577 a → Gives files schedule 1048577 b
    → (s : Status) (t : List ℕ) → DueForBytes a b s t → DueForNames files script schedule p q s t
named files script schedule a b true q e f g h s t d = cc
named files script schedule a b false true e f g h s t d = cc
named files script schedule a b false false e f g h s t d =
    let first = held files script a g in
    let second = held files schedule b h in
    (first.0, second.0, first.1, second.1, sym (alike a b first.0 second.0 first.2 second.2) ∙ d)

-- what was written whole, under a wider word
pub whole_on : (d e : Answers) (old new : Option (List ℕ)) (s : Status)
    → ((s : Status) (t : List ℕ) → d s t → e s t) → Whole d old new s → Whole e old new s
whole_on d e old new s f h w m = let told = h w m in (told.0, f s told.0 told.1, told.2)

-- what was written in part
pub part_on : (d e : Answers) (old new : Option (List ℕ))
    → ((s : Status) (t : List ℕ) → d s t → e s t) → Part d old new → Part e old new
part_on d e old new f h = (h.0, h.1, f h.0 h.1 h.2, h.3)

-- what was left as it was, or written in part
pub kept_or_part_on : (d e : Answers) (old new : Option (List ℕ))
    → ((s : Status) (t : List ℕ) → d s t → e s t) → Keeps old new ⊎ Part d old new → Keeps old new ⊎ Part e old new
kept_or_part_on d e old new f (inl k) = inl k
kept_or_part_on d e old new f (inr h) = inr (part_on d e old new f h)

-- as the calls say it: the second load came after the first, and each list of bytes was lent
pub loaded : (files later : Files) (script schedule a b x y : List ℕ) (p q : Bool)
    → later ≡ files → x ≡ a → y ≡ b → Gives files script 1048577 a → Gives later schedule 1048577 b
    → p ≡ false → q ≡ false
    → (s : Status) (t : List ℕ) → DueForBytes x y s t → DueForNames files script schedule p q s t
loaded files later script schedule a b x y p q same lent lent2 g h e f s t d =
    let h2 : Gives files schedule 1048577 b =
    subst (λ (v : Files). Gives v schedule 1048577 b) same h in
    let d2 : DueForBytes a b s t =
    ap (λ v. answer_of v b) (sym lent) ∙ ap (λ v. answer_of x v) (sym lent2) ∙ d in
    named files script schedule a b p q e f g h2 s t d2

-- due for the command that the words are, or for words that are none
pub due_for : (words : List (List ℕ)) (files : Files) (before after : Names) (command : Option Command)
    → command ≡ command_of words
    → (s : Status) (t : List ℕ) → DueForCommand files before after command s t → Due words files before after s t
due_for words files before after command e s t d =
    subst (λ (v : Option Command). DueForCommand files before after v s t) e d

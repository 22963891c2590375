-- Texts that add events, one behind the other.
use Rattle.std.proofs.Common.{◌≡◌, ℕ, ◌+◌, ◌*◌, ◌≤◌, List, [], ◌∷◌, ◌++◌, length, Some, Result, Ok, refl, sym, ap, ◌∙◌, append_assoc, append-nil, arith, length-append}
use Rattle.ipc_ids.specs.declared.message.Event.{Event}
use Rattle.script_lines.specs.declared.fault.Reason.{Reason}
use Rattle.script_lines.specs.Text.{lines, first_line, behind}
use Rattle.script_reader.specs.EventLine.{EventsAndNames, after_event_words, after_event_line}
use Rattle.script_reader.specs.Reading.{lines_from, at_line}
use Rattle.script_lines.proofs.Lines.{lines_of, lines_cut}
use Rattle.script_reader.specs.Schedule.{tasks_after}
use Rattle.search_goals.specs.Writing.{tasks_behind, with_more, Adds, Writes}
use Rattle.search_goals.proofs.Spaced.{IsWord, AreWords, tail_of, line_behind, line_says}

-- ---- one line

-- a line that is no fault
pub one_read : (after : EventsAndNames → List ℕ →
    Result EventsAndNames Reason) (n : ℕ) (before next : EventsAndNames) (text rest : List ℕ)
    → behind text ≡ Some rest → after before (first_line text) ≡ Ok next →
    lines_from after n before (lines text) ≡ lines_from after (n + 1) next (lines rest)
one_read after n before next text rest e f =
    ap (lines_from after n before) (lines_cut text ∙ ap (λ o. first_line text ∷ lines_of o) e)
    ∙ ap (λ r. at_line n r (λ x. lines_from after (n + 1) x (lines rest))) f

-- the words of a line add these events, and make these names known
abbrev pub WordsAdd : (templates names : List (List ℕ)) → List (List ℕ) → List Event → List (List ℕ) → Type 0
WordsAdd templates names words more known =
    (before : EventsAndNames) → before.names ≡ names → length before.events + length more ≤ 65536
    → after_event_words templates before words ≡ Ok (with_more before more known)

pub line_adds : (templates names : List (List ℕ)) (w : List ℕ) (ws : List (List ℕ)) (more : List Event) (known : List (List ℕ))
    → IsWord w → AreWords ws → WordsAdd templates names (w ∷ ws) more known → Adds templates names (w ++ tail_of ws) more known
line_adds templates names w ws more known first others adds = record {
  count = 1;
  read = λ n before rest same room.
      one_read (after_event_line templates) n before (with_more before more known)
      ((w ++ tail_of ws) ++ rest) rest (line_behind w ws rest first others)
      (line_says w ws rest first others templates before ∙ adds before same room);
}

-- ---- no events

pub with_none : (before : EventsAndNames) (names : List (List ℕ)) → before.names ≡ names → before ≡ with_more before [] names
with_none before names same =
    ap (λ (es : List Event). record { events = es; names = before.names }) (sym (append-nil before.events))
    ∙ ap (λ (ns : List (List ℕ)). record { events = before.events ++ []; names = ns }) same

pub none_added : (templates names : List (List ℕ)) → Adds templates names [] [] names
none_added templates names = record {
  count = 0;
  read = λ n before rest same room.
      ap (λ (m : ℕ). lines_from (after_event_line templates) m before (lines rest))
      (let e : n ≡ n + 0 = omega arith in e)
      ∙ ap (λ (b : EventsAndNames). lines_from (after_event_line templates) (n + 0) b (lines rest))
      (with_none before names same);
}

-- ---- one behind the other

with_both : (before : EventsAndNames) (a b : List Event) (mid known : List (List ℕ)) →
    with_more (with_more before a mid) b known ≡ with_more before (a ++ b) known
with_both before a b mid known = ap (λ (es : List Event). record { events = es; names = known })
    (append_assoc before.events a b)

pub both_added : (templates names mid known : List (List ℕ)) (s t : List ℕ) (a b : List Event)
    → Adds templates names s a mid → Adds templates mid t b known → Adds templates names (s ++ t) (a ++ b) known
both_added templates names mid known s t a b x y = record {
  count = x.count + y.count;
  read = λ n before rest same room.
      let after : EventsAndNames → List ℕ → Result EventsAndNames Reason = after_event_line templates in
      let all = length-append a b in
      let less : length before.events + length a ≤ 65536 = omega (arith, all, room) in
      let so_far = length-append before.events a in
      let more : length (before.events ++ a) + length b ≤ 65536 = omega (arith, all, room, so_far) in
      let sum : (n + x.count) + y.count ≡ n + (x.count + y.count) = omega arith in
      ap (λ (u : List ℕ). lines_from after n before (lines u)) (append_assoc s t rest)
      ∙ x.read n before (t ++ rest) same less
      ∙ y.read (n + x.count) (with_more before a mid) rest refl more
      ∙ ap (λ (m : ℕ). lines_from after m (with_more (with_more before a mid) b known) (lines rest)) sum
      ∙ ap (λ (z : EventsAndNames). lines_from after (n + (x.count + y.count)) z (lines rest))
      (with_both before a b mid known);
}

-- ---- what was put behind a text

pub tasks_both : (n : ℕ) (xs ys : List Event) → tasks_behind n (xs ++ ys) ≡ tasks_behind (tasks_behind n xs) ys
tasks_both n [] ys = refl
tasks_both n (x ∷ xs) ys = tasks_both (tasks_after n x) xs ys

-- a line of these events, of at least one, that is not long
pub writes_line : (templates names : List (List ℕ)) (old new line : List ℕ) (more : List Event) (known : List (List ℕ))
    → new ≡ old ++ line → Adds templates names line more known → length line ≤ 44 * length more
    → length known ≡ tasks_behind (length names) more → Writes templates names old new more known
writes_line templates names old new line more known parts adds short all =
    record { line = line; parts = parts; adds = adds; short = short; all = all }

pub writes_none : (templates names : List (List ℕ)) (text : List ℕ) → Writes templates names text text [] names
writes_none templates names text = record {
  line = [];
  parts = sym (append-nil text);
  adds = none_added templates names;
  short = omega arith;
  all = refl;
}

pub writes_both : (templates names mid known : List (List ℕ)) (old so_far new : List ℕ) (a b : List Event)
    → Writes templates names old so_far a mid → Writes templates mid so_far new b known
    → Writes templates names old new (a ++ b) known
writes_both templates names mid known old so_far new a b x y = record {
  line = x.line ++ y.line;
  parts = y.parts ∙ ap (λ (t : List ℕ). t ++ y.line) x.parts ∙ append_assoc old x.line y.line;
  adds = both_added templates names mid known x.line y.line a b x.adds y.adds;
  short = let text = length-append x.line y.line in let all = length-append a b in let one = x.short in let two =
      y.short in omega (arith, text, all, one, two);
  all = y.all ∙ ap (λ (n : ℕ). tasks_behind n b) x.all ∙ sym (tasks_both (length names) a b);
}

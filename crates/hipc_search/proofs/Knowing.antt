-- Which names the lines of a schedule make known, and how many tasks there are behind them.
use Rattle.std.proofs.Common.{◌≡◌, ℕ, zero, suc, ◌+◌, ◌<◌, Bool, true, false, cond, List, [], ◌∷◌, ◌++◌, length, Option, Some, None, Result, Ok, Err, refl, sym, ap, subst, ◌∙◌, length-append}
use Rattle.std.specs.Prelude.{replicate, is_some, nat_le, ◌||◌}
use Rattle.std.specs.List.{list_all}
use Rattle.std.specs.Option.{ok_or}
use Rattle.std.proofs.lemmas.Bool.{or_parts, leb-false}
use Rattle.std.proofs.lemmas.Option.{same_Some}
use Rattle.ipc_ids.specs.Tables.{most_tasks}
use Rattle.ipc_ids.specs.declared.message.Event.{Event}
use Rattle.ipc_ids.specs.declared.message.Event.TheVariants.{Spawn}
use Rattle.script_lines.specs.declared.fault.Reason.{Reason}
use Rattle.script_lines.specs.declared.fault.Reason.TheVariants.{BadByte, UnknownName, NameTaken, TooMany}
use Rattle.script_lines.specs.Names.{place_of, is_ns}
use Rattle.script_lines.specs.Operation.{◌>>=◌, needed}
use Rattle.script_lines.specs.Text.{is_allowed, words}
use Rattle.script_lines.specs.Word.{is_name, name_of}
use Rattle.script_lines.proofs.Faultless.{then_ok, chosen_ok, allowed_ok}
use Rattle.script_lines.proofs.Soundness.{made_is}
use Rattle.script_reader.specs.declared.schedule.EventVerb.{EventVerb}
use Rattle.script_reader.specs.declared.schedule.EventVerb.TheVariants as verbs
use Rattle.script_reader.specs.EventLine.{EventsAndNames, unless, is_taken, spawn_place, with_spawn, spawn_of, with_repeated, after_event_verb, after_event_words, after_event_line}
use Rattle.script_reader.specs.Reading.{lines_from}
use Rattle.script_reader.specs.Schedule.{step_of, kill_of, hangup_of, event_verb_of, with_events}
use Rattle.script_reader.proofs.EventTasks.{IsOn, may_on, steps_on, kill_on, hangup_on}
use Rattle.script_reader.proofs.KnownTasks.{free_ok}
use Rattle.search_goals.specs.Writing.{tasks_behind}
use Rattle.search_goals.proofs.Adding.{tasks_both}
use Rattle.hipc_search.specs.Known.{is_spawn, made_by}
use Rattle.hipc_search.proofs.ListWords.{line_ok}
use Rattle.hipc_search.proofs.Named.{name_is}

-- ---- what one line does

-- a line that makes no task leaves the names, and so many tasks
pub record Stays (before after : EventsAndNames) : Type 0 where
  pub names : after.names ≡ before.names
  pub tasks : (n : ℕ) → length before.names ≡ tasks_behind n before.events → tasks_behind n after.events ≡ tasks_behind n before.events

added : (before : List Event) (event : Event) (times : ℕ) (after : List Event) → with_events before event times ≡ Ok after
    → after ≡ before ++ replicate times event
unfolding with_events
added before event times after e = sym (allowed_ok _ (before ++ replicate times event) after e).1

no_more : (n t count : ℕ) (e : Event) → IsOn n e → tasks_behind n (replicate count e) ≡ n
no_more n t zero e on = refl
no_more n t (suc count) e on =
    ap (λ (m : ℕ). tasks_behind m (replicate count e)) (may_on n t e on).1 ∙ no_more n t count e on

module _ (before : EventsAndNames) where
  event_stays : (r : Result (Event × ℕ) Reason) (after : EventsAndNames)
      → ((x : Event × ℕ) → r ≡ Ok x → IsOn (length before.names) x.0) → (r >>= with_repeated before) ≡ Ok after
      → Stays before after
  event_stays r after on e =
      let said = then_ok r (with_repeated before) after e in
      let event : Event = said.0.0 in
      let times : ℕ = said.0.1 in
      let made = then_ok (with_events before.events event times) _ after said.2 in
      let is = made_is _ after made.2 in
      let events : after.events ≡ before.events ++ replicate times event =
      ap (λ (m : EventsAndNames). m.events) (sym is) ∙ added before.events event times made.0 made.1 in
      let here : IsOn (length before.names) event = on said.0 said.1 in
      record {
        names = ap (λ (m : EventsAndNames). m.names) (sym is);
        tasks = λ (n : ℕ) (all : length before.names ≡ tasks_behind n before.events).
            ap (tasks_behind n) events ∙ tasks_both n before.events (replicate times event)
            ∙ no_more (tasks_behind n before.events) 0 times event (subst (λ (m : ℕ). IsOn m event) all here);
      }

  -- one that makes a task adds its name
  pub record Makes (name : List ℕ) (after : EventsAndNames) : Type 0 where
    pub good : is_name name ≡ true
    pub free : is_some (place_of before.names name) ≡ false
    pub room : length before.names < 64
    pub names : after.names ≡ before.names ++ name ∷ []
    pub tasks : (n : ℕ) → tasks_behind n after.events ≡ tasks_behind n before.events + 1

  untaken : (templates : List (List ℕ)) (name : List ℕ) → is_taken templates before.names name ≡ false
      → is_some (place_of before.names name) ≡ false
  unfolding is_taken
  untaken templates name e =
      let outer = or_parts (is_some (place_of before.names name) || is_some (place_of templates name)) (is_ns name) e in
      (or_parts (is_some (place_of before.names name)) (is_some (place_of templates name)) outer.0).0

  same_name : (word name : List ℕ) → needed (name_of word) ≡ Ok name → word ≡ name
  unfolding name_of
  same_name word name e = by_test (is_name word) e where
    by_test : (b : Bool) → needed (cond b (Some word) None) ≡ Ok name → word ≡ name
    by_test true f = made_is word name f
    by_test false f = absurd cc

  spawn_makes : (templates : List (List ℕ)) (template name : List ℕ) (after : EventsAndNames)
      → spawn_of templates before (template ∷ name ∷ []) ≡ Ok after → Makes name after
  unfolding spawn_place
  spawn_makes templates template name after e =
      let chosen = then_ok (spawn_place templates before.names template name) (λ place. with_spawn before place name) after e in
      let first = then_ok (needed (name_of template)) _ chosen.0 chosen.1 in
      let second = then_ok (needed (name_of name)) _ chosen.0 first.2 in
      let found = then_ok (ok_or (place_of templates first.0) UnknownName) _ chosen.0 second.2 in
      let free = then_ok (unless (is_taken templates before.names second.0) NameTaken) _ chosen.0 found.2 in
      let room = then_ok (unless (nat_le most_tasks (length before.names)) TooMany) _ chosen.0 free.2 in
      let made = then_ok (with_events before.events (Spawn chosen.0) 1) _ after chosen.2 in
      let is = made_is _ after made.2 in
      let same : name ≡ second.0 = same_name name second.0 second.1 in
      let events : after.events ≡ before.events ++ Spawn chosen.0 ∷ [] =
      ap (λ (m : EventsAndNames). m.events) (sym is) ∙ added before.events (Spawn chosen.0) 1 made.0 made.1 in
      record {
        good = ap is_name same ∙ name_is name second.0 second.1;
        free = untaken templates name
            (ap (is_taken templates before.names) same
            ∙ free_ok (is_taken templates before.names second.0) NameTaken free.0 free.1);
        room = leb-false 64 (length before.names) (free_ok (nat_le most_tasks (length before.names)) TooMany room.0 room.1);
        names = ap (λ (m : EventsAndNames). m.names) (sym is);
        tasks = λ (n : ℕ). ap (tasks_behind n) events ∙ tasks_both n before.events (Spawn chosen.0 ∷ []);
      }

  -- ---- lines of words

  module _ (templates : List (List ℕ)) (after : EventsAndNames) where
    by_verb : (verb : Option EventVerb) (others : List (List ℕ)) → is_spawn verb ≡ false
        → after_event_verb templates before verb others ≡ Ok after → Stays before after
    by_verb None others other e = absurd cc
    by_verb (Some verbs.Step) others other e = event_stays (step_of before.names others) after (steps_on before.names others) e
    by_verb (Some verbs.Kill) others other e = event_stays (kill_of before.names others) after (kill_on before.names others) e
    by_verb (Some verbs.Hangup) others other e =
        event_stays (hangup_of before.names others) after (hangup_on before.names others) e
    by_verb (Some verbs.Spawn) others other e = absurd (cc other)

    spawned : (verb : Option EventVerb) (others : List (List ℕ)) → is_spawn verb ≡ true
        → after_event_verb templates before verb others ≡ Ok after → spawn_of templates before others ≡ Ok after
    spawned None others one e = absurd (cc one)
    spawned (Some verbs.Step) others one e = absurd (cc one)
    spawned (Some verbs.Kill) others one e = absurd (cc one)
    spawned (Some verbs.Hangup) others one e = absurd (cc one)
    spawned (Some verbs.Spawn) others one e = e

    -- where it would make one, but not by two words
    module _ (verb : List ℕ) (others : List (List ℕ)) (odd : spawn_of templates before others ≡ Ok after → Stays before after) where
      odd_stays : after_event_words templates before (verb ∷ others) ≡ Ok after → Stays before after
      odd_stays e = by_test (is_spawn (event_verb_of verb)) refl where
        by_test : (b : Bool) → is_spawn (event_verb_of verb) ≡ b → Stays before after
        by_test true one = odd (spawned (event_verb_of verb) others one e)
        by_test false other = by_verb (event_verb_of verb) others other e

    stays_there : after_event_words templates before [] ≡ Ok after → Stays before after
    stays_there e =
        let same : before ≡ after = made_is before after e in
        record {
          names = ap (λ (m : EventsAndNames). m.names) (sym same);
          tasks = λ (n : ℕ) (all : length before.names ≡ tasks_behind n before.events).
              ap (λ (m : EventsAndNames). tasks_behind n m.events) (sym same);
        }

    pub words_stay : (ws : List (List ℕ)) → made_by ws ≡ None → after_event_words templates before ws ≡ Ok after
        → Stays before after
    words_stay [] none e = stays_there e
    words_stay (verb ∷ []) none e = odd_stays verb [] (λ f. absurd (cc f)) e
    words_stay (verb ∷ template ∷ []) none e = odd_stays verb (template ∷ []) (λ f. absurd (cc f)) e
    words_stay (verb ∷ template ∷ name ∷ []) none e = by_test (is_spawn (event_verb_of verb)) refl none where
      by_test : (b : Bool) → is_spawn (event_verb_of verb) ≡ b → (cond b (Some name) None) ≡ None → Stays before after
      by_test true one f = absurd (cc f)
      by_test false other f = by_verb (event_verb_of verb) (template ∷ name ∷ []) other e
    words_stay (verb ∷ template ∷ name ∷ other ∷ others) none e =
        odd_stays verb (template ∷ name ∷ other ∷ others) (λ f. absurd (cc f)) e

    pub words_make : (ws : List (List ℕ)) (name : List ℕ) → made_by ws ≡ Some name
        → after_event_words templates before ws ≡ Ok after → Makes name after
    words_make [] name some e = absurd (cc some)
    words_make (verb ∷ []) name some e = absurd (cc some)
    words_make (verb ∷ template ∷ []) name some e = absurd (cc some)
    words_make (verb ∷ template ∷ word ∷ []) name some e = by_test (is_spawn (event_verb_of verb)) refl some where
      by_test : (b : Bool) → is_spawn (event_verb_of verb) ≡ b → (cond b (Some word) None) ≡ Some name → Makes name after
      by_test true one f =
          subst (λ (n : List ℕ). Makes n after) (same_Some word name f)
          (spawn_makes templates template word after (spawned (event_verb_of verb) (template ∷ word ∷ []) one e))
      by_test false other f = absurd (cc f)
    words_make (verb ∷ template ∷ word ∷ other ∷ others) name some e = absurd (cc some)

-- the names behind a line of words, by the name that was pushed if one may be
pub names_stay : (templates : List (List ℕ)) (before after : EventsAndNames) (ws : List (List ℕ)) → made_by ws ≡ None
    → after_event_words templates before ws ≡ Ok after → after.names ≡ before.names
names_stay templates before after ws none e = (words_stay before templates after ws none e).names

pub names_grow : (templates : List (List ℕ)) (before after : EventsAndNames) (ws : List (List ℕ)) (old new : List (List ℕ))
    (name : List ℕ) → made_by ws ≡ Some name → before.names ≡ old
    → (is_name name ≡ true → is_some (place_of old name) ≡ false → length old < 64 → new ≡ old ++ name ∷ [])
    → after_event_words templates before ws ≡ Ok after → after.names ≡ new
names_grow templates before after ws old new name some same pushed e =
    let m : Makes before name after = words_make before templates after ws name some e in
    m.names ∙ ap (λ (ns : List (List ℕ)). ns ++ name ∷ []) same
    ∙ sym (pushed m.good (ap (λ (ns : List (List ℕ)). is_some (place_of ns name)) (sym same) ∙ m.free)
    (subst (λ (ns : List (List ℕ)). length ns < 64) same m.room))

-- ---- lines

-- there are as many names as tasks
abbrev pub AllNamed : ℕ → EventsAndNames → Type 0
AllNamed n made = length made.names ≡ tasks_behind n made.events

words_named : (templates : List (List ℕ)) (n : ℕ) (before after : EventsAndNames) (ws : List (List ℕ)) → AllNamed n before
    → after_event_words templates before ws ≡ Ok after → AllNamed n after
words_named templates n before after ws all e = by_name (made_by ws) refl where
  by_name : (o : Option (List ℕ)) → made_by ws ≡ o → AllNamed n after
  by_name None none =
      let s : Stays before after = words_stay before templates after ws none e in
      ap (λ (ns : List (List ℕ)). length ns) s.names ∙ all ∙ sym (s.tasks n all)
  by_name (Some name) some =
      let m : Makes before name after = words_make before templates after ws name some e in
      ap (λ (ns : List (List ℕ)). length ns) m.names ∙ length-append before.names (name ∷ [])
      ∙ ap (λ (k : ℕ). k + 1) all ∙ sym (m.tasks n)

line_named : (templates : List (List ℕ)) (n : ℕ) (before after : EventsAndNames) (line : List ℕ) → AllNamed n before
    → after_event_line templates before line ≡ Ok after → AllNamed n after
unfolding after_event_line
line_named templates n before after line all e =
    words_named templates n before after (words line) all
    (chosen_ok (list_all is_allowed line) (after_event_words templates before (words line)) after e)

pub lines_named : (templates : List (List ℕ)) (n m : ℕ) (before after : EventsAndNames) (ls : List (List ℕ))
    → AllNamed n before → lines_from (after_event_line templates) m before ls ≡ Ok after → AllNamed n after
lines_named templates n m before after [] all e = subst (AllNamed n) (let same : before ≡ after = cc in same) all
lines_named templates n m before after (l ∷ ls) all e =
    let one = line_ok m (after_event_line templates before l)
    (λ next. lines_from (after_event_line templates) (m + 1) next ls) after e in
    lines_named templates n (m + 1) one.0 after ls (line_named templates n before one.0 l all one.1) one.2

-- ---- what is left of the lines, behind those whose names are known

-- some lines, from which these names and no others are known, lead to what all lines make
pub record IsLeft (templates : List (List ℕ)) (names : List (List ℕ)) (left : List (List ℕ)) (made : EventsAndNames) : Type 0 where
  pub from_here : ℕ
  pub before : EventsAndNames
  pub known : before.names ≡ names
  pub leads : lines_from (after_event_line templates) from_here before left ≡ Ok made

-- a line less is left
pub one_less : (templates old new left : List (List ℕ)) (line : List ℕ) (others : List (List ℕ)) (allowed : Bool)
    (ws : List (List ℕ)) (made : EventsAndNames) → left ≡ line ∷ others → allowed ≡ list_all is_allowed line
    → (allowed ≡ true → ws ≡ words line)
    → ((before after : EventsAndNames) → before.names ≡ old → after_event_words templates before ws ≡ Ok after → after.names ≡ new)
    → IsLeft templates old left made → IsLeft templates new others made
unfolding after_event_line
one_less templates old new left line others allowed ws made is test same named here =
    let one = line_ok here.from_here (after_event_line templates here.before line)
    (λ next. lines_from (after_event_line templates) (here.from_here + 1) next others) made
    (ap (lines_from (after_event_line templates) here.from_here here.before) (sym is) ∙ here.leads) in
    let holds : list_all is_allowed line ≡ true = allowed_line (list_all is_allowed line) one.0 one.1 in
    let said : after_event_words templates here.before (words line) ≡ Ok one.0 =
    chosen_ok (list_all is_allowed line) (after_event_words templates here.before (words line)) one.0 one.1 in
    record {
      from_here = here.from_here + 1;
      before = one.0;
      known = named here.before one.0 here.known (ap (after_event_words templates here.before) (same (test ∙ holds)) ∙ said);
      leads = one.2;
    }
  where
    allowed_line : (b : Bool) (next : EventsAndNames)
        → cond b (after_event_words templates here.before (words line)) (Err BadByte) ≡ Ok next → b ≡ true
    allowed_line true next e = refl
    allowed_line false next e = absurd cc

pub none_left : (templates names : List (List ℕ)) (left : List (List ℕ)) (made : EventsAndNames) → left ≡ []
    → IsLeft templates names left made → names ≡ made.names
none_left templates names left made none here =
    let same : here.before ≡ made =
    cc (ap (lines_from (after_event_line templates) here.from_here here.before) (sym none) ∙ here.leads) in
    sym here.known ∙ ap (λ (m : EventsAndNames). m.names) same

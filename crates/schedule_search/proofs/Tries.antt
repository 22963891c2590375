-- What the tests of events say, and what stays as it is where one event more comes.
use Rattle.std.proofs.Common.{ℕ, ◌≡◌, ◌≤◌, ◌+◌, Bool, true, false, ◌&&◌, List, [], ◌∷◌, ◌++◌, length, length-append, None, Some, refl, sym, ◌∙◌, ap, arith, le-leb, append_assoc, append-nil}
use Rattle.std.specs.Prelude.{Option, ◌==◌, nat_le, nat_lt}
use Rattle.std.specs.List.{count_by}
use Rattle.std.proofs.lemmas.Bool.{and_parts, and_from, both_ways, leb-true, ltb-true}
use Rattle.std.proofs.lemmas.Grind.{flat_map-append}
use Rattle.std.proofs.lemmas.List.Sums.{sum_by-append}
use Rattle.ipc_ids.specs.Tables.{most_tasks}
use Rattle.ipc_ids.specs.declared.message.Event.{Event}
use Rattle.ipc_ids.specs.declared.message.Event.TheVariants.{Step, Kill, Hangup, Spawn}
use Rattle.script_reader.specs.Schedule.{MayCome, MayAllCome, tasks_after}
use Rattle.run_words.specs.Reached.{spawn_of, spawns_of}
use Rattle.run_words.proofs.Reaching.{one_counted}
use Rattle.search_goals.specs.Writing.{tasks_behind}
use Rattle.schedule_search.specs.declared.problem.MostMade.{MostMade}
use Rattle.schedule_search.specs.Search.{Search, kills_in, is_within, made_in, are_few, may_come, may_all_come, first_tasks, may_try}

-- ---- how many tasks there are

pub tasks_are : (n : ℕ) (es : List Event) → tasks_behind n es ≡ n + length (spawns_of es)
tasks_are n [] = omega arith
tasks_are n (e ∷ es) =
    let one : tasks_after n e ≡ n + length (spawn_of e) = one_counted n e in
    let later : tasks_behind (tasks_after n e) es ≡ tasks_after n e + length (spawns_of es) = tasks_are (tasks_after n e) es in
    let both : length (spawn_of e ++ spawns_of es) ≡ length (spawn_of e) + length (spawns_of es) =
    length-append (spawn_of e) (spawns_of es) in
    later ∙ (let sum : tasks_after n e + length (spawns_of es) ≡ n + length (spawn_of e ++ spawns_of es) =
    omega (arith, one, both) in sum)

-- ---- what may come

one_comes : (n t : ℕ) (e : Event) → may_come n t e ≡ true → MayCome n t e
one_comes n t (Step task) h =
    let parts = and_parts (nat_le 1 task.0) (nat_le task.0 n) h in
    (leb-true 1 task.0 parts.0, leb-true task.0 n parts.1)
one_comes n t (Kill task) h =
    let parts = and_parts (nat_le 1 task.0) (nat_le task.0 n) h in
    (leb-true 1 task.0 parts.0, leb-true task.0 n parts.1)
one_comes n t (Hangup task phone) h =
    let parts = and_parts (nat_le 1 task.0) (nat_le task.0 n) h in
    (leb-true 1 task.0 parts.0, leb-true task.0 n parts.1)
one_comes n t (Spawn place) h =
    let parts = and_parts (nat_lt place t) (nat_lt n most_tasks) h in
    (ltb-true place t parts.0, ltb-true n most_tasks parts.1)

pub all_come : (n t : ℕ) (es : List Event) → may_all_come n t es ≡ true → MayAllCome n t es
all_come n t [] h = tt
all_come n t (e ∷ es) h =
    let parts = and_parts (may_come n t e) (may_all_come (tasks_after n e) t es) h in
    (one_comes n t e parts.0, all_come (tasks_after n e) t es parts.1)

pub come_both : (n t : ℕ) (xs ys : List Event) → MayAllCome n t xs → MayAllCome (tasks_behind n xs) t ys
    → MayAllCome n t (xs ++ ys)
come_both n t [] ys may later = later
come_both n t (x ∷ xs) ys may later = (may.0, come_both (tasks_after n x) t xs ys may.1 later)

and_end : (b : Bool) → (b && true) ≡ b
and_end true = refl
and_end false = refl

and_moved : (a b c : Bool) → (a && (b && c)) ≡ ((a && b) && c)
and_moved true b c = refl
and_moved false b c = refl

pub come_more : (n t : ℕ) (es : List Event) (x : Event)
    → may_all_come n t (es ++ x ∷ []) ≡ (may_all_come n t es && may_come (tasks_behind n es) t x)
come_more n t [] x = and_end (may_come n t x)
come_more n t (e ∷ es) x =
    ap (λ (b : Bool). may_come n t e && b) (come_more (tasks_after n e) t es x)
    ∙ and_moved (may_come n t e) (may_all_come (tasks_after n e) t es) (may_come (tasks_behind (tasks_after n e) es) t x)

-- ---- how many tasks are made of a template

made_is : (place : ℕ) (es : List Event) → made_in place es ≡ count_by (λ (other : ℕ). other == place) (spawns_of es)
made_is place [] = refl
made_is place (Step task ∷ es) = made_is place es
made_is place (Kill task ∷ es) = made_is place es
made_is place (Hangup task phone ∷ es) = made_is place es
made_is place (Spawn other ∷ es) =
    sum_by-append _ (Spawn other ∷ []) es
    ∙ ap (λ (n : ℕ). made_in place (Spawn other ∷ []) + n) (made_is place es)
    ∙ sym (sum_by-append _ (other ∷ []) (spawns_of es))

made_alike : (place : ℕ) (es fs : List Event) → spawns_of es ≡ spawns_of fs → made_in place es ≡ made_in place fs
made_alike place es fs e =
    made_is place es ∙ ap (λ (z : List ℕ). count_by (λ (other : ℕ). other == place) z) e ∙ sym (made_is place fs)

pub few_alike : (bounds : List MostMade) (es fs : List Event) → spawns_of es ≡ spawns_of fs
    → are_few bounds es ≡ are_few bounds fs
few_alike [] es fs e = refl
few_alike (b ∷ bounds) es fs e =
    ap (λ (n : ℕ). nat_le n b.most && are_few bounds es) (made_alike b.place es fs e)
    ∙ ap (λ (z : Bool). nat_le (made_in b.place fs) b.most && z) (few_alike bounds es fs e)

pub spawns_more : (es : List Event) (x : Event) → spawns_of (es ++ x ∷ []) ≡ spawns_of es ++ spawns_of (x ∷ [])
spawns_more es x = flat_map-append spawn_of es (x ∷ [])

-- ---- events that may be tried with one more behind them may be tried

made_before : (place most : ℕ) (es : List Event) (x : Event) → nat_le (made_in place (es ++ x ∷ [])) most ≡ true
    → nat_le (made_in place es) most ≡ true
made_before place most es x h =
    let more : made_in place (es ++ x ∷ []) ≡ made_in place es + made_in place (x ∷ []) = sum_by-append _ es (x ∷ []) in
    let l : made_in place (es ++ x ∷ []) ≤ most = leb-true (made_in place (es ++ x ∷ [])) most h in
    le-leb (made_in place es) most (omega (arith, more, l))

few_before : (bounds : List MostMade) (es : List Event) (x : Event) → are_few bounds (es ++ x ∷ []) ≡ true
    → are_few bounds es ≡ true
few_before [] es x h = refl
few_before (b ∷ bounds) es x h =
    let parts = and_parts (nat_le (made_in b.place (es ++ x ∷ [])) b.most) (are_few bounds (es ++ x ∷ [])) h in
    and_from _ _ (made_before b.place b.most es x parts.0) (few_before bounds es x parts.1)

within_before : (most : Option ℕ) (k more : ℕ) → is_within most (k + more) ≡ true → is_within most k ≡ true
within_before None k more h = refl
within_before (Some most) k more h =
    let l : k + more ≤ most = leb-true (k + more) most h in
    le-leb k most (omega (arith, l))

pub kills_more : (es : List Event) (e : Event) → kills_in (es ++ e ∷ []) ≡ kills_in es + kills_in (e ∷ [])
kills_more es e = sum_by-append _ es (e ∷ [])

module _ (s : Search) where
  abbrev templates : ℕ
  templates = length s.plan.templates

  -- what a test that holds says
  pub record Tried (es : List Event) : Type 0 where
    pub kills : is_within s.kills (kills_in es) ≡ true
    pub few : are_few s.spawns es ≡ true
    pub come : may_all_come (first_tasks s) templates es ≡ true

  pub tried_parts : (es : List Event) → may_try s es ≡ true → Tried es
  tried_parts es h =
      let outer = and_parts (is_within s.kills (kills_in es))
      (are_few s.spawns es && may_all_come (first_tasks s) templates es) h in
      let inner = and_parts (are_few s.spawns es) (may_all_come (first_tasks s) templates es) outer.1 in
      record { kills = outer.0; few = inner.0; come = inner.1 }

  tried_from : (es : List Event) → Tried es → may_try s es ≡ true
  tried_from es t = and_from _ _ t.kills (and_from _ _ t.few t.come)

  tried_before : (es : List Event) (x : Event) → may_try s (es ++ x ∷ []) ≡ true → may_try s es ≡ true
  tried_before es x h =
      let parts : Tried (es ++ x ∷ []) = tried_parts (es ++ x ∷ []) h in
      tried_from es (record {
        kills = within_before s.kills (kills_in es) (kills_in (x ∷ [])) (ap (is_within s.kills) (sym (kills_more es x)) ∙ parts.kills);
        few = few_before s.spawns es x parts.few;
        come = (and_parts (may_all_come (first_tasks s) templates es) (may_come (tasks_behind (first_tasks s) es) templates x)
            (sym (come_more (first_tasks s) templates es x) ∙ parts.come)).0;
      })

  -- so may those before any others
  pub front_tried : (es fs : List Event) → may_try s (es ++ fs) ≡ true → may_try s es ≡ true
  front_tried es [] h = ap (may_try s) (sym (append-nil es)) ∙ h
  front_tried es (f ∷ fs) h =
      tried_before es f (front_tried (es ++ f ∷ []) fs (ap (may_try s) (append_assoc es (f ∷ []) fs) ∙ h))

  pub stays_untried : (es : List Event) (x : Event) → may_try s es ≡ false → may_try s (es ++ x ∷ []) ≡ false
  stays_untried es x h = by_test (may_try s (es ++ x ∷ [])) refl where
    by_test : (b : Bool) → may_try s (es ++ x ∷ []) ≡ b → b ≡ false
    by_test false e = refl
    by_test true e = absurd (both_ways (may_try s es) h (tried_before es x e))

  -- two lists of events after which the same tasks were made, and that may be tried
  module _ (es fs : List Event) (x : Event) (one : may_try s es ≡ true) (other : may_try s fs ≡ true)
      (spawns : spawns_of es ≡ spawns_of fs) where
    tasks_same : tasks_behind (first_tasks s) es ≡ tasks_behind (first_tasks s) fs
    tasks_same =
        tasks_are (first_tasks s) es ∙ ap (λ (z : List ℕ). first_tasks s + length z) spawns ∙ sym (tasks_are (first_tasks s) fs)

    come_here : (gs : List Event) → may_try s gs ≡ true
        → may_all_come (first_tasks s) templates (gs ++ x ∷ []) ≡ may_come (tasks_behind (first_tasks s) gs) templates x
    come_here gs tried =
        come_more (first_tasks s) templates gs x
        ∙ ap (λ (b : Bool). b && may_come (tasks_behind (first_tasks s) gs) templates x) (tried_parts gs tried).come

    come_alike : may_all_come (first_tasks s) templates (es ++ x ∷ []) ≡ may_all_come (first_tasks s) templates (fs ++ x ∷ [])
    come_alike = come_here es one ∙ ap (λ (n : ℕ). may_come n templates x) tasks_same ∙ sym (come_here fs other)

    pub spawns_alike : spawns_of (es ++ x ∷ []) ≡ spawns_of (fs ++ x ∷ [])
    spawns_alike = spawns_more es x ∙ ap (λ (z : List ℕ). z ++ spawns_of (x ∷ [])) spawns ∙ sym (spawns_more fs x)

    -- so with one event more both may be tried, or neither
    pub tries_alike : is_within s.kills (kills_in (es ++ x ∷ [])) ≡ is_within s.kills (kills_in (fs ++ x ∷ []))
        → may_try s (es ++ x ∷ []) ≡ may_try s (fs ++ x ∷ [])
    tries_alike kills =
        ap (λ (b : Bool). b && (are_few s.spawns (es ++ x ∷ []) && may_all_come (first_tasks s) templates (es ++ x ∷ []))) kills
        ∙ ap (λ (b : Bool). is_within s.kills (kills_in (fs ++ x ∷ [])) && (b && may_all_come (first_tasks s) templates (es ++ x ∷ [])))
        (few_alike s.spawns (es ++ x ∷ []) (fs ++ x ∷ []) spawns_alike)
        ∙ ap (λ (b : Bool). is_within s.kills (kills_in (fs ++ x ∷ [])) && (are_few s.spawns (fs ++ x ∷ []) && b)) come_alike

-- Steps of tasks: by their numbers, and from states of the same words.
use Rattle.std.proofs.Common.{ℕ, ◌≡◌, ◌≤◌, ◌<◌, ◌+◌, ◌-◌, ◌%◌, true, false, List, [], ◌∷◌, ◌++◌, length, length-append, take, get_or, reverse, refl, sym, ◌∙◌, ap, subst, arith}
use Rattle.std.specs.Prelude.{None}
use Rattle.std.proofs.lemmas.Bool.{both_ways, true_from_ne_false}
use Rattle.std.proofs.lemmas.List.{append-nil}
use Rattle.std.proofs.lemmas.Nat.{mod_below}
use Rattle.schedule_replay.proofs.UnderWay.{after_append}
use Rattle.ipc_ids.specs.declared.message.Event.{Event}
use Rattle.ipc_ids.specs.declared.message.Event.TheVariants.{Step, Kill, Hangup, Spawn}
use Rattle.answerbox.specs.Calls.{call_at}
use Rattle.script_lines.specs.Plan.{Plan}
use Rattle.script_lines.specs.Sound.{IsTask}
use Rattle.script_reader.specs.Schedule.{MayAllCome}
use Rattle.task_system.specs.Run.{RunState, turn, state_after, MayAllHappen}
use Rattle.state_words.specs.Order.{AreOfOneOrder}
use Rattle.run_words.specs.Reached.{IsReached}
use Rattle.run_words.specs.RunWords.{run_words}
use Rattle.run_words.proofs.Reaching.{goes_on}
use Rattle.search_core.specs.Moves.{AreMoves}
use Rattle.schedule_search.specs.OpenCalls.{is_open}
use Rattle.schedule_search.specs.Meeting.{is_at_rest}
use Rattle.schedule_search.specs.Lost.{AreSteps, IsLost, HasLostCall}
use Rattle.schedule_search.specs.Ahead.{steps_of, ahead, IsClosed}
use Rattle.schedule_search.proofs.Behind.{may_behind}
use Rattle.schedule_search.proofs.Orders.{open_alike}
use Rattle.schedule_search.proofs.Words.{WordsTell}
use Rattle.schedule_search.proofs.Paths.{oldest_is, taken_more}
use Rattle.schedule_search.proofs.Resting.{words_stay}

-- ---- by their numbers

steps_both : (n : ℕ) (es fs : List Event) → AreSteps n es → AreSteps n fs → AreSteps n (es ++ fs)
steps_both n [] fs h k = k
steps_both n (e ∷ es) fs h k = (h.0, steps_both n es fs h.1 k)

pub moves_are_steps : (n : ℕ) (p : List ℕ) → AreMoves n p → AreSteps n (steps_of p)
moves_are_steps n [] h = tt
moves_are_steps n (m ∷ p) h =
    let l : m < n = h.0 in
    let one : IsTask n (m + 1) = (omega arith, omega arith) in
    steps_both n (steps_of p) (Step (record { 0 = m + 1 }) ∷ []) (moves_are_steps n p h.1) ((tt, one), tt)

oldest_step : (p : List ℕ) (m : ℕ) → steps_of (p ++ m ∷ []) ≡ Step (record { 0 = m + 1 }) ∷ steps_of p
oldest_step [] m = refl
oldest_step (k ∷ p) m = ap (λ (z : List Event). z ++ Step (record { 0 = k + 1 }) ∷ []) (oldest_step p m)

-- steps have the numbers of moves
pub record NumberedSteps (n : ℕ) (steps : List Event) : Type 0 where
  pub numbers : List ℕ
  pub are_moves : AreMoves n numbers
  pub by : steps_of numbers ≡ steps

pub numbered_steps : (n : ℕ) (steps : List Event) → AreSteps n steps → NumberedSteps n steps
numbered_steps n [] h = record { numbers = []; are_moves = tt; by = refl }
numbered_steps n (Step task ∷ steps) h =
    let later : NumberedSteps n steps = numbered_steps n steps h.1 in
    let low : 1 ≤ task.0 = h.0.1.0 in
    let high : task.0 ≤ n = h.0.1.1 in
    let back : task.0 - 1 + 1 ≡ task.0 = omega arith in
    record {
      numbers = later.numbers ++ (task.0 - 1) ∷ [];
      are_moves = oldest_is n later.numbers (task.0 - 1) (omega arith) later.are_moves;
      by = oldest_step later.numbers (task.0 - 1)
          ∙ ap (λ (z : ℕ). Step (record { 0 = z }) ∷ steps_of later.numbers) back
          ∙ ap (λ (z : List Event). Step task ∷ z) later.by;
    }
numbered_steps n (Kill task ∷ steps) h = absurd h.0.0
numbered_steps n (Hangup task phone ∷ steps) h = absurd h.0.0
numbered_steps n (Spawn place ∷ steps) h = absurd h.0.0

-- one step more of a path, which has the oldest first
pub step_more : (path : List ℕ) (i d : ℕ) (so_far now : List Event) (e : Event) → i < length path
    → so_far ≡ steps_of (reverse (take i path)) → e ≡ Step (record { 0 = get_or path i d + 1 })
    → now ≡ so_far ++ e ∷ [] → now ≡ steps_of (reverse (take (i + 1) path))
step_more path i d so_far now e l is at pushed =
    pushed
    ∙ ap (λ (z : List Event). z ++ e ∷ []) is
    ∙ ap (λ (z : Event). steps_of (reverse (take i path)) ++ z ∷ []) at
    ∙ ap steps_of (sym (taken_more path i d l))

pub steps_counted : (p : List ℕ) → length (steps_of p) ≡ length p
steps_counted [] = refl
steps_counted (m ∷ p) =
    let a : length (steps_of p ++ Step (record { 0 = m + 1 }) ∷ []) ≡ length (steps_of p) + 1 =
    length-append (steps_of p) (Step (record { 0 = m + 1 }) ∷ []) in
    let b : length (steps_of p) ≡ length p = steps_counted p in
    omega arith

-- they may come
pub steps_may : (n templates : ℕ) (steps : List Event) → AreSteps n steps → MayAllCome n templates steps
steps_may n templates [] h = tt
steps_may n templates (Step task ∷ steps) h = (h.0.1, steps_may n templates steps h.1)
steps_may n templates (Kill task ∷ steps) h = absurd h.0.0
steps_may n templates (Hangup task phone ∷ steps) h = absurd h.0.0
steps_may n templates (Spawn place ∷ steps) h = absurd h.0.0

-- ---- from one state to another

abbrev tasks_of : RunState → ℕ
tasks_of now = length now.kernel.tasks.alive

-- steps of tasks lead from the one to the other
pub record IsLed (base now : RunState) : Type 0 where
  pub steps : List Event
  pub are_steps : AreSteps (tasks_of base) steps
  pub state : now ≡ state_after base steps

pub led_nowhere : (base now : RunState) → now ≡ base → IsLed base now
led_nowhere base now is = record { steps = []; are_steps = tt; state = is }

pub led_on : (base now next : RunState) (t : ℕ) → IsLed base now → IsTask (tasks_of base) t
    → next ≡ (turn now (Step (record { 0 = t }))).state → IsLed base next
led_on base now next t led is to =
    record {
      steps = led.steps ++ Step (record { 0 = t }) ∷ [];
      are_steps = steps_both (tasks_of base) led.steps (Step (record { 0 = t }) ∷ []) led.are_steps ((tt, is), tt);
      state = to
          ∙ ap (λ (z : RunState). (turn z (Step (record { 0 = t }))).state) led.state
          ∙ sym (after_append base led.steps (Step (record { 0 = t }) ∷ []));
    }

-- by a step of one of so many tasks, whichever a number chooses
pub led_on_by : (base now next : RunState) (number tasks : ℕ) → IsLed base now → tasks ≡ tasks_of base → 0 < tasks
    → next ≡ (turn now (Step (record { 0 = number % tasks + 1 }))).state → IsLed base next
led_on_by base now next number tasks led count some to =
    let low : number % tasks < tasks = mod_below number tasks some in
    led_on base now next (number % tasks + 1) led
    (subst (λ (n : ℕ). IsTask n (number % tasks + 1)) count (omega arith, omega arith)) to

-- one of so many tasks is there still
pub led_there : (base now : RunState) (tasks t : ℕ) → IsLed base now → tasks ≡ tasks_of base → IsTask tasks t
    → IsTask (tasks_of now) t
led_there base now tasks t led count is =
    let one : List Event = Step (record { 0 = t }) ∷ [] in
    let here : IsTask (tasks_of base) t = subst (λ (n : ℕ). IsTask n t) count is in
    let all : MayAllHappen base (led.steps ++ one) =
    steps_may (tasks_of base) (length base.templates) (led.steps ++ one)
    (steps_both (tasks_of base) led.steps one led.are_steps ((tt, here), tt)) in
    subst (λ (z : RunState). IsTask (tasks_of z) t) (sym led.state) (may_behind base led.steps one all).0

-- a call that is closed there is not lost
pub led_closed : (base now : RunState) (n : ℕ) → IsLed base now → is_open None (call_at now.kernel.calls n) ≡ false
    → IsLost base n → ⊥
led_closed base now n led closed lost =
    both_ways (is_open None (call_at (state_after base led.steps).kernel.calls n))
    (ap (λ (z : RunState). is_open None (call_at z.kernel.calls n)) (sym led.state) ∙ closed)
    (lost led.steps led.are_steps)

-- ---- from states that are reached

module _ (plan : Plan) (spawned : List ℕ) (tell : WordsTell plan spawned) where
  step_reached : (a : RunState) (t : ℕ) → IsReached plan spawned a → IsTask (tasks_of a) t
      → IsReached plan spawned (turn a (Step (record { 0 = t }))).state
  step_reached a t r is =
      subst (λ (z : List ℕ). IsReached plan z (turn a (Step (record { 0 = t }))).state) (append-nil spawned)
      (goes_on plan spawned a (Step (record { 0 = t })) r is)

  steps_on : (a b : RunState) (steps : List Event) → IsReached plan spawned a → IsReached plan spawned b
      → AreSteps (tasks_of a) steps → AreSteps (tasks_of b) steps
  steps_on a b steps r s h = subst (λ (n : ℕ). AreSteps n steps) (tell.tasks a b r s) h

  pub steps_reach : (steps : List Event) (a : RunState) → IsReached plan spawned a → AreSteps (tasks_of a) steps
      → IsReached plan spawned (state_after a steps)
  steps_reach [] a r h = r
  steps_reach (Step task ∷ steps) a r h =
      let next : IsReached plan spawned (turn a (Step task)).state = step_reached a task.0 r h.0.1 in
      steps_reach steps (turn a (Step task)).state next (steps_on a (turn a (Step task)).state steps r next h.1)
  steps_reach (Kill task ∷ steps) a r h = absurd h.0.0
  steps_reach (Hangup task phone ∷ steps) a r h = absurd h.0.0
  steps_reach (Spawn place ∷ steps) a r h = absurd h.0.0

  -- from states of the same words steps lead to such
  words_along : (steps : List Event) (a b : RunState) → IsReached plan spawned a → IsReached plan spawned b
      → run_words a ≡ run_words b → AreSteps (tasks_of a) steps
      → run_words (state_after a steps) ≡ run_words (state_after b steps)
  words_along [] a b r s e h = e
  words_along (Step task ∷ steps) a b r s e h =
      let there : AreSteps (tasks_of b) (Step task ∷ steps) = steps_on a b (Step task ∷ steps) r s h in
      let next : IsReached plan spawned (turn a (Step task)).state = step_reached a task.0 r h.0.1 in
      words_along steps (turn a (Step task)).state (turn b (Step task)).state next
      (step_reached b task.0 s there.0.1) (tell.words a b (Step task) r s e)
      (steps_on a (turn a (Step task)).state steps r next h.1)
  words_along (Kill task ∷ steps) a b r s e h = absurd h.0.0
  words_along (Hangup task phone ∷ steps) a b r s e h = absurd h.0.0
  words_along (Spawn place ∷ steps) a b r s e h = absurd h.0.0

  -- so the same calls are lost
  pub lost_alike : (a b : RunState) → IsReached plan spawned a → IsReached plan spawned b
      → run_words a ≡ run_words b → HasLostCall a → HasLostCall b
  lost_alike a b r s e lost =
      let n : ℕ = lost.0 in
      let calls : AreOfOneOrder a.kernel.calls b.kernel.calls = tell.calls a b r s e in (
        n,
        subst (λ (z : ℕ). n < z) calls.next lost.1,
        λ (steps : List Event) (h : AreSteps (tasks_of b) steps).
            (let k : AreSteps (tasks_of a) steps = steps_on b a steps s r h in
            let same : AreOfOneOrder (state_after a steps).kernel.calls (state_after b steps).kernel.calls =
            tell.calls (state_after a steps) (state_after b steps) (steps_reach steps a r k) (steps_reach steps b s h)
            (words_along steps a b r s e k) in
            sym (open_alike None (state_after a steps).kernel.calls (state_after b steps).kernel.calls same n) ∙ lost.2 steps k),
      )

  -- from a state at rest steps lead to states of its words
  at_rest_along : (steps : List Event) (base now : RunState) → IsReached plan spawned base → IsReached plan spawned now
      → run_words now ≡ run_words base → is_at_rest base ≡ true → AreSteps (tasks_of now) steps
      → run_words (state_after now steps) ≡ run_words base
  at_rest_along [] base now r s e rests h = e
  at_rest_along (Step task ∷ steps) base now r s e rests h =
      let there : AreSteps (tasks_of base) (Step task ∷ steps) = steps_on now base (Step task ∷ steps) s r h in
      let next : IsReached plan spawned (turn now (Step task)).state = step_reached now task.0 s h.0.1 in
      let same : run_words (turn now (Step task)).state ≡ run_words base =
      tell.words now base (Step task) s r e ∙ words_stay base task.0 rests there.0.1 in
      at_rest_along steps base (turn now (Step task)).state r next same rests
      (steps_on now (turn now (Step task)).state steps s next h.1)
  at_rest_along (Kill task ∷ steps) base now r s e rests h = absurd h.0.0
  at_rest_along (Hangup task phone ∷ steps) base now r s e rests h = absurd h.0.0
  at_rest_along (Spawn place ∷ steps) base now r s e rests h = absurd h.0.0

  -- so what is open there is lost
  pub open_at_rest : (now : RunState) (n : ℕ) → IsReached plan spawned now → is_at_rest now ≡ true
      → is_open None (call_at now.kernel.calls n) ≡ true → IsLost now n
  open_at_rest now n r rests waits steps h =
      let same : AreOfOneOrder (state_after now steps).kernel.calls now.kernel.calls =
      tell.calls (state_after now steps) now (steps_reach steps now r h) r (at_rest_along steps now now r r refl rests h) in
      open_alike None (state_after now steps).kernel.calls now.kernel.calls same n ∙ waits

  -- ---- one step more behind steps by their numbers
  module _ (base : RunState) (reached : IsReached plan spawned base) (tasks : ℕ) (count : tasks ≡ tasks_of base) where
    are_steps : (p : List ℕ) → AreMoves tasks p → AreSteps (tasks_of base) (steps_of p)
    are_steps p h = subst (λ (n : ℕ). AreSteps n (steps_of p)) count (moves_are_steps tasks p h)

    pub may_ahead : (p : List ℕ) → AreMoves tasks p → MayAllHappen base (steps_of p)
    may_ahead p h = steps_may (tasks_of base) (length base.templates) (steps_of p) (are_steps p h)

    ahead_reached : (p : List ℕ) → AreMoves tasks p → IsReached plan spawned (ahead base p)
    ahead_reached p h = steps_reach (steps_of p) base reached (are_steps p h)

    pub words_go_on : (p q : List ℕ) (m : ℕ) → AreMoves tasks (m ∷ p) → AreMoves tasks (m ∷ q)
        → run_words (ahead base p) ≡ run_words (ahead base q)
        → run_words (ahead base (m ∷ p)) ≡ run_words (ahead base (m ∷ q))
    words_go_on p q m h k e =
        ap run_words (after_append base (steps_of p) (Step (record { 0 = m + 1 }) ∷ []))
        ∙ tell.words (ahead base p) (ahead base q) (Step (record { 0 = m + 1 })) (ahead_reached p h.1) (ahead_reached q k.1) e
        ∙ sym (ap run_words (after_append base (steps_of q) (Step (record { 0 = m + 1 }) ∷ [])))

    pub closed_alike : (n : ℕ) (p q : List ℕ) (m : ℕ) → AreMoves tasks (m ∷ p) → AreMoves tasks (m ∷ q)
        → run_words (ahead base p) ≡ run_words (ahead base q) → IsClosed base n (m ∷ p) → IsClosed base n (m ∷ q)
    closed_alike n p q m h k e closed =
        let same : AreOfOneOrder (ahead base (m ∷ p)).kernel.calls (ahead base (m ∷ q)).kernel.calls =
        tell.calls (ahead base (m ∷ p)) (ahead base (m ∷ q)) (ahead_reached (m ∷ p) h) (ahead_reached (m ∷ q) k)
        (words_go_on p q m h k e) in
        sym (open_alike None (ahead base (m ∷ p)).kernel.calls (ahead base (m ∷ q)).kernel.calls same n) ∙ closed

    -- ---- what a search for steps that close a call tells
    pub closed_not_lost : (n : ℕ) (p : List ℕ) → AreMoves tasks p → IsClosed base n p → IsLost base n → ⊥
    closed_not_lost n p h closed lost =
        both_ways (is_open None (call_at (ahead base p).kernel.calls n)) closed (lost (steps_of p) (are_steps p h))

    pub none_closed : (n : ℕ) → ((p : List ℕ) → AreMoves tasks p → IsClosed base n p → ⊥) → IsLost base n
    none_closed n none steps h =
        let k : AreSteps tasks steps = subst (λ (z : ℕ). AreSteps z steps) (sym count) h in
        let q : NumberedSteps tasks steps = numbered_steps tasks steps k in
        ap (λ (z : List Event). is_open None (call_at (state_after base z).kernel.calls n)) (sym q.by)
        ∙ true_from_ne_false (is_open None (call_at (ahead base q.numbers).kernel.calls n)) (none q.numbers q.are_moves)

-- One event of several more, as goals are followed behind them.
use Rattle.std.proofs.Common.{ℕ, ◌≡◌, ◌≤◌, ◌<◌, ◌+◌, List, [], ◌∷◌, ◌++◌, length, length-append, take, drop, get_or, refl, sym, ◌∙◌, ap, subst, arith}
use Rattle.std.proofs.lemmas.List.{take_more, take_all, take-append-drop}
use Rattle.schedule_replay.proofs.UnderWay.{after_append}
use Rattle.ipc_ids.specs.declared.entry.Entry.{Entry}
use Rattle.ipc_ids.specs.declared.message.Event.{Event}
use Rattle.task_system.specs.Run.{RunState, turn, MayHappen, MayAllHappen}
use Rattle.schedule_search.specs.Search.{Search, AreOf, may_try, first_state, state_behind}
use Rattle.schedule_search.specs.Left.{Left, left_here, left_behind}
use Rattle.schedule_search.specs.Problem.{CanDo}
use Rattle.schedule_search.proofs.Behind.{may_behind, moves_may}
use Rattle.schedule_search.proofs.Doing.{may_first}
use Rattle.schedule_search.proofs.Tries.{front_tried}
use Rattle.schedule_search.proofs.Turns.{left_more}

of_front : (moves es fs : List Event) → AreOf moves (es ++ fs) → AreOf moves es
of_front moves [] fs h = tt
of_front moves (e ∷ es) fs h = (h.0, of_front moves es fs h.1)

-- of events that can be done so many can
pub can_front : (s : Search) (es : List Event) (i : ℕ) → CanDo s es → CanDo s (take i es)
can_front s es i can =
    let whole : take i es ++ drop i es ≡ es = take-append-drop i es in
    let long = length-append (take i es) (drop i es) in
    let same = ap (λ (z : List Event). length z) whole in
    let few = can.few in
    record {
      sound = can.sound;
      of_moves = of_front s.moves (take i es) (drop i es) (subst (AreOf s.moves) (sym whole) can.of_moves);
      few = omega (arith, long, same, few);
      tried = front_tried s (take i es) (drop i es) (ap (may_try s) whole ∙ can.tried);
    }

pub can_none : (s : Search) (es : List Event) → CanDo s es → CanDo s []
can_none s es can = can_front s es 0 can

module _ (s : Search) (es : List Event) (i : ℕ) (d : Event) (within : i < length es) where
  abbrev e : Event
  e = get_or es i d

  pub may_next : (now : RunState) → CanDo s es → now ≡ state_behind s (take i es) → MayHappen now e
  may_next now can here =
      let all : MayAllHappen (first_state s) (take i es ++ drop i es) =
      subst (MayAllHappen (first_state s)) (sym (take-append-drop i es)) (moves_may s can.sound (first_state s) es refl can.tried) in
      may_first es i e d within refl now
      (subst (λ (z : RunState). MayAllHappen z (drop i es)) (sym here) (may_behind (first_state s) (take i es) (drop i es) all))

  pub state_on : (now next : RunState) → now ≡ state_behind s (take i es) → next ≡ (turn now e).state
      → next ≡ state_behind s (take (i + 1) es)
  state_on now next here to =
      to
      ∙ ap (λ (z : RunState). (turn z e).state) here
      ∙ sym (after_append (first_state s) (take i es) (e ∷ []))
      ∙ ap (state_behind s) (sym (take_more es i d within))

  pub left_on : (now next : RunState) (told : List Entry) (left more : Left) → now ≡ state_behind s (take i es)
      → next ≡ (turn now e).state → told ≡ (turn now e).entries → left ≡ left_behind s (take i es)
      → more ≡ left_here left.goals next told → more ≡ left_behind s (take (i + 1) es)
  left_on now next told left more here to tells before is =
      is
      ∙ ap (λ (z : List Entry). left_here left.goals next z) (tells ∙ ap (λ (z : RunState). (turn z e).entries) here)
      ∙ ap (λ (z : RunState). left_here left.goals z (turn (state_behind s (take i es)) e).entries)
      (to ∙ ap (λ (z : RunState). (turn z e).state) here)
      ∙ ap (λ (z : Left). left_here z.goals (turn (state_behind s (take i es)) e).state (turn (state_behind s (take i es)) e).entries) before
      ∙ sym (left_more s (take i es) e)
      ∙ ap (left_behind s) (sym (take_more es i d within))

module _ (s : Search) (es : List Event) (i : ℕ) (over : length es ≤ i) where
  pub state_done : (now : RunState) → now ≡ state_behind s (take i es) → now ≡ state_behind s es
  state_done now here = here ∙ ap (state_behind s) (take_all i es over)

  pub left_done : (left : Left) → left ≡ left_behind s (take i es) → left ≡ left_behind s es
  left_done left is = is ∙ ap (left_behind s) (take_all i es over)

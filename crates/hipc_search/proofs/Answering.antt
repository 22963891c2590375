-- What is due, from what the calls of the program say.
use Rattle.std.proofs.Common.{◌≡◌, ℕ, ◌≤◌, true, List, length, Option, Result, Ok, Err, sym, ap, subst, ◌∙◌, arith}
use Rattle.std.specs.Prelude.{◌≢◌, codes}
use Rattle.std.specs.Io.KnownBytes.{Appends}
use Rattle.io_edge.specs.Edge.{AppendsStart}
use Rattle.ipc_ids.specs.declared.message.Event.{Event}
use Rattle.script_lines.specs.declared.fault.Reason.{Reason}
use Rattle.script_lines.specs.Names.{task_names}
use Rattle.script_lines.specs.Plan.{Plan}
use Rattle.script_lines.specs.Sound as script
use Rattle.script_reader.specs.EventLine.{EventsAndNames}
use Rattle.script_reader.specs.Schedule.{MayAllCome}
use Rattle.search_goals.specs.GoalList.{Sought, all_precede}
use Rattle.schedule_search.specs.declared.at_rest.RestingStates.{RestingStates}
use Rattle.schedule_search.specs.declared.problem.MostMade.{MostMade}
use Rattle.schedule_search.specs.Search.{Search, IsSound}
use Rattle.hipc_search.specs.declared.lists.ListName.{ListName}
use Rattle.hipc_search.specs.declared.lists.ListName.TheVariants.{Kill, Hangup, Spawn}
use Rattle.hipc_search.specs.declared.moves.Listed.TheVariants.{Kills, Hangups}
use Rattle.hipc_search.specs.declared.status.Status.{Status}
use Rattle.hipc_search.specs.declared.status.Status.TheVariants as statuses
use Rattle.hipc_search.specs.Asking.{search_by, search_with}
use Rattle.hipc_search.specs.Command.{Command}
use Rattle.hipc_search.specs.Due.{Answers, IsOfText, DueForResting, Whole, Part}
use Rattle.hipc_search.specs.Line.{fault_line}
use Rattle.hipc_search.specs.Lists.{list_place, IsListFault}
use Rattle.hipc_search.specs.Moves.{listed_in, bounds_in, moves_of}
use Rattle.hipc_search.proofs.Steps.{moves_few}

-- ---- what is written

-- the text that is due was told, whole
pub whole_of : (due : Answers) (old new : Option (List ℕ)) (status told : Status) (text lent : List ℕ) → due status text
    → lent ≡ text → (told ≢ statuses.WriteFailed → (told ≡ status) × Appends old new lent) → Whole due old new told
whole_of due old new status told text lent is same ok =
    λ w m. (text, subst (λ (s : Status). due s text) (sym (ok w).0) is, subst (Appends old new) same (ok w).1)

-- a prefix of it
pub part_of : (due : Answers) (old new : Option (List ℕ)) (status : Status) (text lent : List ℕ) → due status text
    → lent ≡ text → AppendsStart old new lent → Part due old new
part_of due old new status text lent is same start = (status, text, is, subst (AppendsStart old new) same start)

-- no want of memory is told
pub no_memory_told : (A : Type 0) (status told : Status) → IsOfText status
    → (told ≢ statuses.WriteFailed → told ≡ status) → told ≡ statuses.NoMemory → A
no_memory_told A status told h ok m =
    absurd (h.1 (sym (ok (λ (w : told ≡ statuses.WriteFailed). other_status (sym w ∙ m))) ∙ m)) where
      other_status : statuses.WriteFailed ≡ statuses.NoMemory → ⊥
      other_status e = cc

-- ---- what a survey answers

-- it is due for the answer that was known
pub due_for : (s : Search) (most room : ℕ) (before : List ℕ) (resting known : RestingStates) (status : Status)
    (text : List ℕ) → resting ≡ known → DueForResting s most room before known status text
    → DueForResting s most room before resting status text
due_for s most room before resting known status text same due =
    subst (λ (r : RestingStates). DueForResting s most room before r status text) (sym same) due

-- ---- what is asked

module _ (c : Command) (plan : Plan) (first : EventsAndNames) (sought : Sought) where
  abbrev templates : List (List ℕ)
  templates = task_names plan.templates

  abbrev kills_told : Result (List Event) (ℕ × Reason)
  kills_told = listed_in Kills first.names c.kill

  abbrev hangups_told : Result (List Event) (ℕ × Reason)
  hangups_told = listed_in Hangups first.names c.hangup

  abbrev bounds_told : Result (List MostMade) (ℕ × Reason)
  bounds_told = bounds_in templates c.spawn

  kills_at_fault : (fault : ℕ × Reason) → kills_told ≡ Err fault
      → search_with c plan first (Ok sought) ≡ Err (fault_line (codes "kill word") fault)
  kills_at_fault fault e = ap (λ k. search_by plan first c.kills sought k hangups_told bounds_told) e

  hangups_at_fault : (killed : List Event) (fault : ℕ × Reason) → kills_told ≡ Ok killed → hangups_told ≡ Err fault
      → search_with c plan first (Ok sought) ≡ Err (fault_line (codes "hangup word") fault)
  hangups_at_fault killed fault e f =
      ap (λ k. search_by plan first c.kills sought k hangups_told bounds_told) e
      ∙ ap (λ h. search_by plan first c.kills sought (Ok killed) h bounds_told) f

  bounds_at_fault : (killed hangups : List Event) (fault : ℕ × Reason) → kills_told ≡ Ok killed
      → hangups_told ≡ Ok hangups → bounds_told ≡ Err fault
      → search_with c plan first (Ok sought) ≡ Err (fault_line (codes "spawn word") fault)
  bounds_at_fault killed hangups fault e f g =
      ap (λ k. search_by plan first c.kills sought k hangups_told bounds_told) e
      ∙ ap (λ h. search_by plan first c.kills sought (Ok killed) h bounds_told) f
      ∙ ap (λ b. search_by plan first c.kills sought (Ok killed) (Ok hangups) b) g

  pub list_at_fault : (list : ListName) (fault : ℕ × Reason) → IsListFault kills_told hangups_told bounds_told list fault
      → search_with c plan first (Ok sought) ≡ Err (fault_line (list_place list) fault)
  list_at_fault Kill fault e = kills_at_fault fault e
  list_at_fault Hangup fault (killed, e, f) = hangups_at_fault killed fault e f
  list_at_fault Spawn fault (killed, hangups, e, f, g) = bounds_at_fault killed hangups fault e f g

  pub search_is : (killed hangups moves : List Event) (bounds : List MostMade) → kills_told ≡ Ok killed
      → hangups_told ≡ Ok hangups → bounds_told ≡ Ok bounds
      → moves ≡ moves_of (length first.names) killed hangups bounds
      → search_with c plan first (Ok sought)
      ≡ Ok (record {
        plan = plan;
        from = first.events;
        moves = moves;
        kills = c.kills;
        spawns = bounds;
        earlier = sought.earlier;
        asked = sought.last;
      })
  search_is killed hangups moves bounds e f g is =
      ap (λ k. search_by plan first c.kills sought k hangups_told bounds_told) e
      ∙ ap (λ h. search_by plan first c.kills sought (Ok killed) h bounds_told) f
      ∙ ap (λ b. search_by plan first c.kills sought (Ok killed) (Ok hangups) b) g
      ∙ ap (λ (m : List Event). search_made m) (sym is) where
        search_made : List Event → Result Search (List ℕ)
        search_made m =
            Ok (record {
              plan = plan;
              from = first.events;
              moves = m;
              kills = c.kills;
              spawns = bounds;
              earlier = sought.earlier;
              asked = sought.last;
            })

-- the search that is asked is sound
pub search_sound : (plan : Plan) (from moves : List Event) (kills : Option ℕ) (sought : Sought) (tasks : ℕ)
    (killed hangups : List Event) (bounds : List MostMade) → script.IsSound plan
    → MayAllCome (length plan.tasks) (length plan.templates) from → length from ≤ 32768 → tasks ≤ 64
    → length hangups ≤ 4096 → length bounds ≤ 64 → moves ≡ moves_of tasks killed hangups bounds
    → all_precede sought.earlier ≡ true
    → IsSound (record {
      plan = plan;
      from = from;
      moves = moves;
      kills = kills;
      spawns = bounds;
      earlier = sought.earlier;
      asked = sought.last;
    })
search_sound plan from moves kills sought tasks killed hangups bounds sound may few some few_hangups few_bounds is precede =
    let all = moves_few tasks killed hangups bounds some in
    let long = ap (λ (ms : List Event). length ms) is in
    record {
      script = sound;
      may = may;
      few = omega (arith, few);
      few_moves = omega (arith, few_hangups, few_bounds, all, long);
      precede = precede;
    }

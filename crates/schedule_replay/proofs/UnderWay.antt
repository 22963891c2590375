-- A run that is under way: the events that were taken so far, and where their text is.
use Rattle.std.proofs.Common.{◌≡◌, ◌≤◌, ◌⊎◌, inl, inr, ◌+◌, ◌-◌, ◌++◌, [], ◌∷◌, List, ℕ, refl, ap, sym, ◌∙◌, subst, append_assoc, take, drop, length, arith, Option, Some, None, append-nil, length-append}
use Rattle.std.proofs.lemmas.List.{take-append-drop, take_at}
use Rattle.std.specs.Io.KnownBytes.{Appends}
use Rattle.io_edge.specs.Edge.{AppendsStart}
use Rattle.ipc_ids.specs.declared.entry.Entry.{Entry}
use Rattle.ipc_ids.specs.declared.message.Event.{Event}
use Rattle.trace_print.specs.Text.{text_of}
use Rattle.trace_print.proofs.Texts.{text_append}
use Rattle.script_lines.specs.Plan.{Plan}
use Rattle.task_system.specs.Run.{RunState, start, turn, run, run_from, state_after}
use Rattle.schedule_replay.specs.Streaming.{Sent, IsAheadBy, KeepsUp, but_last}
use Rattle.schedule_replay.proofs.Sending.{appends_none, appends_on, sent_on, sent_more, sent_starts, starts_wider}

-- these events were taken, and their text is with the sink or in the buffer
pub record IsUnderWay (plan : Plan) (all left : List Event) (now : RunState) (old sent : Option (List ℕ)) (buffer : List ℕ) : Type 0 where
  pub taken : List Event
  pub split : all ≡ taken ++ left
  pub state : now ≡ state_after (start plan) taken
  pub told : Sent old sent buffer (text_of (run plan taken))

pub run_append : (now : RunState) (a b : List Event) → run_from now (a ++ b) ≡ run_from now a ++ run_from (state_after now a) b
run_append now [] b = refl
run_append now (e ∷ a) b = ap (λ v. (turn now e).entries ++ v) (run_append (turn now e).state a b) ∙ sym (append_assoc ((turn now e).entries) (run_from (turn now e).state a) (run_from (state_after (turn now e).state a) b))

pub after_append : (now : RunState) (a b : List Event) → state_after now (a ++ b) ≡ state_after (state_after now a) b
after_append now [] b = refl
after_append now (e ∷ a) b = after_append (turn now e).state a b

-- the text of joined lists of events
text_run : (plan : Plan) (a b : List Event) → text_of (run plan (a ++ b)) ≡ text_of (run plan a) ++ text_of (run_from (state_after (start plan) a) b)
text_run plan a b = ap text_of (run_append (start plan) a b) ∙ text_append (run plan a) (run_from (state_after (start plan) a) b)

-- the text with one event more
text_one : (plan : Plan) (a : List Event) (e : Event) → text_of (run plan (a ++ e ∷ [])) ≡ text_of (run plan a) ++ text_of ((turn (state_after (start plan) a) e).entries)
text_one plan a e = text_run plan a (e ∷ []) ∙ ap (λ v. text_of (run plan a) ++ text_of v) (append-nil ((turn (state_after (start plan) a) e).entries))

-- the same, at the state that the events before left
text_at : (plan : Plan) (a : List Event) (now : RunState) (e : Event) → now ≡ state_after (start plan) a → text_of (run plan a) ++ text_of ((turn now e).entries) ≡ text_of (run plan (a ++ e ∷ []))
text_at plan a now e is = ap (λ v. text_of (run plan a) ++ text_of ((turn v e).entries)) is ∙ sym (text_one plan a e)

-- one event moves from those that are left to those that were taken
split_on : (all a left rest : List Event) (e : Event) → all ≡ a ++ left → left ≡ e ∷ rest → all ≡ (a ++ e ∷ []) ++ rest
split_on all a left rest e split is = split ∙ ap (λ v. a ++ v) is ∙ sym (append_assoc a (e ∷ []) rest)

-- before the first event
pub begun : (plan : Plan) (all : List Event) (now : RunState) (s : Option (List ℕ)) (b : List ℕ) → now ≡ start plan → b ≡ [] → IsUnderWay plan all all now s s b
begun plan all now s b is empty = record { taken = []; split = refl; state = is; told = ([], appends_none s, empty) }

-- one event more
pub stepped : (plan : Plan) (all left : List Event) (now : RunState) (rest : List Event) (next : RunState) (e : Event) (entries : List Entry) (s n m : Option (List ℕ)) (b d : List ℕ) → IsUnderWay plan all left now s n b → left ≡ e ∷ rest → next ≡ (turn now e).state → entries ≡ (turn now e).entries → Sent n m d (b ++ text_of entries) → IsUnderWay plan all rest next s m d
stepped plan all left now rest next e entries s n m b d u is after made h =
    let text : text_of (run plan u.taken) ++ text_of entries ≡ text_of (run plan (u.taken ++ e ∷ [])) =
    ap (λ v. text_of (run plan u.taken) ++ text_of v) made ∙ text_at plan u.taken now e u.state in
    record {
      taken = u.taken ++ e ∷ [];
      split = split_on all u.taken left rest e u.split is;
      state = after ∙ ap (λ v. (turn v e).state) u.state ∙ sym (after_append (start plan) u.taken (e ∷ []));
      told = subst (λ (v : List ℕ). Sent s m d v) text (sent_on s n m b d (text_of (run plan u.taken)) (text_of entries) u.told h);
    }

-- the text of the events that were taken begins the whole
starts_whole : (plan : Plan) (all a left : List Event) (s m : Option (List ℕ)) → all ≡ a ++ left → AppendsStart s m (text_of (run plan a)) → AppendsStart s m (text_of (run plan all))
starts_whole plan all a left s m split h =
    let whole : text_of (run plan a) ++ text_of (run_from (state_after (start plan) a) left) ≡ text_of (run plan all) =
    sym (text_run plan a left) ∙ ap (λ v. text_of (run plan v)) (sym split) in
    subst (λ (v : List ℕ). AppendsStart s m v) whole (starts_wider s m (text_of (run plan a)) (text_of (run_from (state_after (start plan) a) left)) h)

-- the buffer was written in part
pub part_waiting : (plan : Plan) (all left : List Event) (now : RunState) (s n m : Option (List ℕ)) (b : List ℕ) → IsUnderWay plan all left now s n b → AppendsStart n m b → AppendsStart s m (text_of (run plan all))
part_waiting plan all left now s n m b u h = starts_whole plan all u.taken left s m u.split (sent_starts s n m b (text_of (run plan u.taken)) u.told h)

-- the text of one event more was written in part
pub part_stepped : (plan : Plan) (all left : List Event) (now : RunState) (rest : List Event) (e : Event) (entries : List Entry) (s n m : Option (List ℕ)) (b : List ℕ) → IsUnderWay plan all left now s n b → left ≡ e ∷ rest → entries ≡ (turn now e).entries → AppendsStart n m (b ++ text_of entries) → AppendsStart s m (text_of (run plan all))
part_stepped plan all left now rest e entries s n m b u is made h =
    let text : text_of (run plan u.taken) ++ text_of entries ≡ text_of (run plan (u.taken ++ e ∷ [])) =
    ap (λ v. text_of (run plan u.taken) ++ text_of v) made ∙ text_at plan u.taken now e u.state in
    let part : AppendsStart s m (text_of (run plan u.taken) ++ text_of entries) =
    sent_starts s n m (b ++ text_of entries) (text_of (run plan u.taken) ++ text_of entries) (sent_more s n b (text_of (run plan u.taken)) (text_of entries) u.told) h in
    starts_whole plan all (u.taken ++ e ∷ []) rest s m (split_on all u.taken left rest e u.split is) (subst (λ (v : List ℕ). AppendsStart s m v) text part)

-- what is not written is the buffer, but for the bytes of it that were
ahead : (most : ℕ) (s n m : Option (List ℕ)) (b t x : List ℕ) → Sent s n b t → length b ≤ length x + most → Appends n m x → IsAheadBy most s m t
ahead most None n m b t x h short k = tt
ahead most (Some xs) n None b t x h short k = tt
ahead most (Some xs) None (Some zs) b t x h short k = absurd h.1
ahead most (Some xs) (Some ys) (Some zs) b t x h short k =
    let first : length ys ≡ length xs + length h.0 = ap length h.1 ∙ length-append xs h.0 in
    let second : length zs ≡ length ys + length x = ap length k ∙ length-append ys x in
    let third : length h.0 + length b ≡ length t = sym (length-append h.0 b) ∙ ap length h.2 in
    omega arith

but_one : (a : List Event) (e : Event) → but_last (a ++ e ∷ []) ≡ a
but_one a e = let n : length (a ++ e ∷ []) ≡ length a + 1 = length-append a (e ∷ []) in take_at a (e ∷ []) (length (a ++ e ∷ []) - 1) (omega arith)

-- one event more was taken, and nothing of it is written
pub keeps_up_at : (most : ℕ) (plan : Plan) (all left : List Event) (now : RunState) (rest : List Event) (e : Event) (s n m : Option (List ℕ)) (b x : List ℕ) → IsUnderWay plan all left now s n b → left ≡ e ∷ rest → length b ≤ length x + most → Appends n m x → KeepsUp most plan all rest s m
keeps_up_at most plan all left now rest e s n m b x u is short h =
    (u.taken ++ e ∷ [], split_on all u.taken left rest e u.split is, subst (λ (v : List Event). IsAheadBy most s m (text_of (run plan v))) (sym (but_one u.taken e)) (ahead most s n m b (text_of (run plan u.taken)) x u.told short h))

-- no event is left, and the buffer was written
pub ended : (plan : Plan) (all left : List Event) (now : RunState) (s n m : Option (List ℕ)) (b : List ℕ) → IsUnderWay plan all left now s n b → left ≡ [] → Appends n m b → Appends s m (text_of (run plan all))
ended plan all left now s n m b u none h =
    let split : u.taken ≡ all = sym (append-nil u.taken) ∙ ap (λ v. u.taken ++ v) (sym none) ∙ sym u.split in
    let text : u.told.0 ++ b ≡ text_of (run plan all) = u.told.2 ∙ ap (λ v. text_of (run plan v)) split in
    subst (λ (v : List ℕ). Appends s m v) text (appends_on s n m u.told.0 b u.told.1 h)

-- a shorter text keeps up too
less_ahead : (most : ℕ) (s m : Option (List ℕ)) (t v : List ℕ) → length v ≤ length t → IsAheadBy most s m t → IsAheadBy most s m v
less_ahead most None m t v h k = tt
less_ahead most (Some xs) None t v h k = tt
less_ahead most (Some xs) (Some ys) t v h k = omega arith

shorter : (plan : Plan) (a : List Event) (n : ℕ) → length (text_of (run plan (take n a))) ≤ length (text_of (run plan a))
shorter plan a n =
    let e : text_of (run plan a) ≡ text_of (run plan (take n a)) ++ text_of (run_from (state_after (start plan) (take n a)) (drop n a)) = ap (λ v. text_of (run plan v)) (sym (take-append-drop n a)) ∙ text_run plan (take n a) (drop n a) in
    let f : length (text_of (run plan a)) ≡ length (text_of (run plan (take n a))) + length (text_of (run_from (state_after (start plan) (take n a)) (drop n a))) = ap length e ∙ length-append (text_of (run plan (take n a))) (text_of (run_from (state_after (start plan) (take n a)) (drop n a))) in
    omega arith

-- no event is left, and the buffer was not written whole
pub keeps_up_ended : (most : ℕ) (plan : Plan) (all left : List Event) (now : RunState) (rest : List Event) (s n m : Option (List ℕ)) (b x : List ℕ) → IsUnderWay plan all left now s n b → left ≡ [] → rest ≡ [] → length b ≤ length x + most → Appends n m x → KeepsUp most plan all rest s m
keeps_up_ended most plan all left now rest s n m b x u none same short h =
    (u.taken, u.split ∙ ap (λ v. u.taken ++ v) (none ∙ sym same), less_ahead most s m (text_of (run plan u.taken)) (text_of (run plan (but_last u.taken))) (shorter plan u.taken (length u.taken - 1)) (ahead most s n m b (text_of (run plan u.taken)) x u.told short h))

-- all that was taken but the last is written, unless a put failed
pub keeps_up_or : (C : Type 0) (plan : Plan) (all left : List Event) (now : RunState) (rest : List Event) (e : Event) (s n m : Option (List ℕ)) (b : List ℕ) → IsUnderWay plan all left now s n b → left ≡ e ∷ rest → C ⊎ Appends n m b → C ⊎ KeepsUp 0 plan all rest s m
keeps_up_or C plan all left now rest e s n m b u is (inl h) = inl h
keeps_up_or C plan all left now rest e s n m b u is (inr h) = inr (keeps_up_at 0 plan all left now rest e s n m b b u is (omega arith) h)

-- nothing was taken and nothing written
idle : (most : ℕ) (s : Option (List ℕ)) → IsAheadBy most s s []
idle most None = tt
idle most (Some xs) = omega arith

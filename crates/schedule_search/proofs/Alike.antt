-- Moves to states of one code: a move more leads to such again, and to what is looked for from both or from neither.
use Rattle.std.proofs.Common.{ℕ, ◌≡◌, ◌⊎◌, inl, inr, ◌+◌, Bool, true, false, ◌&&◌, nat_le, nat_eq, Option, None, Some, List, [], ◌∷◌, ◌++◌, length, refl, sym, ◌∙◌, ap, subst}
use Rattle.std.specs.Prelude.{if◌then◌else◌}
use Rattle.std.specs.Cmp.Lexicographic.{pointwise}
use Rattle.std.specs.List.{list_all, range_with_len}
use Rattle.std.proofs.lemmas.Bool.{both_ways}
use Rattle.schedule_replay.proofs.UnderWay.{after_append}
use Rattle.ipc_ids.specs.declared.entry.Entry.{Entry}
use Rattle.ipc_ids.specs.declared.numbers.TaskNo.{TaskNo}
use Rattle.ipc_ids.specs.declared.message.Event.{Event}
use Rattle.ipc_ids.specs.declared.message.Event.TheVariants.{Step}
use Rattle.script_lines.specs.Plan.{Plan}
use Rattle.task_system.specs.Run.{RunState, turn}
use Rattle.search_core.specs.Moves.{AreMoves}
use Rattle.run_words.specs.Reached.{IsReached, spawns_of}
use Rattle.run_words.specs.RunWords.{run_words}
use Rattle.search_goals.specs.GoalText.{Asked, LosesCall, IsRest, IsStuck, HoldAll, HasLine}
use Rattle.search_goals.specs.Goals.{meets_line}
use Rattle.schedule_search.proofs.AlikeHolding.{all_alike}
use Rattle.schedule_search.specs.Search.{Search, IsSound, AreOf, kills_in, is_within, may_try, first_state, state_behind, event_at, events_of}
use Rattle.schedule_search.specs.OpenCalls.{has_open_call}
use Rattle.schedule_search.specs.Meeting.{changes_nothing, is_at_rest, IsMet, Meets, Finds}
use Rattle.schedule_search.specs.Left.{is_met, Left, left_here, left_behind, IsOver}
use Rattle.schedule_search.specs.Code.{counted, words_behind, goals_left, code_behind, rest_words, Fits}
use Rattle.schedule_search.proofs.Orders.{has_open_alike}
use Rattle.schedule_search.proofs.Words.{WordsTell, words_tell}
use Rattle.schedule_search.proofs.Tries.{kills_more, stays_untried, spawns_alike, tries_alike}
use Rattle.schedule_search.proofs.Behind.{moves_are_of, spawned_by, reached, reached_alike}
use Rattle.schedule_search.proofs.Fronts.{same_front}
use Rattle.schedule_search.proofs.Steps.{lost_alike}
use Rattle.schedule_search.proofs.Turns.{nothing_left, all_met, left_more, same_left}

-- ---- goals

pub all_same : (f g : ℕ → Bool) (xs : List ℕ) → ((x : ℕ) → f x ≡ g x) → list_all f xs ≡ list_all g xs
all_same f g [] h = refl
all_same f g (x ∷ xs) h = ap (λ (b : Bool). b && list_all f xs) (h x) ∙ ap (λ (b : Bool). g x && b) (all_same f g xs h)

module _ (plan : Plan) (spawned : List ℕ) (tell : WordsTell plan spawned) (a b : RunState) (h : IsReached plan spawned a) (k : IsReached plan spawned b) (same : run_words a ≡ run_words b) where
  pub change_alike : (t : ℕ) → changes_nothing a t ≡ changes_nothing b t
  change_alike t =
      ap (λ (z : List ℕ). pointwise nat_eq z (run_words a)) (tell.words a b (Step (record { 0 = t })) h k same)
      ∙ ap (pointwise nat_eq (run_words (turn b (Step (record { 0 = t }))).state)) same

  pub rest_alike : is_at_rest a ≡ is_at_rest b
  rest_alike =
      all_same (changes_nothing a) (changes_nothing b) (range_with_len 1 (length a.kernel.tasks.alive)) change_alike
      ∙ ap (λ (n : ℕ). list_all (changes_nothing b) (range_with_len 1 n)) (tell.tasks a b h k)

  stuck_alike : (task : Option TaskNo)
      → (has_open_call task a.kernel.calls && is_at_rest a) ≡ (has_open_call task b.kernel.calls && is_at_rest b)
  stuck_alike task =
      ap (λ (z : Bool). z && is_at_rest a) (has_open_alike task a.kernel.calls b.kernel.calls (tell.calls a b h k same))
      ∙ ap (λ (z : Bool). has_open_call task b.kernel.calls && z) rest_alike

  pub met_alike : (asked : Asked) (told other : List Entry) → told ≡ other → IsMet asked a told → IsMet asked b other
  met_alike LosesCall told other e met = lost_alike plan spawned tell a b h k same met
  met_alike IsRest told other e met = sym rest_alike ∙ met
  met_alike (IsStuck task) told other e met = sym (stuck_alike task) ∙ met
  met_alike (HoldAll conditions) told other e met = sym (all_alike a b (tell.alike a b h k same) conditions) ∙ met
  met_alike (HasLine head asked) told other e met = sym (ap (meets_line head asked) e) ∙ met

  test_alike : (asked : Asked) (told : List Entry) → is_met asked a told ≡ is_met asked b told
  test_alike LosesCall told = refl
  test_alike IsRest told = rest_alike
  test_alike (IsStuck task) told = stuck_alike task
  test_alike (HoldAll conditions) told = all_alike a b (tell.alike a b h k same) conditions
  test_alike (HasLine head asked) told = refl

  pub here_alike : (goals : List Asked) (told : List Entry) → left_here goals a told ≡ left_here goals b told
  here_alike [] told = refl
  here_alike (goal ∷ goals) told =
      ap (λ (z : Bool). if z then left_here goals a [] else record { goals = goal ∷ goals; told = told }) (test_alike goal told)
      ∙ ap (λ (z : Left). if is_met goal b told then z else record { goals = goal ∷ goals; told = told }) (here_alike goals [])

  -- what is left over in the one is over in the other
  pub over_alike : (asked : Asked) (left : Left) → IsOver asked left a → IsOver asked left b
  over_alike asked left over = (over.0, met_alike asked left.told left.told refl over.1)

-- ---- codes

-- a list with its length before it is told from what stands behind it
told_apart : (a b v w : List ℕ) → length a ∷ (a ++ v) ≡ length b ∷ (b ++ w) → (a ≡ b) × (v ≡ w)
told_apart a b v w e = same_front a b v w (cc e) (cc e)

-- two lists that may both be missing are the same: both are, or their parts are the same
abbrev AreSame : (x y : Bool) (k j m n : ℕ) (v w : List ℕ) → Type 0
AreSame x y k j m n v w =
    ((x ≡ true) × (y ≡ true) × (k ≡ j) × (m ≡ n) × (v ≡ w)) ⊎ ((x ≡ false) × (y ≡ false))

parts_same : (x y : Bool) (k j m n : ℕ) (v w : List ℕ)
    → (if x then k ∷ (m ∷ v) else []) ≡ (if y then j ∷ (n ∷ w) else []) → AreSame x y k j m n v w
parts_same true true k j m n v w e = inl (refl, refl, cc e, cc e, cc e)
parts_same true false k j m n v w e = absurd (cc e)
parts_same false true k j m n v w e = absurd (cc e)
parts_same false false k j m n v w e = inr (refl, refl)

-- the same templates and the same words
pub record AreToldAlike (s : Search) (es fs : List Event) : Type 0 where
  pub spawns : spawns_of es ≡ spawns_of fs
  pub words : run_words (state_behind s es) ≡ run_words (state_behind s fs)

-- both may be tried, and the codes tell the same of them
pub record AreOneCode (s : Search) (es fs : List Event) : Type 0 where
  pub one : may_try s es ≡ true
  pub other : may_try s fs ≡ true
  pub kills : counted s.kills (kills_in es) ≡ counted s.kills (kills_in fs)
  pub left : goals_left s es ≡ goals_left s fs
  pub told : AreToldAlike s es fs

-- so it is, or neither may be tried
abbrev pub AreAlike : Search → (es fs : List Event) → Type 0
AreAlike s es fs = AreOneCode s es fs ⊎ ((may_try s es ≡ false) × (may_try s fs ≡ false))

module _ (s : Search) (es fs : List Event) where
  pub behind_alike : words_behind s es ≡ words_behind s fs → AreToldAlike s es fs
  behind_alike e =
      let parts = told_apart (spawns_of es) (spawns_of fs) (run_words (state_behind s es)) (run_words (state_behind s fs)) e in
      record { spawns = parts.0; words = parts.1 }

  pub told_behind : AreToldAlike s es fs → words_behind s es ≡ words_behind s fs
  told_behind t =
      ap (λ (z : List ℕ). length z ∷ (z ++ run_words (state_behind s es))) t.spawns
      ∙ ap (λ (z : List ℕ). length (spawns_of fs) ∷ (spawns_of fs ++ z)) t.words

  by_parts : AreSame (may_try s es) (may_try s fs) (counted s.kills (kills_in es)) (counted s.kills (kills_in fs))
      (goals_left s es) (goals_left s fs) (words_behind s es) (words_behind s fs) → AreAlike s es fs
  by_parts (inl h) = inl (record { one = h.0; other = h.1; kills = h.2; left = h.3; told = behind_alike h.4 })
  by_parts (inr h) = inr h

  pub alike_by : code_behind s es ≡ code_behind s fs → AreAlike s es fs
  alike_by e =
      by_parts (parts_same (may_try s es) (may_try s fs) (counted s.kills (kills_in es)) (counted s.kills (kills_in fs))
      (goals_left s es) (goals_left s fs) (words_behind s es) (words_behind s fs) e)

counted_more : (most : Option ℕ) (k j more : ℕ) → counted most k ≡ counted most j → counted most (k + more) ≡ counted most (j + more)
counted_more None k j more e = refl
counted_more (Some most) k j more e = ap (λ (n : ℕ). n + more) e

within_alike : (most : Option ℕ) (k j : ℕ) → counted most k ≡ counted most j → is_within most k ≡ is_within most j
within_alike None k j e = refl
within_alike (Some most) k j e = ap (λ (n : ℕ). nat_le n most) e

module _ (s : Search) (sound : IsSound s) where
  abbrev tell : (es : List Event) → WordsTell s.plan (spawned_by s es)
  tell es = words_tell s.plan (spawned_by s es) sound.script

  more : (es : List Event) (x : Event) → state_behind s (es ++ x ∷ []) ≡ (turn (state_behind s es) x).state
  more es x = after_append (first_state s) es (x ∷ [])

  -- one event more behind two lists of events
  module _ (es fs : List Event) (x : Event) (alike : AreOneCode s es fs) where
    abbrev a : RunState
    a = state_behind s es

    abbrev b : RunState
    b = state_behind s fs

    here : IsReached s.plan (spawned_by s es) a
    here = reached s sound es alike.one

    there : IsReached s.plan (spawned_by s es) b
    there = reached_alike s sound es fs alike.told.spawns alike.other

    kills_alike : counted s.kills (kills_in (es ++ x ∷ [])) ≡ counted s.kills (kills_in (fs ++ x ∷ []))
    kills_alike =
        ap (counted s.kills) (kills_more es x)
        ∙ counted_more s.kills (kills_in es) (kills_in fs) (kills_in (x ∷ [])) alike.kills
        ∙ ap (counted s.kills) (sym (kills_more fs x))

    tried_alike : may_try s (es ++ x ∷ []) ≡ may_try s (fs ++ x ∷ [])
    tried_alike =
        tries_alike s es fs x alike.one alike.other alike.told.spawns
        (within_alike s.kills (kills_in (es ++ x ∷ [])) (kills_in (fs ++ x ∷ [])) kills_alike)

    words_alike : run_words (state_behind s (es ++ x ∷ [])) ≡ run_words (state_behind s (fs ++ x ∷ []))
    words_alike =
        ap run_words (more es x) ∙ (tell es).words a b x here there alike.told.words ∙ ap run_words (sym (more fs x))

    pub told_more_alike : AreToldAlike s (es ++ x ∷ []) (fs ++ x ∷ [])
    told_more_alike =
        record { spawns = spawns_alike s es fs x alike.one alike.other alike.told.spawns; words = words_alike }

    -- where both may be tried, they leave the same
    left_alike : may_try s (es ++ x ∷ []) ≡ true → left_behind s (es ++ x ∷ []) ≡ left_behind s (fs ++ x ∷ [])
    left_alike tried =
        let goals : List Asked = (left_behind s fs).goals in
        let now : RunState = (turn a x).state in
        let next : RunState = (turn b x).state in
        let reached_one : IsReached s.plan (spawned_by s (es ++ x ∷ [])) now =
        subst (IsReached s.plan (spawned_by s (es ++ x ∷ []))) (more es x) (reached s sound (es ++ x ∷ []) tried) in
        let reached_other : IsReached s.plan (spawned_by s (es ++ x ∷ [])) next =
        subst (IsReached s.plan (spawned_by s (es ++ x ∷ []))) (more fs x)
        (reached_alike s sound (es ++ x ∷ []) (fs ++ x ∷ []) told_more_alike.spawns (sym tried_alike ∙ tried)) in
        left_more s es x
        ∙ ap (λ (z : List Asked). left_here z now (turn a x).entries) (same_left s es fs alike.left)
        ∙ here_alike s.plan (spawned_by s (es ++ x ∷ [])) (tell (es ++ x ∷ [])) now next reached_one reached_other
        ((tell es).words a b x here there alike.told.words) goals (turn a x).entries
        ∙ ap (left_here goals next) ((tell es).entries a b x here there alike.told.words)
        ∙ sym (left_more s fs x)

    code_alike : may_try s (es ++ x ∷ []) ≡ true → code_behind s (es ++ x ∷ []) ≡ code_behind s (fs ++ x ∷ [])
    code_alike tried =
        ap (λ (z : Bool). if z then counted s.kills (kills_in (es ++ x ∷ [])) ∷ (goals_left s (es ++ x ∷ []) ∷ words_behind s (es ++ x ∷ [])) else []) tried_alike
        ∙ ap (λ (n : ℕ). if may_try s (fs ++ x ∷ []) then n ∷ (goals_left s (es ++ x ∷ []) ∷ words_behind s (es ++ x ∷ [])) else []) kills_alike
        ∙ ap (λ (z : Left). if may_try s (fs ++ x ∷ []) then counted s.kills (kills_in (fs ++ x ∷ [])) ∷ (length z.goals ∷ words_behind s (es ++ x ∷ [])) else []) (left_alike tried)
        ∙ ap (λ (z : List ℕ). if may_try s (fs ++ x ∷ []) then counted s.kills (kills_in (fs ++ x ∷ [])) ∷ (goals_left s (fs ++ x ∷ []) ∷ z) else [])
        (told_behind s (es ++ x ∷ []) (fs ++ x ∷ []) told_more_alike)

    meets_alike : may_try s (es ++ x ∷ []) ≡ true → Meets s (es ++ x ∷ []) → Meets s (fs ++ x ∷ [])
    meets_alike tried meets =
        let one : RunState = state_behind s (es ++ x ∷ []) in
        let other : RunState = state_behind s (fs ++ x ∷ []) in
        let over : IsOver s.asked (left_behind s (es ++ x ∷ [])) one = nothing_left s (es ++ x ∷ []) sound.precede meets in
        let same : IsOver s.asked (left_behind s (fs ++ x ∷ [])) one =
        subst (λ (z : Left). IsOver s.asked z one) (left_alike tried) over in
        all_met s (fs ++ x ∷ []) sound.precede
        (over_alike s.plan (spawned_by s (es ++ x ∷ [])) (tell (es ++ x ∷ [])) one other
        (reached s sound (es ++ x ∷ []) tried)
        (reached_alike s sound (es ++ x ∷ []) (fs ++ x ∷ []) told_more_alike.spawns (sym tried_alike ∙ tried))
        words_alike s.asked (left_behind s (fs ++ x ∷ [])) same)

    finds_alike : AreOf s.moves (fs ++ x ∷ []) → Finds s (es ++ x ∷ []) → Finds s (fs ++ x ∷ [])
    finds_alike of_fs finds =
        record {
          made = record { of_moves = of_fs; tried = sym tried_alike ∙ finds.made.tried };
          met = meets_alike finds.made.tried finds.met;
        }

  no_code : (es : List Event) → may_try s es ≡ false → code_behind s es ≡ []
  no_code es e =
      ap (λ (z : Bool). if z then counted s.kills (kills_in es) ∷ (goals_left s es ∷ words_behind s es) else []) e

  both_untried : (es fs : List Event) → may_try s es ≡ false → may_try s fs ≡ false → code_behind s es ≡ code_behind s fs
  both_untried es fs h k = no_code es h ∙ sym (no_code fs k)

  codes_more : (es fs : List Event) (x : Event) → AreAlike s es fs → code_behind s (es ++ x ∷ []) ≡ code_behind s (fs ++ x ∷ [])
  codes_more es fs x (inl h) = by_test (may_try s (es ++ x ∷ [])) refl where
    by_test : (b : Bool) → may_try s (es ++ x ∷ []) ≡ b → code_behind s (es ++ x ∷ []) ≡ code_behind s (fs ++ x ∷ [])
    by_test true tried = code_alike es fs x h tried
    by_test false untried = both_untried (es ++ x ∷ []) (fs ++ x ∷ []) untried (sym (tried_alike es fs x h) ∙ untried)
  codes_more es fs x (inr h) =
      both_untried (es ++ x ∷ []) (fs ++ x ∷ []) (stays_untried s es x h.0) (stays_untried s fs x h.1)

  finds_more : (es fs : List Event) (x : Event) → AreOf s.moves (fs ++ x ∷ []) → AreAlike s es fs
      → Finds s (es ++ x ∷ []) → Finds s (fs ++ x ∷ [])
  finds_more es fs x of_fs (inl h) finds = finds_alike es fs x h of_fs finds
  finds_more es fs x of_fs (inr h) finds =
      absurd (both_ways (may_try s (es ++ x ∷ [])) (stays_untried s es x h.0) finds.made.tried)

  pub code_goes_on : (p q : List ℕ) (m : ℕ) → AreMoves (length s.moves) (m ∷ p) → AreMoves (length s.moves) (m ∷ q) → code_behind s (events_of s.moves p) ≡ code_behind s (events_of s.moves q) → code_behind s (events_of s.moves (m ∷ p)) ≡ code_behind s (events_of s.moves (m ∷ q))
  code_goes_on p q m h k e =
      codes_more (events_of s.moves p) (events_of s.moves q) (event_at s.moves m)
      (alike_by s (events_of s.moves p) (events_of s.moves q) e)

  pub goal_goes_on : (p q : List ℕ) (m : ℕ) → AreMoves (length s.moves) (m ∷ p) → AreMoves (length s.moves) (m ∷ q) → code_behind s (events_of s.moves p) ≡ code_behind s (events_of s.moves q) → Finds s (events_of s.moves (m ∷ p)) → Finds s (events_of s.moves (m ∷ q))
  goal_goes_on p q m h k e =
      finds_more (events_of s.moves p) (events_of s.moves q) (event_at s.moves m) (moves_are_of s.moves (m ∷ q) k)
      (alike_by s (events_of s.moves p) (events_of s.moves q) e)

  -- states of one code are at rest with the same words, or are not
  words_at_rest : (es fs : List Event) → AreAlike s es fs → rest_words s es ≡ rest_words s fs
  words_at_rest es fs (inl h) =
      let same : is_at_rest (state_behind s es) ≡ is_at_rest (state_behind s fs) =
      rest_alike s.plan (spawned_by s es) (tell es) (state_behind s es) (state_behind s fs) (reached s sound es h.one)
      (reached_alike s sound es fs h.told.spawns h.other) h.told.words in
      ap (λ (z : Bool). if z && is_at_rest (state_behind s es) then Some (words_behind s es) else None) (h.one ∙ sym h.other)
      ∙ ap (λ (z : Bool). if may_try s fs && z then Some (words_behind s es) else None) same
      ∙ ap (λ (z : List ℕ). if may_try s fs && is_at_rest (state_behind s fs) then Some z else None) (told_behind s es fs h.told)
  words_at_rest es fs (inr h) =
      ap (λ (z : Bool). if z && is_at_rest (state_behind s es) then Some (words_behind s es) else None) h.0
      ∙ sym (ap (λ (z : Bool). if z && is_at_rest (state_behind s fs) then Some (words_behind s fs) else None) h.1)

  pub rest_words_alike : (p q : List ℕ) → AreMoves (length s.moves) p → AreMoves (length s.moves) q
      → code_behind s (events_of s.moves p) ≡ code_behind s (events_of s.moves q)
      → rest_words s (events_of s.moves p) ≡ rest_words s (events_of s.moves q)
  rest_words_alike p q h k e =
      words_at_rest (events_of s.moves p) (events_of s.moves q) (alike_by s (events_of s.moves p) (events_of s.moves q) e)

-- so a search may rest on it
pub fits : (s : Search) → IsSound s → Fits s
fits s sound =
    record {
      sound = sound;
      code_goes_on = code_goes_on s sound;
      goal_goes_on = goal_goes_on s sound;
      rest_alike = rest_words_alike s sound;
    }

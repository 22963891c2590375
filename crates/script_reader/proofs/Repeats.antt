-- What repeated events stand for where some are added at the end or one is taken at the front.
use Rattle.std.proofs.Common.{◌≡◌, ℕ, zero, suc, ◌+◌, ◌-◌, ◌≤◌, ◌<◌, List, [], ◌∷◌, ◌++◌, length, refl, sym, ap, subst, ◌∙◌, arith, append_assoc, append-nil, length-append, Some}
use Rattle.std.specs.Prelude.{replicate}
use Rattle.std.proofs.lemmas.List.{take_all, drop_all, length-replicate, replicate-append-replicate}
use Rattle.std.proofs.Math.ListN.{get_or, set, take, drop}
use Rattle.std.proofs.lemmas.Grind.{replicate_next}
use Rattle.ipc_ids.specs.declared.message.Event.{Event}
use Rattle.script_lines.specs.Draft.{last_of}
use Rattle.script_lines.proofs.DraftSteps.{last_of_push}
use Rattle.script_reader.specs.declared.repeated.Repeated.{Repeated}
use Rattle.script_reader.specs.Repeated.{events_of, events_left}

-- behind the first part stand the events of the others
abbrev behind_first : Repeated → List Event → List Event
behind_first first later = first.event ∷ (replicate first.more first.event ++ later)

behind_more : (first : Repeated) (later added : List Event) → behind_first first (later ++ added) ≡ behind_first first later ++ added
behind_more first later added =
    ap (λ (l : List Event). first.event ∷ l) (sym (append_assoc (replicate first.more first.event) later added))

-- ---- some are added at the end

-- one more part
part_added : (parts : List Repeated) (last : Repeated) → events_of (parts ++ last ∷ []) ≡ events_of parts ++ replicate (suc last.more) last.event
part_added [] last = ap (λ (l : List Event). last.event ∷ l) (append-nil (replicate last.more last.event))
part_added (first ∷ later) last =
    ap (behind_first first) (part_added later last) ∙ behind_more first (events_of later) (replicate (suc last.more) last.event)

pub pushed : (old new : List Repeated) (event : Event) (times : ℕ) → 1 ≤ times → new ≡ old ++ record { event = event; more = times - 1 } ∷ []
    → events_of new ≡ events_of old ++ replicate times event
pushed old new event times some is =
    let e : suc (times - 1) ≡ times = omega (arith, some) in
    ap events_of is ∙ part_added old (record { event = event; more = times - 1 }) ∙ ap (λ (n : ℕ). events_of old ++ replicate n event) e

-- a vector that was lent as a slice, which was left as it was
pub lent_back : (n : ℕ) (old now : List Repeated) → now ≡ old → n ≡ length old → take n (now ++ drop (length now) old) ≡ old
lent_back n old now same len =
    subst (λ (l : List Repeated). take n (l ++ drop (length l) old) ≡ old) (sym same)
    (ap (λ (l : List Repeated). take n (old ++ l)) (drop_all (length old) old (omega arith)) ∙ ap (take n) (append-nil old) ∙ take_all n old (omega (arith, len)))

-- the last part so many times more
one_longer : (last : Repeated) (times : ℕ) → behind_first (record { event = last.event; more = last.more + times }) [] ≡ behind_first last [] ++ replicate times last.event
one_longer last times =
    let all = replicate last.more last.event in
    let added = replicate times last.event in
    ap (λ (l : List Event). last.event ∷ l) (append-nil (replicate (last.more + times) last.event) ∙ sym (replicate-append-replicate last.more times last.event) ∙ ap (λ (l : List Event). l ++ added) (sym (append-nil all)))

pub longer : (parts : List Repeated) (i : ℕ) (last other : Repeated) (times : ℕ) → length parts ≡ suc i → get_or parts i other ≡ last
    → events_of (set parts i (record { event = last.event; more = last.more + times })) ≡ events_of parts ++ replicate times last.event
longer [] i last other times len is = absurd (omega (arith, len))
longer (x ∷ []) zero last other times len is = subst (λ (y : Repeated). behind_first (record { event = last.event; more = last.more + times }) [] ≡ behind_first y [] ++ replicate times last.event) (sym is) (one_longer last times)
longer (x ∷ []) (suc i) last other times len is = absurd (omega (arith, len))
longer (x ∷ y ∷ ys) zero last other times len is = absurd (omega (arith, len))
longer (x ∷ y ∷ ys) (suc i) last other times len is =
    ap (behind_first x) (longer (y ∷ ys) i last other times (omega (arith, len)) is) ∙ behind_more x (events_of (y ∷ ys)) (replicate times last.event)

-- ---- the last event

-- what stands before the last event
before_last : (parts : List Repeated) (i : ℕ) (other : Repeated) → length parts ≡ suc i
    → (before : List Event) × (events_of parts ≡ before ++ (get_or parts i other).event ∷ [])
before_last [] i other len = absurd (omega (arith, len))
before_last (x ∷ []) zero other len =
    (replicate x.more x.event, ap (λ (l : List Event). x.event ∷ l) (append-nil (replicate x.more x.event)) ∙ ap (λ (n : ℕ). replicate n x.event) (let e : suc x.more ≡ x.more + 1 = omega arith in e) ∙ replicate_next x.more x.event)
before_last (x ∷ []) (suc i) other len = absurd (omega (arith, len))
before_last (x ∷ y ∷ ys) zero other len = absurd (omega (arith, len))
before_last (x ∷ y ∷ ys) (suc i) other len =
    let got = before_last (y ∷ ys) i other (omega (arith, len)) in
    (behind_first x got.0, ap (behind_first x) got.1 ∙ behind_more x got.0 ((get_or (y ∷ ys) i other).event ∷ []))

pub last_is : (parts : List Repeated) (other : Repeated) → 1 ≤ length parts
    → last_of (events_of parts) ≡ Some (get_or parts (length parts - 1) other).event
last_is parts other some =
    let len : length parts ≡ suc (length parts - 1) = omega (arith, some) in
    let got = before_last parts (length parts - 1) other len in
    ap last_of got.1 ∙ last_of_push got.0 (get_or parts (length parts - 1) other).event

-- the last part comes no more often than all events
pub last_fits : (parts : List Repeated) (i : ℕ) (last other : Repeated) → length parts ≡ suc i → get_or parts i other ≡ last
    → last.more < length (events_of parts)
last_fits [] i last other len is = absurd (omega (arith, len))
last_fits (x ∷ []) zero last other len is =
    let all = length-append (replicate x.more x.event) [] in
    let times = length-replicate x.more x.event in
    let same : x.more ≡ last.more = ap (λ (y : Repeated). y.more) is in
    omega (arith, all, times, same)
last_fits (x ∷ []) (suc i) last other len is = absurd (omega (arith, len))
last_fits (x ∷ y ∷ ys) zero last other len is = absurd (omega (arith, len))
last_fits (x ∷ y ∷ ys) (suc i) last other len is =
    let all = length-append (replicate x.more x.event) (events_of (y ∷ ys)) in
    let less = last_fits (y ∷ ys) i last other (omega (arith, len)) is in
    omega (arith, all, less)

-- ---- one is taken at the front

-- all are left before the first is taken
pub all_left : (parts : List Repeated) → events_left 0 parts ≡ events_of parts
all_left [] = refl
all_left (first ∷ later) = ap (λ (n : ℕ). first.event ∷ (replicate n first.event ++ events_of later)) (let e : first.more - 0 ≡ first.more = omega arith in e)

-- one is taken of a first part that has more
pub one_taken : (parts : List Repeated) (other : Repeated) (taken : ℕ) → 1 ≤ length parts → taken < (get_or parts 0 other).more
    → events_left taken parts ≡ (get_or parts 0 other).event ∷ events_left (taken + 1) parts
one_taken [] other taken some less = absurd (omega (arith, some))
one_taken (first ∷ later) other taken some less =
    let e : first.more - taken ≡ suc (first.more - (taken + 1)) = omega (arith, less) in
    ap (λ (n : ℕ). first.event ∷ (replicate n first.event ++ events_of later)) e

-- the last one of the first part is taken
pub last_taken : (parts : List Repeated) (other : Repeated) (taken : ℕ) → 1 ≤ length parts → (get_or parts 0 other).more ≤ taken
    → events_left taken parts ≡ (get_or parts 0 other).event ∷ events_left 0 (drop 1 parts)
last_taken [] other taken some no_less = absurd (omega (arith, some))
last_taken (first ∷ later) other taken some no_less =
    let e : first.more - taken ≡ 0 = omega (arith, no_less) in
    ap (λ (n : ℕ). first.event ∷ (replicate n first.event ++ events_of later)) e ∙ ap (λ (l : List Event). first.event ∷ l) (sym (all_left later))

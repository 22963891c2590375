-- The last outcome of a task, with one entry more at a time.
use Rattle.std.proofs.Common.{◌≡◌, ℕ, ◌+◌, ◌<◌, ◌≤◌, ◌==◌, Bool, true, false, List, ◌∷◌, length, drop, get_or, Option, Some, refl, sym, ap, ◌∙◌}
use Rattle.std.specs.Prelude.{if◌then◌else◌}
use Rattle.std.proofs.lemmas.List.{drop_more, drop_all}
use Rattle.ipc_ids.specs.declared.message.Request.{Request}
use Rattle.ipc_ids.specs.declared.message.Outcome.{Outcome}
use Rattle.ipc_ids.specs.declared.entry.Entry.{Entry}
use Rattle.ipc_ids.specs.declared.entry.Entry.TheVariants as entry
use Rattle.ipc_ids.specs.Holdings.{on_top, newest_first}
use Rattle.ipc_ids.specs.Doings.{Doing, Asks, Told, is_own_event, doings_of}
use Rattle.hipc_search.specs.Told.{newest_outcome, last_outcome, own_with, last_with, entry_with}

-- these entries are left of all; of those before them it is known whose event the newest is of, and the last outcome
pub record IsUnderWay (t : ℕ) (all left : List Entry) (own : Bool) (last : Option Entry) : Type 0 where
  pub past : List Entry
  pub parts : on_top left past ≡ newest_first all
  pub own_is : own ≡ is_own_event t past
  pub last_is : last ≡ entry_with (newest_outcome (doings_of t past))

-- ---- one entry more

own_next : (t : ℕ) (e : Entry) (p : List Entry) → own_with t (is_own_event t p) e ≡ is_own_event t (e ∷ p)
own_next t (entry.Head u asked) p = refl
own_next t (entry.Kill u) p = refl
own_next t (entry.Gone u) p = refl
own_next t (entry.Spawn u) p = refl
own_next t e p = refl

asked_more : (b : Bool) (request : Request) (ds : List Doing)
    → newest_outcome ds ≡ newest_outcome (if b then Asks request ∷ ds else ds)
asked_more true request ds = refl
asked_more false request ds = refl

told_more : (b : Bool) (outcome : Outcome) (ds : List Doing)
    → (if b then Some (entry.Outcome outcome) else entry_with (newest_outcome ds))
    ≡ entry_with (newest_outcome (if b then Told outcome ∷ ds else ds))
told_more true outcome ds = refl
told_more false outcome ds = refl

last_next : (t : ℕ) (e : Entry) (p : List Entry)
    → last_with (is_own_event t (e ∷ p)) e (entry_with (newest_outcome (doings_of t p)))
    ≡ entry_with (newest_outcome (doings_of t (e ∷ p)))
last_next t (entry.Head u asked) p = ap entry_with (asked_more (u.0 == t) asked (doings_of t p))
last_next t (entry.Outcome outcome) p = told_more (is_own_event t p) outcome (doings_of t p)
last_next t e p = refl

pub one_more : (t : ℕ) (all : List Entry) (i : ℕ) (e : Entry) (own own_now : Bool) (last last_now : Option Entry)
    → i < length all → e ≡ get_or all i e → IsUnderWay t all (drop i all) own last → own_now ≡ own_with t own e
    → last_now ≡ last_with own_now e last → IsUnderWay t all (drop (i + 1) all) own_now last_now
one_more t all i e own own_now last last_now within is way own_step last_step =
    let own_is : own_now ≡ is_own_event t (e ∷ way.past) =
    own_step ∙ ap (λ (b : Bool). own_with t b e) way.own_is ∙ own_next t e way.past in
    record {
      past = e ∷ way.past;
      parts =
          ap (λ (es : List Entry). on_top es way.past)
          (ap (λ (x : Entry). x ∷ drop (i + 1) all) is ∙ sym (drop_more all i e within))
          ∙ way.parts;
      own_is = own_is;
      last_is =
          last_step
          ∙ ap (λ (b : Bool). last_with b e last) own_is
          ∙ ap (last_with (is_own_event t (e ∷ way.past)) e) way.last_is
          ∙ last_next t e way.past;
    }

-- none is left
pub all_told : (t : ℕ) (all : List Entry) (i : ℕ) (own : Bool) (last : Option Entry) → length all ≤ i
    → IsUnderWay t all (drop i all) own last → last ≡ entry_with (last_outcome t all)
all_told t all i own last over way =
    let past : way.past ≡ newest_first all =
    ap (λ (es : List Entry). on_top es way.past) (sym (drop_all i all over)) ∙ way.parts in
    way.last_is ∙ ap (λ (p : List Entry). entry_with (newest_outcome (doings_of t p))) past

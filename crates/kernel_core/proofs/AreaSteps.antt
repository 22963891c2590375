-- What each kind of entry and each change of a call keeps of what the entries tell of areas.
use Rattle.std.proofs.Common.{ℕ, suc, ◌≡◌, max, Bool, true, false, Option, Some, None, List, [], ◌∷◌, refl, sym, ◌∙◌, ap, subst, inl, inr}
use Rattle.std.specs.Prelude.{◌==◌, ◌&&◌, if◌then◌else◌, ⊤}
use Rattle.std.specs.Option.{option_to_list}
use Rattle.std.proofs.lemmas.Bool.{eq-eqb, ne_eqb}
use Rattle.ipc_ids.specs.declared.numbers.TaskNo.{TaskNo}
use Rattle.ipc_ids.specs.declared.numbers.CallNo.{CallNo}
use Rattle.ipc_ids.specs.declared.numbers.StoreNo.{StoreNo}
use Rattle.ipc_ids.specs.declared.numbers.Label.{Label}
use Rattle.ipc_ids.specs.declared.message.Msg.{Msg}
use Rattle.ipc_ids.specs.declared.message.Reply.{Reply}
use Rattle.ipc_ids.specs.declared.message.PhoneState.{PhoneState}
use Rattle.ipc_ids.specs.declared.message.PhoneState.TheVariants as phone
use Rattle.ipc_ids.specs.declared.entry.Entry.{Entry}
use Rattle.ipc_ids.specs.declared.entry.Entry.TheVariants as entry
use Rattle.ipc_ids.specs.Holdings as entries
use Rattle.ipc_ids.specs.Holdings.{Making, on_top, present, last_store, making}
use Rattle.ipc_ids.specs.AreaLaw.{IsLawfulEntry, WereLawful}
use Rattle.call_slab.specs.declared.call.Call.{Call}
use Rattle.call_slab.specs.declared.call.Place.{Place}
use Rattle.call_slab.specs.declared.call.Place.TheVariants as place
use Rattle.answerbox.specs.Calls.{CallTable, call_at, put_at, without_call}
use Rattle.address_space.specs.Areas.{Area}
use Rattle.address_space.specs.Memory.{Memory, area_at}
use Rattle.switchboard.specs.State.{KernelState, with_calls, with_memory}
use Rattle.switchboard.specs.Kept.{kept_phone, lent_phone, with_kept, kept_note}
use Rattle.switchboard.specs.Joins.{vanishing, answer_to, drop_answer, passage, passed_call, reception, delivery}
use Rattle.switchboard.specs.Serving.{Handed}
use Rattle.switchboard.proofs.Lookups.{at_insert, at_remove, chosen}
use Rattle.kernel_core.specs.AreaHistory.{holding, Asks, IsShare, IsMadeAs, AreasFit}
use Rattle.kernel_core.proofs.HeldAreas.{IsAtOnly}

-- an entry that begins no event, and tells of no area and of no new call
abbrev pub IsQuiet : Entry → Type 0
IsQuiet (entry.Received n t) = ⊤
IsQuiet (entry.Forwarded n t to label) = ⊤
IsQuiet (entry.Answered n reply by) = ⊤
IsQuiet (entry.Vanished n) = ⊤
IsQuiet (entry.Delivered n t) = ⊤
IsQuiet (entry.Dropped n t) = ⊤
IsQuiet (entry.Forgotten n) = ⊤
IsQuiet (entry.PhoneIs label state) = ⊤
IsQuiet (entry.Outcome told) = ⊤
IsQuiet _ = ⊥

abbrev pub AreQuiet : List Entry → Type 0
AreQuiet [] = ⊤
AreQuiet (e ∷ es) = IsQuiet e × AreQuiet es

-- the longer past tells of areas and of calls what the shorter one does, and is in the same event
pub record TellsTheSame (q r : List Entry) : Type 0 where
  pub areas : (t base : ℕ) → entries.held t base r ≡ entries.held t base q
  pub last : last_store r ≡ last_store q
  pub calls : (n : ℕ) → making n r ≡ making n q
  pub event : present r ≡ present q
  pub lawful : WereLawful q → WereLawful r

quiet_tells : (q : List Entry) (e : Entry) → IsQuiet e → TellsTheSame q (e ∷ q)
quiet_tells q (entry.Received n t) h = record { areas = λ u b. refl; last = refl; calls = λ m. refl; event = refl; lawful = λ l. (l, tt) }
quiet_tells q (entry.Forwarded n t to label) h = record { areas = λ u b. refl; last = refl; calls = λ m. refl; event = refl; lawful = λ l. (l, tt) }
quiet_tells q (entry.Answered n reply by) h = record { areas = λ u b. refl; last = refl; calls = λ m. refl; event = refl; lawful = λ l. (l, tt) }
quiet_tells q (entry.Vanished n) h = record { areas = λ u b. refl; last = refl; calls = λ m. refl; event = refl; lawful = λ l. (l, tt) }
quiet_tells q (entry.Delivered n t) h = record { areas = λ u b. refl; last = refl; calls = λ m. refl; event = refl; lawful = λ l. (l, tt) }
quiet_tells q (entry.Dropped n t) h = record { areas = λ u b. refl; last = refl; calls = λ m. refl; event = refl; lawful = λ l. (l, tt) }
quiet_tells q (entry.Forgotten n) h = record { areas = λ u b. refl; last = refl; calls = λ m. refl; event = refl; lawful = λ l. (l, tt) }
quiet_tells q (entry.PhoneIs label state) h = record { areas = λ u b. refl; last = refl; calls = λ m. refl; event = refl; lawful = λ l. (l, tt) }
quiet_tells q (entry.Outcome told) h = record { areas = λ u b. refl; last = refl; calls = λ m. refl; event = refl; lawful = λ l. (l, tt) }
quiet_tells q _ h = absurd h

pub all_tell : (es q : List Entry) → AreQuiet es → TellsTheSame q (on_top es q)
all_tell [] q h = record { areas = λ u b. refl; last = refl; calls = λ m. refl; event = refl; lawful = λ l. l }
all_tell (e ∷ es) q h =
    let first = quiet_tells q e h.0 in
    let rest = all_tell es (e ∷ q) h.1 in
    record {
      areas = λ u b. rest.areas u b ∙ first.areas u b;
      last = rest.last ∙ first.last;
      calls = λ m. rest.calls m ∙ first.calls m;
      event = rest.event ∙ first.event;
      lawful = λ l. rest.lawful (first.lawful l);
    }

-- the records are of one call, made in one way
pub record IsOfOne (c d : Call) : Type 0 where
  pub number : d.number ≡ c.number
  pub from : d.from ≡ c.from
  pub request : d.request ≡ c.request

-- each live call was live before
abbrev pub LeadsBack : CallTable → CallTable → Type 0
LeadsBack old new = (n : ℕ) (d : Call) → call_at new n ≡ Some d → (c : Call) × (call_at old n ≡ Some c) × IsOfOne c d

-- quiet entries tell of a step that leaves the memory, and makes no call
pub record IsQuietStep (k : KernelState) (es : List Entry) (j : KernelState) : Type 0 where
  pub quiet : AreQuiet es
  pub memory : j.memory ≡ k.memory
  pub calls : LeadsBack k.calls j.calls

pub all_lead_back : (q : CallTable) → LeadsBack q q
all_lead_back q n d is = (d, is, record { number = refl; from = refl; request = refl })

-- how a call was made, where it came over this phone with this message
abbrev Came : Label → Msg → Option Entry → Option Making
Came from request asked = Some (record { caller = from.task.0; method = request.method; asked = asked })

made_still : (q r : List Entry) (n : ℕ) (c d : Call) → TellsTheSame q r → IsOfOne c d → IsMadeAs q n c → IsMadeAs r n d
made_still q r n c d same one it = record {
  number = ap (λ (x : CallNo). x.0) one.number ∙ it.number;
  asked = it.asked;
  made = same.calls n ∙ it.made ∙ ap (λ (x : Label). Came x c.request it.asked) (sym one.from) ∙ ap (λ (x : Msg). Came d.from x it.asked) (sym one.request);
  arguments = subst (λ (x : Msg). IsShare x.method → Asks x.args it.asked) (sym one.request) it.arguments;
}

pub after_quiet : (q : List Entry) (k : KernelState) (es : List Entry) (j : KernelState) → IsQuietStep k es j → AreasFit q k → AreasFit (on_top es q) j
after_quiet q k es j step fits =
    let same = all_tell es q step.quiet in
    record {
      lawful = same.lawful fits.lawful;
      held = λ t b some. same.areas t.0 b ∙ fits.held t b some ∙ ap (λ (m : Memory). holding (area_at m t b)) (sym step.memory);
      stores = ap suc same.last ∙ fits.stores ∙ ap (λ (m : Memory). m.next_store) (sym step.memory);
      calls = λ n d is. let back = step.calls n d is in made_still q (on_top es q) n back.0 d same back.2 (fits.calls n back.0 back.1);
    }

-- a call has another record, of the same call
pub put_back : (old new : CallTable) (n : ℕ) (c d : Call) → call_at old n ≡ Some c → IsOfOne c d → ((m : ℕ) → call_at new m ≡ (if n == m then Some d else call_at old m)) → LeadsBack old new
put_back old new n c d live one at m x is = elim (chosen n m (Some d) (call_at old m) (Some x) (sym (at m) ∙ is)) [
  | inl h ↦ let same : d ≡ x = cc in (c, sym (ap (call_at old) h.0) ∙ live, subst (IsOfOne c) same one)
  | inr h ↦ (x, h.1, record { number = refl; from = refl; request = refl })
]

-- a call is over
pub over_back : (old new : CallTable) (n : ℕ) → ((m : ℕ) → call_at new m ≡ (if n == m then None else call_at old m)) → LeadsBack old new
over_back old new n at m x is = elim (chosen n m None (call_at old m) (Some x) (sym (at m) ∙ is)) [
  | inl h ↦ absurd (cc h.1)
  | inr h ↦ (x, h.1, record { number = refl; from = refl; request = refl })
]

-- a call is live under its own number
abbrev pub IsOwn : KernelState → Call → Type 0
IsOwn k c = call_at k.calls c.number.0 ≡ Some c

pub own_call : (q : List Entry) (k : KernelState) → AreasFit q k → (n : ℕ) (c : Call) → call_at k.calls n ≡ Some c → IsOwn k c
own_call q k fits n c is = ap (call_at k.calls) (fits.calls n c is).number ∙ is

pub kept_quiet : (kept : Option Label) (s : PhoneState) → AreQuiet (option_to_list (kept_note kept s))
kept_quiet None s = tt
kept_quiet (Some l) s = (tt, tt)

-- what a moment hands on that leaves the memory: a record, where a phone that is kept is in this state
abbrev pub quiet_hand : KernelState → Call → Option Label → PhoneState → Handed
quiet_hand k d kept s = record { state = with_kept k kept s; call = d; note = kept_note kept s }

module _ (k : KernelState) (c : Call) (live : IsOwn k c) where
  -- the record of the call goes to a place
  placed : (d : Call) → IsOfOne c d → (at : Place) → LeadsBack k.calls (put_at k.calls d at)
  placed d one at =
      put_back k.calls (put_at k.calls d at) d.number.0 c (record d { place = at; stamp = k.calls.next_stamp })
      (ap (λ (x : CallNo). call_at k.calls x.0) one.number ∙ live) (record { number = one.number; from = one.from; request = one.request })
      (λ m. at_insert k.calls.records d.number.0 m (record d { place = at; stamp = k.calls.next_stamp }))

  gone : LeadsBack k.calls (without_call k.calls c.number.0)
  gone = over_back k.calls (without_call k.calls c.number.0) c.number.0 (λ m. at_remove k.calls.records c.number.0 m)

  pub quiet_vanishing : IsQuietStep k (vanishing k c).entries (vanishing k c).state
  quiet_vanishing = record { quiet = (tt, kept_quiet (kept_phone c) phone.Free); memory = refl; calls = gone }

  pub quiet_drop : (t : TaskNo) → IsQuietStep k (drop_answer t k c).entries (drop_answer t k c).state
  quiet_drop t = record { quiet = (tt, kept_quiet (kept_phone c) phone.Free); memory = refl; calls = gone }

  pub quiet_answer : (d : Call) → IsOfOne c d → (kept : Option Label) (s : PhoneState) (by : Option TaskNo) (u : TaskNo) → IsQuietStep k (answer_to (quiet_hand k d kept s) by u).entries (answer_to (quiet_hand k d kept s) by u).state
  quiet_answer d one kept s by u = record { quiet = (tt, kept_quiet kept s); memory = refl; calls = placed d one (place.Answers u) }

  pub quiet_reception : (d : Call) → IsOfOne c d → (kept : Option Label) (s : PhoneState) (t : TaskNo) → IsQuietStep k (reception t (quiet_hand k d kept s)).entries (reception t (quiet_hand k d kept s)).state
  quiet_reception d one kept s t = record { quiet = (tt, kept_quiet kept s); memory = refl; calls = placed d one (place.Dispatched t) }

  pub quiet_delivery : (reply : Reply) (kept : Option Label) (s : PhoneState) (t : TaskNo) → IsQuietStep k (delivery t (quiet_hand k (record c { reply = reply }) kept s)).entries (delivery t (quiet_hand k (record c { reply = reply }) kept s)).state
  quiet_delivery reply kept s t = record { quiet = (tt, kept_quiet kept s); memory = refl; calls = gone }

  pub quiet_passage : (msg : Msg) (label : Label) (by to : TaskNo) → IsQuietStep k (passage msg label by to k c).entries (passage msg label by to k c).state
  quiet_passage msg label by to = record {
    quiet = (tt, kept_quiet (lent_phone c) phone.Free);
    memory = refl;
    calls = placed (passed_call msg label c) (record { number = refl; from = refl; request = refl }) (place.Incoming to);
  }

-- an event begins
pub begun : (q : List Entry) (k : KernelState) (e : Entry) → ((t base : ℕ) → entries.held t base (e ∷ q) ≡ entries.held t base q) → last_store (e ∷ q) ≡ last_store q → ((n : ℕ) → making n (e ∷ q) ≡ making n q) → IsLawfulEntry q e [] → AreasFit q k → AreasFit (e ∷ q) k
begun q k e areas last calls l fits = record {
  lawful = (fits.lawful, l);
  held = λ t b some. areas t.0 b ∙ fits.held t b some;
  stores = ap suc last ∙ fits.stores;
  calls = λ n c is. let it = fits.calls n c is in record { number = it.number; asked = it.asked; made = calls n ∙ it.made; arguments = it.arguments };
}

-- a call is accepted, which has this record from then on
pub made_call : (q : List Entry) (k : KernelState) (d : Call) (to : Option TaskNo) (new : CallTable) → AreasFit q k → ((m : ℕ) → call_at new m ≡ (if d.number.0 == m then Some d else call_at k.calls m)) → (IsShare d.request.method → Asks d.request.args (present q)) → AreasFit (entry.Accepted d.number d.from d.request.method to ∷ q) (with_calls k new)
made_call q k d to new fits at asks = record {
  lawful = (fits.lawful, tt);
  held = fits.held;
  stores = fits.stores;
  calls = λ m x is. elim (chosen d.number.0 m (Some d) (call_at k.calls m) (Some x) (sym (at m) ∙ is)) [
    | inl h ↦ let same : d ≡ x = cc in subst (IsMadeAs (entry.Accepted d.number d.from d.request.method to ∷ q) m) same
        (record { number = h.0; asked = present q; made = rw (eq-eqb d.number.0 m h.0) refl; arguments = asks })
    | inr h ↦ let it = fits.calls m x h.1 in record { number = it.number; asked = it.asked; made = rw (ne_eqb d.number.0 m h.0) it.made; arguments = it.arguments }
  ];
}

-- a task gets an area
pub got_area : (q : List Entry) (k : KernelState) (t : TaskNo) (base pages rights : ℕ) (store : StoreNo) (after : Memory) → AreasFit q k → IsAtOnly k.memory t base (Some (record { base = base; pages = pages; rights = rights; store = store.0 })) after → suc (max store.0 (last_store q)) ≡ after.next_store → IsLawfulEntry q (entry.AreaMade t base pages rights store) [] → AreasFit (entry.AreaMade t base pages rights store ∷ q) (with_memory k after)
got_area q k t base pages rights store after fits got next l = record {
  lawful = (fits.lawful, l);
  held = λ u b some. by_base u b ((t.0 == u.0) && (base == b)) (fits.held u b some) ∙ ap holding (sym (got u b some));
  stores = next;
  calls = λ n c is. let it = fits.calls n c is in record { number = it.number; asked = it.asked; made = it.made; arguments = it.arguments };
} where
  by_base : (u : TaskNo) (b : ℕ) (x : Bool) → entries.held u.0 b q ≡ holding (area_at k.memory u b) → (if x then Some (record { pages = pages; rights = rights; store = store.0 }) else entries.held u.0 b q) ≡ holding (if x then Some (record { base = base; pages = pages; rights = rights; store = store.0 }) else area_at k.memory u b)
  by_base u b true h = refl
  by_base u b false h = h

-- a task has an area no longer
pub lost_area : (q : List Entry) (k : KernelState) (t : TaskNo) (base : ℕ) (after : Memory) → AreasFit q k → IsAtOnly k.memory t base None after → after.next_store ≡ k.memory.next_store → AreasFit (entry.AreaGone t base ∷ q) (with_memory k after)
lost_area q k t base after fits lost next = record {
  lawful = (fits.lawful, tt);
  held = λ u b some. by_base u b ((t.0 == u.0) && (base == b)) (fits.held u b some) ∙ ap holding (sym (lost u b some));
  stores = fits.stores ∙ sym next;
  calls = λ n c is. let it = fits.calls n c is in record { number = it.number; asked = it.asked; made = it.made; arguments = it.arguments };
} where
  by_base : (u : TaskNo) (b : ℕ) (x : Bool) → entries.held u.0 b q ≡ holding (area_at k.memory u b) → (if x then None else entries.held u.0 b q) ≡ holding (if x then None else area_at k.memory u b)
  by_base u b true h = refl
  by_base u b false h = h

-- bytes are written, and no entry tells of it
pub same_areas : (q : List Entry) (k : KernelState) (after : Memory) → AreasFit q k → after.areas ≡ k.memory.areas → after.next_store ≡ k.memory.next_store → AreasFit q (with_memory k after)
same_areas q k after fits areas next = record {
  lawful = fits.lawful;
  held = λ u b some. fits.held u b some ∙ ap (λ (rows : List (List Area)). holding (area_at (record { areas = rows; stores = after.stores; next_store = after.next_store }) u b)) (sym areas);
  stores = fits.stores ∙ sym next;
  calls = fits.calls;
}

-- bytes are written, and an entry tells of it
pub bytes_written : (q : List Entry) (k : KernelState) (t : TaskNo) (at count : ℕ) (store : StoreNo) (after : Memory) → AreasFit q k → after.areas ≡ k.memory.areas → after.next_store ≡ k.memory.next_store → IsLawfulEntry q (entry.Wrote t at count store) [] → AreasFit (entry.Wrote t at count store ∷ q) (with_memory k after)
bytes_written q k t at count store after fits areas next l = let same = same_areas q k after fits areas next in record {
  lawful = (fits.lawful, l);
  held = same.held;
  stores = same.stores;
  calls = λ n c is. let it = fits.calls n c is in record { number = it.number; asked = it.asked; made = it.made; arguments = it.arguments };
}

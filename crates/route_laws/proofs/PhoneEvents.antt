-- Each event keeps what a history tells of phones, and a history that fits so keeps the law of phones.
use Rattle.std.proofs.Common.{◌≡◌, ℕ, zero, suc, ◌-◌, ◌≤◌, Bool, true, false, not, List, [], ◌∷◌, ◌++◌, replicate, Option, None, Some, refl, ap, sym, ◌∙◌}
use Rattle.std.specs.Prelude.{◌==◌, if◌then◌else◌, slice_get, unwrap_or, option_and_then}
use Rattle.std.specs.Option.{option_map_or}
use Rattle.ipc_ids.specs.declared.numbers.TaskNo.{TaskNo}
use Rattle.ipc_ids.specs.declared.message.PhoneState.{PhoneState}
use Rattle.ipc_ids.specs.declared.message.PhoneState.TheVariants.{Free, Connecting, Connected, HungUp, Slammed}
use Rattle.ipc_ids.specs.declared.message.Request.{Request}
use Rattle.ipc_ids.specs.declared.entry.Entry.{Entry}
use Rattle.ipc_ids.specs.declared.entry.Entry.TheVariants as entry
use Rattle.ipc_ids.specs.Tales.{tales, onto}
use Rattle.ipc_ids.specs.Life.{is_killed}
use Rattle.ipc_ids.specs.Holdings.{on_top, newest_first}
use Rattle.ipc_ids.proofs.LawfulAreas.{on_top-append, newest_first-append}
use Rattle.ipc_ids.proofs.Common.{is_some}
use Rattle.phone_table.specs.Phones.{state_at}
use Rattle.switchboard.specs.State.{KernelState, alive_in, is_alive, label_of, with_task}
use Rattle.switchboard.specs.Serving.{Served}
use Rattle.kernel_core.specs.Request.{serve_request}
use Rattle.kernel_core.specs.Kernel.{serve, kill_event, next_task, named, spawning, spawn_event}
use Rattle.kernel_core.specs.History.{is_ended, HistoryFits, served_entries, killed_entries, gone_entries}
use Rattle.kernel_core.proofs.SpawnedHistories.{new_free}
use Rattle.route_laws.specs.Leads.{Beginning, target, leads}
use Rattle.route_laws.specs.PhoneLaw.{AreCutOff, AllRouted, CallsGoWherePhonesLead, WereRouted}
use Rattle.route_laws.specs.PhoneHistory.{PhonesFit, RoutesFit}
use Rattle.route_laws.proofs.PhoneSteps.{target_told, ArePlain, IsHeadEntry, outcome_told, plains_told, head_told, phone_told, none_leads}
use Rattle.route_laws.proofs.PhoneRequests.{After, served, served_tells}
use Rattle.route_laws.proofs.PhoneKills.{kill_kept}

-- between two events no phone leads to a task that was killed, nor from one

pub not_ended : (alive : List Bool) (t : ℕ) → alive_in alive t ≡ true → is_ended alive t ≡ false
not_ended alive t h = by_number (t == 0) h where
  by_mark : (o : Option Bool) → unwrap_or o false ≡ true → option_map_or not o false ≡ false
  by_mark None g = refl
  by_mark (Some true) g = refl
  by_mark (Some false) g = absurd (cc g)

  by_number : (b : Bool) → (if b then false else unwrap_or (slice_get alive (t - 1)) false) ≡ true → (if b then false else option_map_or not (slice_get alive (t - 1)) false) ≡ false
  by_number true g = refl
  by_number false g = by_mark (slice_get alive (t - 1)) g

leads_on : (s : PhoneState) (u : TaskNo) → target s ≡ Some u → s ≡ Connected u
leads_on Free u h = absurd (cc h)
leads_on Connecting u h = absurd (cc h)
leads_on (Connected v) u h = let same : v ≡ u = cc in ap (λ (w : TaskNo). Connected w) same
leads_on HungUp u h = absurd (cc h)
leads_on Slammed u h = absurd (cc h)

-- the tales of entries, both the newest first
pub tales_are : (es p : List Entry) → onto (tales es) (tales p) ≡ tales (on_top es p)
tales_are [] p = refl
tales_are (e ∷ es) p = tales_are es (e ∷ p)

killed_told : (h : List Entry) (k : KernelState) → HistoryFits h k → (t : ℕ) → is_killed t (tales (newest_first h)) ≡ is_ended k.tasks.alive t
killed_told h k fits t = ap (is_killed t) (sym (tales_are h [])) ∙ fits.told.ended t

module _ (b : Beginning) (h : List Entry) (k : KernelState) (fits : HistoryFits h k) (routes : RoutesFit b h k) where
  cut_off : AreCutOff b (newest_first h)
  cut_off t p u led = by_state (state_at k.tasks.phones t p) refl where
    alive_of : (x : Bool) → alive_in k.tasks.alive t ≡ x → state_at k.tasks.phones t p ≡ Some (Connected u) → alive_in k.tasks.alive t ≡ true
    alive_of true mark is = mark
    alive_of false mark is = absurd (fits.sound.tasks.quiet t p (Connected u) is mark)

    by_state : (o : Option PhoneState) → state_at k.tasks.phones t p ≡ o → (is_killed t (tales (newest_first h)) ≡ false) × (is_killed u.0 (tales (newest_first h)) ≡ false)
    by_state None is = absurd (none_leads u (leads b.wires t p (newest_first h)) (ap target (routes.phones t p ∙ ap (λ (o : Option PhoneState). unwrap_or o Free) is)) led)
    by_state (Some s) is =
        let here : state_at k.tasks.phones t p ≡ Some (Connected u) = is ∙ ap (λ (x : PhoneState). Some x) (leads_on s u (sym (target_told b.wires (newest_first h) k.tasks.phones routes.phones t p s is) ∙ led)) in
        (killed_told h k fits t ∙ not_ended k.tasks.alive t (alive_of (alive_in k.tasks.alive t) refl here), killed_told h k fits u.0 ∙ not_ended k.tasks.alive u.0 (fits.sound.tasks.leads t p u here))

  -- the head of an event
  headed : (e : Entry) → IsHeadEntry e → PhonesFit b (e ∷ newest_first h) k.tasks.phones k.calls
  headed e is = head_told b k.tasks.phones k.calls (newest_first h) e is cut_off routes

  -- a request that is served, a kill, and an event on a task that has ended

  pub phones_serve : (t : TaskNo) (asked : Request) → RoutesFit b (h ++ served_entries t asked (serve k t asked)) (serve k t asked).state
  phones_serve t asked =
      let s : Served = serve_request k t asked in
      let q : List Entry = entry.Head t asked ∷ newest_first h in
      let done : After b q s.entries s.state = served b t asked q k fits.sound (λ n c is. let it = fits.areas.calls n c is in (it.asked, it.made)) refl (headed (entry.Head t asked) tt) in
      rw (newest_first-append h (served_entries t asked (serve k t asked)), on_top-append s.entries (entry.Outcome s.outcome ∷ []) q)
      (outcome_told b s.state.tasks.phones s.state.calls (on_top s.entries q) s.outcome (served_tells t asked k) done)

  pub phones_kill : (t : TaskNo) → is_alive k t ≡ true → RoutesFit b (h ++ killed_entries t (kill_event k t)) (kill_event k t).state
  phones_kill t alive =
      rw (newest_first-append h (killed_entries t (kill_event k t)))
      (kill_kept b t (entry.Kill t ∷ newest_first h) k fits.sound alive refl (headed (entry.Kill t) tt))

  pub phones_gone : (t : TaskNo) → RoutesFit b (h ++ gone_entries t) k
  phones_gone t = rw (newest_first-append h (gone_entries t)) (headed (entry.Gone t) tt)

-- entries that tell neither of phones nor of calls come behind an event
pub phones_plain : (b : Beginning) (h es : List Entry) (k : KernelState) → ArePlain es → RoutesFit b h k → RoutesFit b (h ++ es) k
phones_plain b h es k plain routes = rw (newest_first-append h es) (plains_told b k.tasks.phones k.calls es (newest_first h) plain routes)

-- a task that is made

free_row : (limit p : ℕ) → unwrap_or (slice_get (replicate limit Free) p) Free ≡ Free
free_row zero zero = refl
free_row zero (suc p) = refl
free_row (suc n) zero = refl
free_row (suc n) (suc p) = free_row n p

-- one row of free phones more changes nothing
row_more : (rows : List (List PhoneState)) (limit i p : ℕ) → unwrap_or (option_and_then (λ row. slice_get row p) (slice_get (rows ++ replicate limit Free ∷ []) i)) Free ≡ unwrap_or (option_and_then (λ row. slice_get row p) (slice_get rows i)) Free
row_more [] limit zero p = free_row limit p
row_more [] limit (suc i) p = refl
row_more (row ∷ rows) limit zero p = refl
row_more (row ∷ rows) limit (suc i) p = row_more rows limit i p

pub free_more : (rows : List (List PhoneState)) (limit t p : ℕ) → unwrap_or (state_at (rows ++ replicate limit Free ∷ []) t p) Free ≡ unwrap_or (state_at rows t p) Free
free_more rows limit t p = by_number (t == 0) where
  by_number : (x : Bool) → unwrap_or (option_and_then (λ row. slice_get row p) (if x then None else slice_get (rows ++ replicate limit Free ∷ []) (t - 1))) Free ≡ unwrap_or (option_and_then (λ row. slice_get row p) (if x then None else slice_get rows (t - 1))) Free
  by_number true = refl
  by_number false = row_more rows limit (t - 1) p

module _ (b : Beginning) (h : List Entry) (k : KernelState) (limit : ℕ) (some : 1 ≤ limit) (fits : HistoryFits h k) (routes : RoutesFit b h k) where
  -- the head, over the phones of one task more
  begun : PhonesFit b (entry.Spawn (next_task k) ∷ newest_first h) (with_task k limit).tasks.phones k.calls
  begun =
      let r = headed b h k fits routes (entry.Spawn (next_task k)) tt in
      record { lawful = r.lawful; phones = λ t p. r.phones t p ∙ sym (free_more k.tasks.phones limit t p); labels = r.labels }

  made : (o : Option TaskNo) → ((u : TaskNo) → o ≡ Some u → b.names ≡ Some u) → PhonesFit b (on_top (spawning k (next_task k) limit o).entries (newest_first h)) (spawning k (next_task k) limit o).state.tasks.phones (spawning k (next_task k) limit o).state.calls
  made None names = begun
  made (Some u) names =
      let t : TaskNo = next_task k in
      let rows : List (List PhoneState) = (with_task k limit).tasks.phones in
      let q : List Entry = entry.Spawn t ∷ newest_first h in
      let free : state_at rows t.0 0 ≡ Some Free = new_free k (with_task k limit) limit t refl refl fits.sound.tasks.paired some in
      phone_told b rows k.calls q (label_of t 0) (Connected u) (is_some (state_at rows t.0 0) Free free) (refl, refl, names u refl)
      (λ v led. absurd (none_leads v (leads b.wires t.0 0 q) (target_told b.wires q rows begun.phones t.0 0 Free free) led)) begun

pub named_is : (k : KernelState) (names : Option TaskNo) (u : TaskNo) → named k names ≡ Some u → names ≡ Some u
named_is k None u is = absurd (cc is)
named_is k (Some v) u is = by_mark (is_alive k v) is where
  by_mark : (x : Bool) → (if x then Some v else None) ≡ Some u → Some v ≡ Some u
  by_mark true g = g
  by_mark false g = absurd (cc g)

pub phones_spawn : (b : Beginning) (h : List Entry) (k : KernelState) (limit : ℕ) → 1 ≤ limit → HistoryFits h k → RoutesFit b h k → RoutesFit b (h ++ (spawn_event k limit b.names).entries) (spawn_event k limit b.names).state
phones_spawn b h k limit some fits routes =
    rw (newest_first-append h (spawn_event k limit b.names).entries) (made b h k limit some fits routes (named k b.names) (named_is k b.names))

-- the law

were_before : (b : Beginning) (es p : List Entry) → WereRouted b (on_top es p) → WereRouted b p
were_before b [] p l = l
were_before b (e ∷ es) p l = let m : WereRouted b (e ∷ p) = were_before b es (e ∷ p) l in m.0

all_routed : (b : Beginning) (es p : List Entry) → WereRouted b (on_top es p) → AreCutOff b (on_top es p) → AllRouted b p es
all_routed b [] p l cut = cut
all_routed b (e ∷ es) p l cut = let m : WereRouted b (e ∷ p) = were_before b es (e ∷ p) l in (m.1, all_routed b es (e ∷ p) l cut)

-- a list whose entries were each lawful as they came, and whose last event is over, keeps the law
pub routed_keep_the_law : (b : Beginning) (h : List Entry) → WereRouted b (newest_first h) → AreCutOff b (newest_first h) → CallsGoWherePhonesLead b h
routed_keep_the_law b h l cut = all_routed b h [] l cut

pub calls_go_where_phones_lead : (b : Beginning) (h : List Entry) (k : KernelState) → HistoryFits h k → RoutesFit b h k → CallsGoWherePhonesLead b h
calls_go_where_phones_lead b h k fits routes = routed_keep_the_law b h routes.lawful (cut_off b h k fits routes)

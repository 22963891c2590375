-- The definition delivers, or receives, what is first, as it is said.
use Rattle.std.proofs.Common.{◌≡◌, ℕ, zero, suc, ◌-◌, ◌<◌, Bool, true, false, inl, inr, List, [], ◌∷◌, length, set, Option, None, Some, refl, sym, ap, subst, ◌∙◌, arith}
use Rattle.std.specs.Prelude.{◌==◌, if◌then◌else◌, slice_get, slice_set, IsSome}
use Rattle.std.specs.Option.{option_map_or, option_to_list}
use Rattle.std.specs.Ordering.{nat_cmp}
use Rattle.std.specs.Cmp.{nat_cmp_total}
use Rattle.std.specs.FinMap.{FinMap, get, insert, get-insert}
use Rattle.std.proofs.Math.ListN.{length-set}
use Rattle.std.proofs.lemmas.Bool.{cases_eq, false≢true}
use Rattle.ipc_ids.specs.declared.numbers.Code.{Code}
use Rattle.ipc_ids.specs.declared.numbers.Label.{Label}
use Rattle.ipc_ids.specs.declared.numbers.TaskNo.{TaskNo}
use Rattle.ipc_ids.specs.declared.numbers.StoreNo.{StoreNo}
use Rattle.ipc_ids.specs.declared.message.Reply.{Reply}
use Rattle.ipc_ids.specs.declared.message.PhoneState.TheVariants.{Free, Connecting}
use Rattle.ipc_ids.specs.declared.message.Request.TheVariants as request
use Rattle.ipc_ids.specs.declared.message.Outcome.TheVariants as outcome
use Rattle.address_space.specs.Sound as spaces
use Rattle.ipc_ids.specs.declared.methods.MethodKind.{MethodKind}
use Rattle.ipc_ids.specs.declared.methods.MethodKind.TheVariants.{ConnectToMe, ConnectMeTo}
use Rattle.ipc_ids.specs.declared.entry.Entry.{Entry}
use Rattle.ipc_ids.specs.declared.entry.Entry.TheVariants as entry
use Rattle.ipc_ids.specs.Codes.{eok}
use Rattle.ipc_ids.specs.Methods.{kind_of, connect_to_me, connect_me_to}
use Rattle.ipc_ids.proofs.Common.{own_key}
use Rattle.call_slab.specs.declared.call.Call.{Call}
use Rattle.call_slab.specs.declared.call.Place.{Place}
use Rattle.call_slab.specs.declared.call.Place.TheVariants.{Incoming, Answers}
use Rattle.answerbox.specs.Calls.{call_at, front, same_place}
use Rattle.answerbox.proofs.Fronts.{front_live, front-is_front, no_front-has_no_calls}
use Rattle.phone_table.specs.Phones.{state_at}
use Rattle.address_space.specs.Stores.{written_over, write_at}
use Rattle.address_space.specs.Memory.{Memory, Step, areas_of, spot_in, write_spot, write}
use Rattle.address_space.specs.Areas.{Area, holder}
use Rattle.address_space.specs.declared.area.Right.TheVariants.{Write}
use Rattle.switchboard.specs.State.{KernelState, label_of}
use Rattle.switchboard.specs.Sound.{IsSound, IsReservedAt}
use Rattle.switchboard.specs.Kept.{keeper_of, kept_phone, kept_rows, kept_note, phone_of, accepts, who_keeps, first_usable_of, with_kept}
use Rattle.switchboard.specs.Data.{code_told, delivered_read}
use Rattle.switchboard.specs.Joins.{delivery, reception, with_delivery}
use Rattle.switchboard.specs.Serving.{Handed, Served, as_it_is}
use Rattle.switchboard.proofs.Keepers.{state_here}
use Rattle.cleanup.proofs.KilledPhones.{written_elsewhere}
use Rattle.switchboard.proofs.Lookups.{put_here, put_other, gone_here, gone_other}
use Rattle.switchboard.proofs.Repeats.{by_test}
use Rattle.switchboard.proofs.SoundJoins.{own_phone}
use Rattle.kernel_core.specs.Moments.{with_phone_named, reply_of, brings_bytes, on_delivery, keeping_to_receive, on_receive_of, on_receive}
use Rattle.kernel_core.specs.Receiving.{drop_unawaited, receive_first, receive_now}
use Rattle.kernel_core.specs.Kernel.{and_event, serve}
use Rattle.kernel_laws.specs.DataLaws.{code_after, first, IsBrought}
use Rattle.kernel_laws.specs.ReceiveLaws.{IsFirst, HasNone}
use Rattle.kernel_laws.proofs.AnswerWords.{is_brought, brings, same_told, accepts_eok}
use Rattle.kernel_laws.proofs.Methods.{method_of}
use Rattle.kernel_laws.proofs.UsablePhones.{own, usable_one, least_one, none_is}
use Rattle.kernel_laws.proofs.LawfulWrites.{write_is_lawful}
use Rattle.kernel_laws.proofs.MemoryRequests.{written_is}
use Rattle.kernel_determined.specs.Frames.{PhonesStay, HasFifth}
use Rattle.kernel_determined.specs.MemoryLaw.{IsWholeWrite}
use Rattle.kernel_determined.specs.ReceiveLaw.{Delivers, IsDelivery, IsReception, IsAnswerAt, IsWaitingAt, Takes, IsReceive, Receives}
use Rattle.kernel_determined.proofs.ReceiveSo.{unawaited_dropped, unawaited_sound}
use Rattle.kernel_determined.proofs.ReceiveDetermined.{receive_is_determined}
use Rattle.kernel_laws.proofs.Places.{stands_true}
use Rattle.kernel_core.proofs.InEvent.{same_place-true}
use Rattle.kernel_core.proofs.KindsOfCalls.{same_code}
use Rattle.std.proofs.lemmas.Option.{none-some, slice_get-get_or}
use Rattle.std.proofs.lemmas.List.{get_or-set_same}
use Rattle.answerbox.proofs.Chain.{other_key}
use Rattle.kernel_determined.proofs.SettleSo.{as_many, kept_at, usable_there}
use Rattle.kernel_determined.proofs.HangupDetermined.{nothing_is_so}

-- ---- arguments

set_here : (xs : List ℕ) (i n : ℕ) → i < length xs → slice_get (set xs i n) i ≡ Some n
set_here xs i n few =
    let many = length-set xs i n in
    slice_get-get_or (set xs i n) i n (omega (arith, few, many)) ∙ ap Some (get_or-set_same xs i n n few)

set_there : (xs : List ℕ) (i j n : ℕ) → (j ≡ i → ⊥) → slice_get (set xs i n) j ≡ slice_get xs j
set_there [] i j n ne = refl
set_there (x ∷ xs) zero zero n ne = absurd (ne refl)
set_there (x ∷ xs) (suc i) (suc j) n ne = set_there xs i j n (λ e. ne (ap suc e))
set_there (x ∷ xs) _ _ n ne = refl

pub has_fifth : (n : ℕ) (xs : List ℕ) → HasFifth n xs (slice_set xs 4 n)
has_fifth n xs = record { many = length-set xs 4 n; fifth = set_here xs 4 n; others = λ i ne. set_there xs 4 i n ne }

-- ---- a write

module _ (stores : FinMap nat_cmp (List ℕ)) (n : ℕ) (bytes : List ℕ) where
  put_there : get (insert stores n bytes) n ≡ Some bytes
  put_there = get-insert nat_cmp_total stores n bytes n ∙ rw (own_key n) refl

  pub put_elsewhere : (q : ℕ) → (q ≡ n → ⊥) → get (insert stores n bytes) q ≡ get stores q
  put_elsewhere q ne = get-insert nat_cmp_total stores n bytes q ∙ rw (other_key q n ne) refl

-- no store comes and none goes
KeepsStores : FinMap nat_cmp (List ℕ) → FinMap nat_cmp (List ℕ) → Type 0
KeepsStores before after = ((n : ℕ) → get before n ≡ None → get after n ≡ None)
    × ((n : ℕ) → get after n ≡ None → get before n ≡ None)

write_keeps : (stores : FinMap nat_cmp (List ℕ)) (n at : ℕ) (new : List ℕ)
    → KeepsStores stores (write_at stores n at new)
unfolding KeepsStores
write_keeps stores n at new = by_store (get stores n) refl where
  by_store : (o : Option (List ℕ)) → get stores n ≡ o
      → KeepsStores stores (option_map_or (λ bytes. insert stores n (written_over bytes at new)) o stores)
  by_store None is = (λ q h. h, λ q h. h)
  by_store (Some bytes) is = (
    λ q none. elim (cases_eq q n) [
      | inl e ↦ absurd (none-some bytes (sym none ∙ ap (get stores) e ∙ is))
      | inr ne ↦ put_elsewhere stores n (written_over bytes at new) q ne ∙ none
    ],
    λ q none. elim (cases_eq q n) [
      | inl e ↦ absurd (none-some (written_over bytes at new) (sym none
          ∙ ap (get (insert stores n (written_over bytes at new))) e ∙ put_there stores n (written_over bytes at new)))
      | inr ne ↦ sym (put_elsewhere stores n (written_over bytes at new) q ne) ∙ none
    ],
  )

all_kept : (m : Memory) (t : TaskNo) (at : ℕ) (new : List ℕ) → KeepsStores m.stores (write m t at new).memory.stores
unfolding KeepsStores
all_kept m t at new = by_test (λ (s : Step (Option StoreNo)). KeepsStores m.stores s.memory.stores) (length new == 0)
    _ _ (λ _. (λ q h. h, λ q h. h)) (λ _. by_area (holder at (length new) Write (areas_of m t))) where
      by_area : (o : Option Area) → KeepsStores m.stores (write_spot m new (spot_in at o)).memory.stores
      by_area None = (λ q h. h, λ q h. h)
      by_area (Some a) = write_keeps m.stores a.store (at - a.base) new

pub write_is_whole : (m : Memory) (t : TaskNo) (at : ℕ) (new : List ℕ) → spaces.IsSound m
    → IsWholeWrite m t at new (write m t at new)
unfolding KeepsStores
write_is_whole m t at new sound = let k = all_kept m t at new in
    record { lawful = write_is_lawful m t at new sound; came = k.0; went = k.1 }

-- ---- a delivery

module _ (t : TaskNo) (j : KernelState) (sound : IsSound j) (c : Call) (is : call_at j.calls c.number.0 ≡ Some c)
    (at : c.place ≡ Answers t) where
  abbrev Given : Reply → Served
  Given reply = and_event (delivery t (with_delivery j c reply))

  -- it is delivered, and the phone that was kept for it, where there is one, is free
  delivers : (o : Option Label) → kept_phone c ≡ o → (reply : Reply)
      → Delivers t j c reply j.memory (option_to_list (kept_note o Free)) (Given reply)
  delivers o e reply = record {
    told = refl;
    event = record { counted = refl; alive = refl; tasks = as_many j.tasks.phones (kept_phone c) Free };
    gone = gone_here j.calls c.number.0 c.number.0 refl;
    others = λ n ne. gone_other j.calls c.number.0 n (λ s. ne (sym s));
    numbers = refl;
    arrivals = refl;
    memory_after = refl;
    entries = ap (λ (x : Option Label). entry.Delivered c.number t ∷ option_to_list (kept_note x Free)) e;
  }

  module _ (e : kept_phone c ≡ None) where
    stays : (reply : Reply) → PhonesStay j (Given reply).state
    stays reply u q = ap (λ (o : Option Label). state_at (kept_rows j.tasks.phones o Free) u.0 q) e

    as_given : (reply : Reply) → reply ≡ c.reply → (IsBrought c → ⊥)
        → (c.request.method ≡ connect_me_to → c.reserved ≡ None) → IsDelivery t j c (Given reply)
    as_given reply same bare unkept = subst (λ (r : Reply). IsDelivery t j c (Given r)) (sym same)
        (inr (inr (inr (record { bare = bare; unkept = unkept; phones = stays c.reply; delivers = delivers None e c.reply }))))

  module _ (l : Label) (e : kept_phone c ≡ Some l) (there : IsSome (state_at j.tasks.phones l.task.0 l.phone.0)) where
    refused : c.request.method ≡ connect_me_to → c.reserved ≡ Some l → (c.reply.code ≡ eok → ⊥)
        → IsDelivery t j c (Given c.reply)
    refused asks kept no_eok = inr (inl (record {
      phone = l;
      unconnected = record { asks = asks; kept = kept; unaccepted = λ u place code. no_eok code };
      refused = no_eok;
      free = record {
        this = ap (λ (o : Option Label). state_at (kept_rows j.tasks.phones o Free) l.task.0 l.phone.0) e
            ∙ state_here j.tasks.phones l.task.0 l.phone.0 Free there;
        others = λ u q ne. ap (λ (o : Option Label). state_at (kept_rows j.tasks.phones o Free) u.0 q) e
            ∙ written_elsewhere j.tasks.phones l.task.0 l.phone.0 u.0 q Free ne;
      };
      delivers = delivers (Some l) e c.reply;
    }))

  module _ (bare : IsBrought c → ⊥) where
    -- a CONNECT_ME_TO
    to_me : kind_of c.request.method ≡ ConnectMeTo → IsDelivery t j c (Given (reply_of ConnectMeTo c))
    to_me kind = by_code (accepts c.reply.code) refl c.reserved refl where
      asks : c.request.method ≡ connect_me_to
      asks = method_of ConnectMeTo c.request.method kind

      kept_by : (b : Bool) (o : Option Label) → accepts c.reply.code ≡ b → c.reserved ≡ o
          → kept_phone c ≡ (if b then None else phone_of c.from.task o)
      kept_by b o p q = kept_at t c at ConnectMeTo kind ∙ ap (λ x. if x then None else phone_of c.from.task c.reserved) p
          ∙ ap (λ x. if b then None else phone_of c.from.task x) q

      reply_by : (b : Bool) (o : Option Label) → accepts c.reply.code ≡ b → c.reserved ≡ o
          → reply_of ConnectMeTo c ≡ (if b then with_phone_named o c.reply else c.reply)
      reply_by b o p q = ap (λ x. if x then with_phone_named c.reserved c.reply else c.reply) p
          ∙ ap (λ x. if b then with_phone_named x c.reply else c.reply) q

      by_code : (b : Bool) → accepts c.reply.code ≡ b → (o : Option Label) → c.reserved ≡ o
          → IsDelivery t j c (Given (reply_of ConnectMeTo c))
      by_code b p None q = as_given (kept_by b None p q ∙ none_of b) (reply_of ConnectMeTo c)
          (reply_by b None p q ∙ same_of b) bare (λ _. q) where
            none_of : (b : Bool) → (if b then None else phone_of c.from.task None) ≡ None
            none_of true = refl
            none_of false = refl

            same_of : (b : Bool) → (if b then with_phone_named None c.reply else c.reply) ≡ c.reply
            same_of true = refl
            same_of false = refl
      by_code true p (Some l) q =
          subst (λ (r : Reply). IsDelivery t j c (Given r)) (sym (reply_by true (Some l) p q))
          (inr (inr (inl (record {
            asks = asks;
            accepted = same_code c.reply.code p;
            phone = l;
            kept = q;
            args = slice_set c.reply.args 4 l.phone.0;
            names = has_fifth l.phone.0 c.reply.args;
            phones = stays (kept_by true (Some l) p q) (with_phone_named (Some l) c.reply);
            delivers = delivers None (kept_by true (Some l) p q) (with_phone_named (Some l) c.reply);
          }))))
      by_code false p (Some l) q =
          let s = (sound.calls.each c.number.0 c is).reserved in
          let keeper : who_keeps c ≡ keeper_of ConnectMeTo = ap keeper_of kind in
          let mine : l.task ≡ c.from.task = subst (λ k. IsReservedAt k c.from.task c.place l) keeper (s.owner l q) in
          subst (λ (r : Reply). IsDelivery t j c (Given r)) (sym (reply_by false (Some l) p q))
          (refused l (kept_by false (Some l) p q ∙ own_phone c.from.task l mine) (s.there l q) asks q
          (λ e. false≢true (sym p ∙ accepts_eok c.reply.code e)))

    by_kind : (kind : MethodKind) → kind_of c.request.method ≡ kind → IsDelivery t j c (Given (reply_of kind c))
    by_kind ConnectMeTo e = to_me e
    by_kind kind e = as_given (kept_at t c at kind e) (reply_of kind c) refl bare
        (λ asks. absurd (let x : kind ≡ ConnectMeTo = sym e ∙ ap kind_of asks in cc))

  -- the bytes of a DATA_READ
  bytes : IsBrought c → IsDelivery t j c (and_event (delivery t (delivered_read j c t)))
  bytes brought =
      let step : Step (Option StoreNo) = write j.memory t (first c.request.args) c.buffer in
      let same : code_told step.told ≡ code_after step.told = same_told step.told in
      inl (record {
        brought = brought;
        step = step;
        write = write_is_whole j.memory t (first c.request.args) c.buffer sound.memory.spaces;
        phones = λ u q. refl;
        delivers = record {
          told = ap (λ (x : Code). let r : Reply = record { code = x; args = c.reply.args } in
              outcome.Answered c.number r) same;
          event = record { counted = refl; alive = refl; tasks = refl };
          gone = gone_here j.calls c.number.0 c.number.0 refl;
          others = λ n ne. gone_other j.calls c.number.0 n (λ s. ne (sym s));
          numbers = refl;
          arrivals = refl;
          memory_after = refl;
          entries = ap (λ (es : List Entry). entry.Delivered c.number t ∷ es)
              (written_is t (first c.request.args) (length c.buffer) step.told);
        };
      })

  pub delivery_is : IsDelivery t j c (and_event (delivery t (on_delivery j c t)))
  delivery_is = by_bytes (brings_bytes c) refl where
    by_bytes : (b : Bool) → brings_bytes c ≡ b
        → IsDelivery t j c (and_event (delivery t
        (if b then delivered_read j c t else with_delivery j c (reply_of (kind_of c.request.method) c))))
    by_bytes true e = bytes (is_brought c e)
    by_bytes false e = by_kind (λ b. false≢true (sym e ∙ brings c b)) (kind_of c.request.method) refl

-- ---- a reception

module _ (t : TaskNo) (j : KernelState) (c : Call) where
  abbrev Received : Handed → Served
  Received h = and_event (reception t h)

  -- task t holds it, and a phone of it, where there is one, waits
  receives : (args : List ℕ) (o : Option Label) → Receives t j c args o (option_to_list (kept_note o Connecting))
      (Received (record {
        state = with_kept j o Connecting;
        call = record c { msg = record { method = c.msg.method; args = args }; reserved = o };
        note = kept_note o Connecting;
      }))
  receives args o = record {
    told = refl;
    event = record { counted = refl; alive = refl; tasks = as_many j.tasks.phones o Connecting };
    held = put_here j.calls c.number.0 c.number.0 _ refl;
    others = λ n ne. put_other j.calls c.number.0 n _ (λ s. ne (sym s));
    numbers = refl;
    arrivals = refl;
    memory = refl;
    entries = refl;
  }

  as_sent : (c.request.method ≡ connect_to_me → ⊥) → IsReception t j c (Received (as_it_is j c))
  as_sent others = inr (inr (record {
    others = others;
    phones = λ u q. refl;
    receives = record {
      told = refl;
      event = record { counted = refl; alive = refl; tasks = refl };
      held = put_here j.calls c.number.0 c.number.0 _ refl;
      others = λ n ne. put_other j.calls c.number.0 n _ (λ s. ne (sym s));
      numbers = refl;
      arrivals = refl;
      memory = refl;
      entries = refl;
    };
  }))

  without : c.request.method ≡ connect_to_me → first_usable_of j t ≡ None
      → IsReception t j c (Received (keeping_to_receive j c None))
  without asks e = inr (inl (record {
    asks = asks;
    none = none_is j t e;
    args = slice_set c.msg.args 4 64;
    names = has_fifth 64 c.msg.args;
    phones = λ u q. refl;
    receives = receives (slice_set c.msg.args 4 64) None;
  }))

  kept : (l : Label) → c.request.method ≡ connect_to_me → first_usable_of j t ≡ Some l
      → IsReception t j c (Received (keeping_to_receive j c (Some l)))
  kept l asks e =
      let p : ℕ = l.phone.0 in
      subst (λ (m : Label). IsReception t j c (Received (keeping_to_receive j c (Some m)))) (sym (own j t l e))
      (inl (record {
        asks = asks;
        phone = p;
        usable = usable_one j t l e;
        least = least_one j t l e;
        args = slice_set c.msg.args 4 p;
        names = has_fifth p c.msg.args;
        waits = record {
          this = state_here j.tasks.phones t.0 p Connecting (usable_there j t p (usable_one j t l e));
          others = λ u q ne. written_elsewhere j.tasks.phones t.0 p u.0 q Connecting ne;
        };
        receives = receives (slice_set c.msg.args 4 p) (Some (label_of t p));
      }))

  pub reception_is : IsReception t j c (and_event (reception t (on_receive j c t)))
  reception_is = by_kind (kind_of c.request.method) refl where
    by_phone : (o : Option Label) → first_usable_of j t ≡ o → c.request.method ≡ connect_to_me
        → IsReception t j c (Received (keeping_to_receive j c o))
    by_phone None e asks = without asks e
    by_phone (Some l) e asks = kept l asks e

    by_kind : (kind : MethodKind) → kind_of c.request.method ≡ kind
        → IsReception t j c (Received (on_receive_of kind j c t))
    by_kind ConnectToMe e = by_phone (first_usable_of j t) refl (method_of ConnectToMe c.request.method e)
    by_kind kind e = as_sent (λ asks. let x : kind ≡ ConnectToMe = sym e ∙ ap kind_of asks in cc)

-- ---- the first

module _ (t : TaskNo) (j : KernelState) (sound : IsSound j) where
  first_of : (place : Place) (IsSo : Call → Type 0) → ((d : Call) → IsSo d → same_place d.place place ≡ true)
      → (c : Call) → IsSo c → front j.calls place ≡ Some c → IsFirst j.calls IsSo c
  first_of place IsSo test c so e =
      let f = front_live j.calls place c e in
      record {
        live = ap (call_at j.calls) (sound.calls.each f.0 c f.1).number ∙ f.1;
        so = so;
        least = λ n d live h. (front-is_front j.calls place f.0 c e f.1).least c n d f.1 live (test d h);
      }

  none_of : (place : Place) (IsSo : Call → Type 0) → ((d : Call) → IsSo d → same_place d.place place ≡ true)
      → front j.calls place ≡ None → HasNone j.calls IsSo
  none_of place IsSo test e n d live h = false≢true (sym (no_front-has_no_calls j.calls place e n d live) ∙ test d h)

  answers : (d : Call) → IsAnswerAt t d → same_place d.place (Answers t) ≡ true
  answers d h = stands_true (Answers t) d.place h

  waiting : (d : Call) → IsWaitingAt t d → same_place d.place (Incoming t) ≡ true
  waiting d h = stands_true (Incoming t) d.place h

  takes : (a i : Option Call) → front j.calls (Answers t) ≡ a → front j.calls (Incoming t) ≡ i
      → Takes t j (and_event (receive_first j t a i))
  takes (Some c) i e f =
      let place : c.place ≡ Answers t = same_place-true c.place (Answers t) (front_live j.calls (Answers t) c e).2 in
      let one = first_of (Answers t) (IsAnswerAt t) answers c place e in
      inl (record { call = c; first = one; delivery = delivery_is t j sound c one.live place })
  takes None (Some c) e f =
      let place : c.place ≡ Incoming t = same_place-true c.place (Incoming t) (front_live j.calls (Incoming t) c f).2 in
      inr (inl (record {
        none = none_of (Answers t) (IsAnswerAt t) answers e;
        call = c;
        first = first_of (Incoming t) (IsWaitingAt t) waiting c place f;
        reception = reception_is t j c;
      }))
  takes None None e f = inr (inr (record {
    none = none_of (Answers t) (IsAnswerAt t) answers e;
    neither = none_of (Incoming t) (IsWaitingAt t) waiting f;
    told = refl;
    nothing = nothing_is_so j outcome.Empty;
  }))

pub receive_is_so : (k : KernelState) (t : TaskNo) → IsSound k → IsReceive t k (serve k t request.Receive)
receive_is_so k t sound =
    let left : KernelState = (drop_unawaited t k).state in
    record {
      left = left;
      dropped = (drop_unawaited t k).entries;
      drops = unawaited_dropped t k sound;
      told = (receive_now t left).entries;
      takes = takes t left (unawaited_sound t k sound) (front left.calls (Answers t)) (front left.calls (Incoming t))
          refl refl;
      entries = refl;
    }

pub receive_is_served : (k : KernelState) (t : TaskNo) (done : Served) → IsSound k → IsReceive t k done
    → done ≡ serve k t request.Receive
receive_is_served k t done sound is = receive_is_determined t k done (serve k t request.Receive) sound is
    (receive_is_so k t sound)

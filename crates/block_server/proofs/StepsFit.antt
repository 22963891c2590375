-- What a block server does keeps the fit of its doings to its state.
use Rattle.std.proofs.Common.{ℕ, ◌≡◌, Bool, true, false, List, [], ◌∷◌, Option, Some, None, length, zero, suc, inl, inr, refl, sym, subst, ap, ◌∙◌, arith}
use Rattle.std.specs.Prelude.{⊤, ◌⊎◌, ◌==◌, nat_lt, is_some, slice_get, slice_set, get_or, replicate, ◌+◌}
use Rattle.std.proofs.lemmas.Bool.{eq-eqb, ne_eqb, eqb-true, ltb-true}
use Rattle.std.proofs.lemmas.Option.{slice_get-get_or, same_Some}
use Rattle.ipc_ids.specs.declared.numbers.Label.{Label}
use Rattle.ipc_ids.specs.declared.numbers.CallNo.{CallNo}
use Rattle.ipc_ids.specs.declared.numbers.Code.{Code}
use Rattle.ipc_ids.specs.declared.message.Msg.{Msg}
use Rattle.ipc_ids.specs.declared.message.Reply.{Reply}
use Rattle.ipc_ids.specs.declared.message.Request.{Request}
use Rattle.ipc_ids.specs.declared.message.Request.TheVariants as request
use Rattle.ipc_ids.specs.declared.message.Outcome.{Outcome}
use Rattle.ipc_ids.specs.declared.message.Outcome.TheVariants as outcome
use Rattle.ipc_ids.specs.Program.{fits, is_call_outcome}
use Rattle.ipc_ids.specs.Codes.{eok, enoent, einval, elimit, ehangup}
use Rattle.ipc_ids.specs.Methods.{phone_hungup, connect_me_to, share_out}
use Rattle.ipc_ids.specs.Doings.{Doing, Asks, Told, receipt, asks_for, is_kept, MayBeTold}
use Rattle.ipc_ids.proofs.Common.{done_no_receipt, is_receipt}
use Rattle.block_server.specs.declared.received.ReceivedCall.{ReceivedCall}
use Rattle.block_server.specs.declared.received.Work.{Work}
use Rattle.block_server.specs.declared.received.Work.TheVariants.{Offer, Drop, Answer, Show, Fetch}
use Rattle.block_server.specs.declared.received.Asked.{Asked}
use Rattle.block_server.specs.declared.received.Asked.TheVariants.{Share, Read, Write, HungUp, Other}
use Rattle.block_server.specs.Blocks.{BlockState, read_block, write_block, no_bytes, started, wanted, after, asked_by, slot_of, free_slot, label_given, is_window, is_offset, place_in, connect_by, enter_by, share_by, transfer_by, handled_by, handled_for, handled_if, code_of, argument}
use Rattle.block_server.specs.BlockLaw.{BlocksWereLawful, IsLawfulDoing, written, last_poke, last_peek, IsPoked}
use Rattle.block_server.specs.BlockLaw as block
use Rattle.block_server.specs.BlockHistory.{AreWritten, AnswerFits, TransferFits, WorkFits, BlocksFit, StartFits, StepFits, HangupFits, FittingIsLawful}
use Rattle.block_server.proofs.LawfulBlocks.{reads_give_what_was_written}

-- the doings q say of blocks and calls what p says
record SaysTheSame (p q : List Doing) : Type 0 where
  receipts : (n : ℕ) → receipt n q ≡ receipt n p
  kept : (n : ℕ) → is_kept n q ≡ is_kept n p
  poke : last_poke q ≡ last_poke p
  peek : last_peek q ≡ last_peek p
  blocks : (b : ℕ) → written b q ≡ written b p
  lawful : BlocksWereLawful p → BlocksWereLawful q

blocks_same : (p q : List Doing) (bs : List (List ℕ)) → SaysTheSame p q → AreWritten p bs → AreWritten q bs
blocks_same p q bs same are b bytes at = same.blocks b ∙ are b bytes at

answer_same : (p q : List Doing) (n : ℕ) (reply : Reply) (bs : List (List ℕ)) → SaysTheSame p q → AnswerFits p n reply bs → AnswerFits q n reply bs
answer_same p q n reply bs same it = record {
  came = rw (same.receipts n) it.came;
  read = λ b ok asks. poked_same b (it.read b ok (sym (ap (asks_for read_block b) (same.receipts n)) ∙ asks));
  blocks = λ b bytes at. grind (arith, same.receipts n, same.peek, same.blocks b, it.blocks b bytes at);
} where
  poked_same : (b : ℕ) → IsPoked b p → IsPoked b q
  poked_same b x = record { bytes = x.bytes; poked = same.poke ∙ x.poked; block = same.blocks b ∙ x.block }

transfer_same : (p q : List Doing) (method n b : ℕ) (bs : List (List ℕ)) → SaysTheSame p q → TransferFits p method n b bs → TransferFits q method n b bs
transfer_same p q method n b bs same it = record {
  asked = ap (asks_for method b) (same.receipts n) ∙ it.asked;
  block = it.block;
  blocks = blocks_same p q bs same it.blocks;
}

same_after : (p q r : List Doing) → SaysTheSame p q → SaysTheSame q r → SaysTheSame p r
same_after p q r a b = record {
  receipts = λ n. b.receipts n ∙ a.receipts n;
  kept = λ n. b.kept n ∙ a.kept n;
  poke = b.poke ∙ a.poke;
  peek = b.peek ∙ a.peek;
  blocks = λ c. b.blocks c ∙ a.blocks c;
  lawful = λ l. b.lawful (a.lawful l);
}

-- an outcome that is no receipt, and not that of a peek
told_same : (p : List Doing) (o : Outcome) → is_receipt o ≡ false → block.is_peek p ≡ false → SaysTheSame p (Told o ∷ p)
told_same p (outcome.Received n msg label) h unpeeked = absurd (cc h)
told_same p outcome.Done h unpeeked = record { receipts = λ n. refl; kept = λ n. refl; poke = refl; peek = rw unpeeked refl; blocks = λ b. refl; lawful = λ l. (l, tt) }
told_same p (outcome.Refused c) h unpeeked = record { receipts = λ n. refl; kept = λ n. refl; poke = refl; peek = rw unpeeked refl; blocks = λ b. refl; lawful = λ l. (l, tt) }
told_same p (outcome.Accepted n) h unpeeked = record { receipts = λ n. refl; kept = λ n. refl; poke = refl; peek = rw unpeeked refl; blocks = λ b. refl; lawful = λ l. (l, tt) }
told_same p (outcome.Answered n reply) h unpeeked = record { receipts = λ n. refl; kept = λ n. refl; poke = refl; peek = rw unpeeked refl; blocks = λ b. refl; lawful = λ l. (l, tt) }
told_same p outcome.Empty h unpeeked = record { receipts = λ n. refl; kept = λ n. refl; poke = refl; peek = rw unpeeked refl; blocks = λ b. refl; lawful = λ l. (l, tt) }
told_same p (outcome.Bytes bs) h unpeeked = record { receipts = λ n. refl; kept = λ n. refl; poke = refl; peek = rw unpeeked refl; blocks = λ b. refl; lawful = λ l. (l, tt) }

-- requests that tell nothing of blocks
call_same : (p : List Doing) (phone : ℕ) (msg : Msg) → SaysTheSame p (Asks (request.Call phone msg) ∷ p)
call_same p phone msg = record { receipts = λ n. refl; kept = λ n. refl; poke = refl; peek = refl; blocks = λ b. refl; lawful = λ l. (l, tt) }

receive_same : (p : List Doing) → SaysTheSame p (Asks request.Receive ∷ p)
receive_same p = record { receipts = λ n. refl; kept = λ n. refl; poke = refl; peek = refl; blocks = λ b. refl; lawful = λ l. (l, tt) }

drop_same : (p : List Doing) (base : ℕ) → SaysTheSame p (Asks (request.AreaDrop base) ∷ p)
drop_same p base = record { receipts = λ n. refl; kept = λ n. refl; poke = refl; peek = refl; blocks = λ b. refl; lawful = λ l. (l, tt) }

hangup_same : (p : List Doing) (phone : ℕ) → SaysTheSame p (Asks (request.Hangup phone) ∷ p)
hangup_same p phone = record { receipts = λ n. refl; kept = λ n. refl; poke = refl; peek = refl; blocks = λ b. refl; lawful = λ l. (l, tt) }

-- the same work
work_same : (p q : List Doing) (bs : List (List ℕ)) (ws : List Work) → SaysTheSame p q → WorkFits p bs ws → WorkFits q bs ws
work_same p q bs [] same it = blocks_same p q bs same it
work_same p q bs (Offer service ∷ []) same it = blocks_same p q bs same it
work_same p q bs (Offer service ∷ (w ∷ ws)) same it = absurd it
work_same p q bs (Answer n reply ∷ []) same it = answer_same p q n.0 reply bs same it
work_same p q bs (Answer n reply ∷ (w ∷ ws)) same it = absurd it
work_same p q bs (Drop base ∷ []) same it = absurd it
work_same p q bs (Drop base ∷ (Answer n reply ∷ [])) same it = answer_same p q n.0 reply bs same it
work_same p q bs (Drop base ∷ (Answer n reply ∷ (w ∷ ws))) same it = absurd it
work_same p q bs (Drop base ∷ (Offer service ∷ ws)) same it = absurd it
work_same p q bs (Drop base ∷ (Drop other ∷ ws)) same it = absurd it
work_same p q bs (Drop base ∷ (Show n at b ∷ ws)) same it = absurd it
work_same p q bs (Drop base ∷ (Fetch n at b ∷ ws)) same it = absurd it
work_same p q bs (Show n at b ∷ []) same it = transfer_same p q read_block n.0 b bs same it
work_same p q bs (Show n at b ∷ (w ∷ ws)) same it = absurd it
work_same p q bs (Fetch n at b ∷ []) same it = transfer_same p q write_block n.0 b bs same it
work_same p q bs (Fetch n at b ∷ (w ∷ ws)) same it = absurd it

-- doings that say the same leave the fit of any state with this work
fits_same : (p q : List Doing) (s t : BlockState) → SaysTheSame p q → BlocksWereLawful p → ((n : ℕ) → is_kept n p ≡ false → receipt n p ≡ None) → WorkFits p t.blocks t.work → BlocksFit q t
fits_same p q s t same lawful kept work = record {
  lawful = same.lawful lawful;
  kept = λ n h. same.receipts n ∙ kept n (sym (same.kept n) ∙ h);
  work = work_same p q t.blocks t.work same work;
}

-- A call comes.

-- an answer to the call that has just come, unless it is a success to a read or a write
new_answer :
    (p : List Doing) (n : CallNo) (msg : Msg) (label : Label) (reply : Reply) (bs : List (List ℕ)) → AreWritten p bs
    → (reply.code ≡ eok → msg.method ≡ read_block → ⊥) → (reply.code ≡ eok → msg.method ≡ write_block → ⊥)
    → AnswerFits (Told (outcome.Received n msg label) ∷ (Asks request.Receive ∷ p)) n.0 reply bs
new_answer p n msg label reply bs are no_read no_write = record {
  came = grind (arith, eq-eqb);
  read = λ b ok asks. absurd (grind (arith, eq-eqb, eqb-true, no_read));
  blocks = λ b bytes at. grind (arith, eq-eqb, eqb-true, no_write, are b bytes at);
}

-- the doings once a call has come, and a state that does nothing yet
abbrev with_receipt : List Doing → ReceivedCall → List Doing
with_receipt p r = Told (outcome.Received r.number r.msg r.label) ∷ (Asks request.Receive ∷ p)

-- the work for the call that has come fits
abbrev NewFits : List Doing → ReceivedCall → BlockState → Type 0
NewFits p r s = WorkFits (with_receipt p r) s.blocks s.work

abbrev idle : BlockState → BlockState
idle s = record s { work = [] }

new_refusal : (p : List Doing) (s : BlockState) (r : ReceivedCall) (code : Code) → (code.0 == 0) ≡ false → AreWritten p s.blocks
    → AnswerFits (with_receipt p r) r.number.0 (record { code = code; args = replicate 5 0 }) s.blocks
new_refusal p s r code bad are = new_answer p r.number r.msg r.label (record { code = code; args = replicate 5 0 }) s.blocks are (λ ok. absurd (never ok)) (λ ok. absurd (never ok)) where
  never : code ≡ eok → ⊥
  never ok = absurd (cc (bad, ap (λ (c : Code). c.0 == 0) ok))

new_success : (p : List Doing) (s : BlockState) (r : ReceivedCall) (args : List ℕ) → AreWritten p s.blocks
    → (r.msg.method ≡ read_block → ⊥) → (r.msg.method ≡ write_block → ⊥)
    → AnswerFits (with_receipt p r) r.number.0 (record { code = eok; args = args }) s.blocks
new_success p s r args are no_read no_write = new_answer p r.number r.msg r.label (record { code = eok; args = args }) s.blocks are (λ ok. no_read) (λ ok. no_write)

new_enter : (p : List Doing) (s : BlockState) (r : ReceivedCall) (slot : Option ℕ) → AreWritten p s.blocks → r.msg.method ≡ connect_me_to → NewFits p r (enter_by (idle s) r slot)
new_enter p s r None are is = new_refusal p s r elimit refl are
new_enter p s r (Some slot) are is = new_success p s r (replicate 5 0) are (λ e. cc (is, e)) (λ e. cc (is, e))

new_connect : (p : List Doing) (s : BlockState) (r : ReceivedCall) (slot : Option ℕ) → AreWritten p s.blocks → r.msg.method ≡ connect_me_to → NewFits p r (connect_by (idle s) r slot)
new_connect p s r (Some slot) are is = new_success p s r (replicate 5 0) are (λ e. cc (is, e)) (λ e. cc (is, e))
new_connect p s r None are is = new_enter p s r (free_slot s.slots) are is

new_share : (p : List Doing) (s : BlockState) (r : ReceivedCall) (slot : ℕ) (right : Bool) → AreWritten p s.blocks → r.msg.method ≡ share_out → NewFits p r (share_by (idle s) r slot right)
new_share p s r slot true are is = new_success p s r _ are (λ e. cc (is, e)) (λ e. cc (is, e))
new_share p s r slot false are is = new_refusal p s r einval refl are

new_transfer : (p : List Doing) (s : BlockState) (r : ReceivedCall) (method at : ℕ) → AreWritten p s.blocks → r.msg.method ≡ method → nat_lt (argument r 0) (length s.blocks) ≡ true
    → TransferFits (with_receipt p r) method r.number.0 (argument r 0) s.blocks
new_transfer p s r method at are is there = record {
  asked = grind (arith, eq-eqb, is);
  block = ltb-true (argument r 0) (length s.blocks) there;
  blocks = are;
}

new_read : (p : List Doing) (s : BlockState) (r : ReceivedCall) (at : ℕ) (there right : Bool) → AreWritten p s.blocks → r.msg.method ≡ read_block → nat_lt (argument r 0) (length s.blocks) ≡ there
    → NewFits p r (transfer_by (idle s) r (Show r.number at (argument r 0)) there right)
new_read p s r at false right are is there = new_refusal p s r enoent refl are
new_read p s r at true false are is there = new_refusal p s r einval refl are
new_read p s r at true true are is there = new_transfer p s r read_block at are is there

new_write : (p : List Doing) (s : BlockState) (r : ReceivedCall) (at : ℕ) (there right : Bool) → AreWritten p s.blocks → r.msg.method ≡ write_block → nat_lt (argument r 0) (length s.blocks) ≡ there
    → NewFits p r (transfer_by (idle s) r (Fetch r.number at (argument r 0)) there right)
new_write p s r at false right are is there = new_refusal p s r enoent refl are
new_write p s r at true false are is there = new_refusal p s r einval refl are
new_write p s r at true true are is there = new_transfer p s r write_block at are is there

-- the method of a call that asks so
abbrev Method : Asked → ℕ → Type 0
Method Share method = method ≡ share_out
Method Read method = method ≡ read_block
Method Write method = method ≡ write_block
Method HungUp method = method ≡ phone_hungup
Method Other method = ⊤

method_is : (method : ℕ) (a : Asked) → asked_by method ≡ a → Method a method
method_is method Share h = grind (arith, eqb-true)
method_is method Read h = grind (arith, eqb-true)
method_is method Write h = grind (arith, eqb-true)
method_is method HungUp h = grind (arith, eqb-true)
method_is method Other h = tt

new_asked : (p : List Doing) (s : BlockState) (r : ReceivedCall) (slot : ℕ) (a : Asked) → AreWritten p s.blocks → asked_by r.msg.method ≡ a → NewFits p r (handled_by (idle s) r slot a)
new_asked p s r slot Share are is = new_share p s r slot (is_window r) are (method_is r.msg.method Share is)
new_asked p s r slot Read are is = new_read p s r (place_in r slot) (nat_lt (argument r 0) (length s.blocks)) (is_offset (argument r 1)) are (method_is r.msg.method Read is) refl
new_asked p s r slot Write are is = new_write p s r (place_in r slot) (nat_lt (argument r 0) (length s.blocks)) (is_offset (argument r 1)) are (method_is r.msg.method Write is) refl
new_asked p s r slot HungUp are is = let method : r.msg.method ≡ phone_hungup = method_is r.msg.method HungUp is in new_success p s r (replicate 5 0) are (λ e. cc (method, e)) (λ e. cc (method, e))
new_asked p s r slot Other are is = new_refusal p s r enoent refl are

new_for : (p : List Doing) (s : BlockState) (r : ReceivedCall) (slot : Option ℕ) → AreWritten p s.blocks → NewFits p r (handled_for (idle s) r slot)
new_for p s r None are = new_refusal p s r ehangup refl are
new_for p s r (Some slot) are = new_asked p s r slot (asked_by r.msg.method) are refl

new_handled : (p : List Doing) (s : BlockState) (r : ReceivedCall) (connects : Bool) → AreWritten p s.blocks → (r.msg.method == connect_me_to) ≡ connects → NewFits p r (handled_if (idle s) r connects)
new_handled p s r true are is = new_connect p s r (slot_of s.slots (label_given r)) are (eqb-true r.msg.method connect_me_to is)
new_handled p s r false are is = new_for p s r (slot_of s.slots r.label) are

-- The work.

-- the doings that come of a request and its outcome
abbrev then : List Doing → Request → Outcome → List Doing
then p asked o = Told o ∷ (Asks asked ∷ p)

quiet : (p : List Doing) (asked : Request) (o : Outcome) → SaysTheSame p (Asks asked ∷ p) → block.is_peek (Asks asked ∷ p) ≡ false → is_receipt o ≡ false → SaysTheSame p (then p asked o)
quiet p asked o asks unpeeked h = same_after p (Asks asked ∷ p) (then p asked o) asks (told_same (Asks asked ∷ p) o h unpeeked)

same_receipt : (p : List Doing) (n : ℕ) (o : Outcome) → is_receipt o ≡ false → receipt n (Told o ∷ p) ≡ receipt n p
same_receipt p n o h = grind (arith, h)

same_kept : (p : List Doing) (n : ℕ) (o : Outcome) → is_receipt o ≡ false → is_kept n (Told o ∷ p) ≡ is_kept n p
same_kept p n o h = grind (arith, h)

some_asked : (method b : ℕ) (o : Option Msg) → asks_for method b o ≡ true → is_some o ≡ true
some_asked method b o h = grind (arith, h)

same_first : (method b c : ℕ) (o : Option Msg) → asks_for method b o ≡ true → asks_for method c o ≡ true → b ≡ c
same_first method b c o h i = grind (arith, eqb-true, h, i)

other_first : (method b c : ℕ) (o : Option Msg) → asks_for method b o ≡ true → (c ≡ b → ⊥) → asks_for method c o ≡ false
other_first method b c o h apart = grind (arith, eqb-true, ne_eqb, h, apart)

read_no_write : (b c : ℕ) (o : Option Msg) → asks_for read_block b o ≡ true → asks_for write_block c o ≡ false
read_no_write b c o h = grind (arith, eqb-true, ne_eqb, h)

write_no_read : (b c : ℕ) (o : Option Msg) → asks_for write_block b o ≡ true → asks_for read_block c o ≡ false
write_no_read b c o h = grind (arith, eqb-true, ne_eqb, h)

abbrev bare : Code → Reply
bare code = record { code = code; args = replicate 5 0 }

-- a block was poked
shown_fits : (p : List Doing) (n : CallNo) (at b : ℕ) (o : Outcome) (bs : List (List ℕ)) → is_receipt o ≡ false → TransferFits p read_block n.0 b bs
    → AnswerFits (then p (request.Poke at (get_or bs b no_bytes)) o) n.0 (bare (code_of o)) bs
shown_fits p n at b o bs h it =
    let asked : Request = request.Poke at (get_or bs b no_bytes) in
    let same : receipt n.0 (then p asked o) ≡ receipt n.0 p = same_receipt (Asks asked ∷ p) n.0 o h in
    record {
      came = ap is_some same ∙ some_asked read_block b (receipt n.0 p) it.asked;
      read = λ c ok asks.
          let is : b ≡ c = same_first read_block b c (receipt n.0 p) it.asked (sym (ap (asks_for read_block c) same) ∙ asks) in
          record {
            bytes = get_or bs b no_bytes;
            poked = refl;
            block = subst (λ (d : ℕ). written d p ≡ Some (get_or bs b no_bytes)) is (it.blocks b (get_or bs b no_bytes) (slice_get-get_or bs b no_bytes it.block));
          };
      blocks = λ c bytes there.
          let none : asks_for write_block c (receipt n.0 (then p asked o)) ≡ false = ap (asks_for write_block c) same ∙ read_no_write b c (receipt n.0 p) it.asked in
          grind (arith, none, it.blocks c bytes there);
    }

at_set : (bs : List (List ℕ)) (i j : ℕ) (x y : List ℕ) → slice_get (slice_set bs i x) j ≡ Some y
    → (j ≡ i) × (y ≡ x) ⊎ ((j ≡ i → ⊥) × (slice_get bs j ≡ Some y))
at_set [] i zero x y h = absurd (cc h)
at_set [] i (suc j) x y h = absurd (cc h)
at_set (q ∷ bs) zero zero x y h = inl (refl, sym (same_Some x y h))
at_set (q ∷ bs) zero (suc j) x y h = inr (λ e. cc, h)
at_set (q ∷ bs) (suc i) zero x y h = inr (λ e. cc, h)
at_set (q ∷ bs) (suc i) (suc j) x y h = elim (at_set bs i j x y h) [
  | inl e ↦ inl (ap suc e.0, e.1)
  | inr e ↦ inr (λ same. e.0 (omega (arith, same)), e.1)
]

-- a block was peeked
fetched_fits : (p : List Doing) (n : CallNo) (at b : ℕ) (bytes : List ℕ) (bs : List (List ℕ)) → TransferFits p write_block n.0 b bs
    → AnswerFits (then p (request.Peek at 64) (outcome.Bytes bytes)) n.0 (bare eok) (slice_set bs b bytes)
fetched_fits p n at b bytes bs it = record {
  came = some_asked write_block b (receipt n.0 p) it.asked;
  read = λ c ok asks. absurd (cc (asks, write_no_read b c (receipt n.0 p) it.asked));
  blocks = λ c x there. elim (at_set bs b c bytes x there) [
    | inl e ↦ by_itself c x e.0 e.1
    | inr e ↦ another c x e.0 e.1
  ];
} where
  by_itself : (c : ℕ) (x : List ℕ) → c ≡ b → x ≡ bytes → written c (Asks (request.Answer n.0 (bare eok)) ∷ then p (request.Peek at 64) (outcome.Bytes bytes)) ≡ Some x
  by_itself c x same is = grind (arith, it.asked, same, is)

  another : (c : ℕ) (x : List ℕ) → (c ≡ b → ⊥) → slice_get bs c ≡ Some x → written c (Asks (request.Answer n.0 (bare eok)) ∷ then p (request.Peek at 64) (outcome.Bytes bytes)) ≡ Some x
  another c x apart there = grind (arith, other_first write_block b c (receipt n.0 p) it.asked apart, it.blocks c x there)

-- a peek was refused
refused_fits : (p : List Doing) (n : CallNo) (at b : ℕ) (code : Code) (bs : List (List ℕ)) → (code.0 == 0) ≡ false → TransferFits p write_block n.0 b bs
    → AnswerFits (then p (request.Peek at 64) (outcome.Refused code)) n.0 (bare code) bs
refused_fits p n at b code bs bad it = record {
  came = some_asked write_block b (receipt n.0 p) it.asked;
  read = λ c ok asks. absurd (cc (asks, write_no_read b c (receipt n.0 p) it.asked));
  blocks = λ c x there. grind (arith, bad, it.blocks c x there);
}

abbrev doing : BlockState → List Work → BlockState
doing s ws = record s { work = ws }

kept_on : (p : List Doing) (asked : Request) (o : Outcome) → is_receipt o ≡ false → ((n : ℕ) → is_kept n (Asks asked ∷ p) ≡ is_kept n p) → ((n : ℕ) → receipt n (Asks asked ∷ p) ≡ receipt n p)
    → ((n : ℕ) → is_kept n p ≡ false → receipt n p ≡ None) → (n : ℕ) → is_kept n (then p asked o) ≡ false → receipt n (then p asked o) ≡ None
kept_on p asked o h one two kept n is =
    same_receipt (Asks asked ∷ p) n o h ∙ two n ∙ kept n (sym (one n) ∙ sym (same_kept (Asks asked ∷ p) n o h) ∙ is)

-- what a step leaves fits: the laws, and the work
left : (p : List Doing) (asked : Request) (o : Outcome) (s t : BlockState) → BlocksFit p s → is_receipt o ≡ false
    → IsLawfulDoing p (Asks asked) → ((n : ℕ) → is_kept n (Asks asked ∷ p) ≡ is_kept n p) → ((n : ℕ) → receipt n (Asks asked ∷ p) ≡ receipt n p)
    → WorkFits (then p asked o) t.blocks t.work → BlocksFit (then p asked o) t
left p asked o s t fit h may one two work = record {
  lawful = ((fit.lawful, may), told_lawful (Asks asked ∷ p) o h);
  kept = kept_on p asked o h one two fit.kept;
  work = work;
} where
  told_lawful : (q : List Doing) (o : Outcome) → is_receipt o ≡ false → IsLawfulDoing q (Told o)
  told_lawful q o h = grind (arith, h)

passed : (p : List Doing) (asked : Request) (o : Outcome) (s t : BlockState) → BlocksFit p s → SaysTheSame p (then p asked o) → WorkFits p t.blocks t.work → BlocksFit (then p asked o) t
passed p asked o s t fit same work = fits_same p (then p asked o) s t same fit.lawful fit.kept work

received_fits : (p : List Doing) (s : BlockState) (r : ReceivedCall) → BlocksFit p (doing s []) → is_kept r.number.0 p ≡ false
    → BlocksFit (with_receipt p r) (after (doing s []) (outcome.Received r.number r.msg r.label))
received_fits p s r fit new = record {
  lawful = ((fit.lawful, tt), fit.kept r.number.0 new);
  kept = λ n h. grind (arith, fit.kept n);
  work = new_handled p s r (r.msg.method == connect_me_to) fit.work refl;
}

abbrev counted : BlockState → List Work → BlockState
counted s ws = record s { work = ws; taken = s.taken + 1 }

call_no_receipt : (o : Outcome) → is_call_outcome o ≡ true → is_receipt o ≡ false
call_no_receipt o h = grind (arith, h)

by_work : (p : List Doing) (s : BlockState) (o : Outcome) (ws : List Work) → BlocksFit p (doing s ws) → fits (wanted (doing s ws)) o ≡ true → MayBeTold p (wanted (doing s ws)) o
    → BlocksFit (then p (wanted (doing s ws)) o) (after (doing s ws) o)
by_work p s (outcome.Received n msg label) [] fit fitting may = received_fits p s (record { number = n; msg = msg; label = label }) fit may.new
by_work p s (outcome.Answered n reply) [] fit fitting may = passed p request.Receive (outcome.Answered n reply) (doing s []) (counted s []) fit (quiet p request.Receive (outcome.Answered n reply) (receive_same p) refl refl) fit.work
by_work p s outcome.Empty [] fit fitting may = passed p request.Receive outcome.Empty (doing s []) (counted s []) fit (quiet p request.Receive outcome.Empty (receive_same p) refl refl) fit.work
by_work p s _ [] fit fitting may = absurd (cc fitting)
by_work p s o (Offer service ∷ []) fit fitting may =
    let asked : Request = wanted (doing s (Offer service ∷ [])) in
    passed p asked o (doing s (Offer service ∷ [])) (counted s []) fit (quiet p asked o (call_same p 0 (record { method = 1; args = service ∷ 0 ∷ 0 ∷ 0 ∷ 0 ∷ [] })) refl (call_no_receipt o fitting)) fit.work
by_work p s o (Drop base ∷ (Answer n reply ∷ [])) fit fitting may =
    passed p (request.AreaDrop base) o (doing s (Drop base ∷ (Answer n reply ∷ []))) (counted s (Answer n reply ∷ [])) fit (quiet p (request.AreaDrop base) o (drop_same p base) refl (done_no_receipt o fitting)) fit.work
by_work p s o (Answer n reply ∷ []) fit fitting may =
    left p (request.Answer n.0 reply) o (doing s (Answer n reply ∷ [])) (counted s []) fit (done_no_receipt o fitting) (fit.work.came, fit.work.read) (λ m. refl) (λ m. refl) fit.work.blocks
by_work p s o (Show n at b ∷ []) fit fitting may =
    left p (request.Poke at (get_or s.blocks b no_bytes)) o (doing s (Show n at b ∷ [])) (counted s (Answer n (bare (code_of o)) ∷ [])) fit (done_no_receipt o fitting) tt (λ m. refl) (λ m. refl)
    (shown_fits p n at b o s.blocks (done_no_receipt o fitting) fit.work)
by_work p s (outcome.Bytes bytes) (Fetch n at b ∷ []) fit fitting may =
    left p (request.Peek at 64) (outcome.Bytes bytes) (doing s (Fetch n at b ∷ [])) (record s { blocks = slice_set s.blocks b bytes; work = Answer n (bare eok) ∷ []; taken = s.taken + 1 }) fit refl tt (λ m. refl) (λ m. refl)
    (fetched_fits p n at b bytes s.blocks fit.work)
by_work p s (outcome.Refused code) (Fetch n at b ∷ []) fit fitting may =
    left p (request.Peek at 64) (outcome.Refused code) (doing s (Fetch n at b ∷ [])) (counted s (Answer n (bare code) ∷ [])) fit refl tt (λ m. refl) (λ m. refl)
    (refused_fits p n at b code s.blocks may.refusal fit.work)
by_work p s _ (Fetch n at b ∷ []) fit fitting may = absurd (cc fitting)
by_work p s o (Offer service ∷ (w ∷ ws)) fit fitting may = absurd fit.work
by_work p s o (Answer n reply ∷ (w ∷ ws)) fit fitting may = absurd fit.work
by_work p s o (Show n at b ∷ (w ∷ ws)) fit fitting may = absurd fit.work
by_work p s o (Fetch n at b ∷ (w ∷ ws)) fit fitting may = absurd fit.work
by_work p s o (Drop base ∷ []) fit fitting may = absurd fit.work
by_work p s o (Drop base ∷ (Answer n reply ∷ (w ∷ ws))) fit fitting may = absurd fit.work
by_work p s o (Drop base ∷ (Offer service ∷ ws)) fit fitting may = absurd fit.work
by_work p s o (Drop base ∷ (Drop other ∷ ws)) fit fitting may = absurd fit.work
by_work p s o (Drop base ∷ (Show n at b ∷ ws)) fit fitting may = absurd fit.work
by_work p s o (Drop base ∷ (Fetch n at b ∷ ws)) fit fitting may = absurd fit.work

pub step_fits : StepFits
step_fits p s o fit fitting may = by_work p s o s.work fit fitting may

pub hangup_fits : HangupFits
hangup_fits p s phone o fit done = passed p (request.Hangup phone) o s s fit (quiet p (request.Hangup phone) o (hangup_same p phone) refl (done_no_receipt o done)) fit.work

-- At the start.
zeros_at : (n b : ℕ) (x bytes : List ℕ) → slice_get (replicate n x) b ≡ Some bytes → bytes ≡ x
zeros_at zero zero x bytes h = absurd (cc h)
zeros_at zero (suc b) x bytes h = absurd (cc h)
zeros_at (suc n) zero x bytes h = cc h
zeros_at (suc n) (suc b) x bytes h = zeros_at n b x bytes h

first_fits : (blocks : ℕ) (service : Option ℕ) → WorkFits [] (started blocks service).blocks (started blocks service).work
first_fits blocks None = λ b bytes at. ap (λ (x : List ℕ). Some x) (sym (zeros_at blocks b no_bytes bytes at))
first_fits blocks (Some service) = λ b bytes at. ap (λ (x : List ℕ). Some x) (sym (zeros_at blocks b no_bytes bytes at))

pub start_fits : StartFits
start_fits blocks service = record { lawful = tt; kept = λ n h. refl; work = first_fits blocks service }

pub fitting_is_lawful : FittingIsLawful
fitting_is_lawful p s fit = reads_give_what_was_written p fit.lawful

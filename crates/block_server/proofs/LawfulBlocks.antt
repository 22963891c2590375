-- The law of blocks holds of doings that were each lawful as they came.
use Rattle.std.proofs.Common.{ℕ, ◌≡◌, Bool, true, false, List, [], ◌∷◌, ◌++◌, Some, refl, sym, subst, ap, ◌∙◌, inl, inr, arith, append_assoc}
use Rattle.std.specs.Prelude.{◌==◌, is_some}
use Rattle.std.proofs.lemmas.Bool.{eq-eqb, ne_eqb, eqb-true, and_parts, and_from}
use Rattle.std.proofs.lemmas.List.{append-nil}
use Rattle.ipc_ids.specs.declared.numbers.Code.{Code}
use Rattle.ipc_ids.specs.declared.message.Reply.{Reply}
use Rattle.ipc_ids.specs.declared.message.Request.TheVariants as request
use Rattle.ipc_ids.specs.Codes.{eok}
use Rattle.ipc_ids.specs.Doings.{Doing, Asks, Came, receipt, asks_for}
use Rattle.block_server.specs.Blocks.{read_block, write_block, no_bytes}
use Rattle.block_server.specs.BlockLaw.{last_peek, IsPoked, HasWrite, ReadsGiveWhatWasWritten, is_write, written, BlocksWereLawful}

blocks_before : (later p : List Doing) → BlocksWereLawful (later ++ p) → BlocksWereLawful p
blocks_before [] p l = l
blocks_before (x ∷ later) p l = blocks_before later p l.0

-- a call that came has a receipt, and a call has one receipt
came_is : (p : List Doing) (method n b : ℕ) → BlocksWereLawful p → Came method n b p → asks_for method b (receipt n p) ≡ true
came_is [] method n b l came = absurd came
came_is (x ∷ p) method n b l came = grind (arith, eq-eqb, ne_eqb, eqb-true, came_is p method n b l.0, l.1)

receipt_stays : (later p : List Doing) (n : ℕ) → BlocksWereLawful (later ++ p) → is_some (receipt n p) ≡ true → receipt n (later ++ p) ≡ receipt n p
receipt_stays [] p n l some = refl
receipt_stays (x ∷ later) p n l some = grind (arith, eqb-true, receipt_stays later p n l.0 some, l.1)

-- a call that asked for a block came
asked_came : (p : List Doing) (method n b : ℕ) → asks_for method b (receipt n p) ≡ true → Came method n b p
asked_came [] method n b h = absurd (cc h)
asked_came (x ∷ p) method n b h = grind (arith, eqb-true, asked_came p method n b)

came_later : (later p : List Doing) (method n b : ℕ) → Came method n b p → Came method n b (later ++ p)
came_later [] p method n b came = came
came_later (x ∷ later) p method n b came = inr (came_later later p method n b came)

-- a call that is answered has its receipt, which stays
answered_receipt : (later earlier : List Doing) (n : ℕ) (reply : Reply) → BlocksWereLawful (later ++ (Asks (request.Answer n reply) ∷ earlier))
    → receipt n (later ++ (Asks (request.Answer n reply) ∷ earlier)) ≡ receipt n earlier
answered_receipt later earlier n reply l =
    receipt_stays later (Asks (request.Answer n reply) ∷ earlier) n l (blocks_before later (Asks (request.Answer n reply) ∷ earlier) l).1.0

code_is : (code : Code) → (code.0 == 0) ≡ true → code ≡ eok
code_is code h = ap coded (eqb-true code.0 0 h) where
  coded : ℕ → Code
  coded n = record { 0 = n }

-- where no write of the block is answered between, it is as it was
unwritten_between :
    (between earlier p : List Doing) (b : ℕ) → ((n : ℕ) → Came write_block n b (between ++ earlier) → Came write_block n b p)
    → (HasWrite b p between → ⊥) → written b (between ++ earlier) ≡ written b earlier
unwritten_between [] earlier p b within none = refl
unwritten_between (x ∷ between) earlier p b within none =
    one x (unwritten_between between earlier p b (λ n came. within n (inr came)) (λ w. none (w.0, w.1, inr w.2, w.3, w.4))) (λ n came. within n (inr came)) (λ n reply is. none (n, reply, inl is.0, is.1, is.2))
  where
    tested : (n : ℕ) (reply : Reply) (test : Bool) → is_write b reply (asks_for write_block b (receipt n (between ++ earlier))) ≡ test
        → written b (between ++ earlier) ≡ written b earlier → ((reply.code ≡ eok) × Came write_block n b (between ++ earlier) → ⊥)
        → written b (Asks (request.Answer n reply) ∷ (between ++ earlier)) ≡ written b earlier
    tested n reply true is rest not =
        let parts = and_parts (reply.code.0 == 0) (asks_for write_block b (receipt n (between ++ earlier))) is in
        absurd (not (code_is reply.code parts.0, asked_came (between ++ earlier) write_block n b parts.1))
    tested n reply false is rest not = rw is rest

    one : (x : Doing) → written b (between ++ earlier) ≡ written b earlier → ((n : ℕ) → Came write_block n b (between ++ earlier) → Came write_block n b p)
        → ((n : ℕ) (reply : Reply) → (x ≡ Asks (request.Answer n reply)) × (reply.code ≡ eok) × Came write_block n b p → ⊥)
        → written b (x ∷ (between ++ earlier)) ≡ written b earlier
    one (Asks (request.Answer n reply)) rest within not = tested n reply (is_write b reply (asks_for write_block b (receipt n (between ++ earlier)))) refl rest (λ is. not n reply (refl, is.0, within n is.1))
    one _ rest within not = rest

module _ (p : List Doing) (l : BlocksWereLawful p) where
  -- a call that came so, as its answer is given
  asks_at : (later earlier : List Doing) (method n b : ℕ) (reply : Reply) → p ≡ later ++ (Asks (request.Answer n reply) ∷ earlier) → Came method n b p
      → asks_for method b (receipt n earlier) ≡ true
  asks_at later earlier method n b reply at came =
      sym (ap (asks_for method b) (ap (receipt n) at ∙ answered_receipt later earlier n reply (subst BlocksWereLawful at l))) ∙ came_is p method n b l came

  poked_at : (later earlier : List Doing) (n b : ℕ) (reply : Reply) → p ≡ later ++ (Asks (request.Answer n reply) ∷ earlier) → reply.code ≡ eok → Came read_block n b p
      → IsPoked b earlier
  poked_at later earlier n b reply at ok came =
      (blocks_before later (Asks (request.Answer n reply) ∷ earlier) (subst BlocksWereLawful at l)).1.1 b ok (asks_at later earlier read_block n b reply at came)

  came_within : (later earlier : List Doing) (x : Doing) (m n b : ℕ) → p ≡ later ++ (x ∷ earlier) → Came m n b earlier → Came m n b p
  came_within later earlier x m n b at came = subst (Came m n b) (sym at) (came_later later (x ∷ earlier) m n b (inr came))

  pub reads_give_what_was_written : ReadsGiveWhatWasWritten p
  reads_give_what_was_written = record {
    written = λ later between earlier n m b read write at ok done reads writes none.
        let q : List Doing = Asks (request.Answer m write) ∷ earlier in
        let it : IsPoked b (between ++ q) = poked_at later (between ++ q) n b read at ok reads in
        let same : written b (between ++ q) ≡ written b q = unwritten_between between q p b (λ k came. came_within later (between ++ q) (Asks (request.Answer n read)) write_block k b at came) none in
        let asks : asks_for write_block b (receipt m earlier) ≡ true =
        asks_at (later ++ (Asks (request.Answer n read) ∷ between)) earlier write_block m b write (at ∙ sym (append_assoc later (Asks (request.Answer n read) ∷ between) q)) writes in
        let last : written b q ≡ last_peek earlier = by_answer b m write earlier done asks in
        record { bytes = it.bytes; poked = it.poked; peeked = sym last ∙ sym same ∙ it.block };
    unwritten = λ later earlier n b read at ok reads none.
        let it : IsPoked b earlier = poked_at later earlier n b read at ok reads in
        let same : written b (earlier ++ []) ≡ Some no_bytes = unwritten_between earlier [] p b (λ k came. came_within later earlier (Asks (request.Answer n read)) write_block k b at (subst (Came write_block k b) (append-nil earlier) came)) none in
        it.poked ∙ sym it.block ∙ subst (λ (q : List Doing). written b q ≡ Some no_bytes) (append-nil earlier) same;
  } where
    by_answer : (b m : ℕ) (write : Reply) (earlier : List Doing) → write.code ≡ eok → asks_for write_block b (receipt m earlier) ≡ true → written b (Asks (request.Answer m write) ∷ earlier) ≡ last_peek earlier
    by_answer b m write earlier done asks = rw (and_from (write.code.0 == 0) (asks_for write_block b (receipt m earlier)) (ap (λ (c : Code). c.0 == 0) done) asks) refl

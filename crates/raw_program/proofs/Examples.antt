-- A caller and the task that answers it, step by step: what each asks, and what an outcome makes of it.
use Rattle.std.proofs.Common.{◌≡◌, List, [], ◌∷◌, refl}
use Rattle.ipc_ids.specs.declared.message.Request.TheVariants as ask
use Rattle.ipc_ids.specs.declared.message.Outcome.TheVariants as got
use Rattle.ipc_ids.specs.declared.op.Value.{Value}
use Rattle.ipc_ids.specs.declared.op.Value.TheVariants.{Number, Register}
use Rattle.ipc_ids.specs.declared.op.Op.TheVariants as op
use Rattle.raw_program.specs.Raw.{RawState, started, wanted, after}

abbrev zeros : List Value
zeros = Number 0 ∷ Number 0 ∷ Number 0 ∷ Number 0 ∷ Number 0 ∷ []

-- call 0 512 7, receive
abbrev caller : RawState
caller =
    started
    (op.Call (Number 0) (Number 512) (Number 7 ∷ Number 0 ∷ Number 0 ∷ Number 0 ∷ Number 0 ∷ [])
    ∷ op.Receive ∷ [])

caller_calls : wanted caller ≡ ask.Call 0 (record { method = 512; args = 7 ∷ 0 ∷ 0 ∷ 0 ∷ 0 ∷ [] })
caller_calls = refl

abbrev waiting : RawState
waiting = after caller (got.Accepted (record { 0 = 1 }))

caller_waits : wanted waiting ≡ ask.Receive
caller_waits = refl

nothing_came : after waiting got.Empty ≡ record waiting { taken = 2 }
nothing_came = refl

refused_caller_goes_on : wanted (after caller (got.Refused (record { 0 = 5 }))) ≡ ask.Receive
refused_caller_goes_on = refl

caller_ends : wanted (after waiting got.Done) ≡ ask.Nothing
caller_ends = refl

ended_stays : after (after waiting got.Done) got.Done ≡ record (after waiting got.Done) { taken = 3 }
ended_stays = refl

-- call 3 512, receive, call r10 r1: what came is in the registers
abbrev asker : RawState
asker =
    started
    (op.Call (Number 3) (Number 512) zeros ∷ op.Receive ∷ op.Call (Register 10) (Register 1) zeros ∷ [])

abbrev answered : RawState
answered =
    after
    (after (after asker (got.Accepted (record { 0 = 9 }))) got.Empty)
    (got.Answered (record { 0 = 9 }) (record { code = record { 0 = 1 }; args = 0 ∷ 0 ∷ 0 ∷ 0 ∷ 0 ∷ [] }))

asker_asks_again : wanted answered ≡ ask.Call 1 (record { method = 9; args = 0 ∷ 0 ∷ 0 ∷ 0 ∷ 0 ∷ [] })
asker_asks_again = refl

refused_at_the_end : wanted (after answered (got.Refused (record { 0 = 1 }))) ≡ ask.Nothing
refused_at_the_end = refl

each_outcome_is_counted : (after answered (got.Refused (record { 0 = 1 }))).taken ≡ 4
each_outcome_is_counted = refl

-- jump 2, receive, hangup 5
abbrev jumper : RawState
jumper = started (op.Jump 2 ∷ op.Receive ∷ op.Hangup (Number 5) ∷ [])

jumper_goes_where_it_says : wanted (after jumper got.Done) ≡ ask.Hangup 5
jumper_goes_where_it_says = refl

-- receive, answer r2 EOK 8, jumpeq r3 512 0
abbrev server : RawState
server =
    started
    (op.Receive
    ∷ op.Answer (Register 2) (Number 0) (Number 8 ∷ Number 0 ∷ Number 0 ∷ Number 0 ∷ Number 0 ∷ [])
    ∷ op.JumpEqual (Register 3) (Number 512) 0
    ∷ [])

abbrev answering : RawState
answering =
    after
    server
    (got.Received
    (record { 0 = 1 })
    (record { method = 512; args = 7 ∷ 0 ∷ 0 ∷ 0 ∷ 0 ∷ [] })
    (record { task = record { 0 = 1 }; phone = record { 0 = 0 } }))

server_answers : wanted answering ≡ ask.Answer 1 (record { code = record { 0 = 0 }; args = 8 ∷ 0 ∷ 0 ∷ 0 ∷ 0 ∷ [] })
server_answers = refl

-- the call, its method and its arguments are in r2 to r8, the label's task in r16
answering_registers : answering.registers
    ≡ 0 ∷ 0 ∷ 1 ∷ 512 ∷ 7 ∷ 0 ∷ 0 ∷ 0 ∷ 0 ∷ 0 ∷ 0 ∷ 0 ∷ 0 ∷ 0 ∷ 0 ∷ 0 ∷ 1 ∷ 0 ∷ 0 ∷ 0 ∷ 0 ∷ 0 ∷ 0 ∷ 0 ∷ 0 ∷ 0 ∷ 0 ∷ 0
    ∷ 0 ∷ 0 ∷ 0 ∷ 0 ∷ []
answering_registers = refl

server_jumps_back : wanted (after (after answering got.Done) got.Done) ≡ ask.Receive
server_jumps_back = refl

-- area 4096 1 RW, poke 4096 0aff, peek 4096 2
abbrev keeper : RawState
keeper =
    started
    (op.Area (Number 4096) (Number 1) (Number 3)
    ∷ op.Poke (Number 4096) (10 ∷ 255 ∷ [])
    ∷ op.Peek (Number 4096) (Number 2)
    ∷ [])

keeper_makes_an_area : wanted keeper ≡ ask.AreaMake 4096 1 3
keeper_makes_an_area = refl

keeper_writes : wanted (after keeper got.Done) ≡ ask.Poke 4096 (10 ∷ 255 ∷ [])
keeper_writes = refl

abbrev looking : RawState
looking = after (after keeper got.Done) got.Done

keeper_reads : wanted looking ≡ ask.Peek 4096 2
keeper_reads = refl

-- bytes that are read go into no register
read_bytes_are_told : after looking (got.Bytes (10 ∷ 255 ∷ [])) ≡ after looking got.Done
read_bytes_are_told = refl

-- yield: an operation of fibrils, which asks for nothing and is passed
abbrev mistaken : RawState
mistaken = started (op.Yield ∷ op.Receive ∷ [])

mistaken_asks_nothing : wanted mistaken ≡ ask.Nothing
mistaken_asks_nothing = refl

mistaken_goes_on : wanted (after mistaken got.Done) ≡ ask.Receive
mistaken_goes_on = refl

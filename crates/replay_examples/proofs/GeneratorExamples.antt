-- What the generator's definitions come to at given numbers, computed by other programs.
use Rattle.std.specs.Prelude.{◌≡◌, ◌^◌, ◌-◌, [], ◌∷◌, length, refl, codes, slice_index_or}
use Rattle.std.specs.Fmt.{digits}
use Rattle.ipc_ids.specs.declared.message.Event.TheVariants.{Step, Kill}
use Rattle.script_lines.specs.declared.plan.Wire.{Wire}
use Rattle.schedule_replay.specs.Generator.{event_of, generated_events, generated_name, generated_operations, generated_plan, next_number}

-- the first number of seed 0, and its event
first_number : next_number 0 ≡ 1442695040888963407
unfolding next_number
first_number = refl

first_event : generated_events 0 1 ≡ Step (record { 0 = 2 }) ∷ []
unfolding next_number event_of
first_event = refl

-- a kill among steps
kill_among_steps : generated_events 1130 4
    ≡ Step (record { 0 = 15 }) ∷ Kill (record { 0 = 14 }) ∷ Step (record { 0 = 4 })
    ∷ Step (record { 0 = 11 }) ∷ []
unfolding next_number event_of
kill_among_steps = refl

-- only the 12 bits count, and all of them
bits_of_a_kill : (event_of (2 ^ 48 - 1) ≡ Kill (record { 0 = 1 }))
    × (event_of (2 ^ 60) ≡ Kill (record { 0 = 2 }))
    × (event_of (2 ^ 48) ≡ Step (record { 0 = 1 }))
    × (event_of (2 ^ 59) ≡ Step (record { 0 = 1 }))
unfolding event_of
bits_of_a_kill = (refl, refl, refl, refl)

counts : (length generated_plan.tasks ≡ 16) × (length generated_plan.wires ≡ 240)
    × (length generated_operations ≡ 19)
unfolding generated_plan generated_operations
counts = (refl, refl, refl)

names : (generated_name 0 ≡ codes "g0") × (generated_name 9 ≡ codes "g9")
    × (generated_name 10 ≡ codes "g10") × (generated_name 15 ≡ codes "g15")
unfolding generated_name digits
names = (refl, refl, refl, refl)

-- the last wire: phone 14 of g15 leads to g14
last_wire : (d : Wire) → slice_index_or generated_plan.wires 239 d
    ≡ record { from = record { 0 = 16 }; phone = record { 0 = 14 }; to = record { 0 = 15 } }
unfolding generated_plan
last_wire d = refl

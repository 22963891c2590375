use Rattle.std.proofs.Common.{rules, ◌≡◌, ◌+◌, ◌-◌, ◌++◌, suc, length, replicate, slice_set, sym, subst, arith}
use Rattle.ipc_ids.specs.declared.message.Event.{Event}
use Rattle.script_reader.specs.Repeated.{events_of}
use Rattle.script_reader.proofs.Repeats.{last_fits, longer}
use Rattle.script_reader.proofs.repeated.lengthen.Goals as goal

pub overflow_add-last : goal.overflow_add-last
overflow_add-last c =
    let parts = c.args.parts.now in
    let last = c.in-Some.last.now in
    let some = c.in-Some.ensures.item.3.0 in
    let len : length parts ≡ suc (length parts - 1) = omega (arith, some) in
    let fits = last_fits parts (length parts - 1) last last len (sym c.in-Some.ensures.item.1) in
    omega (arith, fits)

pub returns-in-Some-clause-longer : goal.returns-in-Some-clause-longer
returns-in-Some-clause-longer c = λ _.
    let parts = c.args.parts.now in
    let last = c.in-Some.last.now in
    let some = c.in-Some.ensures.item.3.0 in
    let len : length parts ≡ suc (length parts - 1) = omega (arith, some) in
    let more = longer parts (length parts - 1) last last c.args.times len (sym c.in-Some.ensures.item.1) in
    let same : last.event ≡ c.args.event = search rules in
    subst (λ (e : Event). events_of (slice_set parts (length parts - 1) (record { event = last.event; more = last.more + c.args.times })) ≡ events_of parts ++ replicate c.args.times e) same more

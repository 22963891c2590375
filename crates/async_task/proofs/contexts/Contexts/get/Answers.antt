use Rattle.std.proofs.Common.{sym, ◌∙◌}
use Rattle.async_task.proofs.Listed.{kept_listed, got}
use Rattle.async_task.proofs.contexts.Contexts.get.Goals as goal

pub returns-in-Some-get_index : goal.returns-in-Some-get_index
returns-in-Some-get_index c =
    let i = c.self.inside in
    let one = c.in-Some-get_index in
    rw (← c.self.view_is)
    (sym (kept_listed i.made i.kept.entries c.args.place c.self.invariant
    ∙ got c.args.place i.kept.entries c.in-Some.position _ one.t.now c.in-Some.ensures one.ensures.entry one.ensures.value))

pub returns-in-None : goal.returns-in-None
returns-in-None c =
    let i = c.self.inside in
    rw (← c.self.view_is)
    (sym (kept_listed i.made i.kept.entries c.args.place c.self.invariant ∙ c.in-None.ensures))

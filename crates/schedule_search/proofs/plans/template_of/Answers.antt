use Rattle.std.proofs.Common.{◌∙◌, sym, ap}
use Rattle.schedule_search.specs.Plans.{template_of}
use Rattle.schedule_search.proofs.Copied.{copied_at}
use Rattle.schedule_search.proofs.plans.template_of.Goals as goal

pub returns-in-Spawn : goal.returns-in-Spawn
returns-in-Spawn c =
    copied_at c.args.templates.now c.in-Spawn.place c.get.result c.get.ensures.lookup.0 c.get.ensures.lookup.1
    ∙ ap (template_of c.args.templates.now) (sym c.in-Spawn.is)

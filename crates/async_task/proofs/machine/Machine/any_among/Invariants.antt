use Rattle.std.proofs.Common.{◌≡◌, take}
use Rattle.std.specs.List.{list_any}
use Rattle.async_task.specs.Wanted.{waits_for}
use Rattle.async_task.proofs.machine.Machine.any_among.Given as goal

-- of those that the loop saw
abbrev pub invariant-loop-fibril : goal.invariant-loop-fibril
invariant-loop-fibril l =
    l.found ≡ list_any (λ x. waits_for l.self.state l.session x.number) (take l.fibril-index l.fibrils)

-- The state that the fields of a switchboard stand for.
use Rattle.switchboard.specs.declared.board.Switchboard.TheInside.{Inside}
use Rattle.switchboard.specs.State.{KernelState, state_from}

abbrev pub inner : Inside → KernelState
inner a = state_from a.alive.items a.phones.states a.boxes.calls a.spaces a.events

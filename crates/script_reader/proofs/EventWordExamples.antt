-- What each first word of a schedule is.
use Rattle.std.proofs.Common.{◌≡◌, Some, codes, refl}
use Rattle.script_reader.specs.declared.schedule.EventVerb.TheVariants as event
use Rattle.script_reader.specs.Schedule.{event_verb_of}

event_step : event_verb_of (codes "step") ≡ Some event.Step
unfolding event_verb_of
event_step = refl

event_kill : event_verb_of (codes "kill") ≡ Some event.Kill
unfolding event_verb_of
event_kill = refl

event_hangup : event_verb_of (codes "hangup") ≡ Some event.Hangup
unfolding event_verb_of
event_hangup = refl

event_spawn : event_verb_of (codes "spawn") ≡ Some event.Spawn
unfolding event_verb_of
event_spawn = refl

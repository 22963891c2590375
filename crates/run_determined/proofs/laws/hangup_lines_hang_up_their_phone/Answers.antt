use Rattle.run_determined.proofs.ScheduleLines.{hangups_hang_up}
use Rattle.run_determined.proofs.laws.hangup_lines_hang_up_their_phone.Goals as goal

pub returns : goal.returns
returns c plan events sound may = hangups_hang_up plan events

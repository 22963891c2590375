use Rattle.std.proofs.Common.{arith}
use Rattle.schedule_search.proofs.problem.SchedulesMaze.moves.Goals as goal

pub overflow_cast-result : goal.overflow_cast-result
overflow_cast-result c = omega (arith, c.requires.sound.few_moves)

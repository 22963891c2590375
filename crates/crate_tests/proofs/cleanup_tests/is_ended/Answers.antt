use Rattle.std.proofs.Common.{arith}
use Rattle.crate_tests.proofs.EndExamples.{alone_ended, alone_sound, alone_few}
use Rattle.crate_tests.proofs.cleanup_tests.is_ended.Goals as goal

pub end_task-requires : goal.end_task-requires
end_task-requires c =
    rw (c.requires.phones, c.requires.calls, c.requires.tasks, c.requires.spaces)
    (alone_ended, (alone_sound, (alone_few, (record { numbers = omega arith; stamps = omega arith }, omega arith))))

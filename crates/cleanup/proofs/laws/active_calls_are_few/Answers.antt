use Rattle.cleanup.proofs.Limits.{active_within, handed_out_idle, within_kill}
use Rattle.cleanup.proofs.laws.active_calls_are_few.Goals as goal

pub returns-clause-most : goal.returns-clause-most
returns-clause-most c = λ k t p h. active_within k h t p

pub returns-clause-handed_out : goal.returns-clause-handed_out
returns-clause-handed_out c = handed_out_idle

pub returns-clause-kill : goal.returns-clause-kill
returns-clause-kill c = within_kill

use Rattle.law_check.proofs.AreaKept.{held_around}
use Rattle.law_check.proofs.areas.Areas.may_come.Goals as goal

pub returns-then-may_write : goal.returns-then-may_write
returns-then-may_write c =
    let a = c.args in
    let w = c.in-Wrote in
    λ p knows now last.
    let around = held_around p a.self.now w.task.0 w.at w.count w.store.0 c.covers.result knows (c.covers.ensures knows.by_store) in
    let sort = (c.may_write.ensures p knows now).0 c.if-may_write.true in
    rw (w.is) (λ yes. (sort, around.0 yes), λ may. around.1 may.1)

pub returns-in-Head : goal.returns-in-Head
returns-in-Head c = λ p knows now last. rw c.in-Head.is (c.is_served.ensures p knows)

pub returns-in-Kill : goal.returns-in-Kill
returns-in-Kill c = λ p knows now last. rw c.in-Kill.is (c.is_served-in-Kill.ensures p knows)

pub returns-in-Gone : goal.returns-in-Gone
returns-in-Gone c = λ p knows now last. rw c.in-Gone.is (c.is_served-in-Gone.ensures p knows)

pub returns-in-Spawn : goal.returns-in-Spawn
returns-in-Spawn c = λ p knows now last. rw c.in-Spawn.is (c.is_served-in-Spawn.ensures p knows)

use Rattle.std.proofs.Common.{[], refl, ◌∙◌, inl, inr}
use Rattle.ipc_ids.proofs.Common.{not_both}
use Rattle.law_check.specs.Passing.{in_order}
use Rattle.law_check.proofs.AtMostOnce.{answered_at_most_once}
use Rattle.law_check.proofs.Judging.{calls_are}
use Rattle.law_check.proofs.verdict.Laws.verdict.Goals as goal

pub returns-then-not-hold : goal.returns-then-not-hold
returns-then-not-hold c =
    λ p judges.
    let h = in_order p [] in
    let stand = c.lives_are_lawful.ensures.stand p judges c.if-not-lives_are_lawful.false in
    let lives = (c.lives_are_lawful.ensures.lawful p judges).0 c.if-not-lives_are_lawful.false in
    inr (inr (inl (
      refl,
      lives,
      answered_at_most_once h lives,
      λ k. not_both ((c.hold.ensures.lawful p stand.kills lives).1 k) c.if-not-hold.true,
    )))

pub returns-then-not-hold-2 : goal.returns-then-not-hold-2
returns-then-not-hold-2 c =
    λ p judges.
    let h = in_order p [] in
    let stand = c.lives_are_lawful.ensures.stand p judges c.if-not-lives_are_lawful.false in
    let lives = (c.lives_are_lawful.ensures.lawful p judges).0 c.if-not-lives_are_lawful.false in
    let kills = (c.hold.ensures.lawful p stand.kills lives).0 c.if-not-hold.false in
    inr (inr (inr (
      refl,
      lives,
      answered_at_most_once h lives,
      kills,
      λ a. not_both ((c.hold-2.ensures p stand.areas lives).1 a) c.if-not-hold-2.true,
    )))

pub returns : goal.returns
returns c =
    λ p judges.
    let h = in_order p [] in
    let stand = c.lives_are_lawful.ensures.stand p judges c.if-not-lives_are_lawful.false in
    let lives = (c.lives_are_lawful.ensures.lawful p judges).0 c.if-not-lives_are_lawful.false in
    let kills = (c.hold.ensures.lawful p stand.kills lives).0 c.if-not-hold.false in
    let areas = (c.hold-2.ensures p stand.areas lives).0 c.if-not-hold-2.false in
    (lives, answered_at_most_once h lives, kills, areas, (rw (c.hold.ensures.calls) at c.count.ensures) ∙ calls_are p c.args.self.now stand)

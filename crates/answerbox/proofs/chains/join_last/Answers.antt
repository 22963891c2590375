use Rattle.std.proofs.Common.{Some, refl}
use Rattle.answerbox.proofs.Chain.{live_cores, cores-next_put}
use Rattle.answerbox.proofs.chains.join_last.Goals as goal

pub links-links-requires : goal.links-links-requires
links-links-requires g c = rw c.put_next.ensures.calls (record { live = live_cores _ c.args.calls.now.slots c.args.key (cores-next_put c.args.chain c.args.calls.now.slots _ (Some c.args.key) c.args.key) c.requires.live })

pub set_links-requires : goal.set_links-requires
set_links-requires g c = rw c.put_next.ensures.calls (record { live = live_cores _ c.args.calls.now.slots c.args.key (cores-next_put c.args.chain c.args.calls.now.slots _ (Some c.args.key) c.args.key) c.requires.live })

pub returns-clause-calls : goal.returns-clause-calls
returns-clause-calls g c = rw (c.set_links.ensures.calls, c.with_next.ensures, c.with_previous-behind.ensures, c.links-links.ensures.links, c.put_next.ensures.calls) refl

use Rattle.std.proofs.Common.{rules, sym}
use Rattle.std.proofs.lemmas.Cmp.{ranked}
use Rattle.std.proofs.lemmas.List.Sorted.{answers_always}
use Rattle.async_sessions.proofs.Rising.{place_found, place_none}
use Rattle.async_sessions.proofs.finding.place_of.Goals as goal

pub returns-in-Ok-clause-found : goal.returns-in-Ok-clause-found
returns-in-Ok-clause-found c =
    place_found c.args.exchanges.now c.args.e c.in-Ok.i c.in-Ok.ensures.bound (λ d. ranked _ c.args.e.0 _ (sym (c.in-Ok.ensures.position (λ x. x.number.0) (answers_always _ _ _ (λ f a r g called. search rules)) d)))

pub returns-in-Err-clause-none : goal.returns-in-Err-clause-none
returns-in-Err-clause-none c =
    place_none c.args.exchanges.now c.args.e c.in-Err.field-0 c.requires.rise (c.in-Err.ensures.position (λ x. x.number.0) (answers_always _ _ _ (λ f a r g called. search rules)))

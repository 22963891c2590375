use Rattle.command_line.specs.Command.{texts}
use Rattle.hipc_search.specs.Due.{Due}
use Rattle.hipc_search.proofs.Answering.{whole_of, part_of, no_memory_told}
use Rattle.hipc_search.proofs.due.run.Goals as goal

pub returns-in-Ok-clause-whole : goal.returns-in-Ok-clause-whole
returns-in-Ok-clause-whole g c =
    whole_of (Due (texts c.args.words.now) (g.S.Shelf.files c.args.shelf.now) (g.S.Shelf.failed c.args.shelf.now) (g.S.Shelf.failed c.answer_of.new.shelf))
    _ _ c.in-Ok.answer.status c.tell.result c.in-Ok.answer.text.items c.as_slice.result.now c.in-Ok.ensures.due
    c.as_slice.ensures.value c.tell.ensures.ok

pub returns-in-Ok-clause-part : goal.returns-in-Ok-clause-part
returns-in-Ok-clause-part g c = λ w.
    part_of (Due (texts c.args.words.now) (g.S.Shelf.files c.args.shelf.now) (g.S.Shelf.failed c.args.shelf.now) (g.S.Shelf.failed c.answer_of.new.shelf))
    _ _ c.in-Ok.answer.status c.in-Ok.answer.text.items c.as_slice.result.now c.in-Ok.ensures.due c.as_slice.ensures.value
    (c.tell.ensures.part w)

pub returns-in-Ok-clause-memory : goal.returns-in-Ok-clause-memory
returns-in-Ok-clause-memory g c =
    no_memory_told _ c.in-Ok.answer.status c.tell.result c.in-Ok.answer.told (λ w. (c.tell.ensures.ok w).0)

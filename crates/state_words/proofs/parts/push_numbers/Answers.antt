use Rattle.state_words.proofs.Left.{numbers_at_once}
use Rattle.state_words.proofs.parts.push_numbers.Goals as goal

pub returns : goal.returns
returns c =
    numbers_at_once c.args.out.now.items c.push.new.self.items c.extend_from_slice.new.self.items c.args.numbers.now
    c.in_ok-push.ensures.items c.in_ok-extend_from_slice.ensures.items

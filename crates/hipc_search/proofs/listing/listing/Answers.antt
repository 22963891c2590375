use Rattle.std.proofs.Common.{ap, ◌++◌, ◌∙◌, List, ℕ}
use Rattle.hipc_search.proofs.States.{last_added}
use Rattle.hipc_search.proofs.listing.listing.Goals as goal

pub returns : goal.returns
returns c =
    record {
      states = c.in_ok-text.text.items;
      are_states = c.in_ok-text.ensures;
      parts =
          last_added c.args.schedules.now c.in_ok-text.text.items c.args.start.now c.extend_from_slice.new.self.items _
          c.args.states c.in_ok-extend_from_slice.ensures.items
          (c.in_ok-extend_from_slice-2.ensures.items
          ∙ ap (λ (t : List ℕ). c.extend_from_slice.new.self.items ++ t) (c.as_slice.ensures.value ∙ c.in_ok-end.ensures));
    }

use Rattle.std.proofs.Common.{refl, length, ◌≤◌}
use Rattle.std.proofs.lemmas.List.{length-map}
use Rattle.phone_table.specs.Phones.{Row}
use Rattle.phone_table.proofs.Writes.{row_written, row_read}
use Rattle.phone_table.proofs.rows.PhoneRows.row_mut.Goals as goal

pub returns : goal.returns
returns c =
    let rows = c.self.inside.rows.items in
    let added : c.args.t.0 ≤ length rows = rw (← c.self.view_is, length-map) at c.requires.added in (
      (refl, λ w. rw (← c.self.view_is) (row_written rows _ w)),
      record {
        writes_back = tt;
        states = rw (← c.self.view_is) (row_read (λ (row : Row). row.states) rows c.args.t.0 c.index_mut.result.now c.requires.from_one added c.index_mut.ensures.value);
        counts = rw (← c.self.view_is) (row_read (λ (row : Row). row.counts) rows c.args.t.0 c.index_mut.result.now c.requires.from_one added c.index_mut.ensures.value);
      },
    )

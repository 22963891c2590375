-- What the phones of all tasks end as, where a `&mut` to those of one task is returned.
use Rattle.std.specs.Borrow.{Lends, Fml, MutBor}
use Rattle.ipc_ids.specs.declared.numbers.TaskNo.{TaskNo}
use Rattle.phone_table.specs.Phones.{Row, Rows, with_row}
use Rattle.phone_table.specs.contracts.rows.PhoneRows.{the_row}
use Rattle.phone_table.specs.contracts.phones.Phones as phones

abbrev pub lends_row : MutBor Rows → TaskNo → MutBor Row → Fml
lends_row s t r = Lends the_row phones.the_row s r (λ row. with_row s.now t.0 row)

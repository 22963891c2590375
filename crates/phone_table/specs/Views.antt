-- What a list of phones and a list of rows are seen as.
use Rattle.std.specs.Prelude.{ℕ, List, map}
use Rattle.ipc_ids.specs.declared.message.PhoneState.{PhoneState}
use Rattle.phone_table.specs.declared.phones.Phone.{Phone}
use Rattle.phone_table.specs.Phones.{Row, Rows}

abbrev pub states_of : List Phone → List PhoneState
states_of phones = map (λ (phone : Phone). phone.state) phones

abbrev pub counts_of : List Phone → List ℕ
counts_of phones = map (λ (phone : Phone). phone.count) phones

abbrev pub row_of : List Phone → Row
row_of phones = record { states = states_of phones; counts = counts_of phones }

abbrev pub rows_of : List Row → Rows
rows_of rows = record { states = map (λ (row : Row). row.states) rows; counts = map (λ (row : Row). row.counts) rows }

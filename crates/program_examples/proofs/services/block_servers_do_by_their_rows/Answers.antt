use Rattle.std.proofs.Common.{refl}
use Rattle.program_examples.proofs.services.block_servers_do_by_their_rows.Goals as goal

pub returns-clause-connections : goal.returns-clause-connections
returns-clause-connections c = record {
  new_client = refl;
  known_client = refl;
  least_free_slot = refl;
  no_slot = refl;
}

pub returns-clause-shares : goal.returns-clause-shares
returns-clause-shares c = record {
  taken = refl;
  taken_by_another = refl;
  of_two_pages = refl;
  to_be_read = refl;
  to_be_written = refl;
  of_nobody = refl;
}

pub returns-clause-transfers : goal.returns-clause-transfers
returns-clause-transfers c = record {
  read = refl;
  read_by_another = refl;
  read_last = refl;
  read_beyond = refl;
  read_between = refl;
  read_no_block = refl;
  read_no_block_between = refl;
  read_by_nobody = refl;
  write = refl;
  write_by_another = refl;
  write_last = refl;
  write_beyond = refl;
  write_between = refl;
  write_no_block = refl;
  write_no_block_between = refl;
  write_by_nobody = refl;
}

pub returns-clause-hangups : goal.returns-clause-hangups
returns-clause-hangups c = record {
  client_goes = refl;
  nobody_goes = refl;
  other_method = refl;
  other_method_of_nobody = refl;
}

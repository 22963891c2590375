use Rattle.std.proofs.Common.{refl}
use Rattle.program_examples.proofs.constants.codes_and_methods_are_numbers.Goals as goal

pub returns-clause-codes : goal.returns-clause-codes
returns-clause-codes c = record {
  eok_is = refl;
  enoent_is = refl;
  eperm_is = refl;
  eexist_is = refl;
  einval_is = refl;
  elimit_is = refl;
  ehangup_is = refl;
  eforward_is = refl;
  ebusy_is = refl;
  enomem_is = refl;
}

pub returns-clause-methods : goal.returns-clause-methods
returns-clause-methods c = record {
  phone_hungup = refl;
  connect_to_me = refl;
  connect_me_to = refl;
  data_write = refl;
  data_read = refl;
  share_out = refl;
  share_in = refl;
  first_user_method = refl;
  introduce_self_is = refl;
  leave_value_is = refl;
  wait_for_is = refl;
  read_block_is = refl;
  write_block_is = refl;
}

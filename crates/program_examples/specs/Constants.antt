-- The numbers behind the words of the services: laws and definitions share the words, and here stand the numbers.
use Rattle.std.specs.Prelude.{◌≡◌, ℕ, ◌+◌, ◌*◌, [], ◌∷◌, true, false}
use Rattle.ipc_ids.specs.declared.message.Outcome.TheVariants as got
use Rattle.ipc_ids.specs.Codes.{eok, enoent, eperm, eexist, einval, elimit, ehangup, eforward, ebusy, enomem}
use Rattle.ipc_ids.specs.Methods as methods
use Rattle.task_ends.specs.EndLaw.{introduce_self, leave_value, wait_for, end_arguments}
use Rattle.task_ends.specs.Ends.{no_end}
use Rattle.naming_service.specs.Naming.{no_phone}
use Rattle.block_server.specs.Blocks.{read_block, write_block, no_bytes, window, code_of}
use Rattle.program_examples.specs.Apart.{five, call_number, code, message, reply, label, block_of}

-- each code by its name
pub record CodesAreNumbers : Type 0 where
  pub eok_is : eok ≡ code 0
  pub enoent_is : enoent ≡ code 1
  pub eperm_is : eperm ≡ code 2
  pub eexist_is : eexist ≡ code 3
  pub einval_is : einval ≡ code 4
  pub elimit_is : elimit ≡ code 5
  pub ehangup_is : ehangup ≡ code 6
  pub eforward_is : eforward ≡ code 7
  pub ebusy_is : ebusy ≡ code 8
  pub enomem_is : enomem ≡ code 9

-- each method by its name
pub record MethodsAreNumbers : Type 0 where
  pub phone_hungup : methods.phone_hungup ≡ 0
  pub connect_to_me : methods.connect_to_me ≡ 1
  pub connect_me_to : methods.connect_me_to ≡ 2
  pub data_write : methods.data_write ≡ 3
  pub data_read : methods.data_read ≡ 4
  pub share_out : methods.share_out ≡ 5
  pub share_in : methods.share_in ≡ 6
  pub first_user_method : methods.first_user_method ≡ 512
  -- of the naming service, and of a block server
  pub introduce_self_is : introduce_self ≡ 512
  pub leave_value_is : leave_value ≡ 513
  pub wait_for_is : wait_for ≡ 514
  pub read_block_is : read_block ≡ 512
  pub write_block_is : write_block ≡ 513

-- what an answer tells of an end, with a value and without one
pub record EndsAreTold : Type 0 where
  pub with_value : (n : ℕ) → end_arguments (record { has = true; value = n }) ≡ five 1 n 0 0 0
  pub without : (n : ℕ) → end_arguments (record { has = false; value = n }) ≡ five 0 0 0 0 0
  pub none : no_end ≡ record { has = false; value = 0 }
  -- the number in place of a phone where there was none to give
  pub no_phone_is : no_phone ≡ 64

-- where windows begin, what a block has before it is written, and with which code an outcome is answered
pub record WindowsAreNumbers : Type 0 where
  pub first : window 0 ≡ 4096
  pub third : window 2 ≡ 12288
  pub last : window 15 ≡ 65536
  pub each : (slot : ℕ) → window slot ≡ 4096 * (slot + 1)
  pub bytes : no_bytes ≡ block_of 0
  pub refused : (n : ℕ) → code_of (got.Refused (code n)) ≡ code n
  pub done : code_of got.Done ≡ code 0
  pub accepted : code_of (got.Accepted (call_number 61)) ≡ code 0
  pub received : code_of (got.Received (call_number 61) (message 62 (five 71 72 73 74 75)) (label 81 82)) ≡ code 0
  pub answered : code_of (got.Answered (call_number 61) (reply 62 (five 71 72 73 74 75))) ≡ code 0
  pub empty : code_of got.Empty ≡ code 0
  pub peeked : code_of (got.Bytes (10 ∷ 255 ∷ [])) ≡ code 0

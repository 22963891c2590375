-- The bytes of the first lesson's script and schedule, and what they spell.
use Rattle.std.proofs.Common.{◌≡◌, [], ◌∷◌, Ok, None, false, codes, refl}
use Rattle.ipc_ids.specs.declared.message.Event.TheVariants.{Step}
use Rattle.ipc_ids.specs.declared.op.Value.TheVariants.{Number, Register}
use Rattle.ipc_ids.specs.declared.op.Op.TheVariants as op
use Rattle.script_lines.specs.declared.plan.Kind.TheVariants.{Raw}
use Rattle.script_lines.specs.Plan.{Plan}
use Rattle.script_lines.specs.Draft.{limit_at, stands_first, with_service, with_task, with_new, with_wire, present, takes_bodies, task_with_body, with_body, with_op}
use Rattle.script_reader.specs.Schedule.{event_verb_of, count_of, step_with, step_of, kill_of, hangup_of, with_events}
use Rattle.script_reader.specs.EventLine.{is_taken, spawn_place, after_event_line}
use Rattle.script_lines.specs.Line.{kind_of, counted_kind_of, service_kind_of, number_up_to, plain_task, counted_task, service_task, task_of, template_of, wire_of, ns, task, template, body, wire, operation, after_line}
use Rattle.script_lines.specs.Names.{task_named}
use Rattle.script_lines.specs.Operation.{arguments, two_and_arguments, call_op, answer_op, receive_op, forward_op, hangup_op, area_op, unarea_op, poke_op, peek_op, set_op, jump_op, two_and_place, jump_equal_op, jump_differ_op, slot_of, handle_of, session_of, call_slot_op, send_op, wait_op, next_op, yield_op, open_op, begin_op, end_op, close_op}
use Rattle.script_reader.specs.Reading.{reading}
use Rattle.ipc_ids.specs.Digits.{in_base}
use Rattle.script_lines.specs.Word.{verb_of, number, number_below, named, register_number, register, value, hex_digit, bytes_of, is_name, name_of, mode_of, exchange_mode_of}
use Rattle.script_reader.specs.Reading.{script_of, schedule_of}

-- a calls b over its phone 0 and receives; b receives and answers
abbrev pub plan : Plan
plan =
    record {
      tasks =
          record {
            name = codes "a";
            kind = Raw;
            limit = 64;
            bodies =
                record {
                  connection = false;
                  ops =
                      op.Call (Number 0) (Number 512) (Number 7 ∷ Number 0 ∷ Number 0 ∷ Number 0 ∷ Number 0 ∷ [])
                      ∷ op.Receive ∷ [];
                }
                ∷ [];
            blocks = 0;
            service = None;
          }
          ∷ record {
            name = codes "b";
            kind = Raw;
            limit = 64;
            bodies =
                record {
                  connection = false;
                  ops =
                      op.Receive
                      ∷ op.Answer (Register 2) (Number 0) (Number 8 ∷ Number 0 ∷ Number 0 ∷ Number 0 ∷ Number 0 ∷ [])
                      ∷ [];
                }
                ∷ [];
            blocks = 0;
            service = None;
          }
          ∷ [];
      wires = record { from = record { 0 = 1 }; phone = record { 0 = 0 }; to = record { 0 = 2 } } ∷ [];
      templates = [];
    }

pub script_is_read : script_of (codes "task a raw\ncall 0 512 7\nreceive\ntask b raw\nreceive\nanswer r2 EOK 8\nwire a 0 b\n") ≡ Ok plan
unfolding after_event_line after_line answer_op area_op arguments begin_op body bytes_of call_op call_slot_op close_op count_of counted_kind_of counted_task end_op event_verb_of exchange_mode_of forward_op handle_of hangup_of hangup_op stands_first hex_digit in_base is_name is_taken jump_differ_op jump_equal_op jump_op kill_of kind_of limit_at mode_of name_of named next_op ns number number_below number_up_to open_op operation peek_op plain_task poke_op present reading receive_op register register_number send_op service_kind_of service_task session_of set_op slot_of spawn_place step_of step_with takes_bodies task task_named task_of task_with_body template template_of two_and_arguments two_and_place unarea_op value verb_of wait_op wire wire_of with_body with_events with_new with_op with_service with_task with_wire yield_op
script_is_read = refl

pub schedule_is_read : schedule_of plan (codes "step a\nstep b x 2\nstep a\n")
    ≡ Ok (Step (record { 0 = 1 }) ∷ Step (record { 0 = 2 }) ∷ Step (record { 0 = 2 }) ∷ Step (record { 0 = 1 }) ∷ [])
unfolding after_event_line after_line answer_op area_op arguments begin_op body bytes_of call_op call_slot_op close_op count_of counted_kind_of counted_task end_op event_verb_of exchange_mode_of forward_op handle_of hangup_of hangup_op stands_first hex_digit in_base is_name is_taken jump_differ_op jump_equal_op jump_op kill_of kind_of limit_at mode_of name_of named next_op ns number number_below number_up_to open_op operation peek_op plain_task poke_op present reading receive_op register register_number send_op service_kind_of service_task session_of set_op slot_of spawn_place step_of step_with takes_bodies task task_named task_of task_with_body template template_of two_and_arguments two_and_place unarea_op value verb_of wait_op wire wire_of with_body with_events with_new with_op with_service with_task with_wire yield_op
schedule_is_read = refl

use Rattle.std.proofs.Common.{refl}
use Rattle.script_lines.specs.Draft.{limit_at, stands_first, with_service, with_task, with_new, with_wire, present, takes_bodies, task_with_body, with_body, with_op}
use Rattle.script_reader.specs.Schedule.{event_verb_of, count_of, step_with, step_of, kill_of, hangup_of, with_events}
use Rattle.script_reader.specs.EventLine.{is_taken, spawn_place, after_event_line}
use Rattle.script_lines.specs.Line.{kind_of, counted_kind_of, service_kind_of, number_up_to, plain_task, counted_task, service_task, task_of, template_of, wire_of, ns, task, template, body, wire, operation, after_line}
use Rattle.script_lines.specs.Names.{task_named}
use Rattle.script_lines.specs.Operation.{arguments, two_and_arguments, call_op, answer_op, receive_op, forward_op, hangup_op, area_op, unarea_op, poke_op, peek_op, set_op, jump_op, two_and_place, jump_equal_op, jump_differ_op, slot_of, handle_of, session_of, call_slot_op, send_op, wait_op, next_op, yield_op, open_op, begin_op, end_op, close_op}
use Rattle.script_reader.specs.Reading.{reading}
use Rattle.script_lines.specs.Word.{verb_of, number, number_below, named, register_number, register, value, hex_digit, bytes_of, is_name, name_of, mode_of, exchange_mode_of}
use Rattle.ipc_ids.specs.Digits.{in_base}
use Rattle.program_examples.proofs.faults.faults_have_the_reason_of_their_row.Goals as goal

pub returns-clause-scripts : goal.returns-clause-scripts
unfolding after_event_line after_line answer_op area_op arguments begin_op body bytes_of call_op call_slot_op close_op count_of counted_kind_of counted_task end_op event_verb_of exchange_mode_of forward_op handle_of hangup_of hangup_op stands_first hex_digit in_base is_name is_taken jump_differ_op jump_equal_op jump_op kill_of kind_of limit_at mode_of name_of named next_op ns number number_below number_up_to open_op operation peek_op plain_task poke_op present reading receive_op register register_number send_op service_kind_of service_task session_of set_op slot_of spawn_place step_of step_with takes_bodies task task_named task_of task_with_body template template_of two_and_arguments two_and_place unarea_op value verb_of wait_op wire wire_of with_body with_events with_new with_op with_service with_task with_wire yield_op
returns-clause-scripts c = record {
  bad_byte = refl;
  bad_byte_first = refl;
  unknown_operation = refl;
  out_of_place = refl;
  out_of_place_first = refl;
  wrong_count = refl;
  bad_word = refl;
  bad_word_before_unknown_name = refl;
  bad_word_before_name_taken = refl;
  unknown_name = refl;
  unknown_name_before_bad_phone = refl;
  name_taken = refl;
  name_of_the_service = refl;
  name_taken_before_too_many = refl;
  bad_phone = refl;
  wired_phone = refl;
  too_many = refl;
  too_many_tasks = refl;
}

pub returns-clause-schedules : goal.returns-clause-schedules
unfolding after_event_line after_line answer_op area_op arguments begin_op body bytes_of call_op call_slot_op close_op count_of counted_kind_of counted_task end_op event_verb_of exchange_mode_of forward_op handle_of hangup_of hangup_op stands_first hex_digit in_base is_name is_taken jump_differ_op jump_equal_op jump_op kill_of kind_of limit_at mode_of name_of named next_op ns number number_below number_up_to open_op operation peek_op plain_task poke_op present reading receive_op register register_number send_op service_kind_of service_task session_of set_op slot_of spawn_place step_of step_with takes_bodies task task_named task_of task_with_body template template_of two_and_arguments two_and_place unarea_op value verb_of wait_op wire wire_of with_body with_events with_new with_op with_service with_task with_wire yield_op
returns-clause-schedules c = record {
  bad_byte = refl;
  bad_byte_first = refl;
  unknown_operation = refl;
  wrong_count = refl;
  bad_word = refl;
  bad_word_before_unknown_name = refl;
  unknown_name = refl;
  unknown_name_before_name_taken = refl;
  unknown_name_before_too_many_events = refl;
  name_taken = refl;
  name_of_a_template = refl;
  name_taken_before_too_many = λ events. refl;
  too_many = λ events. refl;
  too_many_events = refl;
}

pub returns-clause-texts : goal.returns-clause-texts
returns-clause-texts c = record {
  too_long = refl;
  bad_byte = refl;
  unknown_operation = refl;
  out_of_place = refl;
  wrong_count = refl;
  bad_word = refl;
  unknown_name = refl;
  name_taken = refl;
  bad_phone = refl;
  too_many = refl;
  too_many_events = refl;
}

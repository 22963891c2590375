use Rattle.std.proofs.Common.{◌≡◌, ℕ, ◌+◌, ◌-◌, ◌≤◌, ◌<◌, true, length}
use Rattle.script_lines.specs.Names.{task_names}
use Rattle.script_reader.specs.EventLine.{is_taken}
use Rattle.search_goals.specs.Writing.{made_name}
use Rattle.search_goals.proofs.names.next_name.Given as goal

-- the names of all numbers before this one are taken
abbrev pub invariant-loop-alloc : goal.invariant-loop-alloc
invariant-loop-alloc l =
    record {
      name : l.name.items ≡ made_name l.number;
      first : length l.names + 1 ≤ l.number;
      known : length l.names ≤ 64;
      few : l.number ≤ 194;
      taken : (k : ℕ) → length l.names + 1 ≤ k → k < l.number → is_taken (task_names l.templates) l.names (made_name k) ≡ true;
    }

abbrev pub decreases-loop-alloc : goal.decreases-loop-alloc
decreases-loop-alloc l = 300 - l.number

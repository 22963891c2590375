use Rattle.std.proofs.Common.{sym, ap, ◌∙◌, ◌∷◌, arith}
use Rattle.script_lines.specs.Names.{task_names}
use Rattle.script_lines.specs.Text.{texts, lines, first_line}
use Rattle.script_lines.proofs.Lines.{here, lines_of, lines_cut, less_left}
use Rattle.script_reader.specs.EventLine.{no_events}
use Rattle.hipc_search.proofs.Knowing.{one_less, none_left}
use Rattle.hipc_search.proofs.known.names_behind.Goals as goal

pub loop-left-init : goal.loop-left-init
loop-left-init c = λ made e.
    record { from_here = 1; before = no_events c.args.script.now; known = sym c.in_ok-names.ensures; leads = e }

pub loop-left-smaller : goal.loop-left-smaller
loop-left-smaller c =
    rw c.in-Some.is (omega (arith, less_left c.in-Some.text.now (here c.in_ok-others.others) c.in_ok-others.ensures.behind))

pub loop-left-preserved : goal.loop-left-preserved
loop-left-preserved c = λ made e.
    let text = c.in-Some.text.now in
    let left = rw c.in-Some.is at c.loop-left.invariant in
    one_less (task_names c.args.script.now.templates) c.loop-left.names c.push_made.new.names (lines text) (first_line text)
    (lines_of (here c.in_ok-others.others)) c.in_ok-others.field-0-0 (texts c.as_slice.result.now) made
    (lines_cut text ∙ ap (λ o. first_line text ∷ lines_of o) (sym c.in_ok-others.ensures.behind))
    c.in_ok-others.ensures.allowed
    (λ allowed. ap texts c.as_slice.ensures.value ∙ c.in_ok-others.ensures.words allowed)
    (c.in_ok-push_made.ensures (task_names c.args.script.now.templates)) (left made e)

pub returns : goal.returns
returns c = λ made e.
    none_left (task_names c.args.script.now.templates) c.loop-left.names (lines_of (here c.loop-left.left)) made
    (ap (λ o. lines_of (here o)) c.in_default.is) (c.loop-left.invariant made e)

use Rattle.std.proofs.Common.{rules, ◌≤◌, ◌<◌, ◌∙◌, length, arith}
use Rattle.search_goals.specs.LineShapes.{is_of_kind}
use Rattle.search_goals.proofs.Letters.{by_letter, no_letter, no_byte}
use Rattle.search_goals.proofs.line_shapes.is_of_kind.Goals.{in_default-via-then-kind-lt1, in_default-via-else-kind-lt1+then-kind-lt2+in_default-1, in_default-via-else-kind-lt1+else-kind-lt2}
use Rattle.search_goals.proofs.line_shapes.is_of_kind.Goals as goal

pub returns-in_default : goal.returns-in_default
returns-in_default c =
    let kind = c.args.kind.now in
    c.is_word.ensures
    ∙ elim c.in_default.branch [
      | in_default-via-then-kind-lt1 w ↦
          let few : length kind < 1 = search rules in
          no_byte kind c.args.word.now (λ one. omega (arith, few, one))
      | in_default-via-else-kind-lt1+then-kind-lt2+in_default-1 w ↦
          no_letter kind c.args.word.now (λ one. search rules) (λ one. search rules) (λ one. search rules)
          (λ one. search rules) (λ one. search rules) (λ one. search rules)
      | in_default-via-else-kind-lt1+else-kind-lt2 w ↦
          let many : 2 ≤ length kind = search rules in
          no_byte kind c.args.word.now (λ one. omega (arith, many, one))
    ]

pub returns-in-N : goal.returns-in-N
unfolding is_of_kind
returns-in-N c =
    let some : 1 ≤ length c.args.kind.now = search rules in
    let few : length c.args.kind.now < 2 = search rules in
    c.is_number.ensures ∙ by_letter c.args.kind.now c.args.word.now 78 (omega (arith, some, few)) (search rules)

pub returns-in-T : goal.returns-in-T
unfolding is_of_kind
returns-in-T c =
    let some : 1 ≤ length c.args.kind.now = search rules in
    let few : length c.args.kind.now < 2 = search rules in
    c.is_task.ensures ∙ by_letter c.args.kind.now c.args.word.now 84 (omega (arith, some, few)) (search rules)

pub returns-in-P : goal.returns-in-P
unfolding is_of_kind
returns-in-P c =
    let some : 1 ≤ length c.args.kind.now = search rules in
    let few : length c.args.kind.now < 2 = search rules in
    c.is_numbered.ensures ∙ by_letter c.args.kind.now c.args.word.now 80 (omega (arith, some, few)) (search rules)

pub returns-in-F : goal.returns-in-F
unfolding is_of_kind
returns-in-F c =
    let some : 1 ≤ length c.args.kind.now = search rules in
    let few : length c.args.kind.now < 2 = search rules in
    c.is_numbered-in-F.ensures ∙ by_letter c.args.kind.now c.args.word.now 70 (omega (arith, some, few)) (search rules)

pub returns-in-C : goal.returns-in-C
unfolding is_of_kind
returns-in-C c =
    let some : 1 ≤ length c.args.kind.now = search rules in
    let few : length c.args.kind.now < 2 = search rules in
    c.is_code.ensures ∙ by_letter c.args.kind.now c.args.word.now 67 (omega (arith, some, few)) (search rules)

pub returns-in-B : goal.returns-in-B
unfolding is_of_kind
returns-in-B c =
    let some : 1 ≤ length c.args.kind.now = search rules in
    let few : length c.args.kind.now < 2 = search rules in
    by_letter c.args.kind.now c.args.word.now 66 (omega (arith, some, few)) (search rules)

use Rattle.std.proofs.Common.{rules, ◌∙◌, length, arith}
use Rattle.fn_parse.proofs.Cuts.{ahead_on, lacks, stripped}
use Rattle.fn_parse.proofs.Walked.{delimiter_on}
use Rattle.fn_parse.proofs.parse_key_value.next_start.Goals as goal

pub loop-behind-preserved : goal.loop-behind-preserved
loop-behind-preserved c =
    let f = c.args.field_delimiter.now in
    let left = c.loop-behind.left.now in
    let behind = c.in-Some.behind.now in
    let cut = stripped f left behind c.in-Some.ensures.cases in
    let long = c.in-Some.ensures.cases.3 in
    let within = c.loop-behind.invariant.2 in (
      search rules,
      (λ k ms. c.loop-behind.invariant.1 k ms ∙ delimiter_on k f left behind ms c.requires cut.0 cut.1),
      omega (arith, long, within),
      (λ d n known. ahead_on d left behind (length f) n cut.1 (c.loop-behind.invariant.3 d n known)),
    )

pub returns-clause-starts : goal.returns-clause-starts
returns-clause-starts c = lacks c.args.field_delimiter.now c.loop-behind.left.now c.in_default.ensures.cases

use Rattle.std.proofs.Common.{Some, None, arith}
use Rattle.std.proofs.lemmas.Str.Pattern.{split_parts}
use Rattle.vrl_pattern.proofs.Openings.{name_parts, name_whole}
use Rattle.vrl_pattern.proofs.groups.split_name.Goals as goal

pub returns-in-Some-clause-rest : goal.returns-in-Some-clause-rest
returns-in-Some-clause-rest c =
    let parts = split_parts 0x3E c.args.named.now (Some c.in-Some.cut) c.in-Some.ensures.cases (omega arith) in
    name_parts c.args.named.now c.in-Some.cut.0.now c.in-Some.cut.1.now parts.0 parts.1

pub returns-in-None-clause-rest : goal.returns-in-None-clause-rest
returns-in-None-clause-rest c = name_whole c.args.named.now (split_parts 0x3E c.args.named.now None c.in-None.ensures.cases (omega arith))

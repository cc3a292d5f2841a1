-- What the checker holds behind a part, taken as a judgement, with the codes, the tags and the
-- closures that were gathered in it.
use Rattle.std.specs.Prelude.{List, Option}
use Rattle.vrl_value.specs.declared.value.Tag.{Tag}
use Rattle.vrl_diag.specs.declared.diagnostic.Diagnostic.{Diagnostic}
use Rattle.vrl_judge.specs.Returns.{return_kind, return_state}
use Rattle.vrl_judge.specs.Rules.{Judgement, Loop}
use Rattle.vrl_judge.specs.Judging.{known_on}
use Rattle.vrl_judge.specs.declared.checker.Checker.{Checker}
use Rattle.vrl_judge.specs.declared.finding.Finding.{Finding}

-- the part that was judged last
abbrev pub seen : Finding → Checker → List Diagnostic → List Tag → List (Option Loop) → Judgement
seen finding after codes tags loops = record {
  kind = finding.kind;
  ok = after.state.known;
  fail = known_on finding.ends.fail;
  ret = return_state finding.ends.ret;
  returned = return_kind finding.ends.ret;
  poisoned = finding.ends.poisoned;
  codes = codes;
  empties = tags;
  loops = loops;
}

use Rattle.std.proofs.Common.{ap, ◌∙◌}
use Rattle.vrl_judge.specs.Closures.{is_possible}
use Rattle.vrl_check.proofs.iteration.name_kinds.Goals as goal

pub returns : goal.returns
returns c = record {
  key = c.in_ok-key.key;
  value = c.in_ok-value.value;
  key_kind = c.in_ok-key.ensures.kind;
  value_kind = c.in_ok-value.ensures.kind;
  key_root = c.in_ok-key.ensures.root;
  value_root = c.in_ok-value.ensures.root;
  names = c.in_ok-kinds.ensures;
  possible = c.is_possible-runs.ensures ∙ ap is_possible c.as_kind.ensures;
}

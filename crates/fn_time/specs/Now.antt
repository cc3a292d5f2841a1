-- `now`: the moment of the line.
use Rattle.std.specs.Prelude.{false, [], codes}
use Rattle.vrl_value.specs.Tree.{timestamp}
use Rattle.vrl_value.specs.declared.value.Tag.TheVariants.{Time}
use Rattle.vrl_builtin.specs.OneTag.{OneTagRow}
use Rattle.vrl_builtin.specs.Rows.{value}

abbrev pub now_row : OneTagRow
now_row = record {
  name = codes "now";
  parameters = [];
  tag = Time;
  may_fail = λ givens. false;
  means = λ arguments setting. value (timestamp setting.moment);
}

-- What a function gives is never absent. Of most rows that is computed; of the others their laws show it for whatever is given for their parameters.
use Rattle.std.proofs.Common.{false, refl}
use Rattle.vrl_value.specs.declared.value.Tag.TheVariants as tag
use Rattle.vrl_builtin.specs.Rows.{boolean_or, kind_at, literal_at, regex_given}
use Rattle.fn_list.specs.AppendLaw.{append_present}
use Rattle.fn_list.specs.PushLaw.{push_present}
use Rattle.fn_object.specs.Merge.{is_shallow}
use Rattle.fn_object.specs.MergeLaw.{merge_present}
use Rattle.fn_search.specs.ParseRegex.{names_given}
use Rattle.fn_search.specs.ParseRegexLaw.{fields_present}
use Rattle.fn_string.specs.SliceLaw.{slice_present}
use Rattle.fn_type.specs.Laws.{only_present}
use Rattle.vrl_table.specs.Table.{row_of, ResultsArePresent}
use Rattle.vrl_table.specs.declared.function.Fun.TheVariants as fun

pub results_present : ResultsArePresent
unfolding row_of
results_present fun.Append givens sources = append_present (kind_at 0 givens) (kind_at 1 givens)
results_present fun.Array givens sources = only_present tag.List (kind_at 0 givens)
results_present fun.Bool givens sources = only_present tag.Bool (kind_at 0 givens)
results_present fun.Int givens sources = only_present tag.Int (kind_at 0 givens)
results_present fun.Merge givens sources = merge_present (is_shallow (kind_at 2 givens) (literal_at 2 givens)) (kind_at 0 givens) (kind_at 1 givens)
results_present fun.Object givens sources = only_present tag.Object (kind_at 0 givens)
results_present fun.ParseRegex givens sources = fields_present (names_given sources (regex_given (literal_at 1 givens))) (boolean_or false (literal_at 2 givens))
results_present fun.Push givens sources = push_present (kind_at 0 givens) (kind_at 1 givens)
results_present fun.Slice givens sources = slice_present (kind_at 0 givens)
results_present fun.StringValue givens sources = only_present tag.Text (kind_at 0 givens)
results_present fun.Timestamp givens sources = only_present tag.Time (kind_at 0 givens)
results_present function givens sources = refl

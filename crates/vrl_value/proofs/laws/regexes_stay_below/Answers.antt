use Rattle.vrl_value.proofs.Below.{below_more, below_put, below_replace, below_without, below_put_item, below_replace_item, below_without_item, below_find, below_item, below_found, below_told}
use Rattle.vrl_value.proofs.laws.regexes_stay_below.Goals as goal

pub returns : goal.returns
returns c = record {
  below_more = below_more;
  below_put = below_put;
  below_replace = below_replace;
  below_without = below_without;
  below_put_item = below_put_item;
  below_replace_item = below_replace_item;
  below_without_item = below_without_item;
  below_find = below_find;
  below_item = below_item;
  below_found = below_found;
  below_told = below_told;
}

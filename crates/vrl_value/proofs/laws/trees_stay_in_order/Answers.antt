use Rattle.vrl_value.proofs.Order.{put_ordered, replace_ordered, without_ordered, put_item_ordered, replace_item_ordered, without_item_ordered, find_ordered, item_ordered, found_ordered}
use Rattle.vrl_value.proofs.laws.trees_stay_in_order.Goals as goal

pub returns : goal.returns
returns c = record {
  ordered_put = put_ordered;
  ordered_replace = replace_ordered;
  ordered_without = without_ordered;
  ordered_put_item = put_item_ordered;
  ordered_replace_item = replace_item_ordered;
  ordered_without_item = without_item_ordered;
  ordered_find = find_ordered;
  ordered_item = item_ordered;
  ordered_found = found_ordered;
}

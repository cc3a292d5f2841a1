use Rattle.vrl_value.proofs.Listed.{item_at-put, item_at-put_before, item_at-put_behind, item_at-replace, item_at-replace_other, item_at-without_before, item_at-without_behind, without_item-none, same_items}
use Rattle.vrl_value.proofs.laws.items_are_lists.Goals as goal

pub returns : goal.returns
returns c = record {
  item_put = item_at-put;
  item_put_before = item_at-put_before;
  item_put_behind = item_at-put_behind;
  item_replace = item_at-replace;
  item_replace_other = item_at-replace_other;
  item_without_before = item_at-without_before;
  item_without_behind = item_at-without_behind;
  item_without_none = without_item-none;
  one_list = same_items;
}

use Rattle.vrl_value.proofs.Members.{find-put, find-put_other, find-replace, find-replace_other, find-without, find-without_other, without-none}
use Rattle.vrl_value.proofs.OneTree.{same_members}
use Rattle.vrl_value.proofs.laws.members_are_maps.Goals as goal

pub returns : goal.returns
returns c = record {
  find_put = find-put;
  find_put_other = find-put_other;
  find_replace = find-replace;
  find_replace_other = find-replace_other;
  find_without = find-without;
  find_without_other = find-without_other;
  without_none = without-none;
  one_map = same_members;
}

use Rattle.vrl_token.proofs.Nestings.{nestings_more}
use Rattle.vrl_token.proofs.nesting.Progress.add.Goals as goal

pub returns : goal.returns
returns c all before counted progress = record {
  nestings_are = nestings_more all before _ _ _ _ _ counted progress.nestings_are c.nesting_behind-nesting.ensures c.in_ok-add.ensures;
  last_is = c.own_nesting-self.ensures;
  is_before = c.in_ok-add-2.ensures before progress.is_before;
}

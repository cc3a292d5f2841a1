use Rattle.std.proofs.Common.{subst}
use Rattle.vrl_token.specs.Brackets.{open_behind, opened, with_bracket}
use Rattle.vrl_token.specs.Telling.{IsOpen}
use Rattle.vrl_token.proofs.before.Before.add.Goals as goal

pub returns : goal.returns
returns c = λ before is.
    let around = open_behind before in
    let now = c.add_bracket.new.self in
    let by_token : IsOpen (with_bracket (opened c.args.token.now before) c.is_closing.result around) now =
    subst (λ o. IsOpen (with_bracket o c.is_closing.result around) now) (c.opened.ensures before is.last_is) (c.in_ok-add_bracket.ensures.brackets around is.is_open) in
    let open_now = subst (λ ends. IsOpen (with_bracket (opened c.args.token.now before) ends around) now) c.is_closing.ensures by_token in
    record {
      is_open = record { brackets_are = open_now.brackets_are; bars_are = open_now.bars_are; bodies_are = open_now.bodies_are };
      last_is = c.of-self.ensures;
    }

use Rattle.std.proofs.Common.{[], refl}
use Rattle.vrl_token.specs.Faults.{unclosed_raw}
use Rattle.vrl_token.proofs.literals.cut_raw.Goals as goal

pub returns-in_default : goal.returns-in_default
returns-in_default c = λ before left. record { rest = []; is_fault = unclosed_raw c.args.letter c.args.behind.now c.requires refl c.in_default.ensures refl refl; length_is = refl }

pub returns : goal.returns
returns c = λ before left.
    let cut = c.in-Some.ensures in
    c.cut_value.ensures before _ cut.characters (record { behind = c.args.behind.now; parts = refl; is_quoted = cut.is_quoted }) (c.in_ok-raw.ensures cut.characters (record { inside = cut.is_quoted.inside; spelled = cut.spelled })) left

use Rattle.std.proofs.Common.{[], refl}
use Rattle.vrl_token.specs.Faults.{unclosed_text}
use Rattle.vrl_token.specs.Quoted.{IsInner}
use Rattle.vrl_token.proofs.Parted.{text_begins}
use Rattle.vrl_token.proofs.Tested.{weaker}
use Rattle.vrl_token.proofs.literals.cut_text.Goals as goal

pub returns-in_default : goal.returns-in_default
returns-in_default c = λ before. record { rest = []; is_fault = unclosed_text c.args.behind.now refl c.in_default.ensures refl refl; length_is = refl }

pub returns-in-Some-2 : goal.returns-in-Some-2
returns-in-Some-2 c = λ before.
    let cut = c.in-Some.ensures in
    let inner : IsInner 34 c.in-Some.inner.now cut.characters = record { inside = cut.is_quoted.inside; spelled = cut.spelled } in
    let read = (rw c.in-Some-2.is at c.in_ok-found.ensures) cut.characters inner in
    rw c.token.ensures (text_begins before c.in-Some-2.found _ _ read.1 (record { behind = c.args.behind.now; parts = refl; is_quoted = cut.is_quoted }) read.0)

pub returns-in_ok-unescaped-in-None : goal.returns-in_ok-unescaped-in-None
returns-in_ok-unescaped-in-None c = λ before.
    let cut = c.in-Some.ensures in
    let inner : IsInner 34 c.in-Some.inner.now cut.characters = record { inside = cut.is_quoted.inside; spelled = cut.spelled } in
    c.text_fault.ensures before _ cut.characters (record { behind = c.args.behind.now; parts = refl; is_quoted = cut.is_quoted }) ((rw c.in-None.is at c.in_ok-found.ensures) cut.characters inner)
    (weaker c.in_ok-unescaped-in-None.field-0 (λ none. none cut.characters inner) (λ text says. says cut.characters inner) c.in_ok-unescaped-in-None.ensures)

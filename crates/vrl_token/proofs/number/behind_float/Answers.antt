use Rattle.std.proofs.Common.{inl}
use Rattle.vrl_token.proofs.Tested.{weaker}
use Rattle.vrl_token.proofs.Floats.{no_float}
use Rattle.vrl_token.proofs.number.behind_float.Goals as goal

pub returns-in-None : goal.returns-in-None
returns-in-None c = weaker c.behind_exponent-in-None.result (no_float c.in-None.ensures) (λ rest h. inl h) c.behind_exponent-in-None.ensures

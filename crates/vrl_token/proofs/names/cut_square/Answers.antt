use Rattle.vrl_token.proofs.names.cut_square.Goals as goal

pub returns-in-Some : goal.returns-in-Some
returns-in-Some c = λ before is. (rw c.in-Some.is at c.in_ok-suffix.ensures) before is

pub returns-in-None : goal.returns-in-None
returns-in-None c = λ before is. (c.requires, (rw c.in-None.is at c.in_ok-suffix.ensures) before is)

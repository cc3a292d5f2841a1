use Rattle.vrl_pattern.proofs.building.Building.add.Goals as goal

pub returns-in_ok-push-in-Some-clause-regexes : goal.returns-in_ok-push-in-Some-clause-regexes
returns-in_ok-push-in-Some-clause-regexes c = λ formed. (c.in-Some.regex, c.in_ok-push-in-Some.ensures.items, (rw c.in-Some.is at c.in_ok-regex.ensures).1)

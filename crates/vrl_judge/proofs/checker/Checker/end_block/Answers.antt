use Rattle.std.proofs.Common.{◌≡◌, ◌∷◌, [], ◌∙◌, refl, sym}
use Rattle.std.proofs.lemmas.Result.{IfOk-weaker}
use Rattle.vrl_judge.proofs.Forms.{block_ended}
use Rattle.vrl_judge.proofs.checker.Checker.end_block.Goals as goal

pub leave-requires : goal.leave-requires
leave-requires c = λ none. let lists : c.requires.scope ∷ c.requires.scopes ≡ [] = sym c.requires.opened ∙ none in cc

pub leave-requires-2 : goal.leave-requires-2
leave-requires-2 c = (c.requires.scope, c.requires.scopes, c.requires.ends)

pub returns : goal.returns
returns c =
    IfOk-weaker c.settled.result _ _
    (λ finding settles. block_ended c.args.self.now _ c.args.part finding c.leave-2.new.self c.in_ok-leave.ensures.left refl refl refl refl refl c.in_ok-leave-2.ensures settles)
    c.settled.ensures

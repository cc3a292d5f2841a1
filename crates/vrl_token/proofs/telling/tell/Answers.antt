use Rattle.std.proofs.Common.{◌∙◌, sym}
use Rattle.vrl_token.proofs.Told.{told_more, told_skip}
use Rattle.vrl_token.proofs.telling.tell.Goals as goal

pub loop-lexeme-preserved : goal.loop-lexeme-preserved
loop-lexeme-preserved c =
    told_skip c.in-Some.field-0 c.loop-lexeme.invariant c.in-Some.ensures.items (λ names behind before ahead. sym c.in_default-token_of.is ∙ c.token_of.ensures names behind before ahead)

pub loop-lexeme-preserved-in-Continue-branch-3 : goal.loop-lexeme-preserved-in-Continue-branch-3
loop-lexeme-preserved-in-Continue-branch-3 c =
    told_more c.in-Some.field-0 c.in-Some-token_of.token c.loop-lexeme.invariant c.in-Some.ensures.items
    (λ names behind before ahead. sym c.in-Some-token_of.is ∙ c.token_of.ensures names behind before ahead) c.in_ok-add.ensures c.in_ok-push.ensures.items

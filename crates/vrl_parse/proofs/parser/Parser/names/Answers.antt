use Rattle.std.proofs.Common.{ap, sym, ◌++◌, ◌∷◌, [], ◌∙◌, arith}
use Rattle.std.proofs.lemmas.List.{append-nil}
use Rattle.vrl_parse.specs.Descent.{gone, not_gone, ran, taken}
use Rattle.vrl_parse.proofs.Walks.{leave, missed, passed}
use Rattle.vrl_parse.proofs.Loops.{leads-end, leads-more, names-begin, names-more}
use Rattle.vrl_parse.proofs.parser.Parser.names.Goals as goal

pub returns-in_err-first-clause-refuses : goal.returns-in_err-first-clause-refuses
returns-in_err-first-clause-refuses c = leave c.from_residual.result _ _ _ c.from_residual.ensures c.in_err-first.ensures.refuses missed

pub loop-self-init : goal.loop-self-init
loop-self-init c = record {
  leads = names-begin c.in_ok-first.ensures.takes (c.in_ok-push.ensures.items ∙ ap (λ l. l ++ c.in_ok-first.first ∷ []) c.new-names.ensures.items);
  shorter = c.in_ok-first.ensures.shorter;
}

pub returns-in_err-next-clause-refuses : goal.returns-in_err-next-clause-refuses
returns-in_err-next-clause-refuses c = leave c.from_residual-in_err-next.result _ _ _ c.from_residual-in_err-next.ensures c.in_err-next.ensures.refuses (λ h. c.loop-self.invariant.leads.refuses _ (taken c.in-Some.ensures.takes (missed h)))

pub loop-self-preserved : goal.loop-self-preserved
loop-self-preserved c = record {
  leads = leads-more (λ ns. c.in_ok-next.next ∷ ns) _ c.loop-self.invariant.leads
      (names-more _ _ c.in_ok-push-2.ensures.items)
      (λ ns vs run. taken c.in-Some.ensures.takes (taken c.in_ok-next.ensures.takes (gone run ran)))
      (λ vs run. taken c.in-Some.ensures.takes (taken c.in_ok-next.ensures.takes (not_gone run)));
  shorter = omega (arith, c.in-Some.ensures.shorter, c.in_ok-next.ensures.shorter, c.loop-self.invariant.shorter);
}

pub returns-clause-takes : goal.returns-clause-takes
returns-clause-takes c = leads-end [] c.loop-self.invariant.leads (c.new.ensures ∙ sym (append-nil _)) (passed c.in_default.ensures.lacks c.in_default.ensures.stays ran)

use Rattle.std.proofs.Common.{◌≡◌, ◌∙◌, ap, refl, sym, false, true, is_some, rules, Some}
use Rattle.std.proofs.lemmas.Result.{IfOk-weaker}
use Rattle.vrl_syntax.specs.Calls.{is_del, is_del_form, is_exists, is_exists_form}
use Rattle.vrl_syntax.specs.declared.call_form.CallForm.TheVariants as form
use Rattle.vrl_syntax.specs.declared.tree.Call.{out-Call}
use Rattle.vrl_resolve.specs.Linking.{names_in}
use Rattle.vrl_resolve.proofs.Begins.{begins_itself}
use Rattle.vrl_resolve.proofs.ClosureCalls.{nothing_run}
use Rattle.vrl_resolve.proofs.LinkedCalls.{deletion_called, existence_called}
use Rattle.vrl_resolve.proofs.Links.{numbers_weaker}
use Rattle.vrl_resolve.proofs.link.Linker.callee.Goals as goal

pub returns-then-is_some : goal.returns-then-is_some
returns-then-is_some c =
    let some : is_some (out-Call c.args.call.now).closure ≡ true = sym c.is_some.ensures ∙ c.if-is_some.true in
    record {
      grows = begins_itself (names_in c.args.self.now);
      tags = refl;
      so = λ names begins. nothing_run names c.args.call.now some (c.requires names begins);
    }

pub returns-in-Some-Del : goal.returns-in-Some-Del
returns-in-Some-Del c =
    let call = c.args.call.now in
    let none : is_some (out-Call call).closure ≡ false = sym c.is_some.ensures ∙ c.if-is_some.false in
    let is : c.named.result ≡ Some form.Del = search rules in
    let named : is_del (out-Call call).name ≡ true = ap is_del (sym c.as_str-name.ensures) ∙ sym c.named.ensures.deletion ∙ ap is_del_form is in
    IfOk-weaker c.deletion.result _ _ (λ callee one. numbers_weaker (λ names told. deletion_called names call callee none named told) one) c.deletion.ensures

pub returns-in-Some-Exists : goal.returns-in-Some-Exists
returns-in-Some-Exists c =
    let call = c.args.call.now in
    let none : is_some (out-Call call).closure ≡ false = sym c.is_some.ensures ∙ c.if-is_some.false in
    let is : c.named.result ≡ Some form.Exists = search rules in
    let other : is_del (out-Call call).name ≡ false = ap is_del (sym c.as_str-name.ensures) ∙ sym c.named.ensures.deletion ∙ ap is_del_form is in
    let named : is_exists (out-Call call).name ≡ true = ap is_exists (sym c.as_str-name.ensures) ∙ sym c.named.ensures.existence ∙ ap is_exists_form is in
    IfOk-weaker c.existence.result _ _ (λ callee one. numbers_weaker (λ names told. existence_called names call callee none other named told) one) c.existence.ensures

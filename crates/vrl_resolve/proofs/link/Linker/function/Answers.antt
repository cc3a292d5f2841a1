use Rattle.std.proofs.Common.{◌≡◌, Some, None, refl, rules, subst}
use Rattle.std.proofs.lemmas.Result.{IfOk-weaker}
use Rattle.vrl_syntax.specs.View.{args_of}
use Rattle.vrl_syntax.specs.declared.tree.Call.{out-Call}
use Rattle.vrl_syntax.specs.declared.tree.Closure.{out-Closure}
use Rattle.vrl_resolve.specs.Linking.{names_in, IsLoopBy}
use Rattle.vrl_resolve.proofs.Begins.{begins_itself}
use Rattle.vrl_resolve.proofs.ClosureCalls.{loop_seen, no_loop}
use Rattle.vrl_resolve.proofs.Links.{numbers_weaker}
use Rattle.vrl_resolve.proofs.link.Linker.function.Goals as goal

pub returns-in-Some : goal.returns-in-Some
returns-in-Some c =
    let call = c.args.call.now in
    let k = c.in-Some.closure in
    let is : (out-Call call).closure ≡ Some k = search rules in
    IfOk-weaker c.function_of.result _ _
    (λ function one. numbers_weaker (λ names told. loop_seen names call k function is (subst (λ name. IsLoopBy names name (out-Closure k).names (args_of (out-Call call).args) function) c.as_str.ensures told)) one)
    c.function_of.ensures

pub returns-in-None : goal.returns-in-None
returns-in-None c =
    let call = c.args.call.now in
    let is : (out-Call call).closure ≡ None = search rules in
    record { grows = begins_itself (names_in c.args.self.now); tags = refl; so = λ names begins. no_loop names call is }

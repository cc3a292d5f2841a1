use Rattle.std.proofs.Common.{inr, refl, rules}
use Rattle.vrl_io.specs.declared.fault.LoadFault.TheVariants as LoadFault
use Rattle.remap_words.specs.View.{texts}
use Rattle.remap_words.specs.Words.{words_mean}
use Rattle.remap_call.specs.Loading.{IsUnready}
use Rattle.remap_call.proofs.Calls.{complete_of, failed_call, ready_call, refused_unasked, wanting_call}
use Rattle.remap_call.proofs.call.remap.Goals as goal

pub returns-in-Err-Failed-clause-call : goal.returns-in-Err-Failed-clause-call
returns-in-Err-Failed-clause-call g c =
    let unready : IsUnready (g.F.Store.held c.args.files.now) (words_mean (texts c.args.words.now)) (g.F.Store.failures c.args.files.now) (g.F.Store.failures c.ask.new.files) LoadFault.Failed = search rules in
    failed_call c.laws.ensures c.accepted_run_soundly.ensures _ _ _ _ _ _ (refl, refl) unready

pub returns-in-Err-Memory-clause-call : goal.returns-in-Err-Memory-clause-call
returns-in-Err-Memory-clause-call g c =
    let unready : IsUnready (g.F.Store.held c.args.files.now) (words_mean (texts c.args.words.now)) (g.F.Store.failures c.args.files.now) (g.F.Store.failures c.ask.new.files) LoadFault.Memory = search rules in
    wanting_call c.laws.ensures c.accepted_run_soundly.ensures _ _ _ _ _ _ (refl, refl) unready

pub returns-clause-call : goal.returns-clause-call
returns-clause-call g c = ready_call c.laws.ensures c.accepted_run_soundly.ensures _ _ _ _ _ _ _ _ _ c.in-Ok.ensures.ready c.answer.ensures

pub returns-clause-unread : goal.returns-clause-unread
returns-clause-unread g c refused = refused_unasked (returns-clause-call g c) refused

pub returns-clause-read_fault : goal.returns-clause-read_fault
returns-clause-read_fault g c fault = inr (c.answer.ensures.causes.read fault)

pub returns-clause-complete : goal.returns-clause-complete
returns-clause-complete g c loaded unread unwritten unreported =
    complete_of c.answer.result c.answer.ensures.causes.read c.answer.ensures.causes.write unread unwritten unreported

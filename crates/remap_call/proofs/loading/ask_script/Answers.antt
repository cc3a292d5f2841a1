use Rattle.std.proofs.Common.{◌≡◌, None, refl, rules}
use Rattle.vrl_token.specs.Reading.{IsNoScript}
use Rattle.remap_words.specs.View.{invocation_of}
use Rattle.remap_call.proofs.Loads.{kind_unloaded, ready_no_text, ready_text, told_file, wanting}
use Rattle.remap_call.proofs.loading.ask_script.Goals as goal

pub returns-in-Ok-clause-ready : goal.returns-in-Ok-clause-ready
returns-in-Ok-clause-ready g c =
    let none : IsNoScript c.args.script = search rules in
    let file = told_file (g.F.Store.held c.args.files.now) (invocation_of c.args.invocation.now).kind in
    let needless : ¬ IsNoScript c.args.script → file ≡ None = λ is_text. absurd (is_text none) in
    ready_no_text _ (invocation_of c.args.invocation.now) c.args.script _ _ c.requires.loaded none (c.in-Ok.ensures.asks file needless)

pub returns-in-Err-clause-unready : goal.returns-in-Err-clause-unready
returns-in-Err-clause-unready g c = wanting _ _ _ _ refl

pub returns-in-Err-load_kind-clause-unready : goal.returns-in-Err-load_kind-clause-unready
returns-in-Err-load_kind-clause-unready g c =
    let is_text : ¬ IsNoScript c.args.script = search rules in
    let failed = c.in-Err-load_kind.ensures.fault in
    kind_unloaded _ (invocation_of c.args.invocation.now) c.args.script failed.0 _ _ c.in-Err-load_kind.fault c.requires.loaded is_text failed.1 failed.2

pub returns-in-Ok-asked-clause-ready : goal.returns-in-Ok-asked-clause-ready
returns-in-Ok-asked-clause-ready g c =
    let loaded = c.in-Ok-load_kind.ensures in
    ready_text _ (invocation_of c.args.invocation.now) c.args.script c.in-Ok-load_kind.file _ _ _ c.requires.loaded loaded.file.0 loaded.file.1 loaded.none_failed
    (c.in-Ok-asked.ensures.asks c.in-Ok-load_kind.file (λ is_text. refl))

pub returns-in-Err-asked-clause-unready : goal.returns-in-Err-asked-clause-unready
returns-in-Err-asked-clause-unready g c = wanting _ _ _ _ c.in-Ok-load_kind.ensures.none_failed

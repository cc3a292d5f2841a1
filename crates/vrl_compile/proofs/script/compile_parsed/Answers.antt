use Rattle.std.proofs.Common.{◌≡◌, true, sym, subst, length}
use Rattle.vrl_syntax.specs.Regexes.{exprs_regexes_below}
use Rattle.vrl_syntax.specs.View.{exprs_of, script_of}
use Rattle.vrl_check.specs.Judgement.{JudgesScript}
use Rattle.vrl_check.specs.OpenRules.{language_rules}
use Rattle.vrl_compile.proofs.Compiling.{refused_for}
use Rattle.vrl_compile.proofs.script.compile_parsed.Goals as goal

pub check-requires-clause-regexes : goal.check-requires-clause-regexes
check-requires-clause-regexes c = subst (λ sources. exprs_regexes_below (length sources) (exprs_of c.args.parsed.script.items) ≡ true) (sym c.in-Ok.ensures.sources) c.requires.regexes

pub returns-in-Ok : goal.returns-in-Ok
returns-in-Ok c = λ text is.
    let judged = c.in_ok-judged-in-Ok.ensures in
    c.decided.ensures c.args.declared.now text c.args.parsed.tokens.tokens judged.0 is
    (record { limits = c.requires.limits; well_formed = c.in-Ok.ensures.formed })
    (subst (λ sources. JudgesScript (language_rules sources) c.args.declared.now (exprs_of c.args.parsed.script.items) judged.0) c.in-Ok.ensures.sources judged.1) judged.2

pub returns : goal.returns
returns c = λ text is.
    refused_for c.args.declared.now text c.args.parsed.tokens.tokens (script_of c.args.parsed.script) c.in-Err.fault c.refused_literals.result c.refused_literals.ensures c.in-Err.ensures.malformed is c.requires.limits

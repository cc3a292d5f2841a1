use Rattle.std.proofs.Common.{◌≡◌, true, false, sym, ap, ◌∙◌}
use Rattle.std.specs.List.{list_any}
use Rattle.vrl_syntax.specs.View.{exprs_of, script_of}
use Rattle.vrl_diag.specs.Refusal.{is_error}
use Rattle.vrl_resolve.specs.Program.{script_program}
use Rattle.vrl_compile.proofs.Compiling.{accepted, refused}
use Rattle.vrl_compile.proofs.script.decided.Goals as goal

pub returns-then-has_error : goal.returns-then-has_error
returns-then-has_error c = λ declared text tokens judgement is can judges judged.
    let error : list_any is_error c.args.judged.diagnostics ≡ true = sym c.has_error.ensures ∙ c.if-has_error.true in
    refused declared text tokens (script_of c.args.script) judgement c.args.judged.diagnostics is can judges judged.diagnostics error

pub returns : goal.returns
returns c = λ declared text tokens judgement is can judges judged.
    let none : list_any is_error c.args.judged.diagnostics ≡ false = sym c.has_error.ensures ∙ c.if-has_error.false in
    let items = exprs_of c.args.script.items in
    record {
      script = script_of c.args.script;
      judgement = judgement;
      accepted = accepted declared text tokens (script_of c.args.script) judgement c.args.judged.diagnostics is can judges judged.diagnostics none;
      judged = judged;
      program = c.in_ok-program.ensures ∙ ap (λ tags. script_program items tags c.args.patterns) judged.empties ∙ ap (script_program items judgement.empties) c.requires.patterns;
      sources = c.in_ok-sources.ensures ∙ c.requires.patterns;
    }

use Rattle.std.proofs.Common.{◌≡◌, [], ◌++◌, sym, ap, ◌∙◌, subst, arith}
use Rattle.std.proofs.lemmas.Grind.{common_steps}
use Rattle.std.specs.Str.{IsUtf8}
use Rattle.json.specs.Lex as lex
use Rattle.json.specs.Print.{print}
use Rattle.serde_json.proofs.Texts.{print-outline}
use Rattle.vrl_value.specs.View.{tree_of}
use Rattle.vrl_json.specs.Line.{data_of}
use Rattle.vrl_json.specs.Tokens.{tree_tokens}
use Rattle.vrl_json.proofs.ReadBack.{line_read_back}
use Rattle.vrl_json.proofs.write.to_line.Goals as goal

pub returns : goal.returns
returns c =
    let sources = c.args.sources.now in
    let t = tree_of c.args.value.now in
    let end = c.write_value.new.out in
    let before : end.before ≡ [] = grind (arith, common_steps) in
    let tokens : end.tokens ≡ tree_tokens sources t = grind (arith, common_steps, c.in_ok-write_value.ensures.ok, c.new-out.ensures.tokens) in
    let line : c.new.result ≡ print end.tokens = c.new.ensures ∙ c.into_inner.ensures.items ∙ ap (λ b. b ++ print end.tokens) before in
    let utf8 : IsUtf8 c.new.result = subst IsUtf8 (sym line) c.into_inner.ensures.utf8 in
    record {
      text = line ∙ ap print tokens ∙ print-outline (data_of sources t);
      utf8 = utf8;
      read_back = line_read_back sources t _ c.in_ok-write_value.ensures.held utf8 (ap lex.tokens line ∙ c.into_inner.ensures.reads_back ∙ tokens);
    }

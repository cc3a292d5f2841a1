use Rattle.std.proofs.Common.{rules, ◌≡◌, ◌++◌, Some, None, string_bytes, sym, ap, ◌∙◌, arith}
use Rattle.std.proofs.lemmas.Str.Pattern.{split_parts}
use Rattle.fn_parse.specs.Quotes.{unescaped}
use Rattle.fn_parse.proofs.Quoted.{escape_on, no_escape}
use Rattle.fn_parse.proofs.quotes.unescaped.Goals as goal

pub loop-before-preserved : goal.loop-before-preserved
loop-before-preserved c =
    let left = c.loop-before.left.now in
    let parts = split_parts 0x5C left (Some (c.in-Some.before, c.in-Some.behind)) (search rules) (omega arith) in
    let first : string_bytes c.push_str.new.self ≡ string_bytes c.loop-before.plain ++ c.in-Some.before.now = search rules in
    let second : string_bytes c.push_str-in-Some.new.self ≡ string_bytes c.push_str.new.self ++ c.split_escape.result.0.now = search rules in (
      search rules,
      escape_on (string_bytes c.loop-before.plain) (string_bytes c.push_str.new.self) (string_bytes c.push_str-in-Some.new.self) c.in-Some.before.now c.split_escape.result.0.now left c.in-Some.behind.now c.split_escape.result.1.now (unescaped c.args.text.now)
          parts.0 parts.1 c.split_escape.ensures.value first second c.loop-before.invariant.1,
    )

pub returns : goal.returns
returns c =
    let left = c.loop-before.left.now in
    let last : c.new.result ≡ string_bytes c.loop-before.plain ++ left = search rules in
    last ∙ ap (λ t. string_bytes c.loop-before.plain ++ t) (sym (no_escape left (split_parts 0x5C left None c.in_default.ensures.cases (omega arith)))) ∙ c.loop-before.invariant.1

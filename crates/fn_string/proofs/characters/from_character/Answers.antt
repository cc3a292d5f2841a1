use Rattle.std.proofs.Common.{rules, ◌≡◌, ◌∙◌, ◌-◌, ◌++◌, arith}
use Rattle.std.proofs.lemmas.Str.{IsUtf8-past_char}
use Rattle.std.specs.Char.{encode_utf8}
use Rattle.std.specs.Str.Iter.{chars_rest}
use Rattle.fn_string.proofs.Cuts.{all_passed, passed}
use Rattle.fn_string.proofs.characters.from_character.Goals as goal

pub loop-count-preserved : goal.loop-count-preserved
loop-count-preserved c =
    let l = c.loop-count in let left = chars_rest l.left in let rest = chars_rest c.next.new.self in
    let step : left ≡ encode_utf8 c.in-Some.field-0 ++ rest = search rules in (
      IsUtf8-past_char left rest c.in-Some.field-0 l.invariant.0 step,
      passed c.args.place (l.count - 1) l.count c.args.text.now left rest c.in-Some.field-0 l.invariant.0 step (omega (arith, c.loop-count-test.true)) l.invariant.1,
    )

pub returns : goal.returns
returns c =
    let l = c.loop-count in
    c.as_str.ensures ∙ all_passed c.args.place l.count c.args.text.now (chars_rest l.left) l.invariant.0 (omega (arith, c.loop-count-test.false)) l.invariant.1

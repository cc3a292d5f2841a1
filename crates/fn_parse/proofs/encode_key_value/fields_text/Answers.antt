use Rattle.std.proofs.Common.{rules, String, Global, length, string_bytes, ◌∙◌}
use Rattle.vrl_value.specs.View.{members_of}
use Rattle.vrl_value.specs.declared.value.Value.{Value}
use Rattle.fn_parse.specs.EncodeKeyValue.{fields_text}
use Rattle.fn_parse.proofs.Encoded.{all_written, first_regexes_below, one_written}
use Rattle.fn_parse.proofs.encode_key_value.fields_text.Goals as goal

pub loop-name-preserved : goal.loop-name-preserved
loop-name-preserved c =
    let l = c.loop-name in
    let sources = c.args.sources.now in
    let left = c.next.new.self in
    let e : String Global × Value = (c.in-Some.name.now, c.in-Some.value.now) in (
      search rules,
      (first_regexes_below (length sources) l.name-iterator left e c.in-Some.ensures.steps l.invariant.1).1,
      one_written sources l.separator.now (string_bytes l.out) (string_bytes c.push_field.new.out) (fields_text sources (members_of c.args.fields.now)) l.name-iterator left e c.in-Some.ensures.steps
          (rw c.as_str.ensures.value at c.in_ok-push_field.ensures) l.invariant.2,
    )

pub returns : goal.returns
returns c =
    let l = c.loop-name in
    c.new.ensures ∙ all_written c.args.sources.now l.separator.now (string_bytes l.out) (fields_text c.args.sources.now (members_of c.args.fields.now)) l.name-iterator c.in-None.ensures.steps.0 l.invariant.2

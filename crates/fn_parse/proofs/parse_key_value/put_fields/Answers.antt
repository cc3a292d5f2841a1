use Rattle.std.proofs.Common.{rules, ◌≡◌, ◌==◌, false, length, option_map, sym, ap, ◌∙◌, arith}
use Rattle.vrl_value.specs.View.{members_of}
use Rattle.fn_parse.specs.Found.{written_text}
use Rattle.fn_parse.specs.ParseKeyValue.{fields_from}
use Rattle.fn_parse.proofs.Walked.{field_ahead, field_on, field_shorter}
use Rattle.fn_parse.proofs.parse_key_value.put_fields.Goals as goal

pub loop-left-smaller : goal.loop-left-smaller
loop-left-smaller c =
    let left = c.loop-left.left.now in
    let field = c.in-Ok.field in
    let some : (length left == 0) ≡ false = search rules in
    let less = field_shorter c.args.key_delimiter.now c.args.field_delimiter.now left field.key.now field.behind.now (option_map written_text field.written) some c.in-Ok.ensures in
    let within = c.next_start-left-in-Ok.ensures.within in omega (arith, less, within)

pub loop-left-preserved : goal.loop-left-preserved
loop-left-preserved c =
    let k = c.args.key_delimiter.now in
    let f = c.args.field_delimiter.now in
    let left = c.loop-left.left.now in
    let field = c.in-Ok.field in
    let some : (length left == 0) ≡ false = search rules in
    let before = members_of c.loop-left.fields in (
      search rules,
      c.next_start-left-in-Ok.ensures.starts,
      c.loop-left.invariant.2 ∙ field_on k f left field.key.now field.behind.now (option_map written_text field.written) before some c.loop-left.invariant.1 c.in-Ok.ensures
          ∙ ap (λ ms. fields_from k f 0 field.behind.now ms) (sym c.in_ok-put_field-in-Ok.ensures) ∙ c.next_start-left-in-Ok.ensures.same k (members_of c.put_field.new.fields),
      c.left_later-key_left.ensures,
    )

pub left_later-key_left-requires-clause-known : goal.left_later-key_left-requires-clause-known
left_later-key_left-requires-clause-known c =
    let k = c.args.key_delimiter.now in
    let left = c.loop-left.left.now in
    let field = c.in-Ok.field in
    let some : (length left == 0) ≡ false = search rules in
    c.next_start-left-in-Ok.ensures.ahead k c.loop-left.key_left
    (field_ahead k c.args.field_delimiter.now k left field.key.now field.behind.now (option_map written_text field.written) c.loop-left.key_left some c.in-Ok.ensures (λ few. c.loop-left.invariant.3))

use Rattle.std.proofs.Common.{rules, ◌≡◌, ◌-◌, ℕ, length, take, ap, ◌∙◌, subst, arith}
use Rattle.std.specs.Str.{IsCharBoundary}
use Rattle.fn_parse.specs.KeyValue.{first_place, is_key_end}
use Rattle.fn_parse.proofs.Cuts.{ahead_on, field_is, key_boundary, key_empty, key_end}
use Rattle.fn_parse.proofs.key_value.field_at.Goals as goal

pub overflow_sub-key_length : goal.overflow_sub-key_length
overflow_sub-key_length c =
    let ends =
    key_end c.args.key_delimiter.now c.args.field_delimiter.now c.args.text.now c.args.key_left c.left_from-field_left.result c.max-left.result c.requires.key_left c.left_from-field_left.ensures c.max-left.ensures
    in
    omega (arith, ends)

pub split_at-requires : goal.split_at-requires
split_at-requires c =
    let k = c.args.key_delimiter.now in
    let f = c.args.field_delimiter.now in
    let s = c.args.text.now in
    let ends = key_end k f s c.args.key_left c.left_from-field_left.result c.max-left.result c.requires.key_left c.left_from-field_left.ensures c.max-left.ensures in
    let place : first_place (is_key_end k f) s ≡ length s - c.max-left.result = omega (arith, ends) in
    let P : ℕ → Type 0 = IsCharBoundary s in
    subst P place (key_boundary k f s c.utf8.key_delimiter c.utf8.field_delimiter c.requires.key_delimiter c.requires.field_delimiter)

pub returns-then-is_empty : goal.returns-then-is_empty
returns-then-is_empty c =
    let k = c.args.key_delimiter.now in
    let f = c.args.field_delimiter.now in
    let s = c.args.text.now in
    let key = c.split_at.result.0.now in
    let ends = key_end k f s c.args.key_left c.left_from-field_left.result c.max-left.result c.requires.key_left c.left_from-field_left.ensures c.max-left.ensures in
    let place : length s - c.max-left.result ≡ first_place (is_key_end k f) s = omega (arith, ends) in
    let none : length key ≡ 0 = search rules in
    key_empty k f s key (c.split_at.ensures.front ∙ ap (λ n. take n s) place) none

pub with_key-requires-clause-key_left : goal.with_key-requires-clause-key_left
with_key-requires-clause-key_left c =
    let s = c.args.text.now in
    ahead_on c.args.key_delimiter.now s c.split_at.result.1.now (length s - c.max-left.result) c.args.key_left c.split_at.ensures.back (λ few. c.requires.key_left)

pub returns : goal.returns
returns c =
    let k = c.args.key_delimiter.now in
    let f = c.args.field_delimiter.now in
    let s = c.args.text.now in
    let ends = key_end k f s c.args.key_left c.left_from-field_left.result c.max-left.result c.requires.key_left c.left_from-field_left.ensures c.max-left.ensures in
    let place : length s - c.max-left.result ≡ first_place (is_key_end k f) s = omega (arith, ends) in
    c.with_key.ensures ∙ field_is k f s c.split_at.result.0.now c.split_at.result.1.now (length s - c.max-left.result) place c.split_at.ensures.front c.split_at.ensures.back

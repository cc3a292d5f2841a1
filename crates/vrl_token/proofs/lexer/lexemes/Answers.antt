use Rattle.std.proofs.Common.{IsUtf8, length, [], rules, arith}
use Rattle.vrl_token.specs.Division.{pieces_behind}
use Rattle.vrl_token.proofs.Ends.{Takes, ends_on, is_end, is_no_longer, is_shorter}
use Rattle.vrl_token.proofs.Leading.{led_more, span_is}
use Rattle.vrl_token.proofs.Placed.{kept_on_characters}
use Rattle.vrl_token.proofs.Taking.{fault_end, piece_takes}
use Rattle.vrl_token.proofs.lexer.lexemes.Goals as goal

pub fault_between-requires-clause-ends : goal.fault_between-requires-clause-ends
fault_between-requires-clause-ends c =
    let led = c.loop-rest.invariant.1 in
    let fault = (rw c.in-Fault.is at c.in_ok-code.ensures) (pieces_behind [] led.pieces) led.is_context in
    let size = fault.length_is in
    let within = is_no_longer (fault_end fault.is_fault) in
    let before = is_no_longer c.loop-rest.invariant.2 in
    omega arith

pub span_between-span-requires-clause-ends : goal.span_between-span-requires-clause-ends
span_between-span-requires-clause-ends c =
    let led = c.loop-rest.invariant.1 in
    let takes : Takes c.loop-rest.rest.now c.in-Piece.behind.now = piece_takes (pieces_behind [] led.pieces) c.in-Piece.piece _ _ ((rw c.in-Piece.is at c.in_ok-code.ensures) (pieces_behind [] led.pieces) led.is_context) in
    is_no_longer (ends_on c.loop-rest.invariant.2 (is_end takes))

pub loop-rest-smaller : goal.loop-rest-smaller
loop-rest-smaller c =
    let led = c.loop-rest.invariant.1 in
    let takes : Takes c.loop-rest.rest.now c.in-Piece.behind.now = piece_takes (pieces_behind [] led.pieces) c.in-Piece.piece _ _ ((rw c.in-Piece.is at c.in_ok-code.ensures) (pieces_behind [] led.pieces) led.is_context) in
    is_shorter takes

pub loop-rest-preserved : goal.loop-rest-preserved
loop-rest-preserved c =
    let led = c.loop-rest.invariant.1 in
    let takes : Takes c.loop-rest.rest.now c.in-Piece.behind.now = piece_takes (pieces_behind [] led.pieces) c.in-Piece.piece _ _ ((rw c.in-Piece.is at c.in_ok-code.ensures) (pieces_behind [] led.pieces) led.is_context) in
    let ends = ends_on c.loop-rest.invariant.2 (is_end takes) in
    let span = span_is c.span_between-span.result (length c.args.text.now) c.loop-rest.rest.now c.in-Piece.behind.now c.span_between-span.ensures.start c.span_between-span.ensures.end_is in
    let utf8 : IsUtf8 c.loop-rest.rest.now = search rules in
    let utf8_behind : IsUtf8 c.in-Piece.behind.now = search rules in (
      search rules,
      led_more (record { piece = c.in-Piece.piece; span = c.span_between-span.result }) led ((rw c.in-Piece.is at c.in_ok-code.ensures) (pieces_behind [] led.pieces) led.is_context)
          span (c.behind-context.ensures (pieces_behind [] led.pieces) led.is_context) c.in_ok-push_kept-in-Piece.ensures,
      ends,
      kept_on_characters c.loop-rest.found.items (record { piece = c.in-Piece.piece; span = c.span_between-span.result }) c.loop-rest.invariant.3 c.loop-rest.invariant.2 ends utf8 utf8_behind span c.in_ok-push_kept-in-Piece.ensures,
    )

use Rattle.std.proofs.Common.{◌≡◌, ◌+◌, ◌≤◌, drop, length, length-take, length-take-le, length-append, length-drop, arith, ap, ◌∙◌, rules}
use Rattle.vrl_batch.proofs.Windows.{in_front, window_is}
use Rattle.vrl_batch.specs.Pieces.{PieceHeld}
use Rattle.vrl_batch.proofs.piece.Piece.take.Goals as goal

pub returns-clause-piece : goal.returns-clause-piece
returns-clause-piece g c =
    let count = c.in_ok-count.count in
    let given = c.take_front.new.buffer in
    let within : count ≤ length given = search rules in
    let room : count ≤ c.self.inside.buffer.len = search rules in
    let window = window_is given (drop (length given) c.self.inside.buffer.items) count c.self.inside.buffer.len within room in
    let taken_is : c.self.inside.taken ≡ c.args.self.now.taken = ap (λ (s : PieceHeld). s.taken) c.self.view_is in
    record {
      length_is = ap length window ∙ length-take-le count given within;
      is_front = in_front _ _ count given _ window c.in_ok-count.ensures.bytes c.in_ok-count.ensures.left;
      counted = c.in_ok-count.ensures.taken;
      counted_too = ap (λ n. n + count) taken_is;
      within = search rules;
      most = search rules;
    }

pub invariant_of-self : goal.invariant_of-self
invariant_of-self g c = (search rules, search rules, simp (length-take, length-append, length-drop) (omega arith), search rules)

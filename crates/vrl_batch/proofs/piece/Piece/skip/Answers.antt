use Rattle.std.proofs.Common.{◌≡◌, ◌+◌, ◌-◌, ◌≤◌, length, length-take, take, drop, ap, ◌∙◌, arith}
use Rattle.vrl_batch.proofs.Windows.{skipped}
use Rattle.vrl_batch.specs.Pieces.{PieceHeld}
use Rattle.vrl_batch.proofs.piece.Piece.skip.Goals as goal

pub returns : goal.returns
returns c =
    let p = c.self.inside in
    let count = c.args.count in
    let window = take (p.to - p.from) (drop p.from p.buffer.items) in
    let seen : length window ≡ length c.args.self.now.rest = ap (λ (s : PieceHeld). length s.rest) c.self.view_is in
    let within : p.from + count ≤ p.to = omega (arith, c.requires, seen, length-take (p.to - p.from) (drop p.from p.buffer.items), c.self.invariant.0) in
    ap (λ x. record { rest = x; taken = p.taken }) (skipped p.buffer.items p.from p.to count within)
    ∙ ap (λ (s : PieceHeld). record { rest = drop count s.rest; taken = s.taken }) c.self.view_is

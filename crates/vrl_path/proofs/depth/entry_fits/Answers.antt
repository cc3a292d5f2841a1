use Rattle.std.proofs.Common.{sym, ◌∙◌, refl, arith}
use Rattle.vrl_value.specs.View.{tree_of}
use Rattle.vrl_path.proofs.Fits.{entry_at_name, entry_elsewhere}
use Rattle.vrl_path.proofs.depth.entry_fits.Goals as goal

pub returns-then-eq : goal.returns-then-eq
returns-then-eq c = (λ yes. entry_at_name c.args.key.now c.args.name.now (tree_of c.args.part.now) c.args.limit (sym c.eq.ensures ∙ c.if-eq.true), λ fits. refl)

pub returns-then-depth-limit : goal.returns-then-depth-limit
returns-then-depth-limit c =
    let elsewhere = entry_elsewhere c.args.key.now c.args.name.now (tree_of c.args.part.now) c.args.limit (sym c.eq.ensures ∙ c.if-eq.false) in
    (λ yes. absurd cc, λ fits. let h = elsewhere.1 fits in absurd (omega arith))

pub returns : goal.returns
returns c =
    let elsewhere = entry_elsewhere c.args.key.now c.args.name.now (tree_of c.args.part.now) c.args.limit (sym c.eq.ensures ∙ c.if-eq.false) in
    (λ yes. elsewhere.0 (omega arith), λ fits. refl)

use Rattle.std.proofs.Common.{rules, ◌≡◌, ◌++◌, [], ◌∷◌, length, map, ◌∙◌}
use Rattle.vrl_path.specs.declared.path.Step.TheVariants.{Field}
use Rattle.fn_object.specs.Unflatten.{cut_key}
use Rattle.fn_object.proofs.Splitting.{last_one, one_more}
use Rattle.fn_object.proofs.unflatten.cut_key.Goals as goal

pub loop-piece-preserved : goal.loop-piece-preserved
loop-piece-preserved c =
    let l = c.loop-piece in
    let name = c.args.name.now in
    let separator = c.args.separator.now in
    let pushed : c.push.new.self.items ≡ l.steps.items ++ Field c.in-Some.piece.now ∷ [] = search rules in (
      search rules,
      one_more separator l.rest.now c.in-Some.piece.now c.in-Some.behind.now l.steps.items c.push.new.self.items (map Field (cut_key (length name) separator name)) c.requires c.in-Some.ensures.cases pushed l.invariant.1,
    )

pub returns : goal.returns
returns c =
    let l = c.loop-piece in
    let name = c.args.name.now in
    let separator = c.args.separator.now in
    let pushed : c.push-2.new.self.items ≡ l.steps.items ++ Field l.rest.now ∷ [] = search rules in
    pushed ∙ last_one separator l.rest.now l.steps.items (map Field (cut_key (length name) separator name)) c.in_default.ensures.cases l.invariant.1

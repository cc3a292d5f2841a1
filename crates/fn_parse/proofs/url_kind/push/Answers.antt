use Rattle.std.proofs.Common.{rules, ◌≡◌, ◌++◌, ◌∷◌, [], ap, ◌∙◌}
use Rattle.fn_parse.specs.PartKinds.{sets_of}
use Rattle.fn_parse.proofs.MadeKinds.{pushed}
use Rattle.fn_parse.proofs.url_kind.push.Goals as goal

pub returns : goal.returns
returns c =
    let before = c.args.fields.now.items in
    let K = c.in_ok-kind.kind in
    let all : c.push.new.self.items ≡ before ++ (c.in_ok-name.name, K) ∷ [] = search rules in
    pushed before c.push.new.self.items c.args.name.now K (sets_of c.args.part) (all ∙ ap (λ n. before ++ (n, K) ∷ []) c.in_ok-name.ensures) c.in_ok-kind.ensures

use Rattle.std.proofs.Common.{[]}
use Rattle.std.proofs.lemmas.Result.{IfOk-weaker}
use Rattle.vrl_kind.specs.KindTree.{KindTree}
use Rattle.vrl_kind.specs.Make.{named_view}
use Rattle.fn_parse.specs.PartKinds.{AreNamed}
use Rattle.fn_parse.specs.Url.{url_fields}
use Rattle.fn_parse.proofs.MadeKinds.{known_made}
use Rattle.fn_parse.proofs.url_kind.url_kind.Goals as goal

pub returns : goal.returns
returns c =
    let none : AreNamed (named_view c.new-fields.result.items) [] = rw c.new-fields.ensures.items tt in
    IfOk-weaker c.object.result _ _ (λ (kind : KindTree) same. known_made kind c.push_parts.new.fields.items url_fields same (c.in_ok-push_parts.ensures none)) c.object.ensures

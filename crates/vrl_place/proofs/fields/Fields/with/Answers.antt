use Rattle.vrl_place.proofs.Looked.{field_put}
use Rattle.vrl_place.proofs.fields.Fields.with.Goals as goal

pub returns : goal.returns
returns c = field_put _ _ c.args.kind _ c.cut_at-cut.result c.in_ok-fields.fields.items c.push_copies.new.fields.items c.push.new.self.items c.push_copies-2.new.fields.items _
    c.cut_at-cut.ensures c.in_ok-fields.ensures.items c.in_ok-push_copies.ensures c.in_ok-push.ensures.items c.in_ok-copy.ensures c.in_ok-push_copies-2.ensures

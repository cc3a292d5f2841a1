use Rattle.std.proofs.Common.{encode_utf8_all, ◌∙◌, ap, sym, map-id}
use Rattle.std.proofs.lemmas.Grind.{flat_map-append}
use Rattle.std.proofs.lemmas.Iterator.{YieldsList-from_chars}
use Rattle.std.proofs.lemmas.Iterator.Consumers.{YieldsList-end}
use Rattle.std.proofs.lemmas.Str.{encodes-append}
use Rattle.std.specs.List.{flat_map}
use Rattle.vrl_kindfile.specs.Pointer.{escaped}
use Rattle.vrl_kindfile.proofs.pointer.escaped_name.Goals as goal

pub loop-c-preserved : goal.loop-c-preserved
loop-c-preserved c = rw (flat_map-append, encodes-append, ← c.loop-c.invariant) c.in_ok-push_escaped.ensures

pub returns : goal.returns
returns c =
    let done = YieldsList-end (YieldsList-from_chars c.args.name.now c.utf8.name cc) c.loop-c.yielded _ c.loop-c.yielded_by _ _ c.in-None.is c.next.ensures.steps in
    c.loop-c.invariant ∙ ap (λ cs. encode_utf8_all (flat_map escaped cs)) (sym (map-id c.loop-c.yielded) ∙ done.0)

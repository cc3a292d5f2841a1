use Rattle.std.proofs.Common.{◌≡◌, ◌*◌, [], Ok, IfOk, get_or, map, take, drop, ap, ◌∙◌, subst, rules}
use Rattle.std.proofs.lemmas.Result.{IfOk-weaker}
use Rattle.vrl_batch.proofs.Chunks.{chunks-made}
use Rattle.vrl_batch.proofs.mapping.map_batch.Goals as goal

pub returns-clause-made : goal.returns-clause-made
returns-clause-made g c =
    let makes = g.W.Work.makes c.args.work.now in
    let size = c.chunk_size-size.result in
    let lines = c.args.batch.now in
    let parts = c.in_ok-parts.parts in
    IfOk-weaker c.joined.result _ _ (λ outs joins. chunks-made makes size lines parts.items outs joins
    (λ n below.
    let k = (c.in_ok-parts.ensures.each n (Ok []) below).1 in
    subst (λ xs. IfOk (get_or parts.items n (Ok [])) (λ made. made ≡ map makes xs)) (k.argument_is.value ∙ ap (λ xs. take size (drop (n * size) xs)) c.as_slice-lines.ensures) k.call)
    c.chunk_size-size.ensures.some (search rules)) c.joined.ensures

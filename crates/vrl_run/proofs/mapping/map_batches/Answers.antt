use Rattle.std.proofs.Common.{◌∙◌, ap, arith, refl, subst}
use Rattle.vrl_run.specs.Mapping.{TellsMore}
use Rattle.vrl_run.proofs.BatchLemmas.{fewer, has_mapped-begin, has_mapped-more}
use Rattle.vrl_run.proofs.MappingLemmas.{of_ok}
use Rattle.vrl_run.proofs.mapping.map_batches.Goals as goal

pub loop-init : goal.loop-init
loop-init g c =
    let fresh = c.requires.fresh in record {
      mapped = has_mapped-begin c.runs_begin.ensures (g.W.Work.makes c.args.work.now) _ (ap (λ l. l.bytes.held) fresh) (ap (λ l. l.bytes.next) fresh) (let taken = ap (λ l. l.bytes.taken) fresh in omega (arith, taken));
      fault = ap (λ l. l.fault) fresh;
      read = refl;
      output = refl;
      report = refl;
    }

pub loop-smaller : goal.loop-smaller
loop-smaller g c =
    let one = c.in_ok-map_next.ensures.batch in
    fewer _ _ one.0 one.1.read (subst (λ m. TellsMore m one.0) c.if-branch.true one.2) one.1.within

pub loop-preserved : goal.loop-preserved
loop-preserved g c =
    let one = c.in_ok-map_next.ensures.batch in
    let unfaulted = of_ok c.in_ok-map_next.ensures.write_told in record {
      mapped = has_mapped-more c.runs_go_on.ensures (g.W.Work.makes c.args.work.now) _ _ _ one.0 c.loop.invariant.mapped one.1;
      fault = c.in_ok-map_next.ensures.fault;
      read = of_ok c.in_ok-map_next.ensures.read_told ∙ c.loop.invariant.read;
      output = unfaulted.0 ∙ c.loop.invariant.output;
      report = unfaulted.1 ∙ c.loop.invariant.report;
    }

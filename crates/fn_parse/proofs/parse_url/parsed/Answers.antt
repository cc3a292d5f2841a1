use Rattle.std.proofs.Common.{None}
use Rattle.url.specs.Parser.{parse_url}
use Rattle.fn_parse.proofs.parse_url.parsed.Goals as goal

pub returns : goal.returns
returns c =
    let told = parse_url None c.args.text.now in
    c.answer.ensures.answer told (c.read.ensures.read told c.parse.ensures)

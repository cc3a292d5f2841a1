use Rattle.remap_words.specs.View.{texts}
use Rattle.clap.specs.Words.{app_of}
use Rattle.remap_words.proofs.Matches.{matches_tell, refusal_tells}
use Rattle.remap_words.proofs.command.matches_of.Goals as goal

pub returns-clause-given : goal.returns-clause-given
returns-clause-given c = λ free.
    let parse = c.try_get_matches_from in
    matches_tell (texts c.args.words.now) (app_of c.in_ok-command.command) parse.result c.in_ok-command.ensures free parse.ensures.matches parse.ensures.kinds

pub returns-clause-refused : goal.returns-clause-refused
returns-clause-refused c = λ free.
    let parse = c.try_get_matches_from in
    refusal_tells (texts c.args.words.now) (app_of c.in_ok-command.command) parse.result c.in_ok-command.ensures free parse.ensures.kinds

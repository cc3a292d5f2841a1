use Rattle.std.proofs.Common.{◌∙◌, ap, string_bytes}
use Rattle.fn_time.specs.Shown.{shown_by}
use Rattle.fn_time.proofs.UtcTexts.{fault_is, text_is}
use Rattle.fn_time.proofs.shown.shown_by.Goals as goal

pub memory_of-requires : goal.memory_of-requires
memory_of-requires c =
    fault_is string_bytes c.args.format.now c.instant_of.result.nanosecond c.strftime.result c.in-Err.fault c.requires c.instant_of.ensures.range c.strftime.ensures c.in-Err.is

pub returns-in-Ok : goal.returns-in-Ok
returns-in-Ok c =
    c.new.ensures ∙ text_is string_bytes c.args.format.now c.instant_of.result.nanosecond c.strftime.result c.in-Ok.text c.requires c.instant_of.ensures.range c.strftime.ensures c.in-Ok.is
    ∙ ap (shown_by c.args.format.now) c.instant_of.ensures.instant

use Rattle.std.proofs.Common.{◌∙◌, rules, subst}
use Rattle.vrl_token.specs.Reading.{IsNoScript}
use Rattle.vrl_compile.specs.Answer.{IsAnswer, IsRefused}
use Rattle.remap_words.specs.View.{invocation_of}
use Rattle.remap_call.proofs.Accepting.{declared_is_present}
use Rattle.remap_call.proofs.Requests.{accepted_asked, kind_asked, no_text_asked, read_is_text, refused_asked}
use Rattle.remap_call.proofs.asking.asked.Goals as goal

pub returns-in-Err : goal.returns-in-Err
returns-in-Err c =
    let none : IsNoScript c.args.script = search rules in
    record {
      asks = no_text_asked (invocation_of c.args.invocation.now) c.args.file c.args.script c.no_text.result none c.no_text.ensures.asks;
      ready = c.no_text.ensures.ready;
    }

pub returns-in-Err-declared_kind : goal.returns-in-Err-declared_kind
returns-in-Err-declared_kind c =
    let is_text : ¬ IsNoScript c.args.script = search rules in
    record {
      asks = kind_asked (invocation_of c.args.invocation.now) c.args.file c.args.script c.in-Err-declared_kind.fault c.kind_refused.result is_text (c.requires.file is_text)
          c.in-Err-declared_kind.ensures.refused c.kind_refused.ensures.asks;
      ready = c.kind_refused.ensures.ready;
    }

pub compile-requires-clause-present : goal.compile-requires-clause-present
compile-requires-clause-present c =
    let is_text : ¬ IsNoScript c.args.script = search rules in
    declared_is_present _ _ _ (c.in-Ok-declared_kind.ensures.kind (invocation_of c.args.invocation.now).kind (c.requires.file is_text))

pub returns-in-Refused-clause-asks : goal.returns-in-Refused-clause-asks
returns-in-Refused-clause-asks c =
    let i = invocation_of c.args.invocation.now in
    let declared = c.in-Ok-declared_kind.declared in
    let is_text : ¬ IsNoScript c.args.script = search rules in
    let of_kind = c.in-Ok-declared_kind.ensures.kind i.kind (c.requires.file is_text) in
    let same = c.in-Ok.ensures.text ∙ c.as_slice.ensures in
    let refused = subst (λ text. IsRefused declared text c.in-Refused.diagnostics) same
    (subst (IsAnswer declared c.in-Ok.text.now) c.in-Refused.is c.in_ok-compiled.ensures.answer) in
    refused_asked i c.args.file c.args.script declared c.in-Refused.diagnostics is_text of_kind refused

pub accepted_asked-requires-clause-text : goal.accepted_asked-requires-clause-text
accepted_asked-requires-clause-text c =
    subst (λ text. ¬ IsNoScript text) (c.in-Ok.ensures.text ∙ c.as_slice.ensures) (read_is_text c.in-Ok.text.now c.in-Ok.ensures.ok)

pub returns-clause-asks : goal.returns-clause-asks
returns-clause-asks c =
    let i = invocation_of c.args.invocation.now in
    let declared = c.in-Ok-declared_kind.declared in
    let same = c.in-Ok.ensures.text ∙ c.as_slice.ensures in
    let is_text = subst (λ text. ¬ IsNoScript text) same (read_is_text c.in-Ok.text.now c.in-Ok.ensures.ok) in
    let of_kind = c.in-Ok-declared_kind.ensures.kind i.kind (c.requires.file is_text) in
    accepted_asked i c.args.file c.args.script declared c.accepted_asked.result is_text of_kind c.accepted_asked.ensures.asks

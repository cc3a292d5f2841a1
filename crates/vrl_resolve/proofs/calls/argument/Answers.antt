use Rattle.std.proofs.Common.{length, sym, ◌∙◌}
use Rattle.vrl_store.specs.StoreView.{count_of, store_in}
use Rattle.vrl_resolve.specs.Linked.{linked_of}
use Rattle.vrl_resolve.specs.Plain.{plain_values}
use Rattle.std.proofs.Common.{map, drop}
use Rattle.vrl_resolve.proofs.Arguments.{behind_at, none_at, ran_at, readable_at}
use Rattle.vrl_resolve.proofs.calls.argument.Goals as goal

pub peek-requires : goal.peek-requires
peek-requires c =
    let found = c.in-Some-get.ensures.lookup in
    record { readable = readable_at (count_of c.args.store.now) c.args.args.now c.args.place c.in-Some-get.node.now found.3.0 found.1 c.requires.readable }

pub returns-in-Some : goal.returns-in-Some
returns-in-Some c = λ names are.
    let found = c.in-Some.ensures.lookup in
    sym (ran_at c.args.run.now (plain_values names (map linked_of (drop (length c.args.run.now) c.args.args.now)) (store_in names c.args.store.now)) c.args.place c.in-Some.value.now found.3.0 found.1)

pub returns-in-Some-get : goal.returns-in-Some-get
returns-in-Some-get c = λ names are.
    let found = c.in-Some-get.ensures.lookup in
    let none = c.in-None.ensures.lookup in
    c.peek.ensures names are
    ∙ sym (behind_at names (store_in names c.args.store.now) c.args.run.now c.args.args.now c.args.place c.in-Some-get.node.now none.3 found.3.0 found.1 c.requires.plain)

pub returns-in-None-get : goal.returns-in-None-get
returns-in-None-get c = λ names are.
    sym (none_at names (store_in names c.args.store.now) c.args.run.now c.args.args.now c.args.place c.in-None.ensures.lookup.3 c.in-None-get.ensures.lookup.3)

use Rattle.std.proofs.Common.{◌≡◌, option_map, rules, subst, sym}
use Rattle.vrl_state.specs.EntryView.{entry_of}
use Rattle.vrl_state.specs.Merging.{IsJoinedAt}
use Rattle.vrl_state.specs.Ordered.{put_entry, without_name}
use Rattle.vrl_state.specs.States.{IsEither}
use Rattle.vrl_state.proofs.Parts.{joined_put, joined_taken}
use Rattle.vrl_state.proofs.walks.join_entry.Goals as goal

pub returns-in_ok-take-in-None : goal.returns-in_ok-take-in-None
returns-in_ok-take-in-None c =
    let e = entry_of c.args.entry.now in
    let left : c.take.new.entries.entries ≡ without_name e.0 c.args.joined.now.entries = search rules in
    subst (λ o. IsJoinedAt e (option_map (λ kind. kind.now.value) o) c.args.joined.now.entries c.take.new.entries.entries) (sym c.in-None.is) (joined_taken e c.args.joined.now.entries c.take.new.entries.entries left)

pub returns-in_ok-put_kind-in-Some-2 : goal.returns-in_ok-put_kind-in-Some-2
returns-in_ok-put_kind-in-Some-2 c =
    let e = entry_of c.args.entry.now in
    let either : IsEither e.1 c.in-Some.other.now.value c.in-Some-2.kind.value = search rules in
    let put : c.put_kind.new.entries.entries ≡ put_entry (e.0, c.in-Some-2.kind.value) c.args.joined.now.entries = search rules in
    subst (λ o. IsJoinedAt e (option_map (λ kind. kind.now.value) o) c.args.joined.now.entries c.put_kind.new.entries.entries) (sym c.in-Some.is) (joined_put e c.in-Some.other.now.value c.in-Some-2.kind.value c.args.joined.now.entries c.put_kind.new.entries.entries either put)

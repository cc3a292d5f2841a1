use Rattle.std.proofs.Common.{◌≡◌, ◌∙◌, true, false, true≢false, Some, ap, codes, rules, sym}
use Rattle.vrl_value.specs.Parts.{members_count, without}
use Rattle.vrl_value.specs.Tree.{find, is_object}
use Rattle.vrl_value.specs.View.{members_of, tree_of}
use Rattle.vrl_run.proofs.Opening.{both_opened, others, with_no_object, with_others, without_metadata}
use Rattle.vrl_run.proofs.envelope.taken_out.Goals as goal

pub returns-in_default-remove : goal.returns-in_default-remove
returns-in_default-remove c =
    without_metadata (members_of c.args.members) (sym (c.in_default-remove.ensures.value ∙ ap (find (codes "metadata")) c.in-Some.ensures.rest))

pub returns-then-not-is_empty : goal.returns-then-not-is_empty
returns-then-not-is_empty c =
    let ms = members_of c.args.members in
    let rest : members_of c.remove-2.new.self ≡ others ms = c.in-Some-remove.ensures.rest ∙ ap (without (codes "metadata")) c.in-Some.ensures.rest in
    let some : c.is_empty.result ≡ false = search rules in
    with_others ms (λ none. true≢false (sym (c.is_empty.ensures.1 (ap members_count rest ∙ none)) ∙ some))

pub returns-then-not-is_object : goal.returns-then-not-is_object
returns-then-not-is_object c =
    let metadata : find (codes "metadata") (without (codes "event") (members_of c.args.members)) ≡ Some (tree_of c.in-Some-remove.metadata) = sym (c.in-Some-remove.ensures.value ∙ ap (find (codes "metadata")) c.in-Some.ensures.rest) in
    let other : is_object (tree_of c.in-Some-remove.metadata) ≡ false = search rules in
    with_no_object (members_of c.args.members) (tree_of c.in-Some-remove.metadata) metadata other

pub returns : goal.returns
returns c =
    let ms = members_of c.args.members in
    let rest : members_of c.remove-2.new.self ≡ others ms = c.in-Some-remove.ensures.rest ∙ ap (without (codes "metadata")) c.in-Some.ensures.rest in
    let metadata : find (codes "metadata") (without (codes "event") ms) ≡ Some (tree_of c.in-Some-remove.metadata) = sym (c.in-Some-remove.ensures.value ∙ ap (find (codes "metadata")) c.in-Some.ensures.rest) in
    let empty : c.is_empty.result ≡ true = search rules in
    let object : is_object (tree_of c.in-Some-remove.metadata) ≡ true = search rules in
    both_opened c.members_are_maps.ensures c.trees_stay_in_order.ensures ms (tree_of c.in-Some.event) (tree_of c.in-Some-remove.metadata) c.requires (sym c.in-Some.ensures.value) metadata (sym (ap members_count rest) ∙ c.is_empty.ensures.0 empty) object

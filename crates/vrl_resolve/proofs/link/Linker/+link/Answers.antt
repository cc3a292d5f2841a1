use Rattle.std.proofs.Common.{◌≡◌, map, option_map, rules, sym, ap, ◌∙◌, subst, arith}
use Rattle.std.proofs.lemmas.Result.{IfOk-weaker}
use Rattle.std.specs.Prelude.{⊤}
use Rattle.std.specs.Vec.Iter.{into_iter_items}
use Rattle.vrl_value.specs.View.{tree_of}
use Rattle.vrl_syntax.proofs.PartSizes.{args_size, arms_size, closure_size, expr_size, exprs_size, form_size, pairs_size}
use Rattle.vrl_syntax.specs.ErrorAssignments.{in_expr, in_exprs}
use Rattle.vrl_syntax.specs.Tree.{expr, abort_with, array, assign, binary, block, both, conditional, group, literal, merge, message, negation, no_message, object, query, read, return_of}
use Rattle.vrl_syntax.specs.View.{args_of, args_view, arms_of, call_of, closure_in, closure_of, else_of, expr_of, exprs_of, exprs_view, message_of, pairs_of, pairs_view}
use Rattle.vrl_syntax.specs.View.{arms_view as syntax_arms_view}
use Rattle.vrl_syntax.specs.declared.tree.Call.{out-Call}
use Rattle.vrl_syntax.specs.declared.tree.Form.{the_lemmas as syntax_lemmas}
use Rattle.vrl_resolve.specs.Linked as linked
use Rattle.vrl_resolve.specs.Linked.{arm_of, arms_view, linked_of, parts_view, else_of as linked_else, pairs_view as linked_pairs}
use Rattle.vrl_resolve.specs.Linking.{a_bare_abort, a_binary, a_block, a_conditional, a_last, a_merge, a_negation, a_query, a_return, an_abort, an_array, an_assignment, an_error_assignment, an_object, no_last, AreLinked, IsLinked, Links}
use Rattle.vrl_resolve.specs.declared.node.Form.{the_lemmas}
use Rattle.vrl_resolve.proofs.ClosureCalls.{body_linked, closure_seen, iteration_made}
use Rattle.vrl_resolve.proofs.LinkedCalls.{call_made, call_seen}
use Rattle.vrl_resolve.proofs.Links.{form_given, form_made, form_stands, group_stands, links_and_numbers, links_behind_tag, links_itself, links_then, links_weaker, numbers_and_links, same_names}
use Rattle.vrl_resolve.proofs.Partway.{args_end, args_next, args_start, arms_end, arms_next, arms_pushed, arms_start, body_seen, items_end, items_next, items_start, nodes_pushed, none_left, object_end, object_next, object_start, one_gone, pair_in, pairs_pushed, predicate_seen}
use Rattle.vrl_resolve.proofs.link.Linker.+link.Goals as goal

-- ---- forms of an expression

pub node-returns-in-Literal : goal.node-returns-in-Literal
node-returns-in-Literal t c =
    form_stands (expr_of c.args.expr) c.args.expr.span (literal (tree_of c.in-Literal.value)) (search (rules, syntax_lemmas)) c.literal.ensures

pub node-returns-in-Array : goal.node-returns-in-Array
node-returns-in-Array t c =
    form_given _ _ c.array.result c.args.expr (array (exprs_of c.in-Array.parts)) c.array.ensures (search (rules, syntax_lemmas))

pub node-returns-in-Map : goal.node-returns-in-Map
node-returns-in-Map t c =
    form_given _ _ c.object.result c.args.expr (object (pairs_of c.in-Map.pairs)) c.object.ensures (search (rules, syntax_lemmas))

pub node-returns-in-Read : goal.node-returns-in-Read
node-returns-in-Read t c =
    form_given _ _ c.read.result c.args.expr (read c.in-Read.root c.in-Read.path) c.read.ensures (search (rules, syntax_lemmas))

pub node-returns-in-Query : goal.node-returns-in-Query
node-returns-in-Query t c =
    form_given _ _ c.query.result c.args.expr (query (expr_of c.in-Query.part.value) c.in-Query.path) c.query.ensures (search (rules, syntax_lemmas))

pub node-returns-in-Block : goal.node-returns-in-Block
node-returns-in-Block t c =
    form_given _ _ c.block.result c.args.expr (block (exprs_of c.in-Block.items)) c.block.ensures (search (rules, syntax_lemmas))

pub node-returns-in-If : goal.node-returns-in-If
node-returns-in-If t c =
    form_given _ _ c.conditional.result c.args.expr (conditional (arms_of c.in-If.arms) (else_of (option_map exprs_of c.in-If.otherwise))) c.conditional.ensures (search (rules, syntax_lemmas))

pub node-returns-in-Not : goal.node-returns-in-Not
node-returns-in-Not t c =
    form_given _ _ c.negation.result c.args.expr (negation (expr_of c.in-Not.part.value)) c.negation.ensures (search (rules, syntax_lemmas))

pub node-returns-in-Binary : goal.node-returns-in-Binary
node-returns-in-Binary t c =
    form_given _ _ c.binary.result c.args.expr (binary c.in-Binary.op (expr_of c.in-Binary.left.value) (expr_of c.in-Binary.right.value)) c.binary.ensures (search (rules, syntax_lemmas))

pub node-returns-in-Assign : goal.node-returns-in-Assign
node-returns-in-Assign t c =
    form_given _ _ c.assign.result c.args.expr (assign c.in-Assign.target (expr_of c.in-Assign.part.value)) c.assign.ensures (search (rules, syntax_lemmas))

pub node-returns-in-Merge : goal.node-returns-in-Merge
node-returns-in-Merge t c =
    form_given _ _ c.merge.result c.args.expr (merge c.in-Merge.target (expr_of c.in-Merge.part.value)) c.merge.ensures (search (rules, syntax_lemmas))

pub node-returns-in-Both : goal.node-returns-in-Both
node-returns-in-Both t c =
    form_given _ _ c.both.result c.args.expr (both c.in-Both.ok c.in-Both.err (expr_of c.in-Both.part.value)) c.both.ensures (search (rules, syntax_lemmas))

pub node-returns-in-Return : goal.node-returns-in-Return
node-returns-in-Return t c =
    form_given _ _ c.give_back.result c.args.expr (return_of (expr_of c.in-Return.part.value)) c.give_back.ensures (search (rules, syntax_lemmas))

pub node-returns-in-Abort : goal.node-returns-in-Abort
node-returns-in-Abort t c =
    form_given _ _ c.abort.result c.args.expr (abort_with (message_of (option_map (λ part. expr_of part.value) c.in-Abort.message))) c.abort.ensures (search (rules, syntax_lemmas))

pub node-returns-in-Call : goal.node-returns-in-Call
node-returns-in-Call t c =
    let at_box : expr_of c.args.expr ≡ expr c.args.expr.span (call_of c.in-Call.call.value) = search (rules, syntax_lemmas) in
    let is = at_box ∙ ap (λ x. expr c.args.expr.span (call_of x)) (sym c.into_inner-in-Call.ensures) in
    form_given _ _ c.call.result c.args.expr (call_of c.into_inner-in-Call.result) c.call.ensures is

pub node-returns-in-Group : goal.node-returns-in-Group
node-returns-in-Group t c =
    let e = c.args.expr in
    let at_box : expr_of e ≡ expr e.span (group (expr_of c.in-Group.part.value)) = search (rules, syntax_lemmas) in
    let is = at_box ∙ ap (λ x. expr e.span (group (expr_of x))) (sym c.into_inner.ensures) in
    IfOk-weaker c.node.result _ _ (λ node links. group_stands (expr_of e) (expr_of c.into_inner.result) e.span is links) c.node.ensures

-- ---- the form is smaller than the expression

pub node-array-requires : goal.node-array-requires
node-array-requires t c =
    let is : expr_of c.args.expr ≡ expr c.args.expr.span (array (exprs_of c.in-Array.parts)) = search (rules, syntax_lemmas) in
    (omega (arith, c.decreases, ap expr_size is), tt)

pub node-object-requires : goal.node-object-requires
node-object-requires t c =
    let is : expr_of c.args.expr ≡ expr c.args.expr.span (object (pairs_of c.in-Map.pairs)) = search (rules, syntax_lemmas) in
    (omega (arith, c.decreases, ap expr_size is), tt)

pub node-query-requires : goal.node-query-requires
node-query-requires t c =
    let is : expr_of c.args.expr ≡ expr c.args.expr.span (query (expr_of c.in-Query.part.value) c.in-Query.path) = search (rules, syntax_lemmas) in
    (omega (arith, c.decreases, ap expr_size is), tt)

pub node-block-requires : goal.node-block-requires
node-block-requires t c =
    let is : expr_of c.args.expr ≡ expr c.args.expr.span (block (exprs_of c.in-Block.items)) = search (rules, syntax_lemmas) in
    (omega (arith, c.decreases, ap expr_size is), tt)

pub node-conditional-requires : goal.node-conditional-requires
node-conditional-requires t c =
    let is : expr_of c.args.expr ≡ expr c.args.expr.span (conditional (arms_of c.in-If.arms) (else_of (option_map exprs_of c.in-If.otherwise))) = search (rules, syntax_lemmas) in
    (omega (arith, c.decreases, ap expr_size is), tt)

pub node-negation-requires : goal.node-negation-requires
node-negation-requires t c =
    let is : expr_of c.args.expr ≡ expr c.args.expr.span (negation (expr_of c.in-Not.part.value)) = search (rules, syntax_lemmas) in
    (omega (arith, c.decreases, ap expr_size is), tt)

pub node-binary-requires : goal.node-binary-requires
node-binary-requires t c =
    let is : expr_of c.args.expr ≡ expr c.args.expr.span (binary c.in-Binary.op (expr_of c.in-Binary.left.value) (expr_of c.in-Binary.right.value)) = search (rules, syntax_lemmas) in
    (omega (arith, c.decreases, ap expr_size is), tt)

pub node-assign-requires : goal.node-assign-requires
node-assign-requires t c =
    let is : expr_of c.args.expr ≡ expr c.args.expr.span (assign c.in-Assign.target (expr_of c.in-Assign.part.value)) = search (rules, syntax_lemmas) in
    (omega (arith, c.decreases, ap expr_size is), tt)

pub node-merge-requires : goal.node-merge-requires
node-merge-requires t c =
    let is : expr_of c.args.expr ≡ expr c.args.expr.span (merge c.in-Merge.target (expr_of c.in-Merge.part.value)) = search (rules, syntax_lemmas) in
    (omega (arith, c.decreases, ap expr_size is), tt)

pub node-both-requires : goal.node-both-requires
node-both-requires t c =
    let is : expr_of c.args.expr ≡ expr c.args.expr.span (both c.in-Both.ok c.in-Both.err (expr_of c.in-Both.part.value)) = search (rules, syntax_lemmas) in
    (omega (arith, c.decreases, ap expr_size is), tt)

pub node-give_back-requires : goal.node-give_back-requires
node-give_back-requires t c =
    let is : expr_of c.args.expr ≡ expr c.args.expr.span (return_of (expr_of c.in-Return.part.value)) = search (rules, syntax_lemmas) in
    (omega (arith, c.decreases, ap expr_size is), tt)

pub node-abort-requires : goal.node-abort-requires
node-abort-requires t c =
    let is : expr_of c.args.expr ≡ expr c.args.expr.span (abort_with (message_of (option_map (λ part. expr_of part.value) c.in-Abort.message))) = search (rules, syntax_lemmas) in
    (omega (arith, c.decreases, ap expr_size is), tt)

pub node-node-requires : goal.node-node-requires
node-node-requires t c =
    let at_box : expr_of c.args.expr ≡ expr c.args.expr.span (group (expr_of c.in-Group.part.value)) = search (rules, syntax_lemmas) in
    let same = ap (λ x. expr_size (expr_of x)) c.into_inner.ensures in
    (omega (arith, c.decreases, ap expr_size at_box, same), tt)

pub node-call-requires : goal.node-call-requires
node-call-requires t c =
    let at_box : expr_of c.args.expr ≡ expr c.args.expr.span (call_of c.in-Call.call.value) = search (rules, syntax_lemmas) in
    let same = ap (λ x. form_size (call_of x)) c.into_inner-in-Call.ensures in
    (omega (arith, c.decreases, ap expr_size at_box, same), tt)

-- ---- a part is no larger than what is left

pub items-node-requires : goal.items-node-requires
items-node-requires t c =
    let fewer = c.loop-item.invariant.partway.fewer in
    let size = ap (λ es. exprs_size (exprs_view es)) c.in-Some.ensures.steps.0 in
    (omega (arith, c.decreases, fewer, size), tt)

pub object-node-requires : goal.object-node-requires
object-node-requires t c =
    let fewer = c.loop-name.invariant.partway.fewer in
    let size = ap (λ ps. pairs_size (pairs_view ps)) c.in-Some.ensures.steps.0 in
    (omega (arith, c.decreases, fewer, size), tt)

pub args-node-requires : goal.args-node-requires
args-node-requires t c =
    let fewer = c.loop-arg.invariant.partway.fewer in
    let size = ap (λ gs. args_size (args_view gs)) c.in-Some.ensures.steps.0 in
    let same = ap expr_size c.value_of.ensures in
    (omega (arith, c.decreases, fewer, size, same), tt)

pub arms-node-requires : goal.arms-node-requires
arms-node-requires t c =
    let fewer = c.loop-arm.invariant.partway.fewer in
    let size = ap (λ gs. arms_size (syntax_arms_view gs)) c.in-Some.ensures.steps.0 in
    let same = ap expr_size (predicate_seen c.in-Some.arm) in
    (omega (arith, c.decreases, fewer, size, same), tt)

pub arms-items-requires : goal.arms-items-requires
arms-items-requires t c =
    let fewer = c.loop-arm.invariant.partway.fewer in
    let size = ap (λ gs. arms_size (syntax_arms_view gs)) c.in-Some.ensures.steps.0 in
    let same = ap exprs_size (body_seen c.in-Some.arm) in
    (omega (arith, c.decreases, fewer, size, same), tt)

pub call-iteration-requires : goal.call-iteration-requires
call-iteration-requires t c = (omega (arith, c.decreases), λ names begins. rw c.in-Some.is at (c.in_ok-function.ensures.so names begins))

pub call-plain_call-requires : goal.call-plain_call-requires
call-plain_call-requires t c = (omega (arith, c.decreases), λ names begins. rw c.in-None.is at (c.in_ok-function.ensures.so names begins))

pub iteration-args-requires : goal.iteration-args-requires
iteration-args-requires t c = (omega (arith, c.decreases, ap form_size (call_seen c.args.call)), tt)

pub iteration-body-requires : goal.iteration-body-requires
iteration-body-requires t c = (omega (arith, c.decreases, ap form_size (call_seen c.args.call)), tt)

pub body-items-requires : goal.body-items-requires
body-items-requires t c =
    let is = ap (λ o. closure_in (option_map closure_of o)) c.in-Some.is ∙ closure_seen c.in-Some.closure in
    (omega (arith, c.decreases, ap closure_size is), tt)

pub plain_call-args-requires : goal.plain_call-args-requires
plain_call-args-requires t c = (omega (arith, c.decreases, ap form_size (call_seen c.args.call)), tt)

-- ---- parts

pub query-returns : goal.query-returns
query-returns t c =
    let is : linked_of c.of.result ≡ linked.query (linked_of c.in_ok-part.part.value) c.args.path = search (rules, the_lemmas) in
    form_made (query (expr_of c.args.part.value) c.args.path) _ _ is (λ names part. a_query part) c.in_ok-part.ensures

pub negation-returns : goal.negation-returns
negation-returns t c =
    let is : linked_of c.of.result ≡ linked.negation (linked_of c.in_ok-part.part.value) = search (rules, the_lemmas) in
    form_made (negation (expr_of c.args.part.value)) _ _ is (λ names part. a_negation part) c.in_ok-part.ensures

pub give_back-returns : goal.give_back-returns
give_back-returns t c =
    let is : linked_of c.of.result ≡ linked.return_of (linked_of c.in_ok-part.part.value) = search (rules, the_lemmas) in
    form_made (return_of (expr_of c.args.part.value)) _ _ is (λ names part. a_return part) c.in_ok-part.ensures

pub binary-returns : goal.binary-returns
binary-returns t c =
    let is : linked_of c.of.result ≡ linked.binary c.args.op (linked_of c.in_ok-left.left.value) (linked_of c.in_ok-right.right.value) = search (rules, the_lemmas) in
    form_made (binary c.args.op (expr_of c.args.left.value) (expr_of c.args.right.value)) _ _ is (λ names sides. a_binary sides.0 sides.1) (links_then c.in_ok-left.ensures c.in_ok-right.ensures)

pub array-returns : goal.array-returns
array-returns t c =
    let is : linked_of c.of.result ≡ linked.array (parts_view c.in_ok-nodes.nodes.items) = search (rules, the_lemmas) in
    form_made (array (exprs_of c.args.parts)) _ _ is (λ names parts. an_array parts) c.in_ok-nodes.ensures

pub block-returns : goal.block-returns
block-returns t c =
    let is : linked_of c.of.result ≡ linked.block (parts_view c.in_ok-nodes.nodes.items) = search (rules, the_lemmas) in
    form_made (block (exprs_of c.args.items)) _ _ is (λ names items. a_block items) c.in_ok-nodes.ensures

pub conditional-returns : goal.conditional-returns
conditional-returns t c =
    let is : linked_of c.of.result ≡ linked.conditional (arms_view c.in_ok-arms.arms.items) (linked_else (option_map (λ nodes. map linked_of nodes.items) c.in_ok-otherwise.otherwise)) = search (rules, the_lemmas) in
    form_made (conditional (arms_of c.args.arms) (else_of (option_map exprs_of c.args.otherwise))) _ _ is (λ names both. a_conditional both.0 both.1) (links_then c.in_ok-arms.ensures c.in_ok-otherwise.ensures)

pub assign-returns : goal.assign-returns
assign-returns t c =
    let is : linked_of c.of.result ≡ linked.assign c.in_ok-target.target (linked_of c.in_ok-part.part.value) = search (rules, the_lemmas) in
    form_made (assign c.args.target (expr_of c.args.part.value)) _ _ is (λ names all. an_assignment all.1 all.0) (links_and_numbers c.in_ok-part.ensures c.in_ok-target.ensures)

pub merge-returns : goal.merge-returns
merge-returns t c =
    let is : linked_of c.of.result ≡ linked.merge c.in_ok-target.target (linked_of c.in_ok-part.part.value) = search (rules, the_lemmas) in
    form_made (merge c.args.target (expr_of c.args.part.value)) _ _ is (λ names all. a_merge all.1 all.0) (links_and_numbers c.in_ok-part.ensures c.in_ok-target.ensures)

pub both-returns : goal.both-returns
both-returns t c =
    let node = linked_of c.in_ok-part.part.value in
    let is : linked_of c.of.result ≡ linked.both c.in_ok-ok.ok c.in_ok-err.err c.tag-tag.result node = search (rules, the_lemmas) in
    let so = is ∙ ap (λ tag. linked.both c.in_ok-ok.ok c.in_ok-err.err tag node) c.tag-tag.ensures.first in
    form_made (both c.args.ok c.args.err (expr_of c.args.part.value)) _ _ so (λ names all. an_error_assignment all.0.1 all.1 all.0.0)
    (links_behind_tag (same_names c.args.self.now c.tag-tag.new.self c.tag-tag.ensures.names) c.tag-tag.ensures.others (links_and_numbers (links_and_numbers c.in_ok-part.ensures c.in_ok-ok.ensures) c.in_ok-err.ensures))

pub boxed-returns : goal.boxed-returns
boxed-returns t c =
    let node = linked_of c.in_ok-node.node in
    let links = subst (λ e. Links c.args.self.now c.node.new.self (in_expr (expr_of e)) (λ names tags. IsLinked names tags (expr_of e) node)) c.into_inner.ensures c.in_ok-node.ensures in
    subst (λ n. Links c.args.self.now c.node.new.self (in_expr (expr_of c.args.part.value)) (λ names tags. IsLinked names tags (expr_of c.args.part.value) (linked_of n))) (sym c.in_ok-new.ensures.ok) links

pub abort-returns-in_ok-part-in-Some : goal.abort-returns-in_ok-part-in-Some
abort-returns-in_ok-part-in-Some t c =
    let part = linked_of c.in_ok-part-in-Some.part.value in
    let is : linked_of c.of.result ≡ linked.abort_with (linked.message part) = search (rules, the_lemmas) in
    rw c.in-Some.is (form_made (abort_with (message (expr_of c.in-Some.part.value))) _ _ is (λ names one. an_abort one) c.in_ok-part-in-Some.ensures)

pub abort-returns-in-None : goal.abort-returns-in-None
abort-returns-in-None t c =
    let is : linked_of c.of-in-None.result ≡ linked.abort_with linked.no_message = search (rules, the_lemmas) in
    rw c.in-None.is (form_made (abort_with no_message) _ _ is (λ names none. a_bare_abort) (links_itself c.args.self.now {P = λ names tags. ⊤} (λ names. tt)))

pub call-returns-in-Some : goal.call-returns-in-Some
call-returns-in-Some t c = IfOk-weaker c.iteration.result _ _ (λ node links. links_weaker (λ names both. both.1) (numbers_and_links c.in_ok-function.ensures links)) c.iteration.ensures

pub call-returns-in-None : goal.call-returns-in-None
call-returns-in-None t c = IfOk-weaker c.plain_call.result _ _ (λ node links. links_weaker (λ names both. both.1) (numbers_and_links c.in_ok-function.ensures links)) c.plain_call.ensures

pub iteration-returns : goal.iteration-returns
iteration-returns t c =
    let body = parts_view c.in_ok-body.body.items in
    let is : linked_of c.of.result ≡ linked.iterate c.args.function (out-Call c.args.call).bang (parts_view c.in_ok-args.args.items) body = search (rules, the_lemmas) in
    iteration_made c.args.call _ c.args.function (parts_view c.in_ok-args.args.items) body is c.requires (links_then c.in_ok-args.ensures c.in_ok-body.ensures)

pub body-returns-in-Some : goal.body-returns-in-Some
body-returns-in-Some t c = rw c.in-Some.is (IfOk-weaker c.items.result _ _ (λ nodes links. body_linked c.in-Some.closure (parts_view nodes.items) links) c.items.ensures)

pub body-returns-in-None : goal.body-returns-in-None
body-returns-in-None t c = rw c.in-None.is (links_itself c.args.self.now (λ names. tt))

pub plain_call-callee-requires : goal.plain_call-callee-requires
plain_call-callee-requires t c = c.requires

pub plain_call-returns : goal.plain_call-returns
plain_call-returns t c =
    let is : linked_of c.of.result ≡ linked.call c.in_ok-callee.callee (out-Call c.args.call).bang (parts_view c.in_ok-args.args.items) = search (rules, the_lemmas) in
    call_made c.args.call _ c.in_ok-callee.callee (parts_view c.in_ok-args.args.items) is (numbers_and_links c.in_ok-callee.ensures (links_then c.in_ok-args.ensures c.pass_over.ensures))

pub otherwise-returns-in_ok-nodes-in-Some : goal.otherwise-returns-in_ok-nodes-in-Some
otherwise-returns-in_ok-nodes-in-Some t c = rw c.in-Some.is (links_weaker (λ names items. a_last items) c.in_ok-nodes-in-Some.ensures)

pub otherwise-returns-in-None : goal.otherwise-returns-in-None
otherwise-returns-in-None t c = rw c.in-None.is (links_itself c.args.self.now (λ names. no_last))

-- ---- loops

pub items-loop-item-init : goal.items-loop-item-init
items-loop-item-init t c =
    let it = c.into_iter-item-iterator in
    record {
      partway = items_start c.args.self.now (exprs_of c.args.items) _ _ (ap exprs_view it.ensures.into_iter_gives.0 ∙ c.into_vec-items.ensures) (ap (map linked_of) c.in_ok-nodes.ensures.items);
      as_many = search rules;
    }

pub items-loop-item-preserved : goal.items-loop-item-preserved
items-loop-item-preserved t c =
    let l = c.loop-item in
    let left = into_iter_items c.next.new.self in
    let steps = c.in-Some.ensures.steps in
    record {
      partway = items_next c.args.self.now l.self c.node.new.self (exprs_of c.args.items) _ (exprs_view left) (expr_of c.in-Some.item) (map linked_of l.nodes.items) _ (linked_of c.in_ok-node.node) (ap exprs_view steps.0)
          (nodes_pushed l.nodes.items c.push.new.self.items c.in_ok-node.node c.in_ok-push.ensures.items) l.invariant.partway c.in_ok-node.ensures;
      as_many = one_gone (into_iter_items l.item-iterator) left c.in-Some.item _ _ steps.0 steps.1 l.invariant.as_many;
    }

pub items-returns : goal.items-returns
items-returns t c =
    let l = c.loop-item in
    let none = none_left (into_iter_items l.item-iterator) _ l.invariant.as_many c.in-None.ensures.steps.0 in
    items_end c.args.self.now l.self (exprs_of c.args.items) _ (map linked_of l.nodes.items) (ap exprs_view none) l.invariant.partway

pub object-loop-name-init : goal.object-loop-name-init
object-loop-name-init t c =
    let it = c.into_iter-name-iterator in
    record {
      partway = object_start c.args.self.now (pairs_of c.args.pairs) _ _ (ap pairs_view it.ensures.into_iter_gives.0 ∙ c.into_vec-pairs.ensures) (ap (map pair_in) c.in_ok-nodes.ensures.items);
      as_many = search rules;
    }

pub object-loop-name-preserved : goal.object-loop-name-preserved
object-loop-name-preserved t c =
    let l = c.loop-name in
    let left = into_iter_items c.next.new.self in
    let steps = c.in-Some.ensures.steps in
    let node = linked_of c.in_ok-node.node in
    record {
      partway = object_next c.args.self.now l.self c.node.new.self (pairs_of c.args.pairs) _ (pairs_view left) c.in-Some.name (expr_of c.in-Some.part) (map pair_in l.nodes.items) _ node (ap pairs_view steps.0)
          (pairs_pushed l.nodes.items c.push.new.self.items c.in-Some.name c.in_ok-node.node c.in_ok-push.ensures.items) l.invariant.partway c.in_ok-node.ensures;
      as_many = one_gone (into_iter_items l.name-iterator) left (c.in-Some.name, c.in-Some.part) _ _ steps.0 steps.1 l.invariant.as_many;
    }

pub object-returns : goal.object-returns
object-returns t c =
    let l = c.loop-name in
    let none = none_left (into_iter_items l.name-iterator) _ l.invariant.as_many c.in-None.ensures.steps.0 in
    let is : linked_of c.of.result ≡ linked.object (linked_pairs l.nodes.items) = search (rules, the_lemmas) in
    form_made (object (pairs_of c.args.pairs)) _ _ is (λ names pairs. an_object pairs) (object_end c.args.self.now l.self (pairs_of c.args.pairs) _ (map pair_in l.nodes.items) (ap pairs_view none) l.invariant.partway)

pub args-loop-arg-init : goal.args-loop-arg-init
args-loop-arg-init t c =
    let it = c.into_iter-arg-iterator in
    record {
      partway = args_start c.args.self.now (args_of c.args.args) _ _ (ap args_view it.ensures.into_iter_gives.0 ∙ c.into_vec-args.ensures) (ap (map linked_of) c.in_ok-nodes.ensures.items);
      as_many = search rules;
    }

pub args-loop-arg-preserved : goal.args-loop-arg-preserved
args-loop-arg-preserved t c =
    let l = c.loop-arg in
    let left = into_iter_items c.next.new.self in
    let steps = c.in-Some.ensures.steps in
    let node = linked_of c.in_ok-node.node in
    record {
      partway = args_next c.args.self.now l.self c.node.new.self (args_of c.args.args) _ (args_view left) _ _ _ (map linked_of l.nodes.items) _ node (ap args_view steps.0)
          (nodes_pushed l.nodes.items c.push.new.self.items c.in_ok-node.node c.in_ok-push.ensures.items) l.invariant.partway
          (subst (λ e. Links l.self c.node.new.self (in_expr e) (λ names tags. IsLinked names tags e node)) c.value_of.ensures c.in_ok-node.ensures);
      as_many = one_gone (into_iter_items l.arg-iterator) left c.in-Some.arg _ _ steps.0 steps.1 l.invariant.as_many;
    }

pub args-returns : goal.args-returns
args-returns t c =
    let l = c.loop-arg in
    let none = none_left (into_iter_items l.arg-iterator) _ l.invariant.as_many c.in-None.ensures.steps.0 in
    args_end c.args.self.now l.self (args_of c.args.args) _ (map linked_of l.nodes.items) (ap args_view none) l.invariant.partway

pub arms-loop-arm-init : goal.arms-loop-arm-init
arms-loop-arm-init t c =
    let it = c.into_iter-arm-iterator in
    record {
      partway = arms_start c.args.self.now (arms_of c.args.arms) _ _ (ap syntax_arms_view it.ensures.into_iter_gives.0 ∙ c.into_vec-arms.ensures) (ap (map arm_of) c.in_ok-linked.ensures.items);
      as_many = search rules;
    }

pub arms-loop-arm-preserved : goal.arms-loop-arm-preserved
arms-loop-arm-preserved t c =
    let l = c.loop-arm in
    let left = into_iter_items c.next.new.self in
    let steps = c.in-Some.ensures.steps in
    let a = c.in-Some.arm in
    let predicate = linked_of c.in_ok-predicate.predicate in
    let body = parts_view c.in_ok-body.body.items in
    record {
      partway = arms_next c.args.self.now l.self c.node.new.self c.items.new.self (arms_of c.args.arms) _ (syntax_arms_view left) _ _ (map arm_of l.linked.items) _ _ predicate body (ap syntax_arms_view steps.0)
          (arms_pushed l.linked.items c.push.new.self.items _ c.in_ok-push.ensures.items) (search (rules, the_lemmas)) l.invariant.partway
          (subst (λ e. Links l.self c.node.new.self (in_expr e) (λ names tags. IsLinked names tags e predicate)) (sym (predicate_seen a)) c.in_ok-predicate.ensures)
          (subst (λ es. Links c.node.new.self c.items.new.self (in_exprs es) (λ names tags. AreLinked names tags es body)) (sym (body_seen a)) c.in_ok-body.ensures);
      as_many = one_gone (into_iter_items l.arm-iterator) left a _ _ steps.0 steps.1 l.invariant.as_many;
    }

pub arms-returns : goal.arms-returns
arms-returns t c =
    let l = c.loop-arm in
    let none = none_left (into_iter_items l.arm-iterator) _ l.invariant.as_many c.in-None.ensures.steps.0 in
    arms_end c.args.self.now l.self (arms_of c.args.arms) _ (map arm_of l.linked.items) (ap syntax_arms_view none) l.invariant.partway

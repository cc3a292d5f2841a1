-- A node as plain data: an expression whose variables are numbers, whose calls are looked up and
-- bound, and whose error assignments have the tags of their empty values.
use Rattle.std.specs.Prelude.{ℕ, Bool, List, [], ◌∷◌, map, Option, Some, None, option_map, Vec}
use Rattle.std.specs.declared.alloc.Global.{Global}
use Rattle.std.specs.declared.boxed.Box.{Box}
use Rattle.vrl_value.specs.Tree.{Tree}
use Rattle.vrl_value.specs.View.{tree_of}
use Rattle.vrl_value.specs.declared.value.Tag.{Tag}
use Rattle.vrl_path.specs.declared.path.Step.{Step}
use Rattle.vrl_syntax.specs.declared.root.Op.{Op}
use Rattle.vrl_store.specs.declared.target_path.TargetPath.{TargetPath}
use Rattle.vrl_resolve.specs.declared.node.Callee.{Callee}
use Rattle.vrl_resolve.specs.declared.node.Node.{Node}
use Rattle.vrl_resolve.specs.declared.node.Arm.{Arm}
use Rattle.vrl_resolve.specs.declared.node.Call.{Call}
use Rattle.vrl_resolve.specs.declared.node.Form.{Form}
use Rattle.vrl_resolve.specs.declared.node.Iteration.{Iteration}
use Rattle.vrl_resolve.specs.declared.node.Loop.{Loop}
use Rattle.vrl_resolve.specs.declared.node.Form.TheFolds.{fold-Form, fold-Arm, fold-Call, fold-Iteration, fold-Node}
use Rattle.vrl_resolve.specs.declared.node.Form.TheOpen.{Form-F, Arm-F, Call-F, Iteration-F, Node-F}

mutual
  pub data Linked : Type 0 where
    literal : Tree → Linked
    array : Parts → Linked
    object : Pairs → Linked
    read : TargetPath → Linked
    query : Linked → List Step → Linked
    block : Parts → Linked
    conditional : Arms → Else → Linked
    negation : Linked → Linked
    binary : Op → Linked → Linked → Linked
    assign : Option TargetPath → Linked → Linked
    merge : Option TargetPath → Linked → Linked
    both : Option TargetPath → Option TargetPath → Tag → Linked → Linked
    call : Callee → Bool → Parts → Linked
    -- a call that runs a closure, with the closure's items behind its arguments
    iterate : Loop → Bool → Parts → Parts → Linked
    return_of : Linked → Linked
    abort_with : Message → Linked

  pub data Parts : Type 0 where
    no_parts : Parts
    parts : Linked → Parts → Parts

  pub data Pairs : Type 0 where
    no_pairs : Pairs
    pair : List ℕ → Linked → Pairs → Pairs

  pub data Arms : Type 0 where
    no_arms : Arms
    arm : Linked → Parts → Arms → Arms

  pub data Else : Type 0 where
    no_else : Else
    else_block : Parts → Else

  pub data Message : Type 0 where
    no_message : Message
    message : Linked → Message

-- ---- of a node in memory

abbrev pub ArmTree : Type 0
ArmTree = Linked × Parts

abbrev pub parts_of_list : List Linked → Parts
parts_of_list [] = no_parts
parts_of_list (n ∷ ns) = parts n (parts_of_list ns)

abbrev pub pairs_of_list : List (List ℕ × Linked) → Pairs
pairs_of_list [] = no_pairs
pairs_of_list (p ∷ ps) = pair p.0 p.1 (pairs_of_list ps)

abbrev pub arms_of_list : List ArmTree → Arms
arms_of_list [] = no_arms
arms_of_list (a ∷ as_) = arm a.0 a.1 (arms_of_list as_)

abbrev pub else_of : Option (List Linked) → Else
else_of None = no_else
else_of (Some ns) = else_block (parts_of_list ns)

abbrev pub message_of : Option Linked → Message
message_of None = no_message
message_of (Some n) = message n

-- one level, with what stands inside already seen as data
abbrev pub form_step : Form-F Linked ArmTree Linked Linked Linked → Linked
form_step (Form-F.Literal v) = literal (tree_of v)
form_step (Form-F.Array ns) = array (parts_of_list ns.items)
form_step (Form-F.Object ps) = object (pairs_of_list ps.items)
form_step (Form-F.Read place) = read place
form_step (Form-F.Query n path) = query n.value path
form_step (Form-F.Block ns) = block (parts_of_list ns.items)
form_step (Form-F.If as_ otherwise) =
    conditional (arms_of_list as_.items) (else_of (option_map (λ ns. ns.items) otherwise))
form_step (Form-F.Not n) = negation n.value
form_step (Form-F.Binary o l r) = binary o l.value r.value
form_step (Form-F.Assign t n) = assign t n.value
form_step (Form-F.Merge t n) = merge t n.value
form_step (Form-F.Both t u tag n) = both t u tag n.value
form_step (Form-F.Call c) = c.value
form_step (Form-F.Iteration i) = i.value
form_step (Form-F.Return n) = return_of n.value
form_step (Form-F.Abort n) = abort_with (message_of (option_map (λ b. b.value) n))

abbrev pub arm_step : Arm-F Linked ArmTree Linked Linked Linked → ArmTree
arm_step a = (a.predicate, parts_of_list a.body.items)

abbrev pub call_step : Call-F Linked ArmTree Linked Linked Linked → Linked
call_step c = call c.callee c.bang (parts_of_list c.args.items)

abbrev pub iteration_step : Iteration-F Linked ArmTree Linked Linked Linked → Linked
iteration_step i = iterate i.function i.bang (parts_of_list i.args.items) (parts_of_list i.body.items)

abbrev pub node_step : Node-F Linked ArmTree Linked Linked Linked → Linked
node_step n = n.form

abbrev pub linked_of : Node → Linked
linked_of = fold-Node Linked ArmTree Linked Linked Linked form_step arm_step call_step iteration_step node_step

abbrev pub form_of : Form → Linked
form_of = fold-Form Linked ArmTree Linked Linked Linked form_step arm_step call_step iteration_step node_step

abbrev pub arm_of : Arm → ArmTree
arm_of = fold-Arm Linked ArmTree Linked Linked Linked form_step arm_step call_step iteration_step node_step

abbrev pub call_of : Call → Linked
call_of = fold-Call Linked ArmTree Linked Linked Linked form_step arm_step call_step iteration_step node_step

abbrev pub iteration_of : Iteration → Linked
iteration_of = fold-Iteration Linked ArmTree Linked Linked Linked form_step arm_step call_step iteration_step node_step

-- the same of what a vector holds
abbrev pub parts_view : List Node → Parts
parts_view ns = parts_of_list (map linked_of ns)

abbrev pub pairs_view : List (List ℕ × Node) → Pairs
pairs_view ps = pairs_of_list (map (λ p. (p.0, linked_of p.1)) ps)

abbrev pub arms_view : List Arm → Arms
arms_view as_ = arms_of_list (map arm_of as_)

abbrev pub else_view : Option (Vec Node Global) → Else
else_view otherwise = else_of (option_map (λ ns. map linked_of ns.items) otherwise)

abbrev pub message_view : Option (Box Node Global) → Message
message_view m = message_of (option_map (λ n. linked_of n.value) m)

use Rattle.std.proofs.Common.{◌≡◌, rules, subst, sym}
use Rattle.vrl_value.specs.View.{tree_of}
use Rattle.vrl_syntax.specs.Tree.{literal}
use Rattle.vrl_resolve.specs.Linked as linked
use Rattle.vrl_resolve.specs.Linked.{linked_of}
use Rattle.vrl_resolve.specs.Linking.{a_literal, IsLinkedForm}
use Rattle.vrl_resolve.specs.declared.node.Form.{the_lemmas}
use Rattle.vrl_resolve.proofs.Links.{links_itself}
use Rattle.vrl_resolve.proofs.link.Linker.literal.Goals as goal

pub returns : goal.returns
returns c =
    let is : linked_of c.of.result ≡ linked.literal (tree_of c.args.value) = search (rules, the_lemmas) in
    links_itself c.args.self.now (λ names. subst (IsLinkedForm names c.args.self.now.tags.left.now (literal (tree_of c.args.value))) (sym is) (a_literal c.depth-depth.ensures.ordered))

use Rattle.std.proofs.Common.{◌≡◌, rules, subst, sym}
use Rattle.vrl_syntax.specs.Tree.{read}
use Rattle.vrl_resolve.specs.Linked as linked
use Rattle.vrl_resolve.specs.Linked.{linked_of}
use Rattle.vrl_resolve.specs.Linking.{a_read, IsLinkedForm}
use Rattle.vrl_resolve.specs.declared.node.Form.{the_lemmas}
use Rattle.vrl_resolve.proofs.Links.{links_numbers, links_weaker}
use Rattle.vrl_resolve.proofs.link.Linker.read.Goals as goal

pub returns : goal.returns
returns c =
    let is : linked_of c.of.result ≡ linked.read c.in_ok-target.target = search (rules, the_lemmas) in
    links_weaker (λ names place. subst (IsLinkedForm names c.args.self.now.tags.left.now (read c.args.root c.args.path)) (sym is) (a_read place)) (links_numbers c.in_ok-target.ensures)

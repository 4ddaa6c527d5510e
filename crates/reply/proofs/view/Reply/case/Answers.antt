use Rattle.std.proofs.Common.{refl, sym, ap, ◌∙◌, subst}
use Rattle.std.proofs.lemmas.List.{take_rest}
use Rattle.std.specs.Option.{IsSome, unwrap_or}
use Rattle.resp.specs.declared.case.Case.TheVariants.{Nil}
use Rattle.resp.specs.Cases.{case_of, Cased}
use Rattle.resp.specs.Node.{erase}
use Rattle.reply.specs.View.{node_of}
use Rattle.reply.specs.Tree.{wholly}
use Rattle.reply.proofs.Views.{pair_case, single}
use Rattle.reply.proofs.Opening.{case_found}
use Rattle.reply.proofs.view.Reply.case.Goals as goal

pub returns-then-self : goal.returns-then-self
unfolding node_of wholly
returns-then-self c = pair_case c.args.self.bytes.now c.args.self.pair c.args.self.at c.if-self.true c.args.self.whole

pub unwrap-requires : goal.unwrap-requires
unfolding node_of wholly
unwrap-requires c =
    let s = c.args.self in
    let bs = s.bytes.now in
    let one = single bs s.pair s.at c.if-self.false s.whole in
    subst IsSome (sym (case_found bs s.at one.0 c.case_of.result (subst (λ l. Cased l c.case_of.result) (take_rest bs s.at) c.case_of.ensures.tree))) refl

pub returns : goal.returns
unfolding node_of wholly
returns c =
    let s = c.args.self in
    let bs = s.bytes.now in
    let one = single bs s.pair s.at c.if-self.false s.whole in
    let is = case_found bs s.at one.0 c.case_of.result (subst (λ l. Cased l c.case_of.result) (take_rest bs s.at) c.case_of.ensures.tree) in
    ap (λ o. unwrap_or o Nil) (sym c.unwrap.ensures ∙ is) ∙ ap (λ n. case_of (erase n)) one.1
